pub mod OnNumbers
