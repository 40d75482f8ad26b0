pub mod Lets
pub mod RequestsKept
pub mod RacesKept
pub mod CallsKept
pub mod PlansKept
pub mod Kept
pub mod Batches
