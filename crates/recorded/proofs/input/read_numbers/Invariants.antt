-- `recorded::input::read_numbers` meets its contract: at the loop's head the numbers of the bytes that are left are still to be put. Assumes nothing.
use Rattle.std.proofs.Common.{◌≡◌, drop}
use Rattle.recorded.specs.Input.{numbers_from, put_at}
use Rattle.recorded.proofs.input.read_numbers.Given as goal

abbrev pub invariant-loop-b : goal.invariant-loop-b
invariant-loop-b l =
    put_at 0 (numbers_from 0 0 l.bytes) l.initial.out ≡ put_at l.n (numbers_from l.begun.left l.begun.value (drop l.b-index l.bytes)) l.out
