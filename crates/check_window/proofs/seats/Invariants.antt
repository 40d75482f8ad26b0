-- `check_window::seats` meets its contract: the OR of the seats passed has no top bit exactly when they fit. Assumes nothing.
use Rattle.std.proofs.Common.{◌≡◌, ◌+◌, ◌-◌, ◌^◌, ◌<◌, ◌≤◌, ltb}
use Rattle.facts.specs.Words.{at, clock, latest, most_raced, seat_fits}
use Rattle.facts.specs.Flags.{all_below}
use Rattle.check_window.proofs.seats.Given as goal

abbrev pub invariant-loop-s : goal.invariant-loop-s
invariant-loop-s l = (l.latest ≡ clock l.w + 1) × (l.most ≡ most_raced (at l.w 61)) × (l.most < 2 ^ 63) × (l.s ≤ 256) × (ltb l.acc (2 ^ 63) ≡ all_below l.s (seat_fits l.w))

abbrev pub decreases-loop-s : goal.decreases-loop-s
decreases-loop-s l = 256 - l.s
