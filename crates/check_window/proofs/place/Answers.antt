-- `check_window::place` meets its contract: an OR is 0 exactly when its parts are. Assumes nothing.
use Rattle.std.proofs.Common.{◌+◌, get_or}
use Rattle.facts.specs.Flags.{fold}
use Rattle.facts.specs.Bits.{or_zero8}
use Rattle.facts.specs.Words.{blanks, blank_at, owner, time, height, estimate}
use Rattle.check_window.proofs.place.Goals as goal

pub returns : goal.returns
unfolding blank_at blanks fold
returns c =
    let at = c.args in
    let w = at.w.now in
    let i = at.i in
    or_zero8 (get_or w i 0) (get_or w (256 + i) 0) (get_or w (512 + i) 0) (get_or w (768 + i) 0) (owner w i) (time w i) (height w i) (estimate w i)
