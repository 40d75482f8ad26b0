-- `check_window::unused` meets its contract: an OR is 0 exactly when its parts are. Assumes nothing.
use Rattle.std.proofs.Common.{◌&&◌, ◌∙◌}
use Rattle.facts.specs.Words.{unused_zero}
use Rattle.facts.specs.Bits.{or_zero}
use Rattle.check_window.proofs.unused.Goals as goal

pub returns : goal.returns
unfolding unused_zero
returns c =
    let t = c.tails-t in
    let u = c.any_bits-u in
    or_zero t.result u.result ∙ (λ i. t.ensures i && u.ensures i)
