-- `pace::front_mean` meets its contract. Assumes nothing.
use mathlib.Core.Path.{ap, sym, ◌∙◌}
use native.Mathlib.Omega.{arith}
use Rattle.model.specs.Pace.{front_mean_by}
use Rattle.laws.specs.PaceKept.{sample_le}
use Rattle.pace.specs.Stored.{front_mean_some}
use Rattle.pace.proofs.front_mean.Goals as goal

pub front_mean_by-requires : goal.front_mean_by-requires
front_mean_by-requires c = omega (arith, c.sample_ms.ensures, sample_le _ _ c.requires.0 c.if-advance-eq0.false)

pub returns : goal.returns
returns c =
    let start = c in
    c.front_mean_by.ensures ∙ ap (front_mean_by start.args.mean) c.sample_ms.ensures ∙ sym (front_mean_some _ _ _ c.if-advance-eq0.false)
