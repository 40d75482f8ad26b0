-- `plan_scan::scan_of` meets its contract. Assumes nothing.
use mathlib.Core.Path.{ap, ◌∙◌}
use Prim.Native.Nat.{ℕ, ◌/◌}
use native.Mathlib.Omega.{arith}
use Rattle.laws.specs.Numbers.{lesser_le_first}
use Rattle.model.specs.Numbers.{lesser, greater}
use Rattle.plan_scan.proofs.scan_of.Goals as goal

pub returns : goal.returns
returns c =
    let a = c.args in
    let f = c.get_frontier-frontier.ensures in
    let m = c.get_mean-mean.ensures in (
      (λ i. record {
        height = (c.greater-height.ensures ∙ ap (λ (x : ℕ). greater x a.floor) (c.greater-above.ensures ∙ ap (greater a.start) f)) i;
        tip = c.lesser-top.ensures i;
        limit = (c.lesser-limit.ensures ∙ (λ j. lesser (c.saturating_sub-room.ensures j) (a.bytes / m j))) i;
        next = f i;
      }),
      λ h. omega (arith, c.lesser-top.ensures, lesser_le_first a.tip a.best, h),
    )
