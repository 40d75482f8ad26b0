-- `deliveries::move_mean` meets its contract. Assumes nothing.
use mathlib.Core.Path.{ap, ◌∙◌}
use Prim.Native.Nat.{ℕ}
use Rattle.model.specs.Calls.{next_mean}
use Rattle.model.specs.Layout.{window_of}
use Rattle.model.specs.Window.{with_mean}
use Rattle.rules.specs.Rows.{by_value}
use Rattle.deliveries.proofs.move_mean.Goals as goal

pub returns : goal.returns
returns c =
    let a = c.args in
    by_value (λ n. with_mean n (window_of a.words.now)) (c.mean_after-n.ensures ∙ ap (λ (m : ℕ). next_mean m a.bytes) c.get_mean-m.ensures) c.set_mean.ensures
