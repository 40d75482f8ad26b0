-- `probe_plan::has_another` meets its contract. Assumes nothing.
use mathlib.Core.Path.{◌≡◌}
use mathlib.Core.Bool.{not}
use lib.ListN.{drop}
use lib.Dec.{eqb}
use Rattle.model.specs.Lists.{any}
use Rattle.model.specs.Layout.{window_of}
use Rattle.probe_plan.proofs.has_another.Given as goal

abbrev pub invariant-loop-i : goal.invariant-loop-i
invariant-loop-i l = any (λ e. not (eqb e.owner l.owner)) (window_of l.words).queue.pending ≡ any (λ e. not (eqb e.owner l.owner)) (drop l.i (window_of l.words).queue.pending)
