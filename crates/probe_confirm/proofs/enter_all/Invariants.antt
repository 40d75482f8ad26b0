-- `probe_confirm::enter_all` meets its contract. Assumes nothing.
use mathlib.Core.Path.{◌≡◌}
use lib.ListN.{length, drop}
use Rattle.model.specs.Layout.{window_of}
use Rattle.laws.specs.Whole.{Whole}
use Rattle.probe_confirm.specs.Confirms.{enters}
use Rattle.probe_confirm.proofs.enter_all.Given as goal

abbrev pub invariant-loop-alternate : goal.invariant-loop-alternate
invariant-loop-alternate l = Whole l.words × ((enters (drop l.alternate-index l.alternates) (window_of l.words) ≡ enters l.alternates (window_of l.initial.words)) × (length l.words ≡ length l.initial.words))
