-- `prefix_probe::walk_up` meets its contract. Assumes nothing.
use mathlib.Core.Path.{◌≡◌}
use Rattle.model.specs.Layout.{window_of}
use Rattle.prefix_probe.specs.Walks.{Walking, Searching, Found}
use Rattle.prefix_probe.proofs.walk_up.Given as goal

abbrev pub invariant-loop-i : goal.invariant-loop-i
invariant-loop-i l = Searching l.expected l.n l.limit l.i l.at l.marks (window_of l.words).queue.pending × Found l.i l.at (window_of l.words).queue.pending

abbrev pub invariant-walk : goal.invariant-walk
invariant-walk l = Walking l.limit l.first (window_of l.words).queue.pending l.n l.places l.marks l.expected × (l.n ≡ l.turn)
