-- `state_queue::note_start` meets its contract. Assumes nothing.
use native.Mathlib.Omega.{arith}
use mathlib.Core.Path.{refl}
use lib.ListN.{get_or, set}
use Rattle.model.specs.Calls.{started}
use Rattle.model.specs.Seats.{start_noted}
use Rattle.laws.specs.Tables.{with_starts}
use lib.ListN.{length-set}
use Rattle.model.specs.Layout.{window_of}
use Rattle.state_queue.specs.Steps.{seated, started_in}
use Rattle.state_queue.proofs.note_start.Goals as goal

pub returns : goal.returns
unfolding started
returns c =
    let ws = c.args.words.now in
    let whole = c.requires.0 in
    let a = c.args in
    seated ws whole _ (λ t. with_starts (set t.starts a.owner (start_noted a.clock (get_or t.starts a.owner 0))) t) _ _ (omega arith) c.note_start.ensures
    (started_in (window_of ws) a.owner a.clock) (length-set (window_of ws).queue.starts a.owner _) refl
