-- `seats::note_start` meets its contract. Assumes nothing.
use mathlib.Core.Path.{ap, ◌∙◌}
use Prim.Native.Nat.{ℕ}
use lib.ListN.{set}
use Rattle.model.specs.Seats.{start_noted}
use Rattle.model.specs.Layout.{decode}
use Rattle.laws.specs.Tables.{with_starts}
use Rattle.seats.proofs.note_start.Goals as goal

pub returns : goal.returns
returns c =
    let a = c.args in
    let t = decode a.words.now in
    c.set_start.ensures
    ∙ ap (λ (s : ℕ). with_starts (set t.starts a.seat s) t) (c.noted-s.ensures ∙ ap (start_noted a.clock) c.start_of-start.ensures)
