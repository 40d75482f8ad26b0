-- `requests::put_one` meets its contract. Assumes nothing.
use mathlib.Core.Path.{sym, subst}
use Prim.Native.Nat.{ℕ}
use Rattle.model.specs.Layout.{window_of}
use Rattle.records.specs.Places.{Finds}
use Rattle.std.specs.Prelude.{Err}
use Rattle.requests.specs.Puts.{absent_free}
use Rattle.requests.proofs.put_one.Goals as goal

pub put_found-requires : goal.put_found-requires
put_found-requires c =
    let s = c in
    let a = s.args in
    let t = s.requires.1 in
    let l = (window_of a.words.now).queue.pending in
    (s.requires.0, (t, subst (λ (k : ℕ). Finds a.h l (Err k)) (sym c.place_of-at.ensures) (absent_free a.h l c.find-p.result t.rises t.absent c.find-p.ensures)))

pub returns : goal.returns
returns c = c.put_found.ensures
