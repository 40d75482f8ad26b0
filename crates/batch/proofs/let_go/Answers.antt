-- `batch::let_go` meets its contract. Assumes nothing.
use Rattle.batch.specs.Extracts.{went_ranged, kept_ranged, none_reset, batch_holds}
use Rattle.laws.specs.Marks.{extract_by}
use native.Mathlib.Omega.{arith}
use Rattle.batch.proofs.let_go.Goals as goal

-- nothing went
pub returns-then-n-eq0 : goal.returns-then-n-eq0
unfolding extract_by
returns-then-n-eq0 c =
    let a = c.args in
    let p = c.requires in
    let t = c.take_marked-n in
    let z = c.if-n-eq0.true in
    (omega arith, none_reset a.words.now a.marks.now p.1 t.result t.new.gone t.ensures.2 t.new.words t.ensures.1 a.clock (omega (arith, z)), rw (← z) t.ensures.2)

pub reset_gone-requires : goal.reset_gone-requires
unfolding extract_by
reset_gone-requires c =
    let a = c.args in
    let p = c.requires in
    let t = c.take_marked-n in
    let core = t.new.gone in
    (t.ensures.1.whole, kept_ranged a.words.now a.marks.now p.1 t.result core t.ensures.2 t.new.words t.ensures.1, t.ensures.0, p.2, went_ranged a.words.now a.marks.now p.1 t.result core t.ensures.2)

pub returns : goal.returns
unfolding extract_by
returns c =
    let a = c.args in
    let p = c.requires in
    let t = c.take_marked-n in
    (t.ensures.0, batch_holds a.words.now a.marks.now p.1 t.result t.new.gone t.ensures.2 t.new.words t.ensures.1 a.clock c.reset_gone.new.words c.reset_gone.ensures, t.ensures.2)
