-- `plan_look::Look::take_at` meets its contract. Assumes nothing.
use Rattle.std.proofs.Common.{refl, sym, subst}
use Rattle.plan_look.specs.declared.Look.{Look}
use Rattle.plan_look.specs.Plan.{TakenAt}
use Rattle.plan_look.proofs.Look.take_at.Goals as goal

pub returns-in-PassBy : goal.returns-in-PassBy
returns-in-PassBy c =
    let a = c.args in
    subst (λ (k : Look). TakenAt k a.n a.h a.height a.hashes.now a.heights.now a.hashes.now a.heights.now a.index.now) (sym c.in-PassBy.is) (refl, (refl, c.requires.0))

pub returns-in-NoteRefused : goal.returns-in-NoteRefused
returns-in-NoteRefused c =
    let a = c.args in
    subst (λ (k : Look). TakenAt k a.n a.h a.height a.hashes.now a.heights.now a.hashes.now a.heights.now a.index.now) (sym c.in-NoteRefused.is) (refl, (refl, c.requires.0))

pub returns-in-Take : goal.returns-in-Take
returns-in-Take c =
    let a = c.args in
    let p = c.put_ask in
    subst (λ (k : Look). TakenAt k a.n a.h a.height a.hashes.now a.heights.now p.new.hashes p.new.heights p.new.index) (sym c.in-Take.is) p.ensures
