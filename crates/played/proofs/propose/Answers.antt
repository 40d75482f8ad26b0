-- `played::propose` meets its contract. Assumes nothing.
use mathlib.Core.Path.{◌∙◌, ap, refl, sym}
use lib.ListN.{length}
use Rattle.model.specs.Refusals.{changes, plans}
use Rattle.model.specs.Says.{next_request_says}
use Rattle.played.specs.Steps.{kept, lent_at, planning, spoken}
use Rattle.played.specs.Told.{plan_kept, plan_told, turns_proposing}
use Rattle.script.specs.Given.{words_to}
use Rattle.played.proofs.propose.Goals as goal

pub returns : goal.returns
returns c =
    let a = c.args in
    let l = c.next_peer_request-l in
    let s = a.s in
    let tip = sym c.height_of-tip.ensures in
    let words = ap words_to tip ∙ sym c.words_to-n.ensures.0 in
    let blocks = sym c.chain-chain.ensures in
    let n = length a.hashes.now in
    let m = length a.heights.now in
    turns_proposing (planning s a.staged.now n m) _ (λ i. changes (plans s.clock s.peer (lent_at s a.staged.now (tip i) (words i) (blocks i)) n m))
    (kept a.p a.hashes.now a.heights.now a.staged.now) a.b _ _ _ _ (next_request_says l.result.answer) l.result.places l.result.gone _ _ _ l.ensures
    (ap spoken c.planned.ensures ∙ plan_told l.result.answer l.result.gone) c.let_go.ensures refl (c.planned-2.ensures ∙ plan_kept l.result.answer _)
