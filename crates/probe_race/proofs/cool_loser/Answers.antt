-- `probe_race::cool_loser` meets its contract. Assumes nothing.
use borrow.Author.Tests.{eq-eqb, ne_eqb}
use Rattle.laws.specs.Whole.{holds_whole}
use Rattle.probe_race.proofs.cool_loser.Goals as goal

pub returns-then-win-owner : goal.returns-then-win-owner
returns-then-win-owner c = rw (eq-eqb c.args.win c.args.owner c.if-win-owner.true) (holds_whole c.args.words.now c.requires.0)

pub returns : goal.returns
returns c =
    let s = c in
    rw (ne_eqb s.args.win s.args.owner c.if-win-owner.false) c.mark_peer_unresponsive.ensures
