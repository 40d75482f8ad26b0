-- `sweep::expire_pending` meets its contract. Assumes nothing.
use Rattle.model.specs.Time.{effective_owner_timeout, active}
use Rattle.model.specs.LettingGo.{sweep_reason, expire_pending}
use Rattle.model.specs.Layout.{window_of}
use Rattle.laws.specs.Pending.{sound_ranged}
use Rattle.sweep.specs.Sweeps.{gone_marked, swept_holds}
use borrow.Author.Rules.{rules}
use Rattle.sweep.proofs.expire_pending.Goals as goal

pub let_go-n-requires : goal.let_go-n-requires
let_go-n-requires c =
    let a = c.args in
    (c.requires.0, sound_ranged a.clock (window_of a.words.now) c.requires.1, c.requires.1.clock)

pub set_observation-requires : goal.set_observation-requires
set_observation-requires c = c.let_go-n.ensures.1.whole

pub returns : goal.returns
unfolding expire_pending
returns c =
    let a = c.args in
    let w = window_of a.words.now in
    let goes = sweep_reason a.clock (effective_owner_timeout (active w) w) w in
    let ms = c.swept_marks-marks.result in
    let n = c.let_go-n.result in
    let core = c.let_go-n.new.gone in
    (c.let_go-n.ensures.0, swept_holds goes a.words.now ms core n (search rules) c.swept_marks-marks.ensures c.let_go-n.ensures.2 a.clock c.get_observation-o.result c.marked_swept-m.result c.let_go-n.new.words c.set_observation.new.words c.let_go-n.ensures.1 c.get_observation-o.ensures c.marked_swept-m.ensures c.set_observation.ensures, gone_marked goes a.words.now ms core n (search rules) c.swept_marks-marks.ensures c.let_go-n.ensures.2)
