-- `retain::retain_peer_assignments` meets its contract. Assumes nothing.
use mathlib.Core.Path.{◌≡◌, subst}
use mathlib.Core.List.{map}
use Prim.Native.Nat.{ℕ}
use lib.ListN.{length, take}
use Rattle.model.specs.LettingGo.{lost_reason, flagged}
use Rattle.model.specs.Layout.{window_of}
use Rattle.retain.specs.Retains.{retained_gone, retained_holds}
use borrow.Author.Rules.{rules}
use Rattle.retain.proofs.retain_peer_assignments.Goals as goal

pub lost_marks-marks-requires : goal.lost_marks-marks-requires
lost_marks-marks-requires c = (c.pending_count-count.ensures.0, c.requires.1)

pub keep_seats-requires : goal.keep_seats-requires
keep_seats-requires c = c.take_marked-n.ensures.1.whole

pub set_observation-requires : goal.set_observation-requires
set_observation-requires c = c.keep_seats.ensures.whole

pub returns : goal.returns
returns c =
    let a = c.args in
    let l = (window_of a.words.now).queue.pending in
    let goes = lost_reason (flagged a.flags.now) a.reason in
    let ms = c.lost_marks-marks.result in
    let n = c.take_marked-n.result in
    let core = c.take_marked-n.new.gone in
    let m : take (length l) ms ≡ map goes l = subst (λ (k : ℕ). take k ms ≡ map goes l) c.pending_count-count.ensures.0 c.lost_marks-marks.ensures in
    (c.take_marked-n.ensures.0, retained_holds a.flags.now a.reason a.words.now ms core n (search rules) m c.take_marked-n.ensures.2 c.get_observation-o.result c.observation_kept-k.result c.take_marked-n.new.words c.keep_seats.new.words c.set_observation.new.words c.take_marked-n.ensures.1 c.keep_seats.ensures c.get_observation-o.ensures c.observation_kept-k.ensures c.set_observation.ensures, retained_gone a.flags.now a.reason a.words.now ms core n (search rules) m c.take_marked-n.ensures.2)
