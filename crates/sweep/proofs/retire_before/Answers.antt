-- `sweep::retire_before` meets its contract. Assumes nothing.
use mathlib.Core.Path.{◌≡◌, subst}
use mathlib.Core.List.{map}
use Prim.Native.Nat.{ℕ}
use lib.ListN.{length, take}
use Rattle.model.specs.Layout.{window_of}
use Rattle.laws.specs.Batches.{retire_reason}
use Rattle.laws.specs.Pending.{sound_ranged}
use Rattle.sweep.specs.Sweeps.{retired_holds, retired_gone}
use borrow.Author.Rules.{rules}
use Rattle.sweep.proofs.retire_before.Goals as goal

pub retire_marks-marks-requires : goal.retire_marks-marks-requires
retire_marks-marks-requires c = c.pending_count-count.ensures.0

pub let_go-requires : goal.let_go-requires
let_go-requires c =
    let a = c.args in
    (c.requires.0, sound_ranged a.clock (window_of a.words.now) c.requires.1, c.requires.1.clock)

pub returns : goal.returns
returns c =
    let a = c.args in
    let w = window_of a.words.now in
    let ms = c.retire_marks-marks.result in
    let n = c.let_go.result in
    let core = c.let_go.new.gone in
    let m : take (length w.queue.pending) ms ≡ map (retire_reason a.height) w.queue.pending =
    subst (λ (k : ℕ). take k ms ≡ map (retire_reason a.height) w.queue.pending) c.pending_count-count.ensures.0 c.retire_marks-marks.ensures in
    (c.let_go.ensures.0, retired_holds a.height a.clock a.words.now ms core n (search rules) m c.requires.1 c.let_go.new.words c.let_go.ensures.1, retired_gone a.height a.clock a.words.now ms core n (search rules) m c.requires.1 c.let_go.ensures.2)
