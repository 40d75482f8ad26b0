-- `batch::reset_all` meets its contract: at the loop's head the first i are reset. Assumes nothing.
use mathlib.Core.Path.{◌≡◌, refl, ◌∙◌}
use Prim.Native.Nat.{ℕ, suc, ◌+◌, ◌-◌, ◌*◌, ◌<◌}
use native.Mathlib.Numerals.{add-one}
use mathlib.Core.List.{List}
use lib.ListN.{get_or}
use Rattle.model.specs.Numbers.{max_clock}
use Rattle.model.specs.LettingGo.{resets}
use Rattle.model.specs.Layout.{decode, window_of}
use Rattle.laws.specs.Sound.{InRange}
use Rattle.records.specs.Places.{stored}
use Rattle.report_words.specs.Report.{release_at, releases_of}
use Rattle.batch.specs.Resets.{Went, went_at, seats_own, reset_turn}
use native.Mathlib.Omega.{arith}
use Rattle.batch.proofs.reset_all.Goals as goal

-- what went at i is in its ranges
in_range : (n i : ℕ) (core : List ℕ) → i < n → Went (InRange max_clock) (releases_of n core) → InRange max_clock (release_at core i).entry
in_range n i core h a = went_at (InRange max_clock) n (n - suc i) i core (omega arith) a

pub loop-i-init : goal.loop-i-init
unfolding releases_of resets
loop-i-init c = (refl, seats_own c.args.words.now)

pub offset_bounds-left-owner : goal.offset_bounds-left-owner
offset_bounds-left-owner c =
    let p = c.requires.2 in
    omega (arith, (in_range c.args.n c.loop-i.i c.args.gone.now (omega arith) p).owner)

pub bounds-left-owner : goal.bounds-left-owner
bounds-left-owner c =
    let p = c.requires.2 in
    omega (arith, (in_range c.args.n c.loop-i.i c.args.gone.now (omega arith) p).owner)

pub reset_owner_queue_start-requires : goal.reset_owner_queue_start-requires
reset_owner_queue_start-requires c =
    let r = in_range c.args.n c.loop-i.i c.args.gone.now (omega arith) c.requires.2 in
    let v = c.loop-i.invariant in
    (omega (arith, r.owner), omega arith, r.time)

pub loop-i-preserved : goal.loop-i-preserved
loop-i-preserved c =
    let v = c.loop-i in
    let a = c.args in
    let r = in_range a.n v.i a.gone.now (omega arith) c.requires.2 in
    let old = c.left_of-l.ensures ∙ c.requires.3 (get_or a.gone.now (9 * v.i + 4) 0) (omega (arith, r.owner)) in
    rw add-one (omega arith, reset_turn a.clock v.i (stored c.left_of-l.result) a.gone.now (window_of a.words.now).queue (decode a.words.now) (decode v.words) (decode c.reset_owner_queue_start.new.words) v.invariant.1 old c.reset_owner_queue_start.ensures)

pub returns : goal.returns
returns c =
    let v = c.loop-i in
    let e : v.i ≡ c.args.n = omega arith in
    rw e at v.invariant.1
