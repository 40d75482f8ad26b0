-- `retries::retry` meets its contract: at the loop's head what is taken of the first i, and what the others come to, are all. Assumes nothing.
use mathlib.Core.Path.{◌≡◌, sym, ◌∙◌}
use mathlib.Core.List.{List, ◌∷◌}
use Prim.Native.Nat.{ℕ, suc, ◌%◌, ◌≤◌, ◌<◌}
use native.Mathlib.Omega.{arith}
use lib.ListN.{length, drop, get_or}
use Rattle.model.specs.Numbers.{max_height}
use Rattle.model.specs.Calls.{Ask}
use Rattle.model.specs.Planning.{ask, is_refused, swept_asks}
use Rattle.model.specs.declared.Hash.{Hash}
use Rattle.report_words.specs.Report.{releases_of}
use Rattle.swept_order.specs.Keys.{entry_from, asks_for, swept_low}
use Rattle.retries.specs.Retries.{retries, room_left, going_start, going_end, going_stop, going_refused, going_passed, going_taken, asks_count, next_ask, next_is, next_low}
use Rattle.retries.proofs.retry.Goals.{At-loop-i}
use Rattle.retries.proofs.retry.Goals as goal

-- ---- what is known at the loop's head

abbrev asks : At-loop-i → List Ask
asks c = swept_asks (releases_of c.args.n c.args.gone.now)

room : (c : At-loop-i) → c.args.n ≤ length c.args.keys.now
room c = omega (arith, c.requires.0.few, c.told-keys)

-- the next of the swept
abbrev next_entry : (c : At-loop-i) → Ask
next_entry c = asks_for (entry_from c.args.gone.now (get_or c.args.keys.now c.loop-i.i 0 % 256))

module _ (c : At-loop-i) (below : c.loop-i.i < c.args.n) where
  next : drop c.loop-i.i (asks c) ≡ next_entry c ∷ drop (suc c.loop-i.i) (asks c)
  next = next_ask c.args.gone.now c.args.keys.now c.args.n (room c) (asks c) c.requires.1 c.loop-i.i below

  module _ (h : Hash) (height : ℕ) (eh : h ≡ (next_entry c).hash) (et : height ≡ (next_entry c).height) where
    is : drop c.loop-i.i (asks c) ≡ ask h height ∷ drop (suc c.loop-i.i) (asks c)
    is = next_is c.args.gone.now c.args.keys.now c.args.n (room c) (asks c) c.requires.1 c.loop-i.i h height below eh et

    low : height ≤ max_height
    low = next_low c.args.gone.now c.args.keys.now c.args.n (room c) (asks c) c.requires.1 c.loop-i.i h height below eh et
        (swept_low (releases_of c.args.n c.args.gone.now) c.requires.0.low)

-- ---- the needs
pub loop-i-init : goal.loop-i-init
loop-i-init c =
    going_start _ _ _ _ _ _ _ _ c.requires.0.index

pub returns-then-is_full : goal.returns-then-is_full
unfolding retries
returns-then-is_full c =
    let d = (goal.at.returns-then-is_full c).At-loop-i in
    let a = c.args in
    let l = d.loop-i in
    let below : l.i < a.n = c.loop-i-test.true in
    going_stop _ _ _ _ _ _ _ _ _ _ _ _ _ _ _ l.invariant a.mean c.requires.2 (next_entry (goal.at.returns-then-is_full c).At-loop-i) (next d below) (sym c.is_full.ensures ∙ c.if-is_full.true)

pub hash_at-h-requires : goal.hash_at-h-requires
hash_at-h-requires c =
    let d = (goal.at.hash_at-h-requires c).At-loop-i in
    omega (arith, c.loop-i-test.true, room (goal.at.hash_at-h-requires c).At-loop-i)

pub height_at-height-requires : goal.height_at-height-requires
height_at-height-requires c =
    let d = (goal.at.height_at-height-requires c).At-loop-i in
    omega (arith, c.loop-i-test.true, room (goal.at.height_at-height-requires c).At-loop-i)

pub loop-i-preserved-then-names : goal.loop-i-preserved-then-names
unfolding is_refused
loop-i-preserved-then-names c =
    let d = (goal.at.loop-i-preserved-then-names c).At-loop-i in
    let a = c.args in
    let l = d.loop-i in
    let h = c.hash_at-h in
    let t = c.height_at-height in
    let below : l.i < a.n = c.loop-i-test.true in
    going_refused _ _ _ _ _ _ _ _ _ _ _ _ _ _ _ l.invariant a.mean c.requires.2 (ask h.result t.result) (is d below h.result t.result h.ensures t.ensures)
    (sym c.is_full.ensures ∙ c.if-is_full.false) c.lower_of-low.result (sym c.names.ensures ∙ c.if-names.true) c.lower_of-low.ensures

pub loop-i-preserved-then-is_passed_by : goal.loop-i-preserved-then-is_passed_by
unfolding is_refused
loop-i-preserved-then-is_passed_by c =
    let d = (goal.at.loop-i-preserved-then-is_passed_by c).At-loop-i in
    let a = c.args in
    let l = d.loop-i in
    let h = c.hash_at-h in
    let t = c.height_at-height in
    let below : l.i < a.n = c.loop-i-test.true in
    going_passed _ _ _ _ _ _ _ _ _ _ _ _ _ _ _ l.invariant a.mean c.requires.2 (ask h.result t.result) (is d below h.result t.result h.ensures t.ensures)
    (sym c.is_full.ensures ∙ c.if-is_full.false) (sym c.names.ensures ∙ c.if-names.false) (sym c.is_passed_by.ensures ∙ c.if-is_passed_by.true)

pub put_ask-requires : goal.put_ask-requires
put_ask-requires c =
    let d = (goal.at.put_ask-requires c).At-loop-i in
    let a = c.args in
    let l = d.loop-i in
    let h = c.hash_at-h in
    let t = c.height_at-height in
    let p = c.requires.0 in
    let more : l.count < a.batch = (room_left a.batch l.count l.left a.mean (sym c.is_full.ensures ∙ c.if-is_full.false)).0 in (
      l.invariant.index,
      (
        omega (arith, more, p.hashes, l.invariant.long_hashes),
        (omega (arith, more, p.heights, l.invariant.long_heights), low d c.loop-i-test.true h.result t.result h.ensures t.ensures),
      ),
    )

pub overflow_sub-left : goal.overflow_sub-left
overflow_sub-left c =
    let d = (goal.at.overflow_sub-left c).At-loop-i in
    let a = c.args in
    omega (arith, (room_left a.batch d.loop-i.count d.loop-i.left a.mean (sym c.is_full.ensures ∙ c.if-is_full.false)).1)

pub overflow_add-count : goal.overflow_add-count
overflow_add-count c =
    let d = (goal.at.overflow_add-count c).At-loop-i in
    let a = c.args in
    omega (arith, (room_left a.batch d.loop-i.count d.loop-i.left a.mean (sym c.is_full.ensures ∙ c.if-is_full.false)).0, c.ranges.batch)

pub loop-i-preserved : goal.loop-i-preserved
unfolding is_refused
loop-i-preserved c =
    let d = (goal.at.loop-i-preserved c).At-loop-i in
    let a = c.args in
    let l = d.loop-i in
    let h = c.hash_at-h in
    let t = c.height_at-height in
    let put = c.put_ask in
    let below : l.i < a.n = c.loop-i-test.true in
    going_taken _ _ _ _ _ _ _ _ _ _ _ _ _ _ _ l.invariant a.mean c.requires.2 (ask h.result t.result) (is d below h.result t.result h.ensures t.ensures)
    (sym c.is_full.ensures ∙ c.if-is_full.false) (sym c.names.ensures ∙ c.if-names.false) put.new.hashes put.new.heights put.new.index
    (sym c.is_passed_by.ensures ∙ c.if-is_passed_by.false) put.ensures.0 put.ensures.1.0 put.ensures.1.1 put.auto.hashes put.auto.heights put.auto.index

pub returns : goal.returns
unfolding retries
returns c =
    let d = (goal.at.returns c).At-loop-i in
    let a = c.args in
    let l = d.loop-i in
    let many = asks_count a.gone.now a.keys.now a.n (room (goal.at.returns c).At-loop-i) (asks (goal.at.returns c).At-loop-i) c.requires.1 in
    going_end _ _ _ _ _ _ _ _ _ _ _ _ _ _ _ l.invariant (omega (arith, c.loop-i-test.false, many))
