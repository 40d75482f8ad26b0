-- `batch::oldest_left` meets its contract: at the loop's head the table is that of the records from i on. Assumes nothing.
use mathlib.Core.Path.{◌≡◌, refl, sym, ◌∙◌}
use mathlib.Core.List.{List, []}
use Prim.Native.Nat.{ℕ, suc, ◌+◌, ◌-◌, ◌<◌}
use native.Mathlib.Numerals.{add-one}
use lib.ListN.{length, get_or, set, drop, replicate, length-set, drop_of_length-le}
use Rattle.model.specs.Seats.{sooner, oldest}
use Rattle.model.specs.Layout.{blank, window_of}
use Rattle.model.specs.declared.Entry.{Entry}
use Rattle.laws.specs.Parts.{no_seats_at}
use Rattle.laws.specs.Pending.{Ranged, pending_few, pending_cons, owner_at, time_at, seat_at, time_le}
use Rattle.batch.specs.Resets.{Oldests, oldests_more}
use native.Mathlib.Omega.{arith}
use Rattle.batch.proofs.oldest_left.Goals as goal

-- before the first record
none : (l : List Entry) → l ≡ [] → Oldests (replicate 256 0) l
unfolding oldest
none l e s h = rw e (no_seats_at s)

-- a turn, at the record j
turn : (ws t : List ℕ) (i j v : ℕ) → i ≡ suc j → j < length (window_of ws).queue.pending → Ranged (window_of ws) → length t ≡ 256
    → v ≡ sooner (get_or ws (j + 1280) 0 + 1) (get_or t (get_or ws (j + 1024) 0) 0) → Oldests t (drop i (window_of ws).queue.pending)
    → Oldests (set t (get_or ws (j + 1024) 0) v) (drop j (window_of ws).queue.pending)
turn ws t i j v e h a n q f =
    let l = (window_of ws).queue.pending in
    let x = get_or l j blank in
    let o = owner_at ws j h in
    let u = time_at ws j h in
    let b : x.owner < 256 = omega (arith, seat_at ws j h a) in
    let f' : Oldests t (drop (suc j) l) = rw e at f in
    let v-is : v ≡ sooner (suc x.time) (get_or t x.owner 0) = rw add-one at q ∙ (λ k. sooner (suc (sym u k)) (get_or t (sym o k) 0)) in
    rw (pending_cons ws j h, sym o) (oldests_more t x (drop (suc j) l) v n b v-is f')

pub loop-i-init : goal.loop-i-init
loop-i-init c =
    let l = (window_of c.args.words.now).queue.pending in
    (refl, none (drop c.args.count l) (drop_of_length-le l {i = c.args.count} (omega arith)))

pub overflow_add-o : goal.overflow_add-o
overflow_add-o c = omega (arith, pending_few c.args.words.now)

pub offset_bounds-words-i : goal.offset_bounds-words-i
offset_bounds-words-i c = omega (arith, pending_few c.args.words.now)

pub bounds-words-i : goal.bounds-words-i
bounds-words-i c = omega (arith, pending_few c.args.words.now)

pub overflow_add-i : goal.overflow_add-i
overflow_add-i c = omega (arith, pending_few c.args.words.now)

pub offset_bounds-words-i-in-loop-i : goal.offset_bounds-words-i-in-loop-i
offset_bounds-words-i-in-loop-i c = omega (arith, pending_few c.args.words.now)

pub bounds-words-i-in-loop-i : goal.bounds-words-i-in-loop-i
bounds-words-i-in-loop-i c = omega (arith, pending_few c.args.words.now)

pub overflow_add-words : goal.overflow_add-words
overflow_add-words c = omega (arith, time_le c.args.words.now (c.loop-i.i - 1) (omega arith) c.requires.1)

pub offset_bounds-left-owner : goal.offset_bounds-left-owner
offset_bounds-left-owner c = omega (arith, seat_at c.args.words.now (c.loop-i.i - 1) (omega arith) c.requires.1)

pub bounds-left-owner : goal.bounds-left-owner
bounds-left-owner c = omega (arith, seat_at c.args.words.now (c.loop-i.i - 1) (omega arith) c.requires.1)

pub offset_bounds-left-owner-in-loop-i : goal.offset_bounds-left-owner-in-loop-i
offset_bounds-left-owner-in-loop-i c = omega (arith, seat_at c.args.words.now (c.loop-i.i - 1) (omega arith) c.requires.1)

pub bounds-left-owner-in-loop-i : goal.bounds-left-owner-in-loop-i
bounds-left-owner-in-loop-i c = omega (arith, seat_at c.args.words.now (c.loop-i.i - 1) (omega arith) c.requires.1)

pub loop-i-preserved : goal.loop-i-preserved
loop-i-preserved c =
    let v = c.loop-i in
    let ws = c.args.words.now in
    let h : v.i - 1 < length (window_of ws).queue.pending = omega arith in
    let e : v.i ≡ suc (v.i - 1) = omega arith in
    (simp length-set v.invariant.0, turn ws v.left v.i (v.i - 1) c.sooner_stored.result e h c.requires.1 v.invariant.0 c.sooner_stored.ensures v.invariant.1)

pub returns : goal.returns
returns c =
    let v = c.loop-i in
    let z : v.i ≡ 0 = omega arith in
    rw z at v.invariant.1
