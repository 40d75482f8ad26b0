-- What a request puts into a queue keeps it sound, and what an owned fetch that asks has made sure of. Assumes nothing.
use Rattle.std.specs.Prelude.{◌≡◌, Bool, true, false, cond, not, ◌||◌, ℕ, zero, suc, ◌+◌, ◌≤◌, ◌<◌, get_or, eqb, leb, Option}
use Rattle.std.proofs.Math.Path.{refl, ap}
use Rattle.std.proofs.Common.{sym, ◌∙◌, true≢false, get_or-set_same, get_or-set_other}
use Rattle.std.proofs.Math.Logic.{inl, inr}
use Rattle.std.proofs.lemmas.Bool.{false≢true}
use mathlib.Core.List.{List, [], ◌∷◌}
use native.Mathlib.Omega.{arith}
use Rattle.std.proofs.Math.ListN.{length, length-set}
use borrow.Author.Tests.{eqb-true, eqb-false, ltb-true, not-true, eq-eqb, ne_eqb}
use Rattle.model.specs.Numbers.{max_height, min_estimate, max_estimate, max_seat, max_pending}
use Rattle.model.specs.Lists.{all, any}
use Rattle.model.specs.Hash.{key, same}
use Rattle.model.specs.Records.{new_entry, insert, found, is_there, sum, pending_count_for}
use Rattle.model.specs.Seats.{oldest, start_noted}
use Rattle.model.specs.Window.{Window, Queue}
use Rattle.model.specs.Capacity.{capacity_left, has_request_capacity, effective_peer_inflight}
use Rattle.model.specs.Races.{is_empty}
use Rattle.model.specs.Calls.{Ask, put, puts, started, Fetching, held, staged, asked, no_capacity, owned_fetch}
use Rattle.model.specs.Refusals.{listed_once}
use Rattle.model.specs.declared.Hash.{Hash}
use Rattle.model.specs.declared.Entry.{Entry}
use Rattle.laws.specs.Numbers.{both, and_left, and_right}
use Rattle.laws.specs.Every.{hold, all_first, all_rest, blocks_le}
use Rattle.laws.specs.Bag.{weigh, one, weigh_one, pick_weigh}
use Rattle.laws.specs.Entries.{on, on_other, with_hash, estimate_of, sum_weigh, Rising, insert_pick, insert_rising, Finding, missing, at, found_is, Each, each_unpick, owned, early, oldest_none, oldest_first, first_oldest, with_time, oldest_pick}
use Rattle.laws.specs.Sound.{InRange, Seat, SoundQueue, Sound}
use Rattle.laws.specs.Queues.{oldest_top}

-- ---- hashes that are not pending and not listed twice

-- no ask has the hash of a pending entry
abbrev pub Free : List Ask → List Entry → Type 0
Free [] l = Unit {0}
Free (a ∷ ks) l = (with_hash (key a.hash) l ≡ 0) × Free ks l

abbrev Other : ℕ → List Ask → Type 0
Other h [] = Unit {0}
Other h (a ∷ ks) = (key a.hash ≡ h → ⊥) × Other h ks

abbrev pub Once : List Ask → Type 0
Once [] = Unit {0}
Once (a ∷ ks) = Other (key a.hash) ks × Once ks

-- heights have 32 bits
abbrev pub Low : List Ask → Type 0
Low [] = Unit {0}
Low (a ∷ ks) = (a.height ≤ max_height) × Low ks

not_there : {h : Hash} {l : List Entry} {f : Option Entry} → Finding h l f → is_there f ≡ false → with_hash (key h) l ≡ 0
not_there (missing z) q = z
not_there (at k p) q = absurd (true≢false q)

pub free_is : (ks : List Ask) (l : List Entry) → all (λ a. not (is_there (found a.hash l))) ks ≡ true → Free ks l
free_is [] l q = tt
free_is (a ∷ ks) l q =
    let p : Ask → Bool = λ x. not (is_there (found x.hash l)) in
    (not_there (found_is a.hash l) (not-true _ (all_first p a ks q)), free_is ks l (all_rest p a ks q))

other_is : (h : Hash) (ks : List Ask) → not (any (λ x. same x.hash h) ks) ≡ true → Other (key h) ks
unfolding any same
other_is h [] q = tt
other_is h (a ∷ ks) q = elim (both (eqb (key a.hash) (key h))) [
  | inl k ↦ let q' = rw k at q in absurd (false≢true q')
  | inr k ↦ let q' = rw k at q in (eqb-false (key a.hash) (key h) k, other_is h ks q')
]

pub once_is : (ks : List Ask) → listed_once ks ≡ true → Once ks
unfolding listed_once
once_is [] q = tt
once_is (a ∷ ks) q =
    let first = not (any (λ x. same x.hash a.hash) ks) in
    (other_is a.hash ks (and_left first (listed_once ks) q), once_is ks (and_right first (listed_once ks) q))

-- an entry of another hash goes in
free_insert : (e : Entry) (ks : List Ask) (l : List Entry) → Other (key e.hash) ks → Free ks l → Free ks (insert e l)
free_insert e [] l o f = tt
free_insert e (a ∷ ks) l o f = (
  omega (arith, pick_weigh (on (key a.hash) one) (insert_pick e l), on_other (key a.hash) one e (λ (q : key e.hash ≡ key a.hash). o.0 (sym q)), f.0),
  free_insert e ks l o.1 f.1,
)

-- ---- a request's entries

module _ (owner c estimate : ℕ) where
  abbrev into : List Ask → Queue → Queue
  into ks q = puts ks owner c estimate q

  abbrev asks_for : Ask → Entry
  asks_for a = new_entry a.hash owner c a.height estimate

  puts_rising : (ks : List Ask) (q : Queue) → Free ks q.pending → Once ks → Rising 0 q.pending → Rising 0 (into ks q).pending
  unfolding puts put new_entry
  puts_rising [] q f o r = r
  puts_rising (a ∷ ks) q f o r =
      puts_rising ks (put (asks_for a) q) (free_insert (asks_for a) ks q.pending o.0 f.1) o.1 (insert_rising 0 (asks_for a) q.pending (omega arith) f.0 r)

  puts_each : (ks : List Ask) (q : Queue) → Low ks → owner ≤ max_seat → min_estimate ≤ estimate → estimate ≤ max_estimate → Each (InRange c) q.pending → Each (InRange c) (into ks q).pending
  unfolding puts put new_entry
  puts_each [] q l o a b k = k
  puts_each (x ∷ ks) q l o a b k =
      puts_each ks (put (asks_for x) q) l.1 o a b
      (each_unpick (InRange c) (insert_pick (asks_for x) q.pending) (record { owner = o; time = omega arith; height = l.0; least = a; most = b }) k)

  pub puts_length : (ks : List Ask) (q : Queue) → length (into ks q).pending ≡ length ks + length q.pending
  unfolding puts put
  puts_length [] q = omega arith
  puts_length (a ∷ ks) q =
      let e = asks_for a in
      omega (arith, puts_length ks (put e q), pick_weigh one (insert_pick e q.pending), weigh_one (insert e q.pending), weigh_one q.pending)

  puts_total : (ks : List Ask) (q : Queue) → q.total ≡ sum q.pending → (into ks q).total ≡ sum (into ks q).pending
  unfolding puts put
  puts_total [] q h = h
  puts_total (a ∷ ks) q h =
      let e = asks_for a in
      puts_total ks (put e q) (omega (arith, h, pick_weigh estimate_of (insert_pick e q.pending), sum_weigh (insert e q.pending), sum_weigh q.pending))

  puts_starts : (ks : List Ask) (q : Queue) → (into ks q).starts ≡ q.starts
  unfolding puts put
  puts_starts [] q = refl
  puts_starts (a ∷ ks) q = puts_starts ks (put (asks_for a) q)

  puts_bodies : (ks : List Ask) (q : Queue) → (into ks q).bodies ≡ q.bodies
  unfolding puts put
  puts_bodies [] q = refl
  puts_bodies (a ∷ ks) q = puts_bodies ks (put (asks_for a) q)

  -- no entry goes
  puts_more : (f : Entry → ℕ) (ks : List Ask) (q : Queue) → weigh f q.pending ≤ weigh f (into ks q).pending
  unfolding puts put
  puts_more f [] q = omega arith
  puts_more f (a ∷ ks) q = let e = asks_for a in omega (arith, puts_more f ks (put e q), pick_weigh f (insert_pick e q.pending))

  puts_other : (s : ℕ) (ks : List Ask) (q : Queue) → (owner ≡ s → ⊥) → oldest s (into ks q).pending ≡ oldest s q.pending
  unfolding puts put with_time new_entry
  puts_other s [] q n = refl
  puts_other s (a ∷ ks) q n =
      puts_other s ks (put (asks_for a) q) n ∙ oldest_pick s (insert_pick (asks_for a) q.pending) ∙ rw (ne_eqb owner s n)

  puts_owned : (a : Ask) (ks : List Ask) (q : Queue) → 0 < weigh (owned owner) (into (a ∷ ks) q).pending
  unfolding puts put owned new_entry
  puts_owned a ks q =
      let e = asks_for a in
      let self : owned owner e ≡ 1 = rw (eq-eqb owner owner refl) in
      omega (arith, puts_more (owned owner) ks (put e q), pick_weigh (owned owner) (insert_pick e q.pending))

  -- the owner's start
  owner_seat : (a : Ask) (ks : List Ask) (q : Queue) (start : ℕ) → Each (InRange c) (into (a ∷ ks) q).pending → Seat (oldest owner q.pending) start (suc c)
      → Seat (oldest owner (into (a ∷ ks) q).pending) (start_noted c start) (suc c)
  owner_seat a ks q zero k u =
      let l = (into (a ∷ ks) q).pending in
      record { none = λ z. absurd (omega (arith, puts_owned a ks q, (oldest_none owner l).0 z)); above = oldest_top owner c l k; below = omega arith }
  owner_seat a ks q (suc s) k u =
      let l = (into (a ∷ ks) q).pending in
      let o = oldest owner l in
      let some : 0 < oldest owner q.pending = elim (both (eqb (oldest owner q.pending) 0)) [
        | inl z ↦ absurd (omega (arith, u.none (eqb-true (oldest owner q.pending) 0 z)))
        | inr z ↦ omega (arith, eqb-false (oldest owner q.pending) 0 z)
      ] in
      let none : weigh (early owner o) q.pending ≡ 0 = omega (arith, puts_more (early owner o) (a ∷ ks) q, oldest_first owner o l (λ g. omega arith)) in
      record {
        none = λ z. absurd (omega (arith, puts_owned a ks q, (oldest_none owner l).0 z));
        above = omega (arith, first_oldest owner o q.pending none some, u.above);
        below = u.below;
      }

  -- all of it
  pub filled_queue : (ks : List Ask) (q : Queue) → Low ks → Free ks q.pending → Once ks → owner ≤ max_seat → min_estimate ≤ estimate → estimate ≤ max_estimate
      → length ks + length q.pending ≤ max_pending → SoundQueue c q → SoundQueue c (cond (is_empty ks) (into ks q) (started owner c (into ks q)))
  unfolding started puts
  filled_queue [] q low f o b x y n h = h
  filled_queue (a ∷ ks) q low f o b x y n h =
      let p = into (a ∷ ks) q in
      let each = puts_each (a ∷ ks) q low b x y h.each in
      let ss = puts_starts (a ∷ ks) q in
      record {
        rising = puts_rising (a ∷ ks) q f o h.rising;
        few = omega (arith, puts_length (a ∷ ks) q);
        each = each;
        total = puts_total (a ∷ ks) q h.total;
        seats = length-set p.starts owner _ ∙ ap length ss ∙ h.seats;
        starts = λ s k. rw ss (elim (both (eqb owner s)) [
          | inl w ↦
              let e = eqb-true owner s w in
              rw (← e) (rw (get_or-set_same q.starts owner _ 0 (omega (arith, h.seats, e))) (owner_seat a ks q (get_or q.starts owner 0) each (rw (← e) at (h.starts s k))))
          | inr w ↦
              let e = eqb-false owner s w in
              rw (get_or-set_other q.starts owner s _ 0 (λ (z : s ≡ owner). e (sym z)), puts_other s (a ∷ ks) q e) (h.starts s k)
        ]);
        bodies = rw (puts_bodies (a ∷ ks) q) h.bodies;
      }

-- what an owned fetch that asks has made sure of
pub record Asking (h : Hash) (w : Window) : Type 0 where
  pub free : with_hash (key h) w.queue.pending ≡ 0
  pub room : length w.queue.pending < 256

-- a result's own case
abbrev pub AskingBy : Fetching → Hash → Window → Type 0
AskingBy held h w = Unit {0}
AskingBy staged h w = Unit {0}
AskingBy asked h w = Asking h w
AskingBy no_capacity h w = Unit {0}

room_is : {c : ℕ} {w : Window} (bytes n : ℕ) → has_request_capacity bytes n w ≡ true → Sound c w → length w.queue.pending < 256
unfolding has_request_capacity capacity_left
room_is {w = w} bytes n q g =
    omega (arith, ltb-true (length w.queue.pending) w.settings.max_pending_blocks (hold _ q 0), blocks_le w.settings g.settings)

pub asking_is : {c : ℕ} {w : Window} (owner : ℕ) (h : Hash) (is_staged : Bool) (bytes n : ℕ) → Sound c w → AskingBy (owned_fetch owner h is_staged bytes n w) h w
unfolding owned_fetch
asking_is {w = w} owner h is_staged bytes n g = elim (both (is_there (found h w.queue.pending))) [
  | inl q ↦ rw q tt
  | inr q ↦ elim (both is_staged) [
    | inl k ↦ simp (q, k) tt
    | inr k ↦ elim (both (not (has_request_capacity bytes n w) || leb (effective_peer_inflight w) (pending_count_for owner w.queue.pending))) [
      | inl j ↦ simp (q, k, j) tt
      | inr j ↦ simp (q, k, j) (record { free = not_there (found_is h w.queue.pending) q; room = room_is bytes n (has _ _ j) g })
    ]
  ]
]
  where
    has : (a b : Bool) → not a || b ≡ false → a ≡ true
    has true b e = refl
    has false b e = absurd (true≢false e)
