-- Nothing that could be asked for is left out below the next height. The reach has as many heights as are wanted, pending, staged and taken: on a
-- chain that names no hash twice at most so many of them are passed by, so that what is wanted is found, or a refused height holds the next height
-- back, or the peer has no more. Assumes nothing.
use Rattle.std.specs.Prelude.{◌≡◌, refl, Bool, false, cond, ◌||◌, ℕ, suc, ◌+◌, ◌-◌, ◌≤◌, ◌<◌, ltb, leb, get_or, take, None, Some, Option}
use Rattle.std.proofs.Common.{sym, true≢false, take_all}
use Rattle.std.proofs.Math.Path.{ap, subst}
use Rattle.std.proofs.Math.Logic.{inl, inr}
use Rattle.std.proofs.Math.Bool.{true, not}
use mathlib.Core.List.{List, [], ◌∷◌, Memᴰ}
use native.Mathlib.Omega.{arith}
use Rattle.std.proofs.Math.ListN.{length, length-map}
use borrow.Author.Tests.{ltb-true, ltb-false, leb-true, leb-false}
use Rattle.model.specs.Numbers.{lesser, greater, next_height, max_height}
use Rattle.model.specs.Lists.{any, select, count}
use Rattle.model.specs.Hash.{same, hashes_in}
use Rattle.model.specs.Window.{Window}
use Rattle.model.specs.Calls.{Ask}
use Rattle.model.specs.Planning.{Lent, Scan, ask, names, is_pending, is_staged, is_refused, is_open, lower_of, noticed, held_back, contiguous_request_entries, reach, past, open_in_reach, candidates, next_after}
use Rattle.model.specs.declared.Hash.{Hash}
use Rattle.laws.specs.Numbers.{both, lesser_le_first, lesser_le_second, lesser_first, le_lesser, greater_le}
use Rattle.plan_laws.specs.Lists.{or_true, not_not, Every, every_map, every_take, every_select, any_none, member_select, select_all, count_select, count_or, count_alike, split_length}
use Rattle.plan_laws.specs.Named.{NamesOnce, Once, hashes_of, pending_hashes, pending_named, count_named, first_named_select}
use Rattle.plan_laws.specs.Chain.{Stands, Higher, contiguous_stands, contiguous_member, contiguous_many, contiguous_higher, contiguous_once, higher_select, first_or_lower}

-- ---- what the lowest refused height holds back

-- a height is noted that is at most n
abbrev AtMost : ℕ → Option ℕ → Type 0
AtMost n None = ⊥
AtMost n (Some m) = m ≤ n

lower_new : (n m : ℕ) (low : Option ℕ) → m ≤ n → AtMost n (lower_of low m)
lower_new n m None b = b
lower_new n m (Some k) b = omega (arith, lesser_le_second k m)

lower_old : (n m : ℕ) (low : Option ℕ) → AtMost n low → AtMost n (lower_of low m)
lower_old n m None b = absurd b
lower_old n m (Some k) b = omega (arith, lesser_le_first k m)

module _ (l : Lent) (n : ℕ) where
  noticed_keeps : (ks : List Ask) (low : Option ℕ) → AtMost n low → AtMost n (noticed l ks low)
  unfolding noticed
  noticed_keeps [] low b = b
  noticed_keeps (a ∷ ks) low b = elim (both (is_refused l a)) [
    | inl r ↦ rw r (noticed_keeps ks (lower_of low a.height) (lower_old n a.height low b))
    | inr r ↦ rw r (noticed_keeps ks low b)
  ]

  -- a refused one at a height up to n is noted
  noticed_some : (ks : List Ask) (low : Option ℕ) (a : Ask) → Memᴰ a ks → is_refused l a ≡ true → a.height ≤ n → AtMost n (noticed l ks low)
  unfolding noticed
  noticed_some [] low a m r b = elim m [ ]
  noticed_some (x ∷ ks) low a (mathlib.Core.List.Memᴰ.head e) r b =
      let r' : is_refused l x ≡ true = subst (λ (y : Ask). is_refused l y ≡ true) e r in
      let b' : x.height ≤ n = subst (λ (y : Ask). y.height ≤ n) e b in
      rw r' (noticed_keeps ks (lower_of low x.height) (lower_new n x.height low b'))
  noticed_some (x ∷ ks) low a (mathlib.Core.List.Memᴰ.tail m) r b = noticed_some ks (cond (is_refused l x) (lower_of low x.height) low) a m r b

  noticed_any : (ks : List Ask) (low : Option ℕ) → Every (λ a. a.height ≤ n) ks → any (is_refused l) ks ≡ true → AtMost n (noticed l ks low)
  unfolding noticed any
  noticed_any [] low b r = absurd (true≢false (sym r))
  noticed_any (a ∷ ks) low b r = elim (or_true (is_refused l a) (any (is_refused l) ks) r) [
    | inl q ↦ noticed_some (a ∷ ks) low a (mathlib.Core.List.Memᴰ.head refl) q b.0
    | inr q ↦ noticed_any ks (cond (is_refused l a) (lower_of low a.height) low) b.1 q
  ]

held_stops : (low : Option ℕ) (f next n : ℕ) → AtMost n low → f ≤ n → held_back low f next ≤ n
held_stops None f next n a b = absurd a
held_stops (Some m) f next n a b = greater_le (lesser next m) f n (omega (arith, lesser_le_second next m)) b

pub held_below : (low : Option ℕ) (f next n : ℕ) → f ≤ n → next ≤ n → held_back low f next ≤ n
held_below None f next n b c = c
held_below (Some m) f next n b c = greater_le (lesser next m) f n (omega (arith, lesser_le_first next m)) b

pub next_height_suc : (h : ℕ) → next_height h ≤ suc h
unfolding next_height
next_height_suc h = lesser_le_first (suc h) max_height

past_below : (ks : List Ask) (f n : ℕ) → f ≤ n → Every (λ a. a.height < n) ks → past ks f ≤ n
unfolding past
past_below [] f n b a = b
past_below (x ∷ ks) f n b a =
    past_below ks (greater f (next_height x.height)) n (greater_le f (next_height x.height) n b (omega (arith, next_height_suc x.height))) a.1

-- the next height of a scan whose candidates are all below n and as many as are wanted
after_below : (s : Scan) (cs : List Ask) (n : ℕ) → s.next ≤ n → Every (λ a. a.height < n) (take s.limit cs) → (length cs < s.limit → s.tip < n) → next_after s cs ≤ n
unfolding next_after
after_below s cs n b a c = let p = past_below (take s.limit cs) s.next n b a in elim (both (ltb (length cs) s.limit)) [
  | inl q ↦ rw q (greater_le (past (take s.limit cs) s.next) (next_height s.tip) n p (omega (arith, next_height_suc s.tip, c (ltb-true (length cs) s.limit q))))
  | inr q ↦ rw q p
]

-- ---- the scan

-- a list names the hash of the entry
abbrev pub named : List Hash → Ask → Bool
named hs a = any (same a.hash) hs

module _ (l : Lent) (w : Window) (s : Scan) (taken : List Ask) (once : NamesOnce (hashes_in l.chain)) where
  abbrev chain : List Hash
  chain = hashes_in l.chain

  abbrev passed : ℕ
  passed = length w.queue.pending + (length (hashes_in l.staged) + length taken)

  abbrev last : ℕ
  last = reach (s.limit + passed) s

  abbrev looked : List Ask
  looked = contiguous_request_entries s.height last l.chain

  abbrev found : List Ask
  found = open_in_reach l w s taken

  abbrev is_new : Ask → Bool
  is_new a = not (named (hashes_of taken) a)

  looked_once : Once looked
  looked_once = contiguous_once s.height last l.chain once

  found_is : found ≡ select is_new (select (is_open l w) looked)
  unfolding open_in_reach
  found_is = first_named_select (hashes_of taken) (select (is_open l w) looked) (λ h. omega (arith, count_select (λ a. same h a.hash) (is_open l w) looked, looked_once h))

  found_member : (a : Ask) → Memᴰ a looked → is_open l w a ≡ true → named (hashes_of taken) a ≡ false → Memᴰ a found
  found_member a m o e = rw found_is (member_select is_new a (select (is_open l w) looked) (member_select (is_open l w) a looked m o) (ap not e))

  found_higher : Higher s.height found
  found_higher = rw found_is (higher_select is_new s.height (select (is_open l w) looked) (higher_select (is_open l w) s.height looked (contiguous_higher s.height last l.chain)))

  found_low : Every (λ a. a.height ≤ last) found
  found_low =
      let P : Ask → Type 0 = λ a. a.height ≤ last in
      rw found_is (every_select P is_new (select (is_open l w) looked) (every_select P (is_open l w) looked
      (every_map (Stands chain s.height last) P (λ a k. k.high) looked (contiguous_stands s.height last l.chain))))

  -- as many are passed by as are pending, staged and taken, and no more
  found_many : length looked ≤ length found + passed
  unfolding is_open is_staged names
  found_many =
      let xs = select (is_open l w) looked in
      let pending_few : count (is_pending w) looked ≤ length w.queue.pending =
      omega (arith, count_alike (is_pending w) (named (pending_hashes w)) (pending_named w) looked, count_named (pending_hashes w) looked looked_once, length-map w.queue.pending (λ e. e.hash)) in
      let staged_few : count (is_staged l) looked ≤ length (hashes_in l.staged) = count_named (hashes_in l.staged) looked looked_once in
      let shut = count_alike (λ a. not (is_open l w a)) (λ a. is_pending w a || is_staged l a) (λ a. not_not (is_pending w a || is_staged l a)) looked in
      let taken_few = count_named (hashes_of taken) xs (λ h. omega (arith, count_select (λ a. same h a.hash) (is_open l w) looked, looked_once h)) in
      let old = count_alike (λ a. not (is_new a)) (named (hashes_of taken)) (λ a. not_not (named (hashes_of taken) a)) xs in
      omega (arith, split_length (is_open l w) looked, shut, count_or (is_pending w) (is_staged l) looked, split_length is_new xs, old, length-map taken (λ a. a.hash), ap length found_is)

  abbrev kept : Ask → Bool
  kept a = not (is_refused l a)

  module _ (low : Option ℕ) (n : ℕ) (below_n : s.next ≤ n) (from_n : w.frontier ≤ n) (on_chain : n < length chain) where
    abbrev next : ℕ
    next = held_back (noticed l found low) w.frontier (next_after s (candidates l w s taken))

    -- past the reach: the peer has no more, or as many as were wanted were found
    beyond_few : last < n → any (is_refused l) found ≡ false → length (candidates l w s taken) < s.limit → s.tip < n
    unfolding candidates reach
    beyond_few b none few =
        let all : candidates l w s taken ≡ found = select_all kept found (every_map (λ a. is_refused l a ≡ false) (λ a. kept a ≡ true) (λ a e. ap not e) found (any_none (is_refused l) found none)) in
        let end = s.height + (s.limit + passed - 1) in
        elim (both (leb end s.tip)) [
          | inl q ↦
              let whole : last ≡ end = lesser_first end s.tip (leb-true end s.tip q) in
              absurd (omega (arith, contiguous_many s.height last l.chain (omega arith), found_many, ap length all))
          | inr q ↦ omega (arith, leb-false end s.tip q, lesser_le_second end s.tip, reached end (leb-false end s.tip q))
        ]
      where
        reached : (e : ℕ) → s.tip < e → s.tip ≤ lesser e s.tip
        reached e b = le_lesser e s.tip s.tip (omega arith) (omega arith)

    -- so a next height above n says that n is in the reach
    in_reach : n < next → n ≤ last
    unfolding candidates
    in_reach b = elim (both (leb n last)) [
      | inl q ↦ leb-true n last q
      | inr q ↦
          let past_it : last < n = leb-false n last q in
          let under : Every (λ a. a.height ≤ n) found = every_map (λ a. a.height ≤ last) (λ a. a.height ≤ n) (λ a k. omega arith) found found_low in
          let strictly : Every (λ a. a.height < n) found = every_map (λ a. a.height ≤ last) (λ a. a.height < n) (λ a k. omega arith) found found_low in
          elim (both (any (is_refused l) found)) [
            | inl r ↦ absurd (omega (arith, held_stops (noticed l found low) w.frontier (next_after s (candidates l w s taken)) n (noticed_any l n found low under r) from_n))
            | inr r ↦
                let cs = candidates l w s taken in
                let firsts = every_take (λ a. a.height < n) s.limit cs (every_select (λ a. a.height < n) kept found strictly) in
                absurd (omega (arith, held_below (noticed l found low) w.frontier (next_after s cs) n from_n (after_below s cs n below_n firsts (beyond_few past_it r))))
          ]
    ]

    module _ (d : Hash) (first : s.height ≤ n) where
      abbrev at_n : Ask
      at_n = ask (get_or chain n d) n

      -- what could be asked for there is taken
      pub scan_takes : n < next → is_open l w at_n ≡ true → named (hashes_of taken) at_n ≡ false → Memᴰ at_n (take s.limit (candidates l w s taken))
      unfolding candidates
      scan_takes b o new =
          let m = found_member at_n (contiguous_member s.height last l.chain d n first (in_reach b) on_chain) o new in
          let cs = candidates l w s taken in
          elim (both (is_refused l at_n)) [
            | inl r ↦ absurd (omega (arith, held_stops (noticed l found low) w.frontier (next_after s cs) n (noticed_some l n found low at_n m r (omega arith)) from_n))
            | inr r ↦
                let k : Memᴰ at_n cs = member_select kept at_n found m (ap not r) in
                elim (both (ltb (length cs) s.limit)) [
                  | inl q ↦ rw (take_all s.limit cs (omega (arith, ltb-true (length cs) s.limit q))) k
                  | inr q ↦ elim (first_or_lower s.limit s.height at_n cs k (higher_select kept s.height found found_higher)) [
                    | inl i ↦ i
                    | inr i ↦ absurd (omega (
                      arith,
                      held_below (noticed l found low) w.frontier (next_after s cs) n from_n
                          (after_below s cs n below_n i (λ few. absurd (omega (arith, ltb-false (length cs) s.limit q)))),
                    ))
                  ]
                ]
          ]
