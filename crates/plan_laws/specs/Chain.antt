-- The chain's entries: where they stand, how they rise, how many they are. Assumes nothing.
use Rattle.std.specs.Prelude.{◌≡◌, refl, ◌⊎◌, Bool, ℕ, zero, suc, ◌+◌, ◌-◌, ◌≤◌, ◌<◌, length, get_or, take, drop}
use Rattle.std.proofs.Common.{sym, ap, ◌∙◌, inl, inr, arith, length-drop, take-append-drop}
use mathlib.Core.List.{List, [], ◌∷◌, ◌++◌, Memᴰ}
use Rattle.std.proofs.Math.ListN.{length-take}
use Rattle.model.specs.Lists.{select, count}
use Rattle.model.specs.Hash.{same, hashes_in}
use Rattle.model.specs.Calls.{Ask}
use Rattle.model.specs.Planning.{ask, heights_from, contiguous_request_entries}
use Rattle.model.specs.declared.Hash.{Hash}
use Rattle.laws.specs.Numbers.{both}
use Rattle.plan_laws.specs.Lists.{Every, every_map, count_take, count_drop}
use Rattle.plan_laws.specs.Named.{NamesOnce, times, Once}

-- ---- where they stand

-- an entry between two heights that stands on the chain at its own
pub record Stands (chain : List Hash) (first last : ℕ) (a : Ask) : Type 0 where
  pub low : first ≤ a.height
  pub high : a.height ≤ last
  pub there : a.height < length chain
  pub own : get_or chain a.height a.hash ≡ a.hash

pub drop_step : {A : Type 0} (d : A) (l : List A) (n : ℕ) (x : A) (r : List A) → drop n l ≡ x ∷ r → (n < length l) × (get_or l n d ≡ x) × (drop (suc n) l ≡ r)
drop_step d [] zero x r e = let z : ◌≡◌ {A = ℕ} 0 1 = cc in absurd (omega arith)
drop_step d [] (suc n) x r e = let z : ◌≡◌ {A = ℕ} 0 1 = cc in absurd (omega arith)
drop_step d (y ∷ l) zero x r e = (omega arith, cc, cc)
drop_step d (y ∷ l) (suc n) x r e = let z = drop_step d l n x r e in (omega (arith, z.0), z.1, z.2)

heights_stand : (chain : List Hash) (last n : ℕ) (hs rest : List Hash) → drop n chain ≡ hs ++ rest → length hs ≤ suc last - n → Every (Stands chain n last) (heights_from n hs)
unfolding heights_from
heights_stand chain last n [] rest e b = tt
heights_stand chain last n (h ∷ hs) rest e b =
    let z = drop_step h chain n h (hs ++ rest) e in (
      record { low = omega arith; high = omega arith; there = z.0; own = z.1 },
      every_map (Stands chain (suc n) last) (Stands chain n last) (λ a k. record { low = omega (arith, k.low); high = k.high; there = k.there; own = k.own }) (heights_from (suc n) hs)
          (heights_stand chain last (suc n) hs rest z.2 (omega arith)),
    )

-- the entry at a height
heights_member : (chain : List Hash) (d : Hash) (j k n : ℕ) (hs rest : List Hash) → drop n chain ≡ hs ++ rest → j ≡ n + k → k < length hs
    → Memᴰ (ask (get_or chain j d) j) (heights_from n hs)
unfolding heights_from
heights_member chain d j k n [] rest e q b = absurd (omega arith)
heights_member chain d j zero n (h ∷ hs) rest e q b =
    let z = drop_step d chain n h (hs ++ rest) e in
    let i : j ≡ n = omega arith in
    let p : get_or chain j d ≡ h = ap (λ (m : ℕ). get_or chain m d) i ∙ z.1 in
    Memᴰ.head (λ t. ask (p t) (i t))
heights_member chain d j (suc k) n (h ∷ hs) rest e q b =
    let z = drop_step d chain n h (hs ++ rest) e in
    Memᴰ.tail (heights_member chain d j k (suc n) hs rest z.2 (omega arith) (omega arith))

heights_length : (n : ℕ) (hs : List Hash) → length (heights_from n hs) ≡ length hs
unfolding heights_from
heights_length n [] = refl
heights_length n (h ∷ hs) = ap suc (heights_length (suc n) hs)

heights_times : (h : Hash) (n : ℕ) (hs : List Hash) → times h (heights_from n hs) ≡ count (same h) hs
unfolding heights_from count
heights_times h n [] = refl
heights_times h n (x ∷ hs) = elim (both (same h x)) [
  | inl e ↦ rw e (ap suc (heights_times h (suc n) hs))
  | inr e ↦ rw e (heights_times h (suc n) hs)
]

-- ---- rising by height, from lo on

abbrev pub Higher : ℕ → List Ask → Type 0
Higher lo [] = Unit {0}
Higher lo (a ∷ ks) = (lo ≤ a.height) × Higher (suc a.height) ks

heights_higher : (n : ℕ) (hs : List Hash) → Higher n (heights_from n hs)
unfolding heights_from
heights_higher n [] = tt
heights_higher n (h ∷ hs) = (omega arith, heights_higher (suc n) hs)

higher_weaken : (lo lo' : ℕ) (ks : List Ask) → lo' ≤ lo → Higher lo ks → Higher lo' ks
higher_weaken lo lo' [] b r = tt
higher_weaken lo lo' (a ∷ ks) b r = (omega arith, r.1)

pub higher_select : (p : Ask → Bool) (lo : ℕ) (ks : List Ask) → Higher lo ks → Higher lo (select p ks)
unfolding select
higher_select p lo [] r = tt
higher_select p lo (a ∷ ks) r = elim (both (p a)) [
  | inl e ↦ rw e (r.0, higher_select p (suc a.height) ks r.1)
  | inr e ↦ rw e (higher_weaken (suc a.height) lo (select p ks) (omega arith) (higher_select p (suc a.height) ks r.1))
]

higher_at : (lo : ℕ) (a : Ask) (ks : List Ask) → Memᴰ a ks → Higher lo ks → lo ≤ a.height
higher_at lo a [] m r = elim m [ ]
higher_at lo a (x ∷ ks) (Memᴰ.head e) r = omega (arith, ap (λ (y : Ask). y.height) e)
higher_at lo a (x ∷ ks) (Memᴰ.tail m) r = omega (arith, higher_at (suc x.height) a ks m r.1)

-- an entry is among the first n, or these are all lower
pub first_or_lower : (n lo : ℕ) (a : Ask) (ks : List Ask) → Memᴰ a ks → Higher lo ks → Memᴰ a (take n ks) ⊎ Every (λ x. x.height < a.height) (take n ks)
first_or_lower zero lo a ks m r = inr tt
first_or_lower (suc n) lo a [] m r = elim m [ ]
first_or_lower (suc n) lo a (x ∷ ks) (Memᴰ.head e) r = inl (Memᴰ.head e)
first_or_lower (suc n) lo a (x ∷ ks) (Memᴰ.tail m) r = elim (first_or_lower n (suc x.height) a ks m r.1) [
  | inl k ↦ inl (Memᴰ.tail k)
  | inr k ↦ inr (higher_at (suc x.height) a ks m r.1, k)
]

-- ---- a stretch of the chain

module _ (first last : ℕ) (chain : List ℕ) where
  abbrev stretch : List Hash
  stretch = take (suc last - first) (drop first (hashes_in chain))

  abbrev rest : List Hash
  rest = drop (suc last - first) (drop first (hashes_in chain))

  parts : drop first (hashes_in chain) ≡ stretch ++ rest
  parts = sym (take-append-drop (suc last - first) (drop first (hashes_in chain)))

  pub contiguous_stands : Every (Stands (hashes_in chain) first last) (contiguous_request_entries first last chain)
  unfolding contiguous_request_entries
  contiguous_stands = heights_stand (hashes_in chain) last first stretch rest parts (rw length-take (omega arith))

  pub contiguous_member : (d : Hash) (n : ℕ) → first ≤ n → n ≤ last → n < length (hashes_in chain) → Memᴰ (ask (get_or (hashes_in chain) n d) n) (contiguous_request_entries first last chain)
  unfolding contiguous_request_entries
  contiguous_member d n a b c =
      heights_member (hashes_in chain) d n (n - first) first stretch rest parts (omega arith) (rw (length-take, length-drop) (omega arith))

  pub contiguous_few : length (contiguous_request_entries first last chain) ≤ suc last - first
  unfolding contiguous_request_entries
  contiguous_few = rw (heights_length first stretch, length-take) (omega arith)

  pub contiguous_many : last < length (hashes_in chain) → length (contiguous_request_entries first last chain) ≡ suc last - first
  unfolding contiguous_request_entries
  contiguous_many b = rw (heights_length first stretch, length-take, length-drop) (omega arith)

  pub contiguous_higher : Higher first (contiguous_request_entries first last chain)
  unfolding contiguous_request_entries
  contiguous_higher = heights_higher first stretch

  pub contiguous_once : NamesOnce (hashes_in chain) → Once (contiguous_request_entries first last chain)
  unfolding contiguous_request_entries
  contiguous_once f h =
      omega (arith, heights_times h first stretch, count_take (same h) (suc last - first) (drop first (hashes_in chain)), count_drop (same h) first (hashes_in chain), f h)
