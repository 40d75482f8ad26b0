-- Laws of the entries: what an insertion, a removal and a sifting do to every weight, to the order and to the oldest times. Assumes nothing.
use Rattle.std.specs.Prelude.{◌≡◌, false, cond, ℕ, zero, suc, ◌+◌, ◌≤◌, ◌<◌, eqb, ltb, None, Some, Option}
use Rattle.std.proofs.Math.Path.{refl}
use Rattle.std.proofs.Common.{ap, eqb-true, ltb-true, ltb-false, eq-eqb, ne_eqb}
use Rattle.std.proofs.Math.Logic.{inl, inr}
use mathlib.Core.List.{List, [], ◌∷◌, ◌++◌}
use native.Mathlib.Omega.{arith}
use Rattle.model.specs.Hash.{key, same, less}
use Rattle.model.specs.Records.{insert, remove, found, sum}
use Rattle.model.specs.Seats.{sooner, oldest}
use Rattle.model.specs.LettingGo.{if_gone, if_kept, gone, kept}
use Rattle.model.specs.declared.Hash.{Hash}
use Rattle.model.specs.declared.Entry.{Entry}
use Rattle.model.specs.declared.Release.{Release}
use Rattle.laws.specs.Numbers.{both, lesser_le_first, lesser_le_second, le_lesser}
use Rattle.laws.specs.Bag.{weigh, one, Pick, here, there, pick_weigh}

-- ---- weights

-- f at the entries whose hash is the number h, and f at the others
unfoldable pub on : ℕ → (Entry → ℕ) → Entry → ℕ
on h f e = cond (eqb (key e.hash) h) (f e) 0

unfoldable pub off : ℕ → (Entry → ℕ) → Entry → ℕ
off h f e = cond (eqb (key e.hash) h) 0 (f e)

-- how many have that hash
abbrev pub with_hash : ℕ → List Entry → ℕ
with_hash h l = weigh (on h one) l

abbrev pub estimate_of : Entry → ℕ
estimate_of e = e.estimate

pub sum_weigh : (l : List Entry) → sum l ≡ weigh estimate_of l
unfolding sum weigh
sum_weigh [] = refl
sum_weigh (e ∷ l) = omega (arith, sum_weigh l)

module _ (h : ℕ) (f : Entry → ℕ) where
  -- a hash that no entry has
  pub on_none : (l : List Entry) → with_hash h l ≡ 0 → weigh (on h f) l ≡ 0
  unfolding weigh on
  on_none [] z = refl
  on_none (x ∷ l) z = elim (both (eqb (key x.hash) h)) [
    | inl e ↦ let z' = rw e at z in omega arith
    | inr e ↦ let z' = rw e at z in rw e (omega (arith, on_none l (omega arith)))
  ]

  pub off_none : (l : List Entry) → with_hash h l ≡ 0 → weigh (off h f) l ≡ weigh f l
  unfolding weigh on off
  off_none [] z = refl
  off_none (x ∷ l) z = elim (both (eqb (key x.hash) h)) [
    | inl e ↦ let z' = rw e at z in omega arith
    | inr e ↦ let z' = rw e at z in rw e (omega (arith, off_none l (omega arith)))
  ]

  -- at an entry of that hash
  pub on_self : (e : Entry) → key e.hash ≡ h → on h f e ≡ f e
  unfolding on
  on_self e q = rw (eq-eqb (key e.hash) h q)

  pub off_self : (e : Entry) → key e.hash ≡ h → off h f e ≡ 0
  unfolding off
  off_self e q = rw (eq-eqb (key e.hash) h q)

  pub on_other : (e : Entry) → (key e.hash ≡ h → ⊥) → on h f e ≡ 0
  unfolding on
  on_other e q = rw (ne_eqb (key e.hash) h q)

-- ---- strictly rising by hash, from lo on

abbrev pub Rising : ℕ → List Entry → Type 0
Rising lo [] = Unit {0}
Rising lo (e ∷ l) = (lo ≤ key e.hash) × Rising (suc (key e.hash)) l

pub rising_weaken : (lo lo' : ℕ) (l : List Entry) → lo' ≤ lo → Rising lo l → Rising lo' l
rising_weaken lo lo' [] h r = tt
rising_weaken lo lo' (e ∷ l) h r = (omega arith, r.1)

pub rising_none : (lo : ℕ) (l : List Entry) (h : ℕ) → h < lo → Rising lo l → with_hash h l ≡ 0
unfolding weigh on
rising_none lo [] h b r = refl
rising_none lo (e ∷ l) h b r =
    let q : eqb (key e.hash) h ≡ false = ne_eqb (key e.hash) h (λ (p : key e.hash ≡ h). omega arith) in
    rw q (omega (arith, rising_none (suc (key e.hash)) l h (omega arith) r.1))

-- so no hash stands twice
pub rising_one : (lo : ℕ) (l : List Entry) (h : ℕ) → Rising lo l → with_hash h l ≤ 1
unfolding weigh on
rising_one lo [] h r = omega arith
rising_one lo (e ∷ l) h r = elim (both (eqb (key e.hash) h)) [
  | inl q ↦ rw q (omega (arith, rising_none (suc (key e.hash)) l h (omega (arith, eqb-true)) r.1))
  | inr q ↦ rw q (omega (arith, rising_one (suc (key e.hash)) l h r.1))
]

pub rising_pick : {e : Entry} {l m : List Entry} (lo : ℕ) → Pick e l m → Rising lo l → Rising lo m
rising_pick lo (here {l = l}) r = rising_weaken _ lo l (omega arith) r.1
rising_pick lo (there p) r = (r.0, rising_pick _ p r.1)

-- ---- insertion and removal are picks

pub insert_pick : (e : Entry) (l : List Entry) → Pick e (insert e l) l
unfolding insert
insert_pick e [] = here
insert_pick e (x ∷ l) = elim (both (less e.hash x.hash)) [
  | inl q ↦ rw q here
  | inr q ↦ rw q (there (insert_pick e l))
]

pub none_cons : (h : ℕ) (x : Entry) (l : List Entry) → with_hash h (x ∷ l) ≡ 0 → (key x.hash ≡ h → ⊥) × (with_hash h l ≡ 0)
unfolding weigh
none_cons h x l z = ((λ q. omega (arith, on_self h one x q)), omega arith)

pub insert_rising : (lo : ℕ) (e : Entry) (l : List Entry) → lo ≤ key e.hash → with_hash (key e.hash) l ≡ 0 → Rising lo l → Rising lo (insert e l)
unfolding insert less
insert_rising lo e [] b z r = (b, tt)
insert_rising lo e (x ∷ l) b z r =
    let n = none_cons (key e.hash) x l z in
    elim (both (ltb (key e.hash) (key x.hash))) [
      | inl q ↦ rw q (b, (omega (arith, ltb-true), r.1))
      | inr q ↦ rw q (r.0, insert_rising (suc (key x.hash)) e l (omega (arith, n.0, ltb-false)) n.1 r.1)
    ]

pub remove_pick : {e : Entry} {l m : List Entry} → with_hash (key e.hash) l ≤ 1 → Pick e l m → remove e.hash l ≡ m
unfolding remove weigh same
remove_pick {e} b here = rw (eq-eqb (key e.hash) (key e.hash) refl)
remove_pick {e} b (there {x = x} {l = l} {m = m} p) = elim (both (eqb (key x.hash) (key e.hash))) [
  | inl q ↦ absurd (omega (arith, pick_weigh (on (key e.hash) one) p, on_self (key e.hash) one e refl, on_self (key e.hash) one x (eqb-true (key x.hash) (key e.hash) q)))
  | inr q ↦ rw q (ap {B = List Entry} (λ t. x ∷ t) (remove_pick (omega arith) p))
]

-- ---- an entry that is found

-- what `found` says: nothing of that hash, or an entry of it, and what is left without it
pub data Finding (h : Hash) (l : List Entry) : Option Entry → Type 0 where
  missing : with_hash (key h) l ≡ 0 → Finding h l None
  at : {e : Entry} {m : List Entry} → key e.hash ≡ key h → Pick e l m → Finding h l (Some e)

found_cons : {h : Hash} {x : Entry} {l : List Entry} {r : Option Entry} → eqb (key x.hash) (key h) ≡ false → Finding h l r → Finding h (x ∷ l) r
unfolding weigh on
found_cons q (missing z) = missing (rw q (omega arith))
found_cons q (at k p) = at k (there p)

pub found_is : (h : Hash) (l : List Entry) → Finding h l (found h l)
unfolding found same weigh
found_is h [] = missing refl
found_is h (x ∷ l) = elim (both (eqb (key x.hash) (key h))) [
  | inl q ↦ rw q (at (eqb-true (key x.hash) (key h) q) here)
  | inr q ↦ rw q (found_cons q (found_is h l))
]

-- ---- a chain of picks: the entries of a report go one after another

pub data Picks : List Release → List Entry → List Entry → Type 0 where
  done : {l : List Entry} → Picks [] l l
  more : {g : Release} {gs : List Release} {l m n : List Entry} → Pick g.entry l m → Picks gs m n → Picks (g ∷ gs) l n

pub picks_there : {gs : List Release} {l m : List Entry} (x : Entry) → Picks gs l m → Picks gs (x ∷ l) (x ∷ m)
picks_there x done = done
picks_there x (more p ps) = more (there p) (picks_there x ps)

-- a weight of entries, at releases
abbrev pub by_entry : (Entry → ℕ) → Release → ℕ
by_entry f g = f g.entry

pub picks_weigh : {gs : List Release} {l m : List Entry} (f : Entry → ℕ) → Picks gs l m → weigh f l ≡ weigh (by_entry f) gs + weigh f m
unfolding weigh
picks_weigh f done = omega arith
picks_weigh f (more p ps) = omega (arith, pick_weigh f p, picks_weigh f ps)

pub picks_rising : {gs : List Release} {l m : List Entry} (lo : ℕ) → Picks gs l m → Rising lo l → Rising lo m
picks_rising lo done r = r
picks_rising lo (more p ps) r = picks_rising lo ps (rising_pick lo p r)

pub picks_append : {gs hs : List Release} {l m n : List Entry} → Picks gs l m → Picks hs m n → Picks (gs ++ hs) l n
picks_append done qs = qs
picks_append (more p ps) qs = more p (picks_append ps qs)

sift_one : {x : Entry} {l m : List Entry} {gs : List Release} (r : ℕ) → Picks gs l m → Picks (if_gone r x gs) (x ∷ l) (if_kept r x m)
sift_one {x} zero p = picks_there x p
sift_one (suc r) p = more here p

-- what a sifting lets go is picked out of the list, and what it keeps is left
pub sift : (goes : Entry → ℕ) (l : List Entry) → Picks (gone goes l) l (kept goes l)
unfolding gone kept
sift goes [] = done
sift goes (x ∷ l) = sift_one (goes x) (sift goes l)

-- ---- a fact of every entry

module _ (P : Entry → Type 0) where
  abbrev pub Each : List Entry → Type 0
  Each [] = Unit {0}
  Each (e ∷ l) = P e × Each l

  pub each_pick : {e : Entry} {l m : List Entry} → Pick e l m → Each l → Each m
  each_pick here a = a.1
  each_pick (there p) a = (a.0, each_pick p a.1)

  pub each_unpick : {e : Entry} {l m : List Entry} → Pick e l m → P e → Each m → Each l
  each_unpick here x a = (x, a)
  each_unpick (there p) x a = (a.0, each_unpick p x a.1)

  pub each_picks : {gs : List Release} {l m : List Entry} → Picks gs l m → Each l → Each m
  each_picks done a = a
  each_picks (more p ps) a = each_picks ps (each_pick p a)

pub each_map : {P Q : Entry → Type 0} → ((e : Entry) → P e → Q e) → (l : List Entry) → Each P l → Each Q l
each_map f [] a = tt
each_map f (e ∷ l) a = (f e a.0, each_map f l a.1)

-- ---- the oldest time of a seat

-- 1 at an entry of the seat s
unfoldable pub owned : ℕ → Entry → ℕ
owned s e = cond (eqb e.owner s) 1 0

-- 1 at an entry of the seat s whose stored time is below b
unfoldable pub early : ℕ → ℕ → Entry → ℕ
early s b e = cond (eqb e.owner s) (cond (ltb (suc e.time) b) 1 0) 0

pub sooner_le : (t o : ℕ) → (sooner t o ≤ t) × (0 < o → sooner t o ≤ o)
sooner_le t zero = (omega arith, λ h. absurd (omega arith))
sooner_le t (suc o) = (lesser_le_first t (suc o), λ h. lesser_le_second t (suc o))

pub sooner_ge : (z t o : ℕ) → z ≤ t → (0 < o → z ≤ o) → z ≤ sooner t o
sooner_ge z t zero p q = p
sooner_ge z t (suc o) p q = le_lesser t (suc o) z p (q (omega arith))

-- a seat has an oldest time exactly where it owns an entry
pub oldest_none : (s : ℕ) (l : List Entry) → (oldest s l ≡ 0 → weigh (owned s) l ≡ 0) × (weigh (owned s) l ≡ 0 → oldest s l ≡ 0)
unfolding weigh oldest owned
oldest_none s [] = (λ q. refl, λ q. refl)
oldest_none s (e ∷ l) = let r = oldest_none s l in elim (both (eqb e.owner s)) [
  | inl q ↦ rw q ((λ z. absurd (omega (arith, sooner_ge 1 (suc e.time) (oldest s l) (omega arith) (λ h. h)))), (λ z. absurd (omega arith)))
  | inr q ↦ rw q ((λ z. omega (arith, r.0 z)), (λ z. r.1 (omega arith)))
]

-- no entry is earlier than the oldest
pub oldest_first : (s b : ℕ) (l : List Entry) → (0 < oldest s l → b ≤ oldest s l) → weigh (early s b) l ≡ 0
unfolding weigh oldest early
oldest_first s b [] h = refl
oldest_first s b (e ∷ l) h = elim (both (eqb e.owner s)) [
  | inl q ↦
      let k : b ≤ sooner (suc e.time) (oldest s l) = (rw q at h) (sooner_ge 1 (suc e.time) (oldest s l) (omega arith) (λ g. g)) in
      let le = sooner_le (suc e.time) (oldest s l) in
      let n : ltb (suc e.time) b ≡ false = elim (both (ltb (suc e.time) b)) [ inl j ↦ absurd (omega (arith, ltb-true (suc e.time) b j)) | inr j ↦ j ] in
      simp (q, n) (omega (arith, oldest_first s b l (λ g. omega (arith, le.1 g))))
  | inr q ↦ let h' = rw q at h in rw q (omega (arith, oldest_first s b l h'))
]

pub first_oldest : (s b : ℕ) (l : List Entry) → weigh (early s b) l ≡ 0 → 0 < oldest s l → b ≤ oldest s l
unfolding weigh oldest early
first_oldest s b [] z h = absurd (omega arith)
first_oldest s b (e ∷ l) z h = elim (both (eqb e.owner s)) [
  | inl q ↦ elim (both (ltb (suc e.time) b)) [
    | inl j ↦ let z' = simp (q, j) at z in absurd (omega arith)
    | inr j ↦ let z' = simp (q, j) at z in rw q (sooner_ge b (suc e.time) (oldest s l) (ltb-false (suc e.time) b j) (λ g. first_oldest s b l (omega arith) g))
  ]
  | inr q ↦ let z' = rw q at z in let h' = rw q at h in rw q (first_oldest s b l (omega arith) h')
]

-- the oldest time after an insertion or before a removal
unfoldable pub with_time : ℕ → Entry → ℕ → ℕ
with_time s e o = cond (eqb e.owner s) (sooner (suc e.time) o) o

sooner_comm : (a b o : ℕ) → sooner (suc a) (sooner (suc b) o) ≡ sooner (suc b) (sooner (suc a) o)
sooner_comm a b o =
    let p = sooner_le (suc a) (sooner (suc b) o) in
    let q = sooner_le (suc b) (sooner (suc a) o) in
    let x = sooner_le (suc a) o in
    let y = sooner_le (suc b) o in
    let x' = sooner_ge 1 (suc a) o (omega arith) (λ g. g) in
    let y' = sooner_ge 1 (suc b) o (omega arith) (λ g. g) in
    let l : sooner (suc a) (sooner (suc b) o) ≤ sooner (suc b) (sooner (suc a) o) =
    sooner_ge _ (suc b) _ (omega (arith, p.1 y')) (λ g. sooner_ge _ (suc a) o p.0 (λ k. omega (arith, p.1 y', y.1 k))) in
    let r : sooner (suc b) (sooner (suc a) o) ≤ sooner (suc a) (sooner (suc b) o) =
    sooner_ge _ (suc a) _ (omega (arith, q.1 x')) (λ g. sooner_ge _ (suc b) o q.0 (λ k. omega (arith, q.1 x', x.1 k))) in
    omega arith

with_time_comm : (s : ℕ) (x e : Entry) (o : ℕ) → with_time s x (with_time s e o) ≡ with_time s e (with_time s x o)
unfolding with_time
with_time_comm s x e o = elim (both (eqb x.owner s)) [
  | inl p ↦ elim (both (eqb e.owner s)) [ inl q ↦ simp (p, q) (sooner_comm _ _ o) | inr q ↦ simp (p, q) ]
  | inr p ↦ simp p
]

pub oldest_pick : {e : Entry} {l m : List Entry} (s : ℕ) → Pick e l m → oldest s l ≡ with_time s e (oldest s m)
unfolding oldest with_time
oldest_pick s here = refl
oldest_pick {e} s (there {x = x} {m = m} p) = rw (oldest_pick s p) (with_time_comm s x e (oldest s m))
