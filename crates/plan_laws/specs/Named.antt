-- How often a list names a hash, and what `first_named` leaves of it. Assumes nothing.
use Rattle.std.specs.Prelude.{◌≡◌, refl, true, false, not, ◌||◌, List, [], ◌∷◌, map, ℕ, suc, ◌≤◌, eqb, length}
use Rattle.std.proofs.Common.{sym, ap, ◌∙◌, inl, inr, true≢false, arith, eqb-true, eq-eqb, ne_eqb}
use Rattle.std.proofs.lemmas.Bool.{eqb-false}
use Rattle.model.specs.Lists.{any, select, count}
use Rattle.model.specs.Hash.{key, same}
use Rattle.model.specs.Window.{Window}
use Rattle.model.specs.Records.{found, is_there}
use Rattle.model.specs.Calls.{Ask}
use Rattle.model.specs.Refusals.{listed_once}
use Rattle.model.specs.Planning.{is_pending, first_named}
use Rattle.model.specs.declared.Hash.{Hash}
use Rattle.model.specs.declared.Entry.{Entry}
use Rattle.laws.specs.Numbers.{both}
use Rattle.laws.specs.Every.{and_so}
use Rattle.plan_laws.specs.Lists.{Every, every_map, any_none, count_or, count_alike, zero_any, any_alike, select_alike}

-- ---- hashes

pub same_self : (h : Hash) → same h h ≡ true
unfolding same
same_self h = eq-eqb (key h) (key h) refl

pub same_comm : (g h : Hash) → same g h ≡ same h g
unfolding same
same_comm g h = elim (both (eqb (key g) (key h))) [
  | inl q ↦ rw q (sym (eq-eqb (key h) (key g) (sym (eqb-true (key g) (key h) q))))
  | inr q ↦ rw q (sym (ne_eqb (key h) (key g) (λ (e : key h ≡ key g). eqb-false (key g) (key h) q (sym e))))
]

same_swap : (g h x : Hash) → same g h ≡ true → same g x ≡ same h x
unfolding same
same_swap g h x e = ap (λ (n : ℕ). eqb n (key x)) (eqb-true (key g) (key h) e)

any_swap : (g h : Hash) → same g h ≡ true → (hs : List Hash) → any (same g) hs ≡ any (same h) hs
any_swap g h e hs = any_alike (same g) (same h) (λ x. same_swap g h x e) hs

-- no hash stands twice in the list
abbrev pub NamesOnce : List Hash → Type 0
NamesOnce hs = (h : Hash) → count (same h) hs ≤ 1

-- ---- asks

-- how many of them name h
abbrev pub times : Hash → List Ask → ℕ
times h ks = count (λ a. same h a.hash) ks

abbrev pub hashes_of : List Ask → List Hash
hashes_of ks = map (λ a. a.hash) ks

abbrev pub Once : List Ask → Type 0
Once ks = (h : Hash) → times h ks ≤ 1

pub times_hashes : (h : Hash) (ks : List Ask) → count (same h) (hashes_of ks) ≡ times h ks
unfolding count
times_hashes h [] = refl
times_hashes h (a ∷ ks) = elim (both (same h a.hash)) [
  | inl e ↦ rw e (ap suc (times_hashes h ks))
  | inr e ↦ rw e (times_hashes h ks)
]

pub any_hashes : (h : Hash) (ks : List Ask) → any (same h) (hashes_of ks) ≡ any (λ a. same h a.hash) ks
unfolding any
any_hashes h [] = refl
any_hashes h (a ∷ ks) = rw (any_hashes h ks)

times_rest : (h : Hash) (a : Ask) (ks : List Ask) → times h ks ≤ times h (a ∷ ks)
unfolding count
times_rest h a ks = elim (both (same h a.hash)) [
  | inl e ↦ rw e (omega arith)
  | inr e ↦ rw e (omega arith)
]

times_self : (a : Ask) (ks : List Ask) → times a.hash (a ∷ ks) ≡ suc (times a.hash ks)
unfolding count
times_self a ks = rw (same_self a.hash)

once_rest : (a : Ask) (ks : List Ask) → Once (a ∷ ks) → Once ks
once_rest a ks f h = omega (arith, times_rest h a ks, f h)

-- the first is not named again
once_first : (a : Ask) (ks : List Ask) → Once (a ∷ ks) → any (λ x. same a.hash x.hash) ks ≡ false
once_first a ks f = zero_any (λ x. same a.hash x.hash) ks (omega (arith, times_self a ks, f a.hash))

-- refusal 7's own test
pub once_listed : (ks : List Ask) → Once ks → listed_once ks ≡ true
unfolding listed_once
once_listed [] f = refl
once_listed (a ∷ ks) f =
    let other : any (λ x. same x.hash a.hash) ks ≡ false =
    any_alike (λ x. same x.hash a.hash) (λ x. same a.hash x.hash) (λ x. same_comm x.hash a.hash) ks ∙ once_first a ks f in
    and_so (ap not other) (once_listed ks (once_rest a ks f))

-- of asks that name no hash twice at most as many are named by a list as it is long
pub count_named : (hs : List Hash) (ks : List Ask) → Once ks → count (λ a. any (same a.hash) hs) ks ≤ length hs
unfolding any count
count_named [] ks f = omega (arith, never ks)
  where
    never : (l : List Ask) → count (λ a. false) l ≡ 0
    never [] = refl
    never (a ∷ l) = never l
count_named (h ∷ hs) ks f =
    omega (arith, count_or (λ a. same a.hash h) (λ a. any (same a.hash) hs) ks, count_alike (λ a. same a.hash h) (λ a. same h a.hash) (λ a. same_comm a.hash h) ks, f h, count_named hs ks f)

-- the pending entries as a list of hashes
abbrev pub pending_hashes : Window → List Hash
pending_hashes w = map (λ e. e.hash) w.queue.pending

found_named : (h : Hash) (es : List Entry) → is_there (found h es) ≡ any (same h) (map (λ e. e.hash) es)
unfolding found any
found_named h [] = refl
found_named h (x ∷ es) = rw (same_comm x.hash h) (elim (both (same h x.hash)) [
  | inl e ↦ rw e
  | inr e ↦ rw e (found_named h es)
])

pub pending_named : (w : Window) (a : Ask) → is_pending w a ≡ any (same a.hash) (pending_hashes w)
unfolding is_pending
pending_named w a = found_named a.hash w.queue.pending

-- ---- `first_named`

-- it names each hash once, and none that was seen
pub first_named_times : (h : Hash) (seen : List Hash) (ks : List Ask) → (times h (first_named seen ks) ≤ 1) × (any (same h) seen ≡ true → times h (first_named seen ks) ≡ 0)
unfolding first_named count any
first_named_times h seen [] = (omega arith, λ e. refl)
first_named_times h seen (a ∷ ks) = elim (both (any (same a.hash) seen)) [
  | inl s ↦ rw s (first_named_times h seen ks)
  | inr s ↦ rw s (let r = first_named_times h (a.hash ∷ seen) ks in elim (both (same h a.hash)) [
    | inl e ↦ rw e (omega (arith, r.1 (rw e)), λ m. absurd (true≢false (sym m ∙ any_swap h a.hash e seen ∙ s)))
    | inr e ↦ rw e (r.0, λ m. r.1 (rw e m))
  ])
]

pub first_named_every : (P : Ask → Type 0) (seen : List Hash) (ks : List Ask) → Every P ks → Every P (first_named seen ks)
unfolding first_named
first_named_every P seen [] p = tt
first_named_every P seen (a ∷ ks) p = elim (both (any (same a.hash) seen)) [
  | inl s ↦ rw s (first_named_every P seen ks p.1)
  | inr s ↦ rw s (p.0, first_named_every P (a.hash ∷ seen) ks p.1)
]

pub first_named_length : (seen : List Hash) (ks : List Ask) → length (first_named seen ks) ≤ length ks
unfolding first_named
first_named_length seen [] = omega arith
first_named_length seen (a ∷ ks) = elim (both (any (same a.hash) seen)) [
  | inl s ↦ rw s (omega (arith, first_named_length seen ks))
  | inr s ↦ rw s (omega (arith, first_named_length (a.hash ∷ seen) ks))
]

-- of asks that name no hash twice it leaves all that were not seen
pub first_named_select : (seen : List Hash) (ks : List Ask) → Once ks → first_named seen ks ≡ select (λ a. not (any (same a.hash) seen)) ks
unfolding first_named select any
first_named_select seen [] f = refl
first_named_select seen (a ∷ ks) f = elim (both (any (same a.hash) seen)) [
  | inl s ↦ rw s (first_named_select seen ks (once_rest a ks f))
  | inr s ↦
      let other : Every (λ x. same a.hash x.hash ≡ false) ks = any_none (λ x. same a.hash x.hash) ks (once_first a ks f) in
      let alike = every_map (λ x. same a.hash x.hash ≡ false)
      (λ x. not (same x.hash a.hash || any (same x.hash) seen) ≡ not (any (same x.hash) seen)) (λ x e. rw (same_comm x.hash a.hash, e)) ks other in
      rw s (λ i. a ∷ (first_named_select (a.hash ∷ seen) ks (once_rest a ks f) ∙ select_alike _ _ ks alike) i)
]
