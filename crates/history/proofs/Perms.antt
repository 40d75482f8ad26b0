-- What `Same` says in plain words: over a type with decidable equality, two lists that every weight finds equal are permutations of one another.
-- Assumes nothing.
use Rattle.std.specs.Prelude.{◌≡◌, ℕ, ◌+◌, ◌≤◌}
use Rattle.std.proofs.Math.Path.{refl, subst}
use Rattle.std.proofs.Common.{ap, arith}
use mathlib.Core.List.Permᴰ
use mathlib.Core.List.{List, [], ◌∷◌, Permᴰ}
use mathlib.Core.List.{List-discrete}
use Rattle.std.proofs.Math.Decide.{map_dec, ℕ_discrete}
use Rattle.model.specs.declared.Entry.{Entry}
use Rattle.laws.specs.Bag.{weigh, Same, Pick, here, there, pick_weigh}
use Rattle.history.specs.Book.{Mark}

module _ {A : Type 0} where
  pick_perm : {a : A} {l m : List A} → Pick a l m → Permᴰ (a ∷ m) l
  pick_perm {a} (here {l = l}) = Permᴰ.refl (a ∷ l)
  pick_perm (there p) = Permᴰ.trans (Permᴰ.swap refl refl) (Permᴰ.cons refl (pick_perm p))

  module _ (dec : Discrete A) where
    weigh_dec : {a x : A} → Dec (a ≡ x) → ℕ
    weigh_dec (yes q) = 1
    weigh_dec (no q) = 0

    pub hits : A → A → ℕ
    hits a x = weigh_dec (dec a x)

    weigh_self : (a : A) (d : Dec (a ≡ a)) → weigh_dec d ≡ 1
    unfolding weigh_dec
    weigh_self a (yes q) = refl
    weigh_self a (no q) = absurd (q refl)

    pub hits_self : (a : A) → hits a a ≡ 1
    unfolding hits
    hits_self a = weigh_self a (dec a a)

    -- an element that is there can be picked
    pub find : (a : A) (l : List A) → 1 ≤ weigh (hits a) l → (m : List A) × Pick a l m
    unfolding weigh hits weigh_dec
    find a [] h = absurd (omega arith)
    find a (x ∷ l) h = by (dec a x) h (λ k. find a l k)
      where
        by : (d : Dec (a ≡ x)) → 1 ≤ weigh_dec d + weigh (hits a) l → (1 ≤ weigh (hits a) l → (m : List A) × Pick a l m) → (m : List A) × Pick a (x ∷ l) m
        by (yes q) h f = (l, subst (λ y. Pick a (y ∷ l) l) q here)
        by (no q) h f = let r = f (omega arith) in (x ∷ r.0, there r.1)

    pub same_perm : (xs ys : List A) → Same xs ys → Permᴰ xs ys
    unfolding weigh
    same_perm [] [] s = Permᴰ.nil
    same_perm [] (y ∷ ys) s = absurd (omega (arith, s (λ x. 1)))
    same_perm (x ∷ xs) ys s =
        let r = find x ys (omega (arith, s (hits x), hits_self x)) in
        Permᴰ.trans (Permᴰ.cons refl (same_perm xs r.0 (λ f. omega (arith, s f, pick_weigh f r.1)))) (pick_perm r.1)

-- ---- decidable equality of records of numbers: through the list of their fields

entry_code : Entry → List ℕ
entry_code e = e.hash.a ∷ e.hash.b ∷ e.hash.c ∷ e.hash.d ∷ e.owner ∷ e.time ∷ e.height ∷ e.estimate ∷ []

entry_path : (e f : Entry) → entry_code e ≡ entry_code f → e ≡ f
unfolding entry_code
entry_path e f q =
    let p : e.hash.a ≡ f.hash.a = cc in
    let r : e.hash.b ≡ f.hash.b = cc in
    let s : e.hash.c ≡ f.hash.c = cc in
    let t : e.hash.d ≡ f.hash.d = cc in
    let b : e.owner ≡ f.owner = cc in
    let c : e.time ≡ f.time = cc in
    let d : e.height ≡ f.height = cc in
    let g : e.estimate ≡ f.estimate = cc in
    λ i. record { hash = record { a = p i; b = r i; c = s i; d = t i }; owner = b i; time = c i; height = d i; estimate = g i }

pub entry_discrete : Discrete Entry
entry_discrete e f = map_dec (entry_path e f) (ap entry_code) (List-discrete ℕ_discrete (entry_code e) (entry_code f))

mark_code : Mark → List ℕ
mark_code n = n.call ∷ n.place ∷ n.reason ∷ entry_code n.entry

mark_path : (m n : Mark) → mark_code m ≡ mark_code n → m ≡ n
unfolding mark_code
mark_path m n q =
    let a : m.call ≡ n.call = cc in
    let b : m.place ≡ n.place = cc in
    let c : m.reason ≡ n.reason = cc in
    let r : entry_code m.entry ≡ entry_code n.entry = cc in
    let d = entry_path m.entry n.entry r in
    λ i. record { call = a i; place = b i; reason = c i; entry = d i }

pub mark_discrete : Discrete Mark
mark_discrete m n = map_dec (mark_path m n) (ap mark_code) (List-discrete ℕ_discrete (mark_code m) (mark_code n))
