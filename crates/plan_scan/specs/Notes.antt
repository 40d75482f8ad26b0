-- The first refused height that the scan met holds the next height back as the lowest of all in reach does: heights rise, and where the scan stops
-- early, what it did not look at is not below the next height. Assumes nothing.
use Rattle.std.specs.Prelude.{◌≡◌, Bool, cond, ◌||◌, ℕ, suc, ◌≤◌, min, max, eqb, leb, None, Some, Option}
use Rattle.std.proofs.Math.Path.{refl, sym, ap, subst}
use Rattle.std.proofs.Common.{◌∙◌, arith, eqb-true, leb-true, leb-false}
use Rattle.std.proofs.Math.Logic.{inl, inr}
use Rattle.std.proofs.Math.Bool.{true, false}
use mathlib.Core.List.{List, [], ◌∷◌, ◌++◌}
use Rattle.model.specs.Numbers.{lesser, greater, next_height, max_height}
use Rattle.model.specs.Lists.{any, select}
use Rattle.model.specs.Hash.{same}
use Rattle.model.specs.Window.{Window}
use Rattle.model.specs.Records.{found, is_there}
use Rattle.model.specs.Calls.{Ask}
use Rattle.model.specs.Planning.{Lent, ask, names, is_refused, first_named, heights_from, lower_of, noticed, held_back}
use Rattle.model.specs.declared.Hash.{Hash}
use Rattle.model.specs.declared.Entry.{Entry}
use Rattle.laws.specs.Numbers.{both, lesser_first, lesser_le_first, greater_le}
use Rattle.plan_look.specs.declared.Look.{Look}
use Rattle.plan_look.specs.declared.Look.TheVariants.{PassBy, NoteRefused, Take}
use Rattle.plan_look.specs.Scan.{Scanned, plan_hashes, passes, first_of, look, looked, scan_over, scan_by, scan_full}
use Rattle.plan_scan.specs.Found.{opens, opens_skip, opens_new, look_is, plan_more}

-- ---- numbers, as omega reads them

pub lesser_min : (a b : ℕ) → lesser a b ≡ min a b
unfolding lesser
lesser_min a b = elim (both (leb a b)) [ inl q ↦ rw q (omega (arith, leb-true a b q)) | inr q ↦ rw q (omega (arith, leb-false a b q)) ]

pub greater_max : (a b : ℕ) → greater a b ≡ max a b
unfolding greater
greater_max a b = elim (both (leb a b)) [ inl q ↦ rw q (omega (arith, leb-true a b q)) | inr q ↦ rw q (omega (arith, leb-false a b q)) ]

next_le : (n : ℕ) → next_height n ≤ suc n
unfolding next_height
next_le n = lesser_le_first (suc n) max_height

-- ---- the lower of two heights that may be missing

abbrev pub lower_by : Option ℕ → Option ℕ → Option ℕ
lower_by low None = low
lower_by low (Some n) = lower_of low n

lower_twice : (low found : Option ℕ) (n : ℕ) → lower_by (lower_of low n) found ≡ lower_by low (lower_by (Some n) found)
lower_twice low None n = refl
lower_twice None (Some m) n = refl
lower_twice (Some k) (Some m) n =
    let e : lesser (lesser k n) m ≡ lesser k (lesser n m) = simp lesser_min (omega arith) in
    ap (λ (x : ℕ). Some x) e

module _ (l : Lent) where
  pub noticed_refused : (a : Ask) (rest : List Ask) (low : Option ℕ) → is_refused l a ≡ true → noticed l (a ∷ rest) low ≡ noticed l rest (lower_of low a.height)
  unfolding noticed
  noticed_refused a rest low r = ap (λ (b : Bool). noticed l rest (cond b (lower_of low a.height) low)) r

  pub noticed_not : (a : Ask) (rest : List Ask) (low : Option ℕ) → is_refused l a ≡ false → noticed l (a ∷ rest) low ≡ noticed l rest low
  unfolding noticed
  noticed_not a rest low r = ap (λ (b : Bool). noticed l rest (cond b (lower_of low a.height) low)) r

  -- what was noted before may be put to it at the end
  pub noticed_from : (asks : List Ask) (low : Option ℕ) → noticed l asks low ≡ lower_by low (noticed l asks None)
  unfolding noticed
  noticed_from [] low = refl
  noticed_from (a ∷ asks) low = elim (both (is_refused l a)) [
    | inl r ↦ noticed_refused a asks low r ∙ noticed_from asks (lower_of low a.height) ∙ lower_twice low (noticed l asks None) a.height
        ∙ ap (lower_by low) (sym (noticed_from asks (Some a.height)) ∙ sym (noticed_refused a asks None r))
    | inr r ↦ noticed_not a asks low r ∙ noticed_from asks low ∙ ap (lower_by low) (sym (noticed_not a asks None r))
  ]

-- ---- the first refused height

-- no lower than n, where it is there
abbrev Above : ℕ → Option ℕ → Type 0
Above n None = Unit {0}
Above n (Some m) = n ≤ m

above_less : (n k : ℕ) (h : Option ℕ) → n ≤ k → Above k h → Above n h
above_less n k None e a = tt
above_less n k (Some m) e a = omega arith

-- the first height met f, and the lowest of all in reach m: the same, or all that is wanted was found before m
pub data Notes (next left : ℕ) : Option ℕ → Option ℕ → Type 0 where
  alike : {h : Option ℕ} → Notes next left h h
  beyond : {m : ℕ} → left ≡ 0 → next ≤ m → Notes next left None (Some m)

notes_full : (next left n : ℕ) (h : Option ℕ) → left ≡ 0 → next ≤ n → Above n h → Notes next left None h
notes_full next left n None z e a = alike
notes_full next left n (Some m) z e a = let b : next ≤ m = omega arith in beyond z b

notes_by : {r r' : Scanned} {h h' : Option ℕ} → r ≡ r' → h ≡ h' → Notes r'.next r'.left r'.first h' → Notes r.next r.left r.first h
notes_by {r} {r'} {h} {h'} p q k = subst (λ (x : Option ℕ). Notes r.next r.left r.first x) (sym q) (subst (λ (x : Scanned). Notes x.next x.left x.first h') (sym p) k)

-- a first height stays the first
looked_keeps : (k : Look) (a : Ask) (s : Scanned) (m : ℕ) → s.first ≡ Some m → (looked k a s).first ≡ Some m
looked_keeps PassBy a s m e = e
looked_keeps NoteRefused a s m e = ap (λ (f : Option ℕ). first_of f a.height) e
looked_keeps Take a s m e = e

scan_keeps : (es : List Entry) (staged refused : List ℕ) (rest : List Ask) (s : Scanned) (m : ℕ) → s.first ≡ Some m → (scan_over es staged refused rest s).first ≡ Some m
unfolding scan_over
scan_keeps es staged refused [] s m e = e
scan_keeps es staged refused (a ∷ rest) s m e =
    scan_keeps es staged refused rest (looked (look es staged refused a s) a s) m (looked_keeps (look es staged refused a s) a s m e)

module _ (l : Lent) (w : Window) where
  abbrev es : List Entry
  es = w.queue.pending

  -- the lowest refused height of what is open from n on
  abbrev pub lowest_in : List Hash → ℕ → List Hash → Option ℕ → Option ℕ
  lowest_in seen n hs low = noticed l (opens l w seen (heights_from n hs)) low

  module _ (seen : List Hash) (n : ℕ) (h : Hash) (hs : List Hash) (low : Option ℕ) where
    low_skip : passes es l.staged seen (ask h n) ≡ true → lowest_in seen n (h ∷ hs) low ≡ lowest_in seen (suc n) hs low
    unfolding heights_from
    low_skip p = ap (λ (x : List Ask). noticed l x low) (opens_skip l w seen (ask h n) (heights_from (suc n) hs) p)

    low_refused : passes es l.staged seen (ask h n) ≡ false → names l.refused h ≡ true → lowest_in seen n (h ∷ hs) low ≡ lowest_in (h ∷ seen) (suc n) hs (lower_of low n)
    unfolding heights_from is_refused
    low_refused p r =
        ap (λ (x : List Ask). noticed l x low) (opens_new l w seen (ask h n) (heights_from (suc n) hs) p)
        ∙ noticed_refused l (ask h n) (opens l w (h ∷ seen) (heights_from (suc n) hs)) low r

    low_not : passes es l.staged seen (ask h n) ≡ false → names l.refused h ≡ false → lowest_in seen n (h ∷ hs) low ≡ lowest_in (h ∷ seen) (suc n) hs low
    unfolding heights_from is_refused
    low_not p r =
        ap (λ (x : List Ask). noticed l x low) (opens_new l w seen (ask h n) (heights_from (suc n) hs) p)
        ∙ noticed_not l (ask h n) (opens l w (h ∷ seen) (heights_from (suc n) hs)) low r

  -- nothing further up is lower
  settled : (hs : List Hash) (n m : ℕ) (seen : List Hash) → m ≤ n → lowest_in seen n hs (Some m) ≡ Some m
  unfolding heights_from select first_named noticed
  settled [] n m seen e = refl
  settled (h ∷ hs) n m seen e = elim (both (passes es l.staged seen (ask h n))) [
    | inl p ↦ low_skip seen n h hs (Some m) p ∙ settled hs (suc n) m seen (omega arith)
    | inr p ↦ elim (both (names l.refused h)) [
      | inl r ↦ low_refused seen n h hs (Some m) p r ∙ ap (λ (k : ℕ). lowest_in (h ∷ seen) (suc n) hs (Some k)) (lesser_first m n e) ∙ settled hs (suc n) m (h ∷ seen) (omega arith)
      | inr r ↦ low_not seen n h hs (Some m) p r ∙ settled hs (suc n) m (h ∷ seen) (omega arith)
    ]
  ]

  above : (hs : List Hash) (n : ℕ) (seen : List Hash) → Above n (lowest_in seen n hs None)
  unfolding heights_from select first_named noticed
  above [] n seen = tt
  above (h ∷ hs) n seen = elim (both (passes es l.staged seen (ask h n))) [
    | inl p ↦ subst (Above n) (sym (low_skip seen n h hs None p)) (above_less n (suc n) (lowest_in seen (suc n) hs None) (omega arith) (above hs (suc n) seen))
    | inr p ↦ elim (both (names l.refused h)) [
      | inl r ↦ subst (Above n) (sym (low_refused seen n h hs None p r ∙ settled hs (suc n) n (h ∷ seen) (omega arith))) (omega arith)
      | inr r ↦ subst (Above n) (sym (low_not seen n h hs None p r)) (above_less n (suc n) (lowest_in (h ∷ seen) (suc n) hs None) (omega arith) (above hs (suc n) (h ∷ seen)))
    ]
  ]

  abbrev scans : List Ask → Scanned → Scanned
  scans rest s = scan_over es l.staged l.refused rest s

  -- the hashes that were seen are those of the plan
  abbrev KnownBy : List Hash → List Ask → Type 0
  KnownBy seen asks = (h : Hash) → any (same h) seen ≡ any (same h) (plan_hashes asks)

  same_pass : (seen : List Hash) (asks : List Ask) (a : Ask) → KnownBy seen asks → passes es l.staged seen a ≡ passes es l.staged (plan_hashes asks) a
  same_pass seen asks a e = ap (λ (b : Bool). is_there (found a.hash es) || names l.staged a.hash || b) (e a.hash)

  known_more : (seen : List Hash) (asks : List Ask) (a : Ask) → KnownBy seen asks → KnownBy (a.hash ∷ seen) (asks ++ (a ∷ []))
  unfolding any
  known_more seen asks a e g = ap (λ (b : Bool). same g a.hash || b) (e g) ∙ sym (plan_more g asks a)

  -- from the height n on, where no refused one was met before
  pub notes : (hs : List Hash) (n : ℕ) (s : Scanned) (seen : List Hash) → s.first ≡ None → s.next ≤ n
      → KnownBy seen s.asks
      → Notes (scans (heights_from n hs) s).next (scans (heights_from n hs) s).left (scans (heights_from n hs) s).first (lowest_in seen n hs None)
  unfolding scan_over heights_from select first_named noticed
  notes [] n s seen u b e = subst (λ (f : Option ℕ). Notes s.next s.left f None) (sym u) alike
  notes (h ∷ hs) n s seen u b e = elim (both (eqb s.left 0)) [
    | inl z ↦ notes_by (scan_full es l.staged l.refused (heights_from n (h ∷ hs)) s (eqb-true s.left 0 z)) refl
        (subst (λ (f : Option ℕ). Notes s.next s.left f (lowest_in seen n (h ∷ hs) None)) (sym u)
        (notes_full s.next s.left n (lowest_in seen n (h ∷ hs) None) (eqb-true s.left 0 z) b (above (h ∷ hs) n seen)))
    | inr z ↦ elim (both (passes es l.staged (plan_hashes s.asks) (ask h n))) [
      | inl p ↦ notes_by (scan_by es l.staged l.refused (heights_from (suc n) hs) (ask h n) s PassBy (look_is l w (ask h n) s false true (names l.refused h) z p refl)) (low_skip seen n h hs None (same_pass seen s.asks (ask h n) e ∙ p))
          (notes hs (suc n) s seen u (omega arith) e)
      | inr p ↦ elim (both (names l.refused h)) [
        | inl r ↦
            let s' = looked NoteRefused (ask h n) s in
            notes_by (scan_by es l.staged l.refused (heights_from (suc n) hs) (ask h n) s NoteRefused (look_is l w (ask h n) s false false true z p r))
            (low_refused seen n h hs None (same_pass seen s.asks (ask h n) e ∙ p) r ∙ settled hs (suc n) n (h ∷ seen) (omega arith))
            (subst (λ (f : Option ℕ). Notes (scans (heights_from (suc n) hs) s').next (scans (heights_from (suc n) hs) s').left f (Some n))
            (sym (scan_keeps es l.staged l.refused (heights_from (suc n) hs) s' n (ap (λ (f : Option ℕ). first_of f n) u))) alike)
        | inr r ↦ notes_by (scan_by es l.staged l.refused (heights_from (suc n) hs) (ask h n) s Take (look_is l w (ask h n) s false false false z p r))
            (low_not seen n h hs None (same_pass seen s.asks (ask h n) e ∙ p) r)
            (notes hs (suc n) (looked Take (ask h n) s) (h ∷ seen) u (greater_le s.next (next_height n) (suc n) (omega arith) (next_le n)) (known_more seen s.asks (ask h n) e))
      ]
    ]
  ]

-- ---- held back twice: by what was refused before, and by what the scan met

clamped : (x f m : ℕ) → greater (lesser (greater x f) m) f ≡ greater (lesser x m) f
clamped x f m = simp (lesser_min, greater_max) (omega arith)

pub held_twice : (low met : Option ℕ) (frontier next : ℕ) → held_back met frontier (held_back low frontier next) ≡ held_back (lower_by low met) frontier next
held_twice low None frontier next = refl
held_twice None (Some m) frontier next = refl
held_twice (Some n) (Some m) frontier next =
    let e : lesser (lesser next n) m ≡ lesser next (lesser n m) = simp lesser_min (omega arith) in
    clamped (lesser next n) frontier m ∙ ap (λ (x : ℕ). greater x frontier) e
