-- `request_from` by what the scan comes to: its entries on every list, and its next height, held back or, on a clean stretch, not. Assumes nothing.
use Rattle.std.specs.Prelude.{◌≡◌, Bool, true, false, ◌&&◌, ◌||◌, ℕ, suc, ◌+◌, ◌-◌, ◌≤◌, ◌<◌, take, drop, eqb, ltb, leb, None, Some, Option}
use Rattle.std.proofs.Math.Path.{refl, sym, ap}
use Rattle.std.proofs.Common.{subst, ◌∙◌, length-take, take_all}
use Rattle.std.proofs.Math.Logic.{inl, inr}
use Rattle.std.proofs.Math.Bool.{cond, not}
use Rattle.std.proofs.lemmas.Bool.{false≢true}
use mathlib.Core.List.{List, [], ◌∷◌, ◌++◌}
use native.Mathlib.Omega.{arith}
use Rattle.std.proofs.Math.ListN.{length}
use Rattle.std.proofs.Math.Dec.{eqb-suc-zero}
use borrow.Author.Tests.{ltb-true, ltb-false, eq-eqb, ne_eqb, not-false, not-true, le-leb, lt-ltb}
use Rattle.model.specs.Numbers.{lesser, greater, next_height}
use Rattle.model.specs.Lists.{any, select, every}
use Rattle.model.specs.Hash.{same, hashes_in}
use Rattle.model.specs.Window.{Window, Step}
use Rattle.model.specs.Records.{found, is_there}
use Rattle.model.specs.Races.{is_empty}
use Rattle.model.specs.Calls.{Ask}
use Rattle.model.specs.Planning.{Lent, Scan, Draft, Proposal, names, is_pending, is_staged, is_refused, is_open, heights_from, contiguous_request_entries, first_named, noticed, held_back, non_empty_request, reach, clean_stretch, is_clean, clean_contiguous_peer_request, open_in_reach, candidates, past, next_after, extend_request_by_reverse_scan, request_from}
use Rattle.model.specs.declared.Hash.{Hash}
use Rattle.laws.specs.Numbers.{both}
use Rattle.plan_look.specs.Scan.{Scanned, scanned, plan_hashes, scan_over}
use Rattle.plan_scan.specs.Found.{kept, kept_none, kept_one, Takes, takes}
use Rattle.plan_scan.specs.Notes.{lesser_min, greater_max, lower_by, noticed_refused, noticed_not, noticed_from, Notes, alike, beyond, notes}

-- ---- the end of a scan

abbrev pub is_unknown : Option ℕ → Bool
is_unknown None = true
is_unknown (Some n) = false

-- past all that the peer has, where less was found than wanted
abbrev pub ended : Scan → Scanned → ℕ
ended s r = cond (eqb r.left 0) r.next (greater r.next (next_height s.tip))

-- the next height, on a stretch that is clean and on one that is not
abbrev pub next_from : Bool → Scan → ℕ → Option ℕ → Scanned → ℕ
next_from clean s last low r = cond clean (greater s.next (next_height last)) (held_back (lower_by low r.first) s.next (ended s r))

-- nothing is taken, pending or staged, and no refused one was met
abbrev pub met_none : ℕ → ℕ → ℕ → Option ℕ → Bool
met_none taken pending staged first = eqb taken 0 && (eqb pending 0 && (eqb staged 0 && is_unknown first))

past_le : (asks : List Ask) (n : ℕ) → n ≤ past asks n
unfolding past
past_le [] n = omega arith
past_le (a ∷ asks) n = omega (arith, past_le asks (greater n (next_height a.height)), greater_max n (next_height a.height))

ended_is : (s : Scan) (r : Scanned) (cs : List Ask) → r.next ≡ past (take s.limit cs) s.next → r.left ≡ s.limit - length cs → next_after s cs ≡ ended s r
unfolding next_after
ended_is s r cs n k = elim (both (ltb (length cs) s.limit)) [
  | inl q ↦ rw (q, ne_eqb r.left 0 (λ z. omega (arith, z, k, ltb-true (length cs) s.limit q)), n)
  | inr q ↦ rw (q, eq-eqb r.left 0 (omega (arith, k, ltb-false (length cs) s.limit q)), n)
]

ended_full : (s : Scan) (r : Scanned) → r.left ≡ 0 → ended s r ≡ r.next
ended_full s r z = ap (λ (b : Bool). cond b r.next (greater r.next (next_height s.tip))) (eq-eqb r.left 0 z)

-- what lies beyond all that was wanted does not hold back
held_alike : (low : Option ℕ) {met lowest : Option ℕ} {next left : ℕ} (frontier at : ℕ) → Notes next left met lowest → (left ≡ 0 → at ≡ next) → frontier ≤ next
    → held_back (lower_by low lowest) frontier at ≡ held_back (lower_by low met) frontier at
held_alike low frontier at alike e b = refl
held_alike None frontier at (beyond {m = m} z k) e b = simp (lesser_min, greater_max) (omega (arith, e z))
held_alike (Some p) frontier at (beyond {m = m} z k) e b = simp (lesser_min, greater_max) (omega (arith, e z))

-- ---- the scan that a request makes

module _ (l : Lent) (t : Step) (s : Scan) (d : Draft) where
  abbrev w : Window
  w = t.window

  -- as many heights are looked at as are wanted, pending, staged and taken
  abbrev pub wide : ℕ
  wide = s.limit + (length w.queue.pending + (length (hashes_in l.staged) + length d.asks))

  abbrev pub last_height : ℕ
  last_height = reach wide s

  abbrev pub scan_start : Scanned
  scan_start = scanned d.asks None s.next s.limit

  abbrev pub scan_end : Scanned
  scan_end = scan_over w.queue.pending l.staged l.refused (contiguous_request_entries s.height last_height l.chain) scan_start

  ends : Takes scan_start (candidates l w s d.asks) scan_end
  unfolding candidates open_in_reach
  ends = takes l w (contiguous_request_entries s.height last_height l.chain) scan_start (plan_hashes d.asks) (λ h n. refl)

  module _ (f : w.frontier ≡ s.next) (b : s.next ≤ s.height) where
    ends_notes : Notes scan_end.next scan_end.left scan_end.first (noticed l (open_in_reach l w s d.asks) None)
    unfolding open_in_reach contiguous_request_entries
    ends_notes =
        notes l w (take (suc last_height - s.height) (drop s.height (hashes_in l.chain))) s.height scan_start (plan_hashes d.asks) refl b (λ h. refl)

    pub extends : extend_request_by_reverse_scan l t s d ≡ non_empty_request t scan_end.asks (held_back (lower_by d.low scan_end.first) s.next (ended s scan_end))
    unfolding extend_request_by_reverse_scan
    extends =
        let cs = candidates l w s d.asks in
        let at : next_after s cs ≡ ended s scan_end = ended_is s scan_end cs ends.next ends.left in
        let held : held_back (noticed l (open_in_reach l w s d.asks) d.low) s.next (ended s scan_end) ≡ held_back (lower_by d.low scan_end.first) s.next (ended s scan_end) =
        ap (λ (h : Option ℕ). held_back h s.next (ended s scan_end)) (noticed_from l (open_in_reach l w s d.asks) d.low)
        ∙ held_alike d.low s.next (ended s scan_end) ends_notes (ended_full s scan_end) (omega (arith, ends.next, past_le (take s.limit cs) s.next)) in
        (λ i. non_empty_request t (sym ends.asks i) (held_back (noticed l (open_in_reach l w s d.asks) d.low) (f i) (at i))) ∙ ap (non_empty_request t scan_end.asks) held

-- ---- a clean stretch

empty_is : {A : Type 0} (x : List A) → is_empty x ≡ true → x ≡ []
empty_is [] e = refl
empty_is (a ∷ x) e = absurd (false≢true e)

empty_length : {A : Type 0} (x : List A) → is_empty x ≡ eqb (length x) 0
empty_length [] = refl
empty_length (a ∷ x) = sym (eqb-suc-zero (length x))

select_all : (p : Ask → Bool) → ((a : Ask) → p a ≡ true) → (asks : List Ask) → select p asks ≡ asks
unfolding select
select_all p e [] = refl
select_all p e (a ∷ asks) = ap (λ (b : Bool). cond b (a ∷ select p asks) (select p asks)) (e a) ∙ ap (λ (x : List Ask). a ∷ x) (select_all p e asks)

named_le : (seen : List Hash) (asks : List Ask) → length (first_named seen asks) ≤ length asks
unfolding first_named
named_le seen [] = omega arith
named_le seen (a ∷ asks) = elim (both (any (same a.hash) seen)) [
  | inl q ↦ rw q (omega (arith, named_le seen asks))
  | inr q ↦ rw q (omega (arith, named_le (a.hash ∷ seen) asks))
]

pub heights_length : (n : ℕ) (hs : List Hash) → length (heights_from n hs) ≡ length hs
unfolding heights_from
heights_length n [] = refl
heights_length n (h ∷ hs) = ap suc (heights_length (suc n) hs)

-- no more heights than are wanted
stretch_le : (l : Lent) (s : Scan) → 0 < s.limit → length (clean_stretch l s) ≤ s.limit
unfolding clean_stretch contiguous_request_entries reach
stretch_le l s h =
    let hs = drop s.height (hashes_in l.chain) in
    let n = suc (lesser (s.height + (s.limit - 1)) s.tip) - s.height in
    omega (arith, named_le [] (heights_from s.height (take n hs)), heights_length s.height (take n hs), length-take n hs, lesser_min (s.height + (s.limit - 1)) s.tip)

module _ (l : Lent) where
  kept_le : (asks : List Ask) → length (kept l asks) ≤ length asks
  unfolding select
  kept_le [] = omega arith
  kept_le (a ∷ asks) = elim (both (is_refused l a)) [
    | inl r ↦ omega (arith, ap length (kept_none l a asks r), kept_le asks)
    | inr r ↦ omega (arith, ap length (kept_one l a asks r), kept_le asks)
  ]

  kept_fewer : (asks : List Ask) → any (is_refused l) asks ≡ true → length (kept l asks) < length asks
  unfolding any
  kept_fewer [] e = absurd (false≢true e)
  kept_fewer (a ∷ asks) e = elim (both (is_refused l a)) [
    | inl r ↦ omega (arith, ap length (kept_none l a asks r), kept_le asks)
    | inr r ↦ omega (arith, ap length (kept_one l a asks r), kept_fewer asks (sym (ap (λ (b : Bool). b || any (is_refused l) asks) r) ∙ e))
  ]

  kept_all : (asks : List Ask) → any (is_refused l) asks ≡ false → kept l asks ≡ asks
  unfolding any select
  kept_all [] e = refl
  kept_all (a ∷ asks) e = elim (both (is_refused l a)) [
    | inl r ↦ absurd (false≢true (sym e ∙ ap (λ (b : Bool). b || any (is_refused l) asks) r))
    | inr r ↦ kept_one l a asks r ∙ ap (λ (x : List Ask). a ∷ x) (kept_all asks (sym (ap (λ (b : Bool). b || any (is_refused l) asks) r) ∙ e))
  ]

  known_lower : (n : ℕ) (h : Option ℕ) → is_unknown (lower_by (Some n) h) ≡ false
  known_lower n None = refl
  known_lower n (Some m) = refl

  -- nothing is noted exactly where nothing is refused
  noted_any : (asks : List Ask) → is_unknown (noticed l asks None) ≡ not (any (is_refused l) asks)
  unfolding any noticed
  noted_any [] = refl
  noted_any (a ∷ asks) = elim (both (is_refused l a)) [
    | inl r ↦ ap is_unknown (noticed_refused l a asks None r ∙ noticed_from l asks (Some a.height)) ∙ known_lower a.height (noticed l asks None)
        ∙ sym (ap (λ (b : Bool). not (b || any (is_refused l) asks)) r)
    | inr r ↦ ap is_unknown (noticed_not l a asks None r) ∙ noted_any asks ∙ sym (ap (λ (b : Bool). not (b || any (is_refused l) asks)) r)
  ]

module _ (l : Lent) (t : Step) (s : Scan) (d : Draft) (f : t.window.frontier ≡ s.next) (b : s.next ≤ s.height) (wants : 0 < s.limit) where
  abbrev v : Window
  v = t.window

  abbrev end : Scanned
  end = scan_end l t s d

  module _ (e : d.asks ≡ []) (p : v.queue.pending ≡ []) (q : hashes_in l.staged ≡ []) where
    all_open : (a : Ask) → is_open l v a ≡ true
    unfolding is_open is_pending is_staged names found any
    all_open a = λ i. not (is_there (found a.hash (p i)) || any (same a.hash) (q i))

    wide_is : wide l t s d ≡ s.limit
    wide_is = omega (arith, ap length e, ap length p, ap length q)

    stretch_is : open_in_reach l v s d.asks ≡ clean_stretch l s
    unfolding open_in_reach clean_stretch
    stretch_is =
        let entries = contiguous_request_entries s.height (last_height l t s d) l.chain in
        (λ i. first_named (plan_hashes (e i)) (select_all (is_open l v) all_open entries i))
        ∙ ap (λ (n : ℕ). first_named [] (contiguous_request_entries s.height (reach n s) l.chain)) wide_is

    candidates_are : candidates l v s d.asks ≡ kept l (clean_stretch l s)
    unfolding candidates
    candidates_are = ap (kept l) stretch_is

    -- a refused one in the stretch is met: there are no more heights than are wanted
    met_by : {met lowest : Option ℕ} → Notes end.next end.left met lowest → noticed l (clean_stretch l s) None ≡ lowest → is_unknown lowest ≡ is_unknown met
    met_by alike u = refl
    met_by (beyond z k) u =
        let some : any (is_refused l) (clean_stretch l s) ≡ true = not-false (any (is_refused l) (clean_stretch l s)) (sym (noted_any l (clean_stretch l s)) ∙ ap is_unknown u) in
        absurd (omega (arith, z, (ends l t s d).left, ap length candidates_are, stretch_le l s wants, kept_fewer l (clean_stretch l s) some))

    met_refused : not (any (is_refused l) (clean_stretch l s)) ≡ is_unknown end.first
    met_refused =
        sym (noted_any l (clean_stretch l s))
        ∙ met_by (subst (λ (x : List Ask). Notes end.next end.left end.first (noticed l x None)) stretch_is (ends_notes l t s d f b)) refl

    -- without one the scan takes the whole stretch
    takes_stretch : any (is_refused l) (clean_stretch l s) ≡ false → clean_stretch l s ≡ end.asks
    takes_stretch n =
        sym ((ends l t s d).asks
        ∙ (λ i. e i ++ take s.limit ((candidates_are ∙ kept_all l (clean_stretch l s) n) i))
        ∙ take_all s.limit (clean_stretch l s) (stretch_le l s wants))

    last_is : reach s.limit s ≡ last_height l t s d
    last_is = ap (λ (n : ℕ). reach n s) (sym wide_is)

  abbrev pub is_met_none : Bool
  is_met_none = met_none (length d.asks) (length v.queue.pending) (length (hashes_in l.staged)) end.first

  abbrev scan_proposal : Bool → Proposal
  scan_proposal clean = non_empty_request t end.asks (next_from clean s (last_height l t s d) d.low end)

  -- by the four tests, of which the last is known where the others hold
  decide : (a b c x u : Bool) → (a ≡ true → b ≡ true → c ≡ true → (x ≡ u) × (x ≡ true → clean_contiguous_peer_request l t s ≡ scan_proposal true))
      → cond (a && (b && (c && (x && true)))) (clean_contiguous_peer_request l t s) (extend_request_by_reverse_scan l t s d) ≡ scan_proposal (a && (b && (c && u)))
  decide true true true true u h = (h refl refl refl).1 refl ∙ ap scan_proposal (h refl refl refl).0
  decide true true true false u h = extends l t s d f b ∙ ap scan_proposal (h refl refl refl).0
  decide true true false x u h = extends l t s d f b
  decide true false c x u h = extends l t s d f b
  decide false y c x u h = extends l t s d f b

  tests : is_empty d.asks ≡ true → is_empty v.queue.pending ≡ true → is_empty (hashes_in l.staged) ≡ true
      → (not (any (is_refused l) (clean_stretch l s)) ≡ is_unknown end.first)
      × (not (any (is_refused l) (clean_stretch l s)) ≡ true → clean_contiguous_peer_request l t s ≡ scan_proposal true)
  unfolding clean_contiguous_peer_request
  tests i j k =
      let e = empty_is d.asks i in
      let p = empty_is v.queue.pending j in
      let q = empty_is (hashes_in l.staged) k in
      (met_refused e p q, λ n. λ x. non_empty_request t (takes_stretch e p q (not-true (any (is_refused l) (clean_stretch l s)) n) x) (greater s.next (next_height (last_is e p q x))))

  pub request_scanned : s.height ≤ s.tip → request_from l t s d ≡ scan_proposal is_met_none
  unfolding request_from is_clean every
  request_scanned h =
      (λ i. cond (le-leb s.height s.tip h i && lt-ltb 0 s.limit wants i)
      (cond (is_clean l v s d) (clean_contiguous_peer_request l t s) (extend_request_by_reverse_scan l t s d)) (non_empty_request t d.asks (held_back d.low v.frontier s.next)))
      ∙ decide (is_empty d.asks) (is_empty v.queue.pending) (is_empty (hashes_in l.staged)) (not (any (is_refused l) (clean_stretch l s))) (is_unknown end.first) tests
      ∙ (λ i. scan_proposal (empty_length d.asks i && (empty_length v.queue.pending i && (empty_length (hashes_in l.staged) i && is_unknown end.first))))

-- ---- nothing to scan

pub request_over : (l : Lent) (t : Step) (s : Scan) (d : Draft) → (leb s.height s.tip && ltb 0 s.limit) ≡ false
    → request_from l t s d ≡ non_empty_request t d.asks (held_back d.low t.window.frontier s.next)
unfolding request_from
request_over l t s d e =
    ap (λ (b : Bool). cond b (cond (is_clean l t.window s d) (clean_contiguous_peer_request l t s) (extend_request_by_reverse_scan l t s d))
    (non_empty_request t d.asks (held_back d.low t.window.frontier s.next))) e
