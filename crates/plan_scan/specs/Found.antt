-- What the scan takes are the first of the candidates: a refused hash is no candidate, so that it is the same to pass by what was taken as to pass by
-- what was seen. Assumes nothing.
use Rattle.std.specs.Prelude.{◌≡◌, Bool, not, ◌||◌, ℕ, zero, suc, ◌-◌, length, take, eqb}
use Rattle.std.proofs.Math.Path.{refl, sym, ap}
use Rattle.std.proofs.Common.{subst, ◌∙◌, arith, eqb-true}
use Rattle.std.proofs.Math.Logic.{inl, inr}
use Rattle.std.proofs.Math.Bool.{true, false, cond}
use Rattle.std.proofs.lemmas.Bool.{false≢true, eqb-false}
use mathlib.Core.List.{List, [], ◌∷◌, ◌++◌, append-nil, append_assoc}
use Rattle.std.proofs.Math.Seq.{take-nil}
use Rattle.model.specs.Lists.{any, select}
use Rattle.model.specs.Hash.{key, same, hashes_in}
use Rattle.model.specs.Window.{Window}
use Rattle.model.specs.Records.{found, is_there}
use Rattle.model.specs.Calls.{Ask}
use Rattle.model.specs.Planning.{Lent, names, is_pending, is_staged, is_refused, is_open, first_named, past}
use Rattle.model.specs.declared.Hash.{Hash}
use Rattle.model.specs.declared.Entry.{Entry}
use Rattle.laws.specs.Numbers.{both}
use Rattle.plan_look.specs.declared.Look.TheVariants.{PassBy, NoteRefused, Take}
use Rattle.plan_look.specs.Scan.{Scanned, plan_hashes, passes, look_of, look, looked, scan_over, scan_by, scan_full}

-- ---- hashes that were seen

-- two hashes of one key are named alike
alike_any : (g h : Hash) → key g ≡ key h → (seen : List Hash) → any (same g) seen ≡ any (same h) seen
unfolding any same
alike_any g h e [] = refl
alike_any g h e (x ∷ seen) = λ i. eqb (e i) (key x) || alike_any g h e seen i

or_swap : (a b c : Bool) → (a || (b || c)) ≡ (b || (a || c))
or_swap true true c = refl
or_swap true false c = refl
or_swap false b c = refl

-- one more in the plan, wherever it stands
pub plan_more : (h : Hash) (asks : List Ask) (a : Ask) → any (same h) (plan_hashes (asks ++ (a ∷ []))) ≡ any (same h) (a.hash ∷ plan_hashes asks)
unfolding any
plan_more h [] a = refl
plan_more h (x ∷ asks) a =
    ap (λ (b : Bool). same h x.hash || b) (plan_more h asks a) ∙ or_swap (same h x.hash) (same h a.hash) (any (same h) (plan_hashes asks))

-- ---- a height at the head of what is open

module _ (seen : List Hash) (a : Ask) (rest : List Ask) where
  pick_skip : (b c : Bool) → any (same a.hash) seen ≡ c → (b || c) ≡ true → first_named seen (cond (not b) (a ∷ rest) rest) ≡ first_named seen rest
  unfolding first_named
  pick_skip true c e h = refl
  pick_skip false true e h = ap (λ (x : Bool). cond x (first_named seen rest) (a ∷ first_named (a.hash ∷ seen) rest)) e
  pick_skip false false e h = absurd (false≢true h)

  pick_new : (b c : Bool) → any (same a.hash) seen ≡ c → (b || c) ≡ false → first_named seen (cond (not b) (a ∷ rest) rest) ≡ a ∷ first_named (a.hash ∷ seen) rest
  unfolding first_named
  pick_new true c e h = absurd (false≢true (sym h))
  pick_new false true e h = absurd (false≢true (sym h))
  pick_new false false e h = ap (λ (x : Bool). cond x (first_named seen rest) (a ∷ first_named (a.hash ∷ seen) rest)) e

module _ (l : Lent) (w : Window) where
  -- in some entries, what is open and was not seen
  abbrev pub opens : List Hash → List Ask → List Ask
  opens seen rest = first_named seen (select (is_open l w) rest)

  pub opens_skip : (seen : List Hash) (a : Ask) (rest : List Ask) → passes w.queue.pending l.staged seen a ≡ true → opens seen (a ∷ rest) ≡ opens seen rest
  unfolding select is_open is_pending is_staged
  opens_skip seen a rest h =
      pick_skip seen a (select (is_open l w) rest) (is_there (found a.hash w.queue.pending) || names l.staged a.hash) (any (same a.hash) seen) refl h

  pub opens_new : (seen : List Hash) (a : Ask) (rest : List Ask) → passes w.queue.pending l.staged seen a ≡ false → opens seen (a ∷ rest) ≡ a ∷ opens (a.hash ∷ seen) rest
  unfolding select is_open is_pending is_staged
  opens_new seen a rest h =
      pick_new seen a (select (is_open l w) rest) (is_there (found a.hash w.queue.pending) || names l.staged a.hash) (any (same a.hash) seen) refl h

-- ---- candidates, whatever refused hashes were seen

module _ (l : Lent) where
  -- the same hashes were seen, but for refused ones
  abbrev pub Alike : List Hash → List Hash → Type 0
  Alike seen others = (h : Hash) → names l.refused h ≡ false → any (same h) seen ≡ any (same h) others

  abbrev pub kept : List Ask → List Ask
  kept asks = select (λ a. not (is_refused l a)) asks

  pub alike_cons : (seen others : List Hash) (g : Hash) → Alike seen others → Alike (g ∷ seen) (g ∷ others)
  unfolding any
  alike_cons seen others g e h n = ap (λ (b : Bool). same h g || b) (e h n)

  -- a refused one more
  alike_refused : (seen : List Hash) (g : Hash) → names l.refused g ≡ true → Alike (g ∷ seen) seen
  unfolding any same names
  alike_refused seen g r h n = elim (both (eqb (key h) (key g))) [
    | inl q ↦ absurd (false≢true (sym n ∙ alike_any h g (eqb-true (key h) (key g) q) (hashes_in l.refused) ∙ r))
    | inr q ↦ ap (λ (b : Bool). b || any (same h) seen) q
  ]

  pub kept_none : (a : Ask) (rest : List Ask) → is_refused l a ≡ true → kept (a ∷ rest) ≡ kept rest
  unfolding select
  kept_none a rest r = ap (λ (b : Bool). cond (not b) (a ∷ kept rest) (kept rest)) r

  pub kept_one : (a : Ask) (rest : List Ask) → is_refused l a ≡ false → kept (a ∷ rest) ≡ a ∷ kept rest
  unfolding select
  kept_one a rest r = ap (λ (b : Bool). cond (not b) (a ∷ kept rest) (kept rest)) r

  -- what a law over all that was seen says of the entries after a
  module _ (a : Ask) (rest : List Ask) (later : (seen others : List Hash) → Alike seen others → kept (first_named seen rest) ≡ kept (first_named others rest)) where
    refused_skip : (seen : List Hash) → is_refused l a ≡ true → kept (first_named seen (a ∷ rest)) ≡ kept (first_named seen rest)
    unfolding first_named is_refused
    refused_skip seen r = elim (both (any (same a.hash) seen)) [
      | inl q ↦ ap (λ (b : Bool). kept (cond b (first_named seen rest) (a ∷ first_named (a.hash ∷ seen) rest))) q
      | inr q ↦ ap (λ (b : Bool). kept (cond b (first_named seen rest) (a ∷ first_named (a.hash ∷ seen) rest))) q
          ∙ kept_none a (first_named (a.hash ∷ seen) rest) r ∙ later (a.hash ∷ seen) seen (alike_refused seen a.hash r)
    ]

    alike_turn : (seen others : List Hash) → Alike seen others → kept (first_named seen (a ∷ rest)) ≡ kept (first_named others (a ∷ rest))
    unfolding first_named is_refused
    alike_turn seen others e = elim (both (is_refused l a)) [
      | inl r ↦ refused_skip seen r ∙ later seen others e ∙ sym (refused_skip others r)
      | inr r ↦ elim (both (any (same a.hash) others)) [
        | inl q ↦ ap (λ (b : Bool). kept (cond b (first_named seen rest) (a ∷ first_named (a.hash ∷ seen) rest))) (e a.hash r ∙ q) ∙ later seen others e
            ∙ sym (ap (λ (b : Bool). kept (cond b (first_named others rest) (a ∷ first_named (a.hash ∷ others) rest))) q)
        | inr q ↦ ap (λ (b : Bool). kept (cond b (first_named seen rest) (a ∷ first_named (a.hash ∷ seen) rest))) (e a.hash r ∙ q)
            ∙ kept_one a (first_named (a.hash ∷ seen) rest) r
            ∙ ap (λ (x : List Ask). a ∷ x) (later (a.hash ∷ seen) (a.hash ∷ others) (alike_cons seen others a.hash e))
            ∙ sym (kept_one a (first_named (a.hash ∷ others) rest) r)
            ∙ sym (ap (λ (b : Bool). kept (cond b (first_named others rest) (a ∷ first_named (a.hash ∷ others) rest))) q)
      ]
    ]

  kept_alike : (rest : List Ask) (seen others : List Hash) → Alike seen others → kept (first_named seen rest) ≡ kept (first_named others rest)
  unfolding first_named
  kept_alike [] seen others e = refl
  kept_alike (a ∷ rest) seen others e = alike_turn a rest (kept_alike rest) seen others e

-- ---- the scan

take_more : (n : ℕ) (a : Ask) (rest : List Ask) → (n ≡ 0 → ⊥) → take n (a ∷ rest) ≡ a ∷ take (n - 1) rest
take_more zero a rest h = absurd (h refl)
take_more (suc n) a rest h = let e : n ≡ suc n - 1 = omega arith in ap (λ (k : ℕ). a ∷ take k rest) e

-- r is what a scan from s comes to, where cs are the candidates
pub record Takes (s : Scanned) (cs : List Ask) (r : Scanned) : Type 0 where
  pub asks : r.asks ≡ s.asks ++ take s.left cs
  pub next : r.next ≡ past (take s.left cs) s.next
  pub left : r.left ≡ s.left - length cs

takes_by : {s r r' : Scanned} {cs cs' : List Ask} → cs ≡ cs' → r ≡ r' → Takes s cs' r' → Takes s cs r
takes_by {s} {r} {r'} {cs} {cs'} p q h = subst (λ (x : List Ask). Takes s x r) (sym p) (subst (λ (x : Scanned). Takes s cs' x) (sym q) h)

-- nothing is taken of no candidates, nor where none is wanted
takes_nothing : (s : Scanned) → Takes s [] s
unfolding past
takes_nothing s = record {
  asks = sym (append-nil s.asks) ∙ ap (λ (x : List Ask). s.asks ++ x) (sym (take-nil s.left));
  next = ap (λ (x : List Ask). past x s.next) (sym (take-nil s.left));
  left = omega arith;
}

takes_full : (s : Scanned) (cs : List Ask) → s.left ≡ 0 → Takes s cs s
unfolding past
takes_full s cs z = record {
  asks = sym (append-nil s.asks) ∙ ap (λ (n : ℕ). s.asks ++ take n cs) (sym z);
  next = ap (λ (n : ℕ). past (take n cs) s.next) (sym z);
  left = omega (arith, z);
}

takes_noted : (s : Scanned) (a : Ask) (cs : List Ask) (r : Scanned) → Takes (looked NoteRefused a s) cs r → Takes s cs r
takes_noted s a cs r h = record { asks = h.asks; next = h.next; left = h.left }

takes_one : (s : Scanned) (a : Ask) (cs : List Ask) (r : Scanned) → (s.left ≡ 0 → ⊥) → Takes (looked Take a s) cs r → Takes s (a ∷ cs) r
unfolding past
takes_one s a cs r n h =
    let t = take_more s.left a cs n in
    record {
      asks = h.asks ∙ append_assoc s.asks (a ∷ []) (take (s.left - 1) cs) ∙ ap (λ (x : List Ask). s.asks ++ x) (sym t);
      next = h.next ∙ ap (λ (x : List Ask). past x s.next) (sym t);
      left = h.left ∙ omega arith;
    }

module _ (l : Lent) (w : Window) where
  abbrev es : List Entry
  es = w.queue.pending

  -- the candidates in some entries
  abbrev pub wanted : List Hash → List Ask → List Ask
  wanted seen rest = kept l (opens l w seen rest)

  wanted_skip : (seen : List Hash) (a : Ask) (rest : List Ask) → passes es l.staged seen a ≡ true → wanted seen (a ∷ rest) ≡ wanted seen rest
  wanted_skip seen a rest p = ap (kept l) (opens_skip l w seen a rest p)

  wanted_new : (seen : List Hash) (a : Ask) (rest : List Ask) → passes es l.staged seen a ≡ false → names l.refused a.hash ≡ false
      → wanted seen (a ∷ rest) ≡ a ∷ wanted (a.hash ∷ seen) rest
  unfolding is_refused
  wanted_new seen a rest p n = ap (kept l) (opens_new l w seen a rest p) ∙ kept_one l a (opens l w (a.hash ∷ seen) rest) n

  wanted_refused : (seen : List Hash) (a : Ask) (rest : List Ask) → names l.refused a.hash ≡ true → wanted seen (a ∷ rest) ≡ wanted seen rest
  unfolding is_refused
  wanted_refused seen a rest r = elim (both (passes es l.staged seen a)) [
    | inl p ↦ wanted_skip seen a rest p
    | inr p ↦ ap (kept l) (opens_new l w seen a rest p) ∙ kept_none l a (opens l w (a.hash ∷ seen) rest) r
        ∙ kept_alike l (select (is_open l w) rest) (a.hash ∷ seen) seen (alike_refused l seen a.hash r)
  ]

  pub look_is : (a : Ask) (s : Scanned) (b c r : Bool) → eqb s.left 0 ≡ b → passes es l.staged (plan_hashes s.asks) a ≡ c → names l.refused a.hash ≡ r
      → look es l.staged l.refused a s ≡ look_of (b || c) r
  look_is a s b c r p q e = λ i. look_of (p i || q i) (e i)

  pub takes : (rest : List Ask) (s : Scanned) (seen : List Hash) → Alike l seen (plan_hashes s.asks) → Takes s (wanted seen rest) (scan_over es l.staged l.refused rest s)
  unfolding scan_over select first_named
  takes [] s seen e = takes_nothing s
  takes (a ∷ rest) s seen e = elim (both (eqb s.left 0)) [
    | inl z ↦ takes_by refl (scan_full es l.staged l.refused (a ∷ rest) s (eqb-true s.left 0 z)) (takes_full s (wanted seen (a ∷ rest)) (eqb-true s.left 0 z))
    | inr z ↦ elim (both (names l.refused a.hash)) [
      | inl r ↦ elim (both (passes es l.staged (plan_hashes s.asks) a)) [
        | inl p ↦ takes_by (wanted_refused seen a rest r) (scan_by es l.staged l.refused rest a s PassBy (look_is a s false true true z p r)) (takes rest s seen e)
        | inr p ↦ takes_by (wanted_refused seen a rest r) (scan_by es l.staged l.refused rest a s NoteRefused (look_is a s false false true z p r))
            (takes_noted s a _ _ (takes rest (looked NoteRefused a s) seen e))
      ]
      | inr n ↦ elim (both (passes es l.staged (plan_hashes s.asks) a)) [
        | inl p ↦ takes_by (wanted_skip seen a rest (same_pass a s seen e n ∙ p)) (scan_by es l.staged l.refused rest a s PassBy (look_is a s false true false z p n)) (takes rest s seen e)
        | inr p ↦ takes_by (wanted_new seen a rest (same_pass a s seen e n ∙ p) n) (scan_by es l.staged l.refused rest a s Take (look_is a s false false false z p n))
            (takes_one s a _ _ (eqb-false s.left 0 z) (takes rest (looked Take a s) (a.hash ∷ seen) (more a s seen e)))
      ]
    ]
  ]
    where
      same_pass : (a : Ask) (s : Scanned) (seen : List Hash) → Alike l seen (plan_hashes s.asks) → names l.refused a.hash ≡ false
          → passes es l.staged seen a ≡ passes es l.staged (plan_hashes s.asks) a
      same_pass a s seen e n = ap (λ (b : Bool). is_there (found a.hash es) || names l.staged a.hash || b) (e a.hash n)

      more : (a : Ask) (s : Scanned) (seen : List Hash) → Alike l seen (plan_hashes s.asks) → Alike l (a.hash ∷ seen) (plan_hashes (s.asks ++ (a ∷ [])))
      more a s seen e h n = alike_cons l seen (plan_hashes s.asks) a.hash e h n ∙ sym (plan_more h s.asks a)
