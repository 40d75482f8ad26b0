-- What the code asks, and what its tests say: of the frontier, and of a height that is looked at. Assumes nothing.
use Rattle.std.specs.Prelude.{◌≡◌, refl, Bool, true, false, cond, not, ◌&&◌, ◌||◌, List, [], ◌∷◌, ℕ, suc, ◌*◌, ◌/◌, ◌≤◌, ◌<◌, length, drop, ltb}
use Rattle.std.proofs.Common.{sym, ap, subst, ◌∙◌, inl, inr, arith, drop_of_length-le, drop-cons, lt-ltb, le-ltb, ltb-true}
use Rattle.std.proofs.Math.Bool.{and-false}
use Rattle.model.specs.Hash.{hash, hashes_in}
use Rattle.model.specs.Window.{Window, with_frontier}
use Rattle.model.specs.Layout.{window_of, rising}
use Rattle.model.specs.Records.{found, is_there}
use Rattle.model.specs.Planning.{Lent, names, is_pending, is_staged, is_open, is_first_open, maybe_rewind_request_frontier}
use Rattle.model.specs.declared.Hash.{Hash}
use Rattle.model.specs.declared.Entry.{Entry}
use Rattle.laws.specs.Numbers.{both, and_left}
use Rattle.laws.specs.Sound.{Sound}
use Rattle.laws.specs.Parts.{sound_frontier}
use Rattle.laws.specs.Whole.{Whole, Holds}
use Rattle.requests.specs.Asks.{hash_in}
use Rattle.listed.specs.Search.{length_hashes, hashes_at}
use Rattle.plan_look.specs.declared.Look.TheVariants.{PassBy, NoteRefused, Take}
use Rattle.plan_look.specs.Scan.{look_of}

-- words of a window, in which a hash is asked for
pub record Asked (ws : List ℕ) : Type 0 where
  pub whole : Whole ws
  pub rises : rising (window_of ws).queue.pending ≡ true

-- the first of some hashes is there, and neither pending nor staged
abbrev pub first_open : List Entry → List ℕ → List Hash → Bool
first_open es staged [] = false
first_open es staged (h ∷ hs) = not (is_there (found h es) || names staged h)

abbrev pub Rewinds : List ℕ → List ℕ → ℕ → List ℕ → List ℕ → Type 0
Rewinds chain staged start ws ws' =
    (l : Lent) → l.chain ≡ chain → l.staged ≡ staged → l.start ≡ start → Holds (maybe_rewind_request_frontier l (window_of ws)) ws'

-- ---- the hash at a height of the chain

module _ (chain : List ℕ) (n : ℕ) where
  pub chain_at : n < length chain / 4 → drop n (hashes_in chain) ≡ hash_in chain (4 * n) ∷ drop (suc n) (hashes_in chain)
  chain_at h =
      let z : Hash = hash 0 0 0 0 in
      drop-cons (hashes_in chain) n z (omega (arith, length_hashes chain)) ∙ ap (λ (x : Hash). x ∷ drop (suc n) (hashes_in chain)) (hashes_at chain n z h)

  chain_none : length chain / 4 ≤ n → drop n (hashes_in chain) ≡ []
  chain_none h = let b : length (hashes_in chain) ≤ n = omega (arith, length_hashes chain) in drop_of_length-le (hashes_in chain) b

-- ---- the frontier

module _ (es : List Entry) (chain staged : List ℕ) (start frontier f : ℕ) (e : f ≡ frontier) where
  -- whether the frontier goes back to `start`
  abbrev pub goes_back : Bool
  goes_back = ltb start frontier && first_open es staged (drop start (hashes_in chain))

  pub back_below : f ≤ start → false ≡ goes_back
  back_below h = sym (ap (λ (b : Bool). b && first_open es staged (drop start (hashes_in chain))) (le-ltb start frontier (omega arith)))

  pub back_none : length chain / 4 ≤ start → false ≡ goes_back
  back_none h = sym (ap (λ (x : List Hash). ltb start frontier && first_open es staged x) (chain_none chain start h) ∙ and-false (ltb start frontier))

  pub back_open : start < f → start < length chain / 4 → (h : Hash) (r : Bool) → h ≡ hash_in chain (4 * start) → r ≡ not (is_there (found h es) || names staged h) → r ≡ goes_back
  back_open a b h r q o =
      o ∙ ap (λ (x : Hash). not (is_there (found x es) || names staged x)) q
      ∙ sym (λ i. lt-ltb start frontier (omega (arith, a)) i && first_open es staged (chain_at chain start b i))

first_is : (l : Lent) (w : Window) (hs : List Hash) → is_first_open l w hs ≡ first_open w.queue.pending l.staged hs
unfolding is_open is_pending is_staged
first_is l w [] = refl
first_is l w (h ∷ hs) = refl

pub rewinds : (chain staged : List ℕ) (start : ℕ) (ws ws' : List ℕ) (b : Bool)
    → b ≡ (ltb start (window_of ws).frontier && first_open (window_of ws).queue.pending staged (drop start (hashes_in chain)))
    → Holds (cond b (with_frontier start (window_of ws)) (window_of ws)) ws' → Rewinds chain staged start ws ws'
unfolding maybe_rewind_request_frontier
rewinds chain staged start ws ws' b e h = λ l p q r.
    let w = window_of ws in
    let back : (ltb l.start w.frontier && is_first_open l w (drop l.start (hashes_in l.chain))) ≡ b =
    ap (λ (x : Bool). ltb l.start w.frontier && x) (first_is l w (drop l.start (hashes_in l.chain)))
    ∙ (λ i. ltb (r i) w.frontier && first_open w.queue.pending (q i) (drop (r i) (hashes_in (p i)))) ∙ sym e in
    subst (λ (v : Window). Holds v ws') (sym (λ i. cond (back i) (with_frontier (r i) w) w)) h

-- the frontier alone changes, and falls

pub rewound_queue : (l : Lent) (w : Window) → (maybe_rewind_request_frontier l w).queue ≡ w.queue
unfolding maybe_rewind_request_frontier
rewound_queue l w = elim (both (ltb l.start w.frontier && is_first_open l w (drop l.start (hashes_in l.chain)))) [ inl q ↦ rw q refl | inr q ↦ rw q refl ]

pub rewound_sound : {c : ℕ} {w : Window} (l : Lent) → Sound c w → Sound c (maybe_rewind_request_frontier l w)
unfolding maybe_rewind_request_frontier
rewound_sound {c} {w} l g =
    let first = is_first_open l w (drop l.start (hashes_in l.chain)) in
    elim (both (ltb l.start w.frontier && first)) [
      | inl q ↦ rw q (sound_frontier g l.start (omega (arith, g.frontier, ltb-true l.start w.frontier (and_left (ltb l.start w.frontier) first q))))
      | inr q ↦ rw q g
    ]

-- ---- a look, by its tests: o says that the hash is open, p that it is in the plan, f that it is refused

module _ (x z q o : Bool) (e : o ≡ not x) where
  pub look_closed : not o ≡ true → PassBy ≡ look_of (x || z) q
  look_closed n = sym (ap (λ (b : Bool). look_of (b || z) q) (closed x o e n))
    where
      closed : (x o : Bool) → o ≡ not x → not o ≡ true → x ≡ true
      closed true o e n = refl
      closed false o e n = sym (ap not e) ∙ n

  module _ (n : not o ≡ false) (p : Bool) (i : p ≡ z) where
    opened : x ≡ false
    opened = by x o e n
      where
        by : (x o : Bool) → o ≡ not x → not o ≡ false → x ≡ false
        by true o e n = sym (ap not e) ∙ n
        by false o e n = refl

    looks : (b c : Bool) → p ≡ b → q ≡ c → look_of (x || z) q ≡ look_of b c
    looks b c k m = λ j. look_of (opened j || (sym i ∙ k) j) (m j)

    pub look_listed : p ≡ true → PassBy ≡ look_of (x || z) q
    look_listed k = sym (looks true q k refl)

    module _ (k : p ≡ false) (f : Bool) (m : f ≡ q) where
      pub look_refused : f ≡ true → NoteRefused ≡ look_of (x || z) q
      look_refused t = sym (looks false true k (sym m ∙ t))

      pub look_taken : f ≡ false → Take ≡ look_of (x || z) q
      look_taken t = sym (looks false false k (sym m ∙ t))
