-- The tests of a request's list, one ask after the other. Assumes nothing.
use Rattle.std.specs.Prelude.{◌≡◌, refl, Bool, true, false, not, ◌&&◌, ◌||◌, ℕ, zero, suc, ◌+◌, ◌*◌, ◌-◌, ◌≤◌, ◌<◌, drop}
use Rattle.std.proofs.Math.Path.{sym}
use Rattle.std.proofs.Common.{ap, ◌∙◌, add-one, arith}
use mathlib.Core.List.{List, [], ◌∷◌}
use borrow.Author.Tests.{le-leb, lt-leb}
use Rattle.std.proofs.Math.ListN.{length}
use Rattle.model.specs.Numbers.{max_pending}
use Rattle.model.specs.Lists.{all, any, every}
use Rattle.model.specs.Hash.{same}
use Rattle.model.specs.Records.{found, is_there}
use Rattle.model.specs.Window.{Window}
use Rattle.model.specs.Calls.{Ask, asks_in}
use Rattle.model.specs.Refusals.{listed_once, list_ok, request_refusal}
use Rattle.model.specs.declared.Hash.{Hash}
use Rattle.model.specs.declared.Entry.{Entry}
use Rattle.requests.specs.Asks.{hash_in, ask_at, asks_drop}
use Rattle.requests.specs.Puts.{drop_all}

-- the hash is among the asks
abbrev pub listed : Hash → List Ask → Bool
listed h l = any (λ (x : Ask). same x.hash h) l

-- no ask's hash is pending
abbrev pub none_pending : List Ask → List Entry → Bool
none_pending l es = all (λ (a : Ask). not (is_there (found a.hash es))) l

-- what the code's test of a hash says of the ask's
pub seen : (t : Hash → Bool) (g h : Hash) (r b : Bool) → g ≡ h → r ≡ t g → r ≡ b → t h ≡ b
seen t g h r b is e q = sym (e ∙ ap t is) ∙ q

module _ (hs ts : List ℕ) where
  abbrev asks : List Ask
  asks = asks_in hs ts

  -- a test of all asks, known by those from i on: the ask at i is next, or there is none
  module _ (t : List Ask → Bool) (r : Bool) (i : ℕ) (b : r ≡ t (drop i asks)) where
    by_ask : i < length asks → r ≡ t (ask_at hs ts i ∷ drop (suc i) asks)
    by_ask l = b ∙ ap t (asks_drop hs ts i l)

    by_none : length asks ≤ i → r ≡ t []
    by_none l = b ∙ ap t (drop_all asks i l)

  -- ---- one hash among the asks

  module _ (h : Hash) (r : Bool) (i : ℕ) (b : r ≡ listed h (drop i asks)) where
    by_listed : i < length asks → r ≡ (same (hash_in hs (4 * i)) h || listed h (drop (suc i) asks))
    unfolding any
    by_listed l = by_ask (listed h) r i b l

    pub listed_here : i < length asks → same (hash_in hs (4 * i)) h ≡ true → true ≡ r
    listed_here l e = sym (by_listed l ∙ (λ j. e j || listed h (drop (suc i) asks)))

    pub listed_later : i < length asks → same (hash_in hs (4 * i)) h ≡ false → r ≡ listed h (drop (i + 1) asks)
    listed_later l e = by_listed l ∙ (λ j. e j || listed h (drop (sym (add-one i) j) asks))

    pub listed_nowhere : length asks ≤ i → false ≡ r
    unfolding any
    listed_nowhere l = sym (by_none (listed h) r i b l)

  -- ---- each hash once

  module _ (i : ℕ) (b : listed_once asks ≡ listed_once (drop i asks)) where
    by_once : i < length asks → listed_once asks ≡ (not (listed (hash_in hs (4 * i)) (drop (suc i) asks)) && listed_once (drop (suc i) asks))
    unfolding listed_once
    by_once l = by_ask listed_once (listed_once asks) i b l

    pub once_not : i < length asks → listed (hash_in hs (4 * i)) (drop (i + 1) asks) ≡ true → false ≡ listed_once asks
    once_not l e =
        let q : listed (hash_in hs (4 * i)) (drop (suc i) asks) ≡ true = ap (λ (k : ℕ). listed (hash_in hs (4 * i)) (drop k asks)) (sym (add-one i)) ∙ e in
        sym (by_once l ∙ (λ j. not (q j) && listed_once (drop (suc i) asks)))

    pub once_more : i < length asks → listed (hash_in hs (4 * i)) (drop (i + 1) asks) ≡ false → listed_once asks ≡ listed_once (drop (i + 1) asks)
    once_more l e =
        let q : listed (hash_in hs (4 * i)) (drop (suc i) asks) ≡ false = ap (λ (k : ℕ). listed (hash_in hs (4 * i)) (drop k asks)) (sym (add-one i)) ∙ e in
        by_once l ∙ (λ j. not (q j) && listed_once (drop (sym (add-one i) j) asks))

    pub once_all : length asks ≤ i → true ≡ listed_once asks
    unfolding listed_once
    once_all l = sym (by_none listed_once (listed_once asks) i b l)

  -- ---- none pending

  module _ (es : List Entry) (i : ℕ) (b : none_pending asks es ≡ none_pending (drop i asks) es) where
    by_pending : i < length asks → none_pending asks es ≡ (not (is_there (found (hash_in hs (4 * i)) es)) && none_pending (drop (suc i) asks) es)
    unfolding all
    by_pending l = by_ask (λ (k : List Ask). none_pending k es) (none_pending asks es) i b l

    pub pending_one : i < length asks → is_there (found (hash_in hs (4 * i)) es) ≡ true → false ≡ none_pending asks es
    pending_one l e = sym (by_pending l ∙ (λ j. not (e j) && none_pending (drop (suc i) asks) es))

    pub pending_not : i < length asks → is_there (found (hash_in hs (4 * i)) es) ≡ false → none_pending asks es ≡ none_pending (drop (i + 1) asks) es
    pending_not l e = by_pending l ∙ (λ j. not (e j) && none_pending (drop (sym (add-one i) j) asks) es)

    pub pending_none : length asks ≤ i → true ≡ none_pending asks es
    unfolding all
    pending_none l = sym (by_none (λ (k : List Ask). none_pending k es) (none_pending asks es) i b l)

-- ---- 7, then 8

module _ (l : List Ask) (w : Window) where
  pub list_pending : none_pending l w.queue.pending ≡ false → 7 ≡ request_refusal l w
  unfolding request_refusal list_ok every
  list_pending p = rw p

  module _ (p : none_pending l w.queue.pending ≡ true) where
    pub list_twice : listed_once l ≡ false → 7 ≡ request_refusal l w
    unfolding request_refusal list_ok every
    list_twice o = rw (p, o)

    module _ (o : listed_once l ≡ true) (count n : ℕ) (c : count ≡ length w.queue.pending) (k : n ≡ length l) where
      pub list_many : 256 - count < n → 8 ≡ request_refusal l w
      unfolding request_refusal list_ok every
      list_many h = rw (p, o, lt-leb (length w.queue.pending + length l) max_pending (omega (arith, c, k, h)))

      pub list_good : count ≤ 256 → n ≤ 256 - count → 0 ≡ request_refusal l w
      unfolding request_refusal list_ok every
      list_good f h = rw (p, o, le-leb (length w.queue.pending + length l) max_pending (omega (arith, c, k, f, h)))
