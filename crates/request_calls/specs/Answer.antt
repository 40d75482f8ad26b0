-- What a request answers and leaves. Assumes nothing.
use Rattle.std.specs.Prelude.{◌≡◌, Bool, cond, List, [], ◌∷◌, ℕ, suc, ◌+◌, ◌≤◌, ◌<◌, length, eqb, Ok, Err}
use Rattle.std.proofs.Math.Path.{refl}
use Rattle.std.proofs.Common.{sym, ap, subst, ◌∙◌, arith, le-leb, ne_eqb}
use Rattle.std.proofs.Math.Bool.{true, false}
use Rattle.std.proofs.lemmas.Bool.{lt-leb}
use Rattle.model.specs.Window.{Window, with_clock}
use Rattle.model.specs.Layout.{window_of, blank, rising}
use Rattle.model.specs.Capacity.{has_request_capacity}
use Rattle.model.specs.Queries.{flag}
use Rattle.model.specs.Records.{found, is_there}
use Rattle.model.specs.Calls.{Ask, asks_in, mark_requested}
use Rattle.model.specs.Perform.{Answer, refused, says}
use Rattle.model.specs.Refusals.{listed_once, request_refusal}
use Rattle.model.specs.Lists.{all, any}
use Rattle.model.specs.declared.Hash.{Hash}
use Rattle.laws.specs.Whole.{Whole, Holds, holds_whole}
use Rattle.records.specs.Places.{Finds, here_found, free_found}
use Rattle.requests.specs.Asks.{hash_in, ask_at}
use Rattle.requests.specs.Rows.{one_ask}
use Rattle.request_calls.specs.Listed.{none_pending, list_pending, list_many, list_good}

-- the window after a request that is refused by k, or, where k is 0, done
abbrev pub tried : ℕ → List Ask → ℕ → ℕ → ℕ → Window → Window
tried k l owner next now w = cond (eqb k 0) (mark_requested l owner next now w) w

-- the answer: what its list is refused by, or whether there is room for more after it
abbrev pub request_answer : ℕ → ℕ → List Ask → ℕ → ℕ → ℕ → Window → Answer
request_answer bytes n l owner next now w =
    cond (eqb (request_refusal l w) 0) (says 0 (flag (has_request_capacity bytes n (mark_requested l owner next now w)))) (refused (request_refusal l w))

-- the window that it leaves, with its clock
abbrev pub request_window : List Ask → ℕ → ℕ → ℕ → Window → Window
request_window l owner next now w = cond (eqb (request_refusal l w) 0) (with_clock now (mark_requested l owner next now w)) w

-- refused: the words stay
pub stays : (k : ℕ) (l : List Ask) (owner next now : ℕ) (ws : List ℕ) → Whole ws → (k ≡ 0 → ⊥) → Holds (tried k l owner next now (window_of ws)) ws
stays k l owner next now ws h z = rw (ne_eqb k 0 z) (holds_whole ws h)

-- ---- a list of one

module _ (hs ts : List ℕ) (one : length (asks_in hs ts) ≡ 1) (w : Window) (u : rising w.queue.pending ≡ true) where
  pending_is : (b : Bool) → is_there (found (hash_in hs 0) w.queue.pending) ≡ b → none_pending (asks_in hs ts) w.queue.pending ≡ cond b false true
  unfolding all
  pending_is true e = rw (one_ask hs ts one, e) refl
  pending_is false e = rw (one_ask hs ts one, e) refl

  once_is : listed_once (asks_in hs ts) ≡ true
  unfolding listed_once any
  once_is = rw (one_ask hs ts one) refl

  module _ (h : Hash) (e : h ≡ hash_in hs 0) (i : ℕ) where
    pub one_there : Finds h w.queue.pending (Ok i) → 7 ≡ request_refusal (asks_in hs ts) w
    one_there f =
        let there : is_there (found (hash_in hs 0) w.queue.pending) ≡ true =
        ap (λ (g : Hash). is_there (found g w.queue.pending)) (sym e) ∙ ap is_there (here_found h w.queue.pending i u f).0 in
        list_pending (asks_in hs ts) w (pending_is true there)

    module _ (f : Finds h w.queue.pending (Err i)) where
      free : none_pending (asks_in hs ts) w.queue.pending ≡ true
      free = pending_is false (ap (λ (g : Hash). is_there (found g w.queue.pending)) (sym e) ∙ ap is_there (free_found h w.queue.pending i u f).0)

      pub one_full : 256 ≤ length w.queue.pending → 8 ≡ request_refusal (asks_in hs ts) w
      one_full k = list_many (asks_in hs ts) w free once_is (length w.queue.pending) 1 refl (sym one) (omega (arith, k))

      pub one_good : length w.queue.pending < 256 → 0 ≡ request_refusal (asks_in hs ts) w
      one_good k = list_good (asks_in hs ts) w free once_is (length w.queue.pending) 1 refl (sym one) (omega (arith, k)) (omega (arith, k))

-- ---- the answer, from what was tried

module _ (bytes n : ℕ) (l : List Ask) (owner next now : ℕ) (w : Window) (k : ℕ) (e : k ≡ request_refusal l w) where
  pub answers_refused : (ws : List ℕ) → (k ≡ 0 → ⊥) → Holds (tried k l owner next now w) ws
      → (refused k ≡ request_answer bytes n l owner next now w) × Holds (request_window l owner next now w) ws
  answers_refused ws z h =
      subst (λ (j : ℕ). (refused k ≡ cond (eqb j 0) (says 0 (flag (has_request_capacity bytes n (mark_requested l owner next now w)))) (refused j)) × Holds (cond (eqb j 0) (with_clock now (mark_requested l owner next now w)) w) ws) e
      (rw (ne_eqb k 0 z) (refl, rw (ne_eqb k 0 z) at h))

  -- done: the capacity is that of the words after it, the clock is set last
  pub answers : (ws ws' : List ℕ) (r b : Bool) → k ≡ 0 → Holds (tried k l owner next now w) ws → r ≡ has_request_capacity bytes n (window_of ws) → r ≡ b
      → Holds (with_clock now (window_of ws)) ws' → (says 0 (flag b) ≡ request_answer bytes n l owner next now w) × Holds (request_window l owner next now w) ws'
  answers ws ws' r b z h q o s =
      let v = mark_requested l owner next now w in
      let g : Holds v ws = subst (λ (j : ℕ). Holds (tried j l owner next now w) ws) z h in
      let same : b ≡ has_request_capacity bytes n v = sym o ∙ q ∙ ap (has_request_capacity bytes n) g.is in
      subst (λ (j : ℕ). (says 0 (flag b) ≡ cond (eqb j 0) (says 0 (flag (has_request_capacity bytes n v))) (refused j)) × Holds (cond (eqb j 0) (with_clock now v) w) ws') (sym z ∙ e)
      ((λ j. says 0 (flag (same j))), subst (λ (x : Window). Holds (with_clock now x) ws') g.is s)
