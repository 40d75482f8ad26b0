-- What the promise of a request comes to, from its tests and the request in the words. Assumes nothing.
use Rattle.std.specs.Prelude.{◌≡◌, ℕ, ◌≤◌, eqb}
use Rattle.std.proofs.Math.Path.{sym, subst}
use Rattle.std.proofs.Common.{◌∙◌, eqb-true}
use Rattle.std.proofs.Math.Logic.{inl, inr}
use Rattle.std.proofs.Math.Bool.{false}
use mathlib.Core.List.{List}
use Rattle.std.proofs.lemmas.Bool.{eqb-false}
use Rattle.model.specs.Numbers.{read_clock, max_seat}
use Rattle.model.specs.Layout.{window_of}
use Rattle.model.specs.Calls.{asks_in}
use Rattle.model.specs.Refusals.{Change, changes, at, checking, nothing, seat_ok, request_refusal, window_refusal, requests}
use Rattle.model.specs.Perform.{Answer, refused, requested, changed}
use Rattle.laws.specs.Sound.{Sound}
use Rattle.laws.specs.Numbers.{both}
use Rattle.laws.specs.Whole.{Whole, Holds, holds_whole}
use Rattle.laws.specs.Kept.{seat_le}
use Rattle.admission.specs.Content.{refused_before, refused_after}
use Rattle.request_calls.specs.Answer.{request_answer, request_window}
use Rattle.refusals.specs.Outcomes.{Performed, refused_so, changed_so, admitted}

-- ---- a request

module _ (c owner : ℕ) (hs ts : List ℕ) (next bytes count : ℕ) (ws : List ℕ) (k : ℕ) (e : k ≡ window_refusal (checking false (at c) (seat_ok owner) nothing) ws 0) where
  abbrev asked : Change
  asked = requests c owner hs ts next bytes count

  pub request_refused : (k ≡ 0 → ⊥) → Performed (changes asked) ws (refused k) ws
  request_refused h =
      refused_so (changes asked) ws k (refused_before false (at c) (seat_ok owner) (request_refusal (asks_in hs ts)) ws 0 k e h) h

  module _ (z : k ≡ 0) where
    -- what the request asks
    pub request_ready : Whole ws × (Sound c (window_of ws) × (owner ≤ max_seat))
    unfolding read_clock
    request_ready =
        let g = admitted (checking false (at c) (seat_ok owner) nothing) ws 0 k e z in
        (g.whole, (g.sound_at, seat_le owner g.passes.peers))

    refusal_is : request_refusal (asks_in hs ts) (window_of ws) ≡ window_refusal (checking false (at c) (seat_ok owner) (request_refusal (asks_in hs ts))) ws 0
    refusal_is = refused_after false (at c) (seat_ok owner) (request_refusal (asks_in hs ts)) ws 0 k e z

    -- refused by its list, or done
    pub request_so : (a : Answer) (ws' : List ℕ) → a ≡ request_answer bytes count (asks_in hs ts) owner next c (window_of ws)
        → Holds (request_window (asks_in hs ts) owner next c (window_of ws)) ws' → Performed (changes asked) ws a ws'
    unfolding changed requested read_clock
    request_so a ws' q h =
        let l = asks_in hs ts in
        let w = window_of ws in
        let n = request_refusal l w in
        elim (both (eqb n 0)) [
          | inl y ↦ changed_so asked ws ws' n a refusal_is (eqb-true n 0 y) (rw y at q) (rw y at h)
          | inr y ↦
              let stay : Holds w ws' = rw y at h in
              let same : ws ≡ ws' = (holds_whole ws request_ready.0).words ∙ sym stay.words in
              let said : a ≡ refused n = rw y at q in
              subst (λ (x : List ℕ). Performed (changes asked) ws a x) same
              (subst (λ (b : Answer). Performed (changes asked) ws b ws) (sym said) (refused_so (changes asked) ws n refusal_is (eqb-false n 0 y)))
        ]
