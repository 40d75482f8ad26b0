-- What the promise of each accepted change comes to, from the steps on the words. Assumes nothing.
use Rattle.std.specs.Prelude.{◌≡◌, refl, Bool, List, [], ◌∷◌, ℕ}
use Rattle.model.specs.Numbers.{read_clock}
use Rattle.model.specs.Window.{with_clock}
use Rattle.model.specs.Layout.{window_of}
use Rattle.model.specs.Cooling.{mark_peer_unresponsive}
use Rattle.model.specs.Calls.{owned_fetch, mark_owned_fetch, credit_duplicate_delivery, set_fanout_eligible_peers, clear_preferred_peer}
use Rattle.model.specs.Refusals.{changes, checks, window_refusal, clears_preferred, credits_duplicate, sets_fanout, marks_unresponsive, fetches}
use Rattle.model.specs.Perform.{Answer, changed, says, fetch_values}
use Rattle.model.specs.declared.Hash.{Hash}
use Rattle.laws.specs.Whole.{Holds}
use Rattle.refusals.specs.Outcomes.{Performed, changed_so, clock_set}

pub preferred_so : (ws ws' : List ℕ) (n : ℕ) → n ≡ window_refusal (checks clears_preferred) ws 0 → n ≡ 0
    → Holds (clear_preferred_peer (window_of ws)) ws' → Performed (changes clears_preferred) ws (says 0 []) ws'
unfolding changed clear_preferred_peer
preferred_so ws ws' n e z h = changed_so clears_preferred ws ws' n (says 0 []) e z refl h

pub duplicate_so : (h : Hash) (s : ℕ) (ws ws' : List ℕ) (n : ℕ) → n ≡ window_refusal (checks (credits_duplicate h s)) ws 0 → n ≡ 0
    → Holds (credit_duplicate_delivery h s (window_of ws)) ws' → Performed (changes (credits_duplicate h s)) ws (says 0 []) ws'
unfolding changed credit_duplicate_delivery
duplicate_so h s ws ws' n e z k = changed_so (credits_duplicate h s) ws ws' n (says 0 []) e z refl k

pub fanout_so : (c k : ℕ) (ws ws₁ ws₂ : List ℕ) (n : ℕ) → n ≡ window_refusal (checks (sets_fanout c k)) ws 0 → n ≡ 0
    → Holds (set_fanout_eligible_peers k c (window_of ws)) ws₁ → Holds (with_clock c (window_of ws₁)) ws₂
    → Performed (changes (sets_fanout c k)) ws (says 0 []) ws₂
unfolding changed read_clock
fanout_so c k ws ws₁ ws₂ n e z h l =
    changed_so (sets_fanout c k) ws ws₂ n (says 0 []) e z refl (clock_set c (set_fanout_eligible_peers k c (window_of ws)) ws₁ ws₂ h l)

pub unresponsive_so : (c s : ℕ) (ws ws₁ ws₂ : List ℕ) (n : ℕ) → n ≡ window_refusal (checks (marks_unresponsive c s)) ws 0 → n ≡ 0
    → Holds (mark_peer_unresponsive s c (window_of ws)) ws₁ → Holds (with_clock c (window_of ws₁)) ws₂
    → Performed (changes (marks_unresponsive c s)) ws (says 0 []) ws₂
unfolding changed read_clock
unresponsive_so c s ws ws₁ ws₂ n e z h l =
    changed_so (marks_unresponsive c s) ws ws₂ n (says 0 []) e z refl (clock_set c (mark_peer_unresponsive s c (window_of ws)) ws₁ ws₂ h l)

pub fetch_so : (c owner : ℕ) (h : Hash) (height : ℕ) (staged : Bool) (bytes count : ℕ) (ws ws₁ ws₂ : List ℕ) (n : ℕ)
    → n ≡ window_refusal (checks (fetches c owner h height staged bytes count)) ws 0 → n ≡ 0
    → (a : Answer) → a ≡ says 0 (fetch_values (owned_fetch owner h staged bytes count (window_of ws)))
    → Holds (mark_owned_fetch owner h height staged bytes count c (window_of ws)) ws₁ → Holds (with_clock c (window_of ws₁)) ws₂
    → Performed (changes (fetches c owner h height staged bytes count)) ws a ws₂
unfolding changed read_clock
fetch_so c owner h height staged bytes count ws ws₁ ws₂ n e z a q k l =
    changed_so (fetches c owner h height staged bytes count) ws ws₂ n a e z q
    (clock_set c (mark_owned_fetch owner h height staged bytes count c (window_of ws)) ws₁ ws₂ k l)
