-- What an owned fetch comes to, by the code's tests. Assumes nothing.
use Rattle.std.specs.Prelude.{◌≡◌, refl, Bool, true, false, cond, not, ◌||◌, List, [], ◌∷◌, ℕ, suc, ◌+◌, ◌≤◌, ◌<◌, length, None, Some, Option}
use Rattle.std.proofs.Common.{sym, ap, arith}
use Rattle.std.proofs.Math.Path.{subst}
use borrow.Author.Tests.{le-leb, lt-leb}
use Rattle.model.specs.Numbers.{max_estimate}
use Rattle.model.specs.Records.{found, is_there, pending_count_for}
use Rattle.model.specs.Window.{Window, Queue}
use Rattle.model.specs.Capacity.{has_request_capacity, effective_peer_inflight}
use Rattle.model.specs.Calls.{Ask, Fetching, held, staged, asked, no_capacity, owned_fetch, fetched, mark_owned_fetch}
use Rattle.model.specs.Layout.{window_of, source_word}
use Rattle.model.specs.Perform.{says, fetch_values}
use Rattle.model.specs.Says.{fetch_answer}
use Rattle.model.specs.declared.Hash.{Hash}
use Rattle.model.specs.declared.Fetch.{Fetch}
use Rattle.laws.specs.RequestsKept.{Asking}
use Rattle.laws.specs.Sound.{Sound, SoundSource}
use Rattle.laws.specs.Whole.{Holds}
use Rattle.requests.specs.Puts.{Ready, ready_sound}

-- a sound seat can be written
pub source_writes : (s : Option ℕ) → SoundSource s → source_word s ≤ 256
source_writes None h = omega arith
source_writes (Some s) h = omega arith

-- the one ask of an owned fetch
abbrev pub ask_of : Hash → ℕ → List Ask
ask_of h height = record { hash = h; height = height } ∷ []

pub asking_ready : {c : ℕ} {w : Window} (h : Hash) (height : ℕ) → Sound c w → Asking h w → Ready (ask_of h height) w.queue
asking_ready h height g a = ready_sound (ask_of h height) g.queue (a.free, tt) (tt, tt) (omega (arith, a.room))

module _ (owner : ℕ) (h : Hash) (is_staged : Bool) (bytes n : ℕ) (w : Window) where
  abbrev here : Bool
  here = is_there (found h w.queue.pending)

  abbrev comes_to : Fetching → Type 0
  comes_to f = owned_fetch owner h is_staged bytes n w ≡ f

  pub is_held : here ≡ true → comes_to held
  unfolding owned_fetch
  is_held a = rw a

  module _ (a : here ≡ false) where
    pub is_staged_there : is_staged ≡ true → comes_to staged
    unfolding owned_fetch
    is_staged_there b = simp (a, b)

    module _ (b : is_staged ≡ false) where
      pub is_asked : has_request_capacity bytes n w ≡ true → pending_count_for owner w.queue.pending < effective_peer_inflight w → comes_to asked
      unfolding owned_fetch
      is_asked k l = simp (a, b, k, lt-leb (effective_peer_inflight w) (pending_count_for owner w.queue.pending) l)

      pub is_full : has_request_capacity bytes n w ≡ false → comes_to no_capacity
      unfolding owned_fetch
      is_full k = simp (a, b, k)

      pub is_over : has_request_capacity bytes n w ≡ true → effective_peer_inflight w ≤ pending_count_for owner w.queue.pending → comes_to no_capacity
      unfolding owned_fetch
      is_over k l = simp (a, b, k, le-leb (effective_peer_inflight w) (pending_count_for owner w.queue.pending) l)

  -- what the contract says, of the case that it came to
  pub fetch_done : (height now : ℕ) (ws : List ℕ) (f : Fetching) (r : Fetch) → comes_to f → fetch_answer r ≡ says 0 (fetch_values f) → Holds (fetched f owner h height now w) ws
      → (fetch_answer r ≡ says 0 (fetch_values (owned_fetch owner h is_staged bytes n w))) × Holds (mark_owned_fetch owner h height is_staged bytes n now w) ws
  unfolding mark_owned_fetch
  fetch_done height now ws f r e s k =
      (subst (λ (x : Fetching). fetch_answer r ≡ says 0 (fetch_values x)) (sym e) s, subst (λ (x : Fetching). Holds (fetched x owner h height now w) ws) (sym e) k)

-- a test on what was read is one on the window
pub less_so : {a b c d : ℕ} → a ≡ b → c ≡ d → a < c → b < d
less_so {a} {b} {c} {d} p q h = subst (λ (x : ℕ). x < d) p (subst (λ (y : ℕ). a < y) q h)

pub le_so : {a b c d : ℕ} → a ≡ b → c ≡ d → a ≤ c → b ≤ d
le_so {a} {b} {c} {d} p q h = subst (λ (x : ℕ). x ≤ d) p (subst (λ (y : ℕ). a ≤ y) q h)
