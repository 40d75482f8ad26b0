-- The tests of an opening's settings and keys, as the code makes them. Assumes nothing.
use Rattle.std.specs.Prelude.{◌≡◌, Bool, true, false, ◌&&◌, List, [], ◌∷◌, ℕ, suc, ◌+◌, ◌≤◌, ◌<◌, leb, length, get_or, drop}
use Rattle.std.proofs.Math.Path.{sym, ap}
use Rattle.std.proofs.Common.{◌∙◌, add-one, eq-eqb, ne_eqb, le-leb, drop-cons}
use Rattle.std.proofs.Math.Bool.{and-true}
use Rattle.std.proofs.lemmas.Bool.{lt-leb}
use Rattle.std.proofs.Math.Seq.{drop-length}
use Rattle.model.specs.Numbers.{max_seat, max_pending, max_byte_limit, max_count, max_duration}
use Rattle.model.specs.Lists.{all, every}
use Rattle.model.specs.Layout.{settings_ok}
use Rattle.model.specs.Refusals.{seat_ok, keys_ok}
use Rattle.model.specs.declared.Settings.{Settings}
use Rattle.facts.specs.Flags.{fold, fold_every}

-- ---- 5

unfoldable pub settings_tests : Settings → List Bool
settings_tests b =
    leb b.max_pending_blocks max_pending ∷ leb b.max_pending_bytes max_byte_limit ∷ leb b.max_received_blocks max_count
    ∷ leb b.max_peer_inflight max_count ∷ leb b.fanout_peer_inflight max_count ∷ leb b.min_peers_for_fanout max_count
    ∷ leb b.getdata_batch_limit max_count ∷ leb b.block_spacing max_duration ∷ leb b.received_timeout max_duration
    ∷ leb b.stall_timeout_initial max_duration ∷ leb b.stall_timeout_max max_duration ∷ leb b.staller_cooldown max_duration ∷ []

pub settings_are : (b : Settings) → fold (settings_tests b) ≡ settings_ok b
unfolding settings_ok settings_tests
settings_are b = fold_every (settings_tests b)

-- ---- 6

module _ (keys : List ℕ) where
  pub keys_few : (length keys ≡ 256 → ⊥) → false ≡ keys_ok keys
  unfolding keys_ok every
  keys_few n = rw (ne_eqb (length keys) 256 n)

  module _ (n : length keys ≡ 256) where
    -- the keys before i are in range
    pub keys_by : (i : ℕ) → keys_ok keys ≡ all seat_ok (drop i keys) → i < 256 → keys_ok keys ≡ (leb (get_or keys i 0) max_seat && all seat_ok (drop (suc i) keys))
    unfolding all
    keys_by i e h = e ∙ ap (all seat_ok) (drop-cons keys i 0 (rw n h))

    pub keys_start : keys_ok keys ≡ all seat_ok (drop 0 keys)
    unfolding keys_ok every
    keys_start = rw (eq-eqb (length keys) 256 n) (and-true (all seat_ok keys))

    pub keys_wrong : (i : ℕ) → keys_ok keys ≡ all seat_ok (drop i keys) → i < 256 → max_seat < get_or keys i 0 → false ≡ keys_ok keys
    keys_wrong i e h l = sym (keys_by i e h ∙ (λ j. lt-leb (get_or keys i 0) max_seat l j && all seat_ok (drop (suc i) keys)))

    pub keys_next : (i : ℕ) → keys_ok keys ≡ all seat_ok (drop i keys) → i < 256 → get_or keys i 0 ≤ max_seat → keys_ok keys ≡ all seat_ok (drop (i + 1) keys)
    keys_next i e h l = keys_by i e h ∙ (λ j. le-leb (get_or keys i 0) max_seat l j && all seat_ok (drop (sym (add-one i) j) keys))

    pub keys_done : (i : ℕ) → keys_ok keys ≡ all seat_ok (drop i keys) → i ≡ 256 → true ≡ keys_ok keys
    unfolding all
    keys_done i e h = sym (e ∙ ap (λ (k : ℕ). all seat_ok (drop k keys)) (h ∙ sym n) ∙ ap (all seat_ok) (drop-length keys))
