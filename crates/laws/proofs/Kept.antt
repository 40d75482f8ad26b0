-- EVERY CALL KEEPS A WINDOW SOUND: an accepted change of a sound window leaves one. Assumes nothing.
use Rattle.std.specs.Prelude.{◌≡◌, List, [], ◌∷◌, ℕ}
use Rattle.model.specs.Window.{Window}
use Rattle.model.specs.Calls.{asks_in}
use Rattle.model.specs.Refusals.{Change, checks, refusal_at, requests, fetches, receives, credits, credits_duplicate, rejects, expires, requeues, releases, retires, retains, marks_unresponsive, confirms_probe, confirms_hedge, observes, sets_fanout, clears_preferred, plans, plans_retry}
use Rattle.model.specs.Perform.{change, moment_of, changed, proposes, requested, observed}
use Rattle.laws.specs.Every.{hold}
use Rattle.laws.specs.Sound.{Sound}
use Rattle.laws.specs.Parts.{sound_clock}
use Rattle.laws.proofs.Lets.{requeue_lets, release_lets, retire_lets, expire_lets, retain_owned_lets}
use Rattle.laws.specs.RacesKept.{unresponsive_steady, confirm_steady, hedge_steady}
use Rattle.laws.specs.RequestsKept.{Low}
use Rattle.laws.proofs.RequestsKept.{requested_sound, owned_fetch_sound}
use Rattle.laws.specs.CallsKept.{duplicate_steady, fanout_steady, preferred_steady}
use Rattle.laws.proofs.CallsKept.{credit_lets, received_lets, reject_lets}
use Rattle.laws.proofs.PlansKept.{plans_lets, plans_retry_lets}
use Rattle.laws.specs.LooksKept.{observe_steady}
use Rattle.laws.specs.Fits.{LowAll, FitsChange}
use Rattle.laws.specs.Kept.{Accepted, accepted_is, requestable_is, body_le, seat_le, sound_then}

-- ---- arguments

asks_low : (hashes heights : List ℕ) → LowAll heights → Low (asks_in hashes heights)
unfolding asks_in
asks_low hashes [] k = tt
asks_low [] (t ∷ ts) k = tt
asks_low (a ∷ []) (t ∷ ts) k = tt
asks_low (a ∷ b ∷ []) (t ∷ ts) k = tt
asks_low (a ∷ b ∷ c ∷ []) (t ∷ ts) k = tt
asks_low (a ∷ b ∷ c ∷ d ∷ hashes) (t ∷ ts) k = (k.0, asks_low hashes ts k.1)

-- ---- a change, at its moment

pub change_sound : (x : Change) (c : ℕ) (w : Window) (room : ℕ) → FitsChange x → Accepted (checks x) w room → Sound c w → Sound c (change x c w).window
unfolding requested observed proposes
change_sound (requests t owner hashes heights next bytes n) c w room f a g =
    let l = asks_in hashes heights in
    let r = requestable_is l w a.content in
    requested_sound l owner next (seat_le owner a.peers) f.1 (asks_low hashes heights f.0) r.free r.once r.room g
change_sound (fetches t owner h height is_staged bytes n) c w room f a g = owned_fetch_sound owner h height is_staged bytes n (seat_le owner a.peers) f g
change_sound (receives t h bytes source) c w room f a g = (received_lets h bytes source (body_le bytes w a.content) g).sound
change_sound (credits t h source height) c w room f a g = (credit_lets h source height g).sound
change_sound (credits_duplicate h source) c w room f a g = (duplicate_steady h source g).sound
change_sound (rejects t h source) c w room f a g = (reject_lets h source g).sound
change_sound (expires t) c w room f a g = (expire_lets g).sound
change_sound (requeues t h named) c w room f a g = (requeue_lets h named g).sound
change_sound (releases t h) c w room f a g = (release_lets h g).sound
change_sound (retires t height) c w room f a g = (retire_lets height g).sound
change_sound (retains flags) c w room f a g = (retain_owned_lets flags g).sound
change_sound (marks_unresponsive t source) c w room f a g = (unresponsive_steady source g).sound
change_sound (confirms_probe t owner given alternates) c w room f a g = (confirm_steady owner given alternates (seat_le owner (hold _ a.peers 0)) g).sound
change_sound (confirms_hedge owner alternate h) c w room f a g =
    (hedge_steady owner alternate h (seat_le owner (hold _ a.peers 0)) (seat_le alternate (hold _ a.peers 1)) g).sound
change_sound (observes t l) c w room f a g = (observe_steady l f g).sound
change_sound (sets_fanout t n) c w room f a g = (fanout_steady n g).sound
change_sound clears_preferred c w room f a g = (preferred_steady g).sound
change_sound (plans t source l hash_words heights) c w room f a g = (plans_lets source l g).sound
change_sound (plans_retry t source l hash_words heights) c w room f a g = (plans_retry_lets source l g).sound

pub changed_sound : (x : Change) (w : Window) (room : ℕ) → FitsChange x → refusal_at (checks x) w room ≡ 0 → Sound w.clock w
    → Sound (changed x w).window.clock (changed x w).window
unfolding changed
changed_sound x w room f q g =
    let a = accepted_is (checks x) w room q in
    let now = moment_of (checks x).moment w.clock in
    sound_clock (change_sound x now w room f a (sound_then x w room a g)) now
