-- What each accepted change does to the pending entries: it opens what the book writes, and then picks out what it reports. Assumes nothing.
use Rattle.std.specs.Prelude.{◌≡◌, refl, true, cond, not, ◌&&◌, List, [], ◌∷◌, ℕ, ◌+◌, ◌≤◌, length}
use Rattle.std.proofs.Common.{inl, inr, arith, leb-true}
use Rattle.model.specs.Records.{new_entry}
use Rattle.model.specs.Window.{Window, Queue, Step}
use Rattle.model.specs.Races.{is_empty}
use Rattle.model.specs.Calls.{Ask, asks_in, put, puts, started, noted, mark_requested, Fetching, held, staged, asked, no_capacity, owned_fetch, fetched, mark_owned_fetch}
use Rattle.model.specs.Refusals.{Change, checks, report_ok, requests, fetches, receives, credits, credits_duplicate, rejects, expires, requeues, releases, retires, retains, marks_unresponsive, confirms_probe, confirms_hedge, observes, sets_fanout, clears_preferred, plans, plans_retry}
use Rattle.model.specs.Perform.{change, proposes, requested, observed}
use Rattle.model.specs.declared.Hash.{Hash}
use Rattle.model.specs.declared.Entry.{Entry}
use Rattle.model.specs.declared.Release.{Release}
use Rattle.laws.specs.Numbers.{both}
use Rattle.laws.specs.Every.{hold}
use Rattle.laws.specs.Bag.{weigh, one, weigh_one, pick_weigh}
use Rattle.laws.specs.Entries.{Rising, insert_pick, Picks, done, picks_weigh}
use Rattle.laws.specs.Sound.{Sound}
use Rattle.laws.specs.Lets.{Lets, Steady}
use Rattle.laws.proofs.Lets.{requeue_lets, release_lets, retire_lets, expire_lets, retain_owned_lets}
use Rattle.laws.specs.RacesKept.{unresponsive_steady, confirm_steady, hedge_steady}
use Rattle.laws.specs.CallsKept.{duplicate_steady, fanout_steady, preferred_steady}
use Rattle.laws.proofs.CallsKept.{credit_lets, received_lets, reject_lets}
use Rattle.laws.proofs.PlansKept.{plans_lets, plans_retry_lets}
use Rattle.laws.specs.Fits.{FitsChange}
use Rattle.laws.specs.LooksKept.{observe_steady}
use Rattle.laws.specs.Kept.{Accepted, body_le, seat_le}
use Rattle.laws.proofs.Kept.{change_sound}
use Rattle.history.specs.Book.{entries_of, fetch_opens, opens_entries}

-- from the entries l to n: es come in, and gs are picked out
pub record Moves (es : List Entry) (gs : List Release) (l n : List Entry) : Type 0 where
  pub between : List Entry
  pub rising : Rising 0 between
  pub adds : (f : Entry → ℕ) → weigh f between ≡ weigh f es + weigh f l
  pub picks : Picks gs between n

none_added : (l : List Entry) (f : Entry → ℕ) → weigh f l ≡ weigh f [] + weigh f l
unfolding weigh
none_added l f = omega arith

-- a step that lets go, and one that does not
lets_moves : {c : ℕ} {w : Window} {s : Step} → Sound c w → Lets c w s → Moves [] s.gone w.queue.pending s.window.queue.pending
lets_moves {w = w} g h = record { between = w.queue.pending; rising = g.queue.rising; adds = none_added w.queue.pending; picks = h.picks }

steady_moves : {c : ℕ} {w v : Window} → Sound c w → Steady c w v → Moves [] [] w.queue.pending v.queue.pending
steady_moves {w = w} {v = v} g h = record { between = w.queue.pending; rising = g.queue.rising; adds = none_added w.queue.pending; picks = rw h.same done }

-- ---- a request

puts_adds : (f : Entry → ℕ) (l : List Ask) (owner now estimate : ℕ) (q : Queue)
    → weigh f (puts l owner now estimate q).pending ≡ weigh f (entries_of l owner now estimate) + weigh f q.pending
unfolding weigh puts put entries_of
puts_adds f [] owner now estimate q = omega arith
puts_adds f (a ∷ l) owner now estimate q =
    let e = new_entry a.hash owner now a.height estimate in
    omega (arith, puts_adds f l owner now estimate (put e q), pick_weigh f (insert_pick e q.pending))

started_pending : (l : List Ask) (owner now : ℕ) (q : Queue) → (cond (is_empty l) q (started owner now q)).pending ≡ q.pending
unfolding started
started_pending [] owner now q = refl
started_pending (a ∷ l) owner now q = refl

requested_adds : (f : Entry → ℕ) (l : List Ask) (owner next now : ℕ) (w : Window)
    → weigh f (mark_requested l owner next now w).queue.pending ≡ weigh f (entries_of l owner now w.mean) + weigh f w.queue.pending
unfolding mark_requested noted
requested_adds f l owner next now w = elim (both (is_empty w.queue.pending && not (is_empty l))) [
  | inl q ↦ rw (q, started_pending l owner now (puts l owner now w.mean w.queue)) (puts_adds f l owner now w.mean w.queue)
  | inr q ↦ rw (q, started_pending l owner now (puts l owner now w.mean w.queue)) (puts_adds f l owner now w.mean w.queue)
]

fetched_adds : (f : Entry → ℕ) (x : Fetching) (owner : ℕ) (h : Hash) (height now : ℕ) (w : Window)
    → weigh f (fetched x owner h height now w).queue.pending ≡ weigh f (fetch_opens x (new_entry h owner now height w.mean)) + weigh f w.queue.pending
unfolding weigh entries_of
fetched_adds f held owner h height now w = omega arith
fetched_adds f staged owner h height now w = omega arith
fetched_adds f no_capacity owner h height now w = omega arith
fetched_adds f asked owner h height now w = requested_adds f (record { hash = h; height = height } ∷ []) owner 0 now w

-- ---- every change

pub change_moves : (x : Change) (c : ℕ) (w : Window) (room : ℕ) → FitsChange x → Accepted (checks x) w room → Sound c w
    → Moves (opens_entries x c w) (change x c w).gone w.queue.pending (change x c w).window.queue.pending
unfolding requested observed proposes mark_owned_fetch
change_moves (requests t owner hashes heights next bytes n) c w room f a g =
    let v = mark_requested (asks_in hashes heights) owner next c w in
    record {
      between = v.queue.pending;
      rising = (change_sound (requests t owner hashes heights next bytes n) c w room f a g).queue.rising;
      adds = λ k. requested_adds k (asks_in hashes heights) owner next c w;
      picks = done;
    }
change_moves (fetches t owner h height is_staged bytes n) c w room f a g =
    let v = mark_owned_fetch owner h height is_staged bytes n c w in
    record {
      between = v.queue.pending;
      rising = (change_sound (fetches t owner h height is_staged bytes n) c w room f a g).queue.rising;
      adds = λ k. fetched_adds k (owned_fetch owner h is_staged bytes n w) owner h height c w;
      picks = done;
    }
change_moves (receives t h bytes source) c w room f a g = lets_moves g (received_lets h bytes source (body_le bytes w a.content) g)
change_moves (credits t h source height) c w room f a g = lets_moves g (credit_lets h source height g)
change_moves (credits_duplicate h source) c w room f a g = steady_moves g (duplicate_steady h source g)
change_moves (rejects t h source) c w room f a g = lets_moves g (reject_lets h source g)
change_moves (expires t) c w room f a g = lets_moves g (expire_lets g)
change_moves (requeues t h named) c w room f a g = lets_moves g (requeue_lets h named g)
change_moves (releases t h) c w room f a g = lets_moves g (release_lets h g)
change_moves (retires t height) c w room f a g = lets_moves g (retire_lets height g)
change_moves (retains flags) c w room f a g = lets_moves g (retain_owned_lets flags g)
change_moves (marks_unresponsive t source) c w room f a g = steady_moves g (unresponsive_steady source g)
change_moves (confirms_probe t owner given alternates) c w room f a g = steady_moves g (confirm_steady owner given alternates (seat_le owner (hold _ a.peers 0)) g)
change_moves (confirms_hedge owner alternate h) c w room f a g =
    steady_moves g (hedge_steady owner alternate h (seat_le owner (hold _ a.peers 0)) (seat_le alternate (hold _ a.peers 1)) g)
change_moves (observes t l) c w room f a g = steady_moves g (observe_steady l f g)
change_moves (sets_fanout t n) c w room f a g = steady_moves g (fanout_steady n g)
change_moves clears_preferred c w room f a g = steady_moves g (preferred_steady g)
change_moves (plans t source l hash_words heights) c w room f a g = lets_moves g (plans_lets source l g)
change_moves (plans_retry t source l hash_words heights) c w room f a g = lets_moves g (plans_retry_lets source l g)

-- ---- what goes fits into the report

room_le : (room : ℕ) → report_ok true room ≡ true → 256 ≤ room
unfolding report_ok
room_le room q = leb-true 256 room q

lets_room : {c : ℕ} {w : Window} {s : Step} (room : ℕ) → Sound c w → Lets c w s → report_ok true room ≡ true → length s.gone ≤ room
lets_room {w = w} {s = s} room g h q =
    omega (arith, picks_weigh one h.picks, weigh_one w.queue.pending, weigh_one s.window.queue.pending, weigh_one s.gone, g.queue.few, room_le room q)

pub gone_room : (x : Change) (c : ℕ) (w : Window) (room : ℕ) → Accepted (checks x) w room → Sound c w → length (change x c w).gone ≤ room
unfolding requested observed proposes
gone_room (requests t owner hashes heights next bytes n) c w room a g = omega arith
gone_room (fetches t owner h height is_staged bytes n) c w room a g = omega arith
gone_room (receives t h bytes source) c w room a g = lets_room room g (received_lets h bytes source (body_le bytes w a.content) g) a.report
gone_room (credits t h source height) c w room a g = lets_room room g (credit_lets h source height g) a.report
gone_room (credits_duplicate h source) c w room a g = omega arith
gone_room (rejects t h source) c w room a g = lets_room room g (reject_lets h source g) a.report
gone_room (expires t) c w room a g = lets_room room g (expire_lets g) a.report
gone_room (requeues t h named) c w room a g = lets_room room g (requeue_lets h named g) a.report
gone_room (releases t h) c w room a g = lets_room room g (release_lets h g) a.report
gone_room (retires t height) c w room a g = lets_room room g (retire_lets height g) a.report
gone_room (retains flags) c w room a g = lets_room room g (retain_owned_lets flags g) a.report
gone_room (marks_unresponsive t source) c w room a g = omega arith
gone_room (confirms_probe t owner given alternates) c w room a g = omega arith
gone_room (confirms_hedge owner alternate h) c w room a g = omega arith
gone_room (observes t l) c w room a g = omega arith
gone_room (sets_fanout t n) c w room a g = omega arith
gone_room clears_preferred c w room a g = omega arith
gone_room (plans t source l hash_words heights) c w room a g = lets_room room g (plans_lets source l g) a.report
gone_room (plans_retry t source l hash_words heights) c w room a g = lets_room room g (plans_retry_lets source l g) a.report
