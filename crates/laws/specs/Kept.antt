-- EVERY CALL KEEPS A WINDOW SOUND: what an accepted call has passed; an accepted opening makes a sound window (an accepted change of a sound window leaves
-- one: proofs/Kept.antt). Assumes nothing.
use Rattle.std.specs.Prelude.{◌≡◌, refl, Bool, true, false, List, [], ◌∷◌, ℕ, zero, suc, ◌+◌, ◌≤◌, length, get_or, leb}
use Rattle.std.proofs.Common.{arith, eqb-true, leb-true}
use Rattle.model.specs.Numbers.{max_clock, max_seat, max_body, max_pending, clock_ok, read_clock}
use Rattle.model.specs.Lists.{all}
use Rattle.model.specs.Window.{Window}
use Rattle.model.specs.Calls.{Ask, opened}
use Rattle.model.specs.Layout.{settings_ok}
use Rattle.model.specs.Refusals.{Change, Moment, timeless, at, Checks, checks, test, seat_ok, keys_ok, list_ok, request_refusal, body_refusal, moment_ok, report_ok, refusal_at, is_long, opening_refusal}
use Rattle.model.specs.Perform.{moment_of}
use Rattle.model.specs.declared.Settings.{Settings}
use Rattle.laws.specs.Numbers.{and_left, and_right}
use Rattle.laws.specs.Every.{hold, all_first, all_rest}
use Rattle.laws.specs.Sound.{Sound}
use Rattle.laws.specs.Parts.{later}
use Rattle.laws.specs.RequestsKept.{Free, Once, free_is, once_is}
use Rattle.laws.specs.CallsKept.{opened_sound}

-- ---- a test that was passed

pub passed : (n : ℕ) (ok : Bool) (rest : ℕ) → test (suc n) ok rest ≡ 0 → (ok ≡ true) × (rest ≡ 0)
passed n true rest q = (refl, q)
passed n false rest q = absurd (omega arith)

-- what an accepted call has passed
pub record Accepted (k : Checks) (w : Window) (room : ℕ) : Type 0 where
  pub report : report_ok k.lets_go room ≡ true
  pub moment : moment_ok k.moment w.clock ≡ true
  pub peers : k.peers ≡ true
  pub content : k.content w ≡ 0

pub accepted_is : (k : Checks) (w : Window) (room : ℕ) → refusal_at k w room ≡ 0 → Accepted k w room
unfolding refusal_at
accepted_is k w room q =
    let a = passed 2 (report_ok k.lets_go room) _ q in
    let b = passed 3 (moment_ok k.moment w.clock) _ a.1 in
    let c = passed 5 k.peers (k.content w) b.1 in
    record { report = a.0; moment = b.0; peers = c.0; content = c.1 }

-- the moment of an accepted call is no earlier than the last clock, and at most 2^62
pub moment_later : (m : Moment) (last : ℕ) → last ≤ max_clock → moment_ok m last ≡ true → (last ≤ moment_of m last) × (moment_of m last ≤ max_clock)
unfolding clock_ok read_clock
moment_later timeless last h q = (omega arith, h)
moment_later (at c) last h q =
    (leb-true last c (and_right (leb c max_clock) (leb last c) q), leb-true c max_clock (and_left (leb c max_clock) (leb last c) q))

-- a request that is accepted lists new hashes, each once, and has room
pub record Requestable (l : List Ask) (w : Window) : Type 0 where
  pub free : Free l w.queue.pending
  pub once : Once l
  pub room : length l + length w.queue.pending ≤ max_pending

pub requestable_is : (l : List Ask) (w : Window) → request_refusal l w ≡ 0 → Requestable l w
unfolding request_refusal list_ok
requestable_is l w q =
    let a = passed 6 (list_ok l w) _ q in
    let b = passed 7 (leb (length w.queue.pending + length l) max_pending) 0 a.1 in
    record {
      free = free_is l w.queue.pending (hold _ a.0 0);
      once = once_is l (hold _ a.0 1);
      room = omega (arith, leb-true (length w.queue.pending + length l) max_pending b.0);
    }

pub body_le : (bytes : ℕ) (w : Window) → body_refusal bytes w ≡ 0 → bytes ≤ max_body
unfolding body_refusal
body_le bytes w q = leb-true bytes max_body (passed 8 (leb bytes max_body) 0 q).0

pub seat_le : (s : ℕ) → seat_ok s ≡ true → s ≤ max_seat
seat_le s q = leb-true s max_seat q

-- a sound window at the moment of an accepted call
pub sound_then : (x : Change) (w : Window) (room : ℕ) → Accepted (checks x) w room → Sound w.clock w → Sound (moment_of (checks x).moment w.clock) w
sound_then x w room a g = let m = moment_later (checks x).moment w.clock g.clock a.moment in later m.0 m.1 g

-- ---- an opening

all_most : (l : List ℕ) → all seat_ok l ≡ true → (s : ℕ) → get_or l s 0 ≤ max_seat
all_most [] q s = omega arith
all_most (x ∷ l) q zero = leb-true x max_seat (all_first seat_ok x l q)
all_most (x ∷ l) q (suc s) = all_most l (all_rest seat_ok x l q) s

pub opens_sound : (c : ℕ) (b : Settings) (keys ws : List ℕ) → opening_refusal c b keys ws ≡ 0 → Sound c (opened c b keys)
unfolding opening_refusal keys_ok
opens_sound c b keys ws q =
    let i = passed 0 (is_long ws) _ q in
    let j = passed 3 (leb c max_clock) _ i.1 in
    let k = passed 4 (settings_ok b) _ j.1 in
    let m = passed 5 (keys_ok keys) 0 k.1 in
    opened_sound c b keys (leb-true c max_clock j.0) k.0 (record { places = eqb-true (length keys) 256 (hold _ m.0 0); most = all_most keys (hold _ m.0 1) })
