-- SPECIFICATION 6.7 and 7.8 to 7.12: the ways in which entries are let go. Definitions only.
-- Three ways, as in the Rust: `remove_pending` takes one entry and resets its owner's start; the sweep takes all out and then resets once for
-- each; `retain_peer_assignments` drops whole seats and resets nothing.
use Rattle.std.specs.Prelude.{ℕ, zero, suc, ◌-◌, Bool, cond, not, ◌&&◌, ◌||◌, List, [], ◌∷◌, length, get_or, eqb, ltb, leb, None, Some, Option}
use Rattle.model.specs.Numbers.{lesser, present}
use Rattle.model.specs.Lists.{select, any, count}
use Rattle.model.specs.Hash.{same}
use Rattle.model.specs.Window.{Window, Queue, queue, Step, stay, and_then, after, with_queue, with_frontier, with_observation, with_cold, with_preferred, with_attempted, with_probe, without_probe}
use Rattle.model.specs.Records.{remove, found, sum}
use Rattle.model.specs.Seats.{reset_owner_queue_start, keep_seats}
use Rattle.model.specs.Time.{expired, effective_owner_timeout, owner_download_expired, active}
use Rattle.model.specs.Reasons.{lowered, release}
use Rattle.model.specs.declared.Hash.{Hash}
use Rattle.model.specs.declared.Entry.{Entry}
use Rattle.model.specs.declared.Release.{Release}
use Rattle.model.specs.declared.ColdFront.{ColdFront}
use Rattle.model.specs.declared.ColdFront.TheVariants.{Idle, Waiting, Racing}
use Rattle.model.specs.declared.PrefixProbe.{PrefixProbe}
use Rattle.model.specs.declared.Observation.{Observation}
use Rattle.model.specs.declared.Observation.TheVariants.{Unarmed, Armed, Swept}

-- ---- one entry

-- the queue without the entry e
unfoldable pub without : Entry → Queue → Queue
without e q = queue (q.total - e.estimate) (remove e.hash q.pending) q.starts q.bodies

abbrev pub take_out : ℕ → ℕ → Option Entry → Window → Step
take_out reason now None w = stay w
take_out reason now (Some e) w = record {
  window = with_frontier (lowered reason e.height w.frontier)
      (with_queue (reset_owner_queue_start e.owner e.time now (without e w.queue)) w);
  gone = release e reason ∷ [];
}

-- `remove_pending`; where its caller lowers `next_request_height` to the entry's height, the table of reasons says so here
unfoldable pub remove_pending : Hash → ℕ → ℕ → Window → Step
remove_pending h reason now w = take_out reason now (found h w.queue.pending) w

-- `release_pending`
unfoldable pub release_pending : Hash → ℕ → Window → Step
release_pending h now w = remove_pending h 4 now w

-- a height that was named lowers the frontier, entry or none
abbrev pub lower_to : Option ℕ → Window → Window
lower_to None w = w
lower_to (Some n) w = with_frontier (lesser w.frontier n) w

-- `requeue_for_retry`: the frontier falls to the lesser of the entry's height and the named one, as far as they are there
unfoldable pub requeue_for_retry : Hash → Option ℕ → ℕ → Window → Step
requeue_for_retry h named now w = after (remove_pending h 3 now w) (lower_to named)

-- `remove_pending` of one entry after the other
unfoldable pub retire_all : List Entry → ℕ → Window → Step
retire_all [] now w = stay w
retire_all (e ∷ es) now w = and_then (remove_pending e.hash 5 now w) (retire_all es now)

-- `retire_before`, pending part: by rising hash
unfoldable pub retire_before : ℕ → ℕ → Window → Step
retire_before height now w = retire_all (select (λ e. ltb e.height height) w.queue.pending) now w

-- ---- many entries: `goes` is 0 for an entry that stays, else its reason

abbrev pub if_gone : ℕ → Entry → List Release → List Release
if_gone zero e l = l
if_gone (suc r) e l = release e (suc r) ∷ l

abbrev pub if_kept : ℕ → Entry → List Entry → List Entry
if_kept zero e l = e ∷ l
if_kept (suc r) e l = l

unfoldable pub gone : (Entry → ℕ) → List Entry → List Release
gone goes [] = []
gone goes (e ∷ l) = if_gone (goes e) e (gone goes l)

unfoldable pub kept : (Entry → ℕ) → List Entry → List Entry
kept goes [] = []
kept goes (e ∷ l) = if_kept (goes e) e (kept goes l)

-- `pending_bytes.saturating_sub` for each
unfoldable pub total_after : List Release → ℕ → ℕ
total_after [] n = n
total_after (g ∷ gs) n = total_after gs (n - g.entry.estimate)

-- `next_request_height.min` for each, by the table of reasons
unfoldable pub frontier_after : List Release → ℕ → ℕ
frontier_after [] f = f
frontier_after (g ∷ gs) f = frontier_after gs (lowered g.reason g.entry.height f)

-- `extract_if`, with total and frontier
unfoldable pub extract : (Entry → ℕ) → Window → Step
extract goes w = let gs = gone goes w.queue.pending in record {
  window = with_frontier (frontier_after gs w.frontier)
      (with_queue (queue (total_after gs w.queue.total) (kept goes w.queue.pending) w.queue.starts w.queue.bodies) w);
  gone = gs;
}

-- ---- the sweep

-- the age is at least the stall wait, while the owner's last body is strictly later than the request
unfoldable pub skipped : ℕ → Window → Entry → Bool
skipped now w e = leb w.pace.wait (now - e.time) && ltb (suc e.time) (get_or w.queue.bodies e.owner 0)

-- 6 goes before 7
unfoldable pub sweep_reason : ℕ → ℕ → Window → Entry → ℕ
sweep_reason now timeout w e = cond (expired now timeout (get_or w.queue.starts e.owner 0)) 6 (cond (skipped now w e) 7 0)

-- g is the observed entry
unfoldable pub is_entry : ℕ → Hash → Release → Bool
is_entry owner h g = same g.entry.hash h && eqb g.entry.owner owner

-- an armed observation whose entry is swept is marked so
abbrev pub marked_swept : List Release → Observation → Observation
marked_swept gs Unarmed = Unarmed
marked_swept gs (Armed owner h) = cond (any (is_entry owner h) gs) (Swept owner h) (Armed owner h)
marked_swept gs (Swept owner h) = Swept owner h

-- `reset_owner_queue_start` for each that went
unfoldable pub resets : ℕ → List Release → Queue → Queue
resets now [] q = q
resets now (g ∷ gs) q = resets now gs (reset_owner_queue_start g.entry.owner g.entry.time now q)

abbrev pub swept : ℕ → Step → Step
swept now s = record {
  window = with_observation (marked_swept s.gone s.window.watch.observation) (with_queue (resets now s.gone s.window.queue) s.window);
  gone = s.gone;
}

-- `expire_pending`
unfoldable pub expire_pending : ℕ → Window → Step
expire_pending now w = swept now (extract (sweep_reason now (effective_owner_timeout (active w) w) w) w)

-- `expired_pending_capacity`: the timeout is worked out at each record, as the Rust does
unfoldable pub forecast : ℕ → Window → List Entry
forecast now w = select (λ e. owner_download_expired e.owner (active w) now w) w.queue.pending

unfoldable pub forecast_blocks : ℕ → Window → ℕ
forecast_blocks now w = length (forecast now w)

unfoldable pub forecast_bytes : ℕ → Window → ℕ
forecast_bytes now w = sum (forecast now w)

-- ---- whole seats

abbrev pub observation_kept : (ℕ → Bool) → Observation → Observation
observation_kept keep Unarmed = Unarmed
observation_kept keep (Armed owner h) = cond (keep owner) (Armed owner h) Unarmed
observation_kept keep (Swept owner h) = cond (keep owner) (Swept owner h) Unarmed

-- the entries of a seat that is not kept go for the reason
unfoldable pub lost_reason : (ℕ → Bool) → ℕ → Entry → ℕ
lost_reason keep reason e = cond (keep e.owner) 0 reason

-- starts and last bodies of seats that are not kept, entries or none
unfoldable pub seats_kept : (ℕ → Bool) → Window → Window
seats_kept keep w =
    with_queue (queue w.queue.total w.queue.pending (keep_seats keep 0 w.queue.starts) (keep_seats keep 0 w.queue.bodies))
    (with_observation (observation_kept keep w.watch.observation) w)

-- `retain_peer_assignments`
unfoldable pub retain_peer_assignments : (ℕ → Bool) → ℕ → Window → Step
retain_peer_assignments keep reason w = after (extract (lost_reason keep reason) w) (seats_kept keep)

abbrev pub cold_kept : (ℕ → Bool) → ColdFront → ColdFront
cold_kept owns Idle = Idle
cold_kept owns (Waiting owner h since) = cond (owns owner) (Waiting owner h since) Idle
cold_kept owns (Racing owner alternate h) = cond (owns owner && owns alternate) (Racing owner alternate h) Idle

abbrev pub peer_kept : (ℕ → Bool) → Option ℕ → Option ℕ
peer_kept owns None = None
peer_kept owns (Some s) = cond (owns s) (Some s) None

-- the probe goes with its owner, or where fewer than two racers are left
abbrev pub probe_kept : (ℕ → Bool) → Option PrefixProbe → List ℕ → Window → Window
probe_kept owns None racers w = w
probe_kept owns (Some p) racers w =
    cond (not (owns p.owner) || ltb (count present racers) 2) (without_probe w) (with_probe (Some p) w.races.planned racers w)

-- what `retain_owned_by` drops besides what its seats were asked for
unfoldable pub roles_kept : (ℕ → Bool) → Window → Window
roles_kept owns w =
    probe_kept owns w.races.probe (keep_seats owns 0 w.races.racers)
    (with_attempted (peer_kept owns w.races.attempted)
    (with_preferred (peer_kept owns w.races.preferred)
    (with_cold (cold_kept owns w.races.cold) w)))

-- SPECIFICATION 7.12: flags by seat, nonzero for owned
unfoldable pub flagged : List ℕ → ℕ → Bool
flagged flags s = not (eqb (get_or flags s 0) 0)

-- `retain_owned_by`
unfoldable pub retain_owned_by : List ℕ → Window → Step
retain_owned_by flags w = retain_peer_assignments (flagged flags) 8 (roles_kept (flagged flags) w)
