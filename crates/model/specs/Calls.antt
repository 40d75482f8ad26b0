-- SPECIFICATION 7.1 to 7.7, 7.17, 7.18: requests, deliveries and rejections. Definitions only.
use Rattle.std.specs.Prelude.{ℕ, suc, ◌+◌, ◌-◌, ◌*◌, ◌/◌, Bool, true, false, cond, not, ◌&&◌, ◌||◌, List, [], ◌∷◌, length, get_or, set, eqb, ltb, leb, None, Some, Option}
use Rattle.model.specs.Numbers.{greater, min_estimate}
use Rattle.model.specs.Hash.{same, hash}
use Rattle.model.specs.Window.{Window, Queue, queue, HighWater, Step, stay, and_then, after, window, races, watch, with_queue, with_mean, with_frontier, with_high, with_cold, with_preferred, with_attempted, with_stall, with_observation, with_pace, with_fanout, without_probe, no_seats}
use Rattle.model.specs.Records.{new_entry, insert, found, is_there, pending_count_for}
use Rattle.model.specs.Seats.{start_noted}
use Rattle.model.specs.Pace.{was_front, front_recorded, pace_opened}
use Rattle.model.specs.Capacity.{has_request_capacity, effective_peer_inflight}
use Rattle.model.specs.LettingGo.{remove_pending}
use Rattle.model.specs.Races.{is_empty, resolve_cold_front_delivery, record_prefix_probe_delivery}
use Rattle.model.specs.declared.Hash.{Hash}
use Rattle.model.specs.declared.Entry.{Entry}
use Rattle.model.specs.declared.Settings.{Settings}
use Rattle.model.specs.declared.StallEpisode.{StallEpisode}
use Rattle.model.specs.declared.ColdFront.{ColdFront}
use Rattle.model.specs.declared.ColdFront.TheVariants.{Idle, Waiting, Racing}
use Rattle.model.specs.declared.PrefixProbe.{PrefixProbe}
use Rattle.model.specs.declared.Observation.{Observation}
use Rattle.model.specs.declared.Observation.TheVariants.{Unarmed, Armed, Swept}

-- `DownloadWindow::new`: SPECIFICATION 7.1: total 0, frontier 1, mean 262,144
unfoldable pub opened : ℕ → Settings → List ℕ → Window
opened now b keys =
    window b keys now 262144 1 (record { blocks = 0; bytes = 0 }) (queue 0 [] no_seats no_seats) no_seats (record { eligible = 0; engaged = false })
    (pace_opened b) (races Idle [] None None [] no_seats None) (watch None None Unarmed)

-- ---- requests

-- an entry of a request's list: the Rust's `PeerRequestEntry`
pub record Ask : Type 0 where
  pub hash : Hash
  pub height : ℕ

-- a request's list from four words a hash and a height each, as many as both lists hold whole
unfoldable pub asks_in : List ℕ → List ℕ → List Ask
asks_in hashes [] = []
asks_in [] (t ∷ ts) = []
asks_in (a ∷ []) (t ∷ ts) = []
asks_in (a ∷ b ∷ []) (t ∷ ts) = []
asks_in (a ∷ b ∷ c ∷ []) (t ∷ ts) = []
asks_in (a ∷ b ∷ c ∷ d ∷ hashes) (t ∷ ts) = record { hash = hash a b c d; height = t } ∷ asks_in hashes ts

-- an entry goes in
unfoldable pub put : Entry → Queue → Queue
put e q = queue (q.total + e.estimate) (insert e q.pending) q.starts q.bodies

unfoldable pub puts : List Ask → ℕ → ℕ → ℕ → Queue → Queue
puts [] owner now estimate q = q
puts (a ∷ rest) owner now estimate q = puts rest owner now estimate (put (new_entry a.hash owner now a.height estimate) q)

unfoldable pub raised : HighWater → Queue → HighWater
raised h q = record { blocks = greater h.blocks (length q.pending); bytes = greater h.bytes q.total }

unfoldable pub started : ℕ → ℕ → Queue → Queue
started owner now q = queue q.total q.pending (set q.starts owner (start_noted now (get_or q.starts owner 0))) q.bodies

-- the entries are in, and the high waters follow
unfoldable pub noted : List Ask → ℕ → ℕ → Window → Window
noted asks owner now w =
    let q = puts asks owner now w.mean w.queue in
    with_high (raised w.high q) (with_queue (cond (is_empty asks) q (started owner now q)) w)

-- `mark_requested`; what it answers is `has_request_capacity` afterwards
unfoldable pub mark_requested : List Ask → ℕ → ℕ → ℕ → Window → Window
mark_requested asks owner next now w =
    let v = noted asks owner now (cond (is_empty w.queue.pending && not (is_empty asks)) (with_attempted None w) w) in
    with_frontier (greater v.frontier next) v

-- what an owned fetch comes to
pub data Fetching : Type 0 where
  held staged asked no_capacity : Fetching

-- `mark_owned_fetch`: held where it is pending, staged where it is staged, no capacity, else asked
unfoldable pub owned_fetch : ℕ → Hash → Bool → ℕ → ℕ → Window → Fetching
owned_fetch owner h is_staged byte_headroom count_headroom w =
    cond (is_there (found h w.queue.pending)) held
    (cond is_staged staged
    (cond (not (has_request_capacity byte_headroom count_headroom w) || leb (effective_peer_inflight w) (pending_count_for owner w.queue.pending))
    no_capacity asked))

abbrev pub fetched : Fetching → ℕ → Hash → ℕ → ℕ → Window → Window
fetched held owner h height now w = w
fetched staged owner h height now w = w
fetched no_capacity owner h height now w = w
fetched asked owner h height now w =
    with_attempted w.races.attempted (mark_requested (record { hash = h; height = height } ∷ []) owner 0 now w)

unfoldable pub mark_owned_fetch : ℕ → Hash → ℕ → Bool → ℕ → ℕ → ℕ → Window → Window
mark_owned_fetch owner h height is_staged byte_headroom count_headroom now w =
    fetched (owned_fetch owner h is_staged byte_headroom count_headroom w) owner h height now w

-- ---- deliveries

-- the observation of this hash and this owner ends
abbrev pub unless_observed : Hash → ℕ → Observation → Observation
unless_observed h source Unarmed = Unarmed
unless_observed h source (Armed owner x) = cond (same x h && eqb owner source) Unarmed (Armed owner x)
unless_observed h source (Swept owner x) = cond (same x h && eqb owner source) Unarmed (Swept owner x)

-- `credit_duplicate_delivery`
unfoldable pub credit_duplicate_delivery : Hash → ℕ → Window → Window
credit_duplicate_delivery h source w = with_observation (unless_observed h source w.watch.observation) w

-- an episode of this owner or of this front ends
abbrev pub unless_stalled : Hash → ℕ → Option StallEpisode → Option StallEpisode
unless_stalled h source None = None
unless_stalled h source (Some s) = cond (eqb s.owner source || same s.front h) None (Some s)

-- `record_delivery_progress`
unfoldable pub record_delivery_progress : ℕ → Hash → ℕ → ℕ → Window → Window
record_delivery_progress source h height now w =
    let v = with_stall (unless_stalled h source w.watch.stall) w in
    cond (was_front height v.queue.pending) (with_pace (front_recorded v.settings now v.pace) v) v

-- a delivery without a pending height is no front
abbrev pub progress_by : Option ℕ → ℕ → Hash → ℕ → Window → Window
progress_by None source h now w = w
progress_by (Some n) source h now w = record_delivery_progress source h n now w

-- `owner_last_body_at.insert(source, now)`
unfoldable pub body_noted : ℕ → ℕ → Window → Window
body_noted source now w =
    with_queue (queue w.queue.total w.queue.pending w.queue.starts (set w.queue.bodies source (suc now))) w

-- `credit_delivery_from`
unfoldable pub credit_delivery_from : Hash → ℕ → Option ℕ → ℕ → Window → Step
credit_delivery_from h source height now w =
    after
    (and_then (resolve_cold_front_delivery h source now (credit_duplicate_delivery h source (body_noted source now w)))
    (record_prefix_probe_delivery h source now))
    (progress_by height source h now)

abbrev pub height_of : Option Entry → Option ℕ
height_of None = None
height_of (Some e) = Some e.height

-- the source is credited, if there is one
abbrev pub credit_by : Option ℕ → Hash → Option ℕ → ℕ → Window → Step
credit_by None h height now w = stay w
credit_by (Some source) h height now w = credit_delivery_from h source height now w

-- SPECIFICATION 7.4: mean = max((7 × mean + bytes) / 8, 80)
unfoldable pub next_mean : ℕ → ℕ → ℕ
next_mean mean bytes = greater ((mean * 7 + bytes) / 8) min_estimate

-- `mark_received_from`; it answers the height of the entry, where there was one
unfoldable pub mark_received_from : Hash → ℕ → Option ℕ → ℕ → Window → Step
mark_received_from h bytes source now w =
    after (and_then (remove_pending h 1 now w) (credit_by source h (height_of (found h w.queue.pending)) now))
    (λ v. with_mean (next_mean v.mean bytes) v)

-- ---- rejections

-- a cold front of this hash ends by its owner's rejection, and a race by its alternate's too
abbrev pub unless_front : Hash → ℕ → ColdFront → ColdFront
unless_front h source Idle = Idle
unless_front h source (Waiting owner x since) = cond (same x h && eqb owner source) Idle (Waiting owner x since)
unless_front h source (Racing owner alternate x) = cond (same x h && (eqb source owner || eqb source alternate)) Idle (Racing owner alternate x)

abbrev pub is_owner : Option ℕ → Option Entry → Bool
is_owner None front = false
is_owner (Some s) None = false
is_owner (Some s) (Some e) = eqb e.owner s

abbrev pub rejected_by : Option ℕ → Hash → Window → Window
rejected_by None h w = w
rejected_by (Some s) h w = with_cold (unless_front h s w.races.cold) (credit_duplicate_delivery h s w)

-- `reject_delivery`; it answers whether it released the entry
unfoldable pub reject_delivery : Hash → Option ℕ → ℕ → Window → Step
reject_delivery h source now w =
    let v = rejected_by source h w in
    cond (is_owner source (found h v.queue.pending)) (remove_pending h 2 now v) (stay v)

-- ---- other calls

abbrev pub is_young : Option PrefixProbe → ℕ → ℕ → Bool
is_young None initial now = false
is_young (Some p) initial now = ltb (now - p.started) initial

unfoldable pub engages : ℕ → ℕ → Window → Bool
engages n now w =
    cond (leb w.settings.min_peers_for_fanout n && not (is_young w.races.probe w.settings.stall_timeout_initial now)) true
    (cond (ltb (suc n) w.settings.min_peers_for_fanout) false w.fanout.engaged)

-- `set_fanout_eligible_peers`; `count.saturating_add(1)` may be `suc`, since the setting is far below 2^64
unfoldable pub set_fanout_eligible_peers : ℕ → ℕ → Window → Window
set_fanout_eligible_peers n now w =
    let v = with_fanout (record { eligible = n; engaged = engages n now w }) w in
    cond v.fanout.engaged (without_probe v) v

-- `clear_preferred_peer`
unfoldable pub clear_preferred_peer : Window → Window
clear_preferred_peer w = with_preferred None w
