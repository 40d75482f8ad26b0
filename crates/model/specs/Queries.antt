-- The queries, and the values of their answers. A query writes nothing. Definitions only.
use Rattle.std.specs.Prelude.{ℕ, zero, suc, Bool, true, false, List, [], ◌∷◌, length, get_or, None, Some, Option}
use Rattle.model.specs.Numbers.{read_clock}
use Rattle.model.specs.Hash.{hashes_words}
use Rattle.model.specs.Window.{Window}
use Rattle.model.specs.Records.{found, is_there, pending_count_for}
use Rattle.model.specs.Seats.{is_downloading}
use Rattle.model.specs.Time.{active, effective_owner_timeout, peer_has_expired_pending}
use Rattle.model.specs.Pace.{stall_decay_floor}
use Rattle.model.specs.Cooling.{key_of, peer_in_staller_cooldown}
use Rattle.model.specs.Capacity.{Capacity, no_capacity, capacity, has_request_capacity, compute_request_capacity, effective_peer_inflight}
use Rattle.model.specs.LettingGo.{forecast_blocks, forecast_bytes}
use Rattle.model.specs.Races.{Planned, no_plan, planned, prefix_probe_plan, probe_offered, hedge_offered}
use Rattle.model.specs.declared.Hash.{Hash}
use Rattle.model.specs.declared.StallEpisode.{StallEpisode}
use Rattle.model.specs.declared.PrefixProbe.{PrefixProbe}
use Rattle.model.specs.declared.Entry.{Entry}

-- those without an argument, by the Rust's names; `ewma_block_bytes` is the mean, `request_cursor` the frontier
pub data Reading : Type 0 where
  fanout_active pending_len pending_bytes pending_high_water max_pending_blocks min_peers_for_fanout : Reading
  peer_inflight stalling_peer preferred_peer probe_plan active_peers owner_timeout decay_floor : Reading
  request_cursor stall_timeout front_interval_ewma_ms ewma_block_bytes probe_start : Reading

pub data Query : Type 0 where
  reads : Reading → Query
  -- byte headroom, count headroom
  asks_request_capacity : ℕ → ℕ → Query
  -- source, byte headroom, count headroom
  asks_compute_capacity : ℕ → ℕ → ℕ → Query
  -- clock
  asks_expired_capacity : ℕ → Query
  -- source, clock
  asks_has_expired asks_cooldown : ℕ → ℕ → Query
  -- source, hash
  asks_probe_offered asks_hedge_offered : ℕ → Hash → Query
  asks_contains asks_owner : Hash → Query
  -- seat
  asks_downloading asks_count_for asks_queue_start : ℕ → Query

-- ---- values: a flag is 0 or 1; what may be missing is no value where it is

abbrev pub flag : Bool → List ℕ
flag false = 0 ∷ []
flag true = 1 ∷ []

-- a stored number that may be missing
abbrev pub perhaps : ℕ → List ℕ
perhaps zero = []
perhaps (suc n) = n ∷ []

-- a number that may be missing, a seat among them
abbrev pub source_values : Option ℕ → List ℕ
source_values None = []
source_values (Some s) = s ∷ []

abbrev pub owner_values : Option Entry → List ℕ
owner_values None = []
owner_values (Some e) = e.owner ∷ []

-- the key, since the Rust says the endpoint, and the start of the episode
abbrev pub stall_values : Option StallEpisode → Window → List ℕ
stall_values None w = []
stall_values (Some s) w = key_of s.owner w ∷ s.since ∷ []

abbrev pub probe_values : Option PrefixProbe → List ℕ
probe_values None = []
probe_values (Some p) = p.started ∷ []

abbrev pub capacity_values : Capacity → List ℕ
capacity_values no_capacity = []
capacity_values (capacity batch bytes) = batch ∷ bytes ∷ []

-- owner, number of hashes, end height, and the hashes
abbrev pub plan_values : Planned → List ℕ
plan_values no_plan = []
plan_values (planned owner hashes end) = owner ∷ length hashes ∷ end ∷ hashes_words hashes

abbrev pub reading_values : Reading → Window → List ℕ
reading_values fanout_active w = flag w.fanout.engaged
reading_values pending_len w = length w.queue.pending ∷ []
reading_values pending_bytes w = w.queue.total ∷ []
reading_values pending_high_water w = w.high.blocks ∷ w.high.bytes ∷ []
reading_values max_pending_blocks w = w.settings.max_pending_blocks ∷ []
reading_values min_peers_for_fanout w = w.settings.min_peers_for_fanout ∷ []
reading_values peer_inflight w = effective_peer_inflight w ∷ []
reading_values stalling_peer w = stall_values w.watch.stall w
reading_values preferred_peer w = source_values w.races.preferred
reading_values probe_plan w = plan_values (prefix_probe_plan w)
reading_values active_peers w = active w ∷ []
reading_values owner_timeout w = effective_owner_timeout (active w) w ∷ []
reading_values decay_floor w = stall_decay_floor w.settings w.pace ∷ []
reading_values request_cursor w = w.frontier ∷ []
reading_values stall_timeout w = w.pace.wait ∷ []
reading_values front_interval_ewma_ms w = perhaps w.pace.mean
reading_values ewma_block_bytes w = w.mean ∷ []
reading_values probe_start w = probe_values w.races.probe

-- a query's clock is read as that of a changing call
abbrev pub query_values : Query → Window → List ℕ
query_values (reads r) w = reading_values r w
query_values (asks_request_capacity bytes n) w = flag (has_request_capacity bytes n w)
query_values (asks_compute_capacity s bytes n) w = capacity_values (compute_request_capacity s bytes n w)
query_values (asks_expired_capacity c) w = let now = read_clock w.clock c in forecast_blocks now w ∷ forecast_bytes now w ∷ []
query_values (asks_has_expired s c) w = flag (peer_has_expired_pending s (read_clock w.clock c) w)
query_values (asks_cooldown s c) w = flag (peer_in_staller_cooldown s (read_clock w.clock c) w)
query_values (asks_probe_offered s h) w = flag (probe_offered s h w)
query_values (asks_hedge_offered s h) w = flag (hedge_offered s h w)
query_values (asks_contains h) w = flag (is_there (found h w.queue.pending))
query_values (asks_owner h) w = owner_values (found h w.queue.pending)
query_values (asks_downloading s) w = flag (is_downloading s w.queue.starts)
query_values (asks_count_for s) w = pending_count_for s w.queue.pending ∷ []
query_values (asks_queue_start s) w = perhaps (get_or w.queue.starts s 0)
