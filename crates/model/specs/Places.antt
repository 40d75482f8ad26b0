-- The places and sizes in the 4,096 words, by the names that the code gives them (`at::OWNERS` of crates/model/src is `at_owners` here, `head::COUNT` is
-- `head_count`, `sizes::STALL_WORDS` is `stall_size`). Definitions only.
use Rattle.std.specs.Prelude.{ℕ, ◌+◌}

-- ---- sizes

-- of a column: the records that a window holds at most
abbrev pub places : ℕ
places = 256

-- of a table by seat, or by key
abbrev pub seats : ℕ
seats = 256

-- all words of a window
abbrev pub word_count : ℕ
word_count = 4096

-- MAX_COLD_FRONT_HEDGES: the hedged fronts at most
abbrev pub hedges : ℕ
hedges = 2

-- PREFIX_PROBE_BLOCK_LIMIT: the hashes of a probe at most
abbrev pub probed : ℕ
probed = 8

-- of the states in the head
abbrev pub stall_size : ℕ
stall_size = 6

abbrev pub stuck_size : ℕ
stuck_size = 6

abbrev pub cold_size : ℕ
cold_size = 7

-- the hashes of the hedged fronts
abbrev pub hedged_size : ℕ
hedged_size = 8

abbrev pub observation_size : ℕ
observation_size = 6

-- the hashes of a probe
abbrev pub planned_size : ℕ
planned_size = 32

-- a probe with its hashes
abbrev pub probe_size : ℕ
probe_size = 36

-- the end of the head
abbrev pub kept_size : ℕ
kept_size = 415

-- ---- the columns, and the tables by seat and by key

abbrev pub at_hash_a : ℕ
at_hash_a = 0

abbrev pub at_hash_b : ℕ
at_hash_b = at_hash_a + places

abbrev pub at_hash_c : ℕ
at_hash_c = at_hash_b + places

abbrev pub at_hash_d : ℕ
at_hash_d = at_hash_c + places

abbrev pub at_owners : ℕ
at_owners = at_hash_d + places

abbrev pub at_times : ℕ
at_times = at_owners + places

abbrev pub at_heights : ℕ
at_heights = at_times + places

abbrev pub at_estimates : ℕ
at_estimates = at_heights + places

-- kept 0, for a ninth column
abbrev pub at_spare : ℕ
at_spare = at_estimates + places

abbrev pub at_starts : ℕ
at_starts = at_spare + places

abbrev pub at_bodies : ℕ
at_bodies = at_starts + seats

abbrev pub at_keys : ℕ
at_keys = at_bodies + seats

abbrev pub at_cooling : ℕ
at_cooling = at_keys + seats

abbrev pub at_racers : ℕ
at_racers = at_cooling + seats

abbrev pub at_head : ℕ
at_head = at_racers + seats

-- ---- the head's words, counted from its first

abbrev pub head_format : ℕ
head_format = 0

abbrev pub head_count : ℕ
head_count = head_format + 1

abbrev pub head_last_clock : ℕ
head_last_clock = head_count + 1

abbrev pub head_total : ℕ
head_total = head_last_clock + 1

abbrev pub head_high_blocks : ℕ
head_high_blocks = head_total + 1

abbrev pub head_high_bytes : ℕ
head_high_bytes = head_high_blocks + 1

abbrev pub head_mean : ℕ
head_mean = head_high_bytes + 1

abbrev pub head_frontier : ℕ
head_frontier = head_mean + 1

-- the settings
abbrev pub head_max_pending_blocks : ℕ
head_max_pending_blocks = head_frontier + 1

abbrev pub head_max_pending_bytes : ℕ
head_max_pending_bytes = head_max_pending_blocks + 1

abbrev pub head_max_received_blocks : ℕ
head_max_received_blocks = head_max_pending_bytes + 1

abbrev pub head_max_peer_inflight : ℕ
head_max_peer_inflight = head_max_received_blocks + 1

abbrev pub head_fanout_peer_inflight : ℕ
head_fanout_peer_inflight = head_max_peer_inflight + 1

abbrev pub head_min_peers_for_fanout : ℕ
head_min_peers_for_fanout = head_fanout_peer_inflight + 1

abbrev pub head_getdata_batch_limit : ℕ
head_getdata_batch_limit = head_min_peers_for_fanout + 1

abbrev pub head_block_spacing : ℕ
head_block_spacing = head_getdata_batch_limit + 1

abbrev pub head_received_timeout : ℕ
head_received_timeout = head_block_spacing + 1

abbrev pub head_stall_timeout_initial : ℕ
head_stall_timeout_initial = head_received_timeout + 1

abbrev pub head_stall_timeout_max : ℕ
head_stall_timeout_max = head_stall_timeout_initial + 1

abbrev pub head_staller_cooldown : ℕ
head_staller_cooldown = head_stall_timeout_max + 1

abbrev pub head_fanout_eligible : ℕ
head_fanout_eligible = head_staller_cooldown + 1

abbrev pub head_fanout_engaged : ℕ
head_fanout_engaged = head_fanout_eligible + 1

abbrev pub head_front_mean : ℕ
head_front_mean = head_fanout_engaged + 1

abbrev pub head_front_advance : ℕ
head_front_advance = head_front_mean + 1

abbrev pub head_stall_timeout : ℕ
head_stall_timeout = head_front_advance + 1

abbrev pub head_preferred : ℕ
head_preferred = head_stall_timeout + 1

abbrev pub head_attempted : ℕ
head_attempted = head_preferred + 1

-- stall episode: since, owner, hash
abbrev pub head_stall : ℕ
head_stall = head_attempted + 1

abbrev pub head_stall_owner : ℕ
head_stall_owner = head_stall + 1

abbrev pub head_stall_hash : ℕ
head_stall_hash = head_stall_owner + 1

-- stuck frontier: since, height, hash
abbrev pub head_stuck : ℕ
head_stuck = head_stall + stall_size

abbrev pub head_stuck_height : ℕ
head_stuck_height = head_stuck + 1

abbrev pub head_stuck_hash : ℕ
head_stuck_hash = head_stuck_height + 1

-- cold front: 0 none, 1 waiting, 2 racing; owner; since or alternate; hash
abbrev pub head_cold : ℕ
head_cold = head_stuck + stuck_size

abbrev pub head_cold_owner : ℕ
head_cold_owner = head_cold + 1

abbrev pub head_cold_other : ℕ
head_cold_other = head_cold_owner + 1

abbrev pub head_cold_hash : ℕ
head_cold_hash = head_cold_other + 1

-- hedged fronts: how many, hashes
abbrev pub head_hedged : ℕ
head_hedged = head_cold + cold_size

abbrev pub head_hedged_hashes : ℕ
head_hedged_hashes = head_hedged + 1

-- observation: 0 none, 1 armed, 2 swept; owner; hash
abbrev pub head_observation : ℕ
head_observation = head_hedged_hashes + hedged_size

abbrev pub head_observation_owner : ℕ
head_observation_owner = head_observation + 1

abbrev pub head_observation_hash : ℕ
head_observation_hash = head_observation_owner + 1

-- probe: started, owner, number of hashes, accepted; its hashes
abbrev pub head_probe : ℕ
head_probe = head_observation + observation_size

abbrev pub head_probe_owner : ℕ
head_probe_owner = head_probe + 1

abbrev pub head_probe_count : ℕ
head_probe_count = head_probe_owner + 1

abbrev pub head_probe_accepted : ℕ
head_probe_accepted = head_probe_count + 1

abbrev pub head_probe_hashes : ℕ
head_probe_hashes = head_probe_accepted + 1

-- kept 0 from here on, the first six words for a chain tip
abbrev pub head_kept : ℕ
head_kept = head_probe + probe_size
