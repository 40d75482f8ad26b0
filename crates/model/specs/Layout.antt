-- How a window lies in its 4,096 words, and which words are a window; docs/LAYOUT.md says the same in words. Definitions only.
--      0 .. 2047   eight columns of 256: four hash words, owner, time, height, estimate; places after the count hold 0
--   2048 .. 2303   kept 0 for a ninth column
--   2304 .. 3583   256 words each: start by seat, last body by seat, key by seat, cooling by key, racer by seat
--   3584 .. 4095   the head
-- Three forms: the words; the `Table`, every place of every part and no more (all words are some table's); the `Window`, what the table says
-- where it is valid. `decode` and `flat` go between words and tables, `read` and `table` between tables and windows.
use Rattle.std.specs.Prelude.{ℕ, zero, suc, ◌+◌, ◌-◌, ◌*◌, Bool, true, false, cond, ◌&&◌, List, [], ◌∷◌, ◌++◌, map, length, get_or, take, drop, replicate, eqb, ltb, leb, None, Some, Option}
use Rattle.model.specs.Places.{places, seats, hedges, probed, stall_size, stuck_size, cold_size, hedged_size, observation_size, planned_size, probe_size, kept_size, at_hash_a, at_hash_b, at_hash_c, at_hash_d, at_owners, at_times, at_heights, at_estimates, at_spare, at_starts, at_bodies, at_keys, at_cooling, at_racers, at_head, head_format, head_count, head_last_clock, head_total, head_high_blocks, head_high_bytes, head_mean, head_frontier, head_max_pending_blocks, head_max_pending_bytes, head_max_received_blocks, head_max_peer_inflight, head_fanout_peer_inflight, head_min_peers_for_fanout, head_getdata_batch_limit, head_block_spacing, head_received_timeout, head_stall_timeout_initial, head_stall_timeout_max, head_staller_cooldown, head_fanout_eligible, head_fanout_engaged, head_front_mean, head_front_advance, head_stall_timeout, head_preferred, head_attempted, head_stall, head_stall_owner, head_stall_hash, head_stuck, head_stuck_height, head_stuck_hash, head_cold, head_cold_owner, head_cold_other, head_cold_hash, head_hedged, head_hedged_hashes, head_observation, head_observation_owner, head_observation_hash, head_probe, head_probe_owner, head_probe_count, head_probe_accepted, head_probe_hashes, head_kept}
use Rattle.model.specs.Numbers.{max_clock, max_height, min_estimate, max_estimate, max_duration, max_byte_limit, max_count, max_pending, max_seat, max_front_mean, max_progress}
use Rattle.model.specs.Lists.{pad, all, every}
use Rattle.model.specs.Hash.{hash, less, hashes_in, hashes_words, hash_words}
use Rattle.model.specs.Records.{sum}
use Rattle.model.specs.Seats.{oldest}
use Rattle.model.specs.Pace.{pace}
use Rattle.model.specs.Window.{Window, window, queue, races, watch, episode, stuck_at, probing}
use Rattle.model.specs.declared.Hash.{Hash}
use Rattle.model.specs.declared.Entry.{Entry}
use Rattle.model.specs.declared.Settings.{Settings}
use Rattle.model.specs.declared.StallEpisode.{StallEpisode}
use Rattle.model.specs.declared.StuckFrontier.{StuckFrontier}
use Rattle.model.specs.declared.ColdFront.{ColdFront}
use Rattle.model.specs.declared.ColdFront.TheVariants.{Idle, Waiting, Racing}
use Rattle.model.specs.declared.PrefixProbe.{PrefixProbe}
use Rattle.model.specs.declared.Observation.{Observation}
use Rattle.model.specs.declared.Observation.TheVariants.{Unarmed, Armed, Swept}

pub record Table : Type 0 where
  pub entries : List Entry
  pub spare : List ℕ
  pub starts : List ℕ
  pub bodies : List ℕ
  pub keys : List ℕ
  pub cooling : List ℕ
  pub racers : List ℕ
  pub head : List ℕ

-- what a place that is not live holds
abbrev pub blank : Entry
blank = record { hash = hash 0 0 0 0; owner = 0; time = 0; height = 0; estimate = 0 }

-- ---- words to table

-- the entry whose first word is the first of ws
unfoldable pub entry_at : List ℕ → Entry
entry_at ws = record {
  hash = hash (get_or ws at_hash_a 0) (get_or ws at_hash_b 0) (get_or ws at_hash_c 0) (get_or ws at_hash_d 0);
  owner = get_or ws at_owners 0;
  time = get_or ws at_times 0;
  height = get_or ws at_heights 0;
  estimate = get_or ws at_estimates 0;
}

-- the first n places
unfoldable pub rows : ℕ → List ℕ → List Entry
rows zero ws = []
rows (suc n) ws = entry_at ws ∷ rows n (drop 1 ws)

unfoldable pub decode : List ℕ → Table
decode ws = record {
  entries = rows places ws;
  spare = take places (drop at_spare ws);
  starts = take seats (drop at_starts ws);
  bodies = take seats (drop at_bodies ws);
  keys = take seats (drop at_keys ws);
  cooling = take seats (drop at_cooling ws);
  racers = take seats (drop at_racers ws);
  head = drop at_head ws;
}

-- ---- table to words

-- the word of an entry that is in the column k
abbrev pub field : ℕ → Entry → ℕ
field zero e = e.hash.a
field (suc zero) e = e.hash.b
field (suc (suc zero)) e = e.hash.c
field (suc (suc (suc zero))) e = e.hash.d
field (suc (suc (suc (suc zero)))) e = e.owner
field (suc (suc (suc (suc (suc zero))))) e = e.time
field (suc (suc (suc (suc (suc (suc zero)))))) e = e.height
field (suc (suc (suc (suc (suc (suc (suc zero))))))) e = e.estimate
field (suc (suc (suc (suc (suc (suc (suc (suc n)))))))) e = 0

-- the number of columns
abbrev pub column_count : ℕ
column_count = 8

-- the first k columns
unfoldable pub columns : ℕ → List Entry → List ℕ
columns zero es = []
columns (suc k) es = columns k es ++ map (field k) es

unfoldable pub flat : Table → List ℕ
flat t = columns column_count t.entries ++ (t.spare ++ (t.starts ++ (t.bodies ++ (t.keys ++ (t.cooling ++ (t.racers ++ t.head))))))

-- ---- the head's words, group by group

-- from `head_max_pending_blocks` on
unfoldable pub settings_words : Settings → List ℕ
settings_words b =
    b.max_pending_blocks ∷ b.max_pending_bytes ∷ b.max_received_blocks ∷ b.max_peer_inflight ∷ b.fanout_peer_inflight
    ∷ b.min_peers_for_fanout ∷ b.getdata_batch_limit ∷ b.block_spacing ∷ b.received_timeout ∷ b.stall_timeout_initial
    ∷ b.stall_timeout_max ∷ b.staller_cooldown ∷ []

-- `head_fanout_engaged`
abbrev pub flag_word : Bool → ℕ
flag_word false = 0
flag_word true = 1

-- `head_preferred`, `head_attempted`: a seat that may be missing
abbrev pub source_word : Option ℕ → ℕ
source_word None = 0
source_word (Some s) = suc s

-- from `head_stall` on
abbrev pub stall_words : Option StallEpisode → List ℕ
stall_words None = replicate stall_size 0
stall_words (Some s) = suc s.since ∷ s.owner ∷ hash_words s.front

-- from `head_stuck` on
abbrev pub stuck_words : Option StuckFrontier → List ℕ
stuck_words None = replicate stuck_size 0
stuck_words (Some s) = suc s.since ∷ s.height ∷ hash_words s.front

-- from `head_cold` on
abbrev pub cold_words : ColdFront → List ℕ
cold_words Idle = replicate cold_size 0
cold_words (Waiting owner h since) = 1 ∷ owner ∷ suc since ∷ hash_words h
cold_words (Racing owner alternate h) = 2 ∷ owner ∷ alternate ∷ hash_words h

-- from `head_hedged` on
unfoldable pub hedged_words : List Hash → List ℕ
hedged_words hs = length hs ∷ pad hedged_size 0 (hashes_words hs)

-- from `head_observation` on
abbrev pub observation_words : Observation → List ℕ
observation_words Unarmed = replicate observation_size 0
observation_words (Armed owner h) = 1 ∷ owner ∷ hash_words h
observation_words (Swept owner h) = 2 ∷ owner ∷ hash_words h

-- from `head_probe` on
abbrev pub probe_words : Option PrefixProbe → ℕ → List ℕ
probe_words None n = 0 ∷ 0 ∷ n ∷ 0 ∷ []
probe_words (Some p) n = suc p.started ∷ p.owner ∷ n ∷ p.accepted ∷ []

-- from `head_probe_hashes` on
unfoldable pub planned_words : List Hash → List ℕ
planned_words hs = pad planned_size 0 (hashes_words hs)

-- the value of the format word
abbrev pub format : ℕ
format = 1

-- from `head_format` on: format, count, last clock, total, high waters, mean, frontier
unfoldable pub counts_words : Window → List ℕ
counts_words w =
    format ∷ length w.queue.pending ∷ w.clock ∷ w.queue.total ∷ w.high.blocks ∷ w.high.bytes ∷ w.mean ∷ w.frontier ∷ []

-- from `head_fanout_eligible` on: fan-out, pace, preferred and attempted
unfoldable pub small_words : Window → List ℕ
small_words w =
    w.fanout.eligible ∷ flag_word w.fanout.engaged ∷ w.pace.mean ∷ w.pace.advance ∷ w.pace.wait
    ∷ source_word w.races.preferred ∷ source_word w.races.attempted ∷ []

-- the words from `head_kept` on are kept 0, the first six of them for a chain tip
unfoldable pub head_words : Window → List ℕ
head_words w =
    counts_words w ++ (settings_words w.settings ++ (small_words w
    ++ (stall_words w.watch.stall ++ (stuck_words w.watch.stuck ++ (cold_words w.races.cold
    ++ (hedged_words w.races.hedged ++ (observation_words w.watch.observation
    ++ (probe_words w.races.probe (length w.races.planned) ++ (planned_words w.races.planned ++ replicate kept_size 0)))))))))

unfoldable pub table : Window → Table
table w = record {
  entries = pad places blank w.queue.pending;
  spare = replicate places 0;
  starts = w.queue.starts;
  bodies = w.queue.bodies;
  keys = w.keys;
  cooling = w.cooling;
  racers = w.races.racers;
  head = head_words w;
}

-- ---- what a table says

-- the word at a place of the head
unfoldable pub word : ℕ → Table → ℕ
word k t = get_or t.head k 0

-- the n words of the head from k on
unfoldable pub words_at : ℕ → ℕ → Table → List ℕ
words_at k n t = take n (drop k t.head)

unfoldable pub hash_at : ℕ → Table → Hash
hash_at k t = hash (word k t) (word (k + 1) t) (word (k + 2) t) (word (k + 3) t)

-- the entries up to the count
unfoldable pub live : Table → List Entry
live t = take (word head_count t) t.entries

unfoldable pub settings_of : Table → Settings
settings_of t = record {
  max_pending_blocks = word head_max_pending_blocks t;
  max_pending_bytes = word head_max_pending_bytes t;
  max_received_blocks = word head_max_received_blocks t;
  max_peer_inflight = word head_max_peer_inflight t;
  fanout_peer_inflight = word head_fanout_peer_inflight t;
  min_peers_for_fanout = word head_min_peers_for_fanout t;
  getdata_batch_limit = word head_getdata_batch_limit t;
  block_spacing = word head_block_spacing t;
  received_timeout = word head_received_timeout t;
  stall_timeout_initial = word head_stall_timeout_initial t;
  stall_timeout_max = word head_stall_timeout_max t;
  staller_cooldown = word head_staller_cooldown t;
}

abbrev pub source_of : ℕ → Option ℕ
source_of zero = None
source_of (suc s) = Some s

abbrev pub stall_of : ℕ → ℕ → Hash → Option StallEpisode
stall_of zero owner h = None
stall_of (suc since) owner h = episode owner h since

abbrev pub stuck_of : ℕ → ℕ → Hash → Option StuckFrontier
stuck_of zero height h = None
stuck_of (suc since) height h = stuck_at height h since

abbrev pub cold_of : ℕ → ℕ → ℕ → Hash → ColdFront
cold_of zero owner x h = Idle
cold_of (suc zero) owner x h = Waiting owner h (x - 1)
cold_of (suc (suc n)) owner x h = Racing owner x h

abbrev pub observation_of : ℕ → ℕ → Hash → Observation
observation_of zero owner h = Unarmed
observation_of (suc zero) owner h = Armed owner h
observation_of (suc (suc n)) owner h = Swept owner h

abbrev pub probe_of : ℕ → ℕ → ℕ → Option PrefixProbe
probe_of zero owner accepted = None
probe_of (suc started) owner accepted = probing owner accepted started

unfoldable pub read : Table → Window
read t =
    window (settings_of t) t.keys (word head_last_clock t) (word head_mean t) (word head_frontier t) (record { blocks = word head_high_blocks t; bytes = word head_high_bytes t })
    (queue (word head_total t) (live t) t.starts t.bodies) t.cooling (record { eligible = word head_fanout_eligible t; engaged = eqb (word head_fanout_engaged t) 1 })
    (pace (word head_front_mean t) (word head_front_advance t) (word head_stall_timeout t))
    (races (cold_of (word head_cold t) (word head_cold_owner t) (word head_cold_other t) (hash_at head_cold_hash t)) (take (word head_hedged t) (hashes_in (words_at head_hedged_hashes hedged_size t))) (source_of (word head_preferred t))
    (probe_of (word head_probe t) (word head_probe_owner t) (word head_probe_accepted t)) (take (word head_probe_count t) (hashes_in (words_at head_probe_hashes planned_size t))) t.racers (source_of (word head_attempted t)))
    (watch (stall_of (word head_stall t) (word head_stall_owner t) (hash_at head_stall_hash t)) (stuck_of (word head_stuck t) (word head_stuck_height t) (hash_at head_stuck_hash t))
    (observation_of (word head_observation t) (word head_observation_owner t) (hash_at head_observation_hash t)))

-- ---- which tables are a window

abbrev pub is_0 : ℕ → Bool
is_0 x = eqb x 0

-- SPECIFICATION 1.5: settings are in range
unfoldable pub settings_ok : Settings → Bool
settings_ok b =
    every (leb b.max_pending_blocks max_pending ∷ leb b.max_pending_bytes max_byte_limit ∷ leb b.max_received_blocks max_count
    ∷ leb b.max_peer_inflight max_count ∷ leb b.fanout_peer_inflight max_count ∷ leb b.min_peers_for_fanout max_count
    ∷ leb b.getdata_batch_limit max_count ∷ leb b.block_spacing max_duration ∷ leb b.received_timeout max_duration
    ∷ leb b.stall_timeout_initial max_duration ∷ leb b.stall_timeout_max max_duration ∷ leb b.staller_cooldown max_duration ∷ [])

-- format, count, last clock, mean, frontier; high waters are no lower
unfoldable pub counts_ok : Table → Bool
counts_ok t =
    every (eqb (word head_format t) format ∷ leb (word head_count t) max_pending ∷ leb (word head_last_clock t) max_clock ∷ leb (word head_count t) (word head_high_blocks t) ∷ leb (word head_total t) (word head_high_bytes t)
    ∷ leb min_estimate (word head_mean t) ∷ leb (word head_mean t) max_estimate ∷ leb (word head_frontier t) max_height ∷ [])

-- engaged is a flag; the pace's ranges; preferred and attempted are seats
unfoldable pub small_ok : Table → Bool
small_ok t =
    every (leb (word head_fanout_engaged t) 1 ∷ leb (word head_front_mean t) (suc max_front_mean) ∷ leb (word head_front_advance t) (suc (word head_last_clock t)) ∷ leb (word head_stall_timeout t) max_duration
    ∷ leb (word head_preferred t) (suc max_seat) ∷ leb (word head_attempted t) (suc max_seat) ∷ [])

-- a group that is not there is 0 throughout
unfoldable pub zeros : ℕ → ℕ → Table → Bool
zeros k n t = all is_0 (words_at k n t)

-- a stored time is none or at most the last clock
abbrev pub time_ok : ℕ → Table → Bool
time_ok s t = leb s (suc (word head_last_clock t))

unfoldable pub stall_ok : Table → Bool
stall_ok t = cond (is_0 (word head_stall t)) (zeros head_stall stall_size t) (every (time_ok (word head_stall t) t ∷ leb (word head_stall_owner t) max_seat ∷ []))

unfoldable pub stuck_ok : Table → Bool
stuck_ok t = cond (is_0 (word head_stuck t)) (zeros head_stuck stuck_size t) (every (time_ok (word head_stuck t) t ∷ leb (word head_stuck_height t) max_height ∷ []))

-- by its first word: none, waiting since, racing with
abbrev pub cold_by : ℕ → Table → Bool
cold_by zero t = zeros head_cold cold_size t
cold_by (suc zero) t = every (leb (word head_cold_owner t) max_seat ∷ ltb 0 (word head_cold_other t) ∷ time_ok (word head_cold_other t) t ∷ [])
cold_by (suc (suc zero)) t = every (leb (word head_cold_owner t) max_seat ∷ leb (word head_cold_other t) max_seat ∷ [])
cold_by (suc (suc (suc n))) t = false

unfoldable pub cold_ok : Table → Bool
cold_ok t = cold_by (word head_cold t) t

-- at most two, and 0 after them
unfoldable pub hedged_ok : Table → Bool
hedged_ok t = every (leb (word head_hedged t) hedges ∷ all is_0 (drop (4 * word head_hedged t) (words_at head_hedged_hashes hedged_size t)) ∷ [])

abbrev pub observation_by : ℕ → Table → Bool
observation_by zero t = zeros head_observation observation_size t
observation_by (suc zero) t = leb (word head_observation_owner t) max_seat
observation_by (suc (suc zero)) t = leb (word head_observation_owner t) max_seat
observation_by (suc (suc (suc n))) t = false

unfoldable pub observation_ok : Table → Bool
observation_ok t = observation_by (word head_observation t) t

-- at most eight hashes, and 0 after them; without a probe there are no racers
unfoldable pub probe_ok : Table → Bool
probe_ok t =
    cond (is_0 (word head_probe t)) (every (zeros head_probe probe_size t ∷ all is_0 t.racers ∷ []))
    (every (time_ok (word head_probe t) t ∷ leb (word head_probe_owner t) max_seat ∷ leb (word head_probe_count t) probed ∷ leb (word head_probe_accepted t) max_progress
    ∷ all is_0 (drop (4 * word head_probe_count t) (words_at head_probe_hashes planned_size t)) ∷ []))

unfoldable pub head_ok : Table → Bool
head_ok t =
    every (counts_ok t ∷ settings_ok (settings_of t) ∷ small_ok t ∷ stall_ok t ∷ stuck_ok t ∷ cold_ok t ∷ hedged_ok t ∷ observation_ok t
    ∷ probe_ok t ∷ zeros head_kept kept_size t ∷ [])

-- a place that is not live
unfoldable pub is_blank : Entry → Bool
is_blank e =
    every (is_0 e.hash.a ∷ is_0 e.hash.b ∷ is_0 e.hash.c ∷ is_0 e.hash.d
    ∷ is_0 e.owner ∷ is_0 e.time ∷ is_0 e.height ∷ is_0 e.estimate ∷ [])

-- an entry's ranges, at the last clock c
unfoldable pub entry_ok : ℕ → Entry → Bool
entry_ok c e =
    every (leb e.owner max_seat ∷ leb e.time c ∷ leb e.height max_height ∷ leb min_estimate e.estimate ∷ leb e.estimate max_estimate ∷ [])

-- each hash is less than the next
abbrev pub less_first : Entry → List Entry → Bool
less_first e [] = true
less_first e (x ∷ l) = less e.hash x.hash

unfoldable pub rising : List Entry → Bool
rising [] = true
rising (e ∷ l) = less_first e l && rising l

-- the start s of a seat, by its oldest request: there is one exactly where it owns a record, no earlier than its oldest
unfoldable pub start_ok : ℕ → ℕ → ℕ → Bool
start_ok c old s = cond (is_0 old) (is_0 s) (every (leb old s ∷ leb s (suc c) ∷ []))

-- the starts from the seat i on
unfoldable pub starts_ok : ℕ → List Entry → ℕ → List ℕ → Bool
starts_ok c l i [] = true
starts_ok c l i (s ∷ ss) = start_ok c (oldest i l) s && starts_ok c l (suc i) ss

unfoldable pub tables_ok : Table → Bool
tables_ok t =
    every (starts_ok (word head_last_clock t) (live t) 0 t.starts ∷ all (λ s. time_ok s t) t.bodies ∷ all (λ k. leb k max_seat) t.keys
    ∷ all (λ s. time_ok s t) t.cooling ∷ all (λ r. leb r (suc max_progress)) t.racers ∷ [])

unfoldable pub records_ok : Table → Bool
records_ok t =
    every (all is_blank (drop (word head_count t) t.entries) ∷ all (entry_ok (word head_last_clock t)) (live t) ∷ rising (live t) ∷ eqb (word head_total t) (sum (live t)) ∷ [])

-- SPECIFICATION 9.2: words count as a window when ..
unfoldable pub valid : Table → Bool
valid t = every (head_ok t ∷ all is_0 t.spare ∷ records_ok t ∷ tables_ok t ∷ [])

-- ---- words and window

unfoldable pub encode : Window → List ℕ
encode w = flat (table w)

unfoldable pub window_of : List ℕ → Window
window_of ws = read (decode ws)

-- of words that are 4,096
unfoldable pub is_window : List ℕ → Bool
is_window ws = valid (decode ws)
