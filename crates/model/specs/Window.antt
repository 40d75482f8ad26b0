-- The window: the state that every definition works on, the Rust's `DownloadWindow` without what SPECIFICATION 1.7 leaves out. Definitions only.
-- Seats, keys and racers are lists of 256 numbers; a missing time is 0 there and a time t is t + 1.
use Rattle.std.specs.Prelude.{ℕ, List, [], ◌++◌, replicate, Option, None, Some}
use Rattle.model.specs.Places.{seats}
use Rattle.model.specs.declared.Hash.{Hash}
use Rattle.model.specs.declared.Entry.{Entry}
use Rattle.model.specs.declared.Release.{Release}
use Rattle.model.specs.declared.Settings.{Settings}
use Rattle.model.specs.declared.Pace.{Pace}
use Rattle.model.specs.declared.Fanout.{Fanout}
use Rattle.model.specs.declared.StallEpisode.{StallEpisode}
use Rattle.model.specs.declared.StuckFrontier.{StuckFrontier}
use Rattle.model.specs.declared.ColdFront.{ColdFront}
use Rattle.model.specs.declared.PrefixProbe.{PrefixProbe}
use Rattle.model.specs.declared.Observation.{Observation}

-- `pending_bytes`; `pending`, strictly rising by hash; `owner_downloading_since` and `owner_last_body_at` by seat
pub record Queue : Type 0 where
  pub total : ℕ
  pub pending : List Entry
  pub starts : List ℕ
  pub bodies : List ℕ

-- `pending_blocks_high_water`, `pending_bytes_high_water`
pub record HighWater : Type 0 where
  pub blocks : ℕ
  pub bytes : ℕ

-- `cold_front`, `cold_hedged_fronts`, `preferred_peer`, `prefix_probe` with its hashes and racers (0 for none, p + 1 for the progress byte p),
-- `prefix_probe_attempted_owner`
pub record Races : Type 0 where
  pub cold : ColdFront
  pub hedged : List Hash
  pub preferred : Option ℕ
  pub probe : Option PrefixProbe
  pub planned : List Hash
  pub racers : List ℕ
  pub attempted : Option ℕ

-- `stall`, `apply_side_stuck`, `pending_timeout_observation`
pub record Watch : Type 0 where
  pub stall : Option StallEpisode
  pub stuck : Option StuckFrontier
  pub observation : Observation

-- `budget`; a key for each seat (`StallerKey`); the last accepted clock; `ewma_block_bytes`; `next_request_height`; `recent_stallers` by key
pub record Window : Type 0 where
  pub settings : Settings
  pub keys : List ℕ
  pub clock : ℕ
  pub mean : ℕ
  pub frontier : ℕ
  pub high : HighWater
  pub queue : Queue
  pub cooling : List ℕ
  pub fanout : Fanout
  pub pace : Pace
  pub races : Races
  pub watch : Watch

-- ---- the states in `Races` and `Watch`, where there is one

abbrev pub probing : ℕ → ℕ → ℕ → Option PrefixProbe
probing owner accepted started = Some (record { owner = owner; accepted = accepted; started = started })

abbrev pub episode : ℕ → Hash → ℕ → Option StallEpisode
episode owner front since = Some (record { owner = owner; front = front; since = since })

abbrev pub stuck_at : ℕ → Hash → ℕ → Option StuckFrontier
stuck_at height front since = Some (record { height = height; front = front; since = since })

-- ---- one part changed, the others as they were

abbrev pub window : Settings → List ℕ → ℕ → ℕ → ℕ → HighWater → Queue → List ℕ → Fanout → Pace → Races → Watch → Window
window s k c m f h q co fa p r wa = record {
  settings = s;
  keys = k;
  clock = c;
  mean = m;
  frontier = f;
  high = h;
  queue = q;
  cooling = co;
  fanout = fa;
  pace = p;
  races = r;
  watch = wa;
}

abbrev pub with_clock : ℕ → Window → Window
with_clock c w = window w.settings w.keys c w.mean w.frontier w.high w.queue w.cooling w.fanout w.pace w.races w.watch

abbrev pub with_mean : ℕ → Window → Window
with_mean m w = window w.settings w.keys w.clock m w.frontier w.high w.queue w.cooling w.fanout w.pace w.races w.watch

abbrev pub with_frontier : ℕ → Window → Window
with_frontier f w = window w.settings w.keys w.clock w.mean f w.high w.queue w.cooling w.fanout w.pace w.races w.watch

abbrev pub with_high : HighWater → Window → Window
with_high h w = window w.settings w.keys w.clock w.mean w.frontier h w.queue w.cooling w.fanout w.pace w.races w.watch

abbrev pub with_queue : Queue → Window → Window
with_queue q w = window w.settings w.keys w.clock w.mean w.frontier w.high q w.cooling w.fanout w.pace w.races w.watch

abbrev pub with_cooling : List ℕ → Window → Window
with_cooling co w = window w.settings w.keys w.clock w.mean w.frontier w.high w.queue co w.fanout w.pace w.races w.watch

abbrev pub with_fanout : Fanout → Window → Window
with_fanout fa w = window w.settings w.keys w.clock w.mean w.frontier w.high w.queue w.cooling fa w.pace w.races w.watch

abbrev pub with_pace : Pace → Window → Window
with_pace p w = window w.settings w.keys w.clock w.mean w.frontier w.high w.queue w.cooling w.fanout p w.races w.watch

abbrev pub with_races : Races → Window → Window
with_races r w = window w.settings w.keys w.clock w.mean w.frontier w.high w.queue w.cooling w.fanout w.pace r w.watch

abbrev pub with_watch : Watch → Window → Window
with_watch wa w = window w.settings w.keys w.clock w.mean w.frontier w.high w.queue w.cooling w.fanout w.pace w.races wa

abbrev pub queue : ℕ → List Entry → List ℕ → List ℕ → Queue
queue total pending starts bodies = record { total = total; pending = pending; starts = starts; bodies = bodies }

abbrev pub races : ColdFront → List Hash → Option ℕ → Option PrefixProbe → List Hash → List ℕ → Option ℕ → Races
races cold hedged preferred probe planned racers attempted =
    record { cold = cold; hedged = hedged; preferred = preferred; probe = probe; planned = planned; racers = racers; attempted = attempted }

abbrev pub with_cold : ColdFront → Window → Window
with_cold c w = let r = w.races in with_races (races c r.hedged r.preferred r.probe r.planned r.racers r.attempted) w

abbrev pub with_hedged : List Hash → Window → Window
with_hedged hs w = let r = w.races in with_races (races r.cold hs r.preferred r.probe r.planned r.racers r.attempted) w

abbrev pub with_preferred : Option ℕ → Window → Window
with_preferred s w = let r = w.races in with_races (races r.cold r.hedged s r.probe r.planned r.racers r.attempted) w

-- a probe with its hashes and racers
abbrev pub with_probe : Option PrefixProbe → List Hash → List ℕ → Window → Window
with_probe p hs rs w = let r = w.races in with_races (races r.cold r.hedged r.preferred p hs rs r.attempted) w

abbrev pub with_attempted : Option ℕ → Window → Window
with_attempted s w = let r = w.races in with_races (races r.cold r.hedged r.preferred r.probe r.planned r.racers s) w

abbrev pub watch : Option StallEpisode → Option StuckFrontier → Observation → Watch
watch stall stuck observation = record { stall = stall; stuck = stuck; observation = observation }

abbrev pub with_stall : Option StallEpisode → Window → Window
with_stall s w = with_watch (watch s w.watch.stuck w.watch.observation) w

abbrev pub with_stuck : Option StuckFrontier → Window → Window
with_stuck s w = with_watch (watch w.watch.stall s w.watch.observation) w

abbrev pub with_observation : Observation → Window → Window
with_observation o w = with_watch (watch w.watch.stall w.watch.stuck o) w

-- 256 seats with nothing
abbrev pub no_seats : List ℕ
no_seats = replicate seats 0

-- `self.prefix_probe = None`: with it go its hashes and racers
abbrev pub without_probe : Window → Window
without_probe w = with_probe None [] no_seats w

-- ---- a step that may let go entries

pub record Step : Type 0 where
  pub window : Window
  pub gone : List Release

-- nothing goes
abbrev pub stay : Window → Step
stay w = record { window = w; gone = [] }

-- one step after another, and all that went
abbrev pub and_then : Step → (Window → Step) → Step
and_then s f = record { window = (f s.window).window; gone = s.gone ++ (f s.window).gone }

-- a step that lets nothing go, after another
abbrev pub after : Step → (Window → Window) → Step
after s f = record { window = f s.window; gone = s.gone }
