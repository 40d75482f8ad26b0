-- Soundness of a window at the clock c, as facts on the window itself: what every step is to keep, and exactly what makes its words a window
-- (`sound_words`, Words.antt). Each range stands for one test of the model's `valid`. Assumes nothing.
use Rattle.std.specs.Prelude.{◌≡◌, true, List, [], ℕ, suc, ◌≤◌, ◌<◌, length, get_or, None, Some, Option}
use Rattle.model.specs.Numbers.{max_clock, max_height, min_estimate, max_estimate, max_duration, max_pending, max_seat, max_front_mean}
use Rattle.model.specs.Records.{sum}
use Rattle.model.specs.Seats.{oldest}
use Rattle.model.specs.Layout.{settings_ok}
use Rattle.model.specs.Window.{Window, Queue, HighWater, Races, Watch}
use Rattle.model.specs.declared.Hash.{Hash}
use Rattle.model.specs.declared.Entry.{Entry}
use Rattle.model.specs.declared.Pace.{Pace}
use Rattle.model.specs.declared.StallEpisode.{StallEpisode}
use Rattle.model.specs.declared.StuckFrontier.{StuckFrontier}
use Rattle.model.specs.declared.ColdFront.{ColdFront}
use Rattle.model.specs.declared.ColdFront.TheVariants.{Idle, Waiting, Racing}
use Rattle.model.specs.declared.PrefixProbe.{PrefixProbe}
use Rattle.model.specs.declared.Observation.{Observation}
use Rattle.model.specs.declared.Observation.TheVariants.{Unarmed, Armed, Swept}
use Rattle.laws.specs.Entries.{Rising, Each}

-- 256 numbers, each at most b
pub record Bounded (b : ℕ) (l : List ℕ) : Type 0 where
  pub places : length l ≡ 256
  pub most : (s : ℕ) → get_or l s 0 ≤ b

-- ---- the queue

pub record InRange (c : ℕ) (e : Entry) : Type 0 where
  pub owner : e.owner ≤ max_seat
  pub time : e.time ≤ c
  pub height : e.height ≤ max_height
  pub least : min_estimate ≤ e.estimate
  pub most : e.estimate ≤ max_estimate

-- the start of a seat whose oldest request is at o, both stored: none without an entry, no earlier than the oldest, no later than the top
pub record Seat (o start top : ℕ) : Type 0 where
  pub none : o ≡ 0 → start ≡ 0
  pub above : o ≤ start
  pub below : start ≤ top

pub record SoundQueue (c : ℕ) (q : Queue) : Type 0 where
  pub rising : Rising 0 q.pending
  pub few : length q.pending ≤ max_pending
  pub each : Each (InRange c) q.pending
  pub total : q.total ≡ sum q.pending
  pub seats : length q.starts ≡ 256
  pub starts : (s : ℕ) → s < 256 → Seat (oldest s q.pending) (get_or q.starts s 0) (suc c)
  pub bodies : Bounded (suc c) q.bodies

-- high waters are no lower
pub record NoLower (h : HighWater) (q : Queue) : Type 0 where
  pub blocks : length q.pending ≤ h.blocks
  pub bytes : q.total ≤ h.bytes

-- ---- pace, races and watch

pub record SoundPace (c : ℕ) (p : Pace) : Type 0 where
  pub mean : p.mean ≤ suc max_front_mean
  pub advance : p.advance ≤ suc c
  pub wait : p.wait ≤ max_duration

abbrev pub SoundSource : Option ℕ → Type 0
SoundSource None = Unit {0}
SoundSource (Some s) = s ≤ max_seat

abbrev pub SoundCold : ℕ → ColdFront → Type 0
SoundCold c Idle = Unit {0}
SoundCold c (Waiting owner h since) = (owner ≤ max_seat) × (since ≤ c)
SoundCold c (Racing owner alternate h) = (owner ≤ max_seat) × (alternate ≤ max_seat)

-- without a probe there are no hashes and no racers
abbrev pub SoundProbe : ℕ → Option PrefixProbe → List Hash → List ℕ → Type 0
SoundProbe c None planned racers = (planned ≡ []) × Bounded 0 racers
SoundProbe c (Some p) planned racers = (p.owner ≤ max_seat) × (p.accepted ≤ 255) × (p.started ≤ c) × (length planned ≤ 8)

pub record SoundRaces (c : ℕ) (r : Races) : Type 0 where
  pub cold : SoundCold c r.cold
  pub hedged : length r.hedged ≤ 2
  pub preferred : SoundSource r.preferred
  pub probe : SoundProbe c r.probe r.planned r.racers
  pub racers : Bounded 256 r.racers
  pub attempted : SoundSource r.attempted

abbrev pub SoundStall : ℕ → Option StallEpisode → Type 0
SoundStall c None = Unit {0}
SoundStall c (Some s) = (s.owner ≤ max_seat) × (s.since ≤ c)

abbrev pub SoundStuck : ℕ → Option StuckFrontier → Type 0
SoundStuck c None = Unit {0}
SoundStuck c (Some s) = (s.height ≤ max_height) × (s.since ≤ c)

abbrev pub SoundObservation : Observation → Type 0
SoundObservation Unarmed = Unit {0}
SoundObservation (Armed owner h) = owner ≤ max_seat
SoundObservation (Swept owner h) = owner ≤ max_seat

pub record SoundWatch (c : ℕ) (w : Watch) : Type 0 where
  pub stall : SoundStall c w.stall
  pub stuck : SoundStuck c w.stuck
  pub observation : SoundObservation w.observation

-- ---- the whole; of a window itself at its own last clock

pub record Sound (c : ℕ) (w : Window) : Type 0 where
  pub clock : c ≤ max_clock
  pub settings : settings_ok w.settings ≡ true
  pub keys : Bounded max_seat w.keys
  pub mean_least : min_estimate ≤ w.mean
  pub mean_most : w.mean ≤ max_estimate
  pub frontier : w.frontier ≤ max_height
  pub high : NoLower w.high w.queue
  pub queue : SoundQueue c w.queue
  pub cooling : Bounded (suc c) w.cooling
  pub pace : SoundPace c w.pace
  pub races : SoundRaces c w.races
  pub watch : SoundWatch c w.watch
