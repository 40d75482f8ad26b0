-- SPECIFICATION 7.16: what a look at a blocked window comes to. Definitions only.
use Rattle.std.specs.Prelude.{ℕ, ◌-◌, ◌*◌, ◌/◌, Bool, false, cond, ◌&&◌, eqb, ltb, leb, None, Some, Option}
use Rattle.model.specs.Lists.{select}
use Rattle.model.specs.Hash.{same}
use Rattle.model.specs.Window.{Window, with_cold, with_stall, with_stuck, with_observation, with_pace, episode, stuck_at}
use Rattle.model.specs.Records.{lowest, found}
use Rattle.model.specs.Time.{active, owner_download_expired}
use Rattle.model.specs.Pace.{effective_stall_timeout, wait_widened}
use Rattle.model.specs.Cooling.{mark_peer_unresponsive}
use Rattle.model.specs.Races.{Hedge, no_hedge, hedge, is_racing, advance_cold_front}
use Rattle.model.specs.declared.Hash.{Hash}
use Rattle.model.specs.declared.Entry.{Entry}
use Rattle.model.specs.declared.StallEpisode.{StallEpisode}
use Rattle.model.specs.declared.StuckFrontier.{StuckFrontier}
use Rattle.model.specs.declared.ColdFront.TheVariants.{Idle}
use Rattle.model.specs.declared.Observation.{Observation}
use Rattle.model.specs.declared.Observation.TheVariants.{Unarmed, Armed, Swept}

-- the Rust's `BlockedContext`, and what is handed in of the stager and the tree
pub record Look : Type 0 where
  pub next : Option ℕ
  pub frontier : Option Hash
  pub busy : Bool
  pub staged : ℕ
  pub highest : Option ℕ

-- the Rust's `BlockedDecision`
pub data Decision : Type 0 where
  none : Decision
  blame_staller : ℕ → Decision
  blame_timeout : ℕ → Decision
  evict : ℕ → Hash → ℕ → Decision
  hedges : ℕ → Hash → Decision

-- ---- the stuck frontier

-- the hash to evict and how long it was suppressed, where there is one
pub data Eviction : Type 0 where
  keeps : Eviction
  evicts : Hash → ℕ → Eviction

pub record StuckStep : Type 0 where
  pub stuck : Option StuckFrontier
  pub evicted : Eviction

abbrev pub stuck_step : Option StuckFrontier → Eviction → StuckStep
stuck_step s e = record { stuck = s; evicted = e }

-- another frontier is stuck from now on if the apply side is busy, else none is
unfoldable pub stuck_anew : ℕ → Hash → Bool → ℕ → Option StuckFrontier
stuck_anew height h busy now = cond busy (stuck_at height h now) None

abbrev pub stuck_still : Option StuckFrontier → ℕ → Hash → Bool → ℕ → Option StuckFrontier
stuck_still None height h busy now = stuck_anew height h busy now
stuck_still (Some s) height h busy now = cond (eqb s.height height && same s.front h) (Some s) (stuck_anew height h busy now)

-- suppressed for twice the received timeout
abbrev pub evicted_by : Option StuckFrontier → Hash → ℕ → ℕ → StuckStep
evicted_by None h bound now = stuck_step None keeps
evicted_by (Some s) h bound now =
    cond (ltb (now - s.since) bound) (stuck_step (Some s) keeps) (stuck_step (stuck_at s.height s.front now) (evicts h (now - s.since)))

-- `advance_apply_side_stuck`
abbrev pub advance_apply_side_stuck : ℕ → Option Hash → Bool → ℕ → Window → StuckStep
advance_apply_side_stuck height None busy now w = stuck_step None keeps
advance_apply_side_stuck height (Some h) busy now w =
    let s = stuck_still w.watch.stuck height h busy now in
    cond busy (evicted_by s h (w.settings.received_timeout * 2) now) (stuck_step s keeps)

-- ---- the stall

abbrev pub is_above : Option ℕ → ℕ → Bool
is_above None n = false
is_above (Some h) n = ltb n h

-- the entry that blocks the window: the lowest, where it is next, enough is staged and something above it is
unfoldable pub blocks : ℕ → ℕ → Option ℕ → Entry → Window → Bool
blocks next staged highest e w = eqb e.height next && (leb (w.settings.max_received_blocks / 2) staged && is_above highest e.height)

-- since when the same owner and front have stalled: an episode that goes on, or now
abbrev pub stalled_since : Option StallEpisode → Entry → ℕ → ℕ
stalled_since None e now = now
stalled_since (Some s) e now = cond (eqb s.owner e.owner && same s.front e.hash) s.since now

-- an owner to blame, where there is one
pub record Blame : Type 0 where
  pub window : Window
  pub blamed : Option ℕ

abbrev pub blame : Window → Option ℕ → Blame
blame w s = record { window = w; blamed = s }

-- the episode fires when it is as old as the wait in force; that widens the wait and cools the owner
unfoldable pub stall_at : Entry → ℕ → Window → Blame
stall_at e now w =
    let since = stalled_since w.watch.stall e now in
    cond (ltb (now - since) (effective_stall_timeout w.settings w.pace))
    (blame (with_stall (episode e.owner e.hash since) w) None)
    (blame (mark_peer_unresponsive e.owner now (with_pace (wait_widened w.settings w.pace) (with_stall None w))) (Some e.owner))

-- `advance_stall` with `window_blocked_on`: a missing front ends the step and clears the episode
abbrev pub stall_by : Option Entry → ℕ → ℕ → Option ℕ → ℕ → Window → Blame
stall_by None next staged highest now w = blame (with_stall None w) None
stall_by (Some e) next staged highest now w = cond (blocks next staged highest e w) (stall_at e now w) (blame (with_stall None w) None)

unfoldable pub advance_stall : ℕ → ℕ → Option ℕ → ℕ → Window → Blame
advance_stall next staged highest now w = stall_by (lowest w.queue.pending) next staged highest now w

-- ---- the pending timeout

abbrev pub still_owned : Option Entry → ℕ → Bool
still_owned None owner = false
still_owned (Some e) owner = eqb e.owner owner

abbrev pub armed_by : Option Entry → Observation
armed_by None = Unarmed
armed_by (Some e) = Armed e.owner e.hash

-- the lowest entry of an expired owner
unfoldable pub lowest_expired : ℕ → Window → Option Entry
lowest_expired now w = lowest (select (λ e. owner_download_expired e.owner (active w) now w) w.queue.pending)

-- a spent observation blames or ends; without one the lowest expired entry arms one
abbrev pub timeout_by : Observation → ℕ → Window → Blame
timeout_by Unarmed now w = blame (with_observation (armed_by (lowest_expired now w)) w) None
timeout_by (Swept owner h) now w = blame (mark_peer_unresponsive owner now (with_observation Unarmed w)) (Some owner)
timeout_by (Armed owner h) now w =
    cond (still_owned (found h w.queue.pending) owner && owner_download_expired owner (active w) now w)
    (blame (mark_peer_unresponsive owner now (with_observation Unarmed w)) (Some owner))
    (blame (with_observation Unarmed w) None)

-- `advance_pending_timeout`, by the window's own active count
unfoldable pub advance_pending_timeout : ℕ → Window → Blame
advance_pending_timeout now w = timeout_by w.watch.observation now w

-- ---- the whole look

pub record Seen : Type 0 where
  pub window : Window
  pub decision : Decision

abbrev pub seen : Window → Decision → Seen
seen w d = record { window = w; decision = d }

abbrev pub hedge_says : Hedge → Decision
hedge_says no_hedge = none
hedge_says (hedge owner h) = hedges owner h

abbrev pub evict_says : ℕ → Eviction → Decision
evict_says next keeps = none
evict_says next (evicts h suppressed) = evict next h suppressed

-- the first blame answers, else the hedge
abbrev pub timeout_seen : Blame → Hedge → Seen
timeout_seen b h = seen b.window (says b.blamed h)
  where
    says : Option ℕ → Hedge → Decision
    says None h = hedge_says h
    says (Some owner) h = blame_timeout owner

abbrev pub stall_seen : Option ℕ → Window → Hedge → ℕ → Seen
stall_seen None w h now = timeout_seen (advance_pending_timeout now w) h
stall_seen (Some owner) w h now = seen w (blame_staller owner)

-- busy: stall and observation are cleared, and the cold front unless it races
unfoldable pub busy_seen : Decision → Window → Seen
busy_seen d w =
    let v = with_observation Unarmed (with_stall None w) in
    seen (cond (is_racing v.races.cold) v (with_cold Idle v)) d

-- cold front, then stall, then pending timeout
unfoldable pub idle_seen : Look → ℕ → ℕ → Window → Seen
idle_seen l next now w =
    let c = advance_cold_front next now w in
    let b = advance_stall next l.staged l.highest now (with_cold c.cold w) in
    stall_seen b.blamed b.window c.asks now

-- `observe_blocked`; without a next height the stuck, cold front and stall steps are passed by
abbrev pub observe_at : Option ℕ → Look → ℕ → Window → Seen
observe_at None l now w = cond l.busy (busy_seen none w) (timeout_seen (advance_pending_timeout now w) no_hedge)
observe_at (Some next) l now w =
    let s = advance_apply_side_stuck next l.frontier l.busy now w in
    let v = with_stuck s.stuck w in
    cond l.busy (busy_seen (evict_says next s.evicted) v) (idle_seen l next now v)

unfoldable pub observe_blocked : Look → ℕ → Window → Seen
observe_blocked l now w = observe_at l.next l now w
