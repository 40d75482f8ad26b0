-- SPECIFICATION 6.8 to 6.10: the prefix probe and the cold front. Definitions only.
use Rattle.std.specs.Prelude.{ℕ, zero, suc, ◌-◌, ◌*◌, ◌/◌, ◌%◌, ◌^◌, Bool, true, false, cond, not, ◌&&◌, ◌||◌, List, [], ◌∷◌, ◌++◌, length, get_or, set, eqb, ltb, leb, None, Some, Option}
use Rattle.std.specs.Int.Bits.{bit_or}
use Rattle.std.specs.Int.Count.{ones}
use Rattle.model.specs.Numbers.{lesser, present, next_height}
use Rattle.model.specs.Lists.{any}
use Rattle.model.specs.Hash.{same, same_hashes, hashes_in}
use Rattle.model.specs.Window.{Window, Step, stay, after, with_cold, with_hedged, with_preferred, with_probe, with_attempted, without_probe, with_observation, no_seats, probing}
use Rattle.model.specs.Records.{lowest, at_height}
use Rattle.model.specs.Cooling.{mark_peer_unresponsive}
use Rattle.model.specs.LettingGo.{retain_peer_assignments}
use Rattle.model.specs.declared.Hash.{Hash}
use Rattle.model.specs.declared.Entry.{Entry}
use Rattle.model.specs.declared.ColdFront.{ColdFront}
use Rattle.model.specs.declared.ColdFront.TheVariants.{Idle, Waiting, Racing}
use Rattle.model.specs.declared.PrefixProbe.{PrefixProbe}
use Rattle.model.specs.declared.Observation.TheVariants.{Unarmed}

-- ---- the plan

-- an owner, the hashes, the end height
pub data Planned : Type 0 where
  no_plan : Planned
  planned : ℕ → List Hash → ℕ → Planned

-- PREFIX_PROBE_ESTIMATED_BYTES / mean, at most PREFIX_PROBE_BLOCK_LIMIT
unfoldable pub plan_limit : ℕ → ℕ
plan_limit mean = lesser (2097152 / mean) 8

-- PREFIX_PROBE_WIN_BLOCKS
abbrev pub win_blocks : ℕ
win_blocks = 4

-- a stable sort by height
unfoldable pub insert_by_height : Entry → List Entry → List Entry
insert_by_height e [] = e ∷ []
insert_by_height e (x ∷ l) = cond (leb e.height x.height) (e ∷ x ∷ l) (x ∷ insert_by_height e l)

unfoldable pub by_height : List Entry → List Entry
by_height [] = []
by_height (e ∷ l) = insert_by_height e (by_height l)

-- at most `limit` entries, each at the expected height; after 4,294,967,295 the same height is expected again
unfoldable pub walk : ℕ → ℕ → List Entry → List Hash
walk zero expected l = []
walk (suc limit) expected [] = []
walk (suc limit) expected (e ∷ l) = cond (eqb e.height expected) (e.hash ∷ walk limit (next_height expected) l) []

-- the height expected after as many entries as there are hashes
unfoldable pub expected_after : List Hash → ℕ → ℕ
expected_after [] expected = expected
expected_after (h ∷ hs) expected = expected_after hs (next_height expected)

unfoldable pub plan_from : ℕ → ℕ → List Hash → Planned
plan_from owner first hashes = cond (leb win_blocks (length hashes)) (planned owner hashes (expected_after hashes first - 1)) no_plan

abbrev pub is_missing : Option ℕ → Bool
is_missing None = true
is_missing (Some s) = false

abbrev pub is_seat : Option ℕ → ℕ → Bool
is_seat None s = false
is_seat (Some p) s = eqb p s

abbrev pub is_probing : Option PrefixProbe → Bool
is_probing None = false
is_probing (Some p) = true

-- by the lowest entry: one owner only, who was not raced yet, and a limit of at least four
abbrev pub plan_by : Option Entry → Window → Planned
plan_by None w = no_plan
plan_by (Some front) w =
    cond (is_seat w.races.attempted front.owner || any (λ e. not (eqb e.owner front.owner)) w.queue.pending) no_plan
    (cond (ltb (plan_limit w.mean) win_blocks) no_plan
    (plan_from front.owner front.height (walk (plan_limit w.mean) front.height (by_height w.queue.pending))))

-- `prefix_probe_plan`
unfoldable pub prefix_probe_plan : Window → Planned
prefix_probe_plan w =
    cond (not (is_missing w.races.preferred) || is_probing w.races.probe || w.fanout.engaged) no_plan
    (plan_by (lowest w.queue.pending) w)

-- ---- its confirmation

-- the seats enter the race, with no progress yet
unfoldable pub entered : List ℕ → List ℕ → List ℕ
entered [] racers = racers
entered (s ∷ ss) racers = entered ss (set racers s 1)

unfoldable pub probe_started : ℕ → List Hash → List ℕ → ℕ → Window → Window
probe_started owner hashes alternates now w =
    with_probe (probing owner 0 now) hashes (entered alternates (set no_seats owner 1)) (with_attempted (Some owner) w)

abbrev pub confirm_by : Planned → ℕ → List ℕ → List ℕ → ℕ → Window → Window
confirm_by no_plan owner given alternates now w = w
confirm_by (planned planned_owner hashes end) owner given alternates now w =
    cond (eqb planned_owner owner && (eqb (length given) (4 * length hashes) && same_hashes hashes (hashes_in given)))
    (probe_started owner hashes alternates now w) w

abbrev pub is_empty : {A : Type 0} → List A → Bool
is_empty [] = true
is_empty (x ∷ l) = false

-- `confirm_prefix_probe`; `given` are the confirmed hashes, four words each, and must be the plan's
unfoldable pub confirm_prefix_probe : ℕ → List ℕ → List ℕ → ℕ → Window → Window
confirm_prefix_probe owner given alternates now w = cond (is_empty alternates) w (confirm_by (prefix_probe_plan w) owner given alternates now w)

-- ---- a delivery in the race

-- the place of a hash among the planned; where it is none, their number
unfoldable pub place_of : Hash → List Hash → ℕ
place_of h [] = 0
place_of h (x ∷ l) = cond (same x h) 0 (suc (place_of h l))

-- SPECIFICATION 6.9: the ones among the four lowest bits number four
unfoldable pub all_four : ℕ → Bool
all_four progress = eqb (ones (progress % 16)) win_blocks

-- a racer's stored progress, with the bit i set
abbrev pub progressed : ℕ → ℕ → ℕ
progressed i zero = 0
progressed i (suc p) = suc (bit_or p (2 ^ i))

abbrev pub has_won : ℕ → Bool
has_won zero = false
has_won (suc p) = all_four p

-- the lowest seat from i on that has won
unfoldable pub winner : ℕ → List ℕ → Option ℕ
winner i [] = None
winner i (r ∷ rs) = cond (has_won r) (Some i) (winner (suc i) rs)

-- SPECIFICATION 6.9: a win lets go the entries of every other racer; an owner that did not win is cooled
unfoldable pub race_won : ℕ → ℕ → List ℕ → ℕ → Window → Step
race_won win owner racers now w =
    after
    (retain_peer_assignments (λ s. eqb s win || not (present (get_or racers s 0))) 9 (with_observation Unarmed (with_cold Idle (without_probe w))))
    (λ v. with_preferred (Some win) (cond (eqb win owner) v (mark_peer_unresponsive owner now v)))

-- without a winner the probe goes on, unless all four are in
abbrev pub race_by : Option ℕ → ℕ → ℕ → ℕ → List ℕ → ℕ → Window → Step
race_by None owner accepted started racers now w =
    stay (cond (all_four accepted) (without_probe w) (with_probe (probing owner accepted started) w.races.planned racers w))
race_by (Some win) owner accepted started racers now w = race_won win owner racers now w

-- the planned hash at the place i came from the source
unfoldable pub race_progress : ℕ → ℕ → ℕ → ℕ → ℕ → ℕ → Window → Step
race_progress i source owner accepted started now w =
    let racers = set w.races.racers source (progressed i (get_or w.races.racers source 0)) in
    race_by (winner 0 racers) owner (bit_or accepted (2 ^ i)) started racers now w

abbrev pub probe_delivery : Option PrefixProbe → Hash → ℕ → ℕ → Window → Step
probe_delivery None h source now w = stay w
probe_delivery (Some p) h source now w =
    let i = place_of h w.races.planned in
    cond (ltb i (length w.races.planned)) (race_progress i source p.owner p.accepted p.started now w) (stay w)

-- `record_prefix_probe_delivery`
unfoldable pub record_prefix_probe_delivery : Hash → ℕ → ℕ → Window → Step
record_prefix_probe_delivery h source now w = probe_delivery w.races.probe h source now w

-- `probe_offered`
unfoldable pub probe_offered : ℕ → Hash → Window → Bool
probe_offered source h w = is_probing w.races.probe && any (λ x. same x h) w.races.planned && present (get_or w.races.racers source 0)

-- ---- the cold front

-- an owner and a hash to hedge, where there is one
pub data Hedge : Type 0 where
  no_hedge : Hedge
  hedge : ℕ → Hash → Hedge

pub record ColdStep : Type 0 where
  pub cold : ColdFront
  pub asks : Hedge

abbrev pub cold_step : ColdFront → Hedge → ColdStep
cold_step c h = record { cold = c; asks = h }

-- MAX_COLD_FRONT_HEDGES
abbrev pub max_hedges : ℕ
max_hedges = 2

-- the same wait goes on, and asks for a hedge at its end; any other begins anew
abbrev pub wait_on : ColdFront → Entry → ℕ → ℕ → ColdStep
wait_on Idle e initial now = cold_step (Waiting e.owner e.hash now) no_hedge
wait_on (Racing owner alternate h) e initial now = cold_step (Waiting e.owner e.hash now) no_hedge
wait_on (Waiting owner h since) e initial now =
    cond (eqb owner e.owner && same h e.hash)
    (cold_step (Waiting owner h since) (cond (leb initial (now - since)) (hedge owner h) no_hedge))
    (cold_step (Waiting e.owner e.hash now) no_hedge)

-- a missing front ends the step
abbrev pub cold_at : Option Entry → ColdFront → ℕ → ℕ → ColdStep
cold_at None cold initial now = cold_step Idle no_hedge
cold_at (Some e) cold initial now = wait_on cold e initial now

abbrev pub is_racing : ColdFront → Bool
is_racing Idle = false
is_racing (Waiting owner h since) = false
is_racing (Racing owner alternate h) = true

-- `advance_cold_front`
unfoldable pub advance_cold_front : ℕ → ℕ → Window → ColdStep
advance_cold_front next now w =
    cond (is_racing w.races.cold) (cold_step w.races.cold no_hedge)
    (cond (present w.pace.mean || leb max_hedges (length w.races.hedged)) (cold_step Idle no_hedge)
    (cold_at (at_height next w.queue.pending) w.races.cold w.settings.stall_timeout_initial now))

-- `hedge_offered`
abbrev pub racing_with : ColdFront → ℕ → Hash → Bool
racing_with Idle source h = false
racing_with (Waiting owner front since) source h = false
racing_with (Racing owner alternate front) source h = eqb alternate source && same front h

unfoldable pub hedge_offered : ℕ → Hash → Window → Bool
hedge_offered source h w = racing_with w.races.cold source h

abbrev pub waits_for : ColdFront → ℕ → Hash → Bool
waits_for Idle owner h = false
waits_for (Racing o alternate front) owner h = false
waits_for (Waiting o front since) owner h = eqb o owner && same front h

unfoldable pub hedge_begun : ℕ → ℕ → Hash → Window → Window
hedge_begun owner alternate h w = with_cold (Racing owner alternate h) w

-- `confirm_cold_front_hedge`
unfoldable pub confirm_cold_front_hedge : ℕ → ℕ → Hash → Window → Window
confirm_cold_front_hedge owner alternate h w =
    cond (not (waits_for w.races.cold owner h)) w
    (cond (any (λ x. same x h) w.races.hedged) (hedge_begun owner alternate h w)
    (cond (leb max_hedges (length w.races.hedged)) w
    (hedge_begun owner alternate h (with_hedged (w.races.hedged ++ (h ∷ [])) w))))

unfoldable pub hedge_lost : ℕ → ℕ → ℕ → Window → Step
hedge_lost owner alternate now w =
    after (retain_peer_assignments (λ s. not (eqb s owner)) 10 (without_probe w))
    (λ v. with_preferred (Some alternate) (mark_peer_unresponsive owner now v))

abbrev pub resolve_by : ColdFront → Hash → ℕ → ℕ → Window → Step
resolve_by Idle h source now w = stay w
resolve_by (Waiting owner front since) h source now w = stay (cond (same front h) (with_cold Idle w) w)
resolve_by (Racing owner alternate front) h source now w =
    cond (same front h) (cond (eqb source alternate) (hedge_lost owner alternate now (with_cold Idle w)) (stay (with_cold Idle w))) (stay w)

-- `resolve_cold_front_delivery`, by a source that is there
unfoldable pub resolve_cold_front_delivery : Hash → ℕ → ℕ → Window → Step
resolve_cold_front_delivery h source now w = resolve_by w.races.cold h source now w
