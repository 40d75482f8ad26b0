-- The starred figures of SPECIFICATION 11, as one table, shown true of the definitions in one go.
use Rattle.std.specs.Prelude.{◌≡◌, refl, Bool, true, cond, List, [], ◌∷◌, map, ℕ, zero, suc, ◌+◌, ◌-◌, ◌*◌, length, set, replicate}
use Rattle.model.specs.Numbers.{lesser, greater, div_ceil, next_height, present, age}
use Rattle.model.specs.Lists.{any}
use Rattle.model.specs.Hash.{hash}
use Rattle.model.specs.Window.{Window, queue, with_queue, with_mean}
use Rattle.model.specs.Records.{new_entry, lowest}
use Rattle.model.specs.Time.{owner_timeout, expired}
use Rattle.model.specs.Pace.{pace, sample_ms, front_mean_by, nearer, decay_floor, decayed, front_recorded, pace_opened}
use Rattle.model.specs.Capacity.{peer_inflight}
use Rattle.model.specs.Reasons.{lowers, lowering_rule}
use Rattle.model.specs.LettingGo.{skipped}
use Rattle.model.specs.Races.{Planned, no_plan, planned, plan_limit, insert_by_height, by_height, walk, expected_after, plan_from, prefix_probe_plan}
use Rattle.model.specs.Calls.{opened, next_mean}
use Rattle.model.specs.declared.Entry.{Entry}
use Rattle.model.specs.declared.Settings.{Settings}

pub record Figure : Type 0 where
  pub computed : ℕ
  pub stated : ℕ

infix 5 ◌is◌
abbrev pub ◌is◌ : ℕ → ℕ → Figure
◌is◌ a b = record { computed = a; stated = b }

abbrev pub bit : Bool → ℕ
bit b = cond b 1 0

abbrev pub seconds : ℕ → ℕ
seconds n = n * 1000000000

abbrev pub milliseconds : ℕ → ℕ
milliseconds n = n * 1000000

-- 256 blocks, fan-out share 16, peer limit 128, and an initial stall wait
abbrev pub waiting : ℕ → Settings
waiting initial = record {
  max_pending_blocks = 256;
  max_pending_bytes = 0;
  max_received_blocks = 0;
  max_peer_inflight = 128;
  fanout_peer_inflight = 16;
  min_peers_for_fanout = 0;
  getdata_batch_limit = 0;
  block_spacing = seconds 600;
  received_timeout = 0;
  stall_timeout_initial = initial;
  stall_timeout_max = seconds 64;
  staller_cooldown = 0;
}

abbrev pub settings : Settings
settings = waiting (seconds 2)

abbrev pub fresh : Window
fresh = opened 0 settings (replicate 256 0)

-- a fresh window in which seat 3 had its last body at the time t
abbrev pub with_body : ℕ → Window
with_body t = with_queue (queue 0 fresh.queue.pending fresh.queue.starts (set fresh.queue.bodies 3 (suc t))) fresh

-- whether an entry of seat 3, asked at 5, is passed over at 2 s and later, by its last body
abbrev pub passed_over : ℕ → ℕ
passed_over t = bit (skipped (seconds 3) (with_body t) (new_entry (hash 0 0 0 1) 3 5 700 80))

-- n entries of seat 3, asked at 0, at heights and with hashes in a row from k on
abbrev pub in_a_row : ℕ → ℕ → List Entry
in_a_row zero k = []
in_a_row (suc n) k = new_entry (hash 0 0 0 k) 3 0 (700 + k) 80 ∷ in_a_row n (suc k)

-- a window with n entries in a row and nothing else, and with a mean
abbrev pub with_row : ℕ → ℕ → Window
with_row n mean = with_mean mean (with_queue (queue (n * 80) (in_a_row n 0) (set fresh.queue.starts 3 1) fresh.queue.bodies) fresh)

-- how many hashes a plan has, 0 for no plan
abbrev pub hashes_of : Planned → ℕ
hashes_of no_plan = 0
hashes_of (planned owner hashes end) = length hashes

-- the front mean after a front that comes some ns after the last one, at the time 0
abbrev pub mean_after : ℕ → ℕ → ℕ
mean_after mean ns = (front_recorded settings ns (pace mean 1 (seconds 2))).mean

-- the stall wait of 2 s after a front, by the initial one, which is the floor without a front mean
abbrev pub wait_after : ℕ → ℕ
wait_after initial = (front_recorded (waiting initial) 0 (pace 0 0 (seconds 2))).wait

unfoldable pub figures : List Figure
figures =
    (owner_timeout (seconds 600) 0 is seconds 600)
    ∷ (owner_timeout (seconds 600) 1 is seconds 600)
    ∷ (owner_timeout (seconds 600) 2 is seconds 900)
    ∷ (owner_timeout (seconds 600) 3 is seconds 1200)
    ∷ (bit (expired (seconds 600 + 7) (seconds 600) (suc 7)) is 1)
    ∷ (bit (expired (seconds 600 + 6) (seconds 600) (suc 7)) is 0)
    ∷ (next_mean 262144 1000000 is 354376)
    ∷ (next_mean 80 0 is 80)
    ∷ (hashes_of (prefix_probe_plan (with_row 4 524288)) is 4)
    ∷ (hashes_of (prefix_probe_plan (with_row 5 524288)) is 4)
    ∷ (hashes_of (prefix_probe_plan (with_row 4 524289)) is 0)
    ∷ (mean_after 0 (milliseconds 49) is 0)
    ∷ (mean_after 0 (milliseconds 50 - 1) is 0)
    ∷ (mean_after 0 (milliseconds 50) is suc 50)
    ∷ (mean_after (suc 1000) (milliseconds 1400) is suc 1100)
    ∷ (mean_after (suc 1100) (milliseconds 1000) is suc 1075)
    ∷ (wait_after (seconds 1) is 1700000000)
    ∷ (wait_after (seconds 2) is 2000000000)
    ∷ (passed_over 5 is 0)
    ∷ (passed_over 6 is 1)
    ∷ (peer_inflight settings (record { eligible = 5; engaged = true }) is 52)
    ∷ (fresh.queue.total is 0)
    ∷ (fresh.frontier is 1)
    ∷ (fresh.mean is 262144)
    ∷ []

pub figures_hold : map (λ f. f.computed) figures ≡ map (λ f. f.stated) figures
unfolding figures owner_timeout expired next_mean prefix_probe_plan plan_limit plan_from walk expected_after by_height insert_by_height lowest any next_height front_recorded sample_ms front_mean_by nearer decay_floor decayed skipped peer_inflight opened pace_opened new_entry lesser greater div_ceil present age
figures_hold = refl

-- the rule of the table of reasons (SPECIFICATION 5.2), at each of the ten
pub reasons_hold : map lowers (1 ∷ 2 ∷ 3 ∷ 4 ∷ 5 ∷ 6 ∷ 7 ∷ 8 ∷ 9 ∷ 10 ∷ []) ≡ map lowering_rule (1 ∷ 2 ∷ 3 ∷ 4 ∷ 5 ∷ 6 ∷ 7 ∷ 8 ∷ 9 ∷ 10 ∷ [])
unfolding lowers lowering_rule
reasons_hold = refl
