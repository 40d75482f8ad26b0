-- SPECIFICATION 6.2: the pace of the front. Definitions only.
use Rattle.std.specs.Prelude.{ℕ, zero, suc, ◌+◌, ◌-◌, ◌*◌, ◌/◌, Bool, cond, List, ltb, leb}
use Rattle.model.specs.Numbers.{lesser, greater, age}
use Rattle.model.specs.Lists.{all}
use Rattle.model.specs.declared.Entry.{Entry}
use Rattle.model.specs.declared.Pace.{Pace}
use Rattle.model.specs.declared.Settings.{Settings}

abbrev pub pace : ℕ → ℕ → ℕ → Pace
pace mean advance wait = record { mean = mean; advance = advance; wait = wait }

-- EWMA_MIN_SAMPLE_MS
abbrev pub min_sample : ℕ
min_sample = 50

-- whole ms since the stored time of the last advance
unfoldable pub sample_ms : ℕ → ℕ → ℕ
sample_ms now advance = age now advance / 1000000

-- a front mean m that is there moves by a quarter of the difference, rounded down
unfoldable pub nearer : ℕ → ℕ → ℕ
nearer m sample = cond (leb m sample) (m + (sample - m) / 4) (m - (m - sample) / 4)

-- SPECIFICATION 6.2: without a mean the sample is the mean
abbrev pub mean_by : ℕ → ℕ → ℕ
mean_by zero sample = suc sample
mean_by (suc m) sample = suc (nearer m sample)

-- SPECIFICATION 6.2: a sample under 50 ms leaves the front mean
unfoldable pub front_mean_by : ℕ → ℕ → ℕ
front_mean_by mean sample = cond (ltb sample min_sample) mean (mean_by mean sample)

-- the front mean at a front: without a last advance there is no sample
abbrev pub front_mean : ℕ → ℕ → ℕ → ℕ
front_mean now zero mean = mean
front_mean now (suc t) mean = front_mean_by mean (sample_ms now (suc t))

-- twice the front mean, in nanoseconds
abbrev pub twice_ns : ℕ → ℕ
twice_ns zero = 0
twice_ns (suc m) = m * 2 * 1000000

-- `stall_decay_floor`
unfoldable pub decay_floor : ℕ → ℕ → ℕ → ℕ
decay_floor initial most mean = lesser (greater (twice_ns mean) initial) most

unfoldable pub stall_decay_floor : Settings → Pace → ℕ
stall_decay_floor b p = decay_floor b.stall_timeout_initial b.stall_timeout_max p.mean

-- SPECIFICATION 6.2: each front turns the stall wait into max(wait × 85 / 100, decay floor)
unfoldable pub decayed : ℕ → ℕ → ℕ
decayed wait floor = greater (wait * 85 / 100) floor

-- `record_delivery_progress`, what it does to the pace at a front: the mean, then the advance, then the wait
unfoldable pub front_recorded : Settings → ℕ → Pace → Pace
front_recorded b now p =
    let mean = front_mean now p.advance p.mean in
    pace mean (suc now) (decayed p.wait (decay_floor b.stall_timeout_initial b.stall_timeout_max mean))

-- SPECIFICATION 6.2: a front when every entry still pending is higher
unfoldable pub was_front : ℕ → List Entry → Bool
was_front height pending = all (λ e. ltb height e.height) pending

-- `advance_stall`: the wait in force, and what it becomes after a blame
unfoldable pub effective_stall_timeout : Settings → Pace → ℕ
effective_stall_timeout b p = greater p.wait (stall_decay_floor b p)

unfoldable pub wait_widened : Settings → Pace → Pace
wait_widened b p = pace p.mean p.advance (lesser (effective_stall_timeout b p * 2) b.stall_timeout_max)

-- the pace at opening
unfoldable pub pace_opened : Settings → Pace
pace_opened b = pace 0 0 b.stall_timeout_initial
