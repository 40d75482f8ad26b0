-- `compute_request_capacity` on numbers, and that the model's is this one at the window's numbers. Assumes nothing.
use Rattle.std.specs.Prelude.{◌≡◌, refl, ◌||◌, cond, ℕ, ◌-◌, length, eqb, ltb, Option, None, Some}
use Rattle.model.specs.declared.Settings.{Settings}
use Rattle.model.specs.declared.Fanout.{Fanout}
use Rattle.model.specs.Numbers.{lesser}
use Rattle.model.specs.Records.{pending_count_for}
use Rattle.model.specs.Window.{Window}
use Rattle.model.specs.Capacity.{Capacity, no_capacity, capacity, peer_inflight, effective_peer_inflight, batch_limit, byte_capacity, compute_request_capacity}

-- what the code's answer says
abbrev pub batch_says : Option (ℕ × ℕ) → Capacity
batch_says None = no_capacity
batch_says (Some p) = capacity p.0 p.1

unfoldable pub batch_limit_by : Settings → Fanout → ℕ → ℕ → ℕ → ℕ
batch_limit_by b f owned len count_headroom =
    lesser (lesser b.getdata_batch_limit (peer_inflight b f - owned)) (lesser (b.max_pending_blocks - len) count_headroom)

unfoldable pub byte_capacity_by : Settings → ℕ → ℕ → ℕ
byte_capacity_by b total byte_headroom = lesser (b.max_pending_bytes - total) byte_headroom

-- `owned` of the `len` pending blocks, of `total` bytes, are the source's
unfoldable pub capacity_by : Settings → Fanout → ℕ → ℕ → ℕ → ℕ → ℕ → ℕ → Capacity
capacity_by b f owned len total mean byte_headroom count_headroom =
    let batch = batch_limit_by b f owned len count_headroom in
    let bytes = byte_capacity_by b total byte_headroom in
    cond (eqb batch 0 || ltb bytes mean) no_capacity (capacity batch bytes)

-- ---- the model's are these

pub compute_request_capacity_by : (source byte_headroom count_headroom : ℕ) (w : Window)
    → compute_request_capacity source byte_headroom count_headroom w
    ≡ capacity_by w.settings w.fanout (pending_count_for source w.queue.pending) (length w.queue.pending) w.queue.total w.mean byte_headroom count_headroom
unfolding compute_request_capacity batch_limit byte_capacity effective_peer_inflight capacity_by batch_limit_by byte_capacity_by
compute_request_capacity_by source byte_headroom count_headroom w = refl
