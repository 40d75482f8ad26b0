-- SPECIFICATION 6.6: how much may be asked for. The headrooms are handed in, as the Rust finds them. Definitions only.
use Rattle.std.specs.Prelude.{ℕ, ◌+◌, ◌-◌, Bool, ◌||◌, cond, [], ◌∷◌, length, eqb, ltb, leb}
use Rattle.model.specs.Numbers.{lesser, greater, div_ceil}
use Rattle.model.specs.Lists.{every}
use Rattle.model.specs.Records.{pending_count_for}
use Rattle.model.specs.Window.{Window}
use Rattle.model.specs.declared.Settings.{Settings}
use Rattle.model.specs.declared.Fanout.{Fanout}

-- `effective_peer_inflight`
unfoldable pub peer_inflight : Settings → Fanout → ℕ
peer_inflight b f =
    cond f.engaged
    (lesser (greater (div_ceil b.max_pending_blocks (greater f.eligible 1)) b.fanout_peer_inflight) b.max_peer_inflight)
    b.max_peer_inflight

unfoldable pub effective_peer_inflight : Window → ℕ
effective_peer_inflight w = peer_inflight w.settings w.fanout

-- `has_request_capacity` of `len` pending blocks of `total` bytes
unfoldable pub capacity_left : Settings → ℕ → ℕ → ℕ → ℕ → ℕ → Bool
capacity_left b len total mean byte_headroom count_headroom =
    every (ltb len b.max_pending_blocks
    ∷ leb (total + mean) b.max_pending_bytes
    ∷ leb mean byte_headroom
    ∷ ltb 0 count_headroom
    ∷ [])

unfoldable pub has_request_capacity : ℕ → ℕ → Window → Bool
has_request_capacity byte_headroom count_headroom w =
    capacity_left w.settings (length w.queue.pending) w.queue.total w.mean byte_headroom count_headroom

-- `compute_request_capacity`: a batch limit and a byte capacity, where there are any
pub data Capacity : Type 0 where
  no_capacity : Capacity
  capacity : ℕ → ℕ → Capacity

unfoldable pub batch_limit : ℕ → ℕ → Window → ℕ
batch_limit source count_headroom w =
    lesser (lesser w.settings.getdata_batch_limit (effective_peer_inflight w - pending_count_for source w.queue.pending))
    (lesser (w.settings.max_pending_blocks - length w.queue.pending) count_headroom)

unfoldable pub byte_capacity : ℕ → Window → ℕ
byte_capacity byte_headroom w = lesser (w.settings.max_pending_bytes - w.queue.total) byte_headroom

unfoldable pub compute_request_capacity : ℕ → ℕ → ℕ → Window → Capacity
compute_request_capacity source byte_headroom count_headroom w =
    let batch = batch_limit source count_headroom w in
    let bytes = byte_capacity byte_headroom w in
    cond (eqb batch 0 || ltb bytes w.mean) no_capacity (capacity batch bytes)
