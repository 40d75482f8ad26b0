-- SPECIFICATION 6.1: owner timeout and expiry. Definitions only.
use Rattle.std.specs.Prelude.{ℕ, ◌+◌, ◌-◌, ◌*◌, ◌/◌, Bool, ◌&&◌, get_or, leb}
use Rattle.model.specs.Numbers.{present, age}
use Rattle.model.specs.Seats.{active_downloading_peers}
use Rattle.model.specs.Window.{Window}

-- `effective_owner_timeout`: BLOCK_DOWNLOAD_TIMEOUT_BASE is 2, BLOCK_DOWNLOAD_TIMEOUT_PER_PEER is 1
unfoldable pub owner_timeout : ℕ → ℕ → ℕ
owner_timeout spacing active = spacing * (2 + (active - 1)) / 2

-- SPECIFICATION 6.1: a seat is expired when clock - start ≥ timeout; s is its stored start
unfoldable pub expired : ℕ → ℕ → ℕ → Bool
expired now timeout s = present s && leb timeout (age now s)

unfoldable pub effective_owner_timeout : ℕ → Window → ℕ
effective_owner_timeout active w = owner_timeout w.settings.block_spacing active

-- the window's own active count
unfoldable pub active : Window → ℕ
active w = active_downloading_peers w.queue.starts

-- `owner_download_expired`
unfoldable pub owner_download_expired : ℕ → ℕ → ℕ → Window → Bool
owner_download_expired owner active now w = expired now (effective_owner_timeout active w) (get_or w.queue.starts owner 0)

-- `peer_has_expired_pending`
unfoldable pub peer_has_expired_pending : ℕ → ℕ → Window → Bool
peer_has_expired_pending source now w = owner_download_expired source (active w) now w
