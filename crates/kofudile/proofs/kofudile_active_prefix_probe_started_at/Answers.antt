-- `kofudile::kofudile_active_prefix_probe_started_at` meets its contract. Assumes nothing.
use Rattle.kofudile.proofs.kofudile_active_prefix_probe_started_at.Goals as goal

pub returns : goal.returns
returns c = cc
