-- `kofudile::kofudile_pending_bytes` meets its contract. Assumes nothing.
use Rattle.kofudile.proofs.kofudile_pending_bytes.Goals as goal

pub returns : goal.returns
returns c = cc
