-- `kofudile::kofudile_pending_len` meets its contract. Assumes nothing.
use Rattle.kofudile.proofs.kofudile_pending_len.Goals as goal

pub returns : goal.returns
returns c = cc
