-- `kofudile::kofudile_ewma_block_bytes` meets its contract. Assumes nothing.
use Rattle.kofudile.proofs.kofudile_ewma_block_bytes.Goals as goal

pub returns : goal.returns
returns c = cc
