-- `kofudile::kofudile_is_downloading` meets its contract. Assumes nothing.
use Rattle.kofudile.proofs.kofudile_is_downloading.Goals as goal

pub returns : goal.returns
returns c = cc
