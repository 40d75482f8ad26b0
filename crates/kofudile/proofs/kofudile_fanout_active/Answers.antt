-- `kofudile::kofudile_fanout_active` meets its contract. Assumes nothing.
use Rattle.kofudile.proofs.kofudile_fanout_active.Goals as goal

pub returns : goal.returns
returns c = cc
