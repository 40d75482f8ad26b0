-- `kofudile::kofudile_min_peers_for_fanout` meets its contract. Assumes nothing.
use Rattle.kofudile.proofs.kofudile_min_peers_for_fanout.Goals as goal

pub returns : goal.returns
returns c = cc
