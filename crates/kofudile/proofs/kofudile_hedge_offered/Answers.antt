-- `kofudile::kofudile_hedge_offered` meets its contract. Assumes nothing.
use Rattle.kofudile.proofs.kofudile_hedge_offered.Goals as goal

pub returns : goal.returns
returns c = cc
