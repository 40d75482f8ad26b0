-- `plan_lists::put_hash` meets its contract. Assumes nothing.
use Prim.Native.Nat.{◌*◌}
use Rattle.plan_lists.specs.Lists.{four_placed}
use Rattle.plan_lists.proofs.put_hash.Goals as goal

pub returns : goal.returns
returns c = four_placed c.args.hashes.now (4 * c.args.n) c.args.h c.requires
