-- `plan_lists::put_ask` meets its contract. Assumes nothing.
use native.Mathlib.Omega.{arith}
use Rattle.model.specs.Hash.{hash_words}
use Rattle.plan_lists.specs.Lists.{one_placed, placed_indexed}
use Rattle.plan_lists.proofs.put_ask.Goals as goal

pub add-requires : goal.add-requires
add-requires c =
    let s = c in
    let put = c.put_hash in (
      placed_indexed s.args.n (hash_words s.args.h) s.args.hashes.now put.new.hashes s.args.index.now put.ensures (omega (arith, s.requires.1.0)) s.requires.0,
      omega (arith, put.auto.hashes, s.requires.1.0),
    )

pub returns : goal.returns
returns c =
    let s = c in (
      c.put_hash.ensures,
      (one_placed s.args.heights.now s.args.n s.args.height s.requires.1.1.0, c.add.ensures),
    )
