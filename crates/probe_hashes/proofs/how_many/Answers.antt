-- `probe_hashes::how_many` meets its contract. Assumes nothing.
use native.Mathlib.Omega.{arith}
use Rattle.model.specs.Races.{win_blocks}
use borrow.Author.Tests.{lt-leb, le-leb}
use Rattle.probe_hashes.proofs.how_many.Goals as goal

pub returns-then-n-lt-WIN_BLOCKS : goal.returns-then-n-lt-WIN_BLOCKS
returns-then-n-lt-WIN_BLOCKS c = rw (lt-leb win_blocks c.args.n (omega (arith, c.if-n-lt-WIN_BLOCKS.true)))

pub returns : goal.returns
returns c = rw (le-leb win_blocks c.args.n (omega (arith, c.if-n-lt-WIN_BLOCKS.false)))
