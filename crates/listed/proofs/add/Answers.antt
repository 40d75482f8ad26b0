-- `listed::add` meets its contract. Assumes nothing.
use Rattle.std.proofs.Common.{◌<◌, length, arith, length-set}
use Rattle.listed.specs.Laws.{is_below, indexed_full, indexed_more}
use Rattle.listed.proofs.add.Goals.{After-bucket_at-b}
use Rattle.listed.proofs.add.Goals as goal

-- the bucket has a head
head_there : (c : After-bucket_at-b) → c.bucket_at-b.result < length c.args.index.now
head_there c =
    let k : c.bucket_at-b.result < 1024 = is_below _ _ c.bucket_at-b.ensures in
    omega (arith, c.requires.0.sized.0)

pub returns-then-links-n : goal.returns-then-links-n
returns-then-links-n c = indexed_full _ _ _ c.requires.0 (omega (arith, c.if-links-n.true))

pub offset_bounds-index-b : goal.offset_bounds-index-b
offset_bounds-index-b c = omega (arith, head_there (goal.at.offset_bounds-index-b c).After-bucket_at-b)

pub bounds-index-b : goal.bounds-index-b
bounds-index-b c = omega (arith, head_there (goal.at.bounds-index-b c).After-bucket_at-b)

pub offset_bounds-index-b-2 : goal.offset_bounds-index-b-2
offset_bounds-index-b-2 c = omega (arith, head_there (goal.at.offset_bounds-index-b-2 c).After-bucket_at-b)

pub bounds-index-b-2 : goal.bounds-index-b-2
bounds-index-b-2 c = simp length-set (omega (arith, head_there (goal.at.bounds-index-b-2 c).After-bucket_at-b))

pub returns : goal.returns
returns c = indexed_more _ _ _ c.requires.0 (omega (arith, c.if-links-n.false)) _ c.bucket_at-b.ensures
