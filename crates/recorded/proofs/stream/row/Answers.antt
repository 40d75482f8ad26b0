-- `recorded::stream::row` meets its contract. Assumes nothing.
use Rattle.std.proofs.Common.{ℕ, arith}
use Rattle.std.proofs.lemmas.List.FromFn.{fill_by_all}
use Rattle.recorded.specs.Stream.{nth, row_at}
use Rattle.recorded.proofs.stream.row.Goals as goal

pub returns : goal.returns
unfolding row_at
returns g c =
    let v = c.loop-i in
    let p = c.args.from in
    let long = v.invariant.long in
    fill_by_all (λ (i : ℕ). g.T.Number.of (nth p.numbers.now p.at i)) v.x-items g.row.N (g.T.Number.of 0) long (λ k h. v.invariant.read k (omega arith))
