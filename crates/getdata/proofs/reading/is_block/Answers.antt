-- `getdata::reading::is_block` meets its contract. Assumes nothing.
use Rattle.getdata.proofs.Reader.{type_is}
use Rattle.getdata.proofs.reading.is_block.Goals as goal

pub returns : goal.returns
returns c =
    let b₀ = c.byte in
    let b₁ = c.byte-2 in
    let b₂ = c.byte-3 in
    let b₃ = c.byte-4 in
    let e = c.args.entry.now in
    type_is e b₀.result b₁.result b₂.result b₃.result b₀.ensures.0 b₁.ensures.0 b₂.ensures.0 b₃.ensures.0
