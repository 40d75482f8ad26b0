-- `getdata::reading::read_hash` meets its contract. Assumes nothing.
use native.Mathlib.Omega.{arith}
use Rattle.getdata.proofs.Reader.{hash_is}
use Rattle.getdata.proofs.reading.read_hash.Goals as goal

pub returns : goal.returns
returns c =
    let a = c.args in
    let w₀ = c.word in
    let w₁ = c.word-2 in
    let w₂ = c.word-3 in
    let w₃ = c.word-4 in
    hash_is a.entry.now a.hash.now w₀.result w₁.result w₂.result w₃.result (omega arith) w₀.ensures w₁.ensures w₂.ensures w₃.ensures
