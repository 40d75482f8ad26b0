-- `getdata::writing::put_entry` meets its contract. Assumes nothing.
use mathlib.Core.Path.{ap, ◌∙◌}
use Prim.Native.Nat.{ℕ}
use native.Mathlib.Omega.{arith}
use lib.Seq.{length-take-le}
use Rattle.model.specs.Getdata.{msg_witness_block, little_endian, big_endian, entry_bytes}
use Rattle.getdata.specs.Bytes.{length_little_endian, length_big_endian}
use Rattle.getdata.proofs.Both.{put}
use Rattle.getdata.proofs.Written.{put_five}
use Rattle.getdata.proofs.writing.put_entry.Goals as goal

pub returns : goal.returns
unfolding entry_bytes
returns c =
    let at-d = c in
    let at_c = at-d in
    let at_b = at_c in
    let at_a = at_b in
    let at-type = at_a in
    let g = at-type in
    let out = g.args.out.now in
    let t = at-type.put_little_endian.ensures ∙ ap (λ (n : ℕ). little_endian n msg_witness_block) (length-take-le 4 out (omega arith)) in
    let a = at_a.put_word.ensures in
    let b = at_b.put_word-2.ensures in
    let c' = at_c.put_word-3.ensures in
    let d = at-d.put_word-4.ensures in
    (λ i. put 28 8 (put 20 8 (put 12 8 (put 4 8 (put 0 4 out (t i)) (a i)) (b i)) (c' i)) (d i))
    ∙ put_five out (little_endian 4 msg_witness_block) (big_endian 8 g.args.a) (big_endian 8 g.args.b) (big_endian 8 g.args.c) (big_endian 8 g.args.d) g.requires
    (length_little_endian 4 msg_witness_block) (length_big_endian 8 g.args.a) (length_big_endian 8 g.args.b) (length_big_endian 8 g.args.c)
