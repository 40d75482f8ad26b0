-- `opening::clear` meets its contract. Assumes nothing.
use mathlib.Core.Path.{◌≡◌, ap, ◌∙◌}
use Prim.Native.Nat.{◌-◌}
use native.Mathlib.Omega.{arith}
use lib.ListN.{length}
use Rattle.model.specs.Layout.{decode}
use Rattle.opening.specs.Blank.{zeros, decode_zeros}
use Rattle.opening.proofs.clear.Goals as goal

pub returns : goal.returns
returns c =
    let s = c in
    let n : length s.args.words.now - 0 ≡ 4096 = omega (arith, s.told-words) in
    ap decode (c.clear_from.ensures ∙ ap zeros n) ∙ decode_zeros
