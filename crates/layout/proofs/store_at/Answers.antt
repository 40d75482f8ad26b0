-- `layout::store_at` meets its contract. Assumes nothing.
use mathlib.Core.Path.{◌≡◌, refl, ap, ◌∙◌}
use mathlib.Core.List.{List}
use Prim.Native.Nat.{ℕ, ◌+◌, ◌-◌}
use native.Mathlib.Omega.{arith}
use lib.ListN.{length}
use Rattle.model.specs.Layout.{decode}
use Rattle.laws.specs.Tables.{with_words, decode_words}
use Rattle.layout.proofs.store_at.Goals as goal

pub returns : goal.returns
returns c =
    let a = c.args in
    let k = a.k in
    let ws = a.words.now in
    let l = a.list.now in
    let y = c.copy_over.new.dst in
    let e : 3584 + k + length l - (3584 + k) ≡ length l = omega arith in
    let is : y ≡ l = c.copy_over.ensures in
    rw e (decode_words ws y c.told-words (3584 + k) k (length l) refl c.requires (ap length is) ∙ ap (λ (x : List ℕ). with_words k x (decode ws)) is)
