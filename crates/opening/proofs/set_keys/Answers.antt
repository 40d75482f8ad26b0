-- `opening::set_keys` meets its contract. Assumes nothing.
use mathlib.Core.Path.{ap, ◌∙◌}
use mathlib.Core.List.{List}
use lib.ListN.{length}
use Prim.Native.Nat.{ℕ}
use Rattle.model.specs.Layout.{decode}
use Rattle.laws.specs.Tables.{with_keys, decode_keys}
use Rattle.opening.proofs.set_keys.Goals as goal

pub returns : goal.returns
unfolding decode
returns c =
    let s = c in
    let ws = s.args.words.now in
    decode_keys ws c.copy_over.new.dst s.told-words (ap length c.copy_over.ensures ∙ s.told-keys) ∙ ap (λ (l : List ℕ). with_keys l (decode ws)) c.copy_over.ensures
