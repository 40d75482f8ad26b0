-- `expiry::is_late` meets its contract. Assumes nothing.
use mathlib.Core.Path.{sym, ap, ◌∙◌}
use native.Mathlib.Omega.{arith}
use Prim.Native.Nat.{ℕ}
use lib.ListN.{get_or}
use Rattle.model.specs.Time.{expired}
use Rattle.model.specs.Layout.{decode}
use Rattle.laws.specs.Rows.{word_at}
use Rattle.expiry.proofs.is_late.Goals as goal

pub returns : goal.returns
returns c clock timeout e =
    let a = c.args in
    c.reached.ensures clock timeout e ∙ ap (expired clock timeout) c.start_of-start.ensures
    ∙ ap (λ (o : ℕ). expired clock timeout (get_or (decode a.words.now).starts o 0)) (sym (word_at a.i a.words.now 4 (omega arith)))
