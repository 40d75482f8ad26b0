-- What the tests of an opening give it. Assumes nothing.
use Rattle.std.specs.Prelude.{◌≡◌, List, ℕ, length, leb}
use Rattle.std.proofs.Common.{sym, ◌∙◌, eqb-true}
use Rattle.model.specs.Numbers.{max_clock}
use Rattle.model.specs.Layout.{settings_ok}
use Rattle.model.specs.Refusals.{keys_ok, is_long, opening_refusal}
use Rattle.model.specs.declared.Settings.{Settings}
use Rattle.laws.specs.Every.{hold}
use Rattle.laws.specs.Kept.{passed}

-- as many words and keys as it asks for
pub opening_lengths : (c : ℕ) (b : Settings) (keys ws : List ℕ) (n : ℕ) → n ≡ opening_refusal c b keys ws → n ≡ 0
    → (length ws ≡ 4096) × (length keys ≡ 256)
unfolding opening_refusal keys_ok
opening_lengths c b keys ws n e z =
    let i = passed 0 (is_long ws) _ (sym e ∙ z) in
    let j = passed 3 (leb c max_clock) _ i.1 in
    let k = passed 4 (settings_ok b) _ j.1 in
    let m = passed 5 (keys_ok keys) 0 k.1 in
    (eqb-true (length ws) 4096 i.0, eqb-true (length keys) 256 (hold _ m.0 0))
