-- `column::remove_at` meets its contract. Assumes nothing.
use mathlib.Core.Path.{◌≡◌, ap, ◌∙◌}
use mathlib.Core.List.{List, [], ◌∷◌, ◌++◌}
use Prim.Native.Nat.{ℕ, ◌+◌, ◌-◌}
use native.Mathlib.Omega.{arith}
use lib.ListN.{length, take}
use Rattle.column.specs.Edits.{remove_at}
use Rattle.column.proofs.Parts.{rest_of, put_rest}
use Rattle.column.proofs.Laws.{removed_rest}
use Rattle.column.proofs.remove_at.Goals as goal

pub returns : goal.returns
returns c =
    let at_call = c in
    let s = at_call in
    let l = s.args.col.now in
    let at = s.args.at in
    let m = length l - at in
    let all : at + m ≡ length l = omega (arith, s.requires) in
    put_rest at m l at_call.remove_first.new.col all
    ∙ ap (λ (y : List ℕ). take at l ++ y) (at_call.remove_first.ensures ∙ ap (λ (r : List ℕ). remove_at 0 r ++ (0 ∷ [])) (rest_of at m l all))
    ∙ removed_rest at l 0 s.requires
