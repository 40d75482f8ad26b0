-- `recorded::answers::row` meets its contract. Assumes nothing.
use Rattle.std.proofs.Common.{◌≡◌, ℕ, ◌-◌, List, ◌++◌, length, drop, replicate, sym, ap, ◌∙◌, arith}
use Rattle.std.proofs.lemmas.List.{length-take, drop-replicate}
use Rattle.recorded.proofs.answers.row.Goals as goal

behind : (n k : ℕ) (begun fields : List ℕ) → begun ≡ fields → length fields ≡ k → begun ++ drop k (replicate n 0) ≡ fields ++ replicate (n - length fields) 0
behind n k begun fields e h = ap (λ (l : List ℕ). l ++ drop k (replicate n 0)) e ∙ ap (λ (l : List ℕ). fields ++ l) (drop-replicate k n 0 ∙ ap (λ (j : ℕ). replicate (n - j) 0) (sym h))

pub returns : goal.returns
returns g c =
    let t = c.copy_from_slice.ensures in
    behind 32 g.row.K _ c.args.fields t.after (omega (arith, t.len, ap length t.after, length-take {A = ℕ} g.row.K (replicate 32 0), c.requires))
