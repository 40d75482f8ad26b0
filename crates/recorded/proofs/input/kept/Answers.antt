-- `recorded::input::kept` meets its contract. Assumes nothing.
use Rattle.std.proofs.Common.{◌≡◌, ℕ, suc, ◌≤◌, List, [], ◌∷◌, length, sym, refl, ap, ◌∙◌, add-one, arith, length-set, ne_eqb}
use lib.Seq.{set_out}
use Rattle.recorded.specs.Input.{put_at}
use Rattle.recorded.proofs.input.kept.Goals as goal

-- where there is no room, nothing is put
full : (n : ℕ) (ns out : List ℕ) → length out ≤ n → put_at n ns out ≡ out
unfolding put_at
full n [] out h = refl
full n (x ∷ ns) out h = ap (put_at (suc n) ns) (set_out out n x h) ∙ full (suc n) ns out (omega (arith, h))

pub returns-then-begun-ne0 : goal.returns-then-begun-ne0
returns-then-begun-ne0 c = (refl, λ ns. rw (ne_eqb _ _ c.if-begun-ne0.true) refl)

pub returns-then-n-out : goal.returns-then-n-out
returns-then-n-out c =
    let a = c.args in
    (refl, λ ns. rw c.if-begun-ne0.false (full a.n ns a.out.now (omega (arith, c.if-n-out.true)) ∙ sym (full a.n (a.begun.value ∷ ns) a.out.now (omega (arith, c.if-n-out.true)))))

pub returns : goal.returns
unfolding put_at
returns c =
    let a = c.args in
    (length-set a.out.now a.n a.begun.value, λ ns. rw (c.if-begun-ne0.false, add-one) refl)
