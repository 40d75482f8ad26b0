-- `recorded::input::read_numbers` meets its contract: at the loop's head the numbers of the bytes that are left are still to be put. Assumes nothing.
use Rattle.std.proofs.Common.{◌≡◌, ℕ, suc, ◌+◌, ◌<◌, ◌≤◌, List, length, get_or, drop, sym, refl, ap, ◌∙◌, arith, drop_of_length-le, drop-cons}
use Rattle.recorded.specs.Input.{left_after, value_after, emitted, numbers_from, put_at}
use Rattle.recorded.proofs.input.read_numbers.Goals as goal

-- one byte more
one_more : (bs : List ℕ) (i left value l v : ℕ) → i < length bs → l ≡ left_after left (get_or bs i 0) → v ≡ value_after left value (get_or bs i 0)
    → numbers_from left value (drop i bs) ≡ emitted l v (numbers_from l v (drop (i + 1) bs))
unfolding numbers_from
one_more bs i left value l v h e f =
    let next : suc i ≡ i + 1 = omega arith in
    ap (numbers_from left value) (drop-cons bs i 0 h)
    ∙ ap (λ (x : ℕ). emitted x (value_after left value (get_or bs i 0)) (numbers_from x (value_after left value (get_or bs i 0)) (drop (suc i) bs))) (sym e)
    ∙ ap (λ (x : ℕ). emitted l x (numbers_from l x (drop (suc i) bs))) (sym f)
    ∙ ap (λ (k : ℕ). emitted l v (numbers_from l v (drop k bs))) next

-- no byte is left
none_left : (bs : List ℕ) (i left value n : ℕ) (out : List ℕ) → length bs ≤ i → put_at n (numbers_from left value (drop i bs)) out ≡ out
unfolding numbers_from put_at
none_left bs i left value n out h = ap (λ (r : List ℕ). put_at n (numbers_from left value r) out) (drop_of_length-le bs h)

pub loop-b-init : goal.loop-b-init
loop-b-init c = refl

pub loop-b-preserved : goal.loop-b-preserved
loop-b-preserved c =
    let a = c.args in
    let v = c.loop-b in
    let x = c.after-begun in
    let k = c.kept-n in
    let e = one_more a.bytes.now v.b-index v.begun.left v.begun.value x.result.left x.result.value (omega arith) x.ensures.0 x.ensures.1 in
    v.invariant ∙ ap (λ (ns : List ℕ). put_at v.n ns v.out) e ∙ sym (k.ensures.1 (numbers_from x.result.left x.result.value (drop (v.b-index + 1) a.bytes.now)))

pub returns : goal.returns
returns c =
    let a = c.args in
    let v = c.loop-b in
    sym (v.invariant ∙ none_left a.bytes.now v.b-index v.begun.left v.begun.value v.n v.out (omega arith))
