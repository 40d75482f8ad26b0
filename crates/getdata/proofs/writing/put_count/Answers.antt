-- `getdata::writing::put_count` meets its contract. Assumes nothing.
use mathlib.Core.Path.{◌≡◌, sym, ap, ◌∙◌}
use Prim.Native.Nat.{ℕ, ◌≤◌}
use native.Mathlib.Omega.{arith}
use mathlib.Core.List.{List, ◌∷◌}
use lib.ListN.{length, take, drop, set, length-set, length-drop}
use lib.Seq.{length-take-le}
use Rattle.model.specs.Getdata.{little_endian, compact_size}
use Rattle.getdata.specs.Bytes.{size_one, size_three, length_little_endian, length_count}
use Rattle.getdata.proofs.Written.{all_of_one, first_and_rest}
use Rattle.getdata.proofs.writing.put_count.Goals as goal

-- how many bytes there are
three : (n : ℕ) → 253 ≤ n → length (compact_size n) ≡ 3
three n h = omega (arith, ap length (size_three n h), length_little_endian 2 n)

pub bounds-out-0 : goal.bounds-out-0
bounds-out-0 c = omega (arith, c.requires, (length_count c.args.n).0)

pub bounds-out-0-else-n-lt-IN_TWO : goal.bounds-out-0-else-n-lt-IN_TWO
bounds-out-0-else-n-lt-IN_TWO c = omega (arith, c.requires, (length_count c.args.n).0)

pub slice_bounds-put_little_endian-end : goal.slice_bounds-put_little_endian-end
slice_bounds-put_little_endian-end c = simp length-set (omega (arith, c.requires, three c.args.n (omega (arith, c.if-n-lt-IN_TWO.false))))

pub returns-then-n-lt-IN_TWO : goal.returns-then-n-lt-IN_TWO
returns-then-n-lt-IN_TWO c =
    let g = c in
    let one = size_one g.args.n (omega (arith, c.if-n-lt-IN_TWO.true)) in
    all_of_one g.args.out.now g.args.n (g.requires ∙ ap length one) ∙ sym one

pub returns-else-n-lt-IN_TWO : goal.returns-else-n-lt-IN_TWO
returns-else-n-lt-IN_TWO c =
    let call = c in
    let g = call in
    let n = g.args.n in
    let h : 253 ≤ n = omega (arith, call.if-n-lt-IN_TWO.false) in
    let long : length g.args.out.now ≡ 3 = g.requires ∙ three n h in
    let rest = drop 1 (set g.args.out.now 0 253) in
    let two : length (take 2 rest) ≡ 2 = length-take-le 2 rest (simp (length-drop, length-set) (omega (arith, long))) in
    first_and_rest g.args.out.now 253 call.put_little_endian.new.out long
    ∙ ap (λ (y : List ℕ). 253 ∷ y) (call.put_little_endian.ensures ∙ ap (λ (k : ℕ). little_endian k n) two)
    ∙ sym (size_three n h)

pub shape_of-out-else-n-lt-IN_TWO : goal.shape_of-out-else-n-lt-IN_TWO
shape_of-out-else-n-lt-IN_TWO c = ap length (returns-else-n-lt-IN_TWO c) ∙ sym c.requires
