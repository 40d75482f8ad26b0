-- `lines::cells::put` meets its contract. Assumes nothing.
use mathlib.Core.Path.{◌≡◌, sym, ap, ◌∙◌}
use mathlib.Core.List.{List, [], ◌∷◌, ◌++◌, append_assoc}
use Prim.Native.Nat.{ℕ, zero, suc, ◌+◌, ◌-◌, ◌≤◌}
use Rattle.std.proofs.Common.{add-zero, add-suc, rules}
use native.Mathlib.Omega.{arith}
use lib.ListN.{length, get_or, set, take, drop, length-append, take-append-drop}
use lib.Seq.{take_all, take-suc, drop-cons, drop-drop, length-take-le, set-append_seam}
use Rattle.lines.specs.Cells.{put_first, put}
use Rattle.lines.proofs.cells.put.Goals as goal

-- the first k bytes stand between what was there before and behind them
placed : (k place : ℕ) (s line : List ℕ) → place + k ≤ length line → k ≤ length s → put_first k place s line ≡ take place line ++ (take k s ++ drop (place + k) line)
unfolding put_first
placed zero place s line h g = rw add-zero (sym (take-append-drop place line))
placed (suc k) place s line h g =
    let x = get_or s k 0 in
    let before = take place line ++ take k s in
    let rest = drop (suc (place + k)) line in
    let long : length before ≡ place + k = simp length-append (omega (arith, length-take-le place line (omega arith), length-take-le k s (omega arith))) in
    rw add-suc
    (ap (λ (l : List ℕ). set l (place + k) x) (placed k place s line (omega arith) (omega arith))
    ∙ ap (λ (r : List ℕ). set (take place line ++ (take k s ++ r)) (place + k) x) (drop-cons line (place + k) 0 (omega arith))
    ∙ ap (λ (l : List ℕ). set l (place + k) x) (sym (append_assoc (take place line) (take k s) (get_or line (place + k) 0 ∷ rest)))
    ∙ ap (λ (n : ℕ). set (before ++ (get_or line (place + k) 0 ∷ rest)) n x) (sym long)
    ∙ set-append_seam before (get_or line (place + k) 0) rest x
    ∙ append_assoc (take place line) (take k s) (x ∷ rest)
    ∙ ap (λ (r : List ℕ). take place line ++ r) (sym (append_assoc (take k s) (x ∷ []) rest))
    ∙ ap (λ (r : List ℕ). take place line ++ (r ++ rest)) (sym (take-suc s k 0 g)))

pub returns : goal.returns
unfolding put
returns c =
    let a = c.args in
    let s = a.s.now in
    let long : length a.line ≡ 81 = search rules in
    let m : a.place + length s - a.place ≡ length s = omega arith in
    (λ i. take a.place a.line ++ (c.copy_from_slice.ensures.after i ++ drop (m i) (drop a.place a.line)))
    ∙ ap (λ (r : List ℕ). take a.place a.line ++ (s ++ r)) (drop-drop (length s) a.place a.line)
    ∙ ap (λ (r : List ℕ). take a.place a.line ++ (r ++ drop (a.place + length s) a.line)) (sym (take_all (length s) s (omega arith)))
    ∙ sym (placed (length s) a.place s a.line (omega (arith, c.requires)) (omega arith))
