-- `recorded::runs::put_runs` meets its contract: at the loop's head the runs that are left are still to be put. Assumes nothing.
use Rattle.std.proofs.Common.{◌≡◌, ℕ, zero, suc, ◌+◌, ◌-◌, ◌<◌, ◌≤◌, cond, List, sym, refl, ap, ◌∙◌, not-suc-le-zero, arith, le-leb}
use borrow.Author.Tests.{lt-leb}
use Rattle.recorded.specs.Records.{run_put, next_run, runs_put}
use Rattle.recorded.proofs.runs.put_runs.Goals as goal

-- at the end
ended : (most : ℕ) (ns : List ℕ) (place end : ℕ) (ws : List ℕ) → end ≤ place → runs_put most ns place end ws ≡ ws
unfolding runs_put
ended zero ns place end ws h = refl
ended (suc most) ns place end ws h = rw (le-leb end place h) refl

none_left : (most : ℕ) (ns : List ℕ) (place end : ℕ) (ws : List ℕ) → most ≤ 0 → runs_put most ns place end ws ≡ ws
unfolding runs_put
none_left zero ns place end ws h = refl
none_left (suc most) ns place end ws h = absurd (not-suc-le-zero h)

-- one more run
one_more : (most : ℕ) (ns : List ℕ) (place end : ℕ) (ws : List ℕ) → 0 < most → place < end → runs_put most ns place end ws ≡ runs_put (most - 1) ns (next_run ns place) end (run_put ns place ws)
unfolding runs_put
one_more zero ns place end ws k h = absurd (not-suc-le-zero k)
one_more (suc most) ns place end ws k h =
    let e : most ≡ suc most - 1 = omega arith in
    ap (λ b. cond b ws (runs_put most ns (next_run ns place) end (run_put ns place ws))) (lt-leb end place h) ∙ ap (λ (n : ℕ). runs_put n ns (next_run ns place) end (run_put ns place ws)) e

pub loop-init : goal.loop-init
loop-init c = refl

pub returns-then-at-end : goal.returns-then-at-end
returns-then-at-end c =
    let a = c.args in
    let v = c.loop in
    sym (v.invariant ∙ ended (4096 - v.counter) a.numbers.now v.at a.end v.words c.if-at-end.true)

pub loop-preserved : goal.loop-preserved
loop-preserved c =
    let a = c.args in
    let v = c.loop in
    let run = c.put_run in
    let ns = a.numbers.now in
    let m = 4096 - v.counter in
    let less : m - 1 ≡ 4096 - (v.counter + 1) = omega arith in
    v.invariant
    ∙ one_more m ns v.at a.end v.words (omega arith) (omega (arith, c.if-at-end.false))
    ∙ ap (λ (ws : List ℕ). runs_put (m - 1) ns (next_run ns v.at) a.end ws) (sym run.ensures)
    ∙ ap (λ (p : ℕ). runs_put (m - 1) ns p a.end run.new.words) (sym c.next_run-at.ensures)
    ∙ ap (λ (k : ℕ). runs_put k ns c.next_run-at.result a.end run.new.words) less

pub returns : goal.returns
returns c =
    let a = c.args in
    let v = c.loop in
    sym (v.invariant ∙ none_left (4096 - v.counter) a.numbers.now v.at a.end v.words (omega arith))
