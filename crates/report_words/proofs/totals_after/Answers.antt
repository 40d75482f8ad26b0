-- `report_words::totals_after` meets its contract: at the loop's head the totals are those after the first i. Assumes nothing.
use mathlib.Core.Path.{◌≡◌, refl, sym, ap, ◌∙◌}
use Prim.Native.Nat.{ℕ, suc, ◌+◌, ◌-◌, ◌*◌}
use native.Mathlib.Numerals.{add-one}
use mathlib.Core.List.{List}
use lib.ListN.{get_or}
use Rattle.model.specs.Reasons.{lowered}
use Rattle.model.specs.LettingGo.{total_after, frontier_after}
use Rattle.report_words.specs.Report.{release_at, releases_of, total_more, frontier_more}
use Rattle.report_words.proofs.totals_after.Goals as goal

total_turn : (core : List ℕ) (i n t u : ℕ) → t ≡ total_after (releases_of i core) n → u ≡ t - get_or core (9 * i + 7) 0 → u ≡ total_after (releases_of (suc i) core) n
unfolding releases_of
total_turn core i n t u was is = is ∙ ap (λ (x : ℕ). x - get_or core (9 * i + 7) 0) was ∙ sym (total_more (releases_of i core) (release_at core i) n)

frontier_turn : (core : List ℕ) (i n t u : ℕ) → t ≡ frontier_after (releases_of i core) n → u ≡ lowered (get_or core (9 * i + 8) 0) (get_or core (9 * i + 6) 0) t
    → u ≡ frontier_after (releases_of (suc i) core) n
unfolding releases_of
frontier_turn core i n t u was is =
    is ∙ ap (lowered (get_or core (9 * i + 8) 0) (get_or core (9 * i + 6) 0)) was ∙ sym (frontier_more (releases_of i core) (release_at core i) n)

pub loop-i-init : goal.loop-i-init
unfolding releases_of total_after frontier_after
loop-i-init c = (refl, refl)

pub loop-i-preserved : goal.loop-i-preserved
loop-i-preserved c =
    let v = c.loop-i in
    let a = c.args in
    rw add-one (total_turn a.gone.now v.i a.total v.t.total c.less_one-t.result.total v.invariant.0 c.less_one-t.ensures.0, frontier_turn a.gone.now v.i a.frontier v.t.frontier c.less_one-t.result.frontier v.invariant.1 c.less_one-t.ensures.1)
