-- `check_window::records` meets its contract: the records passed fit, the sum is theirs, and the table is `oldest_of` of them at every seat. Assumes nothing.
use Rattle.std.proofs.Common.{◌≡◌, ℕ, ◌+◌, ◌-◌, ◌<◌, Bool, true, false, ◌&&◌, eqb, List, get_or, set, sym, refl, ap, ◌∙◌, arith, length-set, eq-eqb, ne_eqb}
use mathlib.Core.Bool.{and-false}
use Rattle.facts.specs.Words.{record_fits, records_fit, total_fits, seats_fit, sum_of, oldest_of, earlier, fields_fit, rises}
use Rattle.facts.specs.Words.{count, owner, time, estimate, total}
use Rattle.facts.specs.Flags.{all_below, all_none, all_more, all_fails}
use Rattle.laws.specs.Numbers.{and_both}
use Rattle.facts.specs.Oldest.{Known, known, table_start, table_step, oldest_le, sum_more}
use Rattle.check_window.proofs.records.Goals.{Else-not-rising}
use Rattle.check_window.proofs.records.Goals as goal

-- an exit: record i does not fit
leaves : (w : List ℕ) (i : ℕ) → i < count w → record_fits w i ≡ false → false ≡ (records_fit w && total_fits w && seats_fit w)
unfolding records_fit
leaves w i h e = sym (ap (λ (q : Bool). q && total_fits w && seats_fit w) (all_fails (record_fits w) (count w) i h e))

-- a turn that goes on: record i fits
turn_fits : (c : Else-not-rising) → record_fits c.args.w.now c.loop-i.i ≡ true
unfolding record_fits
turn_fits c =
    and_both (fields_fit c.args.w.now c.loop-i.i) (rises c.args.w.now c.loop-i.i)
    (sym c.fields.ensures ∙ c.if-not-fields.false)
    (sym c.rising.ensures ∙ c.if-not-rising.false)

turn_known : (c : Else-not-rising) → Known c.args.w.now c.loop-i.i
turn_known c = known c.args.w.now c.loop-i.i (turn_fits c)

pub loop-i-init : goal.loop-i-init
unfolding sum_of
loop-i-init c =
    let w = c.args.w.now in
    (c.to_usize-n.ensures, omega arith, all_none (record_fits w), refl, omega arith, table_start w, refl)

pub returns-then-not-fields : goal.returns-then-not-fields
unfolding record_fits
returns-then-not-fields c =
    let w = c.args.w.now in
    let i = c.loop-i.i in
    leaves w i (omega arith) (ap (λ (q : Bool). q && rises w i) (sym c.fields.ensures ∙ c.if-not-fields.true))

pub returns-then-not-rising : goal.returns-then-not-rising
unfolding record_fits
returns-then-not-rising c =
    let w = c.args.w.now in
    let i = c.loop-i.i in
    leaves w i (omega arith)
    (ap (λ (q : Bool). fields_fit w i && q) (sym c.rising.ensures ∙ c.if-not-rising.true) ∙ and-false (fields_fit w i))

pub offset_bounds-first-s : goal.offset_bounds-first-s
offset_bounds-first-s c = let k = turn_known (goal.at.offset_bounds-first-s c).Else-not-rising in omega (arith, k.seat, c.to_usize-s.ensures)

pub bounds-first-s : goal.bounds-first-s
bounds-first-s c = let k = turn_known (goal.at.bounds-first-s c).Else-not-rising in omega (arith, k.seat, c.to_usize-s.ensures)

pub sooner-requires : goal.sooner-requires
sooner-requires c = let k = turn_known (goal.at.sooner-requires c).Else-not-rising in omega (arith, k.past)

pub offset_bounds-first-s-in-loop-i : goal.offset_bounds-first-s-in-loop-i
offset_bounds-first-s-in-loop-i c = let k = turn_known (goal.at.offset_bounds-first-s-in-loop-i c).Else-not-rising in omega (arith, k.seat, c.to_usize-s.ensures)

pub bounds-first-s-in-loop-i : goal.bounds-first-s-in-loop-i
bounds-first-s-in-loop-i c = let k = turn_known (goal.at.bounds-first-s-in-loop-i c).Else-not-rising in omega (arith, k.seat, c.to_usize-s.ensures)

pub overflow_add-sum-in-loop-i : goal.overflow_add-sum-in-loop-i
overflow_add-sum-in-loop-i c = let k = turn_known (goal.at.overflow_add-sum-in-loop-i c).Else-not-rising in omega (arith, k.small)

pub loop-i-preserved : goal.loop-i-preserved
loop-i-preserved c =
    let at-loop = c.loop-i in
    let w = c.args.w.now in
    let i = at-loop.i in
    let k = turn_known (goal.at.loop-i-preserved c).Else-not-rising in
    let place = c.to_usize-s in
    let v = c.sooner in
    let more : all_below (i + 1) (record_fits w) ≡ true =
    all_more (record_fits w) i ∙ and_both (all_below i (record_fits w)) (record_fits w i) at-loop.invariant.2 (turn_fits (goal.at.loop-i-preserved c).Else-not-rising) in
    let is : v.result ≡ earlier (time w i) (get_or at-loop.first (owner w i) 0) =
    v.ensures ∙ ap (λ (s : ℕ). earlier (time w i) (get_or at-loop.first s 0)) place.ensures in
    let table : (s : ℕ) → get_or (set at-loop.first place.result v.result) s 0 ≡ oldest_of w s (i + 1) =
    λ s. ap (λ (n : ℕ). get_or (set at-loop.first n v.result) s 0) place.ensures
    ∙ table_step w at-loop.first i v.result (omega (arith, k.seat, at-loop.invariant.6)) at-loop.invariant.5 is s in (
      at-loop.invariant.0,
      omega arith,
      more,
      ap (λ (n : ℕ). n + estimate w i) at-loop.invariant.3 ∙ sym (sum_more w i),
      omega (arith, k.small),
      table,
      length-set at-loop.first place.result v.result ∙ at-loop.invariant.6,
    )

pub returns-then-sum-w : goal.returns-then-sum-w
unfolding total_fits
returns-then-sum-w c =
    let at-loop = c.loop-i in
    let w = c.args.w.now in
    let e : at-loop.i ≡ count w = omega arith in
    let t : eqb (sum_of w (count w)) (total w) ≡ false =
    ne_eqb (sum_of w (count w)) (total w) (λ q. c.if-sum-w.true (at-loop.invariant.3 ∙ ap (sum_of w) e ∙ q)) in
    sym ((λ j. records_fit w && t j && seats_fit w) ∙ ap (λ (q : Bool). q && seats_fit w) (and-false (records_fit w)))

pub seats-requires : goal.seats-requires
seats-requires c =
    let at-loop = c.loop-i in
    let at-start = c in
    let w = at-start.args.w.now in
    let e : at-loop.i ≡ count w = omega arith in
    record {
      in_time = at-start.requires.1;
      by_index = λ s. at-loop.invariant.5 s ∙ ap (oldest_of w s) e;
      by_index_2 = λ s. omega (arith, at-loop.invariant.5 s, oldest_le w s at-loop.i at-loop.invariant.2, at-start.requires.1);
    }

pub returns : goal.returns
unfolding records_fit total_fits
returns c =
    let at-loop = c.loop-i in
    let w = c.args.w.now in
    let e : at-loop.i ≡ count w = omega arith in
    let r : all_below (count w) (record_fits w) ≡ true = ap (λ (n : ℕ). all_below n (record_fits w)) (sym e) ∙ at-loop.invariant.2 in
    let t : eqb (sum_of w (count w)) (total w) ≡ true =
    eq-eqb (sum_of w (count w)) (total w) (ap (sum_of w) (sym e) ∙ sym at-loop.invariant.3 ∙ c.if-sum-w.false) in
    c.seats.ensures ∙ sym (λ j. r j && t j && seats_fit w)
