-- The conditions said of words are the model's: `fits ws` is `is_long ws && is_window ws`. Assumes nothing.
use Rattle.std.specs.Prelude.{◌≡◌, ◌&&◌, List, drop, eqb, leb}
use Rattle.std.proofs.Math.Path.{sym, ap}
use Rattle.std.proofs.Common.{◌∙◌, add-one}
use Rattle.std.proofs.Math.Bool.{Bool, true}
use Rattle.std.proofs.Math.Logic.{inl, inr}
use Prim.Native.Nat.{ℕ, suc, ◌+◌, ◌-◌, ◌≤◌, ◌<◌}
use native.Mathlib.Omega.{arith}
use Rattle.std.proofs.Math.ListN.{length, get_or, take, length-drop}
use Rattle.std.proofs.Math.Seq.{length-take-le, get_or-take, get_or-drop}
use borrow.Author.Tests.{eqb-true, eqb-false, leb-true, eq-eqb, le-leb}
use Rattle.model.specs.Numbers.{max_seat}
use Rattle.model.specs.Lists.{all}
use Rattle.model.specs.Records.{sum}
use Rattle.model.specs.Seats.{oldest}
use Rattle.model.specs.Layout.{Table, is_0, is_blank, rows, decode, word, live, time_ok, entry_ok, rising, start_ok, starts_ok, counts_ok, probe_ok, is_window}
use Rattle.model.specs.Refusals.{is_long}
use Rattle.laws.specs.Numbers.{both, and_left, and_right, and_both}
use Rattle.facts.specs.Flags.{same, Says, says_iff, says_is, says_same, says_eq, fold, fold_every, hold_row, more, none, all_below, all_at, all_each}
use Rattle.laws.specs.Every.{hold}
use Rattle.facts.specs.Words.{at, count, clock, latest, total, start, racer, zeros, blank_at, tails_zero, unused_zero, fields_fit, rises, record_fits, records_fit, sum_of, total_fits, oldest_of, start_by, seat_fits, seats_fit, probe_fits, later, later_fits, head_fits, conditions, fits}
use Rattle.facts.specs.Head.{word_at, part, counts_count}
use Rattle.facts.specs.Lists.{says_part, says_first, says_rest, blank_is}
use Rattle.facts.specs.Sound.{Sound, valid_says}
use Rattle.facts.specs.Entries.{fields_are, rises_are, sum_is, oldest_is}
use Rattle.facts.specs.Seats.{start_is, says_starts, raced_le, raced_none, raced_in, Seat, start_says}
use Rattle.facts.proofs.Seats.{seat_says}

module _ (ws : List ℕ) (long : length ws ≡ 4096) where
  abbrev t : Table
  t = decode ws

  -- a table by seat, at a
  says_table : (p : ℕ → Bool) (a : ℕ) → a + 256 ≤ 4096 → Says (all p (take 256 (drop a ws))) ((s : ℕ) → s < 256 → p (get_or ws (a + s) 0) ≡ true)
  says_table p a h = says_part p ws a 256 (omega arith)

  late : suc (word 2 t) ≡ latest ws
  late = ap suc (word_at ws 2) ∙ sym (add-one (clock ws))

  -- times by seat
  says_times : (a : ℕ) → a + 256 ≤ 4096 → Says (all (λ s. time_ok s t) (take 256 (drop a ws))) ((s : ℕ) → s < 256 → get_or ws (a + s) 0 ≤ latest ws)
  says_times a h =
      says_iff (says_table (λ s. time_ok s t) a h) (λ f s b. rw late at (leb-true (get_or ws (a + s) 0) (suc (word 2 t)) (f s b)))
      (λ f s b. le-leb (get_or ws (a + s) 0) (suc (word 2 t)) (rw late (f s b)))

  says_most : (m a : ℕ) → a + 256 ≤ 4096 → Says (all (λ k. leb k m) (take 256 (drop a ws))) ((s : ℕ) → s < 256 → get_or ws (a + s) 0 ≤ m)
  says_most m a h =
      says_iff (says_table (λ k. leb k m) a h) (λ f s b. leb-true (get_or ws (a + s) 0) m (f s b)) (λ f s b. le-leb (get_or ws (a + s) 0) m (f s b))

  says_none : (a : ℕ) → a + 256 ≤ 4096 → Says (all is_0 (take 256 (drop a ws))) ((s : ℕ) → s < 256 → get_or ws (a + s) 0 ≡ 0)
  says_none a h =
      says_iff (says_table is_0 a h) (λ f s b. eqb-true (get_or ws (a + s) 0) 0 (f s b)) (λ f s b. eq-eqb (get_or ws (a + s) 0) 0 (f s b))

  live_is : live t ≡ take (count ws) (rows 256 ws)
  unfolding live decode
  live_is = ap (λ (n : ℕ). take n (rows 256 ws)) (word_at ws 1)

  -- conditions that hold where there are at most 256 records
  module _ (few : count ws ≤ 256) where
    -- the places after the records
    tails_is : tails_zero ws ≡ all is_blank (drop (word 1 t) t.entries)
    unfolding tails_zero decode
    tails_is =
        let p : ℕ → Bool = λ k. blank_at ws (count ws + k) in
        let s = says_rest ws is_blank (count ws) few in
        same (all_below (256 - count ws) p) (all is_blank (drop (count ws) (rows 256 ws)))
        (λ h. s.from (λ k b. sym (blank_is ws (count ws + k)) ∙ all_at p (256 - count ws) k b h))
        (λ h. all_each p (256 - count ws) (λ k b. blank_is ws (count ws + k) ∙ s.gives h k b))
        ∙ ap (λ (n : ℕ). all is_blank (drop n (rows 256 ws))) (sym (word_at ws 1))

    says_each : Says (all (entry_ok (word 2 t)) (live t)) ((i : ℕ) → i < count ws → fields_fit ws i ≡ true)
    says_each =
        says_is (λ j. all (entry_ok (word_at ws 2 j)) (live_is j))
        (says_iff (says_first ws (entry_ok (clock ws)) (count ws) few) (λ f i b. fields_are ws i ∙ f i b) (λ f i b. sym (fields_are ws i) ∙ f i b))

    says_rises : Says (rising (live t)) ((i : ℕ) → i < count ws → rises ws i ≡ true)
    says_rises = says_is (ap rising live_is) (rises_are ws (count ws) few)

    sums_is : total_fits ws ≡ eqb (word 3 t) (sum (live t))
    unfolding total_fits
    sums_is =
        says_same (eqb (sum_of ws (count ws)) (total ws)) (eqb (word 3 t) (sum (live t))) (says_eq (sum_of ws (count ws)) (total ws))
        (says_iff (says_eq (word 3 t) (sum (live t)))
        (λ e. sum_is ws (count ws) few ∙ sym (ap sum live_is) ∙ sym e ∙ word_at ws 3)
        (λ e. word_at ws 3 ∙ sym e ∙ sum_is ws (count ws) few ∙ sym (ap sum live_is)))

    -- the start of the seat s
    start_here : (s : ℕ) → start_by (latest ws) (oldest_of ws s (count ws)) (start ws s) ≡ start_ok (word 2 t) (oldest s (live t)) (start ws s)
    start_here s =
        start_is (clock ws) (oldest_of ws s (count ws)) (start ws s)
        ∙ (λ j. start_ok (sym (word_at ws 2) j) ((oldest_is ws s (count ws) few ∙ sym (ap (oldest s) live_is)) j) (start ws s))

    says_starts_here : Says (starts_ok (word 2 t) (live t) 0 t.starts)
        ((s : ℕ) → s < 256 → start_by (latest ws) (oldest_of ws s (count ws)) (start ws s) ≡ true)
    unfolding decode
    says_starts_here =
        let ss = take 256 (drop 2304 ws) in
        let len : length ss ≡ 256 = length-take-le 256 (drop 2304 ws) (omega (arith, length-drop 2304 ws)) in
        let at : (s : ℕ) → s < 256 → get_or ss s 0 ≡ start ws s = λ s b. get_or-take 256 (drop 2304 ws) s 0 b ∙ get_or-drop 2304 ws s 0 in
        let from_0 : (s : ℕ) → 0 + s ≡ s = λ s. omega arith in
        let is : (s : ℕ) → s < 256 → start_ok (word 2 t) (oldest (0 + s) (live t)) (get_or ss s 0) ≡ start_by (latest ws) (oldest_of ws s (count ws)) (start ws s) =
        λ s b. (λ j. start_ok (word 2 t) (oldest (from_0 s j) (live t)) (at s b j)) ∙ sym (start_here s) in
        says_iff (says_starts (word 2 t) (live t) 0 ss) (λ f s b. sym (is s b) ∙ f s (omega (arith, len)))
        (λ f s b. let c : s < 256 = omega (arith, len) in is s c ∙ f s c)

  -- the probe with the racers, apart
  probe_racers : Says (probe_ok t) ((probe_fits t ≡ true) × (at ws 61 ≡ 0 → all is_0 t.racers ≡ true))
  unfolding probe_ok probe_fits
  probe_racers = elim (both (eqb (word 61 t) 0)) [
    | inl q ↦ let z : at ws 61 ≡ 0 = sym (word_at ws 61) ∙ eqb-true (word 61 t) 0 q in rw q (record {
      gives = λ e. (hold _ e 0, λ w. hold _ e 1);
      from = λ p. more _ p.0 (more _ (p.1 z) none);
    })
    | inr q ↦ let n : at ws 61 ≡ 0 → ⊥ = λ z. eqb-false (word 61 t) 0 q (word_at ws 61 ∙ z) in rw q (record {
      gives = λ e. (fold_every _ ∙ e, λ z. absurd (n z));
      from = λ p. sym (fold_every _) ∙ p.0;
    })
  ]

  to : fits ws ≡ true → Sound t
  unfolding fits conditions head_fits later_fits later unused_zero zeros records_fit record_fits seats_fit decode
  to e =
      let h = hold_row (conditions ws) e in
      let counts = and_left (counts_ok t) (later_fits ws) (h 1) in
      let l = hold_row (later ws) (and_right (counts_ok t) (later_fits ws) (h 1)) in
      let few = counts_count ws counts in
      let rec : (i : ℕ) → i < count ws → record_fits ws i ≡ true = λ i b. all_at (record_fits ws) (count ws) i b (h 3) in
      let seat : (s : ℕ) → s < 256 → Seat ws s = λ s b. (seat_says ws s).gives (all_at (seat_fits ws) 256 s b (h 5)) in
      record {
        counts = counts;
        settings = l 0;
        small = l 1;
        stall = l 2;
        stuck = l 3;
        cold = l 4;
        hedged = l 5;
        observation = l 6;
        probe = probe_racers.from (l 7, λ z. (says_none 3328 (omega arith)).from (λ s b. raced_none (at ws 61) (racer ws s) z (seat s b).races));
        rest = sym (part ws 97 415) ∙ l 8;
        spare = and_right (tails_zero ws) (zeros ws 2048 256) (h 2);
        clear = sym (tails_is few) ∙ and_left (tails_zero ws) (zeros ws 2048 256) (h 2);
        each = (says_each few).from (λ i b. and_left (fields_fit ws i) (rises ws i) (rec i b));
        rises = (says_rises few).from (λ i b. and_right (fields_fit ws i) (rises ws i) (rec i b));
        sums = sym (sums_is few) ∙ h 4;
        starts = (says_starts_here few).from (λ s b. (start_says (latest ws) (oldest_of ws s (count ws)) (start ws s)).from (seat s b).starts);
        bodies = (says_times 2560 (omega arith)).from (λ s b. (seat s b).bodies);
        keys = (says_most max_seat 2816 (omega arith)).from (λ s b. (seat s b).keys);
        cooling = (says_times 3072 (omega arith)).from (λ s b. (seat s b).cools);
        racers = (says_most 256 3328 (omega arith)).from (λ s b. raced_le (at ws 61) (racer ws s) (seat s b).races);
      }

  fro : Sound t → fits ws ≡ true
  unfolding fits conditions head_fits later_fits later unused_zero zeros records_fit record_fits seats_fit seat_fits decode
  fro S =
      let few = counts_count ws S.counts in
      let P = probe_racers.gives S.probe in
      let rest : later_fits ws ≡ true = fold_every (later ws) ∙ more _ S.settings (more _ S.small (more _ S.stall (more _ S.stuck (more _ S.cold
      (more _ S.hedged (more _ S.observation (more _ P.0 (more _ (part ws 97 415 ∙ S.rest) none)))))))) in
      let each = (says_each few).gives S.each in
      let up = (says_rises few).gives S.rises in
      let seat : (s : ℕ) → s < 256 → seat_fits ws s ≡ true = λ s b.
      (seat_says ws s).from (record {
        starts = (start_says (latest ws) (oldest_of ws s (count ws)) (start ws s)).gives ((says_starts_here few).gives S.starts s b);
        bodies = (says_times 2560 (omega arith)).gives S.bodies s b;
        keys = (says_most max_seat 2816 (omega arith)).gives S.keys s b;
        cools = (says_times 3072 (omega arith)).gives S.cooling s b;
        races = raced_in (at ws 61) (racer ws s) ((says_most 256 3328 (omega arith)).gives S.racers s b) (λ z. (says_none 3328 (omega arith)).gives (P.1 z) s b);
      }) in
      fold_every (conditions ws)
      ∙ more _ (eq-eqb (length ws) 4096 long)
      (more _ (and_both (counts_ok t) (later_fits ws) S.counts rest)
      (more _ (and_both (tails_zero ws) (zeros ws 2048 256) (tails_is few ∙ S.clear) S.spare)
      (more _ (all_each (record_fits ws) (count ws) (λ i b. and_both (fields_fit ws i) (rises ws i) (each i b) (up i b)))
      (more _ (sums_is few ∙ S.sums)
      (more _ (all_each (seat_fits ws) 256 seat) none)))))

  pub fits_says : Says (fits ws) (Sound t)
  fits_says = record { gives = to; from = fro }

-- the conditions said of words are the model's, for words of any number
pub fits_is : (ws : List ℕ) → fits ws ≡ (is_long ws && is_window ws)
unfolding is_window fits conditions fold
fits_is ws = elim (both (eqb (length ws) 4096)) [
  | inl q ↦ let long = eqb-true (length ws) 4096 q in
      says_same (fits ws) (is_window ws) (fits_says ws long) (valid_says (decode ws)) ∙ sym (ap (λ (b : Bool). b && is_window ws) q)
  | inr q ↦ ap (λ (b : Bool). b && head_fits ws && unused_zero ws && records_fit ws && total_fits ws && seats_fit ws) q
      ∙ sym (ap (λ (b : Bool). b && is_window ws) q)
]
