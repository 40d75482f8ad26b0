-- `prefix_probe::walk_up` meets its contract. Assumes nothing.
use mathlib.Core.Path.{◌≡◌, refl, sym, ap, ◌∙◌}
use mathlib.Core.Bool.{false}
use mathlib.Core.List.{List}
use Prim.Native.Nat.{ℕ, ◌-◌, ◌≤◌, ◌<◌}
use native.Mathlib.Numerals.{add-one}
use native.Mathlib.Omega.{arith}
use lib.ListN.{length, get_or}
use Rattle.model.specs.Layout.{window_of}
use Rattle.model.specs.declared.Entry.{Entry}
use Rattle.prefix_probe.specs.Walks.{behind, follows, lower_in, first_in, Searching, Walked, walk_start, walk_over, walk_behind, walk_full, walk_gap, walk_step, search_start, search_behind, search_step, search_done, gap_met, gap_left, limit_met, limit_left}
use Rattle.prefix_probe.proofs.walk_up.Goals.{After-at_gap, After-loop-i}
use Rattle.prefix_probe.proofs.walk_up.Goals as goal

pub walk-init : goal.walk-init
walk-init c = (walk_start c.args.limit c.args.first (window_of c.args.words.now).queue.pending c.requires.1.1, refl)

pub loop-i-init : goal.loop-i-init
loop-i-init c =
    let w = c.walk in (
      search_start w.expected w.n c.args.limit w.marks (window_of c.args.words.now).queue.pending c.pending_count-count.result c.pending_count-count.ensures.0,
      λ z. absurd (omega (arith, z, c.walk-test.true)),
    )

-- one more turn of the search, before it is known whether it is at a gap
turned : (c : After-at_gap)
    → Searching c.walk.expected c.walk.n c.args.limit (c.loop-i.i - 1) c.nearer-at.result c.walk.marks (window_of c.args.words.now).queue.pending
turned c =
    let es = (window_of c.args.words.now).queue.pending in
    let w = c.walk in
    let l = c.loop-i in
    let m = get_or w.marks (l.i - 1) 0 in
    search_step w.expected w.n c.args.limit w.marks es (l.i - 1) (omega (arith, w.invariant.0.marked, c.pending_count-count.ensures.0, c.pending_count-count.ensures.1)) (omega (arith, l.invariant.0.bound, c.loop-i-test.true)) l.i l.at _ c.follows-here.result (omega (arith, c.loop-i-test.true)) l.invariant.0
    (ap (λ (h : ℕ). behind m h w.expected) (sym c.height_at-x.ensures) ∙ sym c.is_behind.ensures ∙ c.if-is_behind.false)
    (ap (λ (h : ℕ). follows m h w.expected) (sym c.height_at-x.ensures) ∙ sym c.follows-here.ensures) c.nearer-at.ensures
    (limit_left c.follows-here.result w.n c.args.limit w.invariant.0.few (sym c.at_limit.ensures ∙ c.if-at_limit.false))

pub loop-i-preserved : goal.loop-i-preserved
loop-i-preserved c =
    let count = c.pending_count-count.result in
    let at = c.nearer-at.result in
    let i = c.loop-i.i - 1 in
    let least = search_done _ _ _ _ _ i at (turned (goal.at.loop-i-preserved c).After-at_gap) in
    (turned (goal.at.loop-i-preserved c).After-at_gap, λ z. let free = gap_left i at count (sym c.at_gap.ensures ∙ c.if-at_gap.false) z in omega (arith, (least (omega (arith, z))).1.1, free, c.pending_count-count.ensures.0))

-- after the search: no entry is behind, and the first that follows is found
module _ (c : After-loop-i) where
  abbrev entries : List Entry
  entries = (window_of c.args.words.now).queue.pending

  done : (lower_in c.walk.expected c.walk.marks entries ≡ false) × ((first_in c.walk.expected c.walk.marks entries ≡ c.loop-i.at) × (c.loop-i.at ≤ length entries))
  done = search_done c.walk.expected c.walk.n c.args.limit c.walk.marks entries c.loop-i.i c.loop-i.at c.loop-i.invariant.0 (omega (arith, c.loop-i-test.false))

  below : c.loop-i.at < length entries
  below = c.loop-i.invariant.1 (omega (arith, c.loop-i-test.false))

  room : c.walk.n < c.args.limit
  room = c.loop-i.invariant.0.room below

pub walk-preserved : goal.walk-preserved
walk-preserved c =
    let e = (goal.at.walk-preserved c).After-loop-i in
    let es = (window_of c.args.words.now).queue.pending in
    let w = c.walk in
    rw (add-one, c.next_height-expected.ensures, sym w.invariant.1) (walk_step c.args.limit c.args.first es w.n w.places w.marks w.expected w.invariant.0 c.loop-i.at (omega (arith, c.pending_count-count.ensures.0, c.pending_count-count.ensures.1)) c.requires.1.0 (room e) (done e).0 (done e).1.0 (below e), refl)

pub returns-after-walk : goal.returns-after-walk
returns-after-walk c =
    let es = (window_of c.args.words.now).queue.pending in
    let w = c.walk in
    walk_over c.args.limit c.args.first es w.n w.places w.marks w.expected w.invariant.0 (omega (arith, w.invariant.1, c.walk-test.false, c.pending_count-count.ensures.0))

pub returns-then-is_behind : goal.returns-then-is_behind
returns-then-is_behind c =
    let es = (window_of c.args.words.now).queue.pending in
    let w = c.walk in
    let i = c.loop-i.i - 1 in
    walk_behind c.args.limit c.args.first es w.n w.places w.marks w.expected w.invariant.0 i
    (search_behind w.expected w.n c.args.limit w.marks es i (omega (arith, w.invariant.0.marked, c.pending_count-count.ensures.0, c.pending_count-count.ensures.1)) (omega (arith, c.loop-i.invariant.0.bound, c.loop-i-test.true))
    (ap (λ (h : ℕ). behind (get_or w.marks i 0) h w.expected) (sym c.height_at-x.ensures) ∙ sym c.is_behind.ensures ∙ c.if-is_behind.true))

pub returns-then-at_limit : goal.returns-then-at_limit
returns-then-at_limit c =
    let es = (window_of c.args.words.now).queue.pending in
    let w = c.walk in
    walk_full c.args.limit c.args.first es w.n w.places w.marks w.expected w.invariant.0 (limit_met c.follows-here.result w.n c.args.limit (sym c.at_limit.ensures ∙ c.if-at_limit.true))

pub returns-then-at_gap : goal.returns-then-at_gap
returns-then-at_gap c =
    let es = (window_of c.args.words.now).queue.pending in
    let w = c.walk in
    let i = c.loop-i.i - 1 in
    let at = c.nearer-at.result in
    let met = gap_met i at c.pending_count-count.result (sym c.at_gap.ensures ∙ c.if-at_gap.true) in
    let end = search_done w.expected w.n c.args.limit w.marks es i at (turned (goal.at.returns-then-at_gap c).After-at_gap) (omega (arith, met.0)) in
    walk_gap c.args.limit c.args.first es w.n w.places w.marks w.expected w.invariant.0 (omega (arith, c.pending_count-count.ensures.0, c.pending_count-count.ensures.1)) end.0 (omega (arith, end.1.0, met.1, c.pending_count-count.ensures.0))
