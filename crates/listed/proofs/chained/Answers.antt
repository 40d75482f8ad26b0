-- `listed::chained` meets its contract: what is left to look at is a chain of its bucket. Assumes nothing.
use Rattle.std.proofs.Common.{ℕ, ◌-◌, ◌<◌, ◌≤◌, length, get_or, sym, refl, ap, ◌∙◌, arith}
use Rattle.model.specs.Hash.{hash}
use Rattle.model.specs.declared.Hash.{Hash}
use Rattle.hash.specs.Words.{Words}
use Rattle.listed.specs.Index.{linked}
use Rattle.listed.specs.Search.{named_at, named_none}
use Rattle.listed.specs.Laws.{is_below, linked_le, linked_le_links}
use Rattle.listed.specs.Chain.{chain_start, chain_next, next_less}
use Rattle.listed.proofs.chained.Goals.{Start}
use Rattle.listed.proofs.chained.Goals as goal

-- what is known of the words where the function starts
module _ (s : Start) where
  abbrev wanted : Hash
  wanted = hash s.args.a s.args.b s.args.c s.args.d

  asked : Words wanted
  asked = record { a = s.ranges.a.fits; b = s.ranges.b.fits; c = s.ranges.c.fits; d = s.ranges.d.fits }

  -- how many places have a link
  abbrev linking : ℕ
  linking = linked s.args.n (length s.args.index.now)

  -- each of them is in the list, and its link in the index
  few : (linking ≤ s.args.n) × (linking ≤ length s.args.index.now - 1024)
  few = (linked_le s.args.n (length s.args.index.now), linked_le_links s.args.n (length s.args.index.now))

pub offset_bounds-index-head : goal.offset_bounds-index-head
offset_bounds-index-head c =
    let k : c.bucket-head.result < 1024 = is_below _ _ c.bucket-head.ensures in
    omega arith

pub bounds-index-head : goal.bounds-index-head
bounds-index-head c =
    let k : c.bucket-head.result < 1024 = is_below _ _ c.bucket-head.ensures in
    omega (arith, c.requires.0.sized.0)

pub loop-i-init : goal.loop-i-init
loop-i-init c =
    let s = (goal.at.loop-i-init c).Start in
    chain_start (wanted s) (asked s) _ (λ i. (c.type_inv.list i).fits) _ _ s.requires.0 _
    (ap (λ (b : ℕ). get_or s.args.index.now b 0) c.bucket-head.ensures)

pub is_at-requires : goal.is_at-requires
is_at-requires c =
    let s = (goal.at.is_at-requires c).Start in
    omega (arith, (few s).0, c.loop-i.invariant.0, s.requires.1)

pub returns-then-is_at : goal.returns-then-is_at
returns-then-is_at c =
    let s = (goal.at.returns-then-is_at c).Start in
    let at = c.loop-i in
    sym (named_at (wanted s) s.args.list.now (linking s) (omega (arith, (few s).0, s.requires.1)) c.in-Some.i (omega (arith, at.invariant.0))
    (sym c.is_at.ensures ∙ c.if-is_at.true))

pub overflow_add-j : goal.overflow_add-j
overflow_add-j c =
    let s = (goal.at.overflow_add-j c).Start in
    omega (arith, (few s).1, c.loop-i.invariant.0)

pub offset_bounds-index-i : goal.offset_bounds-index-i
offset_bounds-index-i c =
    let s = (goal.at.offset_bounds-index-i c).Start in
    omega (arith, (few s).1, c.loop-i.invariant.0, s.well_formed)

pub bounds-index-i : goal.bounds-index-i
bounds-index-i c =
    let s = (goal.at.bounds-index-i c).Start in
    omega (arith, (few s).1, c.loop-i.invariant.0)

pub loop-i-smaller : goal.loop-i-smaller
loop-i-smaller c =
    let s = (goal.at.loop-i-smaller c).Start in
    let at = c.loop-i in
    next_less s.args.n s.args.list.now s.args.index.now s.requires.0 at.j c.in-Some.i at.invariant.0 (omega arith) (omega arith)

pub loop-i-preserved : goal.loop-i-preserved
loop-i-preserved c =
    let s = (goal.at.loop-i-preserved c).Start in
    let at = c.loop-i in
    chain_next (wanted s) (asked s) _ (λ i. (c.type_inv.list i).fits)
    _ _ s.requires.0 at.j c.in-Some.i at.invariant (omega arith) (omega arith) (sym c.is_at.ensures ∙ c.if-is_at.false) _ refl

pub returns : goal.returns
returns c =
    let s = (goal.at.returns c).Start in
    let at = c.loop-i in
    sym (named_none (wanted s) s.args.list.now (linking s) (omega (arith, (few s).0, s.requires.1)) (λ k h. at.invariant.1.1 k (omega arith) h))
