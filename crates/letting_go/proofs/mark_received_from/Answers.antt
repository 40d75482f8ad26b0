-- `letting_go::mark_received_from` meets its contract. Assumes nothing.
use mathlib.Core.Path.{◌≡◌, refl, subst}
use mathlib.Core.Bool.{Bool, true}
use Prim.Native.Nat.{ℕ}
use Rattle.std.specs.Prelude.{List}
use native.Mathlib.Omega.{arith}
use Rattle.model.specs.Numbers.{read_clock}
use Rattle.model.specs.Refusals.{Change, at, body_refusal, checking, checks, receives, window_refusal}
use Rattle.refusals.specs.Outcomes.{admitted}
use Rattle.laws.specs.Kept.{body_le}
use Rattle.refusals.specs.Arrays.{taken, not_taken, miscounted}
use Rattle.letting_go.specs.Letting.{lets_in, lets_passed}
use Rattle.letting_go.proofs.Steps.{lets_step}
use Rattle.letting_go.proofs.mark_received_from.Goals.{After-source_ok-p, Start}
use Rattle.letting_go.proofs.mark_received_from.Goals as goal

-- the change that it is
abbrev is : Start → Change
is s = receives s.args.clock s.args.h s.args.bytes s.args.source

-- n is its refusal, with the test of its source as the definition has it
refused : (c : After-source_ok-p) (n : ℕ) (ws : List ℕ) → n ≡ window_refusal (checking true (at c.args.clock) c.source_ok-p.result (body_refusal c.args.bytes)) ws c.args.room
    → n ≡ window_refusal (checks (receives c.args.clock c.args.h c.args.bytes c.args.source)) ws c.args.room
refused c n ws e = subst (λ (p : Bool). n ≡ window_refusal (checking true (at c.args.clock) p (body_refusal c.args.bytes)) ws c.args.room) c.source_ok-p.ensures e

pub returns-in_err-words : goal.returns-in_err-words
returns-in_err-words c =
    lets_passed _ _ c.from_residual.ensures.1 _ _ (is (goal.at.returns-in_err-words c).Start) _ _ _ (miscounted _ _ _ _ (not_taken c.args.words.now c.as_mut_array.result c.as_mut_array.ensures.cases c.ok_or.ensures.value c.in_err-words.was))

pub returns-in_err-body_refused_by : goal.returns-in_err-body_refused_by
returns-in_err-body_refused_by c =
    let x = is (goal.at.returns-in_err-body_refused_by c).Start in
    lets_in _ _ _ _ _ _ _ _ (taken c.args.words.now c.as_mut_array.result c.as_mut_array.ensures.cases c.ok_or.ensures.value c.in_ok-words.was)
    (lets_passed _ _ c.from_residual-in_err-body_refused_by.ensures.1 _ _ x _ _ _ (refused (goal.at.returns-in_err-body_refused_by c).After-source_ok-p _ _ c.in_err-body_refused_by.ensures))

pub mark_received_from-r-requires : goal.mark_received_from-r-requires
unfolding read_clock
mark_received_from-r-requires c =
    let here = c in
    let s = here in
    let g = admitted (checks (is (goal.at.mark_received_from-r-requires c).Start)) _ _ _ (refused (goal.at.mark_received_from-r-requires c).After-source_ok-p _ _ here.in_ok-body_refused_by.ensures) refl in
    (g.whole, g.sound_at, body_le s.args.bytes _ g.passes.content, g.passes.peers)

pub set_clock-requires : goal.set_clock-requires
set_clock-requires c = c.mark_received_from-r.ensures.2.whole

pub returns : goal.returns
returns c =
    let here = c in
    let s = here in
    let p = c.mark_received_from-r in
    lets_in _ _ _ _ _ _ _ _ (taken c.args.words.now c.as_mut_array.result c.as_mut_array.ensures.cases c.ok_or.ensures.value c.in_ok-words.was)
    (lets_step (is (goal.at.returns c).Start) _ _ _ (refused (goal.at.returns c).After-source_ok-p _ _ here.in_ok-body_refused_by.ensures) refl refl _ refl _ 256 s.told-gone (omega arith) refl _ _ _ _ _
    (p.ensures.1, p.ensures.2, p.ensures.3) (p.ensures.0, c.set_clock.ensures))
