-- Retirement one by one is a batch: all out first, then one reset for each. Assumes nothing.
use Rattle.std.specs.Prelude.{◌≡◌, false, eqb, ltb}
use Rattle.std.proofs.Math.Path.{refl, sym}
use Rattle.std.proofs.Common.{ap, ◌∙◌, subst, ext_get_or}
use Rattle.std.proofs.Math.Logic.{inl, inr}
use mathlib.Core.List.{List, [], ◌∷◌, map}
use Prim.Native.Nat.{ℕ, suc, ◌-◌, ◌≤◌, ◌<◌}
use native.Mathlib.Omega.{arith}
use Rattle.std.proofs.Math.ListN.{get_or}
use borrow.Author.Tests.{eqb-true, eqb-false, eq-eqb, ne_eqb}
use Rattle.model.specs.Lists.{select}
use Rattle.model.specs.Seats.{oldest, reset_owner_queue_start}
use Rattle.model.specs.Window.{Window, Queue, queue, Step, and_then, with_queue, with_frontier}
use Rattle.model.specs.LettingGo.{retire_all, retire_before, gone, kept, total_after, frontier_after, extract, resets}
use Rattle.model.specs.declared.Entry.{Entry}
use Rattle.model.specs.declared.Release.{Release}
use Rattle.laws.specs.Numbers.{both, cond_same}
use Rattle.laws.specs.Bag.{one, Pick}
use Rattle.laws.specs.Entries.{Picks, done, more, sift, each_picks}
use Rattle.laws.specs.Sound.{InRange, SoundQueue, Sound}
use Rattle.laws.specs.Queues.{oldest_top, resets_pending, resets_total, queue_outs}
use Rattle.laws.proofs.Lets.{remove_lets}
use Rattle.laws.specs.Batches.{start_after, body_after, later_left, start_is, body_is, outs, retired, let_out, remove_is, retire_reason, batch}

-- a batch after another is the batch of both
start_twice : (now a b c start : ℕ) → (0 < b → (0 < a) × (a ≤ b)) → (0 < c → (0 < b) × (b ≤ c))
    → start_after now b c (start_after now a b start) ≡ start_after now a c start
unfolding start_after
start_twice now a b c start f g = elim (both (eqb c b)) [
  | inl q ↦ rw (eqb-true c b q, eq-eqb b b refl)
  | inr q ↦
      let d = eqb-false c b q in
      let n : eqb c a ≡ false = ne_eqb c a (λ e. elim (both (eqb c 0)) [
        | inl z ↦ let y = eqb-true c 0 z in elim (both (eqb b 0)) [
          | inl x ↦ d (y ∙ sym (eqb-true b 0 x))
          | inr x ↦ absurd (omega (arith, f (omega (arith, eqb-false b 0 x))))
        ]
        | inr z ↦ let u = g (omega (arith, eqb-false c 0 z)) in d (omega (arith, f u.0))
      ]) in
      simp (q, n)
]

body_twice : (a b c body : ℕ) → (0 < b → (0 < a) × (a ≤ b)) → (0 < c → (0 < b) × (b ≤ c)) → body_after b c (body_after a b body) ≡ body_after a c body
unfolding body_after
body_twice a b c body f g = elim (both (eqb c b)) [
  | inl q ↦ rw (eqb-true c b q, eq-eqb b b refl)
  | inr q ↦ elim (both (eqb c 0)) [
    | inl z ↦
        let y = eqb-true c 0 z in
        let n : eqb c a ≡ false = ne_eqb c a (λ e. elim (both (eqb b 0)) [
          | inl x ↦ eqb-false c b q (y ∙ sym (eqb-true b 0 x))
          | inr x ↦ absurd (omega (arith, f (omega (arith, eqb-false b 0 x))))
        ]) in
        simp (q, z, n)
    | inr z ↦
        let u = g (omega (arith, eqb-false c 0 z)) in
        let x : eqb b 0 ≡ false = ne_eqb b 0 (λ e. absurd (omega arith)) in
        simp (q, z, x) (cond_same (eqb b a) body ∙ sym (cond_same (eqb c a) body))
  ]
]

outs_more : (now : ℕ) (g : Release) (gs : List Release) (m₁ m : List Entry) (q : Queue) → Pick g.entry q.pending m₁ → Picks gs m₁ m → SoundQueue now q
    → SoundQueue now (outs now (g ∷ []) m₁ q) → outs now gs m (outs now (g ∷ []) m₁ q) ≡ outs now (g ∷ gs) m q
unfolding resets total_after reset_owner_queue_start
outs_more now g gs m₁ m q p ps h h₁ =
    let q₁ = outs now (g ∷ []) m₁ q in
    let one = more {g = g} p done in
    let all = more {g = g} p ps in
    let T = total_after gs (q.total - g.entry.estimate) in
    let a : SoundQueue now (outs now gs m q₁) = queue_outs ps h₁ in
    let b : SoundQueue now (outs now (g ∷ gs) m q) = queue_outs all h in
    let each = each_picks (InRange now) all h.each in
    let top : (s : ℕ) → oldest s m ≤ suc now = λ s. oldest_top s now m each in
    let starts : (outs now gs m q₁).starts ≡ (outs now (g ∷ gs) m q).starts =
    ext_get_or 0 (outs now gs m q₁).starts (outs now (g ∷ gs) m q).starts (a.seats ∙ sym b.seats) (λ s k.
    let k' : s < 256 = omega (arith, a.seats) in
    start_is ps s now T q₁.starts q₁.bodies (omega (arith, h₁.seats)) (top s) (h₁.starts s k')
    ∙ ap (start_after now (oldest s m₁) (oldest s m)) (start_is one s now (q.total - g.entry.estimate) q.starts q.bodies (omega (arith, h.seats)) (oldest_top s now m₁ h₁.each) (h.starts s k'))
    ∙ start_twice now (oldest s q.pending) (oldest s m₁) (oldest s m) (get_or q.starts s 0) (later_left one s) (later_left ps s)
    ∙ sym (start_is all s now T q.starts q.bodies (omega (arith, h.seats)) (top s) (h.starts s k'))) in
    let bodies : (outs now gs m q₁).bodies ≡ (outs now (g ∷ gs) m q).bodies =
    ext_get_or 0 (outs now gs m q₁).bodies (outs now (g ∷ gs) m q).bodies (a.bodies.places ∙ sym b.bodies.places) (λ s k.
    let k' : s < 256 = omega (arith, a.bodies.places) in
    body_is ps s now T q₁.starts q₁.bodies (omega (arith, h₁.bodies.places))
    ∙ ap (body_after (oldest s m₁) (oldest s m)) (body_is one s now (q.total - g.entry.estimate) q.starts q.bodies (omega (arith, h.bodies.places)))
    ∙ body_twice (oldest s q.pending) (oldest s m₁) (oldest s m) (get_or q.bodies s 0) (later_left one s) (later_left ps s)
    ∙ sym (body_is all s now T q.starts q.bodies (omega (arith, h.bodies.places)))) in
    let total : (outs now gs m q₁).total ≡ (outs now (g ∷ gs) m q).total = resets_total now gs _ ∙ sym (resets_total now (g ∷ gs) (queue T m q.starts q.bodies)) in
    let pending : (outs now gs m q₁).pending ≡ (outs now (g ∷ gs) m q).pending = resets_pending now gs _ ∙ sym (resets_pending now (g ∷ gs) (queue T m q.starts q.bodies)) in
    λ i. queue (total i) (pending i) (starts i) (bodies i)

retire_all_is : (now : ℕ) (es : List Entry) (m : List Entry) (w : Window) → Picks (map retired es) w.queue.pending m → Sound now w
    → retire_all es now w ≡ let_out now (map retired es) m w
unfolding retire_all resets reset_owner_queue_start total_after frontier_after
retire_all_is now [] m w done g = refl
retire_all_is now (e ∷ es) m w (more {m = m₁} p ps) g =
    let is = remove_is now 5 e m₁ w p g in
    let w₁ = (let_out now (retired e ∷ []) m₁ w).window in
    let g₁ : Sound now w₁ = subst (λ (s : Step). Sound now s.window) is (remove_lets e.hash 5 g).sound in
    ap (λ (s : Step). and_then s (retire_all es now)) is
    ∙ ap (λ (s : Step). record { window = s.window; gone = retired e ∷ s.gone }) (retire_all_is now es m w₁ ps g₁)
    ∙ ap (λ (q : Queue). record { window = with_frontier (frontier_after (map retired (e ∷ es)) w.frontier) (with_queue q w); gone = map retired (e ∷ es) })
    (outs_more now (retired e) (map retired es) m₁ m w.queue p ps g.queue g₁.queue)

gone_retired : (height : ℕ) (l : List Entry) → gone (retire_reason height) l ≡ map retired (select (λ e. ltb e.height height) l)
unfolding gone select retire_reason
gone_retired height [] = refl
gone_retired height (e ∷ l) = elim (both (ltb e.height height)) [
  | inl q ↦ rw q (ap (λ (gs : List Release). retired e ∷ gs) (gone_retired height l))
  | inr q ↦ rw q (gone_retired height l)
]

-- RETIREMENT ONE BY ONE IS A BATCH
pub retire_is : (height now : ℕ) (w : Window) → Sound now w → retire_before height now w ≡ batch now (extract (retire_reason height) w)
unfolding retire_before extract
retire_is height now w g =
    let l = w.queue.pending in
    let es = select (λ e. ltb e.height height) l in
    let z = gone_retired height l in
    retire_all_is now es (kept (retire_reason height) l) w (rw z at (sift (retire_reason height) l)) g ∙ ap (λ (gs : List Release). let_out now gs (kept (retire_reason height) l) w) (sym z)
