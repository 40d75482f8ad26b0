-- `seats::reset_owner_queue_start` meets its contract. Assumes nothing.
use mathlib.Core.Path.{◌≡◌, ap, ◌∙◌}
use Prim.Native.Nat.{ℕ, suc}
use lib.ListN.{get_or, set}
use Rattle.model.specs.Seats.{start_reset, body_reset}
use Rattle.model.specs.Layout.{Table, decode}
use Rattle.laws.specs.Tables.{with_starts, with_bodies}
use Rattle.records.specs.Places.{stored}
use Rattle.laws.specs.Tables.{seat_reset}
use Rattle.seats.proofs.reset_owner_queue_start.Goals as goal

both : (owner s b : ℕ) (t t₁ t₂ : Table) → t₁ ≡ with_starts (set t.starts owner s) t → t₂ ≡ with_bodies (set t₁.bodies owner b) t₁
    → t₂ ≡ with_bodies (set t.bodies owner b) (with_starts (set t.starts owner s) t)
unfolding with_starts
both owner s b t t₁ t₂ p q = q ∙ ap (λ (x : Table). with_bodies (set x.bodies owner b) x) p

pub returns : goal.returns
unfolding seat_reset
returns c =
    let a = c.args in
    let o = a.owner in
    let t = decode a.words.now in
    let s : c.start_reset-s.result ≡ start_reset a.clock (suc a.removed) (stored a.left) (get_or t.starts o 0) =
    c.start_reset-s.ensures ∙ ap (start_reset a.clock (suc a.removed) (stored a.left)) c.start_of-start.ensures in
    let b : c.body_reset-b.result ≡ body_reset (stored a.left) (get_or t.bodies o 0) =
    c.body_reset-b.ensures ∙ ap (body_reset (stored a.left)) c.body_of-body.ensures in
    both o c.start_reset-s.result c.body_reset-b.result t _ _ c.set_start.ensures c.set_body.ensures
    ∙ (λ i. with_bodies (set t.bodies o (b i)) (with_starts (set t.starts o (s i)) t))
