-- The resets after a batch, on tables and windows. Definitions, and what they are to the model's. Assumes nothing.
use Rattle.std.specs.Prelude.{◌≡◌, refl, List, [], ◌∷◌, ◌++◌, length, get_or, set, eqb}
use Rattle.std.proofs.Common.{sym, ap, ◌∙◌, inl, inr, not-suc-le-zero, length-set, get_or-set_same, get_or-set_other, eqb-true}
use Prim.Native.Nat.{ℕ, zero, suc, ◌+◌, ◌≤◌, ◌<◌}
use native.Mathlib.Omega.{arith}
use Rattle.std.proofs.lemmas.Bool.{eqb-false}
use Rattle.model.specs.Numbers.{lesser}
use Rattle.model.specs.Seats.{sooner, oldest, start_reset, body_reset, reset_owner_queue_start}
use Rattle.model.specs.LettingGo.{if_gone, resets}
use Rattle.model.specs.Window.{Window, Queue, queue, with_queue}
use Rattle.model.specs.Layout.{Table, decode, read, table, window_of, head_words, counts_words, small_words}
use Rattle.model.specs.declared.Entry.{Entry}
use Rattle.model.specs.declared.Release.{Release}
use Rattle.laws.specs.Numbers.{both}
use Rattle.laws.specs.Entries.{Each}
use Rattle.laws.specs.Tables.{with_starts, with_bodies}
use Rattle.laws.specs.Queues.{resets_pending, resets_total}
use Rattle.laws.specs.Marks.{gone_by}
use Rattle.laws.specs.Whole.{Shape, Shaped, Whole, Holds, lifted, words_shaped}
use Rattle.laws.specs.Tables.{seat_reset}
use Rattle.report_words.specs.Report.{release_at, releases_of, resets_more}

-- ---- a table of each seat's oldest request

abbrev pub Oldests : List ℕ → List Entry → Type 0
Oldests t l = (s : ℕ) → s < 256 → get_or t s 0 ≡ oldest s l

pub sooner_some : (t u : ℕ) → (u ≡ 0 → ⊥) → sooner t u ≡ lesser t u
sooner_some t zero n = absurd (n refl)
sooner_some t (suc u) n = refl

-- one more entry
pub oldests_more : (t : List ℕ) (e : Entry) (l : List Entry) (v : ℕ) → length t ≡ 256 → e.owner < 256 → v ≡ sooner (suc e.time) (get_or t e.owner 0)
    → Oldests t l → Oldests (set t e.owner v) (e ∷ l)
unfolding oldest
oldests_more t e l v n b q f s h = elim (both (eqb e.owner s)) [
  | inl p ↦
      let w = eqb-true e.owner s p in
      rw p (ap (λ (k : ℕ). get_or (set t e.owner v) k 0) (sym w) ∙ get_or-set_same t e.owner v 0 (omega arith) ∙ q
      ∙ ap (sooner (suc e.time)) (ap (λ (k : ℕ). get_or t k 0) w ∙ f s h))
  | inr p ↦ rw p (get_or-set_other t e.owner s v 0 (λ (w : s ≡ e.owner). eqb-false e.owner s p (sym w)) ∙ f s h)
]

-- ---- a fact of every entry that went

module _ (P : Entry → Type 0) where
  abbrev pub Went : List Release → Type 0
  Went [] = Unit {0}
  Went (g ∷ gs) = P g.entry × Went gs

  went_before : (gs : List Release) (g : Release) → Went (gs ++ (g ∷ [])) → Went gs
  went_before [] g a = tt
  went_before (x ∷ gs) g a = (a.0, went_before gs g a.1)

  went_last : (gs : List Release) (g : Release) → Went (gs ++ (g ∷ [])) → P g.entry
  went_last [] g a = a.0
  went_last (x ∷ gs) g a = went_last gs g a.1

  pub went_at : (n d i : ℕ) (core : List ℕ) → d + suc i ≡ n → Went (releases_of n core) → P (release_at core i).entry
  unfolding releases_of
  went_at zero d i core h a = absurd (omega arith)
  went_at (suc n) zero i core h a = let e : n ≡ i = omega arith in rw e at (went_last (releases_of n core) (release_at core n) a)
  went_at (suc n) (suc d) i core h a = went_at n d i core (omega arith) (went_before (releases_of n core) (release_at core n) a)

  went_one : (m : ℕ) (e : Entry) (gs : List Release) → P e → Went gs → Went (if_gone m e gs)
  went_one zero e gs p a = a
  went_one (suc m) e gs p a = (p, a)

  pub went_by : (ms : List ℕ) (l : List Entry) → Each P l → Went (gone_by ms l)
  went_by [] l a = tt
  went_by (m ∷ ms) [] a = tt
  went_by (m ∷ ms) (e ∷ l) a = went_one m e (gone_by ms l) a.0 (went_by ms l a.1)

-- ---- starts and last bodies of a queue, in a table

unfoldable pub seats_of : Queue → Table → Table
seats_of q t = with_bodies q.bodies (with_starts q.starts t)

pub seats_own : (ws : List ℕ) → decode ws ≡ seats_of (window_of ws).queue (decode ws)
unfolding seats_of with_bodies with_starts window_of read
seats_own ws = refl

pub seats_reset : (o r now old : ℕ) (q : Queue) (t : Table) → old ≡ oldest o q.pending
    → seat_reset o r now old (seats_of q t) ≡ seats_of (reset_owner_queue_start o r now q) t
unfolding seat_reset seats_of with_bodies with_starts reset_owner_queue_start
seats_reset o r now old q t e =
    ap (λ (x : ℕ). with_bodies (set q.bodies o (body_reset x (get_or q.bodies o 0))) (with_starts (set q.starts o (start_reset now (suc r) x (get_or q.starts o 0))) t)) e

-- one more reset of the first i releases
pub reset_turn : (now i old : ℕ) (core : List ℕ) (q : Queue) (t t₁ t₂ : Table) → t₁ ≡ seats_of (resets now (releases_of i core) q) t
    → old ≡ oldest (release_at core i).entry.owner q.pending → t₂ ≡ seat_reset (release_at core i).entry.owner (release_at core i).entry.time now old t₁
    → t₂ ≡ seats_of (resets now (releases_of (suc i) core) q) t
unfolding releases_of
reset_turn now i old core q t t₁ t₂ was old_is is =
    let g = release_at core i in
    let gs = releases_of i core in
    is ∙ ap (seat_reset g.entry.owner g.entry.time now old) was
    ∙ seats_reset g.entry.owner g.entry.time now old (resets now gs q) t (old_is ∙ ap (oldest g.entry.owner) (sym (resets_pending now gs q)))
    ∙ ap (λ (x : Queue). seats_of x t) (sym (resets_more now gs g q))

-- ---- in a window

resets_long : (now : ℕ) (gs : List Release) (q : Queue) → (length (resets now gs q).starts ≡ length q.starts) × (length (resets now gs q).bodies ≡ length q.bodies)
unfolding resets reset_owner_queue_start
resets_long now [] q = (refl, refl)
resets_long now (g ∷ gs) q =
    let r = resets_long now gs (reset_owner_queue_start g.entry.owner g.entry.time now q) in
    (r.0 ∙ simp length-set, r.1 ∙ simp length-set)

seats_in : (now : ℕ) (gs : List Release) (w : Window) → seats_of (resets now gs w.queue) (table w) ≡ table (with_queue (resets now gs w.queue) w)
unfolding seats_of with_bodies with_starts table head_words counts_words small_words
seats_in now gs w =
    let q = resets now gs w.queue in
    λ i. table (with_queue (queue (sym (resets_total now gs w.queue) i) (sym (resets_pending now gs w.queue) i) q.starts q.bodies) w)

-- words of which only these changed
pub resets_hold : (now : ℕ) (gs : List Release) (ws ws' : List ℕ) → Whole ws → length ws' ≡ length ws → decode ws' ≡ seats_of (resets now gs (window_of ws).queue) (decode ws)
    → Holds (with_queue (resets now gs (window_of ws).queue) (window_of ws)) ws'
resets_hold now gs ws ws' h n e =
    let w = window_of ws in
    let s = words_shaped ws h.long in
    let long = resets_long now gs w.queue in
    lifted ws ws' (seats_of (resets now gs w.queue)) (with_queue (resets now gs w.queue) w) h n e (seats_in now gs w) (record {
      few = rw (resets_pending now gs w.queue) s.few;
      starts = long.0 ∙ s.starts;
      bodies = long.1 ∙ s.bodies;
      keys = s.keys;
      cooling = s.cooling;
      racers = s.racers;
      hedged = s.hedged;
      planned = s.planned;
    })
