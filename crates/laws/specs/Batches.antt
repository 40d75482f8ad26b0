-- Letting go in batches. What resets make of a seat, once all that goes has gone, depends only on its oldest request before and after. Assumes nothing.
use Rattle.std.specs.Prelude.{◌≡◌, Bool, true, false, cond, length, eqb, ltb, Some}
use Rattle.std.proofs.Math.Path.{refl, sym}
use Rattle.std.proofs.Common.{◌∙◌, get_or-set_same}
use Rattle.std.proofs.Math.Logic.{inl, inr}
use mathlib.Core.List.{List, [], ◌∷◌}
use Prim.Native.Nat.{ℕ, zero, suc, ◌+◌, ◌-◌, ◌≤◌, ◌<◌}
use native.Mathlib.Omega.{arith}
use Rattle.std.proofs.Math.ListN.{get_or, length-set}
use Rattle.std.proofs.Math.Seq.{get_or-set_other}
use borrow.Author.Tests.{eqb-true, eqb-false, eq-eqb, le-ltb}
use Rattle.model.specs.Lists.{select}
use Rattle.model.specs.Hash.{key, same}
use Rattle.model.specs.Records.{found, sum}
use Rattle.model.specs.Seats.{oldest, start_reset, body_reset, reset_owner_queue_start}
use Rattle.model.specs.Time.{effective_owner_timeout, owner_download_expired, active}
use Rattle.model.specs.Reasons.{release}
use Rattle.model.specs.Window.{Window, Queue, queue, Step, with_queue, with_frontier}
use Rattle.model.specs.LettingGo.{without, remove_pending, gone, if_gone, total_after, frontier_after, extract, resets, sweep_reason, expire_pending, forecast, forecast_blocks, forecast_bytes}
use Rattle.model.specs.declared.Entry.{Entry}
use Rattle.model.specs.declared.Release.{Release}
use Rattle.laws.specs.Numbers.{both, greater_first}
use Rattle.laws.specs.Bag.{weigh, one, Pick, here, there, pick_weigh}
use Rattle.laws.specs.Entries.{estimate_of, on, with_hash, on_self, by_entry, rising_one, remove_pick, Picks, picks_weigh, owned, early, oldest_none, oldest_first, first_oldest}
use Rattle.laws.specs.Sound.{Seat, Sound}

-- ---- one reset, by what it does to a start

module _ (now : ℕ) where
  still : (t o start : ℕ) → o ≤ start → (o ≡ 0 → start ≡ 0) → ltb t o ≡ false → start_reset now t o start ≡ start
  still t zero start a n l = sym (n refl)
  still t (suc u) start a n l = rw l (elim (both (eqb t (suc u))) [ inl q ↦ rw q (greater_first start (suc u) a) | inr q ↦ rw q ])

  dropped : (t o start : ℕ) → o ≡ 0 → start_reset now t o start ≡ 0
  dropped t zero start z = refl
  dropped t (suc u) start z = absurd (omega arith)

  raised : (t o start : ℕ) → 0 < o → ltb t o ≡ true → start_reset now t o start ≡ suc now
  raised t zero start h l = absurd (omega arith)
  raised t (suc u) start h l = rw l

  stays : (t o start : ℕ) → 0 < o → o ≤ suc now → start ≡ suc now → start_reset now t o start ≡ suc now
  stays t zero start h k e = absurd (omega arith)
  stays t (suc u) start h k e = elim (both (ltb t (suc u))) [
    | inl p ↦ rw p
    | inr p ↦ elim (both (eqb t (suc u))) [ inl q ↦ simp (p, q) (greater_first start (suc u) (omega arith) ∙ e) | inr q ↦ simp (p, q) e ]
  ]

-- ---- all of them, at one seat

module _ (now s : ℕ) where
  abbrev out : Release → Queue → Queue
  out g q = reset_owner_queue_start g.entry.owner g.entry.time now q

  long : (g : Release) (q : Queue) → s < length q.starts → s < length (out g q).starts
  unfolding reset_owner_queue_start
  long g q k = simp length-set k

  long_body : (g : Release) (q : Queue) → s < length q.bodies → s < length (out g q).bodies
  unfolding reset_owner_queue_start
  long_body g q k = simp length-set k

  mine : (g : Release) (q : Queue) → s < length q.starts → eqb g.entry.owner s ≡ true
      → get_or (out g q).starts s 0 ≡ start_reset now (suc g.entry.time) (oldest s q.pending) (get_or q.starts s 0)
  unfolding reset_owner_queue_start
  mine g q k p = let w : g.entry.owner ≡ s = eqb-true g.entry.owner s p in rw w (get_or-set_same q.starts s _ 0 k)

  other : (g : Release) (q : Queue) → eqb g.entry.owner s ≡ false → get_or (out g q).starts s 0 ≡ get_or q.starts s 0
  unfolding reset_owner_queue_start
  other g q p = get_or-set_other q.starts g.entry.owner s _ 0 (λ (w : s ≡ g.entry.owner). eqb-false g.entry.owner s p (sym w))

  my_body : (g : Release) (q : Queue) → s < length q.bodies → eqb g.entry.owner s ≡ true
      → get_or (out g q).bodies s 0 ≡ body_reset (oldest s q.pending) (get_or q.bodies s 0)
  unfolding reset_owner_queue_start
  my_body g q k p = let w : g.entry.owner ≡ s = eqb-true g.entry.owner s p in rw w (get_or-set_same q.bodies s _ 0 k)

  other_body : (g : Release) (q : Queue) → eqb g.entry.owner s ≡ false → get_or (out g q).bodies s 0 ≡ get_or q.bodies s 0
  unfolding reset_owner_queue_start
  other_body g q p = get_or-set_other q.bodies g.entry.owner s _ 0 (λ (w : s ≡ g.entry.owner). eqb-false g.entry.owner s p (sym w))

  -- the two weights at an entry
  not_owned : (e : Entry) → eqb e.owner s ≡ false → owned s e ≡ 0
  unfolding owned
  not_owned e p = rw p

  is_owned : (e : Entry) → eqb e.owner s ≡ true → owned s e ≡ 1
  unfolding owned
  is_owned e p = rw p

  apart : (o : ℕ) (e : Entry) → eqb e.owner s ≡ false → early s o e ≡ 0
  unfolding early
  apart o e p = rw p

  late : (o : ℕ) (e : Entry) → eqb e.owner s ≡ true → ltb (suc e.time) o ≡ false → early s o e ≡ 0
  unfolding early
  late o e p j = simp (p, j)

  not_early : (o : ℕ) (e : Entry) → eqb e.owner s ≡ true → early s o e ≡ 0 → ltb (suc e.time) o ≡ false
  unfolding early
  not_early o e p z = elim (both (ltb (suc e.time) o)) [ inl j ↦ let z' = simp (p, j) at z in absurd (omega arith) | inr j ↦ j ]

  -- none earlier than the oldest left went: as it was
  unmoved : (gs : List Release) (q : Queue) → s < length q.starts → oldest s q.pending ≤ get_or q.starts s 0
      → (oldest s q.pending ≡ 0 → get_or q.starts s 0 ≡ 0) → weigh (by_entry (early s (oldest s q.pending))) gs ≡ 0
      → get_or (resets now gs q).starts s 0 ≡ get_or q.starts s 0
  unfolding resets weigh reset_owner_queue_start
  unmoved [] q k a n z = refl
  unmoved (g ∷ gs) q k a n z = elim (both (eqb g.entry.owner s)) [
    | inl p ↦
        let is : get_or (out g q).starts s 0 ≡ get_or q.starts s 0 =
        mine g q k p ∙ still now (suc g.entry.time) (oldest s q.pending) (get_or q.starts s 0) a n (not_early (oldest s q.pending) g.entry p (omega arith)) in
        unmoved gs (out g q) (long g q k) (rw is a) (λ y. is ∙ n y) (omega arith) ∙ is
    | inr p ↦
        let is : get_or (out g q).starts s 0 ≡ get_or q.starts s 0 = other g q p in
        unmoved gs (out g q) (long g q k) (rw is a) (λ y. is ∙ n y) (omega arith) ∙ is
  ]

  early_zero : (e : Entry) → early s 0 e ≡ 0
  early_zero e = elim (both (eqb e.owner s)) [ inl p ↦ late 0 e p (le-ltb (suc e.time) 0 (omega arith)) | inr p ↦ apart 0 e p ]

  never_early : (gs : List Release) → weigh (by_entry (early s 0)) gs ≡ 0
  unfolding weigh
  never_early [] = refl
  never_early (g ∷ gs) = omega (arith, early_zero g.entry, never_early gs)

  -- none is left: it goes
  ended : (gs : List Release) (q : Queue) → s < length q.starts → oldest s q.pending ≡ 0 → 0 < weigh (by_entry (owned s)) gs
      → get_or (resets now gs q).starts s 0 ≡ 0
  unfolding resets weigh reset_owner_queue_start
  ended [] q k z h = absurd (omega arith)
  ended (g ∷ gs) q k z h = elim (both (eqb g.entry.owner s)) [
    | inl p ↦
        let is : get_or (out g q).starts s 0 ≡ 0 = mine g q k p ∙ dropped now (suc g.entry.time) (oldest s q.pending) (get_or q.starts s 0) z in
        unmoved gs (out g q) (long g q k) (omega arith) (λ y. is) (rw z (never_early gs)) ∙ is
    | inr p ↦ ended gs (out g q) (long g q k) z (omega (arith, not_owned g.entry p))
  ]

  -- a start at the clock stays there while something is left
  topped : (gs : List Release) (q : Queue) → s < length q.starts → 0 < oldest s q.pending → oldest s q.pending ≤ suc now
      → get_or q.starts s 0 ≡ suc now → get_or (resets now gs q).starts s 0 ≡ suc now
  unfolding resets reset_owner_queue_start
  topped [] q k h b e = e
  topped (g ∷ gs) q k h b e = elim (both (eqb g.entry.owner s)) [
    | inl p ↦ topped gs (out g q) (long g q k) h b (mine g q k p ∙ stays now (suc g.entry.time) (oldest s q.pending) (get_or q.starts s 0) h b e)
    | inr p ↦ topped gs (out g q) (long g q k) h b (other g q p ∙ e)
  ]

  -- one earlier than the oldest left went: the clock
  moved : (gs : List Release) (q : Queue) → s < length q.starts → 0 < oldest s q.pending → oldest s q.pending ≤ suc now
      → 0 < weigh (by_entry (early s (oldest s q.pending))) gs → get_or (resets now gs q).starts s 0 ≡ suc now
  unfolding resets weigh reset_owner_queue_start
  moved [] q k h b y = absurd (omega arith)
  moved (g ∷ gs) q k h b y = elim (both (eqb g.entry.owner s)) [
    | inl p ↦ elim (both (ltb (suc g.entry.time) (oldest s q.pending))) [
      | inl j ↦ topped gs (out g q) (long g q k) h b (mine g q k p ∙ raised now (suc g.entry.time) (oldest s q.pending) (get_or q.starts s 0) h j)
      | inr j ↦ moved gs (out g q) (long g q k) h b (omega (arith, late (oldest s q.pending) g.entry p j))
    ]
    | inr p ↦ moved gs (out g q) (long g q k) h b (omega (arith, apart (oldest s q.pending) g.entry p))
  ]

  -- a last body stays while something is left, and where none of the seat went
  body_left : (o b : ℕ) → 0 < o → body_reset o b ≡ b
  body_left zero b h = absurd (omega arith)
  body_left (suc o) b h = refl

  body_none : (o b : ℕ) → o ≡ 0 → body_reset o b ≡ 0
  body_none zero b z = refl
  body_none (suc o) b z = absurd (omega arith)

  body_kept : (gs : List Release) (q : Queue) → s < length q.bodies → 0 < oldest s q.pending → get_or (resets now gs q).bodies s 0 ≡ get_or q.bodies s 0
  unfolding resets reset_owner_queue_start
  body_kept [] q k h = refl
  body_kept (g ∷ gs) q k h = elim (both (eqb g.entry.owner s)) [
    | inl p ↦ body_kept gs (out g q) (long_body g q k) h ∙ my_body g q k p ∙ body_left (oldest s q.pending) (get_or q.bodies s 0) h
    | inr p ↦ body_kept gs (out g q) (long_body g q k) h ∙ other_body g q p
  ]

  body_unowned : (gs : List Release) (q : Queue) → weigh (by_entry (owned s)) gs ≡ 0 → get_or (resets now gs q).bodies s 0 ≡ get_or q.bodies s 0
  unfolding resets weigh reset_owner_queue_start
  body_unowned [] q z = refl
  body_unowned (g ∷ gs) q z = elim (both (eqb g.entry.owner s)) [
    | inl p ↦ absurd (omega (arith, is_owned g.entry p))
    | inr p ↦ body_unowned gs (out g q) (omega arith) ∙ other_body g q p
  ]

  body_zero : (gs : List Release) (q : Queue) → s < length q.bodies → oldest s q.pending ≡ 0 → get_or q.bodies s 0 ≡ 0 → get_or (resets now gs q).bodies s 0 ≡ 0
  unfolding resets reset_owner_queue_start
  body_zero [] q k z e = e
  body_zero (g ∷ gs) q k z e = elim (both (eqb g.entry.owner s)) [
    | inl p ↦ body_zero gs (out g q) (long_body g q k) z (my_body g q k p ∙ body_none (oldest s q.pending) (get_or q.bodies s 0) z)
    | inr p ↦ body_zero gs (out g q) (long_body g q k) z (other_body g q p ∙ e)
  ]

  body_ended : (gs : List Release) (q : Queue) → s < length q.bodies → oldest s q.pending ≡ 0 → 0 < weigh (by_entry (owned s)) gs → get_or (resets now gs q).bodies s 0 ≡ 0
  unfolding resets weigh reset_owner_queue_start
  body_ended [] q k z h = absurd (omega arith)
  body_ended (g ∷ gs) q k z h = elim (both (eqb g.entry.owner s)) [
    | inl p ↦ body_zero gs (out g q) (long_body g q k) z (my_body g q k p ∙ body_none (oldest s q.pending) (get_or q.bodies s 0) z)
    | inr p ↦ body_ended gs (out g q) (long_body g q k) z (omega (arith, not_owned g.entry p))
  ]

-- ---- what a batch makes of a seat, by its oldest request before and after

unfoldable pub start_after : ℕ → ℕ → ℕ → ℕ → ℕ
start_after now before left start = cond (eqb left before) start (cond (eqb left 0) 0 (suc now))

unfoldable pub body_after : ℕ → ℕ → ℕ → ℕ
body_after before left body = cond (eqb left before) body (cond (eqb left 0) 0 body)

module _ {gs : List Release} {l m : List Entry} (p : Picks gs l m) (s : ℕ) where
  -- the oldest left is no earlier than the oldest before, which was there
  pub later_left : 0 < oldest s m → (0 < oldest s l) × (oldest s l ≤ oldest s m)
  later_left h =
      let some : 0 < oldest s l = elim (both (eqb (oldest s l) 0)) [
        | inl x ↦ absurd (omega (arith, (oldest_none s m).1 (omega (arith, picks_weigh (owned s) p, (oldest_none s l).0 (eqb-true (oldest s l) 0 x)))))
        | inr x ↦ omega (arith, eqb-false (oldest s l) 0 x)
      ] in
      (some, first_oldest s (oldest s l) m (omega (arith, picks_weigh (early s (oldest s l)) p, oldest_first s (oldest s l) l (λ g. omega arith))) h)

  -- where both are the same, none earlier went
  none_early : oldest s m ≡ oldest s l → weigh (by_entry (early s (oldest s m))) gs ≡ 0
  none_early e = omega (arith, picks_weigh (early s (oldest s m)) p, oldest_first s (oldest s m) l (λ g. omega arith))

  -- where they differ and none is left, some went
  some_owned : (oldest s m ≡ oldest s l → ⊥) → oldest s m ≡ 0 → 0 < weigh (by_entry (owned s)) gs
  some_owned d z = elim (both (eqb (weigh (by_entry (owned s)) gs) 0)) [
    | inl x ↦ absurd (d (z ∙ sym ((oldest_none s l).1 (omega (arith, eqb-true (weigh (by_entry (owned s)) gs) 0 x, picks_weigh (owned s) p, (oldest_none s m).0 z)))))
    | inr x ↦ omega (arith, eqb-false (weigh (by_entry (owned s)) gs) 0 x)
  ]

  -- where they differ and some is left, an earlier one went
  some_early : (oldest s m ≡ oldest s l → ⊥) → 0 < oldest s m → 0 < weigh (by_entry (early s (oldest s m))) gs
  some_early d h = elim (both (eqb (weigh (by_entry (early s (oldest s m))) gs) 0)) [
    | inl x ↦
        let none : weigh (early s (oldest s m)) l ≡ 0 =
        omega (arith, eqb-true (weigh (by_entry (early s (oldest s m))) gs) 0 x, picks_weigh (early s (oldest s m)) p, oldest_first s (oldest s m) m (λ g. omega arith)) in
        absurd (d (omega (arith, later_left h, first_oldest s (oldest s m) l none (later_left h).0)))
    | inr x ↦ omega (arith, eqb-false (weigh (by_entry (early s (oldest s m))) gs) 0 x)
  ]

  pub start_is : (now total : ℕ) (ss bs : List ℕ) → s < length ss → oldest s m ≤ suc now → Seat (oldest s l) (get_or ss s 0) (suc now)
      → get_or (resets now gs (queue total m ss bs)).starts s 0 ≡ start_after now (oldest s l) (oldest s m) (get_or ss s 0)
  unfolding start_after
  start_is now total ss bs k b u =
      let q : Queue = queue total m ss bs in
      elim (both (eqb (oldest s m) (oldest s l))) [
        | inl e ↦ let w = eqb-true (oldest s m) (oldest s l) e in
            rw e (unmoved now s gs q k (omega (arith, u.above)) (λ y. u.none (omega arith)) (none_early w))
        | inr e ↦ let d = eqb-false (oldest s m) (oldest s l) e in
            elim (both (eqb (oldest s m) 0)) [
              | inl z ↦ let y = eqb-true (oldest s m) 0 z in simp (e, z) (ended now s gs q k y (some_owned d y))
              | inr z ↦ let y : 0 < oldest s m = omega (arith, eqb-false (oldest s m) 0 z) in simp (e, z) (moved now s gs q k y b (some_early d y))
            ]
      ]

  pub body_is : (now total : ℕ) (ss bs : List ℕ) → s < length bs
      → get_or (resets now gs (queue total m ss bs)).bodies s 0 ≡ body_after (oldest s l) (oldest s m) (get_or bs s 0)
  unfolding body_after
  body_is now total ss bs k =
      let q : Queue = queue total m ss bs in
      elim (both (eqb (oldest s m) 0)) [
        | inl z ↦ let y = eqb-true (oldest s m) 0 z in
            elim (both (eqb (oldest s m) (oldest s l))) [
              | inl e ↦ let w = eqb-true (oldest s m) (oldest s l) e in
                  rw e (body_unowned now s gs q (omega (arith, picks_weigh (owned s) p, (oldest_none s l).0 (omega arith))))
              | inr e ↦ simp (e, z) (body_ended now s gs q k y (some_owned (eqb-false (oldest s m) (oldest s l) e) y))
            ]
        | inr z ↦ let y : 0 < oldest s m = omega (arith, eqb-false (oldest s m) 0 z) in
            body_kept now s gs q k y ∙ sym (elim (both (eqb (oldest s m) (oldest s l))) [ inl e ↦ rw e | inr e ↦ simp (e, z) ])
      ]

-- entries go, and each resets its owner's start
abbrev pub outs : ℕ → List Release → List Entry → Queue → Queue
outs now gs m q = resets now gs (queue (total_after gs q.total) m q.starts q.bodies)

-- ---- retirement

abbrev pub retired : Entry → Release
retired e = release e 5

-- entries go out of a window
abbrev pub let_out : ℕ → List Release → List Entry → Window → Step
let_out now gs m w = record { window = with_frontier (frontier_after gs w.frontier) (with_queue (outs now gs m w.queue) w); gone = gs }

found_pick : {e : Entry} {l m : List Entry} → with_hash (key e.hash) l ≤ 1 → Pick e l m → found e.hash l ≡ Some e
unfolding found weigh same
found_pick {e} b here = rw (eq-eqb (key e.hash) (key e.hash) refl)
found_pick {e} b (there {x = x} p) = elim (both (eqb (key x.hash) (key e.hash))) [
  | inl q ↦ absurd (omega (arith, pick_weigh (on (key e.hash) one) p, on_self (key e.hash) one e refl, on_self (key e.hash) one x (eqb-true (key x.hash) (key e.hash) q)))
  | inr q ↦ rw q (found_pick (omega arith) p)
]

-- the single step is the batch of one
pub remove_is : (now r : ℕ) (e : Entry) (m : List Entry) (w : Window) → Pick e w.queue.pending m → Sound now w
    → remove_pending e.hash r now w ≡ let_out now (release e r ∷ []) m w
unfolding remove_pending resets total_after frontier_after without
remove_is now r e m w p g =
    let once = rising_one 0 w.queue.pending (key e.hash) g.queue.rising in
    rw (found_pick once p, remove_pick once p)

-- an entry below the height goes
unfoldable pub retire_reason : ℕ → Entry → ℕ
retire_reason height e = cond (ltb e.height height) 5 0

-- all out, then one reset for each
abbrev pub batch : ℕ → Step → Step
batch now s = record { window = with_queue (resets now s.gone s.window.queue) s.window; gone = s.gone }

-- ---- the forecast is at most the sweep

module _ (p : Entry → Bool) (goes : Entry → ℕ) (f : (e : Entry) → p e ≡ true → 0 < goes e) where
  abbrev bytes : List Release → ℕ
  bytes gs = weigh (by_entry estimate_of) gs

  more_gone : (r : ℕ) (e : Entry) (gs : List Release) → (length gs ≤ length (if_gone r e gs)) × (bytes gs ≤ bytes (if_gone r e gs))
  unfolding weigh
  more_gone zero e gs = (omega arith, omega arith)
  more_gone (suc r) e gs = (omega arith, omega arith)

  one_gone : (r : ℕ) (e : Entry) (gs : List Release) → 0 < r → (length (if_gone r e gs) ≡ suc (length gs)) × (bytes (if_gone r e gs) ≡ e.estimate + bytes gs)
  unfolding weigh
  one_gone zero e gs h = absurd (omega arith)
  one_gone (suc r) e gs h = (refl, refl)

  selected_gone : (l : List Entry) → (length (select p l) ≤ length (gone goes l)) × (sum (select p l) ≤ bytes (gone goes l))
  unfolding select gone sum weigh
  selected_gone [] = (omega arith, omega arith)
  selected_gone (e ∷ l) = elim (both (p e)) [
    | inl q ↦ rw q (omega (arith, one_gone (goes e) e (gone goes l) (f e q), selected_gone l))
    | inr q ↦ rw q (omega (arith, more_gone (goes e) e (gone goes l), selected_gone l))
  ]

expired_goes : (now : ℕ) (w : Window) (e : Entry) → owner_download_expired e.owner (active w) now w ≡ true → 0 < sweep_reason now (effective_owner_timeout (active w) w) w e
unfolding owner_download_expired sweep_reason
expired_goes now w e q = rw q (omega arith)

-- for every window and clock
pub forecast_most : (now : ℕ) (w : Window)
    → (forecast_blocks now w ≤ length (expire_pending now w).gone) × (forecast_bytes now w ≤ weigh (by_entry estimate_of) (expire_pending now w).gone)
unfolding forecast_blocks forecast_bytes forecast expire_pending extract
forecast_most now w =
    selected_gone (λ e. owner_download_expired e.owner (active w) now w) (sweep_reason now (effective_owner_timeout (active w) w) w) (expired_goes now w) w.queue.pending
