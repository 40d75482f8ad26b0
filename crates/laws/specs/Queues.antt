-- The queue stays sound: entries go with their owners' starts reset, seats go whole, a request's entries come in. Assumes nothing.
use Rattle.std.specs.Prelude.{◌≡◌, Bool, true, false, cond, ℕ, zero, suc, ◌+◌, ◌-◌, ◌≤◌, ◌<◌, eqb, ltb}
use Rattle.std.proofs.Math.Path.{refl}
use Rattle.std.proofs.Common.{sym, ap, ◌∙◌, zero-add, arith, get_or-set_same}
use Rattle.std.proofs.Math.Logic.{inl, inr}
use mathlib.Core.List.{List, [], ◌∷◌}
use Rattle.std.proofs.Math.ListN.{length, get_or, length-set}
use Rattle.std.proofs.Math.Seq.{get_or-set_other}
use borrow.Author.Tests.{eqb-true, eqb-false, ltb-false, le-ltb}
use Rattle.model.specs.Records.{sum}
use Rattle.model.specs.Seats.{oldest, start_reset, body_reset, reset_owner_queue_start, keep_seats}
use Rattle.model.specs.Window.{Queue, HighWater, queue}
use Rattle.model.specs.LettingGo.{total_after, resets, gone, kept, lost_reason}
use Rattle.model.specs.declared.Entry.{Entry}
use Rattle.model.specs.declared.Release.{Release}
use Rattle.laws.specs.Numbers.{both, second_le_greater, greater_le}
use Rattle.laws.specs.Bag.{weigh, one, weigh_one}
use Rattle.laws.specs.Entries.{estimate_of, sum_weigh, by_entry, Picks, picks_weigh, picks_rising, sift, Each, each_picks, owned, early, oldest_none, oldest_first, first_oldest, sooner_le, with_time}
use Rattle.laws.specs.Sound.{Bounded, InRange, Seat, SoundQueue, NoLower}
use Rattle.laws.specs.Parts.{bounded_set, bounded_keep, get_or_keep, length_keep}

-- ---- the oldest time of sound entries is at most the clock

pub oldest_top : (s c : ℕ) (l : List Entry) → Each (InRange c) l → oldest s l ≤ suc c
unfolding oldest
oldest_top s c [] a = omega arith
oldest_top s c (e ∷ l) a = elim (both (eqb e.owner s)) [
  | inl q ↦ rw q (omega (arith, (sooner_le (suc e.time) (oldest s l)).0, a.0.time))
  | inr q ↦ rw q (oldest_top s c l a.1)
]

-- ---- resets

module _ (now : ℕ) where
  pub resets_pending : (gs : List Release) (q : Queue) → (resets now gs q).pending ≡ q.pending
  unfolding resets reset_owner_queue_start
  resets_pending [] q = refl
  resets_pending (g ∷ gs) q = resets_pending gs (reset_owner_queue_start g.entry.owner g.entry.time now q)

  pub resets_total : (gs : List Release) (q : Queue) → (resets now gs q).total ≡ q.total
  unfolding resets reset_owner_queue_start
  resets_total [] q = refl
  resets_total (g ∷ gs) q = resets_total gs (reset_owner_queue_start g.entry.owner g.entry.time now q)

  resets_seats : (gs : List Release) (q : Queue) → length (resets now gs q).starts ≡ length q.starts
  unfolding resets reset_owner_queue_start
  resets_seats [] q = refl
  resets_seats (g ∷ gs) q = resets_seats gs (reset_owner_queue_start g.entry.owner g.entry.time now q) ∙ simp length-set

  body_le : (o b : ℕ) → body_reset o b ≤ b
  body_le zero b = omega arith
  body_le (suc o) b = omega arith

  resets_bodies : (b : ℕ) (gs : List Release) (q : Queue) → Bounded b q.bodies → Bounded b (resets now gs q).bodies
  unfolding resets reset_owner_queue_start
  resets_bodies b [] q h = h
  resets_bodies b (g ∷ gs) q h =
      resets_bodies b gs (reset_owner_queue_start g.entry.owner g.entry.time now q)
      (bounded_set g.entry.owner (body_reset (oldest g.entry.owner q.pending) (get_or q.bodies g.entry.owner 0))
      (omega (arith, body_le (oldest g.entry.owner q.pending) (get_or q.bodies g.entry.owner 0), h.most g.entry.owner)) h)

  -- what one reset makes of a start: at most the clock; 0 where nothing is left; no earlier than the oldest if an earlier entry went or it was so
  reset_le : (t o start : ℕ) → o ≤ suc now → start ≤ suc now → start_reset now t o start ≤ suc now
  reset_le t zero start a b = omega arith
  reset_le t (suc u) start a b = elim (both (ltb t (suc u))) [
    | inl p ↦ rw p (omega arith)
    | inr p ↦ elim (both (eqb t (suc u))) [ inl q ↦ simp (p, q) (greater_le start (suc u) (suc now) b a) | inr q ↦ simp (p, q) b ]
  ]

  reset_none : (t o start : ℕ) → o ≡ 0 → start_reset now t o start ≡ 0
  reset_none t zero start z = refl
  reset_none t (suc u) start z = absurd (omega arith)

  reset_above : (t o start : ℕ) → o ≤ suc now → (o ≤ t → o ≤ start) → o ≤ start_reset now t o start
  reset_above t zero start a f = omega arith
  reset_above t (suc u) start a f = elim (both (ltb t (suc u))) [
    | inl p ↦ rw p a
    | inr p ↦ elim (both (eqb t (suc u))) [
      | inl q ↦ simp (p, q) (second_le_greater start (suc u))
      | inr q ↦ simp (p, q) (f (ltb-false t (suc u) p))
    ]
  ]

  -- all of them, at the seat s; `o` is the oldest that is left
  resets_seat : (s : ℕ) (gs : List Release) (q : Queue) → s < length q.starts → oldest s q.pending ≤ suc now → get_or q.starts s 0 ≤ suc now
      → (weigh (by_entry (owned s)) gs ≡ 0 → oldest s q.pending ≡ 0 → get_or q.starts s 0 ≡ 0)
      → (weigh (by_entry (early s (oldest s q.pending))) gs ≡ 0 → oldest s q.pending ≤ get_or q.starts s 0)
      → Seat (oldest s q.pending) (get_or (resets now gs q).starts s 0) (suc now)
  unfolding resets reset_owner_queue_start weigh owned early
  resets_seat s [] q k a b n f = record { none = n refl; above = f refl; below = b }
  resets_seat s (g ∷ gs) q k a b n f =
      let e = g.entry in
      let o = oldest s q.pending in
      let start = get_or q.starts s 0 in
      let q' = reset_owner_queue_start e.owner e.time now q in
      let k' : s < length q'.starts = simp length-set k in
      elim (both (eqb e.owner s)) [
        | inl p ↦
            let w : e.owner ≡ s = eqb-true e.owner s p in
            let is : get_or q'.starts s 0 ≡ start_reset now (suc e.time) o start = rw w (get_or-set_same q.starts s _ 0 k) in
            resets_seat s gs q' k' a (rw is (reset_le (suc e.time) o start a b)) (λ z y. rw is (reset_none (suc e.time) o start y))
            (λ z. rw is (reset_above (suc e.time) o start a (λ h. f (simp (p, le-ltb (suc e.time) o h) (omega arith)))))
        | inr p ↦
            let is : get_or q'.starts s 0 ≡ start = get_or-set_other q.starts e.owner s _ 0 (λ (w : s ≡ e.owner). eqb-false e.owner s p (sym w)) in
            resets_seat s gs q' k' a (rw is b) (λ z y. rw is (n (rw p (omega arith)) y)) (λ z. rw is (f (rw p (omega arith))))
      ]

-- ---- the total

pub total_is : (gs : List Release) (n m : ℕ) → n ≡ weigh (by_entry estimate_of) gs + m → total_after gs n ≡ m
unfolding total_after weigh
total_is [] n m h = omega arith
total_is (g ∷ gs) n m h = total_is gs (n - g.entry.estimate) m (omega arith)

after_le : (gs : List Release) (n : ℕ) → total_after gs n ≤ n
unfolding total_after
after_le [] n = omega arith
after_le (g ∷ gs) n = omega (arith, after_le gs (n - g.entry.estimate))

-- ---- entries go, and each resets its owner's start

-- the queue after gs went and m is left
abbrev pub after_outs : ℕ → List Release → List Entry → Queue → Queue
after_outs c gs m q = resets c gs (queue (total_after gs q.total) m q.starts q.bodies)

module _ {c : ℕ} {q : Queue} {gs : List Release} {m : List Entry} (p : Picks gs q.pending m) (h : SoundQueue c q) where
  -- a start is no earlier than the oldest that is left, and gone where none is left
  outs_seat : (s : ℕ) → s < 256 → Seat (oldest s m) (get_or (after_outs c gs m q).starts s 0) (suc c)
  outs_seat s k =
      let l = q.pending in
      let u = h.starts s k in
      let o = oldest s m in
      resets_seat c s gs _ (omega (arith, h.seats)) (oldest_top s c m (each_picks (InRange c) p h.each)) u.below
      (λ z y. u.none ((oldest_none s l).1 (omega (arith, picks_weigh (owned s) p, (oldest_none s m).0 y))))
      (λ z. elim (both (eqb o 0)) [
        | inl y ↦ omega (arith, eqb-true o 0 y)
        | inr y ↦
            let none : weigh (early s o) l ≡ 0 = omega (arith, picks_weigh (early s o) p, oldest_first s o m (λ g. omega arith)) in
            let some : 0 < oldest s l = elim (both (eqb (oldest s l) 0)) [
              | inl x ↦ absurd (eqb-false o 0 y ((oldest_none s m).1 (omega (arith, picks_weigh (owned s) p, (oldest_none s l).0 (eqb-true (oldest s l) 0 x)))))
              | inr x ↦ omega (arith, eqb-false (oldest s l) 0 x)
            ] in
            omega (arith, first_oldest s o l none some, u.above)
      ])

  -- the total is the sum of what is left
  outs_total : (after_outs c gs m q).total ≡ sum m
  outs_total = resets_total c gs _ ∙ total_is gs q.total (sum m) (omega (arith, h.total, sum_weigh q.pending, sum_weigh m, picks_weigh estimate_of p))

  pub queue_outs : SoundQueue c (after_outs c gs m q)
  queue_outs =
      let is = resets_pending c gs (queue (total_after gs q.total) m q.starts q.bodies) in
      record {
        rising = rw is (picks_rising 0 p h.rising);
        few = rw is (omega (arith, picks_weigh one p, weigh_one q.pending, weigh_one m, h.few));
        each = rw is (each_picks (InRange c) p h.each);
        total = rw is outs_total;
        seats = resets_seats c gs _ ∙ h.seats;
        starts = λ s k. rw is (outs_seat s k);
        bodies = resets_bodies c (suc c) gs _ h.bodies;
      }

-- and the high waters are no lower
pub outs_lower : {h : HighWater} {q : Queue} {gs : List Release} {m : List Entry} (c : ℕ) → Picks gs q.pending m → NoLower h q → NoLower h (after_outs c gs m q)
outs_lower {q = q} {gs = gs} {m = m} c p h =
    let q₁ : Queue = queue (total_after gs q.total) m q.starts q.bodies in
    record {
      blocks = rw (resets_pending c gs q₁) (omega (arith, picks_weigh one p, weigh_one q.pending, weigh_one m, h.blocks));
      bytes = rw (resets_total c gs q₁) (omega (arith, after_le gs q.total, h.bytes));
    }

-- ---- seats go whole

module _ (keep : ℕ → Bool) (r : ℕ) where
  abbrev goes : Entry → ℕ
  goes = lost_reason keep (suc r)

  -- an entry that leaves, and one that stays, at the seat s
  leaving_time : (s : ℕ) (e : Entry) (o : ℕ) → keep e.owner ≡ false → cond (keep s) o 0 ≡ cond (keep s) (with_time s e o) 0
  unfolding with_time
  leaving_time s e o z = elim (both (eqb e.owner s)) [
    | inl q ↦ rw (rw (eqb-true e.owner s q) at z)
    | inr q ↦ rw q
  ]

  staying_time : (s : ℕ) (e : Entry) (o : ℕ) → keep e.owner ≡ true → with_time s e (cond (keep s) o 0) ≡ cond (keep s) (with_time s e o) 0
  unfolding with_time
  staying_time s e o z = elim (both (eqb e.owner s)) [
    | inl q ↦ rw (rw (eqb-true e.owner s q) at z)
    | inr q ↦ rw q
  ]

  oldest_kept : (s : ℕ) (l : List Entry) → oldest s (kept goes l) ≡ cond (keep s) (oldest s l) 0
  unfolding oldest kept lost_reason with_time
  oldest_kept s [] = elim (both (keep s)) [ inl q ↦ rw q | inr q ↦ rw q ]
  oldest_kept s (e ∷ l) = elim (both (keep e.owner)) [
    | inl q ↦ rw q (ap (with_time s e) (oldest_kept s l) ∙ staying_time s e (oldest s l) q)
    | inr q ↦ rw q (oldest_kept s l ∙ leaving_time s e (oldest s l) q)
  ]

  -- the queue without the seats that are not kept
  abbrev pub after_keeps : Queue → Queue
  after_keeps q =
      queue (total_after (gone goes q.pending) q.total) (kept goes q.pending) (keep_seats keep 0 q.starts) (keep_seats keep 0 q.bodies)

  -- a seat that is not kept has no entry and no start
  keeps_seat : {c : ℕ} {q : Queue} → SoundQueue c q → (s : ℕ) → s < 256 → Seat (oldest s (kept goes q.pending)) (get_or (after_keeps q).starts s 0) (suc c)
  keeps_seat {c} {q} h s k = rw (oldest_kept s q.pending, get_or_keep keep 0 q.starts s, zero-add s) (elim (both (keep s)) [
    | inl y ↦ rw y (h.starts s k)
    | inr y ↦ rw y (record { none = λ z. refl; above = omega arith; below = omega arith })
  ])

  pub queue_keeps : {c : ℕ} {q : Queue} → SoundQueue c q → SoundQueue c (after_keeps q)
  queue_keeps {c} {q} h =
      let l = q.pending in
      let m = kept goes l in
      let p = sift goes l in
      record {
        rising = picks_rising 0 p h.rising;
        few = omega (arith, picks_weigh one p, weigh_one l, weigh_one m, h.few);
        each = each_picks (InRange c) p h.each;
        total = total_is (gone goes l) q.total (sum m) (omega (arith, h.total, sum_weigh l, sum_weigh m, picks_weigh estimate_of p));
        seats = length_keep keep 0 q.starts ∙ h.seats;
        starts = keeps_seat h;
        bodies = bounded_keep keep h.bodies;
      }

  pub keeps_lower : {h : HighWater} {q : Queue} → NoLower h q → NoLower h (after_keeps q)
  keeps_lower {q = q} h =
      let p = sift goes q.pending in
      record {
        blocks = omega (arith, picks_weigh one p, weigh_one q.pending, weigh_one (kept goes q.pending), h.blocks);
        bytes = omega (arith, after_le (gone goes q.pending) q.total, h.bytes);
      }
