-- What is swept and asked for again: which of the swept ones, how many, and where they come from. Assumes nothing.
use Rattle.std.specs.Prelude.{◌≡◌, refl, true, false, ◌||◌, ℕ, zero, suc, ◌+◌, ◌-◌, ◌*◌, ◌≤◌, ◌<◌, eqb, leb, length, Option}
use Rattle.std.proofs.Common.{◌∙◌, arith}
use Rattle.std.proofs.Math.Logic.{inl, inr}
use Rattle.std.proofs.Math.Bool.{not}
use mathlib.Core.List.{List, [], ◌∷◌, map}
use Rattle.std.proofs.Math.Nat.{zero-mul, suc-mul}
use Rattle.std.proofs.Math.Dec.{ltb}
use borrow.Author.Tests.{eqb-false, ltb-false, not-true, not-false}
use Rattle.model.specs.Lists.{count}
use Rattle.model.specs.Hash.{key, same}
use Rattle.model.specs.Window.{Window}
use Rattle.model.specs.Races.{insert_by_height, by_height}
use Rattle.model.specs.LettingGo.{if_gone, gone, extract, sweep_reason, expire_pending}
use Rattle.model.specs.Time.{effective_owner_timeout, active}
use Rattle.model.specs.Calls.{Ask}
use Rattle.model.specs.Planning.{Lent, ask, is_pending, is_staged, is_refused, is_open, Draft, draft, and_ask, lower_of, swept_asks, expired_request_entries}
use Rattle.model.specs.declared.Hash.{Hash}
use Rattle.model.specs.declared.Entry.{Entry}
use Rattle.model.specs.declared.Release.{Release}
use Rattle.laws.specs.Numbers.{both}
use Rattle.laws.specs.Bag.{weigh, one}
use Rattle.laws.specs.Entries.{on, by_entry, Rising, rising_one, picks_weigh, sift, Each}
use Rattle.plan_laws.specs.Lists.{or_false, Every}
use Rattle.plan_laws.specs.Named.{same_comm, times, Once}

-- ---- what may be asked for

pub record Good (l : Lent) (w : Window) (a : Ask) : Type 0 where
  pub pending : is_pending w a ≡ false
  pub staged : is_staged l a ≡ false
  pub refused : is_refused l a ≡ false
  pub floor : l.floor ≤ a.height

pub open_is : (l : Lent) (w : Window) (a : Ask) → is_open l w a ≡ true → (is_pending w a ≡ false) × (is_staged l a ≡ false)
unfolding is_open
open_is l w a e = or_false (is_pending w a) (is_staged l a) (not-true (is_pending w a || is_staged l a) e)

-- ---- some of the asks ks: up to `room` of them, in order, each for the mean of the bytes

pub record Drawn (l : Lent) (w : Window) (ks : List Ask) (room bytes : ℕ) (d : Draft) : Type 1 where
  pub good : Every (Good l w) d.asks
  pub few : length d.asks ≤ room
  pub spent : length d.asks * w.mean + d.bytes ≤ bytes
  pub no_more : (h : Hash) → times h d.asks ≤ times h ks
  pub of : (P : Ask → Type 0) → Every P ks → Every P d.asks

module _ (l : Lent) (w : Window) where
  drawn_none : (ks : List Ask) (room bytes : ℕ) (low : Option ℕ) → Drawn l w ks room bytes (draft [] bytes low)
  unfolding count
  drawn_none ks room bytes low = record { good = tt; few = omega arith; spent = omega (arith, zero-mul w.mean); no_more = λ h. omega arith; of = λ P p. tt }

  drawn_pass : (a : Ask) (ks : List Ask) (room bytes : ℕ) {d : Draft} → Drawn l w ks room bytes d → Drawn l w (a ∷ ks) room bytes d
  unfolding count
  drawn_pass a ks room bytes k = record {
    good = k.good;
    few = k.few;
    spent = k.spent;
    no_more = λ h. elim (both (same h a.hash)) [
      | inl e ↦ rw e (omega (arith, k.no_more h))
      | inr e ↦ rw e (k.no_more h)
    ];
    of = λ P p. k.of P p.1;
  }

  drawn_pick : (a : Ask) (ks : List Ask) (room bytes : ℕ) {d : Draft} → 0 < room → w.mean ≤ bytes → Good l w a → Drawn l w ks (room - 1) (bytes - w.mean) d → Drawn l w (a ∷ ks) room bytes (and_ask a d)
  unfolding count
  drawn_pick a ks room bytes {d} b m g k = record {
    good = (g, k.good);
    few = omega (arith, k.few);
    spent = omega (arith, k.spent, suc-mul (length d.asks) w.mean);
    no_more = λ h. elim (both (same h a.hash)) [
      | inl e ↦ rw e (omega (arith, k.no_more h))
      | inr e ↦ rw e (k.no_more h)
    ];
    of = λ P p. (p.0, k.of P p.1);
  }

  pub expired_drawn : (ks : List Ask) (room bytes : ℕ) (low : Option ℕ) → Drawn l w ks room bytes (expired_request_entries l w ks room bytes low)
  unfolding expired_request_entries
  expired_drawn [] room bytes low = drawn_none [] room bytes low
  expired_drawn (a ∷ ks) room bytes low = elim (both (eqb room 0 || ltb bytes w.mean)) [
    | inl q ↦ rw q (drawn_none (a ∷ ks) room bytes low)
    | inr q ↦ rw q (elim (both (is_refused l a)) [
      | inl r ↦ rw r (drawn_pass a ks room bytes (expired_drawn ks room bytes (lower_of low a.height)))
      | inr r ↦ rw r (elim (both (ltb a.height l.floor || not (is_open l w a))) [
        | inl u ↦ rw u (drawn_pass a ks room bytes (expired_drawn ks room bytes low))
        | inr u ↦
            let z = or_false (eqb room 0) (ltb bytes w.mean) q in
            let k = or_false (ltb a.height l.floor) (not (is_open l w a)) u in
            let o = open_is l w a (not-false (is_open l w a) k.1) in
            let g : Good l w a = record { pending = o.0; staged = o.1; refused = r; floor = ltb-false a.height l.floor k.0 } in
            rw u (drawn_pick a ks room bytes (omega (arith, eqb-false room 0 z.0)) (ltb-false bytes w.mean z.1) g (expired_drawn ks (room - 1) (bytes - w.mean) low))
      ])
    ])
  ]

-- ---- the swept ones, by height

insert_weigh : (f : Entry → ℕ) (e : Entry) (es : List Entry) → weigh f (insert_by_height e es) ≡ f e + weigh f es
unfolding insert_by_height weigh
insert_weigh f e [] = refl
insert_weigh f e (x ∷ es) = elim (both (leb e.height x.height)) [
  | inl q ↦ rw q
  | inr q ↦ rw q (omega (arith, insert_weigh f e es))
]

by_height_weigh : (f : Entry → ℕ) (es : List Entry) → weigh f (by_height es) ≡ weigh f es
unfolding by_height weigh
by_height_weigh f [] = refl
by_height_weigh f (e ∷ es) = omega (arith, insert_weigh f e (by_height es), by_height_weigh f es)

entries_weigh : (f : Entry → ℕ) (gs : List Release) → weigh f (map (λ g. g.entry) gs) ≡ weigh (by_entry f) gs
unfolding weigh
entries_weigh f [] = refl
entries_weigh f (g ∷ gs) = omega (arith, entries_weigh f gs)

asks_weigh : (h : Hash) (es : List Entry) → times h (map (λ e. ask e.hash e.height) es) ≡ weigh (on (key h) one) es
unfolding count weigh on same
asks_weigh h [] = refl
asks_weigh h (e ∷ es) = rw (same_comm h e.hash) (elim (both (eqb (key e.hash) (key h))) [
  | inl q ↦ rw q (omega (arith, asks_weigh h es))
  | inr q ↦ rw q (omega (arith, asks_weigh h es))
])

swept_times : (h : Hash) (gs : List Release) → times h (swept_asks gs) ≡ weigh (by_entry (on (key h) one)) gs
unfolding swept_asks
swept_times h gs =
    let es = map (λ (g : Release). g.entry) gs in
    asks_weigh h (by_height es) ∙ by_height_weigh (on (key h) one) es ∙ entries_weigh (on (key h) one) gs

-- hashes that rise strictly in the window are swept once each
pub swept_once : (now : ℕ) (w : Window) → Rising 0 w.queue.pending → Once (swept_asks (expire_pending now w).gone)
unfolding expire_pending extract
swept_once now w r h =
    let goes = sweep_reason now (effective_owner_timeout (active w) w) w in
    omega (arith, swept_times h (gone goes w.queue.pending), picks_weigh (on (key h) one) (sift goes w.queue.pending), rising_one 0 w.queue.pending (key h) r)

-- ---- what holds of the entries holds of the swept ones

module _ (P : Entry → Type 0) where
  insert_every : (e : Entry) (es : List Entry) → P e → Every P es → Every P (insert_by_height e es)
  unfolding insert_by_height
  insert_every e [] p a = (p, tt)
  insert_every e (x ∷ es) p a = elim (both (leb e.height x.height)) [
    | inl q ↦ rw q (p, a)
    | inr q ↦ rw q (a.0, insert_every e es p a.1)
  ]

  by_height_every : (es : List Entry) → Every P es → Every P (by_height es)
  unfolding by_height
  by_height_every [] a = tt
  by_height_every (e ∷ es) a = insert_every e (by_height es) a.0 (by_height_every es a.1)

  gone_one : (r : ℕ) (e : Entry) (gs : List Release) → P e → Every (λ g. P g.entry) gs → Every (λ g. P g.entry) (if_gone r e gs)
  gone_one zero e gs p a = a
  gone_one (suc r) e gs p a = (p, a)

  gone_every : (goes : Entry → ℕ) (es : List Entry) → Each P es → Every (λ g. P g.entry) (gone goes es)
  unfolding gone
  gone_every goes [] a = tt
  gone_every goes (e ∷ es) a = gone_one (goes e) e (gone goes es) a.0 (gone_every goes es a.1)

  pub expire_every : (now : ℕ) (w : Window) → Each P w.queue.pending → Every (λ g. P g.entry) (expire_pending now w).gone
  unfolding expire_pending extract
  expire_every now w a = gone_every (sweep_reason now (effective_owner_timeout (active w) w) w) w.queue.pending a

map_every : {A B : Type 0} (f : A → B) (P : B → Type 0) (xs : List A) → Every (λ x. P (f x)) xs → Every P (map f xs)
map_every f P [] a = tt
map_every f P (x ∷ xs) a = (a.0, map_every f P xs a.1)

pub swept_every : (P : Ask → Type 0) (gs : List Release) → Every (λ g. P (ask g.entry.hash g.entry.height)) gs → Every P (swept_asks gs)
unfolding swept_asks
swept_every P gs a =
    let Q : Entry → Type 0 = λ e. P (ask e.hash e.height) in
    let es = map (λ (g : Release). g.entry) gs in
    map_every (λ (e : Entry). ask e.hash e.height) P (by_height es) (by_height_every Q es (map_every (λ (g : Release). g.entry) Q gs a))
