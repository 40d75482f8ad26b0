-- The entries of a plan: each may be asked for, none twice, no more than the batch, and where they come from. Assumes nothing.
use Rattle.std.specs.Prelude.{◌≡◌, refl, true, false, ℕ, ◌+◌, ◌-◌, ◌*◌, ◌/◌, ◌≤◌, ◌<◌, None}
use Rattle.std.proofs.Common.{sym, ◌∙◌, length-append, length-take}
use Rattle.std.proofs.Math.Path.{ap, subst}
use Rattle.std.proofs.Math.Logic.{inl, inr}
use Rattle.std.proofs.Math.Bool.{Bool, not}
use Rattle.std.proofs.lemmas.Bool.{false≢true}
use mathlib.Core.List.{List, [], ◌∷◌}
use Rattle.std.proofs.Math.Nat.{zero-mul, add-mul, mul-le-mul_right, div-mul-le_self}
use native.Mathlib.Omega.{arith}
use Rattle.std.proofs.Math.ListN.{length, take}
use borrow.Author.Tests.{not-true}
use Rattle.model.specs.Numbers.{lesser, greater}
use Rattle.model.specs.Lists.{any, select, count}
use Rattle.model.specs.Hash.{same, hashes_in}
use Rattle.model.specs.Window.{Window, Step}
use Rattle.model.specs.Records.{found, is_there}
use Rattle.model.specs.Capacity.{byte_capacity}
use Rattle.model.specs.LettingGo.{expire_pending}
use Rattle.model.specs.Races.{is_empty}
use Rattle.model.specs.Calls.{Ask}
use Rattle.model.specs.Planning.{Lent, Draft, Scan, Proposal, names, is_pending, is_staged, is_refused, is_open, swept_asks, contiguous_request_entries, reach, clean_stretch, is_clean, open_in_reach, candidates, scan_of}
use Rattle.model.specs.declared.Hash.{Hash}
use Rattle.model.specs.declared.Entry.{Entry}
use Rattle.laws.specs.Numbers.{both, lesser_le_first, lesser_le_second, second_le_greater}
use Rattle.laws.specs.Every.{hold}
use Rattle.laws.specs.Entries.{Rising}
use Rattle.plan_laws.specs.Lists.{Every, every_map, every_both, every_append, every_take, every_select, selected, any_none, count_append, count_take, count_select, count_none}
use Rattle.plan_laws.specs.Named.{times, Once, hashes_of, any_hashes, first_named_times, first_named_every, first_named_length}
use Rattle.plan_laws.specs.Chain.{Stands, contiguous_stands, contiguous_few}
use Rattle.plan_laws.specs.Drafts.{Good, open_is, Drawn, expired_drawn, swept_once}
use Rattle.plan_laws.specs.Cases.{From, stretch, scanned, retried, made, the_batch, the_draft, the_step, the_scan, Plan, unasked, no_room, room, named_asks, named_window, rewind_is, rewind_queue}

-- ---- empty lists name nothing

none_pending : (h : Hash) (es : List Entry) → is_empty es ≡ true → is_there (found h es) ≡ false
unfolding found
none_pending h [] e = refl
none_pending h (x ∷ es) e = absurd (false≢true e)

none_named : (h : Hash) (hs : List Hash) → is_empty hs ≡ true → any (same h) hs ≡ false
unfolding any
none_named h [] e = refl
none_named h (x ∷ hs) e = absurd (false≢true e)

-- ---- over the swept and rewound window

module _ (l : Lent) (t : Step) (s : Scan) (d : Draft) where
  abbrev chain : List Hash
  chain = hashes_in l.chain

  reach_le : (n : ℕ) → reach n s ≤ s.tip
  unfolding reach
  reach_le n = lesser_le_second (s.height + (n - 1)) s.tip

  -- what the scan or the stretch names stands on the chain from the scan's first height to its last
  to_tip : (n : ℕ) (a : Ask) → Stands chain s.height (reach n s) a → Stands chain s.height s.tip a
  to_tip n a k = record { low = k.low; high = omega (arith, k.high, reach_le n); there = k.there; own = k.own }

  stretch_stands : Every (Stands chain s.height s.tip) (clean_stretch l s)
  unfolding clean_stretch
  stretch_stands =
      let xs = contiguous_request_entries s.height (reach s.limit s) l.chain in
      first_named_every (Stands chain s.height s.tip) [] xs
      (every_map (Stands chain s.height (reach s.limit s)) (Stands chain s.height s.tip) (to_tip s.limit) xs (contiguous_stands s.height (reach s.limit s) l.chain))

  pub all_in_reach : ℕ
  all_in_reach = s.limit + (length t.window.queue.pending + (length (hashes_in l.staged) + length d.asks))

  reach_stands : Every (Stands chain s.height s.tip) (open_in_reach l t.window s d.asks)
  unfolding open_in_reach all_in_reach
  reach_stands =
      let xs = contiguous_request_entries s.height (reach all_in_reach s) l.chain in
      first_named_every (Stands chain s.height s.tip) (hashes_of d.asks) (select (is_open l t.window) xs)
      (every_select (Stands chain s.height s.tip) (is_open l t.window) xs
      (every_map (Stands chain s.height (reach all_in_reach s)) (Stands chain s.height s.tip) (to_tip all_in_reach) xs (contiguous_stands s.height (reach all_in_reach s) l.chain)))

  reach_open : Every (λ a. is_open l t.window a ≡ true) (open_in_reach l t.window s d.asks)
  unfolding open_in_reach
  reach_open = first_named_every (λ a. is_open l t.window a ≡ true) (hashes_of d.asks) (select (is_open l t.window) _) (selected (is_open l t.window) _)

  -- so an entry of the plan is one of the swept, or it stands there
  pub from_where : {asks : List Ask} {next : ℕ} (P : Ask → Type 0) → Every P d.asks → ((a : Ask) → Stands chain s.height s.tip a → P a) → From l t s d asks next → Every P asks
  unfolding candidates
  from_where P p f (stretch c a b) = every_map (Stands chain s.height s.tip) P f (clean_stretch l s) stretch_stands
  from_where P p f (scanned a b) =
      let o = open_in_reach l t.window s d.asks in
      let n : Ask → Bool = λ x. not (is_refused l x) in
      every_append P d.asks (take s.limit (select n o)) p
      (every_take P s.limit (select n o) (every_select P n o (every_map (Stands chain s.height s.tip) P f o reach_stands)))
  from_where P p f retried = p

  -- ---- each may be asked for

  module _ (b : l.floor ≤ s.height) where
    clean_good : is_clean l t.window s d ≡ true → Every (Good l t.window) (clean_stretch l s)
    unfolding is_clean is_pending is_staged names
    clean_good c =
        let kept = any_none (is_refused l) (clean_stretch l s) (not-true (any (is_refused l) (clean_stretch l s)) (hold _ c 3)) in
        every_both (λ a. is_refused l a ≡ false) (Stands chain s.height s.tip) (Good l t.window) (λ a r k. record {
          pending = none_pending a.hash t.window.queue.pending (hold _ c 1);
          staged = none_named a.hash (hashes_in l.staged) (hold _ c 2);
          refused = r;
          floor = omega (arith, k.low);
        }) (clean_stretch l s) kept stretch_stands

    candidates_good : Every (Good l t.window) (candidates l t.window s d.asks)
    unfolding candidates
    candidates_good =
        let w = t.window in
        let o = open_in_reach l w s d.asks in
        let n : Ask → Bool = λ x. not (is_refused l x) in
        let stands = every_select (Stands chain s.height s.tip) n o reach_stands in
        let free = every_select (λ a. is_open l w a ≡ true) n o reach_open in
        let both_of = every_both (λ a. is_open l w a ≡ true) (Stands chain s.height s.tip) (λ a. (is_open l w a ≡ true) × (l.floor ≤ a.height)) (λ a p k. (p, omega (arith, k.low))) (select n o) free stands in
        every_both (λ a. n a ≡ true) (λ a. (is_open l w a ≡ true) × (l.floor ≤ a.height)) (Good l w) (λ a r k.
        let p = open_is l w a k.0 in
        record { pending = p.0; staged = p.1; refused = not-true (is_refused l a) r; floor = k.1 }) (select n o) (selected n o) both_of

    pub from_good : {asks : List Ask} {next : ℕ} → Every (Good l t.window) d.asks → From l t s d asks next → Every (Good l t.window) asks
    from_good g (stretch c a k) = clean_good c
    from_good g (scanned a k) =
        let cs = candidates l t.window s d.asks in
        every_append (Good l t.window) d.asks (take s.limit cs) g (every_take (Good l t.window) s.limit cs candidates_good)
    from_good g retried = g

  -- ---- no more than the batch

  stretch_few : 0 < s.limit → length (clean_stretch l s) ≤ s.limit
  unfolding clean_stretch reach
  stretch_few b =
      let last = lesser (s.height + (s.limit - 1)) s.tip in
      omega (arith, first_named_length [] (contiguous_request_entries s.height last l.chain), contiguous_few s.height last l.chain, lesser_le_first (s.height + (s.limit - 1)) s.tip)

  pub from_few : {asks : List Ask} {next : ℕ} → From l t s d asks next → length asks ≤ length d.asks + s.limit
  from_few (stretch c x k) = omega (arith, stretch_few k)
  from_few (scanned x k) =
      let cs = candidates l t.window s d.asks in
      omega (arith, length-append d.asks (take s.limit cs), length-take s.limit cs)
  from_few retried = omega arith

  -- ---- none twice

  -- none of the scanned is among the retried
  scanned_times : (h : Hash) → (times h (take s.limit (candidates l t.window s d.asks)) ≤ 1)
      × (any (same h) (hashes_of d.asks) ≡ true → times h (take s.limit (candidates l t.window s d.asks)) ≡ 0)
  unfolding candidates open_in_reach
  scanned_times h =
      let p : Ask → Bool = λ a. same h a.hash in
      let o = open_in_reach l t.window s d.asks in
      let cs = candidates l t.window s d.asks in
      let z = first_named_times h (hashes_of d.asks) (select (is_open l t.window) (contiguous_request_entries s.height (reach (s.limit + (length t.window.queue.pending + (length (hashes_in l.staged) + length d.asks))) s) l.chain)) in
      let fewer : times h (take s.limit cs) ≤ times h o = omega (arith, count_take p s.limit cs, count_select p (λ a. not (is_refused l a)) o) in
      (omega (arith, z.0), λ e. omega (arith, z.1 e))

  pub from_once : {asks : List Ask} {next : ℕ} → Once d.asks → From l t s d asks next → Once asks
  unfolding clean_stretch
  from_once f (stretch c x k) h = (first_named_times h [] (contiguous_request_entries s.height (reach s.limit s) l.chain)).0
  from_once f (scanned x k) h =
      let p : Ask → Bool = λ a. same h a.hash in
      let ys = take s.limit (candidates l t.window s d.asks) in
      let z = scanned_times h in
      let sums = count_append p d.asks ys in
      elim (both (any (same h) (hashes_of d.asks))) [
        | inl e ↦ omega (arith, f h, z.1 e)
        | inr e ↦ omega (arith, count_none p d.asks (sym (any_hashes h d.asks) ∙ e), z.0)
      ]
  from_once f retried h = f h

-- ---- of a plan

good_alike : (l : Lent) (w v : Window) → v.queue ≡ w.queue → (a : Ask) → Good l w a → Good l v a
unfolding is_pending
good_alike l w v e a g = record { pending = rw e g.pending; staged = g.staged; refused = g.refused; floor = g.floor }

module _ (source : ℕ) (l : Lent) (now : ℕ) (w : Window) where
  drawn : Drawn l (expire_pending now w).window (swept_asks (expire_pending now w).gone) (the_batch source l now w) (byte_capacity l.bytes (expire_pending now w).window) (the_draft source l now w)
  drawn =
      let t = expire_pending now w in
      expired_drawn l t.window (swept_asks t.gone) (the_batch source l now w) (byte_capacity l.bytes t.window) None

  pub plan_good : {P : Proposal} → Plan source l now w P → Every (Good l P.window) P.asks
  unfolding scan_of
  plan_good unasked = tt
  plan_good no_room = tt
  plan_good (room (made {asks} {next} f)) =
      let v = (expire_pending now w).window in
      let t = the_step source l now w in
      let d = the_draft source l now w in
      rw (named_window t next asks, named_asks t next asks)
      (from_good l t (the_scan source l now w) d (second_le_greater (greater l.start t.window.frontier) l.floor)
      (every_map (Good l v) (Good l t.window) (good_alike l v t.window (rewind_queue l v)) d.asks drawn.good) f)

  pub plan_few : {P : Proposal} → Plan source l now w P → length P.asks ≤ the_batch source l now w
  unfolding scan_of
  plan_few unasked = omega arith
  plan_few no_room = omega arith
  plan_few (room (made {asks} {next} f)) =
      let t = the_step source l now w in
      let d = the_draft source l now w in
      let batch = the_batch source l now w in
      rw (named_asks t next asks) (omega (arith, from_few l t (the_scan source l now w) d f, drawn.few, lesser_le_first (batch - length d.asks) (d.bytes / t.window.mean)))

  -- the bytes of its entries, by the mean
  pub plan_spends : {P : Proposal} → Plan source l now w P → length P.asks * (expire_pending now w).window.mean ≤ byte_capacity l.bytes (expire_pending now w).window
  unfolding scan_of
  plan_spends unasked = omega (arith, zero-mul (expire_pending now w).window.mean)
  plan_spends no_room = omega (arith, zero-mul (expire_pending now w).window.mean)
  plan_spends (room (made {asks} {next} f)) =
      let t = the_step source l now w in
      let d = the_draft source l now w in
      let m = (expire_pending now w).window.mean in
      let limit = (the_scan source l now w).limit in
      let same_mean : t.window.mean ≡ m = ap (λ (v : Window). v.mean) (rewind_is l (expire_pending now w).window) in
      let by_bytes : limit ≤ d.bytes / m =
      subst (λ (k : ℕ). limit ≤ d.bytes / k) same_mean (lesser_le_second (the_batch source l now w - length d.asks) (d.bytes / t.window.mean)) in
      let all : length asks * m ≤ (length d.asks + limit) * m = mul-le-mul_right m (from_few l t (the_scan source l now w) d f) in
      rw (named_asks t next asks) (omega (arith, add-mul (length d.asks) limit m, mul-le-mul_right m by_bytes, div-mul-le_self d.bytes m, drawn.spent))

  pub plan_once : {P : Proposal} → Rising 0 w.queue.pending → Plan source l now w P → Once P.asks
  unfolding count
  plan_once r unasked h = omega arith
  plan_once r no_room h = omega arith
  plan_once r (room (made {asks} {next} f)) h =
      let t = the_step source l now w in
      let d = the_draft source l now w in
      rw (named_asks t next asks) (from_once l t (the_scan source l now w) d (λ g. omega (arith, drawn.no_more g, swept_once now w r g)) f h)

  -- what holds of the swept and of what stands on the chain holds of the whole plan
  pub plan_where : {P : Proposal} (Q : Ask → Type 0) → Every Q (swept_asks (expire_pending now w).gone)
      → ((a : Ask) → Stands (hashes_in l.chain) l.floor (lesser l.tip l.best) a → Q a) → Plan source l now w P → Every Q P.asks
  unfolding scan_of
  plan_where Q p q unasked = tt
  plan_where Q p q no_room = tt
  plan_where Q p q (room (made {asks} {next} f)) =
      let t = the_step source l now w in
      let d = the_draft source l now w in
      let b = second_le_greater (greater l.start t.window.frontier) l.floor in
      rw (named_asks t next asks)
      (from_where l t (the_scan source l now w) d Q (drawn.of Q p) (λ a k. q a (record { low = omega (arith, k.low); high = k.high; there = k.there; own = k.own })) f)
