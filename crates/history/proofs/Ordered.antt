-- EVERY REPORT IS IN ORDER, of any words: what a call lets go comes out of pending entries that rise by hash, by a test of each, or one alone. A
-- delivery takes its entry out first; a hedge that it decides ends the probe, so that no two of the others' lists meet. Assumes nothing.
use Rattle.std.specs.Prelude.{◌≡◌, refl, Bool, not, ◌||◌, List, [], ◌∷◌, ◌++◌, map, ℕ, zero, suc, ◌≤◌, ◌^◌, length, take, drop, get_or, set, eqb, ltb, None, Some, Option}
use Rattle.std.proofs.Common.{sym, ap, subst, inl, inr, append-nil, arith, take_at, eqb-true}
use Rattle.std.specs.Int.Bits.{bit_or}
use Rattle.model.specs.Lists.{count}
use Rattle.model.specs.Hash.{key, same}
use Rattle.model.specs.Numbers.{present}
use Rattle.model.specs.Window.{Window, Step, and_then, with_cold}
use Rattle.model.specs.Records.{found}
use Rattle.model.specs.Seats.{keep_seats}
use Rattle.model.specs.Cooling.{mark_peer_unresponsive}
use Rattle.model.specs.LettingGo.{if_gone, gone, extract, take_out, remove_pending, release_pending, requeue_for_retry, expire_pending, lost_reason, seats_kept, retain_peer_assignments, probe_kept, roles_kept, flagged, retain_owned_by}
use Rattle.model.specs.Races.{place_of, progressed, winner, race_won, race_by, race_progress, probe_delivery, record_prefix_probe_delivery, hedge_lost, resolve_by, resolve_cold_front_delivery}
use Rattle.model.specs.Calls.{credit_duplicate_delivery, body_noted, credit_delivery_from, height_of, credit_by, mark_received_from, is_owner, rejected_by, reject_delivery}
use Rattle.model.specs.Layout.{window_of, is_window}
use Rattle.model.specs.Refusals.{Change, Call, opens, changes, queries, checks, refusal_at, is_long, window_refusal, refusal, requests, fetches, receives, credits, credits_duplicate, rejects, expires, requeues, releases, retires, retains, marks_unresponsive, confirms_probe, confirms_hedge, observes, sets_fanout, clears_preferred, plans, plans_retry}
use Rattle.model.specs.Perform.{change, proposes, requested, observed, moment_of, changed, does, says, gone_by, answer_by, gone_after, answer_after, perform}
use Rattle.model.specs.declared.Hash.{Hash}
use Rattle.model.specs.declared.Entry.{Entry}
use Rattle.model.specs.declared.Release.{Release}
use Rattle.model.specs.declared.ColdFront.{ColdFront}
use Rattle.model.specs.declared.ColdFront.TheVariants.{Idle, Waiting, Racing}
use Rattle.model.specs.declared.PrefixProbe.{PrefixProbe}
use Rattle.laws.specs.Numbers.{both}
use Rattle.laws.specs.Entries.{Rising, rising_weaken}
use Rattle.laws.specs.Sound.{Sound}
use Rattle.laws.specs.Batches.{retire_reason}
use Rattle.laws.proofs.Batches.{retire_is}
use Rattle.laws.proofs.Lets.{remove_lets}
use Rattle.laws.specs.PlansKept.{plans_keeps, plans_retry_keeps}
use Rattle.laws.specs.Kept.{passed, accepted_is, sound_then}
use Rattle.laws.specs.Words.{words_sound}
use Rattle.history.specs.Reports.{count_of}
use Rattle.history.specs.Order.{Rises, delivers_of, delivers, InOrder}

-- ---- lists that rise

-- the entries of a report
abbrev entries : List Release → List Entry
entries gs = map (λ g. g.entry) gs

rises_from : (lo : ℕ) (gs : List Release) → Rising lo (entries gs) → Rises gs
rises_from lo [] r = tt
rises_from lo (g ∷ []) r = tt
rises_from lo (g ∷ x ∷ gs) r = (omega (arith, r.1.0), rises_from (suc (key g.entry.hash)) (x ∷ gs) r.1)

-- what a test of each lets go keeps the order
gone_one : (lo r : ℕ) (e : Entry) (gs : List Release) → lo ≤ key e.hash → Rising (suc (key e.hash)) (entries gs) → Rising lo (entries (if_gone r e gs))
gone_one lo zero e gs h k = rising_weaken (suc (key e.hash)) lo (entries gs) (omega arith) k
gone_one lo (suc r) e gs h k = (h, k)

gone_rising : (lo : ℕ) (goes : Entry → ℕ) (l : List Entry) → Rising lo l → Rising lo (entries (gone goes l))
unfolding gone
gone_rising lo goes [] r = tt
gone_rising lo goes (e ∷ l) r = gone_one lo (goes e) e (gone goes l) r.0 (gone_rising (suc (key e.hash)) goes l r.1)

gone_rises : (goes : Entry → ℕ) (l : List Entry) → Rising 0 l → Rises (gone goes l)
gone_rises goes l r = rises_from 0 (gone goes l) (gone_rising 0 goes l r)

-- one entry alone, or none
take_out_rises : (r c : ℕ) (f : Option Entry) (w : Window) → Rises (take_out r c f w).gone
take_out_rises r c None w = tt
take_out_rises r c (Some e) w = tt

remove_rises : (h : Hash) (r c : ℕ) (w : Window) → Rises (remove_pending h r c w).gone
unfolding remove_pending
remove_rises h r c w = take_out_rises r c (found h w.queue.pending) w

retain_rises : (keep : ℕ → Bool) (r : ℕ) (w : Window) → Rising 0 w.queue.pending → Rises (retain_peer_assignments keep r w).gone
unfolding retain_peer_assignments extract
retain_rises keep r w g = gone_rises (lost_reason keep r) w.queue.pending g

-- ---- a credit: the hedge, then the race

race_by_rises : (s : Option ℕ) (owner accepted started : ℕ) (racers : List ℕ) (c : ℕ) (w : Window) → Rising 0 w.queue.pending
    → Rises (race_by s owner accepted started racers c w).gone
unfolding race_won
race_by_rises None owner accepted started racers c w g = tt
race_by_rises (Some win) owner accepted started racers c w g = retain_rises (λ s. eqb s win || not (present (get_or racers s 0))) 9 _ g

probe_delivery_rises : (p : Option PrefixProbe) (h : Hash) (source c : ℕ) (w : Window) → Rising 0 w.queue.pending → Rises (probe_delivery p h source c w).gone
unfolding race_progress
probe_delivery_rises None h source c w g = tt
probe_delivery_rises (Some p) h source c w g =
    let i = place_of h w.races.planned in
    let rs = set w.races.racers source (progressed i (get_or w.races.racers source 0)) in
    elim (both (ltb i (length w.races.planned))) [
      | inl q ↦ rw q (race_by_rises (winner 0 rs) p.owner (bit_or p.accepted (2 ^ i)) p.started rs c w g)
      | inr q ↦ rw q tt
    ]

probe_rises : (h : Hash) (source c : ℕ) (w : Window) → Rising 0 w.queue.pending → Rises (record_prefix_probe_delivery h source c w).gone
unfolding record_prefix_probe_delivery
probe_rises h source c w g = probe_delivery_rises w.races.probe h source c w g

-- a lost hedge drops the probe, so nothing goes after it
lost_rises : (owner alternate : ℕ) (h : Hash) (source c : ℕ) (w : Window) → Rising 0 w.queue.pending
    → Rises (and_then (hedge_lost owner alternate c w) (record_prefix_probe_delivery h source c)).gone
unfolding hedge_lost record_prefix_probe_delivery retain_peer_assignments extract seats_kept mark_peer_unresponsive
lost_rises owner alternate h source c w g =
    let gs = gone (lost_reason (λ s. not (eqb s owner)) 10) w.queue.pending in
    subst Rises (sym (append-nil gs)) (gone_rises (lost_reason (λ s. not (eqb s owner)) 10) w.queue.pending g)

resolve_rises : (x : ColdFront) (h : Hash) (source c : ℕ) (w : Window) → Rising 0 w.queue.pending
    → Rises (and_then (resolve_by x h source c w) (record_prefix_probe_delivery h source c)).gone
resolve_rises Idle h source c w g = probe_rises h source c w g
resolve_rises (Waiting owner front since) h source c w g = elim (both (same front h)) [
  | inl q ↦ rw q (probe_rises h source c (with_cold Idle w) g)
  | inr q ↦ rw q (probe_rises h source c w g)
]
resolve_rises (Racing owner alternate front) h source c w g = elim (both (same front h)) [
  | inl q ↦ elim (both (eqb source alternate)) [
    | inl j ↦ simp (q, j) (lost_rises owner alternate h source c (with_cold Idle w) g)
    | inr j ↦ simp (q, j) (probe_rises h source c (with_cold Idle w) g)
  ]
  | inr q ↦ rw q (probe_rises h source c w g)
]

credit_rises : (h : Hash) (source : ℕ) (n : Option ℕ) (c : ℕ) (w : Window) → Rising 0 w.queue.pending → Rises (credit_delivery_from h source n c w).gone
unfolding credit_delivery_from resolve_cold_front_delivery credit_duplicate_delivery body_noted
credit_rises h source n c w g = resolve_rises w.races.cold h source c (credit_duplicate_delivery h source (body_noted source c w)) g

credit_by_rises : (s : Option ℕ) (h : Hash) (n : Option ℕ) (c : ℕ) (w : Window) → Rising 0 w.queue.pending → Rises (credit_by s h n c w).gone
credit_by_rises None h n c w g = tt
credit_by_rises (Some source) h n c w g = credit_rises h source n c w g

-- ---- every change

received_by : (f : Option Entry) (source : Option ℕ) (h : Hash) (c : ℕ) (w : Window) → Rising 0 (take_out 1 c f w).window.queue.pending
    → InOrder f (and_then (take_out 1 c f w) (credit_by source h (height_of f) c)).gone
received_by None source h c w g = credit_by_rises source h _ c w g
received_by (Some e) source h c w g = (refl, credit_by_rises source h _ c _ g)

received_order : (h : Hash) (bytes : ℕ) (source : Option ℕ) (c : ℕ) (w : Window) → Sound c w
    → InOrder (found h w.queue.pending) (mark_received_from h bytes source c w).gone
unfolding mark_received_from remove_pending
received_order h bytes source c w g = received_by (found h w.queue.pending) source h c w (remove_lets h 1 g).sound.queue.rising

reject_rises : (h : Hash) (s : Option ℕ) (c : ℕ) (w : Window) → Rises (reject_delivery h s c w).gone
unfolding reject_delivery
reject_rises h s c w = let v = rejected_by s h w in elim (both (is_owner s (found h v.queue.pending))) [
  | inl q ↦ rw q (remove_rises h 2 c v)
  | inr q ↦ rw q tt
]

probe_kept_rising : (owns : ℕ → Bool) (p : Option PrefixProbe) (racers : List ℕ) (w : Window) → Rising 0 w.queue.pending → Rising 0 (probe_kept owns p racers w).queue.pending
probe_kept_rising owns None racers w g = g
probe_kept_rising owns (Some p) racers w g = elim (both (not (owns p.owner) || ltb (count present racers) 2)) [ inl q ↦ rw q g | inr q ↦ rw q g ]

owned_rises : (flags : List ℕ) (w : Window) → Rising 0 w.queue.pending → Rises (retain_owned_by flags w).gone
unfolding retain_owned_by roles_kept
owned_rises flags w g =
    retain_rises (flagged flags) 8 (roles_kept (flagged flags) w) (probe_kept_rising (flagged flags) w.races.probe (keep_seats (flagged flags) 0 w.races.racers) _ g)

-- the sweep alone lets go where a request is planned
abbrev RisingStep : Step → Type 0
RisingStep s = Rises s.gone

swept_rises : (c : ℕ) (w : Window) → Rising 0 w.queue.pending → Rises (expire_pending c w).gone
unfolding expire_pending extract
swept_rises c w g = gone_rises _ w.queue.pending g

pub change_order : (x : Change) (c : ℕ) (w : Window) → Sound c w → InOrder (delivers_of x w.queue.pending) (change x c w).gone
unfolding requested observed proposes release_pending requeue_for_retry extract
change_order (requests t owner hashes heights next bytes n) c w g = tt
change_order (fetches t owner h height is_staged bytes n) c w g = tt
change_order (receives t h bytes source) c w g = received_order h bytes source c w g
change_order (credits t h source height) c w g = credit_rises h source height c w g.queue.rising
change_order (credits_duplicate h source) c w g = tt
change_order (rejects t h source) c w g = reject_rises h source c w
change_order (expires t) c w g = swept_rises c w g.queue.rising
change_order (requeues t h named) c w g = remove_rises h 3 c w
change_order (releases t h) c w g = remove_rises h 4 c w
change_order (retires t height) c w g =
    subst (λ (s : Step). Rises s.gone) (sym (retire_is height c w g)) (gone_rises (retire_reason height) w.queue.pending g.queue.rising)
change_order (retains flags) c w g = owned_rises flags w g.queue.rising
change_order (marks_unresponsive t source) c w g = tt
change_order (confirms_probe t owner given alternates) c w g = tt
change_order (confirms_hedge owner alternate h) c w g = tt
change_order (observes t l) c w g = tt
change_order (sets_fanout t n) c w g = tt
change_order clears_preferred c w g = tt
change_order (plans t source l hash_words heights) c w g = plans_keeps RisingStep l (λ s h. h) source c w tt (swept_rises c w g.queue.rising)
change_order (plans_retry t source l hash_words heights) c w g = plans_retry_keeps RisingStep l (λ s h. h) source c w tt (swept_rises c w g.queue.rising)

-- ---- every call, on any words

-- an accepted change is of words that count as a window, so of a sound one
does_order : (call : Call) (ws : List ℕ) (room : ℕ) → refusal call ws room ≡ 0 → InOrder (delivers call (window_of ws).queue.pending) (does call (window_of ws)).gone
unfolding window_refusal changed
does_order (opens c b keys) ws room q = tt
does_order (queries y) ws room q = tt
does_order (changes x) ws room q =
    let w = window_of ws in
    let i = passed 0 (is_long ws) _ q in
    let j = passed 1 (is_window ws) (refusal_at (checks x) w room) i.1 in
    let a = accepted_is (checks x) w room j.1 in
    change_order x (moment_of (checks x).moment w.clock) w (sound_then x w room a (words_sound ws (eqb-true (length ws) 4096 i.0) j.0))

order_by : (r : ℕ) (call : Call) (ws : List ℕ) (lent : List Release) (n : ℕ) (values : List ℕ) → refusal call ws (length lent) ≡ r → answer_by r call ws ≡ says n values
    → InOrder (delivers call (window_of ws).queue.pending) (take n (gone_by r call ws ++ drop (length (gone_by r call ws)) lent))
order_by (suc r) call ws lent n values e q = absurd (let z : ◌≡◌ {A = ℕ} 0 1 = cc in omega arith)
order_by zero call ws lent n values e q =
    let gs = (does call (window_of ws)).gone in
    subst (InOrder (delivers call (window_of ws).queue.pending)) (sym (take_at gs (drop (length gs) lent) n (ap count_of q))) (does_order call ws (length lent) e)

-- THE ORDER OF A REPORT: for every content of the lent words, every call and every lent report
pub report_in_order : (call : Call) (ws : List ℕ) (lent : List Release) (n : ℕ) (values : List ℕ) → (perform call ws lent).answer ≡ says n values
    → InOrder (delivers call (window_of ws).queue.pending) (take n (perform call ws lent).report)
unfolding perform answer_after gone_after
report_in_order call ws lent n values q = order_by (refusal call ws (length lent)) call ws lent n values refl q
