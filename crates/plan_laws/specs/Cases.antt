-- The ways in which a plan is made: none without a sweep, none after it, or one of three over the swept and rewound window. Assumes nothing.
use Rattle.std.specs.Prelude.{◌≡◌, true, ◌&&◌, ◌||◌, ℕ, ◌≤◌, ◌<◌, eqb, leb, take, drop, None}
use Rattle.std.proofs.Math.Path.{refl}
use Rattle.std.proofs.Common.{ap, inl, inr, leb-true, ltb-true}
use mathlib.Core.List.{List, [], ◌∷◌, ◌++◌}
use Rattle.std.proofs.Math.Dec.{ltb}
use Rattle.model.specs.Numbers.{greater, next_height}
use Rattle.model.specs.Hash.{hashes_in}
use Rattle.model.specs.Window.{Window, Step, stay, after, with_frontier}
use Rattle.model.specs.Time.{peer_has_expired_pending}
use Rattle.model.specs.Cooling.{peer_in_staller_cooldown}
use Rattle.model.specs.Capacity.{Capacity, no_capacity, capacity, batch_limit, byte_capacity, compute_request_capacity}
use Rattle.model.specs.LettingGo.{expire_pending}
use Rattle.model.specs.Calls.{Ask}
use Rattle.model.specs.Planning.{Lent, Draft, Scan, Proposal, no_request, non_empty_request, held_back, noticed, swept_asks, expired_request_entries, is_first_open, maybe_rewind_request_frontier, reach, clean_stretch, is_clean, clean_contiguous_peer_request, open_in_reach, candidates, next_after, extend_request_by_reverse_scan, scan_of, request_from, request_by, request_after, next_peer_request_allowing_retry, next_peer_request}
use Rattle.laws.specs.Numbers.{both, and_left, and_right}
use Rattle.plan_laws.specs.Lists.{picked}

-- ---- over the swept and rewound window

-- t is that window and what was swept, d the plan so far, s the scan: the entries and the next height that come of them
pub data From (l : Lent) (t : Step) (s : Scan) (d : Draft) : List Ask → ℕ → Type 0 where
  stretch : is_clean l t.window s d ≡ true → s.height ≤ s.tip → 0 < s.limit → From l t s d (clean_stretch l s) (greater s.next (next_height (reach s.limit s)))
  scanned : s.height ≤ s.tip → 0 < s.limit
      → From l t s d (d.asks ++ take s.limit (candidates l t.window s d.asks))
      (held_back (noticed l (open_in_reach l t.window s d.asks) d.low) t.window.frontier (next_after s (candidates l t.window s d.asks)))
  retried : From l t s d d.asks (held_back d.low t.window.frontier s.next)

pub data Made (l : Lent) (t : Step) (s : Scan) (d : Draft) : Proposal → Type 0 where
  made : {asks : List Ask} {next : ℕ} → From l t s d asks next → Made l t s d (non_empty_request t asks next)

made_is : (l : Lent) (t : Step) (s : Scan) (d : Draft) → Made l t s d (request_from l t s d)
unfolding request_from clean_contiguous_peer_request extend_request_by_reverse_scan
made_is l t s d = elim (both (leb s.height s.tip && ltb 0 s.limit)) [
  | inl q ↦
      let low = leb-true s.height s.tip (and_left (leb s.height s.tip) (ltb 0 s.limit) q) in
      let some = ltb-true 0 s.limit (and_right (leb s.height s.tip) (ltb 0 s.limit) q) in
      rw q (elim (both (is_clean l t.window s d)) [
        | inl c ↦ rw c (made (stretch c low some))
        | inr c ↦ rw c (made (scanned low some))
      ])
  | inr q ↦ rw q (made retried)
]

-- ---- a plan of either call

module _ (source : ℕ) (l : Lent) (now : ℕ) (w : Window) where
  abbrev pub the_batch : ℕ
  the_batch = batch_limit source l.count (expire_pending now w).window

  abbrev pub the_draft : Draft
  the_draft = let t = expire_pending now w in expired_request_entries l t.window (swept_asks t.gone) the_batch (byte_capacity l.bytes t.window) None

  abbrev pub the_step : Step
  the_step = after (expire_pending now w) (maybe_rewind_request_frontier l)

  abbrev pub the_scan : Scan
  the_scan = scan_of l the_step.window the_batch the_draft

  pub data Plan : Proposal → Type 0 where
    -- staged bytes are exhausted, or the peer is expired or cooling: nothing is swept
    unasked : Plan (no_request (stay w))
    -- swept, and no capacity
    no_room : Plan (no_request (expire_pending now w))
    -- swept and rewound
    room : {P : Proposal} → Made l the_step the_scan the_draft P → Plan P

  pub retry_plan : Plan (next_peer_request_allowing_retry source l now w)
  unfolding next_peer_request_allowing_retry request_after compute_request_capacity
  retry_plan =
      let t = expire_pending now w in
      picked Plan l.exhausted (no_request (stay w)) (request_after source l t) (λ q. unasked) (λ q.
      picked (λ (k : Capacity). Plan (request_by k l t)) (eqb the_batch 0 || ltb (byte_capacity l.bytes t.window) t.window.mean) no_capacity (capacity the_batch (byte_capacity l.bytes t.window))
      (λ r. no_room) (λ r. room (made_is l the_step the_scan the_draft)))

  pub first_plan : Plan (next_peer_request source l now w)
  unfolding next_peer_request
  first_plan =
      picked Plan (peer_has_expired_pending source now w || peer_in_staller_cooldown source now w) (no_request (stay w)) (next_peer_request_allowing_retry source l now w)
      (λ q. unasked) (λ q. retry_plan)

-- ---- what it leaves

module _ (t : Step) (next : ℕ) where
  pub named_asks : (asks : List Ask) → (non_empty_request t asks next).asks ≡ asks
  unfolding non_empty_request
  named_asks [] = refl
  named_asks (a ∷ asks) = refl

  pub named_window : (asks : List Ask) → (non_empty_request t asks next).window ≡ t.window
  unfolding non_empty_request
  named_window [] = refl
  named_window (a ∷ asks) = refl

  pub named_gone : (asks : List Ask) → (non_empty_request t asks next).gone ≡ t.gone
  unfolding non_empty_request
  named_gone [] = refl
  named_gone (a ∷ asks) = refl

-- rewinding changes the frontier alone
pub rewind_is : (l : Lent) (w : Window) → maybe_rewind_request_frontier l w ≡ with_frontier (maybe_rewind_request_frontier l w).frontier w
unfolding maybe_rewind_request_frontier
rewind_is l w = elim (both (ltb l.start w.frontier && is_first_open l w (drop l.start (hashes_in l.chain)))) [
  | inl q ↦ rw q
  | inr q ↦ rw q
]

pub rewind_queue : (l : Lent) (w : Window) → (maybe_rewind_request_frontier l w).queue ≡ w.queue
rewind_queue l w = ap (λ (v : Window). v.queue) (rewind_is l w)
