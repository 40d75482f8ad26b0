-- What planning leaves of a window and lets go: the window as it was, or its sweep, which may be rewound. Assumes nothing.
use Rattle.std.specs.Prelude.{Bool, true, false, cond, ◌&&◌, ◌||◌, List, ℕ, leb, None}
use Rattle.std.proofs.Math.Dec.{ltb}
use Rattle.model.specs.Window.{Window, Step, stay, after}
use Rattle.model.specs.Time.{peer_has_expired_pending}
use Rattle.model.specs.Cooling.{peer_in_staller_cooldown}
use Rattle.model.specs.Capacity.{Capacity, no_capacity, capacity, compute_request_capacity}
use Rattle.model.specs.LettingGo.{expire_pending}
use Rattle.model.specs.Races.{is_empty}
use Rattle.model.specs.Calls.{Ask}
use Rattle.model.specs.Planning.{Lent, Draft, Scan, Proposal, no_request, non_empty_request, expired_request_entries, swept_asks, held_back, maybe_rewind_request_frontier, is_clean, clean_contiguous_peer_request, extend_request_by_reverse_scan, scan_of, request_from, request_by, request_after, next_peer_request_allowing_retry, next_peer_request}

-- a proposal without its request
abbrev pub step_of : Proposal → Step
step_of p = record { window = p.window; gone = p.gone }

-- what a request is made of has no part in the step
module _ (P : Step → Type 0) where
  either : (b : Bool) (p q : Proposal) → P (step_of p) → P (step_of q) → P (step_of (cond b p q))
  either true p q h k = h
  either false p q h k = k

  request_keeps : (s : Step) (asks : List Ask) (next : ℕ) → P s → P (step_of (non_empty_request s asks next))
  unfolding non_empty_request
  request_keeps s asks next h = either (is_empty asks) (no_request s) (record { window = s.window; gone = s.gone; asks = asks; next = next }) h h

  clean_keeps : (l : Lent) (t : Step) (s : Scan) → P t → P (step_of (clean_contiguous_peer_request l t s))
  unfolding clean_contiguous_peer_request
  clean_keeps l t s h = request_keeps t _ _ h

  scan_keeps : (l : Lent) (t : Step) (s : Scan) (d : Draft) → P t → P (step_of (extend_request_by_reverse_scan l t s d))
  unfolding extend_request_by_reverse_scan
  scan_keeps l t s d h = request_keeps t _ _ h

  from_keeps : (l : Lent) (t : Step) (s : Scan) (d : Draft) → P t → P (step_of (request_from l t s d))
  unfolding request_from
  from_keeps l t s d h =
      let made = clean_contiguous_peer_request l t s in
      let scanned = extend_request_by_reverse_scan l t s d in
      either (leb s.height s.tip && ltb 0 s.limit) (cond (is_clean l t.window s d) made scanned)
      (non_empty_request t d.asks (held_back d.low t.window.frontier s.next))
      (either (is_clean l t.window s d) made scanned (clean_keeps l t s h) (scan_keeps l t s d h)) (request_keeps t d.asks _ h)

  module _ (l : Lent) (rewinds : (s : Step) → P s → P (after s (maybe_rewind_request_frontier l))) where
    by_keeps : (k : Capacity) (s : Step) → P s → P (step_of (request_by k l s))
    by_keeps no_capacity s h = h
    by_keeps (capacity batch bytes) s h =
        let d = expired_request_entries l s.window (swept_asks s.gone) batch bytes None in
        let t = after s (maybe_rewind_request_frontier l) in
        from_keeps l t (scan_of l t.window batch d) d (rewinds s h)

    module _ (source now : ℕ) (w : Window) (stays : P (stay w)) (sweeps : P (expire_pending now w)) where
      pub plans_retry_keeps : P (step_of (next_peer_request_allowing_retry source l now w))
      unfolding next_peer_request_allowing_retry request_after
      plans_retry_keeps =
          let s = expire_pending now w in
          let k = compute_request_capacity source l.bytes l.count s.window in
          either l.exhausted (no_request (stay w)) (request_by k l s) stays (by_keeps k s sweeps)

      pub plans_keeps : P (step_of (next_peer_request source l now w))
      unfolding next_peer_request
      plans_keeps =
          either (peer_has_expired_pending source now w || peer_in_staller_cooldown source now w) (no_request (stay w)) (next_peer_request_allowing_retry source l now w)
          stays plans_retry_keeps
