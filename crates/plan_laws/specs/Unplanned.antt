-- Where nothing is planned, and how far the frontier is rewound. Assumes nothing.
use Rattle.std.specs.Prelude.{◌≡◌, refl, Bool, true, false, cond, ◌&&◌, ◌||◌, List, [], ◌∷◌, ℕ, zero, suc, ltb, length, get_or, drop}
use Rattle.std.proofs.Common.{subst, ◌∙◌, inl, inr, arith, lt-ltb, le-ltb}
use Rattle.std.proofs.Math.Dec.{leb-suc-suc}
use Rattle.model.specs.Hash.{hashes_in}
use Rattle.model.specs.Window.{Window, stay}
use Rattle.model.specs.Time.{peer_has_expired_pending}
use Rattle.model.specs.Cooling.{peer_in_staller_cooldown}
use Rattle.model.specs.Capacity.{no_capacity, compute_request_capacity}
use Rattle.model.specs.LettingGo.{expire_pending}
use Rattle.model.specs.Planning.{Lent, ask, is_open, no_request, is_first_open, maybe_rewind_request_frontier, request_by, request_after, next_peer_request_allowing_retry, next_peer_request}
use Rattle.model.specs.declared.Hash.{Hash}
use Rattle.laws.specs.Numbers.{both}

-- ---- where nothing is planned

pub first_alike : (source : ℕ) (l : Lent) (now : ℕ) (w : Window) → (peer_has_expired_pending source now w || peer_in_staller_cooldown source now w) ≡ false
    → next_peer_request source l now w ≡ next_peer_request_allowing_retry source l now w
unfolding next_peer_request
first_alike source l now w e = λ i. cond (e i) (no_request (stay w)) (next_peer_request_allowing_retry source l now w)

pub first_none : (source : ℕ) (l : Lent) (now : ℕ) (w : Window) → (peer_has_expired_pending source now w || peer_in_staller_cooldown source now w) ≡ true
    → next_peer_request source l now w ≡ no_request (stay w)
unfolding next_peer_request
first_none source l now w e = λ i. cond (e i) (no_request (stay w)) (next_peer_request_allowing_retry source l now w)

pub retry_none : (source : ℕ) (l : Lent) (now : ℕ) (w : Window) → l.exhausted ≡ true → next_peer_request_allowing_retry source l now w ≡ no_request (stay w)
unfolding next_peer_request_allowing_retry
retry_none source l now w e = λ i. cond (e i) (no_request (stay w)) (request_after source l (expire_pending now w))

pub retry_swept : (source : ℕ) (l : Lent) (now : ℕ) (w : Window) → l.exhausted ≡ false → compute_request_capacity source l.bytes l.count (expire_pending now w).window ≡ no_capacity
    → next_peer_request_allowing_retry source l now w ≡ no_request (expire_pending now w)
unfolding next_peer_request_allowing_retry request_after
retry_swept source l now w e c =
    (λ i. cond (e i) (no_request (stay w)) (request_after source l (expire_pending now w))) ∙ (λ i. request_by (c i) l (expire_pending now w))

-- ---- the frontier is rewound to a start height that is open

first_open_at : (l : Lent) (w : Window) (x : Hash) (n : ℕ) (hs : List Hash) → is_first_open l w (drop n hs) ≡ (ltb n (length hs) && is_open l w (ask (get_or hs n x) l.start))
first_open_at l w x zero [] = refl
first_open_at l w x (suc n) [] = rw (le-ltb (suc n) 0 (omega arith))
first_open_at l w x zero (h ∷ hs) = rw (lt-ltb 0 (suc (length hs)) (omega arith))
first_open_at l w x (suc n) (h ∷ hs) = first_open_at l w x n hs ∙ rw (leb-suc-suc (suc n) (length hs))

pub rewound_frontier : (l : Lent) (w : Window) (x : Hash) → let chain = hashes_in l.chain in (maybe_rewind_request_frontier l w).frontier
    ≡ cond (ltb l.start w.frontier && (ltb l.start (length chain) && is_open l w (ask (get_or chain l.start x) l.start))) l.start w.frontier
unfolding maybe_rewind_request_frontier
rewound_frontier l w x =
    let chain = hashes_in l.chain in
    subst (λ (b : Bool). (maybe_rewind_request_frontier l w).frontier ≡ cond (ltb l.start w.frontier && b) l.start w.frontier) (first_open_at l w x l.start chain)
    (elim (both (ltb l.start w.frontier && is_first_open l w (drop l.start chain))) [ inl q ↦ rw q | inr q ↦ rw q ])
