-- Planning keeps a window sound. Assumes nothing.
use Rattle.std.specs.Prelude.{refl, ◌&&◌, ℕ, drop}
use Rattle.std.proofs.Common.{inl, inr, arith, ltb-true}
use Rattle.std.proofs.Math.Dec.{ltb}
use Rattle.model.specs.Hash.{hashes_in}
use Rattle.model.specs.Window.{Window, Step, stay, after}
use Rattle.model.specs.Planning.{Lent, is_first_open, maybe_rewind_request_frontier, next_peer_request_allowing_retry, next_peer_request}
use Rattle.laws.specs.Numbers.{both, and_left}
use Rattle.laws.specs.Sound.{Sound}
use Rattle.laws.specs.Parts.{sound_frontier}
use Rattle.laws.specs.Lets.{Lets, Steady, lets_stay, lets_after}
use Rattle.laws.proofs.Lets.{expire_lets}
use Rattle.laws.specs.PlansKept.{step_of, plans_retry_keeps, plans_keeps}

-- rewound is only what starts below the frontier
rewind_steady : {c : ℕ} (l : Lent) (w : Window) → Sound c w → Steady c w (maybe_rewind_request_frontier l w)
unfolding maybe_rewind_request_frontier
rewind_steady l w g =
    let below = ltb l.start w.frontier in
    let is_open = is_first_open l w (drop l.start (hashes_in l.chain)) in
    elim (both (below && is_open)) [
      | inl q ↦ rw q (record { sound = sound_frontier g l.start (omega (arith, ltb-true l.start w.frontier (and_left below is_open q), g.frontier)); same = refl })
      | inr q ↦ rw q (record { sound = g; same = refl })
    ]

module _ {c : ℕ} {w : Window} (source : ℕ) (l : Lent) (g : Sound c w) where
  rewind_lets : (s : Step) → Lets c w s → Lets c w (after s (maybe_rewind_request_frontier l))
  rewind_lets s h = lets_after (maybe_rewind_request_frontier l) h (rewind_steady l)

  stay_lets : Lets c w (stay w)
  stay_lets = lets_stay (record { sound = g; same = refl })

  pub plans_retry_lets : Lets c w (step_of (next_peer_request_allowing_retry source l c w))
  plans_retry_lets = plans_retry_keeps (Lets c w) l rewind_lets source c w stay_lets (expire_lets g)

  pub plans_lets : Lets c w (step_of (next_peer_request source l c w))
  plans_lets = plans_keeps (Lets c w) l rewind_lets source c w stay_lets (expire_lets g)
