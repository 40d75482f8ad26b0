-- What a step that may let go leaves: a sound window, and what goes picked out of the pending entries; and how such steps follow one another.
-- Assumes nothing.
use Rattle.std.specs.Prelude.{◌≡◌, ℕ}
use Rattle.std.proofs.Common.{◌∙◌}
use Rattle.model.specs.Window.{Window, queue, Step, stay, and_then, after}
use Rattle.model.specs.LettingGo.{gone}
use Rattle.laws.specs.Entries.{at, Picks, done, picks_append}
use Rattle.laws.specs.Sound.{Sound}

-- a step from w that may let go
pub record Lets (c : ℕ) (w : Window) (s : Step) : Type 0 where
  pub sound : Sound c s.window
  pub picks : Picks s.gone w.queue.pending s.window.queue.pending

-- a step from w to v that lets nothing go and takes nothing in
pub record Steady (c : ℕ) (w v : Window) : Type 0 where
  pub sound : Sound c v
  pub same : v.queue.pending ≡ w.queue.pending

module _ {c : ℕ} {w : Window} where
  pub lets_stay : {v : Window} → Steady c w v → Lets c w (stay v)
  lets_stay {v} h = record { sound = h.sound; picks = rw h.same done }

  pub lets_then : {s : Step} (f : Window → Step) → Lets c w s → ((v : Window) → Sound c v → Lets c v (f v)) → Lets c w (and_then s f)
  lets_then {s} f h k = let x = k s.window h.sound in record { sound = x.sound; picks = picks_append h.picks x.picks }

  pub lets_after : {s : Step} (f : Window → Window) → Lets c w s → ((v : Window) → Sound c v → Steady c v (f v)) → Lets c w (after s f)
  lets_after {s} f h k = let x = k s.window h.sound in record { sound = x.sound; picks = rw x.same h.picks }

  -- a steady step before
  pub steady_lets : {v : Window} {s : Step} → Steady c w v → Lets c v s → Lets c w s
  steady_lets h k = record { sound = k.sound; picks = rw h.same at k.picks }

  pub steady_then : {v u : Window} → Steady c w v → Steady c v u → Steady c w u
  steady_then h k = record { sound = k.sound; same = k.same ∙ h.same }
