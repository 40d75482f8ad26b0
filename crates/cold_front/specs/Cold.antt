-- What the code's answers say in the model's words, and the laws that its steps stand on. Assumes nothing.
use Rattle.std.specs.Prelude.{◌≡◌, true, false, ◌&&◌, ◌||◌, [], ◌∷◌, ◌++◌, ℕ, ◌≤◌, ◌<◌, length, eqb, None, Some, Option}
use Rattle.std.proofs.Common.{sym, arith}
use Rattle.std.proofs.Math.Logic.{inl, inr}
use Rattle.std.proofs.Math.Dec.{leb}
use borrow.Author.Tests.{ne_eqb, le-leb, lt-leb}
use Rattle.model.specs.Numbers.{max_clock, present}
use Rattle.model.specs.Lists.{any}
use Rattle.model.specs.Hash.{same}
use Rattle.model.specs.Records.{at_height}
use Rattle.model.specs.Window.{Window, with_cold, with_hedged}
use Rattle.model.specs.Races.{Hedge, no_hedge, hedge, ColdStep, cold_step, max_hedges, is_racing, wait_on, cold_at, advance_cold_front, waits_for, hedge_begun, confirm_cold_front_hedge}
use Rattle.model.specs.declared.Hash.{Hash}
use Rattle.model.specs.declared.Entry.{Entry}
use Rattle.model.specs.declared.Pace.{Pace}
use Rattle.model.specs.declared.Settings.{Settings}
use Rattle.model.specs.declared.ColdFront.{ColdFront}
use Rattle.model.specs.declared.ColdFront.TheVariants.{Idle, Waiting, Racing}
use Rattle.laws.specs.Numbers.{both}
use Rattle.laws.specs.Sound.{SoundCold}
use Rattle.states.specs.Fits.{cold_fits}
use Rattle.cold_front.specs.declared.Turn.{Turn}

-- the model's hedge
abbrev pub asked : Option (ℕ × Hash) → Hedge
asked None = no_hedge
asked (Some p) = hedge p.0 p.1

-- the model's step
abbrev pub turned : Turn → ColdStep
turned t = cold_step t.cold (asked t.asks)

-- ---- what is written can be written

module _ (clock : ℕ) (k : clock ≤ max_clock) where
  sound_fits : (x : ColdFront) → SoundCold clock x → cold_fits x
  sound_fits Idle s = tt
  sound_fits (Waiting owner h since) s = omega arith
  sound_fits (Racing owner alternate h) s = tt

  wait_fits : (x : ColdFront) (e : Entry) (initial : ℕ) → SoundCold clock x → cold_fits (wait_on x e initial clock).cold
  wait_fits Idle e initial s = k
  wait_fits (Racing owner alternate h) e initial s = k
  wait_fits (Waiting owner h since) e initial s = elim (both (eqb owner e.owner && same h e.hash)) [
    | inl q ↦ rw q (omega arith)
    | inr q ↦ rw q k
  ]

  at_fits : (f : Option Entry) (x : ColdFront) (initial : ℕ) → SoundCold clock x → cold_fits (cold_at f x initial clock).cold
  at_fits None x initial s = tt
  at_fits (Some e) x initial s = wait_fits x e initial s

  pub advance_fits : (next : ℕ) (w : Window) → SoundCold clock w.races.cold → cold_fits (advance_cold_front next clock w).cold
  unfolding advance_cold_front
  advance_fits next w s = elim (both (is_racing w.races.cold)) [
    | inl q ↦ rw q (sound_fits w.races.cold s)
    | inr q ↦ rw q (elim (both (present w.pace.mean || leb max_hedges (length w.races.hedged))) [
      | inl p ↦ rw p tt
      | inr p ↦ rw p (at_fits (at_height next w.queue.pending) w.races.cold w.settings.stall_timeout_initial s)
    ])
  ]

-- ---- the step, case by case; x, p, n, f and s are what the code read

module _ (next clock : ℕ) (w : Window) (x : ColdFront) (ex : x ≡ w.races.cold) where
  pub turn_racing : is_racing x ≡ true → cold_step x no_hedge ≡ advance_cold_front next clock w
  unfolding advance_cold_front
  turn_racing r = rw (← ex, r)

  module _ (calm : is_racing x ≡ false) (p : Pace) (ep : p ≡ w.pace) where
    pub turn_paced : (p.mean ≡ 0 → ⊥) → cold_step Idle no_hedge ≡ advance_cold_front next clock w
    unfolding advance_cold_front present
    turn_paced m = rw (← ex, calm, ← ep, ne_eqb _ _ m)

    module _ (m : p.mean ≡ 0) (n : ℕ) (en : n ≡ length w.races.hedged) where
      pub turn_hedged : 2 ≤ n → cold_step Idle no_hedge ≡ advance_cold_front next clock w
      unfolding advance_cold_front present
      turn_hedged h = rw (← ex, calm, ← ep, m, ← en, le-leb _ _ h)

      module _ (h : n < 2) (f : Option Entry) (ef : f ≡ at_height next w.queue.pending) where
        pub turn_none : f ≡ None → cold_step Idle no_hedge ≡ advance_cold_front next clock w
        unfolding advance_cold_front present
        turn_none q = rw (← ex, calm, ← ep, m, ← en, lt-leb _ _ h, ← ef, q)

        pub turn_at : (e : Entry) (s : Settings) → f ≡ Some e → s ≡ w.settings → wait_on x e s.stall_timeout_initial clock ≡ advance_cold_front next clock w
        unfolding advance_cold_front present
        turn_at e s q es = rw (← ex, calm, ← ep, m, ← en, lt-leb _ _ h, ← ef, q, ← es)

-- ---- the confirmation, case by case

module _ (owner alternate : ℕ) (h : Hash) (w : Window) (x : ColdFront) (ex : x ≡ w.races.cold) where
  pub confirm_not : waits_for x owner h ≡ false → w ≡ confirm_cold_front_hedge owner alternate h w
  unfolding confirm_cold_front_hedge
  confirm_not q = rw (← ex, q)

  module _ (waits : waits_for x owner h ≡ true) where
    pub confirm_known : any (λ y. same y h) w.races.hedged ≡ true → with_cold (Racing owner alternate h) w ≡ confirm_cold_front_hedge owner alternate h w
    unfolding confirm_cold_front_hedge hedge_begun
    confirm_known q = simp (sym ex, waits, q)

    module _ (new : any (λ y. same y h) w.races.hedged ≡ false) (n : ℕ) (en : n ≡ length w.races.hedged) where
      pub confirm_full : 2 ≤ n → w ≡ confirm_cold_front_hedge owner alternate h w
      unfolding confirm_cold_front_hedge
      confirm_full k = rw (← ex, waits, new, ← en, le-leb _ _ k)

      pub confirm_new : n < 2 → with_cold (Racing owner alternate h) (with_hedged (w.races.hedged ++ (h ∷ [])) w) ≡ confirm_cold_front_hedge owner alternate h w
      unfolding confirm_cold_front_hedge hedge_begun
      confirm_new k = rw (← ex, waits, new, ← en, lt-leb _ _ k)
