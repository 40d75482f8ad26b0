-- What every call that lets go promises, before its report is written: generic over the call. Assumes nothing.
use Rattle.std.specs.Prelude.{◌≡◌, refl, Bool, true, not, ◌||◌, List, ◌++◌, ℕ, ◌*◌, ◌≤◌, length, drop, ltb, Option, None, Some, Result, IsErrAnd}
use Rattle.std.proofs.Math.Path.{sym, ap}
use Rattle.std.proofs.Common.{subst, ◌∙◌, inl, inr}
use native.Mathlib.Omega.{arith}
use borrow.Author.Tests.{leb-true}
use Rattle.model.specs.Numbers.{read_clock, present}
use Rattle.model.specs.Window.{Window, with_clock, with_cold, with_preferred, with_attempted}
use Rattle.model.specs.Layout.{window_of}
use Rattle.model.specs.Refusals.{Change, changes, Moment, timeless, at, checks, report_ok, window_refusal}
use Rattle.model.specs.Perform.{Answer, refused, says, change, moment_of, changed, words_after, gone_after, answer_after, perform}
use Rattle.model.specs.Records.{found}
use Rattle.model.specs.Seats.{keep_seats}
use Rattle.model.specs.Lists.{count}
use Rattle.model.specs.LettingGo.{take_out, remove_pending, extract, seats_kept, retain_peer_assignments, cold_kept, peer_kept, probe_kept, roles_kept, flagged, retain_owned_by}
use Rattle.model.specs.Calls.{is_owner, rejected_by, reject_delivery}
use Rattle.model.specs.Says.{number, says_by}
use Rattle.model.specs.declared.Refusal.{Refusal}
use Rattle.model.specs.declared.Hash.{Hash}
use Rattle.model.specs.declared.Release.{Release}
use Rattle.model.specs.declared.PrefixProbe.{PrefixProbe}
use Rattle.laws.specs.Numbers.{both}
use Rattle.laws.specs.Whole.{Holds}
use Rattle.refusals.specs.Outcomes.{leaves_refused, leaves_changed, performs, admitted, clock_set}
use Rattle.refusals.specs.Passed.{number_some, says_refused}
use Rattle.report_words.specs.Report.{releases_of, length_releases}
use Rattle.model.specs.declared.Entry.{Entry}

-- how many places of the report an answer counts
abbrev pub places : Answer → ℕ
places (refused n) = 0
places (says n values) = n

-- the promise, of the answer a, the words that are left and the flat words of what went, which are as many as `size`
abbrev pub LetsGo : ℕ → Change → List ℕ → ℕ → Answer → List ℕ → List ℕ → Type 0
LetsGo size x ws room a ws' gone =
    (a ≡ answer_after (changes x) ws room)
    × (ws' ≡ words_after (changes x) ws room)
    × (releases_of (places a) gone ≡ gone_after (changes x) ws room)
    × (places a ≤ room)
    × (9 * places a ≤ size)

module _ (size : ℕ) (x : Change) (ws : List ℕ) (room n : ℕ) (e : n ≡ window_refusal (checks x) ws room) where
  pub lets_refused : (gone : List ℕ) → (n ≡ 0 → ⊥) → LetsGo size x ws room (refused n) ws gone
  unfolding releases_of
  lets_refused gone h = let l = leaves_refused (changes x) ws room n e h in (l.0, l.1, l.2, omega arith, omega arith)

  module _ (z : n ≡ 0) (goes : (checks x).lets_go ≡ true) where
    -- an accepted one has room for all
    enough : 256 ≤ room
    unfolding report_ok
    enough = leb-true 256 room (subst (λ (b : Bool). report_ok b room ≡ true) goes (admitted (checks x) ws room n e z).passes.report)

    module _ (k : ℕ) (gone : List ℕ) (few : k ≤ 256) (fit : 9 * k ≤ size) where
      lets_done : (ws' : List ℕ) → Holds (changed x (window_of ws)).window ws' → releases_of k gone ≡ (changed x (window_of ws)).gone
          → (a : Answer) → a ≡ says k (changed x (window_of ws)).values → LetsGo size x ws room a ws' gone
      lets_done ws' h g a q =
          let l = leaves_changed x ws room (sym z ∙ e) in
          let many : k ≡ length (changed x (window_of ws)).gone = sym (length_releases k gone) ∙ ap length g in
          let same : places a ≡ k = ap places q in (
            q ∙ ap (λ (j : ℕ). says j (changed x (window_of ws)).values) many ∙ l.0,
            h.words ∙ l.1,
            ap (λ (j : ℕ). releases_of j gone) same ∙ g ∙ l.2,
            omega (arith, same, few, enough),
            omega (arith, same, fit),
          )

      -- with a clock: the step, then the clock
      pub lets_at : (c : ℕ) → (checks x).moment ≡ at c → (ws₁ ws₂ : List ℕ) → Holds (change x c (window_of ws)).window ws₁ → Holds (with_clock c (window_of ws₁)) ws₂
          → releases_of k gone ≡ (change x c (window_of ws)).gone → (a : Answer) → a ≡ says k (change x c (window_of ws)).values → LetsGo size x ws room a ws₂ gone
      unfolding changed read_clock
      lets_at c m ws₁ ws₂ h s g a q =
          let now : moment_of (checks x).moment (window_of ws).clock ≡ c = ap (λ (y : Moment). moment_of y (window_of ws).clock) m in
          let back = sym now in
          lets_done ws₂
          (subst (λ (t : ℕ). Holds (with_clock t (change x t (window_of ws)).window) ws₂) back (clock_set c (change x c (window_of ws)).window ws₁ ws₂ h s))
          (subst (λ (t : ℕ). releases_of k gone ≡ (change x t (window_of ws)).gone) back g)
          a
          (subst (λ (t : ℕ). a ≡ says k (change x t (window_of ws)).values) back q)

      -- without one: a step that leaves the clock
      pub lets_timeless : (checks x).moment ≡ timeless → (ws₁ : List ℕ) → Holds (change x (window_of ws).clock (window_of ws)).window ws₁
          → (change x (window_of ws).clock (window_of ws)).window.clock ≡ (window_of ws).clock
          → releases_of k gone ≡ (change x (window_of ws).clock (window_of ws)).gone → (a : Answer) → a ≡ says k (change x (window_of ws).clock (window_of ws)).values → LetsGo size x ws room a ws₁ gone
      unfolding changed
      lets_timeless m ws₁ h kept g a q =
          let last = (window_of ws).clock in
          let now : moment_of (checks x).moment last ≡ last = ap (λ (y : Moment). moment_of y last) m in
          let back = sym now in
          let v = (change x last (window_of ws)).window in
          let same : v ≡ with_clock last v = ap (λ (t : ℕ). with_clock t v) kept in
          lets_done ws₁
          (subst (λ (t : ℕ). Holds (with_clock t (change x t (window_of ws)).window) ws₁) back (subst (λ (u : Window). Holds u ws₁) same h))
          (subst (λ (t : ℕ). releases_of k gone ≡ (change x t (window_of ws)).gone) back g)
          a
          (subst (λ (t : ℕ). a ≡ says k (change x t (window_of ws)).values) back q)

-- of words taken as an array
pub lets_in : (size : ℕ) (x : Change) (ws array : List ℕ) (room : ℕ) (a : Answer) (ws' gone : List ℕ) → array ≡ ws → LetsGo size x array room a ws' gone → LetsGo size x ws room a ws' gone
lets_in size x ws array room a ws' gone e h = subst (λ (y : List ℕ). LetsGo size x y room a ws' gone) e h

-- a refusal that `?` hands on
module _ {A : Type 0} (r : Result A Refusal) (e : Refusal) (told : IsErrAnd r (λ f. f ≡ e)) where
  pub lets_passed : (f : A → Answer) (size : ℕ) (x : Change) (ws : List ℕ) (room : ℕ) (gone : List ℕ) → number e ≡ window_refusal (checks x) ws room → LetsGo size x ws room (says_by f r) ws gone
  lets_passed f size x ws room gone h = rw (says_refused r e told f) (lets_refused size x ws room (number e) h gone (number_some e))

-- ---- a single removal lets go at most one

one_out : (reason now : ℕ) (f : Option Entry) (w : Window) → length (take_out reason now f w).gone ≤ 1
one_out reason now None w = omega arith
one_out reason now (Some e) w = omega arith

pub rejected_few : (h : Hash) (source : Option ℕ) (now : ℕ) (w : Window) → length (reject_delivery h source now w).gone ≤ 1
unfolding reject_delivery remove_pending
rejected_few h source now w =
    let v = rejected_by source h w in
    elim (both (is_owner source (found h v.queue.pending))) [ inl q ↦ rw q (one_out 2 now (found h v.queue.pending) v) | inr q ↦ rw q (omega arith) ]

-- ---- dropping seats leaves the clock

probe_clock : (owns : ℕ → Bool) (p : Option PrefixProbe) (racers : List ℕ) (w : Window) → (probe_kept owns p racers w).clock ≡ w.clock
probe_clock owns None racers w = refl
probe_clock owns (Some p) racers w = elim (both (not (owns p.owner) || ltb (count present racers) 2)) [ inl q ↦ rw q refl | inr q ↦ rw q refl ]

pub retain_clock : (flags : List ℕ) (w : Window) → (retain_owned_by flags w).window.clock ≡ w.clock
unfolding retain_owned_by retain_peer_assignments extract seats_kept roles_kept
retain_clock flags w =
    let owns = flagged flags in
    probe_clock owns w.races.probe (keep_seats owns 0 w.races.racers)
    (with_attempted (peer_kept owns w.races.attempted) (with_preferred (peer_kept owns w.races.preferred) (with_cold (cold_kept owns w.races.cold) w)))

-- ---- with the report: m releases are written in its first places

module _ (size : ℕ) (x : Change) (ws : List ℕ) (xs : List Release) (a : Answer) (zs gs : List ℕ) (e : LetsGo size x ws (length xs) a zs gs) (m : ℕ) (q : m ≡ places a) where
  -- the writer has room, and words to read
  pub lets_fewer : length gs ≡ size → (m ≤ length xs) × (9 * m ≤ length gs)
  lets_fewer l = (omega (arith, q, e.3), omega (arith, q, e.4, l))

  pub lets_performs : (ys : List Release) → ys ≡ releases_of m gs ++ drop m xs
      → (a ≡ (perform (changes x) ws xs).answer) × (zs ≡ (perform (changes x) ws xs).words) × (ys ≡ (perform (changes x) ws xs).report)
  lets_performs ys w =
      let k = performs (changes x) ws xs a zs (releases_of (places a) gs) (e.0, e.1, e.2) in
      let same : ys ≡ releases_of (places a) gs ++ drop (length (releases_of (places a) gs)) xs =
      w ∙ ap (λ (j : ℕ). releases_of j gs ++ drop j xs) q ∙ ap (λ (j : ℕ). releases_of (places a) gs ++ drop j xs) (sym (length_releases (places a) gs)) in
      (k.0, k.1, same ∙ k.2)
