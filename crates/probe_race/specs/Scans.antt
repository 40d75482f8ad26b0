-- The scans of the race: the place of a hash, the winner, the seats that keep what they have. Assumes nothing.
use Rattle.std.specs.Prelude.{◌≡◌, refl, Bool, true, false, ◌||◌, List, ℕ, suc, ◌<◌, length, set, drop, eqb, None, Some}
use Rattle.std.proofs.Common.{sym, ◌∙◌, arith, drop-cons, get_or-set_other}
use Rattle.std.proofs.Math.Path.{ap, subst}
use Rattle.std.proofs.Math.Logic.{inl, inr}
use Rattle.std.proofs.Math.Bool.{cond, not}
use Rattle.std.proofs.Math.ListN.{get_or, length-set}
use Rattle.std.proofs.Math.Seq.{drop-length, get_or-set_same}
use borrow.Author.Tests.{eqb-true, eqb-false}
use Rattle.model.specs.Numbers.{present}
use Rattle.model.specs.Hash.{same}
use Rattle.model.specs.LettingGo.{flagged}
use Rattle.model.specs.Races.{place_of, has_won, winner}
use Rattle.model.specs.declared.Hash.{Hash}
use Rattle.laws.specs.Numbers.{both}

-- ---- the place of a hash

module _ (h : Hash) (l : List Hash) (i : ℕ) (d : Hash) (k : i < length l) where
  pub place_here : same (get_or l i d) h ≡ true → place_of h (drop i l) ≡ 0
  unfolding place_of
  place_here e = ap (place_of h) (drop-cons l i d k) ∙ ap (λ (b : Bool). cond b 0 (suc (place_of h (drop (suc i) l)))) e

  pub place_on : same (get_or l i d) h ≡ false → place_of h (drop i l) ≡ suc (place_of h (drop (suc i) l))
  unfolding place_of
  place_on e = ap (place_of h) (drop-cons l i d k) ∙ ap (λ (b : Bool). cond b 0 (suc (place_of h (drop (suc i) l)))) e

pub place_end : (h : Hash) (l : List Hash) → place_of h (drop (length l) l) ≡ 0
unfolding place_of
place_end h l = ap (place_of h) (drop-length l)

-- ---- the winner

pub winner_turn : (l : List ℕ) (s : ℕ) (b : Bool) → s < length l → has_won (get_or l s 0) ≡ b → winner s (drop s l) ≡ cond b (Some s) (winner (suc s) (drop (suc s) l))
unfolding winner
winner_turn l s b k e = ap (winner s) (drop-cons l s 0 k) ∙ ap (λ (x : Bool). cond x (Some s) (winner (suc s) (drop (suc s) l))) e

pub winner_end : (l : List ℕ) (s : ℕ) → s ≡ length l → winner s (drop s l) ≡ None
unfolding winner
winner_end l s e = rw e (ap (winner (length l)) (drop-length l))

-- ---- the seats that keep what they have: the winner, and those that do not race

module _ (win : ℕ) (racers : List ℕ) where
  unfoldable pub keeps : ℕ → Bool
  keeps s = eqb s win || not (present (get_or racers s 0))

  -- those before n are flagged
  pub record Flags (n : ℕ) (flags : List ℕ) : Type 0 where
    pub long : length flags ≡ 256
    pub each : (s : ℕ) → s < n → flagged flags s ≡ keeps s

  flag_back : (b : Bool) → not (eqb (cond b 1 0) 0) ≡ b
  flag_back true = refl
  flag_back false = refl

  pub flags_none : (flags : List ℕ) → length flags ≡ 256 → Flags 0 flags
  flags_none flags e = record { long = e; each = λ s k. absurd (omega arith) }

  pub flags_turn : (n v : ℕ) (flags : List ℕ) → n < 256 → v ≡ cond (keeps n) 1 0 → Flags n flags → Flags (suc n) (set flags n v)
  unfolding flagged
  flags_turn n v flags h e f = record {
    long = length-set flags n v ∙ f.long;
    each = λ s k. elim (both (eqb s n)) [
      | inl q ↦
          let z = eqb-true s n q in
          let g : get_or (set flags n v) n 0 ≡ cond (keeps n) 1 0 = get_or-set_same flags n v 0 (omega (arith, f.long)) ∙ e in
          subst (λ (t : ℕ). not (eqb (get_or (set flags n v) t 0) 0) ≡ keeps t) (sym z) (ap (λ (x : ℕ). not (eqb x 0)) g ∙ flag_back (keeps n))
      | inr q ↦
          let z = eqb-false s n q in
          ap (λ (x : ℕ). not (eqb x 0)) (get_or-set_other flags n s v 0 z) ∙ f.each s (omega arith)
    ];
  }
