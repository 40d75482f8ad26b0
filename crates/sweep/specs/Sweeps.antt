-- The sweep and retirement on words that hold a window. Assumes nothing.
use Rattle.std.specs.Prelude.{◌≡◌, refl, Bool, true, cond, List, [], ◌∷◌, map, ℕ, zero, suc, ◌+◌, ◌≤◌, ◌<◌, length, take}
use Rattle.std.proofs.Common.{sym, ap, ◌∙◌, subst, inl, inr, arith, leb-true}
use Rattle.model.specs.Numbers.{max_duration, max_seat, present}
use Rattle.model.specs.Lists.{count}
use Rattle.model.specs.Seats.{active_downloading_peers}
use Rattle.model.specs.Time.{active}
use Rattle.model.specs.LettingGo.{extract, retire_before, marked_swept, swept}
use Rattle.model.specs.Window.{Window, Step, with_observation}
use Rattle.model.specs.Layout.{window_of, settings_ok}
use Rattle.model.specs.declared.Entry.{Entry}
use Rattle.model.specs.declared.Release.{Release}
use Rattle.model.specs.declared.Settings.{Settings}
use Rattle.model.specs.declared.Observation.{Observation}
use Rattle.laws.specs.Numbers.{both}
use Rattle.laws.specs.Every.{hold}
use Rattle.laws.specs.Sound.{Sound}
use Rattle.laws.specs.Batches.{batch, retire_reason}
use Rattle.laws.proofs.Batches.{retire_is}
use Rattle.laws.specs.Marks.{extract_by, extract_marked}
use Rattle.laws.specs.Pending.{pending_few}
use Rattle.laws.specs.Whole.{Whole, Holds, words_shaped}
use Rattle.report_words.specs.Report.{releases_of}

-- ---- the ranges that the timeout asks for

count_le : (p : ℕ → Bool) (l : List ℕ) → count p l ≤ length l
unfolding count
count_le p [] = omega arith
count_le p (x ∷ l) = elim (both (p x)) [ inl q ↦ rw q (omega (arith, count_le p l)) | inr q ↦ rw q (omega (arith, count_le p l)) ]

pub active_le : (ws : List ℕ) → length ws ≡ 4096 → active (window_of ws) ≤ suc max_seat
unfolding active active_downloading_peers
active_le ws n = omega (arith, count_le present (window_of ws).queue.starts, (words_shaped ws n).starts)

pub spacing_le : (b : Settings) → settings_ok b ≡ true → b.block_spacing ≤ max_duration
unfolding settings_ok
spacing_le b e = leb-true b.block_spacing max_duration (hold _ e 7)

-- ---- marks that are `goes` of each entry

module _ (goes : Entry → ℕ) (ws ms core : List ℕ) (n : ℕ) (k : length ms ≡ 256)
    (m : take (length (window_of ws).queue.pending) ms ≡ map goes (window_of ws).queue.pending) (g : releases_of n core ≡ (extract_by ms (window_of ws)).gone) where
  pub marked_is : extract_by ms (window_of ws) ≡ extract goes (window_of ws)
  marked_is = extract_marked goes ms (window_of ws) (omega (arith, pending_few ws)) m

  pub gone_marked : releases_of n core ≡ (extract goes (window_of ws)).gone
  gone_marked = g ∙ ap (λ (s : Step). s.gone) marked_is

  -- the batch, then the observation
  pub swept_holds : (now : ℕ) (o x : Observation) (ws₁ ws₂ : List ℕ) → Holds (batch now (extract_by ms (window_of ws))).window ws₁
      → o ≡ (window_of ws₁).watch.observation → x ≡ marked_swept (releases_of n core) o → Holds (with_observation x (window_of ws₁)) ws₂
      → Holds (swept now (extract goes (window_of ws))).window ws₂
  swept_holds now o x ws₁ ws₂ a p q b =
      let s = extract_by ms (window_of ws) in
      let saw : x ≡ marked_swept s.gone (batch now s).window.watch.observation = q ∙ (λ i. marked_swept (g i) ((p ∙ ap (λ (v : Window). v.watch.observation) a.is) i)) in
      subst (λ (t : Step). Holds (swept now t).window ws₂) marked_is (subst (λ (v : Window). Holds v ws₂) (λ i. with_observation (saw i) (a.is i)) b)

-- retirement is the batch itself
module _ (height now : ℕ) (ws ms core : List ℕ) (n : ℕ) (k : length ms ≡ 256)
    (m : take (length (window_of ws).queue.pending) ms ≡ map (retire_reason height) (window_of ws).queue.pending) (s : Sound now (window_of ws)) where
  retired_is : batch now (extract_by ms (window_of ws)) ≡ retire_before height now (window_of ws)
  retired_is = ap (batch now) (extract_marked (retire_reason height) ms (window_of ws) (omega (arith, pending_few ws)) m) ∙ sym (retire_is height now (window_of ws) s)

  pub retired_holds : (ws₁ : List ℕ) → Holds (batch now (extract_by ms (window_of ws))).window ws₁ → Holds (retire_before height now (window_of ws)).window ws₁
  retired_holds ws₁ a = subst (λ (t : Step). Holds t.window ws₁) retired_is a

  pub retired_gone : releases_of n core ≡ (extract_by ms (window_of ws)).gone → releases_of n core ≡ (retire_before height now (window_of ws)).gone
  retired_gone g = g ∙ ap (λ (t : Step). t.gone) retired_is
