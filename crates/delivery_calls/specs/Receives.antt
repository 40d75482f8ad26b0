-- A delivery step by step. Assumes nothing.
use Rattle.std.specs.Prelude.{◌≡◌, true, List, [], ◌∷◌, ◌++◌, ℕ, suc, ◌+◌, ◌≤◌, length, None, Some, Option}
use Rattle.std.proofs.Math.Path.{refl, ap}
use Rattle.std.proofs.Common.{sym, subst, ◌∙◌, arith, add-one, length-append, leb-true}
use Rattle.model.specs.Numbers.{max_seat}
use Rattle.model.specs.Reasons.{release}
use Rattle.model.specs.Records.{found}
use Rattle.model.specs.LettingGo.{take_out, remove_pending}
use Rattle.model.specs.Calls.{credit_by, height_of, next_mean, mark_received_from}
use Rattle.model.specs.Refusals.{source_ok}
use Rattle.model.specs.Perform.{says, height_values}
use Rattle.model.specs.Says.{received_answer}
use Rattle.model.specs.Window.{Window, Step, and_then, after, with_mean}
use Rattle.model.specs.declared.Hash.{Hash}
use Rattle.model.specs.declared.Entry.{Entry}
use Rattle.model.specs.declared.Release.{Release}
use Rattle.model.specs.declared.Received.{Received}
use Rattle.laws.specs.Bag.{one, weigh_one}
use Rattle.laws.specs.Entries.{Picks, picks_weigh}
use Rattle.laws.specs.Sound.{Sound, SoundSource}
use Rattle.laws.specs.Whole.{Holds}
use Rattle.laws.specs.Lets.{Lets, lets_stay, lets_then}
use Rattle.laws.proofs.Lets.{remove_lets}
use Rattle.laws.proofs.CallsKept.{credit_lets}
use Rattle.report_words.specs.Report.{nine, release_from, releases_of, length_releases}

-- what a delivery itself lets go
abbrev pub delivered : Option Entry → List Release
delivered None = []
delivered (Some e) = release e 1 ∷ []

-- the entry goes, and then the source is credited
abbrev pub taken : Hash → Option ℕ → ℕ → Window → Step
taken h source clock w = and_then (remove_pending h 1 clock w) (credit_by source h (height_of (found h w.queue.pending)) clock)

-- ---- the report

-- the delivered one alone, and before n others
pub delivered_alone : (front : Option Entry) (e : Entry) (n : ℕ) (gs gs' : List ℕ) → front ≡ Some e → n ≡ 0 → releases_of 1 gs' ≡ releases_of 0 gs ++ (release e 1 ∷ [])
    → releases_of 1 gs' ≡ delivered front ++ releases_of n gs
unfolding releases_of
delivered_alone front e n gs gs' q z k = rw (q, z) k

pub delivered_before : (front : Option Entry) (e : Entry) (n : ℕ) (first gs gs' : List ℕ) → front ≡ Some e → first ≡ nine e 1
    → releases_of (suc n) gs' ≡ release_from first 0 ∷ releases_of n gs → releases_of (n + 1) gs' ≡ delivered front ++ releases_of n gs
delivered_before front e n first gs gs' q f k =
    rw (q, add-one) (k ∙ ap (λ (l : List ℕ). release_from l 0 ∷ releases_of n gs) f)

-- ---- soundness, and at most 256

credit_by_lets : {c : ℕ} {w : Window} (s : Option ℕ) (h : Hash) (n : Option ℕ) → Sound c w → Lets c w (credit_by s h n c w)
credit_by_lets None h n g = lets_stay (record { sound = g; same = refl })
credit_by_lets (Some source) h n g = credit_lets h source n g

picks_length : {gs : List Release} {l m : List Entry} → Picks gs l m → length gs ≤ length l
picks_length {gs} {l} p = omega (arith, picks_weigh one p, weigh_one gs, weigh_one l)

pub ok_sound : (s : Option ℕ) → source_ok s ≡ true → SoundSource s
ok_sound None e = tt
ok_sound (Some s) e = leb-true s max_seat e

module _ (h : Hash) (source : Option ℕ) (clock : ℕ) (w : Window) (g : Sound clock w) where
  taken_lets : Lets clock w (taken h source clock w)
  taken_lets = lets_then (credit_by source h (height_of (found h w.queue.pending)) clock) (remove_lets h 1 g) (λ v k. credit_by_lets source h (height_of (found h w.queue.pending)) k)

  pub removed_sound : Sound clock (remove_pending h 1 clock w).window
  removed_sound = (remove_lets h 1 g).sound

  pub taken_sound : Sound clock (taken h source clock w).window
  taken_sound = taken_lets.sound

  pub taken_few : length (taken h source clock w).gone ≤ 256
  taken_few = omega (arith, picks_length taken_lets.picks, g.queue.few)

-- ---- the entry goes, then the credit; v is the window between

out_is : (f : Option Entry) (clock : ℕ) (w : Window) → (take_out 1 clock f w).gone ≡ delivered f
out_is None clock w = refl
out_is (Some e) clock w = refl

module _ (h : Hash) (source : Option ℕ) (clock : ℕ) (w v : Window) (front : Option Entry) (height : Option ℕ) (ef : front ≡ found h w.queue.pending) (eh : height ≡ height_of front)
    (ev : v ≡ (remove_pending h 1 clock w).window) where
  removed_gone : (remove_pending h 1 clock w).gone ≡ delivered front
  unfolding remove_pending
  removed_gone = ap (λ (f : Option Entry). (take_out 1 clock f w).gone) (sym ef) ∙ out_is front clock w

  abbrev credited : Option ℕ → Window → Step
  credited x u = credit_by source h x clock u

  same_credit : credited height v ≡ credited (height_of (found h w.queue.pending)) (remove_pending h 1 clock w).window
  same_credit = λ i. credited ((eh ∙ ap height_of ef) i) (ev i)

  pub taken_window : (credited height v).window ≡ (taken h source clock w).window
  taken_window = ap (λ (s : Step). s.window) same_credit

  pub taken_gone : delivered front ++ (credited height v).gone ≡ (taken h source clock w).gone
  taken_gone = λ i. sym removed_gone i ++ (same_credit i).gone

  pub taken_room : (n : ℕ) (gs : List ℕ) → Sound clock w → releases_of n gs ≡ (credited height v).gone → length (delivered front) + n ≤ 256
  taken_room n gs g e =
      let l = ap length taken_gone in
      let m = sym (length_releases n gs) ∙ ap length e in
      omega (arith, taken_few h source clock w g, l, m, length-append (delivered front) (credited height v).gone)

-- ---- the whole

module _ (h : Hash) (bytes : ℕ) (source : Option ℕ) (clock : ℕ) (w : Window) where
  abbrev all_of : Step
  all_of = mark_received_from h bytes source clock w

  abbrev pub Receives : Received → List ℕ → List ℕ → Type 0
  Receives r ws gs =
      (received_answer r ≡ says (length all_of.gone) (height_values (found h w.queue.pending)))
      × (length all_of.gone ≤ 256)
      × (Holds all_of.window ws)
      × (releases_of (length all_of.gone) gs ≡ all_of.gone)

  received_is : after (taken h source clock w) (λ v. with_mean (next_mean v.mean bytes) v) ≡ all_of
  unfolding mark_received_from
  received_is = refl

  pub receives : (v : Window) (r : Received) (front : Option Entry) (n : ℕ) (ws gs : List ℕ) → Sound clock w → front ≡ found h w.queue.pending → v ≡ (taken h source clock w).window
      → releases_of n gs ≡ (taken h source clock w).gone → Holds (with_mean (next_mean v.mean bytes) v) ws → received_answer r ≡ says n (height_values front) → Receives r ws gs
  receives v r front n ws gs g ef ev eg k er =
      let t : releases_of n gs ≡ all_of.gone = eg ∙ ap (λ (s : Step). s.gone) received_is in
      let m : n ≡ length all_of.gone = sym (length_releases n gs) ∙ ap length t in
      let few : length all_of.gone ≤ 256 = subst (λ (s : Step). length s.gone ≤ 256) received_is (taken_few h source clock w g) in
      let held = subst (λ (u : Window). Holds (with_mean (next_mean u.mean bytes) u) ws) ev k in
      (er ∙ (λ i. says (m i) (height_values (ef i))), few, subst (λ (s : Step). Holds s.window ws) received_is held, subst (λ (j : ℕ). releases_of j gs ≡ all_of.gone) m t)
