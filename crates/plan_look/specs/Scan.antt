-- The scan as the code makes it: it looks at one height after the other, takes what is open, and stops when it has all that is wanted.
-- Definitions, and the laws of a turn. Assumes nothing.
use Rattle.std.specs.Prelude.{◌≡◌, Bool, true, false, ◌||◌, ℕ, ◌-◌, eqb, None, Some, Option}
use Rattle.std.proofs.Math.Path.{refl, ap}
use Rattle.std.proofs.Common.{◌∙◌, eq-eqb}
use mathlib.Core.List.{List, [], ◌∷◌, ◌++◌, map}
use Rattle.model.specs.Numbers.{greater, next_height}
use Rattle.model.specs.Lists.{any}
use Rattle.model.specs.Hash.{same}
use Rattle.model.specs.Records.{found, is_there}
use Rattle.model.specs.Calls.{Ask}
use Rattle.model.specs.Planning.{names}
use Rattle.model.specs.declared.Hash.{Hash}
use Rattle.model.specs.declared.Entry.{Entry}
use Rattle.plan_look.specs.declared.Look.{Look}
use Rattle.plan_look.specs.declared.Look.TheVariants.{PassBy, NoteRefused, Take}

-- what it has come to: the plan, the first refused height that it met, the next height, and how many more are wanted
pub record Scanned : Type 0 where
  pub asks : List Ask
  pub first : Option ℕ
  pub next : ℕ
  pub left : ℕ

abbrev pub scanned : List Ask → Option ℕ → ℕ → ℕ → Scanned
scanned asks first next left = record { asks = asks; first = first; next = next; left = left }

abbrev pub plan_hashes : List Ask → List Hash
plan_hashes asks = map (λ a. a.hash) asks

-- pending, staged, or in the plan
abbrev pub passes : List Entry → List ℕ → List Hash → Ask → Bool
passes es staged seen a = is_there (found a.hash es) || names staged a.hash || any (same a.hash) seen

abbrev pub look_of : Bool → Bool → Look
look_of true refused = PassBy
look_of false true = NoteRefused
look_of false false = Take

-- heights rise, so the first one is the lowest
abbrev pub first_of : Option ℕ → ℕ → Option ℕ
first_of None n = Some n
first_of (Some m) n = Some m

-- what it does at a height: nothing more once it has all
abbrev pub look : List Entry → List ℕ → List ℕ → Ask → Scanned → Look
look es staged refused a s = look_of (eqb s.left 0 || passes es staged (plan_hashes s.asks) a) (names refused a.hash)

abbrev pub looked : Look → Ask → Scanned → Scanned
looked PassBy a s = s
looked NoteRefused a s = scanned s.asks (first_of s.first a.height) s.next s.left
looked Take a s = scanned (s.asks ++ (a ∷ [])) s.first (greater s.next (next_height a.height)) (s.left - 1)

unfoldable pub scan_over : List Entry → List ℕ → List ℕ → List Ask → Scanned → Scanned
scan_over es staged refused [] s = s
scan_over es staged refused (a ∷ rest) s = scan_over es staged refused rest (looked (look es staged refused a s) a s)

module _ (es : List Entry) (staged refused : List ℕ) where
  -- by what it does at the first height
  pub scan_by : (rest : List Ask) (a : Ask) (s : Scanned) (k : Look) → look es staged refused a s ≡ k
      → scan_over es staged refused (a ∷ rest) s ≡ scan_over es staged refused rest (looked k a s)
  unfolding scan_over
  scan_by rest a s k e = ap (λ (x : Look). scan_over es staged refused rest (looked x a s)) e

  -- one stretch after the other
  pub scan_append : (rest more : List Ask) (s : Scanned)
      → scan_over es staged refused (rest ++ more) s ≡ scan_over es staged refused more (scan_over es staged refused rest s)
  unfolding scan_over
  scan_append [] more s = refl
  scan_append (b ∷ rest) more s = scan_append rest more (looked (look es staged refused b s) b s)

  look_full : (a : Ask) (s : Scanned) → s.left ≡ 0 → look es staged refused a s ≡ PassBy
  look_full a s z = ap (λ (b : Bool). look_of (b || passes es staged (plan_hashes s.asks) a) (names refused a.hash)) (eq-eqb s.left 0 z)

  -- it stays as it is once it has all
  pub scan_full : (rest : List Ask) (s : Scanned) → s.left ≡ 0 → scan_over es staged refused rest s ≡ s
  unfolding scan_over
  scan_full [] s z = refl
  scan_full (a ∷ rest) s z = scan_by rest a s PassBy (look_full a s z) ∙ scan_full rest s z
