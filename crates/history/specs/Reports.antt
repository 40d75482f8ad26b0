-- What the calls found and answered, and what their reports held when they returned, place by place. Definitions only.
use Rattle.std.specs.Prelude.{◌≡◌, ◌⊎◌, Bool, cond, ◌&&◌, List, [], ◌∷◌, ℕ, zero, suc, ◌≤◌, eqb, length, take, drop}
use Rattle.model.specs.Refusals.{Call, opens, changes, queries}
use Rattle.model.specs.Perform.{Answer, refused, says}
use Rattle.model.specs.declared.Release.{Release}
use Rattle.history.specs.Run.{Done}
use Rattle.history.specs.Book.{Mark}

-- how many places an answer counts
abbrev pub count_of : Answer → ℕ
count_of (refused n) = 0
count_of (says n values) = n

-- an accepted opening, or the places that a call counts
pub data Told : Type 0 where
  anew : Told
  counts : List Release → Told

abbrev pub tells_by : Call → Answer → List Release → Told
tells_by call (refused n) report = counts []
tells_by (opens c b keys) (says n values) report = anew
tells_by (changes x) (says n values) report = counts (take n report)
tells_by (queries q) (says n values) report = counts (take n report)

unfoldable pub tells : Done → Told
tells d = tells_by d.act.call d.outcome.answer d.outcome.report

-- the places that the call i counted since the last accepted opening, as they stood in the report when it returned; calls are numbered from the
-- first, and stand the latest first
abbrev pub places_by : ℕ → Told → ℕ → List Release → List Release
places_by i anew j earlier = []
places_by i (counts gs) j earlier = cond (eqb i j) gs earlier

unfoldable pub places_at : List Done → ℕ → List Release
places_at [] i = []
places_at (d ∷ h) i = places_by i (tells d) (length h) (places_at h i)

-- a mark names the place k of the call i
unfoldable pub names : ℕ → ℕ → Mark → Bool
names i k n = eqb n.call i && eqb n.place k

-- a report that a call was lent: it has as many places as it had, the count is among them, and after the count it is as it was lent
pub record AsLent (d : Done) : Type 0 where
  pub long : length d.outcome.report ≡ length d.act.lent
  pub fits : count_of d.outcome.answer ≤ length d.act.lent
  pub rest : drop (count_of d.outcome.answer) d.outcome.report ≡ drop (count_of d.outcome.answer) d.act.lent

-- the words as the calls h left them, those before the first being `first`
abbrev pub left_by : List ℕ → List Done → List ℕ
left_by first [] = first
left_by first (d ∷ h) = d.outcome.words

-- d is one of the calls h, the latest first, and found the words ws
abbrev pub Made : List ℕ → List Done → Done → List ℕ → Type 0
Made first [] d ws = ⊥
Made first (x ∷ h) d ws = ((d ≡ x) × (ws ≡ left_by first h)) ⊎ Made first h d ws

-- the answer to a call that is refused by the number r, 0 for none
abbrev pub Answered : ℕ → Answer → Type 0
Answered zero (refused k) = ⊥
Answered zero (says n values) = Unit {0}
Answered (suc r) (refused k) = k ≡ suc r
Answered (suc r) (says n values) = ⊥
