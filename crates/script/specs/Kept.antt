-- What the demo keeps of a call: the last plan, and which blocks are staged.
use Rattle.std.specs.Prelude.{Bool, true, false, cond, ◌&&◌, List, [], ◌∷◌, ◌++◌, ℕ, ◌+◌, ◌-◌, leb, length, get_or, set, Option, None, Some, Result, Ok, Err}
use Rattle.model.specs.declared.NextRequest.{NextRequest}
use Rattle.model.specs.declared.Request.{Request}
use Rattle.model.specs.declared.Refusal.{Refusal}
use Rattle.lines.specs.declared.Call.{Call}
use Rattle.lines.specs.declared.Call.TheVariants.{MarkReceivedFrom, ReleasePending}
use Rattle.lines.specs.declared.Said.{Said}
use Rattle.script.specs.Given.{height_of}
use Rattle.script.specs.declared.Step.{Step}
use Rattle.script.specs.declared.Plan.{Plan}

-- so many blocks, whose heights stand first in the list
unfoldable pub plan_of : ℕ → ℕ → List ℕ → Plan
plan_of count next heights = record { count = count; first = get_or heights 0 0; last = get_or heights (count - 1) 0; next = height_of next }

abbrev pub plan_of_request : Option Request → List ℕ → Option Plan
plan_of_request None heights = None
plan_of_request (Some r) heights = Some (plan_of r.count r.next_height heights)

-- a refused call makes no plan
abbrev pub planned : Result NextRequest Refusal → List ℕ → Option Plan
planned (Err r) heights = None
planned (Ok n) heights = plan_of_request n.request heights

-- a block comes by the call: its body, or by another way
abbrev pub came : Call → Bool
came MarkReceivedFrom = true
came ReleasePending = true
came _ = false

abbrev pub accepted : Result Said Refusal → Bool
accepted (Err r) = false
accepted (Ok s) = true

-- and is staged where the call was accepted and there is room for its four words
abbrev pub stages : Step → Result Said Refusal → List ℕ → Bool
stages s said l = came s.call && accepted said && leb (length l) 252

-- the first three words of its hash are 0
abbrev pub staged_after : Step → Result Said Refusal → List ℕ → List ℕ
staged_after s said l = cond (stages s said l) (l ++ (0 ∷ 0 ∷ 0 ∷ s.first ∷ [])) l

-- the same in a lent list, of which n words are in use and the others are 0
abbrev pub stages_in : Step → Result Said Refusal → ℕ → List ℕ → Bool
stages_in s said n l = came s.call && accepted said && leb (n + 4) (length l)

abbrev pub staged_in : Step → Result Said Refusal → ℕ → List ℕ → List ℕ
staged_in s said n l = cond (stages_in s said n l) (set l (n + 3) s.first) l

abbrev pub words_after : Step → Result Said Refusal → ℕ → List ℕ → ℕ
words_after s said n l = cond (stages_in s said n l) (n + 4) n
