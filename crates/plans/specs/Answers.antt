-- What the answer of `prefix_probe_plan` says: its numbers, then the words of as many hashes as they count. Definitions only.
use Rattle.std.specs.Prelude.{List, ℕ, ◌*◌, take, Option, None, Some, Result, Ok, Err}
use Rattle.model.specs.Perform.{Answer}
use Rattle.model.specs.Says.{plan_says}
use Rattle.model.specs.declared.Plan.{Plan}
use Rattle.model.specs.declared.Refusal.{Refusal}
use Rattle.plans.specs.declared.PlanAnswer.{PlanAnswer}

-- the number of hashes
abbrev pub counted : Result (Option Plan) Refusal → ℕ
counted (Err r) = 0
counted (Ok None) = 0
counted (Ok (Some p)) = p.count

-- their words, four each
abbrev pub planned_part : PlanAnswer → List ℕ
planned_part r = take (4 * counted r.plan) r.hashes

abbrev pub plan_answer_says : PlanAnswer → Answer
plan_answer_says r = plan_says r.plan (planned_part r)
