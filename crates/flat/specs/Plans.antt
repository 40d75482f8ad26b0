-- The answer of `prefix_probe_plan` as a struct, where its hashes have 0 after them. Assumes nothing.
use Rattle.std.specs.Prelude.{◌≡◌, List, ℕ, ◌*◌, take, Option, None, Some, Result, Ok, Err}
use Rattle.std.proofs.Common.{ap}
use Rattle.model.specs.Lists.{pad}
use Rattle.model.specs.Says.{number, plan_says}
use Rattle.model.specs.declared.Plan.{Plan}
use Rattle.model.specs.declared.Refusal.{Refusal}
use Rattle.plans.specs.Answers.{counted, planned_part, plan_answer_says}
use Rattle.plans.specs.declared.PlanAnswer.{PlanAnswer}
use Rattle.flat.specs.Flat.{plan_flat}
use Rattle.flat.specs.declared.FlatPlan.{FlatPlan}

-- a plan's numbers beside the words of its hashes
abbrev pub plan_numbers : Result (Option Plan) Refusal → List ℕ → FlatPlan
plan_numbers (Err r) hashes = record { refused = number r; present = 0; owner = 0; count = 0; end_height = 0; hashes = hashes }
plan_numbers (Ok None) hashes = record { refused = 0; present = 0; owner = 0; count = 0; end_height = 0; hashes = hashes }
plan_numbers (Ok (Some p)) hashes = record { refused = 0; present = 1; owner = p.owner; count = p.count; end_height = p.end_height; hashes = hashes }

pub answer_flat : (r : PlanAnswer) → r.hashes ≡ pad 32 0 (planned_part r) → plan_numbers r.plan r.hashes ≡ plan_flat (plan_answer_says r)
unfolding pad
answer_flat r = by r.plan r.hashes
  where
    by : (p : Result (Option Plan) Refusal) (hs : List ℕ) → hs ≡ pad 32 0 (take (4 * counted p) hs) → plan_numbers p hs ≡ plan_flat (plan_says p (take (4 * counted p) hs))
    by (Err r) hs e = ap (plan_numbers (Err r)) e
    by (Ok None) hs e = ap (plan_numbers (Ok None)) e
    by (Ok (Some p)) hs e = ap (plan_numbers (Ok (Some p))) e
