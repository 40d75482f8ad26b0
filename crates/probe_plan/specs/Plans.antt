-- What the code's plan says in the model's words, and the plan case by case. Assumes nothing.
use Rattle.std.specs.Prelude.{◌≡◌, refl, Bool, true, false, cond, not, ◌||◌, List, [], ◌∷◌, ℕ, suc, ◌-◌, ◌≤◌, ◌<◌, length, get_or, take, eqb, leb, None, Some, Option}
use Rattle.std.proofs.Common.{sym, ap, subst, ◌∙◌, inl, inr, arith, length-take}
use borrow.Author.Tests.{lt-ltb, le-ltb}
use Rattle.model.specs.Numbers.{max_height, max_clock, present}
use Rattle.model.specs.Lists.{any}
use Rattle.model.specs.Hash.{same}
use Rattle.model.specs.Records.{lowest, lower}
use Rattle.model.specs.Window.{Window}
use Rattle.model.specs.Races.{Planned, no_plan, planned, plan_limit, win_blocks, plan_from, is_missing, is_seat, is_probing, prefix_probe_plan, walk, by_height, probe_offered}
use Rattle.model.specs.declared.Hash.{Hash}
use Rattle.model.specs.declared.Entry.{Entry}
use Rattle.model.specs.declared.PrefixProbe.{PrefixProbe}
use Rattle.model.specs.declared.Plan.{Plan}
use Rattle.laws.specs.Numbers.{both}
use Rattle.laws.specs.Entries.{Each}
use Rattle.laws.specs.Sound.{InRange}
use Rattle.prefix_probe.specs.Walks.{hashes_at, Walked}
use Rattle.probe_plan.specs.declared.Planning.{Planning}

-- the model's plan
unfoldable pub planned_by : Planning → List Entry → Planned
planned_by r l = cond (leb win_blocks r.n) (planned r.owner (hashes_at l (take r.n r.places)) (r.end - 1)) no_plan

abbrev pub plan_of : ℕ → ℕ → ℕ → Option Plan
plan_of owner n end = Some (record { owner = owner; count = n; end_height = end })

-- a plan's owner, number of hashes, end height
abbrev pub header : Planned → Option Plan
header no_plan = None
header (planned owner hashes end) = plan_of owner (length hashes) end

-- the same of the code's plan
abbrev pub header_by : Planning → Option Plan
header_by r = cond (leb win_blocks r.n) (plan_of r.owner r.n (r.end - 1)) None

-- the plan of the window, with places that are there
pub record Plans (r : Planning) (w : Window) : Type 0 where
  pub is : planned_by r w.queue.pending ≡ prefix_probe_plan w
  pub few : r.n ≤ 8
  pub room : length r.places ≡ 8
  pub within : (k : ℕ) → k < r.n → get_or r.places k 0 < length w.queue.pending

pub no_planned : (r : Planning) (l : List Entry) → r.n ≡ 0 → planned_by r l ≡ no_plan
unfolding planned_by
no_planned r l q = rw q

length_hashes_at : (l : List Entry) (ps : List ℕ) → length (hashes_at l ps) ≡ length ps
unfolding hashes_at
length_hashes_at l [] = refl
length_hashes_at l (p ∷ ps) = ap suc (length_hashes_at l ps)

pub count_planned : (l : List Entry) (n : ℕ) (ps : List ℕ) → n ≤ length ps → length (hashes_at l (take n ps)) ≡ n
count_planned l n ps h = length_hashes_at l (take n ps) ∙ omega (arith, length-take n ps)

from_walk : (limit first owner : ℕ) (l : List Entry) (r : Planning) → limit ≤ 8 → r.owner ≡ owner → Walked limit first l r.n r.places r.end
    → planned_by r l ≡ plan_from owner first (walk limit first (by_height l))
unfolding planned_by plan_from
from_walk limit first owner l r b o w =
    let n = count_planned l r.n r.places (omega (arith, w.few, w.room)) in
    rw (w.hashes, n, o) (ap (λ (e : ℕ). cond (leb win_blocks r.n) (planned owner (hashes_at l (take r.n r.places)) (e - 1)) no_plan) w.end)

-- the lowest entry is in its range
abbrev FrontIn : Option Entry → Type 0
FrontIn None = Unit {0}
FrontIn (Some x) = x.height ≤ max_height

lower_in_range : (x : Entry) (f : Option Entry) → x.height ≤ max_height → FrontIn f → FrontIn (lower x f)
lower_in_range x None h k = h
lower_in_range x (Some y) h k = elim (both (leb x.height y.height)) [ inl q ↦ rw q h | inr q ↦ rw q k ]

in_range : (l : List Entry) → Each (InRange max_clock) l → FrontIn (lowest l)
unfolding lowest
in_range [] a = tt
in_range (x ∷ l) a = lower_in_range x (lowest l) a.0.height (in_range l a.1)

pub lowest_height : (l : List Entry) (f : Option Entry) (e : Entry) → Each (InRange max_clock) l → f ≡ lowest l → f ≡ Some e → e.height ≤ max_height
lowest_height l f e a q p = subst FrontIn (sym q ∙ p) (in_range l a)

-- ---- the plan, case by case

module _ (w : Window) where
  abbrev pub busy : Bool
  busy = not (is_missing w.races.preferred) || is_probing w.races.probe || w.fanout.engaged

  abbrev pub passed : ℕ → Bool
  passed owner = is_seat w.races.attempted owner || any (λ e. not (eqb e.owner owner)) w.queue.pending

  pub plan_busy : busy ≡ true → no_plan ≡ prefix_probe_plan w
  unfolding prefix_probe_plan
  plan_busy q = rw q

  module _ (free : busy ≡ false) (f : Option Entry) (ef : f ≡ lowest w.queue.pending) where
    pub plan_none : f ≡ None → no_plan ≡ prefix_probe_plan w
    unfolding prefix_probe_plan
    plan_none q = rw (free, ← ef, q)

    module _ (e : Entry) (q : f ≡ Some e) where
      pub plan_passed : passed e.owner ≡ true → no_plan ≡ prefix_probe_plan w
      unfolding prefix_probe_plan
      plan_passed p = rw (free, ← ef, q, p)

      module _ (p : passed e.owner ≡ false) (limit : ℕ) (el : limit ≡ plan_limit w.mean) where
        pub plan_small : limit < 4 → no_plan ≡ prefix_probe_plan w
        unfolding prefix_probe_plan
        plan_small h = rw (free, ← ef, q, p, ← el, lt-ltb limit win_blocks h)

        pub plan_walked : 4 ≤ limit → limit ≤ 8 → (r : Planning) → r.owner ≡ e.owner → Walked limit e.height w.queue.pending r.n r.places r.end
            → planned_by r w.queue.pending ≡ prefix_probe_plan w
        unfolding prefix_probe_plan
        plan_walked h b r o k = rw (free, ← ef, q, p, ← el, le-ltb limit win_blocks h) (from_walk limit e.height e.owner w.queue.pending r b o k)

-- ---- what is offered to a racer, case by case

module _ (source : ℕ) (h : Hash) (w : Window) (p : Option PrefixProbe) (ep : p ≡ w.races.probe) where
  pub offered_none : is_probing p ≡ false → false ≡ probe_offered source h w
  unfolding probe_offered
  offered_none q = rw (← ep, q)

  module _ (q : is_probing p ≡ true) where
    pub offered_other : any (λ x. same x h) w.races.planned ≡ false → false ≡ probe_offered source h w
    unfolding probe_offered
    offered_other n = rw (← ep, q, n)

    pub offered_to : any (λ x. same x h) w.races.planned ≡ true → (x : ℕ) → x ≡ get_or w.races.racers source 0 → present x ≡ probe_offered source h w
    unfolding probe_offered
    offered_to n x e = rw (← ep, q, n, ← e)

-- the header of a plan by the code is the plan's
pub header_planned : (r : Planning) (w : Window) → Plans r w → header_by r ≡ header (prefix_probe_plan w)
unfolding planned_by
header_planned r w p =
    let n = count_planned w.queue.pending r.n r.places (omega (arith, p.few, p.room)) in
    elim (both (leb win_blocks r.n)) [
      | inl q ↦ rw q (sym (ap header (sym p.is) ∙ rw q (ap (λ (k : ℕ). plan_of r.owner k (r.end - 1)) n)))
      | inr q ↦ rw q (sym (ap header (sym p.is) ∙ rw q))
    ]

-- no plan at all, and the plan of a walk
pub none_plans : (r : Planning) (w : Window) → (r.n ≡ 0) × (length r.places ≡ 8) → no_plan ≡ prefix_probe_plan w → Plans r w
none_plans r w q p = record { is = no_planned r w.queue.pending q.0 ∙ p; few = omega arith; room = q.1; within = λ k b. absurd (omega arith) }

pub walked_plans : (limit first : ℕ) (r : Planning) (w : Window) → limit ≤ 8 → Walked limit first w.queue.pending r.n r.places r.end
    → planned_by r w.queue.pending ≡ prefix_probe_plan w → Plans r w
walked_plans limit first r w h k p = record { is = p; few = omega (arith, k.few); room = k.room; within = k.within }
