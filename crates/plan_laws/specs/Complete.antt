-- Nothing that could be asked for is left out, of a whole plan. Assumes nothing.
use Rattle.std.specs.Prelude.{◌≡◌, true, ◌||◌, ℕ, ◌≤◌, ◌<◌, length, get_or}
use Rattle.std.proofs.Math.Path.{refl}
use Rattle.std.proofs.Common.{sym, ap, ◌∙◌, arith}
use Rattle.std.proofs.Math.Logic.{inl, inr}
use Rattle.std.proofs.Math.Bool.{Bool, not}
use mathlib.Core.List.{List, [], ◌∷◌, ◌++◌, Memᴰ}
use Rattle.std.proofs.Math.ListN.{take}
use borrow.Author.Tests.{leb-true, leb-false}
use Rattle.model.specs.Numbers.{greater, next_height}
use Rattle.model.specs.Lists.{any}
use Rattle.model.specs.Hash.{same, hashes_in}
use Rattle.model.specs.Window.{Window, Step}
use Rattle.model.specs.Calls.{Ask}
use Rattle.model.specs.Planning.{Lent, Draft, Scan, Proposal, ask, is_pending, is_staged, is_open, non_empty_request, contiguous_request_entries, reach, clean_stretch, candidates, scan_of}
use Rattle.model.specs.declared.Hash.{Hash}
use Rattle.laws.specs.Numbers.{both, greater_le}
use Rattle.plan_laws.specs.Lists.{member_any, member_select, any_left, any_right, any_alike}
use Rattle.plan_laws.specs.Named.{same_self, same_comm, NamesOnce, hashes_of, any_hashes, first_named_select}
use Rattle.plan_laws.specs.Chain.{contiguous_member, contiguous_once}
use Rattle.plan_laws.specs.Cases.{From, stretch, scanned, retried, made, the_draft, the_step, the_scan, Plan, unasked, no_room, room, named_asks, named_window}
use Rattle.plan_laws.specs.Reaches.{named, held_below, next_height_suc, scan_takes}

-- the plan names the hash h
unfoldable pub is_planned : List Ask → Hash → Bool
is_planned asks h = any (λ a. same a.hash h) asks

-- neither asked for nor passed by for a reason: the three together
abbrev pub Accounted : Lent → Window → List Ask → Ask → Type 0
Accounted l w asks a = (is_pending w a || is_staged l a || is_planned asks a.hash) ≡ true

accounted : (l : Lent) (w : Window) (asks : List Ask) (a : Ask) → (is_open l w a ≡ true → is_planned asks a.hash ≡ true) → Accounted l w asks a
unfolding is_open
accounted l w asks a f = elim (both (is_pending w a || is_staged l a)) [
  | inl q ↦ rw q
  | inr q ↦ rw q (f (ap not q))
]

planned_member : (asks : List Ask) (a : Ask) → Memᴰ a asks → is_planned asks a.hash ≡ true
unfolding is_planned
planned_member asks a m = member_any (λ x. same x.hash a.hash) a asks m (same_self a.hash)

-- named by what was taken before
planned_taken : (xs : List Ask) (a : Ask) → named (hashes_of xs) a ≡ true → is_planned xs a.hash ≡ true
unfolding is_planned
planned_taken xs a e = any_alike (λ x. same x.hash a.hash) (λ x. same a.hash x.hash) (λ x. same_comm x.hash a.hash) xs ∙ sym (any_hashes a.hash xs) ∙ e

module _ (l : Lent) (t : Step) (s : Scan) (d : Draft) (once : NamesOnce (hashes_in l.chain)) (x : Hash) (n : ℕ) where
  abbrev at_n : Ask
  at_n = ask (get_or (hashes_in l.chain) n x) n

  module _ (first : s.height ≤ n) (below_n : s.next ≤ n) (on_chain : n < length (hashes_in l.chain)) where
    stretch_takes : n < greater s.next (next_height (reach s.limit s)) → Memᴰ at_n (clean_stretch l s)
    unfolding clean_stretch any
    stretch_takes b =
        let last = reach s.limit s in
        let xs = contiguous_request_entries s.height last l.chain in
        let within : n ≤ last = elim (both (lib.Dec.leb n last)) [
          | inl q ↦ leb-true n last q
          | inr q ↦ absurd (omega (arith, greater_le s.next (next_height last) n below_n (omega (arith, leb-false n last q, next_height_suc last))))
        ] in
        rw (first_named_select [] xs (contiguous_once s.height last l.chain once))
        (member_select (λ a. not (named [] a)) at_n xs (contiguous_member s.height last l.chain x n first within on_chain) refl)

    from_complete : {asks : List Ask} {next : ℕ} → s.next ≡ t.window.frontier → From l t s d asks next → n < next → Accounted l t.window asks at_n
    unfolding is_planned
    from_complete e (stretch c a k) b = accounted l t.window (clean_stretch l s) at_n (λ o. planned_member (clean_stretch l s) at_n (stretch_takes b))
    from_complete e (scanned a k) b =
        let w = t.window in
        let p : Ask → Bool = λ y. same y.hash at_n.hash in
        let ys = take s.limit (candidates l w s d.asks) in
        accounted l w (d.asks ++ ys) at_n (λ o. elim (both (named (hashes_of d.asks) at_n)) [
          | inl q ↦ any_left p d.asks ys (planned_taken d.asks at_n q)
          | inr q ↦ any_right p d.asks ys (planned_member ys at_n (scan_takes l w s d.asks once d.low n below_n (omega arith) on_chain x first b o q))
        ])
    from_complete e retried b = absurd (omega (arith, held_below d.low t.window.frontier s.next n (omega arith) below_n))

named_next_le : (t : Step) (next : ℕ) (asks : List Ask) → (non_empty_request t asks next).next ≤ next
unfolding non_empty_request
named_next_le t next [] = omega arith
named_next_le t next (a ∷ asks) = omega arith

module _ (source : ℕ) (l : Lent) (now : ℕ) (w : Window) where
  pub plan_complete : {P : Proposal} → Plan source l now w P → NamesOnce (hashes_in l.chain) → (x : Hash) (n : ℕ)
      → l.start ≤ n → P.window.frontier ≤ n → l.floor ≤ n → n < P.next → n < length (hashes_in l.chain) → Accounted l P.window P.asks (ask (get_or (hashes_in l.chain) n x) n)
  unfolding scan_of
  plan_complete unasked once x n a f g b c = absurd (omega arith)
  plan_complete no_room once x n a f g b c = absurd (omega arith)
  plan_complete (room (made {asks} {next} k)) once x n a f g b c =
      let t = the_step source l now w in
      let low : t.window.frontier ≤ n = rw (named_window t next asks) at f in
      let first = greater_le (greater l.start t.window.frontier) l.floor n (greater_le l.start t.window.frontier n a low) g in
      rw (named_window t next asks, named_asks t next asks)
      (from_complete l t (the_scan source l now w) (the_draft source l now w) once x n first low c refl k (omega (arith, named_next_le t next asks)))
