-- `marks::forecast_of` meets its contract: at the loop's head the forecast is that of the records from i on. Assumes nothing.
use mathlib.Core.Path.{◌≡◌, sym, ap, ◌∙◌}
use mathlib.Core.Logic.{inl, inr}
use mathlib.Core.Bool.{Bool, cond}
use mathlib.Core.List.{List, ◌∷◌}
use Prim.Native.Nat.{ℕ, suc, ◌+◌, ◌-◌, ◌*◌, ◌≤◌, ◌<◌}
use lib.ListN.{length, drop, get_or, drop_of_length-le}
use Rattle.model.specs.Lists.{select}
use Rattle.model.specs.Records.{sum}
use Rattle.model.specs.Time.{expired, effective_owner_timeout, owner_download_expired, active}
use Rattle.model.specs.LettingGo.{forecast, forecast_blocks, forecast_bytes}
use Rattle.model.specs.Layout.{blank, window_of}
use Rattle.model.specs.declared.Entry.{Entry}
use Rattle.laws.specs.Numbers.{both}
use Rattle.laws.specs.Pending.{Ranged, pending_few, pending_cons, owner_at, estimate_at, seat_at, estimate_le, start_word}
use native.Mathlib.Omega.{arith}
use Rattle.marks.proofs.forecast_of.Invariants.{goes}
use Rattle.marks.proofs.forecast_of.Goals as goal

-- one more record
more : (p : Entry → Bool) (e : Entry) (l : List Entry) (b : Bool) (x y x' y' : ℕ) → b ≡ p e → x ≡ length (select p l) → y ≡ sum (select p l)
    → x' ≡ cond b (suc x) x → y' ≡ cond b (e.estimate + y) y → (x' ≡ length (select p (e ∷ l))) × (y' ≡ sum (select p (e ∷ l)))
unfolding select sum
more p e l b x y x' y' q s t u v = elim (both (p e)) [
  | inl z ↦ let u' = rw (q ∙ z) at u in let v' = rw (q ∙ z) at v in rw z (omega arith, omega arith)
  | inr z ↦ let u' = rw (q ∙ z) at u in let v' = rw (q ∙ z) at v in rw z (omega arith, omega arith)
]

-- whether the record at j is counted
is_gone : (ws : List ℕ) (j clock timeout : ℕ) (b : Bool) → j < length (window_of ws).queue.pending → Ranged (window_of ws)
    → timeout ≡ effective_owner_timeout (active (window_of ws)) (window_of ws) → b ≡ expired clock timeout (get_or ws (2304 + get_or ws (j + 1024) 0) 0)
    → b ≡ goes clock (window_of ws) (get_or (window_of ws).queue.pending j blank)
unfolding owner_download_expired
is_gone ws j clock timeout b h a q is =
    let s = sym (ap (λ (k : ℕ). get_or (window_of ws).queue.starts k 0) (owner_at ws j h) ∙ start_word ws (get_or ws (j + 1024) 0) (omega (arith, seat_at ws j h a))) in
    is ∙ (λ k. expired clock (q k) (s k))

turn : (ws : List ℕ) (i j clock timeout x y x' y' : ℕ) (b : Bool) → i ≡ suc j → j < length (window_of ws).queue.pending → Ranged (window_of ws)
    → timeout ≡ effective_owner_timeout (active (window_of ws)) (window_of ws) → b ≡ expired clock timeout (get_or ws (2304 + get_or ws (j + 1024) 0) 0)
    → x ≡ length (select (goes clock (window_of ws)) (drop i (window_of ws).queue.pending)) → y ≡ sum (select (goes clock (window_of ws)) (drop i (window_of ws).queue.pending))
    → x' ≡ cond b (suc x) x → y' ≡ cond b (get_or ws (j + 1792) 0 + y) y
    → (x' ≡ length (select (goes clock (window_of ws)) (drop j (window_of ws).queue.pending))) × (y' ≡ sum (select (goes clock (window_of ws)) (drop j (window_of ws).queue.pending)))
turn ws i j clock timeout x y x' y' b e h a q is s t u v =
    let l = (window_of ws).queue.pending in
    let p = goes clock (window_of ws) in
    let s' = rw e at s in
    let t' = rw e at t in
    let v' = v ∙ ap (λ (n : ℕ). cond b (n + y) y) (sym (estimate_at ws j h)) in
    rw (pending_cons ws j h) (more p (get_or l j blank) (drop (suc j) l) b x y x' y' (is_gone ws j clock timeout b h a q is) s' t' u v')

-- no more than one each
grows : (b : Bool) (x y z x' y' m : ℕ) → x ≤ m → y ≤ 4294967295 * m → z ≤ 4294967295 → x' ≡ cond b (suc x) x → y' ≡ cond b (z + y) y → (x' ≤ suc m) × (y' ≤ 4294967295 * suc m)
grows b x y z x' y' m h k l u v = elim (both b) [
  | inl q ↦ let u' = rw q at u in let v' = rw q at v in (omega arith, omega arith)
  | inr q ↦ let u' = rw q at u in let v' = rw q at v in (omega arith, omega arith)
]

pub loop-i-init : goal.loop-i-init
unfolding select sum
loop-i-init c =
    let a = c.args in
    let l = (window_of a.words.now).queue.pending in
    let none = drop_of_length-le l {i = a.count} (omega arith) in
    record { few = omega arith; low = omega arith; blocks = rw none; bytes = rw none }

pub overflow_add-o : goal.overflow_add-o
overflow_add-o c = omega (arith, pending_few c.args.words.now)

pub offset_bounds-words-i : goal.offset_bounds-words-i
offset_bounds-words-i c = omega (arith, pending_few c.args.words.now)

pub bounds-words-i : goal.bounds-words-i
bounds-words-i c = omega (arith, pending_few c.args.words.now)

pub overflow_add-owner : goal.overflow_add-owner
overflow_add-owner c = omega (arith, seat_at c.args.words.now (c.loop-i.i - 1) (omega (arith)) c.requires.2)

pub offset_bounds-words-owner : goal.offset_bounds-words-owner
offset_bounds-words-owner c = omega (arith, seat_at c.args.words.now (c.loop-i.i - 1) (omega (arith)) c.requires.2)

pub bounds-words-owner : goal.bounds-words-owner
bounds-words-owner c = omega (arith, seat_at c.args.words.now (c.loop-i.i - 1) (omega (arith)) c.requires.2)

pub overflow_add-i : goal.overflow_add-i
overflow_add-i c = omega (arith, pending_few c.args.words.now)

pub offset_bounds-words-i-in-loop-i : goal.offset_bounds-words-i-in-loop-i
offset_bounds-words-i-in-loop-i c = omega (arith, pending_few c.args.words.now)

pub bounds-words-i-in-loop-i : goal.bounds-words-i-in-loop-i
bounds-words-i-in-loop-i c = omega (arith, pending_few c.args.words.now)

pub counted-f-requires : goal.counted-f-requires
counted-f-requires c =
    let v = c.loop-i in
    let few = pending_few c.args.words.now in
    (omega (arith, v.invariant.few), (omega (arith, v.invariant.low), estimate_le c.args.words.now (v.i - 1) (omega arith) c.requires.2))

pub loop-i-preserved : goal.loop-i-preserved
loop-i-preserved c =
    let v = c.loop-i in
    let a = c.args in
    let ws = a.words.now in
    let j = v.i - 1 in
    let h : j < length (window_of ws).queue.pending = omega arith in
    let e : v.i ≡ suc j = omega arith in
    let g = c.requires.2 in
    let t = turn ws v.i j a.clock a.timeout v.f.blocks v.f.bytes c.counted-f.result.blocks c.counted-f.result.bytes c.reached-is.result e h g c.requires.1 (c.reached-is.ensures a.clock a.timeout c.expiry_limit-limit.ensures) v.invariant.blocks v.invariant.bytes c.counted-f.ensures.0 c.counted-f.ensures.1 in
    let most = grows c.reached-is.result v.f.blocks v.f.bytes (get_or ws (j + 1792) 0) c.counted-f.result.blocks c.counted-f.result.bytes (a.count - v.i) v.invariant.few v.invariant.low (estimate_le ws j h g) c.counted-f.ensures.0 c.counted-f.ensures.1 in
    record { few = omega (arith, most.0); low = omega (arith, most.1); blocks = t.0; bytes = t.1 }

pub returns : goal.returns
unfolding forecast_blocks forecast_bytes forecast
returns c =
    let v = c.loop-i in
    let z : v.i ≡ 0 = omega arith in
    (rw z at v.invariant.blocks, rw z at v.invariant.bytes)
