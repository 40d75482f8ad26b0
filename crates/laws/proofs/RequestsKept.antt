-- A request and an owned fetch keep a window sound. Assumes nothing.
use Rattle.std.specs.Prelude.{Bool, cond, not, ◌&&◌, ℕ, ◌+◌, ◌≤◌, None}
use Rattle.std.proofs.Math.Logic.{inl, inr}
use mathlib.Core.List.{List, [], ◌∷◌}
use native.Mathlib.Omega.{arith}
use Rattle.std.proofs.Math.ListN.{length}
use Rattle.model.specs.Numbers.{greater, max_height, max_seat, max_pending}
use Rattle.model.specs.Window.{Window, Queue, HighWater, with_attempted, with_frontier}
use Rattle.model.specs.Races.{is_empty}
use Rattle.model.specs.Calls.{Ask, puts, raised, started, noted, mark_requested, Fetching, held, staged, asked, no_capacity, owned_fetch, fetched, mark_owned_fetch}
use Rattle.model.specs.declared.Hash.{Hash}
use Rattle.laws.specs.Numbers.{both, second_le_greater, greater_le}
use Rattle.laws.specs.Sound.{NoLower, Sound}
use Rattle.laws.specs.Parts.{sound_frontier, sound_attempted, sound_filled}
use Rattle.laws.specs.RequestsKept.{Free, Once, Low, filled_queue, AskingBy, asking_is}

-- ---- the calls

raised_lower : (h : HighWater) (q : Queue) → NoLower (raised h q) q
unfolding raised
raised_lower h q = record { blocks = second_le_greater h.blocks (length q.pending); bytes = second_le_greater h.bytes q.total }

started_lower : (owner c : ℕ) (ks : List Ask) (h : HighWater) (q : Queue) → NoLower h q → NoLower h (cond (is_empty ks) q (started owner c q))
unfolding started
started_lower owner c [] h q k = k
started_lower owner c (a ∷ ks) h q k = record { blocks = k.blocks; bytes = k.bytes }

pub noted_sound : {c : ℕ} {w : Window} (ks : List Ask) (owner : ℕ) → owner ≤ max_seat → Low ks → Free ks w.queue.pending → Once ks
    → length ks + length w.queue.pending ≤ max_pending → Sound c w → Sound c (noted ks owner c w)
unfolding noted
noted_sound {c} {w} ks owner o low f n b g =
    sound_filled g _ _ (filled_queue owner c w.mean ks w.queue low f n o g.mean_least g.mean_most b g.queue)
    (started_lower owner c ks _ _ (raised_lower w.high (puts ks owner c w.mean w.queue)))

pub requested_sound : {c : ℕ} {w : Window} (ks : List Ask) (owner next : ℕ) → owner ≤ max_seat → next ≤ max_height → Low ks → Free ks w.queue.pending → Once ks
    → length ks + length w.queue.pending ≤ max_pending → Sound c w → Sound c (mark_requested ks owner next c w)
unfolding mark_requested
requested_sound {c} {w} ks owner next o t low f n b g = elim (both (is_empty w.queue.pending && not (is_empty ks))) [
  | inl q ↦ rw q (raise (with_attempted None w) (sound_attempted g None tt) f b)
  | inr q ↦ rw q (raise w g f b)
]
  where
    raise : (v : Window) → Sound c v → Free ks v.queue.pending → length ks + length v.queue.pending ≤ max_pending
        → Sound c (with_frontier (greater (noted ks owner c v).frontier next) (noted ks owner c v))
    raise v k f b =
        let m = noted_sound ks owner o low f n b k in
        sound_frontier m _ (greater_le (noted ks owner c v).frontier next max_height m.frontier t)

fetched_sound : {c : ℕ} {w : Window} (f : Fetching) (owner : ℕ) (h : Hash) (height : ℕ) → owner ≤ max_seat → height ≤ max_height → AskingBy f h w → Sound c w
    → Sound c (fetched f owner h height c w)
fetched_sound held owner h height o t a g = g
fetched_sound staged owner h height o t a g = g
fetched_sound no_capacity owner h height o t a g = g
fetched_sound {w = w} asked owner h height o t a g =
    sound_attempted (requested_sound (record { hash = h; height = height } ∷ []) owner 0 o (omega arith) (t, tt) (a.free, tt) (tt, tt) (omega (arith, a.room)) g)
    w.races.attempted g.races.attempted

pub owned_fetch_sound : {c : ℕ} {w : Window} (owner : ℕ) (h : Hash) (height : ℕ) (is_staged : Bool) (bytes n : ℕ) → owner ≤ max_seat → height ≤ max_height → Sound c w
    → Sound c (mark_owned_fetch owner h height is_staged bytes n c w)
unfolding mark_owned_fetch
owned_fetch_sound {w = w} owner h height is_staged bytes n o t g =
    fetched_sound (owned_fetch owner h is_staged bytes n w) owner h height o t (asking_is owner h is_staged bytes n g) g
