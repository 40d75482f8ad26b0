-- A request's entries put one after the other: each finds its hash absent and room for one more. Assumes nothing.
use Rattle.std.specs.Prelude.{◌≡◌, true, List, [], ◌∷◌, ℕ, zero, suc, ◌+◌, ◌*◌, ◌≤◌, ◌<◌, length, get_or, drop, Result, Ok, Err, None, Some, Option}
use Rattle.std.proofs.Math.Path.{refl, ap, subst}
use Rattle.std.proofs.Common.{sym, ◌∙◌, not-suc-le-zero, le_of_suc-le-suc, add-one, arith}
use Rattle.model.specs.Numbers.{max_estimate}
use Rattle.column.specs.Edits.{insert_at}
use Rattle.model.specs.Hash.{key}
use Rattle.model.specs.Records.{new_entry, insert, found, sum}
use Rattle.model.specs.Layout.{blank, rising}
use Rattle.model.specs.Window.{Window, Queue, with_queue}
use Rattle.model.specs.Calls.{Ask, asks_in, put, puts}
use Rattle.model.specs.declared.Hash.{Hash}
use Rattle.model.specs.declared.Entry.{Entry}
use Rattle.laws.specs.Bag.{one, weigh_one, pick_weigh}
use Rattle.laws.specs.Entries.{on, on_self, on_other, with_hash, Rising, insert_pick, insert_rising, Finding, missing, at, found_is, Each}
use Rattle.laws.specs.RequestsKept.{Free, Once}
use Rattle.laws.specs.Sound.{InRange, SoundQueue}
use Rattle.laws.specs.Valid.{rising_is}
use Rattle.laws.specs.Whole.{Holds}
use Rattle.rules.specs.Rows.{by_value}
use Rattle.state_queue.specs.Steps.{entries_put, put_is}
use Rattle.records.specs.Places.{Finds, here_found}
use Rattle.requests.specs.Asks.{hash_in, ask_at, asks_drop}

-- ---- the place of a hash that is absent

-- where a search points, whether the hash is there or not
abbrev pub place_of : Result ℕ ℕ → ℕ
place_of (Ok r) = r
place_of (Err r) = r

none_found : (h : Hash) (l : List Entry) {f : Option Entry} {e : Entry} → with_hash (key h) l ≡ 0 → Finding h l f → f ≡ Some e → ⊥
none_found h l z (missing n) q = let k : ◌≡◌ {A = ℕ} 0 1 = cc in omega arith
none_found h l z (at {e = x} k p) q = omega (arith, pick_weigh (on (key h) one) p, on_self (key h) one x k)

pub absent_free : (h : Hash) (l : List Entry) (p : Result ℕ ℕ) → rising l ≡ true → with_hash (key h) l ≡ 0 → Finds h l p → Finds h l (Err (place_of p))
absent_free h l (Ok r) u z f = absurd (none_found h l z (found_is h l) (here_found h l r u f).0)
absent_free h l (Err r) u z f = f

-- ---- what one entry more asks

pub record Takes (h : Hash) (w : Window) : Type 0 where
  pub absent : with_hash (key h) w.queue.pending ≡ 0
  pub rises : rising w.queue.pending ≡ true
  pub room : length w.queue.pending < 256
  pub bytes : w.queue.total + w.mean ≤ 18446744073709551615

-- the entry goes in where the search ended
pub put_so : (w : Window) (ws : List ℕ) (k : ℕ) (e e' : Entry) → e ≡ e' → Takes e'.hash w → Finds e'.hash w.queue.pending (Err k)
    → Holds (entries_put (w.queue.total + e.estimate) (insert_at k e w.queue.pending) w) ws → Holds (with_queue (put e' w.queue) w) ws
put_so w ws k e e' q t f h =
    let l = w.queue.pending in
    let n = w.queue.total in
    by_value (λ x. with_queue x w) (put_is k e' w.queue t.rises f)
    (subst (λ (x : Entry). Holds (entries_put (n + x.estimate) (insert_at k x l) w) ws) q h)

-- what the asks that are left ask of the queue
pub record Ready (asks : List Ask) (q : Queue) : Type 0 where
  pub free : Free asks q.pending
  pub once : Once asks
  pub rises : Rising 0 q.pending
  pub room : length asks + length q.pending ≤ 256
  pub bytes : q.total ≤ length q.pending * max_estimate

sum_le : (c : ℕ) (l : List Entry) → Each (InRange c) l → sum l ≤ length l * max_estimate
unfolding sum
sum_le c [] k = omega arith
sum_le c (e ∷ l) k = omega (arith, k.0.most, sum_le c l k.1)

pub ready_sound : {c : ℕ} {q : Queue} (asks : List Ask) → SoundQueue c q → Free asks q.pending → Once asks → length asks + length q.pending ≤ 256 → Ready asks q
ready_sound {c} {q} asks g f o r = record { free = f; once = o; rises = g.rising; room = r; bytes = omega (arith, g.total, sum_le c q.pending g.each) }

pub ready_takes : {a : Ask} {rest : List Ask} {w : Window} → w.mean ≤ max_estimate → Ready (a ∷ rest) w.queue → Takes a.hash w
ready_takes {w = w} m r = record { absent = r.free.0; rises = rising_is 0 w.queue.pending r.rises; room = omega (arith, r.room); bytes = omega (arith, r.bytes, r.room) }

free_in : (e : Entry) (a : Ask) (ks : List Ask) (l : List Entry) → e.hash ≡ a.hash → Once (a ∷ ks) → Free ks l → Free ks (insert e l)
free_in e a [] l q o f = tt
free_in e a (b ∷ ks) l q o f = (
  omega (arith, pick_weigh (on (key b.hash) one) (insert_pick e l), on_other (key b.hash) one e (λ (p : key e.hash ≡ key b.hash). o.0.0 (sym p ∙ ap key q)), f.0),
  free_in e a ks l q (o.0.1, o.1.1) f.1,
)

length_insert : (e : Entry) (l : List Entry) → length (insert e l) ≡ suc (length l)
length_insert e l = omega (arith, pick_weigh one (insert_pick e l), weigh_one (insert e l), weigh_one l)

pub put_ready : (a : Ask) (rest : List Ask) (e : Entry) (q : Queue) → e.hash ≡ a.hash → e.estimate ≤ max_estimate → Ready (a ∷ rest) q → Ready rest (put e q)
unfolding put
put_ready a rest e q h m r =
    let n = length_insert e q.pending in
    record {
      free = free_in e a rest q.pending h r.once r.free.1;
      once = r.once.1;
      rises = insert_rising 0 e q.pending (omega arith) (ap (λ (g : Hash). with_hash (key g) q.pending) h ∙ r.free.0) r.rises;
      room = omega (arith, r.room);
      bytes = omega (arith, r.bytes);
    }

-- ---- the row of puts: what is left to put, at the window v that the words hold by now

pub record Putting (asks : List Ask) (owner now : ℕ) (w : Window) (rest : List Ask) (v : Window) : Type 0 where
  pub only : v ≡ with_queue v.queue w
  pub all : puts rest owner now w.mean v.queue ≡ puts asks owner now w.mean w.queue
  pub ready : Ready rest v.queue

module _ (asks : List Ask) (owner now : ℕ) (w : Window) where
  pub putting_start : Ready asks w.queue → Putting asks owner now w asks w
  putting_start r = record { only = refl; all = refl; ready = r }

  pub putting_takes : {a : Ask} {rest : List Ask} {v : Window} → w.mean ≤ max_estimate → Putting asks owner now w (a ∷ rest) v → Takes a.hash v
  putting_takes m p = ready_takes (omega (arith, ap (λ (u : Window). u.mean) p.only)) p.ready

  pub putting_step : (a : Ask) (rest : List Ask) (v v' : Window) → w.mean ≤ max_estimate → v' ≡ with_queue (put (new_entry a.hash owner now a.height v.mean) v.queue) v
      → Putting asks owner now w (a ∷ rest) v → Putting asks owner now w rest v'
  unfolding puts new_entry
  putting_step a rest v v' m e p =
      let mean : v.mean ≡ w.mean = ap (λ (u : Window). u.mean) p.only in
      let q : v'.queue ≡ put (new_entry a.hash owner now a.height w.mean) v.queue =
      ap (λ (u : Window). u.queue) e ∙ ap (λ (k : ℕ). put (new_entry a.hash owner now a.height k) v.queue) mean in
      record {
        only = e ∙ (λ i. with_queue (put (new_entry a.hash owner now a.height v.mean) v.queue) (p.only i)) ∙ ap (λ (x : Queue). with_queue x w) (sym (ap (λ (u : Window). u.queue) e));
        all = ap (puts rest owner now w.mean) q ∙ p.all;
        ready = subst (Ready rest) (sym q) (put_ready a rest (new_entry a.hash owner now a.height w.mean) v.queue refl m p.ready);
      }

  pub putting_done : (v : Window) → Putting asks owner now w [] v → v ≡ with_queue (puts asks owner now w.mean w.queue) w
  unfolding puts
  putting_done v p = p.only ∙ ap (λ (x : Queue). with_queue x w) p.all

-- ---- one turn of the row, on the two slices

-- nothing is left past the end
pub drop_all : (l : List Ask) (i : ℕ) → length l ≤ i → drop i l ≡ []
drop_all [] zero h = refl
drop_all [] (suc i) h = refl
drop_all (a ∷ l) zero h = absurd (not-suc-le-zero h)
drop_all (a ∷ l) (suc i) h = drop_all l i (le_of_suc-le-suc h)

module _ (hs ts : List ℕ) (owner now : ℕ) (w : Window) (i : ℕ) (h : Hash) where
  abbrev left : ℕ → List Ask
  left j = drop j (asks_in hs ts)

  pub turn_takes : (v : Window) → i < length (asks_in hs ts) → h ≡ hash_in hs (4 * i) → w.mean ≤ max_estimate → Putting (asks_in hs ts) owner now w (left i) v → Takes h v
  turn_takes v b e m p =
      subst (λ (g : Hash). Takes g v) (sym e)
      (putting_takes (asks_in hs ts) owner now w m (subst (λ (l : List Ask). Putting (asks_in hs ts) owner now w l v) (asks_drop hs ts i b) p))

  pub turn_puts : (v v' : Window) → i < length (asks_in hs ts) → h ≡ hash_in hs (4 * i) → w.mean ≤ max_estimate
      → v' ≡ with_queue (put (new_entry h owner now (get_or ts i 0) v.mean) v.queue) v → Putting (asks_in hs ts) owner now w (left i) v
      → Putting (asks_in hs ts) owner now w (left (i + 1)) v'
  turn_puts v v' b e m q p =
      rw add-one
      (putting_step (asks_in hs ts) owner now w (ask_at hs ts i) (left (suc i)) v v' m
      (q ∙ ap (λ (g : Hash). with_queue (put (new_entry g owner now (get_or ts i 0) v.mean) v.queue) v) e)
      (subst (λ (l : List Ask). Putting (asks_in hs ts) owner now w l v) (asks_drop hs ts i b) p))
