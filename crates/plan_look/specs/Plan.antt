-- The plan in its two lent lists, and one turn of the scan on them. Assumes nothing.
use Rattle.std.specs.Prelude.{◌≡◌, refl, ◌||◌, List, [], ◌∷◌, ◌++◌, ℕ, ◌+◌, ◌*◌, length, take, drop, Option}
use Rattle.std.proofs.Common.{sym, ap, subst, ◌∙◌, arith, length-append, take_at, ne_eqb}
use Rattle.std.proofs.lemmas.List.{length-map}
use Rattle.model.specs.Numbers.{greater, next_height}
use Rattle.model.specs.Hash.{hash_words, hashes_in}
use Rattle.model.specs.Calls.{Ask}
use Rattle.model.specs.Planning.{names, ask_hashes, ask_heights, written}
use Rattle.model.specs.declared.Hash.{Hash}
use Rattle.model.specs.declared.Entry.{Entry}
use Rattle.listed.specs.Index.{Indexed}
use Rattle.plan_lists.specs.Lists.{placed, hashes_put, heights_put}
use Rattle.plan_look.specs.declared.Look.{Look}
use Rattle.plan_look.specs.declared.Look.TheVariants.{PassBy, NoteRefused, Take}
use Rattle.plan_look.specs.Scan.{Scanned, plan_hashes, passes, look_of, first_of, look, looked}

-- ---- asks in words

hashes_back : (asks : List Ask) (rest : List ℕ) → hashes_in (ask_hashes asks ++ rest) ≡ plan_hashes asks ++ hashes_in rest
unfolding ask_hashes hashes_in
hashes_back [] rest = refl
hashes_back (x ∷ asks) rest = ap (λ (r : List Hash). x.hash ∷ r) (hashes_back asks rest)

-- the first hashes of the list are the plan's
pub plan_named : (asks : List Ask) (hs₀ hs : List ℕ) (n : ℕ) → hs ≡ written (ask_hashes asks) hs₀ → n ≡ length asks → take n (hashes_in hs) ≡ plan_hashes asks
unfolding written
plan_named asks hs₀ hs n e k =
    (λ i. take n (hashes_in (e i))) ∙ ap (take n) (hashes_back asks (drop (length (ask_hashes asks)) hs₀))
    ∙ take_at (plan_hashes asks) _ n (length-map asks (λ a. a.hash) ∙ sym k)

-- ---- a turn, by what the scan does at a height

abbrev pub count_after : Look → ℕ → ℕ
count_after PassBy n = n
count_after NoteRefused n = n
count_after Take n = n + 1

abbrev pub first_after : Look → Option ℕ → ℕ → Option ℕ
first_after PassBy first height = first
first_after NoteRefused first height = first_of first height
first_after Take first height = first

abbrev pub next_past : Look → ℕ → ℕ → ℕ
next_past PassBy next height = next
next_past NoteRefused next height = next
next_past Take next height = greater next (next_height height)

abbrev pub words_after : Look → ℕ → List ℕ → List ℕ → List ℕ
words_after PassBy i v l = l
words_after NoteRefused i v l = l
words_after Take i v l = placed i v l

-- the plan's lists and its index after a height
abbrev pub TakenAt : Look → ℕ → Hash → ℕ → List ℕ → List ℕ → List ℕ → List ℕ → List ℕ → Type 0
TakenAt k n h height hs ts hs' ts' ix' =
    (hs' ≡ words_after k (4 * n) (hash_words h) hs) × ((ts' ≡ words_after k n (height ∷ []) ts) × Indexed (count_after k n) hs' ix')

-- the lists hold what the scan has come to
pub record Drawn (s : Scanned) (hs₀ ts₀ : List ℕ) (full n : ℕ) (low : Option ℕ) (at : ℕ) (hs ts : List ℕ) : Type 0 where
  pub count : n ≡ length s.asks
  pub room : n + s.left ≡ full
  pub first : low ≡ s.first
  pub next : at ≡ s.next
  pub hashes : hs ≡ written (ask_hashes s.asks) hs₀
  pub heights : ts ≡ written (ask_heights s.asks) ts₀

module _ (s : Scanned) (hs₀ ts₀ : List ℕ) (full n : ℕ) (first : Option ℕ) (next : ℕ) (hs ts : List ℕ) (d : Drawn s hs₀ ts₀ full n first next hs ts) (a : Ask) where
  -- of a height at which it did k
  drawn_by : (k : Look) → (s.left ≡ 0 → ⊥)
      → Drawn (looked k a s) hs₀ ts₀ full (count_after k n) (first_after k first a.height) (next_past k next a.height) (words_after k (4 * n) (hash_words a.hash) hs) (words_after k n (a.height ∷ []) ts)
  drawn_by PassBy z = d
  drawn_by NoteRefused z =
      record { count = d.count; room = d.room; first = ap (λ (f : Option ℕ). first_of f a.height) d.first; next = d.next; hashes = d.hashes; heights = d.heights }
  drawn_by Take z = record {
    count = omega (arith, d.count, length-append s.asks (a ∷ []));
    room = omega (arith, d.room, z);
    first = d.first;
    next = ap (λ (x : ℕ). greater x (next_height a.height)) d.next;
    hashes = hashes_put s.asks a hs₀ hs n d.count d.hashes;
    heights = heights_put s.asks a ts₀ ts n d.count d.heights;
  }

  module _ (es : List Entry) (staged refused : List ℕ) (k : Look) (wants : n ≡ full → ⊥) where
    still : s.left ≡ 0 → ⊥
    still z = wants (omega (arith, d.room, z))

    look_is : k ≡ look_of (passes es staged (take n (hashes_in hs)) a) (names refused a.hash) → k ≡ look es staged refused a s
    look_is e =
        let named = plan_named s.asks hs₀ hs n d.hashes d.count in
        e ∙ (λ i. look_of (sym (ne_eqb s.left 0 still) i || passes es staged (named i) a) (names refused a.hash))

    pub drawn_turn : (n' : ℕ) (first' : Option ℕ) (next' : ℕ) (hs' ts' : List ℕ) → k ≡ look_of (passes es staged (take n (hashes_in hs)) a) (names refused a.hash)
        → n' ≡ count_after k n → first' ≡ first_after k first a.height → next' ≡ next_past k next a.height
        → hs' ≡ words_after k (4 * n) (hash_words a.hash) hs → ts' ≡ words_after k n (a.height ∷ []) ts
        → Drawn (looked (look es staged refused a s) a s) hs₀ ts₀ full n' first' next' hs' ts'
    drawn_turn n' first' next' hs' ts' e en ef ex eh et =
        subst (λ (q : Look). Drawn (looked q a s) hs₀ ts₀ full n' first' next' hs' ts') (look_is e)
        (rw (en, ef, ex, eh, et) (drawn_by k still))
