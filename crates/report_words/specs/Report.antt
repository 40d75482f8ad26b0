-- What went, as a flat list of words: nine for a release. Definitions, and what a write does to them. Assumes nothing.
use Rattle.std.specs.Prelude.{◌≡◌, Bool, true, false, ◌||◌, List, [], ◌∷◌, ◌++◌, length, take, drop}
use Rattle.std.proofs.Math.Path.{refl}
use Rattle.std.proofs.Common.{sym, ap, ◌∙◌, arith, length-append, get_or-take, get_or-drop}
use Prim.Native.Nat.{ℕ, zero, suc, ◌+◌, ◌-◌, ◌*◌, ◌≤◌, ◌<◌}
use Rattle.std.proofs.Math.ListN.{get_or}
use Rattle.column.proofs.Parts.{put, put_part, put_before}
use Rattle.model.specs.Lists.{any}
use Rattle.model.specs.Reasons.{lowered, release}
use Rattle.model.specs.Seats.{reset_owner_queue_start}
use Rattle.model.specs.Window.{Queue}
use Rattle.model.specs.LettingGo.{total_after, frontier_after, resets}
use Rattle.model.specs.declared.Entry.{Entry}
use Rattle.model.specs.declared.Release.{Release}

-- the release whose words start at k
abbrev pub release_from : List ℕ → ℕ → Release
release_from core k = record {
  entry = record {
    hash = record { a = get_or core k 0; b = get_or core (k + 1) 0; c = get_or core (k + 2) 0; d = get_or core (k + 3) 0 };
    owner = get_or core (k + 4) 0;
    time = get_or core (k + 5) 0;
    height = get_or core (k + 6) 0;
    estimate = get_or core (k + 7) 0;
  };
  reason = get_or core (k + 8) 0;
}

-- release i
abbrev pub release_at : List ℕ → ℕ → Release
release_at core i = release_from core (9 * i)

-- the first n releases
unfoldable pub releases_of : ℕ → List ℕ → List Release
releases_of zero core = []
releases_of (suc i) core = releases_of i core ++ (release_at core i ∷ [])

-- its nine words
abbrev pub nine : Entry → ℕ → List ℕ
nine e r = e.hash.a ∷ e.hash.b ∷ e.hash.c ∷ e.hash.d ∷ e.owner ∷ e.time ∷ e.height ∷ e.estimate ∷ r ∷ []

pub length_releases : (n : ℕ) (core : List ℕ) → length (releases_of n core) ≡ n
unfolding releases_of
length_releases zero core = refl
length_releases (suc n) core = length-append (releases_of n core) (release_at core n ∷ []) ∙ omega (arith, length_releases n core)

-- words as long as before their first places are the same
module _ (x y : List ℕ) where
  same_at : (m k : ℕ) → k < m → take m x ≡ take m y → get_or x k 0 ≡ get_or y k 0
  same_at m k h e = sym (get_or-take m x k 0 h) ∙ ap (λ (l : List ℕ). get_or l k 0) e ∙ get_or-take m y k 0 h

  pub releases_same : (n m : ℕ) → 9 * n ≤ m → take m x ≡ take m y → releases_of n x ≡ releases_of n y
  unfolding releases_of
  releases_same zero m h e = refl
  releases_same (suc n) m h e =
      let at : (k : ℕ) → k < m → get_or x k 0 ≡ get_or y k 0 = λ k b. same_at m k b e in
      let a = 9 * n in
      λ i. releases_same n m (omega arith) e i ++ (record {
        entry = record {
          hash = record { a = at a (omega arith) i; b = at (a + 1) (omega arith) i; c = at (a + 2) (omega arith) i; d = at (a + 3) (omega arith) i };
          owner = at (a + 4) (omega arith) i;
          time = at (a + 5) (omega arith) i;
          height = at (a + 6) (omega arith) i;
          estimate = at (a + 7) (omega arith) i;
        };
        reason = at (a + 8) (omega arith) i;
      } ∷ [])

-- nine words that are e's
nine_read : (core : List ℕ) (a r : ℕ) (e : Entry) → take 9 (drop a core) ≡ nine e r → release_from core a ≡ release e r
nine_read core a r e q =
    let at : (k : ℕ) → k < 9 → get_or core (a + k) 0 ≡ get_or (nine e r) k 0 =
    λ k b. sym (get_or-drop a core k 0) ∙ sym (get_or-take 9 (drop a core) k 0 b) ∙ ap (λ (l : List ℕ). get_or l k 0) q in
    let here : a ≡ a + 0 = omega arith in
    let first : get_or core a 0 ≡ e.hash.a = ap (λ (k : ℕ). get_or core k 0) here ∙ at 0 (omega arith) in
    λ i. record {
      entry = record {
        hash = record { a = first i; b = at 1 (omega arith) i; c = at 2 (omega arith) i; d = at 3 (omega arith) i };
        owner = at 4 (omega arith) i;
        time = at 5 (omega arith) i;
        height = at 6 (omega arith) i;
        estimate = at 7 (omega arith) i;
      };
      reason = at 8 (omega arith) i;
    }

-- the part from 9 n on lent and back as a release's words
pub release_put : (n r : ℕ) (e : Entry) (core y : List ℕ) (z : ℕ) → z ≡ 9 → 9 * n + 9 ≤ length core → y ≡ nine e r
    → releases_of (suc n) (put (9 * n) z core y) ≡ releases_of n core ++ (release e r ∷ [])
unfolding releases_of
release_put n r e core y z q h w =
    let k : 9 * n + z ≤ length core = omega arith in
    let long : length y ≡ z = ap length w ∙ sym q in
    let same = releases_same (put (9 * n) z core y) core n (9 * n) (omega arith) (put_before (9 * n) z core y k long (9 * n) (omega arith)) in
    let part : take 9 (drop (9 * n) (put (9 * n) z core y)) ≡ nine e r = ap (λ (m : ℕ). take m (drop (9 * n) (put (9 * n) z core y))) (sym q) ∙ put_part (9 * n) z core y k long ∙ w in
    λ i. same i ++ (nine_read (put (9 * n) z core y) (9 * n) r e part i ∷ [])

-- ---- one more release, at the end of those passed

pub total_more : (gs : List Release) (g : Release) (n : ℕ) → total_after (gs ++ (g ∷ [])) n ≡ total_after gs n - g.entry.estimate
unfolding total_after
total_more [] g n = refl
total_more (x ∷ gs) g n = total_more gs g (n - x.entry.estimate)

pub frontier_more : (gs : List Release) (g : Release) (f : ℕ) → frontier_after (gs ++ (g ∷ [])) f ≡ lowered g.reason g.entry.height (frontier_after gs f)
unfolding frontier_after
frontier_more [] g f = refl
frontier_more (x ∷ gs) g f = frontier_more gs g (lowered x.reason x.entry.height f)

pub resets_more : (now : ℕ) (gs : List Release) (g : Release) (q : Queue)
    → resets now (gs ++ (g ∷ [])) q ≡ reset_owner_queue_start g.entry.owner g.entry.time now (resets now gs q)
unfolding resets
resets_more now [] g q = refl
resets_more now (x ∷ gs) g q = resets_more now gs g (reset_owner_queue_start x.entry.owner x.entry.time now q)

or_false : (b : Bool) → (b || false) ≡ b
or_false true = refl
or_false false = refl

or_assoc : (a b c : Bool) → (a || (b || c)) ≡ ((a || b) || c)
or_assoc true b c = refl
or_assoc false b c = refl

pub any_more : (p : Release → Bool) (gs : List Release) (g : Release) → any p (gs ++ (g ∷ [])) ≡ (any p gs || p g)
unfolding any
any_more p [] g = or_false (p g)
any_more p (x ∷ gs) g = ap (λ (b : Bool). p x || b) (any_more p gs g) ∙ or_assoc (p x) (any p gs) (p g)
