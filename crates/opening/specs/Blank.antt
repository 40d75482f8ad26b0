-- Words that are 0 throughout, and a new window made of them. Assumes nothing.
use Rattle.std.specs.Prelude.{◌≡◌, refl, List, [], ◌∷◌, ℕ, zero, suc, ◌+◌, ◌≤◌, length, get_or, take, drop, replicate}
use Rattle.std.proofs.Common.{ap, ◌∙◌, arith}
use Rattle.std.proofs.lemmas.List.{length-replicate}
use Rattle.model.specs.Lists.{pad}
use Rattle.model.specs.Hash.{hash, hashes_words}
use Rattle.model.specs.Pace.{pace_opened}
use Rattle.model.specs.Calls.{opened}
use Rattle.model.specs.Layout.{Table, blank, entry_at, rows, decode, encode, table, settings_words, counts_words, small_words, hedged_words, planned_words, head_words}
use Rattle.model.specs.declared.Settings.{Settings}
use Rattle.laws.specs.Tables.{with_keys, with_head, replaced, with_words, words_are}
use Rattle.laws.specs.Whole.{Shaped, Holds, holds_words}
use Rattle.layout.specs.Head.{pace_list}

-- every word is 0
abbrev pub blank_table : Table
blank_table = record {
  entries = replicate 256 blank;
  spare = replicate 256 0;
  starts = replicate 256 0;
  bodies = replicate 256 0;
  keys = replicate 256 0;
  cooling = replicate 256 0;
  racers = replicate 256 0;
  head = replicate 512 0;
}

abbrev pub zeros : ℕ → List ℕ
zeros n = replicate n 0

zero_at : (n i : ℕ) → ◌≡◌ {A = ℕ} (get_or (zeros n) i 0) 0
zero_at zero i = refl
zero_at (suc n) zero = refl
zero_at (suc n) (suc i) = zero_at n i

drop_zeros : (k n m : ℕ) → k + n ≡ m → drop k (zeros m) ≡ zeros n
drop_zeros zero n m e = let q : m ≡ n = omega arith in ap zeros q
drop_zeros (suc k) n zero e = absurd (omega arith)
drop_zeros (suc k) n (suc m) e = drop_zeros k n m (omega arith)

take_zeros : (k m : ℕ) → k ≤ m → take k (zeros m) ≡ zeros k
take_zeros zero m h = refl
take_zeros (suc k) zero h = absurd (omega arith)
take_zeros (suc k) (suc m) h = ap (λ (l : List ℕ). 0 ∷ l) (take_zeros k m (omega arith))

-- k words after the first a
part_zeros : (a n k : ℕ) → a + n ≡ 4096 → k ≤ n → take k (drop a (zeros 4096)) ≡ zeros k
part_zeros a n k e h = ap (take k) (drop_zeros a n 4096 e) ∙ take_zeros k n h

entry_zeros : (m : ℕ) → entry_at (zeros m) ≡ blank
unfolding entry_at
entry_zeros m = λ i. record {
  hash = hash (zero_at m 0 i) (zero_at m 256 i) (zero_at m 512 i) (zero_at m 768 i);
  owner = zero_at m 1024 i;
  time = zero_at m 1280 i;
  height = zero_at m 1536 i;
  estimate = zero_at m 1792 i;
}

rows_zeros : (n m : ℕ) → rows n (zeros m) ≡ replicate n blank
unfolding rows
rows_zeros zero m = refl
rows_zeros (suc n) zero = λ i. entry_zeros 0 i ∷ rows_zeros n 0 i
rows_zeros (suc n) (suc m) = λ i. entry_zeros (suc m) i ∷ rows_zeros n m i

pub decode_zeros : decode (zeros 4096) ≡ blank_table
unfolding decode
decode_zeros = λ i. record {
  entries = rows_zeros 256 4096 i;
  spare = part_zeros 2048 2048 256 refl (omega arith) i;
  starts = part_zeros 2304 1792 256 refl (omega arith) i;
  bodies = part_zeros 2560 1536 256 refl (omega arith) i;
  keys = part_zeros 2816 1280 256 refl (omega arith) i;
  cooling = part_zeros 3072 1024 256 refl (omega arith) i;
  racers = part_zeros 3328 768 256 refl (omega arith) i;
  head = drop_zeros 3584 512 4096 refl i;
}

-- the head's words and the keys written
pub opened_in : (c : ℕ) (b : Settings) (keys : List ℕ)
    → with_words 22 (pace_list (pace_opened b)) (with_words 8 (settings_words b) (with_words 0 (1 ∷ 0 ∷ c ∷ 0 ∷ 0 ∷ 0 ∷ 262144 ∷ 1 ∷ []) (with_keys keys blank_table))) ≡ table (opened c b keys)
unfolding with_words with_head replaced with_keys pace_list pace_opened settings_words table opened head_words counts_words small_words hedged_words planned_words hashes_words pad
opened_in c b keys = refl

opened_shaped : (c : ℕ) (b : Settings) (keys : List ℕ) → length keys ≡ 256 → Shaped (opened c b keys)
unfolding opened
opened_shaped c b keys n = record {
  few = omega arith;
  starts = length-replicate {A = ℕ} 256 0;
  bodies = length-replicate {A = ℕ} 256 0;
  keys = n;
  cooling = length-replicate {A = ℕ} 256 0;
  racers = length-replicate {A = ℕ} 256 0;
  hedged = omega arith;
  planned = omega arith;
}

pub opened_holds : (c : ℕ) (b : Settings) (keys ws : List ℕ) → length keys ≡ 256 → length ws ≡ 4096 → decode ws ≡ table (opened c b keys) → Holds (opened c b keys) ws
unfolding encode
opened_holds c b keys ws n l e = holds_words (opened c b keys) ws (opened_shaped c b keys n) (words_are ws (table (opened c b keys)) l e)
