-- What a call says, as a row of 32 words.
use Rattle.std.specs.Prelude.{ℕ, ◌-◌, List, [], ◌∷◌, ◌++◌, length, replicate}
use Rattle.flat.specs.declared.FlatNumber.{FlatNumber}
use Rattle.flat.specs.declared.FlatPair.{FlatPair}
use Rattle.flat.specs.declared.FlatPerhaps.{FlatPerhaps}
use Rattle.flat.specs.declared.FlatPerhapsPair.{FlatPerhapsPair}
use Rattle.flat.specs.declared.FlatGone.{FlatGone}
use Rattle.flat.specs.declared.FlatReceived.{FlatReceived}
use Rattle.flat.specs.declared.FlatRejected.{FlatRejected}
use Rattle.flat.specs.declared.FlatBlocked.{FlatBlocked}
use Rattle.flat.specs.declared.FlatPlan.{FlatPlan}
use Rattle.recorded.specs.declared.Said.{Said}

-- the fields of an answer, and 0 after them
abbrev pub row : List ℕ → List ℕ
row fields = fields ++ replicate (32 - length fields) 0

abbrev pub done_row : ℕ → List ℕ
done_row refused = row (refused ∷ [])

abbrev pub number_row : FlatNumber → List ℕ
number_row f = row (f.refused ∷ f.value ∷ [])

abbrev pub pair_row : FlatPair → List ℕ
pair_row f = row (f.refused ∷ f.first ∷ f.second ∷ [])

abbrev pub perhaps_row : FlatPerhaps → List ℕ
perhaps_row f = row (f.refused ∷ f.present ∷ f.value ∷ [])

abbrev pub perhaps_pair_row : FlatPerhapsPair → List ℕ
perhaps_pair_row f = row (f.refused ∷ f.present ∷ f.first ∷ f.second ∷ [])

abbrev pub gone_row : FlatGone → List ℕ
gone_row f = row (f.refused ∷ f.places ∷ [])

abbrev pub received_row : FlatReceived → List ℕ
received_row f = row (f.refused ∷ f.places ∷ f.present ∷ f.height ∷ [])

abbrev pub rejected_row : FlatRejected → List ℕ
rejected_row f = row (f.refused ∷ f.places ∷ f.released ∷ [])

abbrev pub plan_row : FlatPlan → List ℕ
plan_row f = row (f.refused ∷ f.present ∷ f.owner ∷ f.count ∷ f.end_height ∷ [])

abbrev pub blocked_row : FlatBlocked → List ℕ
blocked_row f = row (f.refused ∷ f.decision ∷ f.owner ∷ f.height ∷ f.suppressed ∷ f.hash.a ∷ f.hash.b ∷ f.hash.c ∷ f.hash.d ∷ [])

-- of a call without a report
unfoldable pub alone : List ℕ → Said
alone fields = record { fields = fields; places = 0; gone = replicate 2304 0 }
