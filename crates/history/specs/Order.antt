-- SPECIFICATION 3.4: "the delivered one first, the others by rising hash". Definitions only.
use Rattle.std.specs.Prelude.{◌≡◌, List, [], ◌∷◌, ◌<◌, None, Some, Option}
use Rattle.model.specs.Hash.{key}
use Rattle.model.specs.Records.{found}
use Rattle.model.specs.Reasons.{release}
use Rattle.model.specs.Refusals.{Change, Call, opens, changes, queries, requests, fetches, receives, credits, credits_duplicate, rejects, expires, requeues, releases, retires, retains, marks_unresponsive, confirms_probe, confirms_hedge, observes, sets_fanout, clears_preferred, plans, plans_retry}
use Rattle.model.specs.declared.Entry.{Entry}
use Rattle.model.specs.declared.Release.{Release}

-- by rising hash: each hash is below the next one
abbrev pub Rises : List Release → Type 0
Rises [] = Unit {0}
Rises (g ∷ []) = Unit {0}
Rises (g ∷ x ∷ gs) = (key g.entry.hash < key x.entry.hash) × Rises (x ∷ gs)

-- the entry that an accepted call delivers, of the pending ones: a delivery that of its hash, where it is pending, and no other call one
abbrev pub delivers_of : Change → List Entry → Option Entry
delivers_of (requests c owner hashes heights next bytes n) l = None
delivers_of (fetches c owner h height is_staged bytes n) l = None
delivers_of (receives c h bytes source) l = found h l
delivers_of (credits c h source height) l = None
delivers_of (credits_duplicate h source) l = None
delivers_of (rejects c h source) l = None
delivers_of (expires c) l = None
delivers_of (requeues c h named) l = None
delivers_of (releases c h) l = None
delivers_of (retires c height) l = None
delivers_of (retains flags) l = None
delivers_of (marks_unresponsive c source) l = None
delivers_of (confirms_probe c owner given alternates) l = None
delivers_of (confirms_hedge owner alternate h) l = None
delivers_of (observes c look) l = None
delivers_of (sets_fanout c n) l = None
delivers_of clears_preferred l = None
delivers_of (plans c source lent hash_words heights) l = None
delivers_of (plans_retry c source lent hash_words heights) l = None

abbrev pub delivers : Call → List Entry → Option Entry
delivers (opens c b keys) l = None
delivers (changes x) l = delivers_of x l
delivers (queries q) l = None

-- the places that an accepted call counts: the delivered entry, for the reason 1, where there is one; then the others
abbrev pub InOrder : Option Entry → List Release → Type 0
InOrder None gs = Rises gs
InOrder (Some e) [] = ⊥
InOrder (Some e) (g ∷ gs) = (g ≡ release e 1) × Rises gs
