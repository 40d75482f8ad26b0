-- An answer as a C struct: the refusal's number first, 0 for none; then its places and values by name, 0 where there are none. Definitions only.
use Rattle.std.specs.Prelude.{ℕ, cond, List, [], ◌∷◌, get_or, drop, replicate, eqb}
use Rattle.model.specs.Lists.{pad}
use Rattle.model.specs.Hash.{hash}
use Rattle.model.specs.Perform.{Answer, refused, says}
use Rattle.flat.specs.declared.FlatNumber.{FlatNumber}
use Rattle.flat.specs.declared.FlatPair.{FlatPair}
use Rattle.flat.specs.declared.FlatPerhaps.{FlatPerhaps}
use Rattle.flat.specs.declared.FlatPerhapsPair.{FlatPerhapsPair}
use Rattle.flat.specs.declared.FlatGone.{FlatGone}
use Rattle.flat.specs.declared.FlatReceived.{FlatReceived}
use Rattle.flat.specs.declared.FlatRejected.{FlatRejected}
use Rattle.flat.specs.declared.FlatNextRequest.{FlatNextRequest}
use Rattle.flat.specs.declared.FlatBlocked.{FlatBlocked}
use Rattle.flat.specs.declared.FlatPlan.{FlatPlan}

-- the k-th value
abbrev pub value : List ℕ → ℕ → ℕ
value values k = get_or values k 0

-- whether there is a value
abbrev pub present : List ℕ → ℕ
present [] = 0
present (x ∷ l) = 1

abbrev pub done_flat : Answer → ℕ
done_flat (refused n) = n
done_flat (says places values) = 0

abbrev pub number_flat : Answer → FlatNumber
number_flat (refused n) = record { refused = n; value = 0 }
number_flat (says places values) = record { refused = 0; value = value values 0 }

abbrev pub pair_flat : Answer → FlatPair
pair_flat (refused n) = record { refused = n; first = 0; second = 0 }
pair_flat (says places values) = record { refused = 0; first = value values 0; second = value values 1 }

abbrev pub perhaps_flat : Answer → FlatPerhaps
perhaps_flat (refused n) = record { refused = n; present = 0; value = 0 }
perhaps_flat (says places values) = record { refused = 0; present = present values; value = value values 0 }

abbrev pub perhaps_pair_flat : Answer → FlatPerhapsPair
perhaps_pair_flat (refused n) = record { refused = n; present = 0; first = 0; second = 0 }
perhaps_pair_flat (says places values) = record { refused = 0; present = present values; first = value values 0; second = value values 1 }

abbrev pub gone_flat : Answer → FlatGone
gone_flat (refused n) = record { refused = n; places = 0 }
gone_flat (says places values) = record { refused = 0; places = places }

abbrev pub received_flat : Answer → FlatReceived
received_flat (refused n) = record { refused = n; places = 0; present = 0; height = 0 }
received_flat (says places values) = record { refused = 0; places = places; present = present values; height = value values 0 }

abbrev pub rejected_flat : Answer → FlatRejected
rejected_flat (refused n) = record { refused = n; places = 0; released = 0 }
rejected_flat (says places values) = record { refused = 0; places = places; released = value values 0 }

abbrev pub next_request_flat : Answer → FlatNextRequest
next_request_flat (refused n) = record { refused = n; places = 0; count = 0; next_height = 0 }
next_request_flat (says places values) = record { refused = 0; places = places; count = value values 0; next_height = value values 1 }

-- the decisions of SPECIFICATION 7.16: 0 none, 1 and 2 blame an owner, 3 evicts, 4 hedges
abbrev pub blames : List ℕ → FlatBlocked
blames v = record { refused = 0; decision = value v 0; owner = value v 1; height = 0; suppressed = 0; hash = hash 0 0 0 0 }

abbrev pub evicts : List ℕ → FlatBlocked
evicts v =
    record { refused = 0; decision = 3; owner = 0; height = value v 1; suppressed = value v 2; hash = hash (value v 3) (value v 4) (value v 5) (value v 6) }

abbrev pub hedges : List ℕ → FlatBlocked
hedges v = record { refused = 0; decision = 4; owner = value v 1; height = 0; suppressed = 0; hash = hash (value v 2) (value v 3) (value v 4) (value v 5) }

abbrev pub blocked_flat : Answer → FlatBlocked
blocked_flat (refused n) = record { refused = n; decision = 0; owner = 0; height = 0; suppressed = 0; hash = hash 0 0 0 0 }
blocked_flat (says places v) = cond (eqb (value v 0) 3) (evicts v) (cond (eqb (value v 0) 4) (hedges v) (blames v))

-- the words of a plan's hashes follow its three numbers; 0 after them
abbrev pub plan_flat : Answer → FlatPlan
plan_flat (refused n) = record { refused = n; present = 0; owner = 0; count = 0; end_height = 0; hashes = replicate 32 0 }
plan_flat (says places v) =
    record { refused = 0; present = present v; owner = value v 0; count = value v 1; end_height = value v 2; hashes = pad 32 0 (drop 3 v) }
