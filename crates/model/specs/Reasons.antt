-- The ten reasons for which an entry is let go, and the fixed table that says which lower the frontier. Definitions only.
--   1 delivered · 2 owner's rejection · 3 retry · 4 release · 5 retired · 6 owner's time out · 7 passed over · 8 seat lost
--   9 prefix race lost · 10 hedge lost
use Rattle.std.specs.Prelude.{ℕ, Bool, cond, not, ◌||◌, List, [], ◌∷◌, get_or, eqb}
use Rattle.model.specs.Numbers.{lesser}
use Rattle.model.specs.declared.Entry.{Entry}
use Rattle.model.specs.declared.Release.{Release}
use Rattle.model.specs.declared.Reason.{Reason}
use Rattle.model.specs.declared.Reason.TheVariants.{Delivered, OwnerRejection, Retry, Released, Retired, OwnerTimeOut, PassedOver, SeatLost, PrefixRaceLost, HedgeLost}

abbrev pub reason_number : Reason → ℕ
reason_number Delivered = 1
reason_number OwnerRejection = 2
reason_number Retry = 3
reason_number Released = 4
reason_number Retired = 5
reason_number OwnerTimeOut = 6
reason_number PassedOver = 7
reason_number SeatLost = 8
reason_number PrefixRaceLost = 9
reason_number HedgeLost = 10

-- at each reason 1 where it lowers the frontier to the entry's height, else 0; place 0 is no reason
abbrev pub lowering : List ℕ
lowering = 0 ∷ 0 ∷ 1 ∷ 1 ∷ 0 ∷ 0 ∷ 1 ∷ 1 ∷ 1 ∷ 1 ∷ 1 ∷ []

unfoldable pub lowers : ℕ → Bool
lowers r = eqb (get_or lowering r 0) 1

-- SPECIFICATION 5.2: all but 1, 4 and 5
unfoldable pub lowering_rule : ℕ → Bool
lowering_rule r = not (eqb r 1 || eqb r 4 || eqb r 5)

-- the frontier after an entry of the height went for the reason r
unfoldable pub lowered : ℕ → ℕ → ℕ → ℕ
lowered r height frontier = cond (lowers r) (lesser frontier height) frontier

abbrev pub release : Entry → ℕ → Release
release e r = record { entry = e; reason = r }
