-- What the head's groups are in a table. Definitions only.
use Rattle.std.specs.Prelude.{List, [], ◌∷◌, ℕ, eqb}
use Rattle.model.specs.Layout.{Table, word, flag_word}
use Rattle.model.specs.declared.Fanout.{Fanout}
use Rattle.model.specs.declared.Pace.{Pace}

-- 20
unfoldable pub fanout_of : Table → Fanout
fanout_of t = record { eligible = word 20 t; engaged = eqb (word 21 t) 1 }

unfoldable pub fanout_list : Fanout → List ℕ
fanout_list f = f.eligible ∷ flag_word f.engaged ∷ []

-- 22
unfoldable pub pace_list : Pace → List ℕ
pace_list p = p.mean ∷ p.advance ∷ p.wait ∷ []
