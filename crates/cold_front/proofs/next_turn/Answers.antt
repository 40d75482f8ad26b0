-- `cold_front::next_turn` meets its contract. Assumes nothing.
use mathlib.Core.Path.{sym, ◌∙◌}
use Rattle.model.specs.Layout.{window_of}
use Rattle.cold_front.specs.Cold.{turn_racing, turn_paced, turn_hedged, turn_none, turn_at}
use Rattle.cold_front.proofs.next_turn.Goals as goal

pub returns-then-is_racing : goal.returns-then-is_racing
returns-then-is_racing c = turn_racing c.args.next c.args.clock (window_of c.args.words.now) c.get_cold-cold.result c.get_cold-cold.ensures (sym c.is_racing.ensures ∙ c.if-is_racing.true)

pub returns-then-pace-ne0 : goal.returns-then-pace-ne0
returns-then-pace-ne0 c = c.idle.ensures ∙ turn_paced c.args.next c.args.clock (window_of c.args.words.now) c.get_cold-cold.result c.get_cold-cold.ensures (sym c.is_racing.ensures ∙ c.if-is_racing.false) c.get_pace-pace.result c.get_pace-pace.ensures c.if-pace-ne0.true

pub returns-then-hedged_count-ge-MAX_COLD_FRONT_HEDGES : goal.returns-then-hedged_count-ge-MAX_COLD_FRONT_HEDGES
returns-then-hedged_count-ge-MAX_COLD_FRONT_HEDGES c = c.idle-then-hedged_count-ge-MAX_COLD_FRONT_HEDGES.ensures ∙ turn_hedged c.args.next c.args.clock (window_of c.args.words.now) c.get_cold-cold.result c.get_cold-cold.ensures (sym c.is_racing.ensures ∙ c.if-is_racing.false) c.get_pace-pace.result c.get_pace-pace.ensures c.if-pace-ne0.false c.hedged_count.result c.hedged_count.ensures c.if-hedged_count-ge-MAX_COLD_FRONT_HEDGES.true

pub returns-in_default : goal.returns-in_default
returns-in_default c = c.idle-in_default.ensures ∙ turn_none c.args.next c.args.clock (window_of c.args.words.now) c.get_cold-cold.result c.get_cold-cold.ensures (sym c.is_racing.ensures ∙ c.if-is_racing.false) c.get_pace-pace.result c.get_pace-pace.ensures c.if-pace-ne0.false c.hedged_count.result c.hedged_count.ensures c.if-hedged_count-ge-MAX_COLD_FRONT_HEDGES.false c.at_height-lowest.result c.at_height-lowest.ensures c.in_default.is

pub returns : goal.returns
returns c = c.wait_on.ensures ∙ turn_at c.args.next c.args.clock (window_of c.args.words.now) c.get_cold-cold.result c.get_cold-cold.ensures (sym c.is_racing.ensures ∙ c.if-is_racing.false) c.get_pace-pace.result c.get_pace-pace.ensures c.if-pace-ne0.false c.hedged_count.result c.hedged_count.ensures c.if-hedged_count-ge-MAX_COLD_FRONT_HEDGES.false c.at_height-lowest.result c.at_height-lowest.ensures _ c.get_settings-s.result c.in-Some.is c.get_settings-s.ensures
