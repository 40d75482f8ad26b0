-- `seats::keep_racers` meets its contract. Assumes nothing.
use Rattle.model.specs.Layout.{decode}
use Rattle.seats.proofs.Written.{racers_back}
use Rattle.seats.proofs.keep_racers.Goals as goal

pub returns : goal.returns
unfolding decode
returns c =
    let at_call = c in
    let at-start = at_call in
    racers_back at-start.args.words.now at_call.keep_flagged.new.col _ at-start.told-words at_call.keep_flagged.ensures at_call.keep_flagged.auto.col
