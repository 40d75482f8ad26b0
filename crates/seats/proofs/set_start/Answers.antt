-- `seats::set_start` meets its contract. Assumes nothing.
use Rattle.model.specs.Layout.{decode}
use Rattle.seats.proofs.Written.{starts_back}
use Rattle.seats.proofs.set_start.Goals as goal

pub returns : goal.returns
unfolding decode
returns c =
    let at_call = c in
    let at-start = at_call in
    starts_back at-start.args.words.now at_call.store.new.col _ at-start.told-words at_call.store.ensures at_call.store.auto.col
