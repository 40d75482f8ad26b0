-- `observation::hedge_answer` meets its contract. Assumes nothing.
use Rattle.observation.proofs.hedge_answer.Goals as goal

pub returns : goal.returns
returns c = rw c.in-Some.is
