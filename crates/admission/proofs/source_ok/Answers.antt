-- `admission::source_ok` meets its contract. Assumes nothing.
use Rattle.admission.proofs.source_ok.Goals as goal

pub returns-in-Some : goal.returns-in-Some
returns-in-Some c = rw c.in-Some.is
