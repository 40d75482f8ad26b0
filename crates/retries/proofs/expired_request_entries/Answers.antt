-- `retries::expired_request_entries` meets its contract. Assumes nothing.
use Rattle.retries.specs.Retries.{none_swept}
use Rattle.retries.proofs.expired_request_entries.Goals as goal

pub returns-then-n-eq0 : goal.returns-then-n-eq0
returns-then-n-eq0 c =
    let s = c in
    let a = s.args in
    none_swept a.staged.hashes.now a.refused.hashes.now a.words.now a.gone.now a.hashes.now a.heights.now a.index.now a.floor a.n a.batch a.bytes
    c.if-n-eq0.true s.requires.index
