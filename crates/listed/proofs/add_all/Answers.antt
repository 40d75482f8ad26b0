-- `listed::add_all` meets its contract: an empty index is one of no hash of this list. Assumes nothing.
use Rattle.listed.proofs.add_all.Goals as goal

pub loop-i-init : goal.loop-i-init
loop-i-init c = c.requires _
