-- `demo::entry` meets its contract: a part of an array is as long as it says. Assumes nothing.
use mathlib.Core.Path.{sym}
use lib.Seq.{length-take-le}
use borrow.Author.Rules.{rules}
use Rattle.demo.proofs.entry.Goals as goal

pub slice_bounds-put-end : goal.slice_bounds-put-end
slice_bounds-put-end g c = sym (length-take-le 54 c.entry-l.result (search rules))
