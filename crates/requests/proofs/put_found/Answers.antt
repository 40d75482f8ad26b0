-- `requests::put_found` meets its contract. Assumes nothing.
use mathlib.Core.Path.{ap, ◌∙◌}
use native.Mathlib.Omega.{arith}
use Rattle.model.specs.Records.{new_entry}
use Rattle.model.specs.Layout.{window_of}
use Rattle.model.specs.declared.Entry.{Entry}
use Rattle.requests.specs.Puts.{put_so}
use Rattle.requests.proofs.put_found.Goals as goal

pub put_at-requires : goal.put_at-requires
unfolding new_entry
put_at-requires c =
    let s = c in
    let t = s.requires.1.0 in
    let e = ap (λ (x : Entry). x.estimate) c.new_entry-e.ensures in
    (s.requires.0, (s.requires.1.1.0.within, (t.room, omega (arith, e, c.get_mean-mean.ensures, t.bytes))))

pub returns : goal.returns
unfolding new_entry
returns c =
    let s = c in
    let a = s.args in
    put_so (window_of a.words.now) _ a.at c.new_entry-e.result _
    (c.new_entry-e.ensures ∙ ap (new_entry a.h a.owner a.clock a.height) c.get_mean-mean.ensures) s.requires.1.0 s.requires.1.1 c.put_at.ensures
