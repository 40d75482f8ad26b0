-- `calls::reject_delivery` meets its contract. Assumes nothing.
use mathlib.Core.Path.{sym, subst, ap, ◌∙◌}
use Rattle.model.specs.Calls.{is_owner}
use Rattle.model.specs.Layout.{window_of}
use Rattle.model.specs.Window.{Window}
use Rattle.model.specs.LettingGo.{remove_pending}
use Rattle.laws.specs.Sound.{Sound}
use Rattle.laws.specs.Whole.{Holds, sound_rises}
use Rattle.deliveries.specs.Steps.{cold_writes}
use Rattle.calls.specs.Rejects.{rejected_sound, rejects_owned, rejects_other}
use Rattle.calls.proofs.reject_delivery.Goals as goal

pub found-front-requires : goal.found-front-requires
found-front-requires c =
    let s = c in
    (s.requires.0, sound_rises s.args.clock (window_of s.args.words.now) s.requires.1.0)

pub rejected_by-requires : goal.rejected_by-requires
rejected_by-requires c =
    let s = c in
    let g = s.requires.1.0 in
    (s.requires.0, cold_writes s.args.clock (window_of s.args.words.now).races.cold g.clock g.races.cold)

pub remove_pending_by-n-requires : goal.remove_pending_by-n-requires
remove_pending_by-n-requires c =
    let s = c in
    let k = c.rejected_by.ensures in
    (k.whole, (subst (Sound s.args.clock) (sym k.is) (rejected_sound s.args.source s.args.h s.requires.1.0), s.requires.1.1))

pub returns-then-owns : goal.returns-then-owns
returns-then-owns c =
    let s = c in
    let a = s.args in
    let w = window_of a.words.now in
    let k = c.rejected_by.ensures in
    let r = c.remove_pending_by-n.ensures in
    let ws = c.remove_pending_by-n.new.words in
    rejects_owned a.h a.source a.clock w c.remove_pending_by-n.result ws _ (sym (c.is_owner-owns.ensures ∙ ap (is_owner a.source) c.found-front.ensures) ∙ c.if-owns.true)
    (subst (λ (v : Window). Holds (remove_pending a.h 2 a.clock v).window ws) k.is r.1)
    (r.2 ∙ ap (λ (v : Window). (remove_pending a.h 2 a.clock v).gone) k.is)

pub returns : goal.returns
returns c =
    let s = c in
    let a = s.args in
    rejects_other a.h a.source a.clock (window_of a.words.now) _ _ (sym (c.is_owner-owns.ensures ∙ ap (is_owner a.source) c.found-front.ensures) ∙ c.if-owns.false) c.rejected_by.ensures
