-- `probe_confirm::set_rows` meets its contract. Assumes nothing.
use mathlib.Core.Path.{sym, ap, ◌∙◌}
use Prim.Native.Nat.{◌≤◌}
use native.Mathlib.Omega.{arith}
use lib.ListN.{length}
use Rattle.model.specs.Layout.{window_of, probe_words, table}
use Rattle.laws.specs.Tables.{with_words}
use Rattle.laws.specs.Groups.{plan_in}
use Rattle.laws.specs.Whole.{lifted, words_shaped}
use Rattle.plans.specs.Rows.{rows_words, rows_hashes}
use Rattle.probe_hashes.specs.Rows.{count_hashes}
use Rattle.probe_confirm.proofs.set_rows.Goals as goal

pub returns : goal.returns
returns c =
    let s = c in
    let ws = s.args.words.now in
    let whole = s.requires.0 in
    let x = s.args.x in
    let n = s.args.n in
    let rows = s.args.rows in
    let hs = rows_hashes n rows in
    let p = s.requires.1.1 in
    let w = window_of ws in
    let sh = words_shaped ws whole.long in
    let few : length hs ≤ 8 = omega (arith, count_hashes n rows, p.few) in
    lifted ws _ (λ t. with_words 65 (rows_words 8 rows) (with_words 61 (probe_words x n) t)) _ whole (omega arith) (c.store_planned.ensures ∙ ap (with_words 65 (rows_words 8 rows)) c.store_probe.ensures)
    ((λ i. with_words 65 (p.words i) (with_words 61 (probe_words x (sym (count_hashes n rows) i)) (table w))) ∙ plan_in w sh x hs few)
    (record { few = sh.few; starts = sh.starts; bodies = sh.bodies; keys = sh.keys; cooling = sh.cooling; racers = sh.racers; hedged = sh.hedged; planned = few })
