-- `played::fetch` meets its contract. Assumes nothing.
use mathlib.Core.Path.{◌∙◌, ap, refl}
use lib.ListN.{replicate}
use Rattle.lend.specs.Goes.{quiet_change}
use Rattle.played.specs.Steps.{fetching, number_of, spoken}
use Rattle.played.specs.Told.{fetch_opens, fetch_told, number_told, plays_opening}
use Rattle.played.proofs.fetch.Goals as goal

pub returns : goal.returns
returns c =
    let r = c.mark_owned_fetch-r in
    let mean = c.ewma_block_bytes-mean in
    plays_opening (fetching c.args.s) c.args.b _ _ _ _ _ _ _ (quiet_change _ refl) r.ensures
    (ap spoken c.fetched.ensures ∙ fetch_told r.result (replicate 2304 0)) c.fetched-2.ensures
    (fetch_opens r.result) (number_told mean.result ∙ ap number_of mean.ensures)
