-- `replayed::acts::made` meets its contract. Assumes nothing.
use Rattle.std.proofs.Common.{refl}
use Rattle.lend.specs.Goes.{asked_leaves, quiet_change, quiet_query}
use Rattle.replayed.specs.Calls.{question, told}
use Rattle.replayed.specs.Told.{performs_quietly, quiet_doing}
use Rattle.replayed.proofs.acts.made.Goals as goal

pub returns-in-Done : goal.returns-in-Done
returns-in-Done c = let a = c.args.a in performs_quietly (told a.numbers.now a.at) c.in-Done.is (quiet_doing a.numbers.now a.at c.in-Done.k) _ _ _ _ _ c.alone.ensures c.done.ensures c.accepted.ensures

pub returns-in-Request : goal.returns-in-Request
returns-in-Request c = let a = c.args.a in performs_quietly (told a.numbers.now a.at) c.in-Request.is (quiet_change _ refl) _ _ _ _ _ c.alone-in-Request.ensures c.truth.ensures c.request.ensures

pub returns-in-Fetch : goal.returns-in-Fetch
returns-in-Fetch c = let a = c.args.a in performs_quietly (told a.numbers.now a.at) c.in-Fetch.is (quiet_change _ refl) _ _ _ _ _ c.alone-in-Fetch.ensures c.fetch.ensures c.owned_fetch.ensures

pub returns-in-Look : goal.returns-in-Look
returns-in-Look c = let a = c.args.a in performs_quietly (told a.numbers.now a.at) c.in-Look.is (quiet_change _ refl) _ _ _ _ _ c.alone-in-Look.ensures c.blocked.ensures c.looks.ensures

pub returns-in-Ask : goal.returns-in-Ask
returns-in-Ask c =
    let a = c.args.a in
    let q = (question a.numbers.now a.at c.in-Ask.k).query in
    performs_quietly (told a.numbers.now a.at) c.in-Ask.is (quiet_query q) _ _ _ _ _ c.alone-in-Ask.ensures c.query.ensures (refl, asked_leaves q _)
