-- `plan_look::maybe_rewind_request_frontier` meets its contract. Assumes nothing.
use mathlib.Core.Path.{sym, ◌∙◌}
use mathlib.Core.Bool.{true, false}
use Rattle.laws.specs.Whole.{holds_whole}
use Rattle.plan_look.specs.Steps.{rewinds}
use Rattle.plan_look.proofs.maybe_rewind_request_frontier.Goals as goal

pub returns-then-is_rewound : goal.returns-then-is_rewound
returns-then-is_rewound c = let a = c.args in rewinds a.chain.now a.staged.hashes.now a.start a.words.now _ true (sym c.if-is_rewound.true ∙ c.is_rewound.ensures) c.set_frontier.ensures

pub returns-else-is_rewound : goal.returns-else-is_rewound
returns-else-is_rewound c = let a = c.args in rewinds a.chain.now a.staged.hashes.now a.start a.words.now _ false (sym c.if-is_rewound.false ∙ c.is_rewound.ensures) (holds_whole a.words.now c.requires.whole)
