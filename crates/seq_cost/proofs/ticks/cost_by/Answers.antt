use Rattle.std.proofs.Common.{rules, ◌≡◌, ◌+◌, ◌∷◌, [], None, Ok, Err, drop, refl, sym, ◌∙◌}
use Rattle.std.proofs.lemmas.List.{drop_all}
use Rattle.seq_tree.specs.Dearest.{dearest_statement}
use Rattle.seq_tree.specs.Trees.{block_of, statement_of}
use Rattle.seq_cost.specs.Counting.{weights_of}
use Rattle.seq_cost.specs.Over.{within_most}
use Rattle.seq_cost.specs.declared.counted.Counted.TheVariants.{Ticks}
use Rattle.seq_tree.proofs.Shared.LoopSteps.{drop_step}
use Rattle.seq_cost.proofs.Tallies.{tally, tally-over, tally-sum}
use Rattle.seq_cost.proofs.ticks.cost_by.Goals as goal

pub returns-in_default-clause-over : goal.returns-in_default-clause-over
returns-in_default-clause-over g c =
    let w = weights_of g.A.Account.counts (Ticks c.args.costs c.args.account) in
    let at : drop c.stmts.stmt-index c.deref-stmt-items.result.now ≡ c.stmt-item.result ∷ drop (c.stmts.stmt-index + 1) c.deref-stmt-items.result.now
    = drop_step c.deref-stmt-items.result.now c.stmts.stmt-index c.stmt-item.result c.stmts-test.true c.stmt-item.is in
    let none : within_most (c.stmts.total + dearest_statement w (statement_of c.stmt-item.result)) ≡ None = search rules in
    let told : tally w 0 0 (block_of c.args.block.now) ≡ Err c.stmts.statement = sym c.stmts.invariant.0 ∙ rw (at, none) refl in
    (tally-over w (block_of c.args.block.now) c.stmts.statement told).2

pub returns-in_default-clause-first : goal.returns-in_default-clause-first
returns-in_default-clause-first g c =
    let w = weights_of g.A.Account.counts (Ticks c.args.costs c.args.account) in
    let at : drop c.stmts.stmt-index c.deref-stmt-items.result.now ≡ c.stmt-item.result ∷ drop (c.stmts.stmt-index + 1) c.deref-stmt-items.result.now
    = drop_step c.deref-stmt-items.result.now c.stmts.stmt-index c.stmt-item.result c.stmts-test.true c.stmt-item.is in
    let none : within_most (c.stmts.total + dearest_statement w (statement_of c.stmt-item.result)) ≡ None = search rules in
    let told : tally w 0 0 (block_of c.args.block.now) ≡ Err c.stmts.statement = sym c.stmts.invariant.0 ∙ rw (at, none) refl in
    let over = tally-over w (block_of c.args.block.now) c.stmts.statement told in
    record { before = over.0; with_it = over.1 }

pub returns-clause-ticks : goal.returns-clause-ticks
returns-clause-ticks g c =
    let w = weights_of g.A.Account.counts (Ticks c.args.costs c.args.account) in
    let left : drop c.stmts.stmt-index c.deref-stmt-items.result.now ≡ []
    = drop_all c.stmts.stmt-index c.deref-stmt-items.result.now c.stmts-test.false in
    let told : tally w 0 0 (block_of c.args.block.now) ≡ Ok c.stmts.total = sym c.stmts.invariant.0 ∙ rw left refl in
    tally-sum w (block_of c.args.block.now) c.stmts.total told
