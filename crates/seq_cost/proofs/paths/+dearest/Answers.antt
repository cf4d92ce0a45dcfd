use Rattle.std.proofs.Common.{rules, ◌≡◌, sym, ◌*◌, ◌+◌, ◌∙◌, map}
use Rattle.std.specs.Prelude.{min, option_map}
use Rattle.seq_tree.specs.Dearest.{dearest, dearest_branch, turn_count}
use Rattle.seq_tree.specs.Statements.{For, If}
use Rattle.seq_tree.specs.Trees.{arm_of, block_of, branches_of, otherwise, statement_of}
use Rattle.seq_tree.specs.declared.tree.Stmt.{the_lemmas}
use Rattle.seq_cost.specs.Counting.{arms_weight, weights_of}
use Rattle.seq_cost.proofs.Caps.{cap-branches, cap-turns}
use Rattle.seq_cost.proofs.paths.+dearest.Goals as goal

pub statement_weight-returns-in-If : goal.statement_weight-returns-in-If
statement_weight-returns-in-If g t c =
    let w = weights_of g.A.Account.counts c.args.counted.now in
    let arms = map arm_of c.in-If.arms.value.items in
    let others = otherwise (option_map block_of c.in-If.other) in
    let opened : statement_of c.args.stmt.now ≡ If (branches_of arms others) = search (rules, the_lemmas) in
    let summed : c.arms_weight.result ≡ min c.args.limit (arms_weight w arms (min c.args.limit (dearest_branch w others)))
    = rw (sym c.other_weight-others.ensures, sym c.deref.ensures, sym c.deref-in-If.ensures.value) c.arms_weight.ensures in
    rw opened (summed ∙ cap-branches c.args.limit w arms others)

pub statement_weight-returns-in-For : goal.statement_weight-returns-in-For
statement_weight-returns-in-For g t c =
    let w = weights_of g.A.Account.counts c.args.counted.now in
    let opened : statement_of c.args.stmt.now ≡ For c.in-For.name c.in-For.low c.in-For.high (block_of c.in-For.body) = search (rules, the_lemmas) in
    let turned : c.min-in-For.result
    ≡ min c.args.limit (turn_count c.in-For.low c.in-For.high * min c.args.limit
    (w.costs.turn + min c.args.limit (dearest w (block_of c.in-For.body)))) = search rules in
    rw opened (turned ∙ cap-turns c.args.limit (turn_count c.in-For.low c.in-For.high) w.costs.turn (dearest w (block_of c.in-For.body)))
