use Rattle.std.proofs.Common.{◌≡◌, ◌∙◌, ◌++◌, ◌∷◌, [], rules, refl, ap}
use Rattle.seq_tree.specs.Expressions.{Variable}
use Rattle.seq_tree.specs.Trees.{expression_of}
use Rattle.seq_tree.specs.declared.tree.Expr.{the_lemmas}
use Rattle.linker.specs.declared.nodes.Operand.TheVariants as operand
use Rattle.linker.specs.Standing.{lists_of}
use Rattle.linker.proofs.Handing.{added_push}
use Rattle.linker.proofs.Keeping.{added_none}
use Rattle.linker.proofs.actuals.put_target.Goals as goal

pub returns-in_ok-push-in-Variable-clause-added : goal.returns-in_ok-push-in-Variable-clause-added
returns-in_ok-push-in-Variable-clause-added c =
    added_push (lists_of c.args.code.now) (lists_of c.args.code.now) _ (operand.Slot c.in_ok-slot-in-Variable.slot)
    (added_none (lists_of c.args.code.now)) refl refl c.in_ok-push-in-Variable.ensures.items

pub returns-in_ok-push-in-Variable-clause-target : goal.returns-in_ok-push-in-Variable-clause-target
returns-in_ok-push-in-Variable-clause-target c =
    let opened : expression_of c.args.actual.now ≡ Variable c.in-Variable.name = search (rules, the_lemmas) in
    rw opened (c.in_ok-push-in-Variable.ensures.items
    ∙ ap (λ s. c.args.code.now.actuals.items ++ operand.Slot s ∷ []) c.in_ok-slot-in-Variable.ensures)
