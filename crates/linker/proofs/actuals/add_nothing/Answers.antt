use Rattle.std.proofs.Common.{refl}
use Rattle.seq_tree.specs.Expressions.{Number}
use Rattle.linker.specs.declared.nodes.Operand.TheVariants as operand
use Rattle.linker.specs.Standing.{lists_of}
use Rattle.linker.proofs.Handing.{added_push, adds_in}
use Rattle.linker.proofs.Keeping.{added_none}
use Rattle.linker.proofs.actuals.add_nothing.Goals as goal

pub returns-in_ok-push-in-In-clause-added : goal.returns-in_ok-push-in-In-clause-added
returns-in_ok-push-in-In-clause-added c =
    added_push (lists_of c.args.code.now) (lists_of c.args.code.now) _ (operand.Number 0) (added_none (lists_of c.args.code.now)) refl refl
    c.in_ok-push-in-In.ensures.items

pub returns-in_ok-push-in-In-clause-value : goal.returns-in_ok-push-in-In-clause-value
returns-in_ok-push-in-In-clause-value c =
    rw c.in-In.is (adds_in c.args.scope.now (Number 0) (lists_of c.args.code.now) (lists_of c.args.code.now) _ (operand.Number 0) refl refl
    c.in_ok-push-in-In.ensures.items (record { links = refl; below = tt }))

pub returns-in-Out-clause-added : goal.returns-in-Out-clause-added
returns-in-Out-clause-added c = added_none (lists_of c.args.code.now)

pub returns-in-Out-clause-value : goal.returns-in-Out-clause-value
returns-in-Out-clause-value c = rw c.in-Out.is refl
