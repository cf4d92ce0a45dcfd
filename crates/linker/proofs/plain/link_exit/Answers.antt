use Rattle.std.proofs.Common.{refl}
use Rattle.seq_tree.specs.Statements.{ExitWhen}
use Rattle.seq_tree.specs.Trees.{expression_of}
use Rattle.linker.specs.Standing.{lists_of}
use Rattle.linker.specs.declared.code.Ins.TheVariants as ins
use Rattle.linker.proofs.Keeping.{reads_grown}
use Rattle.linker.proofs.Linkages.{one_instruction}
use Rattle.linker.proofs.plain.link_exit.Goals as goal

pub returns : goal.returns
returns c = λ leads. one_instruction leads c.args.scope.now c.args.out c.in_ok-at.at c.args.end (ins.Exit c.in_ok-cond.cond c.args.out)
    (lists_of c.args.code.now) (lists_of c.add_expr.new.code) (lists_of c.fill.new.code) (ExitWhen (expression_of c.args.condition.now))
    c.in_ok-cond.ensures.added c.in_ok-fill.ensures c.in_ok-at.ensures refl
    (λ later h g l. (
      c.in_ok-cond.cond,
      h,
      reads_grown (lists_of c.add_expr.new.code) later c.args.scope.now c.in_ok-cond.cond (expression_of c.args.condition.now) g
          c.in_ok-cond.ensures.reads,
    ))
