use Rattle.std.proofs.Common.{Some, refl, ap, ◌∙◌}
use Rattle.seq_tree.specs.Statements.{Assign}
use Rattle.seq_tree.specs.Trees.{expression_of}
use Rattle.linker.specs.Standing.{lists_of}
use Rattle.linker.specs.declared.code.Ins.TheVariants as ins
use Rattle.linker.proofs.Keeping.{reads_grown}
use Rattle.linker.proofs.Linkages.{one_instruction}
use Rattle.linker.proofs.plain.link_assign.Goals as goal

pub returns : goal.returns
returns c = λ leads out. one_instruction leads c.args.scope.now out c.in_ok-at.at c.args.end (ins.Assign c.in_ok-slot.slot c.in_ok-value.value)
    (lists_of c.args.code.now) (lists_of c.add_expr.new.code) (lists_of c.fill.new.code) (Assign c.args.target.now (expression_of c.args.value.now))
    c.in_ok-value.ensures.added c.in_ok-fill.ensures c.in_ok-at.ensures refl
    (λ later h g l. (
      c.in_ok-value.value,
      h ∙ ap (λ z. Some (ins.Assign z c.in_ok-value.value)) c.in_ok-slot.ensures,
      reads_grown (lists_of c.add_expr.new.code) later c.args.scope.now c.in_ok-value.value (expression_of c.args.value.now) g
          c.in_ok-value.ensures.reads,
    ))
