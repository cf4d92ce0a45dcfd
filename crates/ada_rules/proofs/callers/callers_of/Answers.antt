use Rattle.std.proofs.Common.{List, flat_map, map, refl, ap, ◌∙◌, ◌++◌}
use Rattle.ada_tree.specs.Trees.{unit_of}
use Rattle.ada_tree.specs.declared.program.Unit.{Unit}
use Rattle.ada_rules.specs.Callers.{caller_of, op_caller, unit_callers}
use Rattle.seq_tree.proofs.Shared.LoopSteps.{added_step}
use Rattle.ada_rules.proofs.callers.callers_of.Goals as goal

pub units-preserved : goal.units-preserved
units-preserved c =
    let u = c.unit-item.result in
    added_step (λ (us : List Unit). flat_map (unit_callers c.args.sort) (map unit_of us)) (unit_callers c.args.sort (unit_of u))
    c.args.units.now c.units.unit-index u (map caller_of c.units.callers.items) _ _
    (λ ys. refl) c.units-test.true c.unit-item.is
    (c.in_ok-add_ops.ensures ∙ ap (λ os. map caller_of c.units.callers.items ++ map (op_caller u.name) os) c.ops_in.ensures)
    c.units.invariant
