use Rattle.std.proofs.Common.{List, flat_map, map, refl}
use Rattle.ods_tree.specs.Trees.{provided_of}
use Rattle.ods_tree.specs.declared.design.Provided.{Provided}
use Rattle.design_rules.specs.Clashes.{operation_mentions}
use Rattle.ods_index.specs.Walking.{object_of}
use Rattle.ods_names.specs.Mentions.{gathered}
use Rattle.seq_tree.proofs.Shared.LoopSteps.{added_step}
use Rattle.ods_names.proofs.mentions.add_operations.Goals as goal

pub provides-preserved : goal.provides-preserved
provides-preserved c =
    let f = operation_mentions c.args.place (object_of c.args.node.now) in
    added_step (λ (ps : List Provided). flat_map f (map provided_of ps)) (f (provided_of c.provided-item.result))
    c.args.provides.now c.provides.provided-index c.provided-item.result (gathered c.args.source.index.now c.provides.into.items) _ _ (λ ys. refl)
    c.provides-test.true c.provided-item.is c.in_ok-add_operation.ensures c.provides.invariant
