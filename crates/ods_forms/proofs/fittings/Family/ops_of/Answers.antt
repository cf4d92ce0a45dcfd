use Rattle.std.proofs.Common.{map, ap, sym, ◌∙◌}
use Rattle.ods_tree.specs.Trees.{provided_of}
use Rattle.ods_tree.specs.declared.design.Node.{Node}
use Rattle.ods_index.specs.Walking.{object_of}
use Rattle.ods_index.specs.declared.tables.ProvidedOps.{ProvidedOps}
use Rattle.ods_index.proofs.Shared.WalkSteps.{own_fields}
use Rattle.ods_forms.proofs.LoopSteps.{mapped_step}
use Rattle.ods_forms.proofs.fittings.Family.ops_of.Goals as goal

pub children-preserved : goal.children-preserved
children-preserved c =
    let kid = c.child-item.result in
    mapped_step (λ (t : ProvidedOps). map provided_of t.provides.now) (λ (n : Node). (object_of n).provides) c.args.children.now
    c.children.child-index kid c.in_ok-new.field-0 c.children.ops.items _ c.children-test.true c.child-item.is c.in_ok-push.ensures.items
    (ap (map provided_of) (c.in_ok-new.ensures ∙ c.as_slice.ensures.value) ∙ sym (ap (λ o. o.provides) (own_fields kid))) c.children.invariant
