use Rattle.ods_index.specs.Linked.{meaning_in}
use Rattle.ods_index.specs.Scoped.{scope_trees}
use Rattle.ods_index.proofs.LinkLaws.{scope_right}
use Rattle.ods_index.proofs.links.scope_of.Goals as goal

pub invariant_of-result : goal.invariant_of-result
invariant_of-result c = record {
  right =
      scope_right c.args.node.now (scope_trees c.args.scopes.now) c.args.children.now
      (meaning_in c.in_ok-meanings.meanings) c.as_slice.result.now c.as_slice.ensures.value c.requires c.in_ok-meanings.ensures;
}
