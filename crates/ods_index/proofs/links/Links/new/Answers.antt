use Rattle.ods_tree.specs.Trees.{tree_of}
use Rattle.ods_index.specs.Scoped.{scope_trees}
use Rattle.ods_index.proofs.LinkLaws.{names_whole}
use Rattle.ods_index.proofs.links.Links.new.Goals as goal

pub invariant_of-result : goal.invariant_of-result
invariant_of-result c = record {
  named =
      names_whole (scope_trees c.new-scopes.result.items) (scope_trees c.add_object.new.scopes.items) c.new-names.result c.add_object.new.names
      (tree_of c.args.design.now.root) c.new-names.ensures c.in_ok-add_object.ensures.named;
}
