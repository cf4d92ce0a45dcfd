use Rattle.std.proofs.Common.{◌∙◌, arith}
use Rattle.std.proofs.lemmas.List.{length-set, get_or-set_other}
use Rattle.std.specs.Vec.{with_items}
use Rattle.ods_tree.specs.Trees.{tree_of}
use Rattle.ods_tree.specs.declared.design.Node.{out-Node, roll-Node}
use Rattle.ods_tree.specs.declared.design.Node.TheViews.{out-roll-Node}
use Rattle.ods_forms.specs.Whole.{tree_set}
use Rattle.ods_forms.proofs.Shared.SetSteps.{set_twice, written_seen}
use Rattle.ods_forms.proofs.ticks.+ticks.Goals as goal

pub set_node-returns : goal.set_node-returns
set_node-returns t c =
    set_twice c.args.node.now c.set_attrs.new.attrs c.set_nodes.new.nodes c.args.tick
    (out-Node (roll-Node (record (out-Node c.args.node.now) { attrs = with_items (out-Node c.args.node.now).attrs c.set_attrs.new.attrs })))
    (out-roll-Node (record (out-Node c.args.node.now) { attrs = with_items (out-Node c.args.node.now).attrs c.set_attrs.new.attrs }))
    (rw c.as_mut_slice.ensures.value at c.set_attrs.ensures) (rw c.as_mut_slice-2.ensures.value at c.set_nodes.ensures)

pub set_nodes-nodes-preserved : goal.set_nodes-nodes-preserved
set_nodes-nodes-preserved t c = (
  written_seen tree_of (tree_set c.args.tick) c.args.nodes.now c.nodes.nodes c.nodes.place c.index-nodes-place.result c.set_node.new.node
      c.nodes-test.true c.nodes.invariant.0 c.set_node.ensures,
  (
    length-set c.nodes.nodes c.nodes.place c.set_node.new.node ∙ c.nodes.auto.nodes,
    λ k d above. get_or-set_other c.nodes.nodes c.nodes.place k c.set_node.new.node d (λ same. omega (arith, above, same))
        ∙ c.nodes.invariant.1.1 k d (omega (arith, above)),
  ),
)
