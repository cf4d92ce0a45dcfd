use Rattle.std.proofs.Common.{◌∙◌, arith, sym}
use Rattle.std.proofs.lemmas.List.{length-set, get_or-set_other}
use Rattle.std.specs.Vec.{with_items}
use Rattle.ods_tree.specs.Trees.{tree_of}
use Rattle.ods_tree.specs.declared.design.Node.{out-Node, roll-Node}
use Rattle.ods_tree.specs.declared.design.Node.TheViews.{out-roll-Node}
use Rattle.ods_forms.proofs.Shared.SetSteps.{written_seen}
use Rattle.background_designs.specs.HardParts.{hard_tree}
use Rattle.background.proofs.HardSteps.{parent-hard}
use Rattle.background.proofs.hardening.+hardening.Goals as goal

pub harden_node-returns : goal.harden_node-returns
harden_node-returns t c =
    parent-hard c.args.node.now c.soften_all.new.provides c.harden_nodes.new.nodes
    (out-Node (roll-Node (record (out-Node c.args.node.now) { provides = with_items (out-Node c.args.node.now).provides c.soften_all.new.provides })))
    (sym c.if-is_terminal.ensures)
    (out-roll-Node (record (out-Node c.args.node.now) { provides = with_items (out-Node c.args.node.now).provides c.soften_all.new.provides }))
    (rw c.as_mut_slice.ensures.value at c.soften_all.ensures) (rw c.as_mut_slice-2.ensures.value at c.in_ok-harden_nodes.ensures)

pub harden_nodes-nodes-preserved : goal.harden_nodes-nodes-preserved
harden_nodes-nodes-preserved t c = (
  written_seen tree_of hard_tree c.args.nodes.now c.nodes.nodes c.nodes.place c.index-nodes-place.result c.harden_node.new.node
      c.nodes-test.true c.nodes.invariant.0 c.in_ok-harden_node.ensures,
  (
    length-set c.nodes.nodes c.nodes.place c.harden_node.new.node ∙ c.nodes.auto.nodes,
    λ k d above. get_or-set_other c.nodes.nodes c.nodes.place k c.harden_node.new.node d (λ same. omega (arith, above, same))
        ∙ c.nodes.invariant.1.1 k d (omega (arith, above)),
  ),
)
