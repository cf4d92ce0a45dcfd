use Rattle.std.proofs.Common.{◌∙◌}
use Rattle.ods_tree.specs.Trees.{design_of}
use Rattle.ods_print.proofs.Lines.{four, whole-text}
use Rattle.ods_print.proofs.design.format.Goals as goal

pub returns : goal.returns
returns c =
    four c.new-text.result.items c.add_head.new.into.items c.add_costs.new.into.items c.add_node.new.into.items _ _ _ _ _
    c.new-text.ensures.items c.in_ok-add_head.ensures c.in_ok-add_costs.ensures c.in_ok-add_node.ensures c.in_ok-put_name.ensures
    ∙ whole-text (design_of c.args.design.now)
