use Rattle.std.proofs.Common.{◌+◌, codes, drop, map}
use Rattle.seq_tree.specs.Layout.{layout, line_text}
use Rattle.seq_tree.specs.Operations.{Operation}
use Rattle.seq_tree.specs.Spelling.{Line}
use Rattle.seq_tree.specs.Trees.{operation_of}
use Rattle.ada_tree.specs.Spelling.{renaming_line}
use Rattle.ada_print.proofs.LineTurns.{one-more, views-next}
use Rattle.ada_print.proofs.heads.add_renamings.Goals as goal

pub ops-preserved : goal.ops-preserved
ops-preserved c =
    let renamed : Operation → Line = λ o. renaming_line 2 (codes "hrt_object") o.sig in
    one-more c.ops.into.items c.add_renaming.new.into.items (line_text (renamed (operation_of c.op-item.result)))
    (layout (map renamed (map operation_of (drop (c.ops.op-index + 1) c.args.ops.now)))) _ _ c.in_ok-add_renaming.ensures
    (views-next renamed operation_of c.args.ops.now c.ops.op-index c.op-item.result c.ops-test.true c.op-item.is) c.ops.invariant
