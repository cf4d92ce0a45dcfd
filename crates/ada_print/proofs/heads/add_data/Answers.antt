use Rattle.std.proofs.Common.{◌+◌, drop, map}
use Rattle.seq_tree.specs.Layout.{layout, line_text}
use Rattle.ada_tree.specs.Spelling.{datum_line}
use Rattle.ada_print.proofs.LineTurns.{lines-next, one-more}
use Rattle.ada_print.proofs.heads.add_data.Goals as goal

pub vars-preserved : goal.vars-preserved
vars-preserved c =
    one-more c.vars.into.items c.add_datum.new.into.items (line_text (datum_line c.args.level c.var-item.result))
    (layout (map (datum_line c.args.level) (drop (c.vars.var-index + 1) c.args.vars.now))) _ _ c.in_ok-add_datum.ensures
    (lines-next (datum_line c.args.level) c.args.vars.now c.vars.var-index c.var-item.result c.vars-test.true c.var-item.is) c.vars.invariant
