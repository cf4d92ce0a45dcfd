use Rattle.ada_tree.specs.Trees.{unit_of}
use Rattle.seq_print.proofs.Shared.Chains.{writes-added, writes-same, writes-then}
use Rattle.ada_print.proofs.Layouts.{unit_body-text}
use Rattle.ada_print.proofs.units.add_unit_body.Goals as goal

pub returns : goal.returns
returns c =
    writes-same _ c.args.into.now.items _ _ _ (unit_body-text (unit_of c.args.unit.now))
    (writes-then _ c.args.into.now.items c.put_name.new.into.items _ _ _ c.in_ok-put_name.ensures
    (writes-then _ c.put_name.new.into.items c.add_inner_body.new.into.items _ _ _ c.in_ok-add_inner_body.ensures
    (writes-added _ _ _ _ c.put_name-2.ensures)))
