use Rattle.seq_tree.specs.Trees.{signature_of}
use Rattle.seq_print.proofs.Shared.Chains.{writes-same, writes-then}
use Rattle.ada_print.proofs.Layouts.{sporadic-head}
use Rattle.ada_print.proofs.requests.add_sporadic_head.Goals as goal

pub returns : goal.returns
returns c =
    writes-same _ c.args.into.now.items _ _ _ (sporadic-head c.args.priority c.args.ceiling (signature_of c.args.op.now) c.args.separation
    c.args.jitter c.args.external)
    (writes-then _ c.args.into.now.items c.put_number.new.into.items _ _ _ c.in_ok-put_number.ensures
    (writes-then _ c.put_number.new.into.items c.add_declaration.new.into.items _ _ _ c.in_ok-add_declaration.ensures
    (writes-then _ c.add_declaration.new.into.items c.put.new.into.items _ _ _ c.in_ok-put.ensures
    (writes-then _ c.put.new.into.items c.add_renaming.new.into.items _ _ _ c.in_ok-add_renaming.ensures
    (writes-then _ c.add_renaming.new.into.items c.add_task.new.into.items _ _ _ c.in_ok-add_task.ensures
    c.add_constants.ensures)))))
