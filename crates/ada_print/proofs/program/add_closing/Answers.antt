use Rattle.seq_print.proofs.Shared.Chains.{writes-added, writes-same, writes-then}
use Rattle.ada_print.proofs.Layouts.{closing-text}
use Rattle.ada_print.proofs.program.add_closing.Goals as goal

pub returns : goal.returns
returns c =
    writes-same _ c.args.into.now.items _ _ _ (closing-text c.args.name.now)
    (writes-then _ c.args.into.now.items c.put_name.new.into.items _ _ _ c.in_ok-put_name.ensures
    (writes-added _ _ _ _ c.put_name-2.ensures))
