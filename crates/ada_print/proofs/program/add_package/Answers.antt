use Rattle.seq_print.proofs.Shared.Chains.{writes-added, writes-same}
use Rattle.ada_print.proofs.Layouts.{package-text}
use Rattle.ada_print.proofs.program.add_package.Goals as goal

pub returns : goal.returns
returns c = writes-same _ c.args.into.now.items _ _ _ (package-text c.args.name.now) (writes-added _ _ _ _ c.put_name.ensures)
