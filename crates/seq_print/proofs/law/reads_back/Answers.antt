use Rattle.seq_print.proofs.Shared.BackLaws.{reads-back}
use Rattle.seq_print.proofs.law.reads_back.Goals as goal

pub returns : goal.returns
returns c lines comments ok are = reads-back lines comments ok are
