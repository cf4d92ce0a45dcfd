use Rattle.ada_gen.proofs.Shared.HeadLaws.{text-back}
use Rattle.ada_gen.proofs.law.text_reads_back.Goals as goal

pub returns : goal.returns
returns c f r places bounds ok w = text-back f r places bounds ok w
