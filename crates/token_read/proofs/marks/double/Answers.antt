use Rattle.std.proofs.Common.{arith}
use Rattle.std.proofs.lemmas.Grind.{common_steps}
use Rattle.token_read.proofs.Shared.MarkLaws.{double, mark_of-double}
use Rattle.token_read.proofs.marks.double.Goals as goal

pub returns-in_default-7 : goal.returns-in_default-7
unfolding double
returns-in_default-7 c = rw mark_of-double (grind (arith, common_steps))
