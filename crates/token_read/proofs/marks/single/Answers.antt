use Rattle.std.proofs.Common.{rules}
use Rattle.token_read.proofs.Shared.MarkLaws.{single, mark_of-single}
use Rattle.token_read.proofs.marks.single.Goals as goal

pub returns-in_default : goal.returns-in_default
unfolding single
returns-in_default c = rw mark_of-single (search rules)
