use Rattle.late_response.proofs.ToldLaws.{least-told}
use Rattle.late_response.proofs.bounds_are_told.Goals as goal

pub returns : goal.returns
returns c = least-told
