use Rattle.late_response.proofs.ToldLaws.{none-late}
use Rattle.late_response.proofs.none_is_late_where_bounds_are.Goals as goal

pub returns : goal.returns
returns c = none-late
