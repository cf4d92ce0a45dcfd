use Rattle.law_explanations.proofs.Kept.{late-is-missed}
use Rattle.law_explanations.proofs.none_is_late_where_limits_are_kept.Goals as goal

pub returns : goal.returns
returns c = late-is-missed c.solved_rows_in_time_are_bounds.ensures
