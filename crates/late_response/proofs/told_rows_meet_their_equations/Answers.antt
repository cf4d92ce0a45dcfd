use Rattle.late_response.proofs.ToldLaws.{told-equation}
use Rattle.late_response.proofs.told_rows_meet_their_equations.Goals as goal

pub returns : goal.returns
returns c = told-equation
