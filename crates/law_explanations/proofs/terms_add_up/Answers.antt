use Rattle.law_explanations.proofs.Terms.{terms-add-up}
use Rattle.law_explanations.proofs.terms_add_up.Goals as goal

pub returns : goal.returns
returns c = terms-add-up c.solved_rows_meet_their_equations.ensures c.bounds_are_solved_rows.ensures
