use Rattle.law_explanations.proofs.Blocking.{blockers-are-longest}
use Rattle.law_explanations.proofs.blockers_are_longest.Goals as goal

pub returns : goal.returns
returns c =
    blockers-are-longest c.bounds_are_solved_rows.ensures c.sections_are_of_operations.ensures c.causes_block.ensures c.blocking_is_caused.ensures
