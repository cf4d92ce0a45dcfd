use Rattle.law_explanations.proofs.Responses.{explained-chains-respond}
use Rattle.law_explanations.proofs.explained_chains_respond.Goals as goal

pub returns : goal.returns
returns c = λ limit. explained-chains-respond limit (c.printed_chains_keep_to_levels.ensures limit)
