use Rattle.law_chain_bounds.proofs.EarlyRequests.{runs-request-before-ends}
use Rattle.law_chain_bounds.proofs.runs_request_before_ends.Goals as goal

pub returns : goal.returns
returns c = runs-request-before-ends
