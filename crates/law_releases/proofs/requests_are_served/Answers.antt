use Rattle.law_releases.proofs.Shared.ServedLaw.{all_served, all_requests_served}
use Rattle.law_releases.proofs.requests_are_served.Goals as goal

pub returns-clause-up_to_an_overrun : goal.returns-clause-up_to_an_overrun
returns-clause-up_to_an_overrun c = all_served

pub returns-clause-all : goal.returns-clause-all
returns-clause-all c = all_requests_served
