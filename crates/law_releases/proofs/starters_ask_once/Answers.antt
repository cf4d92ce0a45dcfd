use Rattle.law_releases.proofs.Shared.StarterLaw.{starters_ask_once}
use Rattle.law_releases.proofs.starters_ask_once.Goals as goal

pub returns : goal.returns
returns c = starters_ask_once
