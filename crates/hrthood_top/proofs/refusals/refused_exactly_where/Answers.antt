use Rattle.hrthood_top.specs.Commands.{verb_of}
use Rattle.hrthood_top.proofs.VerbLaws.{one-cause, not-written, one-text}
use Rattle.hrthood_top.proofs.Completing.{exact}
use Rattle.hrthood_top.proofs.refusals.refused_exactly_where.Goals as goal

pub returns-clause-one : goal.returns-clause-one
returns-clause-one c = λ t command p q. one-cause t (verb_of command) p q (exact command)

pub returns-clause-none : goal.returns-clause-none
returns-clause-none c = λ t command cause text. not-written t (verb_of command) cause text (exact command)

pub returns-clause-same : goal.returns-clause-same
returns-clause-same c = λ t command. one-text t (verb_of command) (exact command)
