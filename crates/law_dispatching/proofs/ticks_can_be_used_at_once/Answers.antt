use Rattle.law_dispatching.proofs.Shared.Jumps.{ticks_at_once}
use Rattle.law_dispatching.proofs.ticks_can_be_used_at_once.Goals as goal

pub returns : goal.returns
returns c y n s phase goes_on has quiet = ticks_at_once y n s phase goes_on has quiet
