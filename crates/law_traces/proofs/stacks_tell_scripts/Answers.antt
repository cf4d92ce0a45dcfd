use Rattle.law_traces.proofs.Shared.Stacks.{stack-by, inside-shown}
use Rattle.law_traces.proofs.stacks_tell_scripts.Goals as goal

pub returns : goal.returns
returns c = λ w thread later. record {
  inside = inside-shown w thread later;
  before = λ time task deed. stack-by w thread time task deed later;
}
