use Rattle.trace_read.proofs.Fronts.{goes-on}
use Rattle.trace_read.proofs.lines.lines_go_on.Goals as goal

pub returns : goal.returns
returns c = λ p plain text rest next is told tells. goes-on p plain text rest next is told tells
