use Rattle.ada_tree.specs.Trees.{program_of}
use Rattle.law_traces.specs.Cuts.{cut}
use Rattle.trace_read.proofs.Fitting.{event-where}
use Rattle.trace_read.proofs.reads.event_in.Goals as goal

pub returns-clause-fits : goal.returns-clause-fits
returns-clause-fits c = event-where (program_of c.args.table.now.program.now) (cut 32 c.args.line.now) c.read.result c.read.ensures
