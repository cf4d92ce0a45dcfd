use Rattle.std.proofs.Common.{◌∙◌}
use Rattle.ada_tree.specs.Trees.{program_of}
use Rattle.trace_tree.specs.Lines.{line}
use Rattle.trace_read.proofs.Splitting.{begins-other}
use Rattle.trace_read.proofs.lines.behind.Goals as goal

pub returns-then-ne : goal.returns-then-ne
returns-then-ne c = λ more e.
    begins-other c.args.left.now c.split_at.result.0.now c.bytes-written.result.now (line (program_of c.args.program.now) c.args.event.now) more
    c.split_at.ensures.front (c.bytes-written.ensures.bytes ∙ c.line.ensures) c.if-ne.ensures e
