use Rattle.std.proofs.Common.{arith}
use Rattle.arrivals_read.specs.Texts.{work_text}
use Rattle.arrivals_read.proofs.ItemSteps.{work-length}
use Rattle.arrivals_read.proofs.items.work_len.Goals as goal

pub overflow_add-result : goal.overflow_add-result
overflow_add-result c = omega (arith, c.requires, c.len.ensures, c.args.work.now.others.ok.0, work-length (work_text c.args.work.now))

pub returns : goal.returns
returns c = omega (arith, c.len.ensures, c.args.work.now.others.ok.0, work-length (work_text c.args.work.now))
