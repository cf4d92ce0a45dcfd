use Rattle.std.proofs.Common.{◌∙◌}
use Rattle.trace_text.proofs.TallyLaws.{noted-is}
use Rattle.trace_text.proofs.summary.Summary.note.Goals as goal

pub returns : goal.returns
returns c = λ size told h. c.count.ensures ∙ noted-is size told c.args.event.now c.args.self.now h
