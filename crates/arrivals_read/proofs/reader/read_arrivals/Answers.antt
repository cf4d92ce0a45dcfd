use Rattle.std.proofs.Common.{Ok, length, ap, ◌∙◌, arith}
use Rattle.grammar.specs.Reading.{whole_at}
use Rattle.seq_tree.specs.Lexis.{tokens}
use Rattle.ada_tree.specs.Trees.{program_of}
use Rattle.token_read.specs.Ahead.{ahead}
use Rattle.token_read.proofs.Shared.BehindSteps.{found-list}
use Rattle.arrivals_read.specs.Readers.{arrivals_at}
use Rattle.arrivals_read.specs.Texts.{text_of}
use Rattle.arrivals_read.proofs.Reaching.{arrivals-found, arrivals-faulty}
use Rattle.arrivals_read.proofs.Shared.Refusals.{says-only}
use Rattle.arrivals_read.proofs.reader.read_arrivals.Goals as goal

pub accepted-requires-clause-sized : goal.accepted-requires-clause-sized
accepted-requires-clause-sized c =
    let spelled = arrivals-found (ahead c.in-Ok.found) (text_of c.in-Ok-whole.text) c.in-Ok-whole.ensures in
    omega (arith, ap length spelled, c.in-Ok.ensures.few, c.if-bytes-gt-TEXT_LIMIT.false)

pub accepted-requires-clause-spelled : goal.accepted-requires-clause-spelled
accepted-requires-clause-spelled c =
    c.in-Ok.ensures.gives ∙ ap Ok (arrivals-found (ahead c.in-Ok.found) (text_of c.in-Ok-whole.text) c.in-Ok-whole.ensures)

pub returns-in-Ok-whole-clause-only : goal.returns-in-Ok-whole-clause-only
returns-in-Ok-whole-clause-only c = λ a arrives.
    says-only c.args.bytes.now (program_of c.args.program.now) c.accepted.result c.accepted.ensures a arrives

pub returns-in-Err-Syntax-clause-says : goal.returns-in-Err-Syntax-clause-says
returns-in-Err-Syntax-clause-says c =
    let ts = found-list (tokens c.args.bytes.now) (ahead c.in-Ok.found) c.in-Ok.ensures.gives in
    let fails = rw c.in-Err-Syntax.field-0-is at c.in-Err-Syntax.ensures in
    arrivals-faulty c.args.bytes.now ts.0 c.in-Err-Syntax.left c.place_of-place.result (omega (arith, c.if-bytes-gt-TEXT_LIMIT.false)) ts.1
    (ap (whole_at arrivals_at) ts.2 ∙ fails)
    (rw (← c.in-Err-Syntax.left-is) (c.place_of-place.ensures ts.0 ts.1 ts.3))
