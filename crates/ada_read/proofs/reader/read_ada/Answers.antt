use Rattle.std.proofs.Common.{List, Result, ap, ◌∙◌, arith}
use Rattle.grammar.specs.Reading.{Halt, whole_at}
use Rattle.seq_tree.specs.Lexis.{tokens}
use Rattle.seq_tree.specs.declared.token.Token.{Token}
use Rattle.ada_tree.specs.Programs.{Program}
use Rattle.ada_tree.specs.Trees.{program_of}
use Rattle.token_read.specs.Ahead.{ahead}
use Rattle.token_read.proofs.Shared.BehindSteps.{found-list}
use Rattle.ada_read.specs.Readers.{ada_block_at, program_at}
use Rattle.ada_read.proofs.Shared.ReadingLaws.{judged-says, judged-only, faulty-at, deep-at}
use Rattle.ada_read.proofs.reader.read_ada.Goals as goal

-- what the tokens are read as
abbrev read_as : List Token → Result Program Halt
read_as ts = whole_at (program_at ada_block_at) ts

pub returns-in-Ok-whole-clause-says : goal.returns-in-Ok-whole-clause-says
returns-in-Ok-whole-clause-says c =
    let ts = found-list (tokens c.args.bytes.now) (ahead c.in-Ok.found) c.in-Ok.ensures.gives in
    judged-says c.args.bytes.now ts.0 (program_of c.in-Ok-whole.program) c.judged.result (omega arith) ts.1
    (ap read_as ts.2 ∙ c.in-Ok-whole.ensures) c.judged.ensures

pub returns-in-Ok-whole-clause-only : goal.returns-in-Ok-whole-clause-only
returns-in-Ok-whole-clause-only c p a =
    let ts = found-list (tokens c.args.bytes.now) (ahead c.in-Ok.found) c.in-Ok.ensures.gives in
    judged-only c.args.bytes.now ts.0 (program_of c.in-Ok-whole.program) c.judged.result ts.1 (ap read_as ts.2 ∙ c.in-Ok-whole.ensures)
    c.judged.ensures p a

pub returns-in-Err-Syntax-clause-says : goal.returns-in-Err-Syntax-clause-says
returns-in-Err-Syntax-clause-says c =
    let ts = found-list (tokens c.args.bytes.now) (ahead c.in-Ok.found) c.in-Ok.ensures.gives in
    let fails = rw c.in-Err-Syntax.field-0-is at c.in-Err-Syntax.ensures in
    faulty-at c.args.bytes.now ts.0 c.in-Err-Syntax.left c.place_of-place.result (omega arith) ts.1 (ap read_as ts.2 ∙ fails)
    (rw (← c.in-Err-Syntax.left-is) (c.place_of-place.ensures ts.0 ts.1 ts.3))

pub returns-in-Err-TooDeep-clause-says : goal.returns-in-Err-TooDeep-clause-says
returns-in-Err-TooDeep-clause-says c =
    let ts = found-list (tokens c.args.bytes.now) (ahead c.in-Ok.found) c.in-Ok.ensures.gives in
    let fails = rw c.in-Err-TooDeep.field-0-is at c.in-Err-TooDeep.ensures in
    deep-at c.args.bytes.now ts.0 c.in-Err-TooDeep.left c.place_of-place-in-Err-TooDeep.result (omega arith) ts.1 (ap read_as ts.2 ∙ fails)
    (rw (← c.in-Err-TooDeep.left-is) (c.place_of-place-in-Err-TooDeep.ensures ts.0 ts.1 ts.3))
