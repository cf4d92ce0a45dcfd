use Rattle.std.proofs.Common.{◌≡◌, List, Result, Ok, sym, ap, ◌∙◌, arith}
use Rattle.grammar.specs.Reading.{Halt, whole_at}
use Rattle.seq_tree.specs.Lexis.{tokens}
use Rattle.seq_tree.specs.declared.token.Token.{Token}
use Rattle.ods_tree.specs.Designs.{Design}
use Rattle.ods_tree.specs.Trees.{design_of}
use Rattle.token_read.specs.Ahead.{ahead}
use Rattle.token_read.proofs.Shared.BehindSteps.{found-list}
use Rattle.ods_read.specs.DesignReaders.{design_at}
use Rattle.ods_read.proofs.Shared.ReadingLaws.{reads-as, reads-only, faulty-at, deep-at}
use Rattle.ods_read.proofs.reader.read_design.Goals as goal

-- what the tokens are read as
abbrev read_as : List Token → Result Design Halt
read_as ts = whole_at design_at ts

pub returns-in-Ok-whole-clause-says : goal.returns-in-Ok-whole-clause-says
returns-in-Ok-whole-clause-says c =
    let ts = found-list (tokens c.args.bytes.now) (ahead c.in-Ok.found) c.in-Ok.ensures.gives in
    reads-as c.args.bytes.now ts.0 (design_of c.in-Ok-whole.design) (omega arith) ts.1 (ap read_as ts.2 ∙ c.in-Ok-whole.ensures)

pub returns-in-Ok-whole-clause-only : goal.returns-in-Ok-whole-clause-only
returns-in-Ok-whole-clause-only c x a =
    let ts = found-list (tokens c.args.bytes.now) (ahead c.in-Ok.found) c.in-Ok.ensures.gives in
    let found = reads-only c.args.bytes.now ts.0 x ts.1 a in
    let same : Ok (design_of c.in-Ok-whole.design) ≡ Ok x = sym c.in-Ok-whole.ensures ∙ ap read_as (sym ts.2) ∙ found in
    cc

pub returns-in-Err-Syntax-clause-says : goal.returns-in-Err-Syntax-clause-says
returns-in-Err-Syntax-clause-says c =
    let ts = found-list (tokens c.args.bytes.now) (ahead c.in-Ok.found) c.in-Ok.ensures.gives in
    let fails = rw c.in-Err-Syntax.field-0-is at c.in-Err-Syntax.ensures in
    faulty-at c.args.bytes.now ts.0 c.in-Err-Syntax.left c.place_of-place.result (omega arith) ts.1 (ap read_as ts.2 ∙ fails)
    (rw (← c.in-Err-Syntax.left-is) (c.place_of-place.ensures ts.0 ts.1 ts.3))

pub returns-in-Err-TooDeep-clause-says : goal.returns-in-Err-TooDeep-clause-says
returns-in-Err-TooDeep-clause-says c =
    let ts = found-list (tokens c.args.bytes.now) (ahead c.in-Ok.found) c.in-Ok.ensures.gives in
    let fails = rw c.in-Err-TooDeep.field-0-is at c.in-Err-TooDeep.ensures in
    deep-at c.args.bytes.now ts.0 c.in-Err-TooDeep.left c.place_of-place-in-Err-TooDeep.result (omega arith) ts.1 (ap read_as ts.2 ∙ fails)
    (rw (← c.in-Err-TooDeep.left-is) (c.place_of-place-in-Err-TooDeep.ensures ts.0 ts.1 ts.3))
