use Rattle.std.proofs.Common.{refl, ap, arith}
use Rattle.seq_tree.specs.Limits.{tick_limit}
use Rattle.seq_tree.specs.Lexis.{tokens}
use Rattle.ada_tree.specs.Trees.{program_of}
use Rattle.token_read.specs.Lexemes.{word_bytes}
use Rattle.token_read.proofs.Shared.BehindSteps.{found-list}
use Rattle.arrivals_tree.specs.Arriving.{arrivals_of}
use Rattle.arrivals_tree.specs.ArrivalTexts.{arrival_tokens}
use Rattle.arrivals_read.specs.Checked.{fault_named}
use Rattle.arrivals_read.specs.Texts.{text_of}
use Rattle.arrivals_read.proofs.Telling.{text-of, far-says, fine-arrives, wrong-found, wrong-says}
use Rattle.arrivals_read.proofs.reader.accepted.Goals as goal

pub returns-then-text-gt-HORIZON_LIMIT : goal.returns-then-text-gt-HORIZON_LIMIT
returns-then-text-gt-HORIZON_LIMIT c =
    let text = text_of c.args.text.now in
    let found = found-list (tokens c.args.bytes.now) (arrival_tokens text) c.requires.spelled in
    far-says c.args.bytes.now (program_of c.args.program.now) found.0 text c.args.text.now.until tick_limit
    (text-of c.args.bytes.now found.0 text c.requires.short found.1 found.2) refl c.if-text-gt-HORIZON_LIMIT.true refl

pub returns-in-Ok : goal.returns-in-Ok
returns-in-Ok c =
    let text = text_of c.args.text.now in
    let found = found-list (tokens c.args.bytes.now) (arrival_tokens text) c.requires.spelled in
    fine-arrives c.args.bytes.now (program_of c.args.program.now) found.0 text (arrivals_of c.in-Ok.arrivals)
    (text-of c.args.bytes.now found.0 text c.requires.short found.1 found.2) (omega (arith, c.if-text-gt-HORIZON_LIMIT.false)) c.in-Ok.ensures.0
    c.in-Ok.ensures.1

pub returns-in-Err-Wrong : goal.returns-in-Err-Wrong
returns-in-Err-Wrong c =
    let text = text_of c.args.text.now in
    let found = found-list (tokens c.args.bytes.now) (arrival_tokens text) c.requires.spelled in
    let name = word_bytes c.in-Err-Wrong.name in
    wrong-says c.args.bytes.now (program_of c.args.program.now) c.in-Err-Wrong.cause c.place_behind-place.result.line name c.told.result
    (wrong-found c.args.bytes.now (program_of c.args.program.now) found.0 text (fault_named c.in-Err-Wrong.cause) name c.in-Err-Wrong.before
    c.place_behind-place.result.line
    (text-of c.args.bytes.now found.0 text c.requires.short found.1 found.2) (omega (arith, c.if-text-gt-HORIZON_LIMIT.false))
    (rw c.in-Err-Wrong.field-0-is at c.in-Err-Wrong.ensures)
    (ap (λ p. p.line) (c.place_behind-place.ensures found.0 found.1)))
    c.told.ensures
