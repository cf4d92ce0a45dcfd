use Rattle.std.proofs.Common.{List, ℕ, None, Err, Ok, Some, subst, ◌∙◌}
use Rattle.ada_tree.specs.Programs.{Program}
use Rattle.ada_tree.specs.Trees.{program_of}
use Rattle.arrivals_tree.specs.Arriving.{arrivals_of}
use Rattle.guarantee.specs.Arrivals.{named_arrivals}
use Rattle.trace_read.specs.Lines.{IsNext}
use Rattle.trace_read.specs.Texts.{text_left, text_program}
use Rattle.trace_read.proofs.Shared.Nexts.{at-program, next-shorter}
use Rattle.trace_checks.proofs.Passings.{passing-first, passing-after}
use Rattle.trace_checks.proofs.Meaning.{answers-mean}
use Rattle.trace_checks.proofs.Saying.{says-fault, says-ok}
use Rattle.trace_checks.proofs.pass.check_parts.Goals as goal

pub lines-init : goal.lines-init
lines-init c = record {
  program = c.in_ok-lines.ensures.0;
  passing = passing-first (program_of c.args.program.now) c.requires.meets c.requires.plain c.args.arrivals.now.until c.args.arrivals.now.items.items
      c.args.trace.now (text_left c.in_ok-lines.lines) c.in_ok-parts.parts c.in_ok-lines.ensures.1 c.in_ok-parts.ensures c.requires.units;
}

pub lines-smaller : goal.lines-smaller
lines-smaller c =
    let p : Program = program_of c.args.program.now in
    let left : List ℕ = text_left c.lines.lines in
    let rest : List ℕ = text_left c.next.new.self in
    let next : IsNext p left rest (Some c.in-Some.next) =
    at-program (λ q. IsNext q left rest (Some c.in-Some.next)) (text_program c.lines.lines) p c.lines.invariant.program c.requires.meets c.requires.plain
    c.in-Some.ensures.next in
    let step : IsNext p left rest (Some (Ok c.in-Ok.event)) = subst (λ n. IsNext p left rest (Some n)) c.in-Ok.is next in
    next-shorter p c.requires.plain c.in-Ok.event left rest step.1

pub lines-preserved : goal.lines-preserved
lines-preserved c =
    let p : Program = program_of c.args.program.now in
    let left : List ℕ = text_left c.lines.lines in
    let rest : List ℕ = text_left c.next.new.self in
    let next : IsNext p left rest (Some c.in-Some.next) =
    at-program (λ q. IsNext q left rest (Some c.in-Some.next)) (text_program c.lines.lines) p c.lines.invariant.program c.requires.meets c.requires.plain
    c.in-Some.ensures.next in
    let step : IsNext p left rest (Some (Ok c.in-Ok.event)) = subst (λ n. IsNext p left rest (Some n)) c.in-Ok.is next in
    record {
      program = c.next.ensures.program ∙ c.lines.invariant.program;
      passing = passing-after p c.requires.meets c.requires.plain c.args.arrivals.now.until c.args.arrivals.now.items.items c.args.trace.now left rest
          c.lines.count c.lines.parts c.note.new.self c.in-Ok.event c.lines.invariant.passing step.0 step.1 c.in_ok-note.ensures;
    }

pub returns-in-Ok-judge : goal.returns-in-Ok-judge
returns-in-Ok-judge c =
    let p : Program = program_of c.args.program.now in
    let left : List ℕ = text_left c.lines.lines in
    let none : IsNext p left (text_left c.next.new.self) None =
    at-program (λ q. IsNext q left (text_left c.next.new.self) None) (text_program c.lines.lines) p c.lines.invariant.program c.requires.meets
    c.requires.plain c.in_default.ensures.next in
    answers-mean p (named_arrivals p (arrivals_of c.args.arrivals.now)) c.args.trace.now (Ok c.lines.count) (says-ok p c.requires.meets c.args.arrivals.now c.args.trace.now left c.lines.count c.lines.parts none c.lines.invariant.passing
    c.in-Ok-judge.ensures)

pub returns : goal.returns
returns c =
    let p : Program = program_of c.args.program.now in
    let left : List ℕ = text_left c.lines.lines in
    let none : IsNext p left (text_left c.next.new.self) None =
    at-program (λ q. IsNext q left (text_left c.next.new.self) None) (text_program c.lines.lines) p c.lines.invariant.program c.requires.meets
    c.requires.plain c.in_default.ensures.next in
    answers-mean p (named_arrivals p (arrivals_of c.args.arrivals.now)) c.args.trace.now (Err c.in-Err.fault) (says-fault p c.requires.meets c.args.arrivals.now c.args.trace.now left c.lines.count c.lines.parts c.in-Err.fault none c.lines.invariant.passing
    c.in-Err.ensures)
