use Rattle.std.proofs.Common.{◌≡◌, ◌-◌, List, ℕ, None, Ok, Some, length, drop, sym, subst, ◌∙◌, arith}
use Rattle.ada_tree.specs.Programs.{Program}
use Rattle.trace_read.specs.Lines.{IsNext}
use Rattle.trace_read.specs.Texts.{table_program, text_left, text_program}
use Rattle.trace_read.proofs.Gathering.{Counted, counted-all, counted-next, counted-none, counted-starts, start-next}
use Rattle.trace_read.proofs.Shared.Nexts.{at-program, next-shorter}
use Rattle.trace_read.proofs.gather.read_events.Goals as goal

pub lines-init : goal.lines-init
lines-init c =
    let p : Program = table_program c.args.table.now in
    let left : List ℕ = text_left c.in_ok-lines.lines in
    record {
      program = c.in_ok-lines.ensures.0;
      counted = subst (Counted p c.args.text.now left) (sym c.in_ok-starts.ensures) (counted-none p c.args.text.now left c.in_ok-lines.ensures.1);
      within = omega arith;
      start = sym c.in_ok-lines.ensures.1;
    }

pub lines-smaller : goal.lines-smaller
lines-smaller c =
    let p : Program = table_program c.args.table.now in
    let left : List ℕ = text_left c.lines.lines in
    let rest : List ℕ = text_left c.next.new.self in
    let next : IsNext p left rest (Some c.in-Some.next) =
    at-program (λ q. IsNext q left rest (Some c.in-Some.next)) (text_program c.lines.lines) p c.lines.invariant.program c.requires.meets c.requires.plain
    c.in-Some.ensures.next in
    let step : IsNext p left rest (Some (Ok c.in-Ok._event)) = subst (λ n. IsNext p left rest (Some n)) c.in-Ok.is next in
    next-shorter p c.requires.plain c.in-Ok._event left rest step.1

pub lines-preserved : goal.lines-preserved
lines-preserved c =
    let p : Program = table_program c.args.table.now in
    let left : List ℕ = text_left c.lines.lines in
    let rest : List ℕ = text_left c.next.new.self in
    let next : IsNext p left rest (Some c.in-Some.next) =
    at-program (λ q. IsNext q left rest (Some c.in-Some.next)) (text_program c.lines.lines) p c.lines.invariant.program c.requires.meets c.requires.plain
    c.in-Some.ensures.next in
    let step : IsNext p left rest (Some (Ok c.in-Ok._event)) = subst (λ n. IsNext p left rest (Some n)) c.in-Ok.is next in
    let counted : Counted p c.args.text.now rest c.push.new.starts.items =
    counted-next p c.requires.plain c.args.text.now left rest c.in-Ok._event step.0 step.1 c.lines.starts.items c.push.new.starts.items c.lines.start
    c.in_ok-push.ensures c.lines.invariant.within c.lines.invariant.start c.lines.invariant.counted in
    record {
      program = c.next.ensures.program ∙ c.lines.invariant.program;
      counted = counted;
      within = omega arith;
      start = subst (λ n. drop (length c.args.text.now - n) c.args.text.now ≡ rest) (sym c.len_left.ensures)
          (start-next p c.args.text.now rest c.push.new.starts.items counted);
    }

pub of-requires : goal.of-requires
of-requires c =
    let p : Program = table_program c.args.table.now in
    let left : List ℕ = text_left c.lines.lines in
    let none : IsNext p left (text_left c.next.new.self) None =
    at-program (λ q. IsNext q left (text_left c.next.new.self) None) (text_program c.lines.lines) p c.lines.invariant.program c.requires.meets
    c.requires.plain c.in_default.ensures.next in
    counted-starts p c.requires.plain c.requires.meets c.args.text.now left c.lines.starts.items c.lines.invariant.counted none (omega arith)

pub returns : goal.returns
returns c =
    let p : Program = table_program c.args.table.now in
    let left : List ℕ = text_left c.lines.lines in
    let none : IsNext p left (text_left c.next.new.self) None =
    at-program (λ q. IsNext q left (text_left c.next.new.self) None) (text_program c.lines.lines) p c.lines.invariant.program c.requires.meets
    c.requires.plain c.in_default.ensures.next in
    counted-all p c.requires.plain c.requires.meets c.args.text.now left c.lines.starts.items c.lines.invariant.counted none _ c.in_ok-of.ensures
