use Rattle.std.proofs.Common.{◌≡◌, ap, subst, sym}
use Rattle.seq_tree.specs.Limits.{tick_limit}
use Rattle.ada_tree.specs.Rules.{MeetsRules}
use Rattle.ada_tree.specs.Trees.{program_of}
use Rattle.arrivals_tree.specs.Arriving.{arrivals_of}
use Rattle.guarantee.specs.Arrivals.{named_arrivals}
use Rattle.law_traces.specs.Told.{HasPlainNames}
use Rattle.trace_checks.proofs.Shared.Accepting.{accepted}
use Rattle.trace_read.specs.Texts.{table_program}
use Rattle.design_accepts.proofs.Judging.{all-placed, table-lines, units-hold, units-refused}
use Rattle.design_accepts.proofs.accepting.judge.Goals as goal

pub check_parts-requires-clause-units : goal.check_parts-requires-clause-units
check_parts-requires-clause-units c =
    (accepted tick_limit (program_of c.args.program.now) (arrivals_of c.args.arrivals.now) c.requires.arrivals).1

pub read_events-requires-clause-meets : goal.read_events-requires-clause-meets
read_events-requires-clause-meets c = subst MeetsRules (sym (ap program_of c.in_ok-table.ensures)) c.requires.meets

pub read_events-requires-clause-plain : goal.read_events-requires-clause-plain
read_events-requires-clause-plain c = subst HasPlainNames (sym (ap program_of c.in_ok-table.ensures)) c.requires.plain

pub judge_units-requires-clause-placed : goal.judge_units-requires-clause-placed
judge_units-requires-clause-placed c =
    all-placed (program_of c.args.program.now) c.requires.meets c.requires.plain
    (named_arrivals (program_of c.args.program.now) (arrivals_of c.args.arrivals.now)) c.args.trace.now c.in_ok-events.events
    (table-lines (table_program c.in_ok-table.table) (program_of c.args.program.now) c.args.trace.now c.in_ok-events.events
    (ap program_of c.in_ok-table.ensures) c.in_ok-events.ensures)

pub returns : goal.returns
returns c =
    units-refused (program_of c.args.program.now) c.requires.meets c.requires.plain
    (named_arrivals (program_of c.args.program.now) (arrivals_of c.args.arrivals.now)) c.args.trace.now c.in_ok-events.events
    (table-lines (table_program c.in_ok-table.table) (program_of c.args.program.now) c.args.trace.now c.in_ok-events.events
    (ap program_of c.in_ok-table.ensures) c.in_ok-events.ensures) c.in_ok-lines.lines c.in_ok-lines.ensures c.in-Err.why c.in-Err.ensures

pub returns-in-Ok : goal.returns-in-Ok
returns-in-Ok c =
    units-hold (program_of c.args.program.now) c.requires.meets c.requires.plain
    (named_arrivals (program_of c.args.program.now) (arrivals_of c.args.arrivals.now)) c.args.trace.now c.in_ok-events.events
    (table-lines (table_program c.in_ok-table.table) (program_of c.args.program.now) c.args.trace.now c.in_ok-events.events
    (ap program_of c.in_ok-table.ensures) c.in_ok-events.ensures) c.in_ok-lines.lines c.in_ok-lines.ensures c.in-Ok.ensures
