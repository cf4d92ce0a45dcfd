-- In every run of a program with a table, each activation of a task uses at most the cost of its row.
use Rattle.std.specs.Prelude.{◌≡◌, ℕ, List, Some, slice_get}
use Rattle.std.proofs.Common.{sym, subst, arith}
use Rattle.seq_tree.specs.Lists.{Each}
use Rattle.ada_tree.specs.Programs.{Program}
use Rattle.ada_tree.specs.Rules.{MeetsRules}
use Rattle.arrivals_tree.specs.Arriving.{Arrivals}
use Rattle.arrivals_tree.specs.Acceptance.{IsAccepted}
use Rattle.machine.specs.States.{opening}
use Rattle.machine.specs.Systems.{system}
use Rattle.machine.specs.Meanings.{Meaning}
use Rattle.trace_tree.specs.declared.event.Event as machine
use Rattle.rt_response.specs.declared.rows.ThreadRow.{ThreadRow}
use Rattle.guarantee.specs.Events.{named}
use Rattle.guarantee.specs.ResponseLaw.{Ranked, AreTabled}
use Rattle.law_lists.proofs.Shared.Lists.{each-to}
use Rattle.law_responses.specs.Using.{UsesAtMost, TasksKeepToCosts}
use Rattle.law_responses.proofs.Frames.{Frame}
use Rattle.law_responses.proofs.History.{History}
use Rattle.law_responses.proofs.Moves.{HasUnit}
use Rattle.law_responses.proofs.Opening.{empty}
use Rattle.law_responses.proofs.SystemLaw.{run-history, states-fit}
use Rattle.law_responses.proofs.Tabling.{frame, has-row, place-of}
use Rattle.law_responses.proofs.TwinTasks.{thread-of}
use Rattle.law_responses.proofs.Using.{IsWithinCost, EndsWithin, run-tells, within-cost, uses-named}
use Rattle.law_responses.proofs.Shared.ProgramLaw.{framed, all-written, apart, task-names}

module _ (p : Program) (a : Arrivals) (rules : MeetsRules p) (ts : List Ranked) (rows : List ThreadRow) (tabled : AreTabled p ts rows) (limit : ℕ)
    (accepted : IsAccepted limit p a) (trace : List machine.Event) (meaning : Meaning p a trace) where
  abbrev f : Frame
  f = frame p ts rows a

  whole : History (frame p ts rows a) meaning.steps (opening (system p a) a.items) empty
  whole = run-history (frame p ts rows a) a.items meaning.steps (framed p a rules ts rows tabled limit accepted) (all-written p a rules)
      (apart p a rules ts rows tabled limit accepted)

  within : Each (IsWithinCost (frame p ts rows a)) trace
  within =
      subst (Each (IsWithinCost (frame p ts rows a))) meaning.tells
      (run-tells (frame p ts rows a) (framed p a rules ts rows tabled limit accepted) meaning.steps (opening (system p a) a.items)
      (λ q less.
      let here = whole.at q (omega (arith, less)) in
      record {
        log = here.log;
        current = here.notes.current;
        base = here.along.base;
        fit = states-fit (frame p ts rows a) a.items (all-written p a rules) q;
      }))

  units : Each (HasUnit (frame p ts rows a)) trace
  units = subst (Each (HasUnit (frame p ts rows a))) meaning.tells whole.grown.units

  task-uses : (k : ℕ) (u : Ranked) (row : ThreadRow) → slice_get ts k ≡ Some u → slice_get rows k ≡ Some row
      → UsesAtMost row.cost u.task.name (named p trace)
  task-uses k u row at line =
      let place = place-of p a rules ts rows tabled k u at in
      let t = thread-of p a place.0 u place.1 in
      subst (λ n. UsesAtMost row.cost n (named p trace)) (sym (t.2).name)
      (uses-named (frame p ts rows a) p t.0.name t.0.unit row.cost trace (task-names p a rules ts rows place.0 t.0 t.1) units
      (each-to (IsWithinCost (frame p ts rows a)) (EndsWithin t.0.unit row.cost) trace
      (within-cost (frame p ts rows a) place.0 k t.0 row (has-row p a rules ts rows tabled place.0 k u place.1 at) t.1 line) within))

pub tasks-keep-to-costs : (limit : ℕ) → TasksKeepToCosts limit
tasks-keep-to-costs limit p ts rows r trace k t row readable tabled accepted meaning at line =
    task-uses p r readable.1 ts rows tabled limit accepted trace meaning k t row at line
