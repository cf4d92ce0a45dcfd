-- Every run without a stop, of a program that can be read and under arrivals that are accepted, does as the program's texts say.
use Rattle.std.specs.Prelude.{◌≡◌, ℕ, false, List}
use Rattle.std.specs.List.{list_any}
use Rattle.std.proofs.Common.{sym, ◌∙◌, ap, subst}
use Rattle.ada_tree.specs.Programs.{Program}
use Rattle.ada_tree.specs.Rules.{MeetsRules}
use Rattle.arrivals_tree.specs.Arriving.{Arrivals}
use Rattle.arrivals_tree.specs.Acceptance.{IsAccepted}
use Rattle.trace_tree.specs.declared.event.Event.{Event}
use Rattle.machine.specs.Systems.{System, system}
use Rattle.machine.specs.States.{opening}
use Rattle.machine.specs.Meanings.{run}
use Rattle.guarantee.specs.Events.{named}
use Rattle.guarantee.specs.MachineLaw.{RunsAsWritten}
use Rattle.law_written.proofs.Shared.Moves.{is_stopping}
use Rattle.law_written.proofs.Shared.InOrder.{in_order, quiet_names}
use Rattle.law_written.proofs.Law.{DoesSo, runs_so}
use Rattle.law_written.proofs.Shared.Excluded.{run_kept}
use Rattle.law_written.proofs.Evolving.{AreFitting}
use Rattle.law_tasks.proofs.Shared.ProgramFacts.{fit_thread}
use Rattle.law_ceilings.proofs.Shared.Programs.{may-exclude}
use Rattle.law_calls.proofs.Shared.Accepted.{durations-each}

-- the blocks of the tasks fit, and their durations are of a tick at least
fits : (limit : ℕ) (p : Program) (r : Arrivals) → MeetsRules p → IsAccepted limit p r → AreFitting p r (system p r).threads
fits limit p r meets accepted k th at = (fit_thread p r meets k th at, durations-each limit p r accepted k th at)

pub every_run : (limit : ℕ) → RunsAsWritten limit
every_run limit p r trace readable accepted m quiet =
    let y : System = system p r in
    let meets : MeetsRules p = readable.1 in
    let all : AreFitting p r y.threads = fits limit p r meets accepted in
    let silent' : list_any is_stopping (run y m.steps (opening y r.items)).1 ≡ false
    = ap (list_any is_stopping) m.tells ∙ sym (quiet_names p trace) ∙ quiet in
    let P : List Event → Type 0 = λ es. DoesSo p r meets all (named p es) in
    let d : DoesSo p r meets all (named p trace)
    = subst P m.tells (runs_so p r meets all r.items m.steps (run_kept y r.items (may-exclude p meets limit r accepted)) m.stops silent') in
    record { order = in_order p r trace m quiet; bodies = d.bodies; threads = d.threads; objects = d.objects }
