-- The law of the processor's own rules: a program's run without a stop does as the program's texts say.
-- It speaks of every program and arrivals that the readers accept.
use Rattle.std.specs.Prelude.{◌≡◌, ℕ, Bool, false, List}
use Rattle.std.specs.List.{list_any}
use Rattle.seq_tree.specs.Proper.{within_limits}
use Rattle.ada_tree.specs.Programs.{Program}
use Rattle.ada_tree.specs.Proper.{IsProperProgram}
use Rattle.ada_tree.specs.Rules.{MeetsRules}
use Rattle.ada_tree.specs.Words.{is_ada_name}
use Rattle.arrivals_tree.specs.Arriving.{Arrivals}
use Rattle.arrivals_tree.specs.Acceptance.{IsAccepted}
use Rattle.machine.specs.Meanings.{Meaning}
use Rattle.trace_tree.specs.declared.event.Event as machine
use Rattle.guarantee.specs.Software.{program_software}
use Rattle.guarantee.specs.Events.{named, Event, By, Horizon}
use Rattle.guarantee.specs.Order.{is_stop}
use Rattle.guarantee.specs.Allowed.{DoesAsWritten}

-- whether an event is a stop
abbrev pub tells_stop : Event → Bool
tells_stop (By time task deed) = is_stop deed
tells_stop (Horizon time) = false

-- a trace without a stop
abbrev pub NeverStops : List Event → Type 0
NeverStops trace = list_any tells_stop trace ≡ false

-- a program that can be read
abbrev pub IsReadable : Program → Type 0
IsReadable p = IsProperProgram (within_limits is_ada_name) p × MeetsRules p

-- every run without a stop does as the program's texts say
abbrev pub RunsAsWritten : ℕ → Type 0
RunsAsWritten limit =
    (p : Program) (r : Arrivals) (trace : List machine.Event)
    → IsReadable p → IsAccepted limit p r → Meaning p r trace → NeverStops (named p trace)
    → DoesAsWritten (program_software p) r.until (named p trace)
