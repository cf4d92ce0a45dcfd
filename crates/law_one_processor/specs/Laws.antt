-- The law of one processor: in no interval of a run do the activations that are released and end in it use more ticks than it has.
-- It speaks of every run of every program, whatever its priorities and arrivals.
use Rattle.std.specs.Prelude.{List}
use Rattle.ada_tree.specs.Programs.{Program}
use Rattle.ada_tree.specs.Rules.{MeetsRules}
use Rattle.arrivals_tree.specs.Arriving.{Arrivals}
use Rattle.trace_tree.specs.declared.event.Event as machine
use Rattle.machine.specs.Meanings.{Meaning}
use Rattle.guarantee.specs.Events.{named}
use Rattle.law_one_processor.specs.Demand.{FitOneProcessor}
use Rattle.law_one_processor.specs.Activations.{activations, told_activations}

-- the events of a run of a program fit one processor
abbrev pub RunsFit : Type 0
RunsFit = (p : Program) (r : Arrivals) (trace : List machine.Event) → Meaning p r trace → FitOneProcessor (told_activations trace)

-- so do the events by names, where the units have different names
abbrev pub NamedRunsFit : Type 0
NamedRunsFit =
    (p : Program) (r : Arrivals) (trace : List machine.Event) → MeetsRules p → Meaning p r trace → FitOneProcessor (activations (named p trace))
