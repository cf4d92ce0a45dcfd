-- Each event that a run of the program of a design tells is one that a line can tell, and none is a stop.
-- Values are those of the sequential language, words below 2^32; times and lengths are in ticks.
use Rattle.std.specs.Prelude.{ℕ, List}
use Rattle.seq_tree.specs.Lists.{Each}
use Rattle.ods_tree.specs.Designs.{Design}
use Rattle.ods_tree.specs.Reading.{Reads}
use Rattle.ods_tree.specs.Ticks.{in_ticks}
use Rattle.design_rules.specs.Rules.{MeetsRules}
use Rattle.arrivals_tree.specs.Arriving.{Arrivals}
use Rattle.arrivals_tree.specs.Arrived.{Arrives, horizon_limit}
use Rattle.trace_tree.specs.declared.event.Event.{Event}
use Rattle.machine.specs.Meanings.{Meaning}
use Rattle.guarantee.specs.Programs.{program}
use Rattle.law_traces.specs.Told.{IsEvent}

-- a design that was read and meets the rules, and arrivals that a text says of its program: all that the program tells are events of it
abbrev pub DesignsTellEvents : Type 0
DesignsTellEvents =
    (x : Design) (bytes text : List ℕ) (r : Arrivals) (told : List Event)
    → Reads bytes x → MeetsRules x → Arrives horizon_limit text (program (in_ticks x)) r → Meaning (program (in_ticks x)) r told
    → Each (IsEvent (program (in_ticks x))) told
