-- The laws of what one task does by itself and of the end of runs.
-- Runs of a block and their scripts are those of the sequential language, meanings those of the modelled processor.
use Rattle.std.specs.Prelude.{◌≡◌, List}
use Rattle.seq_tree.specs.Names.{Name}
use Rattle.seq_tree.specs.Runs.{Callee, Path, Run}
use Rattle.seq_tree.specs.Statements.{Statements}
use Rattle.seq_tree.specs.Variables.{Variables}
use Rattle.seq_tree.specs.declared.tree.Costs.{Costs}
use Rattle.ada_tree.specs.Programs.{Program}
use Rattle.ada_tree.specs.Rules.{MeetsRules}
use Rattle.arrivals_tree.specs.Arriving.{Arrivals}
use Rattle.trace_tree.specs.declared.event.Event.{Event}
use Rattle.machine.specs.Meanings.{Meaning}

-- two runs of a block from the same variables that show the same are one
abbrev pub ScriptsHaveOneRun : Type 0
ScriptsHaveOneRun = (costs : Costs) (calls : Name → Name → Callee) (b : Statements) (vars : Variables) (p q : Path)
    → Run costs calls b vars p → Run costs calls b vars q → p.script ≡ q.script → p ≡ q

-- a program that meets the rules has a meaning under any arrivals
abbrev pub ProgramsMean : Type 0
ProgramsMean = (p : Program) (a : Arrivals) → MeetsRules p → (told : List Event) × Meaning p a told
