use Rattle.std.proofs.Common.{ℕ, List, length, map}
use Rattle.ada_tree.specs.Trees.{unit_of}
use Rattle.linker.specs.Parts.{PartsLeft}
use Rattle.linker.specs.Programs.{task_part}
use Rattle.linker.specs.Standing.{lists_of}
use Rattle.linker.specs.declared.code.Ins.TheVariants as ins
use Rattle.linker.proofs.program.link_tasks.Given as goal
use Rattle.machine.specs.Systems.{threads_from}

-- the tasks among the units that are left are still to be linked
abbrev pub invariant-units : goal.invariant-units
invariant-units g l = (durations : ℕ → List ℕ) → (i : ℕ) × PartsLeft (g.C.Calls.leads l.calls) ins.Finish (lists_of l.fn.code) (lists_of l.code)
    (map task_part (threads_from durations 0 (map unit_of l.units))) (map task_part (threads_from durations i (map unit_of l.left))) l.starts.items

abbrev pub decreases-units : goal.decreases-units
decreases-units g l = length l.left
