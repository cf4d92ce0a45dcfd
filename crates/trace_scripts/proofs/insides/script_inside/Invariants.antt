use Rattle.std.proofs.Common.{◌≡◌, suc, Some, drop, length}
use Rattle.ada_tree.specs.Programs.{Program}
use Rattle.trace_read.specs.Deeds.{first_task}
use Rattle.trace_scripts.specs.Insides.{inside_from, joined}
use Rattle.trace_scripts.specs.Scripts.{shown_of}
use Rattle.trace_scripts.proofs.insides.script_inside.Given as goal

-- the events so far are in the script
abbrev pub invariant-deeds : goal.invariant-deeds
invariant-deeds l = record {
  own : first_task (drop l.last l.events) ≡ Some l.task;
  shown : (p : Program) → joined (shown_of p l.events l.script) (inside_from p l.task (drop (suc l.last) l.events) 0)
      ≡ inside_from p l.task (drop (suc l.entry) l.events) 0;
}

abbrev pub decreases-deeds : goal.decreases-deeds
decreases-deeds l = length (drop l.last l.events)
