-- Linked code has a start for each task.
use Rattle.std.specs.Prelude.{◌≡◌, ℕ, suc, List, [], ◌∷◌, length, map, refl}
use Rattle.std.proofs.Common.{sym, ◌∙◌, ap}
use Rattle.std.proofs.lemmas.List.{length-map}
use Rattle.seq_tree.specs.Statements.{Statements}
use Rattle.seq_tree.specs.Variables.{Variables}
use Rattle.ada_tree.specs.Trees.{unit_of}
use Rattle.law_flat_code.specs.Codes.{TaskStands}
use Rattle.linker.specs.Programs.{AllStand, AreLinked, Part, task_part}
use Rattle.linker.specs.Standing.{Has, lists_of}
use Rattle.linker.specs.declared.program.LinkedUnits.{LinkedUnits}
use Rattle.task_runtime.specs.Written.{system_of}
use Rattle.task_runtime.specs.declared.thread.Thread.{Thread}
use Rattle.task_runtime.proofs.Calls.{system_is}

as_many : (Stands : Variables → ℕ → Statements → Type 0) (ps : List Part) (ss : List ℕ) → AllStand Stands ps ss → length ps ≡ length ss
as_many Stands [] [] h = refl
as_many Stands [] (s ∷ ss) h = absurd h
as_many Stands (p ∷ ps) [] h = absurd h
as_many Stands (p ∷ ps) (s ∷ ss) h = ap suc (as_many Stands ps ss h.1)

pub starts-count : (c : LinkedUnits) (t : Thread) → AreLinked (map unit_of t.units.now) c → length (system_of t).threads ≡ length c.tasks.items
starts-count c t h =
    sym (length-map (system_of t).threads task_part)
    ∙ as_many (TaskStands (Has h.leads (lists_of c.code))) (map task_part (system_of t).threads) c.tasks.items (h.tasks (system_of t) (system_is t))
