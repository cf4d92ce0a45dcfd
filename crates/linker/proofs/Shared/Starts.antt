-- Where bodies and the blocks of tasks stand in linked units, by their places.
use Rattle.std.proofs.Common.{◌≡◌, ℕ, zero, suc, List, [], ◌∷◌, Some, map, refl, ap, subst, ◌∙◌, arith}
use Rattle.std.specs.Prelude.{slice_get, option_map}
use Rattle.std.proofs.lemmas.Option.{same_Some, slice_get-map, slice_get_within}
use Rattle.seq_tree.specs.Statements.{Statements}
use Rattle.seq_tree.specs.Variables.{Variables}
use Rattle.ada_tree.specs.Programs.{Program, Unit}
use Rattle.arrivals_tree.specs.Arriving.{Arrivals, durations}
use Rattle.machine.specs.Systems.{System, TaskUnit, system}
use Rattle.law_flat_code.specs.Codes.{BodyStands, TaskStands}
use Rattle.linker.specs.Callees.{IsSystemOf, OpBody, body_of}
use Rattle.linker.specs.Programs.{AllStand, AreLinked, Part, op_part, task_part}
use Rattle.linker.specs.Scopes.{slots_of}
use Rattle.linker.specs.Standing.{Has, lists_of}
use Rattle.linker.specs.declared.program.LinkedUnits.{LinkedUnits}

-- what runs of a program is a system of its units
pub system_of_units : (p : Program) (a : Arrivals) → IsSystemOf p.units (system p a)
system_of_units p a = record { durations = durations a; libraries = refl; objects = refl; threads = refl }

-- each of the parts that stand has a start
pub part_stands : (Stand : Variables → ℕ → Statements → Type 0) (ps : List Part) (ss : List ℕ) (k : ℕ) (p : Part) → AllStand Stand ps ss
    → slice_get ps k ≡ Some p → (s : ℕ) × (slice_get ss k ≡ Some s) × Stand (slots_of p.names) s p.block
part_stands Stand [] ss k p h there = absurd (let lt = slice_get_within [] k p there in omega (arith, lt))
part_stands Stand (q ∷ ps) [] k p h there = absurd h
part_stands Stand (q ∷ ps) (s ∷ ss) zero p h there = (s, refl, subst (λ r. Stand (slots_of r.names) s r.block) (same_Some q p there) h.0)
part_stands Stand (q ∷ ps) (s ∷ ss) (suc k) p h there = part_stands Stand ps ss k p h.1 there

module _ (us : List Unit) (c : LinkedUnits) (linked : AreLinked us c) where
  -- the body of an operation to which calls lead
  pub body_stands : (k : ℕ) (b : OpBody) → slice_get (map body_of c.ops.items) k ≡ Some b
      → (s : ℕ) × (slice_get c.starts.items k ≡ Some s)
      × BodyStands (Has linked.leads (lists_of c.code)) (slots_of ((op_part b).names)) s b.op.block
  body_stands k b there =
      part_stands (BodyStands (Has linked.leads (lists_of c.code))) (map op_part (map body_of c.ops.items)) c.starts.items k (op_part b) linked.bodies
      (slice_get-map op_part (map body_of c.ops.items) k ∙ ap (option_map op_part) there)

  -- the block of a task
  pub task_stands : (y : System) → IsSystemOf us y → (k : ℕ) (t : TaskUnit) → slice_get y.threads k ≡ Some t
      → (s : ℕ) × (slice_get c.tasks.items k ≡ Some s)
      × TaskStands (Has linked.leads (lists_of c.code)) (slots_of ((task_part t).names)) s t.block
  task_stands y is k t there =
      part_stands (TaskStands (Has linked.leads (lists_of c.code))) (map task_part y.threads) c.tasks.items k (task_part t) (linked.tasks y is)
      (slice_get-map task_part y.threads k ∙ ap (option_map task_part) there)
