-- Programs without limits keep some limits, and programs that keep limits are programs without them.
use Rattle.std.proofs.Common.{◌≡◌, ℕ, ◌+◌, ◌≤◌, true, List, [], ◌∷◌, arith}
use Rattle.seq_tree.specs.Lists.{Each}
use Rattle.seq_tree.specs.Operations.{Operation}
use Rattle.seq_tree.specs.Proper.{Limits, without_limits}
use Rattle.seq_read.proofs.Shared.ChainLevels.{bounds}
use Rattle.seq_read.proofs.Shared.Bounds.{extent_block, bound-block, free-block}
use Rattle.ada_tree.specs.Programs.{Form, Unit, Program, Passive, Shared, Cyclic, Sporadic}
use Rattle.ada_tree.specs.Proper.{IsProperOperation, IsProperForm, IsProperProgram}
use Rattle.ada_tree.specs.Words.{is_ada_name}

abbrev pub extent_ops : List Operation → ℕ
extent_ops [] = 0
extent_ops (o ∷ os) = extent_block o.block + extent_ops os

abbrev pub extent_form : Form → ℕ
extent_form (Passive ops) = extent_ops ops
extent_form (Shared ceiling vars ops) = extent_ops ops
extent_form (Cyclic priority offset period vars block) = extent_block block
extent_form (Sporadic priority ceiling op separation jitter external vars block) = extent_block block

abbrev pub extent_units : List Unit → ℕ
extent_units [] = 0
extent_units (u ∷ us) = extent_form u.form + extent_units us

abbrev wide : Limits
wide = without_limits is_ada_name

module _ (n : ℕ) where
  abbrev narrow : Limits
  narrow = bounds is_ada_name n n

  bound_ops : (os : List Operation) → extent_ops os ≤ n → Each (IsProperOperation wide) os → Each (IsProperOperation narrow) os
  bound_ops [] h p = tt
  bound_ops (o ∷ os) h p = ((p.0.0, p.0.1, p.0.2, bound-block is_ada_name n 0 o.block (omega (arith, h)) p.0.3), bound_ops os (omega (arith, h)) p.1)

  bound_form : (f : Form) → extent_form f ≤ n → IsProperForm wide f → IsProperForm narrow f
  bound_form (Passive ops) h p = bound_ops ops h p
  bound_form (Shared ceiling vars ops) h p = (p.0, bound_ops ops h p.1)
  bound_form (Cyclic priority offset period vars block) h p = (p.0, bound-block is_ada_name n 0 block (omega (arith, h)) p.1)
  bound_form (Sporadic priority ceiling op separation jitter external vars block) h p
      = (p.0, p.1, p.2, p.3, bound-block is_ada_name n 0 block (omega (arith, h)) p.4)

  bound_units : (us : List Unit) → extent_units us ≤ n → Each (λ u. (is_ada_name u.name ≡ true) × IsProperForm wide u.form) us
      → Each (λ u. (is_ada_name u.name ≡ true) × IsProperForm narrow u.form) us
  bound_units [] h p = tt
  bound_units (u ∷ us) h p = ((p.0.0, bound_form u.form (omega (arith, h)) p.0.1), bound_units us (omega (arith, h)) p.1)

  pub bound-program : (p : Program) → extent_units p.units ≤ n → IsProperProgram wide p → IsProperProgram narrow p
  bound-program p h q = (q.0, bound_units p.units h q.1)

module _ (nests most : ℕ) where
  abbrev kept : Limits
  kept = bounds is_ada_name nests most

  free_ops : (os : List Operation) → Each (IsProperOperation kept) os → Each (IsProperOperation wide) os
  free_ops [] p = tt
  free_ops (o ∷ os) p = ((p.0.0, p.0.1, p.0.2, free-block is_ada_name nests most 0 o.block p.0.3), free_ops os p.1)

  free_form : (f : Form) → IsProperForm kept f → IsProperForm wide f
  free_form (Passive ops) p = free_ops ops p
  free_form (Shared ceiling vars ops) p = (p.0, free_ops ops p.1)
  free_form (Cyclic priority offset period vars block) p = (p.0, free-block is_ada_name nests most 0 block p.1)
  free_form (Sporadic priority ceiling op separation jitter external vars block) p
      = (p.0, p.1, p.2, p.3, free-block is_ada_name nests most 0 block p.4)

  free_units : (us : List Unit) → Each (λ u. (is_ada_name u.name ≡ true) × IsProperForm kept u.form) us
      → Each (λ u. (is_ada_name u.name ≡ true) × IsProperForm wide u.form) us
  free_units [] p = tt
  free_units (u ∷ us) p = ((p.0.0, free_form u.form p.0.1), free_units us p.1)

  pub free-program : (p : Program) → IsProperProgram kept p → IsProperProgram wide p
  free-program p q = (q.0, free_units p.units q.1)
