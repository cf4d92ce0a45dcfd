-- Slots that hold the same below some number: the variables of a body and what it has left are the same over both.
use Rattle.std.proofs.Common.{◌≡◌, ◌<◌, ◌≤◌, ℕ, ◌-◌, true, List, [], ◌∷◌, ◌++◌, length, take, refl, ap, sym, ◌∙◌, arith}
use Rattle.std.proofs.lemmas.List.{get_or-take, get_or_append_left}
use Rattle.std.proofs.lemmas.Option.{unwrap_or-slice_get}
use Rattle.seq_tree.specs.Names.{Name}
use Rattle.seq_tree.specs.Variables.{Variables}
use Rattle.machine.specs.Systems.{System}
use Rattle.law_flat_code.specs.Codes.{next_slot}
use Rattle.linker.specs.Slots.{AreSlots, slot_at, vars_at}
use Rattle.linker.specs.Leads.{Leads}
use Rattle.linker.specs.Standing.{Lists}
use Rattle.linker.specs.declared.code.Ins.{Ins}
use Rattle.task_runtime.specs.Bodies.{Body, counter_of, left_at, scope_at, size_of, vars_here}
use Rattle.task_runtime.specs.Settling.{IsAmid}
use Rattle.task_runtime.specs.Sounds.{IsSound}
use Rattle.task_runtime.proofs.Shapes.{shape_at}
use Rattle.task_runtime.proofs.Steps.{few, left_stays}

abbrev pub SameBelow : ℕ → List ℕ → List ℕ → Type 0
SameBelow k xs ys = (j : ℕ) → j < k → slot_at xs j ≡ slot_at ys j

pub taken_same : (k : ℕ) (xs : List ℕ) → SameBelow k (take k xs) xs
taken_same k xs j lt =
    unwrap_or-slice_get (take k xs) j 0 ∙ get_or-take k xs j 0 lt ∙ sym (unwrap_or-slice_get xs j 0)

pub joined_same : (xs ys : List ℕ) → SameBelow (length xs) (xs ++ ys) xs
joined_same xs ys j lt =
    unwrap_or-slice_get (xs ++ ys) j 0 ∙ get_or_append_left xs ys 0 j lt ∙ sym (unwrap_or-slice_get xs j 0)

pub vars_same : (k next : ℕ) (scope : Variables) (xs ys : List ℕ) → AreSlots next scope → next ≤ k → SameBelow k xs ys
    → vars_at scope xs ≡ vars_at scope ys
vars_same k next [] xs ys are le same = refl
vars_same k next (v ∷ scope) xs ys are le same =
    let lt = are.0 in
    ap (λ z. (v.0, z) ∷ vars_at scope xs) (same v.1 (omega (arith, lt, le)))
    ∙ ap (λ vs. (v.0, slot_at ys v.1) ∷ vs) (vars_same k v.1 scope xs ys are.1 (omega (arith, lt, le)) same)

module _ (y : System) (leads : Name → Name → Leads) (t : Lists) (last : Ins) (room : ℕ) (r : Body) (s : IsSound y leads t last room r)
    (slots slots' : List ℕ) (long : size_of r ≤ length slots) (same : SameBelow (size_of r) slots' slots) (at : ℕ)
    (amid : IsAmid r.start r.block at) where
  pub left_below : left_at r true at slots' ≡ left_at r true at slots
  left_below =
      let h = shape_at r.names r.block (at - r.start) true in
      let f = few y leads t last room r s slots long at amid.from true (at - r.start) in
      let e = h.next in
      left_stays y leads t last room r s slots long at amid.from at slots' h.level amid h.next
      (λ j lt. same (counter_of r.names j) (omega (arith, lt, f, e)))

  pub vars_below : vars_here r true at slots' ≡ vars_here r true at slots
  vars_below =
      let h = shape_at r.names r.block (at - r.start) true in
      let f = few y leads t last room r s slots long at amid.from true (at - r.start) in
      vars_same (size_of r) (next_slot (scope_at r true at)) (scope_at r true at) slots' slots h.slots (omega (arith, f)) same
