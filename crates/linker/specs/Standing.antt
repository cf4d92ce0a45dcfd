-- Which instructions of flat code stand in linked code, where names have these slots.
-- Each is one instruction there, whose expressions are operands and whose variables are slots.
use Rattle.std.specs.Prelude.{◌≡◌, ◌+◌, ◌++◌, ℕ, suc, List, [], ◌∷◌, length, Option, Some, None, slice_get, unwrap_or, nat_le, drop, ⊤, cond}
use Rattle.seq_tree.specs.Names.{Name}
use Rattle.seq_tree.specs.Expressions.{Expression, Number}
use Rattle.seq_tree.specs.Variables.{Variables, targets}
use Rattle.seq_tree.specs.declared.tree.Mode.{Mode}
use Rattle.seq_tree.specs.declared.tree.Mode.TheVariants.{In, Out}
use Rattle.seq_tree.specs.declared.tree.Param.{Param}
use Rattle.seq_eval.specs.Lookups.{found}
use Rattle.linker.specs.Nodes.{IsBelow, Links}
use Rattle.linker.specs.declared.nodes.Node.{Node}
use Rattle.linker.specs.declared.nodes.Operand.{Operand}
use Rattle.linker.specs.declared.nodes.Operand.TheVariants as operand
use Rattle.law_flat_code.specs.Codes.{Code, next_slot}
use Rattle.law_flat_code.specs.Codes as flat
use Rattle.linker.specs.Leads.{Leads, Body, Request, Nowhere}
use Rattle.linker.specs.declared.code.Ins.{Ins}
use Rattle.linker.specs.declared.code.Ins.TheVariants as ins
use Rattle.linker.specs.declared.code.Code as code

-- linked code as lists
pub record Lists : Type 0 where
  pub ins : List Ins
  pub nodes : List Node
  pub actuals : List Operand

-- the lists of code
abbrev pub lists_of : code.Code → Lists
lists_of c = record { ins = c.ins.items; nodes = c.nodes.items; actuals = c.actuals.items }

-- an operand stands for an expression
pub record Reads (t : Lists) (scope : Variables) (o : Operand) (e : Expression) : Type 0 where
  pub links : Links t.nodes scope o e
  pub below : IsBelow (length t.nodes) o

-- the slot that a value goes to: that of the variable, and one that no variable has where there is none
abbrev pub target_slot : Name → Variables → ℕ
target_slot name scope = unwrap_or (found name scope) (next_slot scope)

-- the actual of a parameter among the others, where it is handed in
abbrev pub in_by : Mode → Expression → List Expression → List Expression
in_by In e others = e ∷ others
in_by Out e others = others

-- the first of the actuals that are left, and 0 where there is none
abbrev pub first_or_0 : List Expression → Expression
first_or_0 [] = Number 0
first_or_0 (e ∷ es) = e

-- the actuals of the parameters that are handed in, and 0 where there is none
abbrev pub values_in : List Param → List Expression → List Expression
values_in [] actuals = []
values_in (p ∷ ps) actuals = in_by p.mode (first_or_0 actuals) (values_in ps (drop 1 actuals))

-- operands for expressions stand from a place on among the actuals
abbrev pub ValuesStand : Lists → Variables → ℕ → List Expression → Type 0
ValuesStand t scope at [] = ⊤
ValuesStand t scope at (e ∷ es) = (o : Operand) × (slice_get t.actuals at ≡ Some o) × Reads t scope o e × ValuesStand t scope (suc at) es

-- the slots of targets stand from a place on among the actuals
abbrev pub TargetsStand : Lists → Variables → ℕ → List Name → Type 0
TargetsStand t scope at [] = ⊤
TargetsStand t scope at (n ∷ ns) = (slice_get t.actuals at ≡ Some (operand.Slot (target_slot n scope))) × TargetsStand t scope (suc at) ns

-- the actual of a parameter was added, where it is handed in
abbrev pub AddsValue : Variables → Mode → Expression → Lists → Lists → Type 0
AddsValue scope In e c d = (o : Operand) × (d.actuals ≡ c.actuals ++ o ∷ []) × Reads d scope o e
AddsValue scope Out e c d = d.actuals ≡ c.actuals

-- the slot of a target was added, where there is one
abbrev pub AddsTarget : Variables → List Name → Lists → Lists → Type 0
AddsTarget scope [] c d = d.actuals ≡ c.actuals
AddsTarget scope (n ∷ ns) c d = d.actuals ≡ c.actuals ++ operand.Slot (target_slot n scope) ∷ []

-- a call, by what it leads to
abbrev pub CallStands : Lists → Variables → Leads → List Expression → Option Ins → Type 0
CallStands t scope (Body place params) actuals i =
    (first : ℕ) × (i ≡ Some (ins.Call place first (length (targets params actuals)))) × ValuesStand t scope first (values_in params actuals)
    × TargetsStand t scope (first + length (values_in params actuals)) (targets params actuals)
CallStands t scope (Request task) [] i = i ≡ Some (ins.Request task None)
CallStands t scope (Request task) (e ∷ es) i = (o : Operand) × (i ≡ Some (ins.Request task (Some o))) × Reads t scope o e
CallStands t scope Nowhere actuals i = i ≡ Some ins.Nowhere

-- an instruction of flat code stands at a place
abbrev pub Has : (Name → Name → Leads) → Lists → Code
Has leads t scope pc flat.Idle = slice_get t.ins pc ≡ Some ins.Null
Has leads t scope pc (flat.Store target e) =
    (o : Operand) × (slice_get t.ins pc ≡ Some (ins.Assign (target_slot target scope) o)) × Reads t scope o e
Has leads t scope pc (flat.Working ticks) = slice_get t.ins pc ≡ Some (ins.Work ticks)
Has leads t scope pc (flat.Printing e) = (o : Operand) × (slice_get t.ins pc ≡ Some (ins.Put o)) × Reads t scope o e
Has leads t scope pc (flat.Calling unit op actuals) = CallStands t scope (leads unit op) actuals (slice_get t.ins pc)
Has leads t scope pc (flat.Test c other) = (o : Operand) × (slice_get t.ins pc ≡ Some (ins.Test o other)) × Reads t scope o c
Has leads t scope pc (flat.Exit c to) = (o : Operand) × (slice_get t.ins pc ≡ Some (ins.Exit o to)) × Reads t scope o c
Has leads t scope pc (flat.Jump to) = slice_get t.ins pc ≡ Some (ins.Jump to)
Has leads t scope pc (flat.Begin name low high behind) =
    slice_get t.ins pc ≡ Some (cond (nat_le low high) (ins.Begin (next_slot scope) low) (ins.Jump behind))
Has leads t scope pc (flat.Next name last start) = slice_get t.ins pc ≡ Some (ins.Next (next_slot scope) last start)
Has leads t scope pc flat.Return = slice_get t.ins pc ≡ Some ins.Return
Has leads t scope pc flat.Finish = slice_get t.ins pc ≡ Some ins.Finish
