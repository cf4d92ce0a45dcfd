-- What comes next in a script: the first of the actions that are left. Where none is left, nothing comes next.
-- The entries and exits are those of protected operations (ISO/IEC 8652:2012, 9.5.1).
use Rattle.std.specs.Prelude.{ℕ, ◌-◌, ◌≤◌, ⊤, suc, zero, Bool, true, false, List, [], ◌∷◌, length, Option, Some, None, Result, Ok, Err, is_some}
use Rattle.std.specs.Prelude.{if◌then◌else◌}
use Rattle.seq_tree.specs.Calls.{same_op}
use Rattle.seq_tree.specs.Runs.{Action}
use Rattle.seq_tree.specs.Runs as runs
use Rattle.seq_tree.specs.declared.memory.NoMemory.{NoMemory}
use Rattle.seq_tree.specs.declared.tree.OpName.{OpName}
use Rattle.law_walks.specs.Walks.{sees_enter, sees_print, sees_request}
use Rattle.seq_eval.specs.declared.action.Followed.{Followed}
use Rattle.seq_eval.specs.declared.action.Followed.TheVariants as followed
use Rattle.seq_eval.specs.declared.script.Along.{Along}
use Rattle.seq_eval.specs.declared.script.Along.TheVariants.{Done, Stopped}

-- what is so of the next action, and of none
abbrev pub of_next : {A : Type 0} → (Action → A) → A → List Action → A
of_next f none [] = none
of_next f none (a ∷ rest) = f a

-- whether no action is left
abbrev pub is_over : List Action → Bool
is_over us = of_next (λ a. false) true us

-- the values of an exit from an operation, where an action is one
abbrev pub sees_exit : OpName → Action → Option (List ℕ)
sees_exit name (runs.Leave n vs) = if same_op name n then Some vs else None
sees_exit name _ = None

-- the values that the next action hands in, where it enters this operation
abbrev pub next_entry : OpName → List Action → Option (List ℕ)
next_entry name us = of_next (sees_enter name) None us

-- the values that it hands out, where it leaves this operation
abbrev pub next_exit : OpName → List Action → Option (List ℕ)
next_exit name us = of_next (sees_exit name) None us

-- whether it requests a task by this operation with this value
abbrev pub next_requests : OpName → Option ℕ → List Action → Bool
next_requests name v us = of_next (λ a. is_some (sees_request name v a)) false us

-- whether it prints this value
abbrev pub next_prints : ℕ → List Action → Bool
next_prints v us = of_next (λ a. is_some (sees_print v a)) false us

-- the answer that tells a place, where so many of so many actions are left
abbrev pub stopped_at : ℕ → ℕ → Followed
stopped_at count zero = followed.Short
stopped_at count (suc left) = followed.Off (count - suc left)

-- the answer that tells a place, of an answer with the actions that are left
abbrev pub followed_as : {S : Type 0} → (S → List Action) → ℕ → Along S → Followed
followed_as meaning count (Done low high) = followed.Done low high
followed_as meaning count (Stopped rest) = stopped_at count (length (meaning rest))

abbrev pub answered : {S : Type 0} → (S → List Action) → ℕ → Result (Along S) NoMemory → Result Followed NoMemory
answered meaning count (Ok answer) = Ok (followed_as meaning count answer)
answered meaning count (Err e) = Err e

-- whether no more actions are left than there were
abbrev pub IsWithin : {S : Type 0} → (S → List Action) → ℕ → Along S → Type 0
IsWithin meaning count (Done low high) = ⊤
IsWithin meaning count (Stopped rest) = length (meaning rest) ≤ count
