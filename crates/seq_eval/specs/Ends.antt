-- What a walk comes to, scripts aside: the variables and the ticks at its end, or how many actions are left where it stops.
-- The ticks are the fewest and the most of that path.
use Rattle.std.specs.Prelude.{◌≡◌, ℕ, ◌≤◌, List, length, map, Result, Ok, Err}
use Rattle.grammar.specs.Reading.{Halt, left_of}
use Rattle.seq_tree.specs.Names.{Name}
use Rattle.seq_tree.specs.Variables.{Variables}
use Rattle.seq_tree.specs.Runs.{Action, Path}
use Rattle.seq_eval.specs.declared.along.Ended.{Ended}
use Rattle.seq_eval.specs.declared.along.Ended.TheVariants.{Done, Stopped}

-- the end of a walk
pub record End : Type 0 where
  pub vars : Variables
  pub low : ℕ
  pub high : ℕ

-- what a walk comes to
abbrev pub comes_to : Result Path Halt → Result End ℕ
comes_to (Ok p) = Ok (record { vars = p.vars; low = p.low; high = p.high })
comes_to (Err halt) = Err (left_of halt)

-- the names of variables
abbrev pub names_of : Variables → List Name
names_of vars = map (λ v. v.0) vars

-- how the following of a block ended, where scripts have this meaning, by what its walk comes to: the values of the variables, whose names
-- stay, and the ticks; or the actions that are left
abbrev pub IsEnd : {S : Type 0} → (S → List Action) → List Name → ℕ → Ended S → Result End ℕ → Type 0
IsEnd meaning names count (Done low high values) (Ok e) =
    (low ≡ e.low) × (high ≡ e.high) × (values.items ≡ map (λ v. v.1) e.vars) × (names_of e.vars ≡ names)
IsEnd meaning names count (Stopped rest) (Err n) = (length (meaning rest) ≡ n) × (length (meaning rest) ≤ count)
IsEnd meaning names count _ _ = ⊥

-- whether there are as many values as variables, and no more actions left than there were
abbrev pub FitsEnd : {S : Type 0} → (S → List Action) → List Name → ℕ → Ended S → Type 0
FitsEnd meaning names count (Done low high values) = length values.items ≡ length names
FitsEnd meaning names count (Stopped rest) = length (meaning rest) ≤ count
