-- What the walk of a script means: it is a run exactly where it takes the whole script, and else it tells the first action that no run has.
-- Runs are those of the sequential language.
use Rattle.std.specs.Prelude.{◌≡◌, ℕ, List, Ok, Err}
use Rattle.grammar.specs.Reading.{Halt, left_of, IsFirstFault, whole_at}
use Rattle.seq_tree.specs.Names.{Name}
use Rattle.seq_tree.specs.Runs.{Action, Path, Callee, Run}
use Rattle.seq_tree.specs.Statements.{Statements}
use Rattle.seq_tree.specs.Variables.{Variables}
use Rattle.seq_tree.specs.declared.tree.Costs.{Costs}
use Rattle.law_walks.specs.Walks.{walk_at}
use Rattle.law_walks.specs.Fit.{MayRun}

-- a run that shows a script
abbrev pub RunOf : Costs → (Name → Name → Callee) → Statements → Variables → Path → List Action → Type 0
RunOf costs calls b vars p script = Run costs calls b vars p × (script ≡ p.script)

-- what the walk of a block along a script says
pub record Tells (costs : Costs) (calls : Name → Name → Callee) (depth : ℕ) (b : Statements) (vars : Variables) (script : List Action) : Type 0 where
  -- it ends with a run that shows the script,
  pub found : (p : Path) → whole_at (walk_at costs calls depth b vars) script ≡ Ok p → RunOf costs calls b vars p script
  -- exactly where there is one,
  pub only : (p : Path) → RunOf costs calls b vars p script → whole_at (walk_at costs calls depth b vars) script ≡ Ok p
  -- and else it stops at the first action with which no run goes on, or at the end of the script
  pub fault : (halt : Halt) → whole_at (walk_at costs calls depth b vars) script ≡ Err halt
      → IsFirstFault (RunOf costs calls b vars) script (left_of halt)

-- walks are exact
abbrev pub WalksAreExact : Type 0
WalksAreExact = (costs : Costs) (calls : Name → Name → Callee) (depth : ℕ) (b : Statements) (vars : Variables) (script : List Action)
    → MayRun calls depth b → Tells costs calls depth b vars script
