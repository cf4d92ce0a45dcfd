-- The calls of a block as they are gathered, in order: each as it is written, or those outside loops of no turn.
-- They are this project's own.
use Rattle.std.specs.Prelude.{ℕ, ◌==◌, Bool, false, List, [], ◌∷◌, ◌++◌, if◌then◌else◌}
use Rattle.seq_tree.specs.Statements.{Statement, Statements, Branches, If, For, Call, End, Then, Nothing, Else, When}
use Rattle.seq_tree.specs.Dearest.{turn_count}
use Rattle.seq_tree.specs.declared.tree.OpName.{OpName}
use Rattle.seq_cost.specs.declared.written.Gathered.{Gathered}
use Rattle.seq_cost.specs.declared.written.Gathered.TheVariants.{Written, Live}

-- whether the calls inside a loop are left out
abbrev pub leaves_out : Gathered → ℕ → ℕ → Bool
leaves_out Written low high = false
leaves_out Live low high = turn_count low high == 0

-- those of a statement, of statements and of branches
abbrev mutual
  pub statement_gathered : Gathered → Statement → List OpName
  statement_gathered how (Call object op actuals) = record { object = object; op = op } ∷ []
  statement_gathered how (If branches) = branch_gathered how branches
  statement_gathered how (For name low high body) = if leaves_out how low high then [] else block_gathered how body
  statement_gathered how _ = []

  pub block_gathered : Gathered → Statements → List OpName
  block_gathered how End = []
  block_gathered how (Then first rest) = statement_gathered how first ++ block_gathered how rest

  pub branch_gathered : Gathered → Branches → List OpName
  branch_gathered how Nothing = []
  branch_gathered how (Else block) = block_gathered how block
  branch_gathered how (When condition block others) = block_gathered how block ++ branch_gathered how others
