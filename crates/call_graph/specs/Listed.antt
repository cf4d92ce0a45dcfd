-- The calls of a block, those inside loops twice, in order; of the branches of an `if` a call that is in several isn't listed for each.
-- A call in a loop may be made again on one path; twice says that it may be more than once. A path takes one branch.
use Rattle.std.specs.Prelude.{Bool, true, false, not, ◌&&◌, ◌||◌, List, [], ◌∷◌, ◌++◌, if◌then◌else◌}
use Rattle.std.specs.List.{list_any}
use Rattle.seq_tree.specs.Calls.{same_op}
use Rattle.seq_tree.specs.Statements.{Statement, Statements, Branches, If, For, Call, End, Then, Nothing, Else, When}
use Rattle.seq_tree.specs.declared.tree.OpName.{OpName}

-- a call, twice where that is asked for
abbrev pub call_listed : Bool → OpName → List OpName
call_listed twice c = if twice then c ∷ c ∷ [] else c ∷ []

-- a call of a branch behind those that are listed: it is passed over where it is among them and its branch didn't make it before
unfoldable pub listed_more : (OpName → Bool) → List OpName → OpName → List OpName
listed_more seen all c = if list_any (λ d. same_op d c) all && not (seen c) then all else all ++ c ∷ []

-- the calls of a branch behind those that are listed
abbrev pub listed_all : (OpName → Bool) → List OpName → List OpName → List OpName
listed_all seen all [] = all
listed_all seen all (c ∷ cs) = listed_all (λ n. same_op c n || seen n) (listed_more seen all c) cs

-- those of a statement and of statements, and those of branches behind those of the branches before
abbrev mutual
  pub statement_listed : Bool → Statement → List OpName
  statement_listed twice (Call object op actuals) = call_listed twice (record { object = object; op = op })
  statement_listed twice (If branches) = branch_listed twice [] branches
  statement_listed twice (For name low high body) = block_listed true body
  statement_listed twice _ = []

  pub block_listed : Bool → Statements → List OpName
  block_listed twice End = []
  block_listed twice (Then first rest) = statement_listed twice first ++ block_listed twice rest

  pub branch_listed : Bool → List OpName → Branches → List OpName
  branch_listed twice all Nothing = all
  branch_listed twice all (Else block) = listed_all (λ n. false) all (block_listed twice block)
  branch_listed twice all (When condition block others) = branch_listed twice (listed_all (λ n. false) all (block_listed twice block)) others
