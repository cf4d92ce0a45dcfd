-- The cost of a block, where its callees have what each call of it costs by another account, is the cost by that account.
use Rattle.std.proofs.Common.{◌≡◌, ℕ, ◌+◌, List, [], ◌∷◌, ◌++◌, refl, ap}
use Rattle.seq_tree.specs.Names.{Name}
use Rattle.seq_tree.specs.Lists.{Each}
use Rattle.seq_tree.specs.Statements.{Statement, Statements, Branches, Null, Assign, If, For, ExitWhen, Call, Work, Put, End, Then, Nothing}
use Rattle.seq_tree.specs.Statements.{Else, When}
use Rattle.seq_tree.specs.Calls.{statement_calls, block_calls, branch_calls}
use Rattle.seq_tree.specs.Dearest.{Weights, dearest_statement, dearest, dearest_branch}
use Rattle.seq_tree.specs.declared.tree.Costs.{Costs}
use Rattle.seq_tree.specs.declared.tree.OpName.{OpName}

each-left : (P : OpName → Type 0) (cs ds : List OpName) → Each P (cs ++ ds) → Each P cs
each-left P [] ds h = tt
each-left P (c ∷ cs) ds h = (h.0, each-left P cs ds h.1)

each-right : (P : OpName → Type 0) (cs ds : List OpName) → Each P (cs ++ ds) → Each P ds
each-right P [] ds h = h
each-right P (c ∷ cs) ds h = each-right P cs ds h.1

-- what holds of every operation holds of those of a list
pub each-all : (P : OpName → Type 0) → ((c : OpName) → P c) → (cs : List OpName) → Each P cs
each-all P all [] = tt
each-all P all (c ∷ cs) = (all c, each-all P all cs)

module _ (costs : Costs) (work : ℕ → ℕ) (f g : Name → Name → ℕ) where
  abbrev v : Weights
  v = record { costs = costs; work = work; called = f }

  abbrev w : Weights
  w = record { costs = costs; work = work; called = g }

  abbrev Same : OpName → Type 0
  Same c = f c.object c.op ≡ g c.object c.op

  mutual
    statement-same : (s : Statement) → Each Same (statement_calls s) → dearest_statement v s ≡ dearest_statement w s
    statement-same Null same = refl
    statement-same (Assign target e) same = refl
    statement-same (If branches) same = branches-same branches same
    statement-same (For name low high body) same = rw (block-same body same) refl
    statement-same (ExitWhen condition) same = refl
    statement-same (Call object op actuals) same = ap (λ n. costs.call + n) same.0
    statement-same (Work ticks) same = refl
    statement-same (Put e) same = refl

    -- where two accounts agree on each call of a block, they agree on the block
    pub block-same : (b : Statements) → Each Same (block_calls b) → dearest v b ≡ dearest w b
    block-same End same = refl
    block-same (Then first rest) same =
        rw (
          statement-same first (each-left Same (statement_calls first) (block_calls rest) same),
          block-same rest (each-right Same
              (statement_calls first) (block_calls rest) same),
        ) refl

    branches-same : (b : Branches) → Each Same (branch_calls b) → dearest_branch v b ≡ dearest_branch w b
    branches-same Nothing same = refl
    branches-same (Else block) same = block-same block same
    branches-same (When condition block others) same =
        rw (
          block-same block (each-left Same (block_calls block) (branch_calls others) same),
          branches-same others (each-right Same
              (block_calls block) (branch_calls others) same),
        ) refl
