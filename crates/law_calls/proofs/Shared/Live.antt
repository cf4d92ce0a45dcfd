-- The calls of a block that are made at all, outside loops of no turn, are among its calls.
use Rattle.std.specs.Prelude.{◌==◌, Bool, true, false, List, [], ◌∷◌, ◌++◌, if◌then◌else◌}
use Rattle.std.proofs.Common.{inl, inr}
use Rattle.seq_tree.specs.Statements.{Statement, Statements, Branches, Null, Assign, If, For, ExitWhen, Call, Work, Put, End, Then, Nothing}
use Rattle.seq_tree.specs.Statements.{Else, When}
use Rattle.seq_tree.specs.Dearest.{turn_count}
use Rattle.seq_tree.specs.Calls.{statement_calls, block_calls, branch_calls}
use Rattle.seq_tree.specs.declared.tree.OpName.{OpName}
use Rattle.analysis.specs.Sections.{live_statement, live_calls, live_branches}
use Rattle.law_lists.proofs.Shared.Lists.{IsIn, in-left, in-right}

mutual
  statement-live-in : (s : Statement) (x : OpName) → IsIn x (live_statement s) → IsIn x (statement_calls s)
  statement-live-in Null x h = h
  statement-live-in (Assign target v) x h = h
  statement-live-in (If branches) x h = branches-live-in branches x h
  statement-live-in (For name low high body) x h = by (turn_count low high == 0) h (λ k. live-in body x k)
    where
      by : (b : Bool) → IsIn x (if b then [] else live_calls body) → (IsIn x (live_calls body) → IsIn x (block_calls body))
          → IsIn x (block_calls body)
      by true k more = absurd k
      by false k more = more k
  statement-live-in (ExitWhen v) x h = h
  statement-live-in (Call object op actuals) x h = h
  statement-live-in (Work ticks) x h = h
  statement-live-in (Put v) x h = h

  pub live-in : (b : Statements) (x : OpName) → IsIn x (live_calls b) → IsIn x (block_calls b)
  live-in End x h = h
  live-in (Then first rest) x h = split (live_statement first) (λ k. statement-live-in first x k) (λ k. live-in rest x k) h
    where
      split : (ys : List OpName) → (IsIn x ys → IsIn x (statement_calls first)) → (IsIn x (live_calls rest) → IsIn x (block_calls rest))
          → IsIn x (ys ++ live_calls rest) → IsIn x (statement_calls first ++ block_calls rest)
      split [] f g k = in-right x (statement_calls first) (block_calls rest) (g k)
      split (y' ∷ ys) f g (inl e) = in-left x (statement_calls first) (block_calls rest) (f (inl e))
      split (y' ∷ ys) f g (inr k) = split ys (λ q. f (inr q)) g k

  branches-live-in : (b : Branches) (x : OpName) → IsIn x (live_branches b) → IsIn x (branch_calls b)
  branches-live-in Nothing x h = h
  branches-live-in (Else block) x h = live-in block x h
  branches-live-in (When v block others) x h = split (live_calls block) (λ k. live-in block x k) (λ k. branches-live-in others x k) h
    where
      split : (ys : List OpName) → (IsIn x ys → IsIn x (block_calls block)) → (IsIn x (live_branches others) → IsIn x (branch_calls others))
          → IsIn x (ys ++ live_branches others) → IsIn x (block_calls block ++ branch_calls others)
      split [] f g k = in-right x (block_calls block) (branch_calls others) (g k)
      split (y' ∷ ys) f g (inl e) = in-left x (block_calls block) (branch_calls others) (f (inl e))
      split (y' ∷ ys) f g (inr k) = split ys (λ q. f (inr q)) g k
