-- A block whose `work` is changed calls what it called, and weighs what it weighed with its `work` so changed.
use Rattle.std.proofs.Common.{◌≡◌, ◌≤◌, ℕ, ◌+◌, ◌*◌, List, [], ◌++◌, refl, ap, arith, ◌∙◌, le_refl}
use Rattle.std.specs.Prelude.{max, if◌then◌else◌, ◌==◌}
use Rattle.seq_tree.specs.Names.{Name}
use Rattle.seq_tree.specs.Statements.{Statement, Statements, Branches, Null, Assign, If, For, ExitWhen, Call, Work, Put, End, Then, Nothing}
use Rattle.seq_tree.specs.Statements.{Else, When}
use Rattle.seq_tree.specs.Calls.{statement_calls, block_calls, branch_calls}
use Rattle.seq_tree.specs.Dearest.{Weights, turn_count, dearest_statement, dearest, dearest_branch}
use Rattle.seq_tree.specs.declared.tree.Costs.{Costs}
use Rattle.ods_tree.specs.Sound.{counted_statement, counted_calls, counted_branches}
use Rattle.analysis.specs.Sections.{live_statement, live_calls, live_branches}
use Rattle.law_scaling.specs.Working.{reworked_statement, reworked_block, reworked_branches}

join : {A : Type 0} (xs ys us vs : List A) → xs ≡ us → ys ≡ vs → xs ++ ys ≡ us ++ vs
join xs ys us vs e h = ap (λ z. z ++ ys) e ∙ ap (λ z. us ++ z) h

module _ (w : ℕ → ℕ) where
  mutual
    statement-calls : (s : Statement) → statement_calls (reworked_statement w s) ≡ statement_calls s
    statement-calls Null = refl
    statement-calls (Assign target v) = refl
    statement-calls (If branches) = branches-calls branches
    statement-calls (For name low high body) = block-calls body
    statement-calls (ExitWhen v) = refl
    statement-calls (Call object op actuals) = refl
    statement-calls (Work ticks) = refl
    statement-calls (Put v) = refl

    -- the calls of such a block
    pub block-calls : (b : Statements) → block_calls (reworked_block w b) ≡ block_calls b
    block-calls End = refl
    block-calls (Then first rest) = join _ _ _ _ (statement-calls first) (block-calls rest)

    branches-calls : (b : Branches) → branch_calls (reworked_branches w b) ≡ branch_calls b
    branches-calls Nothing = refl
    branches-calls (Else block) = block-calls block
    branches-calls (When v block others) = join _ _ _ _ (block-calls block) (branches-calls others)

  mutual
    statement-live : (s : Statement) → live_statement (reworked_statement w s) ≡ live_statement s
    statement-live Null = refl
    statement-live (Assign target v) = refl
    statement-live (If branches) = branches-live branches
    statement-live (For name low high body) = ap (λ z. if turn_count low high == 0 then [] else z) (block-live body)
    statement-live (ExitWhen v) = refl
    statement-live (Call object op actuals) = refl
    statement-live (Work ticks) = refl
    statement-live (Put v) = refl

    -- those outside loops of no turn
    pub block-live : (b : Statements) → live_calls (reworked_block w b) ≡ live_calls b
    block-live End = refl
    block-live (Then first rest) = join _ _ _ _ (statement-live first) (block-live rest)

    branches-live : (b : Branches) → live_branches (reworked_branches w b) ≡ live_branches b
    branches-live Nothing = refl
    branches-live (Else block) = block-live block
    branches-live (When v block others) = join _ _ _ _ (block-live block) (branches-live others)

  mutual
    statement-counted : (s : Statement) → counted_statement (reworked_statement w s) ≡ counted_statement s
    statement-counted Null = refl
    statement-counted (Assign target v) = refl
    statement-counted (If branches) = branches-counted branches
    statement-counted (For name low high body) = block-counted body
    statement-counted (ExitWhen v) = refl
    statement-counted (Call object op actuals) = refl
    statement-counted (Work ticks) = refl
    statement-counted (Put v) = refl

    -- those with the numbers of their actuals
    pub block-counted : (b : Statements) → counted_calls (reworked_block w b) ≡ counted_calls b
    block-counted End = refl
    block-counted (Then first rest) = join _ _ _ _ (statement-counted first) (block-counted rest)

    branches-counted : (b : Branches) → counted_branches (reworked_branches w b) ≡ counted_branches b
    branches-counted Nothing = refl
    branches-counted (Else block) = block-counted block
    branches-counted (When v block others) = join _ _ _ _ (block-counted block) (branches-counted others)

mutual
  statement-same : (s : Statement) → reworked_statement (λ n. n) s ≡ s
  statement-same Null = refl
  statement-same (Assign target v) = refl
  statement-same (If branches) = ap If (branches-same branches)
  statement-same (For name low high body) = ap (For name low high) (block-same body)
  statement-same (ExitWhen v) = refl
  statement-same (Call object op actuals) = refl
  statement-same (Work ticks) = refl
  statement-same (Put v) = refl

  -- a block whose `work` is as it was is the same
  pub block-same : (b : Statements) → reworked_block (λ n. n) b ≡ b
  block-same End = refl
  block-same (Then first rest) = ap (λ s. Then s (reworked_block (λ n. n) rest)) (statement-same first) ∙ ap (Then first) (block-same rest)

  branches-same : (b : Branches) → reworked_branches (λ n. n) b ≡ b
  branches-same Nothing = refl
  branches-same (Else block) = ap Else (block-same block)
  branches-same (When v block others) = ap (λ s. When v s (reworked_branches (λ n. n) others)) (block-same block) ∙ ap (When v block)
      (branches-same others)

-- weights with these numbers for `work` and for calls
abbrev pub weights : Costs → (ℕ → ℕ) → (Name → Name → ℕ) → Weights
weights costs work called = record { costs = costs; work = work; called = called }

-- such a block weighs as much as the block where `work` weighs what it is changed to
module _ (c : ℕ → ℕ) (costs : Costs) (work : ℕ → ℕ) (called : Name → Name → ℕ) where
  abbrev v : Weights
  v = weights costs work called

  abbrev w : Weights
  w = weights costs (λ ticks. work (c ticks)) called

  mutual
    statement-weighs : (s : Statement) → dearest_statement v (reworked_statement c s) ≡ dearest_statement w s
    statement-weighs Null = refl
    statement-weighs (Assign target e) = refl
    statement-weighs (If branches) = branches-weigh branches
    statement-weighs (For name low high body) = ap (λ n. turn_count low high * (costs.turn + n)) (block-weighs body)
    statement-weighs (ExitWhen e) = refl
    statement-weighs (Call object op actuals) = refl
    statement-weighs (Work ticks) = refl
    statement-weighs (Put e) = refl

    pub block-weighs : (b : Statements) → dearest v (reworked_block c b) ≡ dearest w b
    block-weighs End = refl
    block-weighs (Then first rest) = ap (λ n. n + dearest v (reworked_block c rest)) (statement-weighs first)
        ∙ ap (λ n. dearest_statement w first + n) (block-weighs rest)

    branches-weigh : (b : Branches) → dearest_branch v (reworked_branches c b) ≡ dearest_branch w b
    branches-weigh Nothing = refl
    branches-weigh (Else block) = block-weighs block
    branches-weigh (When e block others) = ap (λ n. costs.test + max n (dearest_branch v (reworked_branches c others))) (block-weighs block)
        ∙ ap (λ n. costs.test + max (dearest w block) n) (branches-weigh others)

times-more : (k m a b : ℕ) → a ≤ b → k * (m + a) ≤ k * (m + b)
times-more k m a b h = grind (arith, h)

-- a block weighs no less where `work` and calls weigh no less
module _ (costs : Costs) (v w : ℕ → ℕ) (f g : Name → Name → ℕ) (works : (n : ℕ) → v n ≤ w n)
    (calls : (object op : Name) → f object op ≤ g object op) where
  abbrev lower : Weights
  lower = weights costs v f

  abbrev upper : Weights
  upper = weights costs w g

  mutual
    statement-grows : (s : Statement) → dearest_statement lower s ≤ dearest_statement upper s
    statement-grows Null = le_refl costs.nothing
    statement-grows (Assign target e) = le_refl costs.assign
    statement-grows (If branches) = branches-grow branches
    statement-grows (For name low high body)
        = times-more (turn_count low high) costs.turn (dearest lower body) (dearest upper body) (block-grows body)
    statement-grows (ExitWhen e) = le_refl costs.test
    statement-grows (Call object op actuals) = let one : f object op ≤ g object op = calls object op in omega (arith, one)
    statement-grows (Work ticks) = works ticks
    statement-grows (Put e) = le_refl costs.put

    pub block-grows : (b : Statements) → dearest lower b ≤ dearest upper b
    block-grows End = le_refl 0
    block-grows (Then first rest) = omega (arith, statement-grows first, block-grows rest)

    branches-grow : (b : Branches) → dearest_branch lower b ≤ dearest_branch upper b
    branches-grow Nothing = le_refl 0
    branches-grow (Else block) = block-grows block
    branches-grow (When e block others) = omega (arith, block-grows block, branches-grow others)
