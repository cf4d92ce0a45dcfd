-- What is counted along the dearest path of a block depends on what its calls count alone, and rises with it.
use Rattle.std.specs.Prelude.{◌≡◌, ℕ, ◌+◌, ◌*◌, ◌≤◌, refl}
use Rattle.std.proofs.Common.{arith, inl, le_refl}
use Rattle.seq_tree.specs.Names.{Name}
use Rattle.seq_tree.specs.Statements.{Statement, Statements, Branches, Null, Assign, If, For, ExitWhen, Call, Work, Put, End, Then, Nothing}
use Rattle.seq_tree.specs.Statements.{Else, When}
use Rattle.seq_tree.specs.Calls.{statement_calls, block_calls, branch_calls}
use Rattle.seq_tree.specs.Dearest.{Weights, turn_count, dearest_statement, dearest, dearest_branch, free, counted}
use Rattle.seq_tree.specs.declared.tree.Costs.{Costs}
use Rattle.seq_tree.specs.declared.tree.OpName.{OpName}
use Rattle.law_lists.proofs.Shared.Lists.{IsIn, in-left, in-right}

-- weights in which calls count this much
abbrev pub weights : Costs → (ℕ → ℕ) → (Name → Name → ℕ) → Weights
weights costs work called = record { costs = costs; work = work; called = called }

-- weights in which only calls count
abbrev pub counting : (Name → Name → ℕ) → Weights
counting called = weights free (λ ticks. 0) called

times-more : (k m a b : ℕ) → a ≤ b → k * (m + a) ≤ k * (m + b)
times-more k m a b h = grind (arith, h)

-- where each call of a block counts at most as much, so does the block
module _ (costs : Costs) (work : ℕ → ℕ) (f g : Name → Name → ℕ) where
  abbrev v : Weights
  v = weights costs work f

  abbrev w : Weights
  w = weights costs work g

  mutual
    statement-less : (s : Statement) → ((c : OpName) → IsIn c (statement_calls s) → f c.object c.op ≤ g c.object c.op)
        → dearest_statement v s ≤ dearest_statement w s
    statement-less Null less = le_refl costs.nothing
    statement-less (Assign target e) less = le_refl costs.assign
    statement-less (If branches) less = branches-less branches less
    statement-less (For name low high body) less
        = times-more (turn_count low high) costs.turn (dearest v body) (dearest w body) (block-less body less)
    statement-less (ExitWhen condition) less = le_refl costs.test
    statement-less (Call object op actuals) less = let one : f object op ≤ g object op = less (record { object = object; op = op }) (inl refl)
        in omega (arith, one)
    statement-less (Work ticks) less = le_refl (work ticks)
    statement-less (Put e) less = le_refl costs.put

    pub block-less : (b : Statements) → ((c : OpName) → IsIn c (block_calls b) → f c.object c.op ≤ g c.object c.op) → dearest v b ≤ dearest w b
    block-less End less = le_refl 0
    block-less (Then first rest) less =
        omega (
          arith,
          statement-less first (λ c h. less c (in-left c (statement_calls first) (block_calls rest) h)),
          block-less rest (λ c h. less c (in-right c (statement_calls first) (block_calls rest) h)),
        )

    branches-less : (b : Branches) → ((c : OpName) → IsIn c (branch_calls b) → f c.object c.op ≤ g c.object c.op)
        → dearest_branch v b ≤ dearest_branch w b
    branches-less Nothing less = le_refl 0
    branches-less (Else block) less = block-less block less
    branches-less (When condition block others) less =
        omega (
          arith,
          block-less block (λ c h. less c (in-left c (block_calls block) (branch_calls others) h)),
          branches-less others (λ c h. less c (in-right c (block_calls block) (branch_calls others) h)),
        )

-- where each call counts as much, so does the block
pub block-same : (costs : Costs) (work : ℕ → ℕ) (f g : Name → Name → ℕ) (b : Statements)
    → ((c : OpName) → IsIn c (block_calls b) → f c.object c.op ≡ g c.object c.op)
    → dearest (weights costs work f) b ≡ dearest (weights costs work g) b
block-same costs work f g b same =
    let up = block-less costs work f g b (λ c h. let e : f c.object c.op ≡ g c.object c.op = same c h in omega (arith, e)) in
    let down = block-less costs work g f b (λ c h. let e : f c.object c.op ≡ g c.object c.op = same c h in omega (arith, e)) in
    omega (arith, up, down)

-- where only calls count, a block counts nothing whose calls count nothing
times-none : (k a : ℕ) → a ≡ 0 → k * (0 + a) ≡ 0
times-none k a h = grind (arith, h)

module _ (f : Name → Name → ℕ) where
  mutual
    statement-none : (s : Statement) → ((c : OpName) → IsIn c (statement_calls s) → f c.object c.op ≡ 0) → dearest_statement (counting f) s ≡ 0
    statement-none Null none = refl
    statement-none (Assign target e) none = refl
    statement-none (If branches) none = branches-none branches none
    statement-none (For name low high body) none = times-none (turn_count low high) (counted f body) (count-none body none)
    statement-none (ExitWhen condition) none = refl
    statement-none (Call object op actuals) none = let zero : f object op ≡ 0 = none (record { object = object; op = op }) (inl refl)
        in omega (arith, zero)
    statement-none (Work ticks) none = refl
    statement-none (Put e) none = refl

    pub count-none : (b : Statements) → ((c : OpName) → IsIn c (block_calls b) → f c.object c.op ≡ 0) → counted f b ≡ 0
    count-none End none = refl
    count-none (Then first rest) none =
        omega (
          arith,
          statement-none first (λ c h. none c (in-left c (statement_calls first) (block_calls rest) h)),
          count-none rest (λ c h. none c (in-right c (statement_calls first) (block_calls rest) h)),
        )

    branches-none : (b : Branches) → ((c : OpName) → IsIn c (branch_calls b) → f c.object c.op ≡ 0) → dearest_branch (counting f) b ≡ 0
    branches-none Nothing none = refl
    branches-none (Else block) none = count-none block none
    branches-none (When condition block others) none =
        omega (
          arith,
          count-none block (λ c h. none c (in-left c (block_calls block) (branch_calls others) h)),
          branches-none others (λ c h. none c (in-right c (block_calls block) (branch_calls others) h)),
        )
