-- Chains of operators, one operator after another.
use Rattle.std.proofs.Common.{◌≡◌, ℕ, zero, suc, ◌<◌, ◌-◌, Bool, true, false, ◌||◌, cond, List, length, Option, Ok, Err, refl, sym, ap, ◌∙◌}
use Rattle.std.proofs.Common.{arith}
use Rattle.grammar.specs.Reading.{Halt, TooDeep, Read, first, token_at, ◌>>=◌}
use Rattle.seq_tree.specs.Names.{Name}
use Rattle.seq_tree.specs.Expressions.{Expression, Binary}
use Rattle.seq_tree.specs.declared.tree.BinOp.{BinOp}
use Rattle.seq_tree.specs.declared.token.Token.{Token}
use Rattle.seq_read.specs.declared.operators.Class.{Class}
use Rattle.seq_read.specs.declared.operators.Class.TheVariants.{Multiplying, Adding, Relational, And, Or, Xor}
use Rattle.seq_read.specs.Operators.{begins, goes_on, sees_operator, logical_class}
use Rattle.seq_read.specs.Expressions.{ExpressionReader, factor_at, chain_at, term_at, simple_at, comparison_at, relation_at, logic_at}
use Rattle.seq_read.specs.Expressions.{whole_expression_at, expression_at}
use Rattle.seq_read.specs.Levels.{opened_at, operand_at, binary_at, expression_from}

-- the order in which the readers of one depth call one another, by the operators that they read
abbrev pub rank : Class → ℕ
rank Multiplying = 0
rank Adding = 1
rank Relational = 2
rank And = 3
rank Or = 3
rank Xor = 3

-- a chain goes on behind its next operand
regroup : (class : Class) (operand : ExpressionReader) (e : Expression) (n : ℕ) (ops : Read Token BinOp) →
    (ops >>= λ x. operand x.1 >>= λ y. chain_at class operand n (Binary x.0 e y.0) y.1)
    ≡ ((ops >>= λ x. operand x.1 >>= λ y. Ok (Binary x.0 e y.0, y.1)) >>= λ z. chain_at class operand n z.0 z.1)
regroup class operand e n (Err halt) = refl
regroup class operand e n (Ok x) = behind (operand x.1) where
  behind : (q : Read Token Expression) → (q >>= λ y. chain_at class operand n (Binary x.0 e y.0) y.1)
      ≡ ((q >>= λ y. Ok (Binary x.0 e y.0, y.1)) >>= λ z. chain_at class operand n z.0 z.1)
  behind (Ok y) = refl
  behind (Err halt) = refl

chain-next : (class : Class) (operand : ExpressionReader) (n : ℕ) (e : Expression) (ts : List Token) → 0 < n → begins class (first ts) ≡ true →
    chain_at class operand n e ts ≡ (binary_at class operand e ts >>= λ z. chain_at class operand (n - 1) z.0 z.1)
unfolding chain_at
chain-next class operand zero e ts h t = absurd (omega arith)
chain-next class operand (suc n) e ts h t =
    let less : suc n - 1 ≡ n = omega arith in
    rw (t, less) (regroup class operand e n (token_at (sees_operator class) ts))

pub chain-turn : (class : Class) (operand : ExpressionReader) (n : ℕ) (e f : Expression) (ts rest : List Token) → 0 < n
    → begins class (first ts) ≡ true →
    binary_at class operand e ts ≡ Ok (f, rest) → chain_at class operand (n - 1) f rest ≡ chain_at class operand n e ts
chain-turn class operand n e f ts rest h t b
    = sym (chain-next class operand n e ts h t ∙ ap (λ q. q >>= λ z. chain_at class operand (n - 1) z.0 z.1) b)

pub chain-fails : (class : Class) (operand : ExpressionReader) (n : ℕ) (e : Expression) (ts : List Token) (halt : Halt) → 0 < n
    → begins class (first ts) ≡ true →
    binary_at class operand e ts ≡ Err halt → chain_at class operand n e ts ≡ Err halt
chain-fails class operand n e ts halt h t b = chain-next class operand n e ts h t ∙ ap (λ q. q >>= λ z. chain_at class operand (n - 1) z.0 z.1) b

pub chain-full : (class : Class) (operand : ExpressionReader) (n : ℕ) (e : Expression) (ts : List Token) → n ≡ 0 → begins class (first ts) ≡ true →
    chain_at class operand n e ts ≡ Err (TooDeep (length ts))
unfolding chain_at
chain-full class operand zero e ts h t = rw t refl
chain-full class operand (suc n) e ts h t = absurd (omega arith)

pub chain-ends : (class : Class) (operand : ExpressionReader) (n : ℕ) (e : Expression) (ts : List Token) → begins class (first ts) ≡ false
    → chain_at class operand n e ts ≡ Ok (e, ts)
unfolding chain_at
chain-ends class operand zero e ts t = rw t refl
chain-ends class operand (suc n) e ts t = rw t refl

pub ruleset chain_steps = (chain-turn, chain-fails, chain-full, chain-ends)

-- an expression of any depth is one by what is read where a parenthesis opens
expression-whole : (is_name : Name → Bool) (most deeper : ℕ) (ts : List Token)
    → expression_at is_name most deeper ts ≡ whole_expression_at is_name most (opened_at is_name most deeper) ts
unfolding expression_at
expression-whole is_name most zero ts = refl
expression-whole is_name most (suc deeper) ts = refl

-- relations stand between logical operators
logical-operand : (is_name : Name → Bool) (most : ℕ) (paren : ExpressionReader) (o : Option Token)
    → operand_at is_name most paren (logical_class o) ≡ relation_at is_name most paren
unfolding logical_class
logical-operand is_name most paren o = among (begins And o) (begins Or o) where
  among : (a b : Bool) → operand_at is_name most paren (cond a And (cond b Or Xor)) ≡ relation_at is_name most paren
  among true b = refl
  among false true = refl
  among false false = refl

-- the chain of the logical operators that are next
pub logic-chain : (is_name : Name → Bool) (most : ℕ) (paren : ExpressionReader) (e : Expression) (ts : List Token)
    → logic_at is_name most paren e ts ≡ chain_at (logical_class (first ts)) (operand_at is_name most paren (logical_class (first ts))) most e ts
unfolding logic_at
logic-chain is_name most paren e ts = rw (logical-operand is_name most paren (first ts)) refl

pub ruleset logic_steps = (logic-chain)

-- an expression is a factor and what operators make of it
expression-factor : (is_name : Name → Bool) (most deeper : ℕ) (ts : List Token) → expression_at is_name most deeper ts
    ≡ (factor_at is_name (opened_at is_name most deeper) ts >>= λ x. expression_from is_name most (opened_at is_name most deeper) x.0 x.1)
unfolding whole_expression_at relation_at simple_at term_at expression_from
expression-factor is_name most deeper ts = expression-whole is_name most deeper ts ∙ go (factor_at is_name paren ts) where
  paren : ExpressionReader
  paren = opened_at is_name most deeper

  term : Expression → ExpressionReader
  term e = chain_at Multiplying (factor_at is_name paren) most e

  simple : Expression → ExpressionReader
  simple e = chain_at Adding (term_at is_name most paren) most e

  compare : Expression → ExpressionReader
  compare e = comparison_at is_name most paren e

  logic : Expression → ExpressionReader
  logic e = logic_at is_name most paren e

  onward : (q : Read Token Expression) → ((q >>= λ x. simple x.0 x.1) >>= λ x. compare x.0 x.1) >>= (λ x. logic x.0 x.1)
      ≡ (q >>= λ x. simple x.0 x.1 >>= λ y. compare y.0 y.1 >>= λ z. logic z.0 z.1)
  onward (Err halt) = refl
  onward (Ok x) = behind (simple x.0 x.1) where
    behind : (q : Read Token Expression) → (q >>= λ x. compare x.0 x.1) >>= (λ x. logic x.0 x.1)
        ≡ (q >>= λ y. compare y.0 y.1 >>= λ z. logic z.0 z.1)
    behind (Err halt) = refl
    behind (Ok x) = refl

  go : (q : Read Token Expression)
      → (((q >>= λ x. term x.0 x.1) >>= λ x. simple x.0 x.1) >>= λ x. compare x.0 x.1) >>= (λ x. logic x.0 x.1)
      ≡ (q >>= λ x. term x.0 x.1 >>= λ y. simple y.0 y.1 >>= λ z. compare z.0 z.1 >>= λ w. logic w.0 w.1)
  go (Err halt) = refl
  go (Ok x) = onward (term x.0 x.1)

pub expression-goes-on : (is_name : Name → Bool) (most deeper : ℕ) (e : Expression) (ts rest : List Token)
    → factor_at is_name (opened_at is_name most deeper) ts ≡ Ok (e, rest)
    → expression_at is_name most deeper ts ≡ expression_from is_name most (opened_at is_name most deeper) e rest
expression-goes-on is_name most deeper e ts rest h = expression-factor is_name most deeper ts ∙ rw h refl

pub expression-fails : (is_name : Name → Bool) (most deeper : ℕ) (ts : List Token) (halt : Halt)
    → factor_at is_name (opened_at is_name most deeper) ts ≡ Err halt → expression_at is_name most deeper ts ≡ Err halt
expression-fails is_name most deeper ts halt h = expression-factor is_name most deeper ts ∙ rw h refl

-- no class of operators is next where none is
no-class : (a b c d e f : Bool) → (a || b || c || d || e || f) ≡ false
    → (a ≡ false) × (b ≡ false) × (c ≡ false) × (d ≡ false) × (e ≡ false) × (f ≡ false)
no-class false false false false false false h = (refl, refl, refl, refl, refl, refl)
no-class true b c d e f h = absurd cc
no-class false true c d e f h = absurd cc
no-class false false true d e f h = absurd cc
no-class false false false true e f h = absurd cc
no-class false false false false true f h = absurd cc
no-class false false false false false true h = absurd cc

no-logical : (o : Option Token) (a b : Bool) → a ≡ false → b ≡ false → begins Xor o ≡ false → begins (cond a And (cond b Or Xor)) o ≡ false
no-logical o true b h i x = absurd cc
no-logical o false true h i x = absurd cc
no-logical o false false h i x = x

logic-alone : (is_name : Name → Bool) (most : ℕ) (paren : ExpressionReader) (e : Expression) (ts : List Token) → begins And (first ts) ≡ false
    → begins Or (first ts) ≡ false → begins Xor (first ts) ≡ false → logic_at is_name most paren e ts ≡ Ok (e, ts)
unfolding logical_class
logic-alone is_name most paren e ts a o x =
    logic-chain is_name most paren e ts ∙ chain-ends (logical_class (first ts)) (operand_at is_name most paren (logical_class (first ts))) most e ts
    (no-logical (first ts) (begins And (first ts)) (begins Or (first ts)) a o x)

-- a factor alone
alone : (is_name : Name → Bool) (most : ℕ) (paren : ExpressionReader) (e : Expression) (ts : List Token) → goes_on (first ts) ≡ false
    → expression_from is_name most paren e ts ≡ Ok (e, ts)
unfolding expression_from comparison_at
alone is_name most paren e ts h =
    let none = no-class (begins Multiplying (first ts)) (begins Adding (first ts)) (begins Relational (first ts)) (begins And (first ts))
    (begins Or (first ts)) (begins Xor (first ts)) h in
    rw (
      chain-ends Multiplying (factor_at is_name paren) most e ts none.0,
      chain-ends Adding (term_at is_name most paren) most e ts none.1,
      none.2,
    ) (logic-alone is_name most paren e ts none.3 none.4 none.5)

pub expression-alone : (is_name : Name → Bool) (most deeper : ℕ) (e : Expression) (ts rest : List Token)
    → factor_at is_name (opened_at is_name most deeper) ts ≡ Ok (e, rest) → goes_on (first rest) ≡ false
    → expression_at is_name most deeper ts ≡ Ok (e, rest)
expression-alone is_name most deeper e ts rest h n =
    expression-goes-on is_name most deeper e ts rest h ∙ alone is_name most (opened_at is_name most deeper) e rest n

pub ruleset expression_steps = (expression-goes-on, expression-fails, expression-alone)
