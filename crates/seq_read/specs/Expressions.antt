-- Reading expressions, one production after another, within limits: so many operators in a chain, so much further nesting.
-- The syntax is that of ISO/IEC 8652:2012, 4.4, cut to this language; operators of one level group to the left.
use Rattle.std.specs.Prelude.{ℕ, zero, suc, Bool, List, codes}
use Rattle.grammar.specs.Reading.{Read, then_at, pure_at, choose_at, pick_at, token_at, deep_at}
use Rattle.seq_tree.specs.Names.{Name}
use Rattle.seq_tree.specs.Expressions.{Expression, Number, Variable, Paren, Not, Binary}
use Rattle.seq_tree.specs.declared.token.Token.{Token}
use Rattle.seq_tree.specs.declared.token.Token.TheVariants as token
use Rattle.seq_tree.specs.declared.token.Mark.TheVariants.{LeftParen, RightParen}
use Rattle.token_read.specs.Readers.{fixed_at, number_at, name_at, next_is, next_is_number}
use Rattle.seq_read.specs.declared.operators.Class.{Class}
use Rattle.seq_read.specs.declared.operators.Class.TheVariants.{Multiplying, Adding, Relational}
use Rattle.seq_read.specs.Operators.{sees_operator, begins, logical_class}

abbrev pub ExpressionReader : Type 0
ExpressionReader = List Token → Read Token Expression

-- an expression in parentheses
unfoldable pub paren_at : ExpressionReader → ExpressionReader
paren_at inner = then_at (fixed_at (token.Sign LeftParen))
    (λ _. then_at inner (λ e. then_at (fixed_at (token.Sign RightParen)) (λ _. pure_at (Paren e))))

-- a number
unfoldable pub literal_at : ExpressionReader
literal_at = then_at number_at (λ n. pure_at (Number n))

-- a variable
unfoldable pub variable_at : (Name → Bool) → ExpressionReader
variable_at is_name = then_at (name_at is_name) (λ name. pure_at (Variable name))

-- a number, a variable, or what is read where a parenthesis opens
unfoldable pub primary_at : (Name → Bool) → ExpressionReader → ExpressionReader
primary_at is_name paren = choose_at (next_is (token.Sign LeftParen)) paren (choose_at next_is_number literal_at (variable_at is_name))

-- `not` and a primary
unfoldable pub inverse_at : (Name → Bool) → ExpressionReader → ExpressionReader
inverse_at is_name paren = then_at (fixed_at (token.Word (codes "not"))) (λ _. then_at (primary_at is_name paren) (λ e. pure_at (Not e)))

-- a primary, or `not` and a primary
unfoldable pub factor_at : (Name → Bool) → ExpressionReader → ExpressionReader
factor_at is_name paren = choose_at (next_is (token.Word (codes "not"))) (inverse_at is_name paren) (primary_at is_name paren)

-- what a chain goes on to behind an expression, by at most so many operators
unfoldable pub chain_at : Class → ExpressionReader → ℕ → Expression → ExpressionReader
chain_at class operand zero e = choose_at (begins class) deep_at (pure_at e)
chain_at class operand (suc most) e =
    choose_at (begins class) (then_at (token_at (sees_operator class)) (λ op. then_at operand (λ f. chain_at class operand most (Binary op e f))))
    (pure_at e)

-- factors
unfoldable pub term_at : (Name → Bool) → ℕ → ExpressionReader → ExpressionReader
term_at is_name most paren = then_at (factor_at is_name paren) (λ e. chain_at Multiplying (factor_at is_name paren) most e)

-- terms
unfoldable pub simple_at : (Name → Bool) → ℕ → ExpressionReader → ExpressionReader
simple_at is_name most paren = then_at (term_at is_name most paren) (λ e. chain_at Adding (term_at is_name most paren) most e)

-- what may follow the first side of a comparison
unfoldable pub comparison_at : (Name → Bool) → ℕ → ExpressionReader → Expression → ExpressionReader
comparison_at is_name most paren e =
    choose_at (begins Relational) (then_at (token_at (sees_operator Relational))
    (λ op. then_at (simple_at is_name most paren) (λ f. pure_at (Binary op e f)))) (pure_at e)

-- a comparison, or one side alone
unfoldable pub relation_at : (Name → Bool) → ℕ → ExpressionReader → ExpressionReader
relation_at is_name most paren = then_at (simple_at is_name most paren) (λ e. comparison_at is_name most paren e)

-- relations under one logical operator
unfoldable pub logic_at : (Name → Bool) → ℕ → ExpressionReader → Expression → ExpressionReader
logic_at is_name most paren e = pick_at logical_class (λ class. chain_at class (relation_at is_name most paren) most e)

-- an expression, by what is read where a parenthesis opens
unfoldable pub whole_expression_at : (Name → Bool) → ℕ → ExpressionReader → ExpressionReader
whole_expression_at is_name most paren = then_at (relation_at is_name most paren) (λ e. logic_at is_name most paren e)

-- an expression inside which parentheses nest at most so deep
unfoldable pub expression_at : (Name → Bool) → ℕ → ℕ → ExpressionReader
expression_at is_name most zero = whole_expression_at is_name most deep_at
expression_at is_name most (suc deeper) = whole_expression_at is_name most (paren_at (expression_at is_name most deeper))
