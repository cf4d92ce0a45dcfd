-- The operands of chains, by the class of the operators between them, and what is read where a parenthesis opens.
-- The levels are those of ISO/IEC 8652:2012, 4.4.
use Rattle.std.specs.Prelude.{ℕ, zero, suc, Bool}
use Rattle.grammar.specs.Reading.{then_at, pure_at, token_at, deep_at}
use Rattle.seq_tree.specs.Names.{Name}
use Rattle.seq_tree.specs.Expressions.{Expression, Binary}
use Rattle.seq_read.specs.declared.operators.Class.{Class}
use Rattle.seq_read.specs.declared.operators.Class.TheVariants.{Multiplying, Adding, Relational, And, Or, Xor}
use Rattle.seq_read.specs.Operators.{sees_operator}
use Rattle.seq_read.specs.Expressions.{ExpressionReader, paren_at, factor_at, chain_at, term_at, simple_at, comparison_at, relation_at, logic_at}
use Rattle.seq_read.specs.Expressions.{expression_at}

-- an expression in parentheses inside which they nest less deep than so
abbrev pub opened_at : (Name → Bool) → ℕ → ℕ → ExpressionReader
opened_at is_name most zero = deep_at
opened_at is_name most (suc deeper) = paren_at (expression_at is_name most deeper)

-- what stands between operators of a class
abbrev pub operand_at : (Name → Bool) → ℕ → ExpressionReader → Class → ExpressionReader
operand_at is_name most paren Multiplying = factor_at is_name paren
operand_at is_name most paren Adding = term_at is_name most paren
operand_at is_name most paren Relational = simple_at is_name most paren
operand_at is_name most paren And = relation_at is_name most paren
operand_at is_name most paren Or = relation_at is_name most paren
operand_at is_name most paren Xor = relation_at is_name most paren

-- an operator of a class behind its left side, and its right side
abbrev pub binary_at : Class → ExpressionReader → Expression → ExpressionReader
binary_at class operand e = then_at (token_at (sees_operator class)) (λ op. then_at operand (λ f. pure_at (Binary op e f)))

-- what operators of all classes make of a first factor
unfoldable pub expression_from : (Name → Bool) → ℕ → ExpressionReader → Expression → ExpressionReader
expression_from is_name most paren e =
    then_at (chain_at Multiplying (factor_at is_name paren) most e)
    (λ f. then_at (chain_at Adding (term_at is_name most paren) most f)
    (λ g. then_at (comparison_at is_name most paren g) (λ h. logic_at is_name most paren h)))
