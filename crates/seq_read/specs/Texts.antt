-- Blocks and expressions by themselves, as texts at a nesting: within the limits of nesting and chains, or without them.
-- The limits are this project's own.
use Rattle.std.specs.Prelude.{◌≡◌, ℕ, List}
use Rattle.seq_tree.specs.Expressions.{Expression}
use Rattle.seq_tree.specs.Statements.{Statements}
use Rattle.seq_tree.specs.Spelling.{expression_tokens, block_tokens}
use Rattle.seq_tree.specs.Proper.{IsProperExpression, IsProperBlock, is_block_name, within_limits, without_limits}
use Rattle.seq_tree.specs.declared.token.Token.{Token}

-- a block at a nesting, within the limits, with its tokens
abbrev pub IsBlockText : ℕ → Statements → List Token → Type 0
IsBlockText depth b ts = IsProperBlock (within_limits is_block_name) depth b × (ts ≡ block_tokens b)

-- the tokens of some block within the limits
abbrev pub SomeBlock : ℕ → List Token → Type 0
SomeBlock depth ts = (b : Statements) × IsBlockText depth b ts

-- the tokens of some block without them
abbrev pub AnyBlock : ℕ → List Token → Type 0
AnyBlock depth ts = (b : Statements) × IsProperBlock (without_limits is_block_name) depth b × (ts ≡ block_tokens b)

-- an expression at a nesting, within the limits, with its tokens
abbrev pub IsExpressionText : ℕ → Expression → List Token → Type 0
IsExpressionText depth e ts = IsProperExpression (within_limits is_block_name) depth e × (ts ≡ expression_tokens e)

-- the tokens of some expression within the limits
abbrev pub SomeExpression : ℕ → List Token → Type 0
SomeExpression depth ts = (e : Expression) × IsExpressionText depth e ts

-- the tokens of some expression without them
abbrev pub AnyExpression : ℕ → List Token → Type 0
AnyExpression depth ts = (e : Expression) × IsProperExpression (without_limits is_block_name) depth e × (ts ≡ expression_tokens e)
