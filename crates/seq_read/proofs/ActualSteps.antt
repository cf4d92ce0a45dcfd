-- Reading actuals, one after another.
use Rattle.std.proofs.Common.{◌≡◌, ℕ, Bool, List, [], ◌∷◌, Ok, refl}
use Rattle.grammar.specs.Reading.{Read, then_at, pure_at}
use Rattle.seq_tree.specs.Names.{Name}
use Rattle.seq_tree.specs.Expressions.{Expression}
use Rattle.seq_tree.specs.declared.token.Token.{Token}
use Rattle.seq_tree.specs.declared.token.Token.TheVariants as token
use Rattle.seq_tree.specs.declared.token.Mark.TheVariants.{LeftParen, RightParen, Comma}
use Rattle.token_read.specs.Readers.{fixed_at, next_is}
use Rattle.seq_read.specs.Expressions.{ExpressionReader, expression_at}
use Rattle.seq_read.specs.Statements.{further_at, list_at}
use Rattle.seq_read.proofs.Shared.Takes.{Takes}
use Rattle.seq_read.proofs.Shared.Turns.{onward, onward-fails, onward-ends}
use Rattle.seq_read.proofs.Shared.TokenTakes.{takes-expression, takes-further}

-- what follows the last actual
abbrev pub close_list : List Expression → List Token → Read Token (List Expression)
close_list es = then_at (fixed_at (token.Sign RightParen)) (λ _. pure_at es)

-- the actuals so far, and those that are left
abbrev pub actuals_after : ExpressionReader → List Expression → List Token → Read Token (List Expression)
actuals_after expression = onward (next_is (token.Sign Comma)) (further_at expression) close_list

pub list-start : (expression : ExpressionReader) (ts us rest : List Token) (e : Expression) → fixed_at (token.Sign LeftParen) ts ≡ Ok (tt, us)
    → expression us ≡ Ok (e, rest) →
    actuals_after expression (e ∷ []) rest ≡ list_at expression ts
unfolding list_at onward
list-start expression ts us rest e h g = rw (h, g) refl

pub further-takes : (is_name : Name → Bool) (most deeper : ℕ) → Takes 1 (further_at (expression_at is_name most deeper))
further-takes is_name most deeper = takes-further (expression_at is_name most deeper) (takes-expression is_name most deeper)

pub ruleset actual_steps = (list-start, onward-fails, onward-ends)
