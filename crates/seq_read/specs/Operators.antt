-- The operators by their classes, and how they are written. The operators of one class may stand in one chain.
-- The levels are those of ISO/IEC 8652:2012, 4.4 and 4.5; the logical operators don't mix.
use Rattle.std.specs.Prelude.{Bool, ◌||◌, List, [], ◌∷◌, Option, Some, None, is_some, codes, if◌then◌else◌}
use Rattle.seq_tree.specs.declared.tree.BinOp.{BinOp}
use Rattle.seq_tree.specs.declared.tree.BinOp.TheVariants as op
use Rattle.seq_tree.specs.declared.token.Token.{Token}
use Rattle.seq_tree.specs.declared.token.Token.TheVariants.{Word, Sign}
use Rattle.seq_tree.specs.declared.token.Mark.TheVariants as mark
use Rattle.token_read.specs.Words.{same_token}
use Rattle.seq_read.specs.declared.operators.Class.{Class}
use Rattle.seq_read.specs.declared.operators.Class.TheVariants.{Multiplying, Adding, Relational, And, Or, Xor}

-- an operator and its token
pub record Written : Type 0 where
  pub token : Token
  pub op : BinOp

abbrev pub written : Token → BinOp → Written
written t o = record { token = t; op = o }

-- the operators of a class
abbrev pub operators : Class → List Written
operators Multiplying = written (Sign mark.Star) op.Mul ∷ written (Sign mark.Slash) op.Div ∷ written (Word (codes "mod")) op.Mod ∷ []
operators Adding = written (Sign mark.Plus) op.Add ∷ written (Sign mark.Minus) op.Sub ∷ []
operators Relational =
    written (Sign mark.Equal) op.Eq ∷ written (Sign mark.NotEqual) op.Ne ∷ written (Sign mark.Less) op.Lt ∷ written (Sign mark.LessEqual) op.Le
    ∷ written (Sign mark.Greater) op.Gt ∷ written (Sign mark.GreaterEqual) op.Ge ∷ []
operators And = written (Word (codes "and")) op.And ∷ []
operators Or = written (Word (codes "or")) op.Or ∷ []
operators Xor = written (Word (codes "xor")) op.Xor ∷ []

-- the operator that is written so
abbrev pub sees_among : List Written → Token → Option BinOp
sees_among [] t = None
sees_among (w ∷ ws) t = if same_token t w.token then Some w.op else sees_among ws t

-- the operator of a class that a token is
unfoldable pub sees_operator : Class → Token → Option BinOp
sees_operator class t = sees_among (operators class) t

-- the operator of a class that is next
abbrev pub next_operator : Class → Option Token → Option BinOp
next_operator class None = None
next_operator class (Some t) = sees_operator class t

-- whether an operator of a class is next
abbrev pub begins : Class → Option Token → Bool
begins class o = is_some (next_operator class o)

-- whether an operator of any class is next
abbrev pub goes_on : Option Token → Bool
goes_on o = begins Multiplying o || begins Adding o || begins Relational o || begins And o || begins Or o || begins Xor o

-- the class of logical operators that is next, where one is
unfoldable pub logical_class : Option Token → Class
logical_class o = if begins And o then And else if begins Or o then Or else Xor
