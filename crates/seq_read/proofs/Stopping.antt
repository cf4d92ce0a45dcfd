-- Where expressions stop: the tokens with which no longer expression goes on.
use Rattle.std.proofs.Common.{◌≡◌, Bool, true, false, Option}
use Rattle.seq_tree.specs.Expressions.{Expression, Number, Variable, Paren, Not, Binary}
use Rattle.seq_tree.specs.declared.token.Token.{Token}
use Rattle.seq_read.specs.declared.operators.Class.{Class}
use Rattle.seq_read.specs.declared.operators.Class.TheVariants as class
use Rattle.seq_read.specs.Operators.{begins}
use Rattle.seq_read.proofs.OperatorLaws.{class_of, logical, NoneLogical, is_relational_class}
use Rattle.seq_read.proofs.ChainLaws.{right_of}

-- no operator of its class may follow a term, nor a looser expression one that would go on with it
abbrev pub StopsTerm : Expression → Option Token → Type 0
StopsTerm e o = (begins class.Multiplying o ≡ false) × Unit {0}

abbrev pub StopsSimple : Expression → Option Token → Type 0
StopsSimple e o = (begins class.Adding o ≡ false) × StopsTerm e o

-- whether an expression is a comparison
abbrev pub is_relational : Expression → Bool
is_relational (Number n) = false
is_relational (Variable name) = false
is_relational (Paren e) = false
is_relational (Not e) = false
is_relational (Binary o left right) = is_relational_class (class_of o)

-- a comparison may be followed by a relational operator, since they make no chain
abbrev pub StopsRelation : Expression → Option Token → Type 0
StopsRelation f o = StopsSimple f o × (is_relational f ≡ false → begins class.Relational o ≡ false)

-- whether an expression has a logical operator on top
abbrev pub is_logical : Expression → Bool
is_logical (Number n) = false
is_logical (Variable name) = false
is_logical (Paren e) = false
is_logical (Not e) = false
is_logical (Binary o left right) = logical (class_of o)

-- the class of the operator on top
abbrev pub top_class : Expression → Class
top_class (Number n) = class.Xor
top_class (Variable name) = class.Xor
top_class (Paren e) = class.Xor
top_class (Not e) = class.Xor
top_class (Binary o left right) = class_of o

-- an expression under a logical operator may be followed by another one
abbrev pub StopsAs : Bool → Expression → Option Token → Type 0
StopsAs true f o = (begins (top_class f) o ≡ false) × StopsRelation (right_of f) o
StopsAs false f o = NoneLogical o × StopsRelation f o

-- where an expression stops
abbrev pub StopsWhole : Expression → Option Token → Type 0
StopsWhole f o = StopsAs (is_logical f) f o

-- a token that is no operator stops every expression
abbrev pub NoOperator : Option Token → Type 0
NoOperator o = (c : Class) → begins c o ≡ false

pub stops_relation : (f : Expression) (o : Option Token) → NoOperator o → StopsRelation f o
stops_relation f o h = ((h class.Adding, (h class.Multiplying, tt)), λ out. h class.Relational)

pub stops_whole : (f : Expression) (o : Option Token) → NoOperator o → StopsWhole f o
stops_whole f o h = of (is_logical f) where
  of : (b : Bool) → StopsAs b f o
  of true = (h (top_class f), stops_relation (right_of f) o h)
  of false = ((h class.And, h class.Or, h class.Xor), stops_relation f o h)
