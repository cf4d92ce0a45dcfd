-- The longest front of a list of tokens that is a text, and the fault that is told where the tokens go further than any such front.
-- The texts are given by what is a text without the limits of nesting and chains, and by what is one within them.
use Rattle.std.specs.Prelude.{ℕ, List, take}
use Rattle.seq_tree.specs.Reach.{IsReach, IsDepthFault, Fault, Syntax, TooDeep}
use Rattle.seq_tree.specs.declared.token.Token.{Token}

-- so many tokens go on as a text, they are one, and they keep the limits
pub record IsLongest (Text Limited : List Token → Type 0) (tokens : List Token) (place : ℕ) : Type 0 where
  pub reach : IsReach Text tokens place
  pub limited : Limited (take place tokens)

-- the first token with which no text goes on, where those before it are none themselves and keep the limits up to it
pub record IsFrontSyntaxFault (Text Limited : List Token → Type 0) (tokens : List Token) (place : ℕ) : Type 0 where
  pub reach : IsReach Text tokens place
  pub limited : IsReach Limited tokens place
  pub none : Text (take place tokens) → ⊥

-- the fault of a front: by uniqueness of reaches at most one is told
abbrev pub IsFrontFault : (List Token → Type 0) → (List Token → Type 0) → List Token → Fault → Type 0
IsFrontFault Text Limited tokens (Syntax place) = IsFrontSyntaxFault Text Limited tokens place
IsFrontFault Text Limited tokens (TooDeep place) = IsDepthFault Text Limited tokens place
