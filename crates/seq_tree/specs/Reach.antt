-- How far a list of tokens goes as the beginning of a text, and the fault that is told where it is none.
-- The texts are given by what is a text without the limits of nesting and chains, and by what is one within them.
use Rattle.std.specs.Prelude.{ℕ, ◌≤◌, ◌<◌, List, ◌++◌, length, take}
use Rattle.seq_tree.specs.declared.token.Token.{Token}

-- tokens that begin some text
abbrev pub Begins : (List Token → Type 0) → List Token → Type 0
Begins Text tokens = (more : List Token) × Text (tokens ++ more)

-- the greatest number of tokens from the front that begin some text
pub record IsReach (Text : List Token → Type 0) (tokens : List Token) (reach : ℕ) : Type 0 where
  pub within : reach ≤ length tokens
  pub begins : Begins Text (take reach tokens)
  pub greatest : (n : ℕ) → n ≤ length tokens → Begins Text (take n tokens) → n ≤ reach

-- a fault of syntax: the tokens are no text, the first at which no text goes on is told, and up to it the limits are kept
pub record IsSyntaxFault (Text Limited : List Token → Type 0) (tokens : List Token) (place : ℕ) : Type 0 where
  pub reach : IsReach Text tokens place
  pub limited : IsReach Limited tokens place
  pub none : Text tokens → ⊥

-- a fault of depth: the token with which texts go on, but none within the limits
pub record IsDepthFault (Text Limited : List Token → Type 0) (tokens : List Token) (place : ℕ) : Type 0 where
  pub reach : IsReach Limited tokens place
  pub goes_on : (further : ℕ) × IsReach Text tokens further × (place < further)

-- what is wrong with tokens that are no text within the limits, and at which of them it is told
pub data Fault : Type 0 where
  Syntax : (place : ℕ) → Fault
  TooDeep : (place : ℕ) → Fault

-- the fault of tokens: by uniqueness of reaches at most one is told
abbrev pub IsFault : (List Token → Type 0) → (List Token → Type 0) → List Token → Fault → Type 0
IsFault Text Limited tokens (Syntax place) = IsSyntaxFault Text Limited tokens place
IsFault Text Limited tokens (TooDeep place) = IsDepthFault Text Limited tokens place
