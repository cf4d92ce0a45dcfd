-- Tokens have at most one fault: a reach is one number, and a fault of depth stands before the fault of syntax.
use Rattle.std.proofs.Common.{◌≡◌, ◌≤◌, ℕ, List, ap, arith}
use Rattle.seq_tree.specs.declared.token.Token.{Token}
use Rattle.seq_tree.specs.Reach.{IsReach, Fault, Syntax, TooDeep, IsFault}

-- a reach is one number
one_reach : (Text : List Token → Type 0) (tokens : List Token) (a b : ℕ) → IsReach Text tokens a → IsReach Text tokens b → a ≡ b
one_reach Text tokens a b r q = let up : a ≤ b = q.greatest a r.within r.begins in let down : b ≤ a = r.greatest b q.within q.begins in omega arith

-- and so is a fault
pub one_fault : (Text Limited : List Token → Type 0) (tokens : List Token) (a b : Fault) → IsFault Text Limited tokens a
    → IsFault Text Limited tokens b → a ≡ b
one_fault Text Limited tokens (Syntax a) (Syntax b) f g = ap Syntax (one_reach Text tokens a b f.reach g.reach)
one_fault Text Limited tokens (TooDeep a) (TooDeep b) f g = ap TooDeep (one_reach Limited tokens a b f.reach g.reach)
one_fault Text Limited tokens (Syntax a) (TooDeep b) f g =
    let same : a ≡ b = one_reach Limited tokens a b f.limited g.reach in
    let further : a ≡ g.goes_on.0 = one_reach Text tokens a g.goes_on.0 f.reach g.goes_on.1 in
    let more = g.goes_on.2 in absurd (omega arith)
one_fault Text Limited tokens (TooDeep a) (Syntax b) f g =
    let same : a ≡ b = one_reach Limited tokens a b f.reach g.limited in
    let further : b ≡ f.goes_on.0 = one_reach Text tokens b f.goes_on.0 g.reach f.goes_on.1 in
    let more = f.goes_on.2 in absurd (omega arith)
