-- The value of a Boolean is 1 or 0.
use Rattle.std.proofs.Common.{◌≡◌, ◌≤◌, ℕ, Bool, true, false, ◌||◌, Option, Some, None, refl, arith}
use Rattle.std.proofs.lemmas.Nat.{and_le_l, or_lt, xor_lt}
use Rattle.seq_tree.specs.Expressions.{Expression, Number, Variable, Paren, Not, Binary}
use Rattle.seq_tree.specs.Levels.{Logical, Adding, Multiplying}
use Rattle.seq_tree.specs.Sorts.{Sort, Word, Boolean, sort_of, contains_name, result_sort}
use Rattle.seq_tree.specs.Values.{value, is_boolean, inverted, truth}
use Rattle.seq_tree.specs.Variables.{Variables}
use Rattle.seq_tree.specs.declared.tree.BinOp.{BinOp}
use Rattle.seq_tree.specs.declared.tree.BinOp.TheVariants.{And, Or, Xor, Eq, Ne, Lt, Le, Gt, Ge, Add, Sub, Mul, Div, Mod}

-- an expression that has the sort of a Boolean is one, and its value is 1 or 0
abbrev IsTruth : Expression → Variables → Type 0
IsTruth e vs = sort_of e ≡ Some Boolean → (is_boolean e ≡ true) × (value e vs ≤ 1)

-- a truth value is 1 or 0
truth_small : (b : Bool) → truth b ≤ 1
truth_small true = omega arith
truth_small false = omega arith

-- the operands of a logical operator that gives a Boolean are Booleans
logical_operands : (named : Bool) (left right : Option Sort) → result_sort Logical named left right ≡ Some Boolean
    → (left ≡ Some Boolean) × (right ≡ Some Boolean)
logical_operands named (Some Boolean) (Some Boolean) e = (refl, refl)
logical_operands named (Some Boolean) (Some Word) e = cc
logical_operands named (Some Boolean) None e = cc
logical_operands named (Some Word) (Some Word) e = cc
logical_operands named (Some Word) (Some Boolean) e = cc
logical_operands named (Some Word) None e = cc
logical_operands named None right e = cc

-- arithmetic gives no Boolean
adding_word : (named : Bool) (left right : Option Sort) → result_sort Adding named left right ≡ Some Boolean → ⊥
adding_word named (Some Word) (Some Word) e = cc
adding_word named (Some Word) (Some Boolean) e = cc
adding_word named (Some Word) None e = cc
adding_word named (Some Boolean) right e = cc
adding_word named None right e = cc

multiplying_word : (named : Bool) (left right : Option Sort) → result_sort Multiplying named left right ≡ Some Boolean → ⊥
multiplying_word named (Some Word) (Some Word) e = cc
multiplying_word named (Some Word) (Some Boolean) e = cc
multiplying_word named (Some Word) None e = cc
multiplying_word named (Some Boolean) right e = cc
multiplying_word named None right e = cc

-- and so is what `not` makes of a Boolean's value
not_truth : (b : Bool) (a : ℕ) → b ≡ true → inverted b a ≤ 1
not_truth true a e = omega arith
not_truth false a e = cc

-- an operator keeps this of its operands
binary_truth : (op : BinOp) (left right : Expression) (vs : Variables) → IsTruth left vs → IsTruth right vs → IsTruth (Binary op left right) vs
binary_truth And left right vs l r e =
    let s = logical_operands (contains_name left || contains_name right) (sort_of left) (sort_of right) e in
    let small = (l s.0).1 in let below = and_le_l (value left vs) (value right vs) in ((l s.0).0, omega arith)
binary_truth Or left right vs l r e =
    let s = logical_operands (contains_name left || contains_name right) (sort_of left) (sort_of right) e in
    let a = (l s.0).1 in let b = (r s.1).1 in let below = or_lt 1 (value left vs) (value right vs) (omega arith) (omega arith)
    in ((l s.0).0, omega arith)
binary_truth Xor left right vs l r e =
    let s = logical_operands (contains_name left || contains_name right) (sort_of left) (sort_of right) e in
    let a = (l s.0).1 in let b = (r s.1).1 in let below = xor_lt 1 (value left vs) (value right vs) (omega arith) (omega arith)
    in ((l s.0).0, omega arith)
binary_truth Eq left right vs l r e = (refl, truth_small _)
binary_truth Ne left right vs l r e = (refl, truth_small _)
binary_truth Lt left right vs l r e = (refl, truth_small _)
binary_truth Le left right vs l r e = (refl, truth_small _)
binary_truth Gt left right vs l r e = (refl, truth_small _)
binary_truth Ge left right vs l r e = (refl, truth_small _)
binary_truth Add left right vs l r e = absurd (adding_word (contains_name left || contains_name right) (sort_of left) (sort_of right) e)
binary_truth Sub left right vs l r e = absurd (adding_word (contains_name left || contains_name right) (sort_of left) (sort_of right) e)
binary_truth Mul left right vs l r e = absurd (multiplying_word (contains_name left || contains_name right) (sort_of left) (sort_of right) e)
binary_truth Div left right vs l r e = absurd (multiplying_word (contains_name left || contains_name right) (sort_of left) (sort_of right) e)
binary_truth Mod left right vs l r e = absurd (multiplying_word (contains_name left || contains_name right) (sort_of left) (sort_of right) e)

-- every expression has it
expression_truth : (e : Expression) (vs : Variables) → IsTruth e vs
expression_truth (Number n) vs e = cc
expression_truth (Variable name) vs e = cc
expression_truth (Paren inner) vs e = expression_truth inner vs e
expression_truth (Not inner) vs e = let t = expression_truth inner vs e in (t.0, not_truth (is_boolean inner) (value inner vs) t.0)
expression_truth (Binary op left right) vs e = binary_truth op left right vs (expression_truth left vs) (expression_truth right vs) e

pub boolean-small : (e : Expression) (vs : Variables) → sort_of e ≡ Some Boolean → value e vs ≤ 1
boolean-small e vs s = (expression_truth e vs s).1

pub ruleset truths = (boolean-small)
