-- Examples: what the definitions give for small texts, expressions and blocks.
use Rattle.std.specs.Prelude.{◌≡◌, false, [], ◌∷◌, Some, None, Ok, Err, codes, refl}
use Rattle.std.proofs.Common.{inl, inr, lit≤}
use Rattle.seq_tree.specs.Names.{Name}
use Rattle.seq_tree.specs.Expressions.{Number, Variable, Paren, Not, Binary}
use Rattle.seq_tree.specs.Statements.{Statement, Statements, Null, Assign, If, For, ExitWhen, Call, Work, Put, End, Then, Else, When}
use Rattle.seq_tree.specs.Values.{value}
use Rattle.seq_tree.specs.Lexis.{Stray, Great, Long, tokens, tokens_after, front_by, start_of, name_front, number_front, longest, plain}
use Rattle.seq_tree.specs.Marks.{mark_of}
use Rattle.seq_tree.specs.Spelling.{block_tokens}
use Rattle.seq_tree.specs.Levels.{chain}
use Rattle.seq_tree.specs.Proper.{IsProperExpression, within_limits, is_block_name}
use Rattle.seq_tree.specs.Dearest.{cost, starts}
use Rattle.seq_tree.specs.Runs.{Callee, Run, Print}
use Rattle.seq_tree.specs.Runs as runs
use Rattle.seq_tree.specs.Faults.{Scope, Unknown, Missorted, Divisor, Exit, Assigned, Actual, Count, block_fault}
use Rattle.seq_tree.specs.declared.tree.Costs.{Costs}
use Rattle.seq_tree.specs.declared.tree.Mode.TheVariants.{Out}
use Rattle.seq_tree.specs.declared.tree.BinOp.TheVariants as op
use Rattle.seq_tree.specs.declared.token.Token.TheVariants as token
use Rattle.seq_tree.specs.declared.token.Mark.TheVariants as mark

abbrev unit_costs : Costs
unit_costs = record { assign = 1; test = 1; turn = 1; call = 2; nothing = 1; put = 1; finish = 1 }

abbrev x : Name
x = codes "x"

abbrev y : Name
y = codes "y"

abbrev one : Statement → Statements
one s = Then s End

abbrev two : Statement → Statement → Statements
two s t = Then s (Then t End)

-- tokens: names are folded, underscores fall out of numbers, comments and white space are dropped, places count from 1
reads : tokens (codes "A_b1 := 1_0..2; -- no\n  X**")
    ≡ Ok (record { token = token.Word (codes "a_b1"); place = record { line = 1; column = 1 } }
    ∷ record { token = token.Sign mark.Becomes; place = record { line = 1; column = 6 } }
    ∷ record { token = token.Number 10; place = record { line = 1; column = 9 } }
    ∷ record { token = token.Sign mark.DotDot; place = record { line = 1; column = 12 } }
    ∷ record { token = token.Number 2; place = record { line = 1; column = 14 } }
    ∷ record { token = token.Sign mark.Semicolon; place = record { line = 1; column = 15 } }
    ∷ record { token = token.Word (codes "x"); place = record { line = 2; column = 3 } }
    ∷ record { token = token.Sign mark.StarStar; place = record { line = 2; column = 4 } } ∷ [])
unfolding tokens tokens_after front_by start_of name_front number_front longest mark_of
reads = refl

stray_letter : tokens (codes "x 12ab") ≡ Err (Stray (record { line = 1; column = 5 }))
unfolding tokens tokens_after front_by start_of name_front number_front longest mark_of
stray_letter = refl

stray_underscore : tokens (codes "a__b") ≡ Err (Stray (record { line = 1; column = 2 }))
unfolding tokens tokens_after front_by start_of name_front number_front longest mark_of
stray_underscore = refl

stray_byte : tokens (codes "a\n&") ≡ Err (Stray (record { line = 2; column = 1 }))
unfolding tokens tokens_after front_by start_of name_front number_front longest mark_of
stray_byte = refl

great : tokens (codes "x := 4294967296;") ≡ Err (Great (record { line = 1; column = 6 }))
unfolding tokens tokens_after front_by start_of name_front number_front longest mark_of
great = refl

greatest : plain (tokens (codes "4_294967295")) ≡ Ok (token.Number 4294967295 ∷ [])
unfolding tokens tokens_after front_by start_of name_front number_front longest mark_of
greatest = refl

long : tokens (codes "a234567890123456789012345678901234567890123456789012345678901234b") ≡ Err (Long (record { line = 1; column = 1 }))
unfolding tokens tokens_after front_by start_of name_front number_front longest mark_of
long = refl

-- the tokens of a tree are those of its text
spelled : Ok (block_tokens (two
    (If (When (Binary op.Lt (Variable x) (Number 1)) (one Null) (When (Not (Paren (Binary op.And (Variable x) (Variable y)))) (one (Put (Number 1)))
    (Else (one (Call x y (Number 1 ∷ Variable y ∷ []))))))) (For x 1 3 (two (ExitWhen (Variable y)) (Work 3)))))
    ≡ plain (tokens (codes "if x < 1 then null; elsif not (x and y) then put (1); else x.y (1, y); end if; for x in word range 1 .. 3 loop exit when y; work (3); end loop;"))
unfolding tokens tokens_after front_by start_of name_front number_front longest mark_of
spelled = refl

-- a - b - c is levelled, and a - (b - c) needs its parentheses
levelled : IsProperExpression (within_limits is_block_name) 0 (Binary op.Sub (Binary op.Sub (Variable x) (Number 1)) (Number 2))
levelled = (inl refl, lit≤ tt, refl, (inr (lit≤ tt), lit≤ tt, refl, refl, tt), tt)

chain_of_two : chain (Binary op.Sub (Binary op.Add (Variable x) (Number 1)) (Number 2)) ≡ 2
chain_of_two = refl

-- values
wraps : value (Binary op.Sub (Number 0) (Number 1)) [] ≡ 4294967295
wraps = refl

inverts : value (Not (Number 1)) [] ≡ 4294967294
inverts = refl

inverts_truth : value (Not (Binary op.Eq (Variable x) (Number 1))) [] ≡ 1
inverts_truth = refl

-- the cost of a block with two loops
loops : Statements
loops = two (For (codes "i") 1 0 (one (Put (Variable (codes "i")))))
    (For (codes "j") 1 3 (two (ExitWhen (Binary op.Eq (Variable (codes "j")) (Number 1))) Null))

loops_cost : cost unit_costs (λ object op'. 0) loops ≡ 9
unfolding loops
loops_cost = refl

started_twice : starts (record { object = x; op = y }) (two (Call x y []) (If (When (Variable x) (one Null) (Else (one (Call x y [])))))) ≡ 2
started_twice = refl

-- a block that prints 0, and takes a tick
callee : Name → Name → Callee
callee object op' = runs.Unknown

printed_run : Run unit_costs callee (one (Put (Binary op.Add (Number 4294967295) (Number 1)))) []
    (record { script = Print 0 ∷ []; left = false; vars = []; low = 1; high = 1 })
printed_run = (0, (_, refl, (_, refl, refl)), refl)

-- faults
abbrev scope : Scope
scope = record {
  reads = x ∷ y ∷ [];
  writes = y ∷ [];
  calls = record {
    object = codes "o";
    sig = record { name = codes "f"; params = record { name = codes "a"; mode = Out } ∷ record { name = codes "b"; mode = Out } ∷ [] };
  } ∷ [];
  in_loop = false;
}

unknown : block_fault scope (one (Assign y (Binary op.Div (Variable (codes "z")) (Number 0)))) ≡ Some Unknown
unknown = refl

missorted : block_fault scope (one (ExitWhen (Binary op.Eq (Number 1) (Number 1)))) ≡ Some Missorted
missorted = refl

divisor : block_fault scope (one (Put (Binary op.Mod (Variable x) (Paren (Number 3))))) ≡ Some Divisor
divisor = refl

exit : block_fault scope (two (For (codes "i") 1 2 (one (ExitWhen (Binary op.Eq (Variable x) (Number 1)))))
    (ExitWhen (Binary op.Eq (Variable x) (Number 1)))) ≡ Some Exit
exit = refl

assigned : block_fault scope (one (Assign x (Number 1))) ≡ Some Assigned
assigned = refl

assigned_loop : block_fault scope (one (For y 1 2 (one (Assign y (Number 1))))) ≡ Some Assigned
assigned_loop = refl

twice : block_fault scope (one (Call (codes "o") (codes "f") (Variable y ∷ Variable y ∷ []))) ≡ Some Actual
twice = refl

count : block_fault scope (one (Call (codes "o") (codes "f") (Variable y ∷ []))) ≡ Some Count
count = refl

none : block_fault scope (one (Put (Variable x))) ≡ None
none = refl
