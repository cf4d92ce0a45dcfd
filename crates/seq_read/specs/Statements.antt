-- Reading statements and blocks, one production after another, within limits: so many operators in a chain, so much further nesting.
-- The syntax is that of ISO/IEC 8652:2012, 5.1 to 5.7 and 6.4, cut to this language.
use Rattle.std.specs.Prelude.{ℕ, zero, suc, Bool, true, false, List, [], ◌∷◌, Option, Some, codes, if◌then◌else◌}
use Rattle.grammar.specs.Reading.{Read, then_at, pure_at, choose_at, pick_at, many_at, deep_at}
use Rattle.seq_tree.specs.Names.{Name}
use Rattle.seq_tree.specs.Expressions.{Expression}
use Rattle.seq_tree.specs.Statements.{Statement, Statements, Branches, Null, Assign, If, For, ExitWhen, Call, Work, Put, Nothing, Else}
use Rattle.seq_tree.specs.Trees.{statements_of, branches_of}
use Rattle.seq_tree.specs.declared.token.Token.{Token}
use Rattle.seq_tree.specs.declared.token.Token.TheVariants as token
use Rattle.seq_tree.specs.declared.token.Mark.TheVariants.{LeftParen, RightParen, Comma, Semicolon, Dot, DotDot, Becomes}
use Rattle.token_read.specs.Readers.{fixed_at, number_at, name_at, next_is}
use Rattle.seq_read.specs.declared.statements.Kind.{Kind}
use Rattle.seq_read.specs.declared.statements.Kind.TheVariants as kind
use Rattle.seq_read.specs.Expressions.{ExpressionReader, expression_at}

abbrev pub StatementReader : Type 0
StatementReader = List Token → Read Token Statement

abbrev pub BlockReader : Type 0
BlockReader = List Token → Read Token Statements

-- a word of the grammar
abbrev pub word : List ℕ → List Token → Read Token (Unit {0})
word text = fixed_at (token.Word text)

-- the kind of statement that a first token begins: by its word, or by a name
unfoldable pub kind_of : Option Token → Kind
kind_of o =
    if next_is (token.Word (codes "null")) o then kind.Null
    else if next_is (token.Word (codes "if")) o then kind.If
    else if next_is (token.Word (codes "for")) o then kind.For
    else if next_is (token.Word (codes "exit")) o then kind.Exit
    else if next_is (token.Word (codes "work")) o then kind.Work
    else if next_is (token.Word (codes "put")) o then kind.Put
    else kind.Named

-- whether a name is next
unfoldable pub next_is_name : (Name → Bool) → Option Token → Bool
next_is_name is_name (Some (token.Word name)) = is_name name
next_is_name is_name _ = false

-- whether a kind of statement begins with a word of its own
abbrev pub has_word : Kind → Bool
has_word kind.Named = false
has_word _ = true

-- whether a statement is next
unfoldable pub begins_statement : (Name → Bool) → Option Token → Bool
begins_statement is_name o = if has_word (kind_of o) then true else next_is_name is_name o

-- `null;`
unfoldable pub null_at : StatementReader
null_at = then_at (word (codes "null")) (λ _. then_at (fixed_at (token.Sign Semicolon)) (λ _. pure_at Null))

-- `work (n);`
unfoldable pub work_at : StatementReader
work_at =
    then_at (word (codes "work")) (λ _. then_at (fixed_at (token.Sign LeftParen))
    (λ _. then_at number_at (λ n. then_at (fixed_at (token.Sign RightParen)) (λ _.
    then_at (fixed_at (token.Sign Semicolon)) (λ _. pure_at (Work n))))))

-- `put (e);`
unfoldable pub put_at : ExpressionReader → StatementReader
put_at expression =
    then_at (word (codes "put")) (λ _. then_at (fixed_at (token.Sign LeftParen))
    (λ _. then_at expression (λ e. then_at (fixed_at (token.Sign RightParen)) (λ _.
    then_at (fixed_at (token.Sign Semicolon)) (λ _. pure_at (Put e))))))

-- `exit when e;`
unfoldable pub exit_at : ExpressionReader → StatementReader
exit_at expression =
    then_at (word (codes "exit")) (λ _. then_at (word (codes "when"))
    (λ _. then_at expression (λ e. then_at (fixed_at (token.Sign Semicolon)) (λ _. pure_at (ExitWhen e)))))

-- an assignment, behind its target
unfoldable pub assignment_at : ExpressionReader → Name → StatementReader
assignment_at expression target =
    then_at (fixed_at (token.Sign Becomes))
    (λ _. then_at expression (λ e. then_at (fixed_at (token.Sign Semicolon)) (λ _. pure_at (Assign target e))))

-- a further actual
unfoldable pub further_at : ExpressionReader → ExpressionReader
further_at expression = then_at (fixed_at (token.Sign Comma)) (λ _. expression)

-- actuals in parentheses
unfoldable pub list_at : ExpressionReader → List Token → Read Token (List Expression)
list_at expression =
    then_at (fixed_at (token.Sign LeftParen))
    (λ _. then_at expression (λ e. then_at (many_at (next_is (token.Sign Comma)) (further_at expression)) (λ es.
    then_at (fixed_at (token.Sign RightParen)) (λ _. pure_at (e ∷ es)))))

-- actuals, where there are any
unfoldable pub actuals_at : ExpressionReader → List Token → Read Token (List Expression)
actuals_at expression = choose_at (next_is (token.Sign LeftParen)) (list_at expression) (pure_at [])

-- a call, behind the name of its object
unfoldable pub call_at : (Name → Bool) → ExpressionReader → Name → StatementReader
call_at is_name expression object =
    then_at (fixed_at (token.Sign Dot)) (λ _. then_at (name_at is_name) (λ op. then_at (actuals_at expression) (λ es.
    then_at (fixed_at (token.Sign Semicolon)) (λ _. pure_at (Call object op es)))))

-- an assignment or a call
unfoldable pub named_at : (Name → Bool) → ExpressionReader → StatementReader
named_at is_name expression =
    then_at (name_at is_name) (λ name. choose_at (next_is (token.Sign Becomes)) (assignment_at expression name) (call_at is_name expression name))

-- a condition and the block behind `then`
unfoldable pub guarded_at : ExpressionReader → BlockReader → List Token → Read Token (Expression × Statements)
guarded_at expression block = then_at expression (λ e. then_at (word (codes "then")) (λ _. then_at block (λ b. pure_at (e, b))))

-- `elsif` with its condition and its block
unfoldable pub arm_at : ExpressionReader → BlockReader → List Token → Read Token (Expression × Statements)
arm_at expression block = then_at (word (codes "elsif")) (λ _. guarded_at expression block)

-- `else` with its block
unfoldable pub else_at : BlockReader → List Token → Read Token Branches
else_at block = then_at (word (codes "else")) (λ _. then_at block (λ b. pure_at (Else b)))

-- `else` with its block, or nothing
unfoldable pub otherwise_at : BlockReader → List Token → Read Token Branches
otherwise_at block = choose_at (next_is (token.Word (codes "else"))) (else_at block) (pure_at Nothing)

-- an `if`, by what is read inside it
unfoldable pub if_at : ExpressionReader → BlockReader → StatementReader
if_at expression block =
    then_at (word (codes "if")) (λ _. then_at (guarded_at expression block)
    (λ arm. then_at (many_at (next_is (token.Word (codes "elsif"))) (arm_at expression block)) (λ arms.
    then_at (otherwise_at block) (λ other. then_at (word (codes "end"))
    (λ _. then_at (word (codes "if")) (λ _. then_at (fixed_at (token.Sign Semicolon)) (λ _.
    pure_at (If (branches_of (arm ∷ arms) other)))))))))

-- what is behind the word that ends the bounds of a loop: its body and its end
abbrev pub for_behind : Name → ℕ → ℕ → BlockReader → StatementReader
for_behind name low high block = then_at block (λ b. then_at (word (codes "end")) (λ _. then_at (word (codes "loop"))
    (λ _. then_at (fixed_at (token.Sign Semicolon)) (λ _. pure_at (For name low high b)))))

-- a loop, by what is read inside it
unfoldable pub for_at : (Name → Bool) → BlockReader → StatementReader
for_at is_name block =
    then_at (word (codes "for")) (λ _. then_at (name_at is_name) (λ name. then_at (word (codes "in"))
    (λ _. then_at (word (codes "word")) (λ _. then_at (word (codes "range")) (λ _.
    then_at number_at (λ low. then_at (fixed_at (token.Sign DotDot))
    (λ _. then_at number_at (λ high. then_at (word (codes "loop")) (λ _. for_behind name low high block)))))))))

-- a statement, by what is read of expressions, and where an `if` or a loop begins
unfoldable pub statement_with : (Name → Bool) → ExpressionReader → StatementReader → StatementReader → Kind → StatementReader
statement_with is_name expression branching looping kind.Null = null_at
statement_with is_name expression branching looping kind.If = branching
statement_with is_name expression branching looping kind.For = looping
statement_with is_name expression branching looping kind.Exit = exit_at expression
statement_with is_name expression branching looping kind.Work = work_at
statement_with is_name expression branching looping kind.Put = put_at expression
statement_with is_name expression branching looping kind.Named = named_at is_name expression

-- statements, one at least
unfoldable pub block_with : (Name → Bool) → StatementReader → BlockReader
block_with is_name statement = then_at statement (λ s. then_at (many_at (begins_statement is_name) statement)
    (λ ss. pure_at (statements_of (s ∷ ss))))

-- a statement inside which constructs nest at most so deep
unfoldable pub statement_at : (Name → Bool) → ℕ → ℕ → StatementReader
statement_at is_name most zero = pick_at kind_of (statement_with is_name (expression_at is_name most zero) deep_at deep_at)
statement_at is_name most (suc deeper) =
    pick_at kind_of (statement_with is_name (expression_at is_name most (suc deeper))
    (if_at (expression_at is_name most deeper) (block_with is_name (statement_at is_name most deeper)))
    (for_at is_name (block_with is_name (statement_at is_name most deeper))))

-- a block inside which they nest so
abbrev pub block_at : (Name → Bool) → ℕ → ℕ → BlockReader
block_at is_name most deeper = block_with is_name (statement_at is_name most deeper)
