-- Reading branches and statements, one after another.
use Rattle.std.proofs.Common.{◌≡◌, ℕ, zero, suc, Bool, List, [], ◌∷◌, codes, Ok, refl}
use Rattle.grammar.specs.Reading.{first, then_at, pure_at}
use Rattle.seq_tree.specs.Names.{Name}
use Rattle.seq_tree.specs.Expressions.{Expression}
use Rattle.seq_tree.specs.Statements.{Statement, Statements, Branches, If}
use Rattle.seq_tree.specs.Trees.{statements_of, branches_of}
use Rattle.seq_tree.specs.declared.token.Token.{Token}
use Rattle.seq_tree.specs.declared.token.Token.TheVariants as token
use Rattle.seq_tree.specs.declared.token.Mark.TheVariants.{Semicolon}
use Rattle.token_read.specs.Readers.{fixed_at, next_is}
use Rattle.seq_read.specs.Expressions.{ExpressionReader, expression_at}
use Rattle.seq_read.specs.Statements.{StatementReader, BlockReader, word, kind_of, begins_statement, guarded_at, arm_at, otherwise_at, if_at}
use Rattle.seq_read.specs.Statements.{statement_with, block_with, statement_at, block_at}
use Rattle.seq_read.specs.Nesting.{branching_at, looping_at}
use Rattle.seq_read.proofs.Shared.Takes.{Takes}
use Rattle.seq_read.proofs.Shared.Turns.{onward, onward-fails, onward-ends}
use Rattle.seq_read.proofs.Shared.TokenTakes.{takes-expression, takes-statement, takes-block, takes-arm}

-- BRANCHES
-- what follows the last arm
abbrev pub close_if : BlockReader → List (Expression × Statements) → StatementReader
close_if block arms =
    then_at (otherwise_at block) (λ other. then_at (word (codes "end"))
    (λ _. then_at (word (codes "if")) (λ _. then_at (fixed_at (token.Sign Semicolon)) (λ _.
    pure_at (If (branches_of arms other))))))

-- the arms so far, and those that are left
abbrev pub arms_after : ExpressionReader → BlockReader → List (Expression × Statements) → StatementReader
arms_after expression block = onward (next_is (token.Word (codes "elsif"))) (arm_at expression block) (close_if block)

pub if-start : (expression : ExpressionReader) (block : BlockReader) (ts us rest : List Token) (arm : Expression × Statements)
    → word (codes "if") ts ≡ Ok (tt, us) →
    guarded_at expression block us ≡ Ok (arm, rest) → arms_after expression block (arm ∷ []) rest ≡ if_at expression block ts
unfolding if_at onward
if-start expression block ts us rest arm h g = rw (h, g) refl

pub if-closes : (block : BlockReader) (arms : List (Expression × Statements)) (other : Branches) (ts us vs ws rest : List Token)
    → otherwise_at block ts ≡ Ok (other, us) →
    word (codes "end") us ≡ Ok (tt, vs) → word (codes "if") vs ≡ Ok (tt, ws) → fixed_at (token.Sign Semicolon) ws ≡ Ok (tt, rest)
    → close_if block arms ts ≡ Ok (If (branches_of arms other), rest)
if-closes block arms other ts us vs ws rest h i j k = rw (h, i, j, k) refl

pub arm-takes : (is_name : Name → Bool) (most deeper : ℕ) → Takes 1 (arm_at (expression_at is_name most deeper) (block_at is_name most deeper))
arm-takes is_name most deeper =
    takes-arm is_name (expression_at is_name most deeper) (takes-expression is_name most deeper) (block_at is_name most deeper)
    (takes-block is_name (statement_at is_name most deeper) (takes-statement is_name most deeper))

pub ruleset branch_steps = (if-start, onward-fails, onward-ends)

-- STATEMENTS
pub statement_whole : (is_name : Name → Bool) (most deeper : ℕ) (ts : List Token) → statement_at is_name most deeper ts
    ≡ statement_with is_name (expression_at is_name most deeper) (branching_at is_name most deeper) (looping_at is_name most deeper)
    (kind_of (first ts)) ts
unfolding statement_at
statement_whole is_name most zero ts = refl
statement_whole is_name most (suc deeper) ts = refl

-- BLOCKS
-- what follows the last statement
abbrev pub close_block : List Statement → BlockReader
close_block ss = pure_at (statements_of ss)

-- the statements so far, and those that are left
abbrev pub statements_after : (Name → Bool) → StatementReader → List Statement → BlockReader
statements_after is_name statement = onward (begins_statement is_name) statement close_block

pub block-start : (is_name : Name → Bool) (statement : StatementReader) (ts rest : List Token) (s : Statement) → statement ts ≡ Ok (s, rest) →
    statements_after is_name statement (s ∷ []) rest ≡ block_with is_name statement ts
unfolding block_with onward
block-start is_name statement ts rest s h = rw h refl

pub ruleset block_steps = (block-start, onward-fails, onward-ends)
