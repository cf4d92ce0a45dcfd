-- Each expression and each statement takes tokens.
use Rattle.std.proofs.Common.{ℕ, zero, suc, Bool, List, [], ◌∷◌, codes}
use Rattle.grammar.specs.Reading.{then_at, pure_at, deep_at}
use Rattle.seq_tree.specs.Names.{Name}
use Rattle.seq_tree.specs.Expressions.{Expression, Number, Variable, Paren, Not, Binary}
use Rattle.seq_tree.specs.Statements.{Null, Assign, If, For, ExitWhen, Call, Work, Put, Nothing, Else}
use Rattle.seq_tree.specs.Trees.{branches_of, statements_of}
use Rattle.seq_tree.specs.declared.token.Token.{Token}
use Rattle.seq_tree.specs.declared.token.Token.TheVariants as token
use Rattle.seq_tree.specs.declared.token.Mark.TheVariants.{LeftParen, RightParen, Comma, Semicolon, Dot, DotDot, Becomes}
use Rattle.token_read.specs.Readers.{fixed_at, number_at, name_at, next_is, next_is_number, sees_fixed, sees_number, sees_name}
use Rattle.seq_read.specs.declared.operators.Class.{Class}
use Rattle.seq_read.specs.declared.operators.Class.TheVariants.{Multiplying, Adding, Relational}
use Rattle.seq_read.specs.declared.statements.Kind.{Kind}
use Rattle.seq_read.specs.declared.statements.Kind.TheVariants as kind
use Rattle.seq_read.specs.Operators.{sees_operator, begins, logical_class}
use Rattle.seq_read.specs.Expressions.{ExpressionReader, paren_at, literal_at, variable_at, primary_at, inverse_at, factor_at, chain_at, term_at}
use Rattle.seq_read.specs.Expressions.{simple_at, comparison_at, relation_at, logic_at, whole_expression_at, expression_at}
use Rattle.seq_read.specs.Statements.{StatementReader, BlockReader, word, begins_statement, kind_of, null_at, work_at, put_at, exit_at}
use Rattle.seq_read.specs.Statements.{assignment_at, further_at, list_at, actuals_at, call_at, named_at, guarded_at, arm_at, else_at}
use Rattle.seq_read.specs.Statements.{otherwise_at, if_at, for_at, statement_with, block_with, statement_at}
use Rattle.seq_read.proofs.Shared.Takes.{Takes, takes-any, takes-token, takes-pure, takes-deep, takes-then, takes-choose, takes-pick, takes-many}

pub takes-fixed : (u : Token) → Takes 1 (fixed_at u)
unfolding fixed_at
takes-fixed u = takes-token (sees_fixed u)

pub any-fixed : (u : Token) → Takes 0 (fixed_at u)
any-fixed u = takes-any 1 (takes-fixed u)

pub takes-number : Takes 1 number_at
unfolding number_at
takes-number = takes-token sees_number

pub takes-name : (is_name : Name → Bool) → Takes 1 (name_at is_name)
unfolding name_at
takes-name is_name = takes-token (sees_name is_name)

-- EXPRESSIONS
takes-paren : (inner : ExpressionReader) → Takes 0 inner → Takes 0 (paren_at inner)
unfolding paren_at
takes-paren inner one = takes-then (any-fixed (token.Sign LeftParen))
    (λ _. takes-then one (λ e. takes-then (any-fixed (token.Sign RightParen)) (λ _. takes-pure (Paren e))))

module _ (is_name : Name → Bool) (most : ℕ) (paren : ExpressionReader) (one : Takes 0 paren) where
  takes-literal : Takes 0 literal_at
  unfolding literal_at
  takes-literal = takes-then (takes-any 1 takes-number) (λ n. takes-pure (Number n))

  takes-variable : Takes 0 (variable_at is_name)
  unfolding variable_at
  takes-variable = takes-then (takes-any 1 (takes-name is_name)) (λ name. takes-pure (Variable name))

  takes-primary : Takes 0 (primary_at is_name paren)
  unfolding primary_at
  takes-primary = takes-choose (next_is (token.Sign LeftParen)) one (takes-choose next_is_number takes-literal takes-variable)

  takes-inverse : Takes 0 (inverse_at is_name paren)
  unfolding inverse_at
  takes-inverse = takes-then (any-fixed (token.Word (codes "not"))) (λ _. takes-then takes-primary (λ e. takes-pure (Not e)))

  takes-factor : Takes 0 (factor_at is_name paren)
  unfolding factor_at
  takes-factor = takes-choose (next_is (token.Word (codes "not"))) takes-inverse takes-primary

  takes-chain : (class : Class) (operand : ExpressionReader) → Takes 0 operand → (n : ℕ) (e : Expression) → Takes 0 (chain_at class operand n e)
  unfolding chain_at
  takes-chain class operand two zero e = takes-choose (begins class) (takes-deep 0) (takes-pure e)
  takes-chain class operand two (suc n) e =
      takes-choose (begins class) (takes-then (takes-any 1 (takes-token (sees_operator class)))
      (λ op. takes-then two (λ f. takes-chain class operand two n (Binary op e f)))) (takes-pure e)

  takes-term : Takes 0 (term_at is_name most paren)
  unfolding term_at
  takes-term = takes-then takes-factor (λ e. takes-chain Multiplying (factor_at is_name paren) takes-factor most e)

  takes-simple : Takes 0 (simple_at is_name most paren)
  unfolding simple_at
  takes-simple = takes-then takes-term (λ e. takes-chain Adding (term_at is_name most paren) takes-term most e)

  takes-relation : Takes 0 (relation_at is_name most paren)
  unfolding relation_at comparison_at
  takes-relation =
      takes-then takes-simple (λ e. takes-choose (begins Relational)
      (takes-then (takes-any 1 (takes-token (sees_operator Relational))) (λ op. takes-then takes-simple (λ f. takes-pure (Binary op e f))))
      (takes-pure e))

  takes-whole : Takes 0 (whole_expression_at is_name most paren)
  unfolding whole_expression_at logic_at
  takes-whole = takes-then takes-relation
      (λ e. takes-pick logical_class (λ class. takes-chain class (relation_at is_name most paren) takes-relation most e))

pub takes-expression : (is_name : Name → Bool) (most deeper : ℕ) → Takes 0 (expression_at is_name most deeper)
unfolding expression_at
takes-expression is_name most zero = takes-whole is_name most deep_at (takes-deep 0)
takes-expression is_name most (suc deeper) = takes-whole is_name most (paren_at (expression_at is_name most deeper))
    (takes-paren (expression_at is_name most deeper) (takes-expression is_name most deeper))

-- STATEMENTS
pub takes-further : (expression : ExpressionReader) → Takes 0 expression → Takes 1 (further_at expression)
unfolding further_at
takes-further expression one = takes-then (takes-fixed (token.Sign Comma)) (λ _. one)

pub any-word : (text : List ℕ) → Takes 0 (word text)
any-word text = any-fixed (token.Word text)

-- `;`, and then nothing
pub closes : {A : Type 0} (a : A) → Takes 0 (then_at (fixed_at (token.Sign Semicolon)) (λ _. pure_at a))
closes a = takes-then (any-fixed (token.Sign Semicolon)) (λ _. takes-pure a)

module _ (is_name : Name → Bool) (expression : ExpressionReader) (one : Takes 0 expression) where
  takes-null : Takes 1 null_at
  unfolding null_at
  takes-null = takes-then (takes-fixed (token.Word (codes "null"))) (λ _. closes Null)

  takes-work : Takes 1 work_at
  unfolding work_at
  takes-work =
      takes-then (takes-fixed (token.Word (codes "work"))) (λ _. takes-then (any-fixed (token.Sign LeftParen))
      (λ _. takes-then (takes-any 1 takes-number) (λ n.
      takes-then (any-fixed (token.Sign RightParen)) (λ _. closes (Work n)))))

  takes-put : Takes 1 (put_at expression)
  unfolding put_at
  takes-put =
      takes-then (takes-fixed (token.Word (codes "put"))) (λ _. takes-then (any-fixed (token.Sign LeftParen)) (λ _. takes-then one (λ e.
      takes-then (any-fixed (token.Sign RightParen)) (λ _. closes (Put e)))))

  takes-exit : Takes 1 (exit_at expression)
  unfolding exit_at
  takes-exit = takes-then (takes-fixed (token.Word (codes "exit")))
      (λ _. takes-then (any-word (codes "when")) (λ _. takes-then one (λ e. closes (ExitWhen e))))

  takes-assignment : (target : Name) → Takes 0 (assignment_at expression target)
  unfolding assignment_at
  takes-assignment target = takes-then (any-fixed (token.Sign Becomes)) (λ _. takes-then one (λ e. closes (Assign target e)))

  takes-list : Takes 0 (list_at expression)
  unfolding list_at
  takes-list =
      takes-then (any-fixed (token.Sign LeftParen)) (λ _. takes-then one (λ e.
      takes-then (takes-many (next_is (token.Sign Comma)) (further_at expression) (takes-any 1 (takes-further expression one))) (λ es.
      takes-then (any-fixed (token.Sign RightParen)) (λ _. takes-pure (e ∷ es)))))

  takes-actuals : Takes 0 (actuals_at expression)
  unfolding actuals_at
  takes-actuals = takes-choose (next_is (token.Sign LeftParen)) takes-list (takes-pure [])

  takes-call : (object : Name) → Takes 0 (call_at is_name expression object)
  unfolding call_at
  takes-call object =
      takes-then (any-fixed (token.Sign Dot)) (λ _. takes-then (takes-any 1 (takes-name is_name))
      (λ op. takes-then takes-actuals (λ es. closes (Call object op es))))

  takes-named : Takes 1 (named_at is_name expression)
  unfolding named_at
  takes-named = takes-then (takes-name is_name) (λ name. takes-choose (next_is (token.Sign Becomes)) (takes-assignment name) (takes-call name))

  module _ (block : BlockReader) (two : Takes 0 block) where
    takes-guarded : Takes 0 (guarded_at expression block)
    unfolding guarded_at
    takes-guarded = takes-then one (λ e. takes-then (any-word (codes "then")) (λ _. takes-then two (λ b. takes-pure (e, b))))

    pub takes-arm : Takes 1 (arm_at expression block)
    unfolding arm_at
    takes-arm = takes-then (takes-fixed (token.Word (codes "elsif"))) (λ _. takes-guarded)

    takes-otherwise : Takes 0 (otherwise_at block)
    unfolding otherwise_at else_at
    takes-otherwise =
        takes-choose (next_is (token.Word (codes "else"))) (takes-then (any-word (codes "else")) (λ _. takes-then two (λ b. takes-pure (Else b))))
        (takes-pure Nothing)

    takes-if : Takes 1 (if_at expression block)
    unfolding if_at
    takes-if =
        takes-then (takes-fixed (token.Word (codes "if"))) (λ _. takes-then takes-guarded (λ arm.
        takes-then (takes-many (next_is (token.Word (codes "elsif"))) (arm_at expression block) (takes-any 1 takes-arm))
        (λ arms. takes-then takes-otherwise (λ other.
        takes-then (any-word (codes "end")) (λ _. takes-then (any-word (codes "if")) (λ _. closes (If (branches_of (arm ∷ arms) other))))))))

    takes-for : Takes 1 (for_at is_name block)
    unfolding for_at
    takes-for =
        takes-then (takes-fixed (token.Word (codes "for"))) (λ _. takes-then (takes-any 1 (takes-name is_name))
        (λ name. takes-then (any-word (codes "in")) (λ _.
        takes-then (any-word (codes "word")) (λ _. takes-then (any-word (codes "range")) (λ _. takes-then (takes-any 1 takes-number) (λ low.
        takes-then (any-fixed (token.Sign DotDot)) (λ _. takes-then (takes-any 1 takes-number)
        (λ high. takes-then (any-word (codes "loop")) (λ _. takes-then two (λ b.
        takes-then (any-word (codes "end")) (λ _. takes-then (any-word (codes "loop")) (λ _. closes (For name low high b)))))))))))))

  module _ (branching looping : StatementReader) (two : Takes 1 branching) (three : Takes 1 looping) where
    takes-statement-with : (k : Kind) → Takes 1 (statement_with is_name expression branching looping k)
    unfolding statement_with
    takes-statement-with kind.Null = takes-null
    takes-statement-with kind.If = two
    takes-statement-with kind.For = three
    takes-statement-with kind.Exit = takes-exit
    takes-statement-with kind.Work = takes-work
    takes-statement-with kind.Put = takes-put
    takes-statement-with kind.Named = takes-named

pub takes-block : (is_name : Name → Bool) (statement : StatementReader) → Takes 1 statement → Takes 0 (block_with is_name statement)
unfolding block_with
takes-block is_name statement one =
    takes-then (takes-any 1 one) (λ s. takes-then (takes-many (begins_statement is_name) statement (takes-any 1 one))
    (λ ss. takes-pure (statements_of (s ∷ ss))))

pub takes-statement : (is_name : Name → Bool) (most deeper : ℕ) → Takes 1 (statement_at is_name most deeper)
unfolding statement_at
takes-statement is_name most zero =
    takes-pick kind_of (takes-statement-with is_name (expression_at is_name most zero) (takes-expression is_name most zero) deep_at deep_at
    (takes-deep 1) (takes-deep 1))
takes-statement is_name most (suc deeper) =
    let inner = takes-block is_name (statement_at is_name most deeper) (takes-statement is_name most deeper) in
    takes-pick kind_of (takes-statement-with is_name (expression_at is_name most (suc deeper)) (takes-expression is_name most (suc deeper))
    (if_at (expression_at is_name most deeper) (block_with is_name (statement_at is_name most deeper)))
    (for_at is_name (block_with is_name (statement_at is_name most deeper)))
    (takes-if is_name (expression_at is_name most deeper) (takes-expression is_name most deeper)
    (block_with is_name (statement_at is_name most deeper)) inner)
    (takes-for is_name (expression_at is_name most deeper) (takes-expression is_name most deeper)
    (block_with is_name (statement_at is_name most deeper)) inner))
