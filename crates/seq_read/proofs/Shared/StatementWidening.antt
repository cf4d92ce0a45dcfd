-- Readers of statements and blocks with limits, against those with wider ones.
use Rattle.std.proofs.Common.{◌≡◌, ℕ, zero, suc, ◌-◌, ◌<◌, ◌≤◌, Bool, true, false, cond, List, [], ◌∷◌, length, codes, Option, refl, arith}
use Rattle.grammar.specs.Reading.{Read, first, then_at, pure_at, pick_at, many_at, deep_at, GoesOn, Beyond, Widens}
use Rattle.grammar.proofs.Shared.Widening.{widens-fewer, widens-pure, widens-then, widens-behind, goes-behind, widens-pick, widens-choose}
use Rattle.grammar.proofs.Shared.Widening.{deep-beyond}
use Rattle.grammar.proofs.Shared.Widening.{past_at, widens-past, widens-many}
use Rattle.seq_tree.specs.Names.{Name}
use Rattle.seq_tree.specs.Statements.{Null, Assign, If, For, ExitWhen, Call, Work, Put, Nothing, Else}
use Rattle.seq_tree.specs.Trees.{statements_of, branches_of}
use Rattle.seq_tree.specs.declared.token.Token.{Token}
use Rattle.seq_tree.specs.declared.token.Token.TheVariants as token
use Rattle.seq_tree.specs.declared.token.Mark.TheVariants.{LeftParen, RightParen, Comma, Dot, DotDot, Becomes}
use Rattle.token_read.specs.Readers.{fixed_at, sees_fixed, number_at, name_at, next_is}
use Rattle.seq_read.specs.declared.statements.Kind.{Kind}
use Rattle.seq_read.specs.declared.statements.Kind.TheVariants as kind
use Rattle.seq_read.specs.Expressions.{ExpressionReader, expression_at}
use Rattle.seq_read.specs.Statements.{StatementReader, BlockReader, kind_of, begins_statement, null_at, work_at, put_at, exit_at, assignment_at}
use Rattle.seq_read.specs.Statements.{further_at, list_at, actuals_at, call_at, named_at, guarded_at, arm_at, else_at, otherwise_at, if_at}
use Rattle.seq_read.specs.Statements.{for_at, statement_with, block_with, statement_at, block_at}
use Rattle.seq_read.proofs.Shared.StatementTokens.{w, semicolon}
use Rattle.seq_read.proofs.ExpressionWidening.{takes-seen, next_of, expression-widened, widens-expression}
use Rattle.seq_read.proofs.Shared.TokenWidening.{widens-fixed, widens-number, widens-name}

-- a fixed token and what is behind it
past : {A : Type 0} {n : ℕ} (u : Token) {f g : Unit {0} → List Token → Read Token A} → ((a : Unit {0}) → Widens n (f a) (g a))
    → Widens n (then_at (fixed_at u) f) (then_at (fixed_at u) g)
past {n = n} u two = widens-then (widens-fixed u) two

null : (n : ℕ) → Widens n null_at null_at
unfolding null_at
null n = past (w (codes "null")) (λ _. past semicolon (λ _. widens-pure n Null))

work : (n : ℕ) → Widens n work_at work_at
unfolding work_at
work n = past (w (codes "work"))
    (λ _. past (token.Sign LeftParen) (λ _. widens-then widens-number
    (λ m. past (token.Sign RightParen) (λ _. past semicolon (λ _. widens-pure n (Work m))))))

module _ (n : ℕ) (is_name : Name → Bool) (expression expression' : ExpressionReader) (one : Widens n expression expression') where
  put : Widens n (put_at expression) (put_at expression')
  unfolding put_at
  put = past (w (codes "put")) (λ _. past (token.Sign LeftParen)
      (λ _. widens-then one (λ e. past (token.Sign RightParen) (λ _. past semicolon (λ _. widens-pure n (Put e))))))

  exit : Widens n (exit_at expression) (exit_at expression')
  unfolding exit_at
  exit = past (w (codes "exit")) (λ _. past (w (codes "when")) (λ _. widens-then one (λ e. past semicolon (λ _. widens-pure n (ExitWhen e)))))

  assignment : (target : Name) → Widens n (assignment_at expression target) (assignment_at expression' target)
  unfolding assignment_at
  assignment target = past (token.Sign Becomes) (λ _. widens-then one (λ e. past semicolon (λ _. widens-pure n (Assign target e))))

  further : Widens n (further_at expression) (further_at expression')
  unfolding further_at
  further = past (token.Sign Comma) (λ _. one)

  list : Widens n (list_at expression) (list_at expression')
  unfolding list_at
  list = past (token.Sign LeftParen)
      (λ _. widens-then one (λ e. widens-then (widens-many (next_is (token.Sign Comma)) further)
      (λ es. past (token.Sign RightParen) (λ _. widens-pure n (e ∷ es)))))

  actuals : Widens n (actuals_at expression) (actuals_at expression')
  unfolding actuals_at
  actuals = widens-choose (next_is (token.Sign LeftParen)) list (widens-pure n [])

  call : (object : Name) → Widens n (call_at is_name expression object) (call_at is_name expression' object)
  unfolding call_at
  call object = past (token.Sign Dot) (λ _. widens-then (widens-name is_name)
      (λ op. widens-then actuals (λ es. past semicolon (λ _. widens-pure n (Call object op es)))))

  named : Widens n (named_at is_name expression) (named_at is_name expression')
  unfolding named_at
  named = widens-then (widens-name is_name) (λ name. widens-choose (next_is (token.Sign Becomes)) (assignment name) (call name))

  -- behind the word of an `if` or a loop
  module _ (block block' : BlockReader) (two : Widens n block block') where
    guarded : Widens n (guarded_at expression block) (guarded_at expression' block')
    unfolding guarded_at
    guarded = widens-then one (λ e. past (w (codes "then")) (λ _. widens-then two (λ b. widens-pure n (e, b))))

    arm : Widens n (arm_at expression block) (arm_at expression' block')
    unfolding arm_at
    arm = past (w (codes "elsif")) (λ _. guarded)

    other : Widens n (otherwise_at block) (otherwise_at block')
    unfolding otherwise_at else_at
    other = widens-choose (next_is (w (codes "else"))) (past (w (codes "else")) (λ _. widens-then two (λ b. widens-pure n (Else b))))
        (widens-pure n Nothing)

    if_inside : BlockReader → ExpressionReader → Unit {0} → StatementReader
    if_inside b e _ =
        then_at (guarded_at e b) (λ a. then_at (many_at (next_is (w (codes "elsif"))) (arm_at e b)) (λ arms. then_at (otherwise_at b) (λ o.
        then_at (fixed_at (w (codes "end"))) (λ _. then_at (fixed_at (w (codes "if")))
        (λ _. then_at (fixed_at semicolon) (λ _. pure_at (If (branches_of (a ∷ arms) o))))))))

    inside : (a : Unit {0}) → Widens n (if_inside block expression a) (if_inside block' expression' a)
    unfolding if_inside
    inside _ = widens-then guarded (λ a. widens-then (widens-many (next_is (w (codes "elsif"))) arm) (λ arms. widens-then other (λ o.
        past (w (codes "end")) (λ _. past (w (codes "if")) (λ _. past semicolon (λ _. widens-pure n (If (branches_of (a ∷ arms) o))))))))

    pub widens-if : Widens (suc n) (if_at expression block) (if_at expression' block')
    unfolding if_at fixed_at if_inside
    widens-if = widens-behind (sees_fixed (w (codes "if"))) inside

    pub if-goes : (ts : List Token) → next_is (w (codes "if")) (first ts) ≡ true → GoesOn (length ts) (if_at expression' block' ts)
    unfolding if_at fixed_at if_inside
    if-goes ts h =
        let x = next_of (next_is (w (codes "if"))) refl ts h in
        goes-behind (sees_fixed (w (codes "if"))) {f = if_inside block expression} inside ts (tt, x.rest)
        (takes-seen (sees_fixed (w (codes "if"))) ts x.token x.rest tt x.at (rw x.passes refl))

    for_inside : BlockReader → Unit {0} → StatementReader
    for_inside b _ =
        then_at (name_at is_name) (λ name. then_at (fixed_at (w (codes "in")))
        (λ _. then_at (fixed_at (w (codes "word"))) (λ _. then_at (fixed_at (w (codes "range"))) (λ _.
        then_at number_at (λ low. then_at (fixed_at (token.Sign DotDot))
        (λ _. then_at number_at (λ high. then_at (fixed_at (w (codes "loop"))) (λ _. then_at b (λ body.
        then_at (fixed_at (w (codes "end"))) (λ _. then_at (fixed_at (w (codes "loop")))
        (λ _. then_at (fixed_at semicolon) (λ _. pure_at (For name low high body)))))))))))))

    loop_inside : (a : Unit {0}) → Widens n (for_inside block a) (for_inside block' a)
    unfolding for_inside
    loop_inside _ = widens-then (widens-name is_name)
        (λ name. past (w (codes "in"))
        (λ _. past (w (codes "word")) (λ _. past (w (codes "range")) (λ _. widens-then widens-number (λ low. past (token.Sign DotDot) (λ _.
        widens-then widens-number (λ high. past (w (codes "loop"))
        (λ _. widens-then two (λ body. past (w (codes "end"))
        (λ _. past (w (codes "loop")) (λ _. past semicolon (λ _. widens-pure n (For name low high body)))))))))))))

    pub widens-for : Widens (suc n) (for_at is_name block) (for_at is_name block')
    unfolding for_at fixed_at for_inside
    widens-for = widens-behind (sees_fixed (w (codes "for"))) loop_inside

    pub for-goes : (ts : List Token) → next_is (w (codes "for")) (first ts) ≡ true → GoesOn (length ts) (for_at is_name block' ts)
    unfolding for_at fixed_at for_inside
    for-goes ts h =
        let x = next_of (next_is (w (codes "for"))) refl ts h in
        goes-behind (sees_fixed (w (codes "for"))) {f = for_inside block} loop_inside ts (tt, x.rest)
        (takes-seen (sees_fixed (w (codes "for"))) ts x.token x.rest tt x.at (rw x.passes refl))

-- KINDS
-- the word that the kinds `if` and `for` begin with
if_next : (o : Option Token) → kind_of o ≡ kind.If → next_is (w (codes "if")) o ≡ true
unfolding kind_of
if_next o h = of (next_is (w (codes "null")) o) (next_is (w (codes "if")) o) (next_is (w (codes "for")) o) (next_is (w (codes "exit")) o)
    (next_is (w (codes "work")) o) (next_is (w (codes "put")) o) h where
      of : (a b c d e f : Bool) → cond a kind.Null
          (cond b kind.If (cond c kind.For (cond d kind.Exit (cond e kind.Work (cond f kind.Put kind.Named)))))
          ≡ kind.If → b ≡ true
      of true b c d e f k = absurd (cc)
      of false true c d e f k = refl
      of false false true d e f k = absurd (cc)
      of false false false true e f k = absurd (cc)
      of false false false false true f k = absurd (cc)
      of false false false false false true k = absurd (cc)
      of false false false false false false k = absurd (cc)

for_next : (o : Option Token) → kind_of o ≡ kind.For → next_is (w (codes "for")) o ≡ true
unfolding kind_of
for_next o h = of (next_is (w (codes "null")) o) (next_is (w (codes "if")) o) (next_is (w (codes "for")) o) (next_is (w (codes "exit")) o)
    (next_is (w (codes "work")) o) (next_is (w (codes "put")) o) h where
      of : (a b c d e f : Bool) → cond a kind.Null
          (cond b kind.If (cond c kind.For (cond d kind.Exit (cond e kind.Work (cond f kind.Put kind.Named)))))
          ≡ kind.For → c ≡ true
      of true b c d e f k = absurd (cc)
      of false true c d e f k = absurd (cc)
      of false false true d e f k = refl
      of false false false true e f k = absurd (cc)
      of false false false false true f k = absurd (cc)
      of false false false false false true k = absurd (cc)
      of false false false false false false k = absurd (cc)

module _ (n : ℕ) (is_name : Name → Bool) (expression expression' : ExpressionReader) (one : Widens n expression expression')
    (branching branching' looping looping' : StatementReader)
    (branches : (ts : List Token) → kind_of (first ts) ≡ kind.If → Beyond n (length ts) (branching ts) (branching' ts))
    (loops : (ts : List Token) → kind_of (first ts) ≡ kind.For → Beyond n (length ts) (looping ts) (looping' ts)) where
  kinds : (k : Kind) (ts : List Token) → kind_of (first ts) ≡ k
      → Beyond n (length ts) (statement_with is_name expression branching looping k ts) (statement_with is_name expression' branching' looping' k ts)
  unfolding statement_with
  kinds kind.Null ts h = null n ts
  kinds kind.If ts h = branches ts h
  kinds kind.For ts h = loops ts h
  kinds kind.Exit ts h = exit n is_name expression expression' one ts
  kinds kind.Work ts h = work n ts
  kinds kind.Put ts h = put n is_name expression expression' one ts
  kinds kind.Named ts h = named n is_name expression expression' one ts

  pub widens-kinds : Widens n (pick_at kind_of (statement_with is_name expression branching looping))
      (pick_at kind_of (statement_with is_name expression' branching' looping'))
  widens-kinds = widens-pick kind_of kinds

pub widens-block-with : (n : ℕ) (is_name : Name → Bool) (statement statement' : StatementReader) → Widens n statement statement'
    → Widens n (block_with is_name statement) (block_with is_name statement')
unfolding block_with
widens-block-with n is_name statement statement' one
    = widens-then one (λ s. widens-then (widens-many (begins_statement is_name) one) (λ ss. widens-pure n (statements_of (s ∷ ss))))

-- some reader that this one widens
record WidenedStatement (n : ℕ) (s : StatementReader) : Type 0 where
  pub from : StatementReader
  pub widens : Widens n from s

module _ (is_name : Name → Bool) (most more : ℕ) (h : most < more) where
  abbrev blocks : StatementReader → BlockReader
  blocks = block_with is_name

  inner : (n : ℕ) (s s' : StatementReader) → Widens n s s' → Widens n (blocks s) (blocks s')
  inner n s s' one = widens-block-with n is_name s s' one

  -- one nesting, where both go on, and where the first is at its limit
  open_step : (n : ℕ) (expression expression' inside inside' : ExpressionReader) (s s' : StatementReader) → Widens (suc n) expression expression'
      → Widens n inside inside' → Widens n s s' →
      Widens (suc n) (pick_at kind_of (statement_with is_name expression (if_at inside (blocks s)) (for_at is_name (blocks s))))
      (pick_at kind_of (statement_with is_name expression' (if_at inside' (blocks s')) (for_at is_name (blocks s'))))
  open_step n expression expression' inside inside' s s' one two three =
      widens-kinds (suc n) is_name expression expression' one _ _ _ _
      (λ ts k. widens-if n is_name inside inside' two (blocks s) (blocks s') (inner n s s' three) ts)
      (λ ts k. widens-for n is_name inside inside' two (blocks s) (blocks s') (inner n s s' three) ts)

  closed_step : (n : ℕ) (expression expression' inside inside' : ExpressionReader) (s s' : StatementReader) → Widens (suc n) expression expression'
      → Widens n inside inside' → Widens n s s' →
      Widens (suc n) (pick_at kind_of (statement_with is_name expression deep_at deep_at))
      (pick_at kind_of (statement_with is_name expression' (if_at inside' (blocks s')) (for_at is_name (blocks s'))))
  closed_step n expression expression' inside inside' s s' one two three =
      widens-kinds (suc n) is_name expression expression' one _ _ _ _
      (λ ts k. deep-beyond ts (if_at inside (blocks s)) (if_at inside' (blocks s'))
      (if-goes n is_name inside inside' two (blocks s) (blocks s') (inner n s s' three) ts (if_next (first ts) k))
      (widens-if n is_name inside inside' two (blocks s) (blocks s') (inner n s s' three) ts))
      (λ ts k. deep-beyond ts (for_at is_name (blocks s)) (for_at is_name (blocks s'))
      (for-goes n is_name inside inside' two (blocks s) (blocks s') (inner n s s' three) ts (for_next (first ts) k))
      (widens-for n is_name inside inside' two (blocks s) (blocks s') (inner n s s' three) ts))

  -- enough nesting for as many tokens
  statement-widened : (deeper n : ℕ) → n ≤ deeper → n ≤ more → WidenedStatement n (statement_at is_name more deeper)
  unfolding statement_at
  statement-widened zero n a b =
      let z : n ≡ 0 = omega arith in
      let e = expression-widened is_name most more h zero 0 (omega arith) (omega arith) in
      rw z (record {
        from = pick_at kind_of (statement_with is_name e.from past_at past_at);
        widens = widens-kinds 0 is_name e.from (expression_at is_name more zero) e.widens past_at deep_at past_at deep_at (λ ts k.
            widens-past ts) (λ ts k. widens-past ts);
      })
  statement-widened (suc deeper) zero a b =
      let e = expression-widened is_name most more h (suc deeper) 0 (omega arith) (omega arith) in
      let i = expression-widened is_name most more h deeper 0 (omega arith) (omega arith) in
      let x = statement-widened deeper 0 (omega arith) (omega arith) in
      record {
        from = pick_at kind_of (statement_with is_name e.from (if_at i.from (blocks x.from)) (for_at is_name (blocks x.from)));
        widens = widens-kinds 0 is_name e.from (expression_at is_name more (suc deeper)) e.widens _ _ _ _
            (λ ts k. widens-fewer 1 0 (omega arith) (widens-if 0 is_name i.from (expression_at is_name more deeper) i.widens (blocks x.from)
            (blocks (statement_at is_name more deeper)) (inner 0 x.from _ x.widens)) ts)
            (λ ts k. widens-fewer 1 0 (omega arith) (widens-for 0 is_name i.from (expression_at is_name more deeper) i.widens (blocks x.from)
            (blocks (statement_at is_name more deeper)) (inner 0 x.from _ x.widens)) ts);
      }
  statement-widened (suc deeper) (suc n) a b =
      let e = expression-widened is_name most more h (suc deeper) (suc n) a b in
      let i = expression-widened is_name most more h deeper n (omega arith) (omega arith) in
      let x = statement-widened deeper n (omega arith) (omega arith) in
      record {
        from = pick_at kind_of (statement_with is_name e.from (if_at i.from (blocks x.from)) (for_at is_name (blocks x.from)));
        widens = open_step n e.from (expression_at is_name more (suc deeper)) i.from (expression_at is_name more deeper) x.from (statement_at is_name
            more deeper) e.widens i.widens x.widens;
      }

  pub widens-statement : (deeper further n : ℕ) → deeper < further → n ≤ further → n ≤ more
      → Widens n (statement_at is_name most deeper) (statement_at is_name more further)
  unfolding statement_at
  widens-statement deeper zero n a b c = absurd (omega arith)
  widens-statement zero (suc further) n a b c =
      let e = widens-expression is_name most more h zero (suc further) (suc (n - 1)) (omega arith) (omega arith) (omega arith) in
      let i = expression-widened is_name most more h further (n - 1) (omega arith) (omega arith) in
      let x = statement-widened further (n - 1) (omega arith) (omega arith) in
      widens-fewer (suc (n - 1)) n (omega arith) (closed_step (n - 1) (expression_at is_name most zero)
      (expression_at is_name more (suc further)) i.from (expression_at is_name more further) x.from
      (statement_at is_name more further) e i.widens x.widens)
  widens-statement (suc deeper) (suc further) n a b c =
      let e = widens-expression is_name most more h (suc deeper) (suc further) (suc (n - 1)) (omega arith) (omega arith) (omega arith) in
      let i = widens-expression is_name most more h deeper further (n - 1) (omega arith) (omega arith) (omega arith) in
      let x = widens-statement deeper further (n - 1) (omega arith) (omega arith) (omega arith) in
      widens-fewer (suc (n - 1)) n (omega arith) (open_step (n - 1) (expression_at is_name most (suc deeper))
      (expression_at is_name more (suc further)) (expression_at is_name most deeper) (expression_at is_name more further)
      (statement_at is_name most deeper) (statement_at is_name more further) e i x)

  pub widens-block : (deeper further n : ℕ) → deeper < further → n ≤ further → n ≤ more
      → Widens n (block_at is_name most deeper) (block_at is_name more further)
  widens-block deeper further n a b c = widens-block-with n is_name (statement_at is_name most deeper) (statement_at is_name more further)
      (widens-statement deeper further n a b c)
