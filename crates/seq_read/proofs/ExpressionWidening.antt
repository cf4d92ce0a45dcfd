-- Readers of expressions with limits, against those with wider ones.
use Rattle.std.proofs.Common.{◌≡◌, ℕ, zero, suc, ◌<◌, ◌≤◌, Bool, true, false, List, [], ◌∷◌, length, codes, Option, Some, None, is_some, Ok}
use Rattle.std.proofs.Common.{refl, arith}
use Rattle.grammar.specs.Reading.{first, then_at, pure_at, choose_at, token_at, deep_at, GoesOn, Widens}
use Rattle.grammar.proofs.Shared.Widening.{widens-fewer, widens-token, widens-pure, widens-then, widens-behind, goes-behind, widens-pick}
use Rattle.grammar.proofs.Shared.Widening.{widens-choose}
use Rattle.grammar.proofs.Shared.Widening.{widens-deep, past_at, widens-past}
use Rattle.seq_tree.specs.Names.{Name}
use Rattle.seq_tree.specs.Expressions.{Expression, Number, Variable, Paren, Not, Binary}
use Rattle.seq_tree.specs.declared.tree.BinOp.{BinOp}
use Rattle.seq_tree.specs.declared.token.Token.{Token}
use Rattle.seq_tree.specs.declared.token.Token.TheVariants as token
use Rattle.seq_tree.specs.declared.token.Mark.TheVariants.{LeftParen, RightParen}
use Rattle.token_read.specs.Readers.{fixed_at, sees_fixed, next_is, next_is_number}
use Rattle.seq_read.specs.declared.operators.Class.{Class}
use Rattle.seq_read.specs.declared.operators.Class.TheVariants as class
use Rattle.seq_read.specs.Operators.{sees_operator, begins, logical_class}
use Rattle.seq_read.specs.Expressions.{ExpressionReader, paren_at, literal_at, variable_at, primary_at, inverse_at, factor_at, chain_at, term_at}
use Rattle.seq_read.specs.Expressions.{simple_at, comparison_at, relation_at, logic_at, whole_expression_at, expression_at}
use Rattle.seq_read.proofs.Shared.TokenWidening.{widens-fixed, widens-number, widens-name}

-- a token that is there is taken
pub takes-seen : {A : Type 0} (sees : Token → Option A) (ts : List Token) (t : Token) (us : List Token) (a : A) → ts ≡ t ∷ us → sees t ≡ Some a
    → token_at sees ts ≡ Ok (a, us)
takes-seen sees ts t us a at e = rw (at, e) refl

-- the token that is next
pub record Next (test : Option Token → Bool) (ts : List Token) : Type 0 where
  pub token : Token
  pub rest : List Token
  pub at : ts ≡ token ∷ rest
  pub passes : test (Some token) ≡ true

pub next_of : (test : Option Token → Bool) → test None ≡ false → (ts : List Token) → test (first ts) ≡ true → Next test ts
next_of test none [] h = absurd (cc)
next_of test none (t ∷ us) h = record { token = t; rest = us; at = refl; passes = h }

some_of : {A : Type 0} (o : Option A) → is_some o ≡ true → (a : A) × (o ≡ Some a)
some_of None h = absurd (cc)
some_of (Some a) h = (a, refl)

-- an operator that is next is passed
passes-operator : {n : ℕ} (c : Class) {f g : BinOp → ExpressionReader} → ((o : BinOp) → Widens n (f o) (g o)) → (ts : List Token)
    → begins c (first ts) ≡ true →
    GoesOn (length ts) (then_at (token_at (sees_operator c)) g ts)
passes-operator c {f} {g} two ts h =
    let x = next_of (begins c) refl ts h in
    let o = some_of (sees_operator c x.token) x.passes in
    goes-behind (sees_operator c) {f = f} two ts (o.0, x.rest) (takes-seen (sees_operator c) ts x.token x.rest o.0 x.at o.1)

-- CHAINS
module _ (c : Class) (operand operand' : ExpressionReader) (n : ℕ) (one : Widens n operand operand') where
  -- a chain with no room before its limit
  before_at : ℕ → Expression → ExpressionReader
  before_at zero e = choose_at (begins c) past_at (pure_at e)
  before_at (suc most) e = choose_at (begins c) (then_at (token_at (sees_operator c)) (λ o. then_at operand (λ f. before_at most (Binary o e f))))
      (pure_at e)

  behind : (m : ℕ) → m ≤ n → (f g : Expression → ExpressionReader) → ((e : Expression) → Widens m (f e) (g e)) → (e : Expression) (o : BinOp)
      → Widens m (then_at operand (λ x. f (Binary o e x))) (then_at operand' (λ x. g (Binary o e x)))
  behind m h f g two e o = widens-then (widens-fewer n m h one) (λ x. two (Binary o e x))

  -- enough room for as many tokens
  before : (most m : ℕ) → m ≤ most → m ≤ n → (e : Expression) → Widens m (before_at most e) (chain_at c operand' most e)
  unfolding before_at chain_at
  before zero m h k e = let z : m ≡ 0 = omega arith in rw z (widens-choose (begins c) widens-past (widens-pure 0 e))
  before (suc most) zero h k e =
      widens-choose (begins c) (widens-then (widens-token 0 (sees_operator c))
      (λ o. behind 0 k (before_at most) (chain_at c operand' most) (before most 0 (omega arith) k) e o)) (widens-pure 0 e)
  before (suc most) (suc m) h k e =
      widens-choose (begins c) (widens-behind (sees_operator c) (λ o. behind m (omega arith) (before_at most) (chain_at c operand' most)
      (before most m (omega arith) (omega arith)) e o)) (widens-pure (suc m) e)

  pub widens-chain : (most more m : ℕ) → most < more → m ≤ more → m ≤ n → (e : Expression)
      → Widens m (chain_at c operand most e) (chain_at c operand' more e)
  unfolding before_at chain_at
  widens-chain most zero m h k l e = absurd (omega arith)
  widens-chain zero (suc more) zero h k l e =
      let inner : (o : BinOp) → Widens 0 (then_at operand (λ x. before_at more (Binary o e x)))
      (then_at operand' (λ x. chain_at c operand' more (Binary o e x)))
      = λ o. behind 0 l (before_at more) (chain_at c operand' more) (before more 0 (omega arith) l) e o in
      widens-deep (begins c) (passes-operator c inner) (widens-then (widens-token 0 (sees_operator c)) inner) (widens-pure 0 e)
  widens-chain zero (suc more) (suc m) h k l e =
      let inner : (o : BinOp) → Widens m (then_at operand (λ x. before_at more (Binary o e x)))
      (then_at operand' (λ x. chain_at c operand' more (Binary o e x)))
      = λ o. behind m (omega arith) (before_at more) (chain_at c operand' more) (before more m (omega arith) (omega arith)) e o in
      widens-deep (begins c) (passes-operator c inner) (widens-behind (sees_operator c) inner) (widens-pure (suc m) e)
  widens-chain (suc most) (suc more) zero h k l e =
      widens-choose (begins c) (widens-then (widens-token 0 (sees_operator c))
      (λ o. behind 0 l (chain_at c operand most) (chain_at c operand' more) (widens-chain most more 0 (omega arith) (omega arith) l) e o))
      (widens-pure 0 e)
  widens-chain (suc most) (suc more) (suc m) h k l e =
      widens-choose (begins c) (widens-behind (sees_operator c) (λ o. behind m (omega arith) (chain_at c operand most) (chain_at c operand' more)
      (widens-chain most more m (omega arith) (omega arith) (omega arith)) e o)) (widens-pure (suc m) e)

-- LEVELS, over the readers of primaries
module _ (is_name : Name → Bool) (most more n : ℕ) (h : most < more) (k : n ≤ more) (paren paren' : ExpressionReader)
    (primaries : Widens n (primary_at is_name paren) (primary_at is_name paren')) where
  inverse : Widens n (inverse_at is_name paren) (inverse_at is_name paren')
  unfolding inverse_at
  inverse = widens-then (widens-fixed (token.Word (codes "not"))) (λ _. widens-then primaries (λ e. widens-pure n (Not e)))

  factor : Widens n (factor_at is_name paren) (factor_at is_name paren')
  unfolding factor_at
  factor = widens-choose (next_is (token.Word (codes "not"))) inverse primaries

  term : Widens n (term_at is_name most paren) (term_at is_name more paren')
  unfolding term_at
  term = widens-then factor (widens-chain class.Multiplying (factor_at is_name paren) (factor_at is_name paren') n factor most more n h k
      (omega arith))

  simple : Widens n (simple_at is_name most paren) (simple_at is_name more paren')
  unfolding simple_at
  simple = widens-then term (widens-chain class.Adding (term_at is_name most paren) (term_at is_name more paren') n term most more n h k
      (omega arith))

  comparison : (e : Expression) → Widens n (comparison_at is_name most paren e) (comparison_at is_name more paren' e)
  unfolding comparison_at
  comparison e = widens-choose (begins class.Relational) (widens-then (widens-token n (sees_operator class.Relational))
      (λ o. widens-then simple (λ f. widens-pure n (Binary o e f)))) (widens-pure n e)

  relation : Widens n (relation_at is_name most paren) (relation_at is_name more paren')
  unfolding relation_at
  relation = widens-then simple comparison

  logic : (e : Expression) → Widens n (logic_at is_name most paren e) (logic_at is_name more paren' e)
  unfolding logic_at
  logic e = widens-pick logical_class (λ c ts at. widens-chain c (relation_at is_name most paren)
      (relation_at is_name more paren') n relation most more n h k (omega arith) e ts)

  pub widens-levels : Widens n (whole_expression_at is_name most paren) (whole_expression_at is_name more paren')
  unfolding whole_expression_at
  widens-levels = widens-then relation logic

-- NESTING
literal : (n : ℕ) → Widens n literal_at literal_at
unfolding literal_at
literal n = widens-then widens-number (λ m. widens-pure n (Number m))

variable : (n : ℕ) (is_name : Name → Bool) → Widens n (variable_at is_name) (variable_at is_name)
unfolding variable_at
variable n is_name = widens-then (widens-name is_name) (λ name. widens-pure n (Variable name))

atom : (n : ℕ) (is_name : Name → Bool)
    → Widens n (choose_at next_is_number literal_at (variable_at is_name)) (choose_at next_is_number literal_at (variable_at is_name))
atom n is_name = widens-choose next_is_number (literal n) (variable n is_name)

widens-primary : (n : ℕ) (is_name : Name → Bool) (paren paren' : ExpressionReader) → Widens n paren paren'
    → Widens n (primary_at is_name paren) (primary_at is_name paren')
unfolding primary_at
widens-primary n is_name paren paren' one = widens-choose (next_is (token.Sign LeftParen)) one (atom n is_name)

inside : (n : ℕ) (inner inner' : ExpressionReader) → Widens n inner inner' → (a : Unit {0}) →
    Widens n (then_at inner (λ e. then_at (fixed_at (token.Sign RightParen)) (λ _. pure_at (Paren e))))
    (then_at inner' (λ e. then_at (fixed_at (token.Sign RightParen)) (λ _. pure_at (Paren e))))
inside n inner inner' one a = widens-then one (λ e. widens-then (widens-fixed (token.Sign RightParen)) (λ _. widens-pure n (Paren e)))

widens-paren : (n : ℕ) (inner inner' : ExpressionReader) → Widens n inner inner' → Widens (suc n) (paren_at inner) (paren_at inner')
unfolding paren_at fixed_at
widens-paren n inner inner' one = widens-behind (sees_fixed (token.Sign LeftParen)) (inside n inner inner' one)

paren-passes : (n : ℕ) (inner inner' : ExpressionReader) → Widens n inner inner' → (ts : List Token)
    → next_is (token.Sign LeftParen) (first ts) ≡ true → GoesOn (length ts) (paren_at inner' ts)
unfolding paren_at fixed_at
paren-passes n inner inner' one ts h =
    let x = next_of (next_is (token.Sign LeftParen)) refl ts h in
    goes-behind (sees_fixed (token.Sign LeftParen)) (inside n inner inner' one) ts (tt, x.rest)
    (takes-seen (sees_fixed (token.Sign LeftParen)) ts x.token x.rest tt x.at (rw x.passes refl))

widens-closed : (n : ℕ) (is_name : Name → Bool) (inner inner' : ExpressionReader) → Widens n inner inner'
    → Widens (suc n) (primary_at is_name deep_at) (primary_at is_name (paren_at inner'))
unfolding primary_at
widens-closed n is_name inner inner' one = widens-deep (next_is (token.Sign LeftParen)) (paren-passes n inner inner' one)
    (widens-paren n inner inner' one) (atom (suc n) is_name)

-- some reader that this one widens
pub record Widened (n : ℕ) (s : ExpressionReader) : Type 0 where
  pub from : ExpressionReader
  pub widens : Widens n from s

module _ (is_name : Name → Bool) (most more : ℕ) (h : most < more) where
  -- enough nesting for as many tokens
  pub expression-widened : (deeper n : ℕ) → n ≤ deeper → n ≤ more → Widened n (expression_at is_name more deeper)
  unfolding expression_at
  expression-widened zero n a b =
      let z : n ≡ 0 = omega arith in
      rw z (record {
        from = whole_expression_at is_name most past_at;
        widens = widens-levels is_name most more 0 h (omega arith) past_at deep_at (widens-primary 0 is_name past_at deep_at widens-past);
      })
  expression-widened (suc deeper) zero a b =
      let w = expression-widened deeper 0 (omega arith) (omega arith) in
      record {
        from = whole_expression_at is_name most (paren_at w.from);
        widens = widens-levels is_name most more 0 h (omega arith) (paren_at w.from) (paren_at (expression_at is_name more deeper))
            (widens-primary 0 is_name _ _ (widens-fewer 1 0 (omega arith) (widens-paren 0 w.from (expression_at is_name more deeper) w.widens)));
      }
  expression-widened (suc deeper) (suc n) a b =
      let w = expression-widened deeper n (omega arith) (omega arith) in
      record {
        from = whole_expression_at is_name most (paren_at w.from);
        widens = widens-levels is_name most more (suc n) h b (paren_at w.from) (paren_at (expression_at is_name more deeper))
            (widens-primary (suc n) is_name _ _ (widens-paren n w.from (expression_at is_name more deeper) w.widens));
      }

  pub widens-expression : (deeper further n : ℕ) → deeper < further → n ≤ further → n ≤ more
      → Widens n (expression_at is_name most deeper) (expression_at is_name more further)
  unfolding expression_at
  widens-expression deeper zero n a b c = absurd (omega arith)
  widens-expression zero (suc further) zero a b c =
      let w = expression-widened further 0 (omega arith) (omega arith) in
      widens-levels is_name most more 0 h (omega arith) deep_at (paren_at (expression_at is_name more further))
      (widens-fewer 1 0 (omega arith) (widens-closed 0 is_name w.from (expression_at is_name more further) w.widens))
  widens-expression zero (suc further) (suc n) a b c =
      let w = expression-widened further n (omega arith) (omega arith) in
      widens-levels is_name most more (suc n) h c deep_at (paren_at (expression_at is_name more further))
      (widens-closed n is_name w.from (expression_at is_name more further) w.widens)
  widens-expression (suc deeper) (suc further) zero a b c =
      widens-levels is_name most more 0 h (omega arith) (paren_at (expression_at is_name most deeper)) (paren_at (expression_at is_name more further))
      (widens-primary 0 is_name _ _ (widens-fewer 1 0 (omega arith)
      (widens-paren 0 _ _ (widens-expression deeper further 0 (omega arith) (omega arith) (omega arith)))))
  widens-expression (suc deeper) (suc further) (suc n) a b c =
      widens-levels is_name most more (suc n) h c (paren_at (expression_at is_name most deeper)) (paren_at (expression_at is_name more further))
      (widens-primary (suc n) is_name _ _ (widens-paren n _ _ (widens-expression deeper further n (omega arith) (omega arith) (omega arith))))
