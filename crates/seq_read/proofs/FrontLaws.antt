-- Blocks and expressions by themselves: what their readers answer is how far the tokens go on as one.
use Rattle.std.proofs.Common.{◌≡◌, ℕ, ◌+◌, ◌-◌, ◌<◌, ◌≤◌, Bool, true, false, cond, List, ◌∷◌, ◌++◌, length, take, codes, Option, Some, None, Ok}
use Rattle.std.proofs.Common.{Err, ◌⊎◌, inl, inr, refl, sym, ap, ◌∙◌, arith, append_assoc, append-nil}
use Rattle.grammar.specs.Reading.{Syntax, TooDeep, Read, Reads, Widens}
use Rattle.grammar.proofs.Shared.Laws.{reads-same}
use Rattle.seq_tree.specs.Reach.{IsDepthFault}
use Rattle.seq_tree.specs.Expressions.{Expression, Number}
use Rattle.seq_tree.specs.Statements.{Statement, Statements, Null, Assign, If, For, ExitWhen, Work, Put, End, Then, Nothing, When}
use Rattle.seq_tree.specs.Spelling.{expression_tokens, block_tokens}
use Rattle.seq_tree.specs.Proper.{IsProperExpression, IsProperStatement, IsProperBlock, AreProperStatements, is_block_name, without_limits}
use Rattle.seq_tree.specs.declared.token.Token.{Token}
use Rattle.seq_tree.specs.declared.token.Token.TheVariants as token
use Rattle.token_read.specs.Readers.{next_is}
use Rattle.token_read.proofs.Shared.TokenLaws.{same_is}
use Rattle.seq_read.specs.declared.statements.Kind.TheVariants as kind
use Rattle.seq_read.specs.Expressions.{expression_at}
use Rattle.seq_read.specs.Statements.{kind_of, next_is_name, has_word, begins_statement, block_at}
use Rattle.seq_read.specs.Fronts.{IsLongest, IsFrontSyntaxFault}
use Rattle.seq_read.specs.Texts.{IsBlockText, SomeBlock, AnyBlock, IsExpressionText, SomeExpression, AnyExpression}
use Rattle.seq_read.proofs.Stopping.{StopsWhole, stops_whole}
use Rattle.seq_read.proofs.Shared.ChainLevels.{bounds}
use Rattle.seq_read.proofs.Shared.ExpressionLaws.{reads-expression}
use Rattle.seq_read.proofs.ExpressionWidening.{widens-expression}
use Rattle.seq_read.proofs.Shared.StatementTokens.{w, statement_toks, block_toks, block-spelled}
use Rattle.seq_read.proofs.Shared.StatementLaws.{Reserves}
use Rattle.seq_read.proofs.Shared.BlockLaws.{reads-block}
use Rattle.seq_read.proofs.Shared.StatementWidening.{widens-block}
use Rattle.seq_read.proofs.Shared.Bounds.{extent, extent_block, bound-expression, bound-block, free-expression, free-block}
use Rattle.seq_read.proofs.GoingOn.{goes-on}
use Rattle.seq_read.proofs.Shared.Reaches.{longest, longest_text, too-deep, front-syntax-fault}

reserves : Reserves is_block_name
reserves = record {
  not_ = refl;
  null_ = refl;
  if_ = refl;
  for_ = refl;
  exit_ = refl;
  work_ = refl;
  put_ = refl;
  end_ = refl;
  elsif_ = refl;
  else_ = refl;
}

-- where an expression stops at the end of the tokens
ends_whole : (e : Expression) → StopsWhole e None
ends_whole e = stops_whole e None (λ c. refl)

-- EXPRESSIONS
module _ (depth : ℕ) (within : depth ≤ 64) where
  abbrev IsIn : ℕ → Expression → List Token → Type 0
  IsIn n e ts = IsProperExpression (bounds is_block_name n n) depth e × (ts ≡ expression_tokens e)

  abbrev reader : ℕ → List Token → Read Token Expression
  reader n = expression_at is_block_name n (n - depth)

  reads_in : (n : ℕ) → 64 < n → Reads (IsIn n) StopsWhole (reader n)
  reads_in n h = reads-expression is_block_name reserves.not_ (codes "a") refl n n (omega (arith, h)) (n - depth) depth (omega (arith, h, within))

  pub reads_limited : Reads (IsExpressionText depth) StopsWhole (expression_at is_block_name 32 (64 - depth))
  reads_limited = reads-expression is_block_name reserves.not_ (codes "a") refl 64 32 (omega arith) (64 - depth) depth (omega (arith, within))

  widens_limited : (n : ℕ) → 64 < n → Widens (n - 64) (expression_at is_block_name 32 (64 - depth)) (reader n)
  widens_limited n h = widens-expression is_block_name 32 n (omega (arith, h)) (64 - depth) (n - depth) (n - 64) (omega (arith, h, within))
      (omega (arith, h, within)) (omega (arith, h))

  widens_in : (n m : ℕ) → 64 < n → n < m → Widens (m - 64) (reader n) (reader m)
  widens_in n m h k = widens-expression is_block_name n m k (n - depth) (m - depth) (m - 64) (omega (arith, h, k, within))
      (omega (arith, h, k, within)) (omega (arith, h, k))

  expression_in : (ts : List Token) → AnyExpression depth ts → (n : ℕ) × ((m : ℕ) → n ≤ m → (e : Expression) × IsIn m e ts)
  expression_in ts x = (depth + extent x.0, λ m h. (x.0, (bound-expression is_block_name m depth x.0 h x.1, x.2)))

  goes : (n : ℕ) (e : Expression) (text : List Token) (t : Token) → 64 < n → IsIn n e text
      → StopsWhole e (Some t) ⊎ ((more : List Token) × AnyExpression depth (text ++ t ∷ more))
  goes n e text t h p =
      elim (goes-on is_block_name depth e t (free-expression is_block_name n n depth e p.0)) [
        | inl s ↦ inl s
        | inr f ↦ inr (f.more, (f.longer, f.proper, ap (λ us. us ++ t ∷ f.more) p.1 ∙ sym f.spelled))
      ]

  pub expression-longest : (ts : List Token) (e : Expression) (rest : List Token) → expression_at is_block_name 32 (64 - depth) ts ≡ Ok (e, rest)
      → IsLongest (AnyExpression depth) (SomeExpression depth) ts (length ts - length rest)
  expression-longest = longest StopsWhole ends_whole (IsExpressionText depth) (expression_at is_block_name 32 (64 - depth)) reads_limited IsIn reader
      64 reads_in widens_limited widens_in (AnyExpression depth) (SomeExpression depth)
      (λ ts x. x) (λ e ts g. (e, g)) expression_in (λ n e ts h g. (e, free-expression is_block_name n n depth e g.0, g.1))

  pub expression-text : (ts : List Token) (e : Expression) (rest : List Token) → expression_at is_block_name 32 (64 - depth) ts ≡ Ok (e, rest)
      → IsExpressionText depth e (take (length ts - length rest) ts)
  expression-text = longest_text StopsWhole ends_whole (IsExpressionText depth) (expression_at is_block_name 32 (64 - depth)) reads_limited IsIn
      reader 64 reads_in widens_limited widens_in (AnyExpression depth) (SomeExpression depth)
      (λ ts x. x) (λ e ts g. (e, g)) expression_in (λ n e ts h g. (e, free-expression is_block_name n n depth e g.0, g.1))

  pub expression-deep : (ts : List Token) (left : ℕ) → expression_at is_block_name 32 (64 - depth) ts ≡ Err (TooDeep left)
      → IsDepthFault (AnyExpression depth) (SomeExpression depth) ts (length ts - left)
  expression-deep = too-deep StopsWhole ends_whole (IsExpressionText depth) (expression_at is_block_name 32 (64 - depth)) reads_limited IsIn reader 64
      reads_in widens_limited widens_in (AnyExpression depth) (SomeExpression depth)
      (λ ts x. x) (λ e ts g. (e, g)) expression_in (λ n e ts h g. (e, free-expression is_block_name n n depth e g.0, g.1))

  pub expression-stuck : (ts : List Token) (left : ℕ) → expression_at is_block_name 32 (64 - depth) ts ≡ Err (Syntax left)
      → IsFrontSyntaxFault (AnyExpression depth) (SomeExpression depth) ts (length ts - left)
  expression-stuck = front-syntax-fault StopsWhole ends_whole (IsExpressionText depth) (expression_at is_block_name 32 (64 - depth)) reads_limited
      IsIn reader 64 reads_in widens_limited widens_in (AnyExpression depth) (SomeExpression depth)
      (λ ts x. x) (λ e ts g. (e, g)) expression_in (λ n e ts h g. (e, free-expression is_block_name n n depth e g.0, g.1)) goes

-- BLOCKS
-- a statement behind the others
snoc : Statements → Statement → Statements
snoc End s = Then s End
snoc (Then first rest) s = Then first (snoc rest s)

snoc-tokens : (b : Statements) (s : Statement) → block_toks (snoc b s) ≡ block_toks b ++ statement_toks s
unfolding snoc
snoc-tokens End s = append-nil (statement_toks s)
snoc-tokens (Then first rest) s = ap (λ us. statement_toks first ++ us) (snoc-tokens rest s) ∙ sym
    (append_assoc (statement_toks first) (block_toks rest) (statement_toks s))

module _ (depth : ℕ) where
  snoc_rest : (b : Statements) (s : Statement) → AreProperStatements (without_limits is_block_name) depth b
      → IsProperStatement (without_limits is_block_name) depth s → AreProperStatements (without_limits is_block_name) depth (snoc b s)
  unfolding snoc
  snoc_rest End s p q = (q, tt)
  snoc_rest (Then first rest) s p q = (p.0, snoc_rest rest s p.1 q)

  snoc_proper : (b : Statements) (s : Statement) → IsProperBlock (without_limits is_block_name) depth b
      → IsProperStatement (without_limits is_block_name) depth s → IsProperBlock (without_limits is_block_name) depth (snoc b s)
  unfolding snoc
  snoc_proper End s p q = absurd p
  snoc_proper (Then first rest) s p q = (p.0, snoc_rest rest s p.1 q)

  -- a statement that begins with a token
  record Begun (t : Token) : Type 0 where
    pub statement : Statement
    pub more : List Token
    pub proper : IsProperStatement (without_limits is_block_name) depth statement
    pub spelled : statement_toks statement ≡ t ∷ more

  begun_word : (text : List ℕ) (s : Statement) (more : List Token) (t : Token) → next_is (w text) (Some t) ≡ true
      → IsProperStatement (without_limits is_block_name) depth s → statement_toks s ≡ w text ∷ more → Begun t
  begun_word text s more t h p e = record { statement = s; more = more; proper = p; spelled = e ∙ ap (λ u. u ∷ more) (sym (same_is t (w text) h)) }

  begun_name : (t : Token) → next_is_name is_block_name (Some t) ≡ true → Begun t
  unfolding next_is_name
  begun_name (token.Word name) h = record { statement = Assign name (Number 0); more = _; proper = (h, tt); spelled = refl }
  begun_name (token.Number n) h = absurd (cc)
  begun_name (token.Sign m) h = absurd (cc)

  begun : (t : Token) → begins_statement is_block_name (Some t) ≡ true → Begun t
  unfolding begins_statement kind_of
  begun t h = at_null (next_is (w (codes "null")) (Some t)) refl h where
    named : cond (has_word kind.Named) true (next_is_name is_block_name (Some t)) ≡ true → Begun t
    named k = begun_name t k

    at_put : (b : Bool) → next_is (w (codes "put")) (Some t) ≡ b
        → cond (has_word (cond b kind.Put kind.Named)) true (next_is_name is_block_name (Some t)) ≡ true → Begun t
    at_put true e k = begun_word (codes "put") (Put (Number 0)) _ t e tt refl
    at_put false e k = named k

    at_work : (b : Bool) → next_is (w (codes "work")) (Some t) ≡ b
        → cond (has_word (cond b kind.Work (cond (next_is (w (codes "put")) (Some t)) kind.Put kind.Named))) true
        (next_is_name is_block_name (Some t)) ≡ true → Begun t
    at_work true e k = begun_word (codes "work") (Work 0) _ t e tt refl
    at_work false e k = at_put (next_is (w (codes "put")) (Some t)) refl k

    at_exit : (b : Bool) → next_is (w (codes "exit")) (Some t) ≡ b →
        cond (has_word (cond b kind.Exit (cond (next_is (w (codes "work")) (Some t)) kind.Work
        (cond (next_is (w (codes "put")) (Some t)) kind.Put kind.Named)))) true (next_is_name is_block_name (Some t)) ≡ true → Begun t
    at_exit true e k = begun_word (codes "exit") (ExitWhen (Number 0)) _ t e tt refl
    at_exit false e k = at_work (next_is (w (codes "work")) (Some t)) refl k

    at_for : (b : Bool) → next_is (w (codes "for")) (Some t) ≡ b →
        cond (has_word (cond b kind.For (cond (next_is (w (codes "exit")) (Some t)) kind.Exit
        (cond (next_is (w (codes "work")) (Some t)) kind.Work (cond (next_is (w (codes "put")) (Some t)) kind.Put kind.Named))))) true
        (next_is_name is_block_name (Some t)) ≡ true → Begun t
    at_for true e k = begun_word (codes "for") (For (codes "a") 0 0 (Then Null End)) _ t e (refl, refl, (tt, tt)) refl
    at_for false e k = at_exit (next_is (w (codes "exit")) (Some t)) refl k

    at_if : (b : Bool) → next_is (w (codes "if")) (Some t) ≡ b →
        cond (has_word (cond b kind.If (cond (next_is (w (codes "for")) (Some t)) kind.For
        (cond (next_is (w (codes "exit")) (Some t)) kind.Exit (cond (next_is (w (codes "work")) (Some t)) kind.Work
        (cond (next_is (w (codes "put")) (Some t)) kind.Put kind.Named)))))) true (next_is_name is_block_name (Some t)) ≡ true → Begun t
    at_if true e k = begun_word (codes "if") (If (When (Number 0) (Then Null End) Nothing)) _ t e (refl, (tt, (tt, tt), tt)) refl
    at_if false e k = at_for (next_is (w (codes "for")) (Some t)) refl k

    at_null : (b : Bool) → next_is (w (codes "null")) (Some t) ≡ b →
        cond (has_word (cond b kind.Null (cond (next_is (w (codes "if")) (Some t)) kind.If
        (cond (next_is (w (codes "for")) (Some t)) kind.For (cond (next_is (w (codes "exit")) (Some t)) kind.Exit
        (cond (next_is (w (codes "work")) (Some t)) kind.Work (cond (next_is (w (codes "put")) (Some t)) kind.Put kind.Named))))))) true
        (next_is_name is_block_name (Some t)) ≡ true → Begun t
    at_null true e k = begun_word (codes "null") Null _ t e tt refl
    at_null false e k = at_if (next_is (w (codes "if")) (Some t)) refl k

module _ (depth : ℕ) (within : depth ≤ 64) where
  abbrev IsBlockIn : ℕ → Statements → List Token → Type 0
  IsBlockIn n b ts = IsProperBlock (bounds is_block_name n n) depth b × (ts ≡ block_tokens b)

  abbrev Ends : Statements → Option Token → Type 0
  Ends b o = begins_statement is_block_name o ≡ false

  abbrev block_reader : ℕ → List Token → Read Token Statements
  block_reader n = block_at is_block_name n (n - depth)

  blocks_in : (n : ℕ) → 64 < n → Reads (IsBlockIn n) Ends (block_reader n)
  blocks_in n h = reads-same _ (IsBlockIn n) Ends (block_reader n) (λ b ts g. (g.0, g.1 ∙ sym (block-spelled b)))
      (λ b ts g. (g.0, g.1 ∙ block-spelled b))
      (reads-block is_block_name reserves (codes "a") refl n n (omega (arith, h)) (n - depth) depth (omega (arith, h, within)))

  pub blocks_limited : Reads (IsBlockText depth) Ends (block_at is_block_name 32 (64 - depth))
  blocks_limited = reads-same _ (IsBlockText depth) Ends (block_at is_block_name 32 (64 - depth)) (λ b ts g. (g.0, g.1 ∙ sym (block-spelled b)))
      (λ b ts g. (g.0, g.1 ∙ block-spelled b))
      (reads-block is_block_name reserves (codes "a") refl 64 32 (omega arith) (64 - depth) depth (omega (arith, within)))

  block_widens_limited : (n : ℕ) → 64 < n → Widens (n - 64) (block_at is_block_name 32 (64 - depth)) (block_reader n)
  block_widens_limited n h = widens-block is_block_name 32 n (omega (arith, h)) (64 - depth) (n - depth) (n - 64) (omega (arith, h, within))
      (omega (arith, h, within)) (omega (arith, h))

  block_widens_in : (n m : ℕ) → 64 < n → n < m → Widens (m - 64) (block_reader n) (block_reader m)
  block_widens_in n m h k = widens-block is_block_name n m k (n - depth) (m - depth) (m - 64) (omega (arith, h, k, within))
      (omega (arith, h, k, within)) (omega (arith, h, k))

  block_in : (ts : List Token) → AnyBlock depth ts → (n : ℕ) × ((m : ℕ) → n ≤ m → (b : Statements) × IsBlockIn m b ts)
  block_in ts x = (depth + extent_block x.0, λ m h. (x.0, (bound-block is_block_name m depth x.0 h x.1, x.2)))

  block_out : (n : ℕ) (b : Statements) (ts : List Token) → 64 < n → IsBlockIn n b ts → AnyBlock depth ts
  block_out n b ts h g = (b, free-block is_block_name n n depth b g.0, g.1)

  ends_block : (b : Statements) → Ends b None
  unfolding begins_statement kind_of next_is_name
  ends_block b = refl

  block_goes : (n : ℕ) (b : Statements) (text : List Token) (t : Token) → 64 < n → IsBlockIn n b text
      → Ends b (Some t) ⊎ ((more : List Token) × AnyBlock depth (text ++ t ∷ more))
  block_goes n b text t h p = of (begins_statement is_block_name (Some t)) refl where
    of : (c : Bool) → begins_statement is_block_name (Some t) ≡ c → Ends b (Some t) ⊎ ((more : List Token) × AnyBlock depth (text ++ t ∷ more))
    of false e = inl e
    of true e =
        let s = begun depth t e in
        let tokens : text ++ t ∷ s.more ≡ block_tokens (snoc b s.statement) =
        ap (λ us. us ++ t ∷ s.more) (p.1 ∙ block-spelled b) ∙ ap (λ us. block_toks b ++ us) (sym s.spelled) ∙ sym (snoc-tokens b s.statement) ∙ sym
        (block-spelled (snoc b s.statement)) in
        inr (s.more, (snoc b s.statement, snoc_proper depth b s.statement (free-block is_block_name n n depth b p.0) s.proper, tokens))

  pub block-longest : (ts : List Token) (b : Statements) (rest : List Token) → block_at is_block_name 32 (64 - depth) ts ≡ Ok (b, rest)
      → IsLongest (AnyBlock depth) (SomeBlock depth) ts (length ts - length rest)
  block-longest = longest Ends ends_block (IsBlockText depth) (block_at is_block_name 32 (64 - depth)) blocks_limited IsBlockIn block_reader 64
      blocks_in block_widens_limited block_widens_in (AnyBlock depth) (SomeBlock depth)
      (λ ts x. x) (λ b ts g. (b, g)) block_in block_out

  pub block-text : (ts : List Token) (b : Statements) (rest : List Token) → block_at is_block_name 32 (64 - depth) ts ≡ Ok (b, rest)
      → IsBlockText depth b (take (length ts - length rest) ts)
  block-text = longest_text Ends ends_block (IsBlockText depth) (block_at is_block_name 32 (64 - depth)) blocks_limited IsBlockIn block_reader 64
      blocks_in block_widens_limited block_widens_in (AnyBlock depth) (SomeBlock depth)
      (λ ts x. x) (λ b ts g. (b, g)) block_in block_out

  pub block-deep : (ts : List Token) (left : ℕ) → block_at is_block_name 32 (64 - depth) ts ≡ Err (TooDeep left)
      → IsDepthFault (AnyBlock depth) (SomeBlock depth) ts (length ts - left)
  block-deep = too-deep Ends ends_block (IsBlockText depth) (block_at is_block_name 32 (64 - depth)) blocks_limited IsBlockIn block_reader 64
      blocks_in block_widens_limited block_widens_in (AnyBlock depth) (SomeBlock depth)
      (λ ts x. x) (λ b ts g. (b, g)) block_in block_out

  pub block-stuck : (ts : List Token) (left : ℕ) → block_at is_block_name 32 (64 - depth) ts ≡ Err (Syntax left)
      → IsFrontSyntaxFault (AnyBlock depth) (SomeBlock depth) ts (length ts - left)
  block-stuck = front-syntax-fault Ends ends_block (IsBlockText depth) (block_at is_block_name 32 (64 - depth)) blocks_limited IsBlockIn block_reader
      64 blocks_in block_widens_limited block_widens_in (AnyBlock depth) (SomeBlock depth)
      (λ ts x. x) (λ b ts g. (b, g)) block_in block_out block_goes
