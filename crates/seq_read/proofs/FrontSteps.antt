-- From what a reader answers of the tokens from an index on to what is answered of the whole list.
use Rattle.std.proofs.Common.{◌≡◌, ℕ, ◌+◌, ◌-◌, ◌≤◌, List, length, drop, take, Ok, Err, sym, ap, ◌∙◌, arith, length-append}
use Rattle.std.proofs.lemmas.List.{length-drop, length-map, drop-map}
use Rattle.grammar.specs.Reading.{Halt, Syntax, TooDeep, left_of}
use Rattle.seq_tree.specs.Expressions.{Expression}
use Rattle.seq_tree.specs.Statements.{Statements}
use Rattle.seq_tree.specs.Proper.{is_block_name}
use Rattle.seq_tree.specs.declared.token.Token.{Token}
use Rattle.seq_tree.specs.Reach as reach
use Rattle.seq_tree.specs.declared.token.Spanned.{Spanned}
use Rattle.token_read.specs.Words.{bare}
use Rattle.seq_read.specs.declared.halt.Halt as halts
use Rattle.seq_read.specs.declared.halt.Halt.TheVariants as halt
use Rattle.seq_read.specs.Halts.{Stops}
use Rattle.seq_read.specs.Answers.{Faults, fault_at}
use Rattle.seq_read.specs.Names.{may_name}
use Rattle.seq_read.specs.declared.names.Text.TheVariants.{Plain}
use Rattle.seq_read.specs.Expressions.{expression_at}
use Rattle.seq_read.specs.Statements.{block_at}
use Rattle.seq_read.specs.Texts.{IsBlockText, SomeBlock, AnyBlock, IsExpressionText, SomeExpression, AnyExpression}
use Rattle.seq_read.specs.Fronts.{IsLongest, IsFrontFault}
use Rattle.seq_read.proofs.FrontLaws.{expression-longest, expression-text, expression-deep, expression-stuck, block-longest, block-text}
use Rattle.seq_read.proofs.FrontLaws.{block-deep, block-stuck, reads_limited, blocks_limited}

module _ (depth : ℕ) (within : depth ≤ 64) (from : ℕ) (all : List Token) (inside : from ≤ length all) where
  abbrev here : List Token
  here = drop from all

  -- so many tokens that are left are so many from the index on
  index : (left : ℕ) → left ≤ length here → length all - left ≡ from + (length here - left)
  index left h = omega (arith, length-drop from all, inside, h)

  block_rest : (b : Statements) (rest : List Token) → block_at is_block_name 32 (64 - depth) here ≡ Ok (b, rest) → length rest ≤ length here
  block_rest b rest e = let f = (blocks_limited depth within).sound here b rest e in omega (arith, ap length f.split, length-append f.text rest)

  block_left : (halt : Halt) → block_at is_block_name 32 (64 - depth) here ≡ Err halt → left_of halt ≤ length here
  block_left halt e = let f = (blocks_limited depth within).fault here halt e
      in omega (arith, ap length f.split, length-append f.front f.back, f.place)

  pub block-answered : (b : Statements) (rest : List Token) → block_at (may_name Plain) 32 (64 - depth) here ≡ Ok (b, rest) →
      (place : ℕ) × (length all - length rest ≡ from + place) × IsLongest (AnyBlock depth) (SomeBlock depth) here place
      × IsBlockText depth b (take place here)
  unfolding may_name
  block-answered b rest e = (
    length here - length rest,
    index (length rest) (block_rest b rest
        e),
    block-longest depth within here b rest e,
    block-text depth within here b rest e,
  )

  pub block-halted : (left : ℕ) → block_at (may_name Plain) 32 (64 - depth) here ≡ Err (Syntax left) →
      (place : ℕ) × (length all - left ≡ from + place) × IsFrontFault (AnyBlock depth) (SomeBlock depth) here (reach.Syntax place)
  unfolding may_name
  block-halted left e = (length here - left, index left (block_left (Syntax left) e), block-stuck depth within here left e)

  pub block-too-deep : (left : ℕ) → block_at (may_name Plain) 32 (64 - depth) here ≡ Err (TooDeep left) →
      (place : ℕ) × (length all - left ≡ from + place) × IsFrontFault (AnyBlock depth) (SomeBlock depth) here (reach.TooDeep place)
  unfolding may_name
  block-too-deep left e = (length here - left, index left (block_left (TooDeep left) e), block-deep depth within here left e)

  expression_rest : (x : Expression) (rest : List Token) → expression_at is_block_name 32 (64 - depth) here ≡ Ok (x, rest) → length rest ≤ length here
  expression_rest x rest e = let f = (reads_limited depth within).sound here x rest e in omega (arith, ap length f.split, length-append f.text rest)

  expression_left : (halt : Halt) → expression_at is_block_name 32 (64 - depth) here ≡ Err halt → left_of halt ≤ length here
  expression_left halt e = let f = (reads_limited depth within).fault here halt e
      in omega (arith, ap length f.split, length-append f.front f.back, f.place)

  pub expression-answered : (x : Expression) (rest : List Token) → expression_at (may_name Plain) 32 (64 - depth) here ≡ Ok (x, rest) →
      (place : ℕ) × (length all - length rest ≡ from + place) × IsLongest (AnyExpression depth) (SomeExpression depth) here place
      × IsExpressionText depth x (take place here)
  unfolding may_name
  expression-answered x rest e = (
    length here - length rest,
    index (length rest) (expression_rest x rest
        e),
    expression-longest depth within here x rest e,
    expression-text depth within here x rest e,
  )

  pub expression-halted : (left : ℕ) → expression_at (may_name Plain) 32 (64 - depth) here ≡ Err (Syntax left) →
      (place : ℕ) × (length all - left ≡ from + place) × IsFrontFault (AnyExpression depth) (SomeExpression depth) here (reach.Syntax place)
  unfolding may_name
  expression-halted left e = (length here - left, index left (expression_left (Syntax left) e), expression-stuck depth within here left e)

  pub expression-too-deep : (left : ℕ) → expression_at (may_name Plain) 32 (64 - depth) here ≡ Err (TooDeep left) →
      (place : ℕ) × (length all - left ≡ from + place) × IsFrontFault (AnyExpression depth) (SomeExpression depth) here (reach.TooDeep place)
  unfolding may_name
  expression-too-deep left e = (length here - left, index left (expression_left (TooDeep left) e), expression-deep depth within here left e)

  pub block-told : (stop : halts.Halt) → Stops stop (block_at (may_name Plain) 32 (64 - depth) here)
      → Faults (AnyBlock depth) (SomeBlock depth) from here (fault_at (length all) stop)
  block-told (halt.Syntax left) e = block-halted left e
  block-told (halt.TooDeep left) e = block-too-deep left e
  block-told halt.NoMemory e = tt

  pub expression-told : (stop : halts.Halt) → Stops stop (expression_at (may_name Plain) 32 (64 - depth) here)
      → Faults (AnyExpression depth) (SomeExpression depth) from here (fault_at (length all) stop)
  expression-told (halt.Syntax left) e = expression-halted left e
  expression-told (halt.TooDeep left) e = expression-too-deep left e
  expression-told halt.NoMemory e = tt

-- the tokens from an index on, without their places
pub bare_behind : (from : ℕ) (all back : List Spanned) → back ≡ drop from all → bare back ≡ drop from (bare all)
bare_behind from all back e = ap bare e ∙ sym (drop-map (λ (s : Spanned). s.token) from all)

pub bare_length : (all : List Spanned) → length (bare all) ≡ length all
bare_length all = length-map all (λ (s : Spanned). s.token)
