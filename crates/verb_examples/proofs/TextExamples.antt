-- Examples: what is told of the text of a file, and what the readers of blocks and of expressions answer. Each definition holds of all its
-- parts, and without one of them it doesn't.
use Rattle.std.specs.Prelude.{◌≡◌, ℕ, ◌+◌, ◌-◌, ◌≤◌, ◌<◌, List, take, length, Ok, Err, refl, [], ◌∷◌, map, codes}
use Rattle.std.proofs.Common.{arith}
use Rattle.seq_tree.specs.Reach as reach
use Rattle.seq_tree.specs.Lexis.{tokens, Stray, Great}
use Rattle.seq_tree.specs.Lexis as lexis
use Rattle.seq_tree.specs.Trees.{block_of, expression_of}
use Rattle.seq_tree.specs.declared.tree.Block.{Block}
use Rattle.seq_tree.specs.declared.tree.Expr.{Expr}
use Rattle.seq_tree.specs.declared.token.Token.{Token}
use Rattle.seq_tree.specs.declared.token.Token.TheVariants as token
use Rattle.seq_tree.specs.declared.token.Place.{Place}
use Rattle.seq_tree.specs.declared.token.Spanned.{Spanned}
use Rattle.seq_tree.specs.declared.text_fault.TextFault.TheVariants as fault
use Rattle.token_read.specs.Words.{bare}
use Rattle.seq_read.specs.Places.{place_at}
use Rattle.seq_read.specs.TextFaults as texts
use Rattle.seq_read.specs.Answers as blocks
use Rattle.seq_read.specs.Fronts.{IsLongest, IsFrontFault}
use Rattle.seq_read.specs.Texts.{IsBlockText, SomeBlock, AnyBlock, IsExpressionText, SomeExpression, AnyExpression}
use Rattle.seq_read.specs.declared.fault.ReadFault.TheVariants as read

abbrev place : Place
place = record { line = 1; column = 2 }

-- PLACES: that of the first of so many tokens that are left, or of the end
abbrev both_tokens : List Spanned
both_tokens = record { token = token.Word (codes "a"); place = record { line = 1; column = 1 } }
    ∷ record { token = token.Number 5; place = record { line = 1; column = 3 } } ∷ []

placed : map (place_at (codes "a 5") both_tokens) (0 ∷ 1 ∷ 2 ∷ [])
    ≡ record { line = 1; column = 4 } ∷ record { line = 1; column = 3 } ∷ record { line = 1; column = 1 } ∷ []
placed = refl

-- TEXTS: one within its limit, with a fault of its tokens
module _ (Any Within : List Token → Type 0) (limit : ℕ) (bytes : List ℕ) where
  stray : length bytes ≤ limit → tokens bytes ≡ Err (Stray place) → texts.Faults Any Within limit bytes (fault.Byte place)
  stray short e = (short, e)

  stray_long : limit < length bytes → texts.Faults Any Within limit bytes (fault.Byte place) → ⊥
  stray_long over h = omega (arith, over, h.0)

  not_stray : (tokens bytes ≡ Err (Stray place) → ⊥) → texts.Faults Any Within limit bytes (fault.Byte place) → ⊥
  not_stray never h = never h.1

  great : length bytes ≤ limit → tokens bytes ≡ Err (Great place) → texts.Faults Any Within limit bytes (fault.Number place)
  great short e = (short, e)

  long_word : length bytes ≤ limit → tokens bytes ≡ Err (lexis.Long place) → texts.Faults Any Within limit bytes (fault.Long place)
  long_word short e = (short, e)

  -- the token with which no text goes on, at its own place
  syntax : (found : List Spanned) (left : ℕ) → length bytes ≤ limit → tokens bytes ≡ Ok found
      → reach.IsFault Any Within (bare found) (reach.Syntax left)
      → texts.Faults Any Within limit bytes (fault.Syntax (place_at bytes found (length found - left)))
  syntax found left short e f = record { short = short; found = found; read = e; index = left; fault = f; here = refl }

  syntax_long : limit < length bytes → texts.Faults Any Within limit bytes (fault.Syntax place) → ⊥
  syntax_long over h = omega (arith, over, h.short)

  misread : ((found : List Spanned) → tokens bytes ≡ Ok found → ⊥) → texts.Faults Any Within limit bytes (fault.Syntax place) → ⊥
  misread never h = never h.found h.read

  no_fault : ((found : List Spanned) (index : ℕ) → tokens bytes ≡ Ok found → reach.IsFault Any Within (bare found) (reach.Syntax index) → ⊥)
      → texts.Faults Any Within limit bytes (fault.Syntax place) → ⊥
  no_fault never h = never h.found h.index h.read h.fault

  elsewhere : ((found : List Spanned) (index : ℕ) → tokens bytes ≡ Ok found → reach.IsFault Any Within (bare found) (reach.Syntax index)
      → place ≡ place_at bytes found (length found - index) → ⊥) → texts.Faults Any Within limit bytes (fault.Syntax place) → ⊥
  elsewhere never h = never h.found h.index h.read h.fault h.here

  -- one that is too deep is told as such
  not_deep : ((found : List Spanned) (index : ℕ) → tokens bytes ≡ Ok found → reach.IsFault Any Within (bare found) (reach.TooDeep index) → ⊥)
      → texts.Faults Any Within limit bytes (fault.TooDeep place) → ⊥
  not_deep never h = never h.found h.index h.read h.fault

  too_long : limit < length bytes → texts.Faults Any Within limit bytes fault.FileTooLong
  too_long over = over

  short_enough : length bytes ≤ limit → texts.Faults Any Within limit bytes fault.FileTooLong → ⊥
  short_enough short h = omega (arith, short, h)

  memory : texts.Faults Any Within limit bytes fault.NoMemory → ⊥
  memory h = h

-- BLOCKS AND EXPRESSIONS: places count from the first token that is read
module _ (depth from : ℕ) (ts : List Token) where
  block : (b : Block) (n : ℕ) → IsLongest (AnyBlock depth) (SomeBlock depth) ts n → IsBlockText depth (block_of b) (take n ts)
      → blocks.SaysBlock depth from ts (Ok (b, from + n))
  block b n l t = (n, refl, l, t)

  not_longest : (b : Block) (n : ℕ) → ((place : ℕ) → n ≡ from + place → IsLongest (AnyBlock depth) (SomeBlock depth) ts place → ⊥)
      → blocks.SaysBlock depth from ts (Ok (b, n)) → ⊥
  not_longest b n never h = never h.0 h.1 h.2

  other_block : (b : Block) (n : ℕ) → ((place : ℕ) → n ≡ from + place → IsBlockText depth (block_of b) (take place ts) → ⊥)
      → blocks.SaysBlock depth from ts (Ok (b, n)) → ⊥
  other_block b n never h = never h.0 h.1 h.3

  expression : (x : Expr) (n : ℕ) → IsLongest (AnyExpression depth) (SomeExpression depth) ts n
      → IsExpressionText depth (expression_of x) (take n ts) → blocks.SaysExpression depth from ts (Ok (x, from + n))
  expression x n l t = (n, refl, l, t)

  not_the_longest : (x : Expr) (n : ℕ) → ((place : ℕ) → n ≡ from + place → IsLongest (AnyExpression depth) (SomeExpression depth) ts place → ⊥)
      → blocks.SaysExpression depth from ts (Ok (x, n)) → ⊥
  not_the_longest x n never h = never h.0 h.1 h.2

  other_expression : (x : Expr) (n : ℕ) → ((place : ℕ) → n ≡ from + place → IsExpressionText depth (expression_of x) (take place ts) → ⊥)
      → blocks.SaysExpression depth from ts (Ok (x, n)) → ⊥
  other_expression x n never h = never h.0 h.1 h.3

  faulty_block : (n : ℕ) → IsFrontFault (AnyBlock depth) (SomeBlock depth) ts (reach.Syntax n)
      → blocks.SaysBlock depth from ts (Err (read.Syntax (from + n)))
  faulty_block n f = (n, refl, f)

  deep_block : (n : ℕ) → IsFrontFault (AnyBlock depth) (SomeBlock depth) ts (reach.TooDeep n)
      → blocks.SaysBlock depth from ts (Err (read.TooDeep (from + n)))
  deep_block n f = (n, refl, f)

  no_faulty_block : (n : ℕ) → ((place : ℕ) → n ≡ from + place → IsFrontFault (AnyBlock depth) (SomeBlock depth) ts (reach.Syntax place) → ⊥)
      → blocks.SaysBlock depth from ts (Err (read.Syntax n)) → ⊥
  no_faulty_block n never h = never h.0 h.1 h.2

  no_deep_expression : (n : ℕ) → ((place : ℕ) → n ≡ from + place
      → IsFrontFault (AnyExpression depth) (SomeExpression depth) ts (reach.TooDeep place) → ⊥)
      → blocks.SaysExpression depth from ts (Err (read.TooDeep n)) → ⊥
  no_deep_expression n never h = never h.0 h.1 h.2
