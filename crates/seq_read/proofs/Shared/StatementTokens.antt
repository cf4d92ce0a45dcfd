-- The tokens of statements, whatever the level at which their lines stand.
use Rattle.std.proofs.Common.{◌≡◌, ℕ, suc, List, [], ◌∷◌, ◌++◌, codes, refl, ap, ◌∙◌, append_assoc, append-nil}
use Rattle.std.proofs.lemmas.Grind.{flat_map-append}
use Rattle.seq_tree.specs.Statements.{Statement, Statements, Branches, Null, Assign, If, For, ExitWhen, Call, Work, Put, End, Then, Nothing}
use Rattle.seq_tree.specs.Statements.{Else, When}
use Rattle.seq_tree.specs.Spelling.{Line, line, joined, expression_tokens, actual_tokens, statement_lines, block_lines, branch_lines, block_tokens}
use Rattle.seq_tree.specs.declared.token.Token.{Token}
use Rattle.seq_tree.specs.declared.token.Token.TheVariants.{Word, Number, Sign}
use Rattle.seq_tree.specs.declared.token.Mark.TheVariants.{LeftParen, RightParen, Semicolon, Dot, DotDot, Becomes}

-- a word
abbrev pub w : List ℕ → Token
w text = Word text

abbrev pub semicolon : Token
semicolon = Sign Semicolon

abbrev mutual
  pub statement_toks : Statement → List Token
  statement_toks Null = w (codes "null") ∷ semicolon ∷ []
  statement_toks (Assign target value) = Word target ∷ Sign Becomes ∷ (expression_tokens value ++ semicolon ∷ [])
  statement_toks (If branches) = branch_toks (codes "if") branches ++ w (codes "end") ∷ w (codes "if") ∷ semicolon ∷ []
  statement_toks (For name low high body) =
      w (codes "for") ∷ Word name ∷ w (codes "in") ∷ w (codes "word") ∷ w (codes "range") ∷ Number low ∷ Sign DotDot ∷ Number high ∷ w (codes "loop")
      ∷ (block_toks body ++ w (codes "end") ∷ w (codes "loop") ∷ semicolon ∷ [])
  statement_toks (ExitWhen condition) = w (codes "exit") ∷ w (codes "when") ∷ (expression_tokens condition ++ semicolon ∷ [])
  statement_toks (Call object op actuals) = Word object ∷ Sign Dot ∷ Word op ∷ (actual_tokens actuals ++ semicolon ∷ [])
  statement_toks (Work ticks) = w (codes "work") ∷ Sign LeftParen ∷ Number ticks ∷ Sign RightParen ∷ semicolon ∷ []
  statement_toks (Put value) = w (codes "put") ∷ Sign LeftParen ∷ (expression_tokens value ++ Sign RightParen ∷ semicolon ∷ [])

  pub block_toks : Statements → List Token
  block_toks End = []
  block_toks (Then first rest) = statement_toks first ++ block_toks rest

  -- the branches of an `if`, the first of which begins with this word
  pub branch_toks : List ℕ → Branches → List Token
  branch_toks word Nothing = []
  branch_toks word (Else block) = w (codes "else") ∷ block_toks block
  branch_toks word (When condition block others)
      = w word ∷ (expression_tokens condition ++ w (codes "then") ∷ (block_toks block ++ branch_toks (codes "elsif") others))

joined-append : (xs ys : List Line) → joined (xs ++ ys) ≡ joined xs ++ joined ys
joined-append xs ys = flat_map-append (λ l. l.tokens) xs ys

mutual
  statement-level : (n : ℕ) (s : Statement) → joined (statement_lines n s) ≡ statement_toks s
  statement-level n Null = refl
  statement-level n (Assign target value) = ap (λ us. Word target ∷ Sign Becomes ∷ us) (append-nil (expression_tokens value ++ semicolon ∷ []))
  statement-level n (If branches) =
      joined-append (branch_lines (codes "if") n branches) (line n (w (codes "end") ∷ w (codes "if") ∷ semicolon ∷ []) ∷ [])
      ∙ ap (λ us. us ++ w (codes "end") ∷ w (codes "if") ∷ semicolon ∷ []) (branch-level (codes "if") n branches)
  statement-level n (For name low high body) =
      ap (λ us. w (codes "for") ∷ Word name ∷ w (codes "in") ∷ w (codes "word") ∷ w (codes "range") ∷ Number low ∷ Sign DotDot ∷ Number high
      ∷ w (codes "loop") ∷ us)
      (joined-append (block_lines (suc n) body) (line n (w (codes "end") ∷ w (codes "loop") ∷ semicolon ∷ []) ∷ [])
      ∙ ap (λ us. us ++ w (codes "end") ∷ w (codes "loop") ∷ semicolon ∷ []) (block-level (suc n) body))
  statement-level n (ExitWhen condition) = ap (λ us. w (codes "exit") ∷ w (codes "when") ∷ us)
      (append-nil (expression_tokens condition ++ semicolon ∷ []))
  statement-level n (Call object op actuals) = ap (λ us. Word object ∷ Sign Dot ∷ Word op ∷ us) (append-nil (actual_tokens actuals ++ semicolon ∷ []))
  statement-level n (Work ticks) = refl
  statement-level n (Put value) = ap (λ us. w (codes "put") ∷ Sign LeftParen ∷ us)
      (append-nil (expression_tokens value ++ Sign RightParen ∷ semicolon ∷ []))

  pub block-level : (n : ℕ) (b : Statements) → joined (block_lines n b) ≡ block_toks b
  block-level n End = refl
  block-level n (Then first rest) =
      joined-append (statement_lines n first) (block_lines n rest) ∙ ap (λ us. us ++ joined (block_lines n rest)) (statement-level n first)
      ∙ ap (λ us. statement_toks first ++ us) (block-level n rest)

  branch-level : (word : List ℕ) (n : ℕ) (bs : Branches) → joined (branch_lines word n bs) ≡ branch_toks word bs
  branch-level word n Nothing = refl
  branch-level word n (Else block) = ap (λ us. w (codes "else") ∷ us) (block-level (suc n) block)
  branch-level word n (When condition block others) =
      ap (λ us. w word ∷ us)
      (append_assoc (expression_tokens condition) (w (codes "then") ∷ [])
      (joined (block_lines (suc n) block ++ branch_lines (codes "elsif") n others))
      ∙ ap (λ us. expression_tokens condition ++ w (codes "then") ∷ us)
      (joined-append (block_lines (suc n) block) (branch_lines (codes "elsif") n others)
      ∙ ap (λ us. us ++ joined (branch_lines (codes "elsif") n others)) (block-level (suc n) block) ∙ ap (λ us. block_toks block ++ us)
      (branch-level (codes "elsif") n others)))

-- the tokens of a block
pub block-spelled : (b : Statements) → block_tokens b ≡ block_toks b
block-spelled b = block-level 0 b
