-- From ten levels on, deeper lines begin with as many spaces, so that a block has the same text at each such level.
use Rattle.std.proofs.Common.{◌≡◌, ℕ, suc, ◌+◌, ◌*◌, min, replicate, List, [], ◌∷◌, ◌++◌, codes, refl, ap, sym, ◌∙◌, arith}
use Rattle.std.proofs.lemmas.Grind.{flat_map-append}
use Rattle.seq_tree.specs.Layout.{layout, line_text, tokens_text}
use Rattle.seq_tree.specs.Spelling.{Line, line, block_lines, branch_lines, statement_lines, expression_tokens, actual_tokens}
use Rattle.seq_tree.specs.Statements.{Statement, Statements, Branches, Null, Assign, If, For, ExitWhen, Call, Work, Put, End, Then, Nothing}
use Rattle.seq_tree.specs.Statements.{Else, When}
use Rattle.seq_tree.specs.declared.token.Token.{Token}
use Rattle.seq_tree.specs.declared.token.Token.TheVariants.{Word, Number, Sign}
use Rattle.seq_tree.specs.declared.token.Mark.TheVariants.{LeftParen, RightParen, Semicolon, Dot, DotDot, Becomes}

-- equal texts, one after another
pub both : (a b c d : List ℕ) → a ≡ b → c ≡ d → a ++ c ≡ b ++ d
both a b c d e f = ap (λ x. x ++ c) e ∙ ap (λ x. b ++ x) f

pub layout-append : (xs ys : List Line) → layout (xs ++ ys) ≡ layout xs ++ layout ys
layout-append xs ys = flat_map-append line_text xs ys

-- the spaces before a line
abbrev pub indent : ℕ → List ℕ
indent level = replicate (min 30 (3 * level)) 32

same-spaces : (n m : ℕ) → min n 10 ≡ min m 10 → min 30 (3 * n) ≡ min 30 (3 * m)
same-spaces n m e = grind arith

pub same-indent : (n m : ℕ) → min n 10 ≡ min m 10 → indent n ≡ indent m
same-indent n m e = ap (λ k. replicate k 32) (same-spaces n m e)

pub same-deeper : (n m : ℕ) → min n 10 ≡ min m 10 → min (suc n) 10 ≡ min (suc m) 10
same-deeper n m e = grind arith

same-line : (n m : ℕ) → min n 10 ≡ min m 10 → (ts : List Token) → line_text (line n ts) ≡ line_text (line m ts)
same-line n m e ts = ap (λ x. x ++ (tokens_text ts ++ codes "\n")) (same-indent n m e)

same-one : (n m : ℕ) → min n 10 ≡ min m 10 → (ts : List Token) → layout (line n ts ∷ []) ≡ layout (line m ts ∷ [])
same-one n m e ts = ap (λ x. x ++ []) (same-line n m e ts)

-- the same lines, and then the same others
same-append : (xs ys xs' ys' : List Line) → layout xs ≡ layout xs' → layout ys ≡ layout ys' → layout (xs ++ ys) ≡ layout (xs' ++ ys')
same-append xs ys xs' ys' e f = layout-append xs ys ∙ both (layout xs) (layout xs') (layout ys) (layout ys') e f ∙ sym (layout-append xs' ys')

mutual
  same-statement : (s : Statement) (n m : ℕ) → min n 10 ≡ min m 10 → layout (statement_lines n s) ≡ layout (statement_lines m s)
  same-statement Null n m e = same-one n m e (Word (codes "null") ∷ Sign Semicolon ∷ [])
  same-statement (Assign target value) n m e = same-one n m e (Word target ∷ Sign Becomes ∷ (expression_tokens value ++ Sign Semicolon ∷ []))
  same-statement (If branches) n m e =
      let last : List Token = Word (codes "end") ∷ Word (codes "if") ∷ Sign Semicolon ∷ [] in
      same-append (branch_lines (codes "if") n branches) (line n last ∷ []) (branch_lines (codes "if") m branches) (line m last ∷ [])
      (same-branches branches (codes "if") n m e) (same-one n m e last)
  same-statement (For name low high body) n m e =
      let first : List Token = Word (codes "for") ∷ Word name ∷ Word (codes "in") ∷ Word (codes "word") ∷ Word (codes "range") ∷ Number low
      ∷ Sign DotDot ∷ Number high ∷ Word (codes "loop") ∷ [] in
      let last : List Token = Word (codes "end") ∷ Word (codes "loop") ∷ Sign Semicolon ∷ [] in
      both (line_text (line n first)) (line_text (line m first)) (layout (block_lines (suc n) body ++ line n last ∷ []))
      (layout (block_lines (suc m) body ++ line m last ∷ [])) (same-line n m e first)
      (same-append (block_lines (suc n) body) (line n last ∷ []) (block_lines (suc m) body) (line m last ∷ [])
      (same-block body (suc n) (suc m) (same-deeper n m e)) (same-one n m e last))
  same-statement (ExitWhen condition) n m e
      = same-one n m e (Word (codes "exit") ∷ Word (codes "when") ∷ (expression_tokens condition ++ Sign Semicolon ∷ []))
  same-statement (Call object op actuals) n m e = same-one n m e (Word object ∷ Sign Dot ∷ Word op ∷ (actual_tokens actuals ++ Sign Semicolon ∷ []))
  same-statement (Work ticks) n m e = same-one n m e (Word (codes "work") ∷ Sign LeftParen ∷ Number ticks ∷ Sign RightParen ∷ Sign Semicolon ∷ [])
  same-statement (Put value) n m e
      = same-one n m e (Word (codes "put") ∷ Sign LeftParen ∷ (expression_tokens value ++ Sign RightParen ∷ Sign Semicolon ∷ []))

  pub same-block : (b : Statements) (n m : ℕ) → min n 10 ≡ min m 10 → layout (block_lines n b) ≡ layout (block_lines m b)
  same-block End n m e = refl
  same-block (Then first rest) n m e =
      same-append (statement_lines n first) (block_lines n rest) (statement_lines m first) (block_lines m rest) (same-statement first n m e)
      (same-block rest n m e)

  same-branches : (b : Branches) (word : List ℕ) (n m : ℕ) → min n 10 ≡ min m 10 → layout (branch_lines word n b) ≡ layout (branch_lines word m b)
  same-branches Nothing word n m e = refl
  same-branches (Else block) word n m e =
      let first : List Token = Word (codes "else") ∷ [] in
      both (line_text (line n first)) (line_text (line m first)) (layout (block_lines (suc n) block)) (layout (block_lines (suc m) block))
      (same-line n m e first) (same-block block (suc n) (suc m) (same-deeper n m e))
  same-branches (When condition block others) word n m e =
      let first : List Token = Word word ∷ (expression_tokens condition ++ Word (codes "then") ∷ []) in
      both (line_text (line n first)) (line_text (line m first)) (layout (block_lines (suc n) block ++ branch_lines (codes "elsif") n others))
      (layout (block_lines (suc m) block ++ branch_lines (codes "elsif") m others)) (same-line n m e first)
      (same-append (block_lines (suc n) block) (branch_lines (codes "elsif") n others) (block_lines (suc m) block)
      (branch_lines (codes "elsif") m others)
      (same-block block (suc n) (suc m) (same-deeper n m e)) (same-branches others (codes "elsif") n m e))

capped : (level : ℕ) → min (min level 10 + 1) 10 ≡ min (suc level) 10
capped level = grind arith

-- a block one level deeper
pub block-deeper : (level inner : ℕ) (b : Statements) → inner ≡ min level 10 + 1 → layout (block_lines inner b) ≡ layout (block_lines (suc level) b)
block-deeper level inner b e = same-block b inner (suc level) (ap (λ n. min n 10) e ∙ capped level)
