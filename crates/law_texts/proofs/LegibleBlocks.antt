-- The tokens of a block whose calls are read by what they mean can stand in a text, at any level, where those of the block and the names of
-- what is called can.
use Rattle.std.proofs.Common.{◌≡◌, ℕ, suc, true, List, [], ◌∷◌, ◌++◌, codes, refl, inl}
use Rattle.std.proofs.lemmas.Bool.{and_parts, and_from}
use Rattle.seq_tree.specs.Statements.{Statement, Statements, Branches, Null, Assign, If, For, ExitWhen, Call, Work, Put, End, Then, Nothing}
use Rattle.seq_tree.specs.Statements.{Else, When}
use Rattle.seq_tree.specs.Calls.{statement_calls, block_calls, branch_calls}
use Rattle.seq_tree.specs.Spelling.{Line, line, expression_tokens, statement_lines, block_lines, branch_lines}
use Rattle.seq_tree.specs.declared.token.Token.TheVariants.{Word, Sign}
use Rattle.seq_tree.specs.declared.token.Mark.TheVariants.{Semicolon}
use Rattle.seq_tree.specs.declared.tree.OpName.{OpName}
use Rattle.ods_tree.specs.Links.{renamed_statement, renamed, renamed_branches}
use Rattle.ada_print.specs.Writable.{is_word, is_number}
use Rattle.law_lists.proofs.Shared.Lists.{IsIn, in-left, in-right}
use Rattle.law_texts.proofs.Tokens.{HasLegible, parts, lines-both, lines-parts, line-first}

-- the end of an `if` and of a loop
abbrev if_end : ℕ → List Line
if_end level = line level (Word (codes "end") ∷ Word (codes "if") ∷ Sign Semicolon ∷ []) ∷ []

abbrev loop_end : ℕ → List Line
loop_end level = line level (Word (codes "end") ∷ Word (codes "loop") ∷ Sign Semicolon ∷ []) ∷ []

module _ (means : OpName → OpName) where
  -- what is called has names that a text can hold
  abbrev Meant : List OpName → Type 0
  Meant cs = (c : OpName) → IsIn c cs → (is_word (means c).object ≡ true) × (is_word (means c).op ≡ true)

  left : (xs ys : List OpName) → Meant (xs ++ ys) → Meant xs
  left xs ys h c k = h c (in-left c xs ys k)

  right : (xs ys : List OpName) → Meant (xs ++ ys) → Meant ys
  right xs ys h c k = h c (in-right c xs ys k)

  mutual
    legible-statement : (l m : ℕ) (s : Statement) → Meant (statement_calls s) → HasLegible (statement_lines l s)
        → HasLegible (statement_lines m (renamed_statement means s))
    legible-statement l m Null k h = h
    legible-statement l m (Assign target value) k h = h
    legible-statement l m (If branches) k h =
        lines-both (branch_lines (codes "if") m (renamed_branches means branches)) (if_end m)
        (legible-branches (codes "if") l m branches k (lines-parts (branch_lines (codes "if") l branches) (if_end l) h).0) refl
    legible-statement l m (For name low high body) k h =
        let a = and_parts (is_word name) _ h in
        let b = and_parts (is_number low) _ a.1 in
        let c = and_parts (is_number high) _ b.1 in
        and_from _ _ a.0 (and_from _ _ b.0 (and_from _ _ c.0
        (lines-both (block_lines (suc m) (renamed means body)) (loop_end m)
        (legible-block (suc l) (suc m) body k (lines-parts (block_lines (suc l) body) (loop_end l) c.1).0) refl)))
    legible-statement l m (ExitWhen condition) k h = h
    legible-statement l m (Call object op actuals) k h =
        let c = k (record { object = object; op = op }) (inl refl) in
        let a = and_parts (is_word object) _ h in
        let b = and_parts (is_word op) _ a.1 in
        and_from _ _ c.0 (and_from _ _ c.1 b.1)
    legible-statement l m (Work ticks) k h = h
    legible-statement l m (Put value) k h = h

    pub legible-block : (l m : ℕ) (b : Statements) → Meant (block_calls b) → HasLegible (block_lines l b)
        → HasLegible (block_lines m (renamed means b))
    legible-block l m End k h = refl
    legible-block l m (Then first rest) k h =
        let p = lines-parts (statement_lines l first) (block_lines l rest) h in
        lines-both (statement_lines m (renamed_statement means first)) (block_lines m (renamed means rest))
        (legible-statement l m first (left (statement_calls first) (block_calls rest) k) p.0)
        (legible-block l m rest (right (statement_calls first) (block_calls rest) k) p.1)

    legible-branches : (word : List ℕ) (l m : ℕ) (b : Branches) → Meant (branch_calls b) → HasLegible (branch_lines word l b)
        → HasLegible (branch_lines word m (renamed_branches means b))
    legible-branches word l m Nothing k h = refl
    legible-branches word l m (Else block) k h = legible-block (suc l) (suc m) block k h
    legible-branches word l m (When condition block others) k h =
        let head : Line = line l (Word word ∷ (expression_tokens condition ++ Word (codes "then") ∷ [])) in
        let a = parts head.tokens _ h in
        let b = lines-parts (block_lines (suc l) block) (branch_lines (codes "elsif") l others) a.1 in
        line-first (line m head.tokens) (block_lines (suc m) (renamed means block) ++ branch_lines (codes "elsif") m
        (renamed_branches means others)) a.0
        (lines-both (block_lines (suc m) (renamed means block)) (branch_lines (codes "elsif") m (renamed_branches means others))
        (legible-block (suc l) (suc m) block (left (block_calls block) (branch_calls others) k) b.0)
        (legible-branches (codes "elsif") l m others (right (block_calls block) (branch_calls others) k) b.1))
