-- The texts of statements, by those of their parts.
use Rattle.std.proofs.Common.{◌≡◌, ℕ, suc, ◌+◌, ◌<◌, length, drop, get_or, min, List, [], ◌∷◌, ◌++◌, codes, decimal, map, Option}
use Rattle.std.proofs.Common.{Some, None, refl, ap, sym, ◌∙◌, append_assoc, append-nil}
use Rattle.seq_tree.specs.Expressions.{Expression}
use Rattle.seq_tree.specs.Layout.{layout, line_text, tokens_text}
use Rattle.seq_tree.specs.Names.{Name}
use Rattle.seq_tree.specs.Spelling.{line, block_lines, branch_lines, statement_lines, expression_tokens, actual_tokens}
use Rattle.seq_tree.specs.Statements.{Statements, Branches, If, For, Nothing, Else, When}
use Rattle.seq_tree.specs.Trees.{arm_of, block_of, branches_of, expression_of, otherwise}
use Rattle.seq_tree.specs.declared.tree.Arm.{Arm}
use Rattle.seq_tree.specs.declared.token.Token.TheVariants.{Word, Number, Sign}
use Rattle.seq_tree.specs.declared.token.Mark.TheVariants.{LeftParen, RightParen, Semicolon, Dot, DotDot, Becomes}
use Rattle.seq_print.specs.Printing.{expression_text, actuals_text}
use Rattle.seq_print.proofs.Shared.Depths.{both, layout-append, block-deeper, indent}
use Rattle.seq_print.proofs.ArmForms.{arms-next}
use Rattle.seq_print.proofs.Shared.Spacing.{tokens-spaced, expression-first, expression-next, actuals-spaced}

pub for-text : (level low high : ℕ) (name : Name)
    → indent level ++ ((codes "for " ++ (name ++ codes " in word range "))
    ++ (([] ++ (decimal low ++ codes " .. ")) ++ ([] ++ (decimal high ++ codes " loop\n"))))
    ≡ line_text (line level (Word (codes "for") ∷ Word name ∷ Word (codes "in") ∷ Word (codes "word") ∷ Word (codes "range") ∷ Number low
    ∷ Sign DotDot ∷ Number high ∷ Word (codes "loop") ∷ []))
for-text level low high name = simp append_assoc

-- the parts of a loop
pub loop-text : (level low high inner : ℕ) (name : Name) (body : Statements) → inner ≡ min level 10 + 1
    → line_text (line level (Word (codes "for") ∷ Word name ∷ Word (codes "in") ∷ Word (codes "word") ∷ Word (codes "range") ∷ Number low
    ∷ Sign DotDot ∷ Number high ∷ Word (codes "loop") ∷ []))
    ++ (layout (block_lines inner body) ++ (indent level ++ (codes "end loop;" ++ codes "\n")))
    ≡ layout (statement_lines level (For name low high body))
loop-text level low high inner name body e =
    let first = line_text (line level (Word (codes "for") ∷ Word name ∷ Word (codes "in") ∷ Word (codes "word") ∷ Word (codes "range") ∷ Number low
    ∷ Sign DotDot ∷ Number high ∷ Word (codes "loop") ∷ [])) in
    let last = line level (Word (codes "end") ∷ Word (codes "loop") ∷ Sign Semicolon ∷ []) in
    ap (λ x. first ++ x)
    (both (layout (block_lines inner body)) (layout (block_lines (suc level) body)) (line_text last) (line_text last ++ [])
    (block-deeper level inner body e) (sym (append-nil (line_text last)))
    ∙ sym (layout-append (block_lines (suc level) body) (last ∷ [])))

-- an `else`, whatever stands before it
otherwise-any : (word other : List ℕ) (level : ℕ) (o : Option Statements) → branch_lines word level (otherwise o)
    ≡ branch_lines other level (otherwise o)
otherwise-any word other level None = refl
otherwise-any word other level (Some block) = refl

-- conditions with their blocks, and then an `else`
pub branches-text : (word : List ℕ) (level : ℕ) (arms : List (Expression × Statements)) (o : Option Statements)
    → layout (branch_lines word level (branches_of arms (otherwise o))) ≡ layout (branch_lines word level (branches_of arms Nothing))
    ++ layout (branch_lines (codes "elsif") level (otherwise o))
branches-text word level [] o = ap layout (otherwise-any word (codes "elsif") level o)
branches-text word level (arm ∷ arms) o =
    let first = line_text (line level (Word word ∷ (expression_tokens arm.0 ++ Word (codes "then") ∷ []))) in
    let block = block_lines (suc level) arm.1 in
    let others = branch_lines (codes "elsif") level (branches_of arms Nothing) in
    let last = layout (branch_lines (codes "elsif") level (otherwise o)) in
    ap (λ x. first ++ x)
    (layout-append block (branch_lines (codes "elsif") level (branches_of arms (otherwise o)))
    ∙ ap (λ x. layout block ++ x) (branches-text (codes "elsif") level arms o)
    ∙ sym (append_assoc (layout block) (layout others) last)
    ∙ ap (λ x. x ++ last) (sym (layout-append block others)))
    ∙ sym (append_assoc first (layout (block ++ others)) last)

-- the parts of an `if`
pub if-text : (level : ℕ) (arms : List (Expression × Statements)) (o : Option Statements)
    → layout (branch_lines (codes "if") level (branches_of arms Nothing))
    ++ (layout (branch_lines (codes "elsif") level (otherwise o)) ++ (indent level ++ (codes "end if;" ++ codes "\n")))
    ≡ layout (statement_lines level (If (branches_of arms (otherwise o))))
if-text level arms o =
    let ifs = layout (branch_lines (codes "if") level (branches_of arms Nothing)) in
    let others = layout (branch_lines (codes "elsif") level (otherwise o)) in
    let last = line level (Word (codes "end") ∷ Word (codes "if") ∷ Sign Semicolon ∷ []) in
    ap (λ x. ifs ++ (others ++ x)) (sym (append-nil (line_text last)))
    ∙ sym (append_assoc ifs others (line_text last ++ []))
    ∙ ap (λ x. x ++ (line_text last ++ [])) (sym (branches-text (codes "if") level arms o))
    ∙ sym (layout-append (branch_lines (codes "if") level (branches_of arms (otherwise o))) (last ∷ []))

-- an `else` and its block
pub else-text : (level inner : ℕ) (block : Statements) → inner ≡ min level 10 + 1
    → (indent level ++ (codes "else" ++ codes "\n")) ++ layout (block_lines inner block) ≡ layout (branch_lines (codes "elsif") level (Else block))
else-text level inner block e = ap (λ x. line_text (line level (Word (codes "else") ∷ [])) ++ x) (block-deeper level inner block e)

-- a condition with its block, and then others
pub when-text : (word : List ℕ) (level inner : ℕ) (condition : Expression) (block : Statements) (others : Branches) → inner ≡ min level 10 + 1
    → layout (branch_lines word level (When condition block others))
    ≡ line_text (line level (Word word ∷ (expression_tokens condition ++ Word (codes "then") ∷ [])))
    ++ (layout (block_lines inner block) ++ layout (branch_lines (codes "elsif") level others))
when-text word level inner condition block others e =
    ap (λ x. line_text (line level (Word word ∷ (expression_tokens condition ++ Word (codes "then") ∷ []))) ++ x)
    (layout-append (block_lines (suc level) block) (branch_lines (codes "elsif") level others)
    ∙ ap (λ x. x ++ layout (branch_lines (codes "elsif") level others)) (sym (block-deeper level inner block e)))

-- an arm with those behind it
pub arms-text : (word : List ℕ) (level inner : ℕ) (arms : List Arm) (i : ℕ) (a : Arm) → i < length arms → a ≡ get_or arms i a
    → inner ≡ min level 10 + 1
    → layout (branch_lines word level (branches_of (map arm_of (drop i arms)) Nothing))
    ≡ line_text (line level (Word word ∷ (expression_tokens (expression_of a.cond) ++ Word (codes "then") ∷ [])))
    ++ (layout (block_lines inner (block_of a.block))
    ++ layout (branch_lines (codes "elsif") level (branches_of (map arm_of (drop (i + 1) arms)) Nothing)))
arms-text word level inner arms i a h e d =
    ap (λ as'. layout (branch_lines word level (branches_of as' Nothing))) (arms-next arms i a h e)
    ∙ when-text word level inner (expression_of a.cond) (block_of a.block) (branches_of (map arm_of (drop (i + 1) arms)) Nothing) d

-- lines with an expression
pub assign-text : (level : ℕ) (name : Name) (e : Expression)
    → indent level ++ (([] ++ (name ++ codes " := ")) ++ (expression_text e ++ codes ";\n"))
    ≡ line_text (line level (Word name ∷ Sign Becomes ∷ (expression_tokens e ++ Sign Semicolon ∷ [])))
assign-text level name e =
    rw (tokens-spaced (Word name ∷ Sign Becomes ∷ (expression_tokens e ++ Sign Semicolon ∷ [])), expression-next e (Sign Semicolon ∷ []))
    (simp append_assoc)

pub condition-text : (level : ℕ) (word : List ℕ) (e : Expression)
    → indent level ++ (word ++ (codes " " ++ (expression_text e ++ codes " then\n")))
    ≡ line_text (line level (Word word ∷ (expression_tokens e ++ Word (codes "then") ∷ [])))
condition-text level word e = rw
    (tokens-spaced (Word word ∷ (expression_tokens e ++ Word (codes "then") ∷ [])), expression-next e (Word (codes "then") ∷ [])) (simp append_assoc)

pub exit-text : (level : ℕ) (e : Expression)
    → indent level ++ (codes "exit when " ++ (expression_text e ++ codes ";\n"))
    ≡ line_text (line level (Word (codes "exit") ∷ Word (codes "when") ∷ (expression_tokens e ++ Sign Semicolon ∷ [])))
exit-text level e =
    let tokens' : tokens_text (Word (codes "exit") ∷ Word (codes "when") ∷ (expression_tokens e ++ Sign Semicolon ∷ []))
    ≡ codes "exit when " ++ (expression_text e ++ codes ";") =
    tokens-spaced (Word (codes "exit") ∷ Word (codes "when") ∷ (expression_tokens e ++ Sign Semicolon ∷ [])) ∙ ap (λ x. codes "exit when" ++ x)
    (expression-next e (Sign Semicolon ∷ [])) in
    ap (λ x. indent level ++ x) (ap (λ x. codes "exit when " ++ x) (sym (append_assoc (expression_text e) (codes ";") (codes "\n"))) ∙ ap
    (λ x. x ++ codes "\n") (sym tokens'))

pub put-text : (level : ℕ) (e : Expression)
    → indent level ++ (codes "put (" ++ (expression_text e ++ codes ");\n"))
    ≡ line_text (line level (Word (codes "put") ∷ Sign LeftParen ∷ (expression_tokens e ++ Sign RightParen ∷ Sign Semicolon ∷ [])))
put-text level e =
    let tokens' : tokens_text (Word (codes "put") ∷ Sign LeftParen ∷ (expression_tokens e ++ Sign RightParen ∷ Sign Semicolon ∷ []))
    ≡ codes "put (" ++ (expression_text e ++ codes ");") =
    tokens-spaced (Word (codes "put") ∷ Sign LeftParen ∷ (expression_tokens e ++ Sign RightParen ∷ Sign Semicolon ∷ [])) ∙ ap
    (λ x. codes "put (" ++ x) (expression-first e (Sign RightParen ∷ Sign Semicolon ∷ [])) in
    ap (λ x. indent level ++ x) (ap (λ x. codes "put (" ++ x) (sym (append_assoc (expression_text e) (codes ");") (codes "\n"))) ∙ ap
    (λ x. x ++ codes "\n") (sym tokens'))

pub call-text : (level : ℕ) (object op : Name) (es : List Expression)
    → indent level ++ (([] ++ (object ++ codes ".")) ++ (op ++ (actuals_text es ++ codes ";\n")))
    ≡ line_text (line level (Word object ∷ Sign Dot ∷ Word op ∷ (actual_tokens es ++ Sign Semicolon ∷ [])))
call-text level object op es =
    rw (tokens-spaced (Word object ∷ Sign Dot ∷ Word op ∷ (actual_tokens es ++ Sign Semicolon ∷ [])), actuals-spaced es) (simp append_assoc)
