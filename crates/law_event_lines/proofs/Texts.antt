-- A block that can stand in a text has numbers that are words.
use Rattle.std.proofs.Common.{◌≡◌, ℕ, suc, true, List, [], ◌∷◌, ◌++◌, codes, refl, sym, subst, inl, inr}
use Rattle.std.proofs.lemmas.Bool.{ltb-true}
use Rattle.std.proofs.lemmas.Grind.{flat_map-append}
use Rattle.seq_tree.specs.Lists.{Each}
use Rattle.seq_tree.specs.Expressions.{Expression, Number, Variable, Paren, Not, Binary}
use Rattle.seq_tree.specs.Statements.{Statement, Statements, Branches, Null, Assign, If, For, ExitWhen, Call, Work, Put, End, Then, Nothing}
use Rattle.seq_tree.specs.Statements.{Else, When}
use Rattle.seq_tree.specs.Spelling.{Line, line, joined, expression_tokens, more_actuals, actual_tokens, statement_lines, block_lines, branch_lines}
use Rattle.seq_tree.specs.Variables.{written}
use Rattle.seq_tree.specs.declared.token.Token.{Token}
use Rattle.seq_tree.specs.declared.token.Token.TheVariants as token
use Rattle.seq_tree.specs.declared.token.Mark.TheVariants.{Comma, RightParen, Semicolon}
use Rattle.seq_tree.specs.declared.tree.Datum.{Datum}
use Rattle.seq_print.specs.Readable.{is_readable}
use Rattle.ada_print.specs.Writable.{is_number}
use Rattle.law_lists.proofs.Shared.Lists.{IsIn, in-left, in-right}
use Rattle.law_designs.proofs.Shared.Lists.{all-in}
use Rattle.law_texts.proofs.Shared.LegibleUnits.{AreLegibleData, IsLegibleBlock}
use Rattle.law_traces.specs.Told.{IsWord}
use Rattle.law_event_lines.proofs.Values.{HoldWords, FitExpression}
use Rattle.law_event_lines.proofs.Pieces.{FitStatement, FitBlock, FitBranches}

-- numbers
pub number-word : (n : ℕ) → is_number n ≡ true → IsWord n
number-word n h = ltb-true n 4294967296 h

pub data-words : (ds : List Datum) → AreLegibleData ds → HoldWords (written ds)
data-words [] h = tt
data-words (d ∷ ds) h = (number-word d.value (h d (inl refl)).1, data-words ds (λ e k. h e (inr k)))

-- tokens each of which can stand in a text
abbrev All : List Token → Type 0
All ts = (t : Token) → IsIn t ts → is_readable t ≡ true

expression-words : (e : Expression) → All (expression_tokens e) → FitExpression e
expression-words (Number n) h = number-word n (h (token.Number n) (inl refl))
expression-words (Variable name) h = tt
expression-words (Paren e) h = expression-words e (λ t k. h t (inr (in-left t (expression_tokens e) (token.Sign RightParen ∷ []) k)))
expression-words (Not e) h = expression-words e (λ t k. h t (inr k))
expression-words (Binary op left right) h = (
  expression-words left (λ t k. h t (in-left t (expression_tokens left) _ k)),
  expression-words right (λ t k. h t (in-right t (expression_tokens left) _ (inr k))),
)

more-words : (es : List Expression) → All (more_actuals es) → Each FitExpression es
more-words [] h = tt
more-words (e ∷ es) h = (
  expression-words e (λ t k. h t (in-left t (token.Sign Comma ∷ expression_tokens e) _ (inr k))),
  more-words es (λ t k. h t (in-right t (token.Sign Comma ∷ expression_tokens e) _ k)),
)

actual-words : (es : List Expression) → All (actual_tokens es) → Each FitExpression es
actual-words [] h = tt
actual-words (e ∷ es) h = (
  expression-words e (λ t k. h t (inr (in-left t (expression_tokens e) _ k))),
  more-words es (λ t k. h t (inr (in-right t (expression_tokens e) _ (in-left t (more_actuals es) _ k)))),
)

-- lines
abbrev AllLines : List Line → Type 0
AllLines ls = All (joined ls)

first-lines : (ls ms : List Line) → AllLines (ls ++ ms) → AllLines ls
first-lines ls ms h t k = h t (subst (IsIn t) (sym (flat_map-append (λ (l : Line). l.tokens) ls ms)) (in-left t (joined ls) (joined ms) k))

last-lines : (ls ms : List Line) → AllLines (ls ++ ms) → AllLines ms
last-lines ls ms h t k = h t (subst (IsIn t) (sym (flat_map-append (λ (l : Line). l.tokens) ls ms)) (in-right t (joined ls) (joined ms) k))

-- what stands behind an expression and the lines that end an `if` and a loop
abbrev stop : List Token
stop = token.Sign Semicolon ∷ []

abbrev close : List Token
close = token.Sign RightParen ∷ token.Sign Semicolon ∷ []

abbrev then' : List Token
then' = token.Word (codes "then") ∷ []

abbrev if_end : ℕ → List Line
if_end level = line level (token.Word (codes "end") ∷ token.Word (codes "if") ∷ stop) ∷ []

abbrev loop_end : ℕ → List Line
loop_end level = line level (token.Word (codes "end") ∷ token.Word (codes "loop") ∷ stop) ∷ []

mutual
  statement-words : (level : ℕ) (s : Statement) → AllLines (statement_lines level s) → FitStatement s
  statement-words level Null h = tt
  statement-words level (Assign target e) h =
      let ts : List Token = expression_tokens e in
      expression-words e (λ t k. h t (inr (inr (in-left t (ts ++ stop) [] (in-left t ts stop k)))))
  statement-words level (If branches) h =
      branch-words (codes "if") level branches (first-lines (branch_lines (codes "if") level branches) (if_end level) h)
  statement-words level (For name low high body) h =
      let bs : List Line = block_lines (suc level) body in
      let inner : AllLines (bs ++ loop_end level) = λ t k. h t (inr (inr (inr (inr (inr (inr (inr (inr (inr k))))))))) in
      let last = h (token.Number high) (inr (inr (inr (inr (inr (inr (inr (inl refl)))))))) in
      (number-word high last, block-words (suc level) body (first-lines bs (loop_end level) inner))
  statement-words level (ExitWhen condition) h = tt
  statement-words level (Call object op actuals) h =
      let ts : List Token = actual_tokens actuals in
      actual-words actuals (λ t k. h t (inr (inr (inr (in-left t (ts ++ stop) [] (in-left t ts stop k))))))
  statement-words level (Work ticks) h = tt
  statement-words level (Put e) h =
      let ts : List Token = expression_tokens e in
      expression-words e (λ t k. h t (inr (inr (in-left t (ts ++ close) [] (in-left t ts close k)))))

  block-words : (level : ℕ) (b : Statements) → AllLines (block_lines level b) → FitBlock b
  block-words level End h = tt
  block-words level (Then first rest) h = (
    statement-words level first (first-lines (statement_lines level first) (block_lines level rest) h),
    block-words level rest (last-lines (statement_lines level first) (block_lines level rest) h),
  )

  branch-words : (word : List ℕ) (level : ℕ) (b : Branches) → AllLines (branch_lines word level b) → FitBranches b
  branch-words word level Nothing h = tt
  branch-words word level (Else block) h = block-words (suc level) block (λ t k. h t (inr k))
  branch-words word level (When condition block others) h =
      let bs : List Line = block_lines (suc level) block in
      let os : List Line = branch_lines (codes "elsif") level others in
      let more : AllLines (bs ++ os) = λ t k. h t (inr (in-right t (expression_tokens condition ++ then') (joined (bs ++ os)) k)) in
      (block-words (suc level) block (first-lines bs os more), branch-words (codes "elsif") level others (last-lines bs os more))

pub legible-words : (b : Statements) → IsLegibleBlock b → FitBlock b
legible-words b h = block-words 0 b (λ t k. all-in is_readable (joined (block_lines 0 b)) t (h 0) k)
