-- In each line of a program dots stay apart from each other, so that a program whose tokens can be read has readable lines.
use Rattle.std.proofs.Common.{◌≡◌, ℕ, suc, Bool, true, false, ◌&&◌, List, [], ◌∷◌, ◌++◌, map, flat_map, codes, refl, sym, ap, ◌∙◌, append_assoc}
use Rattle.std.specs.List.{list_all}
use Rattle.std.proofs.lemmas.Bool.{and_from, and_parts}
use Rattle.std.proofs.lemmas.List.Folds.{list_all-append}
use Rattle.seq_tree.specs.Expressions.{Expression, Number, Variable, Paren, Not, Binary}
use Rattle.seq_tree.specs.Statements.{Statement, Statements, Branches, Null, Assign, If, For, ExitWhen, Call, Work, Put, End, Then, Nothing}
use Rattle.seq_tree.specs.Statements.{Else, When}
use Rattle.seq_tree.specs.Operations.{Signature, Operation}
use Rattle.seq_tree.specs.Names.{Name}
use Rattle.seq_tree.specs.Spelling.{Line, joined, block_lines, branch_lines, statement_lines, expression_tokens, actual_tokens, more_actuals}
use Rattle.seq_tree.specs.Spelling.{op_token}
use Rattle.seq_tree.specs.declared.token.Token.{Token}
use Rattle.seq_tree.specs.declared.token.Token.TheVariants as token
use Rattle.seq_tree.specs.declared.token.Token.TheVariants.{Word, Sign}
use Rattle.seq_tree.specs.declared.token.Mark.TheVariants.{RightParen, Semicolon, Colon, Dot, DotDot, Becomes}
use Rattle.seq_tree.specs.declared.tree.BinOp.{BinOp}
use Rattle.seq_tree.specs.declared.tree.BinOp.TheVariants.{And, Or, Xor, Eq, Ne, Lt, Le, Gt, Ge, Add, Sub, Mul, Div, Mod}
use Rattle.seq_tree.specs.declared.tree.Mode.{Mode}
use Rattle.seq_tree.specs.declared.tree.Mode.TheVariants.{In, Out}
use Rattle.seq_tree.specs.declared.tree.Param.{Param}
use Rattle.seq_tree.specs.declared.tree.Datum.{Datum}
use Rattle.seq_print.specs.Readable.{are_apart, are_readable, is_readable, is_readable_line}
use Rattle.ada_tree.specs.Programs.{Form, Unit, Program, Passive, Shared, Cyclic, Sporadic}
use Rattle.ada_tree.specs.Spelling.{body_lines, datum_line, declaration_line, end_line, head_tokens, inner_body, inner_specification, kept_token}
use Rattle.ada_tree.specs.Spelling.{mode_token, param_tokens, params_tokens, program_lines, renaming_line, request_token, specification_lines}
use Rattle.ada_tree.specs.Spelling.{truth_token, unit_body_lines}
use Rattle.ada_print.specs.Writable.{is_writable}

-- whether tokens don't begin with a dot or two
abbrev no_dot : List Token → Bool
no_dot (Sign Dot ∷ ts) = false
no_dot (Sign DotDot ∷ ts) = false
no_dot _ = true

-- whether these tokens leave a token apart from them
abbrev leaves : Token → List Token → Bool
leaves (Sign Dot) ts = no_dot ts
leaves t ts = true

-- whether dots stay apart
abbrev is_apart : List Token → Bool
is_apart [] = true
is_apart (t ∷ ts) = leaves t ts && is_apart ts

abbrev are_apart_lines : List Line → Bool
are_apart_lines ls = list_all (λ l. is_apart l.tokens) ls

dot-apart : (u : Token) (ts : List Token) → no_dot (u ∷ ts) ≡ true → are_apart (Sign Dot) u ≡ true
dot-apart (Sign Dot) ts e = cc
dot-apart (Sign DotDot) ts e = cc
dot-apart (Word name) ts e = refl
dot-apart (token.Number n) ts e = refl
dot-apart (Sign _) ts e = refl

leaves-apart : (t u : Token) (ts : List Token) → leaves t (u ∷ ts) ≡ true → are_apart t u ≡ true
leaves-apart (Sign Dot) u ts e = dot-apart u ts e
leaves-apart (Word name) u ts e = refl
leaves-apart (token.Number n) u ts e = refl
leaves-apart (Sign _) u ts e = refl

-- tokens that are apart, and can be read, are a readable line
ready-line : (ts : List Token) → is_apart ts ≡ true → list_all is_readable ts ≡ true → is_readable_line ts ≡ true
ready-line [] apart ok = refl
ready-line (t ∷ []) apart ok = (and_parts (is_readable t) _ ok).0
ready-line (t ∷ u ∷ ts) apart ok =
    let s = and_parts (leaves t (u ∷ ts)) _ apart in
    let o = and_parts (is_readable t) _ ok in
    and_from _ _ o.0 (and_from _ _ (leaves-apart t u ts s.0) (ready-line (u ∷ ts) s.1 o.1))

ready-lines : (ls : List Line) → are_apart_lines ls ≡ true → list_all is_readable (joined ls) ≡ true → are_readable ls ≡ true
ready-lines [] apart ok = refl
ready-lines (l ∷ ls) apart ok =
    let s = and_parts (is_apart l.tokens) _ apart in
    let o = and_parts (list_all is_readable l.tokens) _ (sym (list_all-append is_readable l.tokens (joined ls)) ∙ ok) in
    and_from _ _ (ready-line l.tokens s.0 o.0) (ready-lines ls s.1 o.1)

apart-append : (xs ys : List Line) → are_apart_lines xs ≡ true → are_apart_lines ys ≡ true → are_apart_lines (xs ++ ys) ≡ true
apart-append xs ys a b = list_all-append (λ l. is_apart l.tokens) xs ys ∙ and_from (are_apart_lines xs) (are_apart_lines ys) a b

-- EXPRESSIONS
op-leaves : (op : BinOp) (ts : List Token) → leaves (op_token op) ts ≡ true
op-leaves And ts = refl
op-leaves Or ts = refl
op-leaves Xor ts = refl
op-leaves Eq ts = refl
op-leaves Ne ts = refl
op-leaves Lt ts = refl
op-leaves Le ts = refl
op-leaves Gt ts = refl
op-leaves Ge ts = refl
op-leaves Add ts = refl
op-leaves Sub ts = refl
op-leaves Mul ts = refl
op-leaves Div ts = refl
op-leaves Mod ts = refl

expression-apart : (e : Expression) (rest : List Token) → is_apart rest ≡ true → is_apart (expression_tokens e ++ rest) ≡ true
expression-apart (Number n) rest ok = ok
expression-apart (Variable name) rest ok = ok
expression-apart (Paren e) rest ok =
    ap is_apart (append_assoc (expression_tokens e) (Sign RightParen ∷ []) rest) ∙ expression-apart e (Sign RightParen ∷ rest) ok
expression-apart (Not e) rest ok = expression-apart e rest ok
expression-apart (Binary op left right) rest ok =
    ap is_apart (append_assoc (expression_tokens left) (op_token op ∷ expression_tokens right) rest)
    ∙ expression-apart left (op_token op ∷ (expression_tokens right ++ rest))
    (and_from _ _ (op-leaves op (expression_tokens right ++ rest)) (expression-apart right rest ok))

more-apart : (es : List Expression) (rest : List Token) → is_apart rest ≡ true → is_apart (more_actuals es ++ rest) ≡ true
more-apart [] rest ok = ok
more-apart (e ∷ es) rest ok =
    ap is_apart (append_assoc (expression_tokens e) (more_actuals es) rest) ∙ expression-apart e (more_actuals es ++ rest) (more-apart es rest ok)

actuals-apart : (es : List Expression) → is_apart (actual_tokens es ++ Sign Semicolon ∷ []) ≡ true
actuals-apart [] = refl
actuals-apart (e ∷ es) =
    ap is_apart (append_assoc (expression_tokens e) (more_actuals es ++ Sign RightParen ∷ []) (Sign Semicolon ∷ []))
    ∙ expression-apart e ((more_actuals es ++ Sign RightParen ∷ []) ++ Sign Semicolon ∷ [])
    (ap is_apart (append_assoc (more_actuals es) (Sign RightParen ∷ []) (Sign Semicolon ∷ [])) ∙ more-apart es
    (Sign RightParen ∷ Sign Semicolon ∷ []) refl)

-- BLOCKS
mutual
  statement-apart : (level : ℕ) (s : Statement) → are_apart_lines (statement_lines level s) ≡ true
  statement-apart level Null = refl
  statement-apart level (Assign target value) = and_from _ _ (expression-apart value (Sign Semicolon ∷ []) refl) refl
  statement-apart level (If branches) = apart-append (branch_lines (codes "if") level branches) _ (branches-apart (codes "if") level branches) refl
  statement-apart level (For name low high body) = apart-append (block_lines (suc level) body) _ (block-apart (suc level) body) refl
  statement-apart level (ExitWhen condition) = and_from _ _ (expression-apart condition (Sign Semicolon ∷ []) refl) refl
  statement-apart level (Call object op actuals) = and_from _ _ (actuals-apart actuals) refl
  statement-apart level (Work ticks) = refl
  statement-apart level (Put value) = and_from _ _ (expression-apart value (Sign RightParen ∷ Sign Semicolon ∷ []) refl) refl

  block-apart : (level : ℕ) (b : Statements) → are_apart_lines (block_lines level b) ≡ true
  block-apart level End = refl
  block-apart level (Then first rest) = apart-append (statement_lines level first) (block_lines level rest) (statement-apart level first)
      (block-apart level rest)

  branches-apart : (word : List ℕ) (level : ℕ) (b : Branches) → are_apart_lines (branch_lines word level b) ≡ true
  branches-apart word level Nothing = refl
  branches-apart word level (Else block) = block-apart (suc level) block
  branches-apart word level (When condition block others) =
      and_from _ _ (expression-apart condition (Word (codes "then") ∷ []) refl)
      (apart-append (block_lines (suc level) block) (branch_lines (codes "elsif") level others) (block-apart (suc level) block)
      (branches-apart (codes "elsif") level others))

-- OPERATIONS
param-apart : (n : Name) (m : Mode) (rest : List Token) → is_apart rest ≡ true
    → is_apart ((Word n ∷ Sign Colon ∷ mode_token m ∷ Word (codes "word") ∷ []) ++ rest) ≡ true
param-apart n In rest ok = ok
param-apart n Out rest ok = ok

more_params-apart : (ps : List Param) (rest : List Token) → is_apart rest ≡ true
    → is_apart (flat_map (λ q. Sign Semicolon ∷ param_tokens q) ps ++ rest) ≡ true
more_params-apart [] rest ok = ok
more_params-apart (p ∷ ps) rest ok = param-apart p.name p.mode (flat_map (λ q. Sign Semicolon ∷ param_tokens q) ps ++ rest)
    (more_params-apart ps rest ok)

head-apart : (sig : Signature) (rest : List Token) → is_apart rest ≡ true → is_apart (head_tokens sig ++ rest) ≡ true
head-apart sig rest ok = by sig.params where
  by : (ps : List Param) → is_apart (params_tokens ps ++ rest) ≡ true
  by [] = ok
  by (p ∷ ps) =
      let more = flat_map (λ q. Sign Semicolon ∷ param_tokens q) ps in
      param-apart p.name p.mode ((more ++ Sign RightParen ∷ []) ++ rest)
      (ap is_apart (append_assoc more (Sign RightParen ∷ []) rest) ∙ more_params-apart ps (Sign RightParen ∷ rest) ok)

data-apart : (level : ℕ) (ds : List Datum) → are_apart_lines (map (datum_line level) ds) ≡ true
data-apart level [] = refl
data-apart level (d ∷ ds) = data-apart level ds

declarations-apart : (level : ℕ) (os : List Operation) → are_apart_lines (map (λ o. declaration_line level o.sig) os) ≡ true
declarations-apart level [] = refl
declarations-apart level (o ∷ os) = and_from _ _ (head-apart o.sig (Sign Semicolon ∷ []) refl) (declarations-apart level os)

renaming-apart : (object : List ℕ) (sig : Signature) → is_apart (renaming_line 2 object sig).tokens ≡ true
renaming-apart object sig = head-apart sig (Word (codes "renames") ∷ Word object ∷ Sign Dot ∷ Word sig.name ∷ Sign Semicolon ∷ []) refl

renamings-apart : (object : List ℕ) (os : List Operation) → are_apart_lines (map (λ o. renaming_line 2 object o.sig) os) ≡ true
renamings-apart object [] = refl
renamings-apart object (o ∷ os) = and_from _ _ (renaming-apart object o.sig) (renamings-apart object os)

body-apart : (level : ℕ) (o : Operation) → are_apart_lines (body_lines level o) ≡ true
body-apart level o =
    and_from _ _ (head-apart o.sig (Word (codes "is") ∷ []) refl)
    (apart-append (map (datum_line (suc level)) o.locals) _ (data-apart (suc level) o.locals)
    (apart-append (block_lines (suc level) o.block) _ (block-apart (suc level) o.block) refl))

bodies-apart : (level : ℕ) (os : List Operation) → are_apart_lines (flat_map (body_lines level) os) ≡ true
bodies-apart level [] = refl
bodies-apart level (o ∷ os) = apart-append (body_lines level o) (flat_map (body_lines level) os) (body-apart level o) (bodies-apart level os)

-- UNITS
truth-apart : (b : Bool) → is_apart (truth_token b ∷ Sign Semicolon ∷ []) ≡ true
truth-apart true = refl
truth-apart false = refl

specification-apart : (f : Form) → are_apart_lines (inner_specification f) ≡ true
specification-apart (Passive ops) = declarations-apart 2 ops
specification-apart (Shared ceiling vars ops) =
    apart-append (map (λ o. declaration_line 3 o.sig) ops) _ (declarations-apart 3 ops)
    (apart-append (map (datum_line 3) vars) _ (data-apart 3 vars) (renamings-apart (codes "hrt_object") ops))
specification-apart (Cyclic priority offset period vars block) = refl
specification-apart (Sporadic priority ceiling op separation jitter external vars block) =
    and_from _ _ (head-apart op (Sign Semicolon ∷ []) refl) (and_from _ _ (renaming-apart (codes "hrt_obcs") op)
    (and_from _ _ (truth-apart external) refl))

kept-apart : (ps : List Param) → is_apart (kept_token ps ∷ Sign Semicolon ∷ []) ≡ true
kept-apart [] = refl
kept-apart (p ∷ ps) = refl

variable-apart : (ps : List Param)
    → is_apart (request_token ps ∷ Sign Colon ∷ Word (codes "word") ∷ Sign Becomes ∷ token.Number 0 ∷ Sign Semicolon ∷ []) ≡ true
variable-apart [] = refl
variable-apart (p ∷ ps) = refl

waiting-apart : (ps : List Param) → is_apart (request_token ps ∷ Sign RightParen ∷ Sign Semicolon ∷ []) ≡ true
waiting-apart [] = refl
waiting-apart (p ∷ ps) = refl

inner_body-apart : (f : Form) → are_apart_lines (inner_body f) ≡ true
inner_body-apart (Passive ops) = bodies-apart 2 ops
inner_body-apart (Shared ceiling vars ops) = apart-append (flat_map (body_lines 3) ops) _ (bodies-apart 3 ops) refl
inner_body-apart (Cyclic priority offset period vars block)
    = apart-append (map (datum_line 2) vars) _ (data-apart 2 vars) (apart-append (block_lines 4 block) _ (block-apart 4 block) refl)
inner_body-apart (Sporadic priority ceiling op separation jitter external vars block) =
    apart-append (map (datum_line 2) vars) _ (data-apart 2 vars)
    (and_from _ _ (head-apart op (Word (codes "is") ∷ []) refl) (and_from _ _ (kept-apart op.params)
    (and_from _ _ (variable-apart op.params) (and_from _ _ (waiting-apart op.params)
    (apart-append (block_lines 4 block) _ (block-apart 4 block) refl)))))

units-apart : (f : Unit → List Line) → ((u : Unit) → are_apart_lines (f u) ≡ true) → (us : List Unit) → are_apart_lines (flat_map f us) ≡ true
units-apart f each [] = refl
units-apart f each (u ∷ us) = apart-append (f u) (flat_map f us) (each u) (units-apart f each us)

specification_lines-apart : (u : Unit) → are_apart_lines (specification_lines u) ≡ true
specification_lines-apart u = apart-append (inner_specification u.form) (end_line 1 u.name ∷ []) (specification-apart u.form) refl

unit_body-apart : (u : Unit) → are_apart_lines (unit_body_lines u) ≡ true
unit_body-apart u = apart-append (inner_body u.form) (end_line 1 u.name ∷ []) (inner_body-apart u.form) refl

program-apart : (p : Program) → are_apart_lines (program_lines p) ≡ true
program-apart p =
    apart-append (flat_map specification_lines p.units) _ (units-apart specification_lines specification_lines-apart p.units)
    (apart-append (flat_map unit_body_lines p.units) _ (units-apart unit_body_lines unit_body-apart p.units) refl)

-- a program whose tokens can be read
pub program-ok : (p : Program) → is_writable p ≡ true → are_readable (program_lines p) ≡ true
program-ok p ok = ready-lines (program_lines p) (program-apart p) ok

-- and the tokens of readable lines can be read
readable-tokens : (ts : List Token) → is_readable_line ts ≡ true → list_all is_readable ts ≡ true
readable-tokens [] ok = refl
readable-tokens (t ∷ []) ok = and_from _ true ok refl
readable-tokens (t ∷ u ∷ ts) ok =
    let a = and_parts (is_readable t) _ ok in
    and_from _ _ a.0 (readable-tokens (u ∷ ts) (and_parts (are_apart t u) _ a.1).1)

readable-joined : (ls : List Line) → are_readable ls ≡ true → list_all is_readable (joined ls) ≡ true
readable-joined [] ok = refl
readable-joined (l ∷ ls) ok =
    let a = and_parts (is_readable_line l.tokens) _ ok in
    list_all-append is_readable l.tokens (joined ls) ∙ and_from _ _ (readable-tokens l.tokens a.0) (readable-joined ls a.1)

pub program-writable : (p : Program) → are_readable (program_lines p) ≡ true → is_writable p ≡ true
program-writable p ok = readable-joined (program_lines p) ok
