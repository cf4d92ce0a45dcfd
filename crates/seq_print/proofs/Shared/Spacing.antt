-- The tokens of a line, one after another, with the spaces between them.
use Rattle.std.proofs.Common.{◌≡◌, ℕ, Bool, true, false, ◌||◌, cond, List, [], ◌∷◌, ◌++◌, codes, refl, sym, ap, ◌∙◌, append_assoc, append-nil}
use Rattle.seq_tree.specs.Expressions.{Expression, Number, Variable, Paren, Not, Binary}
use Rattle.seq_tree.specs.Layout.{clings_back, clings_on, gap, token_text, tokens_text}
use Rattle.seq_tree.specs.Spelling.{actual_tokens, expression_tokens, more_actuals, op_token}
use Rattle.seq_tree.specs.declared.token.Token.{Token}
use Rattle.seq_tree.specs.declared.token.Token.TheVariants.{Sign}
use Rattle.seq_tree.specs.declared.token.Mark.TheVariants.{Comma, LeftParen, RightParen, Semicolon}
use Rattle.seq_tree.specs.declared.tree.BinOp.{BinOp}
use Rattle.seq_tree.specs.declared.tree.BinOp.TheVariants.{And, Or, Xor, Eq, Ne, Lt, Le, Gt, Ge, Add, Sub, Mul, Div, Mod}
use Rattle.seq_print.specs.Printing.{actuals_text, expression_text, more_text}

-- tokens behind one that the next stands at directly, or one that it doesn't
abbrev pub spaced : Bool → List Token → List ℕ
spaced clings [] = []
spaced clings (t ∷ ts) = cond (clings || clings_back t) [] (codes " ") ++ (token_text t ++ spaced (clings_on t) ts)

-- whether what follows tokens stands at them directly
abbrev pub ending : Bool → List Token → Bool
ending clings [] = clings
ending clings (t ∷ ts) = ending (clings_on t) ts

-- a line
pub tokens-spaced : (ts : List Token) → tokens_text ts ≡ spaced true ts
tokens-spaced [] = refl
tokens-spaced (t ∷ []) = sym (append-nil (token_text t))
tokens-spaced (t ∷ u ∷ ts) = ap (λ x. token_text t ++ (gap t u ++ x)) (tokens-spaced (u ∷ ts))

-- tokens one after another
pub spaced-append : (clings : Bool) (ts us : List Token) → spaced clings (ts ++ us) ≡ spaced clings ts ++ spaced (ending clings ts) us
spaced-append clings [] us = refl
spaced-append clings (t ∷ ts) us =
    let before = cond (clings || clings_back t) [] (codes " ") in
    ap (λ x. before ++ (token_text t ++ x)) (spaced-append (clings_on t) ts us)
    ∙ ap (λ x. before ++ x) (sym (append_assoc (token_text t) (spaced (clings_on t) ts) (spaced (ending (clings_on t) ts) us)))
    ∙ sym (append_assoc before (token_text t ++ spaced (clings_on t) ts) (spaced (ending (clings_on t) ts) us))

pub ending-append : (clings : Bool) (ts us : List Token) → ending clings (ts ++ us) ≡ ending (ending clings ts) us
ending-append clings [] us = refl
ending-append clings (t ∷ ts) us = ending-append (clings_on t) ts us

-- operators stand with a space on both sides
op-apart : (op : BinOp) → (clings_on (op_token op) ≡ false) × (clings_back (op_token op) ≡ false)
op-apart And = (refl, refl)
op-apart Or = (refl, refl)
op-apart Xor = (refl, refl)
op-apart Eq = (refl, refl)
op-apart Ne = (refl, refl)
op-apart Lt = (refl, refl)
op-apart Le = (refl, refl)
op-apart Gt = (refl, refl)
op-apart Ge = (refl, refl)
op-apart Add = (refl, refl)
op-apart Sub = (refl, refl)
op-apart Mul = (refl, refl)
op-apart Div = (refl, refl)
op-apart Mod = (refl, refl)

-- an expression ends with a name, a number or a parenthesis
pub expression-ending : (clings : Bool) (e : Expression) → ending clings (expression_tokens e) ≡ false
expression-ending clings (Number n) = refl
expression-ending clings (Variable name) = refl
expression-ending clings (Paren e) = ending-append true (expression_tokens e) (Sign RightParen ∷ [])
expression-ending clings (Not e) = expression-ending false e
expression-ending clings (Binary op left right) =
    ending-append clings (expression_tokens left) (op_token op ∷ expression_tokens right) ∙ expression-ending (clings_on (op_token op)) right

-- an expression begins with a space behind most tokens
pub expression-beginning : (e : Expression) (rest : List Token) → spaced false (expression_tokens e ++ rest)
    ≡ codes " " ++ spaced true (expression_tokens e ++ rest)
expression-beginning (Number n) rest = refl
expression-beginning (Variable name) rest = refl
expression-beginning (Paren e) rest = refl
expression-beginning (Not e) rest = refl
expression-beginning (Binary op left right) rest =
    let e : (expression_tokens left ++ op_token op ∷ expression_tokens right) ++ rest
    ≡ expression_tokens left ++ (op_token op ∷ expression_tokens right ++ rest)
    = append_assoc (expression_tokens left) (op_token op ∷ expression_tokens right) rest in
    ap (spaced false) e ∙ expression-beginning left (op_token op ∷ expression_tokens right ++ rest) ∙ ap (λ ts. codes " " ++ spaced true ts) (sym e)

-- an expression, and what is behind it
pub expression-first : (e : Expression) (rest : List Token) → spaced true (expression_tokens e ++ rest) ≡ expression_text e ++ spaced false rest
expression-first e rest =
    spaced-append true (expression_tokens e) rest
    ∙ ap (λ c. spaced true (expression_tokens e) ++ spaced c rest) (expression-ending true e)
    ∙ ap (λ x. x ++ spaced false rest) (sym (tokens-spaced (expression_tokens e)))

pub expression-next : (e : Expression) (rest : List Token) → spaced false (expression_tokens e ++ rest)
    ≡ codes " " ++ (expression_text e ++ spaced false rest)
expression-next e rest = expression-beginning e rest ∙ ap (λ x. codes " " ++ x) (expression-first e rest)

pub expression-last : (e : Expression) → spaced false (expression_tokens e) ≡ codes " " ++ expression_text e
expression-last e =
    ap (spaced false) (sym (append-nil (expression_tokens e))) ∙ expression-next e [] ∙ ap (λ x. codes " " ++ x) (append-nil (expression_text e))

-- the texts of expressions
pub paren-text : (e : Expression) → expression_text (Paren e) ≡ codes "(" ++ (expression_text e ++ codes ")")
paren-text e = tokens-spaced (expression_tokens (Paren e)) ∙ ap (λ x. codes "(" ++ x) (expression-first e (Sign RightParen ∷ []))

pub not-text : (e : Expression) → expression_text (Not e) ≡ codes "not " ++ expression_text e
not-text e = tokens-spaced (expression_tokens (Not e)) ∙ ap (λ x. codes "not" ++ x) (expression-last e)

pub binary-text : (op : BinOp) (left right : Expression)
    → expression_text (Binary op left right)
    ≡ expression_text left ++ ((codes " " ++ (token_text (op_token op) ++ codes " ")) ++ expression_text right)
binary-text op left right =
    let before : List ℕ → List ℕ = λ x. expression_text left ++ x in
    tokens-spaced (expression_tokens (Binary op left right))
    ∙ expression-first left (op_token op ∷ expression_tokens right)
    ∙ ap (λ b. before (cond b [] (codes " ") ++ (token_text (op_token op) ++ spaced (clings_on (op_token op)) (expression_tokens right))))
    (op-apart op).1
    ∙ ap (λ b. before (codes " " ++ (token_text (op_token op) ++ spaced b (expression_tokens right)))) (op-apart op).0
    ∙ ap (λ x. before (codes " " ++ (token_text (op_token op) ++ x))) (expression-last right)
    ∙ ap (λ x. before (codes " " ++ x)) (sym (append_assoc (token_text (op_token op)) (codes " ") (expression_text right)))

-- actuals
more-spaced : (es : List Expression) (rest : List Token) → spaced false (more_actuals es ++ rest) ≡ more_text es ++ spaced false rest
more-spaced [] rest = refl
more-spaced (e ∷ es) rest =
    ap (λ ts. spaced false (Sign Comma ∷ ts)) (append_assoc (expression_tokens e) (more_actuals es) rest)
    ∙ ap (λ x. codes "," ++ x) (expression-next e (more_actuals es ++ rest))
    ∙ ap (λ x. codes ", " ++ (expression_text e ++ x)) (more-spaced es rest)
    ∙ ap (λ x. codes ", " ++ x) (sym (append_assoc (expression_text e) (more_text es) (spaced false rest)))

pub actuals-spaced : (es : List Expression) → spaced false (actual_tokens es ++ Sign Semicolon ∷ []) ≡ actuals_text es ++ codes ";"
actuals-spaced [] = refl
actuals-spaced (e ∷ es) =
    ap (λ ts. spaced false (Sign LeftParen ∷ ts)) (append_assoc (expression_tokens e) (more_actuals es ++ Sign RightParen ∷ []) (Sign Semicolon ∷ []))
    ∙ ap (λ ts. codes " (" ++ spaced true (expression_tokens e ++ ts)) (append_assoc (more_actuals es) (Sign RightParen ∷ []) (Sign Semicolon ∷ []))
    ∙ ap (λ x. codes " (" ++ x) (expression-first e (more_actuals es ++ Sign RightParen ∷ Sign Semicolon ∷ []))
    ∙ ap (λ x. codes " (" ++ (expression_text e ++ x)) (more-spaced es (Sign RightParen ∷ Sign Semicolon ∷ []) ∙ sym
    (append_assoc (more_text es) (codes ")") (codes ";")))
    ∙ ap (λ x. codes " (" ++ x) (sym (append_assoc (expression_text e) (more_text es ++ codes ")") (codes ";")))
