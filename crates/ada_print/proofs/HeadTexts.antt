-- The texts of the heads of procedures, and of lines that begin with one.
use Rattle.std.proofs.Common.{◌≡◌, ℕ, suc, true, false, List, [], ◌∷◌, ◌++◌, map, flat_map, codes, decimal, refl, sym, ap}
use Rattle.std.proofs.Common.{◌∙◌, append_assoc, append-nil}
use Rattle.seq_tree.specs.Layout.{layout, line_text, tokens_text}
use Rattle.seq_tree.specs.Names.{Name}
use Rattle.seq_tree.specs.Operations.{Signature, Operation}
use Rattle.seq_tree.specs.Spelling.{Line, line, block_lines}
use Rattle.seq_tree.specs.declared.token.Token.{Token}
use Rattle.seq_tree.specs.declared.token.Token.TheVariants.{Word, Sign}
use Rattle.seq_tree.specs.declared.token.Mark.TheVariants.{RightParen, Semicolon, Colon, Dot}
use Rattle.seq_tree.specs.declared.tree.Mode.{Mode}
use Rattle.seq_tree.specs.declared.tree.Mode.TheVariants.{In, Out}
use Rattle.seq_tree.specs.declared.tree.Param.{Param}
use Rattle.seq_tree.specs.declared.tree.Datum.{Datum}
use Rattle.ada_tree.specs.Spelling.{body_lines, datum_line, declaration_line, end_line, head_tokens, mode_token, param_tokens, params_tokens}
use Rattle.ada_tree.specs.Spelling.{renaming_line}
use Rattle.seq_print.proofs.Shared.Spacing.{spaced, tokens-spaced}
use Rattle.seq_print.specs.Printing.{mode_text, param_text, params_more, params_text}
use Rattle.seq_print.proofs.Shared.Depths.{indent, layout-append}
use Rattle.ada_print.specs.Parts.{head_text}

-- the bytes of lines, and of more lines
pub joined-two : (a b : List Line) (x y : List ℕ) → x ≡ layout a → y ≡ layout b → x ++ y ≡ layout (a ++ b)
joined-two a b x y e f = rw (e, f) (sym (layout-append a b))

pub one-line : (l : Line) (x : List ℕ) → x ≡ line_text l → x ≡ layout (l ∷ [])
one-line l x e = e ∙ sym (append-nil (line_text l))

-- a variable
pub datum-text : (level : ℕ) (d : Datum) → indent level ++ (([] ++ (d.name ++ codes " : word := ")) ++ ([] ++ (decimal d.value ++ codes ";\n")))
    ≡ line_text (datum_line level d)
datum-text level d = simp append_assoc

-- a parameter, and what is behind it
param-spaced : (n : Name) (m : Mode) (rest : List Token)
    → spaced true ((Word n ∷ Sign Colon ∷ mode_token m ∷ Word (codes "word") ∷ []) ++ rest)
    ≡ (n ++ mode_text m) ++ spaced false rest
param-spaced n In rest = sym (append_assoc n (codes " : in word") (spaced false rest))
param-spaced n Out rest = sym (append_assoc n (codes " : out word") (spaced false rest))

more-spaced : (ps : List Param) (rest : List Token) → spaced false (flat_map (λ q. Sign Semicolon ∷ param_tokens q) ps ++ rest)
    ≡ params_more ps ++ spaced false rest
more-spaced [] rest = refl
more-spaced (p ∷ ps) rest =
    ap (λ x. codes "; " ++ x) (param-spaced p.name p.mode (flat_map (λ q. Sign Semicolon ∷ param_tokens q) ps ++ rest))
    ∙ ap (λ x. codes "; " ++ (param_text p ++ x)) (more-spaced ps rest)
    ∙ ap (λ x. codes "; " ++ x) (sym (append_assoc (param_text p) (params_more ps) (spaced false rest)))

-- parameters, and what is behind them
params-spaced : (ps : List Param) (rest : List Token) → spaced false (params_tokens ps ++ rest) ≡ params_text ps ++ spaced false rest
params-spaced [] rest = refl
params-spaced (p ∷ ps) rest =
    let more = flat_map (λ q. Sign Semicolon ∷ param_tokens q) ps in
    ap (λ x. codes " (" ++ x) (param-spaced p.name p.mode ((more ++ Sign RightParen ∷ []) ++ rest))
    ∙ ap (λ ts. codes " (" ++ (param_text p ++ spaced false ts)) (append_assoc more (Sign RightParen ∷ []) rest)
    ∙ ap (λ x. codes " (" ++ (param_text p ++ x))
    (more-spaced ps (Sign RightParen ∷ rest) ∙ sym (append_assoc (params_more ps) (codes ")") (spaced false rest)))
    ∙ ap (λ x. codes " (" ++ x) (sym (append_assoc (param_text p) (params_more ps ++ codes ")") (spaced false rest)))

-- a head, and what is behind it
head-spaced : (sig : Signature) (rest : List Token) → tokens_text (head_tokens sig ++ rest) ≡ head_text sig ++ spaced false rest
head-spaced sig rest =
    tokens-spaced (head_tokens sig ++ rest)
    ∙ ap (λ x. codes "procedure " ++ (sig.name ++ x)) (params-spaced sig.params rest)
    ∙ ap (λ x. codes "procedure " ++ x) (sym (append_assoc sig.name (params_text sig.params) (spaced false rest)))

-- a line that begins with a head
pub head-line : (level : ℕ) (sig : Signature) (rest : List Token) (tail : List ℕ) → tail ≡ spaced false rest ++ codes "\n"
    → indent level ++ (head_text sig ++ tail) ≡ line_text (line level (head_tokens sig ++ rest))
head-line level sig rest tail e =
    ap (λ x. indent level ++ x)
    (ap (λ x. head_text sig ++ x) e ∙ sym (append_assoc (head_text sig) (spaced false rest) (codes "\n")) ∙ ap (λ x. x ++ codes "\n")
    (sym (head-spaced sig rest)))

pub declaration-text : (level : ℕ) (sig : Signature) → indent level ++ (head_text sig ++ codes ";\n") ≡ line_text (declaration_line level sig)
declaration-text level sig = head-line level sig (Sign Semicolon ∷ []) (codes ";\n") refl

renames-tail : (object name : List ℕ) → codes " renames " ++ (object ++ (codes "." ++ (name ++ codes ";\n")))
    ≡ spaced false (Word (codes "renames") ∷ Word object ∷ Sign Dot ∷ Word name ∷ Sign Semicolon ∷ []) ++ codes "\n"
renames-tail object name = simp append_assoc

pub renaming-text : (object : List ℕ) (sig : Signature)
    → codes "      " ++ (head_text sig ++ (codes " renames " ++ (object ++ (codes "." ++ (sig.name ++ codes ";\n")))))
    ≡ line_text (renaming_line 2 object sig)
renaming-text object sig = head-line 2 sig (Word (codes "renames") ∷ Word object ∷ Sign Dot ∷ Word sig.name ∷ Sign Semicolon ∷ []) _
    (renames-tail object sig.name)

-- the line that the body of a procedure begins with, and the one that it ends with
pub is-text : (level : ℕ) (sig : Signature) → indent level ++ (head_text sig ++ codes " is\n")
    ≡ line_text (line level (head_tokens sig ++ Word (codes "is") ∷ []))
is-text level sig = head-line level sig (Word (codes "is") ∷ []) (codes " is\n") refl

pub end-text : (level : ℕ) (name : Name) → indent level ++ (codes "end " ++ (name ++ codes ";\n")) ≡ line_text (end_line level name)
end-text level name = ap (λ x. indent level ++ (codes "end " ++ x)) (sym (append_assoc name (codes ";") (codes "\n")))

pub regrouped : (a b c d : List ℕ) → a ++ (b ++ (c ++ d)) ≡ (a ++ (b ++ c)) ++ d
regrouped a b c d = simp append_assoc

-- the body of a procedure
pub body-text : (level inner : ℕ) (o : Operation) → inner ≡ suc level
    → indent level ++ (head_text o.sig ++ (codes " is\n" ++ (layout (map (datum_line inner) o.locals)
    ++ ((indent level ++ (codes "begin" ++ codes "\n")) ++ (layout (block_lines inner o.block)
    ++ (indent level ++ (codes "end " ++ (o.sig.name ++ codes ";\n"))))))))
    ≡ layout (body_lines level o)
body-text level inner o e =
    let head : Line = line level (head_tokens o.sig ++ Word (codes "is") ∷ []) in
    let begin : Line = line level (Word (codes "begin") ∷ []) in
    let locals : List Line = map (datum_line (suc level)) o.locals in
    let block : List Line = block_lines (suc level) o.block in
    let last : Line = end_line level o.sig.name in
    rw e
    (regrouped (indent level) (head_text o.sig) (codes " is\n") _
    ∙ joined-two (head ∷ []) (locals ++ begin ∷ (block ++ last ∷ [])) _ _ (one-line head _ (is-text level o.sig))
    (joined-two locals (begin ∷ (block ++ last ∷ [])) _ _ refl
    (joined-two (begin ∷ []) (block ++ last ∷ []) _ _ (one-line begin _ refl)
    (joined-two block (last ∷ []) _ _ refl (one-line last _ (end-text level o.sig.name))))))
