-- Printed lines read back as their tokens.
use Rattle.std.proofs.Common.{◌≡◌, ℕ, zero, suc, ◌+◌, ◌<◌, Bool, true, false, ◌&&◌, ◌||◌, cond, List, [], ◌∷◌, ◌++◌, length, take, drop, Option}
use Rattle.std.proofs.Common.{Some, None, Result, Ok, Err, eqb, refl, sym, ap, ◌∙◌, subst, arith, min, decimal, replicate, codes, append_assoc}
use Rattle.std.proofs.Common.{◌*◌, ◌≤◌}
use Rattle.std.specs.List.{list_all, prefix_len}
use Rattle.std.specs.Str.{str_to_ascii_lowercase}
use Rattle.std.proofs.lemmas.Bool.{and_parts, ltb-true}
use Rattle.std.proofs.lemmas.Fmt.{digits_value-decimal}
use Rattle.std.proofs.Math.Seq.{drop-append_seam}
use Rattle.seq_tree.specs.declared.token.Place.{Place}
use Rattle.seq_tree.specs.declared.token.Token.{Token}
use Rattle.seq_tree.specs.declared.token.Token.TheVariants.{Word, Number, Sign}
use Rattle.seq_tree.specs.declared.token.Spanned.{Spanned}
use Rattle.seq_tree.specs.declared.token.Mark.{Mark}
use Rattle.seq_tree.specs.declared.token.Mark.TheVariants as mark
use Rattle.seq_tree.specs.Lexis.{Misread, Space, Comment, is_name, start_of, is_space, is_not_line_feed, front_by, value_from, place_past}
use Rattle.seq_tree.specs.Lexis.{tokens, tokens_after, plain, with_token}
use Rattle.seq_tree.specs.Layout.{gap, clings_on, clings_back, layout, line_text, token_text, tokens_text}
use Rattle.seq_tree.specs.Marks.{mark_of, mark_text}
use Rattle.seq_tree.specs.Spelling.{Line, joined}
use Rattle.token_read.proofs.Shared.FrontLaws.{front-space, front-comment}
use Rattle.token_read.proofs.Shared.MarkLaws.{double, mark_of-double}
use Rattle.token_read.proofs.Shared.TokenSteps.{with_front, with_front-none, tokens-nil, tokens-start, tokens-turn}
use Rattle.seq_print.specs.Readable.{is_readable, are_apart, is_readable_line, are_readable, comments_text, is_comment}
use Rattle.seq_print.proofs.Shared.Following.{parts, joins, AreDigits, parts-line_feed, parts-next}
use Rattle.seq_print.proofs.Shared.Fronts.{IsOther, own, written, spelled-front, word-front, digits-front, single-front, double-front}

-- a text has these tokens, from whatever place
abbrev pub Gives : List ℕ → List Token → Type 0
Gives text ts = (place : Place) → plain (tokens_after 0 place text) ≡ Ok ts

plain-token : (t : Token) (place : Place) (r : Result (List Spanned) Misread) (ts : List Token) → plain r ≡ Ok ts
    → plain (with_front (with_token (Some t) place []) r) ≡ Ok (t ∷ ts)
unfolding with_front
plain-token t place (Ok others) ts e = cc
plain-token t place (Err fault) ts e = cc

-- the equation of tokens at the front of a text
turn : (place : Place) (c : ℕ) (cs rest : List ℕ) (o : Option Token) (n : ℕ) → front_by (start_of c cs) place (c ∷ cs)
    ≡ Ok (record { token = o; len = suc n }) → drop n cs ≡ rest
    → tokens_after 0 place (c ∷ cs) ≡ with_front (with_token o place []) (tokens_after 0 (place_past place (take (suc n) (c ∷ cs))) rest)
turn place c cs rest o n e left =
    sym (with_front-none (tokens_after 0 place (c ∷ cs)))
    ∙ sym (tokens-turn place (place_past place (take (suc n) (c ∷ cs))) [] (with_token o place []) (c ∷ cs) cs (take (suc n) (c ∷ cs)) rest c
    (record { token = o; len = suc n }) refl e (omega arith) refl (sym left) refl refl)

-- a token first
gives-token : (c : ℕ) (cs rest : List ℕ) (t : Token) (n : ℕ) (ts : List Token)
    → ((place : Place) → front_by (start_of c cs) place (c ∷ cs) ≡ Ok (record { token = Some t; len = suc n })) → drop n cs ≡ rest
    → Gives rest ts → Gives (c ∷ cs) (t ∷ ts)
gives-token c cs rest t n ts e left g place =
    ap plain (turn place c cs rest (Some t) n (e place) left) ∙ plain-token t place _ ts (g (place_past place (take (suc n) (c ∷ cs))))

-- white space or a comment first
gives-skip : (c : ℕ) (cs rest : List ℕ) (n : ℕ) (ts : List Token)
    → ((place : Place) → front_by (start_of c cs) place (c ∷ cs) ≡ Ok (record { token = None; len = suc n })) → drop n cs ≡ rest
    → Gives rest ts → Gives (c ∷ cs) ts
gives-skip c cs rest n ts e left g place =
    ap plain (turn place c cs rest None n (e place) left ∙ with_front-none _) ∙ g (place_past place (take (suc n) (c ∷ cs)))

pub gives-nil : Gives [] []
gives-nil place = ap plain (tokens-nil place)

start-space : (c : ℕ) (cs : List ℕ) → is_space c ≡ true → Space ≡ start_of c cs
unfolding start_of
start-space c cs e = rw e refl

pub gives-space : (c : ℕ) (rest : List ℕ) (ts : List Token) → is_space c ≡ true → Gives rest ts → Gives (c ∷ rest) ts
gives-space c rest ts e g = gives-skip c rest rest 0 ts (λ place. front-space place c rest (start-space c rest e)) refl g

pub gives-spaces : (n : ℕ) (rest : List ℕ) (ts : List Token) → Gives rest ts → Gives (replicate n 32 ++ rest) ts
gives-spaces zero rest ts g = g
gives-spaces (suc n) rest ts g = gives-space 32 (replicate n 32 ++ rest) ts refl (gives-spaces n rest ts g)

-- a name, in capitals or not
pub gives-spelled : (text name rest : List ℕ) (ts : List Token) → is_name text ≡ true → str_to_ascii_lowercase text ≡ name → length text ≤ 64
    → parts (Word name) rest ≡ true → Gives rest ts
    → Gives (text ++ rest) (Word name ∷ ts)
gives-spelled [] name rest ts spelled folded short follow g = cc
gives-spelled (c ∷ cs) name rest ts spelled folded short follow g =
    gives-token c (cs ++ rest) rest (Word name) (length cs) ts (λ place. spelled-front place c cs rest name spelled folded short follow)
    (drop-append_seam cs rest) g

gives-word : (name rest : List ℕ) (ts : List Token) → is_readable (Word name) ≡ true → parts (Word name) rest ≡ true → Gives rest ts
    → Gives (name ++ rest) (Word name ∷ ts)
gives-word [] rest ts ok follow g = cc
gives-word (c ∷ cs) rest ts ok follow g = gives-token c (cs ++ rest) rest (Word (c ∷ cs)) (length cs) ts
    (λ place. word-front place c cs rest ok follow) (drop-append_seam cs rest) g

gives-digits : (n : ℕ) (ds rest : List ℕ) (ts : List Token) → AreDigits n ds → value_from 0 ds ≡ n → n < 4294967296 → parts (Number n) rest ≡ true
    → Gives rest ts → Gives (ds ++ rest) (Number n ∷ ts)
gives-digits n [] rest ts are e h follow g = let some = are.some in absurd (omega arith)
gives-digits n (d ∷ ds) rest ts are e h follow g =
    gives-token d (ds ++ rest) rest (Number n) (length ds) ts (λ place. digits-front place n d ds rest are.digits e h follow)
    (drop-append_seam ds rest) g

gives-number : (n : ℕ) (rest : List ℕ) (ts : List Token) → is_readable (Number n) ≡ true → parts (Number n) rest ≡ true → Gives rest ts
    → Gives (decimal n ++ rest) (Number n ∷ ts)
gives-number n rest ts ok follow g =
    let small : n < 4294967296 = ltb-true _ _ ok in
    gives-digits n (decimal n) rest ts (written n ok) (digits_value-decimal own n (omega arith)) small follow g

gives-single : (m : Mark) (c : ℕ) (rest : List ℕ) (ts : List Token) → IsOther c → Some m ≡ mark_of (c ∷ [])
    → ((d : ℕ) → joins (Sign m) d ≡ false → (None ≡ double c d) × ((eqb c 45 && eqb d 45) ≡ false))
    → parts (Sign m) rest ≡ true → Gives rest ts → Gives (c ∷ rest) (Sign m ∷ ts)
gives-single m c rest ts other one two follow g =
    gives-token c rest rest (Sign m) 0 ts (λ place. single-front place m c rest other one
    (λ d j. ((two d j).0 ∙ sym (mark_of-double c d), (two d j).1)) follow) refl g

gives-double : (m : Mark) (c d : ℕ) (rest : List ℕ) (ts : List Token) → IsOther c → eqb c 45 ≡ false → Some m ≡ mark_of (c ∷ d ∷ []) → Gives rest ts
    → Gives (c ∷ (d ∷ rest)) (Sign m ∷ ts)
gives-double m c d rest ts other solid two g
    = gives-token c (d ∷ rest) rest (Sign m) 1 ts (λ place. double-front place m c d rest other solid two) refl g

gives-mark : (m : Mark) (rest : List ℕ) (ts : List Token) → parts (Sign m) rest ≡ true → Gives rest ts → Gives (mark_text m ++ rest) (Sign m ∷ ts)
unfolding mark_of double
gives-mark mark.LeftParen rest ts = gives-single mark.LeftParen 40 rest ts (refl, refl, refl) refl (λ d j. (refl, refl))
gives-mark mark.RightParen rest ts = gives-single mark.RightParen 41 rest ts (refl, refl, refl) refl (λ d j. (refl, refl))
gives-mark mark.Comma rest ts = gives-single mark.Comma 44 rest ts (refl, refl, refl) refl (λ d j. (refl, refl))
gives-mark mark.Semicolon rest ts = gives-single mark.Semicolon 59 rest ts (refl, refl, refl) refl (λ d j. (refl, refl))
gives-mark mark.Colon rest ts = gives-single mark.Colon 58 rest ts (refl, refl, refl) refl (λ d j. (rw j refl, refl))
gives-mark mark.Dot rest ts = gives-single mark.Dot 46 rest ts (refl, refl, refl) refl (λ d j. (rw j refl, refl))
gives-mark mark.DotDot rest ts = λ follow. gives-double mark.DotDot 46 46 rest ts (refl, refl, refl) refl refl
gives-mark mark.Becomes rest ts = λ follow. gives-double mark.Becomes 58 61 rest ts (refl, refl, refl) refl refl
gives-mark mark.Equal rest ts = gives-single mark.Equal 61 rest ts (refl, refl, refl) refl (λ d j. (refl, refl))
gives-mark mark.NotEqual rest ts = λ follow. gives-double mark.NotEqual 47 61 rest ts (refl, refl, refl) refl refl
gives-mark mark.Less rest ts = gives-single mark.Less 60 rest ts (refl, refl, refl) refl (λ d j. (rw j refl, refl))
gives-mark mark.LessEqual rest ts = λ follow. gives-double mark.LessEqual 60 61 rest ts (refl, refl, refl) refl refl
gives-mark mark.Greater rest ts = gives-single mark.Greater 62 rest ts (refl, refl, refl) refl (λ d j. (rw j refl, refl))
gives-mark mark.GreaterEqual rest ts = λ follow. gives-double mark.GreaterEqual 62 61 rest ts (refl, refl, refl) refl refl
gives-mark mark.Plus rest ts = gives-single mark.Plus 43 rest ts (refl, refl, refl) refl (λ d j. (refl, refl))
gives-mark mark.Minus rest ts = gives-single mark.Minus 45 rest ts (refl, refl, refl) refl (λ d j. (refl, rw j refl))
gives-mark mark.Star rest ts = gives-single mark.Star 42 rest ts (refl, refl, refl) refl (λ d j. (rw j refl, refl))
gives-mark mark.Slash rest ts = gives-single mark.Slash 47 rest ts (refl, refl, refl) refl (λ d j. (rw j refl, refl))
gives-mark mark.StarStar rest ts = λ follow. gives-double mark.StarStar 42 42 rest ts (refl, refl, refl) refl refl

-- a readable token before what leaves it as it is
pub gives-one : (t : Token) (rest : List ℕ) (ts : List Token) → is_readable t ≡ true → parts t rest ≡ true → Gives rest ts
    → Gives (token_text t ++ rest) (t ∷ ts)
gives-one (Word name) rest ts ok follow g = gives-word name rest ts ok follow g
gives-one (Number n) rest ts ok follow g = gives-number n rest ts ok follow g
gives-one (Sign m) rest ts ok follow g = gives-mark m rest ts follow g

pub gives-between : (b : Bool) (rest : List ℕ) (ts : List Token) → Gives rest ts → Gives (cond b [] (codes " ") ++ rest) ts
gives-between true rest ts g = g
gives-between false rest ts g = gives-space 32 rest ts refl g

-- the text of a line begins with its first token
tail : List Token → Token → List ℕ → List ℕ
tail [] u rest = rest
tail (v ∷ vs) u rest = gap u v ++ (tokens_text (v ∷ vs) ++ rest)

tokens_text-head : (u : Token) (us : List Token) (rest : List ℕ) → tokens_text (u ∷ us) ++ rest ≡ token_text u ++ tail us u rest
unfolding tail
tokens_text-head u [] rest = refl
tokens_text-head u (v ∷ vs) rest = append_assoc (token_text u) (gap u v ++ tokens_text (v ∷ vs)) rest ∙ ap (λ t. token_text u ++ t)
    (append_assoc (gap u v) (tokens_text (v ∷ vs)) rest)

readable-head : (u : Token) (us : List Token) → is_readable_line (u ∷ us) ≡ true → is_readable u ≡ true
readable-head u [] e = e
readable-head u (v ∷ vs) e = (and_parts _ _ e).0

-- the tokens of a line, before a line feed
gives-tokens : (ts : List Token) (rest : List ℕ) (more : List Token) → is_readable_line ts ≡ true → Gives (10 ∷ rest) more
    → Gives (tokens_text ts ++ (10 ∷ rest)) (ts ++ more)
unfolding tail
gives-tokens [] rest more ok g = g
gives-tokens (t ∷ []) rest more ok g = gives-one t (10 ∷ rest) more ok (parts-line_feed t rest) g
gives-tokens (t ∷ u ∷ us) rest more ok g =
    let a = and_parts (is_readable t) _ ok in
    let b = and_parts (are_apart t u) _ a.1 in
    let after = parts-next t u (tail us u (10 ∷ rest)) written (readable-head u us b.1) b.0 in
    let after' : parts t (gap t u ++ (tokens_text (u ∷ us) ++ (10 ∷ rest))) ≡ true
    = ap (λ x. parts t (gap t u ++ x)) (tokens_text-head u us (10 ∷ rest)) ∙ after in
    let P : List ℕ → Type 0 = λ x. Gives x ((t ∷ u ∷ us) ++ more) in
    subst P (sym (tokens_text-head t (u ∷ us) (10 ∷ rest)))
    (gives-one t (gap t u ++ (tokens_text (u ∷ us) ++ (10 ∷ rest))) ((u ∷ us) ++ more) a.0 after'
    (gives-between (clings_on t || clings_back u) _ _ (gives-tokens (u ∷ us) rest more b.1 g)))

-- a line
gives-line : (l : Line) (rest : List ℕ) (more : List Token) → is_readable_line l.tokens ≡ true → Gives rest more
    → Gives (line_text l ++ rest) (l.tokens ++ more)
gives-line l rest more ok g =
    let indent = replicate (min 30 (3 * l.level)) 32 in
    let P : List ℕ → Type 0 = λ x. Gives x (l.tokens ++ more) in
    let e : line_text l ++ rest ≡ indent ++ (tokens_text l.tokens ++ (10 ∷ rest)) =
    append_assoc indent (tokens_text l.tokens ++ codes "\n") rest ∙ ap (λ x. indent ++ x) (append_assoc (tokens_text l.tokens) (codes "\n") rest) in
    subst P (sym e) (gives-spaces (min 30 (3 * l.level)) _ _ (gives-tokens l.tokens rest more ok (gives-space 10 rest more refl g)))

-- lines
pub gives-layout : (lines : List Line) → are_readable lines ≡ true → Gives (layout lines) (joined lines)
gives-layout [] ok = gives-nil
gives-layout (l ∷ ls) ok = let p = and_parts (is_readable_line l.tokens) _ ok in gives-line l (layout ls) (joined ls) p.0 (gives-layout ls p.1)

prefix-line : (body rest : List ℕ) → list_all is_not_line_feed body ≡ true → prefix_len is_not_line_feed (body ++ (10 ∷ rest)) ≡ length body
prefix-line [] rest e = refl
prefix-line (c ∷ cs) rest e = let p = and_parts (is_not_line_feed c) _ e in rw (p.0, prefix-line cs rest p.1) (omega arith)

start-comment : (cs : List ℕ) → Comment ≡ start_of 45 (45 ∷ cs)
unfolding start_of
start-comment cs = refl

two_more : (n : ℕ) → 1 + (1 + n) ≡ suc (suc n)
two_more n = omega arith

-- a comment, with its line feed
pub gives-comment : (body rest : List ℕ) (ts : List Token) → list_all is_not_line_feed body ≡ true → Gives rest ts
    → Gives (45 ∷ 45 ∷ (body ++ (10 ∷ rest))) ts
gives-comment body rest ts e g =
    gives-skip 45 (45 ∷ (body ++ (10 ∷ rest))) (10 ∷ rest) (suc (length body)) ts
    (λ place. front-comment place 45 (45 ∷ (body ++ (10 ∷ rest))) (start-comment (body ++ (10 ∷ rest))) ∙ ap
    (λ n. Ok (record { token = None; len = n })) (ap (λ n. 1 + (1 + n)) (prefix-line body rest e) ∙ two_more (length body)))
    (drop-append_seam body (10 ∷ rest))
    (gives-space 10 rest ts refl g)

pub read-whole : (text : List ℕ) (ts : List Token) → Gives text ts → plain (tokens text) ≡ Ok ts
read-whole text ts g = ap plain (sym (tokens-start text)) ∙ g (record { line = 1; column = 1 })

-- comments before a text
gives-comments : (bodies : List (List ℕ)) (rest : List ℕ) (ts : List Token) → list_all is_comment bodies ≡ true → Gives rest ts
    → Gives (comments_text bodies ++ rest) ts
gives-comments [] rest ts e g = g
gives-comments (body ∷ bodies) rest ts e g =
    let p = and_parts (is_comment body) _ e in
    let P : List ℕ → Type 0 = λ x. Gives (45 ∷ 45 ∷ x) ts in
    let same : (body ++ codes "\n") ++ (comments_text bodies ++ rest) ≡ body ++ (10 ∷ (comments_text bodies ++ rest))
    = append_assoc body (codes "\n") (comments_text bodies ++ rest) in
    let Q : List ℕ → Type 0 = λ x. Gives x ts in
    subst Q (sym (append_assoc (codes "--" ++ (body ++ codes "\n")) (comments_text bodies) rest))
    (subst P (sym same) (gives-comment body (comments_text bodies ++ rest) ts p.0 (gives-comments bodies rest ts p.1 g)))

-- the law of printing
pub reads-back : (lines : List Line) (bodies : List (List ℕ)) → are_readable lines ≡ true → list_all is_comment bodies ≡ true
    → plain (tokens (comments_text bodies ++ layout lines)) ≡ Ok (joined lines)
reads-back lines bodies ok are = read-whole _ _ (gives-comments bodies (layout lines) (joined lines) are (gives-layout lines ok))
