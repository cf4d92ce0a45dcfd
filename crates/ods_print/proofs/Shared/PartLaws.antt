-- Printed lines of parts read back as the tokens of the parts.
use Rattle.std.proofs.Common.{◌≡◌, ℕ, Bool, true, false, ◌&&◌, ◌||◌, ◌*◌, List, [], ◌∷◌, ◌++◌, length, map, min, codes, flat_map, refl, sym, ap}
use Rattle.std.proofs.Common.{◌∙◌, subst, append_assoc}
use Rattle.std.specs.Prelude.{bytes_eq, nat_le}
use Rattle.std.specs.List.{list_all}
use Rattle.std.specs.Str.{str_to_ascii_lowercase}
use Rattle.std.proofs.lemmas.Bool.{and_from, and_parts, leb-true}
use Rattle.std.proofs.lemmas.List.Folds.{list_all-append}
use Rattle.std.proofs.lemmas.Slice.Eq.{bytes_eq-Decides}
use Rattle.seq_tree.specs.Lexis.{is_name}
use Rattle.seq_tree.specs.Layout.{clings_back, clings_on, gap}
use Rattle.seq_tree.specs.declared.token.Token.{Token}
use Rattle.seq_tree.specs.declared.token.Token.TheVariants.{Word, Number, Sign}
use Rattle.seq_tree.specs.declared.token.Mark.TheVariants.{Dot, DotDot}
use Rattle.seq_print.specs.Readable.{are_apart, is_readable}
use Rattle.seq_print.proofs.Shared.BackLaws.{Gives, gives-between, gives-nil, gives-one, gives-space, gives-spaces, gives-spelled}
use Rattle.seq_print.proofs.Shared.Following.{parts, parts-line_feed, parts-next, sign-name}
use Rattle.seq_print.proofs.Shared.Fronts.{written}
use Rattle.ods_tree.specs.Layout.{capital, part_text, parts_text, design_line_text}
use Rattle.ods_tree.specs.Spelling.{Part, Capital, Plain, DesignLine, part_token}
use Rattle.ods_print.specs.Parts.{lines_text}
use Rattle.seq_print.proofs.Shared.Depths.{indent}

-- whether a word that is printed in capitals reads as the word
abbrev pub is_capital : List ℕ → Bool
is_capital word = is_name (map capital word) && (bytes_eq (str_to_ascii_lowercase (map capital word)) word && nat_le (length (map capital word)) 64)

-- whether a part can be read from a text
abbrev pub is_ready : Part → Bool
is_ready (Capital word) = is_capital word
is_ready (Plain t) = is_readable t

-- whether the parts of a line can be read back from it
abbrev pub is_ready_line : List Part → Bool
is_ready_line [] = true
is_ready_line (p ∷ []) = is_ready p
is_ready_line (p ∷ q ∷ ps) = is_ready p && (are_apart (part_token p) (part_token q) && is_ready_line (q ∷ ps))

gives-capital : (word rest : List ℕ) (ts : List Token) → is_capital word ≡ true → parts (Word word) rest ≡ true → Gives rest ts
    → Gives (map capital word ++ rest) (Word word ∷ ts)
gives-capital word rest ts ok follow g =
    let n = and_parts (is_name (map capital word)) _ ok in
    let m = and_parts (bytes_eq (str_to_ascii_lowercase (map capital word)) word) _ n.1 in
    gives-spelled (map capital word) word rest ts n.0 ((bytes_eq-Decides (str_to_ascii_lowercase (map capital word)) word).0 m.0)
    (leb-true _ _ m.1) follow g

gives-part : (p : Part) (rest : List ℕ) (ts : List Token) → is_ready p ≡ true → parts (part_token p) rest ≡ true → Gives rest ts
    → Gives (part_text p ++ rest) (part_token p ∷ ts)
gives-part (Capital word) rest ts ok follow g = gives-capital word rest ts ok follow g
gives-part (Plain t) rest ts ok follow g = gives-one t rest ts ok follow g

-- with what the layout puts between two parts that stay apart, the first is left as it is
capital-next : (t : Token) (word rest : List ℕ) → is_capital word ≡ true → parts t (gap t (Word word) ++ (map capital word ++ rest)) ≡ true
capital-next (Word name) word rest ok = refl
capital-next (Number n) word rest ok = refl
capital-next (Sign m) word rest ok = sign-name m (map capital word) rest (and_parts (is_name (map capital word)) _ ok).0

part-next : (t : Token) (q : Part) (rest : List ℕ) → is_ready q ≡ true → are_apart t (part_token q) ≡ true
    → parts t (gap t (part_token q) ++ (part_text q ++ rest)) ≡ true
part-next t (Capital word) rest ok apart = capital-next t word rest ok
part-next t (Plain u) rest ok apart = parts-next t u rest written ok apart

-- the text of a line begins with its first part
tail : List Part → Part → List ℕ → List ℕ
tail [] q rest = rest
tail (p ∷ ps) q rest = gap (part_token q) (part_token p) ++ (parts_text (p ∷ ps) ++ rest)

parts_text-head : (q : Part) (qs : List Part) (rest : List ℕ) → parts_text (q ∷ qs) ++ rest ≡ part_text q ++ tail qs q rest
unfolding tail
parts_text-head q [] rest = refl
parts_text-head q (p ∷ ps) rest =
    append_assoc (part_text q) (gap (part_token q) (part_token p) ++ parts_text (p ∷ ps)) rest ∙ ap (λ t. part_text q ++ t)
    (append_assoc (gap (part_token q) (part_token p)) (parts_text (p ∷ ps)) rest)

ready-head : (q : Part) (qs : List Part) → is_ready_line (q ∷ qs) ≡ true → is_ready q ≡ true
ready-head q [] e = e
ready-head q (p ∷ ps) e = (and_parts _ _ e).0

-- the parts of a line, before a line feed
gives-parts : (ps : List Part) (rest : List ℕ) (more : List Token) → is_ready_line ps ≡ true → Gives (10 ∷ rest) more
    → Gives (parts_text ps ++ (10 ∷ rest)) (map part_token ps ++ more)
unfolding tail
gives-parts [] rest more ok g = g
gives-parts (p ∷ []) rest more ok g = gives-part p (10 ∷ rest) more ok (parts-line_feed (part_token p) rest) g
gives-parts (p ∷ q ∷ qs) rest more ok g =
    let a = and_parts (is_ready p) _ ok in
    let b = and_parts (are_apart (part_token p) (part_token q)) _ a.1 in
    let after = part-next (part_token p) q (tail qs q (10 ∷ rest)) (ready-head q qs b.1) b.0 in
    let after' : parts (part_token p) (gap (part_token p) (part_token q) ++ (parts_text (q ∷ qs) ++ (10 ∷ rest))) ≡ true =
    ap (λ x. parts (part_token p) (gap (part_token p) (part_token q) ++ x)) (parts_text-head q qs (10 ∷ rest)) ∙ after in
    let P : List ℕ → Type 0 = λ x. Gives x (map part_token (p ∷ q ∷ qs) ++ more) in
    subst P (sym (parts_text-head p (q ∷ qs) (10 ∷ rest)))
    (gives-part p (gap (part_token p) (part_token q) ++ (parts_text (q ∷ qs) ++ (10 ∷ rest))) (map part_token (q ∷ qs) ++ more) a.0 after'
    (gives-between (clings_on (part_token p) || clings_back (part_token q)) _ _ (gives-parts (q ∷ qs) rest more b.1 g)))

-- a line
gives-line : (l : DesignLine) (rest : List ℕ) (more : List Token) → is_ready_line l.parts ≡ true → Gives rest more
    → Gives (design_line_text l ++ rest) (map part_token l.parts ++ more)
gives-line l rest more ok g =
    let P : List ℕ → Type 0 = λ x. Gives x (map part_token l.parts ++ more) in
    let e : design_line_text l ++ rest ≡ indent l.level ++ (parts_text l.parts ++ (10 ∷ rest)) =
    append_assoc (indent l.level) (parts_text l.parts ++ codes "\n") rest ∙ ap (λ x. indent l.level ++ x)
    (append_assoc (parts_text l.parts) (codes "\n") rest) in
    subst P (sym e) (gives-spaces (min 30 (3 * l.level)) _ _ (gives-parts l.parts rest more ok (gives-space 10 rest more refl g)))

-- the tokens of lines
abbrev pub line_tokens : List DesignLine → List Token
line_tokens ls = flat_map (λ l. map part_token l.parts) ls

-- lines
pub gives-lines : (ls : List DesignLine) → list_all (λ l. is_ready_line l.parts) ls ≡ true → Gives (lines_text ls) (line_tokens ls)
gives-lines [] ok = gives-nil
gives-lines (l ∷ ls) ok =
    let p = and_parts (is_ready_line l.parts) _ ok in
    gives-line l (lines_text ls) (line_tokens ls) p.0 (gives-lines ls p.1)

-- whether parts don't begin with a dot or two
abbrev pub no_dot : List Part → Bool
no_dot (Plain (Sign Dot) ∷ ps) = false
no_dot (Plain (Sign DotDot) ∷ ps) = false
no_dot _ = true

-- whether these parts leave a token apart from them
abbrev pub leaves : Token → List Part → Bool
leaves (Sign Dot) ps = no_dot ps
leaves t ps = true

-- whether capitals read as their words, and dots stay apart
abbrev pub is_sound : List Part → Bool
is_sound [] = true
is_sound (Capital word ∷ ps) = is_capital word && is_sound ps
is_sound (Plain t ∷ ps) = leaves t ps && is_sound ps

dot-apart : (q : Part) (ps : List Part) → no_dot (q ∷ ps) ≡ true → are_apart (Sign Dot) (part_token q) ≡ true
dot-apart (Capital word) ps e = refl
dot-apart (Plain (Sign Dot)) ps e = cc
dot-apart (Plain (Sign DotDot)) ps e = cc
dot-apart (Plain (Word name)) ps e = refl
dot-apart (Plain (Number n)) ps e = refl
dot-apart (Plain (Sign _)) ps e = refl

sound-apart : (t : Token) (q : Part) (ps : List Part) → leaves t (q ∷ ps) ≡ true → are_apart t (part_token q) ≡ true
sound-apart (Sign Dot) q ps e = dot-apart q ps e
sound-apart (Word name) q ps e = refl
sound-apart (Number n) q ps e = refl
sound-apart (Sign _) q ps e = refl

-- parts that are sound, and whose tokens can be read, are ready
ready-line : (ps : List Part) → is_sound ps ≡ true → list_all is_readable (map part_token ps) ≡ true → is_ready_line ps ≡ true
ready-line [] sound ok = refl
ready-line (Capital word ∷ []) sound ok = (and_parts (is_capital word) _ sound).0
ready-line (Plain t ∷ []) sound ok = (and_parts (is_readable t) _ ok).0
ready-line (Capital word ∷ q ∷ ps) sound ok =
    let s = and_parts (is_capital word) _ sound in
    let o = and_parts (is_readable (Word word)) _ ok in
    and_from _ _ s.0 (and_from _ _ refl (ready-line (q ∷ ps) s.1 o.1))
ready-line (Plain t ∷ q ∷ ps) sound ok =
    let s = and_parts (leaves t (q ∷ ps)) _ sound in
    let o = and_parts (is_readable t) _ ok in
    and_from _ _ o.0 (and_from _ _ (sound-apart t q ps s.0) (ready-line (q ∷ ps) s.1 o.1))

-- lines of such parts
abbrev pub are_sound : List DesignLine → Bool
are_sound ls = list_all (λ l. is_sound l.parts) ls

pub ready-lines : (ls : List DesignLine) → are_sound ls ≡ true → list_all is_readable (line_tokens ls) ≡ true
    → list_all (λ l. is_ready_line l.parts) ls ≡ true
ready-lines [] sound ok = refl
ready-lines (l ∷ ls) sound ok =
    let s = and_parts (is_sound l.parts) _ sound in
    let o = and_parts (list_all is_readable (map part_token l.parts)) _
    (sym (list_all-append is_readable (map part_token l.parts) (line_tokens ls)) ∙ ok) in
    and_from _ _ (ready-line l.parts s.0 o.0) (ready-lines ls s.1 o.1)
