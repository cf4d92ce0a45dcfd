-- What may follow a token directly, so that the token is read as it is.
use Rattle.std.proofs.Common.{◌≡◌, ℕ, Bool, true, false, not, ◌||◌, List, [], ◌∷◌, ◌++◌, length, ◌<◌, decimal, eqb, refl, arith}
use Rattle.std.specs.Char.{is_ascii_alphabetic, is_ascii_alphanumeric, is_ascii_digit}
use Rattle.std.specs.Str.{all_ascii_digits}
use Rattle.std.proofs.lemmas.Bool.{and_parts, ne_eqb}
use Rattle.seq_tree.specs.Lexis.{is_underscore, is_name}
use Rattle.seq_tree.specs.Layout.{gap, token_text}
use Rattle.seq_tree.specs.Marks.{mark_text}
use Rattle.seq_tree.specs.declared.token.Token.{Token}
use Rattle.seq_tree.specs.declared.token.Token.TheVariants.{Word, Number, Sign}
use Rattle.seq_tree.specs.declared.token.Mark.{Mark}
use Rattle.seq_tree.specs.declared.token.Mark.TheVariants as mark
use Rattle.seq_print.specs.Readable.{is_readable, are_apart}

-- whether a byte directly behind a token would belong to it
abbrev pub joins : Token → ℕ → Bool
joins (Word name) c = is_ascii_alphanumeric c || is_underscore c
joins (Number n) c = is_ascii_alphanumeric c || is_underscore c
joins (Sign mark.Dot) c = eqb c 46
joins (Sign mark.Colon) c = eqb c 61
joins (Sign mark.Slash) c = eqb c 61
joins (Sign mark.Less) c = eqb c 61
joins (Sign mark.Greater) c = eqb c 61
joins (Sign mark.Star) c = eqb c 42
joins (Sign mark.Minus) c = eqb c 45
joins (Sign m) c = false

-- whether bytes behind a token leave it as it is
abbrev pub parts : Token → List ℕ → Bool
parts t [] = true
parts t (c ∷ cs) = not (joins t c)

-- a line feed leaves each token as it is
pub parts-line_feed : (t : Token) (rest : List ℕ) → parts t (10 ∷ rest) ≡ true
parts-line_feed (Word name) rest = refl
parts-line_feed (Number n) rest = refl
parts-line_feed (Sign mark.Dot) rest = refl
parts-line_feed (Sign _) rest = refl

word-sign : (name rest : List ℕ) (m : Mark) → parts (Word name) (gap (Word name) (Sign m) ++ (mark_text m ++ rest)) ≡ true
word-sign name rest mark.Dot = refl
word-sign name rest _ = refl

number-sign : (n : ℕ) (rest : List ℕ) (m : Mark) → parts (Number n) (gap (Number n) (Sign m) ++ (mark_text m ++ rest)) ≡ true
number-sign n rest mark.Dot = refl
number-sign n rest _ = refl

sign-sign : (rest : List ℕ) (m k : Mark) → are_apart (Sign m) (Sign k) ≡ true → parts (Sign m) (gap (Sign m) (Sign k) ++ (mark_text k ++ rest)) ≡ true
sign-sign rest mark.Dot mark.Dot e = cc
sign-sign rest mark.Dot mark.DotDot e = cc
sign-sign rest mark.Dot _ e = refl
sign-sign rest _ mark.Dot e = refl
sign-sign rest _ _ e = refl

-- behind a mark, a byte that is no dot
sign-word : (name : List ℕ) (c : ℕ) (cs : List ℕ) (m : Mark) → eqb c 46 ≡ false → parts (Sign m) (gap (Sign m) (Word name) ++ (c ∷ cs)) ≡ true
sign-word name c cs mark.Dot e = rw e refl
sign-word name c cs _ e = refl

sign-number : (n c : ℕ) (cs : List ℕ) (m : Mark) → eqb c 46 ≡ false → parts (Sign m) (gap (Sign m) (Number n) ++ (c ∷ cs)) ≡ true
sign-number n c cs mark.Dot e = rw e refl
sign-number n c cs _ e = refl

letter-no_dot : (c : ℕ) → is_ascii_alphabetic c ≡ true → eqb c 46 ≡ false
letter-no_dot c e = ne_eqb c 46 (λ h. let e' = rw h at e in cc)

digit-no_dot : (c : ℕ) → is_ascii_digit c ≡ true → eqb c 46 ≡ false
digit-no_dot c e = ne_eqb c 46 (λ h. let e' = rw h at e in cc)

-- a mark before a name
pub sign-name : (m : Mark) (name rest : List ℕ) → is_name name ≡ true → parts (Sign m) (gap (Sign m) (Word name) ++ (name ++ rest)) ≡ true
sign-name m [] rest e = cc
sign-name m (c ∷ cs) rest e = sign-word (c ∷ cs) c (cs ++ rest) m (letter-no_dot c (and_parts _ _ e).0)

-- a mark before digits
pub sign-digits : (m : Mark) (n : ℕ) (ds rest : List ℕ) → all_ascii_digits ds ≡ true → 0 < length ds
    → parts (Sign m) (gap (Sign m) (Number n) ++ (ds ++ rest)) ≡ true
sign-digits m n [] rest e h = absurd (omega arith)
sign-digits m n (d ∷ ds) rest e h = sign-number n d (ds ++ rest) m (digit-no_dot d (and_parts _ _ e).0)

-- digits are written as digits
pub record AreDigits (n : ℕ) (ds : List ℕ) : Type 0 where
  pub digits : all_ascii_digits ds ≡ true
  pub some : 0 < length ds

-- with what the layout puts between two tokens that stay apart, the first is left as it is
pub parts-next : (t u : Token) (rest : List ℕ) → ((n : ℕ) → is_readable (Number n) ≡ true → AreDigits n (decimal n)) → is_readable u ≡ true
    → are_apart t u ≡ true → parts t (gap t u ++ (token_text u ++ rest)) ≡ true
parts-next (Word name) (Word other) rest written ok apart = refl
parts-next (Word name) (Number n) rest written ok apart = refl
parts-next (Word name) (Sign m) rest written ok apart = word-sign name rest m
parts-next (Number n) (Word other) rest written ok apart = refl
parts-next (Number n) (Number k) rest written ok apart = refl
parts-next (Number n) (Sign m) rest written ok apart = number-sign n rest m
parts-next (Sign m) (Word name) rest written ok apart = sign-name m name rest (and_parts _ _ ok).0
parts-next (Sign m) (Number n) rest written ok apart = let d = written n ok in sign-digits m n (decimal n) rest d.digits d.some
parts-next (Sign m) (Sign k) rest written ok apart = sign-sign rest m k apart
