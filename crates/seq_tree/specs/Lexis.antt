-- The tokens of a text with their places: the longest prefix that is a name, a number or a mark is the first token.
-- Lexical elements are those of ISO/IEC 8652:2012, 2.1 to 2.7, in ASCII, without based literals and exponents.
use Rattle.std.specs.Prelude.{map, ℕ, zero, suc, ◌+◌, ◌-◌, ◌*◌, Bool, true, false, not, ◌||◌, ◌&&◌, List, [], ◌∷◌, length, take, drop, nat_lt}
use Rattle.std.specs.Prelude.{nat_le, ◌==◌, if◌then◌else◌, Option, Some, None, Result, Ok, Err, is_some}
use Rattle.std.specs.Char.{is_ascii_alphabetic, is_ascii_alphanumeric, is_ascii_digit}
use Rattle.std.specs.Str.{str_to_ascii_lowercase}
use Rattle.std.specs.List.{prefix_len}
use Rattle.seq_tree.specs.declared.token.Mark.{Mark}
use Rattle.seq_tree.specs.declared.token.Token.{Token}
use Rattle.seq_tree.specs.declared.token.Token.TheVariants.{Word, Number, Sign}
use Rattle.seq_tree.specs.declared.token.Place.{Place}
use Rattle.seq_tree.specs.declared.token.Spanned.{Spanned}
use Rattle.seq_tree.specs.Marks.{mark_of}

-- why a text has no tokens
pub data Misread : Type 0 where
  -- a byte that begins no token, or a letter or underscore directly after a number
  Stray : Place → Misread
  -- a number that is too great
  Great : Place → Misread
  -- a name that is too long
  Long : Place → Misread

-- the place after a byte: a line feed ends a line
abbrev pub place_after : Place → ℕ → Place
place_after p c = if c == 10 then record { line = suc p.line; column = 1 } else record { line = p.line; column = suc p.column }

-- space, and tab to carriage return
abbrev pub is_space : ℕ → Bool
is_space c = c == 32 || (nat_le 9 c && nat_le c 13)

-- an underscore
abbrev pub is_underscore : ℕ → Bool
is_underscore c = c == 95

-- what may follow a part of a name or a number up to its end; after an underscore a part must come
abbrev pub goes_on : (ℕ → Bool) → Bool → List ℕ → Bool
goes_on part under [] = not under
goes_on part under (c ∷ cs) = if part c then goes_on part false cs else (is_underscore c && not under && goes_on part true cs)

-- a letter, then letters and digits, with single underscores between them
abbrev pub is_name : List ℕ → Bool
is_name [] = false
is_name (c ∷ cs) = is_ascii_alphabetic c && goes_on is_ascii_alphanumeric false cs

-- digits, with single underscores between them
abbrev pub is_numeral : List ℕ → Bool
is_numeral [] = false
is_numeral (c ∷ cs) = is_ascii_digit c && goes_on is_ascii_digit false cs

-- a mark
abbrev pub is_mark : List ℕ → Bool
is_mark text = is_some (mark_of text)

-- the length of the longest front, not empty, that passes the test, and 0 where none does
unfoldable pub longest : (List ℕ → Bool) → List ℕ → ℕ
longest test [] = 0
longest test (c ∷ cs) =
    let more = longest (λ xs. test (c ∷ xs)) cs in
    if nat_lt 0 more then suc more else if test (c ∷ []) then 1 else 0

-- the value of a number's digits
abbrev pub value_from : ℕ → List ℕ → ℕ
value_from before [] = before
value_from before (c ∷ cs) = value_from (if is_underscore c then before else 10 * before + (c - 48)) cs

-- what stands at the front of a text: a token, or white space or a comment, and its length
pub record Front : Type 0 where
  pub token : Option Token
  pub len : ℕ

-- a name at a place
unfoldable pub name_front : Place → List ℕ → Result Front Misread
name_front place text = if nat_lt 64 (length text) then Err (Long place) else Ok (record {
  token = Some (Word (str_to_ascii_lowercase text));
  len = length text;
})

-- the place past some bytes
abbrev pub place_past : Place → List ℕ → Place
place_past place [] = place
place_past place (c ∷ cs) = place_past (place_after place c) cs

-- whether bytes begin with a letter or an underscore
abbrev pub begins_part : List ℕ → Bool
begins_part [] = false
begins_part (c ∷ cs) = is_ascii_alphabetic c || is_underscore c

-- a number at a place, before what is left
unfoldable pub number_front : Place → List ℕ → List ℕ → Result Front Misread
number_front place digits rest =
    if nat_lt 4294967295 (value_from 0 digits) then Err (Great place)
    else if begins_part rest then Err (Stray (place_past place digits))
    else Ok (record { token = Some (Number (value_from 0 digits)); len = length digits })

-- a mark at a place
abbrev pub mark_front : Option Mark → Place → ℕ → Result Front Misread
mark_front None place len = Err (Stray place)
mark_front (Some m) place len = Ok (record { token = Some (Sign m); len = len })

-- what a first byte begins
pub data Start : Type 0 where
  Space Comment Name Numeral Other : Start

-- whether a byte and those behind it begin a comment
abbrev pub begins_comment : ℕ → List ℕ → Bool
begins_comment c [] = false
begins_comment c (d ∷ ds) = c == 45 && d == 45

-- what a first byte begins
unfoldable pub start_of : ℕ → List ℕ → Start
start_of c cs =
    if is_space c then Space
    else if is_ascii_alphabetic c then Name
    else if is_ascii_digit c then Numeral
    else if begins_comment c cs then Comment
    else Other

-- whether a byte goes on with its line
abbrev pub is_not_line_feed : ℕ → Bool
is_not_line_feed c = not (c == 10)

-- the longest front of a sort, and what is left behind it
unfoldable pub front_by : Start → Place → List ℕ → Result Front Misread
front_by Space place text = Ok (record { token = None; len = 1 })
front_by Comment place text = Ok (record { token = None; len = prefix_len is_not_line_feed text })
front_by Name place text = name_front place (take (longest is_name text) text)
front_by Numeral place text = number_front place (take (longest is_numeral text) text) (drop (longest is_numeral text) text)
front_by Other place text = mark_front (mark_of (take (longest is_mark text) text)) place (longest is_mark text)

-- a token, where there is one, before the others
abbrev pub with_token : Option Token → Place → List Spanned → List Spanned
with_token None place others = others
with_token (Some token) place others = record { token = token; place = place } ∷ others

-- a token before the others, where these have no fault
abbrev pub then_others : Place → Result (List Spanned) Misread → Option Token → Result (List Spanned) Misread
then_others place (Err fault) token = Err fault
then_others place (Ok others) token = Ok (with_token token place others)

-- the tokens of a front and of what is behind it
abbrev pub behind : Place → (ℕ → Result (List Spanned) Misread) → Result Front Misread → Result (List Spanned) Misread
behind place others (Err fault) = Err fault
behind place others (Ok front) = then_others place (others (front.len - 1)) front.token

-- the tokens of a text, whose first bytes belong to what was taken before
unfoldable pub tokens_after : ℕ → Place → List ℕ → Result (List Spanned) Misread
tokens_after skip place [] = Ok []
tokens_after (suc skip) place (c ∷ cs) = tokens_after skip (place_after place c) cs
tokens_after zero place (c ∷ cs) = behind place (λ skip. tokens_after skip (place_after place c) cs) (front_by (start_of c cs) place (c ∷ cs))

-- the tokens of a text
unfoldable pub tokens : List ℕ → Result (List Spanned) Misread
tokens text = tokens_after 0 (record { line = 1; column = 1 }) text

-- the tokens alone
abbrev pub plain : Result (List Spanned) Misread → Result (List Token) Misread
plain (Ok ts) = Ok (map (λ t. t.token) ts)
plain (Err fault) = Err fault
