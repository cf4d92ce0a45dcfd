-- Examples: what the tokens that take no memory stand for, and which are left of a list and of a text.
use Rattle.std.specs.Prelude.{◌≡◌, ℕ, true, false, List, [], ◌∷◌, ◌++◌, map, codes, Some, None, refl}
use Rattle.std.specs.Borrow.{Bor}
use Rattle.std.specs.Str.{str_to_ascii_lowercase}
use Rattle.std.proofs.Common.{ap, lit≤, sym}
use Rattle.seq_tree.specs.Lexis.{tokens, tokens_after, front_by, start_of, name_front, number_front, longest}
use Rattle.seq_tree.specs.Marks.{mark_of}
use Rattle.seq_tree.specs.declared.token.Token.TheVariants as token
use Rattle.seq_tree.specs.declared.token.Mark.TheVariants as mark
use Rattle.token_read.specs.Ahead.{Splits, ahead}
use Rattle.token_read.specs.Behind.{Finds, behind, counted, is_whole, lexeme_of, seen}
use Rattle.token_read.specs.Lexemes.{token_of}
use Rattle.token_read.specs.Words.{bare}
use Rattle.token_read.specs.declared.lexemes.Raw.{Raw}
use Rattle.token_read.specs.declared.lexemes.Word.TheVariants as word
use Rattle.token_read.specs.declared.lexemes.Lexeme.TheVariants as lexeme
use Rattle.token_read.specs.declared.tokens_left.Next.TheVariants as next
use Rattle.token_read.specs.declared.tokens_left.Tokens.{Tokens}

-- a word of a text is folded to lower case, and a kept one is as it is
word_folded : (r : Raw) → r.bytes.now ≡ codes "Pump_1" → token_of (lexeme.Word (word.Raw r)) ≡ token.Word (codes "pump_1")
word_folded r is = ap (λ b. token.Word (str_to_ascii_lowercase b)) is

word_kept : (n : Bor _) → token_of (lexeme.Word (word.Kept n)) ≡ token.Word n.now
word_kept n = refl

number_kept : token_of (lexeme.Number 7) ≡ token.Number 7
number_kept = refl

sign_kept : token_of (lexeme.Sign mark.Becomes) ≡ token.Sign mark.Becomes
sign_kept = refl

-- the tokens of a text, without white space and comments, wherever the text stands
behind_text : behind (codes " A + 1 -- x") ≡ token.Word (codes "a") ∷ token.Sign mark.Plus ∷ token.Number 1 ∷ []
unfolding behind tokens tokens_after front_by start_of name_front number_front longest mark_of
behind_text = refl

-- a text with a fault is not whole, and has none
whole : map is_whole ([] ∷ codes "a 1" ∷ codes "a &" ∷ codes "4294967296" ∷ []) ≡ true ∷ true ∷ false ∷ false ∷ []
unfolding is_whole tokens tokens_after front_by start_of name_front number_front longest mark_of
whole = refl

behind_fault : behind (codes "a &") ≡ []
unfolding behind tokens tokens_after front_by start_of name_front number_front longest mark_of
behind_fault = refl

-- a token before others; where none is seen the others stay, and where there is no first one there are none
seen_none : seen None (token.Number 1 ∷ []) ≡ token.Number 1 ∷ []
seen_none = refl

counted_none : counted None (token.Number 1 ∷ []) ≡ []
counted_none = refl

seen_some : seen (Some (lexeme.Number 2)) (token.Number 1 ∷ []) ≡ token.Number 2 ∷ token.Number 1 ∷ []
seen_some = refl

counted_some : counted (Some (lexeme.Number 2)) (token.Number 1 ∷ []) ≡ token.Number 2 ∷ token.Number 1 ∷ []
counted_some = refl

-- the first token as it is held: none, a word of a text, a kept one, a number or a mark
held_none : lexeme_of next.None ≡ None
held_none = refl

held_raw : (r : Raw) → lexeme_of (next.Raw r) ≡ Some (lexeme.Word (word.Raw r))
held_raw r = refl

held_kept : (n : Bor _) → lexeme_of (next.Kept n) ≡ Some (lexeme.Word (word.Kept n))
held_kept n = refl

held_number : lexeme_of (next.Number 7) ≡ Some (lexeme.Number 7)
held_number = refl

held_sign : lexeme_of (next.Sign mark.Becomes) ≡ Some (lexeme.Sign mark.Becomes)
held_sign = refl

-- the first token, then those of the list, then those of the text
ahead_all : (t : Tokens) → t.next ≡ next.Number 2 → ahead t ≡ token.Number 2 ∷ bare t.listed.now ++ behind t.text.now
unfolding ahead
ahead_all t is = ap (λ n. counted (lexeme_of n) (bare t.listed.now ++ behind t.text.now)) is

ahead_none : (t : Tokens) → t.next ≡ next.None → ahead t ≡ []
unfolding ahead
ahead_none t is = ap (λ n. counted (lexeme_of n) (bare t.listed.now ++ behind t.text.now)) is

-- what reading the first token of a text answers: none only where no token is left, and else the token with the bytes behind it
rest : Bor (List ℕ)
rest = record { ref_ptr = (0, 0); now = codes "1" }

finds_first : Finds (Some (lexeme.Number 2, rest)) (token.Number 2 ∷ token.Number 1 ∷ [])
unfolding rest behind is_whole tokens tokens_after front_by start_of name_front number_front longest mark_of
finds_first = (refl, refl, lit≤ tt)

finds_another : Finds (Some (lexeme.Number 2, rest)) (token.Number 3 ∷ token.Number 1 ∷ []) → ⊥
finds_another f = let e = f.0 in cc

finds_fewer : Finds (Some (lexeme.Number 2, rest)) (token.Number 2 ∷ []) → ⊥
unfolding rest behind tokens tokens_after front_by start_of name_front number_front longest mark_of
finds_fewer f = let e = f.0 in cc

finds_none : Finds None (token.Number 1 ∷ []) → ⊥
finds_none e = cc

-- and of all that is left
splits_first : (t : Tokens) → t.next ≡ next.None → Splits (Some (lexeme.Number 2, t)) (token.Number 2 ∷ [])
splits_first t is = ap (λ ts. token.Number 2 ∷ ts) (sym (ahead_none t is))

splits_none : Splits None (token.Number 1 ∷ []) → ⊥
splits_none e = cc
