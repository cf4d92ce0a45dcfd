-- The tokens of a text, one front at a time.
use Rattle.std.proofs.Common.{◌≡◌, ℕ, zero, suc, ◌-◌, ◌<◌, List, [], ◌∷◌, ◌++◌, length, take, drop, Option, Some, None, Result, Ok, Err, refl}
use Rattle.std.proofs.Common.{sym, ap, ◌∙◌, arith, append_assoc, append-nil}
use Rattle.std.proofs.lemmas.List.{nil_from_length}
use Rattle.seq_tree.specs.declared.token.Token.{Token}
use Rattle.seq_tree.specs.declared.token.Place.{Place}
use Rattle.seq_tree.specs.declared.token.Spanned.{Spanned}
use Rattle.seq_tree.specs.Lexis.{Misread, Front, front_by, start_of, place_after, place_past, then_others, behind, tokens, tokens_after, with_token}

-- tokens before those that are read next
unfoldable pub with_front : List Spanned → Result (List Spanned) Misread → Result (List Spanned) Misread
with_front found (Ok others) = Ok (found ++ others)
with_front found (Err e) = Err e

-- bytes that were taken before are as if they weren't there, but for the place
tokens_after-drop : (skip : ℕ) (place : Place) (bytes : List ℕ) → tokens_after skip place bytes
    ≡ tokens_after 0 (place_past place (take skip bytes)) (drop skip bytes)
unfolding tokens_after
tokens_after-drop zero place bytes = refl
tokens_after-drop (suc skip) place [] = refl
tokens_after-drop (suc skip) place (c ∷ cs) = tokens_after-drop skip (place_after place c) cs

pub tokens-nil : (place : Place) → tokens_after 0 place [] ≡ Ok []
unfolding tokens_after
tokens-nil place = refl

pub tokens-start : (bytes : List ℕ) → tokens_after 0 (record { line = 1; column = 1 }) bytes ≡ tokens bytes
unfolding tokens
tokens-start bytes = refl

step : (place : Place) (t : Option Token) (r : Result (List Spanned) Misread) → then_others place r t ≡ with_front (with_token t place []) r
unfolding with_front
step place None (Ok others) = refl
step place (Some t) (Ok others) = refl
step place t (Err e) = refl

-- the definition as an equation: the first token, and the tokens of what is left
pub tokens-cons : (place : Place) (c : ℕ) (cs : List ℕ) (f : Front) → front_by (start_of c cs) place (c ∷ cs) ≡ Ok f → 0 < f.len
    → tokens_after 0 place (c ∷ cs) ≡ with_front (with_token f.token place [])
    (tokens_after 0 (place_past place (take f.len (c ∷ cs))) (drop f.len (c ∷ cs)))
unfolding tokens_after
tokens-cons place c cs f e h =
    let one : f.len ≡ suc (f.len - 1) = omega arith in
    let left : tokens_after (f.len - 1) (place_after place c) cs ≡ tokens_after 0 (place_past place (take f.len (c ∷ cs))) (drop f.len (c ∷ cs)) =
    tokens_after-drop (f.len - 1) (place_after place c) cs ∙ ap (λ n. tokens_after 0 (place_past place (take n (c ∷ cs))) (drop n (c ∷ cs)))
    (sym one) in
    ap (behind place (λ skip. tokens_after skip (place_after place c) cs)) e ∙ ap (λ others. then_others place others f.token) left ∙ step
    place f.token _

pub tokens-fault : (place : Place) (c : ℕ) (cs : List ℕ) (e : Misread) → front_by (start_of c cs) place (c ∷ cs) ≡ Err e
    → tokens_after 0 place (c ∷ cs) ≡ Err e
unfolding tokens_after
tokens-fault place c cs e h = ap (behind place (λ skip. tokens_after skip (place_after place c) cs)) h

pub with_front-none : (r : Result (List Spanned) Misread) → with_front [] r ≡ r
unfolding with_front
with_front-none (Ok others) = refl
with_front-none (Err e) = refl

pub with_front-twice : (a b : List Spanned) (r : Result (List Spanned) Misread) → with_front (a ++ b) r ≡ with_front a (with_front b r)
unfolding with_front
with_front-twice a b (Ok others) = ap Ok (append_assoc a b others)
with_front-twice a b (Err e) = refl

pub with_front-ok : (a : List Spanned) → with_front a (Ok []) ≡ Ok a
unfolding with_front
with_front-ok a = ap Ok (append-nil a)

pub with_front-err : (a : List Spanned) (e : Misread) → with_front a (Err e) ≡ Err e
unfolding with_front
with_front-err a e = refl

pub ruleset token_steps = (tokens-start, tokens-fault, tokens-nil, with_front-none, with_front-twice, with_front-ok, with_front-err)

-- one turn of the loop: a token is found, and the place moves past its bytes
pub tokens-turn : (place place' : Place) (found found' : List Spanned) (left rest front after : List ℕ) (c : ℕ) (f : Front)
    → left ≡ c ∷ rest → front_by (start_of c rest) place left ≡ Ok f → 0 < f.len
    → front ≡ take f.len left → after ≡ drop f.len left → place' ≡ place_past place front
    → found' ≡ found ++ with_token f.token place []
    → with_front found' (tokens_after 0 place' after) ≡ with_front found (tokens_after 0 place left)
tokens-turn place place' found found' left rest front after c f is_left read positive is_front is_after is_place is_found =
    rw (is_found, is_place, is_front, is_after, with_front-twice, is_left)
    (ap (with_front found) (sym (tokens-cons place c rest f (rw is_left at read) positive)))

pub tokens-over : (place : Place) (found : List Spanned) (left : List ℕ) → length left ≡ 0 → with_front found (tokens_after 0 place left) ≡ Ok found
tokens-over place found left h = rw (nil_from_length left h, tokens-nil) (with_front-ok found)
