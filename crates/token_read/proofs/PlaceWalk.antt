-- From one token of a text to the next, up to the one whose place is sought.
use Rattle.std.proofs.Common.{◌≡◌, ℕ, zero, suc, ◌<◌, List, [], ◌∷◌, ◌++◌, length, take, drop, option_map, Option, Some, None, is_some, Result}
use Rattle.std.proofs.Common.{Ok, Err, slice_get, refl, sym, ap, ◌∙◌}
use Rattle.std.proofs.lemmas.List.{nil_from_length, take-append-drop}
use Rattle.seq_tree.specs.declared.token.Token.{Token}
use Rattle.seq_tree.specs.declared.token.Place.{Place}
use Rattle.seq_tree.specs.declared.token.Spanned.{Spanned}
use Rattle.seq_tree.specs.Lexis.{Misread, Front, front_by, start_of, place_after, place_past, tokens, tokens_after, with_token}
use Rattle.token_read.specs.declared.lexemes.Lexeme.{Lexeme}
use Rattle.token_read.specs.Lexemes.{token_of}
use Rattle.token_read.specs.Places.{passed, place_or}
use Rattle.token_read.proofs.Shared.TokenSteps.{with_front, tokens-cons, tokens-fault, tokens-nil, tokens-start}

-- the place of the token behind so many others, where there is no fault
unfoldable pub placed : ℕ → List ℕ → Result (List Spanned) Misread → Option Place
placed n bytes (Ok ts) = Some (place_or bytes (slice_get ts n))
placed n bytes (Err fault) = None

onward : (n m : ℕ) (bytes : List ℕ) (t : Option Token) (place : Place) (r : Result (List Spanned) Misread) → passed n (is_some t) ≡ Some m
    → placed m bytes r ≡ placed n bytes (with_front (with_token t place []) r)
unfolding placed with_front
onward n m bytes t place (Err fault) h = refl
onward n m bytes None place (Ok ts) h = let same : n ≡ m = cc in rw same refl
onward zero m bytes (Some t) place (Ok ts) h = absurd cc
onward (suc n) m bytes (Some t) place (Ok ts) h = let same : n ≡ m = cc in rw same refl

here : (n : ℕ) (bytes : List ℕ) (t : Option Token) (place p : Place) (r : Result (List Spanned) Misread) → passed n (is_some t) ≡ None
    → placed n bytes (with_front (with_token t place []) r) ≡ Some p → place ≡ p
unfolding placed with_front
here n bytes t place p (Err fault) h e = absurd cc
here n bytes None place p (Ok ts) h e = absurd cc
here zero bytes (Some t) place p (Ok ts) h e = cc
here (suc n) bytes (Some t) place p (Ok ts) h e = absurd cc

module _ (place : Place) (c : ℕ) (rest left : List ℕ) (f : Front) (is_left : left ≡ c ∷ rest) (read : front_by (start_of c rest) place left
    ≡ Ok f) (positive : 0 < f.len) where
  next : tokens_after 0 place left ≡ with_front (with_token f.token place []) (tokens_after 0 (place_past place (take f.len left)) (drop f.len left))
  next = rw is_left (tokens-cons place c rest f (rw is_left at read) positive)

  -- the token sought is behind this one
  pub walk-turn : (place' : Place) (front after bytes : List ℕ) (n m : ℕ) → passed n (is_some f.token) ≡ Some m → front ≡ take f.len left
      → after ≡ drop f.len left → place' ≡ place_past place front
      → placed m bytes (tokens_after 0 place' after) ≡ placed n bytes (tokens_after 0 place left)
  walk-turn place' front after bytes n m h is_front is_after is_place =
      rw (is_place, is_front, is_after, next) (onward n m bytes f.token place _ h)

  -- the token sought is this one
  pub walk-here : (bytes : List ℕ) (n before : ℕ) (found : List Spanned) → passed n (is_some f.token) ≡ None
      → placed n bytes (tokens_after 0 place left) ≡ placed before bytes (tokens bytes) → tokens bytes ≡ Ok found
      → place ≡ place_or bytes (slice_get found before)
  unfolding placed
  walk-here bytes n before found h walk e =
      here n bytes f.token place (place_or bytes (slice_get found before)) _ h (ap (placed n bytes) (sym next) ∙ walk ∙ ap (placed before bytes) e)

-- no token is left
pub walk-ends : (place : Place) (left bytes : List ℕ) (n before : ℕ) (found : List Spanned) → length left ≡ 0
    → place_past place left ≡ place_past (record { line = 1; column = 1 }) bytes
    → placed n bytes (tokens_after 0 place left) ≡ placed before bytes (tokens bytes) → tokens bytes ≡ Ok found
    → place ≡ place_or bytes (slice_get found before)
unfolding placed
walk-ends place left bytes n before found none past walk e =
    let empty = nil_from_length left none in
    let ends : placed n bytes (tokens_after 0 place left) ≡ Some (place_past (record { line = 1; column = 1 }) bytes) = rw (empty, tokens-nil) refl in
    let same : Some (place_past (record { line = 1; column = 1 }) bytes) ≡ Some (place_or bytes (slice_get found before))
    = sym ends ∙ walk ∙ ap (placed before bytes) e in
    let past' : place ≡ place_past (record { line = 1; column = 1 }) bytes = rw empty at past in
    past' ∙ cc

-- a text with tokens has no fault
pub walk-fault : (place : Place) (c : ℕ) (rest left bytes : List ℕ) (n before : ℕ) (found : List Spanned) (m : Misread) → left ≡ c ∷ rest
    → front_by (start_of c rest) place left ≡ Err m
    → placed n bytes (tokens_after 0 place left) ≡ placed before bytes (tokens bytes) → tokens bytes ≡ Ok found → ⊥
unfolding placed
walk-fault place c rest left bytes n before found m is_left read walk e =
    let fault : placed n bytes (tokens_after 0 place left) ≡ None
    = rw is_left (ap (placed n bytes) (tokens-fault place c rest m (rw is_left at read))) in
    let some : placed before bytes (tokens bytes) ≡ Some (place_or bytes (slice_get found before)) = ap (placed before bytes) e in
    cc

-- the place past one part and then another
past-append : (place : Place) (xs ys : List ℕ) → place_past place (xs ++ ys) ≡ place_past (place_past place xs) ys
past-append place [] ys = refl
past-append place (x ∷ xs) ys = past-append (place_after place x) xs ys

pub place_past-parts : (place place' : Place) (left front after : List ℕ) (n : ℕ) → front ≡ take n left → after ≡ drop n left
    → place' ≡ place_past place front → place_past place' after ≡ place_past place left
place_past-parts place place' left front after n is_front is_after is_place =
    rw (is_place, is_front, is_after) (sym (past-append place (take n left) (drop n left)) ∙ ap (place_past place) (take-append-drop n left))

-- whether a token stands here, by the code's own
pub some-seen : (t : Option Lexeme) → is_some (option_map token_of t) ≡ is_some t
some-seen None = refl
some-seen (Some l) = refl

pub ruleset walk_steps = (tokens-start)
