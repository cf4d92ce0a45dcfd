-- The tokens of a text by themselves: whether they are found, and which they are, is the same wherever the text stands.
use Rattle.std.proofs.Common.{◌≡◌, ℕ, zero, suc, ◌+◌, ◌-◌, ◌<◌, ◌≤◌, Bool, true, false, List, [], ◌∷◌, ◌++◌, length, take, drop, Option}
use Rattle.std.proofs.Common.{Some, None, option_map, is_some, Result, Ok, Err, if◌then◌else◌, nat_lt, refl, sym, ap, ◌∙◌, subst, arith}
use Rattle.std.proofs.Common.{append-nil}
use Rattle.std.proofs.lemmas.List.{map-append, length-map}
use Rattle.seq_tree.specs.declared.token.Token.{Token}
use Rattle.seq_tree.specs.declared.token.Mark.{Mark}
use Rattle.seq_tree.specs.declared.token.Place.{Place}
use Rattle.seq_tree.specs.declared.token.Spanned.{Spanned}
use Rattle.seq_tree.specs.Lexis.{Misread, Stray, Great, Long, Front, Start, Space, Comment, Name, Numeral, Other, is_name, is_numeral, is_mark}
use Rattle.seq_tree.specs.Lexis.{longest, value_from, begins_part, place_after, place_past, front_by, name_front, number_front, mark_front}
use Rattle.seq_tree.specs.Lexis.{is_space, start_of, then_others, behind as front_behind, plain, tokens, tokens_after, with_token}
use Rattle.seq_tree.specs.Marks.{mark_of}
use Rattle.token_read.specs.declared.fault.LexFault.{LexFault}
use Rattle.token_read.specs.declared.fault.LexFault.TheVariants as fault
use Rattle.token_read.specs.declared.lexemes.Lexeme.{Lexeme}
use Rattle.token_read.specs.Outcomes.{Gives}
use Rattle.token_read.specs.Fronts.{front_view}
use Rattle.token_read.specs.Lexemes.{token_of}
use Rattle.token_read.specs.Words.{bare}
use Rattle.token_read.specs.Behind.{behind, found_in, is_whole, or_none, seen}
use Rattle.token_read.proofs.Shared.FrontLaws.{space-front}
use Rattle.token_read.proofs.Shared.TokenSteps.{with_front, with_front-err, tokens-cons, tokens-fault, tokens-nil, tokens-start}

-- a fault that is none of memory is one of the text
pub fault-some : {X Y : Type 0} (view : X → Y) (e : LexFault) (r : Result Y Misread) → Gives view (Err e) r → (e ≡ fault.NoMemory → ⊥)
    → (m : Misread) × (r ≡ Err m)
fault-some view (fault.Byte place) r h ample = (Stray place, h)
fault-some view (fault.Number place) r h ample = (Great place, h)
fault-some view (fault.Long place) r h ample = (Long place, h)
fault-some view fault.NoMemory r h ample = absurd (ample refl)

-- a front, where there is no fault
abbrev front_in : Result Front Misread → Option Front
front_in (Ok f) = Some f
front_in (Err e) = None

either-same : (b : Bool) (d e : Misread) (r s : Result Front Misread) → front_in r ≡ front_in s
    → front_in (if b then Err d else r) ≡ front_in (if b then Err e else s)
either-same true d e r s h = refl
either-same false d e r s h = h

name-same : (p q : Place) (text : List ℕ) → front_in (name_front p text) ≡ front_in (name_front q text)
unfolding name_front
name-same p q text = either-same (nat_lt 64 (length text)) _ _ _ _ refl

number-same : (p q : Place) (digits rest : List ℕ) → front_in (number_front p digits rest) ≡ front_in (number_front q digits rest)
unfolding number_front
number-same p q digits rest = either-same (nat_lt 4294967295 (value_from 0 digits)) _ _ _ _ (either-same (begins_part rest) _ _ _ _ refl)

mark-same : (m : Option Mark) (p q : Place) (n : ℕ) → front_in (mark_front m p n) ≡ front_in (mark_front m q n)
mark-same None p q n = refl
mark-same (Some m) p q n = refl

front-same : (s : Start) (p q : Place) (text : List ℕ) → front_in (front_by s p text) ≡ front_in (front_by s q text)
unfolding front_by
front-same Space p q text = refl
front-same Comment p q text = refl
front-same Name p q text = name-same p q (take (longest is_name text) text)
front-same Numeral p q text = number-same p q (take (longest is_numeral text) text) (drop (longest is_numeral text) text)
front-same Other p q text = mark-same (mark_of (take (longest is_mark text) text)) p q (longest is_mark text)

others-same : (p q : Place) (r s : Result (List Spanned) Misread) (t : Option Token) → found_in r ≡ found_in s
    → found_in (then_others p r t) ≡ found_in (then_others q s t)
others-same p q (Err d) (Err e) t h = refl
others-same p q (Err d) (Ok ys) t h = absurd cc
others-same p q (Ok xs) (Err e) t h = absurd cc
others-same p q (Ok xs) (Ok ys) None h = h
others-same p q (Ok xs) (Ok ys) (Some t) h = cc

behind-same : (p q : Place) (f g : ℕ → Result (List Spanned) Misread) → ((n : ℕ) → found_in (f n) ≡ found_in (g n))
    → (r s : Result Front Misread) → front_in r ≡ front_in s → found_in (front_behind p f r) ≡ found_in (front_behind q g s)
behind-same p q f g h (Err d) (Err e) same = refl
behind-same p q f g h (Err d) (Ok b) same = absurd cc
behind-same p q f g h (Ok a) (Err e) same = absurd cc
behind-same p q f g h (Ok a) (Ok b) same =
    let one : a ≡ b = cc in
    let P : Front → Type 0 = λ z. found_in (then_others p (f (a.len - 1)) a.token) ≡ found_in (then_others q (g (z.len - 1)) z.token) in
    subst P one (others-same p q (f (a.len - 1)) (g (a.len - 1)) a.token (h (a.len - 1)))

-- wherever a text stands, its tokens are the same
pub after-same : (skip : ℕ) (p q : Place) (text : List ℕ) → found_in (tokens_after skip p text) ≡ found_in (tokens_after skip q text)
unfolding tokens_after
after-same zero p q [] = refl
after-same (suc skip) p q [] = refl
after-same (suc skip) p q (c ∷ cs) = after-same skip (place_after p c) (place_after q c) cs
after-same zero p q (c ∷ cs) =
    behind-same p q (λ skip. tokens_after skip (place_after p c) cs) (λ skip. tokens_after skip (place_after q c) cs)
    (λ n. after-same n (place_after p c) (place_after q c) cs)
    (front_by (start_of c cs) p (c ∷ cs)) (front_by (start_of c cs) q (c ∷ cs)) (front-same (start_of c cs) p q (c ∷ cs))

abbrev start : Place
start = record { line = 1; column = 1 }

front-found : (xs : List Spanned) (r s : Result (List Spanned) Misread) → found_in r ≡ found_in s
    → found_in (with_front xs r) ≡ found_in (with_front xs s)
unfolding with_front
front-found xs (Err d) (Err e) h = refl
front-found xs (Err d) (Ok vs) h = absurd cc
front-found xs (Ok us) (Err e) h = absurd cc
front-found xs (Ok us) (Ok vs) h =
    let same : bare us ≡ bare vs = cc in
    ap Some (map-append (λ t. t.token) xs us ∙ ap (λ ts. bare xs ++ ts) same ∙ sym (map-append (λ t. t.token) xs vs))

-- what stands at the front of a text, and what is behind it
turn : (c : ℕ) (rest left after : List ℕ) (f : Front) → left ≡ c ∷ rest → front_by (start_of c rest) start left ≡ Ok f → 0 < f.len
    → after ≡ drop f.len left
    → found_in (tokens left) ≡ found_in (with_front (with_token f.token start []) (tokens after))
turn c rest left after f is_left read positive is_after =
    let here = tokens-cons start c rest f (rw is_left at read) positive in
    rw (is_after, is_left, ← tokens-start (c ∷ rest))
    (ap found_in here
    ∙ front-found (with_token f.token start []) _ _ (after-same 0 (place_past start (take f.len (c ∷ rest))) start (drop f.len (c ∷ rest)))
    ∙ ap (λ r. found_in (with_front (with_token f.token start []) r)) (tokens-start (drop f.len (c ∷ rest))))

-- a token before others, where there is one
abbrev pub led : Option Token → List Token → List Token
led None ts = ts
led (Some t) ts = t ∷ ts

split : (t : Option Token) (r s : Result (List Spanned) Misread) → found_in r ≡ found_in (with_front (with_token t start []) s)
    → is_some (found_in r) ≡ true
    → (or_none (found_in r) ≡ led t (or_none (found_in s))) × (is_some (found_in s) ≡ true)
unfolding with_front
split t (Err d) s h some = absurd cc
split t (Ok us) (Err e) h some = absurd cc
split None (Ok us) (Ok vs) h some = let same : bare us ≡ bare vs = cc in (same, refl)
split (Some t) (Ok us) (Ok vs) h some = let same : bare us ≡ t ∷ bare vs = cc in (same, refl)

-- the token at the front of a text without faults, and the tokens behind it
pub behind-turn : (c : ℕ) (rest left after : List ℕ) (f : Front) → is_whole left ≡ true → left ≡ c ∷ rest
    → front_by (start_of c rest) start left ≡ Ok f → 0 < f.len
    → after ≡ drop f.len left → (behind left ≡ led f.token (behind after)) × (is_whole after ≡ true)
unfolding behind is_whole
behind-turn c rest left after f whole is_left read positive is_after =
    split f.token (tokens left) (tokens after) (turn c rest left after f is_left read positive is_after) whole

some-front : (xs : List Spanned) (r : Result (List Spanned) Misread) → is_some (found_in (with_front xs r)) ≡ is_some (found_in r)
unfolding with_front
some-front xs (Err d) = refl
some-front xs (Ok us) = refl

-- a text has no fault where there is none at its front and none behind it, and its tokens are then that at its front and those behind it
pub step-turn : (c : ℕ) (rest left after : List ℕ) (f : Front) → left ≡ c ∷ rest → front_by (start_of c rest) start left ≡ Ok f → 0 < f.len
    → after ≡ drop f.len left
    → (is_whole left ≡ is_whole after) × (is_whole left ≡ true → behind left ≡ led f.token (behind after))
unfolding behind is_whole
step-turn c rest left after f is_left read positive is_after =
    let here = turn c rest left after f is_left read positive is_after in
    (ap is_some here ∙ some-front (with_token f.token start []) (tokens after), λ whole. (split f.token (tokens left) (tokens after) here whole).0)

-- white space at the front
pub space-turn : (c : ℕ) (rest left : List ℕ) → left ≡ c ∷ rest → is_space c ≡ true
    → (is_whole left ≡ is_whole rest) × (is_whole left ≡ true → behind left ≡ behind rest)
space-turn c rest left is_left space =
    step-turn c rest left rest (record { token = None; len = 1 }) is_left (space-front c rest start left space) (omega arith) (rw is_left refl)

-- a text with a fault at its front has one
pub front-fault : (c : ℕ) (rest left : List ℕ) (e : Misread) → left ≡ c ∷ rest → front_by (start_of c rest) start left ≡ Err e → is_whole left ≡ false
unfolding is_whole
front-fault c rest left e is_left read =
    let fault : tokens left ≡ Err e = rw (is_left) (sym (tokens-start (c ∷ rest)) ∙ tokens-fault start c rest e (rw is_left at read)) in
    rw fault refl

pub behind-nil : behind [] ≡ []
unfolding behind
behind-nil = ap (λ r. or_none (found_in r)) (sym (tokens-start []) ∙ tokens-nil start)

pub whole-nil : is_whole [] ≡ true
unfolding is_whole
whole-nil = ap (λ r. is_some (found_in r)) (sym (tokens-start []) ∙ tokens-nil start)

-- the tokens of a text without faults
pub whole-plain : (bytes : List ℕ) → is_whole bytes ≡ true → plain (tokens bytes) ≡ Ok (behind bytes)
unfolding behind is_whole
whole-plain bytes h = go (tokens bytes) h
  where
    go : (r : Result (List Spanned) Misread) → is_some (found_in r) ≡ true → plain r ≡ Ok (or_none (found_in r))
    go (Ok ts) h = refl
    go (Err fault) h = absurd cc

-- a text that was found to have these tokens
pub whole-found : (bytes : List ℕ) (found : List Spanned) → tokens bytes ≡ Ok found → (plain (tokens bytes) ≡ Ok (behind bytes))
    × (length found ≡ length (behind bytes)) × (is_whole bytes ≡ true)
unfolding behind is_whole
whole-found bytes found h = rw h (refl, sym (length-map found (λ t. t.token)), refl)

-- the list of tokens that a text was found to have
pub found-list : (r : Result (List Spanned) Misread) (us : List Token) → plain r ≡ Ok us → (ts : List Spanned) × (r ≡ Ok ts) × (bare ts ≡ us)
    × (length ts ≡ length us)
found-list (Err fault) us h = absurd cc
found-list (Ok ts) us h =
    let same : bare ts ≡ us = cc in
    (ts, refl, same, sym (length-map ts (λ t. t.token)) ∙ ap length same)

-- a token of the code before others
pub seen-led : (t : Option Lexeme) (ts : List Token) → led (option_map token_of t) ts ≡ seen t ts
seen-led None ts = refl
seen-led (Some l) ts = refl

pub length-seen : (t : Option Lexeme) (place : Place) → length (with_token (option_map token_of t) place []) ≡ length (seen t [])
length-seen None place = refl
length-seen (Some l) place = refl

pub length-seen-others : (t : Option Lexeme) (ts : List Token) → length (seen t ts) ≡ length (seen t []) + length ts
length-seen-others None ts = omega arith
length-seen-others (Some l) ts = omega arith

pub seen-one : (t : Option Lexeme) → length (seen t []) ≤ 1
seen-one None = omega arith
seen-one (Some l) = omega arith

-- the first fault of a text is that of a front behind tokens that were found
module _ {X : Type 0} (view : X → List Token) (place : Place) (c : ℕ) (rest left : List ℕ) (found : List Spanned) (bytes : List ℕ) (is_left : left
    ≡ c ∷ rest) (read : with_front found (tokens_after 0 place left) ≡ tokens bytes) where
  told : (m : Misread) → front_by (start_of c rest) place left ≡ Err m → plain (tokens bytes) ≡ Err m
  told m h = ap plain (sym read ∙ ap (with_front found) (rw is_left (tokens-fault place c rest m (rw is_left at h))) ∙ with_front-err found m)

  pub fault-told : (e : LexFault) → Gives front_view (Err e) (front_by (start_of c rest) place left) → Gives view (Err e) (plain (tokens bytes))
  fault-told (fault.Byte p) h = told (Stray p) h
  fault-told (fault.Number p) h = told (Great p) h
  fault-told (fault.Long p) h = told (Long p) h
  fault-told fault.NoMemory h = tt

pub ruleset front_steps = (seen-led)

pub ruleset list_steps = (behind-nil, whole-nil, append-nil, length-map)
