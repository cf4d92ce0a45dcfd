-- Each token of a text is readable: a name is folded and has at most 64 bytes, and a number is below 2 ^ 32.
use Rattle.std.proofs.Common.{◌≡◌, ℕ, zero, suc, ◌+◌, ◌≤◌, Bool, true, false, not, cond, ◌&&◌, List, [], ◌∷◌, length, map, take, Option, Some}
use Rattle.std.proofs.Common.{None, Result, Ok, Err, ◌⊎◌, inl, inr, ltb, refl, sym, ap, subst, ◌∙◌, arith}
use Rattle.std.specs.Bool.{⊤}
use Rattle.std.specs.Char.{is_ascii_alphabetic, is_ascii_alphanumeric, is_ascii_digit, to_ascii_lowercase}
use Rattle.std.specs.List.{list_all}
use Rattle.std.specs.Str.{str_to_ascii_lowercase}
use Rattle.std.proofs.lemmas.Bool.{and_from, le-leb, lt-ltb, ltb-false}
use Rattle.std.proofs.lemmas.Bool.Decides.{nat_tests}
use Rattle.std.proofs.lemmas.List.{length-map}
use Rattle.std.proofs.lemmas.List.Folds.{list_all-map}
use Rattle.std.proofs.lemmas.Slice.Eq.{bytes_eq-Decides}
use Rattle.seq_tree.specs.declared.token.Mark.{Mark}
use Rattle.seq_tree.specs.declared.token.Place.{Place}
use Rattle.seq_tree.specs.declared.token.Spanned.{Spanned}
use Rattle.seq_tree.specs.declared.token.Token.{Token}
use Rattle.seq_tree.specs.declared.token.Token.TheVariants.{Word, Sign}
use Rattle.seq_tree.specs.Lexis.{Misread, Front, Start, Space, Comment, Name, Numeral, Other, start_of, is_space, begins_comment, begins_part}
use Rattle.seq_tree.specs.Lexis.{is_underscore, longest, goes_on, is_name, front_by, name_front, number_front, mark_front, value_from}
use Rattle.seq_tree.specs.Lexis.{place_after, then_others, behind, tokens, tokens_after, plain}
use Rattle.seq_tree.proofs.Shared.Longest.{longest-cons, longest-nil}
use Rattle.token_read.proofs.Shared.FrontLaws.{front-name}
use Rattle.seq_print.specs.Readable.{is_readable}

-- the longest front that passes a test passes it, where there is one
bump-suc : (ends : Bool) (n : ℕ) → cond (ltb 0 (suc n)) (suc (suc n)) (cond ends 1 0) ≡ suc (suc n)
bump-suc ends n = grind arith

front-step : (test : List ℕ → Bool) (b : ℕ) (bs : List ℕ) (n : ℕ) (ends : Bool) → test (b ∷ []) ≡ ends → (n ≡ 0) ⊎ (test (b ∷ take n bs) ≡ true)
    → (cond (ltb 0 n) (suc n) (cond ends 1 0) ≡ 0) ⊎ (test (take (cond (ltb 0 n) (suc n) (cond ends 1 0)) (b ∷ bs)) ≡ true)
front-step test b bs zero true e o = inr e
front-step test b bs zero false e o = inl refl
front-step test b bs (suc n) ends e (inl z) = absurd (omega arith)
front-step test b bs (suc n) ends e (inr p) =
    let P : ℕ → Type 0 = λ m. (m ≡ 0) ⊎ (test (take m (b ∷ bs)) ≡ true) in
    subst P (sym (bump-suc ends n)) (inr p)

front-passes : (test : List ℕ → Bool) (xs : List ℕ) → (longest test xs ≡ 0) ⊎ (test (take (longest test xs) xs) ≡ true)
front-passes test [] = inl (longest-nil test)
front-passes test (b ∷ bs) =
    let P : ℕ → Type 0 = λ m. (m ≡ 0) ⊎ (test (take m (b ∷ bs)) ≡ true) in
    subst P (sym (longest-cons test b bs)) (front-step test b bs (longest (λ xs. test (b ∷ xs)) bs) (test (b ∷ [])) refl
    (front-passes (λ xs. test (b ∷ xs)) bs))

run-or-none : (part : ℕ → Bool) (cs : List ℕ) (n : ℕ) → (n ≡ 0) ⊎ (goes_on part false (take n cs) ≡ true) → goes_on part false (take n cs) ≡ true
run-or-none part cs n (inl z) = rw z refl
run-or-none part cs n (inr p) = p

-- the run at the front of a text is one
run-passes : (part : ℕ → Bool) (cs : List ℕ) → goes_on part false (take (longest (goes_on part false) cs) cs) ≡ true
run-passes part cs = run-or-none part cs _ (front-passes (goes_on part false) cs)

one_more : (n : ℕ) → 1 + n ≡ suc n
one_more n = omega arith

name-passes : (c : ℕ) (cs : List ℕ) → is_ascii_alphabetic c ≡ true
    → is_name (take (1 + longest (goes_on is_ascii_alphanumeric false) cs) (c ∷ cs)) ≡ true
name-passes c cs e =
    let run = longest (goes_on is_ascii_alphanumeric false) cs in
    ap (λ n. is_name (take n (c ∷ cs))) (one_more run) ∙ and_from (is_ascii_alphabetic c) (goes_on is_ascii_alphanumeric false (take run cs)) e
    (run-passes is_ascii_alphanumeric cs)

-- folding keeps what a byte is
lower-letter : (c : ℕ) → is_ascii_alphabetic (to_ascii_lowercase c) ≡ is_ascii_alphabetic c
lower-letter c = grind (arith, nat_tests)

lower-alphanumeric : (c : ℕ) → is_ascii_alphanumeric (to_ascii_lowercase c) ≡ is_ascii_alphanumeric c
lower-alphanumeric c = grind (arith, nat_tests)

lower-under : (c : ℕ) → is_underscore (to_ascii_lowercase c) ≡ is_underscore c
lower-under c = grind (arith, nat_tests)

lower-twice : (c : ℕ) → to_ascii_lowercase (to_ascii_lowercase c) ≡ to_ascii_lowercase c
lower-twice c = grind (arith, nat_tests)

-- folded names are names
folded-run : (under : Bool) (cs : List ℕ) → goes_on is_ascii_alphanumeric under (map to_ascii_lowercase cs) ≡ goes_on is_ascii_alphanumeric under cs
folded-run under [] = refl
folded-run under (c ∷ cs) =
    let f : Bool → Bool → Bool → Bool → Bool = λ a u x y. cond a x ((u && not under) && y) in
    let run = goes_on is_ascii_alphanumeric in
    let low = map to_ascii_lowercase cs in
    ap (λ a. f a (is_underscore (to_ascii_lowercase c)) (run false low) (run true low)) (lower-alphanumeric c)
    ∙ (ap (λ u. f (is_ascii_alphanumeric c) u (run false low) (run true low)) (lower-under c)
    ∙ (ap (λ x. f (is_ascii_alphanumeric c) (is_underscore c) x (run true low)) (folded-run false cs)
    ∙ ap (λ y. f (is_ascii_alphanumeric c) (is_underscore c) (run false cs) y) (folded-run true cs)))

folded-name : (name : List ℕ) → is_name (str_to_ascii_lowercase name) ≡ is_name name
folded-name [] = refl
folded-name (c ∷ cs) =
    ap (λ a. a && goes_on is_ascii_alphanumeric false (map to_ascii_lowercase cs)) (lower-letter c) ∙ ap (λ x. is_ascii_alphabetic c && x)
    (folded-run false cs)

folded-twice : (name : List ℕ) → str_to_ascii_lowercase (str_to_ascii_lowercase name) ≡ str_to_ascii_lowercase name
folded-twice [] = refl
folded-twice (c ∷ cs) = ap (λ x. x ∷ map to_ascii_lowercase (map to_ascii_lowercase cs)) (lower-twice c) ∙ ap (λ t. to_ascii_lowercase c ∷ t)
    (folded-twice cs)

word-readable : (name : List ℕ) → is_name name ≡ true → length name ≤ 64 → is_readable (Word (str_to_ascii_lowercase name)) ≡ true
word-readable name e h =
    let low = str_to_ascii_lowercase name in
    let short : length low ≤ 64 = rw (length-map name to_ascii_lowercase) h in
    and_from (is_name low) _ (folded-name name ∙ e) (and_from _ _ ((bytes_eq-Decides (str_to_ascii_lowercase low) low).1 (folded-twice name))
    (le-leb (length low) 64 short))

-- a token, where there is one, is readable
abbrev IsReadable : Option Token → Type 0
IsReadable None = ⊤
IsReadable (Some t) = is_readable t ≡ true

same-front : (f g : Front) → ◌≡◌ {A = Result Front Misread} (Ok f) (Ok g) → IsReadable f.token → IsReadable g.token
same-front f g e h =
    let same : f ≡ g = cc in
    let P : Front → Type 0 = λ x. IsReadable x.token in
    subst P same h

name-ok : (b : Bool) (e : Misread) (f g : Front) → cond b (Err e) (Ok f) ≡ Ok g → (b ≡ false → IsReadable f.token) → IsReadable g.token
name-ok true e f g h k = cc
name-ok false e f g h k = same-front f g h (k refl)

name_front-ok : (place : Place) (name : List ℕ) (g : Front) → is_name name ≡ true → name_front place name ≡ Ok g → IsReadable g.token
unfolding name_front
name_front-ok place name g e h = name-ok (ltb 64 (length name)) _ _ g h (λ k. word-readable name e (ltb-false 64 (length name) k))

number-ok : (b d : Bool) (e e' : Misread) (f g : Front) → cond b (Err e) (cond d (Err e') (Ok f)) ≡ Ok g → (b ≡ false → IsReadable f.token)
    → IsReadable g.token
number-ok true d e e' f g h k = cc
number-ok false true e e' f g h k = cc
number-ok false false e e' f g h k = same-front f g h (k refl)

number_front-ok : (place : Place) (ds rest : List ℕ) (g : Front) → number_front place ds rest ≡ Ok g → IsReadable g.token
unfolding number_front
number_front-ok place ds rest g h = number-ok (ltb 4294967295 (value_from 0 ds)) (begins_part rest) _ _ _ g h
    (λ k. let small = ltb-false 4294967295 (value_from 0 ds) k in lt-ltb (value_from 0 ds) 4294967296 (omega arith))

mark_front-ok : (o : Option Mark) (place : Place) (n : ℕ) (g : Front) → mark_front o place n ≡ Ok g → IsReadable g.token
mark_front-ok None place n g h = cc
mark_front-ok (Some m) place n g h = same-front (record { token = Some (Sign m); len = n }) g h refl

-- what begins a name is a letter
choice-letter : (s a d m : Bool) → cond s Space (cond a Name (cond d Numeral (cond m Comment Other))) ≡ Name → a ≡ true
choice-letter true a d m e = cc
choice-letter false true d m e = refl
choice-letter false false true m e = cc
choice-letter false false false true e = cc
choice-letter false false false false e = cc

start-letter : (c : ℕ) (cs : List ℕ) → start_of c cs ≡ Name → is_ascii_alphabetic c ≡ true
unfolding start_of
start-letter c cs e = choice-letter (is_space c) (is_ascii_alphabetic c) (is_ascii_digit c) (begins_comment c cs) e

front-ok : (s : Start) (place : Place) (c : ℕ) (cs : List ℕ) (g : Front) → s ≡ start_of c cs → front_by s place (c ∷ cs) ≡ Ok g → IsReadable g.token
unfolding front_by
front-ok Space place c cs g e h = same-front (record { token = None; len = 1 }) g h tt
front-ok Comment place c cs g e h = same-front (record { token = None; len = _ }) g h tt
front-ok Name place c cs g e h =
    let led : is_ascii_alphabetic c ≡ true = start-letter c cs (sym e) in
    let found = sym (front-name place c cs e) ∙ (ap (λ s. front_by s place (c ∷ cs)) (sym e) ∙ h) in
    name_front-ok place _ g (name-passes c cs led) found
front-ok Numeral place c cs g e h = number_front-ok place _ _ g h
front-ok Other place c cs g e h = mark_front-ok _ place _ g h

-- readable tokens, with their places
abbrev AreReadable : List Spanned → Type 0
AreReadable ts = list_all (λ s. is_readable s.token) ts ≡ true

same-tokens : (us ts : List Spanned) → ◌≡◌ {A = Result (List Spanned) Misread} (Ok us) (Ok ts) → AreReadable us → AreReadable ts
same-tokens us ts e h =
    let same : us ≡ ts = cc in
    let P : List Spanned → Type 0 = λ x. AreReadable x in
    subst P same h

others-ok : (place : Place) (r : Result (List Spanned) Misread) (t : Option Token) (ts : List Spanned) → IsReadable t
    → ((us : List Spanned) → r ≡ Ok us → AreReadable us) → then_others place r t ≡ Ok ts → AreReadable ts
others-ok place (Err e) t ts ok others h = cc
others-ok place (Ok us) None ts ok others h = same-tokens us ts h (others us refl)
others-ok place (Ok us) (Some t) ts ok others h
    = same-tokens (record { token = t; place = place } ∷ us) ts h (and_from (is_readable t) _ ok (others us refl))

behind-ok : (place : Place) (others : ℕ → Result (List Spanned) Misread) (r : Result Front Misread) (ts : List Spanned)
    → ((f : Front) → r ≡ Ok f → IsReadable f.token) → ((k : ℕ) (us : List Spanned) → others k ≡ Ok us → AreReadable us)
    → behind place others r ≡ Ok ts → AreReadable ts
behind-ok place others (Err e) ts first rest h = cc
behind-ok place others (Ok f) ts first rest h = others-ok place (others _) f.token ts (first f refl) (rest _) h

after-ok : (text : List ℕ) (skip : ℕ) (place : Place) (ts : List Spanned) → tokens_after skip place text ≡ Ok ts → AreReadable ts
unfolding tokens_after
after-ok [] zero place ts h = same-tokens [] ts h refl
after-ok [] (suc skip) place ts h = same-tokens [] ts h refl
after-ok (c ∷ cs) (suc skip) place ts h = after-ok cs skip (place_after place c) ts h
after-ok (c ∷ cs) zero place ts h =
    behind-ok place (λ skip. tokens_after skip (place_after place c) cs) (front_by (start_of c cs) place (c ∷ cs)) ts
    (λ f e. front-ok (start_of c cs) place c cs f refl e) (λ k us e. after-ok cs k (place_after place c) us e) h

plain-ok : (r : Result (List Spanned) Misread) (ts : List Token) → ((us : List Spanned) → r ≡ Ok us → AreReadable us) → plain r ≡ Ok ts
    → list_all is_readable ts ≡ true
plain-ok (Err e) ts ok h = cc
plain-ok (Ok us) ts ok h =
    let same : map (λ t. t.token) us ≡ ts = cc in
    ap (list_all is_readable) (sym same) ∙ (list_all-map is_readable (λ (t : Spanned). t.token) us ∙ ok us refl)

-- the law of what is read
pub tokens-readable : (text : List ℕ) (ts : List Token) → plain (tokens text) ≡ Ok ts → list_all is_readable ts ≡ true
unfolding tokens
tokens-readable text ts h = plain-ok (tokens text) ts (λ us e. after-ok text 0 (record { line = 1; column = 1 }) us e) h
