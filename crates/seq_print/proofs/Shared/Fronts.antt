-- A token at the front of a text is read as it is, where what follows leaves it so.
use Rattle.std.proofs.Common.{◌≡◌, ℕ, suc, ◌+◌, ◌-◌, ◌*◌, ◌≤◌, ◌<◌, ◌^◌, Bool, true, false, ◌&&◌, ◌||◌, cond, List, [], ◌∷◌, ◌++◌, length, take}
use Rattle.std.proofs.Common.{drop, Some, None, Ok, eqb, ltb, refl, sym, ap, ◌∙◌, arith, decimal}
use Rattle.std.specs.Char.{is_ascii_alphabetic, is_ascii_alphanumeric, is_ascii_digit}
use Rattle.std.specs.Bool.{⊤}
use Rattle.std.specs.Int.{IsInRange}
use Rattle.std.specs.Str.{all_ascii_digits, bytes_eq, str_to_ascii_lowercase}
use Rattle.std.proofs.lemmas.Bool.{and_parts, not-true, ltb-true, leb-true, le-ltb, ne_eqb, or_parts}
use Rattle.std.proofs.lemmas.Bool.Decides.{nat_tests}
use Rattle.std.proofs.lemmas.Slice.Eq.{bytes_eq-Decides}
use Rattle.std.proofs.lemmas.Fmt.{digits_decimal, decimal_nonempty}
use Rattle.std.proofs.lemmas.Str.Parse.{IsNumeralModel, FoldsDigits, numerals_by_fold, tells_all_ascii_digits}
use Rattle.std.proofs.Math.Seq.{take-append_seam, drop-append_seam}
use Rattle.seq_tree.specs.declared.token.Place.{Place}
use Rattle.seq_tree.specs.declared.token.Token.TheVariants.{Word, Number, Sign}
use Rattle.seq_tree.specs.declared.token.Mark.{Mark}
use Rattle.seq_tree.specs.Lexis.{Name, Numeral, Other, start_of, is_space, begins_comment, begins_part, is_underscore, longest, goes_on, is_name}
use Rattle.seq_tree.specs.Lexis.{front_by, name_front, number_front, mark_front, value_from}
use Rattle.seq_tree.specs.Marks.{mark_of}
use Rattle.seq_tree.proofs.Shared.Longest.{longest-part, longest-ends, longest-under, longest-nil}
use Rattle.token_read.proofs.Shared.FrontLaws.{front-name, front-numeral}
use Rattle.token_read.proofs.Shared.MarkLaws.{front-double, front-single, front-last}
use Rattle.seq_print.specs.Readable.{is_readable}
use Rattle.seq_print.proofs.Shared.Following.{joins, parts, AreDigits}

-- what ends a run of parts: the end, or a byte that is neither a part nor an underscore
abbrev Ends : (ℕ → Bool) → List ℕ → Type 0
Ends part [] = ⊤
Ends part (c ∷ cs) = (part c ≡ false) × (is_underscore c ≡ false)

longest-stop : (part : ℕ → Bool) (under : Bool) (rest : List ℕ) → Ends part rest → longest (goes_on part under) rest ≡ 0
longest-stop part under [] e = longest-nil (goes_on part under)
longest-stop part under (c ∷ cs) e = longest-ends part under c cs e.0 (rw e.1 refl)

-- at least one more
more : (n : ℕ) → cond (ltb 0 (suc n)) (suc (suc n)) (cond false 1 0) ≡ suc (suc n)
more n = grind arith

run-step : (part : ℕ → Bool) (under : Bool) (c : ℕ) (cs rest : List ℕ) (b : Bool) → part c ≡ b → goes_on part under (c ∷ cs) ≡ true
    → (goes_on part false cs ≡ true → longest (goes_on part false) (cs ++ rest) ≡ length cs)
    → (goes_on part true cs ≡ true → longest (goes_on part true) (cs ++ rest) ≡ length cs)
    → longest (goes_on part under) (c ∷ (cs ++ rest)) ≡ suc (length cs)
run-step part under c cs rest true e g one two = longest-part part under c (cs ++ rest) e ∙ ap suc (one (rw e at g))
run-step part true c cs rest false e g one two =
    let g' = rw e at g in
    let none : (is_underscore c && false) ≡ true = (and_parts (is_underscore c && false) (goes_on part true cs) g').0 in
    let f : false ≡ true = (and_parts (is_underscore c) false none).1 in
    absurd (cc)
run-step part false c [] rest false e g one two =
    let g' = rw e at g in
    let f : false ≡ true = (and_parts (is_underscore c && true) false g').1 in
    absurd (cc)
run-step part false c (d ∷ ds) rest false e g one two =
    let g' = rw e at g in
    let h = and_parts (is_underscore c && true) (goes_on part true (d ∷ ds)) g' in
    let u : is_underscore c ≡ true = (and_parts (is_underscore c) true h.0).0 in
    longest-under part c (d ∷ (ds ++ rest)) e u ∙ rw (two h.1) (more (length ds))

-- the whole of a run before what ends it
longest-whole : (part : ℕ → Bool) (under : Bool) (cs rest : List ℕ) → goes_on part under cs ≡ true → Ends part rest
    → longest (goes_on part under) (cs ++ rest) ≡ length cs
longest-whole part under [] rest g ends = longest-stop part under rest ends
longest-whole part under (c ∷ cs) rest g ends =
    run-step part under c cs rest (part c) refl g (λ h. longest-whole part false cs rest h ends) (λ h. longest-whole part true cs rest h ends)

letter-no_space : (c : ℕ) → is_ascii_alphabetic c ≡ true → is_space c ≡ false
letter-no_space c e = grind (arith, nat_tests)

digit-no_space : (c : ℕ) → is_ascii_digit c ≡ true → is_space c ≡ false
digit-no_space c e = grind (arith, nat_tests)

digit-no_letter : (c : ℕ) → is_ascii_digit c ≡ true → is_ascii_alphabetic c ≡ false
digit-no_letter c e = grind (arith, nat_tests)

start-letter : (c : ℕ) (cs : List ℕ) → is_ascii_alphabetic c ≡ true → start_of c cs ≡ Name
unfolding start_of
start-letter c cs e = rw (letter-no_space c e, e) refl

start-digit : (c : ℕ) (cs : List ℕ) → is_ascii_digit c ≡ true → start_of c cs ≡ Numeral
unfolding start_of
start-digit c cs e = rw (digit-no_space c e, digit-no_letter c e, e) refl

-- a byte that begins neither white space nor a name nor a number
abbrev pub IsOther : ℕ → Type 0
IsOther c = (is_space c ≡ false) × (is_ascii_alphabetic c ≡ false) × (is_ascii_digit c ≡ false)

start-other : (c : ℕ) (cs : List ℕ) → IsOther c → begins_comment c cs ≡ false → start_of c cs ≡ Other
unfolding start_of
start-other c cs e n = rw (e.0, e.1, e.2, n) refl

one_more : (n : ℕ) → 1 + n ≡ suc n
one_more n = omega arith

take-front : (c : ℕ) (cs rest : List ℕ) (n : ℕ) → n ≡ length cs → take (1 + n) (c ∷ (cs ++ rest)) ≡ c ∷ cs
take-front c cs rest n e = rw (e, one_more (length cs)) (ap (λ t. c ∷ t) (take-append_seam cs rest))

drop-front : (c : ℕ) (cs rest : List ℕ) (n : ℕ) → n ≡ length cs → drop (1 + n) (c ∷ (cs ++ rest)) ≡ rest
drop-front c cs rest n e = rw (e, one_more (length cs)) (drop-append_seam cs rest)

after-word : (name rest : List ℕ) → parts (Word name) rest ≡ true → Ends is_ascii_alphanumeric rest
after-word name [] e = tt
after-word name (c ∷ cs) e = or_parts (is_ascii_alphanumeric c) (is_underscore c) (not-true _ e)

name_front-spelled : (place : Place) (text name : List ℕ) → str_to_ascii_lowercase text ≡ name → length text ≤ 64
    → name_front place text ≡ Ok (record { token = Some (Word name); len = length text })
unfolding name_front
name_front-spelled place text name e h = rw (le-ltb 64 (length text) h) (ap (λ n. Ok (record { token = Some (Word n); len = length text })) e)

-- a name at the front, in capitals or not
pub spelled-front : (place : Place) (c : ℕ) (cs rest name : List ℕ) → is_name (c ∷ cs) ≡ true → str_to_ascii_lowercase (c ∷ cs) ≡ name
    → length (c ∷ cs) ≤ 64 → parts (Word name) rest ≡ true
    → front_by (start_of c (cs ++ rest)) place (c ∷ (cs ++ rest)) ≡ Ok (record { token = Some (Word name); len = suc (length cs) })
spelled-front place c cs rest name spelled folded short follow =
    let led = and_parts (is_ascii_alphabetic c) (goes_on is_ascii_alphanumeric false cs) spelled in
    let run = longest-whole is_ascii_alphanumeric false cs rest led.1 (after-word name rest follow) in
    front-name place c (cs ++ rest) (sym (start-letter c (cs ++ rest) led.0))
    ∙ (ap (name_front place) (take-front c cs rest _ run) ∙ name_front-spelled place (c ∷ cs) name folded short)

-- a name at the front
pub word-front : (place : Place) (c : ℕ) (cs rest : List ℕ) → is_readable (Word (c ∷ cs)) ≡ true → parts (Word (c ∷ cs)) rest ≡ true
    → front_by (start_of c (cs ++ rest)) place (c ∷ (cs ++ rest)) ≡ Ok (record { token = Some (Word (c ∷ cs)); len = suc (length cs) })
word-front place c cs rest ok follow =
    let n = and_parts (is_name (c ∷ cs)) _ ok in
    let m = and_parts (bytes_eq (str_to_ascii_lowercase (c ∷ cs)) (c ∷ cs)) _ n.1 in
    spelled-front place c cs rest (c ∷ cs) n.0 ((bytes_eq-Decides (str_to_ascii_lowercase (c ∷ cs)) (c ∷ cs)).0 m.0) (leb-true _ _ m.1) follow

digit-value : (n c : ℕ) (cs : List ℕ) → IsInRange 48 57 c → value_from n (c ∷ cs) ≡ value_from (n * 10 + (c - 48)) cs
digit-value n c cs h =
    let none : is_underscore c ≡ false = ne_eqb c 95 (λ e. omega arith) in
    let same : 10 * n + (c - 48) ≡ n * 10 + (c - 48) = omega arith in
    ap (λ u. value_from (cond u n (10 * n + (c - 48))) cs) none ∙ ap (λ m. value_from m cs) same

folds : FoldsDigits value_from
folds = record { empty = λ n. refl; more = digit-value }

-- digits as the reader of numbers sums them
pub own : IsNumeralModel (λ ds. all_ascii_digits ds ≡ true) (value_from 0)
own = numerals_by_fold _ tells_all_ascii_digits value_from folds

-- a number is written in digits
pub written : (n : ℕ) → is_readable (Number n) ≡ true → AreDigits n (decimal n)
written n ok =
    let small : n < 4294967296 = ltb-true _ _ ok in
    let h : n < 2 ^ 64 = omega arith in
    record { digits = digits_decimal own n h; some = decimal_nonempty n h }

digits-go_on : (ds : List ℕ) → all_ascii_digits ds ≡ true → goes_on is_ascii_digit false ds ≡ true
digits-go_on [] e = refl
digits-go_on (d ∷ ds) e = let p = and_parts (is_ascii_digit d) (all_ascii_digits ds) e in rw p.0 (digits-go_on ds p.1)

alphanumeric-parts : (c : ℕ) → is_ascii_alphanumeric c ≡ false → (is_ascii_digit c ≡ false) × (is_ascii_alphabetic c ≡ false)
alphanumeric-parts c e = (grind (arith, nat_tests), grind (arith, nat_tests))

after-digits : (n : ℕ) (rest : List ℕ) → parts (Number n) rest ≡ true → Ends is_ascii_digit rest × (begins_part rest ≡ false)
after-digits n [] e = (tt, refl)
after-digits n (c ∷ cs) e =
    let p = or_parts (is_ascii_alphanumeric c) (is_underscore c) (not-true _ e) in
    let a = alphanumeric-parts c p.0 in
    ((a.0, p.1), rw (a.1, p.1) refl)

number_front-small : (place : Place) (ds rest : List ℕ) (n : ℕ) → value_from 0 ds ≡ n → n < 4294967296 → begins_part rest ≡ false
    → number_front place ds rest ≡ Ok (record { token = Some (Number n); len = length ds })
unfolding number_front
number_front-small place ds rest n e h b = let t : ltb 4294967295 n ≡ false = le-ltb 4294967295 n (omega arith) in rw (e, t, b) refl

-- digits at the front
pub digits-front : (place : Place) (n d : ℕ) (ds rest : List ℕ) → all_ascii_digits (d ∷ ds) ≡ true → value_from 0 (d ∷ ds) ≡ n → n < 4294967296
    → parts (Number n) rest ≡ true
    → front_by (start_of d (ds ++ rest)) place (d ∷ (ds ++ rest)) ≡ Ok (record { token = Some (Number n); len = suc (length ds) })
digits-front place n d ds rest are e h follow =
    let p = and_parts (is_ascii_digit d) (all_ascii_digits ds) are in
    let after = after-digits n rest follow in
    let run = longest-whole is_ascii_digit false ds rest (digits-go_on ds p.1) after.0 in
    front-numeral place d (ds ++ rest) (sym (start-digit d (ds ++ rest) p.0))
    ∙ (ap (λ t. number_front place t (drop (1 + longest (goes_on is_ascii_digit false) (ds ++ rest)) (d ∷ (ds ++ rest)))) (take-front d ds rest _ run)
    ∙ (ap (number_front place (d ∷ ds)) (drop-front d ds rest _ run) ∙ number_front-small place (d ∷ ds) rest n e h after.1))

-- a mark of one byte at the front
pub single-front : (place : Place) (m : Mark) (c : ℕ) (rest : List ℕ) → IsOther c → Some m ≡ mark_of (c ∷ [])
    → ((d : ℕ) → joins (Sign m) d ≡ false → (None ≡ mark_of (c ∷ d ∷ [])) × ((eqb c 45 && eqb d 45) ≡ false))
    → parts (Sign m) rest ≡ true
    → front_by (start_of c rest) place (c ∷ rest) ≡ Ok (record { token = Some (Sign m); len = 1 })
single-front place m c [] other one two follow =
    rw (start-other c [] other refl) (front-last place c [] refl ∙ ap (λ o. mark_front o place 1) (sym one))
single-front place m c (d ∷ ds) other one two follow =
    let t = two d (not-true _ follow) in
    rw (start-other c (d ∷ ds) other t.1) (front-single place c d ds t.0 ∙ ap (λ o. mark_front o place 1) (sym one))

-- a mark of two bytes at the front
pub double-front : (place : Place) (m : Mark) (c d : ℕ) (rest : List ℕ) → IsOther c → eqb c 45 ≡ false → Some m ≡ mark_of (c ∷ d ∷ [])
    → front_by (start_of c (d ∷ rest)) place (c ∷ (d ∷ rest)) ≡ Ok (record { token = Some (Sign m); len = 2 })
double-front place m c d rest other solid two =
    let n : (eqb c 45 && eqb d 45) ≡ false = rw solid refl in
    rw (start-other c (d ∷ rest) other n) (front-double place c d rest m two)
