-- Writing the usage line, verb by verb.
use Rattle.std.proofs.Common.{◌≡◌, ◌∙◌, ℕ, ◌+◌, ◌<◌, ◌≤◌, List, ◌++◌, length, map, take, drop, get_or, Bor, Option, ◌∷◌, refl, sym, ap, subst, codes}
use Rattle.std.proofs.Common.{append_assoc, drop-cons, add-one}
use Rattle.std.proofs.lemmas.List.{drop_all}
use Rattle.hood_io.specs.Sinks.{Appends}
use Rattle.hrthood_words.specs.declared.verbs.Shape.{Shape}
use Rattle.hrthood_words.specs.Views.{listed}
use Rattle.hrthood_words.specs.Words.{listed_text, operands_text}
use Rattle.hrthood_top.proofs.Pieces.{IsWritten, next-written, part-written}

-- a verb as the code has it, and what it asks for
abbrev pub Word : Type 0
Word = Bor (List ℕ) × Shape

-- a verb with its operands, behind other bytes
abbrev pub verb_text : List ℕ → Word → List ℕ
verb_text before w = before ++ (w.0.now ++ operands_text w.1)

-- what is to be written of the verbs from one on
abbrev pub left_of : List ℕ → List Word → ℕ → List ℕ
left_of before ws i = listed_text before (map listed (drop i ws)) ++ codes "\n"

regrouped : (b n o l e : List ℕ) → (b ++ (n ++ (o ++ l))) ++ e ≡ (b ++ (n ++ o)) ++ (l ++ e)
regrouped b n o l e =
    append_assoc b (n ++ (o ++ l)) e
    ∙ ap (λ z. b ++ z) (append_assoc n (o ++ l) e ∙ (ap (λ z. n ++ z) (append_assoc o l e) ∙ sym (append_assoc n o (l ++ e))))
    ∙ sym (append_assoc b (n ++ o) (l ++ e))

verb-next : (before : List ℕ) (ws : List Word) (i : ℕ) (d : Word) → i < length ws
    → left_of before ws i ≡ verb_text before (get_or ws i d) ++ left_of (codes " | ") ws (i + 1)
verb-next before ws i d h =
    let word : Word = get_or ws i d in
    let next : left_of before ws i ≡ listed_text before (listed word ∷ map listed (drop (i + 1) ws)) ++ codes "\n" =
    rw (drop-cons ws i d, add-one) refl in
    next ∙ regrouped before word.0.now (operands_text word.1) (listed_text (codes " | ") (map listed (drop (i + 1) ws))) (codes "\n")

at-verb : (a b : Option (List ℕ)) (before text : List ℕ) (ws : List Word) (i : ℕ) (d : Word) → i < length ws
    → IsWritten a b (left_of before ws i) text → IsWritten a b (verb_text before (get_or ws i d) ++ left_of (codes " | ") ws (i + 1)) text
at-verb a b before text ws i d h w = let I : List ℕ → Type 0 = λ z. IsWritten a b z text in subst I (verb-next before ws i d h) w

-- one more verb is written
pub one-verb : (a b c : Option (List ℕ)) (before text : List ℕ) (ws : List Word) (i : ℕ) (d : Word) → i < length ws
    → IsWritten a b (left_of before ws i) text → Appends b c (verb_text before (get_or ws i d))
    → IsWritten a c (left_of (codes " | ") ws (i + 1)) text
one-verb a b c before text ws i d h w here =
    next-written a b c (verb_text before (get_or ws i d)) (left_of (codes " | ") ws (i + 1)) text (at-verb a b before text ws i d h w) here

-- a verb that is written in part leaves a proper front of the line
pub part-of-verb : (a b c : Option (List ℕ)) (before text : List ℕ) (ws : List Word) (i : ℕ) (d : Word) → i < length ws
    → IsWritten a b (left_of before ws i) text
    → (n : ℕ) × (n < length (verb_text before (get_or ws i d))) × Appends b c (take n (verb_text before (get_or ws i d)))
    → (k : ℕ) × (k < length text) × Appends a c (take k text)
part-of-verb a b c before text ws i d h w part =
    part-written a b c (verb_text before (get_or ws i d)) (left_of (codes " | ") ws (i + 1)) text (at-verb a b before text ws i d h w) part

-- behind the last verb the end of the line is left
pub all-verbs : (a b : Option (List ℕ)) (before text : List ℕ) (ws : List Word) (i : ℕ) → length ws ≤ i
    → IsWritten a b (left_of before ws i) text → IsWritten a b (codes "\n") text
all-verbs a b before text ws i h w =
    let I : List Word → Type 0 = λ z. IsWritten a b (listed_text before (map listed z) ++ codes "\n") text in subst I (drop_all i ws h) w
