-- What the parser makes of plain words, step by step: a verb's name enters the verb, and each word behind it goes to the next place.
use Rattle.std.proofs.Common.{◌≡◌, ◌∙◌, ℕ, Bool, true, false, List, [], ◌∷◌, Option, Some, None, refl, ap, ap₂}
use Rattle.std.specs.Prelude.{◌==◌, codes}
use Rattle.std.specs.Str.{bytes_eq}
use Rattle.std.proofs.lemmas.Bool.{not-true}
use Rattle.clap.specs.Lexer.{long_of, short_of}
use Rattle.clap.specs.Walk.{Text, Names, Held, Rule, Walk, arg_by_index, idle, nothing_held, finished, settled, subcommand_met, to_positional}
use Rattle.clap.specs.Walk.{value, walk, walk_from, walked, rows_after, first_of}
use Rattle.clap.specs.Simple.{Shape, built_leaf, inherited, marked_built, with_leaf_noted}
use Rattle.clap.specs.Kinds.{Kinds, or_else}
use Rattle.clap.specs.Faults.{check_fault, defaults_fault, level_fault, settle_fault, step_fault, turn_fault, walk_fault}
use Rattle.clap.specs.declared.error.kind.ErrorKind.TheVariants as kind
use Rattle.clap.proofs.OnLiterals.{clap_on_literals}
use Rattle.hrthood_words.specs.Words.{is_file_name}
use Rattle.hrthood_words.specs.Parsing.{one_place, two_places, three_places, with_places, command_line}

-- PLAIN WORDS

plain_long : (word : Text) → is_file_name word ≡ true → long_of word ≡ None
plain_long [] p = refl
plain_long (c ∷ cs) p = rw (not-true (c == 45) p) refl

plain_short : (word : Text) → is_file_name word ≡ true → short_of word ≡ None
plain_short [] p = refl
plain_short (c ∷ cs) p = rw (not-true (c == 45) p) refl

plain_dashes : (word : Text) → is_file_name word ≡ true → bytes_eq word (45 ∷ 45 ∷ []) ≡ false
plain_dashes [] p = refl
plain_dashes (c ∷ cs) p = rw (not-true (c == 45) p) refl

-- a walk that waits for the word of a place
abbrev pub at : Held → ℕ → Walk
at held position = record { held = held; waiting = idle; position = position; is_trailing = false; stopped = None }

-- a plain word that names no verb goes to the next place
pub walked-plain : (c : List Rule) (names : Names) (held : Held) (position : ℕ) (word : Text) → subcommand_met names idle word ≡ None
    → is_file_name word ≡ true
    → walked c names (at held position) word ≡ to_positional c (arg_by_index c position) word (at held position) held
unfolding walked
walked-plain c names held position word none p = rw (none, plain_dashes word p, plain_long word p, plain_short word p) refl

-- and is no fault by itself
pub turn-plain : (s : Shape) (names : Names) (held : Held) (position : ℕ) (word : Text) → subcommand_met names idle word ≡ None
    → is_file_name word ≡ true
    → turn_fault s names (at held position) word ≡ step_fault s position held value
turn-plain s names held position word none p = rw (none, plain_dashes word p, plain_long word p, plain_short word p) refl

-- A VERB WITH ITS WORDS

-- a verb that one word must follow, one that two must, and one that three must
abbrev pub one_word : Text → Shape
one_word verb = with_places verb one_place

abbrev pub two_words : Text → Shape
two_words verb = with_places verb two_places

abbrev pub three_words : Text → Shape
three_words verb = with_places verb three_places

-- what the parser makes of a verb's subcommand
abbrev pub leaf : Shape → Shape
leaf s = built_leaf (inherited (with_leaf_noted (marked_built command_line.top)) s)

-- what a level comes to, by its walk, the fault of its walk, and that of the level below
abbrev pub comes_to : Shape → Bool → Walk → Kinds → Kinds → Kinds
comes_to s below_is w fault below = or_else fault (or_else below (or_else (settle_fault s.rules s.args_override_self w.held)
    (or_else (defaults_fault (settled s.rules w.held).rows s.rules) (check_fault s (finished s.rules w.held) below_is))))

-- it is by its walk
level-comes : (s : Shape) (words : List Text) (w : Walk) (fault : Kinds) → walk s.rules [] nothing_held words ≡ w
    → walk_fault s [] (walk_from nothing_held) words ≡ fault
    → level_fault s [] nothing_held words false [] ≡ comes_to s false w fault []
level-comes s words w fault e f = ap₂ (λ x y. comes_to s false x y []) e f

-- a first word that waits for what follows
abbrev first_held : Text → Held
first_held a = record { rows = []; pending = Some (codes "first", a ∷ []); skip = 0 }

-- a first word that was taken, and a second that waits for what follows
abbrev second_held : Text → Text → Held
second_held a b = record {
  rows = (finished (leaf (one_word [])).rules (first_held a));
  pending = Some (codes "second", b ∷ []);
  skip = 0;
}

-- two words that were taken, and a third that waits for what follows
abbrev third_held : Text → Text → Text → Held
third_held a b c = record {
  rows = (finished (leaf (two_words [])).rules (second_held a b));
  pending = Some (codes "third", c ∷ []);
  skip = 0;
}

one-first : (v a : Text) → is_file_name a ≡ true → walked (leaf (one_word v)).rules [] (walk_from nothing_held) a ≡ at (first_held a) 2
one-first v a p = walked-plain (leaf (one_word v)).rules [] nothing_held 1 a refl p ∙ refl

two-first : (v a : Text) → is_file_name a ≡ true → walked (leaf (two_words v)).rules [] (walk_from nothing_held) a ≡ at (first_held a) 2
two-first v a p = walked-plain (leaf (two_words v)).rules [] nothing_held 1 a refl p ∙ refl

two-second : (v a b : Text) → is_file_name b ≡ true → walked (leaf (two_words v)).rules [] (at (first_held a) 2) b ≡ at (second_held a b) 3
two-second v a b p = walked-plain (leaf (two_words v)).rules [] (first_held a) 2 b refl p ∙ refl

three-first : (v a : Text) → is_file_name a ≡ true → walked (leaf (three_words v)).rules [] (walk_from nothing_held) a ≡ at (first_held a) 2
three-first v a p = walked-plain (leaf (three_words v)).rules [] nothing_held 1 a refl p ∙ refl

three-second : (v a b : Text) → is_file_name b ≡ true → walked (leaf (three_words v)).rules [] (at (first_held a) 2) b ≡ at (second_held a b) 3
three-second v a b p = walked-plain (leaf (three_words v)).rules [] (first_held a) 2 b refl p ∙ refl

three-third : (v a b c : Text) → is_file_name c ≡ true → walked (leaf (three_words v)).rules [] (at (second_held a b) 3) c ≡ at (third_held a b c) 4
three-third v a b c p = walked-plain (leaf (three_words v)).rules [] (second_held a b) 3 c refl p ∙ refl

-- the faults of one word's walk: none at its place, and at most one behind it
abbrev faults : Shape → Walk → Text → List Text → Kinds
faults s w word rest = or_else (turn_fault s [] w word) (walk_fault s [] (walked s.rules [] w word) rest)

walk-fault : (s : Shape) (w : Walk) (word : Text) (rest : List Text) → walk_fault s [] w (word ∷ rest) ≡ faults s w word rest
unfolding walk_fault
walk-fault s w word rest = refl

walk-fault-end : (s : Shape) (w : Walk) → walk_fault s [] w [] ≡ []
unfolding walk_fault
walk-fault-end s w = refl

-- a word at a place leaves the faults to the words behind it
fault-past : (s : Shape) (held : Held) (position : ℕ) (word : Text) (rest : List Text) (w : Walk) → is_file_name word ≡ true
    → step_fault s position held value ≡ []
    → walked s.rules [] (at held position) word ≡ w → walk_fault s [] (at held position) (word ∷ rest) ≡ walk_fault s [] w rest
fault-past s held position word rest w p none e =
    walk-fault s (at held position) word rest ∙ ap₂ (λ x y. or_else x (walk_fault s [] y rest)) (turn-plain s [] held position word refl p ∙ none) e

-- a word without a place is a fault
fault-here : (s : Shape) (held : Held) (position : ℕ) (word : Text) (rest : List Text) → is_file_name word ≡ true
    → step_fault s position held value ≡ kind.UnknownArgument ∷ []
    → walk_fault s [] (at held position) (word ∷ rest) ≡ kind.UnknownArgument ∷ []
fault-here s held position word rest p one =
    walk-fault s (at held position) word rest ∙ ap (λ x. or_else x (walk_fault s [] (walked s.rules [] (at held position) word) rest))
    (turn-plain s [] held position word refl p ∙ one)

-- what a verb's words come to
abbrev pub word_fault : Shape → List Text → Kinds
word_fault s words = level_fault s [] nothing_held words false []

-- one word: none is a fault, one is none, and more are one
pub one-none : (v : Text) → word_fault (leaf (one_word v)) [] ≡ kind.MissingRequiredArgument ∷ []
unfolding clap_on_literals
one-none v = refl

pub one-one : (v a : Text) → is_file_name a ≡ true → word_fault (leaf (one_word v)) (a ∷ []) ≡ []
unfolding clap_on_literals
one-one v a p =
    let s : Shape = leaf (one_word v) in
    level-comes s (a ∷ []) (at (first_held a) 2) [] (one-first v a p)
    (fault-past s nothing_held 1 a [] (at (first_held a) 2) p refl (one-first v a p) ∙ walk-fault-end s (at (first_held a) 2)) ∙ refl

pub one-more : (v a b : Text) (rest : List Text) → is_file_name a ≡ true → is_file_name b ≡ true
    → word_fault (leaf (one_word v)) (a ∷ b ∷ rest) ≡ kind.UnknownArgument ∷ []
one-more v a b rest p q =
    let s : Shape = leaf (one_word v) in
    level-comes s (a ∷ b ∷ rest) (walk s.rules [] nothing_held (a ∷ b ∷ rest)) (kind.UnknownArgument ∷ []) refl
    (fault-past s nothing_held 1 a (b ∷ rest) (at (first_held a) 2) p refl (one-first v a p) ∙ fault-here s (first_held a) 2 b rest q refl)

-- two words likewise
pub two-none : (v : Text) → word_fault (leaf (two_words v)) [] ≡ kind.MissingRequiredArgument ∷ []
unfolding clap_on_literals
two-none v = refl

pub two-one : (v a : Text) → is_file_name a ≡ true → word_fault (leaf (two_words v)) (a ∷ []) ≡ kind.MissingRequiredArgument ∷ []
unfolding clap_on_literals
two-one v a p =
    let s : Shape = leaf (two_words v) in
    level-comes s (a ∷ []) (at (first_held a) 2) [] (two-first v a p)
    (fault-past s nothing_held 1 a [] (at (first_held a) 2) p refl (two-first v a p) ∙ walk-fault-end s (at (first_held a) 2)) ∙ refl

two-walk : (v a b : Text) → is_file_name a ≡ true → is_file_name b ≡ true → walk (leaf (two_words v)).rules [] nothing_held (a ∷ b ∷ [])
    ≡ at (second_held a b) 3
two-walk v a b p q = ap (λ w. walked (leaf (two_words v)).rules [] w b) (two-first v a p) ∙ two-second v a b q

pub two-two : (v a b : Text) → is_file_name a ≡ true → is_file_name b ≡ true → word_fault (leaf (two_words v)) (a ∷ b ∷ []) ≡ []
unfolding clap_on_literals
two-two v a b p q =
    let s : Shape = leaf (two_words v) in
    level-comes s (a ∷ b ∷ []) (at (second_held a b) 3) [] (two-walk v a b p q)
    (fault-past s nothing_held 1 a (b ∷ []) (at (first_held a) 2) p refl (two-first v a p) ∙
    (fault-past s (first_held a) 2 b [] (at (second_held a b) 3) q refl (two-second v a b q) ∙ walk-fault-end s (at (second_held a b) 3))) ∙ refl

pub two-more : (v a b c : Text) (rest : List Text) → is_file_name a ≡ true → is_file_name b ≡ true → is_file_name c ≡ true
    → word_fault (leaf (two_words v)) (a ∷ b ∷ c ∷ rest) ≡ kind.UnknownArgument ∷ []
two-more v a b c rest p q r =
    let s : Shape = leaf (two_words v) in
    level-comes s (a ∷ b ∷ c ∷ rest) (walk s.rules [] nothing_held (a ∷ b ∷ c ∷ rest)) (kind.UnknownArgument ∷ []) refl
    (fault-past s nothing_held 1 a (b ∷ c ∷ rest) (at (first_held a) 2) p refl (two-first v a p) ∙
    (fault-past s (first_held a) 2 b (c ∷ rest) (at (second_held a b) 3) q refl (two-second v a b q) ∙ fault-here s
    (second_held a b) 3 c rest r refl))

-- three words likewise
pub three-none : (v : Text) → word_fault (leaf (three_words v)) [] ≡ kind.MissingRequiredArgument ∷ []
unfolding clap_on_literals
three-none v = refl

pub three-one : (v a : Text) → is_file_name a ≡ true → word_fault (leaf (three_words v)) (a ∷ []) ≡ kind.MissingRequiredArgument ∷ []
unfolding clap_on_literals
three-one v a p =
    let s : Shape = leaf (three_words v) in
    level-comes s (a ∷ []) (at (first_held a) 2) [] (three-first v a p)
    (fault-past s nothing_held 1 a [] (at (first_held a) 2) p refl (three-first v a p) ∙ walk-fault-end s (at (first_held a) 2)) ∙ refl

-- the walk over two words, and over three
three-walk-two : (v a b : Text) → is_file_name a ≡ true → is_file_name b ≡ true → walk (leaf (three_words v)).rules [] nothing_held (a ∷ b ∷ [])
    ≡ at (second_held a b) 3
three-walk-two v a b p q = ap (λ w. walked (leaf (three_words v)).rules [] w b) (three-first v a p) ∙ three-second v a b q

three-walk : (v a b c : Text) → is_file_name a ≡ true → is_file_name b ≡ true → is_file_name c ≡ true
    → walk (leaf (three_words v)).rules [] nothing_held (a ∷ b ∷ c ∷ []) ≡ at (third_held a b c) 4
three-walk v a b c p q r = ap (λ w. walked (leaf (three_words v)).rules [] w c) (three-walk-two v a b p q) ∙ three-third v a b c r

-- two words at their places leave the faults to the words behind them
three-past : (v a b : Text) (rest : List Text) → is_file_name a ≡ true → is_file_name b ≡ true
    → walk_fault (leaf (three_words v)) [] (walk_from nothing_held) (a ∷ b ∷ rest) ≡ walk_fault (leaf (three_words v)) [] (at (second_held a b) 3) rest
three-past v a b rest p q =
    let s : Shape = leaf (three_words v) in
    fault-past s nothing_held 1 a (b ∷ rest) (at (first_held a) 2) p refl (three-first v a p) ∙
    fault-past s (first_held a) 2 b rest (at (second_held a b) 3) q refl (three-second v a b q)

pub three-two : (v a b : Text) → is_file_name a ≡ true → is_file_name b ≡ true
    → word_fault (leaf (three_words v)) (a ∷ b ∷ []) ≡ kind.MissingRequiredArgument ∷ []
unfolding clap_on_literals
three-two v a b p q =
    let s : Shape = leaf (three_words v) in
    level-comes s (a ∷ b ∷ []) (at (second_held a b) 3) [] (three-walk-two v a b p q)
    (three-past v a b [] p q ∙ walk-fault-end s (at (second_held a b) 3)) ∙ refl

pub three-three : (v a b c : Text) → is_file_name a ≡ true → is_file_name b ≡ true → is_file_name c ≡ true
    → word_fault (leaf (three_words v)) (a ∷ b ∷ c ∷ []) ≡ []
unfolding clap_on_literals
three-three v a b c p q r =
    let s : Shape = leaf (three_words v) in
    level-comes s (a ∷ b ∷ c ∷ []) (at (third_held a b c) 4) [] (three-walk v a b c p q r)
    (three-past v a b (c ∷ []) p q ∙
    (fault-past s (second_held a b) 3 c [] (at (third_held a b c) 4) r refl (three-third v a b c r) ∙ walk-fault-end s (at (third_held a b c) 4)))
    ∙ refl

pub three-more : (v a b c d : Text) (rest : List Text) → is_file_name a ≡ true → is_file_name b ≡ true → is_file_name c ≡ true
    → is_file_name d ≡ true → word_fault (leaf (three_words v)) (a ∷ b ∷ c ∷ d ∷ rest) ≡ kind.UnknownArgument ∷ []
three-more v a b c d rest p q r t =
    let s : Shape = leaf (three_words v) in
    level-comes s (a ∷ b ∷ c ∷ d ∷ rest) (walk s.rules [] nothing_held (a ∷ b ∷ c ∷ d ∷ rest)) (kind.UnknownArgument ∷ []) refl
    (three-past v a b (c ∷ d ∷ rest) p q ∙
    (fault-past s (second_held a b) 3 c (d ∷ rest) (at (third_held a b c) 4) r refl (three-third v a b c r) ∙
    fault-here s (third_held a b c) 4 d rest t refl))

-- WHAT IS FOUND OF THE WORDS

abbrev pub found_first : Shape → List Text → Option Text
found_first s words = first_of (codes "first") (rows_after s.rules [] words)

abbrev pub found_second : Shape → List Text → Option Text
found_second s words = first_of (codes "second") (rows_after s.rules [] words)

abbrev pub found_third : Shape → List Text → Option Text
found_third s words = first_of (codes "third") (rows_after s.rules [] words)

one-found : (v a : Text) → is_file_name a ≡ true → rows_after (leaf (one_word v)).rules [] (a ∷ [])
    ≡ finished (leaf (one_word v)).rules (first_held a)
one-found v a p = ap (λ w. finished (leaf (one_word v)).rules w.held) (one-first v a p)

pub one-finds-first : (v a : Text) → is_file_name a ≡ true → found_first (leaf (one_word v)) (a ∷ []) ≡ Some a
one-finds-first v a p = ap (first_of (codes "first")) (one-found v a p) ∙ refl

pub one-finds-second : (v a : Text) → is_file_name a ≡ true → found_second (leaf (one_word v)) (a ∷ []) ≡ None
one-finds-second v a p = ap (first_of (codes "second")) (one-found v a p) ∙ refl

pub one-finds-third : (v a : Text) → is_file_name a ≡ true → found_third (leaf (one_word v)) (a ∷ []) ≡ None
one-finds-third v a p = ap (first_of (codes "third")) (one-found v a p) ∙ refl

two-found : (v a b : Text) → is_file_name a ≡ true → is_file_name b ≡ true → rows_after (leaf (two_words v)).rules [] (a ∷ b ∷ [])
    ≡ finished (leaf (two_words v)).rules (second_held a b)
two-found v a b p q = ap (λ w. finished (leaf (two_words v)).rules w.held) (two-walk v a b p q)

pub two-finds-first : (v a b : Text) → is_file_name a ≡ true → is_file_name b ≡ true → found_first (leaf (two_words v)) (a ∷ b ∷ []) ≡ Some a
two-finds-first v a b p q = ap (first_of (codes "first")) (two-found v a b p q) ∙ refl

pub two-finds-second : (v a b : Text) → is_file_name a ≡ true → is_file_name b ≡ true → found_second (leaf (two_words v)) (a ∷ b ∷ []) ≡ Some b
two-finds-second v a b p q = ap (first_of (codes "second")) (two-found v a b p q) ∙ refl

pub two-finds-third : (v a b : Text) → is_file_name a ≡ true → is_file_name b ≡ true → found_third (leaf (two_words v)) (a ∷ b ∷ []) ≡ None
two-finds-third v a b p q = ap (first_of (codes "third")) (two-found v a b p q) ∙ refl

three-found : (v a b c : Text) → is_file_name a ≡ true → is_file_name b ≡ true → is_file_name c ≡ true
    → rows_after (leaf (three_words v)).rules [] (a ∷ b ∷ c ∷ []) ≡ finished (leaf (three_words v)).rules (third_held a b c)
three-found v a b c p q r = ap (λ w. finished (leaf (three_words v)).rules w.held) (three-walk v a b c p q r)

pub three-finds-first : (v a b c : Text) → is_file_name a ≡ true → is_file_name b ≡ true → is_file_name c ≡ true
    → found_first (leaf (three_words v)) (a ∷ b ∷ c ∷ []) ≡ Some a
three-finds-first v a b c p q r = ap (first_of (codes "first")) (three-found v a b c p q r) ∙ refl

pub three-finds-second : (v a b c : Text) → is_file_name a ≡ true → is_file_name b ≡ true → is_file_name c ≡ true
    → found_second (leaf (three_words v)) (a ∷ b ∷ c ∷ []) ≡ Some b
three-finds-second v a b c p q r = ap (first_of (codes "second")) (three-found v a b c p q r) ∙ refl

pub three-finds-third : (v a b c : Text) → is_file_name a ≡ true → is_file_name b ≡ true → is_file_name c ≡ true
    → found_third (leaf (three_words v)) (a ∷ b ∷ c ∷ []) ≡ Some c
three-finds-third v a b c p q r = ap (first_of (codes "third")) (three-found v a b c p q r) ∙ refl
