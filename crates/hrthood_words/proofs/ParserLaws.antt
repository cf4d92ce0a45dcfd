-- What the parser makes of plain words: it has no fault exactly where they have the shape of a command, and then it finds the command.
-- No law here takes the verbs one by one: they hold of any list of verbs.
use Rattle.std.proofs.Common.{◌≡◌, ◌∙◌, Bool, true, false, not, List, [], ◌∷◌, ◌++◌, Option, Some, None, refl, sym, ap, ap₂, fold}
use Rattle.std.proofs.Common.{append_assoc, append-nil, option_map}
use Rattle.std.specs.Prelude.{is_some, codes, find, option_and_then}
use Rattle.std.specs.List.{list_all}
use Rattle.std.specs.Str.{bytes_eq}
use Rattle.std.proofs.lemmas.Bool.{not-true, and_parts}
use Rattle.std.proofs.lemmas.Slice.Eq.{bytes_eq-Decides}
use Rattle.clap.specs.Walk.{Text, Names, Walk, idle, nothing_held, subcommand_met, walk, walk_from, walked, answers_to}
use Rattle.clap.specs.Simple.{App, Shape, built, entered, label_of, names_of, rows_at, subcommand_of}
use Rattle.clap.specs.Kinds.{Kinds, or_else}
use Rattle.clap.specs.Faults.{built_fault, entered_fault, fault_of, turn_fault, walk_fault}
use Rattle.clap.specs.declared.error.kind.ErrorKind.{ErrorKind}
use Rattle.clap.specs.declared.error.kind.ErrorKind.TheVariants as kind
use Rattle.clap.proofs.OnLiterals.{clap_on_literals}
use Rattle.hrthood_words.specs.declared.verbs.Shape as verb
use Rattle.hrthood_words.specs.declared.verbs.Shape.TheVariants.{Design, AdaArrivals, DesignArrivals, DesignArrivalsTrace, Count}
use Rattle.hrthood_words.specs.Words.{Listed, command_of, command_with, is_file_name, shape_named, verb_command, verbs}
use Rattle.hrthood_words.specs.Parsing.{are_plain, asks_help, command_line, found_command, has_flags, line_of, verb_tree, words_found}
use Rattle.hrthood_words.proofs.ParserSteps.{comes_to, leaf, one_word, two_words, three_words, word_fault, turn-plain}
use Rattle.hrthood_words.proofs.ParserSteps.{found_first, found_second, found_third}
use Rattle.hrthood_words.proofs.ParserSteps.{one-none, one-one, one-more, one-finds-first, one-finds-second, one-finds-third}
use Rattle.hrthood_words.proofs.ParserSteps.{two-none, two-one, two-two, two-more, two-finds-first, two-finds-second, two-finds-third}
use Rattle.hrthood_words.proofs.ParserSteps.{three-none, three-one, three-two, three-three, three-more}
use Rattle.hrthood_words.proofs.ParserSteps.{three-finds-first, three-finds-second, three-finds-third}

-- the command line as the parser has it, and the names of its verbs
abbrev top : Shape
top = (built (line_of [])).top

abbrev names : List Listed → Names
names vs = names_of (built (line_of vs))

-- the verb of this name, where there is one
abbrev entry : List Listed → Text → Option Listed
entry vs v = find (λ x. bytes_eq x.0 v) vs

-- a walk that has entered a verb, with words behind it
abbrev inside : Text → List Text → Walk
inside v words = record (walk_from nothing_held) { stopped = Some (v, words) }

-- THE PARSER KNOWS THE VERBS OF THE LIST

-- what is of a flag is of its two sides
pub choose : {P : Type 0} (b : Bool) → (b ≡ true → P) → (b ≡ false → P) → P
choose true f g = f refl
choose false f g = g refl

-- the command of a verb by what was found of its words
pub same-words : (v : Text) {a b c d e f : Option Text} → a ≡ b → c ≡ d → e ≡ f
    → verb_command v (words_found a c e) ≡ verb_command v (words_found b d f)
same-words v {a} {b} {c} {d} {e} {f} p q r =
    ap₂ (λ x y. verb_command v (words_found x y e)) p q ∙ ap (λ z. verb_command v (words_found b d z)) r

-- a word that is not another is not it either way
flipped : (a b : Text) → bytes_eq a b ≡ false → bytes_eq b a ≡ false
flipped a b e = choose (bytes_eq b a)
    (λ t. let same : a ≡ b = sym ((bytes_eq-Decides b a).0 t) in let bad : false ≡ true = sym e ∙ (bytes_eq-Decides a b).1 same in absurd (cc bad))
    (λ f. f)

-- it knows those of the list by their names, and no other but `help`
knows-names : (v : Text) (vs : List Listed) → bytes_eq v (codes "help") ≡ false
    → subcommand_met (names vs) idle v ≡ option_map (λ x. x.0) (entry vs v)
knows-names v [] other = rw (flipped v (codes "help") other) refl
knows-names v (x ∷ vs) other = choose (bytes_eq x.0 v)
    (λ t. rw t refl)
    (λ f. rw f (knows-names v vs other))

-- and what must follow them
knows-trees : (v : Text) (vs : List Listed) → bytes_eq v (codes "help") ≡ false
    → find (λ s. answers_to v (label_of s)) (built (line_of vs)).subs ≡ option_map (λ x. leaf (verb_tree x)) (entry vs v)
knows-trees v [] other = rw (flipped v (codes "help") other) refl
knows-trees v (x ∷ vs) other = choose (bytes_eq x.0 v)
    (λ t. rw t refl)
    (λ f. rw f (knows-trees v vs other))

-- the verb that is found of a name has it
entry-name : (v : Text) (vs : List Listed) (x : Listed) → entry vs v ≡ Some x → x.0 ≡ v
entry-name v [] x e = absurd (cc e)
entry-name v (y ∷ vs) x e = choose (bytes_eq y.0 v)
    (λ t. let same : y ≡ x = (cc (rw t at e)) in ap (λ z. z.0) (sym same) ∙ (bytes_eq-Decides y.0 v).0 t)
    (λ f. entry-name v vs x (rw f at e))

-- ENTERING A VERB

enters : (vs : List Listed) (v : Text) → subcommand_met (names vs) idle v ≡ Some v
    → walked top.rules (names vs) (walk_from nothing_held) v ≡ inside v []
unfolding walked
enters vs v met = rw met refl

-- all words behind it are the verb's
gathers : (ns : Names) (v : Text) (front back : List Text) → fold (walked top.rules ns) (inside v front) back ≡ inside v (front ++ back)
unfolding walked
gathers ns v front [] = ap (inside v) (sym (append-nil front))
gathers ns v front (word ∷ back) = gathers ns v (front ++ word ∷ []) back ∙ ap (inside v) (append_assoc front (word ∷ []) back)

-- and none is a fault here
faultless : (ns : Names) (v : Text) (front back : List Text) → walk_fault top ns (inside v front) back ≡ []
unfolding walk_fault walked
faultless ns v front [] = refl
faultless ns v front (word ∷ back) = faultless ns v (front ++ word ∷ []) back

walks-in : (vs : List Listed) (v : Text) (words : List Text) → subcommand_met (names vs) idle v ≡ Some v
    → walk top.rules (names vs) nothing_held (v ∷ words) ≡ inside v words
walks-in vs v words met = ap (λ w. fold (walked top.rules (names vs)) w words) (enters vs v met) ∙ gathers (names vs) v [] words

first-turn : (ns : Names) (w : Walk) (word : Text) (rest : List Text) → walk_fault top ns w (word ∷ rest)
    ≡ or_else (turn_fault top ns w word) (walk_fault top ns (walked top.rules ns w word) rest)
unfolding walk_fault
first-turn ns w word rest = refl

no-fault-in : (vs : List Listed) (v : Text) (words : List Text) → subcommand_met (names vs) idle v ≡ Some v → bytes_eq v (codes "help") ≡ false
    → walk_fault top (names vs) (walk_from nothing_held) (v ∷ words) ≡ []
no-fault-in vs v words met other =
    let turn : turn_fault top (names vs) (walk_from nothing_held) v ≡ [] = rw (met, other) refl in
    first-turn (names vs) (walk_from nothing_held) v words ∙
    (ap₂ (λ x w. or_else x (walk_fault top (names vs) w words)) turn (enters vs v met) ∙ faultless (names vs) v [] words)

-- what a parse comes to, by its walk and the fault of its walk
abbrev known : App → Walk → Kinds → Kinds
known b w fault = comes_to b.top (is_some (entered b w.stopped)) w fault (entered_fault b w.stopped)

fault-known : (b : App) (words : List Text) (w : Walk) (fault : Kinds) → walk b.top.rules (names_of b) nothing_held words ≡ w
    → walk_fault b.top (names_of b) (walk_from nothing_held) words ≡ fault
    → built_fault b nothing_held words ≡ known b w fault
fault-known b words w fault e f = ap₂ (known b) e f

is-entered : (b : App) (v : Text) (s : Shape) (words : List Text) → find (λ x. answers_to v (label_of x)) b.subs ≡ Some s
    → is_some (entered b (Some (v, words))) ≡ true
is-entered b v s words e = rw e refl

fault-below : (b : App) (v : Text) (s : Shape) (words : List Text) → find (λ x. answers_to v (label_of x)) b.subs ≡ Some s
    → entered_fault b (Some (v, words)) ≡ word_fault s words
fault-below b v s words e = rw e refl

rows-below : (b : App) (v : Text) (s : Shape) (words : List Text) → find (λ x. answers_to v (label_of x)) b.subs ≡ Some s
    → entered b (Some (v, words)) ≡ Some (rows_at s words)
rows-below b v s words e = rw e refl

-- behind a verb that stands, only its own words are at fault
only-below : (v : Text) (words : List Text) (below : Kinds) → comes_to top true (inside v words) [] below ≡ below
unfolding clap_on_literals
only-below v words [] = refl
only-below v words (k ∷ ks) = refl

-- a verb that the parser knows, with what must follow it
record Enters (vs : List Listed) (v : Text) (s : Shape) : Type 0 where
  met : subcommand_met (names vs) idle v ≡ Some v
  other : bytes_eq v (codes "help") ≡ false
  found : find (λ x. answers_to v (label_of x)) (built (line_of vs)).subs ≡ Some s

fault-in : (vs : List Listed) (v : Text) (s : Shape) (words : List Text) → Enters vs v s → fault_of (line_of vs) (v ∷ words) ≡ word_fault s words
fault-in vs v s words h =
    fault-known (built (line_of vs)) (v ∷ words) (inside v words) [] (walks-in vs v words h.met) (no-fault-in vs v words h.met h.other)
    ∙ ap₂ (λ x y. comes_to top x (inside v words) [] y) (is-entered (built (line_of vs)) v s words h.found)
    (fault-below (built (line_of vs)) v s words h.found)
    ∙ only-below v words (word_fault s words)

found-in : (vs : List Listed) (v : Text) (s : Shape) (words : List Text) → Enters vs v s
    → found_command (subcommand_of (line_of vs) (v ∷ words))
    ≡ verb_command s.name (words_found (found_first s words) (found_second s words) (found_third s words))
found-in vs v s words h =
    ap (λ w. found_command (entered (built (line_of vs)) w.stopped)) (walks-in vs v words h.met)
    ∙ ap found_command (rows-below (built (line_of vs)) v s words h.found)

-- WHAT IS READ

-- where the parser has no fault it finds the command that the words are, where they are one; and where it has one, they are none
abbrev pub Reads : List Text → Type 0
Reads words = (fault_of command_line words ≡ [] → found_command (subcommand_of command_line words) ≡ command_of words)
    × ((fault_of command_line words ≡ [] → ⊥) → command_of words ≡ None)

reads-good : (words : List Text) → fault_of command_line words ≡ [] → found_command (subcommand_of command_line words) ≡ command_of words
    → Reads words
reads-good words none same = (λ e. same, λ some. absurd (some none))

reads-bad : (words : List Text) (k : ErrorKind) (ks : Kinds) → fault_of command_line words ≡ k ∷ ks → command_of words ≡ None → Reads words
reads-bad words k ks some none = (λ e. let bad : [] ≡ k ∷ ks = sym e ∙ some in absurd (cc bad), λ f. none)

-- a verb that asks for this is no command with these words
abbrev Asks : Text → verb.Shape → Type 0
Asks v shape = shape_named verbs v ≡ Some shape

named-none : (v : Text) (shape : verb.Shape) (words : List Text) → Asks v shape → command_with shape words ≡ None → command_of (v ∷ words) ≡ None
named-none v shape words e none = ap (option_and_then (λ s. command_with s words)) e ∙ none

-- a verb that asks for one word
one-reads : (v : Text) (shape : verb.Shape) (words : List Text) → Enters verbs v (leaf (one_word v)) → Asks v shape → command_with shape [] ≡ None
    → ((a b : Text) (more : List Text) → command_with shape (a ∷ b ∷ more) ≡ None) → list_all is_file_name words ≡ true → Reads (v ∷ words)
one-reads v shape [] h asks few many plain =
    reads-bad (v ∷ []) kind.MissingRequiredArgument [] (fault-in verbs v (leaf (one_word v)) [] h ∙ one-none v) (named-none v shape [] asks few)
one-reads v shape (a ∷ []) h asks few many plain =
    let p : is_file_name a ≡ true = (and_parts (is_file_name a) true plain).0 in
    let s : Shape = leaf (one_word v) in
    reads-good (v ∷ a ∷ []) (fault-in verbs v s (a ∷ []) h ∙ one-one v a p)
    (found-in verbs v s (a ∷ []) h ∙ same-words v (one-finds-first v a p) (one-finds-second v a p) (one-finds-third v a p))
one-reads v shape (a ∷ b ∷ rest) h asks few many plain =
    let p = and_parts (is_file_name a) (list_all is_file_name (b ∷ rest)) plain in
    let q = and_parts (is_file_name b) (list_all is_file_name rest) p.1 in
    reads-bad (v ∷ a ∷ b ∷ rest) kind.UnknownArgument [] (fault-in verbs v (leaf (one_word v)) (a ∷ b ∷ rest) h ∙ one-more v a b rest p.0 q.0)
    (named-none v shape (a ∷ b ∷ rest) asks (many a b rest))

-- a verb that asks for two
two-reads : (v : Text) (shape : verb.Shape) (words : List Text) → Enters verbs v (leaf (two_words v)) → Asks v shape → command_with shape [] ≡ None
    → ((a : Text) → command_with shape (a ∷ []) ≡ None) → ((a b c : Text) (more : List Text) → command_with shape (a ∷ b ∷ c ∷ more) ≡ None)
    → list_all is_file_name words ≡ true → Reads (v ∷ words)
two-reads v shape [] h asks none few many plain =
    reads-bad (v ∷ []) kind.MissingRequiredArgument [] (fault-in verbs v (leaf (two_words v)) [] h ∙ two-none v) (named-none v shape [] asks none)
two-reads v shape (a ∷ []) h asks none few many plain =
    let p : is_file_name a ≡ true = (and_parts (is_file_name a) true plain).0 in
    reads-bad (v ∷ a ∷ []) kind.MissingRequiredArgument [] (fault-in verbs v (leaf (two_words v)) (a ∷ []) h ∙ two-one v a p)
    (named-none v shape (a ∷ []) asks (few a))
two-reads v shape (a ∷ b ∷ []) h asks none few many plain =
    let p = and_parts (is_file_name a) (list_all is_file_name (b ∷ [])) plain in
    let q = and_parts (is_file_name b) true p.1 in
    let s : Shape = leaf (two_words v) in
    reads-good (v ∷ a ∷ b ∷ []) (fault-in verbs v s (a ∷ b ∷ []) h ∙ two-two v a b p.0 q.0) (found-in verbs v s (a ∷ b ∷ []) h
    ∙ same-words v (two-finds-first v a b p.0 q.0) (two-finds-second v a b p.0 q.0) (two-finds-third v a b p.0 q.0))
two-reads v shape (a ∷ b ∷ c ∷ rest) h asks none few many plain =
    let p = and_parts (is_file_name a) (list_all is_file_name (b ∷ c ∷ rest)) plain in
    let q = and_parts (is_file_name b) (list_all is_file_name (c ∷ rest)) p.1 in
    let r = and_parts (is_file_name c) (list_all is_file_name rest) q.1 in
    reads-bad (v ∷ a ∷ b ∷ c ∷ rest) kind.UnknownArgument []
    (fault-in verbs v (leaf (two_words v)) (a ∷ b ∷ c ∷ rest) h ∙ two-more v a b c rest p.0 q.0 r.0)
    (named-none v shape (a ∷ b ∷ c ∷ rest) asks (many a b c rest))

-- a verb that asks for three
three-reads : (v : Text) (shape : verb.Shape) (words : List Text) → Enters verbs v (leaf (three_words v)) → Asks v shape
    → command_with shape [] ≡ None → ((a : Text) → command_with shape (a ∷ []) ≡ None) → ((a b : Text) → command_with shape (a ∷ b ∷ []) ≡ None)
    → ((a b c d : Text) (more : List Text) → command_with shape (a ∷ b ∷ c ∷ d ∷ more) ≡ None) → list_all is_file_name words ≡ true
    → Reads (v ∷ words)
three-reads v shape [] h asks none one few many plain =
    reads-bad (v ∷ []) kind.MissingRequiredArgument [] (fault-in verbs v (leaf (three_words v)) [] h ∙ three-none v)
    (named-none v shape [] asks none)
three-reads v shape (a ∷ []) h asks none one few many plain =
    let p : is_file_name a ≡ true = (and_parts (is_file_name a) true plain).0 in
    reads-bad (v ∷ a ∷ []) kind.MissingRequiredArgument [] (fault-in verbs v (leaf (three_words v)) (a ∷ []) h ∙ three-one v a p)
    (named-none v shape (a ∷ []) asks (one a))
three-reads v shape (a ∷ b ∷ []) h asks none one few many plain =
    let p = and_parts (is_file_name a) (list_all is_file_name (b ∷ [])) plain in
    let q = and_parts (is_file_name b) true p.1 in
    reads-bad (v ∷ a ∷ b ∷ []) kind.MissingRequiredArgument []
    (fault-in verbs v (leaf (three_words v)) (a ∷ b ∷ []) h ∙ three-two v a b p.0 q.0)
    (named-none v shape (a ∷ b ∷ []) asks (few a b))
three-reads v shape (a ∷ b ∷ c ∷ []) h asks none one few many plain =
    let p = and_parts (is_file_name a) (list_all is_file_name (b ∷ c ∷ [])) plain in
    let q = and_parts (is_file_name b) (list_all is_file_name (c ∷ [])) p.1 in
    let r = and_parts (is_file_name c) true q.1 in
    let s : Shape = leaf (three_words v) in
    reads-good (v ∷ a ∷ b ∷ c ∷ []) (fault-in verbs v s (a ∷ b ∷ c ∷ []) h ∙ three-three v a b c p.0 q.0 r.0)
    (found-in verbs v s (a ∷ b ∷ c ∷ []) h
    ∙ same-words v (three-finds-first v a b c p.0 q.0 r.0) (three-finds-second v a b c p.0 q.0 r.0) (three-finds-third v a b c p.0 q.0 r.0))
three-reads v shape (a ∷ b ∷ c ∷ d ∷ rest) h asks none one few many plain =
    let p = and_parts (is_file_name a) (list_all is_file_name (b ∷ c ∷ d ∷ rest)) plain in
    let q = and_parts (is_file_name b) (list_all is_file_name (c ∷ d ∷ rest)) p.1 in
    let r = and_parts (is_file_name c) (list_all is_file_name (d ∷ rest)) q.1 in
    let t = and_parts (is_file_name d) (list_all is_file_name rest) r.1 in
    reads-bad (v ∷ a ∷ b ∷ c ∷ d ∷ rest) kind.UnknownArgument []
    (fault-in verbs v (leaf (three_words v)) (a ∷ b ∷ c ∷ d ∷ rest) h ∙ three-more v a b c d rest p.0 q.0 r.0 t.0)
    (named-none v shape (a ∷ b ∷ c ∷ d ∷ rest) asks (many a b c d rest))

-- EVERY SHAPE

-- a verb of the list
shape-reads : (v : Text) (shape : verb.Shape) (words : List Text) → Enters verbs v (leaf (verb_tree (v, shape))) → Asks v shape
    → list_all is_file_name words ≡ true → Reads (v ∷ words)
shape-reads v (Design verb) words h asks = one-reads v (Design verb) words h asks refl (λ a b more. refl)
shape-reads v AdaArrivals words h asks = two-reads v AdaArrivals words h asks refl (λ a. refl) (λ a b c more. refl)
shape-reads v DesignArrivals words h asks = two-reads v DesignArrivals words h asks refl (λ a. refl) (λ a b c more. refl)
shape-reads v DesignArrivalsTrace words h asks =
    three-reads v DesignArrivalsTrace words h asks refl (λ a. refl) (λ a b. refl) (λ a b c d more. refl)
shape-reads v Count words h asks = one-reads v Count words h asks refl (λ a b more. refl)

-- a word that is none
unknown-fault : (vs : List Listed) (v : Text) (words : List Text) → subcommand_met (names vs) idle v ≡ None → is_file_name v ≡ true
    → fault_of (line_of vs) (v ∷ words) ≡ kind.UnknownArgument ∷ kind.InvalidSubcommand ∷ []
unknown-fault vs v words none p =
    let fault : Kinds = kind.UnknownArgument ∷ kind.InvalidSubcommand ∷ [] in
    let turn : turn_fault top (names vs) (walk_from nothing_held) v ≡ fault = turn-plain top (names vs) nothing_held 1 v none p ∙ refl in
    let first : walk_fault top (names vs) (walk_from nothing_held) (v ∷ words) ≡ fault =
    first-turn (names vs) (walk_from nothing_held) v words ∙ ap
    (λ x. or_else x (walk_fault top (names vs) (walked top.rules (names vs) (walk_from nothing_held) v) words)) turn in
    fault-known (built (line_of vs)) (v ∷ words) (walk top.rules (names vs) nothing_held (v ∷ words)) fault refl first

entry-reads : (v : Text) (words : List Text) (x : Option Listed) → entry verbs v ≡ x → is_file_name v ≡ true → bytes_eq v (codes "help") ≡ false
    → list_all is_file_name words ≡ true → Reads (v ∷ words)
entry-reads v words None e mine other plain =
    reads-bad (v ∷ words) kind.UnknownArgument (kind.InvalidSubcommand ∷ [])
    (unknown-fault verbs v words (knows-names v verbs other ∙ ap (option_map (λ x. x.0)) e) mine)
    (ap (λ x. option_and_then (λ shape. command_with shape words) (option_map (λ y. y.1) x)) e)
entry-reads v words (Some x) e mine other plain =
    let same : x.0 ≡ v = entry-name v verbs x e in
    let enters : Enters verbs v (leaf (verb_tree (v, x.1))) = record {
      met = knows-names v verbs other ∙ (ap (option_map (λ y. y.0)) e ∙ ap Some same);
      other = other;
      found = knows-trees v verbs other ∙ (ap (option_map (λ y. leaf (verb_tree y))) e ∙ ap (λ z. Some (leaf (verb_tree (z, x.1)))) same);
    } in
    shape-reads v x.1 words enters (ap (option_map (λ y. y.1)) e) plain

-- words without flags are plain, each
all-plain : (words : List Text) → not (has_flags words) ≡ true → list_all is_file_name words ≡ true
all-plain [] e = refl
all-plain (v ∷ words) e = choose (is_file_name v)
    (λ mine. rw (mine, all-plain words (rw mine at e)) refl)
    (λ other. let bad : false ≡ true = rw other at e in absurd (cc bad))

no-words : fault_of command_line [] ≡ kind.MissingSubcommand ∷ []
unfolding clap_on_literals
no-words = refl

-- the parser reads plain words as the commands that they are
pub plain-reads : (words : List Text) → are_plain words ≡ true → Reads words
plain-reads [] plain = reads-bad [] kind.MissingSubcommand [] no-words refl
plain-reads (v ∷ words) plain =
    let p = and_parts (not (has_flags (v ∷ words))) (not (asks_help (v ∷ words))) plain in
    let q = and_parts (is_file_name v) (list_all is_file_name words) (all-plain (v ∷ words) p.0) in
    entry-reads v words (entry verbs v) refl q.0 (not-true (bytes_eq v (codes "help")) p.1) q.1
