-- What the parser is told, step by step.
use Rattle.std.proofs.Common.{◌≡◌, ◌∙◌, true, false, List, [], ◌∷◌, ◌++◌, Option, Some, None, Result, Ok, Err, refl, sym, ap, ap₂, subst}
use Rattle.std.proofs.Common.{ℕ, ◌+◌, ◌<◌, length, map, drop, get_or, drop-cons, add-one, option_map, inl, inr}
use Rattle.std.specs.Prelude.{◌||◌, ◌⊎◌, Box, IfOk, codes}
use Rattle.std.specs.Box.{box_value}
use Rattle.std.proofs.lemmas.Result.{IfOk-weaker}
use Rattle.clap.specs.Walk.{Row, Rule, Text, rows_of, rule_of}
use Rattle.clap.specs.Simple.{App, HasMatchesOf, Shape, app_of, app_of_fields, is_simple, new_app, new_shape, on_top, subcommand_of}
use Rattle.clap.specs.Simple.{subcommand_rows, subcommand_rows_of, with_subcommand}
use Rattle.clap.specs.Faults.{fault_of, is_simple_and_free}
use Rattle.clap.specs.Kinds.{FailsBy, HasKind, IsAmong, Kinds}
use Rattle.clap.specs.Matches.{found_of, subcommand_name_of}
use Rattle.clap.specs.Values.{kind_of}
use Rattle.clap.specs.Built.{AddsArg, AddsSubcommand}
use Rattle.clap.specs.declared.builder.arg.Arg.{Arg}
use Rattle.clap.specs.declared.builder.command.Command.{Command}
use Rattle.clap.specs.declared.builder.command.Command.TheViews.{out-Command}
use Rattle.clap.specs.declared.error.Error.{Error}
use Rattle.clap.specs.declared.error.kind.ErrorKind.TheVariants.{OutOfMemory}
use Rattle.clap.specs.declared.parser.matches.ArgMatches.{ArgMatches}
use Rattle.clap.specs.declared.parser.matches.ArgMatches.TheViews.{out-ArgMatches, out-SubCommand}
use Rattle.clap.specs.declared.parser.matches.SubCommand.{SubCommand}
use Rattle.clap.proofs.WalkLemmas.{first_value-rows}
use Rattle.hrthood_words.specs.Words.{command_of}
use Rattle.hrthood_words.specs.Parsing.{IsVerb, are_plain, command_line, found_command, given_command, verb_tree, with_verbs}
use Rattle.hrthood_words.specs.Views.{listed}
use Rattle.hrthood_words.specs.declared.verbs.Shape as verb
use Rattle.std.specs.Borrow.{Bor}
use Rattle.hrthood_words.proofs.ParserLaws.{plain-reads, same-words}

pub word-added : (old : Command) (a : Arg) (new : Command) (s : Shape) (r : Rule) → AddsArg old a new → IsVerb s old → rule_of a ≡ r
    → a.global ≡ false
    → IsVerb (record s { rules = s.rules ++ r ∷ [] }) new
word-added old a new s r h is e local = (
  ap (λ (x : App). x.top) (h.shape local) ∙ ap₂ (λ (x : Shape) (y : Rule). record x {
    rules
        = x.rules ++ y ∷ [];
  }) is.0 e,
  h.globals ∙ ap₂ (λ x y. x || y) is.1 local,
)

pub verb-added : (old sub new : Command) (a : App) (s : Shape) → AddsSubcommand old sub new → app_of old ≡ a → IsVerb s sub
    → app_of new ≡ with_subcommand a s
verb-added old sub new a s h e is = h.shape is.1 ∙ ap₂ with_subcommand e is.0

-- one more verb of the list is added
pub verbs-next : (old sub new : Command) (ws : List (Bor Text × verb.Shape)) (i : ℕ) (d : Bor Text × verb.Shape) (whole : App) → i < length ws → AddsSubcommand old sub new
    → IsVerb (verb_tree (listed (get_or ws i d))) sub → with_verbs (app_of old) (map listed (drop i ws)) ≡ whole
    → with_verbs (app_of new) (map listed (drop (i + 1) ws)) ≡ whole
verbs-next old sub new ws i d whole h added is e =
    let tree : Shape = verb_tree (listed (get_or ws i d)) in
    let step : with_verbs (app_of old) (map listed (drop i ws)) ≡ with_verbs (with_subcommand (app_of old) tree) (map listed (drop (i + 1) ws)) =
    rw (drop-cons ws i d, add-one) refl in
    ap (λ (a : App). with_verbs a (map listed (drop (i + 1) ws))) (verb-added old sub new (app_of old) tree added refl is) ∙ (sym step ∙ e)

-- the command line without its verbs
abbrev pub begun : Text → App
begun name = record { top = record (new_shape name) { no_binary_name = true; subcommand_required = true }; subs = [] }

pub line-begun : (made bare needs : Command) (name : Text) → app_of made ≡ new_app name
    → out-Command bare ≡ record (out-Command made) { no_binary_name = true }
    → out-Command needs ≡ record (out-Command bare) { subcommand_required = true } → app_of needs ≡ begun name
line-begun made bare needs name e f g =
    ap app_of_fields g ∙ ap (on_top (λ s. record s { subcommand_required = true }))
    (ap app_of_fields f ∙ ap (on_top (λ s. record s { no_binary_name = true })) e)

-- WHAT A PARSE IS

line-simple : is_simple_and_free command_line ≡ true
line-simple = refl

pub parse-kinds : {T : Type 0} (a : App) (words : List Text) (r : Result T Error) → a ≡ command_line
    → (is_simple_and_free a ≡ true → FailsBy (fault_of a words) r) → FailsBy (fault_of command_line words) r
parse-kinds a words r e h = subst (λ (z : App). FailsBy (fault_of z words) r) e (h (ap is_simple_and_free e ∙ line-simple))

pub parse-matches : (a : App) (words : List Text) (r : Result ArgMatches Error) → a ≡ command_line → IfOk r (HasMatchesOf a words)
    → IfOk r (λ m. subcommand_rows_of m ≡ subcommand_of command_line words)
parse-matches a words r e h =
    IfOk-weaker r (HasMatchesOf a words) (λ m. subcommand_rows_of m ≡ subcommand_of command_line words)
    (λ m g. (g (ap is_simple e ∙ refl)).1 ∙ ap (λ (z : App). subcommand_of z words) e) h

-- WHAT IS READ OF IT

text-is : (a b : Text) → Some a ≡ Some b → a ≡ b
text-is a b e = cc e

rows-are : (a b : List Row) → Some a ≡ Some b → a ≡ b
rows-are a b e = cc e

-- the name and the rows of what was entered
entered-is : (name : Text) (rows : List Row) (o : Option (Text × List Row)) → option_map (λ p. p.0) o ≡ Some name
    → option_map (λ p. p.1) o ≡ Some rows → o ≡ Some (name, rows)
entered-is name rows None e f = absurd (cc e)
entered-is name rows (Some p) e f = ap₂ (λ x y. Some (x, y)) (text-is p.0 name e) (rows-are p.1 rows f)

none-entered : (o : Option (Text × List Row)) → option_map (λ p. p.0) o ≡ None → o ≡ None
none-entered None e = refl
none-entered (Some p) e = absurd (cc e)

name-is : {Z : Type 0} (o : Option (Box SubCommand Z)) → option_map (λ p. p.0) (subcommand_rows o)
    ≡ option_map (λ b. (out-SubCommand (box_value b)).name.now) o
name-is None = refl
name-is (Some b) = refl

-- the command of what was entered
pub found-is : (m inner : ArgMatches) (name : Text) → subcommand_name_of m ≡ Some name
    → option_map (λ p. p.1) (subcommand_rows_of m) ≡ Some (rows_of (found_of inner))
    → found_command (subcommand_rows_of m) ≡ given_command name (found_of inner)
found-is m inner name e f =
    ap found_command (entered-is name (rows_of (found_of inner)) (subcommand_rows_of m) (name-is (out-ArgMatches m).subcommand ∙ e) f)
    ∙ same-words name (sym (first_value-rows (found_of inner) (codes "first"))) (sym (first_value-rows (found_of inner) (codes "second")))
    (sym (first_value-rows (found_of inner) (codes "third")))

pub found-none : (m : ArgMatches) → subcommand_name_of m ≡ None → found_command (subcommand_rows_of m) ≡ None
found-none m e = ap found_command (none-entered (subcommand_rows_of m) (name-is (out-ArgMatches m).subcommand ∙ e))

-- WHAT IT SAYS OF THE WORDS

-- what the parser found is the command that the words are
pub found-command : (words : List Text) (m : ArgMatches) (r : Result ArgMatches Error) → are_plain words ≡ true → r ≡ Ok m
    → FailsBy (fault_of command_line words) r → subcommand_rows_of m ≡ subcommand_of command_line words
    → found_command (subcommand_rows_of m) ≡ command_of words
found-command words m r plain e kinds rows =
    let F : Result ArgMatches Error → Type 0 = FailsBy (fault_of command_line words) in
    ap found_command rows ∙ (plain-reads words plain).0 (subst F e kinds)

pub has_kind : (words : List Text) (e : Error) → are_plain words ≡ true → HasKind (fault_of command_line words) e
    → (kind_of e ≡ OutOfMemory) ⊎ (command_of words ≡ None)
has_kind words e plain (inl memory) = inl memory
has_kind words e plain (inr other) =
    let I : Kinds → Type 0 = IsAmong (kind_of e) in
    inr ((plain-reads words plain).1 (λ none. subst I none other))

-- a fault of the parser is want of memory, or the words are no command
pub fault-command : (words : List Text) (e : Error) (r : Result ArgMatches Error) → are_plain words ≡ true → r ≡ Err e
    → FailsBy (fault_of command_line words) r
    → (kind_of e ≡ OutOfMemory) ⊎ (command_of words ≡ None)
fault-command words e r plain is kinds =
    let F : Result ArgMatches Error → Type 0 = FailsBy (fault_of command_line words) in
    has_kind words e plain (subst F is kinds)
