-- The command line as the parser is told it: a subcommand for each verb of the list, which as many words must follow as it asks for;
-- and the command that the parser's findings are.
use Rattle.std.specs.Prelude.{◌≡◌, Bool, true, false, List, [], ◌∷◌, codes, map, Option, Some, None, not, ◌&&◌}
use Rattle.std.specs.List.{list_any}
use Rattle.std.specs.Str.{bytes_eq}
use Rattle.clap.specs.Walk.{Row, Rule, Text, first_of}
use Rattle.clap.specs.Matches.{first_value}
use Rattle.clap.specs.declared.parser.matches.Found.{Found}
use Rattle.clap.specs.Simple.{App, Shape, new_rule, new_shape, shape_of, with_subcommand}
use Rattle.clap.specs.declared.builder.command.Command as parser
use Rattle.clap.specs.declared.builder.command.Command.TheViews.{out-Command as fields_of}
use Rattle.hrthood_words.specs.declared.verbs.Shape as verb
use Rattle.hrthood_words.specs.declared.verbs.Shape.TheVariants.{Design, AdaArrivals, DesignArrivals, DesignArrivalsTrace, Count}
use Rattle.hrthood_words.specs.Words.{Command, Listed, is_file_name, verb_command, verbs}

-- a word that must stand
abbrev pub needed : Text → Rule
needed id = record (new_rule id) { required = true }

-- one word that must stand, two, and three
abbrev pub one_place : List Rule
one_place = needed (codes "first") ∷ []

abbrev pub two_places : List Rule
two_places = needed (codes "first") ∷ needed (codes "second") ∷ []

abbrev pub three_places : List Rule
three_places = needed (codes "first") ∷ needed (codes "second") ∷ needed (codes "third") ∷ []

-- the words that must follow a verb, by what it asks for
abbrev pub places_of : verb.Shape → List Rule
places_of (Design verb) = one_place
places_of AdaArrivals = two_places
places_of DesignArrivals = two_places
places_of DesignArrivalsTrace = three_places
places_of Count = one_place

-- a verb that these words must follow
abbrev pub with_places : Text → List Rule → Shape
with_places verb places = record (new_shape verb) { rules = places }

-- what the parser is told of a verb
abbrev pub verb_tree : Listed → Shape
verb_tree v = with_places v.0 (places_of v.1)

-- a command line with verbs behind those that it has
abbrev pub with_verbs : App → List Listed → App
with_verbs line [] = line
with_verbs line (v ∷ vs) = with_verbs (with_subcommand line (verb_tree v)) vs

-- the command line of these verbs: one of them must stand
abbrev pub line_of : List Listed → App
line_of listed = record {
  top = record (new_shape (codes "hrthood")) {
    is_leaf = false;
    no_binary_name = true;
    subcommand_required = true;
  };
  subs = map verb_tree listed;
}

-- the command line
abbrev pub command_line : App
command_line = line_of verbs

-- the parser is told this of a verb
abbrev pub IsVerb : Shape → parser.Command → Type 0
IsVerb s c = (shape_of c ≡ s) × ((fields_of c).has_globals ≡ false)

-- the words behind a verb, of which the first and perhaps a second and a third were found
abbrev pub words_found : Option Text → Option Text → Option Text → List Text
words_found None second third = []
words_found (Some first) None third = first ∷ []
words_found (Some first) (Some second) None = first ∷ second ∷ []
words_found (Some first) (Some second) (Some third) = first ∷ second ∷ third ∷ []

-- the command that a verb is with what the parser found of its words
abbrev pub given_command : Text → Found → Option Command
given_command verb found =
    verb_command verb (words_found (first_value found (codes "first")) (first_value found (codes "second")) (first_value found (codes "third")))

-- the command that a verb is with what was found of its words
abbrev pub found_command : Option (Text × List Row) → Option Command
found_command None = None
found_command (Some p) =
    verb_command p.0 (words_found (first_of (codes "first") p.1) (first_of (codes "second") p.1) (first_of (codes "third") p.1))

-- the first word asks for help
abbrev pub asks_help : List Text → Bool
asks_help [] = false
asks_help (verb ∷ words) = bytes_eq verb (codes "help")

-- a word is empty or begins with a dash
abbrev pub has_flags : List Text → Bool
has_flags words = list_any (λ word. not (is_file_name word)) words

-- the parser may read the words: none is empty or begins with a dash, and the first doesn't ask for help
abbrev pub are_plain : List Text → Bool
are_plain words = not (has_flags words) && not (asks_help words)
