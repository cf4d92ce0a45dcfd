-- The words of the command line, and the command that they are.
-- The commands are this project's own. One list has the verbs, each with what it asks for: the command that words are, what the parser
-- is told and the usage line are folded from it.
use Rattle.std.specs.Prelude.{ℕ, ◌+◌, ◌-◌, ◌*◌, Bool, false, not, nat_le, ◌&&◌, ◌==◌, List, [], ◌∷◌, ◌++◌, codes, find}
use Rattle.std.specs.Prelude.{Option, Some, None, option_map, option_and_then, if◌then◌else◌}
use Rattle.std.specs.Char.{is_ascii_digit}
use Rattle.std.specs.Str.{bytes_eq}
use Rattle.hrthood_words.specs.declared.verbs.DesignVerb.{DesignVerb}
use Rattle.hrthood_words.specs.declared.verbs.DesignVerb.TheVariants.{Check, Analyse, Format, Generate, Search, Scale, Background, Explain, Arrange}
use Rattle.hrthood_words.specs.declared.verbs.Shape.{Shape}
use Rattle.hrthood_words.specs.declared.verbs.Shape.TheVariants.{Design, AdaArrivals, DesignArrivals, DesignArrivalsTrace, Count}

-- THE VERBS

-- a verb as it is written, and what it asks for
abbrev pub Listed : Type 0
Listed = List ℕ × Shape

-- the verbs, in the order of the usage line
abbrev pub verbs : List Listed
verbs = (codes "check", Design Check)
    ∷ (codes "analyse", Design Analyse)
    ∷ (codes "format", Design Format)
    ∷ (codes "generate", Design Generate)
    ∷ (codes "replay", AdaArrivals)
    ∷ (codes "verify", DesignArrivals)
    ∷ (codes "sample", Count)
    ∷ (codes "background", Design Background)
    ∷ (codes "accepts", DesignArrivalsTrace)
    ∷ (codes "search", Design Search)
    ∷ (codes "scale", Design Scale)
    ∷ (codes "explain", Design Explain)
    ∷ (codes "arrange", Design Arrange)
    ∷ []

-- what the first of these verbs asks for that is written so, where there is one
abbrev pub shape_named : List Listed → List ℕ → Option Shape
shape_named listed verb = option_map (λ v. v.1) (find (λ v. bytes_eq v.0 verb) listed)

-- COMMANDS

-- what is to be done, with the names of files or a count of threads
pub data Command : Type 0 where
  -- what a verb does that asks for a design alone
  OnDesign : (verb : DesignVerb) → (design : List ℕ) → Command
  -- replay an Ada text under arrivals
  Replay : (ada arrivals : List ℕ) → Command
  -- make the Ada text of a design, and replay it under arrivals
  Verify : (design arrivals : List ℕ) → Command
  -- tell whether a trace is one of the design's machine under arrivals
  Accepts : (design arrivals trace : List ℕ) → Command
  -- make the sample of so many threads, verify it and sum up its run
  Sample : (threads : ℕ) → Command

-- a name of a file isn't empty and doesn't begin with a dash
abbrev pub is_file_name : List ℕ → Bool
is_file_name [] = false
is_file_name (c ∷ cs) = not (c == 45)

-- the name that the words are, where they are the name of one file
abbrev pub one_file : List (List ℕ) → Option (List ℕ)
one_file [] = None
one_file (name ∷ []) = if is_file_name name then Some name else None
one_file (name ∷ word ∷ words) = None

-- the names that the words are, where they are the names of two files
abbrev pub two_files : List (List ℕ) → Option (List ℕ × List ℕ)
two_files [] = None
two_files (first ∷ []) = None
two_files (first ∷ second ∷ []) = if is_file_name first && is_file_name second then Some (first, second) else None
two_files (first ∷ second ∷ word ∷ words) = None

-- the names that the words are, where they are the names of three files
abbrev pub three_files : List (List ℕ) → Option (List ℕ × (List ℕ × List ℕ))
three_files [] = None
three_files (first ∷ []) = None
three_files (first ∷ second ∷ []) = None
three_files (first ∷ second ∷ third ∷ []) =
    if is_file_name first && (is_file_name second && is_file_name third) then Some (first, (second, third)) else None
three_files (first ∷ second ∷ third ∷ word ∷ words) = None

-- so many threads, where a sample may have them
abbrev pub sample_size : ℕ → Option ℕ
sample_size n = if nat_le 1 n && nat_le n 30 then Some n else None

-- how many threads a word asks for: one or two decimal digits with a value from 1 to 30
abbrev pub thread_count : List ℕ → Option ℕ
thread_count [] = None
thread_count (d ∷ []) = if is_ascii_digit d then sample_size (d - 48) else None
thread_count (c ∷ d ∷ []) = if is_ascii_digit c && is_ascii_digit d then sample_size (10 * (c - 48) + (d - 48)) else None
thread_count (c ∷ d ∷ e ∷ more) = None

-- the count that the words are, where they are one word with a count of threads
abbrev pub one_count : List (List ℕ) → Option ℕ
one_count [] = None
one_count (count ∷ []) = thread_count count
one_count (count ∷ word ∷ words) = None

-- the command that a verb of this shape is with the words behind it, where it is one
abbrev pub command_with : Shape → List (List ℕ) → Option Command
command_with (Design verb) words = option_map (OnDesign verb) (one_file words)
command_with AdaArrivals words = option_map (λ names. Replay names.0 names.1) (two_files words)
command_with DesignArrivals words = option_map (λ names. Verify names.0 names.1) (two_files words)
command_with DesignArrivalsTrace words = option_map (λ names. Accepts names.0 names.1.0 names.1.1) (three_files words)
command_with Count words = option_map Sample (one_count words)

-- the command that a word is with the words behind it, where it is one
abbrev pub verb_command : List ℕ → List (List ℕ) → Option Command
verb_command verb words = option_and_then (λ shape. command_with shape words) (shape_named verbs verb)

-- the command that these words are
abbrev pub command_of : List (List ℕ) → Option Command
command_of [] = None
command_of (verb ∷ words) = verb_command verb words

-- THE USAGE LINE

-- the operands of a shape, a letter each, with a space before it
abbrev pub operands_text : Shape → List ℕ
operands_text (Design verb) = codes " D"
operands_text AdaArrivals = codes " A R"
operands_text DesignArrivals = codes " D R"
operands_text DesignArrivalsTrace = codes " D R T"
operands_text Count = codes " N"

-- verbs with their operands, the first behind this text and each other behind a bar
abbrev pub listed_text : List ℕ → List Listed → List ℕ
listed_text before [] = []
listed_text before (v ∷ vs) = before ++ (v.0 ++ (operands_text v.1 ++ listed_text (codes " | ") vs))

-- the usage line of these verbs
abbrev pub usage_of : List Listed → List ℕ
usage_of listed = listed_text (codes "usage: hrthood ") listed ++ codes "\n"

-- what is told of words that are no command
abbrev pub usage_line : List ℕ
usage_line = usage_of verbs
