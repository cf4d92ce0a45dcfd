-- What a page is answered: how a run of the words ends that the page gives, over the texts that it gives.
use Rattle.std.specs.Prelude.{◌≡◌, ℕ, List, [], ◌∷◌, ◌++◌, codes, take, length, min, Option, Some, None, if◌then◌else◌, ◌⊎◌}
use Rattle.std.specs.Str.{bytes_eq, IsUtf8}
use Rattle.hood_io.specs.Shelves.{Told}
use Rattle.hrthood_top.specs.declared.status.Status.{Status}
use Rattle.hrthood_top.specs.declared.status.Status.TheVariants.{NoMemory}
use Rattle.hrthood_top.specs.Exits.{exit_status}
use Rattle.hrthood_words.specs.Words.{Command, command_of}
use Rattle.hrthood_top.specs.Ends.{Ends, Completes, Outside, outside}
use Rattle.hrthood_top.specs.Samples.{EndsSample}

-- a word, unless it is empty
abbrev pub word_in : List ℕ → List (List ℕ)
word_in [] = []
word_in (c ∷ cs) = (c ∷ cs) ∷ []

-- the words that a page gives: up to four, and an empty one is none
abbrev pub given : List ℕ → List ℕ → List ℕ → List ℕ → List (List ℕ)
given first second third fourth = word_in first ++ (word_in second ++ (word_in third ++ word_in fourth))

-- the words of a run: those, or none where one of them isn't UTF-8
abbrev pub AreWords : List ℕ → List ℕ → List ℕ → List ℕ → List (List ℕ) → Type 0
AreWords first second third fourth words =
    (words ≡ given first second third fourth)
    ⊎ ((words ≡ []) × ¬ (IsUtf8 first × IsUtf8 second × IsUtf8 third × IsUtf8 fourth))

-- the texts of a page
pub record Texts : Type 0 where
  pub design : List ℕ
  pub program : List ℕ
  pub arrivals : List ℕ
  pub trace : List ℕ

-- the text of a name
abbrev pub text_of : Texts → List ℕ → Option (List ℕ)
text_of texts name =
    if bytes_eq (codes "trace") name then Some texts.trace
    else (if bytes_eq (codes "arrivals") name then Some texts.arrivals
    else (if bytes_eq (codes "program") name then Some texts.program
    else (if bytes_eq (codes "design") name then Some texts.design else None)))

-- a shelf that holds the texts by their names, and of which nothing was fetched
pub record Holds (texts : Texts) (told : Told) : Type 0 where
  pub files : (name : List ℕ) → told.files name ≡ text_of texts name
  pub log : told.log ≡ []

-- before a run nothing is written, and there was no fault
abbrev pub before : Told → Outside
before told = outside (Some told) 0 (Some []) 0 (Some []) 0

-- a run of a command over a shelf, which ended with this status and wrote these two texts
pub record Ran (status : Status) (command : Option Command) (told : Told) (out err : List ℕ) : Type 0 where
  pub after : Outside
  pub out_is : after.out ≡ Some out
  pub err_is : after.err ≡ Some err
  pub ends : Ends status command (before told) after
  pub completes : Completes status command (before told) after
  pub summed : EndsSample status command (Some []) (Some out)

-- as much of a text as there is room for, and how much that is
abbrev pub IsFront : List ℕ → List ℕ → ℕ → ℕ → Type 0
IsFront front text count room = (count ≡ min (length text) room) × (front ≡ take count text)

-- what a page is answered: such a run of its words over its texts
pub record Answers (status : Status) (first second third fourth : List ℕ) (texts : Texts) (out err : List ℕ) : Type 0 where
  pub words : List (List ℕ)
  pub told : Told
  pub are_words : AreWords first second third fourth words
  pub holds : Holds texts told
  pub ran : Ran status (command_of words) told out err

-- the answer of a page, in numbers and in the fronts of two texts, where such a run has ended
pub record Ended (code out_count err_count : ℕ) (first second third fourth : List ℕ) (texts : Texts)
    (out : List ℕ) (out_room : ℕ) (err : List ℕ) (err_room : ℕ) : Type 0 where
  pub status : Status
  pub text : List ℕ
  pub told : List ℕ
  pub answers : Answers status first second third fourth texts text told
  pub code_is : code ≡ exit_status status
  pub out_is : IsFront out text out_count out_room
  pub err_is : IsFront err told err_count err_room

-- the same, or nothing written, where memory is wanted before the run
abbrev pub IsAnswer : ℕ → ℕ → ℕ → List ℕ → List ℕ → List ℕ → List ℕ → Texts → List ℕ → ℕ → List ℕ → ℕ → Type 0
IsAnswer code out_count err_count first second third fourth texts out out_room err err_room =
    Ended code out_count err_count first second third fourth texts out out_room err err_room
    ⊎ ((code ≡ exit_status NoMemory) × (out_count ≡ 0) × (err_count ≡ 0))
