-- Examples: which command words are.
use Rattle.std.specs.Prelude.{◌≡◌, ℕ, List, [], ◌∷◌, map, Option, Some, None, codes, refl}
use Rattle.hrthood_words.specs.declared.verbs.DesignVerb.TheVariants.{Check, Analyse, Format, Generate, Search, Scale}
use Rattle.hrthood_words.specs.Words.{Command, OnDesign, Replay, Verify, Sample, command_of}

-- THE WORDS
abbrev words : List (List ℕ) → Option Command
words ws = command_of ws

commands : map words ((codes "check" ∷ codes "d" ∷ []) ∷ (codes "analyse" ∷ codes "d" ∷ []) ∷ (codes "format" ∷ codes "d" ∷ [])
    ∷ (codes "generate" ∷ codes "d" ∷ []) ∷ (codes "replay" ∷ codes "a" ∷ codes "r" ∷ []) ∷ (codes "verify" ∷ codes "d" ∷ codes "r" ∷ []) ∷ [])
    ≡ Some (OnDesign Check (codes "d")) ∷ Some (OnDesign Analyse (codes "d")) ∷ Some (OnDesign Format (codes "d"))
    ∷ Some (OnDesign Generate (codes "d")) ∷ Some (Replay (codes "a") (codes "r")) ∷ Some (Verify (codes "d") (codes "r")) ∷ []
commands = refl

search_command : words (codes "search" ∷ codes "d" ∷ []) ≡ Some (OnDesign Search (codes "d"))
search_command = refl

scale_command : words (codes "scale" ∷ codes "d" ∷ []) ≡ Some (OnDesign Scale (codes "d"))
scale_command = refl

-- from 1 to 30 threads, by one digit or two
samples_of : map (λ count. words (codes "sample" ∷ count ∷ [])) (codes "1" ∷ codes "01" ∷ codes "30" ∷ codes "0" ∷ codes "31" ∷ codes "007"
    ∷ codes "-1"
    ∷ codes "x" ∷ [] ∷ []) ≡ Some (Sample 1) ∷ Some (Sample 1) ∷ Some (Sample 30) ∷ None ∷ None ∷ None ∷ None ∷ None ∷ None ∷ []
samples_of = refl

-- too few words or too many, a word that names no file, a verb with another's number of words, and no verb at all
no_commands : map words ([] ∷ (codes "check" ∷ []) ∷ (codes "check" ∷ codes "a" ∷ codes "b" ∷ []) ∷ (codes "check" ∷ [] ∷ [])
    ∷ (codes "check" ∷ codes "-d" ∷ [])
    ∷ (codes "verify" ∷ codes "a" ∷ []) ∷ (codes "verify" ∷ codes "a" ∷ codes "-r" ∷ []) ∷ (codes "replay" ∷ codes "-a" ∷ codes "r" ∷ [])
    ∷ (codes "verify" ∷ codes "a" ∷ codes "b" ∷ codes "c" ∷ []) ∷ (codes "help" ∷ codes "check" ∷ []) ∷ (codes "Check" ∷ codes "d" ∷ []) ∷ [])
    ≡ None ∷ None ∷ None ∷ None ∷ None ∷ None ∷ None ∷ None ∷ None ∷ None ∷ None ∷ []
no_commands = refl
