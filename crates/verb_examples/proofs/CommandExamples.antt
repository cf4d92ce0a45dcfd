-- Examples: which verb a command asks for, and how words end that are no command.
use Rattle.std.specs.Prelude.{◌≡◌, true, ℕ, List, [], ◌∷◌, ◌++◌, length, map, Option, Some, None, codes, refl}
use Rattle.std.proofs.Common.{arith, lit≤, ap, inl, inr}
use Rattle.std.specs.Prelude.{unwrap_or}
use Rattle.hood_io.specs.Shelves.{Told}
use Rattle.hrthood_top.specs.declared.status.Status.{Status}
use Rattle.hrthood_top.specs.declared.status.Status.TheVariants.{Done, Refused, Usage, ReadFault, WriteFault, NoMemory}
use Rattle.hrthood_words.specs.declared.verbs.DesignVerb.TheVariants.{Check, Analyse, Format, Generate, Search, Scale, Background, Arrange}
use Rattle.hrthood_words.specs.Words.{Command, OnDesign, Replay, Verify, Accepts, Sample}
use Rattle.hrthood_top.specs.Commands.{verb_of}
use Rattle.hrthood_top.specs.Acceptances.{acceptances}
use Rattle.hrthood_top.specs.Analyses.{analyses}
use Rattle.hrthood_top.specs.Arrangements.{arranges}
use Rattle.hrthood_top.specs.Backgrounds.{backgrounds}
use Rattle.hrthood_top.specs.Checks.{checks}
use Rattle.hrthood_top.specs.Formats.{formats}
use Rattle.hrthood_top.specs.Generates.{generates}
use Rattle.hrthood_top.specs.Replays.{replays}
use Rattle.hrthood_top.specs.Samples.{samples}
use Rattle.hrthood_top.specs.Searches.{searches}
use Rattle.hrthood_top.specs.Scales.{scales}
use Rattle.hrthood_top.specs.Verifies.{verifies}
use Rattle.hrthood_top.specs.Exits.{exit_status}
use Rattle.hrthood_top.specs.Ends.{Outside, Ends, EndsVerb, Completes, CompletesVerb}

-- THE VERBS
check_verb : (d : List ℕ) → verb_of (OnDesign Check d) ≡ checks d
check_verb d = refl

analyse_verb : (d : List ℕ) → verb_of (OnDesign Analyse d) ≡ analyses d
analyse_verb d = refl

format_verb : (d : List ℕ) → verb_of (OnDesign Format d) ≡ formats d
format_verb d = refl

generate_verb : (d : List ℕ) → verb_of (OnDesign Generate d) ≡ generates d
generate_verb d = refl

search_verb : (d : List ℕ) → verb_of (OnDesign Search d) ≡ searches d
search_verb d = refl

arrange_verb : (d : List ℕ) → verb_of (OnDesign Arrange d) ≡ arranges d
arrange_verb d = refl

scale_verb : (d : List ℕ) → verb_of (OnDesign Scale d) ≡ scales d
scale_verb d = refl

background_verb : (d : List ℕ) → verb_of (OnDesign Background d) ≡ backgrounds d
background_verb d = refl

replay_verb : (a r : List ℕ) → verb_of (Replay a r) ≡ replays a r
replay_verb a r = refl

verify_verb : (d r : List ℕ) → verb_of (Verify d r) ≡ verifies d r
verify_verb d r = refl

accepts_verb : (d r t : List ℕ) → verb_of (Accepts d r t) ≡ acceptances d r t
accepts_verb d r t = refl

sample_verb : (n : ℕ) → verb_of (Sample n) ≡ samples n
sample_verb n = refl

-- THE EXIT STATUS
exits : map exit_status (Done ∷ Refused ∷ Usage ∷ ReadFault ∷ WriteFault ∷ NoMemory ∷ []) ≡ 0 ∷ 1 ∷ 2 ∷ 3 ∷ 4 ∷ 5 ∷ []
exits = refl

-- HOW WORDS END: a command as its verb ends
as_its_verb : (status : Status) (c : Command) (x y : Outside) → Ends status (Some c) x y ≡ EndsVerb status (verb_of c) x y
as_its_verb status c x y = refl

completes_as_its_verb : (status : Status) (c : Command) (x y : Outside) → Completes status (Some c) x y ≡ CompletesVerb status (verb_of c) x y
completes_as_its_verb status c x y = refl

-- and words that are none with the line of usage
abbrev start : Outside
start = record {
  told = Some (record { files = λ name. None; log = [] });
  read_faults = 0;
  out = Some (codes "o");
  write_faults = 0;
  err = Some [];
  tell_faults = 0;
}

abbrev usage_line : List ℕ
usage_line =
    codes "usage: hrthood check D | analyse D | format D | generate D | replay A R | verify D R | sample N | background D | accepts D R T"
    ++ codes " | search D | scale D | explain D | arrange D\n"

usage : Ends Usage None start (record start { err = Some usage_line })
usage = (refl, refl, inl refl)

-- or, where its faults rose, a front of it
usage_in_part : Ends Usage None start (record start { err = Some (codes "u"); tell_faults = 1 })
usage_in_part = (refl, refl, inr (1, lit≤ tt, refl, lit≤ tt))

abbrev byte_count : Option (List ℕ) → ℕ
byte_count written = length (unwrap_or written [])

abbrev fetch_count : Option Told → ℕ
fetch_count None = 0
fetch_count (Some t) = length t.log

-- a file was fetched
usage_fetched : Ends Usage None start (record start {
  told = Some (record { files = λ name. None; log = record { name = codes "d"; failed = true } ∷ [] });
  err = Some usage_line;
}) → ⊥
usage_fetched h = omega (arith, ap fetch_count h.0)

-- something was written
usage_written : Ends Usage None start (record start { out = Some (codes "oa"); err = Some usage_line }) → ⊥
usage_written h = omega (arith, ap byte_count h.1)

-- it isn't told
usage_untold : Ends Usage None start start → ⊥
usage_untold (told, out, inl e) = omega (arith, ap byte_count e)
usage_untold (told, out, inr (n, less, appends, rose)) = omega (arith, rose)

-- no other status
not_done : Ends Done None start start → ⊥
not_done h = h

not_refused : Ends Refused None start start → ⊥
not_refused h = h

no_read_fault : Ends ReadFault None start start → ⊥
no_read_fault h = h

no_write_fault : Ends WriteFault None start start → ⊥
no_write_fault h = h

wanted_memory : Ends NoMemory None start start → ⊥
wanted_memory h = h

nothing_to_complete : Completes Usage None start start
nothing_to_complete = tt
