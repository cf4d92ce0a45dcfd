-- How a run ends: each status with its cause, with what was written and fetched, and with what stayed as it was.
-- The statuses and their order are this project's own. It is said over what a verb is, and names none.
use Rattle.std.specs.Prelude.{◌≡◌, ℕ, ◌<◌, List, [], ◌∷◌, ◌++◌, length, take, Option, Some, None, IfSome, ◌⊎◌, ⊤}
use Rattle.hood_io.specs.Causes.{Rose}
use Rattle.hood_io.specs.Shelves.{Told}
use Rattle.hood_io.specs.Sinks.{Appends}
use Rattle.hrthood_top.specs.declared.status.Status.{Status}
use Rattle.hrthood_top.specs.declared.status.Status.TheVariants.{Done, Refused, Usage, ReadFault, WriteFault, NoMemory}
use Rattle.hrthood_top.specs.declared.message.Message.TheVariants as message
use Rattle.hrthood_words.specs.Words.{Command}
use Rattle.hrthood_top.specs.Verbs.{Verb}
use Rattle.hrthood_top.specs.Commands.{verb_of}
use Rattle.hrthood_top.specs.Messages.{message_line, too_long_line, fault_line}
use Rattle.hrthood_top.specs.Tells.{Tells}
use Rattle.hrthood_top.specs.Files.{File, Texts, HoldsAll, AreHeld, IsTooLong, fetched, failed, grown}

-- what stands outside: what the shelf tells and the count of its faults, and for standard output and standard error
-- what was written and the count of faults
pub record Outside : Type 0 where
  pub told : Option Told
  pub read_faults : ℕ
  pub out : Option (List ℕ)
  pub write_faults : ℕ
  pub err : Option (List ℕ)
  pub tell_faults : ℕ

-- the same, by its parts
abbrev pub outside : Option Told → ℕ → Option (List ℕ) → ℕ → Option (List ℕ) → ℕ → Outside
outside told read_faults out write_faults err tell_faults =
    record { told = told; read_faults = read_faults; out = out; write_faults = write_faults; err = err; tell_faults = tell_faults }

-- standard error got the line of a message
abbrev pub TellsMessage : Outside → Outside → List ℕ → Type 0
TellsMessage x y line = Tells x.err y.err x.tell_faults y.tell_faults line

-- what a verb writes, with the files that a shelf holds
abbrev pub Writes : Told → Verb → List ℕ → Type 0
Writes t v text = (texts : Texts) × HoldsAll t v.files texts × v.Makes texts text

-- what a verb writes before it stops there
abbrev pub WritesUpTo : Told → (v : Verb) → v.Stop → List ℕ → Type 0
WritesUpTo t v stop text = (texts : Texts) × HoldsAll t v.files texts × v.Stops texts text stop

-- what a verb writes, up to its stop where it stops
abbrev pub WritesAtMost : Told → Verb → List ℕ → Type 0
WritesAtMost t v text = Writes t v text ⊎ ((stop : v.Stop) × WritesUpTo t v stop text)

-- why a command is refused: a file of it is too long, behind others that are not, or its verb refuses what they hold, or stops behind what
-- it has written
pub data Cause (v : Verb) : Type 0 where
  TooLong : (front : List File) (file : File) → Cause v
  Refusal : (refusal : v.Refusal) → Cause v
  Stopped : (stop : v.Stop) → Cause v

-- such a cause stands, with the files that a shelf holds
abbrev pub Refuses : Told → (v : Verb) → Cause v → Type 0
Refuses t v (TooLong front file) =
    (back : List File) × (v.files ≡ front ++ file ∷ back) × (texts : Texts) × HoldsAll t front texts × IsTooLong t file
Refuses t v (Refusal refusal) = (texts : Texts) × HoldsAll t v.files texts × v.Refuses texts refusal
Refuses t v (Stopped stop) = (text : List ℕ) × WritesUpTo t v stop text

-- what is written before a refusal: what a verb writes before it stops, else nothing
abbrev pub WritesBefore : Option Told → (v : Verb) → Cause v → Option (List ℕ) → Option (List ℕ) → Type 0
WritesBefore told v (TooLong front file) out out' = out' ≡ out
WritesBefore told v (Refusal refusal) out out' = out' ≡ out
WritesBefore told v (Stopped stop) out out' = (text : List ℕ) × Appends out out' text × IfSome told (λ t. WritesUpTo t v stop text)

-- the files that are fetched before a refusal: those up to the one that is too long, else all
abbrev pub fetched_before : (v : Verb) → Cause v → List File
fetched_before v (TooLong front file) = front ++ file ∷ []
fetched_before v (Refusal refusal) = v.files
fetched_before v (Stopped stop) = v.files

-- the line that tells a cause
abbrev pub cause_line : (v : Verb) → Cause v → List ℕ
cause_line v (TooLong front file) = too_long_line file.kind
cause_line v (Refusal refusal) = v.line refusal
cause_line v (Stopped stop) = v.stop_line stop

-- how a command ends, from what stood outside before to what stands there after
abbrev pub EndsVerb : Status → Verb → Outside → Outside → Type 0
EndsVerb Done v x y =
    (text : List ℕ) × Appends x.out y.out text × IfSome x.told (λ t. Writes t v text)
    × (y.told ≡ grown x.told (fetched v.files)) × (y.err ≡ x.err)
EndsVerb WriteFault v x y =
    (text : List ℕ) × (n : ℕ) × (n < length text) × Appends x.out y.out (take n text) × IfSome x.told (λ t. WritesAtMost t v text)
    × Rose x.write_faults y.write_faults × (y.told ≡ grown x.told (fetched v.files)) × TellsMessage x y (message_line message.WriteFault)
EndsVerb Refused v x y =
    (cause : Cause v) × IfSome x.told (λ t. Refuses t v cause) × (y.told ≡ grown x.told (fetched (fetched_before v cause)))
    × WritesBefore x.told v cause x.out y.out × TellsMessage x y (cause_line v cause)
EndsVerb ReadFault v x y =
    (front : List File) × (file : File) × (back : List File) × (v.files ≡ front ++ file ∷ back) × AreHeld x.told front
    × (y.told ≡ grown x.told (fetched front ++ failed file.name ∷ [])) × Rose x.read_faults y.read_faults
    × (y.out ≡ x.out) × TellsMessage x y (fault_line file.name)
EndsVerb NoMemory v x y =
    (n : ℕ) × AreHeld x.told (take n v.files) × (y.told ≡ grown x.told (fetched (take n v.files)))
    × (y.out ≡ x.out) × TellsMessage x y (message_line message.NoMemory)
EndsVerb Usage v x y = ⊥

-- how a run ends, with the command that its words are, where they are one
abbrev pub Ends : Status → Option Command → Outside → Outside → Type 0
Ends status (Some c) x y = EndsVerb status (verb_of c) x y
Ends Usage None x y = (y.told ≡ x.told) × (y.out ≡ x.out) × TellsMessage x y (message_line message.Usage)
Ends _ None x y = ⊥

-- a command whose files can be read, and have what it asks for
abbrev pub CanDo : Told → Verb → Type 0
CanDo t v = (texts : Texts) × HoldsAll t v.files texts × v.CanDo texts

-- a command is done, or wants memory, where it can be done and no count of faults rose
abbrev pub CompletesVerb : Status → Verb → Outside → Outside → Type 0
CompletesVerb status v x y =
    IfSome x.told (λ t. CanDo t v → ¬ Rose x.read_faults y.read_faults → ¬ Rose x.write_faults y.write_faults →
    (status ≡ Done) ⊎ (status ≡ NoMemory))

-- the same, for the command that the words are, where they are one
abbrev pub Completes : Status → Option Command → Outside → Outside → Type 0
Completes status (Some c) x y = CompletesVerb status (verb_of c) x y
Completes status None x y = ⊤
