-- What is written of what a verb made, and what is told where it made nothing or a file could not be had.
-- A status that comes from neither is none of these.
use Rattle.std.specs.Prelude.{◌≡◌, ℕ, ◌<◌, List, length, take, Option, Result, Ok, Err, ◌⊎◌, ⊤}
use Rattle.hood_io.specs.Causes.{Rose}
use Rattle.hood_io.specs.Sinks.{Appends}
use Rattle.hrthood_words.specs.declared.reading.Unread.{Unread}
use Rattle.hrthood_words.specs.declared.reading.Unread.TheVariants as unread
use Rattle.hrthood_top.specs.declared.status.Status.{Status}
use Rattle.hrthood_top.specs.declared.status.Status.TheVariants as status
use Rattle.bridge.specs.declared.halt.Halt.{Halt}
use Rattle.bridge.specs.declared.halt.Halt.TheVariants as halt
use Rattle.hrthood_top.specs.declared.fetch.Stop.{Stop}
use Rattle.hrthood_top.specs.declared.fetch.Stop.TheVariants.{TooLong, ReadFault, NoMemory}
use Rattle.hrthood_top.specs.declared.message.Message.TheVariants as message
use Rattle.hrthood_top.specs.Messages.{message_line, too_long_line, fault_line}
use Rattle.hrthood_top.specs.Tells.{Tells}
use Rattle.hrthood_top.specs.Files.{Texts}
use Rattle.hrthood_top.specs.Verbs.{Verb}
use Rattle.hrthood_top.specs.declared.violation.Ending.{Ending}
use Rattle.hrthood_top.specs.declared.violation.Ending.TheVariants.{Horizon, Stopped}
use Rattle.hrthood_top.specs.Violations.{violation_line}
use Rattle.hrthood_top.specs.Streaming.{violation_of}

-- what a verb made of bytes, or why it made nothing; want of memory says nothing
abbrev pub IsMade : {X R : Type 0} → (X → List ℕ) → (List ℕ → Type 0) → (R → Type 0) → Result X (Halt R) → Type 0
IsMade view Makes Refuses (Ok x) = Makes (view x)
IsMade view Makes Refuses (Err (halt.Refused refusal)) = Refuses refusal
IsMade view Makes Refuses (Err halt.NoMemory) = ⊤

-- a text is written, or where the faults rose a proper front of it
abbrev pub WritesText : Status → List ℕ → Option (List ℕ) → Option (List ℕ) → ℕ → ℕ → Option (List ℕ) → Option (List ℕ) → ℕ → ℕ → Type 0
WritesText status.Done text out out' faults faults' err err' told told' = Appends out out' text × (err' ≡ err)
WritesText status.WriteFault text out out' faults faults' err err' told told' =
    (n : ℕ) × (n < length text) × Appends out out' (take n text) × Rose faults faults' × Tells err err' told told' (message_line message.WriteFault)
WritesText _ text out out' faults faults' err err' told told' = ⊥

-- want of memory is told
abbrev pub TellsMemory : Status → Option (List ℕ) → Option (List ℕ) → ℕ → ℕ → Type 0
TellsMemory ended err err' told told' = (ended ≡ status.NoMemory) × Tells err err' told told' (message_line message.NoMemory)

-- why no command is read is told
abbrev pub TellsUnread : Unread → Status → Option (List ℕ) → Option (List ℕ) → ℕ → ℕ → Type 0
TellsUnread unread.NoCommand ended err err' told told' = (ended ≡ status.Usage) × Tells err err' told told' (message_line message.Usage)
TellsUnread unread.NoMemory ended err err' told told' = TellsMemory ended err err' told told'

-- why a verb makes nothing is told
abbrev pub TellsHalt : {R : Type 0} → (R → List ℕ) → Halt R → Status → Option (List ℕ) → Option (List ℕ) → ℕ → ℕ → Type 0
TellsHalt line (halt.Refused refusal) ended err err' told told' = (ended ≡ status.Refused) × Tells err err' told told' (line refusal)
TellsHalt line halt.NoMemory ended err err' told told' = TellsMemory ended err err' told told'

-- what was made is written, or why nothing was made is told
abbrev pub Finishes : {X E : Type 0} → (X → List ℕ) → (E → Status → Option (List ℕ) → Option (List ℕ) → ℕ → ℕ → Type 0) → Result X E → Status
    → Option (List ℕ) → Option (List ℕ) → ℕ → ℕ → Option (List ℕ) → Option (List ℕ) → ℕ → ℕ → Type 0
Finishes view TellsWhy (Ok x) ended out out' faults faults' err err' told told'
    = WritesText ended (view x) out out' faults faults' err err' told told'
Finishes view TellsWhy (Err why) ended out out' faults faults' err err' told told' = (out' ≡ out) × TellsWhy why ended err err' told told'

-- whether a text was written whole is told; the text is no matter
abbrev pub TellsWritten : {E : Type 0} → Result (Unit {0}) E → Status → Option (List ℕ) → Option (List ℕ) → ℕ → ℕ → Type 0
TellsWritten (Ok u) ended err err' told told' = (ended ≡ status.Done) × (err' ≡ err)
TellsWritten (Err e) ended err err' told told' = (ended ≡ status.WriteFault) × Tells err err' told told' (message_line message.WriteFault)

-- a verb makes nothing of texts for a reason, which is told
abbrev pub HaltsSo : Verb → Texts → Option (List ℕ) → Option (List ℕ) → Option (List ℕ) → Option (List ℕ) → ℕ → ℕ → Type 0
HaltsSo v texts out out' err err' told told' =
    (refusal : v.Refusal) × v.Refuses texts refusal × (out' ≡ out) × Tells err err' told told' (v.line refusal)

-- it stops behind what it has written, which is told
abbrev pub StopsSo : Verb → Texts → Option (List ℕ) → Option (List ℕ) → Option (List ℕ) → Option (List ℕ) → ℕ → ℕ → Type 0
StopsSo v texts out out' err err' told told' =
    (stop : v.Stop) × (text : List ℕ) × v.Stops texts text stop × Appends out out' text × Tells err err' told told' (v.stop_line stop)

-- a verb that writes as it goes: the text that it makes is written, or what it writes before it stops, or where the faults rose a proper front of
-- either; or why it makes nothing is told
abbrev pub Streams : Verb → Texts → Status → Option (List ℕ) → Option (List ℕ) → ℕ → ℕ → Option (List ℕ) → Option (List ℕ) → ℕ → ℕ → Type 0
Streams v texts status.Done out out' faults faults' err err' told told' = (text : List ℕ) × v.Makes texts text × Appends out out' text × (err' ≡ err)
Streams v texts status.Refused out out' faults faults' err err' told told' =
    HaltsSo v texts out out' err err' told told' ⊎ StopsSo v texts out out' err err' told told'
Streams v texts status.WriteFault out out' faults faults' err err' told told' =
    (text : List ℕ) × (v.Makes texts text ⊎ ((stop : v.Stop) × v.Stops texts text stop))
    × WritesText status.WriteFault text out out' faults faults' err err' told told'
Streams v texts status.NoMemory out out' faults faults' err err' told told' = (out' ≡ out) × Tells err err' told told' (message_line message.NoMemory)
Streams v texts _ out out' faults faults' err err' told told' = ⊥

-- how a run ended is told, where it did not come to the horizon
abbrev pub TellsEnding : {E : Type 0} → Result Ending E → Status → Option (List ℕ) → Option (List ℕ) → ℕ → ℕ → Type 0
TellsEnding (Ok Horizon) ended err err' told told' = (ended ≡ status.Done) × (err' ≡ err)
TellsEnding (Ok (Stopped v)) ended err err' told told' = (ended ≡ status.Refused) × Tells err err' told told' (violation_line (violation_of v))
TellsEnding (Err e) ended err err' told told' = (ended ≡ status.WriteFault) × Tells err err' told told' (message_line message.WriteFault)

-- why files could not be had is told
abbrev pub TellsStop : Status → Stop → Option (List ℕ) → Option (List ℕ) → ℕ → ℕ → Type 0
TellsStop ended (TooLong kind) err err' told told' = (ended ≡ status.Refused) × Tells err err' told told' (too_long_line kind)
TellsStop ended (ReadFault name) err err' told told' = (ended ≡ status.ReadFault) × Tells err err' told told' (fault_line name.now)
TellsStop ended NoMemory err err' told told' = (ended ≡ status.NoMemory) × Tells err err' told told' (message_line message.NoMemory)
