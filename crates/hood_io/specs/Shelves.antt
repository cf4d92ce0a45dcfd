-- What a shelf holds, by name, and what was fetched from it.
-- A shelf that tells nothing has None before and after, and no clause speaks of its files.
use Rattle.std.specs.Prelude.{◌≡◌, ℕ, ◌<◌, ◌≤◌, Bool, true, false, List, [], ◌∷◌, ◌++◌, length, take, Option, Some, None, Result, Ok, Err}
use Rattle.std.specs.Prelude.{IfSome, option_map}
use Rattle.std.specs.IoError.{error_kind}
use Rattle.std.specs.declared.io.Error.{Error}
use Rattle.std.specs.declared.io.ErrorKind.TheVariants.{OutOfMemory}
use Rattle.hood_io.specs.declared.shelf.Fetched.{Fetched}
use Rattle.hood_io.specs.declared.shelf.Fetched.TheVariants.{Done, TooLong, Failed, NoMemory}
use Rattle.hood_io.specs.Causes.{Rose, raised}

-- a fetch: the name, and whether it failed
pub record Entry : Type 0 where
  pub name : List ℕ
  pub failed : Bool

-- what a shelf tells: its files, and the fetches in order
pub record Told : Type 0 where
  pub files : List ℕ → Option (List ℕ)
  pub log : List Entry

-- what a shelf tells that tells nothing
abbrev pub untold : Option Told
untold = None

-- what a shelf tells that has one file, and by each name that one: the file that was opened, where it tells its bytes, and none where
-- opening it failed
abbrev pub opened : {S E : Type 0} → (S → Option (List ℕ)) → Result S E → Option Told
opened bytes (Ok file) = option_map (λ xs. record { files = λ name. Some xs; log = [] }) (bytes file)
opened bytes (Err e) = Some (record { files = λ name. None; log = [] })

-- what an answer adds to the log
abbrev pub entries_of : Fetched → List ℕ → List Entry
entries_of Done name = record { name = name; failed = false } ∷ []
entries_of TooLong name = record { name = name; failed = false } ∷ []
entries_of Failed name = record { name = name; failed = true } ∷ []
entries_of NoMemory name = []

-- what a shelf tells after a fetch: the same files, and a longer log
abbrev pub after_fetch : Option Told → Fetched → List ℕ → Option Told
after_fetch None answer name = None
after_fetch (Some t) answer name = Some (record t { log = t.log ++ entries_of answer name })

-- the bytes are the first ones of the file, and none where there is no file
abbrev pub IsFront : List ℕ → Option (List ℕ) → Type 0
IsFront bytes None = bytes ≡ []
IsFront bytes (Some file) = bytes ≡ take (length bytes) file

-- what an answer says of the file, of the bytes read, and of the count of faults
abbrev pub Says : Fetched → Option Told → List ℕ → ℕ → List ℕ → ℕ → ℕ → Type 0
Says Done told name limit into before now = (length into ≤ limit) × IfSome told (λ t. t.files name ≡ Some into)
Says TooLong told name limit into before now = (limit < length into)
    × IfSome told (λ t. (file : List ℕ) × (t.files name ≡ Some file) × (limit < length file))
Says Failed told name limit into before now = Rose before now
Says NoMemory told name limit into before now = Unit {0}

-- the count of faults after an answer: only a failure raises it, by one
abbrev pub counted : Fetched → ℕ → ℕ
counted Done count = count
counted TooLong count = count
counted Failed count = raised count
counted NoMemory count = count

-- how a fetch ends, by how reading ended and whether what was read is within the limit: want of memory is told of that error alone
abbrev pub Closes : Result (Unit {0}) Error → Bool → Fetched → Type 0
Closes (Ok read) within Done = within ≡ true
Closes (Ok read) within TooLong = within ≡ false
Closes (Err e) within Failed = error_kind e ≡ OutOfMemory → ⊥
Closes (Err e) within NoMemory = error_kind e ≡ OutOfMemory
Closes read within _ = ⊥
