-- What a shelf in memory holds, and which of its fetches fail.
-- The file of a name is the first one that has the name.
use Rattle.std.specs.Prelude.{◌≡◌, ℕ, ◌<◌, ◌≤◌, ◌==◌, ◌||◌, Bool, true, false, List, [], ◌∷◌, length, Option, Some, None, is_none, map, if◌then◌else◌}
use Rattle.std.specs.List.{list_any}
use Rattle.std.specs.Str.{bytes_eq}
use Rattle.hood_io.specs.declared.mem_shelf.File.{File}
use Rattle.hood_io.specs.declared.mem_shelf.Fetch.{Fetch}
use Rattle.hood_io.specs.declared.mem_shelf.MemShelf.{MemShelf}
use Rattle.hood_io.specs.declared.shelf.Fetched.{Fetched}
use Rattle.hood_io.specs.declared.shelf.Fetched.TheVariants.{Done, TooLong, Failed, NoMemory}
use Rattle.hood_io.specs.Shelves.{Told, Entry}

abbrev pub file_of : List File → List ℕ → Option (List ℕ)
file_of [] name = None
file_of (f ∷ fs) name = if bytes_eq f.name.items name then Some f.bytes.items else file_of fs name

abbrev pub entry_of : Fetch → Entry
entry_of f = record { name = f.name.items; failed = f.failed }

abbrev pub files_of : MemShelf → List ℕ → Option (List ℕ)
files_of s = file_of s.files.items

abbrev pub log_of : MemShelf → List Entry
log_of s = map entry_of s.log.items

-- the places in the log, from 0, at which a fetch fails
abbrev pub fails_of : MemShelf → List ℕ
fails_of s = s.fails.items

abbrev pub faults_of : MemShelf → ℕ
faults_of s = s.faults

abbrev pub told_of : MemShelf → Option Told
told_of s = Some (record { files = files_of s; log = log_of s })

-- whether the next fetch fails: its place in the log is one of those, or the file is absent
abbrev pub fails_next : MemShelf → List ℕ → Bool
fails_next s name = list_any (λ place. place == length (log_of s)) (fails_of s) || is_none (files_of s name)

-- an answer but NoMemory is Failed exactly where the fetch was to fail
abbrev pub FailsAsPlanned : Fetched → Bool → Type 0
FailsAsPlanned Done fails = fails ≡ false
FailsAsPlanned TooLong fails = fails ≡ false
FailsAsPlanned Failed fails = fails ≡ true
FailsAsPlanned NoMemory fails = Unit {0}

-- a copy of the file, which is within the limit or over it; nothing where memory was refused
abbrev pub Copies : Fetched → List ℕ → ℕ → List ℕ → Type 0
Copies Done file limit into = (into ≡ file) × (length file ≤ limit)
Copies TooLong file limit into = (into ≡ file) × (limit < length file)
Copies Failed file limit into = ⊥
Copies NoMemory file limit into = into ≡ []
