-- The files of a command: each has a kind, with its limit and its word in messages, and a name on the shelf.
-- A shelf holds files by their names, and its log tells what was fetched.
use Rattle.std.specs.Prelude.{◌≡◌, ℕ, ◌≤◌, ◌<◌, true, false, List, ◌++◌, length, map, codes, Option, Some, None, IfSome}
use Rattle.seq_tree.specs.Limits.{text_limit, ada_limit}
use Rattle.seq_tree.specs.Lists.{Each}
use Rattle.hood_io.specs.Shelves.{Told, Entry}
use Rattle.hrthood_top.specs.declared.file_kind.FileKind.{FileKind}
use Rattle.hrthood_top.specs.declared.file_kind.FileKind.TheVariants.{Design, Ada, Arrivals, Trace}

-- a file that a command names
pub record File : Type 0 where
  pub kind : FileKind
  pub name : List ℕ

-- the most bytes that a file of a kind may have
abbrev pub limit_of : FileKind → ℕ
limit_of Design = text_limit
limit_of Ada = ada_limit
limit_of Arrivals = text_limit
limit_of Trace = ada_limit

-- what a file of a kind is called in a message
abbrev pub kind_text : FileKind → List ℕ
kind_text Design = codes "design"
kind_text Ada = codes "ada"
kind_text Arrivals = codes "arrivals"
kind_text Trace = codes "trace"

-- bytes, for each kind of files
abbrev pub Texts : Type 0
Texts = FileKind → List ℕ

-- a file is there, within its limit
abbrev pub Holds : Told → File → List ℕ → Type 0
Holds t file text = (t.files file.name ≡ Some text) × (length text ≤ limit_of file.kind)

-- a file is there, over its limit
abbrev pub IsTooLong : Told → File → Type 0
IsTooLong t file = (text : List ℕ) × (t.files file.name ≡ Some text) × (limit_of file.kind < length text)

-- files are there, within their limits, each with the bytes of its kind
abbrev pub HoldsAll : Told → List File → Texts → Type 0
HoldsAll t files texts = Each (λ file. Holds t file (texts file.kind)) files

-- where a shelf tells its files, these are there, within their limits
abbrev pub AreHeld : Option Told → List File → Type 0
AreHeld told files = IfSome told (λ t. (texts : Texts) × HoldsAll t files texts)

-- files that were fetched, in order
abbrev pub fetched : List File → List Entry
fetched files = map (λ file. record { name = file.name; failed = false }) files

-- a fetch that failed
abbrev pub failed : List ℕ → Entry
failed name = record { name = name; failed = true }

-- the same files, and a log that grew, where they are told
abbrev pub grown : Option Told → List Entry → Option Told
grown None entries = None
grown (Some t) entries = Some (record t { log = t.log ++ entries })
