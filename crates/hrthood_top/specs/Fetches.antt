-- What fetches of files say of the shelf.
-- Where the shelf tells its files, what is read is the file; each fetch is in its log, but where memory was wanted.
use Rattle.std.specs.Prelude.{◌≡◌, ℕ, List, [], ◌∷◌, ◌++◌, take, Option, Result, Ok, Err, IfSome, ⊤}
use Rattle.seq_tree.specs.Lists.{Each}
use Rattle.hood_io.specs.Causes.{Rose}
use Rattle.hood_io.specs.Shelves.{Told}
use Rattle.hrthood_top.specs.declared.file_kind.FileKind.{FileKind}
use Rattle.hrthood_top.specs.declared.file_kind.FileKind.TheVariants.{Design, Ada, Arrivals, Trace}
use Rattle.hrthood_top.specs.declared.fetch.Stop.{Stop}
use Rattle.hrthood_top.specs.declared.fetch.Stop.TheVariants.{TooLong, ReadFault, NoMemory}
use Rattle.hrthood_top.specs.declared.fetch.File as code
use Rattle.hrthood_top.specs.declared.texts.Texts as values
use Rattle.hrthood_top.specs.Files.{File, Texts, Holds, HoldsAll, AreHeld, IsTooLong, fetched, failed, grown}

-- the file that a value of the code stands for
abbrev pub file_tree : code.File → File
file_tree file = record { kind = file.kind; name = file.name.now }

-- the bytes that were read, for each kind
abbrev pub texts_of : values.Texts → Texts
texts_of texts Design = texts.design.items
texts_of texts Ada = texts.ada.items
texts_of texts Arrivals = texts.arrivals.items
texts_of texts Trace = texts.trace.items

-- no two files are of one kind
abbrev pub AreApart : List File → Type 0
AreApart [] = ⊤
AreApart (file ∷ files) = Each (λ other. other.kind ≡ file.kind → ⊥) files × AreApart files

-- the text of a file within its limit, or why there is none, and what the shelf tells afterwards
abbrev pub Fetches : {X : Type 0} → (X → List ℕ) → Result X Stop → File → Option Told → Option Told → ℕ → ℕ → Type 0
Fetches view (Ok x) file told told' faults faults' = IfSome told (λ t. Holds t file (view x)) × (told' ≡ grown told (fetched (file ∷ [])))
Fetches view (Err (TooLong kind)) file told told' faults faults' =
    (kind ≡ file.kind) × IfSome told (λ t. IsTooLong t file) × (told' ≡ grown told (fetched (file ∷ [])))
Fetches view (Err (ReadFault name)) file told told' faults faults' =
    (name.now ≡ file.name) × Rose faults faults' × (told' ≡ grown told (failed file.name ∷ []))
Fetches view (Err NoMemory) file told told' faults faults' = told' ≡ grown told []

-- a file of these could not be had, after those before it were fetched, each within its limit
pub record IsFaulty (files : List File) (name : List ℕ) (told told' : Option Told) : Type 0 where
  pub front : List File
  pub file : File
  pub back : List File
  pub place : files ≡ front ++ file ∷ back
  pub called : name ≡ file.name
  pub held : AreHeld told front
  pub log : told' ≡ grown told (fetched front ++ failed file.name ∷ [])

-- a file of these is too long, and those before it were fetched
pub record IsOver (files : List File) (kind : FileKind) (told told' : Option Told) : Type 0 where
  pub front : List File
  pub file : File
  pub back : List File
  pub place : files ≡ front ++ file ∷ back
  pub of : kind ≡ file.kind
  pub held : IfSome told (λ t. (texts : Texts) × HoldsAll t front texts × IsTooLong t file)
  pub log : told' ≡ grown told (fetched (front ++ file ∷ []))

-- the texts of files, or why there are none, and what the shelf tells afterwards
abbrev pub FetchesAll : {X : Type 0} → (X → Texts) → Result X Stop → List File → Option Told → Option Told → ℕ → ℕ → Type 0
FetchesAll view (Ok x) files told told' faults faults' = IfSome told (λ t. HoldsAll t files (view x)) × (told' ≡ grown told (fetched files))
FetchesAll view (Err (TooLong kind)) files told told' faults faults' = IsOver files kind told told'
FetchesAll view (Err (ReadFault name)) files told told' faults faults' = IsFaulty files name.now told told' × Rose faults faults'
FetchesAll view (Err NoMemory) files told told' faults faults' = (n : ℕ) × AreHeld told (take n files) × (told' ≡ grown told (fetched (take n files)))
