-- What the reader of a design answers, by cases. A place is the line and the column of a token, or of the end of the text.
-- A text that is too long is told first, then lexical faults, then those of syntax and of depth, whichever stands earlier.
use Rattle.std.specs.Prelude.{◌≡◌, ℕ, List, [], ◌∷◌, ◌++◌, codes, Result, Ok, Err, ◌⊎◌, ⊤}
use Rattle.seq_tree.specs.Limits.{text_limit}
use Rattle.seq_tree.specs.Reach.{Fault, Begins}
use Rattle.seq_tree.specs.Proper.{within_limits, without_limits}
use Rattle.seq_tree.specs.declared.token.Token.{Token}
use Rattle.seq_tree.specs.declared.token.Token.TheVariants.{Word}
use Rattle.seq_tree.specs.declared.token.Place.{Place}
use Rattle.seq_tree.specs.declared.text_fault.TextFault.{TextFault}
use Rattle.seq_tree.specs.declared.text_fault.TextFault.TheVariants as fault
use Rattle.ods_tree.specs.Designs.{Design}
use Rattle.ods_tree.specs.Trees.{design_of}
use Rattle.ods_tree.specs.Words.{is_design_name}
use Rattle.ods_tree.specs.Proper.{IsProperDesign}
use Rattle.ods_tree.specs.Spelling.{design_tokens}
use Rattle.ods_tree.specs.Reading.{Reads}
use Rattle.ods_tree.specs.declared.design.Design as designs
use Rattle.token_read.specs.declared.fault.LexFault.{LexFault}
use Rattle.token_read.specs.declared.fault.LexFault.TheVariants as lex
use Rattle.seq_read.specs.TextFaults as texts

-- the fault of a reader of tokens, as a fault of a text
abbrev pub fault_of : LexFault → TextFault
fault_of (lex.Byte place) = fault.Byte place
fault_of (lex.Number place) = fault.Number place
fault_of (lex.Long place) = fault.Long place
fault_of lex.NoMemory = fault.NoMemory

-- the tokens of some design within the limits
abbrev pub SomeDesign : List Token → Type 0
SomeDesign text = (x : Design) × IsProperDesign (within_limits is_design_name) x × (text ≡ design_tokens x)

-- the tokens of some design, whatever its nesting and its chains
abbrev pub AnyDesign : List Token → Type 0
AnyDesign text = (x : Design) × IsProperDesign (without_limits is_design_name) x × (text ≡ design_tokens x)

-- Tokens that keep the limits: those of a design within them; also those up to the word of a section of objects, with which some
-- design goes on. The word opens nothing by itself: the first object behind it does.
abbrev pub Keeps : List Token → Type 0
Keeps text =
    SomeDesign text
    ⊎ ((front : List Token) × (text ≡ front ++ Word (codes "objects") ∷ []) × Begins SomeDesign front × Begins AnyDesign text)

-- a text that is short enough, and whose tokens have this fault at this place
abbrev pub IsFaultyAt : List ℕ → Place → (ℕ → Fault) → Type 0
IsFaultyAt bytes place kind = texts.IsFaultyAt AnyDesign Keeps text_limit bytes place kind

-- what a fault says
abbrev pub Faults : List ℕ → TextFault → Type 0
Faults bytes fault = texts.Faults AnyDesign Keeps text_limit bytes fault

-- what an answer says; want of memory says nothing
abbrev pub Says : List ℕ → Result designs.Design TextFault → Type 0
Says bytes (Ok x) = Reads bytes (design_of x)
Says bytes (Err fault.NoMemory) = ⊤
Says bytes (Err fault) = Faults bytes fault
