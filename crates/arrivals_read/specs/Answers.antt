-- What the reader of arrivals answers, by cases. A place is the line and the column of a token, or of the end of the text.
-- A text that is too long is told first, then lexical faults, then those of syntax, then the horizon, then the items in their order.
use Rattle.std.specs.Prelude.{◌≡◌, ℕ, ◌<◌, ◌≤◌, List, length, slice_get, Some, Result, Ok, Err, ⊤}
use Rattle.seq_tree.specs.Limits.{text_limit}
use Rattle.seq_tree.specs.Names.{Name}
use Rattle.seq_tree.specs.Lexis.{tokens}
use Rattle.seq_tree.specs.declared.token.Token.{Token}
use Rattle.seq_tree.specs.declared.token.Spanned.{Spanned}
use Rattle.seq_tree.specs.declared.text_fault.TextFault.{TextFault}
use Rattle.seq_tree.specs.declared.text_fault.TextFault.TheVariants as fault
use Rattle.token_read.specs.Words.{bare}
use Rattle.token_read.specs.declared.fault.LexFault.{LexFault}
use Rattle.token_read.specs.declared.fault.LexFault.TheVariants as lex
use Rattle.seq_read.specs.TextFaults as texts
use Rattle.ada_tree.specs.Programs.{Program}
use Rattle.arrivals_tree.specs.Acceptance as acceptance
use Rattle.arrivals_tree.specs.Acceptance.{Falling, Unknown, Unfit, Early}
use Rattle.arrivals_tree.specs.Arrived.{Arrives, horizon_limit}
use Rattle.arrivals_tree.specs.Arriving.{arrivals_of}
use Rattle.arrivals_tree.specs.ArrivalTexts.{ArrivalText, arrival_tokens}
use Rattle.arrivals_tree.specs.FirstWrong.{first_wrong}
use Rattle.arrivals_tree.specs.declared.arrivals.Arrivals as values
use Rattle.arrivals_read.specs.declared.fault.ArrivalFault.{ArrivalFault}
use Rattle.arrivals_read.specs.declared.fault.ArrivalFault.TheVariants.{Text, Q1, Q2, Q3, Q4, Q5, NoMemory}

-- the fault of a reader of tokens, as a fault of arrivals
abbrev pub fault_of : LexFault → ArrivalFault
fault_of (lex.Byte place) = Text (fault.Byte place)
fault_of (lex.Number place) = Text (fault.Number place)
fault_of (lex.Long place) = Text (fault.Long place)
fault_of lex.NoMemory = NoMemory

-- the tokens of a text of arrivals, of any program
abbrev pub AnyArrivals : List Token → Type 0
AnyArrivals text = (t : ArrivalText) × (text ≡ arrival_tokens t)

-- what a fault of the text says; nothing in arrivals nests
abbrev pub Faults : List ℕ → TextFault → Type 0
Faults bytes found = texts.Faults AnyArrivals AnyArrivals text_limit bytes found

-- bytes that are few enough, their tokens with their places, and the text of arrivals that has these tokens
pub record IsText (bytes : List ℕ) (found : List Spanned) (t : ArrivalText) : Type 0 where
  pub within : length bytes ≤ text_limit
  pub read : tokens bytes ≡ Ok found
  pub spelled : bare found ≡ arrival_tokens t

-- a text of arrivals whose horizon is too far
pub record IsFar (bytes : List ℕ) (value : ℕ) : Type 0 where
  pub found : List Spanned
  pub tree : ArrivalText
  pub text : IsText bytes found tree
  pub until : value ≡ tree.until
  pub far : horizon_limit < value

-- a text of arrivals, whose first item with something wrong begins in this line, and has this name
pub record IsWrong (bytes : List ℕ) (p : Program) (fault : acceptance.ArrivalFault) (line : ℕ) (name : Name) : Type 0 where
  pub found : List Spanned
  pub tree : ArrivalText
  pub text : IsText bytes found tree
  pub near : tree.until ≤ horizon_limit
  pub before : ℕ
  pub wrong : first_wrong p tree ≡ Some (record { fault = fault; name = name; before = before })
  pub token : Spanned
  pub begins : slice_get found before ≡ Some token
  pub here : line ≡ token.place.line

-- what a fault says of a text and a program; want of memory is none
abbrev pub Refuses : List ℕ → Program → ArrivalFault → Type 0
Refuses bytes p (Text found) = Faults bytes found
Refuses bytes p (Q1 line) = (name : Name) × IsWrong bytes p Falling line name
Refuses bytes p (Q2 line name) = IsWrong bytes p Unknown line name
Refuses bytes p (Q3 line object) = IsWrong bytes p Early line object
Refuses bytes p (Q4 value limit) = IsFar bytes value × (limit ≡ horizon_limit)
Refuses bytes p (Q5 line) = (name : Name) × IsWrong bytes p Unfit line name
Refuses bytes p NoMemory = ⊥

-- what an answer says; want of memory says nothing
abbrev pub Says : List ℕ → Program → Result values.Arrivals ArrivalFault → Type 0
Says bytes p (Ok a) = Arrives horizon_limit bytes p (arrivals_of a)
Says bytes p (Err NoMemory) = ⊤
Says bytes p (Err found) = Refuses bytes p found
