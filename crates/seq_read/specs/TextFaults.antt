-- What is wrong with the bytes of a text: their length, a lexical fault, or the token with which no text goes on, each at its place.
-- The texts are given by the tokens of those without limits of nesting and chains, and of those within them.
use Rattle.std.specs.Prelude.{◌≡◌, ℕ, ◌-◌, ◌<◌, ◌≤◌, List, length, Ok, Err}
use Rattle.seq_tree.specs.Lexis.{tokens, Misread, Stray, Great}
use Rattle.seq_tree.specs.Lexis as lexis
use Rattle.seq_tree.specs.Reach.{Fault, Syntax, TooDeep, IsFault}
use Rattle.seq_tree.specs.declared.token.Token.{Token}
use Rattle.seq_tree.specs.declared.token.Place.{Place}
use Rattle.seq_tree.specs.declared.token.Spanned.{Spanned}
use Rattle.seq_tree.specs.declared.text_fault.TextFault.{TextFault}
use Rattle.seq_tree.specs.declared.text_fault.TextFault.TheVariants as fault
use Rattle.token_read.specs.Words.{bare}
use Rattle.seq_read.specs.Places.{place_at}

-- bytes that are few enough and have this lexical fault
abbrev pub IsMisread : ℕ → List ℕ → Misread → Type 0
IsMisread limit bytes misread = (length bytes ≤ limit) × (tokens bytes ≡ Err misread)

-- bytes that are few enough, and whose tokens have this fault at this place
pub record IsFaultyAt (Any Within : List Token → Type 0) (limit : ℕ) (bytes : List ℕ) (place : Place) (kind : ℕ → Fault) : Type 0 where
  pub short : length bytes ≤ limit
  pub found : List Spanned
  pub read : tokens bytes ≡ Ok found
  pub index : ℕ
  pub fault : IsFault Any Within (bare found) (kind index)
  pub here : place ≡ place_at bytes found (length found - index)

-- what a fault says; want of memory is none
abbrev pub Faults : (List Token → Type 0) → (List Token → Type 0) → ℕ → List ℕ → TextFault → Type 0
Faults Any Within limit bytes (fault.Byte place) = IsMisread limit bytes (Stray place)
Faults Any Within limit bytes (fault.Number place) = IsMisread limit bytes (Great place)
Faults Any Within limit bytes (fault.Long place) = IsMisread limit bytes (lexis.Long place)
Faults Any Within limit bytes (fault.Syntax place) = IsFaultyAt Any Within limit bytes place Syntax
Faults Any Within limit bytes (fault.TooDeep place) = IsFaultyAt Any Within limit bytes place TooDeep
Faults Any Within limit bytes fault.FileTooLong = limit < length bytes
Faults Any Within limit bytes fault.NoMemory = ⊥
