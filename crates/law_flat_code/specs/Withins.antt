-- The pieces from an instruction of a block on, so that a place in the code says what is left to do. `turn` says at which value each open loop
-- stands, by how many loops are around it. At the end of a turn, `open'` says whether that end is still a piece that is left; else it has been
-- passed, and the next turn begins there.
use Rattle.std.specs.Prelude.{◌≡◌, ◌≤◌, ℕ, suc, ◌+◌, ◌-◌, Bool, true, false, List, ◌∷◌, nat_le, nat_lt, if◌then◌else◌}
use Rattle.seq_tree.specs.Names.{Name}
use Rattle.seq_tree.specs.Statements.{Statement, Statements, Branches, Null, Assign, If, For, ExitWhen, Call, Work, Put, End, Then, Nothing}
use Rattle.seq_tree.specs.Statements.{Else, When}
use Rattle.seq_tree.specs.Variables.{Variables}
use Rattle.machine.specs.Pieces.{Piece, Testing, Turning, Turned, pieces, pieces_of, turns}
use Rattle.law_flat_code.specs.Codes.{Code, Ins, Jump, Begin, size, block_size, in_turn}

-- the piece at the end of a turn
abbrev pub turn_end : Bool → Name → ℕ → ℕ → Statements → Piece
turn_end true name at last body = Turned name at last body
turn_end false name at last body = Turning name at last body

-- the pieces from so many instructions of a statement, of a block and of branches on, and those behind them
abbrev mutual
  pub inside : Statement → ℕ → Bool → ℕ → (ℕ → ℕ) → List Piece → List Piece
  inside (If branches) n open' depth turn rest = among branches n open' depth turn rest
  inside (For name low high body) n open' depth turn rest =
      if nat_lt 0 n then (if nat_lt (n - 1) (block_size body)
      then within body (n - 1) open' (suc depth) turn (Turned name (turn depth) high body ∷ rest)
      else turn_end open' name (turn depth) high body ∷ rest)
      else turns name low high body rest
  inside Null n open' depth turn rest = pieces_of Null rest
  inside (Assign target e) n open' depth turn rest = pieces_of (Assign target e) rest
  inside (ExitWhen condition) n open' depth turn rest = pieces_of (ExitWhen condition) rest
  inside (Call object op actuals) n open' depth turn rest = pieces_of (Call object op actuals) rest
  inside (Work ticks) n open' depth turn rest = pieces_of (Work ticks) rest
  inside (Put e) n open' depth turn rest = pieces_of (Put e) rest

  pub within : Statements → ℕ → Bool → ℕ → (ℕ → ℕ) → List Piece → List Piece
  within End n open' depth turn rest = rest
  within (Then first others) n open' depth turn rest =
      if nat_lt n (size first) then inside first n open' depth turn (pieces others rest) else within others (n - size first) open' depth turn rest

  pub among : Branches → ℕ → Bool → ℕ → (ℕ → ℕ) → List Piece → List Piece
  among Nothing n open' depth turn rest = rest
  among (Else block) n open' depth turn rest = within block n open' depth turn rest
  among (When condition block others) n open' depth turn rest =
      if nat_lt 0 n then (if nat_lt (n - 1) (block_size block)
      then within block (n - 1) open' depth turn rest
      else (if nat_lt (n - 1) (suc (block_size block)) then rest else among others (n - 1 - suc (block_size block)) open' depth turn rest))
      else Testing condition block others ∷ rest

-- the scope at the same instruction
abbrev mutual
  pub scope_inside : Statement → ℕ → Bool → Variables → Variables
  scope_inside (If branches) n open' scope = scope_among branches n open' scope
  scope_inside (For name low high body) n open' scope =
      if nat_lt 0 n then (if nat_lt (n - 1) (block_size body)
      then scope_within body (n - 1) open' (in_turn name scope)
      else (if open' then in_turn name scope else scope))
      else scope
  scope_inside Null n open' scope = scope
  scope_inside (Assign target e) n open' scope = scope
  scope_inside (ExitWhen condition) n open' scope = scope
  scope_inside (Call object op actuals) n open' scope = scope
  scope_inside (Work ticks) n open' scope = scope
  scope_inside (Put e) n open' scope = scope

  pub scope_within : Statements → ℕ → Bool → Variables → Variables
  scope_within End n open' scope = scope
  scope_within (Then first others) n open' scope =
      if nat_lt n (size first) then scope_inside first n open' scope else scope_within others (n - size first) open' scope

  pub scope_among : Branches → ℕ → Bool → Variables → Variables
  scope_among Nothing n open' scope = scope
  scope_among (Else block) n open' scope = scope_within block n open' scope
  scope_among (When condition block others) n open' scope =
      if nat_lt 0 n then (if nat_lt (n - 1) (block_size block)
      then scope_within block (n - 1) open' scope
      else (if nat_lt (n - 1) (suc (block_size block)) then scope else scope_among others (n - 1 - suc (block_size block)) open' scope))
      else scope

-- an instruction that goes on at this place, in no time
abbrev pub LeadsTo : Ins → ℕ → Type 0
LeadsTo (Jump next) to = next ≡ to
LeadsTo (Begin name low high behind) to = (nat_le low high ≡ false) × (behind ≡ to)
LeadsTo _ to = ⊥

-- whatever stands at a place goes on there
abbrev pub AllLead : Code → ℕ → ℕ → Type 0
AllLead code pc to = (scope : Variables) (i : Ins) → code scope pc i → LeadsTo i to

-- the same pieces are left, in the same scope, at a place of a block that is so many instructions behind its start
pub record StaysWithin (b : Statements) (pc n to : ℕ) (open' : Bool) (depth : ℕ) (turn : ℕ → ℕ) (scope : Variables) (rest : List Piece) : Type 0 where
  pub at : ℕ
  pub place : to ≡ pc + at
  pub inside' : at ≤ block_size b
  pub pieces' : within b n open' depth turn rest ≡ within b at true depth turn rest
  pub scope' : scope_within b n false scope ≡ scope_within b at true scope
