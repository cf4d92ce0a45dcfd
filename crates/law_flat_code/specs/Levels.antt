-- How many loops are around each instruction of a block. A loop takes two slots, so that the slot in which its turns are counted tells how many
-- loops are around it, and no jump leads backwards but that from the end of a turn.
use Rattle.std.specs.Prelude.{◌≡◌, ◌≤◌, ◌<◌, ℕ, suc, ◌+◌, ◌*◌, Bool, true, false, List, ◌∷◌, ⊤}
use Rattle.seq_tree.specs.Names.{Name}
use Rattle.seq_tree.specs.Statements.{Statements}
use Rattle.seq_tree.specs.Variables.{Variables}
use Rattle.machine.specs.Pieces.{Piece, pieces, turns}
use Rattle.machine.specs.Pieces as piece
use Rattle.law_flat_code.specs.Codes.{Code, CodeTest, Ins, BlockStands, block_size, in_turn, next_slot, told_by}
use Rattle.law_flat_code.specs.Codes as ins
use Rattle.law_flat_code.specs.Following.{AgreeBelow, DependsBelow, Follows, LeftAt, View, block_view}
use Rattle.law_flat_code.specs.Withins.{turn_end}

-- so many loops are around a place with a scope, where `depth` are around a part with the scope `around`
abbrev pub IsLevel : Variables → ℕ → Variables → ℕ → Type 0
IsLevel around depth scope level = next_slot scope + 2 * depth ≡ next_slot around + 2 * level

-- the first turn of a loop inside so many others: its pieces are left where its count of turns is the lower bound
pub record BeginsAt (v : View) (most pc n level : ℕ) (turn : ℕ → ℕ) (ps : List Piece) (name : Name) (low high behind : ℕ) : Type 0 where
  pub body : Statements
  pub rest : List Piece
  pub pieces' : ps ≡ turns name low high body rest
  pub around : LeftAt v most pc behind turn rest (v.scope false n)
  pub forward : pc + n < behind
  pub turned : (turn' : ℕ → ℕ) → AgreeBelow level turn turn' → turn' level ≡ low
      → pieces body (piece.Turned name low high body ∷ rest) ≡ v.left true turn' (suc n)
  pub scope' : v.scope true (suc n) ≡ in_turn name (v.scope false n)

-- the end of a turn of such a loop: the next turn is counted there, begins at `start`, and behind it is what is behind the loop
pub record EndsAt (v : View) (most pc n : ℕ) (open' : Bool) (level : ℕ) (turn : ℕ → ℕ) (ps : List Piece) (name : Name) (last start : ℕ)
    : Type 0 where
  pub body : Statements
  pub rest : List Piece
  pub pieces' : ps ≡ turn_end open' name (turn level) last body ∷ rest
  pub behind : rest ≡ v.left true turn (suc n)
  pub scope' : v.scope true (suc n) ≡ v.scope false n
  pub inner : v.scope true n ≡ in_turn name (v.scope false n)
  pub again : (turn' : ℕ → ℕ) → AgreeBelow level turn turn' → piece.Turning name (turn' level) last body ∷ rest ≡ v.left false turn' n
  pub turned : (turn' : ℕ → ℕ) → AgreeBelow level turn turn'
      → LeftAt v most pc start turn' (pieces body (piece.Turned name (turn' level) last body ∷ rest)) (in_turn name (v.scope false n))

-- what is known besides of an instruction inside so many loops
abbrev pub FollowsAt : View → ℕ → ℕ → ℕ → Bool → ℕ → (ℕ → ℕ) → List Piece → Ins → Type 0
FollowsAt v most pc n open' level turn ps (ins.Jump to) = pc + n < to
FollowsAt v most pc n open' level turn ps (ins.Begin name low high behind) = BeginsAt v most pc n level turn ps name low high behind
FollowsAt v most pc n open' level turn ps (ins.Next name last start) = EndsAt v most pc n open' level turn ps name last start
FollowsAt v most pc n open' level turn ps _ = ⊤

-- only at the end of a turn the scope differs once that end has been passed
abbrev pub Shows : View → ℕ → Ins → Type 0
Shows v n (ins.Next name last start) = ⊤
Shows v n _ = v.scope true n ≡ v.scope false n

-- the instruction at a place of a part, what is left before and after it, and how many loops are around it; `shown` are those whose variables are
-- in the scope there, and what is left depends on their turns alone
pub record Levelled (code : Code) (v : View) (most pc n out : ℕ) (open' : Bool) (depth : ℕ) (turn : ℕ → ℕ) (rest : List Piece) (around : Variables)
    : Type 0 where
  pub ins : Ins
  pub is : code (v.scope false n) (pc + n) ins
  pub follows : Follows v most pc n out open' depth turn rest around (v.left open' turn n) ins
  pub level : ℕ
  pub deep : depth ≤ level
  pub is_level : IsLevel around depth (v.scope false n) level
  pub follows_at : FollowsAt v most pc n open' level turn (v.left open' turn n) ins
  pub shows : Shows v n ins
  pub shown : ℕ
  pub is_shown : IsLevel around depth (v.scope true n) shown
  pub depends : (turn' : ℕ → ℕ) → AgreeBelow shown turn turn' → v.left open' turn' n ≡ v.left open' turn n

-- each instruction of a block, with how many loops are around it
abbrev pub LevelsFollow : Type 0
LevelsFollow = (b : Statements) (reads : CodeTest) (scope : Variables) (out pc n : ℕ) (open' : Bool) (depth : ℕ)
    (turn : ℕ → ℕ) (rest : (ℕ → ℕ) → List Piece) → DependsBelow depth rest → BlockStands (told_by reads) scope out pc b → n < block_size b
    → Levelled (told_by reads) (block_view b depth rest scope) (block_size b) pc n out open' depth turn (rest turn) scope
