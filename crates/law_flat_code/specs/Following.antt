-- What is left after each instruction of a block, read off its place: the pieces, and the scope, by the turns of open loops.
-- Parts of a block are seen by what is left at each of their places, from 0 up to their end.
use Rattle.std.specs.Prelude.{◌≡◌, ◌⊎◌, ◌≤◌, ◌<◌, ℕ, suc, ◌+◌, Bool, true, false, List, ◌∷◌, drop}
use Rattle.seq_tree.specs.Names.{Name}
use Rattle.seq_tree.specs.Statements.{Statements, Branches}
use Rattle.seq_tree.specs.Variables.{Variables}
use Rattle.machine.specs.Pieces.{Piece, pieces, branch_pieces, turns, after_loop}
use Rattle.machine.specs.Pieces as piece
use Rattle.law_flat_code.specs.Codes.{Code, Ins, BlockStands, block_size, in_turn}
use Rattle.law_flat_code.specs.Codes as ins
use Rattle.law_flat_code.specs.Withins.{scope_within, turn_end, within}

-- the turns of the loops around one that is so deep are the same
abbrev pub AgreeBelow : ℕ → (ℕ → ℕ) → (ℕ → ℕ) → Type 0
AgreeBelow depth turn turn' = (k : ℕ) → k < depth → turn' k ≡ turn k

-- what is left at each place of a part, and the scope there
pub record View : Type 0 where
  pub left : Bool → (ℕ → ℕ) → ℕ → List Piece
  pub scope : Bool → ℕ → Variables

-- from this place of a part on these pieces are left, in this scope; the part begins at `pc`, and has so many instructions
pub record LeftAt (v : View) (most pc to : ℕ) (turn : ℕ → ℕ) (ps : List Piece) (scope : Variables) : Type 0 where
  pub at : ℕ
  pub place : to ≡ pc + at
  pub inside : at ≤ most
  pub pieces' : ps ≡ v.left true turn at
  pub scope' : scope ≡ v.scope true at

-- a plain piece, and what is behind it
abbrev pub Goes : View → ℕ → (ℕ → ℕ) → List Piece → Piece → Type 0
Goes v n turn ps p = (ps ≡ p ∷ v.left true turn (suc n)) × (v.scope true (suc n) ≡ v.scope false n)

-- what is behind the innermost loop: a place of the part, or what is behind the loop around the part, which is left to `out`
abbrev pub Leaves : View → ℕ → ℕ → ℕ → ℕ → (ℕ → ℕ) → List Piece → Variables → ℕ → Type 0
Leaves v most pc n out turn rest around to =
    LeftAt v most pc to turn (after_loop (v.left true turn (suc n))) (drop 1 (v.scope false n))
    ⊎ ((to ≡ out) × (after_loop (v.left true turn (suc n)) ≡ after_loop rest) × (v.scope false n ≡ around))

-- the first turn of a loop: its pieces are left where its count of turns is the lower bound
abbrev pub Begins : View → ℕ → ℕ → ℕ → ℕ → (ℕ → ℕ) → List Piece → Name → ℕ → ℕ → ℕ → Type 0
Begins v most pc n depth turn ps name low high behind =
    (body : Statements) × (rest : List Piece) × (d : ℕ) × (depth ≤ d) × (ps ≡ turns name low high body rest)
    × LeftAt v most pc behind turn rest (v.scope false n)
    × ((turn' : ℕ → ℕ) → AgreeBelow d turn turn' → turn' d ≡ low
    → pieces body (piece.Turned name low high body ∷ rest) ≡ v.left true turn' (suc n))
    × (v.scope true (suc n) ≡ in_turn name (v.scope false n))

-- the end of a turn: the next turn is counted there, begins at `start`, and behind it is what is behind the loop
abbrev pub Ends : View → ℕ → ℕ → ℕ → Bool → ℕ → (ℕ → ℕ) → List Piece → Name → ℕ → ℕ → Type 0
Ends v most pc n open' depth turn ps name last start =
    (body : Statements) × (rest : List Piece) × (d : ℕ) × (depth ≤ d) × (ps ≡ turn_end open' name (turn d) last body ∷ rest)
    × (rest ≡ v.left true turn (suc n)) × (v.scope true (suc n) ≡ v.scope false n) × (v.scope true n ≡ in_turn name (v.scope false n))
    × ((turn' : ℕ → ℕ) → AgreeBelow d turn turn' → (piece.Turning name (turn' d) last body ∷ rest ≡ v.left false turn' n)
    × LeftAt v most pc start turn' (pieces body (piece.Turned name (turn' d) last body ∷ rest)) (in_turn name (v.scope false n)))

-- what an instruction is, and what is left after it
abbrev pub Follows : View → ℕ → ℕ → ℕ → ℕ → Bool → ℕ → (ℕ → ℕ) → List Piece → Variables → List Piece → Ins → Type 0
Follows v most pc n out open' depth turn rest around ps ins.Idle = Goes v n turn ps piece.Idle
Follows v most pc n out open' depth turn rest around ps (ins.Store target e) = Goes v n turn ps (piece.Store target e)
Follows v most pc n out open' depth turn rest around ps (ins.Working ticks) = Goes v n turn ps (piece.Working ticks)
Follows v most pc n out open' depth turn rest around ps (ins.Printing e) = Goes v n turn ps (piece.Printing e)
Follows v most pc n out open' depth turn rest around ps (ins.Calling unit op actuals) = Goes v n turn ps (piece.Calling unit op actuals)
Follows v most pc n out open' depth turn rest around ps (ins.Exit c to) = Goes v n turn ps (piece.Leaving c)
    × Leaves v most pc n out turn rest around to
Follows v most pc n out open' depth turn rest around ps (ins.Test c other) =
    (block : Statements) × (others : Branches) × (behind : List Piece) × (ps ≡ piece.Testing c block others ∷ behind)
    × (pieces block behind ≡ v.left true turn (suc n)) × (v.scope true (suc n) ≡ v.scope false n)
    × LeftAt v most pc other turn (branch_pieces others behind) (v.scope false n)
Follows v most pc n out open' depth turn rest around ps (ins.Jump to) = LeftAt v most pc to turn ps (v.scope false n)
Follows v most pc n out open' depth turn rest around ps (ins.Begin name low high behind) = Begins v most pc n depth turn ps name low high behind
Follows v most pc n out open' depth turn rest around ps (ins.Next name last start) = Ends v most pc n open' depth turn ps name last start
Follows v most pc n out open' depth turn rest around ps ins.Return = ⊥
Follows v most pc n out open' depth turn rest around ps ins.Finish = ⊥

-- the instruction at a place of a part, and what is left before and after it
pub record Stepping (code : Code) (v : View) (most pc n out : ℕ) (open' : Bool) (depth : ℕ) (turn : ℕ → ℕ) (rest : List Piece) (around : Variables)
    : Type 0 where
  pub ins : Ins
  pub is : code (v.scope false n) (pc + n) ins
  pub follows : Follows v most pc n out open' depth turn rest around (v.left open' turn n) ins

-- a block as a part; what is behind it may depend on the turns of the loops around it
abbrev pub block_view : Statements → ℕ → ((ℕ → ℕ) → List Piece) → Variables → View
block_view b depth rest scope = record {
  left = λ open' turn n. within b n open' depth turn (rest turn);
  scope = λ open' n. scope_within b n open' scope;
}

-- what is behind a block depends on the loops around it alone
abbrev pub DependsBelow : ℕ → ((ℕ → ℕ) → List Piece) → Type 0
DependsBelow depth rest = (turn turn' : ℕ → ℕ) → AgreeBelow depth turn turn' → rest turn' ≡ rest turn
