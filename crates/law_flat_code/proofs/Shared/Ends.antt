-- Where a block ends: what is behind it is left, in the scope around it.
use Rattle.std.proofs.Common.{◌≡◌, ℕ, Bool, List}
use Rattle.seq_tree.specs.Statements.{Statements}
use Rattle.seq_tree.specs.Variables.{Variables}
use Rattle.machine.specs.Pieces.{Piece}
use Rattle.law_flat_code.specs.Codes.{block_size}
use Rattle.law_flat_code.specs.Withins.{scope_within, within}
use Rattle.law_flat_code.proofs.Choices.{scope_within_end, within_end}

pub block_ends : (b : Statements) (open' : Bool) (depth : ℕ) (turn : ℕ → ℕ) (rest : List Piece)
    → within b (block_size b) open' depth turn rest ≡ rest
block_ends b open' depth turn rest = within_end b open' depth turn rest

pub scope_ends : (b : Statements) (open' : Bool) (scope : Variables) → scope_within b (block_size b) open' scope ≡ scope
scope_ends b open' scope = scope_within_end b open' scope
