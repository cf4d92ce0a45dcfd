-- A move in no time inside a block leaves the same pieces in the same scope.
use Rattle.std.proofs.Common.{◌<◌, ℕ, ◌+◌, Bool, false, List, ◌∷◌, refl, ap, sym, ◌∙◌}
use Rattle.std.specs.Prelude.{if◌then◌else◌}
use Rattle.seq_tree.specs.Statements.{Statements}
use Rattle.seq_tree.specs.Variables.{Variables}
use Rattle.machine.specs.Pieces.{Piece}
use Rattle.machine.specs.Pieces as piece
use Rattle.law_flat_code.specs.Codes.{Code, BlockStands, Ins, block_size}
use Rattle.law_flat_code.specs.Codes as ins
use Rattle.law_flat_code.specs.Following.{Follows, block_view}
use Rattle.law_flat_code.specs.Withins.{AllLead, LeadsTo, StaysWithin, scope_within, within}
use Rattle.law_flat_code.proofs.Shared.Follows.{steps_block}

-- by what the instruction is
stays_by : (b : Statements) (scope : Variables) (out pc n to : ℕ) (open' : Bool) (depth : ℕ) (turn : ℕ → ℕ) (rest : List Piece) (i : Ins)
    → LeadsTo i to
    → Follows (block_view b depth (λ t. rest) scope) (block_size b) pc n out open' depth turn rest scope (within b n open' depth turn rest) i
    → StaysWithin b pc n to open' depth turn scope rest
stays_by b scope out pc n to open' depth turn rest (ins.Jump next) l h =
    record { at = h.at; place = sym l ∙ h.place; inside' = h.inside; pieces' = h.pieces'; scope' = h.scope' }
stays_by b scope out pc n to open' depth turn rest (ins.Begin name low high behind) l h =
    let m = h.5 in record {
      at = m.at;
      place = sym l.1 ∙ m.place;
      inside' = m.inside;
      pieces' = h.4 ∙ ap (λ z. if z then piece.Turning name low high h.0 ∷ h.1 else h.1) l.0 ∙ m.pieces';
      scope' = m.scope';
    }
stays_by b scope out pc n to open' depth turn rest ins.Idle l h = absurd l
stays_by b scope out pc n to open' depth turn rest (ins.Store target x) l h = absurd l
stays_by b scope out pc n to open' depth turn rest (ins.Working ticks) l h = absurd l
stays_by b scope out pc n to open' depth turn rest (ins.Printing x) l h = absurd l
stays_by b scope out pc n to open' depth turn rest (ins.Calling unit op actuals) l h = absurd l
stays_by b scope out pc n to open' depth turn rest (ins.Test c other) l h = absurd l
stays_by b scope out pc n to open' depth turn rest (ins.Exit c left) l h = absurd l
stays_by b scope out pc n to open' depth turn rest (ins.Next name last start) l h = absurd l
stays_by b scope out pc n to open' depth turn rest ins.Return l h = absurd l
stays_by b scope out pc n to open' depth turn rest ins.Finish l h = absurd l

pub stays_within : (b : Statements) (code : Code) (scope : Variables) (out pc n to : ℕ) (open' : Bool) (depth : ℕ) (turn : ℕ → ℕ) (rest : List Piece)
    → BlockStands code scope out pc b → n < block_size b → AllLead code (pc + n) to → StaysWithin b pc n to open' depth turn scope rest
stays_within b code scope out pc n to open' depth turn rest h lt lead =
    let s = steps_block b code scope out pc n open' depth turn (λ t. rest) (λ t u agree. refl) h lt in
    stays_by b scope out pc n to open' depth turn rest s.ins (lead (scope_within b n false scope) s.ins s.is) s.follows
