-- Blocks whose exits stand in loops and whose calls may be made, leaving out loops of no turn.
-- An exit leaves the innermost loop of the same body (ISO/IEC 8652:2012, 5.7).
use Rattle.std.specs.Prelude.{◌≡◌, Bool, true, false, nat_le, ⊤}
use Rattle.seq_tree.specs.Names.{Name}
use Rattle.seq_tree.specs.Statements.{Statement, Statements, Branches, If, For, ExitWhen, Call, End, Then, Nothing, Else, When}
use Rattle.machine.specs.Systems.{CallTarget, Plain, Protected, Request, Unknown}

-- a fact where something is true
abbrev pub Where : Bool → Type 0 → Type 0
Where true P = P
Where false P = ⊤

-- statements whose exits stand in loops, and whose calls outside loops of no turn may be made
abbrev mutual
  pub StatementFits : (Name → Name → Type 0) → Bool → Statement → Type 0
  StatementFits May in_loop (If branches) = BranchesFit May in_loop branches
  StatementFits May in_loop (For name low high body) = Where (nat_le low high) (BlockFits May true body)
  StatementFits May in_loop (ExitWhen condition) = in_loop ≡ true
  StatementFits May in_loop (Call object op actuals) = May object op
  StatementFits May in_loop _ = ⊤

  pub BlockFits : (Name → Name → Type 0) → Bool → Statements → Type 0
  BlockFits May in_loop End = ⊤
  BlockFits May in_loop (Then first rest) = StatementFits May in_loop first × BlockFits May in_loop rest

  pub BranchesFit : (Name → Name → Type 0) → Bool → Branches → Type 0
  BranchesFit May in_loop Nothing = ⊤
  BranchesFit May in_loop (Else block) = BlockFits May in_loop block
  BranchesFit May in_loop (When condition block others) = BlockFits May in_loop block × BranchesFit May in_loop others

-- a call whose body has its exits inside loops
abbrev pub HasExitsInLoops : CallTarget → Type 0
HasExitsInLoops (Plain o) = BlockFits (λ unit op. ⊤) false o.block
HasExitsInLoops (Protected object op g o) = BlockFits (λ unit op. ⊤) false o.block
HasExitsInLoops (Request task) = ⊤
HasExitsInLoops Unknown = ⊤
