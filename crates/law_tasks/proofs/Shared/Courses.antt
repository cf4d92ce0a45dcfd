-- What one task does by itself: the setting in which it runs, which pieces it may have left, and the ticks of a piece.
-- Nothing here depends on other tasks; a protected object only lends its data.
use Rattle.std.specs.Prelude.{◌≡◌, ℕ, ◌≤◌, Bool, true, false, List, [], ◌∷◌, None, ⊤}
use Rattle.seq_tree.specs.Names.{Name}
use Rattle.seq_tree.specs.Statements.{Statement, Statements, Branches, Null, Assign, If, For, ExitWhen, Call, Work, Put, End, Then, Nothing}
use Rattle.seq_tree.specs.Statements.{Else, When}
use Rattle.seq_tree.specs.Operations.{Operation}
use Rattle.seq_tree.specs.Runs.{Setting}
use Rattle.seq_tree.specs.Runs as runs
use Rattle.seq_tree.specs.declared.tree.Costs.{Costs}
use Rattle.seq_tree.specs.declared.tree.OpName.{OpName}
use Rattle.machine.specs.Systems.{System, ProtectedUnit, CallTarget, Plain, Protected, Request, Unknown, callee}
use Rattle.law_lists.proofs.Shared.Depths.{IsDeep}
use Rattle.law_calls.proofs.Shared.Passives.{passive_calls}
use Rattle.machine.specs.Pieces.{Piece, Leaving, Calling, Working, Testing, Turning, Turned, ticks_of}
use Rattle.law_calls.proofs.Shared.Pieces.{in_loop}
use Rattle.law_walks.proofs.Shared.Bodies.{AnyBody}

-- what runs, what a call leads to by the texts, the names of operations and requests by their places, the calls that are made, and whether
-- a trace may end inside an activation
pub record Course : Type 1 where
  pub system : System
  pub calls : Name → Name → runs.Callee
  pub op_name : ℕ → ℕ → OpName
  pub request_name : ℕ → OpName
  pub Good : Name → Name → Type 0
  pub MayCut : Type 0

-- what a call leads to, as runs see it
abbrev pub seen : CallTarget → runs.Callee
seen (Plain o) = runs.Plain o
seen (Protected object op g o) = runs.Protected o.sig.params
seen (Request task) = runs.Asked
seen Unknown = runs.Unknown

-- statements whose calls are good, whose exits stand in loops, and whose `work`s take a tick at least; the truth value says whether a loop
-- is around them.
-- Exclusion asks less of a block: nothing of `work`s, nor of calls in loops of no turn.
abbrev mutual
  pub FitStatement : (Name → Name → Type 0) → Bool → Statement → Type 0
  FitStatement Good within Null = ⊤
  FitStatement Good within (Assign target e) = ⊤
  FitStatement Good within (If branches) = FitBranches Good within branches
  FitStatement Good within (For name low high body) = FitBlock Good true body
  FitStatement Good within (ExitWhen condition) = within ≡ true
  FitStatement Good within (Call unit op actuals) = Good unit op
  FitStatement Good within (Work ticks) = 1 ≤ ticks
  FitStatement Good within (Put e) = ⊤

  pub FitBlock : (Name → Name → Type 0) → Bool → Statements → Type 0
  FitBlock Good within End = ⊤
  FitBlock Good within (Then first rest) = FitStatement Good within first × FitBlock Good within rest

  pub FitBranches : (Name → Name → Type 0) → Bool → Branches → Type 0
  FitBranches Good within Nothing = ⊤
  FitBranches Good within (Else block) = FitBlock Good within block
  FitBranches Good within (When condition block others) = FitBlock Good within block × FitBranches Good within others

-- what a good call leads to
abbrev pub IsFitCallee : (Name → Name → Type 0) → CallTarget → Type 0
IsFitCallee Good (Plain o) = FitBlock Good false o.block
IsFitCallee Good (Protected object op g o) = FitBlock Good false o.block
IsFitCallee Good (Request task) = ⊤
IsFitCallee Good Unknown = ⊥

-- a setting whose names and calls are those of its system, and whose good calls lead to what is fit, passive ones in no ring
pub record IsApt (c : Course) : Type 0 where
  pub leads : (unit op : Name) → c.calls unit op ≡ seen (callee c.system unit op)
  pub entries : (unit op : Name) (object k : ℕ) (g : ProtectedUnit) (o : Operation)
      → callee c.system unit op ≡ Protected object k g o → c.op_name object k ≡ record { object = unit; op = op }
  pub requests : (unit op : Name) (task : ℕ) → callee c.system unit op ≡ Request task → c.request_name task ≡ record { object = unit; op = op }
  pub closed : (unit op : Name) → c.Good unit op → IsFitCallee c.Good (callee c.system unit op)
  pub depth : (unit op : Name) → c.Good unit op → (n : ℕ) × IsDeep (passive_calls c.system) n (record { object = unit; op = op })

-- pieces that a task may have left
abbrev pub FitPiece : (Name → Name → Type 0) → Bool → Piece → Type 0
FitPiece Good within (Leaving condition) = within ≡ true
FitPiece Good within (Calling unit op actuals) = Good unit op
FitPiece Good within (Working ticks) = 1 ≤ ticks
FitPiece Good within (Testing condition block others) = FitBlock Good within block × FitBranches Good within others
FitPiece Good within (Turning name at last body) = FitBlock Good true body
FitPiece Good within (Turned name at last body) = FitBlock Good true body
FitPiece Good within _ = ⊤

abbrev pub FitPieces : (Name → Name → Type 0) → List Piece → Type 0
FitPieces Good [] = ⊤
FitPieces Good (x ∷ xs) = FitPiece Good (in_loop xs) x × FitPieces Good xs

-- the ticks that a piece may take
abbrev pub IsTicks : Costs → Piece → ℕ → Type 0
IsTicks costs (Working ticks) n = (1 ≤ n) × (n ≤ ticks)
IsTicks costs x n = n ≡ ticks_of costs None x

-- the setting of a task's ways
abbrev pub setting : Course → Setting
setting c = record { costs = c.system.costs; callee = c.calls; Body = AnyBody c.system.costs c.calls }
