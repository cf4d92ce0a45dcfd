-- The specifications of units, apart from their bodies: what is known of a unit before its body is read.
-- Packages and their bodies are those of ISO/IEC 8652:2012, 7.1 and 7.2.
use Rattle.std.specs.Prelude.{ℕ, Bool, List, map}
use Rattle.seq_tree.specs.Names.{Name}
use Rattle.seq_tree.specs.Operations.{Signature}
use Rattle.seq_tree.specs.Trees.{signature_of}
use Rattle.seq_tree.specs.declared.tree.Datum.{Datum}
use Rattle.ada_read.specs.declared.heads.UnitHead.{UnitHead}
use Rattle.ada_read.specs.declared.heads.UnitHead.TheVariants as head

-- the specification of a unit
pub data Head : Type 0 where
  PassiveHead : (name : Name) (sigs : List Signature) → Head
  SharedHead : (name : Name) (ceiling : ℕ) (sigs : List Signature) (vars : List Datum) → Head
  CyclicHead : (name : Name) (priority : ℕ) → Head
  SporadicHead : (name : Name) (priority ceiling : ℕ) (op : Signature) (separation jitter : ℕ) (external : Bool) → Head

-- the name of the unit
abbrev pub head_name : Head → Name
head_name (PassiveHead name sigs) = name
head_name (SharedHead name ceiling sigs vars) = name
head_name (CyclicHead name priority) = name
head_name (SporadicHead name priority ceiling op separation jitter external) = name

-- the specification that a value of the program stands for
abbrev pub head_of : UnitHead → Head
head_of (head.Passive name sigs) = PassiveHead name (map signature_of sigs.items)
head_of (head.Shared name ceiling sigs vars) = SharedHead name ceiling (map signature_of sigs.items) vars.items
head_of (head.Cyclic name priority) = CyclicHead name priority
head_of (head.Sporadic name priority ceiling op separation jitter external)
    = SporadicHead name priority ceiling (signature_of op) separation jitter external
