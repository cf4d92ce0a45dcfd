-- Laws of the calls of operations: how far they lead, what they cost, and how often they request a task.
-- Without rings of calls each is that of the body which the call leads to, as worst-case execution time by paths takes it (Joseph and Pandya 1986).
use Rattle.std.specs.Prelude.{◌≡◌, ◌<◌, List, ◌∷◌, length}
use Rattle.seq_tree.specs.Names.{Name}
use Rattle.seq_tree.specs.Rings.{LeadsTo, IsOnRing}
use Rattle.seq_tree.specs.declared.tree.Costs.{Costs}
use Rattle.seq_tree.specs.declared.tree.OpName.{OpName}
use Rattle.ods_tree.specs.Services.{Service, service_named}
use Rattle.ada_tree.specs.Programs.{Program}
use Rattle.ada_tree.specs.Rules.{MeetsRules}
use Rattle.analysis.specs.Execution.{service_cost, called_cost}
use Rattle.analysis.specs.Sections.{section, sections_within, service_sections}
use Rattle.analysis.specs.Starts.{service_calls, calls_within, service_starts, starts_within, block_starts}
use Rattle.analysis.specs.Sound.{Calls}
use Rattle.guarantee.specs.ResponseLaw.{program_services}

-- operations of which none leads to itself by calls
abbrev pub HaveNoRing : List Service → Type 0
HaveNoRing ss = (c : OpName) → IsOnRing (Calls ss) c → ⊥

-- no way of calls is longer than there are operations
abbrev pub CallsEnd : Type 0
CallsEnd = (ss : List Service) (from : OpName) (path : List OpName) (to : OpName) → HaveNoRing ss → LeadsTo (Calls ss) from path to
    → length path < length ss

-- a call costs what its body costs, the calls of the body among it
abbrev pub CostsCoverCalls : Type 0
CostsCoverCalls = (costs : Costs) (ss : List Service) (object op : Name) → HaveNoRing ss
    → called_cost costs ss object op ≡ service_cost costs (called_cost costs ss) (service_named ss object op)

-- a call leads to what the body of its protected operation calls, and to what those calls lead to
abbrev pub ReachCoversCalls : Type 0
ReachCoversCalls = (ss : List Service) (c : OpName) → HaveNoRing ss
    → calls_within (length ss) ss c ≡ c ∷ service_calls (calls_within (length ss) ss) (service_named ss c.object c.op)

-- a call of another operation requests a task as often as the body of its protected operation does
abbrev pub StartsCoverCalls : Type 0
StartsCoverCalls = (ss : List Service) (target : OpName) (object op : Name) → HaveNoRing ss
    → starts_within (length ss) ss target object op ≡ service_starts (block_starts ss target) (service_named ss object op)

-- the sections of a call are its own and those of the calls of its body
abbrev pub SectionsCoverCalls : Type 0
SectionsCoverCalls = (costs : Costs) (ss : List Service) (c : OpName) → HaveNoRing ss
    → sections_within (length ss) costs ss c ≡ service_sections (section costs ss c) (sections_within (length ss) costs ss)
    (service_named ss c.object c.op)

-- no operation of a program that meets the rules leads to itself
abbrev pub ProgramsHaveNoRing : Type 0
ProgramsHaveNoRing = (p : Program) → MeetsRules p → HaveNoRing (program_services p)
