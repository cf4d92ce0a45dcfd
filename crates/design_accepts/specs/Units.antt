-- What is told of the threads and the objects of a program along a trace: the first thread whose activations are no runs of its block, or
-- else the first object whose operations are not run one by one.
use Rattle.std.specs.Prelude.{◌≡◌, ℕ, ◌≤◌, not, List, find, option_map, Option, Some, None, Result, Ok, Err, ⊤}
use Rattle.seq_tree.specs.Limits.{tick_limit}
use Rattle.seq_tree.specs.Names.{Name}
use Rattle.seq_eval.specs.Bounds.{most_ticks}
use Rattle.ada_tree.specs.Programs.{Program}
use Rattle.guarantee.specs.Events.{Event}
use Rattle.guarantee.specs.Software.{Software, program_software, leads_to}
use Rattle.law_traces.specs.Checks.{follows, serves}
use Rattle.trace_scripts.specs.Scenes.{AllIn}
use Rattle.design_accepts.specs.declared.unaccepted.Unaccepted.{Unaccepted}
use Rattle.design_accepts.specs.declared.unaccepted.Unaccepted.TheVariants.{Script, Shared, NoMemory}

-- the first thread that strays, and the first object that isn't served
abbrev pub astray : Software → ℕ → List Event → Option Name
astray w depth told = option_map (λ t. t.name) (find (λ t. not (follows w depth told t)) w.tasks)

abbrev pub unserved : Software → ℕ → List Event → Option Name
unserved w depth told = option_map (λ g. g.name) (find (λ g. not (serves w depth told g)) w.shared)

-- what an answer says; want of memory says nothing
abbrev pub SaysOf : Software → ℕ → List Event → Result (Unit {0}) Unaccepted → Type 0
SaysOf w depth told (Ok done) = (astray w depth told ≡ None) × (unserved w depth told ≡ None)
SaysOf w depth told (Err (Script thread)) = astray w depth told ≡ Some thread
SaysOf w depth told (Err (Shared object)) = (astray w depth told ≡ None) × (unserved w depth told ≡ Some object)
SaysOf w depth told (Err NoMemory) = ⊤
SaysOf w depth told (Err _) = ⊥

-- a program whose blocks take at most so many ticks
abbrev pub IsQuick : Program → Type 0
IsQuick p = AllIn (λ b. (depth : ℕ) → most_ticks p.costs (leads_to (program_software p)) depth b ≤ tick_limit) p
