-- What goes through protected operations: ceilings of callers, sections one inside another, requests more than one call deep.
use Rattle.std.specs.Prelude.{◌≡◌, List, [], ◌∷◌, map, Some, None, codes, refl}
use Prim.Native.String.{String}
use Rattle.seq_tree.specs.Expressions.{Number}
use Rattle.seq_tree.specs.Statements.{Statement, Null, If, For, Call, Work, Else, When}
use Rattle.ods_tree.specs.Designs.{Provided, Body, Tree, Node, Empty, Design}
use Rattle.ods_tree.specs.declared.design.Kind.TheVariants.{Protected}
use Rattle.ods_tree.specs.declared.design.Constraint.TheVariants.{Paer}
use Rattle.ods_tree.specs.Flattening.{flat}
use Rattle.ods_tree.specs.Services.{Service, flat_services}
use Rattle.ods_tree.proofs.Shared.Short.{row_costs, needs_of, cyc, spo, pro, several, block, call}
use Rattle.analysis.specs.Ceilings.{ranks, written_ranks}
use Rattle.analysis.specs.Sections.{sections}
use Rattle.analysis.specs.Starts.{starters, start_count}
use Rattle.analysis.specs.Blocking.{blocking}

abbrev set : String → Statement
set object = call (codes object) (codes "set")

abbrev start : Statement
start = Call (codes "s") (codes "start") (Number 7 ∷ [])

abbrev services_of : Design → List Service
services_of x = flat_services (flat x)

-- a thread of priority 2 calls q alone, q calls e, and e calls d: each has its caller's ceiling; nothing calls the last object
abbrev chain : Design
chain = several (cyc (codes "l") 40 40 (Work 1 ∷ []) ∷ cyc (codes "h") 20 10 (set "q" ∷ []) ∷ pro (codes "d") (codes "set") (Work 2 ∷ [])
    ∷ pro (codes "e") (codes "set") (set "d" ∷ []) ∷ pro (codes "q") (codes "set") (set "e" ∷ []) ∷ pro (codes "n") (codes "set") (Work 9 ∷ []) ∷ [])

chain-ceilings : ranks (flat chain) ≡ record { threads = 1 ∷ 2 ∷ []; shared = 2 ∷ 2 ∷ 2 ∷ 1 ∷ []; obcs = 0 ∷ 0 ∷ [] }
chain-ceilings = refl

-- the same as they are written where the least priority is 31
chain-written : written_ranks 31 (ranks (flat chain)) ≡ record { threads = 31 ∷ 32 ∷ []; shared = 32 ∷ 32 ∷ 32 ∷ 31 ∷ []; obcs = 30 ∷ 30 ∷ [] }
chain-written = refl

-- a protected object with two operations
abbrev provided : String → Provided
provided name = record { sig = record { name = codes name; params = [] }; constraint = Some Paer }

abbrev body : String → Statement → Body
body name s = record { name = codes name; locals = []; block = block (s ∷ []) }

abbrev two_ops : String → String → Statement → String → Statement → Tree
two_ops name f s g t = Node (record {
  name = codes name;
  kind = Protected;
  attrs = [];
  provides = provided f ∷ provided g ∷ [];
  needs = needs_of (block (s ∷ t ∷ []));
  vars = [];
  bodies = body f s ∷ body g t ∷ [];
  thread = None;
  links = [];
}) Empty

-- the thread of priority 2 calls one operation of q, and the other one calls e: the ceiling of e is that of the whole object q
abbrev beside : Design
beside = several (cyc (codes "l") 40 40 (call (codes "q") (codes "b") ∷ []) ∷ cyc (codes "h") 20 10 (call (codes "q") (codes "a") ∷ [])
    ∷ two_ops "q" "a" (Work 1) "b" (set "e") ∷ pro (codes "e") (codes "set") (Work 2 ∷ []) ∷ [])

beside-ceilings : (ranks (flat beside)).shared ≡ 2 ∷ 2 ∷ []
beside-ceilings = refl

-- a control structure has the ceiling of a protected object that requests its thread
abbrev requested : Design
requested = several (cyc (codes "h") 20 10 (set "q" ∷ []) ∷ pro (codes "q") (codes "set") (start ∷ []) ∷ spo (codes "s") 50 20 (Work 4 ∷ []) ∷ [])

requested-ceilings : ranks (flat requested) ≡ record { threads = 2 ∷ 1 ∷ []; shared = 2 ∷ []; obcs = 0 ∷ 2 ∷ [] }
requested-ceilings = refl

-- a call in a loop of no turn counts for ceilings, and gives no section
abbrev idle : Design
idle = several (cyc (codes "l") 40 40 (Work 1 ∷ []) ∷ cyc (codes "h") 20 10 (set "q" ∷ []) ∷ pro (codes "e") (codes "set") (Work 2 ∷ [])
    ∷ pro (codes "q") (codes "set") (For (codes "i") 1 0 (block (set "e" ∷ [])) ∷ Null ∷ []) ∷ [])

idle-ceilings : (ranks (flat idle)).shared ≡ 2 ∷ 2 ∷ []
idle-ceilings = refl

idle-sections : sections row_costs (services_of idle) (block (set "q" ∷ [])) ≡ record { object = codes "q"; cost = 1 } ∷ []
idle-sections = refl

-- a section with the two inside it, each with its whole body
chain-sections : sections row_costs (services_of chain) (block (set "q" ∷ []))
    ≡ record { object = codes "q"; cost = 6 } ∷ record { object = codes "e"; cost = 4 } ∷ record { object = codes "d"; cost = 2 } ∷ []
chain-sections = refl

-- a request inside a protected operation is a section of twice ASSIGN
requested-sections : sections row_costs (services_of requested) (block (set "q" ∷ []))
    ≡ record { object = codes "q"; cost = 4 } ∷ record { object = codes "s"; cost = 2 } ∷ []
requested-sections = refl

-- the outer section counts where its ceiling reaches the priority, else the inner one
abbrev lower : List Statement → Design
lower ss = several (cyc (codes "l") 40 40 (set "q" ∷ []) ∷ cyc (codes "h") 20 10 ss
    ∷ pro (codes "q") (codes "set") (Work 5 ∷ set "e" ∷ []) ∷ pro (codes "e") (codes "set") (Work 2 ∷ []) ∷ [])

blocked : map (λ ss. blocking (flat (lower ss)) (1 ∷ 2 ∷ []) 2) ((set "q" ∷ []) ∷ (set "e" ∷ []) ∷ (Work 1 ∷ []) ∷ []) ≡ 9 ∷ 2 ∷ 0 ∷ []
blocked = refl

-- a request two protected operations deep
abbrev deep : Design
deep = several (cyc (codes "p") 50 50 (set "q" ∷ []) ∷ cyc (codes "o") 50 50 (set "n" ∷ []) ∷ pro (codes "q") (codes "set") (set "e" ∷ set "e" ∷ [])
    ∷ pro (codes "e") (codes "set") (start ∷ []) ∷ pro (codes "n") (codes "set") (Work 1 ∷ []) ∷ spo (codes "s") 50 20 (Work 4 ∷ []) ∷ [])

deep-starters : map (λ t. t.name) (starters (services_of deep) (codes "s") (flat deep).threads) ≡ codes "p" ∷ []
deep-starters = refl

deep-counts : map (start_count (services_of deep) (codes "s") (record { name = codes "start"; params = [] })) (flat deep).threads ≡ 2 ∷ 0 ∷ 0 ∷ []
deep-counts = refl

-- as often as a loop turns, and the greatest over branches
abbrev turns : Design
turns = several (cyc (codes "p") 50 50 (set "q" ∷ [])
    ∷ pro (codes "q") (codes "set")
    (For (codes "i") 1 3 (block (set "e" ∷ [])) ∷ If (When (Number 1) (block (start ∷ [])) (Else (block (set "e" ∷ start ∷ [])))) ∷ [])
    ∷ pro (codes "e") (codes "set") (start ∷ []) ∷ spo (codes "s") 50 20 (Work 4 ∷ []) ∷ [])

turns-counts : map (start_count (services_of turns) (codes "s") (record { name = codes "start"; params = [] })) (flat turns).threads ≡ 5 ∷ 0 ∷ []
turns-counts = refl
