-- A client that shares a protected object with a hard thread, and a server: the flat design, the numbers and the rows; and what is refused.
use Rattle.std.specs.Prelude.{◌≡◌, ◌++◌, List, [], ◌∷◌, map, Option, Some, None, codes, decimal, refl}
use Rattle.seq_tree.specs.Names.{Name}
use Rattle.seq_tree.specs.Layout.{layout}
use Rattle.seq_tree.specs.Expressions.{Number}
use Rattle.seq_tree.specs.Statements.{Statement, Statements, Call, Work, Null}
use Rattle.seq_tree.specs.declared.tree.OpName.{OpName}
use Rattle.ods_tree.specs.Designs.{Provided, Body, Tree, Node, Empty, Design}
use Rattle.ods_tree.specs.Flats.{Cyclic}
use Rattle.ods_tree.specs.declared.design.Kind.TheVariants as kind
use Rattle.ods_tree.specs.declared.design.AttrKey.TheVariants.{Period}
use Rattle.ods_tree.specs.declared.design.TickUnit.TheVariants.{Us}
use Rattle.ods_tree.specs.declared.design.Constraint.TheVariants.{Hser}
use Rattle.ods_tree.proofs.Shared.Short.{block, needs_of, cyc, spo, pro, several, design, call, v_in, attr}
use Rattle.ada_tree.specs.Spelling.{program_lines}
use Rattle.guarantee.specs.Programs.{head, comment}
use Rattle.rt_response.specs.Rounds.{round}
use Rattle.background_designs.specs.Clients.{clients}
use Rattle.background_designs.specs.Misfits.{A1, A2, A4, A5, A6, misfits, requesting_clients}
use Rattle.background_designs.specs.Programs.{background_ranks, background_flat, background_program, background_text, hard_rows, hard_places}
use Rattle.background_designs.specs.Programs.{hard_tasks}

-- an active object without children
abbrev pub active : Name → List Provided → List Body → Option Statements → List OpName → Tree
active name provides bodies thread needs = Node (record {
  name = name;
  kind = kind.Active;
  attrs = [];
  provides = provides;
  needs = needs;
  vars = [];
  bodies = bodies;
  thread = thread;
  links = [];
}) Empty

abbrev pub client : Name → List Statement → Tree
client name ss = active name [] [] (Some (block ss)) (needs_of (block ss))

abbrev pub waiting : Name → Provided
waiting op = record { sig = record { name = op; params = v_in ∷ [] }; constraint = Some Hser }

abbrev pub server : Name → Name → List Statement → Tree
server name op ss = active name (waiting op ∷ []) (record { name = op; locals = []; block = block ss } ∷ []) None (needs_of (block ss))

abbrev pub waits : Name → Name → Statement
waits object op = Call object op (Number 1 ∷ [])

-- a hard thread, an object that it shares with a client, the client, and a server
abbrev pub shared_with_client : Design
shared_with_client = several (cyc (codes "h") 8 8 (call (codes "q") (codes "set") ∷ []) ∷ pro (codes "q") (codes "set") (Work 2 ∷ [])
    ∷ client (codes "idle") (call (codes "q") (codes "set") ∷ waits (codes "log") (codes "note") ∷ [])
    ∷ server (codes "log") (codes "note") (Work 1 ∷ []) ∷ [])

nothing_wrong : misfits shared_with_client ++ requesting_clients shared_with_client ≡ []
nothing_wrong = refl

one_client : map (λ o. o.name) (clients shared_with_client) ≡ codes "idle" ∷ []
one_client = refl

threads_of_it : map (λ t. t.name) (background_flat shared_with_client).threads ≡ codes "h" ∷ codes "idle" ∷ []
threads_of_it = refl

objects_of_it : map (λ g. g.name) (background_flat shared_with_client).shared ≡ codes "q" ∷ codes "log" ∷ []
objects_of_it = refl

timings_of_it : map (λ t. t.timing) (background_flat shared_with_client).threads ≡ Cyclic 8 0 ∷ Cyclic 1 0 ∷ []
timings_of_it = refl

ranks_of_it : background_ranks shared_with_client ≡ record { threads = 2 ∷ 1 ∷ []; shared = 2 ∷ 1 ∷ []; obcs = 1 ∷ 1 ∷ [] }
ranks_of_it = refl

rows_of_it : hard_rows shared_with_client ≡ record { period = 8; deadline = 8; jitter = 0; cost = 5; block = 2; starter = None } ∷ []
rows_of_it = refl

hard_one : map (λ t. t.name) (hard_tasks shared_with_client) ≡ codes "h" ∷ []
hard_one = refl

bound_of_it : round (hard_rows shared_with_client) 1 ≡ record { jitter = 0; response = 7 } ∷ []
bound_of_it = refl

-- two clients have one priority, and each object at least theirs
abbrev two_clients : Design
two_clients = several (client (codes "a") (call (codes "q") (codes "set") ∷ []) ∷ client (codes "b") (Null ∷ [])
    ∷ pro (codes "q") (codes "set") (Work 2 ∷ []) ∷ cyc (codes "h") 8 8 (Null ∷ []) ∷ [])

ranks_of_two : background_ranks two_clients ≡ record { threads = 2 ∷ 2 ∷ 3 ∷ []; shared = 2 ∷ []; obcs = 2 ∷ 2 ∷ 2 ∷ [] }
ranks_of_two = refl

-- an object that the lower of two clients alone uses has the priority of both
abbrev lower_user : Design
lower_user = several (client (codes "a") (Null ∷ []) ∷ client (codes "b") (call (codes "q") (codes "set") ∷ [])
    ∷ pro (codes "q") (codes "set") (Work 2 ∷ []) ∷ cyc (codes "h") 8 8 (Null ∷ []) ∷ [])

ranks_of_lower : background_ranks lower_user ≡ record { threads = 2 ∷ 2 ∷ 3 ∷ []; shared = 2 ∷ []; obcs = 2 ∷ 2 ∷ 2 ∷ [] }
ranks_of_lower = refl

-- with priorities from 10 on, all numbers are 9 more
ranks_from_ten : background_ranks (record two_clients { version = Some (record { tick = 1; unit = Us; priorities = Some (10, 20) }) })
    ≡ record { threads = 11 ∷ 11 ∷ 12 ∷ []; shared = 11 ∷ []; obcs = 11 ∷ 11 ∷ 11 ∷ [] }
ranks_from_ten = refl

-- the rows of clients are left out, and theirs alone
rows_of_two : map (λ r. r.deadline) (hard_rows two_clients) ≡ 8 ∷ []
rows_of_two = refl

places_of_two : hard_places two_clients ≡ 2 ∷ []
places_of_two = refl

-- a client has no attributes, and stands in an active object
with_attributes : misfits (design (Node (record {
  name = codes "c";
  kind = kind.Active;
  attrs = attr Period 10 ∷ [];
  provides = [];
  needs = [];
  vars = [];
  bodies = [];
  thread = Some (block (Null ∷ []));
  links = [];
}) Empty)) ≡ A1 (codes "c") ∷ []
with_attributes = refl

-- an active object that has a thread and provides something is neither
thread_and_operations : misfits (design (active (codes "s") (waiting (codes "op") ∷ []) [] (Some (block (Null ∷ []))) [])) ≡ A1 (codes "s") ∷ []
thread_and_operations = refl

-- a cyclic object that waits for a server
cyclic_waits : misfits (several (server (codes "srv") (codes "get") (Null ∷ []) ∷ cyc (codes "a") 10 10 (waits (codes "srv") (codes "get") ∷ [])
    ∷ []))
    ≡ A2 (codes "a") (record { object = codes "srv"; op = codes "get" }) ∷ []
cyclic_waits = refl

-- a client that requests a sporadic object itself
client_asks : misfits (several (spo (codes "s") 50 20 (Work 4 ∷ []) ∷ client (codes "c") (waits (codes "s") (codes "start") ∷ []) ∷ []))
    ≡ A4 (codes "c") (record { object = codes "s"; op = codes "start" }) ∷ []
client_asks = refl

-- a hard thread with the deadline of clients
slow : misfits (design (cyc (codes "h") 1000000000 1000000000 (Null ∷ []))) ≡ A5 (codes "h") ∷ []
slow = refl

-- a client that can request a sporadic object through a protected one
abbrev pub through_protected : Design
through_protected = several (spo (codes "s") 50 20 (Work 4 ∷ []) ∷ pro (codes "q") (codes "set") (waits (codes "s") (codes "start") ∷ [])
    ∷ client (codes "idle") (call (codes "q") (codes "set") ∷ []) ∷ [])

client_requests : misfits through_protected ++ requesting_clients through_protected ≡ A6 (codes "idle") (codes "s") ∷ []
client_requests = refl

head_of_it : head (background_flat shared_with_client) (background_ranks shared_with_client) (hard_places shared_with_client)
    (record { jitter = 0; response = 7 } ∷ [])
    ≡ comment (codes "design" ∷ codes "d" ∷ [])
    ++ (comment (codes "thread" ∷ codes "h" ∷ codes "priority" ∷ decimal 2 ∷ codes "jitter" ∷ decimal 0 ∷ codes "response" ∷ decimal 7
    ∷ codes "deadline" ∷ decimal 8 ∷ []) ++ [])
head_of_it = refl

-- the text is that head and the program
text_of_it : background_text shared_with_client (record { jitter = 0; response = 7 } ∷ [])
    ≡ (comment (codes "design" ∷ codes "d" ∷ [])
    ++ (comment (codes "thread" ∷ codes "h" ∷ codes "priority" ∷ decimal 2 ∷ codes "jitter" ∷ decimal 0 ∷ codes "response" ∷ decimal 7
    ∷ codes "deadline" ∷ decimal 8 ∷ []) ++ []))
    ++ layout (program_lines (background_program shared_with_client))
text_of_it = refl

-- its numbers are those that are written, here from 10 on
abbrev from_ten : Design
from_ten = record shared_with_client { version = Some (record { tick = 1; unit = Us; priorities = Some (10, 20) }) }

text_from_ten : background_text from_ten (record { jitter = 0; response = 7 } ∷ [])
    ≡ (comment (codes "design" ∷ codes "d" ∷ [])
    ++ (comment (codes "thread" ∷ codes "h" ∷ codes "priority" ∷ decimal 11 ∷ codes "jitter" ∷ decimal 0 ∷ codes "response" ∷ decimal 7
    ∷ codes "deadline" ∷ decimal 8 ∷ []) ++ []))
    ++ layout (program_lines (background_program from_ten))
text_from_ten = refl
