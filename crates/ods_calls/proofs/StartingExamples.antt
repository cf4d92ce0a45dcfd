-- The graph of starts: what stands at its places, what is an edge of it, and what breaks each definition alone.
use Rattle.std.specs.Prelude.{◌≡◌, ℕ, true, false, [], ◌∷◌, Option, Some, None, codes}
use Rattle.std.proofs.Common.{refl}
use Rattle.seq_tree.specs.Names.{Name}
use Rattle.seq_tree.specs.declared.tree.OpName.{OpName}
use Rattle.name_sets.specs.Places.{place_in}
use Rattle.name_sets.specs.Tables.{at}
use Rattle.ods_tree.specs.Designs.{Design, Tree}
use Rattle.ods_tree.specs.Walk.{own_of}
use Rattle.ods_tree.specs.declared.design.Kind.{Kind}
use Rattle.ods_tree.specs.declared.design.Kind.TheVariants.{Passive, Protected}
use Rattle.ods_tree.proofs.Shared.Short.{block, call, cyc, pas, pro, several, spo}
use Rattle.ods_index.specs.Calling.{Calls, body_calls}
use Rattle.ods_calls.specs.Starting.{Op, Spot, Thread, aimed, held_edges, held_place, same_spot, source_place, spot_from, spots_among, spots_of}
use Rattle.ods_calls.specs.Starting.{all_held, start_edges, starts_step, thread_edges, turned}
use Rattle.ods_calls.specs.Spotted.{marked, spot_in}
use Rattle.ods_calls.specs.declared.spots.Part.TheVariants.{Threads, Operations}
use Rattle.ods_calls.specs.declared.spots.Spots.{Spots}

abbrev put : OpName
put = record { object = codes "q"; op = codes "put" }

abbrev start : OpName
start = record { object = codes "s"; op = codes "start" }

-- a cyclic thread and a sporadic one that call a protected object, which starts the sporadic one
abbrev cyclic : Tree
cyclic = cyc (codes "c") 10 10 (call (codes "q") (codes "put") ∷ [])

abbrev sporadic : Tree
sporadic = spo (codes "s") 10 10 (call (codes "q") (codes "put") ∷ [])

abbrev guard : Tree
guard = pro (codes "q") (codes "put") (call (codes "s") (codes "start") ∷ [])

abbrev plain : Tree
plain = pas (codes "p") (codes "f") (call (codes "s") (codes "start") ∷ [])

abbrev ring : Design
ring = several (cyclic ∷ sporadic ∷ guard ∷ plain ∷ [])

-- two that are one, and one by another name and of another sort
same_threads : same_spot (Thread (codes "c")) (Thread (codes "c")) ≡ true
same_threads = refl

other_threads : same_spot (Thread (codes "c")) (Thread (codes "s")) ≡ false
other_threads = refl

same_ops : same_spot (Op put) (Op put) ≡ true
same_ops = refl

other_ops : same_spot (Op put) (Op start) ≡ false
other_ops = refl

no_op : same_spot (Thread (codes "q")) (Op put) ≡ false
no_op = refl

no_thread : same_spot (Op put) (Thread (codes "q")) ≡ false
no_thread = refl

-- threads stand first, and the operations of plain objects nowhere
stand : spots_of ring ≡ Thread (codes "c") ∷ Thread (codes "s") ∷ Op put ∷ []
stand = refl

stand_alone : spots_among (own_of cyclic ∷ []) [] ≡ Thread (codes "c") ∷ []
stand_alone = refl

abbrev place : Spot → Option ℕ
place = spot_from 0 (spots_of ring)

first_place : place (Thread (codes "s")) ≡ Some 1
first_place = refl

no_place : place (Op start) ≡ None
no_place = refl

-- a call leads to the thread of its object, and to its operation
aimed_thread : aimed Threads start ≡ Thread (codes "s")
aimed_thread = refl

aimed_op : aimed Operations start ≡ Op start
aimed_op = refl

-- the body of q.put, by the kind of its object
abbrev body_of : Kind → Calls
body_of kind =
    body_calls ring kind (codes "q") (start ∷ [])
    (record { name = codes "put"; locals = []; block = block (call (codes "s") (codes "start") ∷ []) })

place_of_held : held_place place (body_of Protected) ≡ Some 2
place_of_held = refl

place_of_plain : held_place place (body_of Passive) ≡ None
place_of_plain = refl

edges_of_held : held_edges place Threads (body_of Protected ∷ body_of Passive ∷ []) ≡ (2, 1) ∷ []
edges_of_held = refl

edges_to_ops : held_edges place Operations (body_of Protected ∷ []) ≡ []
edges_to_ops = refl

-- the edges of a thread, where its name passes a test
source : source_place place (λ n. true) (own_of sporadic) ≡ Some 1
source = refl

no_source : source_place place (λ n. false) (own_of sporadic) ≡ None
no_source = refl

edges_of_thread : thread_edges ring place (λ n. true) (own_of sporadic) ≡ (1, 2) ∷ []
edges_of_thread = refl

edges_of_other_thread : thread_edges ring place (λ n. false) (own_of sporadic) ≡ []
edges_of_other_thread = refl

edges_of_both : start_edges ring place (λ n. true) (body_of Protected ∷ []) (own_of sporadic ∷ []) ≡ (2, 1) ∷ (1, 2) ∷ []
edges_of_both = refl

-- steps lead from the sporadic thread to what it calls and back, and from the cyclic one nowhere
step_on : starts_step ring 1 2 ≡ true
step_on = refl

step_back : starts_step ring 2 1 ≡ true
step_back = refl

step_of_cyclic : starts_step ring 0 2 ≡ false
step_of_cyclic = refl

-- the place that is kept for a thread, and for an operation
kept_thread : (t : Spots) (n : Name) → place_in t.threads n ≡ Some 3 → spot_in t (Thread n) ≡ Some 3
kept_thread t n is = is

kept_op : (t : Spots) (n : OpName) → at t.ops n ≡ None → spot_in t (Op n) ≡ None
kept_op t n none = none

-- a place that is marked, one that isn't, and none
mark_at : marked (false ∷ true ∷ []) (Some 1) ≡ true
mark_at = refl

no_mark_at : marked (false ∷ true ∷ []) (Some 0) ≡ false
no_mark_at = refl

mark_nowhere : marked (true ∷ []) None ≡ false
mark_nowhere = refl

-- all edges of a body, and the other way round
edges_of_all : all_held place (body_of Protected ∷ []) ≡ (2, 1) ∷ []
edges_of_all = refl

edges_of_plain : all_held place (body_of Passive ∷ []) ≡ []
edges_of_plain = refl

edge_back : turned (2, 1) ≡ (1, 2)
edge_back = refl
