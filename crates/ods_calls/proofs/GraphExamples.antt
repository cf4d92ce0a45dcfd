-- What the definitions of the graph of calls hold of, and what breaks each alone.
use Rattle.std.proofs.Common.{◌≡◌, ℕ, true, false, [], ◌∷◌, Option, refl}
use Rattle.std.specs.Prelude.{codes}
use Rattle.seq_tree.specs.declared.tree.OpName.{OpName}
use Rattle.ods_tree.specs.declared.design.Kind.TheVariants.{Protected}
use Rattle.ods_tree.proofs.Shared.Short.{block, call}
use Rattle.ods_index.specs.Calling.{Calls, body_calls}
use Rattle.ods_calls.specs.Graphed.{body_edges, calls_step}
use Rattle.name_sets.specs.FirstPlaces.{op_place_from}
use Rattle.ods_index.proofs.Shared.SmallDesign.{f, g, x}

-- the places of operations
abbrev place : OpName → Option ℕ
place = op_place_from 0 (f ∷ g ∷ [])

-- a body of q, which requires p.f and calls it
abbrev body_of_q : OpName → Calls
body_of_q n = body_calls x Protected n.object (f ∷ []) (record { name = n.op; locals = []; block = block (call (codes "p") (codes "f") ∷ []) })

edges_of_body : body_edges (λ c. place c.name) place (body_of_q g) ≡ (1, 0) ∷ []
edges_of_body = refl

edges_of_other_body : body_edges (λ c. place c.name) place (body_of_q (record { object = codes "q"; op = codes "h" })) ≡ []
edges_of_other_body = refl

-- a step goes from the place of who calls to that of who is called, and not back
calls_step_is : calls_step x (f ∷ g ∷ []) 1 0 ≡ true
calls_step_is = refl

calls_step_back : calls_step x (f ∷ g ∷ []) 0 1 ≡ false
calls_step_back = refl
