-- The places of the graph of starts, as a table gets them from the last to the first.
use Rattle.std.proofs.Common.{◌≡◌, ℕ, suc, ◌+◌, ◌<◌, Bool, List, ◌++◌, map, drop, get_or, length, Option, Some, None, ap, sym, ◌∙◌}
use Rattle.std.proofs.Common.{append_assoc, if◌then◌else◌, arith}
use Rattle.seq_tree.proofs.Shared.LoopSteps.{drop_step}
use Rattle.seq_tree.specs.Names.{Name}
use Rattle.seq_tree.specs.declared.tree.OpName.{OpName}
use Rattle.name_sets.specs.FirstPlaces.{place_where}
use Rattle.name_sets.specs.Places.{place_in}
use Rattle.name_sets.specs.Tables.{at}
use Rattle.ods_tree.specs.Designs.{Design, Object}
use Rattle.ods_index.specs.Calling.{Calls}
use Rattle.ods_calls.specs.Spotted.{spot_in}
use Rattle.ods_calls.specs.Starting.{Op, Spot, Thread, start_edges}
use Rattle.ods_calls.specs.declared.spots.Spots.{Spots}
use Rattle.call_graph.specs.Edges.{edges_to, edges_from}

-- no places
pub none-in : (t : Spots) → ((n : Name) → place_in t.threads n ≡ None) → ((n : OpName) → at t.ops n ≡ None) → (s : Spot) → spot_in t s ≡ None
none-in t threads ops (Thread n) = threads n
none-in t threads ops (Op n) = ops n

-- one place before others
pub place-before : {A B : Type 0} (test : B → Bool) (see : A → B) (xs : List A) (k next : ℕ) (a : A) → k < length xs → a ≡ get_or xs k a
    → next ≡ suc k
    → place_where test k (map see (drop k xs)) ≡ (if test (see a) then Some k else place_where test next (map see (drop next xs)))
place-before {A} test see xs k next a inside at is =
    ap (λ (ys : List A). place_where test k (map see ys)) (drop_step xs k a inside at)
    ∙ ap (λ (i : ℕ). if test (see a) then Some k else place_where test (suc k) (map see (drop i xs))) more
    ∙ ap (λ (i : ℕ). if test (see a) then Some k else place_where test i (map see (drop i xs))) (sym is)
  where
    more : k + 1 ≡ suc k
    more = omega arith

-- the edges from one place to two parts of what calls lead to
pub edges-both : (one two : OpName → Option ℕ) (from : ℕ) (at : Option ℕ) (ks vs ws : List OpName) (old mid new : List (ℕ × ℕ)) → Some from ≡ at
    → vs ≡ ks → ws ≡ ks → mid ≡ old ++ edges_to one from vs → new ≡ mid ++ edges_to two from ws
    → new ≡ old ++ (edges_from one at ks ++ edges_from two at ks)
edges-both one two from at ks vs ws old mid new here first second was is =
    is ∙ ap (λ es. es ++ edges_to two from ws) was ∙ append_assoc old (edges_to one from vs) (edges_to two from ws)
    ∙ ap (λ ls. old ++ (edges_to one from ls ++ edges_to two from ws)) first
    ∙ ap (λ ls. old ++ (edges_to one from ks ++ edges_to two from ls)) second
    ∙ ap (λ o. old ++ (edges_from one o ks ++ edges_from two o ks)) here

-- edges by other words for the same
pub edges-same : (x y : Design) (place other : Spot → Option ℕ) (target aim : Name → Bool) (cs ds : List Calls) (os ps : List Object) → x ≡ y
    → place ≡ other → target ≡ aim → cs ≡ ds → os ≡ ps → start_edges x place target cs os ≡ start_edges y other aim ds ps
edges-same x y place other target aim cs ds os ps design places targets calls objects =
    ap (λ z. start_edges z place target cs os) design ∙ ap (λ f. start_edges y f target cs os) places
    ∙ ap (λ f. start_edges y other f cs os) targets ∙ ap (λ l. start_edges y other aim l os) calls ∙ ap (λ l. start_edges y other aim ds l) objects
