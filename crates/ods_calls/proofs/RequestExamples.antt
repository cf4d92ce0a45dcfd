-- Examples: which operations call what, what is due, and what is told of sources, and what breaks each of them alone.
use Rattle.std.specs.Prelude.{◌≡◌, ◌⊎◌, ℕ, true, false, List, [], ◌∷◌, Some, None, codes, refl}
use Rattle.std.proofs.Common.{inl, inr, arith, ap}
use Rattle.seq_tree.specs.Calls.{same_op}
use Rattle.seq_tree.specs.declared.tree.OpName.{OpName}
use Rattle.name_sets.specs.Tables.{at, or_0}
use Rattle.name_sets.specs.declared.op_table.OpTable.{OpTable}
use Rattle.ods_tree.specs.Designs.{Object}
use Rattle.ods_tree.specs.declared.design.Kind.TheVariants.{Protected}
use Rattle.design_rules.specs.Broken.{V10}
use Rattle.ods_calls.specs.Requested.{AreDue, Knows, changes, greatest_count, held_count, held_named, object_callers, op_callers, source_fault}
use Rattle.ods_index.specs.Calling.{Calls, body_calls}
use Rattle.ods_calls.specs.Sourced.{reaches_by}
use Rattle.ods_calls.proofs.SmallParts.{calls_set, keeper, outer, put, put_body, set, small}

abbrev body_with : List OpName → Calls
body_with needs = body_calls (small outer) Protected (codes "k") needs put_body

named_so : held_named put (body_with []) ≡ body_with [] ∷ []
named_so = refl

named_otherwise : held_named set (body_with []) ≡ []
named_otherwise = refl

calls_the_op : op_callers set (body_with (set ∷ [])) ≡ put ∷ []
calls_the_op = refl

calls_another_op : op_callers put (body_with (set ∷ [])) ≡ []
calls_another_op = refl

calls_the_object : object_callers (codes "q") (body_with (set ∷ [])) ≡ put ∷ []
calls_the_object = refl

calls_another_object : object_callers (codes "k") (body_with (set ∷ [])) ≡ []
calls_another_object = refl

requests_once : held_count (small outer) (codes "q") (λ n. 0) (body_with (set ∷ [])) ≡ 1
requests_once = refl

requests_through : held_count (small outer) (codes "p") (λ n. 3) (body_with (set ∷ [])) ≡ 3
requests_through = refl

requests_none : held_count (small outer) (codes "q") (λ n. 3) (body_with []) ≡ 0
requests_none = refl

greatest_of_two : greatest_count (small outer) (codes "q") (λ n. 3) (body_with [] ∷ body_with (set ∷ []) ∷ []) ≡ 1
greatest_of_two = refl

empty_knows : (t : OpTable ℕ) → ((n : OpName) → at t n ≡ None) → Knows t (λ n. 0)
empty_knows t none n = ap or_0 (none n)

empty_knows_no_request : (t : OpTable ℕ) → ((n : OpName) → at t n ≡ None) → Knows t (λ n. 1) → ⊥
empty_knows_no_request t none knows =
    (let y : or_0 (at t set) ≡ 0 = ap or_0 (none set) in let z : or_0 (at t set) ≡ 1 = knows set in omega (arith, y, z))

changed : (known counts : OpTable ℕ) → at known set ≡ None → at counts set ≡ Some 1 → changes known counts set ≡ true
changed known counts k c = rw (k, c) refl

unchanged : (known counts : OpTable ℕ) → at known set ≡ None → at counts set ≡ Some 0 → changes known counts set ≡ false
unchanged known counts k c = rw (k, c) refl

none_due : AreDue (small outer) (codes "q") 0 []
none_due n = inr refl

caller_is_due : AreDue (small (keeper (set ∷ []))) (codes "q") 0 [] → ⊥
caller_is_due due = by (due put)
  where
    by : (false ≡ true) ⊎ (◌≡◌ {A = ℕ} 0 1) → ⊥
    by (inl e) = cc
    by (inr e) = omega (arith, e)

-- a thread that calls q.set
abbrev asker : Object
asker = record outer { name = codes "a"; attrs = []; needs = set ∷ []; thread = Some calls_set }

called_by_thread : reaches_by (small outer) (codes "q") (λ m. false) asker ≡ true
called_by_thread = refl

led_to : reaches_by (small outer) (codes "s") (λ m. same_op m set) asker ≡ true
led_to = refl

not_reached : reaches_by (small outer) (codes "s") (λ m. false) asker ≡ false
not_reached = refl

from_outside : source_fault (small outer) outer ≡ None
from_outside = refl

no_source : source_fault (small outer) (record outer { attrs = [] }) ≡ Some (V10 (codes "q") 0 0)
no_source = refl

not_sporadic : source_fault (small outer) (record outer { attrs = []; kind = Protected }) ≡ None
not_sporadic = refl
