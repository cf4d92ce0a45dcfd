-- Examples: what threads are found to reach, and what breaks each definition alone.
use Rattle.std.specs.Prelude.{◌≡◌, true, false, [], ◌∷◌, codes, refl}
use Rattle.std.proofs.Common.{sym, ◌∙◌}
use Rattle.seq_tree.specs.declared.tree.OpName.{OpName}
use Rattle.name_sets.specs.Sets.{has_op}
use Rattle.name_sets.specs.declared.sets.Ops.{Ops}
use Rattle.ods_calls.specs.Spreading.{IsSeen, found_all, found_more, led, of_object, reaches}
use Rattle.ods_calls.proofs.SmallParts.{caller, set, small}

abbrev get : OpName
get = record { object = codes "q"; op = codes "get" }

found_once : found_more [] set ≡ set ∷ []
unfolding found_more
found_once = refl

found_before : found_more (set ∷ []) set ≡ set ∷ []
unfolding found_more
found_before = refl

found_two : found_all [] (set ∷ get ∷ set ∷ []) ≡ set ∷ get ∷ []
unfolding found_more
found_two = refl

-- a set that has none is that of no operations, and of no others
seen_none : (s : Ops) → ((n : OpName) → has_op s n ≡ false) → IsSeen s []
seen_none s none n = none n

seen_some : (s : Ops) → ((n : OpName) → has_op s n ≡ false) → IsSeen s (set ∷ []) → ⊥
seen_some s none seen = (let z : false ≡ true = sym (none set) ∙ seen set in cc)

-- a call leads to its own object, where that is of this name
of_its_object : of_object (codes "q") set ≡ true
of_its_object = refl

of_no_other : of_object (codes "a") set ≡ false
of_no_other = refl

led_by_itself : led (small (caller [])) (codes "q") set ≡ true
led_by_itself = refl

led_nowhere : led (small (caller [])) (codes "a") set ≡ false
led_nowhere = refl

reached_by_call : reaches (small (caller (set ∷ []))) (caller (set ∷ [])) (codes "q") ≡ true
reached_by_call = refl

not_reached_without_need : reaches (small (caller [])) (caller []) (codes "q") ≡ false
not_reached_without_need = refl
