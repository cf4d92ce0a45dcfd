-- Examples: which bodies are held, what they call, and which threads are targets, and what breaks each of them alone.
use Rattle.std.specs.Prelude.{◌≡◌, true, false, [], ◌∷◌, codes, refl}
use Rattle.ods_tree.specs.Designs.{Object}
use Rattle.ods_tree.specs.declared.design.Kind.TheVariants.{Protected, Sporadic, Cyclic}
use Rattle.ods_calls.specs.Held.{held_bodies, is_held}
use Rattle.ods_index.specs.Calling.{Calls}
use Rattle.ods_tree.specs.declared.design.Kind.{Kind}
use Rattle.ods_calls.specs.Keys.{has_target, is_target}
use Rattle.ods_calls.proofs.SmallParts.{calls_set, keeper, outer, put, set, small}

-- the body of its operation in an object of this kind
abbrev body_in : Kind → Calls
body_in kind = record { kind = kind; name = put; needs = set ∷ []; block = calls_set; meant = set ∷ [] }

held : is_held (body_in Protected) ≡ true
held = refl

not_held : is_held (body_in Sporadic) ≡ false
not_held = refl

held_there : held_bodies (small (keeper (set ∷ []))) ≡ body_in Protected ∷ []
held_there = refl

not_protected : held_bodies (small (record (keeper (set ∷ [])) { kind = Sporadic })) ≡ []
not_protected = refl

-- a thread of this kind
abbrev thread : Kind → Object
thread kind = record outer { name = codes "a"; kind = kind; attrs = [] }

target : is_target (codes "a") (thread Sporadic) ≡ true
target = refl

target_of_another_name : is_target (codes "b") (thread Sporadic) ≡ false
target_of_another_name = refl

target_not_sporadic : is_target (codes "a") (thread Cyclic) ≡ false
target_not_sporadic = refl

one_sporadic : has_target (thread Cyclic ∷ thread Sporadic ∷ []) (codes "a") ≡ true
one_sporadic = refl

none_sporadic : has_target (thread Cyclic ∷ []) (codes "a") ≡ false
none_sporadic = refl
