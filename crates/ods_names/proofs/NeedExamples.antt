-- What the definitions of needs and of the names that are written hold of, and what breaks each alone.
use Rattle.std.proofs.Common.{◌≡◌, true, false, [], ◌∷◌, Some, refl}
use Rattle.std.specs.Prelude.{codes}
use Rattle.ods_tree.specs.Walk.{Standing, own_of}
use Rattle.ods_tree.proofs.Shared.Short.{design}
use Rattle.design_rules.specs.Broken.{V06, V07, V08}
use Rattle.ods_names.specs.Needs.{bad_needs, breaks, told_by}
use Rattle.ods_names.specs.NameLists.{all_names}
use Rattle.ods_names.specs.declared.uses.Rule.TheVariants as rule
use Rattle.ods_index.proofs.Shared.SmallDesign.{f, g, go, passive, guarded, root, x, alone}

-- an object needs what is near, there and allowed
abbrev near : Standing
near = record { own = own_of guarded; parent = Some (own_of root); siblings = own_of passive ∷ own_of guarded ∷ []; children = [] }

near_is : breaks rule.Near x near f ≡ false
near_is = refl

near_not : breaks rule.Near x near go ≡ true
near_not = refl

there_is : breaks rule.There x near f ≡ false
there_is = refl

there_not : breaks rule.There x near (record { object = codes "p"; op = codes "h" }) ≡ true
there_not = refl

allowed_is : breaks rule.Allowed x near f ≡ false
allowed_is = refl

allowed_not : breaks rule.Allowed x (alone passive) g ≡ true
allowed_not = refl

told_near : told_by rule.Near (codes "q") f ≡ V06 (codes "q") f
told_near = refl

told_there : told_by rule.There (codes "q") f ≡ V07 (codes "q") f
told_there = refl

told_allowed : told_by rule.Allowed (codes "q") f ≡ V08 (codes "q") f
told_allowed = refl

needs_fine : bad_needs rule.There x near ≡ []
needs_fine = refl

needs_bad : bad_needs rule.Near x (alone guarded) ≡ V06 (codes "q") f ∷ []
needs_bad = refl

-- all names that are written, in order
names_written : all_names (design passive) ≡ codes "d" ∷ codes "p" ∷ codes "f" ∷ codes "f" ∷ []
names_written = refl
