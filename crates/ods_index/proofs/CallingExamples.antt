-- What the bodies of a small design call, and what breaks each part alone.
use Rattle.std.proofs.Common.{◌≡◌, [], ◌∷◌, true, false, List, map, ap, sym, refl, ◌∙◌}
use Rattle.seq_tree.specs.Calls.{same_op}
use Rattle.seq_tree.specs.Statements.{End, Statement, Statements, Then, Work}
use Rattle.seq_tree.specs.declared.tree.OpName.{OpName}
use Rattle.ods_tree.specs.Designs.{Tree, Node}
use Rattle.ods_tree.specs.Walk.{own_of}
use Rattle.ods_tree.specs.declared.design.Kind.{Kind}
use Rattle.ods_tree.specs.declared.design.Kind.TheVariants.{Passive, Protected}
use Rattle.ods_tree.proofs.Shared.Short.{block, call, design, trees}
use Rattle.ods_index.specs.Calling.{Calls, design_calls, object_calls, meant_by}
use Rattle.ods_index.proofs.Shared.SmallDesign.{by_root, f, g, go, guarded, passive, x}

-- yes is not no, and something is not nothing
yes_not_no : true ∷ [] ≡ false ∷ [] → ⊥
yes_not_no e = absurd (cc)

some_not_none : {A : Type 0} (a : A) → (a ∷ []) ∷ [] ≡ [] ∷ [] → ⊥
some_not_none a e = absurd (cc)

-- a block that calls an operation of the root, which means one of another object
abbrev asks_root : Statements
asks_root = block (call by_root.object by_root.op ∷ [])

-- a required call is followed, and one that is not required, or not made, is none
followed : meant_by x (by_root ∷ []) asks_root ≡ f ∷ []
followed = refl

not_followed : meant_by x (by_root ∷ []) asks_root ≡ by_root ∷ [] → ⊥
not_followed e = yes_not_no (ap (map (same_op f)) e)

not_required : meant_by x (go ∷ []) asks_root ≡ []
not_required = refl

not_made : meant_by x (go ∷ f ∷ []) (block (Work 3 ∷ [])) ≡ []
not_made = refl

-- the bodies of objects
abbrev of_passive : Calls
of_passive = record { kind = Passive; name = f; needs = []; block = block (Work 3 ∷ []); meant = [] }

abbrev of_guarded : Kind → OpName → List OpName → Statements → List OpName → Calls
of_guarded kind name needs body meant = record { kind = kind; name = name; needs = needs; block = body; meant = meant }

abbrev calls_f : Statements
calls_f = block (call f.object f.op ∷ [])

guarded_calls : object_calls x (own_of guarded) ≡ of_guarded Protected g (f ∷ []) calls_f (f ∷ []) ∷ []
guarded_calls = refl

not_passive : Protected ∷ [] ≡ Passive ∷ [] → ⊥
not_passive e = absurd (cc)

not_ended : (s : Statement) (ss : Statements) → Then s ss ∷ [] ≡ End ∷ [] → ⊥
not_ended s ss e = absurd (cc)

other_kind : object_calls x (own_of guarded) ≡ of_guarded Passive g (f ∷ []) calls_f (f ∷ []) ∷ [] → ⊥
other_kind e = not_passive (ap (map (λ c. c.kind)) (sym guarded_calls ∙ e))

other_name : object_calls x (own_of guarded) ≡ of_guarded Protected f (f ∷ []) calls_f (f ∷ []) ∷ [] → ⊥
other_name e = yes_not_no (ap (map (λ c. same_op g c.name)) (sym guarded_calls ∙ e))

other_needs : object_calls x (own_of guarded) ≡ of_guarded Protected g [] calls_f (f ∷ []) ∷ [] → ⊥
other_needs e = some_not_none f (ap (map (λ c. c.needs)) (sym guarded_calls ∙ e))

other_block : object_calls x (own_of guarded) ≡ of_guarded Protected g (f ∷ []) (block []) (f ∷ []) ∷ [] → ⊥
other_block e = not_ended _ _ (ap (map (λ c. c.block)) (sym guarded_calls ∙ e))

other_calls : object_calls x (own_of guarded) ≡ of_guarded Protected g (f ∷ []) calls_f [] ∷ [] → ⊥
other_calls e = some_not_none f (ap (map (λ c. c.meant)) (sym guarded_calls ∙ e))

-- the whole design, in flattened order; an object with children has no bodies here
all_calls : design_calls x ≡ of_passive ∷ of_guarded Protected g (f ∷ []) calls_f (f ∷ []) ∷ []
all_calls = refl

abbrev parent_with_body : Tree
parent_with_body = Node (own_of guarded) (trees (passive ∷ []))

none_of_parent : design_calls (design parent_with_body) ≡ of_passive ∷ []
none_of_parent = refl
