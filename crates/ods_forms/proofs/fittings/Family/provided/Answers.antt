use Rattle.std.proofs.Common.{◌∙◌, map, refl}
use Rattle.ods_tree.specs.Trees.{provided_of}
use Rattle.design_rules.specs.Lookups.{provided_named}
use Rattle.ods_index.specs.Walking.{object_of}
use Rattle.ods_index.proofs.Shared.TableSteps.{same_place}
use Rattle.ods_forms.proofs.fittings.Family.provided.Goals as goal

pub returns-in-Some : goal.returns-in-Some
returns-in-Some c =
    c.find.ensures
    ∙ same_place object_of (λ o. o.provides) (provided_named c.args.op.now) (λ t. map provided_of t.provides.now) c.args.self.now.ops.items
    c.args.self.now.children.now (map object_of c.args.self.now.children.now) c.args.place c.in-Some.ops c.requires.opened refl
    (rw c.deref.ensures.value at c.in-Some.ensures.lookup)
