use Rattle.std.proofs.Common.{◌∙◌, map}
use Rattle.ods_tree.specs.Trees.{design_of, provided_of}
use Rattle.ods_tree.specs.Walk.{objects}
use Rattle.design_rules.specs.Lookups.{provided_named}
use Rattle.ods_index.specs.Walking.{standing_of}
use Rattle.ods_index.proofs.Shared.TableSteps.{same_place}
use Rattle.ods_index.proofs.index.Index.provided.Goals as goal

pub returns-in-Some : goal.returns-in-Some
returns-in-Some c =
    c.find.ensures
    ∙ same_place standing_of (λ s. s.own.provides) (provided_named c.args.op.now) (λ t. map provided_of t.provides.now) c.args.self.now.ops.items
    c.args.self.now.objects.items (objects (design_of c.args.self.now.design.now)) c.args.place c.in-Some.ops c.requires.opened c.requires.walked
    (rw c.deref.ensures.value at c.in-Some.ensures.lookup)
