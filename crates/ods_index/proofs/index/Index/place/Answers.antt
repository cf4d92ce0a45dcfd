use Rattle.std.proofs.Common.{◌∙◌}
use Rattle.ods_tree.specs.Trees.{design_of}
use Rattle.ods_tree.specs.Walk.{objects}
use Rattle.ods_index.specs.Walking.{standing_of}
use Rattle.ods_index.proofs.Shared.TableSteps.{place_found}
use Rattle.ods_index.proofs.index.Index.place.Goals as goal

pub returns-clause-found : goal.returns-clause-found
returns-clause-found c =
    place_found standing_of (λ s. s.own.name) c.args.name.now c.args.self.now.objects.items
    (objects (design_of c.args.self.now.design.now)) c.get.result
    c.requires.walked (c.get.ensures ∙ c.requires.placed c.args.name.now)
