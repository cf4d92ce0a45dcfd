use Rattle.std.proofs.Common.{◌∙◌, map, refl}
use Rattle.ods_index.specs.Walking.{object_of}
use Rattle.ods_index.proofs.Shared.TableSteps.{place_found}
use Rattle.ods_forms.proofs.fittings.Family.place.Goals as goal

pub returns : goal.returns
returns c =
    place_found object_of (λ o. o.name) c.args.name.now c.args.self.now.children.now (map object_of c.args.self.now.children.now) c.get.result refl
    (c.get.ensures ∙ c.requires.named c.args.name.now)
