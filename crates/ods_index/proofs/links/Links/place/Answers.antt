use Rattle.std.proofs.Common.{refl, ap, ◌∙◌}
use Rattle.std.specs.Prelude.{unwrap_or}
use Rattle.seq_tree.specs.declared.tree.OpName.{OpName}
use Rattle.name_sets.specs.Tables.{at}
use Rattle.ods_tree.specs.Trees.{design_of}
use Rattle.ods_index.specs.Scoped.{meaning_at, scope_trees}
use Rattle.ods_index.proofs.LinkLaws.{resolved}
use Rattle.ods_index.proofs.links.Links.place.Goals as goal

pub returns : goal.returns
returns c =
    let names = c.args.self.now.names in
    let name : OpName = record { object = c.args.object.now; op = c.args.op.now } in
    c.meaning_place.ensures
    ∙ ap (λ ss. at c.args.places.now (unwrap_or (meaning_at (scope_trees ss) names name.object name.op) name)) c.as_slice.ensures.value
    ∙ ap (at c.args.places.now)
    (resolved (scope_trees c.args.self.now.scopes.items) names (design_of c.args.self.now.design.now) name
    (meaning_at (scope_trees c.args.self.now.scopes.items) names name.object name.op) c.args.self.now.named refl)
