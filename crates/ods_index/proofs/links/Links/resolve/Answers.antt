use Rattle.std.proofs.Common.{sym, ap, ◌∙◌, Some, None, option_map}
use Rattle.ods_tree.specs.Trees.{design_of}
use Rattle.ods_index.specs.Scoped.{meaning_at, scope_trees}
use Rattle.ods_index.proofs.LinkLaws.{resolved}
use Rattle.ods_index.proofs.links.Links.resolve.Goals as goal
use Rattle.seq_cost.specs.Different.{call_of}

pub returns-in-None : goal.returns-in-None
returns-in-None c =
    resolved (scope_trees c.args.self.now.scopes.items) c.args.self.now.names (design_of c.args.self.now.design.now)
    (call_of c.args.name) None c.args.self.now.named
    (ap (option_map call_of) (sym c.in-None.is) ∙ c.meaning.ensures
    ∙ ap (λ ss. meaning_at (scope_trees ss) c.args.self.now.names c.args.name.object.now c.args.name.op.now) c.as_slice.ensures.value)

pub returns-in-Some : goal.returns-in-Some
returns-in-Some c =
    resolved (scope_trees c.args.self.now.scopes.items) c.args.self.now.names (design_of c.args.self.now.design.now) (call_of c.args.name)
    (Some (call_of c.in-Some.meant)) c.args.self.now.named
    (ap (option_map call_of) (sym c.in-Some.is) ∙ c.meaning.ensures
    ∙ ap (λ ss. meaning_at (scope_trees ss) c.args.self.now.names c.args.name.object.now c.args.name.op.now) c.as_slice.ensures.value)
