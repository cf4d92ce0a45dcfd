use Rattle.std.proofs.Common.{◌∙◌, option_and_then, ap, sym}
use Rattle.ods_tree.specs.Trees.{provided_of}
use Rattle.ods_index.proofs.Shared.TableSteps.{at_place, found_place, got_as}
use Rattle.ods_index.proofs.tables.ProvidedOps.find.Goals as goal

pub returns-in-None : goal.returns-in-None
returns-in-None c =
    ap (option_and_then (at_place provided_of c.args.self.now.provides.now)) (sym c.in-None.is ∙ c.get.ensures ∙ c.args.self.now.held c.args.op.now)
    ∙ found_place provided_of (λ p. p.sig.name) c.args.op.now c.args.self.now.provides.now

pub returns-in-Some : goal.returns-in-Some
returns-in-Some c =
    got_as provided_of c.args.self.now.provides.now c.in-Some.place c.get-in-Some.result c.get-in-Some.ensures.lookup
    ∙ ap (option_and_then (at_place provided_of c.args.self.now.provides.now)) (sym c.in-Some.is ∙ c.get.ensures ∙ c.args.self.now.held c.args.op.now)
    ∙ found_place provided_of (λ p. p.sig.name) c.args.op.now c.args.self.now.provides.now
