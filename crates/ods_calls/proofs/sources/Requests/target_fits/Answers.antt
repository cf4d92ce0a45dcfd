use Rattle.std.proofs.Common.{rules, ◌≡◌, ◌∙◌, false, true, ap, sym}
use Rattle.std.specs.Prelude.{is_some}
use Rattle.design_rules.specs.Lookups.{is_sporadic}
use Rattle.ods_calls.specs.Spotted.{spot_in}
use Rattle.ods_calls.specs.Starting.{Thread}
use Rattle.ods_calls.proofs.SourceLaws.{own-kind, own-name}
use Rattle.ods_calls.proofs.sources.Requests.target_fits.Goals as goal

pub returns-then-is_fine : goal.returns-then-is_fine
returns-then-is_fine c =
    let yes : c.is_fine.result ≡ true = search rules in
    c.is_fine.ensures yes

pub counted_fits-requires-clause-sporadic : goal.counted_fits-requires-clause-sporadic
counted_fits-requires-clause-sporadic c =
    let yes : c.is_sporadic.result ≡ true = search rules in
    ap is_sporadic (sym (own-kind c.args.node.now)) ∙ sym c.is_sporadic.ensures ∙ yes

pub counted_fits-requires-clause-at : goal.counted_fits-requires-clause-at
counted_fits-requires-clause-at c =
    ap (λ n. spot_in c.args.self.now.shown.starts.spots (Thread n)) (sym (own-name c.args.node.now)) ∙ sym c.thread.ensures ∙ c.in-Some.is

pub returns-in-None : goal.returns-in-None
returns-in-None c =
    let z : false ≡ true =
    ap is_some (sym c.in-None.is ∙ c.thread.ensures
    ∙ ap (λ n. spot_in c.args.self.now.shown.starts.spots (Thread n)) (own-name c.args.node.now)) ∙ c.requires.stands in
    absurd (cc)
