use Rattle.std.proofs.Common.{ap, sym, ◌∙◌}
use Rattle.ods_calls.specs.Spotted.{spot_in}
use Rattle.ods_calls.specs.Starting.{Thread}
use Rattle.ods_calls.proofs.SourceLaws.{own-name}
use Rattle.ods_calls.proofs.sources.Shown.is_fine.Goals as goal

pub is_fine_at-requires-clause-at : goal.is_fine_at-requires-clause-at
is_fine_at-requires-clause-at c =
    ap (λ n. spot_in c.args.self.now.starts.spots (Thread n)) (sym (own-name c.args.node.now)) ∙ sym c.thread.ensures ∙ c.in-Some.is
