use Rattle.std.proofs.Common.{IfOk, subst, ◌∙◌}
use Rattle.rings.specs.Graphs.{is_step}
use Rattle.rings.specs.Reached.{IsFirstOnRing}
use Rattle.ada_rules.proofs.rounds.first_ringed.Goals as goal

pub returns : goal.returns
returns g c =
    subst (λ es. IfOk c.first_on_ring.result (IsFirstOnRing (is_step c.args.count es))) (c.as_slice.ensures.value ∙ c.in_ok-edges.ensures)
    c.first_on_ring.ensures
