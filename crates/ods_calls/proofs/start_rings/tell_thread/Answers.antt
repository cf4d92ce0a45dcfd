use Rattle.std.proofs.Common.{Some, ap, sym, ◌∙◌}
use Rattle.design_rules.specs.Broken.{V09Starts}
use Rattle.ods_index.specs.Nodes.{node_name}
use Rattle.ods_index.proofs.Shared.TableSteps.{got_as}
use Rattle.ods_index.proofs.Shared.WalkSteps.{own_fields}
use Rattle.ods_calls.proofs.start_rings.tell_thread.Goals as goal

pub returns : goal.returns
returns c =
    sym (got_as (λ n. V09Starts (node_name n)) c.args.threads.now c.args.place (Some c.in-Some.node) c.in-Some.ensures.lookup)
    ∙ ap (λ n. Some (V09Starts n)) (ap (λ o. o.name) (own_fields c.in-Some.node.now.now) ∙ sym c.in_ok-thread.ensures)
