use Rattle.std.proofs.Common.{Some, map, refl, subst}
use Rattle.std.specs.Prelude.{slice_get}
use Rattle.seq_tree.specs.Statements.{Call}
use Rattle.seq_tree.specs.Trees.{expression_of}
use Rattle.linker.specs.Standing.{CallStands, lists_of}
use Rattle.linker.proofs.Handing.{calls_grown}
use Rattle.linker.proofs.Linkages.{one_instruction}
use Rattle.linker.proofs.call.link_call.Goals as goal

pub returns : goal.returns
returns g c = λ out.
    let leads = g.C.Calls.leads c.args.calls.now in
    let unit = c.args.unit.now in
    let op = c.args.op.now in
    let es = map expression_of c.args.actuals.now in
    let scope = c.args.scope.now in
    let before = lists_of c.called.new.code in
    let i = c.in_ok-ins.ins in
    let stands : CallStands before scope (leads unit op) es (Some i) =
    subst (λ w. CallStands before scope w es (Some i)) c.target.ensures c.in_ok-ins.ensures.stands in
    one_instruction leads scope out c.in_ok-at.at c.args.end i (lists_of c.args.code.now) before (lists_of c.fill.new.code) (Call unit op es)
    c.in_ok-ins.ensures.added c.in_ok-fill.ensures c.in_ok-at.ensures refl
    (λ later h g' l. calls_grown before later scope (leads unit op) es (Some i) (slice_get later.ins c.in_ok-at.at) g' l h stands)
