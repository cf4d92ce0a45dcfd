use Rattle.std.proofs.Common.{◌≡◌, ℕ, Some, None, map, ap, subst, ◌∙◌}
use Rattle.std.specs.Prelude.{min, if◌then◌else◌}
use Rattle.seq_tree.specs.Calls.{block_calls}
use Rattle.seq_tree.specs.Dearest.{free}
use Rattle.seq_tree.specs.Lists.{Each}
use Rattle.seq_tree.specs.Names.{Name}
use Rattle.seq_tree.specs.Trees.{block_of}
use Rattle.seq_tree.specs.declared.tree.OpName.{OpName}
use Rattle.name_sets.specs.Tables.{number_at, or_0}
use Rattle.seq_cost.specs.Different.{call_of}
use Rattle.seq_cost.proofs.Shared.Listed.{block-same}
use Rattle.ods_tree.specs.Trees.{design_of}
use Rattle.ods_calls.specs.Requested.{call_weight, known_in}
use Rattle.ods_index.proofs.Shared.AccountSteps.{each-among}
use Rattle.ods_calls.proofs.RequestLaws.{call-cut, counted-cut}
use Rattle.ods_calls.proofs.requests.block_requests.Goals as goal

pub returns : goal.returns
returns c = λ inner agrees.
    let x = design_of c.args.links.now.design.now in
    let target = c.args.target.now in
    let needs = c.args.needs.now.ops.now in
    let known = known_in c.args.known.now in
    let b = block_of c.args.block.now in
    let account = c.in_ok-account.account in
    let w : Name → Name → ℕ = λ object op. call_weight x target known needs (record { object = object; op = op }) in
    let P : OpName → Type 0 = λ n. number_at account n.object n.op ≡ w n.object n.op in
    let each : Each P (map call_of c.as_slice.result.now) =
    each-among P (map call_of c.as_slice.result.now)
    (λ n h. ap or_0 (c.in_ok-account.ensures n ∙ ap (λ z. if z then Some (w n.object n.op) else None) h)) in
    let calls : map call_of c.as_slice.result.now ≡ block_calls b = ap (map call_of) c.as_slice.ensures.value ∙ c.in_ok-calls.ensures in
    c.counted_by.ensures ∙ ap (min 2) (block-same free (λ ticks. 0) (number_at account) w b (subst (Each P) calls each))
    ∙ counted-cut w (λ object op. call_weight x target inner needs (record { object = object; op = op })) b
    (λ object op. call-cut x target needs known inner agrees (record { object = object; op = op }))
