use Rattle.std.proofs.Common.{Option, map, find, zip, ap, ◌∙◌}
use Rattle.std.proofs.Math.Path.{fun_ext}
use Rattle.seq_tree.specs.Names.{Name}
use Rattle.seq_tree.specs.Operations.{Offer, Operation}
use Rattle.seq_tree.specs.Runs.{Asked, Plain, Protected}
use Rattle.seq_tree.specs.Trees.{offer_of, operation_of}
use Rattle.seq_tree.specs.declared.tree.OpName.{OpName}
use Rattle.seq_eval.specs.Calls.{callee_of, first_callee}
use Rattle.seq_eval.specs.Following.{is_offered, is_plain}
use Rattle.seq_eval.proofs.Offering.{by-lists}
use Rattle.seq_eval.proofs.calls.Calls.of.Goals as goal

pub returns : goal.returns
returns c = fun_ext (λ object. fun_ext (λ op.
    let a = c.args in
    let n : OpName = record { object = object; op = op } in
    let plain : Option (Name × Operation) = find (is_plain object op) (zip a.owners.now (map operation_of a.passive.now)) in
    let shared : Option Offer = find (is_offered object op) (map offer_of a.shared.now) in
    let request : Option Offer = find (is_offered object op) (map offer_of a.requests.now) in
    c.in_ok-add_passive.ensures n
    ∙ ap (first_callee (λ o. Plain o.1) plain) (c.in_ok-add_shared.ensures n
    ∙ ap (first_callee (λ o. Protected o.sig.params) shared) (c.in_ok-add_requests.ensures n
    ∙ ap (λ t. first_callee (λ o. Asked) request (callee_of t)) (c.none-calls.ensures n)))
    ∙ by-lists plain shared request))
