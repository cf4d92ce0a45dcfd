use Rattle.std.proofs.Common.{◌≡◌, ◌+◌, arith, length, refl, ap, sym, subst, ◌∙◌}
use Rattle.std.specs.Prelude.{option_map}
use Rattle.std.proofs.lemmas.Option.{same_Some, slice_get-map, slice_get_read}
use Rattle.law_flat_code.specs.Codes.{BlockStands, block_size}
use Rattle.linker.specs.Callees.{body_of}
use Rattle.linker.specs.Programs.{op_part}
use Rattle.linker.specs.Scopes.{slots_of}
use Rattle.linker.specs.Standing.{Has, lists_of}
use Rattle.linker.proofs.Shared.Starts.{body_stands}
use Rattle.task_runtime.specs.Reserving.{CallsFit, InnersFit, extent_of}
use Rattle.task_runtime.proofs.Tables.{body_room, if_some, inner_there}
use Rattle.task_runtime.proofs.reserve.op_room.Goals as goal

pub returns-then-place-len-2 : goal.returns-then-place-len-2
returns-then-place-len-2 c =
    let code = c.args.code.now in
    let place = c.args.place in
    let d = c.index-body.result.now in
    let n = c.index.result.now in
    let calls = c.in_ok-calls.calls in
    let linked = c.requires.linked.1 in
    let op = slice_get_read code.ops.items (length code.ops.items) place d refl
    (omega (arith, c.if-place-len.true, c.len.ensures, code.ops.ok.0)) c.index-body.ensures in
    let at_start = slice_get_read code.starts.items (length code.starts.items) place n refl
    (omega (arith, c.if-place-len-2.true, c.len-then-place-len.ensures, code.starts.ok.0)) c.index.ensures in
    if_some _ _ c.with_body.result c.with_body.ensures (λ room is b start there starts.
    let same : body_of d ≡ b = same_Some (body_of d) b (sym (slice_get-map body_of code.ops.items place ∙ ap (option_map body_of) op) ∙ there) in
    let same_start : n ≡ start = same_Some n start (sym at_start ∙ starts) in
    let k = body_stands c.requires.linked.0 code linked place b there in
    let stands = subst (λ s. BlockStands (Has linked.leads (lists_of code.code)) (slots_of (op_part b).names) 0 s b.op.block) (same_Some k.0 start (sym k.1 ∙ starts)) k.2.0 in
    let fits : CallsFit code calls start (start + block_size b.op.block) =
    subst (InnersFit code calls) same_start c.in_ok-calls.ensures (start + block_size b.op.block)
    (λ at x from to here. inner_there linked.leads (lists_of code.code) (op_part b).names b.op.block start stands at x from to here) in
    body_room code calls room (extent_of b start) fits
    (is.0, (let e = ap (λ q. length (op_part q).names) same in omega (arith, is.1, c.in_ok-slots.ensures, e))))
