use Rattle.std.proofs.Common.{◌+◌, arith}
use Rattle.law_flat_code.specs.Codes.{block_size}
use Rattle.linker.specs.Programs.{task_part}
use Rattle.linker.specs.Standing.{lists_of}
use Rattle.task_runtime.specs.Written.{block_of_thread, thread_of}
use Rattle.task_runtime.specs.Bodies.{first_body}
use Rattle.task_runtime.specs.Reserving.{extent_in}
use Rattle.task_runtime.proofs.Bounds.{block_stands}
use Rattle.task_runtime.proofs.Tables.{body_room, if_some, inner_there}
use Rattle.task_runtime.proofs.reserve.block_room.Goals as goal

pub returns : goal.returns
returns c =
    let code = c.args.code.now in
    let th = c.args.thread in
    let start = c.args.start in
    let block = block_of_thread th in
    let calls = c.in_ok-calls.calls in
    let stands = (block_stands code th c.requires.works c.requires.linked start c.requires.start).0 in
    let fits = c.in_ok-calls.ensures (start + block_size block)
    (λ at x from to is. inner_there c.requires.linked.leads (lists_of code.code) (task_part (thread_of th)).names block start stands at x from to is) in
    if_some _ _ c.with_body.result c.with_body.ensures (λ room is.
    body_room code calls room (extent_in (first_body th start)) fits
    (is.0, omega (arith, is.1, c.in_ok-slots.ensures, c.in_ok-names.ensures)))
