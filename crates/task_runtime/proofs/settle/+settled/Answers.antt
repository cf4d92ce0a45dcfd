use Rattle.std.proofs.Common.{◌≡◌, ◌<◌, Some, length, refl, ap, ◌∙◌, arith}
use Rattle.std.specs.Prelude.{slice_get}
use Rattle.std.proofs.lemmas.Option.{slice_get_read, slice_get_within}
use Rattle.linker.specs.Standing.{lists_of}
use Rattle.linker.specs.declared.code.Ins.TheVariants as ins
use Rattle.task_runtime.proofs.Found.{ins_at}
use Rattle.task_runtime.proofs.Jumps.{jump_forward, settles_on, somewhere_on}
use Rattle.task_runtime.proofs.settle.+settled.Goals as goal

pub settled-requires : goal.settled-requires
settled-requires t c =
    let code = c.args.code.now in
    let there = ins_at (lists_of code) c.args.at c.requires in
    let lt : c.args.at < length code.ins.items = slice_get_within code.ins.items c.args.at there.0 there.1 in
    let is : slice_get code.ins.items c.args.at ≡ Some (ins.Jump c.in-Jump.to) =
    slice_get_read code.ins.items (length code.ins.items) c.args.at c.index.result.now refl lt c.index.ensures ∙ ap Some c.in-Jump.is in
    let on = jump_forward (lists_of code) c.args.at c.in-Jump.to is c.requires in
    let d = c.decreases in
    (omega (arith, on, lt, d), somewhere_on (lists_of code) c.args.at c.in-Jump.to is c.requires)

pub returns-clause-lands : goal.returns-clause-lands
returns-clause-lands t c =
    let code = c.args.code.now in
    let there = ins_at (lists_of code) c.args.at c.requires in
    let lt : c.args.at < length code.ins.items = slice_get_within code.ins.items c.args.at there.0 there.1 in
    let is : slice_get code.ins.items c.args.at ≡ Some (ins.Jump c.in-Jump.to) =
    slice_get_read code.ins.items (length code.ins.items) c.args.at c.index.result.now refl lt c.index.ensures ∙ ap Some c.in-Jump.is in
    settles_on (lists_of code) c.args.at c.in-Jump.to c.settled.result is c.settled.ensures.lands
