use Rattle.std.proofs.Common.{ℕ, [], ap, sym, ◌∙◌, arith, length}
use Rattle.std.proofs.lemmas.List.{append-nil, length-replicate}
use Rattle.seq_tree.specs.Variables.{written}
use Rattle.linker.specs.Slots.{vars_at}
use Rattle.linker.specs.Programs.{datum_names}
use Rattle.linker.specs.Scopes.{slots_of}
use Rattle.task_runtime.proofs.stack.Stack.new.Goals as goal

pub open_data-requires-clause-room : goal.open_data-requires-clause-room
open_data-requires-clause-room c =
    let e = ap length c.in_ok-slots.ensures.here in
    let zero : ℕ = 0 in
    let k = length-replicate c.args.room.slots zero in
    let le = c.requires c.in_ok-slots.ensures.small in
    omega (arith, e, k, le)

pub returns-clause-vars : goal.returns-clause-vars
returns-clause-vars c =
    let ds = c.args.thread.«data».now in
    ap (λ ns. vars_at (slots_of ns) c.open_data.new.slots.here) (sym (append-nil (datum_names ds))) ∙ c.open_data.ensures.vars [] (omega arith)
    ∙ append-nil (written ds)

pub returns-clause-count : goal.returns-clause-count
returns-clause-count c =
    let zero : ℕ = 0 in
    c.open_data.ensures.len ∙ ap length c.in_ok-slots.ensures.here ∙ length-replicate c.args.room.slots zero
