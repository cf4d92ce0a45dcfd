use Rattle.std.proofs.Common.{◌+◌, ◌<◌, ◌≤◌, length, sym, ◌∙◌, arith}
use Rattle.std.proofs.lemmas.List.{get_or_default, get_or_past}
use Rattle.task_runtime.proofs.Zeros.{read, slot_fits}
use Rattle.task_runtime.proofs.slots.Slots.get.Goals as goal

pub overflow_add-at : goal.overflow_add-at
overflow_add-at c =
    let t = c.self.inside in
    let i = c.self.invariant in
    let lt = slot_fits t.base t.count t.values.items c.args.self.now c.self.view_is i.0 i.1 c.args.slot c.requires in
    omega (arith, lt, i.2, t.values.ok)

pub returns-then-len-at : goal.returns-then-len-at
returns-then-len-at c =
    let t = c.self.inside in
    let i = c.self.invariant in
    let past : length t.values.items ≤ t.base + c.args.slot = omega (arith, c.if-len-at.true, c.len.ensures, t.values.ok.0) in
    read t.base t.count t.values.items c.args.self.now c.self.view_is i.0 i.1 c.args.slot 0
    (sym (get_or_past t.values.items (t.base + c.args.slot) 0 past))

pub returns : goal.returns
returns c =
    let t = c.self.inside in
    let i = c.self.invariant in
    let there : t.base + c.args.slot < length t.values.items = omega (arith, c.if-len-at.false, c.len.ensures, t.values.ok.0) in
    read t.base t.count t.values.items c.args.self.now c.self.view_is i.0 i.1 c.args.slot c.index.result.now
    (c.index.ensures ∙ get_or_default t.values.items (t.base + c.args.slot) c.index.result.now 0 there)
