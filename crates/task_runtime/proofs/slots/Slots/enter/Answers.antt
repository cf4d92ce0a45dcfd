use Rattle.std.proofs.Common.{◌+◌, length, ap, ◌∙◌, arith}
use Rattle.task_runtime.specs.Slotted.{with_zeros}
use Rattle.task_runtime.proofs.Zeros.{entered_away, entered_here, enters_fits, zeros_long, zeros_more}
use Rattle.task_runtime.proofs.slots.Slots.enter.Goals as goal

pub overflow_add-self : goal.overflow_add-self
overflow_add-self c =
    let t = c.self.inside in
    let i = c.self.invariant in
    let le = enters_fits t.base t.count t.values.items c.args.self.now c.self.view_is i.0 i.1 c.args.count c.requires in
    omega (arith, le, i.2, t.values.ok)

pub fill-requires : goal.fill-requires
fill-requires c =
    let t = c.self.inside in
    let i = c.self.invariant in
    let le = enters_fits t.base t.count t.values.items c.args.self.now c.self.view_is i.0 i.1 c.args.count c.requires in
    omega (arith, le, i.2)

pub invariant_of-self : goal.invariant_of-self
invariant_of-self c =
    let t = c.self.inside in
    let i = c.self.invariant in
    let le = enters_fits t.base t.count t.values.items c.args.self.now c.self.view_is i.0 i.1 c.args.count c.requires in
    let filled = ap length c.fill.ensures.items in
    let long = zeros_long (t.base + c.args.count) t.values.items in
    (omega (arith, filled, long), omega (arith, filled, long, le, i.1), omega (arith, i.2, c.fill.ensures.room))

pub returns-clause-here : goal.returns-clause-here
returns-clause-here c =
    let t = c.self.inside in
    let i = c.self.invariant in
    let le = enters_fits t.base t.count t.values.items c.args.self.now c.self.view_is i.0 i.1 c.args.count c.requires in
    entered_here t.base t.count t.values.items c.args.self.now c.self.view_is i.0 i.1 c.args.count c.fill.new.written.items
    (ap (with_zeros t.count) c.fill.ensures.items ∙ zeros_more t.count (t.base + c.args.count) t.values.items le)

pub returns-clause-away : goal.returns-clause-away
returns-clause-away c =
    let t = c.self.inside in
    let i = c.self.invariant in
    let le = enters_fits t.base t.count t.values.items c.args.self.now c.self.view_is i.0 i.1 c.args.count c.requires in
    entered_away t.base t.count t.values.items c.args.self.now c.self.view_is i.0 i.1 c.args.count c.fill.new.written.items
    (ap (with_zeros t.count) c.fill.ensures.items ∙ zeros_more t.count (t.base + c.args.count) t.values.items le)
