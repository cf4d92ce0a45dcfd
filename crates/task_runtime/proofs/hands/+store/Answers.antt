use Rattle.std.proofs.Common.{◌≡◌, ℕ, ◌<◌, List, get_or, ◌∷◌, ◌∙◌, Some, length, refl, rules, arith, ap}
use Rattle.std.specs.Prelude.{slice_get}
use Rattle.std.proofs.lemmas.List.{length-set}
use Rattle.std.proofs.lemmas.Option.{slice_get_read}
use Rattle.linker.specs.declared.nodes.Operand.{Operand}
use Rattle.linker.specs.declared.nodes.Operand.TheVariants as operand
use Rattle.linker.specs.Standing.{lists_of}
use Rattle.task_runtime.proofs.Passing.{is_target, none_stored, store_step, target_fits, target_there, targets_next}
use Rattle.task_runtime.proofs.Skips.{none_targeted}
use Rattle.task_runtime.proofs.hands.+store.Goals as goal

pub index-requires : goal.index-requires
index-requires t c =
    let lt = target_there (lists_of c.args.code.now) c.args.first c.args.count (length c.args.slots.now.here) c.requires (omega arith) in
    let long = c.args.code.now.actuals.ok.0 in
    omega (arith, lt, long)

pub unreachable-requires : goal.unreachable-requires
unreachable-requires t c =
    let items = c.args.code.now.actuals.items in
    let lt : c.args.first < length items =
    target_there (lists_of c.args.code.now) c.args.first c.args.count (length c.args.slots.now.here) c.requires (omega arith) in
    let slot = is_target (lists_of c.args.code.now) c.args.first c.args.count (length c.args.slots.now.here) c.requires (omega arith)
    c.index.result.now (slice_get_read items (length items) c.args.first c.index.result.now refl lt c.index.ensures) in
    c.in_default-index.not-Slot slot.0 slot.1

pub overflow_add-first : goal.overflow_add-first
overflow_add-first t c =
    let lt = target_there (lists_of c.args.code.now) c.args.first c.args.count (length c.args.slots.now.here) c.requires (omega arith) in
    let long = c.args.code.now.actuals.ok.0 in
    omega (arith, lt, long)

there : (items : List Operand) (first slot : ℕ) (o : Operand) → first < length items → o ≡ get_or items first o → o ≡ operand.Slot slot
    → slice_get items first ≡ Some (operand.Slot slot)
there items first slot o lt read is = slice_get_read items (length items) first o refl lt read ∙ ap Some is

pub put-requires : goal.put-requires
put-requires t c =
    let items = c.args.code.now.actuals.items in
    let lt : c.args.first < length items =
    target_there (lists_of c.args.code.now) c.args.first c.args.count (length c.args.slots.now.here) c.requires (omega arith) in
    target_fits (lists_of c.args.code.now) c.args.first c.args.count (length c.args.slots.now.here) c.requires (omega arith) c.in-Slot.slot
    (there items c.args.first c.in-Slot.slot c.index.result.now lt c.index.ensures c.in-Slot.is)

pub store-requires : goal.store-requires
store-requires t c =
    let d = c.decreases in (
      omega (arith, d),
      targets_next (lists_of c.args.code.now) c.args.first c.args.count (length c.args.slots.now.here) c.requires (omega arith)
          (length c.put.new.self.here) (ap length c.put.ensures.here ∙ length-set c.args.slots.now.here c.in-Slot.slot c.in-Some.value.now),
    )

pub returns-then-count-eq0-clause-here : goal.returns-then-count-eq0-clause-here
returns-then-count-eq0-clause-here t c = λ scope ns st many.
    none_targeted scope ns c.args.values.now c.args.slots.now.here (omega (arith, many, c.if-count-eq0.true))

pub returns-in_default-clause-here : goal.returns-in_default-clause-here
returns-in_default-clause-here t c = λ scope ns st many.
    none_stored _ c.args.values.now c.args.slots.now.here c.in_default.ensures.cases

pub returns-clause-here : goal.returns-clause-here
returns-clause-here t c = λ scope ns st many.
    let is : c.args.values.now ≡ c.in-Some.value.now ∷ c.in-Some.values.now = search rules in
    let items = c.args.code.now.actuals.items in
    let lt : c.args.first < length items =
    target_there (lists_of c.args.code.now) c.args.first c.args.count (length c.args.slots.now.here) c.requires (omega arith) in
    store_step (lists_of c.args.code.now) scope c.args.first c.args.count ns st many (omega arith) c.in-Slot.slot c.in-Some.value.now
    c.args.values.now c.in-Some.values.now c.args.slots.now.here c.put.new.self.here c.store.new.slots.here
    (there items c.args.first c.in-Slot.slot c.index.result.now lt c.index.ensures c.in-Slot.is) is c.put.ensures.here
    c.store.ensures.here
