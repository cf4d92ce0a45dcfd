use Rattle.std.proofs.Common.{[], ◌∷◌, ◌++◌, ap, sym, refl, ◌∙◌}
use Rattle.seq_eval.specs.Lookups.{found}
use Rattle.linker.specs.Scopes.{scope_of, with_slot}
use Rattle.linker.specs.declared.scope.Slot.{Slot}
use Rattle.linker.proofs.Scoping.{scope_last, table_longer, table_same}
use Rattle.linker.proofs.scope.Scope.push.Goals as goal

pub invariant_of-self : goal.invariant_of-self
invariant_of-self c =
    let t = c.self.inside in
    table_same t.slots.items c.reserve.new.self.items t.innermost t.innermost c.reserve.ensures.items (λ n. refl) c.self.invariant

pub invariant_of-self-in_err-put : goal.invariant_of-self-in_err-put
invariant_of-self-in_err-put c =
    let t = c.self.inside in
    table_same t.slots.items c.reserve.new.self.items t.innermost c.put.new.self c.reserve.ensures.items c.in_err-put.ensures.unchanged
    c.self.invariant

pub invariant_of-self-2 : goal.invariant_of-self-2
invariant_of-self-2 c =
    let t = c.self.inside in
    let s : Slot = record { name = c.args.name; slot = c.args.slot; hidden = c.value-hidden.result } in
    table_longer t.slots.items c.push_reserved.new.self.items s t.innermost c.put.new.self
    (c.push_reserved.ensures.items ∙ ap (λ z. z ++ s ∷ []) c.reserve.ensures.items) c.self.invariant
    (c.value-hidden.ensures ∙ ap (found c.args.name.now) (sym c.self.view_is)) c.in_ok-put.ensures.put

pub returns-clause-pushed : goal.returns-clause-pushed
returns-clause-pushed c =
    let t = c.self.inside in
    let s : Slot = record { name = c.args.name; slot = c.args.slot; hidden = c.value-hidden.result } in
    ap scope_of (c.push_reserved.ensures.items ∙ ap (λ z. z ++ s ∷ []) c.reserve.ensures.items) ∙ scope_last t.slots.items s
    ∙ ap (λ z. with_slot z s) c.self.view_is
