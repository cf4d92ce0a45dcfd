use Rattle.std.proofs.Common.{◌≡◌, [], ◌∷◌, ◌++◌, drop, ap, sym, ◌∙◌}
use Rattle.linker.proofs.Scoping.{none_left, popped, scope_shorter, table_shorter}
use Rattle.linker.proofs.scope.Scope.leave.Goals as goal

pub returns-in_default-clause-left : goal.returns-in_default-clause-left
returns-in_default-clause-left c =
    none_left c.self.inside.slots.items c.args.self.now (rw c.deref.ensures.value at c.in_default.ensures.cases) c.self.view_is

pub invariant_of-self-2 : goal.invariant_of-self-2
invariant_of-self-2 c =
    let t = c.self.inside in
    let last = c.in-Some.last.now in
    let cases = rw c.deref.ensures.value at c.in-Some.ensures.cases in
    let rest : c.pop.new.self.items ≡ c.in-Some.field-0-1.now =
    popped t.slots.items c.pop.new.self.items c.in-Some.field-0-1.now last _ cases.0 cases.1 t.slots.ok.0
    c.pop.ensures.rest in
    table_shorter t.slots.items c.pop.new.self.items last t.innermost c.put.new.self
    (cases.0 ∙ ap (λ z. z ++ last ∷ []) (sym rest)) c.self.invariant c.in_ok-put.ensures.put

pub returns-clause-left : goal.returns-clause-left
returns-clause-left c =
    let t = c.self.inside in
    let last = c.in-Some.last.now in
    let cases = rw c.deref.ensures.value at c.in-Some.ensures.cases in
    let rest : c.pop.new.self.items ≡ c.in-Some.field-0-1.now =
    popped t.slots.items c.pop.new.self.items c.in-Some.field-0-1.now last _ cases.0 cases.1 t.slots.ok.0
    c.pop.ensures.rest in
    scope_shorter t.slots.items c.pop.new.self.items last (cases.0 ∙ ap (λ z. z ++ last ∷ []) (sym rest))
    ∙ ap (λ z. drop 1 z) c.self.view_is
