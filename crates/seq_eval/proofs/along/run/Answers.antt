use Rattle.std.proofs.Common.{ℕ, Result, ◌≤◌, ◌++◌, [], ◌∷◌, length, map, refl, ap, arith, sym, ◌∙◌}
use Rattle.std.proofs.lemmas.Bool.{false≢true}
use Rattle.grammar.specs.Reading.{whole_at}
use Rattle.seq_tree.specs.Trees.{block_of, statement_of, statements_of}
use Rattle.law_walks.specs.Walks.{walk_at}
use Rattle.seq_eval.specs.Calls.{calls_in}
use Rattle.seq_eval.specs.Ends.{End, comes_to, names_of}
use Rattle.seq_eval.specs.States.{doings_of, state_of}
use Rattle.seq_eval.specs.Stepping.{Rest}
use Rattle.seq_eval.specs.declared.walk.Frame.TheVariants.{Stmts}
use Rattle.seq_eval.proofs.Answering.{done-length, stopped-within}
use Rattle.seq_eval.proofs.Keeping.{deep-enough, deepest, most}
use Rattle.seq_eval.proofs.Ending.{all-done, begun, left-over, nearer-by, no-frames, popped, stepped, stopped, too-many}
use Rattle.seq_eval.proofs.along.run.Goals as goal

pub frames-init : goal.frames-init
frames-init g c =
    begun c.args.costs.now (calls_in c.args.calls.now) c.args.block.now c.push.new.self.items c.in_ok-scope_of.field-0 c.args.env.now.slots.items
    (g.S.Actions.meaning c.args.script)
    (ap doings_of (c.in_ok-push.ensures.items ∙ ap (λ fs. fs ++ Stmts c.as_slice.result ∷ []) c.new-frames.ensures.items)
    ∙ ap (λ ss. Rest (statements_of (map statement_of ss)) ∷ []) c.as_slice.ensures.value) c.in_ok-scope_of.ensures

pub step-requires : goal.step-requires
step-requires g c = c.has_few.ensures.0 c.if-not-has_few.false

pub returns-then-not-has_few : goal.returns-then-not-has_few
returns-then-not-has_few g c =
    let a = c.args in
    let calls = calls_in a.calls.now in
    let b = block_of a.block.now in
    let names = names_of a.env.now.slots.items in
    let n = length (g.S.Actions.meaning a.script) in
    let whole : ℕ → Result End ℕ = λ depth. comes_to (whole_at (walk_at a.costs.now calls depth b a.env.now.slots.items) (g.S.Actions.meaning
    a.script)) in
    let w = c.frames.walk in
    let i = c.frames.invariant in
    record {
      fits = i.fewer;
      ended = too-many g.S.Actions.meaning a.costs.now calls b whole names n (state_of g.S.Actions.meaning w) w.script i
          (λ h. false≢true (sym c.if-not-has_few.true ∙ c.has_few.ensures.1 h));
    }

pub returns-then-not-branch : goal.returns-then-not-branch
returns-then-not-branch g c =
    let a = c.args in
    let calls = calls_in a.calls.now in
    let b = block_of a.block.now in
    let names = names_of a.env.now.slots.items in
    let n = length (g.S.Actions.meaning a.script) in
    let whole : ℕ → Result End ℕ = λ depth. comes_to (whole_at (walk_at a.costs.now calls depth b a.env.now.slots.items) (g.S.Actions.meaning
    a.script)) in
    let w = c.frames.walk in
    let us = g.S.Actions.meaning w.script in
    let rest = c.pop.new.self.items in
    let few-frames : length rest ≤ most = omega (arith, c.pop.new.self.ok, c.pop.new.self.small) in
    let k = popped g.S.Actions.meaning a.costs.now calls b whole names n w.frames.items rest c.in-Some.frame w.leaving w.vars w.low w.high us
    c.in-Some.ensures.items c.frames.invariant in
    let ended = stopped g.S.Actions.meaning a.costs.now calls b whole names n rest c.in-Some.frame w.leaving w.vars w.low w.high us
    c.in_ok-step.field-0 (state_of g.S.Actions.meaning c.step.new.self) c.step.new.self.script few-frames k c.in_ok-step.ensures c.if-not-branch.true
    refl in
    record {
      fits = stopped-within g.S.Actions.meaning names n c.step.new.self.script (whole deepest) (ended deepest deep-enough);
      ended = λ cheap depth big. ended depth big;
    }

pub frames-smaller : goal.frames-smaller
frames-smaller g c =
    let w = c.frames.walk in
    let rest = c.pop.new.self.items in
    let few-frames : length rest ≤ most = omega (arith, c.pop.new.self.ok, c.pop.new.self.small) in
    nearer-by c.args.costs.now (calls_in c.args.calls.now) w.frames.items rest c.in-Some.frame w.leaving w.vars w.low w.high
    (g.S.Actions.meaning w.script) c.in_ok-step.field-0 (state_of g.S.Actions.meaning c.step.new.self) few-frames c.in-Some.ensures.items
    c.in_ok-step.ensures c.if-not-branch.false

pub frames-preserved : goal.frames-preserved
frames-preserved g c =
    let w = c.frames.walk in
    let us = g.S.Actions.meaning w.script in
    let rest = c.pop.new.self.items in
    let few-frames : length rest ≤ most = omega (arith, c.pop.new.self.ok, c.pop.new.self.small) in
    let k = popped g.S.Actions.meaning _ _ _ _ _ _ w.frames.items rest c.in-Some.frame w.leaving w.vars w.low w.high us c.in-Some.ensures.items
    c.frames.invariant in
    stepped g.S.Actions.meaning _ _ _ _ _ _ rest c.in-Some.frame w.leaving w.vars w.low w.high us c.in_ok-step.field-0
    (state_of g.S.Actions.meaning c.step.new.self) few-frames k c.in_ok-step.ensures c.if-not-branch.false

pub returns-then-not-is_over : goal.returns-then-not-is_over
returns-then-not-is_over g c =
    let a = c.args in
    let calls = calls_in a.calls.now in
    let b = block_of a.block.now in
    let names = names_of a.env.now.slots.items in
    let n = length (g.S.Actions.meaning a.script) in
    let whole : ℕ → Result End ℕ = λ depth. comes_to (whole_at (walk_at a.costs.now calls depth b a.env.now.slots.items) (g.S.Actions.meaning
    a.script)) in
    let w = c.frames.walk in
    let ended = left-over g.S.Actions.meaning a.costs.now calls b whole names n w.frames.items w.vars w.low w.high w.leaving w.script
    (g.S.Actions.meaning w.script) refl
    (no-frames w.frames.items (λ h. false≢true (c.in_default.ensures.variant.1 (omega (arith, h, w.frames.ok)))))
    (sym c.is_over.ensures ∙ c.if-not-is_over.true) c.frames.invariant in
    record {
      fits = stopped-within g.S.Actions.meaning names n w.script (whole deepest) (ended deepest deep-enough);
      ended = λ cheap depth big. ended depth big;
    }

pub returns : goal.returns
returns g c =
    let a = c.args in
    let calls = calls_in a.calls.now in
    let b = block_of a.block.now in
    let names = names_of a.env.now.slots.items in
    let n = length (g.S.Actions.meaning a.script) in
    let whole : ℕ → Result End ℕ = λ depth. comes_to (whole_at (walk_at a.costs.now calls depth b a.env.now.slots.items) (g.S.Actions.meaning
    a.script)) in
    let w = c.frames.walk in
    let ended = all-done g.S.Actions.meaning a.costs.now calls b whole names n w.frames.items w.vars w.low w.high w.leaving
    (g.S.Actions.meaning w.script) c.in_ok-values.values
    (no-frames w.frames.items (λ h. false≢true (c.in_default.ensures.variant.1 (omega (arith, h, w.frames.ok)))))
    (sym c.is_over.ensures ∙ c.if-not-is_over.false) c.in_ok-values.ensures c.frames.invariant in
    record {
      fits = done-length g.S.Actions.meaning names n w.low w.high c.in_ok-values.values (whole deepest) (ended deepest deep-enough);
      ended = λ cheap depth big. ended depth big;
    }
