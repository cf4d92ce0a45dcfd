use Rattle.std.proofs.Common.{ℕ, length, ap, subst, ◌<◌, ◌∙◌, Result}
use Rattle.std.proofs.lemmas.List.{length-map}
use Rattle.grammar.specs.Reading.{Halt, whole_at}
use Rattle.seq_tree.specs.Runs.{Path}
use Rattle.seq_tree.specs.Trees.{block_of}
use Rattle.law_walks.specs.Fit.{MayRun}
use Rattle.law_walks.specs.Walks.{walk_at}
use Rattle.seq_eval.specs.Calls.{calls_in}
use Rattle.seq_eval.specs.Ends.{FitsEnd, IsEnd, comes_to, names_of}
use Rattle.seq_eval.specs.Following.{Answers}
use Rattle.seq_eval.specs.Scripts.{stopped_at}
use Rattle.seq_eval.specs.declared.action.Followed.TheVariants as followed
use Rattle.seq_eval.specs.declared.along.Ended.TheVariants.{Done, Stopped}
use Rattle.seq_eval.proofs.Answering.{answer-done, answer-stopped, at-depth, known, means}
use Rattle.seq_eval.proofs.Keeping.{IsCheap, most}
use Rattle.seq_eval.proofs.along.follow_actions.Goals as goal

pub set_values-requires : goal.set_values-requires
set_values-requires g c =
    let vars = c.args.env.now.slots.items in
    ap length c.as_slice.ensures.value
    ∙ subst (FitsEnd g.S.Actions.meaning (names_of vars) (length (g.S.Actions.meaning c.args.script))) c.in-Done.is c.in_ok-low.ensures.fits
    ∙ length-map vars (λ v. v.0)

pub returns-in-Done : goal.returns-in-Done
returns-in-Done g c =
    let a = c.args in
    let calls = calls_in a.calls.now in
    let b = block_of a.block.now in
    let vars = a.env.now.slots.items in
    let script = g.S.Actions.meaning a.script in
    let n = length script in
    let whole : ℕ → Result Path Halt = λ d. whole_at (walk_at a.costs.now calls d b vars) script in
    let ended : IsCheap a.costs.now calls b → (d : ℕ) → most < d
    → IsEnd g.S.Actions.meaning (names_of vars) n (Done c.in-Done.low c.in-Done.high c.in-Done.values) (comes_to (whole d))
    = λ cheap. known g.S.Actions.meaning (names_of vars) n (λ d. comes_to (whole d)) c.in_ok-low.field-0
    (Done c.in-Done.low c.in-Done.high c.in-Done.values) c.in-Done.is (c.in_ok-low.ensures.ended cheap) in
    let after = c.set_values.new.env.slots.items in
    let says : IsCheap a.costs.now calls b → (depth : ℕ) → MayRun calls depth b
    → Answers (whole depth) n vars (followed.Done c.in-Done.low c.in-Done.high) after
    = λ cheap depth may.
    answer-done g.S.Actions.meaning (whole depth) (names_of vars) n c.in-Done.low c.in-Done.high c.in-Done.values vars after
    (at-depth g.S.Actions.meaning a.costs.now calls b vars script (names_of vars) n (Done c.in-Done.low c.in-Done.high c.in-Done.values) depth
    (ended cheap) may)
    c.set_values.ensures.names (c.set_values.ensures.values ∙ c.as_slice.ensures.value) in
    record {
      says = says;
      means = λ cheap depth may. means a.costs.now calls b vars script depth (followed.Done c.in-Done.low c.in-Done.high) after may
          (says cheap depth may);
      within = tt;
    }

pub returns-in-Stopped : goal.returns-in-Stopped
returns-in-Stopped g c =
    let a = c.args in
    let calls = calls_in a.calls.now in
    let b = block_of a.block.now in
    let vars = a.env.now.slots.items in
    let script = g.S.Actions.meaning a.script in
    let n = length script in
    let rest = c.in-Stopped.rest in
    let answer = stopped_at n (length (g.S.Actions.meaning rest)) in
    let whole : ℕ → Result Path Halt = λ d. whole_at (walk_at a.costs.now calls d b vars) script in
    let ended : IsCheap a.costs.now calls b → (d : ℕ) → most < d → IsEnd g.S.Actions.meaning (names_of vars) n (Stopped rest) (comes_to (whole d))
    = λ cheap. known g.S.Actions.meaning (names_of vars) n (λ d. comes_to (whole d)) c.in_ok-low.field-0 (Stopped rest) c.in-Stopped.is
    (c.in_ok-low.ensures.ended cheap) in
    let says : IsCheap a.costs.now calls b → (depth : ℕ) → MayRun calls depth b → Answers (whole depth) n vars answer vars
    = λ cheap depth may.
    answer-stopped g.S.Actions.meaning (whole depth) (names_of vars) n rest vars
    (at-depth g.S.Actions.meaning a.costs.now calls b vars script (names_of vars) n (Stopped rest) depth (ended cheap) may) in
    record {
      says = says;
      means = λ cheap depth may. means a.costs.now calls b vars script depth answer vars may (says cheap depth may);
      within = subst (FitsEnd g.S.Actions.meaning (names_of vars) n) c.in-Stopped.is c.in_ok-low.ensures.fits;
    }
