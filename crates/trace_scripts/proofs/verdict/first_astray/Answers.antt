use Rattle.std.proofs.Common.{ℕ, ◌∙◌, arith, rules}
use Rattle.ada_tree.specs.Programs.{Program}
use Rattle.trace_tree.specs.Placed.{IsUnit}
use Rattle.trace_scripts.specs.Moving.{threads_of}
use Rattle.trace_scripts.specs.Scenes.{program_in}
use Rattle.trace_scripts.proofs.Firsts.{in-states, in-units, on-units, past-units}
use Rattle.trace_scripts.proofs.MoveSteps.{here-thread, none-left, other-units, passes-thread, past-thread}
use Rattle.trace_scripts.proofs.verdict.first_astray.Goals as goal

pub returns-then-not-branch : goal.returns-then-not-branch
returns-then-not-branch c = λ depth may following are.
    let p : Program = program_in c.args.scene.now in
    let at : ℕ = c.units.at in
    let in' : IsUnit p at = in-units c.args.scene.now.program.now at (search rules) in
    here-thread p at in' following _ (c.units.invariant.found depth may following are) c.in_ok-is_well.field-0
    (passes-thread p c.args.events.now depth at in' (threads_of (program_in c.args.scene.now) c.args.events.now c.args.threads) c.units.threads.states.items c.replace-state.result following are
    (c.units.invariant.others at (omega arith)) (in-states c.args.scene.now.program.now at _ c.units.invariant.sized in') (search rules)
    c.in_ok-is_well.field-0 (c.in_ok-is_well.ensures depth may)) (search rules)

pub units-preserved : goal.units-preserved
units-preserved c =
    let p : Program = program_in c.args.scene.now in
    let at : ℕ = c.units.at in
    let in' : IsUnit p at = in-units c.args.scene.now.program.now at (search rules) in
    record {
      within = on-units c.args.scene.now.program.now at (search rules);
      sized = search rules;
      others = λ u h. other-units p c.args.events.now c.units.threads.states.items at u c.replace-state.new.dest h ∙ c.units.invariant.others u (omega (arith, h));
      found = λ depth may following are. past-thread p at in' following _ (c.units.invariant.found depth may following are) c.in_ok-is_well.field-0
          (passes-thread p c.args.events.now depth at in' (threads_of (program_in c.args.scene.now) c.args.events.now c.args.threads) c.units.threads.states.items c.replace-state.result following are
          (c.units.invariant.others at (omega arith)) (in-states c.args.scene.now.program.now at _ c.units.invariant.sized in') (search rules)
          c.in_ok-is_well.field-0 (c.in_ok-is_well.ensures depth may)) (search rules);
    }

pub returns : goal.returns
returns c = λ depth may following are.
    none-left (program_in c.args.scene.now) c.units.at following _ (past-units c.args.scene.now.program.now c.units.at (search rules))
    (c.units.invariant.found depth may following are)
