use Rattle.std.proofs.Common.{ap, None, ◌∙◌}
use Rattle.std.specs.Prelude.{ℕ, Option}
use Rattle.ceil_runtime.specs.declared.processor.Phase.TheVariants.{Delays, Effects}
use Rattle.ceil_runtime.specs.Stepping.{Nothing, Steps}
use Rattle.ceil_runtime.proofs.Alone.{alone-then}
use Rattle.ceil_runtime.proofs.Stepped.{nobody-step}
use Rattle.ceil_runtime.specs.Shown.{snapshot_of}
use Rattle.ceil_runtime.proofs.Phases.{in-phase, telling}
use Rattle.ceil_runtime.proofs.processor.Machine.effects.Goals as goal

pub returns-in_default : goal.returns-in_default
returns-in_default c =
    let s = snapshot_of c.args.self.now in
    telling s _ Nothing _ (in-phase s (Effects None) c.requires.whole (c.requires.phase ∙ ap (λ (r : Option ℕ). Effects r) c.in_default.is)
    c.requires.goes_on (λ x. Steps x Nothing (record x { phase = Delays })) (λ whole. nobody-step s whole)) c.requires.empty

pub returns-in_default-due : goal.returns-in_default-due
returns-in_default-due c =
    let s = snapshot_of c.args.self.now in
    telling s _ Nothing _ (alone-then s _ _ c.in-Some.task c.go_on.ensures.0 Nothing c.go_on.ensures.1 c.end_effects.ensures) c.requires.empty

pub returns : goal.returns
returns c =
    let s = snapshot_of c.args.self.now in
    let e = c.effect.ensures in
    telling s _ e.0 _ (alone-then s _ _ c.in-Some.task c.go_on.ensures.0 e.0 c.go_on.ensures.1 e.2) e.1

pub go_on-requires : goal.go_on-requires
go_on-requires c = record {
  acting = record {
    whole = c.requires.whole;
    phase = c.requires.phase ∙ ap (λ (r : Option ℕ). Effects r) c.in-Some.is;
    goes_on = c.requires.goes_on;
  };
}

pub due-requires-clause-at_work : goal.due-requires-clause-at_work
due-requires-clause-at_work c = c.go_on.ensures.1.acting.whole.at_work

pub end_effects-requires-clause-acting : goal.end_effects-requires-clause-acting
end_effects-requires-clause-acting c = c.go_on.ensures.1.acting

pub effect-requires-clause-acting : goal.effect-requires-clause-acting
effect-requires-clause-acting c = c.go_on.ensures.1.acting
