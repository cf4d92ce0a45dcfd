-- A worked example: the premises of the laws can be met. A hard thread that shares a protected object with a client, which calls a server.
use Rattle.std.specs.Prelude.{◌≡◌, ◌≤◌, List, [], ◌∷◌, None, refl}
use Rattle.std.proofs.Common.{lit≤, arith}
use Rattle.seq_tree.specs.Proper.{within_limits}
use Rattle.ods_tree.specs.Designs.{Design}
use Rattle.ods_tree.specs.Words.{is_design_name}
use Rattle.ods_tree.specs.Proper.{IsProperDesign}
use Rattle.design_rules.specs.Rules.{AreMet}
use Rattle.design_rules.specs.Rules as rule
use Rattle.design_rules.proofs.Shared.WorkedRules.{meets-where-nothing-told}
use Rattle.std.proofs.lemmas.Option.{none-some}
use Rattle.ada_tree.specs.Words.{is_ada_name}
use Rattle.trace_tree.specs.Lines.{unit_name}
use Rattle.trace_tree.specs.declared.event.Event.{Event}
use Rattle.trace_tree.specs.declared.event.Event.TheVariants as event
use Rattle.machine.specs.Meanings.{Meaning}
use Rattle.rt_response.specs.declared.rows.Bound.{Bound}
use Rattle.rt_response.specs.declared.rows.ThreadRow.{ThreadRow}
use Rattle.rt_response.specs.Response.{IsLeastVector}
use Rattle.rt_response.specs.Rounds.{round}
use Rattle.guarantee.specs.Bounded.{IsBounded}
use Rattle.guarantee.specs.Events.{named}
use Rattle.guarantee.specs.Arrivals.{named_arrivals, KeepsSeparations}
use Rattle.law_runs.proofs.Shared.Worked.{bound, quiet}
use Rattle.law_runs.proofs.Shared.WorkedBounds.{round-least}
use Rattle.background_designs.specs.HardParts.{hard_part}
use Rattle.background_designs.specs.Refusals.{IsBackgroundDesign, Version, Background, Hard, Requests}
use Rattle.background_designs.specs.Programs.{background_program, hard_rows, hard_responses}
use Rattle.background_designs.specs.Runs.{PermitsBackground, IsRightInBackground}
use Rattle.background_designs.proofs.Shared.Examples.{shared_with_client}
use Rattle.law_backgrounds.proofs.Shared.BackgroundRuns.{right-run, permitted, kept-accepted}

abbrev d : Design
d = shared_with_client

abbrev bounds : List Bound
bounds = bound 0 7 ∷ []

d-proper : IsProperDesign (within_limits is_design_name) d
unfolding is_design_name
d-proper = search parts 40

-- the hard part by itself meets the rules
alone : AreMet (hard_part d) (hard_part d)
unfolding is_ada_name
alone = meets-where-nothing-told (hard_part d) (record {
  version = refl;
  before = refl;
  after = refl;
  steps = 3;
  calls = refl;
  objects = refl;
  starts = refl;
})

d-met : AreMet d (hard_part d)
d-met rule.Version place told h = absurd (none-some told h)
d-met rule.Clash place told h = alone rule.Clash place told h
d-met rule.KeptName place told h = alone rule.KeptName place told h
d-met rule.Include place told h = alone rule.Include place told h
d-met rule.Operation place told h = alone rule.Operation place told h
d-met rule.Fitting place told h = alone rule.Fitting place told h
d-met rule.Stranger place told h = alone rule.Stranger place told h
d-met rule.Absence place told h = alone rule.Absence place told h
d-met rule.Use place told h = alone rule.Use place told h
d-met rule.CallRing place told h = alone rule.CallRing place told h
d-met rule.ObjectRing place told h = alone rule.ObjectRing place told h
d-met rule.StartRing place told h = alone rule.StartRing place told h
d-met rule.Source place told h = alone rule.Source place told h
d-met rule.Number place told h = alone rule.Number place told h
d-met rule.IdleActive place told h = alone rule.IdleActive place told h
d-met rule.BodyFault place told h = alone rule.BodyFault place told h
d-met rule.Budget place told h = alone rule.Budget place told h
d-met rule.Size place told h = alone rule.Size place told h
d-met rule.Spacing place told h = alone rule.Spacing place told h

d-passes : IsBackgroundDesign d
d-passes Version = refl
d-passes Background = refl
d-passes Hard = d-met
d-passes Requests = refl

d-least : IsLeastVector (hard_rows d) bounds
d-least = round-least (hard_rows d) 1 refl refl refl

d-keeps : KeepsSeparations 1000000 (hard_part d) (named_arrivals (background_program d) (quiet 16))
d-keeps = record { horizon = lit≤ tt; durations = tt; times = tt; external = tt; separations = (tt, (tt, tt)) }

d-right : IsRightInBackground d bounds (quiet 16)
d-right = right-run 1000000 d d-proper d-passes bounds d-least.fits (quiet 16) d-keeps

-- what is told of it: the client uses the object between the activations of the hard thread, and calls the server then
abbrev d_told : List Event
d_told =
    event.Release 0 2 None ∷ event.Release 0 3 None ∷ event.Enter 2 2 0 0 [] ∷ event.Leave 4 2 0 0 [] ∷ event.End 5 2 5
    ∷ event.Enter 7 3 0 0 [] ∷ event.Release 8 2 None ∷ event.Leave 9 3 0 0 [] ∷ event.Enter 11 2 0 0 [] ∷ event.Leave 13 2 0 0 []
    ∷ event.End 14 2 5 ∷ event.Enter 16 3 1 0 (1 ∷ []) ∷ event.Release 16 2 None ∷ event.Horizon 16 ∷ []

d-means : Meaning (background_program d) (quiet 16) d_told
d-means = record { steps = 130; stops = refl; tells = refl }

d-told-right : PermitsBackground d bounds (named_arrivals (background_program d) (quiet 16)) (named (background_program d) d_told)
d-told-right = permitted 1000000 d d-proper d-passes bounds d-least.fits (quiet 16) (kept-accepted 1000000 d d-proper d-passes (quiet 16) d-keeps)
    d_told d-means

-- without the sections of the client in its blocking the hard thread would have the bound 5, and its second activation takes longer
abbrev cut_rows : List ThreadRow
cut_rows = record { period = 8; deadline = 8; jitter = 0; cost = 5; block = 0; starter = None } ∷ []

cut : round cut_rows 1 ≡ bound 0 5 ∷ []
cut = refl

too_short : IsBounded (hard_responses d (bound 0 5 ∷ [])) 16 (named (background_program d) d_told) → ⊥
unfolding unit_name
too_short h = (let late : 14 ≤ 13 = h.0.1.1.0 (lit≤ tt) in omega (arith, late))
