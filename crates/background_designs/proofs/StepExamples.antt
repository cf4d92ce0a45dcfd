-- The four steps of refusal: a design that passes all, those that fail at one step alone, and what is told first where several fail.
use Rattle.std.specs.Prelude.{◌≡◌, ◌++◌, ℕ, ◌<◌, [], ◌∷◌, Option, Some, None, codes, refl}
use Rattle.std.proofs.Common.{arith, not-suc-le-zero}
use Rattle.seq_tree.specs.Statements.{Work, Null}
use Rattle.ods_tree.specs.Designs.{Tree, Design}
use Rattle.ods_tree.specs.declared.design.TickUnit.TheVariants.{Us, Ms, S}
use Rattle.ods_tree.specs.declared.design.AttrKey.TheVariants.{Deadline}
use Rattle.ods_tree.specs.Ticks.{in_ticks}
use Rattle.ods_tree.proofs.Shared.Short.{cyc, cyc_with, spo, pro, several, design, call}
use Rattle.ada_tree.specs.Words.{is_ada_name}
use Rattle.design_rules.specs.Broken.{Broken, V01, V15Cost, V17Tick}
use Rattle.design_rules.specs.Versions.{version_faults}
use Rattle.design_rules.specs.Budgets.{bad_sizes}
use Rattle.design_rules.specs.Clashes.{clashes}
use Rattle.design_rules.specs.Rules as rule
use Rattle.design_rules.specs.Rules.{Rule, AreMet, IsFirst, IsListed, Offends}
use Rattle.design_rules.proofs.Shared.WorkedRules.{meets-where-nothing-told}
use Rattle.background_designs.specs.HardParts.{hard_part}
use Rattle.background_designs.specs.Misfits.{A5, A6, misfits, requesting_clients}
use Rattle.background_designs.specs.Refusals.{Step, Version, Background, Hard, Requests, Breaks, Misfits, Passes, Tells, IsBackgroundDesign}
use Rattle.background_designs.specs.Refusals.{IsFirstFault}
use Rattle.background_designs.specs.Refusals.{number_of}
use Rattle.background_designs.proofs.Shared.Examples.{client, waits, shared_with_client, through_protected}

-- a hard part by itself that meets the rules does so beside a design without a version
met_beside : (x y : Design) → version_faults x ≡ [] → AreMet y y → AreMet x y
met_beside x y none met rule.Version place told h = (let e : Option Broken = None in cc)
met_beside x y none met rule.Clash place told h = met rule.Clash place told h
met_beside x y none met rule.KeptName place told h = met rule.KeptName place told h
met_beside x y none met rule.Include place told h = met rule.Include place told h
met_beside x y none met rule.Operation place told h = met rule.Operation place told h
met_beside x y none met rule.Fitting place told h = met rule.Fitting place told h
met_beside x y none met rule.Stranger place told h = met rule.Stranger place told h
met_beside x y none met rule.Absence place told h = met rule.Absence place told h
met_beside x y none met rule.Use place told h = met rule.Use place told h
met_beside x y none met rule.CallRing place told h = met rule.CallRing place told h
met_beside x y none met rule.ObjectRing place told h = met rule.ObjectRing place told h
met_beside x y none met rule.StartRing place told h = met rule.StartRing place told h
met_beside x y none met rule.Source place told h = met rule.Source place told h
met_beside x y none met rule.Number place told h = met rule.Number place told h
met_beside x y none met rule.IdleActive place told h = met rule.IdleActive place told h
met_beside x y none met rule.BodyFault place told h = met rule.BodyFault place told h
met_beside x y none met rule.Budget place told h = met rule.Budget place told h
met_beside x y none met rule.Size place told h = met rule.Size place told h
met_beside x y none met rule.Spacing place told h = met rule.Spacing place told h

-- a design that passes all steps
shared_met : AreMet (hard_part shared_with_client) (hard_part shared_with_client)
unfolding is_ada_name
shared_met = meets-where-nothing-told (hard_part shared_with_client)
    (record { version = refl; before = refl; after = refl; steps = 3; calls = refl; objects = refl; starts = refl })

passes_all : IsBackgroundDesign shared_with_client
passes_all Version = refl
passes_all Background = refl
passes_all Hard = met_beside shared_with_client (hard_part shared_with_client) refl shared_met
passes_all Requests = refl

-- a design whose client requests fails at the last step alone
through_met : AreMet (hard_part through_protected) (hard_part through_protected)
unfolding is_ada_name
through_met = meets-where-nothing-told (hard_part through_protected)
    (record { version = refl; before = refl; after = refl; steps = 4; calls = refl; objects = refl; starts = refl })

only_requests : IsFirstFault through_protected (Misfits (A6 (codes "idle") (codes "s")))
only_requests = record { step = Requests; tells = refl; before = earlier }
  where
    earlier : (e : Step) → number_of e < 3 → Passes through_protected through_protected e
    earlier Version less = refl
    earlier Background less = refl
    earlier Hard less = met_beside through_protected (hard_part through_protected) refl through_met
    earlier Requests less = absurd (omega (arith, less))

-- a thread with the deadline of clients fails at the second step alone
abbrev slow : Design
slow = design (cyc (codes "h") 1000000000 1000000000 (Null ∷ []))

slow_met : AreMet (hard_part slow) (hard_part slow)
unfolding is_ada_name
slow_met = meets-where-nothing-told (hard_part slow)
    (record { version = refl; before = refl; after = refl; steps = 3; calls = refl; objects = refl; starts = refl })

else_than_slow : version_faults slow ++ [] ≡ [] × requesting_clients slow ≡ []
else_than_slow = (refl, refl)

only_background : IsFirstFault slow (Misfits (A5 (codes "h")))
only_background = record { step = Background; tells = refl; before = earlier }
  where
    earlier : (e : Step) → number_of e < 1 → Passes slow slow e
    earlier Version less = refl
    earlier Background less = absurd (omega (arith, less))
    earlier Hard less = absurd (omega (arith, less))
    earlier Requests less = absurd (omega (arith, less))

-- two objects of one name fail at the third step alone
abbrev same_names : Design
same_names = several (client (codes "c") (Null ∷ []) ∷ client (codes "c") (Null ∷ []) ∷ [])

first_clash : (x y : Design) (told : Broken) → version_faults x ≡ [] → IsListed (clashes y) 0 told → IsFirst x y told
first_clash x y told none listed =
    record { rule = rule.Clash; place = 0; offends = listed; none_lower = lower; none_earlier = λ e others less h. not-suc-le-zero less }
  where
    lower : (r : Rule) (other : ℕ) (others : Broken) → rule.number_of r < 1 → Offends x y r other others → ⊥
    lower rule.Version other others less h = cc
    lower rule.Clash other others less h = omega (arith, less)
    lower rule.KeptName other others less h = omega (arith, less)
    lower rule.Include other others less h = omega (arith, less)
    lower rule.Operation other others less h = omega (arith, less)
    lower rule.Fitting other others less h = omega (arith, less)
    lower rule.Stranger other others less h = omega (arith, less)
    lower rule.Absence other others less h = omega (arith, less)
    lower rule.Use other others less h = omega (arith, less)
    lower rule.CallRing other others less h = omega (arith, less)
    lower rule.ObjectRing other others less h = omega (arith, less)
    lower rule.StartRing other others less h = omega (arith, less)
    lower rule.Source other others less h = omega (arith, less)
    lower rule.Number other others less h = omega (arith, less)
    lower rule.IdleActive other others less h = omega (arith, less)
    lower rule.BodyFault other others less h = omega (arith, less)
    lower rule.Budget other others less h = omega (arith, less)
    lower rule.Size other others less h = omega (arith, less)
    lower rule.Spacing other others less h = omega (arith, less)

only_hard : IsFirstFault same_names (Breaks (V01 (codes "c")))
only_hard = record { step = Hard; tells = first_clash same_names (hard_part same_names) (V01 (codes "c")) refl refl; before = earlier }
  where
    earlier : (e : Step) → number_of e < 2 → Passes same_names same_names e
    earlier Version less = refl
    earlier Background less = refl
    earlier Hard less = absurd (omega (arith, less))
    earlier Requests less = absurd (omega (arith, less))

else_than_hard : requesting_clients same_names ≡ []
else_than_hard = refl

-- a client that is too dear breaks the rule on costs in the hard part
too_dear : bad_sizes (hard_part (design (client (codes "c") (Work 1000000000 ∷ Work 1 ∷ [])))) ≡ V15Cost (codes "c") None ∷ []
too_dear = refl

-- a tick of no time fails at the first step, before all misfits
abbrev timed : Tree → Design
timed t = record (design t) { version = Some (record { tick = 0; unit = Us; priorities = None }) }

only_version : IsFirstFault (timed (client (codes "c") (Null ∷ []))) (Breaks V17Tick)
only_version = record { step = Version; tells = refl; before = λ e less. absurd (not-suc-le-zero less) }

else_than_version : misfits (in_ticks (timed (client (codes "c") (Null ∷ [])))) ++ requesting_clients
    (in_ticks (timed (client (codes "c") (Null ∷ [])))) ≡ []
else_than_version = refl

version_before_misfits : IsFirstFault (timed (cyc (codes "h") 1000000000 1000000000 (Null ∷ []))) (Breaks V17Tick)
version_before_misfits = record { step = Version; tells = refl; before = λ e less. absurd (not-suc-le-zero less) }

-- a misfit is told before the rules of the hard part, and these before requests by clients
abbrev clash_and_slow : Design
clash_and_slow = several (client (codes "c") (Null ∷ []) ∷ client (codes "c") (Null ∷ []) ∷ cyc (codes "h") 1000000000 1000000000 (Null ∷ []) ∷ [])

misfit_before_clash : IsFirstFault clash_and_slow (Misfits (A5 (codes "h")))
misfit_before_clash = record { step = Background; tells = refl; before = earlier }
  where
    earlier : (e : Step) → number_of e < 1 → Passes clash_and_slow clash_and_slow e
    earlier Version less = refl
    earlier Background less = absurd (omega (arith, less))
    earlier Hard less = absurd (omega (arith, less))
    earlier Requests less = absurd (omega (arith, less))

-- a clash is told before what clients request
abbrev clash_and_request : Design
clash_and_request = several (spo (codes "s") 50 20 (Work 4 ∷ []) ∷ pro (codes "q") (codes "set") (waits (codes "s") (codes "start") ∷ [])
    ∷ client (codes "c") (call (codes "q") (codes "set") ∷ []) ∷ client (codes "c") (Null ∷ []) ∷ [])

requests_too : requesting_clients clash_and_request ≡ A6 (codes "c") (codes "s") ∷ []
requests_too = refl

clash_before_request : IsFirstFault clash_and_request (Breaks (V01 (codes "c")))
clash_before_request = record {
  step = Hard;
  tells = first_clash clash_and_request (hard_part clash_and_request) (V01 (codes "c")) refl refl;
  before = earlier;
}
  where
    earlier : (e : Step) → number_of e < 2 → Passes clash_and_request clash_and_request e
    earlier Version less = refl
    earlier Background less = refl
    earlier Hard less = absurd (omega (arith, less))
    earlier Requests less = absurd (omega (arith, less))

-- background objects are judged in ticks: a deadline of 1,000,000 seconds, where a tick takes a millisecond
abbrev slow_in_seconds : Design
slow_in_seconds = record (design (cyc_with (codes "h") (record { key = Deadline; value = 1000000; unit = Some S } ∷ []) [] (Null ∷ [])))
    { version = Some (record { tick = 1; unit = Ms; priorities = None }) }

seconds_as_written : misfits slow_in_seconds ≡ []
seconds_as_written = refl

seconds_dont_pass : IsBackgroundDesign slow_in_seconds → ⊥
seconds_dont_pass h = (let e = h Background in cc)

seconds_in_ticks : IsFirstFault slow_in_seconds (Misfits (A5 (codes "h")))
seconds_in_ticks = record { step = Background; tells = refl; before = earlier }
  where
    earlier : (e : Step) → number_of e < 1 → Passes slow_in_seconds (in_ticks slow_in_seconds) e
    earlier Version less = refl
    earlier Background less = absurd (omega (arith, less))
    earlier Hard less = absurd (omega (arith, less))
    earlier Requests less = absurd (omega (arith, less))

-- no misfit is told of a design that has none
not_first : IsFirstFault shared_with_client (Misfits (A5 (codes "h"))) → ⊥
not_first h = by h.step h.tells
  where
    by : (s : Step) → Tells shared_with_client shared_with_client s (Misfits (A5 (codes "h"))) → ⊥
    by Version e = e
    by Background e = cc
    by Hard e = e
    by Requests e = cc

-- of two misfits the first is told
not_second : IsFirstFault clash_and_slow (Misfits (A6 (codes "c") (codes "h"))) → ⊥
not_second h = by h.step h.tells
  where
    by : (s : Step) → Tells clash_and_slow clash_and_slow s (Misfits (A6 (codes "c") (codes "h"))) → ⊥
    by Version e = e
    by Background e = cc
    by Hard e = e
    by Requests e = cc
