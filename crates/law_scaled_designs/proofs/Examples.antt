-- Worked examples: what the rules tell of scaled designs, and what they would tell if a part of what a scaled design is were left out.
use Rattle.std.specs.Prelude.{◌≡◌, ℕ, List, [], ◌∷◌, Some, None, codes, refl}
use Rattle.seq_tree.specs.Statements.{Statement, Null, Work}
use Rattle.ods_tree.specs.Designs.{Design}
use Rattle.ods_tree.specs.Flattening.{flat}
use Rattle.ods_tree.specs.Ticks.{in_ticks}
use Rattle.ods_tree.specs.declared.design.AttrKey.TheVariants.{Period, Deadline, ThreadBudget}
use Rattle.ods_tree.specs.declared.design.TickUnit.TheVariants.{Us, Ms}
use Rattle.ods_tree.proofs.Shared.Short.{attr, cyc, cyc_with, pas, design, several}
use Rattle.ods_tree.proofs.Shared.Versions.{version, timed, design_of_two}
use Rattle.design_rules.specs.Broken.{V11, V14, V15Cost}
use Rattle.design_rules.specs.Budgets.{bad_budgets, bad_sizes}
use Rattle.design_rules.specs.Numbers.{bad_numbers}
use Rattle.design_rules.specs.Versions.{version_faults}
use Rattle.law_scaling.specs.Designs.{scaled_design}
use Rattle.law_scaling.specs.Parts.{first_dear}
use Rattle.law_scaling.specs.Scaling.{scaled}

-- a cyclic thread that needs all of its budget
abbrev budgeted : List Statement → Design
budgeted ss = design (cyc_with (codes "a") (attr Period 10 ∷ attr Deadline 10 ∷ attr ThreadBudget 4 ∷ []) [] ss)

budgeted-taken : bad_budgets (budgeted (Work 3 ∷ [])) ≡ []
budgeted-taken = refl

-- twice the `work` is over it, so a scaled design has the greatest budget
over-budget : bad_budgets (budgeted (Work 6 ∷ [])) ≡ V14 (codes "a") 7 4 ∷ []
over-budget = refl

scaled-taken : (bad_budgets (scaled_design 2000 (budgeted (Work 3 ∷ []))) ≡ []) × (bad_numbers (scaled_design 2000 (budgeted (Work 3 ∷ []))) ≡ [])
scaled-taken = (refl, refl)

-- at no per mille `work` would take no tick
nothing-left : bad_numbers (scaled_design 0 (budgeted (Work 3 ∷ []))) ≡ V11 (Some (codes "a")) ∷ []
nothing-left = refl

one-left : bad_numbers (scaled_design 1 (budgeted (Work 3 ∷ []))) ≡ []
one-left = refl

-- a thread that is too dear at the greatest per mille, and not at the one before it
abbrev dear : Design
dear = design (cyc (codes "a") 1000000000 1000000000 (Work 1000000 ∷ []))

dear-told : bad_sizes (scaled_design 1000000 dear) ≡ V15Cost (codes "a") None ∷ []
dear-told = refl

cheap-taken : (bad_sizes (scaled_design 999999 dear) ≡ []) × (bad_numbers (scaled_design 999999 dear) ≡ [])
cheap-taken = (refl, refl)

-- of two bodies that are too dear the flat design has the passive one first, and the rules tell the thread, which is written first
abbrev both : Design
both =
    several (cyc (codes "a") 1000000000 1000000000 (Work 1000000 ∷ []) ∷ pas (codes "p") (codes "f") (Work 1000000 ∷ Null ∷ []) ∷ [])

both-told : (bad_sizes (scaled_design 1000000 both) ≡ V15Cost (codes "a") None ∷ V15Cost (codes "p") (Some (codes "f")) ∷ [])
    × (first_dear (scaled 1000000 (flat both)) ≡ Some (record { object = codes "p"; op = Some (codes "f"); ticks = 1000000001 }))
both-told = (refl, refl)

-- a design with units of time, whose budget is 40 ticks of half a millisecond
abbrev half_milliseconds : Design
half_milliseconds = design_of_two (version 500 Us None)
    (cyc_with (codes "a") (timed Period 50 Ms ∷ timed Deadline 50 Ms ∷ timed ThreadBudget 20 Ms ∷ []) [] (Work 3 ∷ []))

units-scaled : (in_ticks (scaled_design 2000 half_milliseconds) ≡ scaled_design 2000 (in_ticks half_milliseconds)) × (version_faults (scaled_design 2000 half_milliseconds) ≡ [])
units-scaled = (refl, refl)
