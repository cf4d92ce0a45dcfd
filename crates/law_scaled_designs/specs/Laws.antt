-- What the rules say of a design whose `work` is scaled: it is a design of the same rules, so that what is said of its flat design leads back
-- to a design that a verb takes.
-- That only execution times change is what sensitivity analysis rests on (Lehoczky, Sha and Ding 1989).
use Rattle.std.specs.Prelude.{◌≡◌, ◌≤◌, ℕ, List, Option, Some, None}
use Rattle.seq_tree.specs.Names.{Name}
use Rattle.ods_tree.specs.Designs.{Design}
use Rattle.ods_tree.specs.Flattening.{flat}
use Rattle.ods_tree.specs.Ticks.{in_ticks}
use Rattle.rt_response.specs.declared.rows.Bound.{Bound}
use Rattle.rt_response.specs.declared.rows.Miss.{Miss}
use Rattle.rt_response.specs.Response.{Fits}
use Rattle.rt_response.specs.Rounds.{IsMiss}
use Rattle.analysis.specs.Tables.{table}
use Rattle.design_rules.specs.Broken.{Broken, V15Cost}
use Rattle.design_rules.specs.Rules.{MeetsRules, IsFirstBroken}
use Rattle.law_scaling.specs.Scaling.{scaled}
use Rattle.law_scaling.specs.Parts.{Part, first_dear}
use Rattle.law_scaling.specs.Holding.{Holds}
use Rattle.law_scaling.specs.Designs.{scaled_design}

-- a scaled design in ticks is the design in ticks, scaled: `work` is counted in ticks, and a budget is the greatest number of them
abbrev pub ScaledDesignsAreInTicks : Type 0
ScaledDesignsAreInTicks = (x : Design) (k : ℕ) → in_ticks (scaled_design k x) ≡ scaled_design k (in_ticks x)

-- so what runs of it is the flat design in ticks, scaled
abbrev pub ScaledDesignsRunScaled : Type 0
ScaledDesignsRunScaled = (x : Design) (k : ℕ) → flat (in_ticks (scaled_design k x)) ≡ scaled k (flat (in_ticks x))

-- a scaled design meets the rules where the design does and no body or thread is too dear at so many per mille
abbrev pub ScaledDesignsMeetTheRules : Type 0
ScaledDesignsMeetTheRules =
    (x : Design) (k : ℕ) → 1 ≤ k → MeetsRules x → first_dear (scaled k (flat (in_ticks x))) ≡ None → MeetsRules (scaled_design k x)

-- a design that meets the rules and has bounds within its limits
pub record IsBoundedDesign (x : Design) : Type 0 where
  pub meets : MeetsRules x
  pub bounds : List Bound
  pub fits : Fits (table (flat (in_ticks x))).rows bounds

-- where a design holds at so many per mille, the design at as many or less has bounds
abbrev pub HoldingDesignsAreBounded : Type 0
HoldingDesignsAreBounded =
    (x : Design) (j k : ℕ) → 1 ≤ j → j ≤ k → MeetsRules x → Holds (flat (in_ticks x)) k → IsBoundedDesign (scaled_design j x)

-- a design that meets the rules, and of which this value is over its limit first
pub record IsLateDesign (x : Design) (miss : Miss) : Type 0 where
  pub meets : MeetsRules x
  pub first : IsMiss (table (flat (in_ticks x))).rows miss

-- where no body or thread is too dear at so many per mille and a value is over its limit, it is that value of the scaled design too
abbrev pub MissesAreOfScaledDesigns : Type 0
MissesAreOfScaledDesigns =
    (x : Design) (k : ℕ) (miss : Miss) → 1 ≤ k → MeetsRules x → first_dear (scaled k (flat (in_ticks x))) ≡ None
    → IsMiss (table (scaled k (flat (in_ticks x)))).rows miss → IsLateDesign (scaled_design k x) miss

-- a design that doesn't meet the rules, and breaks that first by which bodies and threads may not cost too much
pub record IsDearDesign (x : Design) : Type 0 where
  pub breaks : MeetsRules x → ⊥
  pub told : (told : Broken) → IsFirstBroken x told → (object : Name) × (op : Option Name) × (told ≡ V15Cost object op)

-- where a body or a thread is too dear at so many per mille, the scaled design is refused for a body or a thread: the first in order of writing,
-- and not always the first of the flat design
abbrev pub DearDesignsAreRefused : Type 0
DearDesignsAreRefused =
    (x : Design) (k : ℕ) (part : Part) → 1 ≤ k → MeetsRules x → first_dear (scaled k (flat (in_ticks x))) ≡ Some part
    → IsDearDesign (scaled_design k x)
