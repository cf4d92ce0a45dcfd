-- The verb `scale`: how far all `work` of a design may grow, in per mille, and what fails at the next one.
-- The margin is that of the flat design; the lines are this project's own.
use Rattle.std.specs.Prelude.{◌≡◌, ℕ, List, ◌++◌, codes, decimal}
use Rattle.seq_tree.specs.Names.{Name}
use Rattle.ods_tree.specs.Designs as designs
use Rattle.ods_tree.specs.Flattening.{flat}
use Rattle.ods_tree.specs.Reading.{Reads}
use Rattle.ods_tree.specs.Ticks.{in_ticks}
use Rattle.design_rules.specs.Rules.{MeetsRules}
use Rattle.rt_response.specs.declared.rows.Miss as rows
use Rattle.bridge.specs.Taking.{RefusesTaking}
use Rattle.law_scaling.specs.Holding.{Holds}
use Rattle.scaling.specs.Margins.{IsMargin, HasNoMargin}
use Rattle.scaling.specs.declared.margin.Margin.{Margin}
use Rattle.scaling.specs.declared.margin.Next.{Next}
use Rattle.scaling.specs.declared.margin.Next.TheVariants as next
use Rattle.hrthood_top.specs.declared.scale.ScaleRefusal.{ScaleRefusal}
use Rattle.hrthood_top.specs.declared.scale.ScaleRefusal.TheVariants.{Untaken, Miss}
use Rattle.hrthood_top.specs.Checks.{check_line}
use Rattle.hrthood_top.specs.Messages.{miss_line, miss_text, part_text}
use Rattle.hrthood_top.specs.Verbs.{OfDesign, Verb, on_design}

-- the line of what fails at the next per mille
abbrev pub next_line : Next → List ℕ
next_line next.Limit = codes "next limit\n"
next_line (next.Cost name part) = codes "next cost " ++ (name ++ (codes " " ++ (part_text part ++ codes "\n")))
next_line (next.Miss thread miss) = codes "next " ++ miss_text thread miss

-- the lines of a margin
abbrev pub margin_lines : Margin → List ℕ
margin_lines m = codes "scale " ++ (decimal m.per_mille ++ (codes "\n" ++ next_line m.next))

-- bytes of a design that meets the rules, and the lines of its margin
pub record IsScaled (bytes lines : List ℕ) : Type 0 where
  pub design : designs.Design
  pub reads : Reads bytes design
  pub meets : MeetsRules design
  pub margin : Margin
  pub right : IsMargin (flat (in_ticks design)) margin
  pub holds : Holds (flat (in_ticks design)) 1
  pub told : lines ≡ margin_lines margin

-- the design that the bytes are meets the rules, but does not hold at one per mille, since a value of a thread is over its limit
pub record HoldsNowhere (bytes : List ℕ) (thread : Name) (miss : rows.Miss) : Type 0 where
  pub design : designs.Design
  pub reads : Reads bytes design
  pub meets : MeetsRules design
  pub without : HasNoMargin (flat (in_ticks design)) (next.Miss thread miss)

-- why a design has no margin
abbrev pub RefusesScale : List ℕ → ScaleRefusal → Type 0
RefusesScale bytes (Untaken refusal) = RefusesTaking bytes refusal
RefusesScale bytes (Miss thread miss) = HoldsNowhere bytes thread miss

-- the line that tells it
abbrev pub scale_line : ScaleRefusal → List ℕ
scale_line (Untaken refusal) = check_line refusal
scale_line (Miss thread miss) = miss_line thread miss

-- bytes of a design that meets the rules and holds at one per mille
pub record CanScale (bytes : List ℕ) : Type 0 where
  pub design : designs.Design
  pub reads : Reads bytes design
  pub meets : MeetsRules design
  pub holds : Holds (flat (in_ticks design)) 1

-- what the verb makes of a design
abbrev pub of_scale : OfDesign
of_scale = record {
  Makes = IsScaled;
  Refusal = ScaleRefusal;
  Refuses = RefusesScale;
  line = scale_line;
  CanDo = CanScale;
}

-- the verb
abbrev pub scales : List ℕ → Verb
scales = on_design of_scale
