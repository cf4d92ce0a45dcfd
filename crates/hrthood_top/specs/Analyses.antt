-- The verb `analyse`: the bounds of a design and its ceilings, one a line.
-- The bounds are the least that fit the design's table, those of the head of its Ada text; the lines are this project's own.
use Rattle.std.specs.Prelude.{◌≡◌, ℕ, List, ◌++◌, codes, decimal, flat_map}
use Rattle.ods_tree.specs.Flattening.{flat}
use Rattle.ods_tree.specs.Ticks.{in_ticks, first_priority}
use Rattle.bridge.specs.Delivers.{IsTextFor}
use Rattle.design_bounds.specs.Rows.{named_bounds, ceiling_rows}
use Rattle.trace_text.specs.declared.bound.NamedBound.{NamedBound}
use Rattle.design_bounds.specs.declared.rows.CeilingRow.{CeilingRow}
use Rattle.hrthood_top.specs.declared.generate.GenerateRefusal.{GenerateRefusal}
use Rattle.hrthood_top.specs.Generates.{RefusesDesign, CanGenerate, generate_line}
use Rattle.hrthood_top.specs.Verbs.{OfDesign, Verb, on_design}

-- a word and a number
abbrev pub labelled : List ℕ → ℕ → List ℕ
labelled label number = label ++ decimal number

-- what a thread must keep: its priority, period and deadline
abbrev pub demands : NamedBound → List ℕ
demands b = labelled (codes " priority ") b.priority ++ (labelled (codes " period ") b.period ++ labelled (codes " deadline ") b.deadline)

-- what is found of it: its jitter, cost, blocking and response time
abbrev pub findings : NamedBound → List ℕ
findings b =
    labelled (codes " jitter ") b.jitter ++ (labelled (codes " cost ") b.cost
    ++ (labelled (codes " blocking ") b.block ++ labelled (codes " response ") b.response))

-- the line of a bound
abbrev pub bound_line : NamedBound → List ℕ
bound_line b = codes "thread " ++ (b.name ++ (demands b ++ (findings b ++ codes "\n")))

-- the line of a ceiling
abbrev pub ceiling_line : CeilingRow → List ℕ
ceiling_line c = codes "ceiling " ++ (c.name ++ (labelled (codes " ") c.ceiling ++ codes "\n"))

-- the lines of bounds, then those of ceilings
abbrev pub report : List NamedBound → List CeilingRow → List ℕ
report bounds ceilings = flat_map bound_line bounds ++ flat_map ceiling_line ceilings

-- bytes of a design of which an Ada text can be made, and the lines of the least bounds that it has and of its ceilings
pub record IsAnalysed (bytes lines : List ℕ) : Type 0 where
  pub text : List ℕ
  pub made : IsTextFor bytes text
  pub told : lines ≡ report (named_bounds (first_priority made.design) (flat (in_ticks made.design)) made.bounds)
      (ceiling_rows (first_priority made.design) (flat (in_ticks made.design)))

-- what the verb makes of a design, with the refusals of `generate`
abbrev pub of_analyse : OfDesign
of_analyse = record {
  Makes = IsAnalysed;
  Refusal = GenerateRefusal;
  Refuses = RefusesDesign;
  line = generate_line;
  CanDo = CanGenerate;
}

-- the verb
abbrev pub analyses : List ℕ → Verb
analyses = on_design of_analyse
