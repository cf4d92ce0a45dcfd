-- The verb `background`: the Ada text of a design with background objects.
-- What is made of a design, and why nothing is, is that of the delivery, said of bytes.
use Rattle.std.specs.Prelude.{◌≡◌, ℕ, ◌≤◌, List, length, codes}
use Rattle.seq_tree.specs.Limits.{ada_limit}
use Rattle.ods_tree.specs.Designs as designs
use Rattle.ods_tree.specs.Reading.{Reads}
use Rattle.ods_tree.specs.Ticks.{in_ticks}
use Rattle.ods_read.specs.Answers.{Faults}
use Rattle.rt_response.specs.Response.{IsLeastVector}
use Rattle.rt_response.specs.declared.rows.Bound.{Bound}
use Rattle.arrivals_tree.specs.Arrived.{horizon_limit}
use Rattle.background_designs.specs.Refusals.{IsBackgroundDesign}
use Rattle.background_designs.specs.Programs.{background_text, hard_rows}
use Rattle.background_designs.specs.Runs.{IsGuaranteedInBackground}
use Rattle.background.specs.Delivers.{IsRefusedInBackground}
use Rattle.background.specs.declared.delivery.BackgroundRefusal as delivery
use Rattle.background.specs.declared.delivery.BackgroundRefusal.TheVariants as delivered
use Rattle.hrthood_top.specs.declared.file_kind.FileKind.TheVariants.{Design}
use Rattle.hrthood_top.specs.declared.background_text.BackgroundRefusal.{BackgroundRefusal}
use Rattle.hrthood_top.specs.declared.background_text.BackgroundRefusal.TheVariants.{Text, Rule, Broken, Miss, Long}
use Rattle.hrthood_top.specs.Messages.{text_line, misfit_line, rule_line, miss_line}
use Rattle.hrthood_top.specs.Verbs.{OfDesign, Verb, on_design}

-- a text for the design with background objects that the bytes are: its own, with the least bounds of its hard threads, guaranteed
pub record IsBackgroundTextFor (bytes text_made : List ℕ) : Type 0 where
  pub design : designs.Design
  pub reads : Reads bytes design
  pub passes : IsBackgroundDesign design
  pub bounds : List Bound
  pub least : IsLeastVector (hard_rows (in_ticks design)) bounds
  pub made : text_made ≡ background_text (in_ticks design) bounds
  pub short : length text_made ≤ ada_limit
  pub guaranteed : IsGuaranteedInBackground horizon_limit (in_ticks design) text_made bounds

-- the design that the bytes are is refused
pub record RefusesRead (bytes : List ℕ) (refusal : delivery.BackgroundRefusal) : Type 0 where
  pub design : designs.Design
  pub reads : Reads bytes design
  pub refused : IsRefusedInBackground design refusal

-- why no text is made of bytes
abbrev pub RefusesBackground : List ℕ → BackgroundRefusal → Type 0
RefusesBackground bytes (Text fault) = Faults bytes fault
RefusesBackground bytes (Rule rule) = RefusesRead bytes (delivered.Rule rule)
RefusesBackground bytes (Broken broken) = RefusesRead bytes (delivered.Broken broken)
RefusesBackground bytes (Miss thread miss) = RefusesRead bytes (delivered.Miss thread miss)
RefusesBackground bytes Long = RefusesRead bytes delivered.Long

-- the line that tells it
abbrev pub background_line : BackgroundRefusal → List ℕ
background_line (Text fault) = text_line Design fault
background_line (Rule rule) = misfit_line rule
background_line (Broken broken) = rule_line broken
background_line (Miss thread miss) = miss_line thread miss
background_line Long = codes "refused S3 text\n"

-- bytes of a design with background objects that is not refused and has bounds, and whose text with the least of them is within its limit
pub record CanBackground (bytes : List ℕ) : Type 0 where
  pub design : designs.Design
  pub reads : Reads bytes design
  pub passes : IsBackgroundDesign design
  pub bounds : List Bound
  pub least : IsLeastVector (hard_rows (in_ticks design)) bounds
  pub short : length (background_text (in_ticks design) bounds) ≤ ada_limit

-- what the verb makes of a design
abbrev pub of_background : OfDesign
of_background = record {
  Makes = IsBackgroundTextFor;
  Refusal = BackgroundRefusal;
  Refuses = RefusesBackground;
  line = background_line;
  CanDo = CanBackground;
}

-- the verb
abbrev pub backgrounds : List ℕ → Verb
backgrounds = on_design of_background
