-- What is made of a design with background objects, by cases: a text with its guarantee, or the first cause for which there is none.
-- The order of the causes is: the version, the background objects, the rules of the hard part, requests by clients, the bounds, the length.
use Rattle.std.specs.Prelude.{◌≡◌, ℕ, ◌≤◌, ◌<◌, true, List, length, Option, Some, None, Result, Ok, Err, ⊤}
use Rattle.seq_tree.specs.Limits.{ada_limit}
use Rattle.seq_tree.specs.Names.{Name}
use Rattle.ods_tree.specs.Designs.{Design}
use Rattle.ods_print.specs.Writable.{is_writable}
use Rattle.ods_tree.specs.Ticks.{in_ticks}
use Rattle.design_rules.specs.Broken as rules
use Rattle.ods_index.specs.Told.{told_of}
use Rattle.rt_response.specs.Response.{Fits, IsLeastVector}
use Rattle.rt_response.specs.Rounds.{IsMiss}
use Rattle.rt_response.specs.declared.rows.Bound.{Bound}
use Rattle.rt_response.specs.declared.rows.Miss as rows
use Rattle.arrivals_tree.specs.Arrived.{horizon_limit}
use Rattle.arrivals_tree.specs.Arriving.{Arrivals}
use Rattle.guarantee.specs.Arrivals.{named_arrivals, KeepsSeparations}
use Rattle.background_designs.specs.HardParts.{hard_part}
use Rattle.background_designs.specs.Refusals.{Breaks, Misfits, IsBackgroundDesign, IsFirstFault}
use Rattle.background_designs.specs.Programs.{background_program, background_ranks, background_text, hard_rows}
use Rattle.background_designs.specs.Runs.{IsRightInBackground, IsGuaranteedInBackground}
use Rattle.background.specs.Rows.{background_bounds, hard_name}
use Rattle.background.specs.Told.{misfit_of}
use Rattle.background.specs.declared.delivery.Background.{Background}
use Rattle.background.specs.declared.delivery.BackgroundRefusal.{BackgroundRefusal}
use Rattle.background.specs.declared.delivery.BackgroundRefusal.TheVariants.{Rule, Broken, Miss, Long, NoMemory}

-- the text of a design, with the least bounds of its hard threads, and what goes with it
pub record IsBackgroundOf (x : Design) (d : Background) : Type 0 where
  pub passes : IsBackgroundDesign x
  pub bounds : List Bound
  pub least : IsLeastVector (hard_rows (in_ticks x)) bounds
  pub made : d.text.items ≡ background_text (in_ticks x) bounds
  pub short : length d.text.items ≤ ada_limit
  pub named : d.bounds.items ≡ background_bounds (in_ticks x) bounds
  pub ceilings : d.ceilings.items ≡ (background_ranks (in_ticks x)).shared
  -- every run of the program is right, for all arrivals that keep the separations of the hard part
  pub runs : (r : Arrivals) → KeepsSeparations horizon_limit (hard_part (in_ticks x)) (named_arrivals (background_program (in_ticks x)) r)
      → IsRightInBackground (in_ticks x) bounds r
  -- of a design whose names and numbers a text can hold, the text reads as the program, so that this is promised of the text
  pub guaranteed : is_writable x ≡ true → IsGuaranteedInBackground horizon_limit (in_ticks x) d.text.items bounds

-- a rule of designs is broken first; want of memory is no such rule
abbrev pub IsToldFirst : Design → Option rules.Broken → Type 0
IsToldFirst x None = ⊥
IsToldFirst x (Some told) = IsFirstFault x (Breaks told)

-- no bounds, since a value of a hard thread is over its limit
pub record IsMissedInBackground (x : Design) (thread : Name) (miss : rows.Miss) : Type 0 where
  pub passes : IsBackgroundDesign x
  pub first : IsMiss (hard_rows (in_ticks x)) miss
  pub called : hard_name (in_ticks x) miss.index ≡ Some thread
  pub none : (v : List Bound) → Fits (hard_rows (in_ticks x)) v → ⊥

-- a text that is too long
pub record IsLongInBackground (x : Design) : Type 0 where
  pub passes : IsBackgroundDesign x
  pub bounds : List Bound
  pub least : IsLeastVector (hard_rows (in_ticks x)) bounds
  pub long : ada_limit < length (background_text (in_ticks x) bounds)

-- why there is no text
abbrev pub IsRefusedInBackground : Design → BackgroundRefusal → Type 0
IsRefusedInBackground x (Rule rule) = IsFirstFault x (Misfits (misfit_of rule))
IsRefusedInBackground x (Broken broken) = IsToldFirst x (told_of broken)
IsRefusedInBackground x (Miss thread miss) = IsMissedInBackground x thread miss
IsRefusedInBackground x Long = IsLongInBackground x
IsRefusedInBackground x NoMemory = ⊤

-- what an answer says of a design as it is written
abbrev pub DeliversBackground : Design → Result Background BackgroundRefusal → Type 0
DeliversBackground x (Ok d) = IsBackgroundOf x d
DeliversBackground x (Err refusal) = IsRefusedInBackground x refusal
