-- Examples: the text of a design with background objects as the crate that makes it answers, field by field, and why it makes none. Each definition
-- holds of all its parts, and without one of them it doesn't.
use Rattle.std.specs.Prelude.{◌≡◌, ◌≢◌, ℕ, ◌≤◌, ◌<◌, true, List, [], ◌∷◌, length, map, Some, None, Ok, Err, codes, refl}
use Rattle.std.proofs.Common.{arith}
use Rattle.seq_tree.specs.Names.{Name}
use Rattle.seq_tree.specs.declared.tree.OpName.{OpName}
use Rattle.ods_tree.specs.Designs.{Design}
use Rattle.ods_tree.specs.Ticks.{in_ticks}
use Rattle.ods_print.specs.Writable.{is_writable}
use Rattle.design_rules.specs.Broken as rules
use Rattle.ods_index.specs.declared.broken.Broken.TheVariants as told
use Rattle.rt_response.specs.Response.{Fits, IsLeastVector}
use Rattle.rt_response.specs.Rounds.{IsMiss}
use Rattle.rt_response.specs.declared.rows.Bound.{Bound}
use Rattle.rt_response.specs.declared.rows.Miss as rows
use Rattle.arrivals_tree.specs.Arrived.{horizon_limit}
use Rattle.arrivals_tree.specs.Arriving.{Arrivals}
use Rattle.guarantee.specs.Arrivals.{named_arrivals, KeepsSeparations}
use Rattle.background_designs.specs.HardParts.{hard_part}
use Rattle.background_designs.specs.Misfits as misfits
use Rattle.background_designs.specs.Refusals.{Breaks, Misfits, IsBackgroundDesign, IsFirstFault}
use Rattle.background_designs.specs.Programs.{background_program, background_ranks, background_text, hard_rows}
use Rattle.background_designs.specs.Runs.{IsRightInBackground, IsGuaranteedInBackground}
use Rattle.background.specs.Rows.{background_bounds, hard_name}
use Rattle.background.specs.Told.{misfit_of}
use Rattle.background.specs.Delivers.{IsBackgroundOf, IsToldFirst, IsMissedInBackground, IsLongInBackground, IsRefusedInBackground, DeliversBackground}
use Rattle.background.specs.declared.delivery.Background.{Background}
use Rattle.background.specs.declared.delivery.BackgroundRefusal.TheVariants as refusal
use Rattle.background.specs.declared.delivery.BackgroundRule.TheVariants as rule

-- THE TEXT
module _ (x : Design) (d : Background) where
  of : (v : List Bound) → IsBackgroundDesign x → IsLeastVector (hard_rows (in_ticks x)) v → d.text.items ≡ background_text (in_ticks x) v
      → length d.text.items ≤ 16777216 → d.bounds.items ≡ background_bounds (in_ticks x) v → d.ceilings.items ≡ (background_ranks (in_ticks x)).shared
      → ((r : Arrivals) → KeepsSeparations horizon_limit (hard_part (in_ticks x)) (named_arrivals (background_program (in_ticks x)) r)
      → IsRightInBackground (in_ticks x) v r)
      → (is_writable x ≡ true → IsGuaranteedInBackground horizon_limit (in_ticks x) d.text.items v) → DeliversBackground x (Ok d)
  of v p l m s n c r g =
      record { passes = p; bounds = v; least = l; made = m; short = s; named = n; ceilings = c; runs = r; guaranteed = g }

  of_misfits : ¬ IsBackgroundDesign x → IsBackgroundOf x d → ⊥
  of_misfits never h = never h.passes

  not_least : ((v : List Bound) → IsLeastVector (hard_rows (in_ticks x)) v → ⊥) → IsBackgroundOf x d → ⊥
  not_least never h = never h.bounds h.least

  other_text : ((v : List Bound) → IsLeastVector (hard_rows (in_ticks x)) v → d.text.items ≡ background_text (in_ticks x) v → ⊥) → IsBackgroundOf x d → ⊥
  other_text never h = never h.bounds h.least h.made

  long : 16777216 < length d.text.items → IsBackgroundOf x d → ⊥
  long over h = omega (arith, over, h.short)

  other_bounds : ((v : List Bound) → IsLeastVector (hard_rows (in_ticks x)) v → d.bounds.items ≡ background_bounds (in_ticks x) v → ⊥)
      → IsBackgroundOf x d → ⊥
  other_bounds never h = never h.bounds h.least h.named

  other_ceilings : d.ceilings.items ≢ (background_ranks (in_ticks x)).shared → IsBackgroundOf x d → ⊥
  other_ceilings never h = never h.ceilings

  a_wrong_run : (r : Arrivals) → KeepsSeparations horizon_limit (hard_part (in_ticks x)) (named_arrivals (background_program (in_ticks x)) r)
      → ((v : List Bound) → IsLeastVector (hard_rows (in_ticks x)) v → IsRightInBackground (in_ticks x) v r → ⊥) → IsBackgroundOf x d → ⊥
  a_wrong_run r keeps never h = never h.bounds h.least (h.runs r keeps)

  not_guaranteed : is_writable x ≡ true
      → ((v : List Bound) → IsLeastVector (hard_rows (in_ticks x)) v → IsGuaranteedInBackground horizon_limit (in_ticks x) d.text.items v → ⊥)
      → IsBackgroundOf x d → ⊥
  not_guaranteed writable never h = never h.bounds h.least (h.guaranteed writable)

-- WHY THERE IS NONE
module _ (x : Design) where
  told_first : IsFirstFault x (Breaks rules.V17Tick) → DeliversBackground x (Err (refusal.Broken told.V17Tick))
  told_first f = f

  not_first : ¬ IsFirstFault x (Breaks rules.V17Tick) → DeliversBackground x (Err (refusal.Broken told.V17Tick)) → ⊥
  not_first never h = never h

  -- want of memory is no rule
  nothing_told : IsToldFirst x None → ⊥
  nothing_told h = h

  misfit : IsFirstFault x (Misfits (misfits.A3 (codes "a"))) → IsRefusedInBackground x (refusal.Rule (rule.A3 (codes "a")))
  misfit f = f

  other_misfit : ¬ IsFirstFault x (Misfits (misfits.A3 (codes "a"))) → IsRefusedInBackground x (refusal.Rule (rule.A3 (codes "a"))) → ⊥
  other_misfit never h = never h

  module _ (n : Name) (m : rows.Miss) where
    missed : IsBackgroundDesign x → IsMiss (hard_rows (in_ticks x)) m → hard_name (in_ticks x) m.index ≡ Some n
        → ((v : List Bound) → Fits (hard_rows (in_ticks x)) v → ⊥) → DeliversBackground x (Err (refusal.Miss n m))
    missed p f c none = record { passes = p; first = f; called = c; none = none }

    missed_in_misfits : ¬ IsBackgroundDesign x → IsMissedInBackground x n m → ⊥
    missed_in_misfits never h = never h.passes

    no_miss : ¬ IsMiss (hard_rows (in_ticks x)) m → IsMissedInBackground x n m → ⊥
    no_miss never h = never h.first

    other_thread : hard_name (in_ticks x) m.index ≢ Some n → IsMissedInBackground x n m → ⊥
    other_thread never h = never h.called

    that_fits : (v : List Bound) → Fits (hard_rows (in_ticks x)) v → IsMissedInBackground x n m → ⊥
    that_fits v fits h = h.none v fits

  too_long : (v : List Bound) → IsBackgroundDesign x → IsLeastVector (hard_rows (in_ticks x)) v → 16777216 < length (background_text (in_ticks x) v)
      → DeliversBackground x (Err refusal.Long)
  too_long v p l g = record { passes = p; bounds = v; least = l; long = g }

  long_in_misfits : ¬ IsBackgroundDesign x → IsLongInBackground x → ⊥
  long_in_misfits never h = never h.passes

  without_bounds : ((v : List Bound) → IsLeastVector (hard_rows (in_ticks x)) v → ⊥) → IsLongInBackground x → ⊥
  without_bounds never h = never h.bounds h.least

  short : ((v : List Bound) → IsLeastVector (hard_rows (in_ticks x)) v → length (background_text (in_ticks x) v) ≤ 16777216) → IsLongInBackground x → ⊥
  short all h = omega (arith, h.long, all h.bounds h.least)

  no_memory : DeliversBackground x (Err refusal.NoMemory)
  no_memory = tt

-- THE MISFIT THAT IS REPORTED
abbrev op : OpName
op = record { object = codes "b"; op = codes "c" }

misfits_told : map misfit_of (rule.A1 (codes "a") ∷ rule.A2 (codes "a") op ∷ rule.A3 (codes "a") ∷ rule.A4 (codes "a") op ∷ rule.A5 (codes "a")
    ∷ rule.A6 (codes "a") (codes "s") ∷ [])
    ≡ misfits.A1 (codes "a") ∷ misfits.A2 (codes "a") op ∷ misfits.A3 (codes "a") ∷ misfits.A4 (codes "a") op ∷ misfits.A5 (codes "a")
    ∷ misfits.A6 (codes "a") (codes "s") ∷ []
misfits_told = refl
