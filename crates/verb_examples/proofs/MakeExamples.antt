-- Examples: what is made of a design in ticks that meets the rules. Each definition holds of all its parts, and without one of them it doesn't;
-- whether priorities have room is computed.
use Rattle.std.specs.Prelude.{◌≡◌, ℕ, ◌≤◌, ◌<◌, List, [], ◌∷◌, length, Ok, Err}
use Rattle.std.proofs.Common.{arith, lit≤}
use Rattle.seq_tree.specs.Names.{Name}
use Rattle.seq_tree.specs.declared.text_fault.TextFault.{TextFault}
use Rattle.ods_tree.specs.Designs.{Design}
use Rattle.ods_tree.specs.Flats.{Flat}
use Rattle.ods_tree.specs.Flattening.{flat}
use Rattle.ods_tree.specs.Ticks.{first_priority}
use Rattle.ods_index.specs.declared.broken.Broken.{Broken}
use Rattle.rt_response.specs.Response.{IsLeastVector}
use Rattle.rt_response.specs.declared.rows.Bound.{Bound}
use Rattle.rt_response.specs.declared.rows.Miss as rows
use Rattle.analysis.specs.Ceilings.{ranks}
use Rattle.analysis.specs.Tables.{table}
use Rattle.guarantee.specs.Programs.{text}
use Rattle.design_bounds.specs.Analyses.{IsMissed}
use Rattle.design_bounds.specs.Rows.{named_bounds, ceiling_rows}
use Rattle.bridge.specs.declared.delivery.Delivery.{Delivery}
use Rattle.bridge.specs.declared.delivery.Refusal.TheVariants as refusal
use Rattle.bridge.specs.Makes.{AreInRange, HasRoom, Makes}

-- ROOM: 60 is the greatest priority as it is written
in_range : AreInRange 31 (30 ∷ 1 ∷ [])
in_range = (lit≤ tt, (lit≤ tt, tt))

in_range_from_one : AreInRange 1 (60 ∷ [])
in_range_from_one = (lit≤ tt, tt)

over_range : AreInRange 31 (1 ∷ 31 ∷ []) → ⊥
over_range h = omega (arith, h.1.0)

module _ (first : ℕ) (f : Flat) where
  room : AreInRange first (ranks f).threads → AreInRange first (ranks f).shared → AreInRange first (ranks f).obcs → HasRoom first f
  room t s o = record { threads = t; shared = s; obcs = o }

  no_room_for_threads : (AreInRange first (ranks f).threads → ⊥) → HasRoom first f → ⊥
  no_room_for_threads never h = never h.threads

  no_room_for_objects : (AreInRange first (ranks f).shared → ⊥) → HasRoom first f → ⊥
  no_room_for_objects never h = never h.shared

  no_room_for_controls : (AreInRange first (ranks f).obcs → ⊥) → HasRoom first f → ⊥
  no_room_for_controls never h = never h.obcs

-- THE TEXT
module _ (x : Design) (d : Delivery) where
  made : (v : List Bound) → IsLeastVector (table (flat x)).rows v → d.text.items ≡ text x v → length d.text.items ≤ 16777216
      → d.bounds.items ≡ named_bounds (first_priority x) (flat x) v → d.ceilings.items ≡ ceiling_rows (first_priority x) (flat x) → Makes x (Ok d)
  made v l e s n c = record { bounds = v; least = l; made = e; short = s; named = n; ceilings = c }

  not_least : ((v : List Bound) → IsLeastVector (table (flat x)).rows v → ⊥) → Makes x (Ok d) → ⊥
  not_least never h = never h.bounds h.least

  other_text : ((v : List Bound) → d.text.items ≡ text x v → ⊥) → Makes x (Ok d) → ⊥
  other_text never h = never h.bounds h.made

  long_text : 16777216 < length d.text.items → Makes x (Ok d) → ⊥
  long_text over h = omega (arith, over, h.short)

  other_bounds : ((v : List Bound) → d.bounds.items ≡ named_bounds (first_priority x) (flat x) v → ⊥) → Makes x (Ok d) → ⊥
  other_bounds never h = never h.bounds h.named

  other_ceilings : (d.ceilings.items ≡ ceiling_rows (first_priority x) (flat x) → ⊥) → Makes x (Ok d) → ⊥
  other_ceilings never h = never h.ceilings

-- WHY THERE IS NONE
module _ (x : Design) where
  missed : (thread : Name) (m : rows.Miss) → IsMissed (flat x) thread m → Makes x (Err (refusal.Miss thread m))
  missed thread m h = h

  not_missed : (thread : Name) (m : rows.Miss) → (IsMissed (flat x) thread m → ⊥) → Makes x (Err (refusal.Miss thread m)) → ⊥
  not_missed thread m never h = never h

  too_long : (v : List Bound) → IsLeastVector (table (flat x)).rows v → 16777216 < length (text x v) → Makes x (Err refusal.Long)
  too_long v l o = record { bounds = v; least = l; long = o }

  long_not_least : ((v : List Bound) → IsLeastVector (table (flat x)).rows v → ⊥) → Makes x (Err refusal.Long) → ⊥
  long_not_least never h = never h.bounds h.least

  not_long : ((v : List Bound) → length (text x v) ≤ 16777216) → Makes x (Err refusal.Long) → ⊥
  not_long short h = omega (arith, h.long, short h.bounds)

  -- a design that was read has no fault of its text, and one that meets the rules breaks none
  no_fault : (f : TextFault) → Makes x (Err (refusal.Text f)) → ⊥
  no_fault f h = h

  no_rule : (b : Broken) → Makes x (Err (refusal.Rule b)) → ⊥
  no_rule b h = h

  memory : Makes x (Err refusal.NoMemory)
  memory = tt
