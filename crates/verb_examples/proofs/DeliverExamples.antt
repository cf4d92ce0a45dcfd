-- Examples: what is made of the bytes of a design, and why nothing is. Each definition holds of all its parts, and without one of them it doesn't.
use Rattle.std.specs.Prelude.{◌≡◌, ℕ, ◌≤◌, ◌<◌, List, length, Some, Ok, Err, codes}
use Rattle.std.proofs.Common.{arith}
use Rattle.seq_tree.specs.Names.{Name}
use Rattle.seq_tree.specs.declared.text_fault.TextFault.{TextFault}
use Rattle.ods_tree.specs.Designs.{Design}
use Rattle.ods_tree.specs.Flattening.{flat}
use Rattle.ods_tree.specs.Ticks.{in_ticks, first_priority}
use Rattle.ods_tree.specs.Reading.{Reads}
use Rattle.ods_read.specs.Answers.{Faults}
use Rattle.design_rules.specs.Broken.{V02}
use Rattle.design_rules.specs.Rules.{MeetsRules, IsFirstBroken}
use Rattle.ods_index.specs.declared.broken.Broken.TheVariants as told
use Rattle.rt_response.specs.Response.{IsLeastVector}
use Rattle.rt_response.specs.declared.rows.Bound.{Bound}
use Rattle.rt_response.specs.declared.rows.Miss as rows
use Rattle.analysis.specs.Tables.{table}
use Rattle.arrivals_tree.specs.Arrived.{horizon_limit}
use Rattle.guarantee.specs.Guaranteed.{Guaranteed}
use Rattle.guarantee.specs.Programs.{text}
use Rattle.design_bounds.specs.Analyses.{IsMissed}
use Rattle.design_bounds.specs.Rows.{named_bounds, ceiling_rows}
use Rattle.bridge.specs.declared.delivery.Delivery.{Delivery}
use Rattle.bridge.specs.declared.delivery.Refusal.TheVariants as refusal
use Rattle.bridge.specs.Delivers.{IsTextFor, HasNoBounds, HasLongText, Delivers}
use Rattle.bridge.specs.Taking.{BreaksRule}

-- THE TEXT
module _ (bytes made : List ℕ) where
  text_for : (x : Design) (v : List Bound) → Reads bytes x → MeetsRules x → IsLeastVector (table (flat (in_ticks x))).rows v
      → made ≡ text (in_ticks x) v → length made ≤ 16777216 → Guaranteed horizon_limit (in_ticks x) made v → IsTextFor bytes made
  text_for x v r m l e s g = record { design = x; reads = r; meets = m; bounds = v; least = l; made = e; short = s; guaranteed = g }

  unread : ((x : Design) → Reads bytes x → ⊥) → IsTextFor bytes made → ⊥
  unread never h = never h.design h.reads

  of_no_rule : ((x : Design) → Reads bytes x → MeetsRules x → ⊥) → IsTextFor bytes made → ⊥
  of_no_rule never h = never h.design h.reads h.meets

  -- of the least bounds of the design in ticks, and not of others
  without_bounds : ((x : Design) (v : List Bound) → Reads bytes x → IsLeastVector (table (flat (in_ticks x))).rows v → ⊥) → IsTextFor bytes made → ⊥
  without_bounds never h = never h.design h.bounds h.reads h.least

  other_text : ((x : Design) (v : List Bound) → Reads bytes x → IsLeastVector (table (flat (in_ticks x))).rows v → made ≡ text (in_ticks x) v → ⊥)
      → IsTextFor bytes made → ⊥
  other_text never h = never h.design h.bounds h.reads h.least h.made

  long_text : 16777216 < length made → IsTextFor bytes made → ⊥
  long_text over h = omega (arith, over, h.short)

  not_guaranteed : ((x : Design) (v : List Bound) → Reads bytes x → Guaranteed horizon_limit (in_ticks x) made v → ⊥) → IsTextFor bytes made → ⊥
  not_guaranteed never h = never h.design h.bounds h.reads h.guaranteed

-- what goes with it
module _ (bytes : List ℕ) (d : Delivery) where
  delivered : (whole : IsTextFor bytes d.text.items)
      → d.bounds.items ≡ named_bounds (first_priority whole.design) (flat (in_ticks whole.design)) whole.bounds
      → d.ceilings.items ≡ ceiling_rows (first_priority whole.design) (flat (in_ticks whole.design)) → Delivers bytes (Ok d)
  delivered whole n c = record { whole = whole; named = n; ceilings = c }

  without_text : ¬ IsTextFor bytes d.text.items → Delivers bytes (Ok d) → ⊥
  without_text never h = never h.whole

  other_bounds : ((t : IsTextFor bytes d.text.items)
      → d.bounds.items ≡ named_bounds (first_priority t.design) (flat (in_ticks t.design)) t.bounds → ⊥) → Delivers bytes (Ok d) → ⊥
  other_bounds never h = never h.whole h.named

  other_rows : ((t : IsTextFor bytes d.text.items)
      → d.ceilings.items ≡ ceiling_rows (first_priority t.design) (flat (in_ticks t.design)) → ⊥) → Delivers bytes (Ok d) → ⊥
  other_rows never h = never h.whole h.ceilings

-- WHY THERE IS NONE
module _ (bytes : List ℕ) where
  faulty : (f : TextFault) → Faults bytes f → Delivers bytes (Err (refusal.Text f))
  faulty f h = h

  not_faulty : (f : TextFault) → ¬ Faults bytes f → Delivers bytes (Err (refusal.Text f)) → ⊥
  not_faulty f never h = never h

  -- the rule that is told is the first that the design breaks
  broken : (x : Design) → Reads bytes x → IsFirstBroken x (V02 (codes "a")) → Delivers bytes (Err (refusal.Rule (told.V02 (codes "a"))))
  broken x r b = record { design = x; reads = r; broken = b }

  broken_unread : ((x : Design) → Reads bytes x → ⊥) → BreaksRule bytes (Some (V02 (codes "a"))) → ⊥
  broken_unread never h = never h.design h.reads

  not_broken : ((x : Design) → Reads bytes x → IsFirstBroken x (V02 (codes "a")) → ⊥) → Delivers bytes (Err (refusal.Rule (told.V02 (codes "a")))) → ⊥
  not_broken never h = never h.design h.reads h.broken

  -- want of memory is no rule
  memory_broken : Delivers bytes (Err (refusal.Rule told.NoMemory)) → ⊥
  memory_broken h = h.broken

  no_bounds : (x : Design) (thread : Name) (m : rows.Miss) → Reads bytes x → MeetsRules x → IsMissed (flat (in_ticks x)) thread m
      → Delivers bytes (Err (refusal.Miss thread m))
  no_bounds x thread m r k i = record { design = x; reads = r; meets = k; missed = i }

  missed_unread : (thread : Name) (m : rows.Miss) → ((x : Design) → Reads bytes x → ⊥) → HasNoBounds bytes thread m → ⊥
  missed_unread thread m never h = never h.design h.reads

  missed_broken : (thread : Name) (m : rows.Miss) → ((x : Design) → Reads bytes x → MeetsRules x → ⊥) → HasNoBounds bytes thread m → ⊥
  missed_broken thread m never h = never h.design h.reads h.meets

  not_missed : (thread : Name) (m : rows.Miss) → ((x : Design) → Reads bytes x → IsMissed (flat (in_ticks x)) thread m → ⊥)
      → Delivers bytes (Err (refusal.Miss thread m)) → ⊥
  not_missed thread m never h = never h.design h.reads h.missed

  too_long : (x : Design) (v : List Bound) → Reads bytes x → MeetsRules x → IsLeastVector (table (flat (in_ticks x))).rows v
      → 16777216 < length (text (in_ticks x) v) → Delivers bytes (Err refusal.Long)
  too_long x v r m l o = record { design = x; reads = r; meets = m; bounds = v; least = l; long = o }

  long_unread : ((x : Design) → Reads bytes x → ⊥) → HasLongText bytes → ⊥
  long_unread never h = never h.design h.reads

  long_broken : ((x : Design) → Reads bytes x → MeetsRules x → ⊥) → HasLongText bytes → ⊥
  long_broken never h = never h.design h.reads h.meets

  long_without_bounds : ((x : Design) (v : List Bound) → Reads bytes x → IsLeastVector (table (flat (in_ticks x))).rows v → ⊥) → HasLongText bytes → ⊥
  long_without_bounds never h = never h.design h.bounds h.reads h.least

  not_long : ((x : Design) (v : List Bound) → Reads bytes x → length (text (in_ticks x) v) ≤ 16777216) → Delivers bytes (Err refusal.Long) → ⊥
  not_long short h = omega (arith, h.long, short h.design h.bounds h.reads)

  memory : Delivers bytes (Err refusal.NoMemory)
  memory = tt
