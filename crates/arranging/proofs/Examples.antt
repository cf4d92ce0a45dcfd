-- Examples of the text by an order that is found: worked for two threads that pass by another order than that of deadlines; and each definition
-- holds of all its parts, and without one of them it doesn't.
use Rattle.std.specs.Prelude.{◌≡◌, ℕ, ◌≤◌, ◌<◌, ◌++◌, List, [], ◌∷◌, length, Ok, Err, codes, refl}
use Rattle.std.specs.Fmt.{digits}
use Rattle.std.proofs.Common.{lit≤, arith}
use Rattle.seq_tree.specs.Statements.{Work}
use Rattle.seq_tree.specs.Limits.{ada_limit}
use Rattle.seq_tree.specs.Layout.{layout}
use Rattle.ods_tree.specs.Flats.{Flat}
use Rattle.ods_tree.specs.Flattening.{flat}
use Rattle.ods_tree.proofs.Shared.Short.{cyc, spo_external, several}
use Rattle.ada_tree.specs.Spelling.{program_lines}
use Rattle.rt_response.specs.declared.rows.Bound.{Bound}
use Rattle.rt_response.specs.Response.{IsLeastVector}
use Rattle.analysis.specs.Ceilings.{ranks_for, written_ranks}
use Rattle.analysis.specs.Tables.{table_for}
use Rattle.guarantee.specs.Programs.{head, program_for}
use Rattle.law_orders.specs.Orders.{AllExternal, IsOrder, IsFilled, priorities_by, rows_by}
use Rattle.priority_search.specs.Searches.{IsNotFound}
use Rattle.priority_search.specs.declared.found.NotFound.{NotFound}
use Rattle.priority_search.specs.declared.found.NotFound.TheVariants.{NoMemory}
use Rattle.arranging.specs.Arrangements.{flat_text_by, HasRoomFor, IsArranged, IsArrangedText, IsLongText, Arranges}
use Rattle.arranging.specs.declared.arranged.NotArranged.TheVariants as cause

-- the thread of the longer deadline has a great jitter, so that it goes first
abbrev jittered : Flat
jittered = flat (several (spo_external (codes "a") 20 20 12 (Work 4 ∷ []) ∷ cyc (codes "b") 15 15 (Work 4 ∷ []) ∷ []))

abbrev bounds : List Bound
bounds = record { jitter = 12; response = 5 } ∷ record { jitter = 0; response = 15 } ∷ []

-- THE TEXT
-- priorities and bounds of the head are those by the order
first_lines : head jittered (written_ranks 31 (ranks_for jittered (priorities_by jittered (0 ∷ 1 ∷ []))))
    (table_for jittered (priorities_by jittered (0 ∷ 1 ∷ []))).places bounds
    ≡ codes "-- design d\n-- thread a priority 32 jitter 12 response 5 deadline 20\n-- thread b priority 31 jitter 0 response 15 deadline 15\n"
unfolding digits
first_lines = refl

-- after the head comes the program by it
head_and_program : (first : ℕ) (f : Flat) (ps : List ℕ) (v : List Bound) → flat_text_by first f ps v
    ≡ head f (written_ranks first (ranks_for f ps)) (table_for f ps).places v
    ++ layout (program_lines (program_for f (written_ranks first (ranks_for f ps))))
head_and_program first f ps v = refl

-- 60 is the greatest priority as it is written
two_from_59 : HasRoomFor 59 jittered
two_from_59 = lit≤ tt

two_from_60 : HasRoomFor 60 jittered → ⊥
two_from_60 h = let most : 61 ≤ 60 = h in omega (arith, most)

-- AN ORDER AND ITS BOUNDS
module _ (f : Flat) (order : List ℕ) (v : List Bound) where
  arranged : AllExternal f → IsOrder f order → IsFilled f order → IsLeastVector (rows_by f order) v → IsArranged f order v
  arranged e o h l = record { external = e; is_order = o; filled = h; least = l }

  some_started : ¬ AllExternal f → IsArranged f order v → ⊥
  some_started never h = never h.external

  no_order : ¬ IsOrder f order → IsArranged f order v → ⊥
  no_order never h = never h.is_order

  not_filled : ¬ IsFilled f order → IsArranged f order v → ⊥
  not_filled never h = never h.filled

  not_least : ¬ IsLeastVector (rows_by f order) v → IsArranged f order v → ⊥
  not_least never h = never h.least

-- THE TEXT BY IT, AND WHY THERE IS NONE
module _ (first : ℕ) (f : Flat) (text : List ℕ) where
  arranged_text : (order : List ℕ) (v : List Bound) → IsArranged f order v → text ≡ flat_text_by first f (priorities_by f order) v
      → length text ≤ ada_limit → Arranges (λ t. t) first f (Ok text)
  arranged_text order v a m s = record { order = order; bounds = v; arranged = a; made = m; short = s }

  never_arranged : ((order : List ℕ) (v : List Bound) → IsArranged f order v → ⊥) → IsArrangedText first f text → ⊥
  never_arranged never h = never h.order h.bounds h.arranged

  other_text : ((order : List ℕ) (v : List Bound) → IsArranged f order v → text ≡ flat_text_by first f (priorities_by f order) v → ⊥)
      → IsArrangedText first f text → ⊥
  other_text never h = never h.order h.bounds h.arranged h.made

  over_the_limit : ada_limit < length text → IsArrangedText first f text → ⊥
  over_the_limit over h = let short = h.short in omega (arith, over, short)

module _ (first : ℕ) (f : Flat) where
  too_long : (order : List ℕ) (v : List Bound) → IsArranged f order v → ada_limit < length (flat_text_by first f (priorities_by f order) v)
      → Arranges {X = List ℕ} (λ t. t) first f (Err cause.Long)
  too_long order v a l = record { order = order; bounds = v; arranged = a; long = l }

  long_never_arranged : ((order : List ℕ) (v : List Bound) → IsArranged f order v → ⊥) → IsLongText first f → ⊥
  long_never_arranged never h = never h.order h.bounds h.arranged

  not_long : ((order : List ℕ) (v : List Bound) → IsArranged f order v → length (flat_text_by first f (priorities_by f order) v) ≤ ada_limit)
      → IsLongText first f → ⊥
  not_long short h = let long = h.long in let within = short h.order h.bounds h.arranged in omega (arith, long, within)

  not_found : (why : NotFound) → IsNotFound f why → Arranges {X = List ℕ} (λ t. t) first f (Err (cause.NotFound why))
  not_found why h = h

  found : (why : NotFound) → ¬ IsNotFound f why → Arranges {X = List ℕ} (λ t. t) first f (Err (cause.NotFound why)) → ⊥
  found why never h = never h

  no_memory : Arranges {X = List ℕ} (λ t. t) first f (Err (cause.NotFound NoMemory))
  no_memory = tt
