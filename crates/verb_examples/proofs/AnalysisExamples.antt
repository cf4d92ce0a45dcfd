-- Examples: what the analysis of a flat design answers. It holds of all its parts, and without one of them it doesn't.
use Rattle.std.specs.Prelude.{◌≡◌, ℕ, List, Some, Ok, Err}
use Rattle.seq_tree.specs.Names.{Name}
use Rattle.ods_tree.specs.Flats.{Flat}
use Rattle.rt_response.specs.Response.{Fits, IsLeastVector}
use Rattle.rt_response.specs.Rounds.{IsMiss}
use Rattle.rt_response.specs.declared.rows.Bound.{Bound}
use Rattle.rt_response.specs.declared.rows.Miss as rows
use Rattle.analysis.specs.Ceilings.{ranks}
use Rattle.analysis.specs.Tables.{table}
use Rattle.analysis.specs.Trees.{ranks_of, table_of}
use Rattle.design_bounds.specs.Analyses.{Analyses}
use Rattle.design_bounds.specs.Rows.{named_bounds, ceiling_rows, name_of_row}
use Rattle.design_bounds.specs.declared.rows.Analysis.{Analysis}
use Rattle.design_bounds.specs.declared.rows.NoBounds.TheVariants as none

-- THE ANALYSIS
analysed : (first : ℕ) (f : Flat) (a : Analysis) → ranks_of a.order ≡ ranks f → table_of a.table ≡ table f
    → IsLeastVector (table f).rows a.bounds.items → a.named.items ≡ named_bounds first f a.bounds.items
    → a.ceilings.items ≡ ceiling_rows first f → Analyses first f (Ok a)
analysed first f a r t l n c = record { ranked = r; tabled = t; least = l; named = n; ceilings = c }

module _ (first : ℕ) (f : Flat) (a : Analysis) where
  other_ranks : ¬ (ranks_of a.order ≡ ranks f) → Analyses first f (Ok a) → ⊥
  other_ranks never h = never h.ranked

  other_table : ¬ (table_of a.table ≡ table f) → Analyses first f (Ok a) → ⊥
  other_table never h = never h.tabled

  not_least : ¬ IsLeastVector (table f).rows a.bounds.items → Analyses first f (Ok a) → ⊥
  not_least never h = never h.least

  other_names : ¬ (a.named.items ≡ named_bounds first f a.bounds.items) → Analyses first f (Ok a) → ⊥
  other_names never h = never h.named

  other_ceilings : ¬ (a.ceilings.items ≡ ceiling_rows first f) → Analyses first f (Ok a) → ⊥
  other_ceilings never h = never h.ceilings

missed : (first : ℕ) (f : Flat) (thread : Name) (m : rows.Miss) → IsMiss (table f).rows m → name_of_row f m.index ≡ Some thread
    → ((v : List Bound) → Fits (table f).rows v → ⊥) → Analyses first f (Err (none.Miss thread m))
missed first f thread m i c n = record { first = i; called = c; none = n }

module _ (first : ℕ) (f : Flat) (thread : Name) (m : rows.Miss) where
  no_miss : ¬ IsMiss (table f).rows m → Analyses first f (Err (none.Miss thread m)) → ⊥
  no_miss never h = never h.first

  other_thread : ¬ (name_of_row f m.index ≡ Some thread) → Analyses first f (Err (none.Miss thread m)) → ⊥
  other_thread never h = never h.called

  some_fit : (v : List Bound) → Fits (table f).rows v → Analyses first f (Err (none.Miss thread m)) → ⊥
  some_fit v fits h = h.none v fits

no_memory : (first : ℕ) (f : Flat) → Analyses first f (Err none.NoMemory)
no_memory first f = tt
