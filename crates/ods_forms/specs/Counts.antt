-- How often a table counted a name.
-- The count of a name is kept as its number.
use Rattle.std.specs.Prelude.{ℕ}
use Rattle.seq_tree.specs.Names.{Name}
use Rattle.name_sets.specs.Places.{place_in}
use Rattle.name_sets.specs.Tables.{or_0}
use Rattle.ods_forms.specs.declared.counts.Counts.{Counts}

-- how often a table counted a name
unfoldable pub count_in : Counts → Name → ℕ
count_in t name = or_0 (place_in t.places name)
