-- The ceilings at which calls of operations run, by the places of the operations, for given priorities.
-- A plain procedure has none, told as 0.
use Rattle.std.specs.Prelude.{◌≡◌, ℕ, List, [], ◌∷◌, map}
use Rattle.seq_tree.specs.Operations.{Operation}
use Rattle.ods_tree.specs.Flats.{Timing, Cyclic, Sporadic, Flat}
use Rattle.analysis.specs.Ceilings.{ceiling}
use Rattle.call_graph.specs.Entries.{Work, Plain, Protected, Asked, Entry, entries}
use Rattle.rt_block.specs.declared.ceilings.Levels.{Levels}

-- the ceiling of what a call runs, where its object has this one
abbrev pub ceiling_by : ℕ → Work → ℕ
ceiling_by ceiling (Plain b) = 0
ceiling_by ceiling (Protected b) = ceiling
ceiling_by ceiling Asked = ceiling

abbrev pub entry_ceiling : Flat → List ℕ → Entry → ℕ
entry_ceiling f ps e = ceiling_by (ceiling f ps e.name.object) e.work

-- those of all operations
abbrev pub entry_ceilings : Flat → List ℕ → List ℕ
entry_ceilings f ps = map (entry_ceiling f ps) (entries f)

-- the same number for each operation, and the ceiling of a request, where there is one
abbrev pub for_each : ℕ → List Operation → List ℕ
for_each ceiling ops = map (λ o. ceiling) ops

abbrev pub asked_ceiling : Timing → ℕ → List ℕ
asked_ceiling (Cyclic period offset) ceiling = []
asked_ceiling (Sporadic op separation jitter) ceiling = ceiling ∷ []

-- the ceilings that are kept are those for the priorities that are kept
abbrev pub AreLevels : Flat → Levels → Type 0
AreLevels f l = l.ceilings.items ≡ entry_ceilings f l.priorities.now
