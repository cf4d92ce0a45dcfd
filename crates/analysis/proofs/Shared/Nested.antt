-- Protected operations inside protected operations, and a request inside one: tables, bounds and ceilings.
use Rattle.std.specs.Prelude.{◌≡◌, ℕ, List, [], ◌∷◌, map, Some, None, codes, refl}
use Rattle.seq_tree.specs.Expressions.{Number}
use Rattle.seq_tree.specs.Statements.{Call, Work}
use Rattle.ods_tree.specs.Designs.{Design}
use Rattle.ods_tree.specs.Flattening.{flat}
use Rattle.ods_tree.specs.Services.{flat_services}
use Rattle.ods_tree.proofs.Shared.Short.{row_costs, cyc, cyc_at, spo, pro, several, block, call}
use Rattle.rt_response.specs.declared.rows.ThreadRow.{ThreadRow}
use Rattle.rt_response.specs.declared.rows.Bound.{Bound}
use Rattle.rt_response.specs.Rounds.{round, first_excess}
use Rattle.analysis.specs.Ceilings.{ranks}
use Rattle.analysis.specs.Sections.{sections}
use Rattle.analysis.specs.Starts.{start_count, starters}
use Rattle.analysis.specs.Tables.{table}

abbrev rows_of : Design → List ThreadRow
rows_of x = (table (flat x)).rows

abbrev bound : ℕ → ℕ → Bound
bound jitter response = record { jitter = jitter; response = response }

-- one protected operation inside another
abbrev pub nested : Design
nested = several (cyc (codes "l") 40 40 (call (codes "q") (codes "set") ∷ []) ∷ cyc_at (codes "h") 20 10 7 (call (codes "e") (codes "set") ∷ [])
    ∷ pro (codes "q") (codes "set") (Work 2 ∷ call (codes "e") (codes "set") ∷ Work 1 ∷ []) ∷ pro (codes "e") (codes "set") (Work 2 ∷ []) ∷ [])

nested-table : rows_of nested ≡
    record { period = 20; deadline = 10; jitter = 0; cost = 5; block = 2; starter = None }
    ∷ record { period = 40; deadline = 40; jitter = 0; cost = 10; block = 0; starter = None } ∷ []
nested-table = refl

nested-bounds : round (rows_of nested) 2 ≡ bound 0 7 ∷ bound 0 15 ∷ []
nested-bounds = refl

nested-stays : round (rows_of nested) 3 ≡ round (rows_of nested) 2
nested-stays = refl

nested-fits : map (λ k. first_excess 0 (rows_of nested) (round (rows_of nested) k)) (0 ∷ 1 ∷ 2 ∷ []) ≡ None ∷ None ∷ None ∷ []
nested-fits = refl

nested-ranks : ranks (flat nested) ≡ record { threads = 1 ∷ 2 ∷ []; shared = 1 ∷ 2 ∷ []; obcs = 0 ∷ 0 ∷ [] }
nested-ranks = refl

-- the outer section costs the whole body, the inner one its own
nested-sections : sections row_costs (flat_services (flat nested)) (block (call (codes "q") (codes "set") ∷ []))
    ≡ record { object = codes "q"; cost = 7 } ∷ record { object = codes "e"; cost = 2 } ∷ []
nested-sections = refl

-- a request inside a protected operation
abbrev pub through : Design
through = several (cyc (codes "p") 50 50 (call (codes "q") (codes "set") ∷ [])
    ∷ pro (codes "q") (codes "set") (Call (codes "s") (codes "start") (Number 7 ∷ []) ∷ []) ∷ spo (codes "s") 50 20 (Work 4 ∷ []) ∷ [])

through-table : rows_of through ≡
    record { period = 50; deadline = 20; jitter = 0; cost = 5; block = 2; starter = Some 1 }
    ∷ record { period = 50; deadline = 50; jitter = 0; cost = 7; block = 0; starter = None } ∷ []
through-table = refl

through-bounds : round (rows_of through) 3 ≡ bound 12 7 ∷ bound 0 12 ∷ []
through-bounds = refl

through-stays : round (rows_of through) 4 ≡ round (rows_of through) 3
through-stays = refl

through-ranks : ranks (flat through) ≡ record { threads = 1 ∷ 2 ∷ []; shared = 1 ∷ []; obcs = 0 ∷ 2 ∷ [] }
through-ranks = refl

through-starter : map (λ t. t.name) (starters (flat_services (flat through)) (codes "s") (flat through).threads) ≡ codes "p" ∷ []
through-starter = refl

through-once : map (start_count (flat_services (flat through)) (codes "s") (record { name = codes "start"; params = [] }))
    (flat through).threads ≡ 1 ∷ 0 ∷ []
through-once = refl
