-- Tables of designs that the other examples leave open: ties, unused objects, loops of no turn, chains of calls; and how threads are started.
use Rattle.std.specs.Prelude.{◌≡◌, ℕ, Bool, true, false, List, [], ◌∷◌, map, Option, None, codes}
use Rattle.std.proofs.Common.{refl}
use Rattle.seq_tree.specs.Expressions.{Number}
use Rattle.seq_tree.specs.Statements.{Statement, For, Call, Work, Null}
use Rattle.ods_tree.specs.Designs.{Tree, Design}
use Rattle.ods_tree.specs.Flattening.{flat}
use Rattle.ods_tree.proofs.Shared.Short.{cyc, spo, spo_external, pro, pas, design, several, block, call}
use Rattle.rt_response.specs.declared.rows.ThreadRow.{ThreadRow}
use Rattle.analysis.specs.Ceilings.{ranks}
use Rattle.analysis.specs.Sound.{is_started, is_spaced}
use Rattle.analysis.specs.Tables.{table}

abbrev row : ℕ → ℕ → ℕ → ℕ → ℕ → Option ℕ → ThreadRow
row period deadline jitter cost block' starter =
    record { period = period; deadline = deadline; jitter = jitter; cost = cost; block = block'; starter = starter }

abbrev rows_of : Design → List ThreadRow
rows_of x = (table (flat x)).rows

-- of two threads with one deadline the first has the greater priority; an object that no thread calls has ceiling 1
tie : ranks (flat (several (cyc (codes "a") 20 10 (Null ∷ []) ∷ cyc (codes "b") 10 10 (Null ∷ []) ∷ pro (codes "q") (codes "set") (Null ∷ []) ∷ [])))
    ≡ record { threads = 2 ∷ 1 ∷ []; shared = 1 ∷ []; obcs = 0 ∷ 0 ∷ [] }
tie = refl

-- a call in a loop of no turn gives no section, and its thread counts for the ceiling
abbrev never : Design
never = several (cyc (codes "l") 20 20 (For (codes "i") 1 0 (block (call (codes "q") (codes "set") ∷ [])) ∷ [])
    ∷ cyc (codes "h") 10 10 (call (codes "q") (codes "set") ∷ []) ∷ pro (codes "q") (codes "set") (Work 3 ∷ []) ∷ [])

never-rows : rows_of never ≡ row 10 10 0 6 0 None ∷ row 20 20 0 1 0 None ∷ []
never-rows = refl

-- only the thread of lower priority calls it, in a loop of no turn
never-ceiling : ranks (flat
    (several (cyc (codes "l") 20 20 (Null ∷ []) ∷ cyc (codes "h") 10 10 (For (codes "i") 1 0 (block (call (codes "q") (codes "set") ∷ [])) ∷ [])
    ∷ pro (codes "q") (codes "set") (Work 3 ∷ []) ∷ []))) ≡ record { threads = 1 ∷ 2 ∷ []; shared = 2 ∷ []; obcs = 0 ∷ 0 ∷ [] }
never-ceiling = refl

-- a chain of three calls
chain-rows : rows_of (several
    (cyc (codes "a") 50 50 (call (codes "p") (codes "f") ∷ []) ∷ pas (codes "p") (codes "f") (call (codes "q") (codes "g") ∷ [])
    ∷ pas (codes "q") (codes "g") (call (codes "r2") (codes "h") ∷ []) ∷ pas (codes "r2") (codes "h") (Work 5 ∷ []) ∷ []))
    ≡ row 50 50 0 12 0 None ∷ []
chain-rows = refl

-- a thread that is requested from outside has no starter, though one calls it
external-rows : rows_of (several
    (cyc (codes "p") 50 50 (Call (codes "s") (codes "start") (Number 7 ∷ []) ∷ []) ∷ spo_external (codes "s") 50 20 3 (Work 4 ∷ []) ∷ []))
    ≡ row 50 20 3 5 2 None ∷ row 50 50 0 5 0 None ∷ []
external-rows = refl

abbrev start : Statement
start = Call (codes "s") (codes "start") (Number 7 ∷ [])

-- whether each thread is requested as its jitter says, and by threads of long enough periods
abbrev started_of : Design → List Bool
started_of x = map (λ t. is_started (flat x) t.name t.timing) (flat x).threads

abbrev spaced_of : Design → List Bool
spaced_of x = map (λ t. is_spaced (flat x) t.name t.timing) (flat x).threads

abbrev sporadic : Tree
sporadic = spo (codes "s") 50 20 (Work 4 ∷ [])

started_once : started_of (several (cyc (codes "p") 50 50 (start ∷ []) ∷ sporadic ∷ [])) ≡ true ∷ true ∷ []
started_once = refl

never_started : started_of (design sporadic) ≡ false ∷ []
never_started = refl

started_by_two : started_of (several (cyc (codes "p") 50 50 (start ∷ []) ∷ cyc (codes "o") 50 50 (start ∷ []) ∷ sporadic ∷ [])) ≡ true ∷ true
    ∷ false ∷ []
started_by_two = refl

started_twice : started_of (several (cyc (codes "p") 50 50 (start ∷ start ∷ []) ∷ sporadic ∷ [])) ≡ true ∷ false ∷ []
started_twice = refl

external_not_started : map (λ ss. started_of (several (cyc (codes "p") 50 50 ss ∷ spo_external (codes "s") 50 20 3 (Work 4 ∷ []) ∷ [])))
    ((Null ∷ []) ∷ (start ∷ []) ∷ [])
    ≡ (true ∷ true ∷ []) ∷ (true ∷ false ∷ []) ∷ []
external_not_started = refl

started_too_often : map (λ n. spaced_of (several (cyc (codes "p") n 49 (start ∷ []) ∷ sporadic ∷ []))) (49 ∷ 50 ∷ []) ≡ (true ∷ false ∷ [])
    ∷ (true ∷ true ∷ []) ∷ []
started_too_often = refl
