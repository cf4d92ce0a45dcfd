-- Worked examples: tables, rounds and misses of small designs.
use Rattle.std.specs.Prelude.{◌≡◌, ℕ, List, [], ◌∷◌, map, Option, Some, None, codes, refl}
use Rattle.seq_tree.specs.Expressions.{Number, Variable, Binary}
use Rattle.seq_tree.specs.Statements.{Null, For, ExitWhen, Call, Work, Put}
use Rattle.seq_tree.specs.declared.tree.BinOp.TheVariants as op
use Rattle.ods_tree.specs.Designs.{Design}
use Rattle.ods_tree.specs.Flattening.{flat}
use Rattle.ods_tree.proofs.Shared.Short.{cyc, cyc_at, spo, spo_external, pro, design, several, block, call}
use Rattle.rt_response.specs.declared.rows.ThreadRow.{ThreadRow}
use Rattle.rt_response.specs.declared.rows.Bound.{Bound}
use Rattle.rt_response.specs.declared.rows.Limit.TheVariants.{Deadline, Separation}
use Rattle.analysis.specs.Ceilings.{ranks}
use Rattle.rt_response.specs.Rounds.{round, first_excess}
use Rattle.rt_response.specs.declared.excess.Excess.{Excess}
use Rattle.analysis.specs.Tables.{table}

abbrev rows_of : Design → List ThreadRow
rows_of x = (table (flat x)).rows

abbrev bound : ℕ → ℕ → Bound
bound jitter response = record { jitter = jitter; response = response }

abbrev responses : List Bound → List ℕ
responses v = map (λ b. b.response) v

-- the excess of each round, by its number
abbrev excess : Design → ℕ → Option Excess
excess x k = first_excess 0 (rows_of x) (round (rows_of x) k)

-- three cyclic threads
abbrev three : ℕ → Design
three n = several (cyc (codes "a") 7 7 (Work 2 ∷ []) ∷ cyc (codes "b") 12 12 (Work 2 ∷ []) ∷ cyc (codes "c") 20 20 (Work n ∷ []) ∷ [])

three_cyclic-table : rows_of (three 4) ≡
    record { period = 7; deadline = 7; jitter = 0; cost = 3; block = 0; starter = None }
    ∷ record { period = 12; deadline = 12; jitter = 0; cost = 3; block = 0; starter = None }
    ∷ record { period = 20; deadline = 20; jitter = 0; cost = 5; block = 0; starter = None } ∷ []
three_cyclic-table = refl

three_cyclic-bounds : round (rows_of (three 4)) 4 ≡ bound 0 3 ∷ bound 0 6 ∷ bound 0 20 ∷ []
three_cyclic-bounds = refl

three_cyclic-stays : round (rows_of (three 4)) 5 ≡ round (rows_of (three 4)) 4
three_cyclic-stays = refl

three_cyclic-fits : map (excess (three 4)) (0 ∷ 1 ∷ 2 ∷ 3 ∷ 4 ∷ []) ≡ None ∷ None ∷ None ∷ None ∷ None ∷ []
three_cyclic-fits = refl

-- the same, where the last is too dear
one_too_dear-rounds : map (λ k. responses (round (rows_of (three 5)) k)) (0 ∷ 1 ∷ 2 ∷ 3 ∷ []) ≡ (3 ∷ 3 ∷ 6 ∷ []) ∷ (3 ∷ 6 ∷ 12 ∷ [])
    ∷ (3 ∷ 6 ∷ 15 ∷ []) ∷ (3 ∷ 6 ∷ 21 ∷ []) ∷ []
one_too_dear-rounds = refl

one_too_dear-miss : map (excess (three 5)) (0 ∷ 1 ∷ 2 ∷ 3 ∷ []) ≡
    None ∷ None ∷ None ∷ Some (record { index = 2; which = Deadline; value = 21; limit = 20 }) ∷ []
one_too_dear-miss = refl

-- a started thread
abbrev started : Design
started = several (cyc (codes "p") 50 50 (Call (codes "s") (codes "start") (Number 7 ∷ []) ∷ []) ∷ spo (codes "s") 50 20 (Work 4 ∷ []) ∷ [])

started_thread-table : rows_of started ≡
    record { period = 50; deadline = 20; jitter = 0; cost = 5; block = 2; starter = Some 1 }
    ∷ record { period = 50; deadline = 50; jitter = 0; cost = 5; block = 0; starter = None } ∷ []
started_thread-table = refl

started_thread-bounds : round (rows_of started) 3 ≡ bound 10 7 ∷ bound 0 10 ∷ []
started_thread-bounds = refl

started_thread-stays : round (rows_of started) 4 ≡ round (rows_of started) 3
started_thread-stays = refl

started_thread-ranks : ranks (flat started) ≡ record { threads = 1 ∷ 2 ∷ []; shared = []; obcs = 0 ∷ 2 ∷ [] }
started_thread-ranks = refl

-- a section at an activation's end
abbrev guarded : Design
guarded =
    several (cyc (codes "l") 20 20 (call (codes "q") (codes "set") ∷ []) ∷ cyc_at (codes "h") 10 9 3 (call (codes "q") (codes "set") ∷ [])
    ∷ pro (codes "q") (codes "set") (Work 3 ∷ []) ∷ [])

section_at_end-table : rows_of guarded ≡
    record { period = 10; deadline = 9; jitter = 0; cost = 6; block = 3; starter = None }
    ∷ record { period = 20; deadline = 20; jitter = 0; cost = 6; block = 0; starter = None } ∷ []
section_at_end-table = refl

section_at_end-bounds : round (rows_of guarded) 2 ≡ bound 0 9 ∷ bound 0 18 ∷ []
section_at_end-bounds = refl

section_at_end-stays : round (rows_of guarded) 3 ≡ round (rows_of guarded) 2
section_at_end-stays = refl

section_at_end-ranks : ranks (flat guarded) ≡ record { threads = 1 ∷ 2 ∷ []; shared = 2 ∷ []; obcs = 0 ∷ 0 ∷ [] }
section_at_end-ranks = refl

-- two protected objects
abbrev two_guarded : Design
two_guarded = several (
    cyc_at (codes "x") 40 20 2 (call (codes "q1") (codes "set") ∷ call (codes "q2") (codes "set") ∷ [])
    ∷ cyc_at (codes "y") 40 30 4 (call (codes "q2") (codes "set") ∷ []) ∷ cyc (codes "z") 40 40 (call (codes "q1") (codes "set") ∷ [])
    ∷ pro (codes "q1") (codes "set") (Work 2 ∷ []) ∷ pro (codes "q2") (codes "set") (Work 2 ∷ []) ∷ [])

two_objects-bounds : round (rows_of two_guarded) 3 ≡ bound 0 11 ∷ bound 0 16 ∷ bound 0 19 ∷ []
two_objects-bounds = refl

two_objects-stays : round (rows_of two_guarded) 4 ≡ round (rows_of two_guarded) 3
two_objects-stays = refl

two_objects-ranks : ranks (flat two_guarded) ≡ record { threads = 3 ∷ 2 ∷ 1 ∷ []; shared = 3 ∷ 3 ∷ []; obcs = 0 ∷ 0 ∷ 0 ∷ [] }
two_objects-ranks = refl

-- a loop of no turn, and an exit
abbrev loops : Design
loops = design (cyc (codes "a") 20 20 (
    For (codes "i") 1 0 (block (Put (Variable (codes "i")) ∷ []))
    ∷ For (codes "j") 1 3 (block (ExitWhen (Binary op.Eq (Variable (codes "j")) (Number 1)) ∷ Null ∷ [])) ∷ []))

turns_and_exit-table : rows_of loops ≡ record { period = 20; deadline = 20; jitter = 0; cost = 10; block = 0; starter = None } ∷ []
turns_and_exit-table = refl

turns_and_exit-bounds : round (rows_of loops) 1 ≡ bound 0 10 ∷ []
turns_and_exit-bounds = refl

-- a jitter over the separation
over_its_separation-miss : excess (design (spo_external (codes "s") 10 10 6 (Work 4 ∷ []))) 0
    ≡ Some (record { index = 0; which = Separation; value = 11; limit = 10 })
over_its_separation-miss = refl
