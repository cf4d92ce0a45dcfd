-- Examples: which flat designs are well formed. Each but the first breaks one condition alone.
use Rattle.std.specs.Prelude.{◌≡◌, ◌≤◌, ℕ, true, false, List, [], ◌∷◌, map, replicate, Some, None, codes, refl}
use Rattle.std.proofs.Common.{lit≤, arith}
use Rattle.seq_tree.specs.Names.{Name}
use Rattle.seq_tree.specs.Expressions.{Number, Variable}
use Rattle.seq_tree.specs.Statements.{Statement, Statements, Null, If, For, Call, Else, When}
use Rattle.seq_tree.specs.Operations.{Signature, Operation}
use Rattle.seq_tree.specs.declared.tree.Costs.{Costs}
use Rattle.ods_tree.specs.Flats.{Library, Guarded, Timing, Cyclic, Sporadic, Thread, Flat}
use Rattle.ods_tree.specs.Sound.{entry_names, is_timed, is_in_range, blocks, counted_calls, IsWellFormed}
use Rattle.seq_tree.specs.Limits.{is_within}
use Rattle.ods_tree.proofs.Shared.Short.{row_costs, block, call, v_in}

-- a range has both its ends
range_ends : map (is_within 2 4) (1 ∷ 2 ∷ 4 ∷ 5 ∷ []) ≡ false ∷ true ∷ true ∷ false ∷ []
range_ends = refl

abbrev head : Name → Signature
head n = record { name = n; params = [] }

abbrev start : Signature
start = record { name = codes "start"; params = v_in ∷ [] }

-- the numbers of timings
cyclic_ranges : map is_timed (Cyclic 0 0 ∷ Cyclic 1 0 ∷ Cyclic 1000000000 1000000000 ∷ Cyclic 1000000001 0 ∷ Cyclic 1 1000000001 ∷ []) ≡ false
    ∷ true ∷ true ∷ false ∷ false ∷ []
cyclic_ranges = refl

sporadic_ranges : map is_timed (Sporadic start 0 None ∷ Sporadic start 1000000000 None ∷ Sporadic start 1000000001 None ∷ Sporadic start 5 (Some 4)
    ∷ Sporadic start 5 (Some 5) ∷ []) ≡ false ∷ true ∷ false ∷ true ∷ false ∷ []
sporadic_ranges = refl

abbrev thread : Name → Timing → ℕ → Statements → Thread
thread n timing deadline b = record { name = n; timing = timing; deadline = deadline; vars = []; block = b }

abbrev one : Statements
one = block (Null ∷ [])

deadlines : map (λ d. is_in_range (thread (codes "t") (Cyclic 10 0) d one)) (0 ∷ 1 ∷ 10 ∷ 11 ∷ []) ≡ false ∷ true ∷ true ∷ false ∷ []
deadlines = refl

deadline_of_sporadic : map (λ d. is_in_range (thread (codes "t") (Sporadic start 10 (Some 5)) d one)) (10 ∷ 11 ∷ []) ≡ true ∷ false ∷ []
deadline_of_sporadic = refl

timing_counts : is_in_range (thread (codes "t") (Cyclic 10 1000000001) 10 one) ≡ false
timing_counts = refl

-- a design of a passive object, a protected one and two threads
abbrev operation : Signature → Statements → Operation
operation sig b = record { sig = sig; locals = []; block = b }

abbrev library : Statements → Library
library b = record { name = codes "p"; ops = operation (head (codes "f")) b ∷ operation (head (codes "g")) one ∷ [] }

abbrev guarded : Name → Guarded
guarded n = record { name = n; vars = []; ops = operation (head (codes "set")) (block (call (codes "p") (codes "f") ∷ [])) ∷ [] }

abbrev asked : Thread
asked = thread (codes "s") (Sporadic start 10 None) 10 one

abbrev asking : Statements → Thread
asking b = thread (codes "c") (Cyclic 20 0) 20 b

abbrev request : Statement
request = Call (codes "s") (codes "start") (Number 1 ∷ [])

abbrev flat : Costs → List Library → List Guarded → List Thread → Flat
flat costs passive shared threads = record { name = codes "d"; costs = costs; passive = passive; shared = shared; threads = threads }

abbrev small : Flat
small = flat row_costs (library (block (call (codes "p") (codes "g") ∷ [])) ∷ []) (guarded (codes "q")
    ∷ []) (asking (block (call (codes "q") (codes "set") ∷ request ∷ [])) ∷ asked ∷ [])

formed : IsWellFormed small
formed =
    record { names = refl; op_names = refl; thread_count = lit≤ tt; entry_count = lit≤ tt; costs = refl; ranges = refl; calls = refl; plain = refl }

-- names are those of all entries, and blocks those of all operations and threads
all_entries : entry_names small ≡ codes "p" ∷ codes "q" ∷ codes "c" ∷ codes "s" ∷ []
all_entries = refl

all_blocks : blocks small ≡ block (call (codes "p") (codes "g") ∷ []) ∷ one ∷ block (call (codes "p") (codes "f") ∷ [])
    ∷ block (call (codes "q") (codes "set") ∷ request ∷ []) ∷ one ∷ []
all_blocks = refl

as_passive : IsWellFormed (flat row_costs (library one ∷ []) (guarded (codes "p") ∷ []) []) → ⊥
as_passive h = (let differ : false ≡ true = h.names in cc)

as_thread : IsWellFormed (flat row_costs [] (guarded (codes "s") ∷ []) (asked ∷ [])) → ⊥
as_thread h = (let differ : false ≡ true = h.names in cc)

op_twice : IsWellFormed (flat row_costs (record {
  name = codes "p";
  ops = operation (head (codes "f")) one ∷ operation (head (codes "f")) one
      ∷ [];
} ∷ []) [] []) → ⊥
op_twice h = (let differ : false ≡ true = h.op_names in cc)

guarded_op_twice : IsWellFormed (flat row_costs [] (record {
  name = codes "p";
  vars = [];
  ops = operation (head (codes "f")) one
      ∷ operation (head (codes "f")) one ∷ [];
} ∷ []) []) → ⊥
guarded_op_twice h = (let differ : false ≡ true = h.op_names in cc)

-- at most 30 threads, and at most 500 entries
abbrev so_many : ℕ → List Thread
so_many n = replicate n asked

too_many_threads : IsWellFormed (flat row_costs [] [] (so_many 31)) → ⊥
too_many_threads h = (let few : 31 ≤ 30 = h.thread_count in omega (arith, few))

too_many_entries : IsWellFormed (flat row_costs (replicate 500 (library one)) (guarded (codes "q") ∷ []) []) → ⊥
too_many_entries h = (let few : 501 ≤ 500 = h.entry_count in omega (arith, few))

-- each cost is 1 to 1,000
cost_bounds : IsWellFormed
    (flat (record { assign = 1000; test = 1000; turn = 1000; call = 1000; nothing = 1000; put = 1000; finish = 1000 }) [] [] [])
cost_bounds =
    record { names = refl; op_names = refl; thread_count = lit≤ tt; entry_count = lit≤ tt; costs = refl; ranges = refl; calls = refl; plain = refl }

costless_assign : IsWellFormed (flat (record row_costs { assign = 0 }) [] [] []) → ⊥
costless_assign h = (let each : false ≡ true = h.costs in cc)

costless_test : IsWellFormed (flat (record row_costs { test = 0 }) [] [] []) → ⊥
costless_test h = (let each : false ≡ true = h.costs in cc)

costless_turn : IsWellFormed (flat (record row_costs { turn = 0 }) [] [] []) → ⊥
costless_turn h = (let each : false ≡ true = h.costs in cc)

costless_call : IsWellFormed (flat (record row_costs { call = 0 }) [] [] []) → ⊥
costless_call h = (let each : false ≡ true = h.costs in cc)

costless_null : IsWellFormed (flat (record row_costs { nothing = 0 }) [] [] []) → ⊥
costless_null h = (let each : false ≡ true = h.costs in cc)

costless_put : IsWellFormed (flat (record row_costs { put = 0 }) [] [] []) → ⊥
costless_put h = (let each : false ≡ true = h.costs in cc)

costless_finish : IsWellFormed (flat (record row_costs { finish = 0 }) [] [] []) → ⊥
costless_finish h = (let each : false ≡ true = h.costs in cc)

too_dear : IsWellFormed (flat (record row_costs { finish = 1001 }) [] [] []) → ⊥
too_dear h = (let each : false ≡ true = h.costs in cc)

out_of_range : IsWellFormed (flat row_costs [] [] (thread (codes "t") (Cyclic 0 0) 1 one ∷ [])) → ⊥
out_of_range h = (let each : false ≡ true = h.ranges in cc)

-- calls are of what is there, with as many actuals as there are parameters, wherever they stand
abbrev calling : Statements → Flat
calling b = flat row_costs (library one ∷ []) [] (asking b ∷ asked ∷ [])

counted : counted_calls (block (If (When (Variable (codes "x")) (block (request
    ∷ [])) (When (Variable (codes "x")) (block (call (codes "p") (codes "f") ∷ [])) (Else (block (request ∷ [])))))
    ∷ For (codes "i") 1 2 (block (call (codes "p") (codes "g") ∷ [])) ∷ []))
    ≡ record { object = codes "s"; op = codes "start"; count = 1 } ∷ record { object = codes "p"; op = codes "f"; count = 0 }
    ∷ record { object = codes "s"; op = codes "start"; count = 1 } ∷ record { object = codes "p"; op = codes "g"; count = 0 } ∷ []
counted = refl

of_nothing : IsWellFormed (calling (block (call (codes "p") (codes "h") ∷ []))) → ⊥
of_nothing h = (let each : false ≡ true = h.calls in cc)

one_too_few : IsWellFormed (calling (block (call (codes "s") (codes "start") ∷ []))) → ⊥
one_too_few h = (let each : false ≡ true = h.calls in cc)

one_too_many : IsWellFormed (calling (block (Call (codes "p") (codes "f") (Number 1 ∷ []) ∷ []))) → ⊥
one_too_many h = (let each : false ≡ true = h.calls in cc)

inside_operation : IsWellFormed (flat row_costs [] (guarded (codes "q") ∷ []) []) → ⊥
inside_operation h = (let each : false ≡ true = h.calls in cc)

-- a passive object calls plain procedures alone
calls_protected : IsWellFormed (flat row_costs (library (block (call (codes "q") (codes "set") ∷ [])) ∷ []) (guarded (codes "q") ∷ []) []) → ⊥
calls_protected h = (let each : false ≡ true = h.plain in cc)

calls_request : IsWellFormed (flat row_costs (library (block (request ∷ [])) ∷ []) [] (asked ∷ [])) → ⊥
calls_request h = (let each : false ≡ true = h.plain in cc)
