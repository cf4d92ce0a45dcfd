-- Worked priority orders: a design that passes in another order than that of its deadlines, and levels with a section between them.
use Rattle.std.specs.Prelude.{◌≡◌, ℕ, zero, suc, ◌+◌, ◌*◌, ◌≤◌, false, List, [], ◌∷◌, length, map, slice_get, sum_by, Some, None, codes, refl}
use Rattle.std.specs.Int.{div_ceil}
use Rattle.std.specs.List.{list_any, position_from}
use Rattle.std.proofs.Common.{subst, sym, ◌∙◌, le_refl, arith}
use Rattle.std.proofs.lemmas.List.Sorted.{IsPermutation-refl}
use Rattle.std.proofs.lemmas.List.Sums.{sum_by-cons}
use Rattle.std.proofs.lemmas.Option.{same_Some, slice_get_within}
use Rattle.seq_tree.specs.Expressions.{Number}
use Rattle.seq_tree.specs.Statements.{Call, Work}
use Rattle.ods_tree.specs.Flats.{Thread, Flat}
use Rattle.ods_tree.specs.Flattening.{flat}
use Rattle.ods_tree.proofs.Shared.Short.{cyc, spo, spo_external, pro, several, call}
use Rattle.rt_response.specs.declared.rows.Bound.{Bound}
use Rattle.rt_response.specs.declared.rows.Limit.TheVariants.{Separation}
use Rattle.rt_response.specs.Response.{right_sides, IsAtMost}
use Rattle.rt_response.specs.Rounds.{round, first_excess}
use Rattle.rt_response.proofs.Shared.Least.{at_most-refl, div_ceil-mono}
use Rattle.rt_response.proofs.Shared.Solving.{no_excess-within}
use Rattle.analysis.specs.Blocking.{blocking}
use Rattle.analysis.specs.Tables.{table}
use Rattle.law_orders.specs.Orders.{is_internal, priority_in, priorities_by, ranks_by, rows_by, Passes, levels_among, others, share, EndsLast}
use Rattle.law_orders.specs.Orders.{NoneIsLast, IsStuck, IsObstacle}

-- a round that the next one leaves as it is, with no value over its limit
round-passes : (f : Flat) (order : List ℕ) (k : ℕ) → length (round (rows_by f order) k) ≡ length (rows_by f order)
    → right_sides (rows_by f order) (round (rows_by f order) k) ≡ round (rows_by f order) k
    → first_excess 0 (rows_by f order) (round (rows_by f order) k) ≡ None → Passes f order
round-passes f order k long stays within =
    let P : List Bound → Type 0 = λ v. IsAtMost v (round (rows_by f order) k) in (
      round (rows_by f order) k,
      (
        (long, subst P (sym stays) (at_most-refl (round (rows_by f order) k))),
        no_excess-within 0 (rows_by f order) (round
            (rows_by f order) k) long within,
      ),
    )

-- the thread of the longer deadline has a great jitter
abbrev jittered : Flat
jittered = flat (several (spo_external (codes "a") 20 20 12 (Work 4 ∷ []) ∷ cyc (codes "b") 15 15 (Work 4 ∷ []) ∷ []))

-- in the order of deadlines it is late
by_deadline : (table jittered).places ≡ 1 ∷ 0 ∷ []
by_deadline = refl

by_deadline-late : first_excess 0 (table jittered).rows (round (table jittered).rows 1) ≡ Some
    (record { index = 1; which = Separation; value = 22; limit = 20 })
by_deadline-late = refl

-- in the other order it isn't
abbrev other : List ℕ
other = 0 ∷ 1 ∷ []

other-priorities : priorities_by jittered other ≡ 2 ∷ 1 ∷ []
other-priorities = refl

other-ranks : ranks_by jittered other ≡ record { threads = 2 ∷ 1 ∷ []; shared = []; obcs = 2 ∷ 0 ∷ [] }
other-ranks = refl

other-rows : rows_by jittered other ≡ record { period = 20; deadline = 20; jitter = 12; cost = 5; block = 0; starter = None }
    ∷ record { period = 15; deadline = 15; jitter = 0; cost = 5; block = 0; starter = None } ∷ []
other-rows = refl

other-bounds : round (rows_by jittered other) 2 ≡ record { jitter = 12; response = 5 } ∷ record { jitter = 0; response = 15 } ∷ []
other-bounds = refl

other-passes : Passes jittered other
other-passes = round-passes jittered other 2 refl refl refl

-- a place that isn't in an order has no priority
not_there : priority_in other 7 ≡ 0
not_there = refl

-- three threads that share an object: a thread outside the set has a section on it, and counts where one of the set uses it
abbrev sharing : Flat
sharing = flat (several (cyc (codes "a") 40 40 (call (codes "q") (codes "set") ∷ []) ∷ cyc (codes "b") 30 30 (call (codes "q") (codes "set") ∷ [])
    ∷ cyc (codes "c") 20 20 (Work 1 ∷ []) ∷ pro (codes "q") (codes "set") (Work 5 ∷ []) ∷ []))

second_of_three : levels_among sharing (1 ∷ 2 ∷ []) 1 ≡ 1 ∷ 2 ∷ 3 ∷ []
second_of_three = refl

blocked_by_a_section : blocking sharing (levels_among sharing (1 ∷ 2 ∷ []) 1) 2 ≡ 5
blocked_by_a_section = refl

-- whichever of the set is its last
the_same_for_the_other : blocking sharing (levels_among sharing (1 ∷ 2 ∷ []) 2) 2 ≡ 5
the_same_for_the_other = refl

-- nothing that the set uses
not_blocked : blocking sharing (levels_among sharing (2 ∷ []) 2) 2 ≡ 0
not_blocked = refl

-- a thread that another one requests
abbrev started : Flat
started = flat (several (cyc (codes "p") 50 50 (Call (codes "s") (codes "start") (Number 7 ∷ []) ∷ []) ∷ spo (codes "s") 50 20 (Work 4 ∷ []) ∷ []))

started_inside : position_from (λ t. is_internal t.timing) 0 started.threads ≡ Some 1
started_inside = refl

none_inside : list_any (λ t. is_internal t.timing) jittered.threads ≡ false
none_inside = refl

-- three threads of which none can be last: the last one by deadlines has a tick too little
abbrev crowded : Flat
crowded = flat (several (cyc (codes "a") 7 7 (Work 2 ∷ []) ∷ cyc (codes "b") 12 12 (Work 2 ∷ []) ∷ cyc (codes "c") 20 20 (Work 5 ∷ []) ∷ []))

abbrev all : List ℕ
all = 0 ∷ 1 ∷ 2 ∷ []

-- what the others take of any window is too much: a has one activation of each in front of it at least
late-a : (d e w : ℕ) → 3 + (d * 3 + e * 6) ≤ w → 1 ≤ d → 1 ≤ e → w ≤ 7 → ⊥
late-a d e w meets some-d some-e most = omega (arith, meets, some-d, some-e, most)

-- two of a before b, since its window is longer than the period of a
late-b : (w : ℕ) → 3 + (div_ceil (w + 0) 7 * 3 + div_ceil (w + 0) 20 * 6) ≤ w → w ≤ 12 → ⊥
late-b w meets most =
    let some-a : 1 ≤ div_ceil (w + 0) 7 = div_ceil-mono 1 (w + 0) 7 (omega (arith, meets)) in
    let some-c : 1 ≤ div_ceil (w + 0) 20 = div_ceil-mono 1 (w + 0) 20 (omega (arith, meets)) in
    let two-a : 2 ≤ div_ceil (w + 0) 7 = div_ceil-mono 12 (w + 0) 7 (omega (arith, meets, some-a, some-c)) in
    omega (arith, meets, two-a, some-c, most)

-- three of a and two of b before c
late-c : (w : ℕ) → 6 + (div_ceil (w + 0) 7 * 3 + div_ceil (w + 0) 12 * 3) ≤ w → w ≤ 20 → ⊥
late-c w meets most =
    let some-a : 1 ≤ div_ceil (w + 0) 7 = div_ceil-mono 1 (w + 0) 7 (omega (arith, meets)) in
    let some-b : 1 ≤ div_ceil (w + 0) 12 = div_ceil-mono 1 (w + 0) 12 (omega (arith, meets)) in
    let two-a : 2 ≤ div_ceil (w + 0) 7 = div_ceil-mono 12 (w + 0) 7 (omega (arith, meets, some-a, some-b)) in
    let three-a : 3 ≤ div_ceil (w + 0) 7 = div_ceil-mono 15 (w + 0) 7 (omega (arith, meets, two-a, some-b)) in
    let two-b : 2 ≤ div_ceil (w + 0) 12 = div_ceil-mono 15 (w + 0) 12 (omega (arith, meets, two-a, some-b)) in
    omega (arith, meets, three-a, two-b, most)

ends-there : (own w : ℕ) (s t : Thread) → slice_get crowded.threads own ≡ Some s → slice_get crowded.threads own ≡ Some t
    → EndsLast crowded all own t w
    → EndsLast crowded all own s w
ends-there own w s t here at ends = subst (λ u. EndsLast crowded all own u w) (same_Some t s (sym at ∙ here)) ends

-- what is asked of a window, in numbers
in-numbers : (b c s w n m : ℕ) → b + c ≡ n → s ≡ m → b + c + s ≤ w → n + m ≤ w
in-numbers b c s w n m e g h = omega (arith, e, g, h)

two-others : (k : Thread → ℕ) (xs : List Thread) (n m : ℕ) → map k xs ≡ n ∷ m ∷ [] → sum_by k xs ≡ n + m
two-others k [] n m e = cc
two-others k (x ∷ []) n m e = cc
two-others k (x ∷ y ∷ []) n m e =
    let one = sum_by-cons k x (y ∷ []) in
    let two = sum_by-cons k y [] in
    let none : sum_by k [] ≡ 0 = refl in
    let first : k x ≡ n = cc in
    let second : k y ≡ m = cc in
    omega (arith, one, two, none, first, second)
two-others k (x ∷ y ∷ z ∷ xs) n m e = cc

none-last : NoneIsLast crowded all
none-last zero there can =
    let ends = ends-there 0 can.1 _ can.0 refl can.2 can.3 in
    let d = div_ceil (can.1 + 0) 12 in
    let e = div_ceil (can.1 + 0) 20 in
    let meets : 3 + (d * 3 + e * 6) ≤ can.1 = in-numbers 0 3 _ can.1 3 (d * 3 + e * 6) refl
    (two-others (share crowded can.1) (others crowded all 0) (d * 3) (e * 6) refl) ends.meets in
    let some : 1 ≤ can.1 = omega (arith, meets) in
    late-a d e can.1 meets (div_ceil-mono 1 (can.1 + 0) 12 (omega (arith, some))) (div_ceil-mono 1 (can.1 + 0) 20 (omega (arith, some))) ends.deadline
none-last (suc zero) there can =
    let ends = ends-there 1 can.1 _ can.0 refl can.2 can.3 in
    late-b can.1
    (in-numbers 0 3 _ can.1 3 (div_ceil (can.1 + 0) 7 * 3 + div_ceil (can.1 + 0) 20 * 6) refl
    (two-others (share crowded can.1) (others crowded all 1) (div_ceil (can.1 + 0) 7 * 3) (div_ceil (can.1 + 0) 20 * 6) refl) ends.meets)
    ends.deadline
none-last (suc (suc zero)) there can =
    let ends = ends-there 2 can.1 _ can.0 refl can.2 can.3 in
    late-c can.1
    (in-numbers 0 6 _ can.1 6 (div_ceil (can.1 + 0) 7 * 3 + div_ceil (can.1 + 0) 12 * 3) refl
    (two-others (share crowded can.1) (others crowded all 2) (div_ceil (can.1 + 0) 7 * 3) (div_ceil (can.1 + 0) 12 * 3) refl) ends.meets)
    ends.deadline
none-last (suc (suc (suc own))) there can = cc

-- so filling an order comes no further than to all three of them
crowded-stuck : IsStuck crowded all 3
crowded-stuck = record {
  is_order = IsPermutation-refl all;
  some = omega arith;
  within = le_refl 3;
  filled = λ i own low e. absurd (let inside = slice_get_within all i own e in omega (arith, low, inside));
  none = none-last;
}

-- and these three show that no order passes
crowded-refused : IsObstacle crowded all
crowded-refused = record {
  some = (0, refl);
  threads = (omega arith, (omega arith, (omega arith, tt)));
  none = none-last;
}
