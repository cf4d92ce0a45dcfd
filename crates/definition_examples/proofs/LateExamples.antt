-- Examples: what is told of the rows of a table that misses: rows that are solved though late, one that is given up, and one behind it.
use Rattle.std.specs.Prelude.{◌≡◌, ℕ, zero, suc, ◌≤◌, ◌<◌, List, [], ◌∷◌, map, slice_get, Option, Some, None, refl}
use Rattle.std.proofs.Common.{arith, lit≤, sym, ◌∙◌, ap, subst, ◌⊎◌, inl, inr}
use Rattle.rt_response.specs.declared.rows.ThreadRow.{ThreadRow}
use Rattle.rt_response.specs.declared.rows.Bound.{Bound}
use Rattle.rt_response.specs.Response.{right_sides}
use Rattle.rt_response.specs.Rounds.{round}
use Rattle.late_response.specs.declared.reach.Reach.{Reach}
use Rattle.late_response.specs.declared.reach.Reach.TheVariants.{Solved, Beyond, Behind}
use Rattle.late_response.specs.Late.{IsNear, IsFar, OfBoth, IsWithin, IsOver, Needs, DependsOn, itself, through, IsFollowed, IsSolved, IsBeyond}
use Rattle.late_response.specs.Late.{IsBehind, IsTold, AreTold}
use Rattle.late_response.specs.Laws.{HasJitter, AreAbove, AreSolved, told_sum, told_jitter, told_entry, IsInTime, solved_with}
use Rattle.late_response.specs.Utilisation.{utilisation, IsPerMille}
use Rattle.late_response.proofs.Shared.LateLaws.{told-once}
use Rattle.late_response.proofs.Shared.Places.{some-same}

abbrev bound : ℕ → ℕ → Bound
bound jitter response = record { jitter = jitter; response = response }

-- a row with its deadline at the end of its period
abbrev row : ℕ → ℕ → Option ℕ → ThreadRow
row period cost starter = record { period = period; deadline = period; jitter = 0; cost = cost; block = 0; starter = starter }

abbrev short : ThreadRow
short = record { period = 7; deadline = 3; jitter = 0; cost = 1; block = 0; starter = None }

-- TEN TIMES THE LIMITS
near : IsNear short (bound 40 30)
near = (lit≤ tt, lit≤ tt)

not_near : IsNear short (bound 0 31) → ⊥
not_near h = omega (arith, h.0)

not_near_next : IsNear short (bound 41 30) → ⊥
not_near_next h = omega (arith, h.1)

far : IsFar short (bound 0 31)
far = inl (lit≤ tt)

far_next : IsFar short (bound 41 30)
far_next = inr (lit≤ tt)

not_far : IsFar short (bound 40 30) → ⊥
not_far (inl h) = omega (arith, h)
not_far (inr h) = omega (arith, h)

no_row : OfBoth IsNear None (Some (bound 0 0)) → ⊥
no_row h = h

no_bound : OfBoth IsNear (Some short) None → ⊥
no_bound h = h

-- A TABLE WITHIN ITS PROCESSOR, 978 PER MILLE, WHOSE LAST ROW IS LATE BY A TICK
abbrev late : List ThreadRow
late = row 7 3 None ∷ row 12 3 None ∷ row 20 6 None ∷ []

abbrev settled : List Bound
settled = bound 0 3 ∷ bound 0 6 ∷ bound 0 21 ∷ []

rounds : map (λ k. slice_get (round late k) 2) (0 ∷ 1 ∷ 2 ∷ 3 ∷ 4 ∷ [])
    ≡ Some (bound 0 6) ∷ Some (bound 0 12) ∷ Some (bound 0 15) ∷ Some (bound 0 21) ∷ Some (bound 0 21) ∷ []
rounds = refl

rests : (k : ℕ) → round late (suc (suc (suc k))) ≡ settled
rests zero = refl
rests (suc k) = ap (λ v. right_sides late v) (rests k)

rests_from : (k : ℕ) → 3 ≤ k → round late k ≡ settled
rests_from zero h = absurd (omega (arith, h))
rests_from (suc zero) h = absurd (omega (arith, h))
rests_from (suc (suc zero)) h = absurd (omega (arith, h))
rests_from (suc (suc (suc k))) h = rests k

-- no row has a starter, so each depends on itself alone
none_needed : (i s : ℕ) → Needs late i s → ⊥
none_needed i s needs = by needs.place needs.row needs.is needs.started
  where
    by : (place : ℕ) (r : ThreadRow) → slice_get late place ≡ Some r → r.starter ≡ Some s → ⊥
    by zero r e f = cc
    by (suc zero) r e f = cc
    by (suc (suc zero)) r e f = cc
    by (suc (suc (suc p))) r e f = cc

alone : (i j : ℕ) → DependsOn late i j → i ≡ j
alone i j itself = refl
alone i j (through {starter = s} needs more) = absurd (none_needed i s needs)

within : (k i : ℕ) (b : Bound) → slice_get settled i ≡ Some b → IsWithin late k i
within zero zero b e = (lit≤ tt, lit≤ tt)
within zero (suc zero) b e = (lit≤ tt, lit≤ tt)
within zero (suc (suc zero)) b e = (lit≤ tt, lit≤ tt)
within zero (suc (suc (suc i))) b e = absurd (cc)
within (suc zero) zero b e = (lit≤ tt, lit≤ tt)
within (suc zero) (suc zero) b e = (lit≤ tt, lit≤ tt)
within (suc zero) (suc (suc zero)) b e = (lit≤ tt, lit≤ tt)
within (suc zero) (suc (suc (suc i))) b e = absurd (cc)
within (suc (suc zero)) zero b e = (lit≤ tt, lit≤ tt)
within (suc (suc zero)) (suc zero) b e = (lit≤ tt, lit≤ tt)
within (suc (suc zero)) (suc (suc zero)) b e = (lit≤ tt, lit≤ tt)
within (suc (suc zero)) (suc (suc (suc i))) b e = absurd (cc)
within (suc (suc (suc k))) i b e = subst (λ v. OfBoth IsNear (slice_get late i) (slice_get v i)) (sym (rests k)) (by i b e)
  where
    by : (i : ℕ) (b : Bound) → slice_get settled i ≡ Some b → OfBoth IsNear (slice_get late i) (slice_get settled i)
    by zero b e = (lit≤ tt, lit≤ tt)
    by (suc zero) b e = (lit≤ tt, lit≤ tt)
    by (suc (suc zero)) b e = (lit≤ tt, lit≤ tt)
    by (suc (suc (suc i))) b e = absurd (cc)

all_solved : AreSolved late settled
all_solved = record {
  long = refl;
  each = λ i b e. record {
    from = 3;
    rests = λ k up. ap (λ v. slice_get v i) (rests_from k up) ∙ e;
    followed = λ k j dep. subst (λ p. IsWithin late k p) (alone i j dep) (within k i b e);
  };
}

-- 21, over its deadline of 20, is the least solution of the last row
late_by_a_tick : IsTold late 2 (Solved 0 21)
late_by_a_tick = all_solved.each 2 (bound 0 21) refl

not_20 : IsSolved late 2 (bound 0 20) → ⊥
not_20 h = (let e = told-once late 2 (Solved 0 21) (Solved 0 20) late_by_a_tick h in cc)

-- a vector that is too short, and one with another bound
short_vector : AreSolved late [] → ⊥
short_vector h = (let e = h.long in omega (arith, e))

other_vector : AreSolved late (bound 0 3 ∷ bound 0 6 ∷ bound 0 20 ∷ []) → ⊥
other_vector h = not_20 (h.each 2 (bound 0 20) refl)

-- A TABLE THAT HAS NO SOLUTION: THE FIRST ROW TAKES THE WHOLE PROCESSOR, AND THE SECOND STARTS THE THIRD
abbrev over : List ThreadRow
over = row 2 2 None ∷ row 3 10 None ∷ row 100 1 (Some 1) ∷ row 100 1 None ∷ []

rising : map (λ k. slice_get (round over k) 1) (0 ∷ 1 ∷ 2 ∷ 3 ∷ [])
    ≡ Some (bound 0 10) ∷ Some (bound 0 20) ∷ Some (bound 0 30) ∷ Some (bound 0 40) ∷ []
rising = refl

within_at : (m : ℕ) → m < 3 → IsWithin over m 1
within_at zero h = (lit≤ tt, lit≤ tt)
within_at (suc zero) h = (lit≤ tt, lit≤ tt)
within_at (suc (suc zero)) h = (lit≤ tt, lit≤ tt)
within_at (suc (suc (suc m))) h = absurd (omega (arith, h))

over_at : IsOver over 3 1
over_at = inl (lit≤ tt)

not_over_before : IsOver over 2 1 → ⊥
not_over_before (inl h) = omega (arith, h)
not_over_before (inr h) = omega (arith, h)

not_within : IsWithin over 3 1 → ⊥
not_within h = omega (arith, h.0)

-- the third row needs its starter, and so does each below it
abbrev needs_own : Needs over 2 1
needs_own = record { place = 2; row = row 100 1 (Some 1); up = lit≤ tt; is = refl; started = refl }

abbrev needs_above : Needs over 3 1
needs_above = record { place = 2; row = row 100 1 (Some 1); up = lit≤ tt; is = refl; started = refl }

-- those above it need none, and none needs another
only_needed : (i s : ℕ) → Needs over i s → (2 ≤ i) × (s ≡ 1)
only_needed i s needs = by needs.place needs.row needs.up needs.is needs.started
  where
    one : {s : ℕ} → Some 1 ≡ Some s → s ≡ 1
    one e = cc

    by : (place : ℕ) (r : ThreadRow) → place ≤ i → slice_get over place ≡ Some r → r.starter ≡ Some s → (2 ≤ i) × (s ≡ 1)
    by zero r up e f = absurd (cc)
    by (suc zero) r up e f = absurd (cc)
    by (suc (suc zero)) r up e f = (up, one (ap (λ z. z.starter) (some-same e) ∙ f))
    by (suc (suc (suc zero))) r up e f = absurd (cc)
    by (suc (suc (suc (suc p)))) r up e f = absurd (cc)

high_alone : (i j : ℕ) → i < 2 → DependsOn over i j → i ≡ j
high_alone i j h itself = refl
high_alone i j h (through {starter = s} needs more) = absurd (omega (arith, h, (only_needed i s needs).0))

second_given_up : IsTold over 1 (Beyond 3 0 40)
second_given_up = record {
  told = refl;
  over = over_at;
  followed = λ m less j dep. subst (λ p. IsWithin over m p) (high_alone 1 j (lit≤ tt) dep) (within_at m less);
}

-- another bound, a round before, a round after, and a solution
abbrev response_in : Reach → ℕ
response_in (Solved jitter response) = response
response_in (Beyond round jitter response) = response
response_in (Behind starter) = 0

other_bound : IsBeyond over 1 3 (bound 0 41) → ⊥
other_bound h = (let e = ap response_in (told-once over 1 (Beyond 3 0 40) (Beyond 3 0 41) second_given_up h) in omega (arith, e))

round_before : IsBeyond over 1 2 (bound 0 30) → ⊥
round_before h = not_over_before h.over

round_after : IsBeyond over 1 4 (bound 0 50) → ⊥
round_after h = not_within (h.followed 3 (lit≤ tt) 1 itself)

never_solved : (b : Bound) → IsSolved over 1 b → ⊥
never_solved b h = not_within (h.followed 3 1 itself)

-- the rows that need it are behind it: in round 3 they are within ten times their limits, with all that they depend on before
low_depends : (i j : ℕ) → DependsOn over i j → (j ≡ i) ⊎ (j ≡ 1)
low_depends i j itself = inl refl
low_depends i j (through {starter = s} needs more) =
    inr (sym (high_alone 1 j (lit≤ tt) (subst (λ p. DependsOn over p j) (only_needed i s needs).1 more)))

low_followed : (i m : ℕ) → m < 3 → IsWithin over m i → IsFollowed over m i
low_followed i m less near j dep = by (low_depends i j dep)
  where
    by : (j ≡ i) ⊎ (j ≡ 1) → IsWithin over m j
    by (inl same) = subst (λ p. IsWithin over m p) (sym same) near
    by (inr same) = subst (λ p. IsWithin over m p) (sym same) (within_at m less)

third_within : (m : ℕ) → m < 3 → IsWithin over m 2
third_within zero h = (lit≤ tt, lit≤ tt)
third_within (suc zero) h = (lit≤ tt, lit≤ tt)
third_within (suc (suc zero)) h = (lit≤ tt, lit≤ tt)
third_within (suc (suc (suc m))) h = absurd (omega (arith, h))

fourth_within : (m : ℕ) → m < 3 → IsWithin over m 3
fourth_within zero h = (lit≤ tt, lit≤ tt)
fourth_within (suc zero) h = (lit≤ tt, lit≤ tt)
fourth_within (suc (suc zero)) h = (lit≤ tt, lit≤ tt)
fourth_within (suc (suc (suc m))) h = absurd (omega (arith, h))

third_behind : IsTold over 2 (Behind 1)
third_behind = record {
  round = 3;
  needs = needs_own;
  lost = (1, itself, over_at);
  first = λ k s less needs. absurd (omega (arith, less, (only_needed k s needs).0));
  within = (lit≤ tt, lit≤ tt);
  followed = λ m less. low_followed 2 m less (third_within m less);
}

fourth_behind : IsTold over 3 (Behind 1)
fourth_behind = record {
  round = 3;
  needs = needs_above;
  lost = (1, itself, over_at);
  first = λ k s less needs. absurd (omega (arith, less, (only_needed k s needs).0));
  within = (lit≤ tt, lit≤ tt);
  followed = λ m less. low_followed 3 m less (fourth_within m less);
}

-- no row needs the first, and none above the third needs a starter
first_not_needed : IsBehind over 2 0 → ⊥
first_not_needed h = omega (arith, (only_needed 2 0 h.needs).1)

above_not_behind : IsBehind over 1 1 → ⊥
above_not_behind h = omega (arith, (only_needed 1 1 h.needs).0)

-- a row that is itself over ten times its limits, rounds before its starter, is not behind it
abbrev own : List ThreadRow
own = row 2 2 None ∷ row 3 10 None ∷ row 1 20 (Some 1) ∷ []

own_given_up : IsTold own 2 (Beyond 0 0 20)
own_given_up = record { told = refl; over = inl (lit≤ tt); followed = λ m less. absurd (omega (arith, less)) }

own_not_behind : IsBehind own 2 1 → ⊥
own_not_behind h = (let e = told-once own 2 (Behind 1) (Beyond 0 0 20) h own_given_up in cc)

-- A ROW WHOSE ROUNDS REST THOUGH ITS STARTER IS GIVEN UP, WHICH ALONE IS LATE: IT IS TOLD TO BE BEHIND, SINCE A SOLUTION IS FOLLOWED ONLY SO FAR
abbrev first_late : List ThreadRow
first_late = record { period = 1000; deadline = 1; jitter = 0; cost = 20; block = 0; starter = None } ∷ row 1000 1 (Some 0) ∷ []

second_rests : map (λ k. slice_get (round first_late k) 1) (0 ∷ 1 ∷ 2 ∷ 3 ∷ [])
    ≡ Some (bound 0 1) ∷ Some (bound 20 21) ∷ Some (bound 20 21) ∷ Some (bound 20 21) ∷ []
second_rests = refl

abbrev second_needs : Needs first_late 1 0
second_needs = record { place = 1; row = row 1000 1 (Some 0); up = lit≤ tt; is = refl; started = refl }

first_needs_none : (k s : ℕ) → k < 1 → Needs first_late k s → ⊥
first_needs_none k s less needs = by needs.place needs.row needs.up needs.is needs.started
  where
    by : (place : ℕ) (r : ThreadRow) → place ≤ k → slice_get first_late place ≡ Some r → r.starter ≡ Some s → ⊥
    by zero r up e f = cc
    by (suc p) r up e f = omega (arith, up, less)

second_not_solved : IsSolved first_late 1 (bound 20 21) → ⊥
second_not_solved h = omega (arith, (h.followed 0 0 (through second_needs itself)).0)

second_behind : IsTold first_late 1 (Behind 0)
second_behind = record {
  round = 0;
  needs = second_needs;
  lost = (0, itself, inl (lit≤ tt));
  first = λ k s less needs. absurd (first_needs_none k s less needs);
  within = (lit≤ tt, lit≤ tt);
  followed = λ m less. absurd (omega (arith, less));
}

-- TWO STARTERS ARE OVER TEN TIMES THEIR LIMITS IN ONE ROUND: A ROW THAT NEEDS BOTH IS TOLD TO BE BEHIND THE FIRST
abbrev late_row : ThreadRow
late_row = record { period = 1000; deadline = 1; jitter = 0; cost = 20; block = 0; starter = None }

abbrev two_late : List ThreadRow
two_late = late_row ∷ late_row ∷ row 1000 1 (Some 0) ∷ row 1000 1 (Some 1) ∷ []

two_need_none : (k s : ℕ) → k < 2 → Needs two_late k s → ⊥
two_need_none k s less needs = by needs.place needs.row needs.up needs.is needs.started
  where
    by : (place : ℕ) (r : ThreadRow) → place ≤ k → slice_get two_late place ≡ Some r → r.starter ≡ Some s → ⊥
    by zero r up e f = cc
    by (suc zero) r up e f = cc
    by (suc (suc p)) r up e f = omega (arith, up, less)

behind_the_first : IsTold two_late 3 (Behind 0)
behind_the_first = record {
  round = 0;
  needs = record { place = 2; row = row 1000 1 (Some 0); up = lit≤ tt; is = refl; started = refl };
  lost = (0, itself, inl (lit≤ tt));
  first = λ k s less needs. absurd (two_need_none k s less needs);
  within = (lit≤ tt, lit≤ tt);
  followed = λ m less. absurd (omega (arith, less));
}

abbrev starter_in : Reach → ℕ
starter_in (Solved jitter response) = 9
starter_in (Beyond round jitter response) = 9
starter_in (Behind starter) = starter

not_behind_the_second : IsBehind two_late 3 1 → ⊥
not_behind_the_second h = (let e = ap starter_in (told-once two_late 3 (Behind 1) (Behind 0) h behind_the_first) in omega (arith, e))

-- A TABLE IN TIME: A ROW WHOSE STARTER IS SOLVED IS NOT BEHIND IT
abbrev fine : List ThreadRow
fine = row 10 2 None ∷ row 50 1 (Some 0) ∷ []

fine_rests : (k : ℕ) → round fine (suc k) ≡ bound 0 2 ∷ bound 2 3 ∷ []
fine_rests zero = refl
fine_rests (suc k) = ap (λ v. right_sides fine v) (fine_rests k)

fine_from : (i k : ℕ) → 1 ≤ k → slice_get (round fine k) i ≡ slice_get (bound 0 2 ∷ bound 2 3 ∷ []) i
fine_from i zero h = absurd (omega (arith, h))
fine_from i (suc k) h = ap (λ v. slice_get v i) (fine_rests k)

fine_within : (k i : ℕ) → i < 2 → IsWithin fine k i
fine_within zero zero h = (lit≤ tt, lit≤ tt)
fine_within zero (suc zero) h = (lit≤ tt, lit≤ tt)
fine_within (suc k) zero h = subst (λ v. OfBoth IsNear (slice_get fine 0) (slice_get v 0)) (sym (fine_rests k)) (lit≤ tt, lit≤ tt)
fine_within (suc k) (suc zero) h = subst (λ v. OfBoth IsNear (slice_get fine 1) (slice_get v 1)) (sym (fine_rests k)) (lit≤ tt, lit≤ tt)
fine_within k (suc (suc i)) h = absurd (omega (arith, h))

fine_needs : (i s : ℕ) → Needs fine i s → s ≡ 0
fine_needs i s needs = by needs.place needs.row needs.is needs.started
  where
    zero_of : {s : ℕ} → Some 0 ≡ Some s → s ≡ 0
    zero_of e = cc

    by : (place : ℕ) (r : ThreadRow) → slice_get fine place ≡ Some r → r.starter ≡ Some s → s ≡ 0
    by zero r e f = absurd (cc)
    by (suc zero) r e f = zero_of (ap (λ z. z.starter) (some-same e) ∙ f)
    by (suc (suc p)) r e f = absurd (cc)

fine_depends : (i j : ℕ) → i < 2 → DependsOn fine i j → j < 2
fine_depends i j h itself = h
fine_depends i j h (through {starter = s} needs more) = fine_depends s j (omega (arith, fine_needs i s needs)) more

fine_solved : (i : ℕ) (b : Bound) → i < 2 → slice_get (bound 0 2 ∷ bound 2 3 ∷ []) i ≡ Some b → IsSolved fine i b
fine_solved i b h e = record {
  from = 1;
  rests = λ k up. fine_from i k up ∙ e;
  followed = λ k j dep. fine_within k j (fine_depends i j h dep);
}

fine_not_behind : IsBehind fine 1 0 → ⊥
fine_not_behind h = (let e = told-once fine 1 (Behind 0) (Solved 2 3) h (fine_solved 1 (bound 2 3) (lit≤ tt) refl) in cc)

all_told : AreTold fine (Solved 0 2 ∷ Solved 2 3 ∷ [])
all_told = record { long = refl; each = each }
  where
    each : (i : ℕ) (r : Reach) → slice_get (Solved 0 2 ∷ Solved 2 3 ∷ []) i ≡ Some r → IsTold fine i r
    each zero r e = subst (λ z. IsTold fine 0 z) (some-same e) (fine_solved 0 (bound 0 2) (lit≤ tt) refl)
    each (suc zero) r e = subst (λ z. IsTold fine 1 z) (some-same e) (fine_solved 1 (bound 2 3) (lit≤ tt) refl)
    each (suc (suc i)) r e = absurd (cc)

-- a row too few, and one that is told otherwise
too_few : AreTold fine (Solved 0 2 ∷ []) → ⊥
too_few h = (let e = h.long in omega (arith, e))

otherwise : AreTold fine (Solved 0 2 ∷ Behind 0 ∷ []) → ⊥
otherwise h = fine_not_behind (h.each 1 (Behind 0) refl)

-- THE JITTERS ABOVE A SOLVED ROW
own_jitter : HasJitter fine (row 10 2 None) None 0
own_jitter = refl

not_own_jitter : HasJitter fine (row 10 2 None) None 1 → ⊥
not_own_jitter h = omega (arith, h)

started_jitter : HasJitter fine (row 50 1 (Some 0)) (Some 0) 2
started_jitter = (bound 0 2, fine_solved 0 (bound 0 2) (lit≤ tt) refl, refl)

jitter_of_none : (n : ℕ) → HasJitter over (row 100 1 (Some 1)) (Some 1) n → ⊥
jitter_of_none n h = never_solved h.0 h.1

-- the response of a row above doesn't matter
above : AreAbove fine 1 ((row 10 2 None, bound 0 99) ∷ [])
above = ((refl, refl), tt)

above_other_jitter : AreAbove fine 1 ((row 10 2 None, bound 1 99) ∷ []) → ⊥
above_other_jitter h = omega (arith, h.0.1)

above_other_row : AreAbove fine 1 ((row 10 3 None, bound 0 99) ∷ []) → ⊥
above_other_row h = (let e = ap (λ r. r.cost) h.0.0 in omega (arith, e))

above_none : AreAbove fine 1 [] → ⊥
above_none h = h

-- the jitters that are told: a row's own, that of a starter that is solved, and none of one that isn't
jitters_told : map (λ r. told_jitter (Solved 4 2 ∷ Beyond 3 0 40 ∷ Behind 1 ∷ []) r r.starter)
    (record short { jitter = 5 } ∷ row 50 1 (Some 0) ∷ row 50 1 (Some 1) ∷ row 50 1 (Some 2) ∷ row 50 1 (Some 3) ∷ []) ≡ 5 ∷ 6 ∷ 0 ∷ 0 ∷ 0 ∷ []
jitters_told = refl

entry_told : told_entry (Solved 4 2 ∷ []) (row 50 1 (Some 0)) ≡ (row 50 1 (Some 0), bound 6 0)
entry_told = refl

with_bound : solved_with (bound 2 3) ≡ Solved 2 3
with_bound = refl

-- ROWS IN TIME
in_time : IsInTime short (Solved 4 3)
in_time = (lit≤ tt, lit≤ tt)

over_deadline : IsInTime short (Solved 0 4) → ⊥
over_deadline h = omega (arith, h.0)

over_period : IsInTime short (Solved 5 3) → ⊥
over_period h = omega (arith, h.1)

given_up_is_late : IsInTime short (Beyond 0 0 1) → ⊥
given_up_is_late h = h

behind_is_late : IsInTime short (Behind 0) → ⊥
behind_is_late h = h

-- UTILISATION
-- 3/7 + 3/12 + 6/20 is 1644/1680
fraction : utilisation late ≡ record { over = 1644; under = 1680 }
fraction = refl

per_mille : IsPerMille (utilisation late) 978
per_mille = (lit≤ tt, lit≤ tt)

one_less : IsPerMille (utilisation late) 977 → ⊥
one_less h = omega (arith, h.1)

one_more : IsPerMille (utilisation late) 979 → ⊥
one_more h = omega (arith, h.0)

-- three thirds are whole
full : IsPerMille (utilisation (row 3 1 None ∷ row 3 1 None ∷ row 3 1 None ∷ [])) 1000
full = (lit≤ tt, lit≤ tt)

nothing : utilisation [] ≡ record { over = 0; under = 1 }
nothing = refl
