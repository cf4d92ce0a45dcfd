-- Tests that compute, and what they show: bounds that are the least, and threads that stand in a program.
use Rattle.std.proofs.Common.{◌≡◌, ℕ, suc, ◌≤◌, Bool, true, false, not, ◌&&◌, ◌||◌, List, [], ◌∷◌, length, refl, sym, ap₂, subst, arith, eqb-true}
use Rattle.std.specs.Prelude.{◌==◌, slice_get, Option, Some, None}
use Rattle.std.specs.List.{list_all}
use Rattle.std.proofs.lemmas.Bool.{and_parts}
use Rattle.ada_tree.specs.Programs.{Program}
use Rattle.arrivals_tree.specs.ArrivalTexts.{unit_place}
use Rattle.ods_tree.specs.Walk.{is_empty}
use Rattle.rt_response.specs.declared.rows.ThreadRow.{ThreadRow}
use Rattle.rt_response.specs.declared.rows.Bound.{Bound}
use Rattle.rt_response.specs.declared.excess.Excess.{Excess}
use Rattle.rt_response.specs.Response.{right_sides, IsAtMost, IsLeastVector}
use Rattle.rt_response.specs.Rounds.{round, first_excess}
use Rattle.rt_response.proofs.Shared.Least.{at_most-refl, round-below}
use Rattle.rt_response.proofs.Shared.Solving.{no_excess-within}
use Rattle.sample_design.specs.Samples.{from_on, is_sporadic, thread_name, thread_time}
use Rattle.law_samples.proofs.Accepted.{HasThreads, is_asked_at}
use Rattle.law_samples.proofs.Numbers.{checked}

pub empty-none : {A : Type 0} (xs : List A) → is_empty xs ≡ true → xs ≡ []
empty-none [] h = refl
empty-none (x ∷ xs) h = cc

-- BOUNDS
-- whether two vectors are one
abbrev pub same_bounds : List Bound → List Bound → Bool
same_bounds [] [] = true
same_bounds (a ∷ v) (b ∷ u) = a.jitter == b.jitter && (a.response == b.response && same_bounds v u)
same_bounds _ _ = false

same-bounds : (v u : List Bound) → same_bounds v u ≡ true → v ≡ u
same-bounds [] [] h = refl
same-bounds [] (b ∷ u) h = cc
same-bounds (a ∷ v) [] h = cc
same-bounds (a ∷ v) (b ∷ u) h =
    let p = and_parts (a.jitter == b.jitter) _ h in
    let q = and_parts (a.response == b.response) _ p.1 in
    let jitter : a.jitter ≡ b.jitter = eqb-true a.jitter b.jitter p.0 in
    let response : a.response ≡ b.response = eqb-true a.response b.response q.0 in
    let first : a ≡ b = ap₂ (λ j r. let c : Bound = record { jitter = j; response = r } in c) jitter response in
    ap₂ (λ c w. c ∷ w) first (same-bounds v u q.1)

abbrev pub is_none : Option Excess → Bool
is_none None = true
is_none (Some e) = false

none-is : (o : Option Excess) → is_none o ≡ true → o ≡ None
none-is None h = refl
none-is (Some e) h = cc

-- whether the first round is this vector, the next one too, and nothing is over a limit
abbrev pub is_bounded : List ThreadRow → List Bound → Bool
is_bounded rows v =
    same_bounds (round rows 1) v && (same_bounds (right_sides rows v) v && (length v == length rows && is_none (first_excess 0 rows v)))

pub bounds-least : (rows : List ThreadRow) (v : List Bound) → is_bounded rows v ≡ true → IsLeastVector rows v
bounds-least rows v h =
    let p = and_parts (same_bounds (round rows 1) v) _ h in
    let q = and_parts (same_bounds (right_sides rows v) v) _ p.1 in
    let r = and_parts (length v == length rows) _ q.1 in
    let first : round rows 1 ≡ v = same-bounds (round rows 1) v p.0 in
    let stays : right_sides rows v ≡ v = same-bounds (right_sides rows v) v q.0 in
    let long : length v ≡ length rows = eqb-true (length v) (length rows) r.0 in
    record {
      fits = ((long, subst (λ w. IsAtMost w v) (sym stays) (at_most-refl v)), no_excess-within 0 rows v long (none-is (first_excess 0 rows v) r.1));
      least = λ u fits. subst (λ w. IsAtMost w u) first (round-below rows u 1 fits.0);
    }

-- of two least vectors each is nowhere above the other, so they are one
at_most-both : (v u : List Bound) → IsAtMost v u → IsAtMost u v → v ≡ u
at_most-both [] [] h k = refl
at_most-both [] (b ∷ u) h k = absurd h
at_most-both (a ∷ v) [] h k = absurd h
at_most-both (a ∷ v) (b ∷ u) h k =
    let jitter : a.jitter ≡ b.jitter = omega (arith, h.0.0, k.0.0) in
    let response : a.response ≡ b.response = omega (arith, h.0.1, k.0.1) in
    let first : a ≡ b = ap₂ (λ j r. let c : Bound = record { jitter = j; response = r } in c) jitter response in
    ap₂ (λ c w. c ∷ w) first (at_most-both v u h.1 k.1)

pub least-only : (rows : List ThreadRow) (u v : List Bound) → IsLeastVector rows u → IsLeastVector rows v → v ≡ u
least-only rows u v h k = at_most-both v u (k.least u h.fits) (h.least v k.fits)

-- THREADS IN A PROGRAM
abbrev is_in_place : Program → ℕ → ℕ → Bool
is_in_place p n k = not (is_sporadic k) || ((unit_place p (thread_name k) == suc k) && is_asked_at (thread_time n k) (slice_get p.units (suc k)))

abbrev pub has_threads : Program → ℕ → Bool
has_threads p n = list_all (is_in_place p n) (from_on 1 n)

behind-not : (a b : Bool) → (not a || b) ≡ true → a ≡ true → b ≡ true
behind-not true b h e = h
behind-not false b h e = cc

pub threads-there : (p : Program) (n : ℕ) → has_threads p n ≡ true → HasThreads p n
threads-there p n h = record {
  place = λ k low high sporadic. eqb-true (unit_place p (thread_name k)) (suc k) (both k low high sporadic).0;
  asked = λ k low high sporadic. (both k low high sporadic).1;
}
  where
    both : (k : ℕ) → 1 ≤ k → k ≤ n → is_sporadic k ≡ true
        → ((unit_place p (thread_name k) == suc k) ≡ true) × (is_asked_at (thread_time n k) (slice_get p.units (suc k)) ≡ true)
    both k low high sporadic = and_parts (unit_place p (thread_name k) == suc k) _
        (behind-not (is_sporadic k) _ (checked (is_in_place p n) 1 n k h low (omega (arith, high))) sporadic)
