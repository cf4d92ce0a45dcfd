-- That all threads are within their limits exactly where a design has bounds.
use Rattle.std.proofs.Common.{◌≡◌, ℕ, zero, suc, ◌+◌, ◌≤◌, List, [], ◌∷◌, map, Some, None, refl, sym, subst, ◌∙◌}
use Rattle.std.specs.Prelude.{slice_get}
use Rattle.std.specs.List.{AllZip}
use Rattle.std.proofs.lemmas.List.{length-map}
use Rattle.std.proofs.lemmas.Option.{none-some, same_Some}
use Rattle.rt_response.specs.declared.rows.ThreadRow.{ThreadRow}
use Rattle.rt_response.specs.declared.rows.Bound.{Bound}
use Rattle.rt_response.specs.Response.{IsWithinLimits}
use Rattle.analysis.specs.Tables.{table}
use Rattle.law_lists.proofs.Shared.Places.{mapped-at}
use Rattle.late_response.specs.declared.reach.Reach.{Reach}
use Rattle.late_response.specs.declared.reach.Reach.TheVariants.{Solved, Beyond, Behind}
use Rattle.late_response.specs.Late.{AreTold, IsSolved, IsTold}
use Rattle.late_response.specs.Laws.{AreSolved, SolvedInTimeIsLeast}
use Rattle.explanation.specs.Findings.{solved_of}
use Rattle.law_explanations.specs.Laws.{IsKept, LateIsMissed}

-- least bounds are within the limits
kept : (rows : List ThreadRow) (v : List Bound) → IsWithinLimits rows v → AllZip IsKept rows (map solved_of v)
kept [] [] h = tt
kept [] (b ∷ v) h = absurd h
kept (row ∷ rows) [] h = absurd h
kept (row ∷ rows) (b ∷ v) h = (h.0, kept rows v h.1)

-- the bound of a row, where it is known
abbrev bound_in : Reach → Bound
bound_in (Solved jitter response) = record { jitter = jitter; response = response }
bound_in (Beyond round jitter response) = record { jitter = 0; response = 0 }
bound_in (Behind starter) = record { jitter = 0; response = 0 }

-- where all rows are kept, each is solved
one-solved : (rows : List ThreadRow) (i : ℕ) (row : ThreadRow) (r : Reach) → IsKept row r → IsTold rows i r → IsSolved rows i (bound_in r)
one-solved rows i row (Solved j q) h told = told
one-solved rows i row (Beyond k j q) h told = absurd h
one-solved rows i row (Behind s) h told = absurd h

kept-at : (rows : List ThreadRow) (found : List Reach) (i : ℕ) (r : Reach) → AllZip IsKept rows found → slice_get found i ≡ Some r
    → (row : ThreadRow) × IsKept row r
kept-at [] [] i r h at = absurd (none-some r at)
kept-at [] (x ∷ found) i r h at = absurd h
kept-at (row ∷ rows) [] i r h at = absurd h
kept-at (row ∷ rows) (x ∷ found) zero r h at = (row, subst (IsKept row) (same_Some x r at) h.0)
kept-at (row ∷ rows) (x ∷ found) (suc i) r h at = kept-at rows found i r h.1 at

one-within : (row : ThreadRow) (r : Reach) → IsKept row r
    → ((bound_in r).response ≤ row.deadline) × ((bound_in r).jitter + (bound_in r).response ≤ row.period)
one-within row (Solved j q) h = h
one-within row (Beyond k j q) h = absurd h
one-within row (Behind s) h = absurd h

within : (rows : List ThreadRow) (found : List Reach) → AllZip IsKept rows found → IsWithinLimits rows (map bound_in found)
within [] [] h = tt
within [] (x ∷ found) h = absurd h
within (row ∷ rows) [] h = absurd h
within (row ∷ rows) (x ∷ found) h = (one-within row x h.0, within rows found h.1)

all-solved : (rows : List ThreadRow) (found : List Reach) → AreTold rows found → AllZip IsKept rows found → AreSolved rows (map bound_in found)
all-solved rows found told h = record {
  long = length-map found bound_in ∙ told.long;
  each = λ i b at.
      (let here = mapped-at bound_in found i b at in
      let k = kept-at rows found i here.0 h here.1 in
      subst (IsSolved rows i) here.2 (one-solved rows i k.0 here.0 k.1 (told.each i here.0 here.1)));
}

pub late-is-missed : SolvedInTimeIsLeast → LateIsMissed
late-is-missed law f found None h =
    (λ e. subst (AllZip IsKept (table f).rows) (sym h.2) (kept (table f).rows h.0 h.1.fits.1), λ k. refl)
late-is-missed law f found (Some late) h = (
  λ e. absurd (none-some late (sym e)),
  λ k. absurd (h.0.none (map bound_in found)
      (law (table f).rows (map bound_in found) (all-solved (table f).rows found h.1 k) (within (table f).rows found k)).fits),
)
