-- That the numbers that are reported are at most those of every solution, so that late threads are late in each.
use Rattle.std.proofs.Common.{◌≡◌, ℕ, List, Some, inl, inr, sym, ap, ◌∙◌, arith}
use Rattle.std.specs.Prelude.{slice_get}
use Rattle.rt_response.specs.declared.rows.ThreadRow.{ThreadRow}
use Rattle.rt_response.specs.declared.rows.Bound.{Bound}
use Rattle.rt_response.specs.Response.{Meets}
use Rattle.analysis.specs.Tables.{table}
use Rattle.law_lists.proofs.Shared.Places.{map-at}
use Rattle.law_designs.proofs.Shared.TableRanges.{sound-table}
use Rattle.late_response.specs.declared.reach.Reach.{Reach}
use Rattle.late_response.specs.declared.reach.Reach.TheVariants.{Solved, Beyond, Behind}
use Rattle.late_response.specs.Late.{IsTold}
use Rattle.late_response.specs.Laws.{BeyondIsLate, LeastIsSolved, SolvedIsLeast}
use Rattle.explanation.specs.declared.reasons.Reasons.{Reasons}
use Rattle.explanation.specs.Threads.{reasons_of}
use Rattle.law_explanations.specs.LateThreads.{IsAtLeast, IsOverLimit, IsToldLate, LateThreadsAreLate, NumbersAreLeast}
use Rattle.law_explanations.proofs.Placed.{told-reaches, told-rows}
use Rattle.law_explanations.proofs.Terms.{found-told}

at-least : SolvedIsLeast → BeyondIsLate → (rows : List ThreadRow) (i : ℕ) (row : ThreadRow) (r : Reach) (u : List Bound) (b : Bound)
    → IsTold rows i r → Meets rows u → slice_get rows i ≡ Some row → slice_get u i ≡ Some b → IsAtLeast r row b
at-least least far rows i row (Solved j q) u b told meets is at = least rows i (record { jitter = j; response = q }) b u told meets at
at-least least far rows i row (Beyond k j q) u b told meets is at = far rows i k row (record { jitter = j; response = q }) b u told meets is at
at-least least far rows i row (Behind s) u b told meets is at = tt

pub numbers-are-least : LeastIsSolved → SolvedIsLeast → BeyondIsLate → NumbersAreLeast
numbers-are-least solved least far first f found late i t u b sound is_found at meets has =
    let told = found-told f found late solved (sound-table f sound) is_found in
    let as_rows = told-rows first f found told.long in
    let as_reaches = told-reaches first f found told.long in
    let ts = reasons_of first f found in
    let row_at : slice_get (table f).rows i ≡ Some t.row = ap (λ l. slice_get l i) (sym as_rows) ∙ map-at (λ (x : Reasons). x.row) ts i t at in
    let reach_at : slice_get found i ≡ Some t.reach = ap (λ l. slice_get l i) (sym as_reaches) ∙ map-at (λ (x : Reasons). x.reach) ts i t at in
    at-least least far (table f).rows i t.row t.reach u b (told.each i t.reach reach_at) meets row_at has

over : (row : ThreadRow) (r : Reach) (b : Bound) → IsAtLeast r row b → IsToldLate row r → IsOverLimit row b
over row (Solved j q) b h (inl late) = inl (omega (arith, h.1, late))
over row (Solved j q) b h (inr late) = inr (omega (arith, h.0, h.1, late))
over row (Beyond k j q) b (inl far) late = inl (omega (arith, far))
over row (Beyond k j q) b (inr far) late = inr (omega (arith, far))
over row (Behind s) b h late = absurd late

pub late-threads-are-late : NumbersAreLeast → LateThreadsAreLate
late-threads-are-late least first f found late i t u b sound is_found at told meets has =
    over t.row t.reach b (least first f found late i t u b sound is_found at meets has) told
