-- A round of the response equations that the next one leaves as it is, with no value over its limit, is the least vector that fits.
-- So the bounds of a given table are shown by computing.
use Rattle.std.specs.Prelude.{◌≡◌, ℕ, List, length, None}
use Rattle.std.proofs.Common.{subst, sym}
use Rattle.rt_response.specs.declared.rows.ThreadRow.{ThreadRow}
use Rattle.rt_response.specs.declared.rows.Bound.{Bound}
use Rattle.rt_response.specs.Response.{right_sides, IsAtMost, IsLeastVector}
use Rattle.rt_response.specs.Rounds.{round, first_excess}
use Rattle.rt_response.proofs.Shared.Least.{at_most-refl, round-below}
use Rattle.rt_response.proofs.Shared.Solving.{no_excess-within}

pub round-least : (rows : List ThreadRow) (k : ℕ) → length (round rows k) ≡ length rows → right_sides rows (round rows k) ≡ round rows k
    → first_excess 0 rows (round rows k) ≡ None
    → IsLeastVector rows (round rows k)
round-least rows k long stays within =
    let P : List Bound → Type 0 = λ v. IsAtMost v (round rows k) in
    record {
      fits = ((long, subst P (sym stays) (at_most-refl (round rows k))), no_excess-within 0 rows (round rows k) long within);
      least = λ u fits. round-below rows u k fits.0;
    }
