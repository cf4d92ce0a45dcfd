use Rattle.std.proofs.Common.{◌≡◌, ◌+◌, ◌*◌, ◌≤◌, length, zip, fold}
use Rattle.std.specs.List.{AllZip}
use Rattle.late_response.specs.Progress.{IsTaken, taken}
use Rattle.late_response.proofs.sides.all_taken.Given as goal

abbrev pub invariant-rows : goal.invariant-rows
invariant-rows l = record {
  entries : AllZip IsTaken l.rows l.known;
  value : fold (λ n e. n + taken l.window e) l.sum (zip l.rows l.known) ≡ fold (λ n e. n + taken l.window e) 0 (zip l.fn.rows l.fn.known);
  small : l.sum + length l.rows * (20000000000 * 1000000000) ≤ 30 * (20000000000 * 1000000000);
}

abbrev pub decreases-rows : goal.decreases-rows
decreases-rows l = length l.rows
