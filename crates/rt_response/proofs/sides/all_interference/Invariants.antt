use Rattle.std.proofs.Common.{◌≡◌, ◌+◌, ◌*◌, ◌≤◌, length, zip, fold}
use Rattle.std.specs.List.{AllZip}
use Rattle.rt_response.specs.Response.{interference}
use Rattle.rt_response.specs.Entries.{IsEntry}
use Rattle.rt_response.proofs.sides.all_interference.Given as goal

abbrev pub invariant-rows : goal.invariant-rows
invariant-rows l = record {
  entries : AllZip IsEntry l.rows l.bounds;
  value : fold (λ n e. n + interference l.window e) l.sum (zip l.rows l.bounds)
      ≡ fold (λ n e. n + interference l.window e) 0 (zip l.fn.rows l.fn.bounds);
  small : l.sum + length l.rows * (2000000000 * 1000000000) ≤ 30 * (2000000000 * 1000000000);
}

abbrev pub decreases-rows : goal.decreases-rows
decreases-rows l = length l.rows
