use Rattle.std.proofs.Common.{◌≡◌, ◌+◌, ◌*◌, ◌≤◌, ℕ, length, fold}
use Rattle.rt_response.specs.Tables.{Each, IsRow}
use Rattle.late_response.specs.Limbs.{value, room}
use Rattle.late_response.specs.Utilisation.{Fraction, plus, utilisation}
use Rattle.late_response.proofs.per_mille.utilisation.Given as goal

abbrev pub invariant-rows : goal.invariant-rows
invariant-rows l = record {
  done : ℕ;
  count : done + length l.left ≡ length l.fn.table;
  rows : Each (IsRow (length l.fn.table)) l.left;
  f : Fraction;
  sum : fold plus f l.left ≡ utilisation l.fn.table;
  under : value l.under ≡ f.under;
  over : l.whole * f.under + value l.over ≡ 1000 * f.over;
  positive : 1 ≤ value l.under;
  few : value l.over ≤ done * value l.under;
  fits : value l.over + value l.under ≤ room done;
  whole : l.whole ≤ done * 1000000000000;
  nothing : value l.nothing ≡ 0;
  long_over : length l.over ≡ 32;
  long_under : length l.under ≡ 32;
  long_nothing : length l.nothing ≡ 32;
}

abbrev pub decreases-rows : goal.decreases-rows
decreases-rows l = length l.left
