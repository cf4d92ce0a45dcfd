-- The place of the first unit of a name is one of the places.
use Rattle.std.proofs.Common.{◌≡◌, ℕ, suc, ◌<◌, ◌+◌, Bool, true, false, arith, List, [], ◌∷◌, length, Some, option_map}
use Rattle.std.specs.Prelude.{if◌then◌else◌}
use Rattle.seq_tree.specs.Names.{Name, same_name}
use Rattle.seq_tree.specs.Lists.{first_from}
use Rattle.ada_tree.specs.Programs.{Unit}
use Rattle.arrivals_read.specs.Tables.{first_place}

pub place_below : (i p : ℕ) (n : Name) (us : List Unit) → first_place i n us ≡ Some p → p < i + length us
place_below i p n [] e = absurd (cc)
place_below i p n (u ∷ us) e = by (same_name u.name n) e (place_below (suc i) p n us) where
  by : (b : Bool) → option_map (λ v. v.0) (if b then Some (i, u) else first_from (suc i) (λ u. same_name u.name n) us) ≡ Some p
      → (first_place (suc i) n us ≡ Some p → p < suc i + length us) → p < i + suc (length us)
  by true e more = let h : i ≡ p = cc in omega (arith, h)
  by false e more = omega (arith, more e)
