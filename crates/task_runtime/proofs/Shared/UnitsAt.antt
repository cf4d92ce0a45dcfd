-- The units of a program by their places.
use Rattle.std.proofs.Common.{◌≡◌, ℕ, zero, suc, ◌+◌, ◌<◌, List, [], ◌∷◌, length, map, drop, get_or, refl, arith, drop-cons, add-one, Some}
use Rattle.std.specs.Prelude.{slice_get}
use Rattle.ada_tree.specs.Trees.{unit_of}
use Rattle.ada_tree.specs.declared.program.Unit as units

-- the unit at a place is first of those from there on
pub units-at : (us : List units.Unit) (i : ℕ) (d : units.Unit) → i < length us
    → map unit_of (drop i us) ≡ unit_of (get_or us i d) ∷ map unit_of (drop (i + 1) us)
units-at us i d h = rw (drop-cons us i d h, add-one) refl

pub get-map : (us : List units.Unit) (i : ℕ) (d : units.Unit) → i < length us → slice_get (map unit_of us) i ≡ Some (unit_of (get_or us i d))
get-map [] i d h = absurd (omega arith)
get-map (u ∷ us) zero d h = refl
get-map (u ∷ us) (suc i) d h = let less : i < length us = omega arith in get-map us i d less
