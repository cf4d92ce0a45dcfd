-- Examples: what tables have for names that have a place and for those that have none.
use Rattle.std.proofs.Common.{◌≡◌, ℕ, [], ◌∷◌, Some, None, Vec, refl, ap, ◌∙◌}
use Rattle.std.specs.Prelude.{codes, nat_lt, option_and_then, slice_get}
use Rattle.seq_tree.specs.Names.{Name}
use Rattle.seq_tree.specs.declared.tree.OpName.{OpName}
use Rattle.name_sets.specs.FirstPlaces.{place_where, op_place_from, place_from}
use Rattle.name_sets.specs.OpPlaces.{op_place_in}
use Rattle.name_sets.specs.Places.{place_in}
use Rattle.name_sets.specs.Tables.{at, listed, named, number_at, or_0}
use Rattle.name_sets.specs.declared.name_table.NameTable.{NameTable}
use Rattle.name_sets.specs.declared.op_table.OpTable.{OpTable}

abbrev set : OpName
set = record { object = codes "q"; op = codes "set" }

-- the value of a name stands at its place
second_value : (t : NameTable ℕ) (n : Name) → place_in t.places n ≡ Some 1 → t.values.items ≡ 4 ∷ 7 ∷ [] → named t n ≡ Some 7
unfolding named
second_value t n place values = ap (option_and_then (slice_get t.values.items)) place ∙ ap (λ vs. slice_get vs 1) values

no_value : (t : NameTable ℕ) (n : Name) → place_in t.places n ≡ None → named t n ≡ None
unfolding named
no_value t n place = ap (option_and_then (slice_get t.values.items)) place

-- that of an operation too
second_of_operations : (t : OpTable ℕ) → op_place_in t.places set ≡ Some 1 → t.values.items ≡ 4 ∷ 7 ∷ [] → at t set ≡ Some 7
unfolding at
second_of_operations t place values = ap (option_and_then (slice_get t.values.items)) place ∙ ap (λ vs. slice_get vs 1) values

none_of_operations : (t : OpTable ℕ) → op_place_in t.places set ≡ None → at t set ≡ None
unfolding at
none_of_operations t place = ap (option_and_then (slice_get t.values.items)) place

-- a number that a table has, and one that it has not
has_a_number : (t : OpTable ℕ) → at t set ≡ Some 7 → number_at t (codes "q") (codes "set") ≡ 7
has_a_number t h = ap or_0 h

has_0 : (t : OpTable ℕ) → at t set ≡ None → number_at t (codes "q") (codes "set") ≡ 0
has_0 t h = ap or_0 h

-- the items of a list, and none where there is no list
all_items : {Z : Type 0} (v : Vec ℕ Z) → listed (Some v) ≡ v.items
all_items v = refl

no_items : (Z : Type 0) → listed {V = ℕ} {Z = Z} None ≡ []
no_items Z = refl

-- of two with one name the first is found, and none of a name that is not there
first_of_two : place_from 0 (codes "b") (codes "a" ∷ codes "b" ∷ codes "b" ∷ []) ≡ Some 1
first_of_two = refl

not_there : place_from 0 (codes "c") (codes "a" ∷ codes "b" ∷ []) ≡ None
not_there = refl

-- so it is with operations: one of another object is another
first_operation : op_place_from 0 (record { object = codes "r"; op = codes "set" } ∷ set ∷ set ∷ []) set ≡ Some 1
first_operation = refl

no_operation : op_place_from 0 (record { object = codes "r"; op = codes "set" } ∷ []) set ≡ None
no_operation = refl

-- of two that pass a test the first counts, from the number that is given
first_that_passes : place_where (λ n. nat_lt 3 n) 5 (2 ∷ 4 ∷ 6 ∷ []) ≡ Some 6
first_that_passes = refl
