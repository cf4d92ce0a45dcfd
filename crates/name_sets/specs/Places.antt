-- Numbers by names.
-- The first name of these ends stands under their number, and the others in the order of their bytes.
use Rattle.std.specs.Prelude.{ℕ, ◌+◌, ◌*◌, ◌-◌, ◌^◌, ◌%◌, min, Bool, false, not, cond, List, [], ◌∷◌, length, take, drop, Option, Some, None}
use Rattle.std.specs.Ordering.{nat_cmp}
use Rattle.std.specs.Cmp.Lexicographic.{slice_cmp}
use Rattle.std.specs.BTreeMap.{get_by}
use Rattle.std.specs.Borrow.{Bor}
use Rattle.seq_tree.specs.Names.{Name, same_name}
use Rattle.name_sets.specs.declared.places.Places.{Places}

-- a number with these bytes behind its own, of which the last eight count
abbrev pub number_behind : ℕ → List ℕ → ℕ
number_behind n [] = n
number_behind n (b ∷ bs) = number_behind ((n * 256 % 2 ^ 64 + b) % 2 ^ 64) bs

-- the first four bytes of a name and its last four, as one number
unfoldable pub ends : Name → ℕ
ends name = number_behind (number_behind 0 (take (min (length name) 4) name)) (drop (length name - 4) name)

-- whether what stands first at the ends of a name is another name
abbrev pub is_another : Name → Option (Bor (List ℕ) × ℕ) → Bool
is_another name None = false
is_another name (Some first) = not (same_name first.0.now name)

-- the number of a name: what stands first at its ends, where that is the name, or else what the others have
abbrev pub first_or : Name → Option (Bor (List ℕ) × ℕ) → Option ℕ → Option ℕ
first_or name None other = other
first_or name (Some first) other = cond (same_name first.0.now name) (Some first.1) other

-- the number of a name, where it has one
unfoldable pub place_in : Places → Name → Option ℕ
place_in t name = first_or name (get_by (nat_cmp (ends name)) t.firsts) (get_by (λ k. slice_cmp nat_cmp name k.now) t.others)
