-- Sets of names by two numbers and a further name, as tests.
-- A set is kept in the order of the numbers, then in that of the ends of the names, then in that of the bytes of the names.
use Rattle.std.specs.Prelude.{ℕ, Bool}
use Rattle.std.specs.Ordering.{nat_cmp, ordering_then}
use Rattle.std.specs.Cmp.Lexicographic.{slice_cmp}
use Rattle.std.specs.BTreeSet.{contains_by}
use Rattle.name_sets.specs.Places.{number_behind}
use Rattle.seq_tree.specs.Names.{Name}
use Rattle.ods_names.specs.declared.keys.Keys.{Keys}

-- the last eight bytes of a name, as a number
unfoldable pub end_of : Name → ℕ
end_of name = number_behind 0 name

-- whether a set has a name with these numbers and this further name
unfoldable pub has_key : Keys → ℕ → ℕ → Name → Name → Bool
has_key s place number op name =
    contains_by (λ k. ordering_then (ordering_then (ordering_then (ordering_then (nat_cmp place k.0) (nat_cmp number k.1)) (nat_cmp (end_of name) k.2))
    (slice_cmp nat_cmp op k.3.now)) (slice_cmp nat_cmp name k.4.now)) s.set
