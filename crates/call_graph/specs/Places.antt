-- Numbers by the places of operations, and the places to which calls lead.
-- Places count from 0 (`FirstPlaces` of name_sets), and what has no place counts nothing.
use Rattle.std.specs.Prelude.{ℕ, List, [], Option, Some, None, filter_map}
use Rattle.seq_tree.specs.Names.{Name}
use Rattle.seq_tree.specs.Calls.{block_calls}
use Rattle.seq_tree.specs.declared.tree.OpName.{OpName}
use Rattle.call_graph.specs.Entries.{Work, Plain, Protected, Asked}
use Rattle.call_graph.specs.Numbers.{value}

-- the number at a place, where there may be none
abbrev pub value_at : List ℕ → Option ℕ → ℕ
value_at numbers None = 0
value_at numbers (Some place) = value numbers place

-- the numbers of operations by their names
abbrev pub known_by : (OpName → Option ℕ) → List ℕ → Name → Name → ℕ
known_by place numbers object op = value_at numbers (place (record { object = object; op = op }))

-- the places of all that an operation calls
abbrev pub work_places : (OpName → Option ℕ) → Work → List ℕ
work_places place (Plain b) = filter_map place (block_calls b)
work_places place (Protected b) = filter_map place (block_calls b)
work_places place Asked = []
