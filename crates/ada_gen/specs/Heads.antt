-- Heads whose comments can be read over: names and numbers that a text can hold.
-- Comments are those of ISO/IEC 8652:2012, 2.7: they end with their line.
use Rattle.std.specs.Prelude.{ℕ, Bool, ◌&&◌, List, zip}
use Rattle.std.specs.List.{list_all}
use Rattle.ods_tree.specs.Flats.{Thread, Flat}
use Rattle.rt_response.specs.declared.rows.Bound.{Bound}
use Rattle.analysis.specs.Ceilings.{Ranks}
use Rattle.ada_print.specs.Writable.{is_number, is_word}

-- whether the name, the deadline and the priority of a thread can be read
abbrev pub is_thread_writable : Thread × ℕ → Bool
is_thread_writable t = is_word t.0.name && (is_number t.0.deadline && is_number t.1)

-- whether a bound can be read
abbrev pub is_bound_writable : Bound → Bool
is_bound_writable b = is_number b.jitter && is_number b.response

-- whether all that stands in the head of a text can be read
abbrev pub is_head_writable : Flat → Ranks → List Bound → Bool
is_head_writable f r v = is_word f.name && (list_all is_thread_writable (zip f.threads r.threads) && list_all is_bound_writable v)
