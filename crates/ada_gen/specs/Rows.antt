-- The comments on threads at the head of a text.
-- Comments are those of ISO/IEC 8652:2012, 2.7; their words are this project's own.
use Rattle.std.specs.Prelude.{ℕ, List, [], flat_map, zip, slice_get, unwrap_or, option_map}
use Rattle.ods_tree.specs.Flats.{Flat}
use Rattle.rt_response.specs.declared.rows.Bound.{Bound}
use Rattle.analysis.specs.Ceilings.{Ranks}
use Rattle.guarantee.specs.Programs.{thread_comment}

-- the comment on the thread at a place, with its bound
abbrev pub row : Flat → Ranks → ℕ × Bound → List ℕ
row f r c = unwrap_or (option_map (λ t. thread_comment t c.1) (slice_get (zip f.threads r.threads) c.0)) []

-- the comments on threads, by their places and their bounds
abbrev pub rows : Flat → Ranks → List (ℕ × Bound) → List ℕ
rows f r cs = flat_map (row f r) cs
