-- Rankings: any priorities of the threads of a flat design, 1 to the number of threads, each given once; and what follows from them.
-- Deadline-monotonic priorities are a ranking (Audsley et al. 1993), and so are those of an order that is filled from its lowest place on (Audsley 1991).
use Rattle.std.specs.Prelude.{◌≡◌, ◌≤◌, ℕ, List, length, zip, filter_map, slice_get, Some, option_map}
use Rattle.seq_tree.specs.Lists.{Each}
use Rattle.ods_tree.specs.Designs.{Design}
use Rattle.ods_tree.specs.Flats.{Flat}
use Rattle.ods_tree.specs.Flattening.{flat}
use Rattle.ods_tree.specs.Ticks.{first_priority}
use Rattle.ada_tree.specs.Programs.{Program}
use Rattle.rt_response.specs.declared.rows.Bound.{Bound}
use Rattle.analysis.specs.Ceilings.{Ranks, ranks_for, written_ranks}
use Rattle.analysis.specs.Tables.{table_for}
use Rattle.guarantee.specs.Bounded.{Response}
use Rattle.guarantee.specs.Programs.{program_for}
use Rattle.guarantee.specs.ResponseLaw.{Ranked, ranked, AreTabled, times_of}

-- as many priorities as threads, from 1 to their number, no two of them the same
pub record IsRanking (f : Flat) (ps : List ℕ) : Type 0 where
  pub count : length ps ≡ length f.threads
  pub range : (k p : ℕ) → slice_get ps k ≡ Some p → (1 ≤ p) × (p ≤ length f.threads)
  pub once : (i j p : ℕ) → slice_get ps i ≡ Some p → slice_get ps j ≡ Some p → i ≡ j

-- the priorities and ceilings of a design in ticks by these priorities, as they are written
abbrev pub stated_by : Design → List ℕ → Ranks
stated_by x ps = written_ranks (first_priority x) (ranks_for (flat x) ps)

-- the program of a design in ticks by these priorities
abbrev pub program_by : Design → List ℕ → Program
program_by x ps = program_for (flat x) (stated_by x ps)

-- the response times of the threads by these priorities, by name
abbrev pub responses_by : Flat → List ℕ → List Bound → List Response
responses_by f ps v =
    filter_map (λ c. option_map (λ t. record { thread = t.name; ticks = c.1.response }) (slice_get f.threads c.0)) (zip (table_for f ps).places v)

-- the tasks of a design's program by these priorities in the order of its table, all of them, with the response times of the design's threads
pub record IsTabledRanking (x : Design) (ps : List ℕ) : Type 0 where
  pub tasks : List Ranked
  pub tabled : AreTabled (program_by x ps) tasks (table_for (flat x) ps).rows
  pub all : Each (λ u. (i : ℕ) × (slice_get tasks i ≡ Some u)) (ranked (program_by x ps))
  pub times : (v : List Bound) → times_of tasks v ≡ responses_by (flat x) ps v
