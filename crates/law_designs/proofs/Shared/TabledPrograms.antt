-- The table of a flat design is one of its program's tasks, taken by priority: the deadline-monotonic priorities are a ranking.
use Rattle.std.specs.Prelude.{◌≡◌, ℕ, ◌-◌, ◌≤◌, List, length, slice_get, true, Some}
use Rattle.std.specs.List.{list_all}
use Rattle.seq_tree.specs.Names.{are_distinct}
use Rattle.ods_tree.specs.Flats.{Thread, Flat}
use Rattle.ods_tree.specs.Sound.{entry_names}
use Rattle.rt_response.specs.declared.rows.Bound.{Bound}
use Rattle.rt_response.specs.Tables.{IsTable}
use Rattle.analysis.specs.Sound.{is_started, is_spaced}
use Rattle.analysis.specs.Priorities.{priorities_of}
use Rattle.analysis.specs.Ceilings.{ranks, numbered, written_ranks}
use Rattle.analysis.specs.Tables.{table}
use Rattle.guarantee.specs.Programs.{program_for, responses}
use Rattle.guarantee.specs.ResponseLaw.{AreTabled, times_of}
use Rattle.std.proofs.Common.{arith}
use Rattle.law_designs.proofs.Shared.PriorityLists.{Entry, entry_by, ranked_entry, in_order}
use Rattle.law_designs.proofs.Shared.PriorityPlaces.{deadline-ranking}
use Rattle.law_designs.proofs.Shared.RankedPrograms as ranked

module _ (f : Flat) (first : ℕ) where
  abbrev ps : List ℕ
  ps = priorities_of f

  pub long : length ps ≡ length f.threads
  long = (deadline-ranking f).count

  pub in-range : (k q : ℕ) → slice_get ps k ≡ Some q → (1 ≤ q) × (q ≤ length ps)
  in-range k q e = let r = (deadline-ranking f).range k q e in (r.0, omega (arith, r.1, long))

  pub alone : (i j q : ℕ) → slice_get ps i ≡ Some q → slice_get ps j ≡ Some q → i ≡ j
  alone = (deadline-ranking f).once

  pub twice-threads : length (numbered first (ranks f).obcs) ≡ length f.threads
  twice-threads = ranked.twice-threads f first ps (deadline-ranking f)

  pub all-entries : (q : ℕ) → 1 ≤ q → q ≤ length ps → (e : Entry) × (entry_by f ps q ≡ Some e)
  all-entries = ranked.all-entries f first ps (deadline-ranking f)

  pub task-stands : (at q : ℕ) (u : Thread) → slice_get f.threads at ≡ Some u → slice_get ps at ≡ Some q
      → slice_get (in_order first f ps) (length ps - q) ≡ Some (ranked_entry first (u, q))
  task-stands = ranked.task-stands f first ps (deadline-ranking f)

  pub flat-tabled : list_all (λ t. is_started f t.name t.timing) f.threads ≡ true → list_all (λ t. is_spaced f t.name t.timing) f.threads ≡ true
      → are_distinct (entry_names f) ≡ true → IsTable (table f).rows
      → AreTabled (program_for f (written_ranks first (ranks f))) (in_order first f ps) (table f).rows
  flat-tabled = ranked.flat-tabled f first ps (deadline-ranking f)

  pub responses-are : (v : List Bound) → responses f v ≡ times_of (in_order first f ps) v
  responses-are = ranked.responses-are f first ps (deadline-ranking f)
