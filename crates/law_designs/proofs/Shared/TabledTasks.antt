-- Each task of the program of a sound and spaced flat design stands in the table of the design, by any ranking.
use Rattle.std.specs.Prelude.{◌≡◌, ℕ, ◌-◌, List, zip, length, Some, slice_get}
use Rattle.std.proofs.Common.{sym, subst}
use Rattle.seq_tree.specs.Lists.{Each}
use Rattle.ods_tree.specs.Designs.{Design}
use Rattle.ods_tree.specs.Flats.{Flat}
use Rattle.ods_tree.specs.Flattening.{flat}
use Rattle.ods_tree.specs.Ticks.{first_priority}
use Rattle.analysis.specs.Sound.{IsSound, IsSpaced}
use Rattle.analysis.specs.Priorities.{priorities_of}
use Rattle.analysis.specs.Ceilings.{ranks_for, written_ranks}
use Rattle.guarantee.specs.Programs.{program_for}
use Rattle.guarantee.specs.ResponseLaw.{Ranked, ranked}
use Rattle.law_designs.specs.Rankings.{IsRanking, IsTabledRanking}
use Rattle.law_designs.specs.TabledDesigns.{IsTabledDesign}
use Rattle.law_designs.proofs.Shared.PriorityLists.{Entry, ranked_entry, in_order}
use Rattle.law_designs.proofs.Shared.PriorityPlaces.{deadline-ranking}
use Rattle.law_designs.proofs.Shared.ProgramTasks.{ranked-listing, zipped-at}
use Rattle.law_designs.proofs.Shared.RankedPrograms.{twice-threads, task-stands, flat-tabled, responses-are}
use Rattle.law_designs.proofs.Shared.TableRanges.{ranked-table}
use Rattle.law_lists.proofs.Shared.Lists.{each-by, each-map}

module _ (f : Flat) (first : ℕ) (ps : List ℕ) (ranking : IsRanking f ps) where
  -- a task is in the list by priority
  abbrev IsListed : Ranked → Type 0
  IsListed u = (i : ℕ) × (slice_get (in_order first f ps) i ≡ Some u)

  place : (k : ℕ) (e : Entry) → slice_get f.threads k ≡ Some e.0 → slice_get ps k ≡ Some e.1 → IsListed (ranked_entry first e)
  place k e t q = (length ps - e.1, task-stands f first ps ranking k e.1 e.0 t q)

  all-listed : Each IsListed (ranked (program_for f (written_ranks first (ranks_for f ps))))
  all-listed =
      subst (Each IsListed) (sym (ranked-listing first f (ranks_for f ps) (twice-threads f first ps ranking)))
      (each-map (ranked_entry first) IsListed (zip f.threads ps)
      (each-by (λ e. IsListed (ranked_entry first e)) (zip f.threads ps) (λ k e h. let parts
      = zipped-at f.threads ps k e h in place k e parts.0 parts.1)))

-- the tasks of a design's program by a ranking stand in its table by that ranking
pub ranked-tabled : (x : Design) (ps : List ℕ) → IsSound (flat x) → IsSpaced (flat x) → IsRanking (flat x) ps → IsTabledRanking x ps
ranked-tabled x ps sound spaced ranking =
    record {
      tasks = in_order (first_priority x) (flat x) ps;
      tabled = flat-tabled (flat x) (first_priority x) ps ranking sound.started spaced sound.formed.names (ranked-table (flat x) sound ps ranking);
      all = all-listed (flat x) (first_priority x) ps ranking;
      times = λ v. sym (responses-are (flat x) (first_priority x) ps ranking v);
    }

-- the tasks of a design's program stand in its table
pub sound-tabled : (x : Design) → IsSound (flat x) → IsSpaced (flat x) → IsTabledDesign x
sound-tabled x sound spaced = ranked-tabled x (priorities_of (flat x)) sound spaced (deadline-ranking (flat x))
