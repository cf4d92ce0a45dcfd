-- The verb `search`: a priority order under which a design passes, looked for where the order by deadlines may fail.
-- The order is filled from its lowest place upwards (Audsley 1991); the lines are those of `analyse` for it.
use Rattle.std.specs.Prelude.{◌≡◌, ℕ, List, ◌++◌, codes, filter_map, flat_map, slice_get, Option, Some, option_map}
use Rattle.std.specs.List.{position_from}
use Rattle.seq_tree.specs.Names.{Name}
use Rattle.ods_tree.specs.Designs as designs
use Rattle.ods_tree.specs.Flats.{Flat}
use Rattle.ods_tree.specs.Flattening.{flat}
use Rattle.ods_tree.specs.Ticks.{first_priority}
use Rattle.rt_response.specs.Response.{IsLeastVector}
use Rattle.rt_response.specs.declared.rows.Bound.{Bound}
use Rattle.design_bounds.specs.Rows.{named_bounds_by, ceiling_rows_by}
use Rattle.law_orders.specs.Orders.{is_internal, AllExternal, IsOrder, priorities_by, rows_by, Passes, IsFilled}
use Rattle.priority_search.specs.Searches.{IsRefuted}
use Rattle.hrthood_top.specs.declared.search.SearchRefusal.{SearchRefusal}
use Rattle.hrthood_top.specs.declared.search.SearchRefusal.TheVariants.{Untaken, Started, None}
use Rattle.hrthood_top.specs.Analyses.{report}
use Rattle.hrthood_top.specs.Checks.{check_line}
use Rattle.hrthood_top.specs.Messages.{name_line}
use Rattle.bridge.specs.Taking.{IsTakenAs, RefusesTaking}
use Rattle.hrthood_top.specs.Verbs.{OfDesign, Verb, on_design}

-- the name of the thread at a place, where one is there
abbrev pub name_at : Flat → ℕ → Option Name
name_at f place = option_map (λ t. t.name) (slice_get f.threads place)

-- the names of the threads at places
abbrev pub names_at : Flat → List ℕ → List Name
names_at f places = filter_map (name_at f) places

-- the lines of `analyse` for a flat design, with priorities by an order of its threads, the least of them written as this number
abbrev pub report_by : ℕ → Flat → List ℕ → List Bound → List ℕ
report_by first f order bounds =
    report (named_bounds_by first f (priorities_by f order) bounds) (ceiling_rows_by first f (priorities_by f order))

-- an order under which a flat design passes, filled from its lowest place upwards, and the lines of its least bounds and of its ceilings
pub record IsOrdered (first : ℕ) (f : Flat) (lines : List ℕ) : Type 0 where
  pub external : AllExternal f
  pub order : List ℕ
  pub is_order : IsOrder f order
  pub filled : IsFilled f order
  pub bounds : List Bound
  pub least : IsLeastVector (rows_by f order) bounds
  pub told : lines ≡ report_by first f order bounds

-- the first sporadic thread that is requested by threads, by its name
pub record IsInternal (f : Flat) (thread : Name) : Type 0 where
  pub place : ℕ
  pub first : position_from (λ t. is_internal t.timing) 0 f.threads ≡ Some place
  pub called : name_at f place ≡ Some thread

-- no order passes: threads of which none can be last, by their names in the order of the flat design
pub record HasNoOrder (f : Flat) (threads : List Name) : Type 0 where
  pub places : List ℕ
  pub refuted : IsRefuted f places
  pub called : threads ≡ names_at f places

-- why a flat design has no order; that no design was taken is no such cause
abbrev pub RefusesOrder : Flat → SearchRefusal → Type 0
RefusesOrder f (Untaken refusal) = ⊥
RefusesOrder f (Started thread) = IsInternal f thread
RefusesOrder f (None threads) = HasNoOrder f threads

-- bytes of a design that meets the rules, and the lines of the order that is found for it
abbrev pub IsSearched : List ℕ → List ℕ → Type 0
IsSearched bytes lines = (x : designs.Design) × IsTakenAs bytes x × IsOrdered (first_priority x) (flat x) lines

-- why no order is found for bytes
abbrev pub RefusesSearch : List ℕ → SearchRefusal → Type 0
RefusesSearch bytes (Untaken refusal) = RefusesTaking bytes refusal
RefusesSearch bytes (Started thread) = (x : designs.Design) × IsTakenAs bytes x × IsInternal (flat x) thread
RefusesSearch bytes (None threads) = (x : designs.Design) × IsTakenAs bytes x × HasNoOrder (flat x) threads

-- names, each behind a space
abbrev pub names_text : List Name → List ℕ
names_text names = flat_map (λ name. codes " " ++ name) names

-- the line that tells it
abbrev pub search_line : SearchRefusal → List ℕ
search_line (Untaken refusal) = check_line refusal
search_line (Started thread) = name_line (codes "refused P1 ") thread
search_line (None threads) = codes "refused P2" ++ (names_text threads ++ codes "\n")

-- bytes of a design that meets the rules, whose sporadic threads are all requested from outside, and which passes under some order
pub record CanSearch (bytes : List ℕ) : Type 0 where
  pub design : designs.Design
  pub taken : IsTakenAs bytes design
  pub external : AllExternal (flat design)
  pub order : List ℕ
  pub is_order : IsOrder (flat design) order
  pub passes : Passes (flat design) order

-- what the verb makes of a design
abbrev pub of_search : OfDesign
of_search = record {
  Makes = IsSearched;
  Refusal = SearchRefusal;
  Refuses = RefusesSearch;
  line = search_line;
  CanDo = CanSearch;
}

-- the verb
abbrev pub searches : List ℕ → Verb
searches = on_design of_search
