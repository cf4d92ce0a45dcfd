-- The chains of a design's table are chains of its program's tasks, by any ranking: a row that another starts is that of a sporadic thread.
use Rattle.std.specs.Prelude.{◌≡◌, ◌⊎◌, ℕ, zero, suc, ◌+◌, ◌-◌, ◌≤◌, ◌<◌, true, List, [], ◌∷◌, ◌++◌, length, map, filter_map, reverse, zip}
use Rattle.std.specs.Prelude.{fold, slice_get, Option, Some, None, IfSome, option_map, refl}
use Rattle.std.specs.List.{cons_option}
use Rattle.std.proofs.Common.{sym, ◌∙◌, ap, subst, arith, inl, inr}
use Rattle.std.proofs.lemmas.Bool.{cases_lt}
use Rattle.std.proofs.lemmas.List.{reverse-append}
use Rattle.std.proofs.lemmas.Option.{none-some, same_Some, slice_get_within}
use Rattle.seq_tree.specs.Lists.{Each}
use Rattle.seq_tree.specs.Names.{Name}
use Rattle.seq_tree.specs.Proper.{within_limits}
use Rattle.ods_tree.specs.Designs.{Design}
use Rattle.ods_tree.specs.Flats.{Thread, Flat, Timing, Cyclic, Sporadic}
use Rattle.ods_tree.specs.Flattening.{flat}
use Rattle.ods_tree.specs.Proper.{IsProperDesign}
use Rattle.ods_tree.specs.Ticks.{in_ticks, first_priority}
use Rattle.ods_tree.specs.Words.{is_design_name}
use Rattle.design_rules.specs.Rules.{MeetsRules}
use Rattle.arrivals_tree.specs.Arriving.{Arrivals}
use Rattle.arrivals_tree.specs.Acceptance.{IsAccepted}
use Rattle.machine.specs.Meanings.{Meaning}
use Rattle.trace_tree.specs.declared.event.Event as machine
use Rattle.rt_response.specs.declared.rows.ThreadRow.{ThreadRow}
use Rattle.rt_response.specs.declared.rows.Bound.{Bound}
use Rattle.rt_response.specs.Response.{Fits}
use Rattle.rt_response.specs.Tables.{IsTable, IsRow, IsStarter}
use Rattle.rt_response.specs.Tables as tables
use Rattle.response_terms.specs.Paths.{chain_up, up_from, chain_response, response_in, starter_of}
use Rattle.analysis.specs.Priorities.{priorities_of}
use Rattle.analysis.specs.Sound.{IsSound}
use Rattle.analysis.specs.Tables as analysis
use Rattle.analysis.specs.Tables.{downwards, table_for}
use Rattle.guarantee.specs.Bounded.{Response}
use Rattle.guarantee.specs.Events.{Event, named}
use Rattle.guarantee.specs.MachineLaw.{IsReadable}
use Rattle.guarantee.specs.ResponseLaw.{Ranked, AreTabled, times_of}
use Rattle.guarantee.specs.ResponseLaw as law
use Rattle.guarantee.specs.Software.{Task, software, task_of}
use Rattle.law_lists.proofs.Shared.Lists.{each-append, each-by, each-map, each-to, zip-second}
use Rattle.law_lists.proofs.Shared.Places.{all-at, map-at, mapped-at, same-item, zip-at}
use Rattle.law_chains.specs.AtOnce.{IsServedAtOnce}
use Rattle.law_chains.specs.Chains.{ChainResponds, total}
use Rattle.law_designs.specs.Rankings.{IsRanking, program_by, responses_by}
use Rattle.law_designs.proofs.Shared.PriorityLists.{entries, ranked_entry, row_entry, in_order, rows-are}
use Rattle.law_designs.proofs.Shared.PriorityPlaces.{deadline-ranking}
use Rattle.law_designs.proofs.Shared.RankedPrograms.{flat-tabled, responses-are, task-stands}
use Rattle.law_designs.proofs.Shared.ReadablePrograms.{ranked-readable}
use Rattle.law_designs.proofs.Shared.SoundDesigns.{flat-sound, flat-spaced}
use Rattle.law_designs.proofs.Shared.Lists.{has-at}
use Rattle.law_designs.proofs.Shared.TableRanges.{ranked-table}
use Rattle.law_responses.specs.Using.{UsesAtMost}
use Rattle.law_responses.proofs.Shared.CostLaw.{tasks-keep-to-costs}
use Rattle.law_runs.specs.Chains.{is_sporadic, HasSporadic}
use Rattle.law_runs.proofs.Shared.Chained.{tabled-chains, tabled-served-at-once}
use Rattle.law_chain_bounds.specs.Printed.{chain_of, OfChain, lowest_row, lowest_response, RankedChainResponds, PrintedChainsRespond}
use Rattle.law_chain_bounds.specs.Printed.{PrintedChainsKeepToLevels, LevelsAreWithinSums, ThreadsKeepToCosts}
use Rattle.law_chain_bounds.specs.Served.{RankedDesignsServe}
use Rattle.law_chain_bounds.proofs.TabledChains.{tabled-chains-keep-to-levels}

-- a row that another starts is that of a sporadic task
abbrev StartsSporadic : Ranked → ThreadRow → Type 0
StartsSporadic t row = (starter : ℕ) → row.starter ≡ Some starter → is_sporadic t.task.timing ≡ true

sporadic-starts : (f : Flat) (ps : List ℕ) (name : Name) (timing : Timing) (starter : ℕ) → analysis.starter_of f ps name timing ≡ Some starter
    → is_sporadic timing ≡ true
sporadic-starts f ps name (Cyclic period offset) starter e = absurd (none-some starter e)
sporadic-starts f ps name (Sporadic op separation jitter) starter e = refl

-- the rows of a design's table that others start are those of sporadic threads
pub started-rows-are-sporadic : (f : Flat) (ps : List ℕ) (first at : ℕ) (t : Ranked) (row : ThreadRow)
    → slice_get (in_order first f ps) at ≡ Some t → slice_get (table_for f ps).rows at ≡ Some row → StartsSporadic t row
started-rows-are-sporadic f ps first at t row here line starter told =
    let entry = mapped-at (ranked_entry first) (entries f ps (downwards (length ps))) at t here in
    let also : slice_get (map (row_entry f ps) (entries f ps (downwards (length ps)))) at ≡ Some row
    = ap (λ rs. slice_get rs at) (sym (rows-are f ps)) ∙ line in
    let own = mapped-at (row_entry f ps) (entries f ps (downwards (length ps))) at row also in
    let same : entry.0 ≡ own.0
    = same-item (slice_get (entries f ps (downwards (length ps))) at) entry.0 own.0 entry.1 own.1 in
    let starts : analysis.starter_of f ps own.0.0.name own.0.0.timing ≡ Some starter = ap (λ z. z.starter) own.2 ∙ told in
    ap (λ z. is_sporadic z.task.timing) (sym entry.2) ∙ ap (λ z. is_sporadic z.0.timing) same
    ∙ sporadic-starts f ps own.0.0.name own.0.0.timing starter starts

-- the sum of response times, from a number on
sum-from : (v : List Bound) (a : ℕ) (places : List ℕ)
    → fold (λ n at. n + response_in (slice_get v at)) a places ≡ a + fold (λ n at. n + response_in (slice_get v at)) 0 places
sum-from v a [] = omega arith
sum-from v a (p ∷ ps) =
    let left = sum-from v (a + response_in (slice_get v p)) ps in
    let right = sum-from v (0 + response_in (slice_get v p)) ps in
    omega (arith, left, right)

-- the response time of the lowest row is one of those that are added
pub levels-are-within-sums : LevelsAreWithinSums
levels-are-within-sums v at [] =
    let top : lowest_row (at ∷ []) ≡ at = omega arith in
    let same : lowest_response v (at ∷ []) ≡ response_in (slice_get v at) = ap (λ k. response_in (slice_get v k)) top in
    omega (arith, same)
levels-are-within-sums v at (next ∷ more) = by (cases_lt at (lowest_row (next ∷ more))) (levels-are-within-sums v next more)
  where
    all : chain_response v (at ∷ next ∷ more) ≡ 0 + response_in (slice_get v at) + chain_response v (next ∷ more)
    all = sum-from v (0 + response_in (slice_get v at)) (next ∷ more)

    by : (at < lowest_row (next ∷ more)) ⊎ (lowest_row (next ∷ more) ≤ at) → lowest_response v (next ∷ more) ≤ chain_response v (next ∷ more)
        → lowest_response v (at ∷ next ∷ more) ≤ chain_response v (at ∷ next ∷ more)
    by (inl less) rest =
        let top : lowest_row (at ∷ next ∷ more) ≡ lowest_row (next ∷ more) = omega (arith, less) in
        let same : lowest_response v (at ∷ next ∷ more) ≡ lowest_response v (next ∷ more) = ap (λ k. response_in (slice_get v k)) top in
        omega (arith, same, rest, all)
    by (inr low) rest =
        let top : lowest_row (at ∷ next ∷ more) ≡ at = omega (arith, low) in
        let same : lowest_response v (at ∷ next ∷ more) ≡ response_in (slice_get v at) = ap (λ k. response_in (slice_get v k)) top in
        omega (arith, same, all)

-- what is known of a table with its bounds
record Has (ts : List Ranked) (rows : List ThreadRow) (v : List Bound) : Type 0 where
  count : length v ≡ length rows
  both : (k : ℕ) (row : ThreadRow) → slice_get rows k ≡ Some row → (t : Ranked) × (slice_get ts k ≡ Some t)
  starters : (k s : ℕ) (row : ThreadRow) → slice_get rows k ≡ Some row → row.starter ≡ Some s → s < length rows
  sporadic : (k : ℕ) (t : Ranked) (row : ThreadRow) → slice_get ts k ≡ Some t → slice_get rows k ≡ Some row → StartsSporadic t row

module _ (ts : List Ranked) (rows : List ThreadRow) (v : List Bound) (has : Has ts rows v) where
  abbrev times : List Response
  times = times_of ts v

  time-of : (t : Ranked) (b : Bound) → Response
  time-of t b = record { thread = t.task.name; ticks = b.response }

  -- the response time of a row
  record RowTime (k : ℕ) : Type 0 where
    time : Response
    stands : slice_get (times_of ts v) k ≡ Some time
    ticks : time.ticks ≡ response_in (slice_get v k)
    sporadic : (row : ThreadRow) (s : ℕ) → slice_get rows k ≡ Some row → row.starter ≡ Some s → HasSporadic (map (λ t. t.task) ts) time.thread

  row-time : (k : ℕ) (row : ThreadRow) → slice_get rows k ≡ Some row → RowTime k
  row-time k row line =
      let t = has.both k row line in
      let b = has-at v k (let inside : k < length rows = slice_get_within rows k row line in omega (arith, inside, has.count)) in
      record {
        time = record { thread = t.0.task.name; ticks = b.0.response };
        stands = map-at (λ c. let q : Response = record { thread = c.0.task.name; ticks = c.1.response } in q) (zip ts v) k (t.0, b.0)
            (zip-at ts v k t.0 b.0 t.1 b.1);
        ticks = sym (ap response_in b.1);
        sporadic = λ other s at starts.
            (k, t.0.task, map-at (λ (z : Ranked). z.task) ts k t.0 t.1, refl, has.sporadic k t.0 other t.1 at s starts);
      }

  -- response times that stand at rows of at most this place
  abbrev AreWithin : ℕ → List Response → Type 0
  AreWithin i qs = Each (λ q. (k : ℕ) × (k ≤ i) × (slice_get (times_of ts v) k ≡ Some q)) qs

  within-more : (i j : ℕ) (qs : List Response) → i ≤ j → AreWithin i qs → AreWithin j qs
  within-more i j qs low =
      each-to (λ q. (k : ℕ) × (k ≤ i) × (slice_get (times_of ts v) k ≡ Some q)) (λ q. (k : ℕ) × (k ≤ j) × (slice_get (times_of ts v) k ≡ Some q)) qs
      (λ q h. (h.0, omega (arith, h.1, low), h.2))

  total-append : (as' bs : List Response) → total (as' ++ bs) ≡ total as' + total bs
  total-append [] bs = omega arith
  total-append (a ∷ as') bs = omega (arith, total-append as' bs)

  -- the chain of some rows, from the last one up
  record IsChain (up : List ℕ) : Type 0 where
    first : Response
    more : List Response
    is : chain_of (times_of ts v) up ≡ first ∷ more
    within : AreWithin (lowest_row up) (first ∷ more)
    sporadic : Each (λ q. HasSporadic (map (λ t. t.task) ts) q.thread) more
    sum : total (first ∷ more) ≡ chain_response v up
    lowest : (low : Response) × (slice_get (times_of ts v) (lowest_row up) ≡ Some low) × (low.ticks ≡ lowest_response v up)

  alone : (at : ℕ) → RowTime at → IsChain (at ∷ [])
  alone at t = record {
    first = t.time;
    more = [];
    is = ap (λ o. reverse (cons_option o [])) t.stands;
    within = ((at, omega arith, t.stands), tt);
    sporadic = tt;
    sum = omega (arith, t.ticks);
    lowest = (t.time, subst (λ k. slice_get (times_of ts v) k ≡ Some t.time) top t.stands, t.ticks ∙ ap (λ k. response_in (slice_get v k)) top);
  }
    where
      top : at ≡ lowest_row (at ∷ [])
      top = omega arith

  longer : (at : ℕ) (row : ThreadRow) (starter : ℕ) (up : List ℕ) → slice_get rows at ≡ Some row → row.starter ≡ Some starter → RowTime at
      → IsChain up → IsChain (at ∷ up)
  longer at row starter up line starts t c = record {
    first = c.first;
    more = c.more ++ t.time ∷ [];
    is = ap (λ o. reverse (cons_option o (filter_map (λ k. slice_get (times_of ts v) k) up))) t.stands
        ∙ reverse-append (t.time ∷ []) (filter_map (λ k. slice_get (times_of ts v) k) up) ∙ ap (λ qs. qs ++ t.time ∷ []) c.is;
    within = each-append (λ q. (k : ℕ) × (k ≤ lowest_row (at ∷ up)) × (slice_get (times_of ts v) k ≡ Some q)) (c.first ∷ c.more) (t.time ∷ [])
        (within-more (lowest_row up) (lowest_row (at ∷ up)) (c.first ∷ c.more) (omega arith) c.within) ((at, omega arith, t.stands), tt);
    sporadic = each-append (λ q. HasSporadic (map (λ z. z.task) ts) q.thread) c.more (t.time ∷ []) c.sporadic
        (t.sporadic row starter line starts, tt);
    sum =
        let added : total ((c.first ∷ c.more) ++ t.time ∷ []) ≡ total (c.first ∷ c.more) + total (t.time ∷ [])
        = total-append (c.first ∷ c.more) (t.time ∷ []) in
        let all = sum-from v (0 + response_in (slice_get v at)) up in
        omega (arith, added, c.sum, all, t.ticks);
    lowest = by (cases_lt at (lowest_row up));
  }
    where
      by : (at < lowest_row up) ⊎ (lowest_row up ≤ at)
          → (low : Response) × (slice_get (times_of ts v) (lowest_row (at ∷ up)) ≡ Some low) × (low.ticks ≡ lowest_response v (at ∷ up))
      by (inl less) =
          let top : lowest_row up ≡ lowest_row (at ∷ up) = omega (arith, less) in
          let l = c.lowest in (
            l.0,
            subst (λ k. slice_get (times_of ts v) k ≡ Some l.0) top l.1,
            l.2 ∙ ap (λ k. response_in (slice_get v k)) top,
          )
      by (inr more) =
          let top : at ≡ lowest_row (at ∷ up) = omega (arith, more) in (
            t.time,
            subst (λ k. slice_get (times_of ts v) k ≡ Some t.time) top t.stands,
            t.ticks ∙ ap (λ k. response_in (slice_get v k)) top,
          )

  -- the rows up from a row are a chain
  is-chain : (count at : ℕ) (row : ThreadRow) → slice_get rows at ≡ Some row → IsChain (up_from (suc count) rows (Some at))
  is-chain zero at row line = alone at (row-time at row line)
  is-chain (suc n) at row line =
      subst (λ o. IsChain (at ∷ up_from (suc n) rows o)) (sym (ap starter_of line))
      (by row.starter refl (λ s other there. is-chain n s other there))
    where
      by : (o : Option ℕ) → row.starter ≡ o
          → ((s : ℕ) (other : ThreadRow) → slice_get rows s ≡ Some other → IsChain (up_from (suc n) rows (Some s)))
          → IsChain (at ∷ up_from (suc n) rows o)
      by None e later = alone at (row-time at row line)
      by (Some s) e later =
          let other = has-at rows s (has.starters at s row line e) in
          longer at row s (up_from (suc n) rows (Some s)) line e (row-time at row line) (later s other.0 other.1)

-- what holds of each item of the table's own lists
row-at : {A : Type 0} (P : A → Type 0) (xs : List A) (k : ℕ) (x : A) → tables.Each P xs → slice_get xs k ≡ Some x → P x
row-at P [] k x all e = absurd (none-some x e)
row-at P (a ∷ xs) zero x all e = subst P (same_Some a x e) all.0
row-at P (a ∷ xs) (suc k) x all e = row-at P xs k x all.1 e

module _ (x : Design) (ps : List ℕ) (proper : IsProperDesign (within_limits is_design_name) x) (meets : MeetsRules x)
    (ranking : IsRanking (flat (in_ticks x)) ps) where
  abbrev y : Design
  y = in_ticks x

  abbrev f : Flat
  f = flat (in_ticks x)

  abbrev tasks : List Ranked
  tasks = in_order (first_priority (in_ticks x)) (flat (in_ticks x)) ps

  sound : IsSound (flat (in_ticks x))
  sound = flat-sound x (in_ticks x) meets

  is-table : IsTable (table_for (flat (in_ticks x)) ps).rows
  is-table = ranked-table (flat (in_ticks x)) sound ps ranking

  tabled : AreTabled (program_by (in_ticks x) ps) (in_order (first_priority (in_ticks x)) (flat (in_ticks x)) ps)
      (table_for (flat (in_ticks x)) ps).rows
  tabled = flat-tabled (flat (in_ticks x)) (first_priority (in_ticks x)) ps ranking sound.started (flat-spaced x (in_ticks x) meets)
      sound.formed.names is-table

  readable : IsReadable (program_by (in_ticks x) ps)
  readable = ranked-readable x ps proper meets ranking

  module _ (v : List Bound) (fits : Fits (table_for (flat (in_ticks x)) ps).rows v) where
    has : Has (in_order (first_priority (in_ticks x)) (flat (in_ticks x)) ps) (table_for (flat (in_ticks x)) ps).rows v
    has = record {
      count = fits.0.0;
      both = λ k row line.
          let u = zip-second (λ t z. law.IsStarted (program_by (in_ticks x) ps) tasks z t.task.name t.task.timing) tasks (table_for f ps).rows k row
          tabled.started line in (u.0, u.1);
      starters = λ k s row line starts.
          let own : IsRow (length (table_for f ps).rows) row = row-at (IsRow (length (table_for f ps).rows)) (table_for f ps).rows k row is-table.each line in
          subst (IsStarter (length (table_for f ps).rows)) starts own.starter;
      sporadic = λ k t row here line. started-rows-are-sporadic f ps (first_priority (in_ticks x)) k t row here line;
    }

    module _ (limit : ℕ) (r : Arrivals) (told : List machine.Event) (accepted : IsAccepted limit (program_by (in_ticks x) ps) r)
        (means : Meaning (program_by (in_ticks x) ps) r told) where
      -- the requests of each thread of the table are served at once, and so those of each of the design
      requests : Each (λ t. IsServedAtOnce (named (program_by (in_ticks x) ps) told) t.name t.timing) (software (in_ticks x)).tasks
      requests =
          each-map task_of P f.threads (each-by (λ t. P (task_of t)) f.threads (λ k t at.
          let q = has-at ps k (let inside : k < length f.threads = slice_get_within f.threads k t at in omega (arith, inside, ranking.count)) in
          all-at (λ u. P u.task) tasks (length ps - q.0) (ranked_entry (first_priority y) (t, q.0))
          (tabled-served-at-once limit (program_by y ps) tasks (table_for f ps).rows v r told readable tabled fits accepted means)
          (task-stands f (first_priority y) ps ranking k q.0 t at q.1)))
        where
          P : Task → Type 0
          P t = IsServedAtOnce (named (program_by (in_ticks x) ps) told) t.name t.timing

      module _ (at : ℕ) (row : ThreadRow) (line : slice_get (table_for (flat (in_ticks x)) ps).rows at ≡ Some row) where
        chain : IsChain (in_order (first_priority (in_ticks x)) (flat (in_ticks x)) ps) (table_for (flat (in_ticks x)) ps).rows v
            has (chain_up (table_for (flat (in_ticks x)) ps).rows at)
        chain = is-chain tasks (table_for f ps).rows v has (length (table_for f ps).rows) at row line

        -- the chain is that of the program's tasks
        of-tasks : (P : Name → List Name → Type 0) → P chain.first.thread (map (λ q. q.thread) chain.more)
            → OfChain P (chain_of (responses_by (flat (in_ticks x)) ps v) (chain_up (table_for (flat (in_ticks x)) ps).rows at))
        of-tasks P h =
            subst (λ qs. OfChain P (chain_of qs (chain_up (table_for f ps).rows at))) (sym (responses-are f (first_priority (in_ticks x)) ps ranking v))
            (subst (OfChain P) (sym chain.is) h)

        sums : RankedChainResponds (flat (in_ticks x)) ps v r.until (named (program_by (in_ticks x) ps) told)
            (chain_response v (chain_up (table_for (flat (in_ticks x)) ps).rows at)) at
        sums =
            of-tasks (ChainResponds r.until (named (program_by y ps) told) (chain_response v (chain_up (table_for f ps).rows at)))
            (subst (λ n. ChainResponds r.until (named (program_by y ps) told) n chain.first.thread (map (λ q. q.thread) chain.more)) chain.sum
            (tabled-chains limit (program_by y ps) tasks (table_for f ps).rows v r told chain.first chain.more readable tabled fits accepted means
            (each-to (λ q. (k : ℕ) × (k ≤ lowest_row (chain_up (table_for f ps).rows at)) × (slice_get (times_of tasks v) k ≡ Some q))
            (λ q. (k : ℕ) × (slice_get (times_of tasks v) k ≡ Some q)) (chain.first ∷ chain.more) (λ q h. (h.0, h.2)) chain.within) chain.sporadic))

        levels : RankedChainResponds (flat (in_ticks x)) ps v r.until (named (program_by (in_ticks x) ps) told)
            (lowest_response v (chain_up (table_for (flat (in_ticks x)) ps).rows at)) at
        levels =
            of-tasks (ChainResponds r.until (named (program_by y ps) told) (lowest_response v (chain_up (table_for f ps).rows at)))
            (subst (λ n. ChainResponds r.until (named (program_by y ps) told) n chain.first.thread (map (λ q. q.thread) chain.more)) chain.lowest.2
            (tabled-chains-keep-to-levels limit (program_by y ps) tasks (table_for f ps).rows v r told (lowest_row (chain_up (table_for f ps).rows at))
            chain.lowest.0 chain.first chain.more readable tabled fits accepted means chain.lowest.1 chain.within chain.sporadic))

pub printed-chains-respond : (limit : ℕ) → PrintedChainsRespond limit
printed-chains-respond limit x v r told at row proper meets fits accepted means line =
    let f = flat (in_ticks x) in
    sums x (priorities_of f) proper meets (deadline-ranking f) v fits limit r told accepted means at row line

pub printed-chains-keep-to-levels : (limit : ℕ) → PrintedChainsKeepToLevels limit
printed-chains-keep-to-levels limit x v r told at row proper meets fits accepted means line =
    let f = flat (in_ticks x) in
    levels x (priorities_of f) proper meets (deadline-ranking f) v fits limit r told accepted means at row line

-- costs as response times, for which a table's list of response times says whose they are
abbrev as_bound : ThreadRow → Bound
as_bound row = record { jitter = 0; response = row.cost }

-- what holds of each task with its bound holds of all response times
each-time : (P : Response → Type 0) (ts : List Ranked) (v : List Bound)
    → ((k : ℕ) (u : Ranked) (b : Bound) → slice_get ts k ≡ Some u → slice_get v k ≡ Some b → P (record { thread = u.task.name; ticks = b.response }))
    → Each P (times_of ts v)
each-time P [] v h = tt
each-time P (t ∷ ts) [] h = tt
each-time P (t ∷ ts) (b ∷ v) h = (h 0 t b refl refl, each-time P ts v (λ k u c e g. h (suc k) u c e g))

-- what holds of the costs by name holds of the row of each thread
each-row : (told : List Event) (threads : List Thread) (places : List ℕ) (rows : List ThreadRow)
    → Each (λ q. UsesAtMost q.ticks q.thread told)
    (filter_map (λ c. option_map (λ t. let q : Response = record { thread = t.name; ticks = c.1.response } in q) (slice_get threads c.0))
    (zip places (map as_bound rows)))
    → Each (λ c. IfSome (slice_get threads c.0) (λ t. UsesAtMost c.1.cost t.name told)) (zip places rows)
each-row told threads [] rows h = tt
each-row told threads (at ∷ places) [] h = tt
each-row told threads (at ∷ places) (row ∷ rows) h = by (slice_get threads at) h (λ more. each-row told threads places rows more)
  where
    Rest : List Response
    Rest = filter_map (λ c. option_map (λ t. let q : Response = record { thread = t.name; ticks = c.1.response } in q) (slice_get threads c.0))
        (zip places (map as_bound rows))

    by : (o : Option Thread)
        → Each (λ q. UsesAtMost q.ticks q.thread told)
        (cons_option (option_map (λ t. let q : Response = record { thread = t.name; ticks = row.cost } in q) o)
        (filter_map (λ c. option_map (λ t. let q : Response = record { thread = t.name; ticks = c.1.response } in q) (slice_get threads c.0))
        (zip places (map as_bound rows))))
        → (Each (λ q. UsesAtMost q.ticks q.thread told)
        (filter_map (λ c. option_map (λ t. let q : Response = record { thread = t.name; ticks = c.1.response } in q) (slice_get threads c.0))
        (zip places (map as_bound rows))) → Each (λ c. IfSome (slice_get threads c.0) (λ t. UsesAtMost c.1.cost t.name told)) (zip places rows))
        → IfSome o (λ t. UsesAtMost row.cost t.name told)
        × Each (λ c. IfSome (slice_get threads c.0) (λ t. UsesAtMost c.1.cost t.name told)) (zip places rows)
    by None k later = (tt, later k)
    by (Some t) k later = (k.0, later k.1)

pub ranked-costs : (limit : ℕ) (x : Design) (ps : List ℕ) (r : Arrivals) (told : List machine.Event)
    → IsProperDesign (within_limits is_design_name) x → MeetsRules x → IsRanking (flat (in_ticks x)) ps
    → IsAccepted limit (program_by (in_ticks x) ps) r → Meaning (program_by (in_ticks x) ps) r told
    → Each (λ c. IfSome (slice_get (flat (in_ticks x)).threads c.0) (λ t. UsesAtMost c.1.cost t.name (named (program_by (in_ticks x) ps) told)))
    (zip (table_for (flat (in_ticks x)) ps).places (table_for (flat (in_ticks x)) ps).rows)
ranked-costs limit x ps r told proper meets ranking accepted means =
    each-row (named (program_by (in_ticks x) ps) told) (flat (in_ticks x)).threads (table_for (flat (in_ticks x)) ps).places rows
    (subst (Each P) (sym (responses-are (flat (in_ticks x)) (first_priority (in_ticks x)) ps ranking (map as_bound rows)))
    (each-time P ts (map as_bound rows) (λ k u b at gets.
    let row = mapped-at as_bound rows k b gets in
    subst (λ c. UsesAtMost c.response u.task.name (named (program_by (in_ticks x) ps) told)) row.2
    (tasks-keep-to-costs limit (program_by (in_ticks x) ps) ts rows r told k u row.0 (readable x ps proper meets ranking)
    (tabled x ps proper meets ranking) accepted means at row.1))))
  where
    P : Response → Type 0
    P q = UsesAtMost q.ticks q.thread (named (program_by (in_ticks x) ps) told)

    rows : List ThreadRow
    rows = (table_for (flat (in_ticks x)) ps).rows

    ts : List Ranked
    ts = in_order (first_priority (in_ticks x)) (flat (in_ticks x)) ps

pub threads-keep-to-costs : (limit : ℕ) → ThreadsKeepToCosts limit
threads-keep-to-costs limit x r told proper meets accepted means =
    let f = flat (in_ticks x) in ranked-costs limit x (priorities_of f) r told proper meets (deadline-ranking f) accepted means

pub ranked-designs-serve : (limit : ℕ) → RankedDesignsServe limit
ranked-designs-serve limit x ps v r told proper meets ranking fits accepted means = record {
  requests = requests x ps proper meets ranking v fits limit r told accepted means;
  chains = λ at row line. levels x ps proper meets ranking v fits limit r told accepted means at row line;
  costs = ranked-costs limit x ps r told proper meets ranking accepted means;
}
