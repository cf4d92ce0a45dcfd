-- The table of a flat design by a ranking is one of the tasks of its program by that ranking, taken by priority.
use Rattle.std.specs.Prelude.{◌≡◌, ℕ, zero, suc, ◌+◌, ◌-◌, ◌≤◌, ◌<◌, ◌==◌, nat_le, nat_lt, Bool, true, false, cond, List, [], ◌∷◌, map, zip}
use Rattle.std.specs.Prelude.{filter, filter_map, length, position, get_or, slice_get, Option, Some, None, option_map, option_and_then}
use Rattle.std.specs.Prelude.{if◌then◌else◌, refl}
use Rattle.std.specs.List.{list_all, cons_option, AllZip, position_or_len}
use Rattle.std.proofs.Common.{sym, ◌∙◌, ap, subst, arith}
use Rattle.std.proofs.lemmas.List.Sums.{position_or_len_is}
use Rattle.std.proofs.lemmas.Option.{slice_get-get_or, slice_get_within, get_or_from_slice_get, same_Some, none-some}
use Rattle.seq_tree.specs.Names.{same_name}
use Rattle.seq_tree.specs.Operations.{Signature}
use Rattle.seq_tree.specs.Lists.{Each}
use Rattle.seq_tree.specs.Calls.{block_calls}
use Rattle.ods_tree.specs.Flats.{Thread, Flat, period_of}
use Rattle.ods_tree.specs.Flats as timing
use Rattle.ods_tree.specs.Services.{flat_services, service_named}
use Rattle.ada_tree.specs.Programs.{Program}
use Rattle.rt_response.specs.declared.rows.ThreadRow.{ThreadRow}
use Rattle.rt_response.specs.Tables.{IsTable}
use Rattle.analysis.specs.Execution.{block_cost}
use Rattle.analysis.specs.Sections.{sections}
use Rattle.analysis.specs.Starts.{can_request, starters, start_count, block_starts}
use Rattle.analysis.specs.Sound.{is_started, is_spaced}
use Rattle.analysis.specs.Ceilings.{ceiling, ranks_for, numbered, written_ranks}
use Rattle.analysis.specs.Blocking.{blocking}
use Rattle.analysis.specs.Tables.{downwards, starter_row, starter_of, jitter_of, table_for}
use Rattle.guarantee.specs.Programs.{program_for}
use Rattle.guarantee.specs.ResponseLaw.{Ranked, ranked, ceiling_named, program_services, task_sections, is_among, IsBelowCeiling, CallsUpwards}
use Rattle.guarantee.specs.ResponseLaw.{IsStarter, IsStarted, AreTabled}
use Rattle.law_designs.proofs.Shared.PriorityLists.{Entry, entry_by, entries, ranked_entry, row_entry, in_order, Stands, entries-stand, rows-are}
use Rattle.law_designs.proofs.Shared.PriorityLists.{zip-entries, falls-entries, among-entries, position-is}
use Rattle.law_designs.proofs.Shared.ProgramTasks.{ranked-listing, services-same, zipped-at, ceiling-low, lower-bounded}
use Rattle.seq_tree.specs.Names.{are_distinct}
use Rattle.ods_tree.specs.Sound.{entry_names}
use Rattle.rt_response.specs.declared.rows.Bound.{Bound}
use Rattle.guarantee.specs.Bounded.{Response}
use Rattle.guarantee.specs.ResponseLaw.{times_of}
use Rattle.law_designs.proofs.Shared.PriorityLists.{position-stands}
use Rattle.law_designs.proofs.ThreadCeilings.{calls-below, inner-below}
use Rattle.guarantee.specs.Software.{Software, task_of, program_software}
use Rattle.guarantee.proofs.Shared.Same.{program_for-software}
use Rattle.law_designs.proofs.Shared.PriorityPlaces.{ranking-found, entry-at}
use Rattle.std.proofs.lemmas.Bool.{and_parts, leb-true, both_ways}
use Rattle.law_lists.proofs.Shared.Facts.{same-self}
use Rattle.law_lists.proofs.Shared.Lists.{each-to, each-by, at-in, each-map}
use Rattle.law_lists.proofs.Shared.Places.{zip-at, mapped-at, map-at}
use Rattle.std.proofs.lemmas.List.{length-map}
use Rattle.law_designs.proofs.Shared.Lists.{all-in, has-at}
use Rattle.law_designs.specs.Rankings.{IsRanking, responses_by}

-- the one item that passes a test
record IsAlone {A : Type 0} (test : A → Bool) (xs : List A) : Type 0 where
  item : A
  place : ℕ
  stands : slice_get xs place ≡ Some item
  passes : test item ≡ true
  are : filter test xs ≡ item ∷ []
  pub alone : (j : ℕ) (y : A) → slice_get xs j ≡ Some y → test y ≡ true → j ≡ place

none-passes : {A : Type 0} (test : A → Bool) (xs : List A) → length (filter test xs) ≡ 0 → (filter test xs ≡ [])
    × ((j : ℕ) (y : A) → slice_get xs j ≡ Some y → test y ≡ true → ⊥)
none-passes {A} test [] h = (refl, λ j y e g. no j y e)
  where
    no : (j : ℕ) (y : A) → slice_get [] j ≡ Some y → ⊥
    no j y e = cc
none-passes {A} test (x ∷ xs) h = by (test x) refl h (none-passes test xs)
  where
    by : (b : Bool) → test x ≡ b → length (if b then x ∷ filter test xs else filter test xs) ≡ 0
        → (length (filter test xs) ≡ 0 → (filter test xs ≡ []) × ((j : ℕ) (y : A) → slice_get xs j ≡ Some y → test y ≡ true → ⊥))
        → ((if b then x ∷ filter test xs else filter test xs) ≡ []) × ((j : ℕ) (y : A) → slice_get (x ∷ xs) j ≡ Some y → test y ≡ true → ⊥)
    by true e g rest = absurd (omega (arith, g))
    by false e g rest = ((rest g).0, λ j y at passes. at_place j y at passes)
      where
        at_place : (j : ℕ) (y : A) → slice_get (x ∷ xs) j ≡ Some y → test y ≡ true → ⊥
        at_place zero y at passes = let is : x ≡ y = cc in both_ways (test x) e (ap test is ∙ passes)
        at_place (suc j) y at passes = (rest g).1 j y at passes

one-passes : {A : Type 0} (test : A → Bool) (xs : List A) → length (filter test xs) ≡ 1 → IsAlone test xs
one-passes test [] h = absurd (omega (arith, h))
one-passes {A} test (x ∷ xs) h = by (test x) refl h (one-passes test xs)
  where
    by : (b : Bool) → test x ≡ b → length (if b then x ∷ filter test xs else filter test xs) ≡ 1 → (length (filter test xs) ≡ 1 → IsAlone test xs)
        → IsAlone test (x ∷ xs)
    by true e g rest =
        let none = none-passes test xs (omega (arith, g)) in
        record {
          item = x;
          place = 0;
          stands = refl;
          passes = e;
          are = ap (λ b. if b then x ∷ filter test xs else filter test xs) e ∙ ap (λ ys. x ∷ ys) none.0;
          alone = λ j y at passes. at_place j y at passes none.1;
        }
      where
        at_place : (j : ℕ) (y : A) → slice_get (x ∷ xs) j ≡ Some y → test y ≡ true
            → ((k : ℕ) (z : A) → slice_get xs k ≡ Some z → test z ≡ true → ⊥) → j ≡ 0
        at_place zero y at passes none = refl
        at_place (suc j) y at passes none = absurd (none j y at passes)
    by false e g rest =
        let one = rest g in
        record {
          item = one.item;
          place = suc one.place;
          stands = one.stands;
          passes = one.passes;
          are = ap (λ b. if b then x ∷ filter test xs else filter test xs) e ∙ one.are;
          alone = λ j y at passes. at_place one j y at passes;
        }
      where
        at_place : (one : IsAlone test xs) (j : ℕ) (y : A) → slice_get (x ∷ xs) j ≡ Some y → test y ≡ true → j ≡ suc one.place
        at_place one zero y at passes = let is : x ≡ y = cc in absurd (both_ways (test x) e (ap test is ∙ passes))
        at_place one (suc j) y at passes = ap suc (one.alone j y at passes)

alone-position : {A : Type 0} (test : A → Bool) (xs : List A) (one : IsAlone test xs) → position test xs ≡ Some one.place
alone-position test xs one =
    let inside : one.place < length xs = slice_get_within xs one.place one.item one.stands in
    let first : position_or_len test xs ≡ one.place
    = position_or_len_is test xs one.place one.item (omega (arith, inside)) (λ k less. before k less inside)
    (λ less. ap test (get_or_from_slice_get xs one.place one.item one.item one.stands) ∙ one.passes) in
    ap (λ n. cond (nat_lt n (length xs)) (Some n) None) first ∙ found inside
  where
    before : (k : ℕ) → k < one.place → one.place < length xs → test (get_or xs k one.item) ≡ false
    before k less inside = go (test (get_or xs k one.item)) refl
      where
        go : (b : Bool) → test (get_or xs k one.item) ≡ b → b ≡ false
        go false e = refl
        go true e = absurd (omega (arith, less, one.alone k (get_or xs k one.item) (slice_get-get_or xs k one.item (omega (arith, less, inside))) e))

    found : one.place < length xs → cond (nat_lt one.place (length xs)) (Some one.place) None ≡ Some one.place
    found inside = go (nat_lt one.place (length xs)) refl
      where
        go : (b : Bool) → nat_lt one.place (length xs) ≡ b → cond b (Some one.place) None ≡ Some one.place
        go true g = refl
        go false g = absurd (clash g)
          where
            clash : nat_lt one.place (length xs) ≡ false → ⊥
            clash g = grind (arith, inside)

-- a thread that starts another keeps within the other's separation
spaced-at : (f : Flat) (i j : ℕ) (t u : Thread) (op : Signature) (separation : ℕ) → list_all (λ t. is_spaced f t.name t.timing) f.threads ≡ true
    → slice_get f.threads i ≡ Some t → slice_get f.threads j ≡ Some u → t.timing ≡ timing.Sporadic op separation None
    → can_request (flat_services f) t.name u.block ≡ true → separation ≤ period_of u.timing
spaced-at f i j t u op separation spaced at there is passes =
    leb-true separation (period_of u.timing) (passed (λ w. nat_le separation (period_of w.timing))
    (λ w. can_request (flat_services f) t.name w.block) f.threads j u
    (subst (λ k. is_spaced f t.name k ≡ true) is (all-in (λ w. is_spaced f w.name w.timing) f.threads t spaced (at-in f.threads i t at)))
    there passes)
  where
    kept : (test pick : Thread → Bool) (x y : Thread) (xs : List Thread) → x ≡ y → pick y ≡ true → list_all test (filter pick (x ∷ xs)) ≡ true
        → test y ≡ true
    kept test pick x y xs same picked h =
        subst (λ z. test z ≡ true) same (and_parts (test x) (list_all test (filter pick xs))
        (subst (λ b. list_all test (cond b (x ∷ filter pick xs) (filter pick xs)) ≡ true) (ap pick same ∙ picked) h)).0

    passed : (test pick : Thread → Bool) (xs : List Thread) (k : ℕ) (y : Thread) → list_all test (filter pick xs) ≡ true → slice_get xs k ≡ Some y
        → pick y ≡ true → test y ≡ true
    passed test pick [] k y h e picked = cc
    passed test pick (x ∷ xs) zero y h e picked = kept test pick x y xs (same_Some x y e) picked h
    passed test pick (x ∷ xs) (suc k) y h e picked = passed test pick xs k y (others (pick x) h) e picked
      where
        others : (b : Bool) → list_all test (cond b (x ∷ filter pick xs) (filter pick xs)) ≡ true → list_all test (filter pick xs) ≡ true
        others true g = (and_parts (test x) (list_all test (filter pick xs)) g).1
        others false g = g

module _ (f : Flat) (first : ℕ) (ps : List ℕ) (ranking : IsRanking f ps) where
  abbrev p : Program
  p = program_for f (written_ranks first (ranks_for f ps))

  abbrev ts : List Ranked
  ts = in_order first f ps

  long : length ps ≡ length f.threads
  long = ranking.count

  in-range : (k q : ℕ) → slice_get ps k ≡ Some q → (1 ≤ q) × (q ≤ length ps)
  in-range k q e = let found = ranking.range k q e in (found.0, omega (arith, found.1, long))

  alone : (i j q : ℕ) → slice_get ps i ≡ Some q → slice_get ps j ≡ Some q → i ≡ j
  alone = ranking.once

  pub twice-threads : length (numbered first (ranks_for f ps).obcs) ≡ length f.threads
  twice-threads = length-map (ranks_for f ps).obcs (λ n. n + (first - 1)) ∙ length-map f.threads _

  twice-shared : length (numbered first (ranks_for f ps).shared) ≡ length f.shared
  twice-shared = length-map (ranks_for f ps).shared (λ n. n + (first - 1)) ∙ length-map f.shared _

  long-numbers : length (numbered first ps) ≡ length f.threads
  long-numbers = length-map ps (λ n. n + (first - 1)) ∙ long

  are-listed : ranked p ≡ map (ranked_entry first) (zip f.threads ps)
  are-listed = ranked-listing first f (ranks_for f ps) twice-threads

  abbrev own : Software
  own = record { costs = f.costs; passive = f.passive; shared = f.shared; tasks = map task_of f.threads }

  same-software : program_software p ≡ own
  same-software = program_for-software f (written_ranks first (ranks_for f ps)) twice-shared long-numbers twice-threads

  same-services : program_services p ≡ flat_services f
  same-services = services-same f (written_ranks first (ranks_for f ps)) twice-shared long-numbers twice-threads

  listed-at : (k : ℕ) (t : Thread) (q : ℕ) → slice_get f.threads k ≡ Some t → slice_get ps k ≡ Some q
      → slice_get (ranked p) k ≡ Some (ranked_entry first (t, q))
  listed-at k t q e g = ap (λ us. slice_get us k) are-listed ∙ map-at (ranked_entry first) (zip f.threads ps) k (t, q) (zip-at f.threads ps k t q e g)

  at-listed : (k : ℕ) (u : Ranked) → slice_get (ranked p) k ≡ Some u → (x : Entry) × (slice_get f.threads k ≡ Some x.0) × (slice_get ps k ≡ Some x.1)
      × (ranked_entry first x ≡ u)
  at-listed k u e =
      let found = mapped-at (ranked_entry first) (zip f.threads ps) k u (ap (λ us. slice_get us k) (sym are-listed) ∙ e) in
      let parts = zipped-at f.threads ps k found.0 found.1 in
      (found.0, parts.0, parts.1, found.2)

  tasks : Each (λ t. (k : ℕ) × (slice_get (ranked p) k ≡ Some t)) ts
  tasks =
      each-map (ranked_entry first) (λ t. (k : ℕ) × (slice_get (ranked p) k ≡ Some t)) (entries f ps (downwards (length ps)))
      (each-to (Stands f ps) (λ e. (k : ℕ) × (slice_get (ranked p) k ≡ Some (ranked_entry first e))) (entries f ps (downwards (length ps)))
      (λ e s. (s.0, listed-at s.0 e.0 e.1 s.1 s.2)) (entries-stand f ps (downwards (length ps))))

  outside : Each (λ u. is_among ts u.task.name ≡ false → Each (λ t. u.priority < t.priority) ts) (ranked p)
  outside = each-by (λ u. is_among ts u.task.name ≡ false → Each (λ t. u.priority < t.priority) ts) (ranked p) (λ k u e out. absurd (never k u e out))
    where
      never : (k : ℕ) (u : Ranked) → slice_get (ranked p) k ≡ Some u → is_among ts u.task.name ≡ false → ⊥
      never k u e out =
          let x = at-listed k u e in
          let range = in-range k x.0.1 x.2 in
          let among = among-entries first f ps alone (length ps) k x.0.1 x.0.0 x.1 x.2 range.0 range.1 in
          both_ways (is_among ts x.0.0.name) (ap (λ w. is_among ts w.task.name) x.3 ∙ out) among

  -- tasks and rows side by side
  by-entries : (R : Ranked → ThreadRow → Type 0) → ((e : Entry) → Stands f ps e → R (ranked_entry first e) (row_entry f ps e))
      → AllZip R ts (table_for f ps).rows
  by-entries R h =
      subst (AllZip R ts) (sym (rows-are f ps))
      (zip-entries R first f ps (entries f ps (downwards (length ps)))
      (each-to (Stands f ps) (λ e. R (ranked_entry first e) (row_entry f ps e)) (entries f ps (downwards (length ps))) h
      (entries-stand f ps (downwards (length ps)))))

  numbers : AllZip (λ t row. (row.period ≡ period_of t.task.timing)
      × (block_cost p.costs (program_services p) t.task.block + p.costs.finish ≤ row.cost)) ts (table_for f ps).rows
  numbers =
      by-entries (λ t row. (row.period ≡ period_of t.task.timing)
      × (block_cost p.costs (program_services p) t.task.block + p.costs.finish ≤ row.cost))
      (λ e s. (refl, (let same = ap (λ ss. block_cost f.costs ss e.0.block + f.costs.finish) same-services in omega (arith, same))))

  blocks : AllZip (λ t row. Each (λ u. u.priority < t.priority → Each (λ s. t.priority ≤ ceiling_named p s.object
      → s.cost ≤ row.block) (task_sections p u.task)) (ranked p)) ts (table_for f ps).rows
  blocks =
      by-entries (λ t row. Each (λ u. u.priority < t.priority → Each (λ s. t.priority ≤ ceiling_named p s.object
      → s.cost ≤ row.block) (task_sections p u.task)) (ranked p))
      (λ e s.
      subst (Each (λ u. u.priority < e.1 + (first - 1) → Each (λ x. e.1 + (first - 1) ≤ ceiling_named p x.object
      → x.cost ≤ blocking f ps e.1) (task_sections p u.task))) (sym are-listed)
      (each-map (ranked_entry first) (λ u. u.priority < e.1 + (first - 1)
      → Each (λ x. e.1 + (first - 1) ≤ ceiling_named p x.object → x.cost ≤ blocking f ps e.1) (task_sections p u.task)) (zip f.threads ps)
      (each-to _ (λ u. u.1 + (first - 1) < e.1 + (first - 1) → Each (λ x. e.1 + (first - 1) ≤ ceiling_named p x.object
      → x.cost ≤ blocking f ps e.1) (sections f.costs (program_services p) u.0.block)) (zip f.threads ps)
      (λ u h low. lower e.1 u (h (let less : u.1 < e.1 = omega (arith, low) in less))) (lower-bounded f ps e.1))))
    where
      lower : (level : ℕ) (u : Entry) → Each (λ s. level ≤ ceiling f ps s.object
          → s.cost ≤ blocking f ps level) (sections f.costs (flat_services f) u.0.block)
          → Each (λ x. level + (first - 1) ≤ ceiling_named p x.object → x.cost ≤ blocking f ps level)
          (sections f.costs (program_services p) u.0.block)
      lower level u h =
          subst (λ ss. Each (λ x. level + (first - 1) ≤ ceiling_named p x.object → x.cost ≤ blocking f ps level) (sections f.costs ss u.0.block))
          (sym same-services)
          (each-to (λ s. level ≤ ceiling f ps s.object → s.cost ≤ blocking f ps level) (λ x. level + (first - 1) ≤ ceiling_named p x.object
          → x.cost ≤ blocking f ps level) (sections f.costs (flat_services f) u.0.block)
          (λ s k reach. k (omega (arith, reach, ceiling-low first f ps s.object))) h)

  -- each priority has its entry
  pub all-entries : (q : ℕ) → 1 ≤ q → q ≤ length ps → (e : Entry) × (entry_by f ps q ≡ Some e)
  all-entries q some most =
      let found = ranking-found f ps ranking q some (omega (arith, most, long)) in
      let inside : found.0 < length ps = slice_get_within ps found.0 q found.1 in
      let thread = has-at f.threads found.0 (omega (arith, inside, long)) in (
        (thread.0, q),
        ap (option_and_then (λ at. option_map (λ t. let z : Entry = (t, q) in z) (slice_get f.threads at))) (position-is ps q found.0
            alone found.1) ∙ ap (option_map (λ t. let z : Entry = (t, q) in z)) thread.1,
      )

  -- where a thread's task stands by priority
  pub task-stands : (at q : ℕ) (u : Thread) → slice_get f.threads at ≡ Some u → slice_get ps at ≡ Some q
      → slice_get ts (length ps - q) ≡ Some (ranked_entry first (u, q))
  task-stands at q u e g =
      let range = in-range at q g in
      let entry : entry_by f ps q ≡ Some (u, q) =
      ap (option_and_then (λ x. option_map (λ t. let z : Entry = (t, q) in z) (slice_get f.threads x))) (position-is ps q at alone g) ∙ ap
      (option_map (λ t. let z : Entry = (t, q) in z)) e in
      map-at (ranked_entry first) (entries f ps (downwards (length ps))) (length ps - q) (u, q)
      (entry-at f ps (length ps) all-entries q (u, q) range.0 range.1 entry)

  module _ (started : list_all (λ t. is_started f t.name t.timing) f.threads ≡ true) (spaced : list_all (λ t. is_spaced f t.name t.timing) f.threads
      ≡ true) where
    is-requested : (e : Entry) → Stands f ps e → (k : timing.Timing) → e.0.timing ≡ k → is_started f e.0.name k ≡ true
        → IsStarted p ts (row_entry f ps e) e.0.name k
    is-requested e s (timing.Cyclic period offset) is h = tt
    is-requested e s (timing.Sporadic op separation (Some jitter)) is h =
        (ap (starter_of f ps e.0.name) is, (let same : jitter_of e.0.timing ≡ jitter = ap jitter_of is in omega (arith, same)))
    is-requested e s (timing.Sporadic op separation None) is h =
        let parts = and_parts (length (starters (flat_services f) e.0.name f.threads) == 1)
        (list_all (λ t. nat_le (start_count (flat_services f) e.0.name op t) 1) (starters (flat_services f) e.0.name f.threads)) h in
        inside (one-passes (λ t. can_request (flat_services f) e.0.name t.block) f.threads
        (is-one (length (starters (flat_services f) e.0.name f.threads)) parts.0)) parts.1
      where
        is-one : (n : ℕ) → (n == 1) ≡ true → n ≡ 1
        is-one n g = grind arith

        least : (n : ℕ) → nat_le n 1 ≡ true → n ≤ 1
        least n g = grind arith

        inside : IsAlone (λ t. can_request (flat_services f) e.0.name t.block) f.threads
            → list_all (λ t. nat_le (start_count (flat_services f) e.0.name op t) 1) (starters (flat_services f) e.0.name f.threads) ≡ true
            → IsStarter p ts (row_entry f ps e) e.0.name op separation
        inside one counts =
            let within : one.place < length f.threads = slice_get_within f.threads one.place one.item one.stands in
            let priority = has-at ps one.place (omega (arith, within, long)) in
            let told : starter_row f ps e.0.name ≡ Some (length ps - priority.0) =
            ap (option_and_then (λ at. option_map (λ q. length ps - q) (slice_get ps at)))
            (alone-position (λ t. can_request (flat_services f) e.0.name t.block) f.threads one) ∙ ap (option_map (λ q. length ps - q)) priority.1 in
            record {
              place = length ps - priority.0;
              starter = ranked_entry first (one.item, priority.0);
              stands = task-stands one.place priority.0 one.item one.stands priority.1;
              told = ap (starter_of f ps e.0.name) is ∙ told;
              requests = ap (λ ss. can_request ss e.0.name one.item.block) same-services ∙ one.passes;
              alone = each-by (λ u. can_request (program_services p) e.0.name u.task.block ≡ true
                  → same_name u.task.name one.item.name ≡ true) (ranked p)
                  (λ k u at calls. lone one k u at (ap (λ ss. can_request ss e.0.name u.task.block) (sym same-services) ∙ calls));
              period = spaced-at f s.0 one.place e.0 one.item op separation spaced s.1 one.stands is one.passes;
              once = subst (λ ss. block_starts ss (record { object = e.0.name; op = op.name }) one.item.block ≤ 1) (sym same-services)
                  (least (start_count (flat_services f) e.0.name op one.item)
                  (and_parts (nat_le (start_count (flat_services f) e.0.name op one.item) 1) true
                  (subst (λ xs. list_all (λ t. nat_le (start_count (flat_services f) e.0.name op t) 1) xs ≡ true) one.are counts)).0);
            }
          where
            lone : (one : IsAlone (λ t. can_request (flat_services f) e.0.name t.block) f.threads) (k : ℕ) (u : Ranked)
                → slice_get (ranked p) k ≡ Some u → can_request (flat_services f) e.0.name u.task.block ≡ true
                → same_name u.task.name one.item.name ≡ true
            lone one k u at calls =
                let x = at-listed k u at in
                let place : k ≡ one.place = one.alone k x.0.0 x.1 (ap (λ w. can_request (flat_services f) e.0.name w.task.block) x.3 ∙ calls) in
                let same : x.0.0 ≡ one.item = same_Some x.0.0 one.item
                (sym (subst (λ j. slice_get f.threads j ≡ Some x.0.0) place x.1) ∙ one.stands) in
                ap (λ w. same_name w.task.name one.item.name) (sym x.3) ∙ ap (λ w. same_name w.name one.item.name) same ∙ same-self one.item.name

    requested : AllZip (λ t row. IsStarted p ts row t.task.name t.task.timing) ts (table_for f ps).rows
    requested =
        by-entries (λ t row. IsStarted p ts row t.task.name t.task.timing)
        (λ e s. is-requested e s e.0.timing refl (all-in (λ t. is_started f t.name t.timing) f.threads e.0 started (at-in f.threads s.0 e.0 s.1)))

    -- the table is one of the program's tasks
    pub design-tabled : IsTable (table_for f ps).rows
        → Each (λ u. Each (λ c. IsBelowCeiling u.priority (ceiling_named (program_for f (written_ranks first (ranks_for f ps))) c.object)
        (service_named (program_services (program_for f (written_ranks first (ranks_for f ps)))) c.object c.op)) (block_calls u.task.block))
        (ranked (program_for f (written_ranks first (ranks_for f ps))))
        → Each (λ g. Each (λ o. CallsUpwards (program_for f (written_ranks first (ranks_for f ps)))
        (ceiling_named (program_for f (written_ranks first (ranks_for f ps))) g.name) o.block) g.ops)
        (program_software (program_for f (written_ranks first (ranks_for f ps)))).shared
        → AreTabled (program_for f (written_ranks first (ranks_for f ps))) (in_order first f ps) (table_for f ps).rows
    design-tabled is-table ceilings inner = record {
      table = is-table;
      tasks = tasks;
      falls = falls-entries first f ps (length ps);
      outside = outside;
      numbers = numbers;
      ceilings = ceilings;
      inner_ceilings = inner;
      blocks = blocks;
      started = requested;
    }

    -- the same where names differ
    pub flat-tabled : are_distinct (entry_names f) ≡ true → IsTable (table_for f ps).rows
        → AreTabled (program_for f (written_ranks first (ranks_for f ps))) (in_order first f ps) (table_for f ps).rows
    flat-tabled names is-table =
        design-tabled is-table (each-by _ (ranked p) (λ k u e. at k u (at-listed k u e)))
        (subst (λ gs. Each (λ g. Each (λ o. CallsUpwards p (ceiling_named p g.name) o.block) g.ops) gs)
        (sym (ap (λ (w : Software). w.shared) same-software))
        (each-by (λ g. Each (λ o. CallsUpwards p (ceiling_named p g.name) o.block) g.ops) f.shared
        (λ k g e. each-by (λ o. CallsUpwards p (ceiling_named p g.name) o.block) g.ops (λ i o in'.
        subst (λ ss. Each (λ c. IsBelowCeiling (ceiling_named p g.name) (ceiling_named p c.object) (service_named ss c.object c.op))
        (block_calls o.block)) (sym same-services)
        (inner-below f first names ps long k i g o e in')))))
      where
        at : (k : ℕ) (u : Ranked) → (x : Entry) × (slice_get f.threads k ≡ Some x.0) × (slice_get ps k ≡ Some x.1) × (ranked_entry first x ≡ u)
            → Each (λ c. IsBelowCeiling u.priority (ceiling_named (program_for f (written_ranks first (ranks_for f ps))) c.object)
            (service_named (program_services (program_for f (written_ranks first (ranks_for f ps)))) c.object c.op)) (block_calls u.task.block)
        at k u x =
            subst (λ w. Each (λ c. IsBelowCeiling w.priority (ceiling_named (program_for f (written_ranks first (ranks_for f ps))) c.object)
            (service_named (program_services (program_for f (written_ranks first (ranks_for f ps)))) c.object c.op)) (block_calls w.task.block)) x.3
            (subst (λ ss. Each (λ c. IsBelowCeiling (x.0.1 + (first - 1)) (ceiling_named (program_for f (written_ranks first (ranks_for f ps))) c.object)
            (service_named ss c.object c.op)) (block_calls x.0.0.block)) (sym same-services)
            (calls-below f first names ps long k x.0.1 x.0.0 x.1 x.2))

  -- the response times of the design are those of its tasks
  response_of : ℕ × Bound → Option Response
  response_of c = option_map (λ t. let r : Response = record { thread = t.name; ticks = c.1.response } in r) (slice_get f.threads c.0)

  same-responses : (qs : List ℕ) (v : List Bound)
      → filter_map (λ c. option_map (λ t. let r : Response = record { thread = t.name; ticks = c.1.response }
      in r) (slice_get f.threads c.0)) (zip (filter_map (λ q. position (λ x. x == q) ps) qs) v)
      ≡ times_of (map (ranked_entry first) (entries f ps qs)) v
  same-responses [] v = refl
  same-responses (q ∷ qs) v = by (position (λ x. x == q) ps) refl v (λ w. same-responses qs w)
    where
      Goal : List Bound → Option ℕ → Type 0
      Goal w o =
          filter_map (λ c. option_map (λ t. let r : Response = record { thread = t.name; ticks = c.1.response }
          in r) (slice_get f.threads c.0)) (zip (cons_option o (filter_map (λ q'. position (λ x. x == q') ps) qs)) w)
          ≡ times_of (map (ranked_entry first)
          (cons_option (option_and_then (λ at. option_map (λ t. let e : Entry = (t, q) in e) (slice_get f.threads at)) o) (entries f ps qs))) w

      thread : (at : ℕ) (b : Bound) (w : List Bound) → (o : Option Thread) → slice_get f.threads at ≡ o
          → (t : Thread) × (slice_get f.threads at ≡ Some t)
          → filter_map (λ c. option_map (λ t. let r : Response = record { thread = t.name; ticks = c.1.response }
          in r) (slice_get f.threads c.0)) (zip (filter_map (λ q'. position (λ x. x == q') ps) qs) w)
          ≡ times_of (map (ranked_entry first) (entries f ps qs)) w
          → cons_option (option_map (λ t. let r : Response = record { thread = t.name; ticks = b.response } in r) o)
          (filter_map (λ c. option_map (λ t. let r : Response = record { thread = t.name; ticks = c.1.response }
          in r) (slice_get f.threads c.0)) (zip (filter_map (λ q'. position (λ x. x == q') ps) qs) w))
          ≡ times_of (map (ranked_entry first) (cons_option (option_map (λ t. let e : Entry = (t, q) in e) o) (entries f ps qs))) (b ∷ w)
      thread at b w None e there rest = absurd (none-some there.0 (sym e ∙ there.1))
      thread at b w (Some t) e there rest = ap (λ rs. let r : Response = record { thread = t.name; ticks = b.response } in r ∷ rs) rest

      by : (o : Option ℕ) → position (λ x. x == q) ps ≡ o → (w : List Bound)
          → ((z : List Bound) → filter_map (λ c. option_map (λ t. let r : Response = record { thread = t.name; ticks = c.1.response }
          in r) (slice_get f.threads c.0)) (zip (filter_map (λ q'. position (λ x. x == q') ps) qs) z)
          ≡ times_of (map (ranked_entry first) (entries f ps qs)) z)
          → filter_map (λ c. option_map (λ t. let r : Response = record { thread = t.name; ticks = c.1.response }
          in r) (slice_get f.threads c.0)) (zip (cons_option o (filter_map (λ q'. position (λ x. x == q') ps) qs)) w)
          ≡ times_of (map (ranked_entry first)
          (cons_option (option_and_then (λ at. option_map (λ t. let e : Entry = (t, q) in e) (slice_get f.threads at)) o) (entries f ps qs))) w
      by None e w rest = rest w
      by (Some at) e [] rest = nothing (option_map (λ t. let x : Entry = (t, q) in x) (slice_get f.threads at))
        where
          nothing : (o : Option Entry) → [] ≡ times_of (map (ranked_entry first) (cons_option o (entries f ps qs))) []
          nothing None = none (map (ranked_entry first) (entries f ps qs))
            where
              none : (us : List Ranked) → [] ≡ times_of us []
              none [] = refl
              none (u ∷ us) = refl
          nothing (Some x) = refl
      by (Some at) e (b ∷ w) rest =
          thread at b w (slice_get f.threads at) refl
          (has-at f.threads at (omega (arith, slice_get_within ps at q (position-stands ps q at e), long))) (rest w)

  pub responses-are : (v : List Bound) → responses_by f ps v ≡ times_of (in_order first f ps) v
  responses-are v = same-responses (downwards (length ps)) v
