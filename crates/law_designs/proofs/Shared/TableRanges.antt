-- The table of a sound flat design is in its ranges, by any ranking.
use Rattle.std.specs.Prelude.{◌≡◌, ℕ, zero, suc, ◌-◌, ◌≤◌, ◌<◌, nat_le, nat_lt, true, List, [], ◌∷◌, map, filter_map, length, position}
use Rattle.std.specs.Prelude.{slice_get, Option, Some, None, option_map, option_and_then, refl}
use Rattle.std.specs.List.{cons_option}
use Rattle.std.proofs.Common.{sym, ◌∙◌, ap, subst, arith}
use Rattle.std.proofs.lemmas.Option.{slice_get_within}
use Rattle.seq_tree.specs.Limits.{tick_limit, is_within}
use Rattle.seq_tree.specs.Lists.{Each}
use Rattle.ods_tree.specs.Flats.{Thread, Flat, period_of}
use Rattle.ods_tree.specs.Flats as timing
use Rattle.ods_tree.specs.Services.{flat_services}
use Rattle.ods_tree.specs.Sound.{is_timed, is_in_range}
use Rattle.rt_response.specs.Tables.{IsRow, IsTable}
use Rattle.rt_response.specs.Tables as tables
use Rattle.analysis.specs.Sound.{IsSound}
use Rattle.analysis.specs.Starts.{can_request}
use Rattle.analysis.specs.Priorities.{priorities_of}
use Rattle.analysis.specs.Tables.{downwards, starter_of, jitter_of, table_for, table, activation_cost}
use Rattle.law_designs.proofs.Shared.PriorityLists.{Entry, entry_by, entries, row_entry, Stands, entries-stand, rows-are, position-is}
use Rattle.law_designs.specs.Rankings.{IsRanking}
use Rattle.law_designs.proofs.Shared.Lists.{has-at}
use Rattle.law_designs.proofs.Shared.PriorityPlaces.{deadline-ranking, entry-at}
use Rattle.law_designs.proofs.Shared.RankedPrograms.{all-entries}
use Rattle.analysis.proofs.Shared.CostRanges.{all-each, within-true, finish-some, blocking-cheap}
use Rattle.std.proofs.lemmas.Bool.{and_parts, leb-true}
use Rattle.law_lists.proofs.Shared.Places.{all-at}
use Rattle.std.proofs.lemmas.List.{length-map}

pub count-down : (n : ℕ) → length (downwards n) ≡ n
count-down zero = refl
count-down (suc n) = ap suc (count-down n)

few : {A B : Type 0} (g : A → Option B) (xs : List A) → length (filter_map g xs) ≤ length xs
few g [] = omega arith
few {A} {B} g (x ∷ xs) = by (g x) (few g xs)
  where
    by : (o : Option B) → length (filter_map g xs) ≤ length xs → length (cons_option o (filter_map g xs)) ≤ suc (length xs)
    by None h = omega (arith, h)
    by (Some y) h = omega (arith, h)

small : (jitter separation : ℕ) → nat_lt jitter separation ≡ true → jitter < separation
small jitter separation e = grind arith

-- periods, separations and jitters that are in their range
pub timed : (k : timing.Timing) → is_timed k ≡ true → (period_of k ≤ tick_limit) × (jitter_of k ≤ tick_limit)
timed (timing.Cyclic period offset) e =
    let parts = and_parts (is_within 1 tick_limit period) (nat_le offset tick_limit) e in
    ((within-true 1 tick_limit period parts.0).1, omega arith)
timed (timing.Sporadic op separation None) e =
    let parts = and_parts (is_within 1 tick_limit separation) true e in
    ((within-true 1 tick_limit separation parts.0).1, omega arith)
timed (timing.Sporadic op separation (Some jitter)) e =
    let parts = and_parts (is_within 1 tick_limit separation) (nat_lt jitter separation) e in
    let most = (within-true 1 tick_limit separation parts.0).1 in
    (most, (let less = small jitter separation parts.1 in omega (arith, most, less)))

module _ (f : Flat) (sound : IsSound f) (ps : List ℕ) (ranking : IsRanking f ps) where
  abbrev es : List Entry
  es = entries f ps (downwards (length ps))

  count : length es ≤ 30
  count = omega (arith, few (entry_by f ps) (downwards (length ps)), count-down (length ps), ranking.count, sound.formed.thread_count)

  -- a thread with a priority is among the entries
  place : (at q : ℕ) → slice_get ps at ≡ Some q → length ps - q < length es
  place at q e =
      let range = ranking.range at q e in
      let inside : at < length ps = slice_get_within ps at q e in
      let thread = has-at f.threads at (omega (arith, inside, ranking.count)) in
      let entry : entry_by f ps q ≡ Some (thread.0, q) =
      ap (option_and_then (λ x. option_map (λ t. let z : Entry = (t, q) in z) (slice_get f.threads x))) (position-is ps q at ranking.once e) ∙ ap
      (option_map (λ t. let z : Entry = (t, q) in z)) thread.1 in
      slice_get_within es (length ps - q) (thread.0, q) (entry-at f ps (length ps) (all-entries f 1 ps ranking) q (thread.0, q) range.0 (omega (arith, range.1, ranking.count)) entry)

  row-in : (o : Option ℕ) → tables.IsStarter (length es) (option_and_then (λ at. option_map (λ p. length ps - p) (slice_get ps at)) o)
  row-in None = tt
  row-in (Some at) = found (slice_get ps at) refl
    where
      found : (o : Option ℕ) → slice_get ps at ≡ o → tables.IsStarter (length es) (option_map (λ p. length ps - p) o)
      found None e = tt
      found (Some q) e = place at q e

  starter-in : (t : Thread) (k : timing.Timing) → tables.IsStarter (length es) (starter_of f ps t.name k)
  starter-in t (timing.Cyclic period offset) = tt
  starter-in t (timing.Sporadic op separation (Some jitter)) = tt
  starter-in t (timing.Sporadic op separation None) = row-in (position (λ u. can_request (flat_services f) t.name u.block) f.threads)

  is-row : (e : Entry) → Stands f ps e → IsRow (length es) (row_entry f ps e)
  is-row e s =
      let ranges = all-at (λ t. is_in_range t ≡ true) f.threads s.0 e.0 (all-each is_in_range f.threads sound.formed.ranges) s.1 in
      let parts = and_parts (is_timed e.0.timing) (is_within 1 (period_of e.0.timing) e.0.deadline) ranges in
      let deadline = within-true 1 (period_of e.0.timing) e.0.deadline parts.1 in
      let times = timed e.0.timing parts.0 in
      let cheap = all-at (λ t. nat_le (activation_cost f t) tick_limit ≡ true) f.threads s.0 e.0
      (all-each (λ t. nat_le (activation_cost f t) tick_limit) f.threads sound.thread_costs) s.1 in
      record {
        asks = deadline.0;
        before_next = deadline.1;
        period = times.0;
        works = (let finish = finish-some f sound in omega (arith, finish));
        cost = leb-true (activation_cost f e.0) tick_limit cheap;
        block = blocking-cheap f sound ps e.1;
        jitter = times.1;
        starter = starter-in e.0 e.0.timing;
      }

  rows-each : (n : ℕ) (xs : List Entry) → ((e : Entry) → Stands f ps e → IsRow n (row_entry f ps e)) → Each (Stands f ps) xs
      → tables.Each (IsRow n) (map (row_entry f ps) xs)
  rows-each n [] h all = tt
  rows-each n (x ∷ xs) h all = (h x all.0, rows-each n xs h all.1)

  listed : IsTable (map (row_entry f ps) es)
  listed =
      let same : length (map (row_entry f ps) es) ≡ length es = length-map es (row_entry f ps) in
      record {
        count = (let most = count in omega (arith, same, most));
        each = subst (λ n. tables.Each (IsRow n) (map (row_entry f ps) es)) (sym same) (rows-each (length es) es is-row
            (entries-stand f ps (downwards (length ps))));
      }

  -- the table of a sound flat design by a ranking is one
  pub ranked-table : IsTable (table_for f ps).rows
  ranked-table = subst IsTable (sym (rows-are f ps)) listed

-- and so is that of deadline-monotonic priorities
pub sound-table : (f : Flat) → IsSound f → IsTable (table f).rows
sound-table f sound = ranked-table f sound (priorities_of f) (deadline-ranking f)
