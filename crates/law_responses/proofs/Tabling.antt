-- The frame of a program with a table: which row each task has, and which task is its starter.
use Rattle.std.specs.Prelude.{◌≡◌, ◌⊎◌, ℕ, zero, suc, ◌≤◌, ◌<◌, ◌||◌, Bool, true, false, List, [], ◌∷◌, length, slice_get, Option, Some, None}
use Rattle.std.specs.Prelude.{option_map, if◌then◌else◌, refl}
use Rattle.std.specs.List.{list_any}
use Rattle.std.proofs.Common.{sym, ◌∙◌, ap, subst, arith, inl, inr}
use Rattle.std.proofs.lemmas.Bool.{cases_lt, both_ways}
use Rattle.std.proofs.lemmas.Option.{none-some, same_Some}
use Rattle.seq_tree.specs.Limits.{tick_limit}
use Rattle.seq_tree.specs.Names.{Name, same_name}
use Rattle.seq_tree.specs.Dearest.{is_call_of}
use Rattle.seq_tree.specs.Lists.{first_from, first_where}
use Rattle.ada_tree.specs.Programs.{Program}
use Rattle.ada_tree.specs.Rules.{MeetsRules}
use Rattle.arrivals_tree.specs.Arriving.{Arrivals}
use Rattle.rt_response.specs.declared.rows.ThreadRow.{ThreadRow}
use Rattle.analysis.specs.Execution.{called_cost}
use Rattle.analysis.specs.Starts.{starts_within}
use Rattle.ods_tree.specs.Flats as flats
use Rattle.machine.specs.Systems.{TaskUnit, ReleasePattern, Periodic, Requested, system}
use Rattle.guarantee.specs.ResponseLaw.{Ranked, ranked, program_services, is_among, Falls, AreTabled}
use Rattle.law_calls.proofs.Shared.Systems.{thread-at, threads-differ}
use Rattle.law_responses.proofs.Frames.{Frame, HasRow}
use Rattle.law_responses.proofs.TwinTasks.{thread-of, units-apart}
use Rattle.law_lists.proofs.Shared.Facts.{same-self, same-is, first-where, first-none}
use Rattle.law_lists.proofs.Shared.Places.{same-item, all-at}

-- whether two tasks have one name
abbrev pub same_task : Ranked → Ranked → Bool
same_task u t = same_name t.task.name u.task.name

-- the place of the task of this name
abbrev pub place_in : List Ranked → Option Ranked → Option ℕ
place_in ts None = None
place_in ts (Some u) = option_map (λ x. x.0) (first_where (same_task u) ts)

-- an item at a place, where there is a place
abbrev pub item_at : {A : Type 0} → List A → Option ℕ → Option A
item_at xs None = None
item_at xs (Some k) = slice_get xs k

-- the place of a row's starter in a list of tasks
abbrev pub starter_by : List Ranked → List Ranked → Option ThreadRow → Option ℕ
starter_by us ts None = None
starter_by us ts (Some row) = place_in us (item_at ts row.starter)

-- the same, where requests come from inside
abbrev pub starter_if : flats.Timing → Option ℕ → Option ℕ
starter_if (flats.Cyclic period offset) o = None
starter_if (flats.Sporadic op separation (Some jitter)) o = None
starter_if (flats.Sporadic op separation None) o = o

abbrev pub starter_in : Option Ranked → Option ℕ → Option ℕ
starter_in None o = None
starter_in (Some u) o = starter_if u.task.timing o

-- how often a call requests a task of this timing, itself or through the bodies of protected operations
abbrev pub counted_in : Program → Name → ReleasePattern → Name → Name → ℕ
counted_in p name (Periodic offset period) unit op = 0
counted_in p name (Requested sig ceiling separation jitter external) unit op =
    if is_call_of (record { object = name; op = sig.name }) unit op then 1 else starts_within (length (program_services p)) (program_services p)
    (record { object = name; op = sig.name }) unit op

abbrev pub counted_by : Program → Option TaskUnit → Name → Name → ℕ
counted_by p None unit op = 0
counted_by p (Some t) unit op = counted_in p t.name t.timing unit op

-- the frame of a program
abbrev pub frame : Program → List Ranked → List ThreadRow → Arrivals → Frame
frame p ts rows a = record {
  system = system p a;
  rows = rows;
  row_of = λ j. place_in ts (slice_get (ranked p) j);
  shift = tick_limit;
  called = called_cost p.costs (program_services p);
  requests = λ k. counted_by p (slice_get (system p a).threads k);
  starter_of = λ k. starter_in (slice_get (ranked p) k) (starter_by (ranked p) ts (item_at rows (place_in ts (slice_get (ranked p) k))));
}

-- priorities fall along the list
pub falls-at : (ts : List Ranked) (i j : ℕ) (t u : Ranked) → Falls ts → i < j → slice_get ts i ≡ Some t → slice_get ts j ≡ Some u
    → u.priority < t.priority
falls-at [] i j t u falls less e g = cc
falls-at (x ∷ ts) zero zero t u falls less e g = absurd (omega (arith, less))
falls-at (x ∷ ts) zero (suc j) t u falls less e g = let is : x ≡ t = cc
    in subst (λ w. u.priority < w.priority) is (all-at (λ w. w.priority < x.priority) ts j u falls.0 g)
falls-at (x ∷ ts) (suc i) zero t u falls less e g = absurd (omega (arith, less))
falls-at (x ∷ ts) (suc i) (suc j) t u falls less e g = falls-at ts i j t u falls.1 (omega (arith, less)) e g

-- where no item passes a test none is found
none-any : (test : Ranked → Bool) (n : ℕ) (xs : List Ranked) → option_map (λ x. x.0) (first_from n test xs) ≡ None → list_any test xs ≡ false
none-any test n [] e = refl
none-any test n (x ∷ xs) e = by (test x) e (λ g. none-any test (suc n) xs g)
  where
    by : (b : Bool) → option_map (λ y. y.0) (if b then Some (n, x) else first_from (suc n) test xs) ≡ None
        → (option_map (λ y. y.0) (first_from (suc n) test xs) ≡ None → list_any test xs ≡ false)
        → (b || list_any test xs) ≡ false
    by true g later = absurd (none-some n (sym g))
    by false g later = later g

pub found-place : (test : Ranked → Bool) (xs : List Ranked) (k : ℕ) → option_map (λ x. x.0) (first_where test xs) ≡ Some k
    → (x : Ranked) × (slice_get xs k ≡ Some x) × (test x ≡ true)
found-place test xs k e = by (first_where test xs) refl e
  where
    by : (o : Option (ℕ × Ranked)) → first_where test xs ≡ o → option_map (λ x. x.0) o ≡ Some k
        → (x : Ranked) × (slice_get xs k ≡ Some x) × (test x ≡ true)
    by None g h = cc
    by (Some r) g h =
        let found = first-where test xs r.0 r.1 g in
        (r.1, subst (λ j. slice_get xs j ≡ Some r.1) (same_Some r.0 k h) found.0, found.1)

pub place-found : (test : Ranked → Bool) (xs : List Ranked) (k : ℕ) (x : Ranked) → slice_get xs k ≡ Some x → test x ≡ true
    → ((j : ℕ) (y : Ranked) → slice_get xs j ≡ Some y → test y ≡ true → j ≡ k) → option_map (λ z. z.0) (first_where test xs) ≡ Some k
place-found test xs k x at passes alone = by (first_where test xs) refl
  where
    by : (o : Option (ℕ × Ranked)) → first_where test xs ≡ o → option_map (λ z. z.0) o ≡ Some k
    by None g = absurd (both_ways (test x) (first-none 0 test xs g k x at) passes)
    by (Some r) g = let found = first-where test xs r.0 r.1 g in ap Some (alone r.0 r.1 found.0 found.1)

module _ (p : Program) (a : Arrivals) (rules : MeetsRules p) where
  -- tasks of one name stand at one place
  pub ranked-once : (i j : ℕ) (u v : Ranked) → slice_get (ranked p) i ≡ Some u → slice_get (ranked p) j ≡ Some v → u.task.name ≡ v.task.name → i ≡ j
  ranked-once i j u v e g same =
      let t = thread-of p a i u e in
      let w = thread-of p a j v g in
      let first = thread-at p a i t.0 t.1 in
      let second = thread-at p a j w.0 w.1 in
      let names : t.0.name ≡ w.0.name = sym (t.2).name ∙ same ∙ (w.2).name in
      let units : first.0 ≡ second.0 = units-apart p rules first.0 second.0 first.1 second.1 (first.2).stands (second.2).stands
      ((first.2).name ∙ names ∙ sym (second.2).name) in
      threads-differ p a i j t.0 w.0 t.1 w.1 ((first.2).unit ∙ units ∙ sym (second.2).unit)

  module _ (ts : List Ranked) (rows : List ThreadRow) (tabled : AreTabled p ts rows) where
    -- a task of the list stands among all tasks
    pub stands-among : (r : ℕ) (u : Ranked) → slice_get ts r ≡ Some u → (k : ℕ) × (slice_get (ranked p) k ≡ Some u)
    stands-among r u e = all-at (λ t. (k : ℕ) × (slice_get (ranked p) k ≡ Some t)) ts r u tabled.tasks e

    -- tasks of one name stand at one place of the list
    pub listed-once : (i j : ℕ) (u v : Ranked) → slice_get ts i ≡ Some u → slice_get ts j ≡ Some v → u.task.name ≡ v.task.name → i ≡ j
    listed-once i j u v e g same = by (cases_lt i j) (cases_lt j i)
      where
        both : u ≡ v
        both =
            let first = stands-among i u e in
            let second = stands-among j v g in
            let place : first.0 ≡ second.0 = ranked-once first.0 second.0 u v first.1 second.1 same in
            same-item (slice_get (ranked p) second.0) u v (subst (λ k. slice_get (ranked p) k ≡ Some u) place first.1) second.1

        by : (i < j) ⊎ (j ≤ i) → (j < i) ⊎ (i ≤ j) → i ≡ j
        by (inl less) h = absurd (omega (arith, falls-at ts i j u v tabled.falls less e g, ap (λ w. w.priority) both))
        by (inr more) (inl less) = absurd (omega (arith, falls-at ts j i v u tabled.falls less g e, ap (λ w. w.priority) both))
        by (inr more) (inr also) = omega arith

    -- a task with a row is the one at the row's place
    pub row-is : (j r : ℕ) → HasRow (frame p ts rows a) j r → (u : Ranked) × (slice_get (ranked p) j ≡ Some u) × (slice_get ts r ≡ Some u)
    row-is j r has = by (slice_get (ranked p) j) refl has
      where
        by : (o : Option Ranked) → slice_get (ranked p) j ≡ o → place_in ts o ≡ Some r → (u : Ranked) × (slice_get (ranked p) j ≡ Some u)
            × (slice_get ts r ≡ Some u)
        by None e h = absurd (none-some r h)
        by (Some u) e h =
            let found = found-place (same_task u) ts r h in
            let v : Ranked = found.0 in
            let names : v.task.name ≡ u.task.name = same-is v.task.name u.task.name found.2 in
            let among = stands-among r v found.1 in
            let place : among.0 ≡ j = ranked-once among.0 j v u among.1 e names in
            let is : v ≡ u = same-item (slice_get (ranked p) j) v u (subst (λ k. slice_get (ranked p) k ≡ Some v) place among.1) e in
            (u, e, subst (λ w. slice_get ts r ≡ Some w) is found.1)

    -- and each task of the list has its row
    pub has-row : (j r : ℕ) (u : Ranked) → slice_get (ranked p) j ≡ Some u → slice_get ts r ≡ Some u → HasRow (frame p ts rows a) j r
    has-row j r u e g =
        ap (place_in ts) e
        ∙ place-found (same_task u) ts r u g (same-self u.task.name)
        (λ i v at passes. listed-once i r v u at g (same-is v.task.name u.task.name passes))

    -- a task without a row is none of the list
    pub no-row-out : (j : ℕ) (u : Ranked) → (frame p ts rows a).row_of j ≡ None → slice_get (ranked p) j ≡ Some u → is_among ts u.task.name ≡ false
    no-row-out j u none e = none-any (same_task u) 0 ts (ap (place_in ts) (sym e) ∙ none)

    -- no two tasks have one row
    pub rows-differ : (i j r : ℕ) → HasRow (frame p ts rows a) i r → HasRow (frame p ts rows a) j r → i ≡ j
    rows-differ i j r h k =
        let first = row-is i r h in
        let second = row-is j r k in
        let same : first.0 ≡ second.0 = same-item (slice_get ts r) first.0 second.0 first.2 second.2 in
        ranked-once i j first.0 second.0 first.1 second.1 (ap (λ w. w.task.name) same)

    -- the place of a task of the list among all tasks
    pub place-of : (r : ℕ) (u : Ranked) → slice_get ts r ≡ Some u → (k : ℕ) × (slice_get (ranked p) k ≡ Some u)
        × (place_in (ranked p) (Some u) ≡ Some k)
    place-of r u e =
        let among = stands-among r u e in (
          among.0,
          among.1,
          place-found (same_task u) (ranked p) among.0 u among.1 (same-self u.task.name) (λ i v at passes.
              ranked-once i among.0 v u at among.1 (same-is v.task.name u.task.name passes)),
        )
