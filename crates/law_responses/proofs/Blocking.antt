-- In a window of ticks at each of which an activation of a row's level is pending, tasks below it use at most the row's blocking.
use Rattle.std.specs.Prelude.{◌≡◌, ◌⊎◌, ℕ, suc, ◌+◌, ◌-◌, ◌≤◌, ◌<◌, nat_le, Bool, true, false, not, List, [], ◌∷◌, ◌++◌, length, filter, take}
use Rattle.std.specs.Prelude.{drop, slice_get, Option, Some, None, if◌then◌else◌, refl}
use Rattle.std.specs.List.{cons_option}
use Rattle.std.proofs.Common.{sym, ◌∙◌, ap, subst, arith, inl, inr}
use Rattle.law_ceilings.proofs.Shared.Stopping.{priority-at}
use Rattle.law_responses.proofs.Marks.{each-at}
use Rattle.std.proofs.lemmas.List.{length-append}
use Rattle.std.proofs.lemmas.Bool.{cases_lt}
use Rattle.arrivals_tree.specs.declared.arrivals.Arrival.{Arrival}
use Rattle.rt_response.specs.declared.rows.ThreadRow.{ThreadRow}
use Rattle.rt_response.specs.Tables.{Each}
use Rattle.machine.specs.States.{State, Task, Phase, Effects, Delays, Arriving, Use, opening}
use Rattle.machine.specs.Meanings.{run}
use Rattle.machine.proofs.Shared.RunLaws.{run_add}
use Rattle.law_schedules.specs.Schedules.{ticks_of, ticks_from, is_by, only_if, is_over, is_low, IsPending}
use Rattle.law_schedules.specs.Schedules as schedules
use Rattle.law_ceilings.specs.Ceilings.{priority_at}
use Rattle.law_ceilings.specs.Limits.{IsLimited, IsPendingIn}
use Rattle.law_ceilings.specs.Limits as limits
use Rattle.law_ceilings.proofs.Shared.Blocked.{run-blocked}
use Rattle.law_responses.proofs.Logs.{Made, Log, EndsAfter, activation, activations, schedule_of}
use Rattle.law_responses.proofs.Numbers.{stands-activation, made-of}
use Rattle.law_responses.proofs.Views.{view}
use Rattle.law_responses.proofs.Frames.{Frame, HasRow, Notes}
use Rattle.law_responses.proofs.Base.{IsOf, written-at}
use Rattle.law_responses.proofs.Moves.{Along, IsUser, AreUsers, since_by}
use Rattle.law_responses.proofs.Later.{WasThere}
use Rattle.law_responses.proofs.Seen.{seen}
use Rattle.law_responses.proofs.Stepping.{users_in, step_users, run_users}
use Rattle.law_responses.proofs.Opening.{empty, none-used}
use Rattle.law_responses.proofs.Windows.{users-add, IsUse, use-at, others-are, take-middle, count-alike, length-window, get-window, pending-through}
use Rattle.law_responses.proofs.History.{LogAt, History}

-- a row's level: the priorities of its rows are on its side, and sections below it cost at most its blocking
pub record IsLevelled (f : Frame) (i : ℕ) (row : ThreadRow) : Type 0 where
  pub level : ℕ
  pub limited : IsLimited f.system level row.block
  pub above : (j r : ℕ) → HasRow f j r → r ≤ i → level ≤ priority_at f.system j
  pub below : (j r : ℕ) → HasRow f j r → i < r → priority_at f.system j < level
  pub outside : (j : ℕ) → f.row_of j ≡ None → priority_at f.system j < level

-- ticks of an activation are below the number of all ticks
ticks-below : (m k : ℕ) (ticks : List (Option ℕ)) (bound : ℕ) → m + length ticks ≤ bound → Each (λ t. t < bound) (ticks_from m k ticks)
ticks-below m k [] bound h = tt
ticks-below m k (o ∷ ticks) bound h = by (is_by k o) (ticks-below (m + 1) k ticks bound (omega (arith, h)))
  where
    by : (b : Bool) → Each (λ t. t < bound) (ticks_from (m + 1) k ticks)
        → Each (λ t. t < bound) (cons_option (only_if b m) (ticks_from (m + 1) k ticks))
    by true rest = (omega (arith, h), rest)
    by false rest = rest

-- an end in a log is at most now
end-by-now : (k : ℕ) (ticks : List (Option ℕ)) (over : Option ℕ) (end : ℕ) → EndsAfter (ticks_of k ticks) over → over ≡ Some end → end ≤ length ticks
end-by-now k ticks None end ends e = cc
end-by-now k ticks (Some x) end ends e =
    let is : x ≡ end = cc in
    let below : ends.0 < length ticks = each-at (λ t. t < length ticks) (ticks_of k ticks) (length (ticks_of k ticks) - 1) ends.0
    (ticks-below 0 k ticks (length ticks) (omega arith)) ends.1 in
    omega (arith, below, ends.2, is)

-- an activation of the last log that is pending at a tick is that of a ready task
pending-ready : (f : Frame) (i level : ℕ) (s : State) (l : Log) (n : Notes) (last : List Made) (k : ℕ) (m : Made)
    → ((j r : ℕ) → HasRow f j r → r ≤ i → level ≤ priority_at f.system j) → Along f (view s) l n → (s.time + 1 ≤ m.release) ⊎ WasThere l.acts k m
    → m.row ≤ i → m.release ≤ s.time → is_over m.over s.time ≡ false
    → limits.IsPending f.system level s.tasks
pending-ready f i level s l n last k m above along (inl late) low released pending = absurd (omega (arith, late, released))
pending-ready f i level s l n last k m above along (inr was) low released pending = ready (unended was.over)
  where
    still_open : (o : Option ℕ) → is_over o s.time ≡ false → EndsAfter (ticks_of k l.ticks) o → o ≡ None
    still_open None h ends = refl
    still_open (Some end) h ends =
        let late : s.time < end = grind arith in
        let clock : length l.ticks ≡ s.time = along.base.clock in
        absurd (omega (arith, late, clock, end-by-now k l.ticks (Some end) end ends refl))

    unended : (was.made.over ≡ None) ⊎ (was.made.over ≡ m.over) → was.made.over ≡ None
    unended (inl none) = none
    unended (inr same) =
        still_open was.made.over (ap (λ o. is_over o s.time) same ∙ pending) ((along.base.logged.each k was.made was.stands).ends)

    ready : was.made.over ≡ None → limits.IsPending f.system level s.tasks
    ready none =
        let is : IsOf f (view s).cores n.current k was.made = along.base.made k was.made was.stands in
        let found = is.runs none in
        let task = seen s.tasks was.made.task found.0 found.1 in
        let t : Task = task.0 in
        let row_low : was.made.row ≤ i = omega (arith, low, was.alike.row) in
        let high : level ≤ priority_at f.system was.made.task = above was.made.task was.made.row is.row row_low in
        let written : slice_get f.system.threads was.made.task ≡ Some found.0.thread = written-at along.base.written was.made.task found.0 found.1 in
        let same_thread : t.thread ≡ found.0.thread = ap (λ c. c.thread) task.2 in
        let priority : priority_at f.system was.made.task ≡ t.thread.priority
        = priority-at f.system was.made.task t.thread (written ∙ ap Some (sym same_thread)) in
        (was.made.task, t, task.1, ap (λ c. c.readiness) task.2 ∙ found.2, omega (arith, high, priority))

-- a tick is of a row's level where its user is
level-alike : (f : Frame) (i : ℕ) (row : ThreadRow) (lev : IsLevelled f i row) (rows : List ThreadRow) (shift : ℕ) (l : Log)
    (made : (k : ℕ) (m : Made) → slice_get l.acts k ≡ Some m → HasRow f m.task m.row) (o user : Option ℕ)
    → IsUser f l.acts o user
    → not (schedules.is_of_level (activations rows shift l.ticks 0 l.acts) i o) ≡ not (limits.is_of_level f.system lev.level user)
level-alike f i row lev rows shift l made None None is = refl
level-alike f i row lev rows shift l made None (Some j) is = by (f.row_of j) refl
  where
    low : priority_at f.system j < lev.level → true ≡ not (nat_le lev.level (priority_at f.system j))
    low h = by_test (nat_le lev.level (priority_at f.system j)) refl
      where
        by_test : (b : Bool) → nat_le lev.level (priority_at f.system j) ≡ b → true ≡ not b
        by_test true e = absurd (clash e)
          where
            clash : nat_le lev.level (priority_at f.system j) ≡ true → ⊥
            clash e = grind (arith, h)
        by_test false e = refl

    by : (x : Option ℕ) → f.row_of j ≡ x → true ≡ not (nat_le lev.level (priority_at f.system j))
    by None e = low (lev.outside j e)
    by (Some r) e = absurd (is j r refl e)
level-alike f i row lev rows shift l made (Some k) user is =
    let m : Made = is.0 in
    let stands : slice_get (activations rows shift l.ticks 0 l.acts) k ≡ Some (activation rows shift l.ticks (0 + k) m)
    = stands-activation rows shift l.ticks 0 l.acts k m is.1 in
    ap (λ o. not (is_low i o)) stands ∙ by (cases_lt i m.row) ∙ ap (λ u. not (limits.is_of_level f.system lev.level u)) (sym is.2)
  where
    by : (i < is.0.row) ⊎ (is.0.row ≤ i) → not (nat_le is.0.row i) ≡ not (nat_le lev.level (priority_at f.system is.0.task))
    by (inl far) = both (nat_le is.0.row i) (nat_le lev.level (priority_at f.system is.0.task)) refl refl
      where
        less : priority_at f.system is.0.task < lev.level
        less = lev.below is.0.task is.0.row (made k is.0 is.1) far

        both : (a b : Bool) → nat_le is.0.row i ≡ a → nat_le lev.level (priority_at f.system is.0.task) ≡ b → not a ≡ not b
        both false false e g = refl
        both true b e g = absurd (clash e)
          where
            clash : nat_le is.0.row i ≡ true → ⊥
            clash e = grind (arith, far)
        both false true e g = absurd (clash g)
          where
            clash : nat_le lev.level (priority_at f.system is.0.task) ≡ true → ⊥
            clash g = grind (arith, less)
    by (inr near) = both (nat_le is.0.row i) (nat_le lev.level (priority_at f.system is.0.task)) refl refl
      where
        more : lev.level ≤ priority_at f.system is.0.task
        more = lev.above is.0.task is.0.row (made k is.0 is.1) near

        both : (a b : Bool) → nat_le is.0.row i ≡ a → nat_le lev.level (priority_at f.system is.0.task) ≡ b → not a ≡ not b
        both true true e g = refl
        both false b e g = absurd (clash e)
          where
            clash : nat_le is.0.row i ≡ false → ⊥
            clash e = grind (arith, near)
        both true false e g = absurd (clash g)
          where
            clash : nat_le lev.level (priority_at f.system is.0.task) ≡ false → ⊥
            clash g = grind (arith, more)

-- the steps of a window, from the use of its first tick to that of its last
pub record Window (f : Frame) (as' : List Arrival) (m first last : ℕ) : Type 0 where
  pub start : ℕ
  pub steps : ℕ
  pub more : ℕ
  pub count : start + (steps + more) ≡ m
  pub phase : (run f.system start (opening f.system as')).0.phase ≡ Use
  pub before : length (run_users f.system start (opening f.system as')) ≡ first
  pub users : length (run_users f.system steps (run f.system start (opening f.system as')).0) ≡ suc last - first
  -- each state of them at which a tick is used
  pub each : (q : ℕ) → q < steps → (run f.system q (run f.system start (opening f.system as')).0).0.stopped ≡ false
      → (run f.system q (run f.system start (opening f.system as')).0).0.phase ≡ Use
      → (first ≤ length (run_users f.system (start + q) (opening f.system as')))
      × (length (run_users f.system (start + q) (opening f.system as')) ≤ last) × (start + q ≤ m)

one-use : (s : State) → s.stopped ≡ false → s.phase ≡ Use → length (step_users s) ≡ 1
one-use s going using = ap (λ b. length (if b then [] else users_in s.phase s)) going ∙ ap (λ p. length (users_in p s)) using

window-of : (f : Frame) (as' : List Arrival) (m first last : ℕ) → first ≤ last → last < length (run_users f.system m (opening f.system as'))
    → Window f as' m first last
window-of f as' m first last less inside =
    build (use-at f.system m (opening f.system as') first (omega (arith, less, inside))) (use-at f.system m (opening f.system as') last inside)
  where
    s : State
    s = opening f.system as'

    Users : ℕ → List (Option ℕ)
    Users n = run_users f.system n (opening f.system as')

    grows : (n k : ℕ) → length (run_users f.system n (opening f.system as')) ≤ length (run_users f.system (n + k) (opening f.system as'))
    grows n k =
        omega (
          arith,
          ap length (users-add f.system n k (opening f.system as')),
          length-append (run_users f.system n (opening f.system as')) (run_users f.system k (run f.system n (opening f.system as')).0),
        )

    after_one : (n : ℕ) → (run f.system n (opening f.system as')).0.stopped ≡ false → (run f.system n (opening f.system as')).0.phase ≡ Use
        → length (run_users f.system (n + 1) (opening f.system as')) ≡ suc (length (run_users f.system n (opening f.system as')))
    after_one n going using =
        let one : length (step_users (run f.system n (opening f.system as')).0 ++ []) ≡ 1 =
        length-append (step_users (run f.system n (opening f.system as')).0) [] ∙
        (let e : length (step_users (run f.system n (opening f.system as')).0) + 0 ≡ 1
        = omega (arith, one-use (run f.system n (opening f.system as')).0 going using) in e) in
        let sum = ap length (users-add f.system n 1 (opening f.system as')) in
        let both = length-append (run_users f.system n (opening f.system as')) (run_users f.system 1 (run f.system n (opening f.system as')).0) in
        omega (arith, sum, both, one)

    build : IsUse f.system (opening f.system as') m first → IsUse f.system (opening f.system as') m last → Window f as' m first last
    build a b = by (cases_lt b.steps a.steps)
      where
        by : (b.steps < a.steps) ⊎ (a.steps ≤ b.steps) → Window f as' m first last
        by (inl wrong) = absurd (impossible wrong)
          where
            impossible : b.steps < a.steps → ⊥
            impossible wrong =
                let count : (b.steps + 1) + (a.steps - (b.steps + 1)) ≡ a.steps = omega (arith, wrong) in
                let more = grows (b.steps + 1) (a.steps - (b.steps + 1)) in
                let at_a : length (run_users f.system ((b.steps + 1) + (a.steps - (b.steps + 1))) (opening f.system as'))
                ≡ length (run_users f.system a.steps (opening f.system as')) =
                ap (λ n. length (run_users f.system n (opening f.system as'))) count in
                let one = after_one b.steps b.goes_on b.phase in
                let ab : length (run_users f.system a.steps (opening f.system as')) ≡ first = a.before in
                let bb : length (run_users f.system b.steps (opening f.system as')) ≡ last = b.before in
                omega (arith, more, at_a, one, ab, bb, less)
        by (inr right) =
            let within : b.steps < m = b.within in
            let count : a.steps + (suc b.steps - a.steps) ≡ b.steps + 1 = omega (arith, right) in
            let sum = ap length (users-add f.system a.steps (suc b.steps - a.steps) (opening f.system as')) in
            let both = length-append (run_users f.system a.steps (opening f.system as'))
            (run_users f.system (suc b.steps - a.steps) (run f.system a.steps (opening f.system as')).0) in
            let whole = ap (λ n. length (run_users f.system n (opening f.system as'))) count in
            let one = after_one b.steps b.goes_on b.phase in
            let ab : length (run_users f.system a.steps (opening f.system as')) ≡ first = a.before in
            let bb : length (run_users f.system b.steps (opening f.system as')) ≡ last = b.before in
            record {
              start = a.steps;
              steps = suc b.steps - a.steps;
              more = m - suc b.steps;
              count = omega (arith, right, within);
              phase = a.phase;
              before = a.before;
              users = omega (arith, sum, both, whole, one, ab, bb, less);
              each = λ q below going using. each q below;
            }
          where
            each : (q : ℕ) → q < suc b.steps - a.steps
                → (first ≤ length (run_users f.system (a.steps + q) (opening f.system as')))
                × (length (run_users f.system (a.steps + q) (opening f.system as')) ≤ last) × (a.steps + q ≤ m)
            each q below =
                let low = grows a.steps q in
                let high = grows (a.steps + q) (b.steps - (a.steps + q)) in
                let count : (a.steps + q) + (b.steps - (a.steps + q)) ≡ b.steps = omega (arith, below, right) in
                let at_b = ap (λ n. length (run_users f.system n (opening f.system as'))) count in
                let ab : length (run_users f.system a.steps (opening f.system as')) ≡ first = a.before in
                let bb : length (run_users f.system b.steps (opening f.system as')) ≡ last = b.before in
                let within : b.steps < m = b.within in
                (omega (arith, low, ab), omega (arith, high, at_b, bb), omega (arith, below, right, within))

-- at most a row's blocking is used by others, while its level is pending
pub blocks-of : (f : Frame) (as' : List Arrival) (m : ℕ) (h : History f m (opening f.system as') empty) (rows : List ThreadRow) (shift i : ℕ)
    (row : ThreadRow) (first last : ℕ) → IsLevelled f i row
    → first ≤ last → last < length h.log.ticks → ((t : ℕ) → first ≤ t → t ≤ last → IsPending (schedule_of rows shift h.log) i t)
    → schedules.others (schedule_of rows shift h.log) i first last ≤ row.block
blocks-of f as' m h rows shift i row first last lev less inside pending
    = bound (window-of f as' m first last less (omega (arith, inside, users.count)))
  where
    s : State
    s = opening f.system as'

    users : AreUsers f h.log (run_users f.system m (opening f.system as'))
    users = h.grown.used [] (none-used f)

    bound : Window f as' m first last → schedules.others (schedule_of rows shift h.log) i first last ≤ row.block
    bound w =
        let middle : take (suc last - first) (drop first (run_users f.system m (opening f.system as')))
        ≡ run_users f.system w.steps (run f.system w.start (opening f.system as')).0 =
        ap (λ us. take (suc last - first) (drop first us)) parts ∙ take-middle _ _ _ first (suc last - first) (sym w.before) (sym w.users) in
        let most : limits.others f.system lev.level w.steps (run f.system w.start (opening f.system as')).0 ≤ row.block =
        run-blocked f.system lev.level row.block lev.limited as' w.start w.steps w.phase through in
        let alike = count-alike (λ t. not (schedules.is_of_level (activations rows shift h.log.ticks 0 h.log.acts) i t))
        (λ u. not (limits.is_of_level f.system lev.level u))
        (take (suc last - first) (drop first h.log.ticks)) (take (suc last - first) (drop first (run_users f.system m (opening f.system as'))))
        (length-window first (suc last - first) h.log.ticks (run_users f.system m (opening f.system as')) (sym users.count))
        (λ k x y e g. level-alike f i row lev rows shift h.log (λ j made at. (h.along.base.made j made at).row) x y
        (users.each (first + k) x y (get-window first (suc last - first) h.log.ticks k x e)
        (get-window first (suc last - first) (run_users f.system m (opening f.system as')) k y g))) in
        let same = ap (λ us. length (filter (λ u. not (limits.is_of_level f.system lev.level u)) us)) middle in
        omega (arith, alike, same, others-are f.system lev.level w.steps (run f.system w.start (opening f.system as')).0, most)
      where
        parts : run_users f.system m (opening f.system as') ≡ run_users f.system w.start (opening f.system as')
            ++ (run_users f.system w.steps (run f.system w.start (opening f.system as')).0
            ++ run_users f.system w.more (run f.system w.steps (run f.system w.start (opening f.system as')).0).0)
        parts =
            ap (λ n. run_users f.system n (opening f.system as')) (sym w.count) ∙ users-add f.system w.start (w.steps + w.more) (opening f.system as')
            ∙ ap (λ us. run_users f.system w.start (opening f.system as') ++ us)
            (users-add f.system w.steps w.more (run f.system w.start (opening f.system as')).0)

        through : limits.IsPendingThrough f.system lev.level w.steps (run f.system w.start (opening f.system as')).0
        through = pending-through f.system lev.level w.steps (run f.system w.start (opening f.system as')).0 (λ q below going. at q below going)
          where
            state_is : (q : ℕ) → (run f.system (w.start + q) (opening f.system as')).0
                ≡ (run f.system q (run f.system w.start (opening f.system as')).0).0
            state_is q = ap (λ next. next.0) (run_add f.system w.start q (opening f.system as'))

            pending_at : (q : ℕ) → (x : State) → x ≡ (run f.system (w.start + q) (opening f.system as')).0
                → first ≤ length (run_users f.system (w.start + q) (opening f.system as'))
                → length (run_users f.system (w.start + q) (opening f.system as')) ≤ last → w.start + q ≤ m → x.phase ≡ Use
                → limits.IsPending f.system lev.level x.tasks
            pending_at q x is low high within using = found (h.at (w.start + q) within)
              where
                found : LogAt f m (w.start + q) (opening f.system as') empty h.log → limits.IsPending f.system lev.level x.tasks
                found a =
                    let used : AreUsers f a.log (run_users f.system (w.start + q) (opening f.system as')) = a.from.used [] (none-used f) in
                    let along : Along f (view x) a.log a.notes = subst (λ z. Along f (view z) a.log a.notes) (sym is) a.along in
                    let clock : length a.log.ticks ≡ x.time = along.base.clock in
                    let counted : length (run_users f.system (w.start + q) (opening f.system as')) ≡ length a.log.ticks = used.count in
                    let active = pending x.time (omega (arith, clock, counted, low)) (omega (arith, clock, counted, high)) in
                    let made = made-of rows shift h.log active.0 active.1 active.2 in
                    let grows = a.to.grows active.0 made.made made.stands in
                    let phase_is : (run f.system (w.start + q) (opening f.system as')).0.phase ≡ Use = ap (λ z. z.phase) (sym is) ∙ using in
                    let time_is : (run f.system (w.start + q) (opening f.system as')).0.time ≡ x.time = ap (λ z. z.time) (sym is) in
                    let since_is : since_by (run f.system (w.start + q) (opening f.system as')).0.phase
                    (run f.system (w.start + q) (opening f.system as')).0.time ≡ x.time + 1 =
                    ap (λ p. since_by p (run f.system (w.start + q) (opening f.system as')).0.time) phase_is ∙ ap (λ t. t + 1) time_is in
                    let grown : (x.time + 1 ≤ made.made.release) ⊎ WasThere a.log.acts active.0 made.made
                    = subst (λ b. (b ≤ made.made.release) ⊎ WasThere a.log.acts active.0 made.made) since_is grows in
                    let low_row : made.made.row ≤ i = subst (λ z. z.row ≤ i) (sym made.is) active.3 in
                    let released : made.made.release ≤ x.time = subst (λ z. z.release ≤ x.time) (sym made.is) active.4 in
                    let open_still : is_over made.made.over x.time ≡ false = ap (λ z. is_over z.end x.time) made.is ∙ active.5 in
                    pending-ready f i lev.level x a.log a.notes h.log.acts active.0 made.made lev.above along grown low_row released open_still

            by_phase : (q : ℕ) → q < w.steps → (p : Phase) → (x : State) → x ≡ (run f.system q (run f.system w.start (opening f.system as')).0).0
                → x.stopped ≡ false → x.phase ≡ p → IsPendingIn f.system lev.level p x
            by_phase q below Effects x is going e = tt
            by_phase q below Delays x is going e = tt
            by_phase q below Arriving x is going e = tt
            by_phase q below Use x is going e =
                let known = w.each q below (ap (λ z. z.stopped) (sym is) ∙ going) (ap (λ z. z.phase) (sym is) ∙ e) in
                pending_at q x (is ∙ sym (state_is q)) known.0 known.1 known.2 e

            at : (q : ℕ) → q < w.steps → (run f.system q (run f.system w.start (opening f.system as')).0).0.stopped ≡ false
                → IsPendingIn f.system lev.level (run f.system q (run f.system w.start (opening f.system as')).0).0.phase
                (run f.system q (run f.system w.start (opening f.system as')).0).0
            at q below going =
                by_phase q below (run f.system q (run f.system w.start (opening f.system as')).0).0.phase
                (run f.system q (run f.system w.start (opening f.system as')).0).0 refl going refl
