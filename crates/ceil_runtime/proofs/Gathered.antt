-- The tasks among units, gathered one after another.
use Rattle.std.specs.Prelude.{◌≡◌, ◌⊎◌, ℕ, ◌+◌, ◌<◌, ◌≤◌, ◌++◌, List, [], ◌∷◌, length, map, drop, get_or, None, Some, option_to_list, slice_get, refl}
use Rattle.std.proofs.Common.{sym, ◌∙◌, ap, subst, arith, inl, inr, append_assoc, append-nil}
use Rattle.std.proofs.lemmas.List.{length_push, map-append}
use Rattle.std.proofs.Math.ListN.{drop_of_length-le}
use Rattle.seq_tree.specs.Names.{Name}
use Rattle.seq_tree.specs.Statements.{Statements}
use Rattle.seq_tree.specs.Trees.{block_of, statement_of, statements_of}
use Rattle.seq_tree.specs.declared.tree.Block.{Block}
use Rattle.seq_tree.specs.declared.tree.Datum.{Datum}
use Rattle.ada_tree.specs.Programs.{Unit, Form, Passive, Shared, Cyclic, Sporadic}
use Rattle.ada_tree.specs.Trees.{form_of, unit_of}
use Rattle.ada_tree.specs.declared.program.Unit as units
use Rattle.ada_tree.specs.declared.program.Form as forms
use Rattle.ada_tree.specs.declared.program.Form.TheVariants as form
use Rattle.arrivals_tree.specs.Arriving.{durations}
use Rattle.arrivals_tree.specs.declared.arrivals.WorkList.{WorkList}
use Rattle.machine.specs.Systems.{thread_by}
use Rattle.ceil_runtime.specs.Gathering.{Adds, AllThreads, IsThreadOf}
use Rattle.task_runtime.specs.Libraries.{handed, handed_threads}
use Rattle.task_runtime.specs.Written.{block_of_thread, form_by, thread_of, timing_of, written_as}
use Rattle.task_runtime.specs.declared.thread.Timing.{Timing}
use Rattle.task_runtime.specs.declared.thread.Timing.TheVariants as timing
use Rattle.task_runtime.specs.declared.thread.Thread.{Thread}
use Rattle.seq_tree.proofs.Shared.TreeForms.{block-tree}
use Rattle.ceil_runtime.proofs.Started.{get-push}
use Rattle.task_runtime.proofs.Shared.UnitsAt.{get-map, units-at}

-- a task that is written as this unit, at its place
pub record IsTaskAt (lists : List WorkList) (us : List units.Unit) (place : ℕ) (u : units.Unit) (t : Thread) : Type 0 where
  pub work : t.work.now ≡ lists
  pub units : t.units.now ≡ us
  pub unit : t.unit ≡ place
  pub written : unit_of u ≡ written_as t
  pub thread : thread_by (durations (handed lists) place) place (unit_of u).name (unit_of u).form ≡ Some (thread_of t)

-- the task that a form gives
thread-by : (ds : List ℕ) (place : ℕ) (name : Name) (w : Timing) (priority : ℕ) (vars : List Datum) (block : Statements)
    → thread_by ds place name (form_by w priority vars block)
    ≡ Some (record { unit = place; name = name; priority = priority; timing = timing_of w; vars = vars; block = block; durations = ds })
thread-by ds place name (timing.Periodic offset period) priority vars block = refl
thread-by ds place name (timing.Requested op ceiling separation jitter external) priority vars block = refl

pub is-task : (work : List WorkList) (us : List units.Unit) (place : ℕ) (u : units.Unit) (f : forms.Form) (vars : List Datum) (block : Block)
    (t : Thread)
    → t.work.now ≡ work → t.units.now ≡ us → t.unit ≡ place → t.name.now ≡ u.name → u.form ≡ f
    → form_of f ≡ form_by t.timing t.priority vars (block_of block) → t.«data».now ≡ vars → t.stmts.now ≡ block.stmts.items
    → IsTaskAt work us place u t
is-task work us place u f vars block t work_is units_are unit_is name_is form_is fits data_are stmts_are =
    let made : Name → List Datum → Statements → Unit = λ n d b. record { name = n; form = form_by t.timing t.priority d b } in
    let whole : unit_of u ≡ written_as t =
    ap (λ g. record { name = u.name; form = g }) (ap form_of form_is ∙ fits) ∙ ap (λ n. made n vars (block_of block)) (sym name_is) ∙ ap
    (λ d. made t.name.now d (block_of block)) (sym data_are)
    ∙ ap (made t.name.now t.«data».now) (block-tree block ∙ ap (λ ss. statements_of (map statement_of ss)) (sym stmts_are)) in
    record {
      work = work_is;
      units = units_are;
      unit = unit_is;
      written = whole;
      thread = ap (λ v. thread_by (durations (handed work) place) place v.name v.form) whole ∙ thread-by
          (durations (handed work) place) place t.name.now t.timing t.priority t.«data».now (block_of_thread t)
          ∙ ap (λ n. Some (record (thread_of t) { unit = n; durations = durations (handed work) n })) (sym unit_is)
          ∙ ap (λ w. Some (record (thread_of t) { durations = durations (handed w) t.unit })) (sym work_is);
    }

module _ (work : List WorkList) (us : List units.Unit) (place : ℕ) (u : units.Unit) (ts : List Thread) where
  pub adds-one : (t : Thread) (ts' : List Thread) → IsTaskAt work us place u t → ts' ≡ ts ++ t ∷ [] → Adds work us place u ts ts'
  adds-one t ts' c pushed = record {
    threads = ap (map thread_of) pushed ∙ map-append thread_of ts (t ∷ []) ∙ ap (λ o. map thread_of ts ++ option_to_list o) (sym c.thread);
    each = λ at all. subst (AllThreads (IsThreadOf work us)) (sym pushed) (λ i x here. by_place at all i x (get-push ts t x i here));
    few = let longer = ap length pushed ∙ length_push ts t in omega (arith, longer);
  }
    where
      by_place : slice_get (map unit_of us) place ≡ Some (unit_of u) → AllThreads (IsThreadOf work us) ts → (i : ℕ) (x : Thread)
          → (slice_get ts i ≡ Some x) ⊎ ((i ≡ length ts) × (t ≡ x)) → IsThreadOf work us x
      by_place at all i x (inl h) = all i x h
      by_place at all i x (inr h) = subst (IsThreadOf work us) h.1 (record {
        work = c.work;
        units = c.units;
        at = ap (slice_get (map unit_of us)) c.unit ∙ at ∙ ap Some c.written;
      })

  pub adds-none : thread_by (durations (handed work) place) place (unit_of u).name (unit_of u).form ≡ None → Adds work us place u ts ts
  adds-none none = record {
    threads = sym (append-nil (map thread_of ts)) ∙ ap (λ o. map thread_of ts ++ option_to_list o) (sym none);
    each = λ at all. all;
    few = omega arith;
  }

-- a passive unit is no task
pub passive-none : (work : List WorkList) (place : ℕ) (u : units.Unit) (ops : _) → u.form ≡ form.Passive ops
    → thread_by (durations (handed work) place) place (unit_of u).name (unit_of u).form ≡ None
passive-none work place u ops is = ap (λ f. thread_by (durations (handed work) place) place u.name (form_of f)) is

pub shared-none : (work : List WorkList) (place : ℕ) (u : units.Unit) (ceiling : _) (vars : _) (ops : _) → u.form ≡ form.Shared ceiling vars ops
    → thread_by (durations (handed work) place) place (unit_of u).name (unit_of u).form ≡ None
shared-none work place u ceiling vars ops is = ap (λ f. thread_by (durations (handed work) place) place u.name (form_of f)) is

threads-cons : (work : List WorkList) (n : ℕ) (u : Unit) (us : List Unit) → handed_threads work n (u ∷ us)
    ≡ option_to_list (thread_by (durations (handed work) n) n u.name u.form) ++ handed_threads work (n + 1) us
threads-cons work n u us = by_form u.form
  where
    by_form : (f : Form) → handed_threads work n (record { name = u.name; form = f } ∷ us)
        ≡ option_to_list (thread_by (durations (handed work) n) n u.name f) ++ handed_threads work (n + 1) us
    by_form (Passive ops) = refl
    by_form (Shared ceiling vars ops) = refl
    by_form (Cyclic priority offset period vars block) = refl
    by_form (Sporadic priority ceiling op separation jitter external vars block) = refl

-- the tasks so far, with those of the units that are left
abbrev pub AreGathered : List WorkList → List units.Unit → ℕ → List Thread → Type 0
AreGathered work us n ts = map thread_of ts ++ handed_threads work n (map unit_of (drop n us)) ≡ handed_threads work 0 (map unit_of us)

module _ (work : List WorkList) (us : List units.Unit) (n : ℕ) (u : units.Unit) (h : n < length us) (is : u ≡ get_or us n u) where
  from_here : map unit_of (drop n us) ≡ unit_of u ∷ map unit_of (drop (n + 1) us)
  from_here = units-at us n u h ∙ ap (λ v. unit_of v ∷ map unit_of (drop (n + 1) us)) (sym is)

  pub is-here : slice_get (map unit_of us) n ≡ Some (unit_of u)
  is-here = get-map us n u h ∙ ap (λ v. Some (unit_of v)) (sym is)

  pub gathered-more : (ts ts' : List Thread) → Adds work us n u ts ts' → AreGathered work us n ts → AreGathered work us (n + 1) ts'
  gathered-more ts ts' a so_far =
      let rest = handed_threads work (n + 1) (map unit_of (drop (n + 1) us)) in
      ap (λ xs. xs ++ rest) a.threads ∙ append_assoc (map thread_of ts)
      (option_to_list (thread_by (durations (handed work) n) n (unit_of u).name (unit_of u).form)) rest
      ∙ ap (λ xs. map thread_of ts ++ xs) (sym (threads-cons work n (unit_of u) (map unit_of (drop (n + 1) us))) ∙ ap (handed_threads work n)
      (sym from_here)) ∙ so_far

pub gathered-all : (work : List WorkList) (us : List units.Unit) (n : ℕ) (ts : List Thread) → length us ≤ n → AreGathered work us n ts
    → map thread_of ts ≡ handed_threads work 0 (map unit_of us)
gathered-all work us n ts past so_far =
    sym (append-nil (map thread_of ts)) ∙ ap (λ xs. map thread_of ts ++ handed_threads work n (map unit_of xs))
    (sym (drop_of_length-le us past)) ∙ so_far
