-- Where the tasks of a program stand in a table, the first of them stand in its first rows, in the program whose lower priorities and ceilings
-- are raised to one below theirs, and of which lower tasks are released at once.
use Rattle.std.specs.Prelude.{◌≡◌, ◌⊎◌, ℕ, zero, suc, ◌≤◌, ◌<◌, ◌+◌, Bool, true, false, List, [], ◌∷◌, map, filter_map, find, take, max}
use Rattle.std.specs.Prelude.{Option, Some, None, slice_get, option_map, unwrap_or, refl, if◌then◌else◌, nat_lt}
use Rattle.std.specs.List.{AllZip, cons_option}
use Rattle.std.proofs.Common.{sym, ◌∙◌, ap, ap₂, subst, inl, inr, arith}
use Rattle.std.proofs.lemmas.Option.{none-some}
use Rattle.seq_tree.specs.Names.{Name, same_name}
use Rattle.seq_tree.specs.Lists.{Each}
use Rattle.seq_tree.specs.Statements.{Statements}
use Rattle.seq_tree.specs.Operations.{Signature}
use Rattle.seq_tree.specs.Calls.{block_calls}
use Rattle.seq_tree.specs.declared.tree.OpName.{OpName}
use Rattle.ods_tree.specs.Flats.{Timing, period_of, Guarded}
use Rattle.ods_tree.specs.Flats as timing
use Rattle.ods_tree.specs.Services.{Service, Sort, service_named, services, requested, request_of}
use Rattle.ods_tree.specs.Services as sort
use Rattle.ada_tree.specs.Programs.{Form, Unit, Program, Passive, Shared, Cyclic, Sporadic}
use Rattle.rt_response.specs.declared.rows.ThreadRow.{ThreadRow}
use Rattle.rt_response.specs.Tables.{IsTable}
use Rattle.analysis.specs.Execution.{block_cost}
use Rattle.analysis.specs.Sections.{sections}
use Rattle.analysis.specs.Starts.{can_request, block_starts}
use Rattle.guarantee.specs.Software.{Task, program_software, library_by, guarded_by, task_by}
use Rattle.guarantee.specs.ResponseLaw.{Ranked, ranked, priority_of, ceiling_of, ceiling_named, program_services, task_sections, is_among, Falls}
use Rattle.guarantee.specs.ResponseLaw.{IsBelowCeiling, CallsUpwards, IsStarted, AreTabled}
use Rattle.law_lists.proofs.Shared.Facts.{same-self}
use Rattle.law_lists.proofs.Shared.Lists.{each-map, each-to, each-by, any-in, at-in}
use Rattle.law_lists.proofs.Shared.Places.{map-at, all-at}
use Rattle.law_backgrounds.proofs.Shared.Lifts.{unless, lift_form, lift_unit, lifted}

-- a timing, released at once or not
abbrev pub retime : Bool → Timing → Timing
retime b (timing.Cyclic period offset) = timing.Cyclic (unless b 1 period) (unless b 0 offset)
retime b (timing.Sporadic op separation jitter) = timing.Sporadic op separation jitter

abbrev pub retask : (Name → Bool) → Task → Task
retask eager t = record t { timing = retime (eager t.name) t.timing }

abbrev pub lift_ranked : ℕ → (Name → Bool) → Ranked → Ranked
lift_ranked least eager u = record { task = retask eager u.task; priority = max least u.priority }

-- what is taken of items that are changed
pub made-through : {A B C : Type 0} (g : A → A) (f : A → Option B) (h : A → Option C) (k : C → B) (xs : List A)
    → ((x : A) → f (g x) ≡ option_map k (h x)) → filter_map f (map g xs) ≡ map k (filter_map h xs)
made-through g f h k [] same = refl
made-through {A} {B} {C} g f h k (x ∷ xs) same = by (f (g x)) (h x) (same x) (made-through g f h k xs same)
  where
    by : (a : Option B) (c : Option C) → a ≡ option_map k c → filter_map f (map g xs) ≡ map k (filter_map h xs)
        → cons_option a (filter_map f (map g xs)) ≡ map k (cons_option c (filter_map h xs))
    by a None e rest = ap (λ o. cons_option o (filter_map f (map g xs))) e ∙ rest
    by a (Some c) e rest = ap (λ o. cons_option o (filter_map f (map g xs))) e ∙ ap (λ ys. k c ∷ ys) rest

pub made-same : {A B : Type 0} (g : A → A) (f : A → Option B) (xs : List A) → ((x : A) → f (g x) ≡ f x) → filter_map f (map g xs) ≡ filter_map f xs
made-same g f [] same = refl
made-same g f (x ∷ xs) same = ap₂ (λ o ys. cons_option o ys) (same x) (made-same g f xs same)

pub find-through : {A : Type 0} (g : A → A) (test : A → Bool) (xs : List A) → ((x : A) → test (g x) ≡ test x)
    → find test (map g xs) ≡ option_map g (find test xs)
find-through g test [] same = refl
find-through {A} g test (x ∷ xs) same = by (test (g x)) (test x) (same x) (find-through g test xs same)
  where
    by : (a b : Bool) → a ≡ b → find test (map g xs) ≡ option_map g (find test xs)
        → (if a then Some (g x) else find test (map g xs)) ≡ option_map g (if b then Some x else find test xs)
    by true true e rest = refl
    by false false e rest = rest
    by true false e rest = cc
    by false true e rest = cc

pub each-unmap : {A B : Type 0} (g : A → B) (P : B → Type 0) (Q : A → Type 0) (xs : List A) → ((x : A) → P (g x) → Q x) → Each P (map g xs)
    → Each Q xs
each-unmap g P Q [] f h = tt
each-unmap g P Q (x ∷ xs) f h = (f x h.0, each-unmap g P Q xs f h.1)

-- a ceiling that is raised, where there is one
abbrev pub IsRaised : ℕ → ℕ → ℕ → Type 0
IsRaised least c d = (d ≡ max least c) ⊎ ((c ≡ 0) × (d ≡ 0))

-- the front of a list
pub take-at : {A : Type 0} (k : ℕ) (xs : List A) (i : ℕ) (x : A) → slice_get (take k xs) i ≡ Some x → (i < k) × (slice_get xs i ≡ Some x)
take-at zero [] i x e = absurd (none-some x e)
take-at zero (y ∷ ys) i x e = absurd (none-some x e)
take-at (suc k) [] i x e = absurd (none-some x e)
take-at (suc k) (y ∷ ys) zero x e = (omega arith, e)
take-at (suc k) (y ∷ ys) (suc i) x e = let r = take-at k ys i x e in let less : i < k = r.0 in (omega (arith, less), r.1)

pub at-take : {A : Type 0} (k : ℕ) (xs : List A) (i : ℕ) (x : A) → i < k → slice_get xs i ≡ Some x → slice_get (take k xs) i ≡ Some x
at-take zero xs i x less e = absurd (omega (arith, less))
at-take (suc k) [] i x less e = e
at-take (suc k) (y ∷ ys) zero x less e = e
at-take (suc k) (y ∷ ys) (suc i) x less e = at-take k ys i x (omega (arith, less)) e

each-take : {A : Type 0} (P : A → Type 0) (k : ℕ) (xs : List A) → Each P xs → Each P (take k xs)
each-take P zero [] h = tt
each-take P zero (x ∷ xs) h = tt
each-take P (suc k) [] h = tt
each-take P (suc k) (x ∷ xs) h = (h.0, each-take P k xs h.1)

falls-take : (k : ℕ) (ts : List Ranked) → Falls ts → Falls (take k ts)
falls-take zero [] h = tt
falls-take zero (t ∷ ts) h = tt
falls-take (suc k) [] h = tt
falls-take (suc k) (t ∷ ts) h = (each-take (λ u. u.priority < t.priority) k ts h.0, falls-take k ts h.1)

zip-take : {A B : Type 0} (R S : A → B → Type 0) (k : ℕ) (xs : List A) (ys : List B) → AllZip R xs ys
    → ((i : ℕ) (x : A) (y : B) → i < k → slice_get xs i ≡ Some x → R x y → S x y) → AllZip S (take k xs) (take k ys)
zip-take R S zero [] [] h f = tt
zip-take R S zero [] (y ∷ ys) h f = absurd h
zip-take R S zero (x ∷ xs) [] h f = absurd h
zip-take R S zero (x ∷ xs) (y ∷ ys) h f = tt
zip-take R S (suc k) [] [] h f = tt
zip-take R S (suc k) [] (y ∷ ys) h f = absurd h
zip-take R S (suc k) (x ∷ xs) [] h f = absurd h
zip-take R S (suc k) (x ∷ xs) (y ∷ ys) h f =
    (f 0 x y (omega arith) refl h.0, zip-take R S k xs ys h.1 (λ i a b less e r. f (suc i) a b (omega (arith, less)) e r))

module _ (least : ℕ) (eager : Name → Bool) (p : Program) where
  abbrev L : Unit → Unit
  L = lift_unit least eager

  abbrev q : Program
  q = lifted least eager p

  library-same : (u : Unit) → library_by (L u).name (L u).form ≡ library_by u.name u.form
  library-same u = by u.form (eager u.name)
    where
      by : (f : Form) (b : Bool) → library_by u.name (lift_form least b f) ≡ library_by u.name f
      by (Passive ops) b = refl
      by (Shared ceiling vars ops) b = refl
      by (Cyclic priority offset period vars block) b = refl
      by (Sporadic priority ceiling op separation jitter external vars block) b = refl

  guarded-same : (u : Unit) → guarded_by (L u).name (L u).form ≡ guarded_by u.name u.form
  guarded-same u = by u.form (eager u.name)
    where
      by : (f : Form) (b : Bool) → guarded_by u.name (lift_form least b f) ≡ guarded_by u.name f
      by (Passive ops) b = refl
      by (Shared ceiling vars ops) b = refl
      by (Cyclic priority offset period vars block) b = refl
      by (Sporadic priority ceiling op separation jitter external vars block) b = refl

  task-lifted : (u : Unit) → task_by (L u).name (L u).form ≡ option_map (retask eager) (task_by u.name u.form)
  task-lifted u = by u.form
    where
      by : (f : Form) → task_by u.name (lift_form least (eager u.name) f) ≡ option_map (retask eager) (task_by u.name f)
      by (Passive ops) = refl
      by (Shared ceiling vars ops) = refl
      by (Cyclic priority offset period vars block) = refl
      by (Sporadic priority ceiling op separation jitter external vars block) = refl

  abbrev rank : Unit → Option Ranked
  rank u = option_map (λ t. record { task = t; priority = priority_of u.form }) (task_by u.name u.form)

  rank-lifted : (u : Unit) → rank (L u) ≡ option_map (lift_ranked least eager) (rank u)
  rank-lifted u = by u.form
    where
      by : (f : Form) → rank (record { name = u.name; form = lift_form least (eager u.name) f })
          ≡ option_map (lift_ranked least eager) (rank (record { name = u.name; form = f }))
      by (Passive ops) = refl
      by (Shared ceiling vars ops) = refl
      by (Cyclic priority offset period vars block) = refl
      by (Sporadic priority ceiling op separation jitter external vars block) = refl

  pub passive-same : (program_software q).passive ≡ (program_software p).passive
  passive-same = made-same L (λ u. library_by u.name u.form) p.units library-same

  pub shared-same : (program_software q).shared ≡ (program_software p).shared
  shared-same = made-same L (λ u. guarded_by u.name u.form) p.units guarded-same

  pub tasks-lifted : (program_software q).tasks ≡ map (retask eager) (program_software p).tasks
  tasks-lifted = made-through L (λ u. task_by u.name u.form) (λ u. task_by u.name u.form) (retask eager) p.units task-lifted

  pub ranked-lifted : ranked q ≡ map (lift_ranked least eager) (ranked p)
  ranked-lifted = made-through L rank rank (lift_ranked least eager) p.units rank-lifted

  pub services-same : program_services q ≡ program_services p
  services-same =
      ap (λ ls. services ls (program_software q).shared (filter_map (λ t. requested t.name (request_of t.timing)) (program_software q).tasks))
      passive-same
      ∙ ap (λ gs. services (program_software p).passive gs (filter_map (λ t. requested t.name (request_of t.timing)) (program_software q).tasks))
      shared-same
      ∙ ap (λ ts. services (program_software p).passive (program_software p).shared (filter_map (λ t. requested t.name (request_of t.timing)) ts))
      tasks-lifted
      ∙ ap (λ rs. services (program_software p).passive (program_software p).shared rs)
      (made-same (retask eager) (λ t. requested t.name (request_of t.timing)) (program_software p).tasks (λ t. request-same t t.timing))
    where
      request-same : (t : Task) (k : Timing) → requested t.name (request_of (retime (eager t.name) k)) ≡ requested t.name (request_of k)
      request-same t (timing.Cyclic period offset) = refl
      request-same t (timing.Sporadic op separation jitter) = refl

  pub ceiling-raised : (name : Name) → IsRaised least (ceiling_named p name) (ceiling_named q name)
  ceiling-raised name =
      let P : Option Unit → Type 0 = λ o. IsRaised least (ceiling_named p name) (unwrap_or (option_map (λ u. ceiling_of u.form) o) 0) in
      subst P (sym (find-through L (λ u. same_name u.name name) p.units (λ u. refl))) (by (find (λ u. same_name u.name name) p.units))
    where
      form : (f : Form) (b : Bool) → IsRaised least (ceiling_of f) (ceiling_of (lift_form least b f))
      form (Passive ops) b = inr (refl, refl)
      form (Shared ceiling vars ops) b = inl refl
      form (Cyclic priority offset period vars block) b = inr (refl, refl)
      form (Sporadic priority ceiling op separation jitter external vars block) b = inl refl

      by : (o : Option Unit) → IsRaised least (unwrap_or (option_map (λ u. ceiling_of u.form) o) 0)
          (unwrap_or (option_map (λ u. ceiling_of u.form) (option_map L o)) 0)
      by None = inr (refl, refl)
      by (Some u) = form u.form (eager u.name)

  -- calls go upwards still
  upwards : (level level' : ℕ) (b : Statements) → 1 ≤ level → level' ≤ max least level → CallsUpwards p level b → CallsUpwards q level' b
  upwards level level' b some most h =
      subst (λ ss. Each (λ c. IsBelowCeiling level' (ceiling_named q c.object) (service_named ss c.object c.op)) (block_calls b)) (sym services-same)
      (each-to _ _ (block_calls b) (λ c k. by c (service_named (program_services p) c.object c.op) k) h)
    where
      number : (c d : ℕ) → IsRaised least c d → level ≤ c → level' ≤ d
      number c d (inl e) k = omega (arith, e, k, most)
      number c d (inr e) k = absurd (omega (arith, e.0, k, some))

      by : (c : OpName) (o : Option Service) → IsBelowCeiling level (ceiling_named p c.object) o → IsBelowCeiling level' (ceiling_named q c.object) o
      by c None k = tt
      by c (Some s) k = sorted s.sort k
        where
          sorted : (z : Sort) → IsBelowCeiling level (ceiling_named p c.object) (Some (record { object = s.object; sort = z; op = s.op }))
              → IsBelowCeiling level' (ceiling_named q c.object) (Some (record { object = s.object; sort = z; op = s.op }))
          sorted sort.Plain k = tt
          sorted sort.Protected k = number (ceiling_named p c.object) (ceiling_named q c.object) (ceiling-raised c.object) k
          sorted sort.Request k = number (ceiling_named p c.object) (ceiling_named q c.object) (ceiling-raised c.object) k

  module _ (ts : List Ranked) (rows : List ThreadRow) (k : ℕ) (tabled : AreTabled p ts rows)
      (all : Each (λ u. (i : ℕ) × (slice_get ts i ≡ Some u)) (ranked p))
      (positive : Each (λ u. 1 ≤ u.priority) (ranked p))
      (ceiled : Each (λ g. 1 ≤ ceiling_named p g.name) (program_software p).shared)
      (high : (i : ℕ) (u : Ranked) → slice_get ts i ≡ Some u → i < k → least < u.priority)
      (low : (i : ℕ) (u : Ranked) → slice_get ts i ≡ Some u → k ≤ i → u.priority ≤ least)
      (calm : (i : ℕ) (u : Ranked) → slice_get ts i ≡ Some u → i < k → eager u.task.name ≡ false)
      (starts : (i j : ℕ) (u t : Ranked) (op : Signature) (separation : ℕ) → slice_get ts i ≡ Some u → slice_get ts j ≡ Some t
      → t.task.timing ≡ timing.Sporadic op separation None → can_request (program_services p) t.task.name u.task.block ≡ true → i < k)
      (table : IsTable (take k rows)) where
    -- a task of the front is as it was
    as-it-was : (i : ℕ) (u : Ranked) → slice_get ts i ≡ Some u → i < k → lift_ranked least eager u ≡ u
    as-it-was i u e less =
        ap₂ (λ (t : Task) (n : ℕ). let r : Ranked = record { task = t; priority = n } in r)
        (ap (λ b. record u.task { timing = retime b u.task.timing }) (calm i u e less) ∙ ap (λ z. record u.task { timing = z }) (timed u.task.timing))
        (let h = high i u e less in omega (arith, h))
      where
        timed : (z : Timing) → retime false z ≡ z
        timed (timing.Cyclic period offset) = refl
        timed (timing.Sporadic op separation jitter) = refl

    ranked-each : (P : Ranked → Type 0) → ((j : ℕ) (u : Ranked) → slice_get (ranked p) j ≡ Some u → P (lift_ranked least eager u)) → Each P (ranked q)
    ranked-each P f = subst (Each P) (sym ranked-lifted) (each-map (lift_ranked least eager) P (ranked p)
        (each-by (λ u. P (lift_ranked least eager u)) (ranked p) f))

    tasks : Each (λ t. (j : ℕ) × (slice_get (ranked q) j ≡ Some t)) (take k ts)
    tasks = each-by (λ t. (j : ℕ) × (slice_get (ranked q) j ≡ Some t)) (take k ts) (λ i t e.
        let at = take-at k ts i t e in
        let j = all-at (λ u. (j : ℕ) × (slice_get (ranked p) j ≡ Some u)) ts i t tabled.tasks at.1 in
        (j.0, ap (λ us. slice_get us j.0) ranked-lifted ∙ map-at (lift_ranked least eager) (ranked p) j.0 t j.1 ∙ ap Some (as-it-was i t at.1 at.0)))

    outside : Each (λ u. is_among (take k ts) u.task.name ≡ false → Each (λ t. u.priority < t.priority) (take k ts)) (ranked q)
    outside = ranked-each _ (λ j u e apart. by u (all-at (λ u. (i : ℕ) × (slice_get ts i ≡ Some u)) (ranked p) j u all e) apart)
      where
        by : (u : Ranked) → (i : ℕ) × (slice_get ts i ≡ Some u) → is_among (take k ts) u.task.name ≡ false
            → Each (λ t. max least u.priority < t.priority) (take k ts)
        by u (i, at) apart = cases (nat_lt i k) refl
          where
            cases : (b : Bool) → nat_lt i k ≡ b → Each (λ t. max least u.priority < t.priority) (take k ts)
            cases true e =
                let less : i < k = grind arith in
                let among : is_among (take k ts) u.task.name ≡ true =
                any-in (λ w. same_name w.task.name u.task.name) u (take k ts) (at-in (take k ts) i u (at-take k ts i u less at))
                (same-self u.task.name) in
                absurd (let z : true ≡ false = sym among ∙ apart in cc)
            cases false e =
                let more : k ≤ i = grind arith in
                let l : u.priority ≤ least = low i u at more in
                each-by (λ t. max least u.priority < t.priority) (take k ts) (λ a t g.
                let h = take-at k ts a t g in let m : least < t.priority = high a t h.1 h.0 in omega (arith, l, m))

    costs : (t : Ranked) (row : ThreadRow)
        → (row.period ≡ period_of t.task.timing) × (block_cost p.costs (program_services p) t.task.block + p.costs.finish ≤ row.cost)
        → (row.period ≡ period_of t.task.timing) × (block_cost q.costs (program_services q) t.task.block + q.costs.finish ≤ row.cost)
    costs t row h = (h.0, subst (λ ss. block_cost p.costs ss t.task.block + p.costs.finish ≤ row.cost) (sym services-same) h.1)

    ceilings : Each (λ u. CallsUpwards q u.priority u.task.block) (ranked q)
    ceilings = ranked-each _ (λ j u e. upwards u.priority (max least u.priority) u.task.block (all-at (λ u. 1 ≤ u.priority) (ranked p) j u positive e)
        (omega arith) (all-at (λ u. CallsUpwards p u.priority u.task.block) (ranked p) j u tabled.ceilings e))

    raised-most : (c d : ℕ) → IsRaised least c d → d ≤ max least c
    raised-most c d (inl e) = omega (arith, e)
    raised-most c d (inr e) = omega (arith, e.1)

    inner : Each (λ g. Each (λ o. CallsUpwards q (ceiling_named q g.name) o.block) g.ops) (program_software q).shared
    inner = subst (Each (λ g. Each (λ o. CallsUpwards q (ceiling_named q g.name) o.block) g.ops)) (sym shared-same)
        (each-by (λ g. Each (λ o. CallsUpwards q (ceiling_named q g.name) o.block) g.ops) (program_software p).shared (λ j g e.
        each-to (λ o. CallsUpwards p (ceiling_named p g.name) o.block) (λ o. CallsUpwards q (ceiling_named q g.name) o.block) g.ops
        (λ o h. upwards (ceiling_named p g.name) (ceiling_named q g.name) o.block
        (all-at (λ z. 1 ≤ ceiling_named p z.name) (program_software p).shared j g ceiled e)
        (raised-most (ceiling_named p g.name) (ceiling_named q g.name) (ceiling-raised g.name)) h)
        (all-at (λ z. Each (λ o. CallsUpwards p (ceiling_named p z.name) o.block) z.ops) (program_software p).shared j g tabled.inner_ceilings e)))

    blocks : (i : ℕ) (t : Ranked) (row : ThreadRow) → i < k → slice_get ts i ≡ Some t
        → Each (λ u. u.priority < t.priority → Each (λ s. t.priority ≤ ceiling_named p s.object → s.cost ≤ row.block) (task_sections p u.task))
        (ranked p)
        → Each (λ u. u.priority < t.priority → Each (λ s. t.priority ≤ ceiling_named q s.object → s.cost ≤ row.block) (task_sections q u.task))
        (ranked q)
    blocks i t row less at h = ranked-each _ (λ j u e under.
        subst (λ ss. Each (λ s. t.priority ≤ ceiling_named q s.object → s.cost ≤ row.block) (sections p.costs ss u.task.block)) (sym services-same)
        (each-to (λ s. t.priority ≤ ceiling_named p s.object → s.cost ≤ row.block) (λ s. t.priority ≤ ceiling_named q s.object → s.cost ≤ row.block)
        (task_sections p u.task) (λ s f reach. f (number (ceiling_named p s.object) (ceiling_named q s.object) (ceiling-raised s.object) reach))
        (all-at (λ u. u.priority < t.priority → Each (λ s. t.priority ≤ ceiling_named p s.object → s.cost ≤ row.block) (task_sections p u.task))
        (ranked p) j u h e (let z : max least u.priority < t.priority = under in omega (arith, z)))))
      where
        number : (c d : ℕ) → IsRaised least c d → t.priority ≤ d → t.priority ≤ c
        number c d (inl e) r = let m : least < t.priority = high i t at less in omega (arith, e, r, m)
        number c d (inr e) r = let m : least < t.priority = high i t at less in absurd (omega (arith, e.1, r, m))

    started : (i : ℕ) (t : Ranked) (row : ThreadRow) → slice_get ts i ≡ Some t → (z : Timing) → t.task.timing ≡ z
        → IsStarted p ts row t.task.name z → IsStarted q (take k ts) row t.task.name z
    started i t row at (timing.Cyclic period offset) is h = tt
    started i t row at (timing.Sporadic op separation (Some jitter)) is h = h
    started i t row at (timing.Sporadic op separation None) is h = record {
      place = h.place;
      starter = h.starter;
      stands = at-take k ts h.place h.starter (starts h.place i h.starter t op separation h.stands at is h.requests) h.stands;
      told = h.told;
      requests = ap (λ ss. can_request ss t.task.name h.starter.task.block) services-same ∙ h.requests;
      alone = ranked-each _ (λ j u e can. all-at (λ u. can_request (program_services p) t.task.name u.task.block ≡ true
          → same_name u.task.name h.starter.task.name ≡ true) (ranked p) j u h.alone e
          (ap (λ ss. can_request ss t.task.name u.task.block) (sym services-same) ∙ can));
      period = h.period;
      once = subst (λ ss. block_starts ss (record { object = t.task.name; op = op.name }) h.starter.task.block ≤ 1) (sym services-same) h.once;
    }

    -- the front of the table is one of the front of the tasks
    pub front-tabled : AreTabled q (take k ts) (take k rows)
    front-tabled = record {
      table = table;
      tasks = tasks;
      falls = falls-take k ts tabled.falls;
      outside = outside;
      numbers = zip-take _ _ k ts rows tabled.numbers (λ i t row less at h. costs t row h);
      ceilings = ceilings;
      inner_ceilings = inner;
      blocks = zip-take _ _ k ts rows tabled.blocks (λ i t row less at h. blocks i t row less at h);
      started = zip-take _ _ k ts rows tabled.started (λ i t row less at h. started i t row at t.task.timing refl h);
    }
