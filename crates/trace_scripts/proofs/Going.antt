-- One event of a thread, by whether it is released outside of operations.
use Rattle.std.proofs.Common.{◌≡◌, ℕ, zero, suc, Bool, true, false, Option, Some, None, refl, sym, ap, ◌∙◌, arith}
use Rattle.std.specs.Prelude.{◌-◌, ◌==◌}
use Rattle.std.proofs.lemmas.Bool.{eqb-true}
use Rattle.seq_tree.specs.Variables.{Variables}
use Rattle.ada_tree.specs.Programs.{Program}
use Rattle.guarantee.specs.Software.{Task, program_software}
use Rattle.guarantee.specs.Events.{Release, Arrive, Enter, Leave, Request, Print, End, Stop, Event, By, Horizon}
use Rattle.law_traces.specs.Progress as laws
use Rattle.law_traces.specs.Progress.{active_by, after_deed, again_by, course_from, is_good, left_by_course}
use Rattle.trace_scripts.specs.Threads.{after_event, is_at_horizon, released_in, step_by}

none-some : {A : Type 0} (x : A) → (let o : Option A = None in o) ≡ Some x → ⊥
none-some x e = absurd (cc)

module _ (p : Program) (depth : ℕ) (t : Task) (good : Bool) (charge : ℕ × ℕ) (data' : Variables) where
  -- an activation goes on where no release stands outside of operations
  pub goes-on : (e : Event) (c : laws.Course) → released_in e ≡ None
      → laws.Active data' (after_event p good charge e c) ≡ step_by p depth t good charge e (laws.Active data' c)
  goes-on (Horizon time) c h = refl
  goes-on (By time task (Release value)) c h = absurd (none-some (time, value) (sym h))
  goes-on (By time task (Arrive value)) c h = by c.depth
    where
      by : (n : ℕ) → laws.Active data' (after_event p good charge (By time task (Arrive value)) c)
          ≡ active_by (program_software p) depth t true charge time n (Arrive value) data' c
      by zero = refl
      by (suc n) = refl
  goes-on (By time task (Enter name values)) c h = by c.depth
    where
      by : (n : ℕ) → laws.Active data' (after_event p good charge (By time task (Enter name values)) c)
          ≡ active_by (program_software p) depth t good charge time n (Enter name values) data' c
      by zero = refl
      by (suc n) = refl
  goes-on (By time task (Leave name values)) c h = by (c.depth - 1)
    where
      by : (n : ℕ) → laws.Active data' (after_event p good charge (By time task (Leave name values)) c)
          ≡ active_by (program_software p) depth t true charge time n (Leave name values) data' c
      by zero = refl
      by (suc n) = refl
  goes-on (By time task (Request target value)) c h = by c.depth
    where
      by : (n : ℕ) → laws.Active data' (after_event p good charge (By time task (Request target value)) c)
          ≡ active_by (program_software p) depth t true charge time n (Request target value) data' c
      by zero = refl
      by (suc n) = refl
  goes-on (By time task (Print value)) c h = by c.depth
    where
      by : (n : ℕ) → laws.Active data' (after_event p good charge (By time task (Print value)) c)
          ≡ active_by (program_software p) depth t true charge time n (Print value) data' c
      by zero = refl
      by (suc n) = refl
  goes-on (By time task (End used)) c h = by c.depth
    where
      by : (n : ℕ) → laws.Active data' (after_event p good charge (By time task (End used)) c)
          ≡ active_by (program_software p) depth t true charge time n (End used) data' c
      by zero = refl
      by (suc n) = refl
  goes-on (By time task (Stop object priority ceiling)) c h = by c.depth
    where
      by : (n : ℕ) → laws.Active data' (after_event p good charge (By time task (Stop object priority ceiling)) c)
          ≡ active_by (program_software p) depth t true charge time n (Stop object priority ceiling) data' c
      by zero = refl
      by (suc n) = refl

  -- and inside of operations
  pub goes-inside : (e : Event) (c : laws.Course) → (c.depth == 0) ≡ false
      → laws.Active data' (after_event p good charge e c) ≡ step_by p depth t good charge e (laws.Active data' c)
  goes-inside e c h = by e (released_in e) refl
    where
      deep : (n : ℕ) (time : ℕ) (value : Option ℕ) → (n == 0) ≡ false
          → laws.Active data' (after_deed (program_software p) true charge time (Release value) c)
          ≡ active_by (program_software p) depth t true charge time n (Release value) data' c
      deep zero time value k = absurd (cc)
      deep (suc n) time value k = refl

      by : (e : Event) (o : Option (ℕ × Option ℕ)) → released_in e ≡ o
          → laws.Active data' (after_event p good charge e c) ≡ step_by p depth t good charge e (laws.Active data' c)
      by (By time task (Release value)) o k = deep c.depth time value h
      by e None k = goes-on e c k
      by (By time task (Arrive value)) (Some r) k = absurd (none-some r k)
      by (By time task (Enter name values)) (Some r) k = absurd (none-some r k)
      by (By time task (Leave name values)) (Some r) k = absurd (none-some r k)
      by (By time task (Request target value)) (Some r) k = absurd (none-some r k)
      by (By time task (Print value)) (Some r) k = absurd (none-some r k)
      by (By time task (End used)) (Some r) k = absurd (none-some r k)
      by (By time task (Stop object priority ceiling)) (Some r) k = absurd (none-some r k)
      by (Horizon time) (Some r) k = absurd (none-some r k)

  -- a release outside of operations
  pub comes-again : (e : Event) (c : laws.Course) (time : ℕ) (value : Option ℕ) (left : Option Variables) → released_in e ≡ Some (time, value)
      → (c.depth == 0) ≡ true → left ≡ left_by_course (program_software p) depth t data' c
      → again_by time value left ≡ step_by p depth t good charge e (laws.Active data' c)
  comes-again (Horizon at) c time value left h k l = absurd (none-some (time, value) h)
  comes-again (By at task (Release v)) c time value left h k l = by c.depth k (same-pair at time v value (same-some h))
    where
      same-some : {A : Type 0} {x y : A} → Some x ≡ Some y → x ≡ y
      same-some e = cc

      same-pair : (a b : ℕ) (x y : Option ℕ) → (let r : ℕ × Option ℕ = (a, x) in r) ≡ (b, y) → (a ≡ b) × (x ≡ y)
      same-pair a b x y e = (ap (λ r. r.0) e, ap (λ r. r.1) e)

      by : (n : ℕ) → (n == 0) ≡ true → (at ≡ time) × (v ≡ value)
          → again_by time value left ≡ active_by (program_software p) depth t true charge at n (Release v) data' c
      by zero z s =
          ap (λ a. again_by a value left) (sym s.0) ∙ ap (λ b. again_by at b left) (sym s.1) ∙ ap (again_by at v) l
      by (suc n) z s = let k : suc n ≡ zero = eqb-true (suc n) zero z in absurd (omega (arith, k))
  comes-again (By at task (Arrive v)) c time value left h k l = absurd (none-some (time, value) h)
  comes-again (By at task (Enter name values)) c time value left h k l = absurd (none-some (time, value) h)
  comes-again (By at task (Leave name values)) c time value left h k l = absurd (none-some (time, value) h)
  comes-again (By at task (Request target v)) c time value left h k l = absurd (none-some (time, value) h)
  comes-again (By at task (Print v)) c time value left h k l = absurd (none-some (time, value) h)
  comes-again (By at task (End used)) c time value left h k l = absurd (none-some (time, value) h)
  comes-again (By at task (Stop object priority ceiling)) c time value left h k l = absurd (none-some (time, value) h)

  -- a thread that was not released
  pub goes-astray : (e : Event) → released_in e ≡ None → is_at_horizon e ≡ false → laws.Astray ≡ step_by p depth t good charge e (laws.Idle data')
  goes-astray (Horizon time) h k = absurd (cc)
  goes-astray (By time task (Release value)) h k = absurd (none-some (time, value) (sym h))
  goes-astray (By time task (Arrive value)) h k = refl
  goes-astray (By time task (Enter name values)) h k = refl
  goes-astray (By time task (Leave name values)) h k = refl
  goes-astray (By time task (Request target value)) h k = refl
  goes-astray (By time task (Print value)) h k = refl
  goes-astray (By time task (End used)) h k = refl
  goes-astray (By time task (Stop object priority ceiling)) h k = refl

  pub comes-first : (e : Event) (time : ℕ) (value : Option ℕ) → released_in e ≡ Some (time, value)
      → laws.Active data' (course_from time value) ≡ step_by p depth t good charge e (laws.Idle data')
  comes-first (By at task (Release v)) time value h =
      let s : (let r : ℕ × Option ℕ = (at, v) in r) ≡ (time, value) = same-some h in
      let F : ℕ × Option ℕ → laws.Progress = λ r. laws.Active data' (course_from r.0 r.1) in
      sym (ap F s)
    where
      same-some : {A : Type 0} {x y : A} → Some x ≡ Some y → x ≡ y
      same-some e = cc
  comes-first (Horizon at) time value h = absurd (none-some (time, value) h)
  comes-first (By at task (Arrive v)) time value h = absurd (none-some (time, value) h)
  comes-first (By at task (Enter name values)) time value h = absurd (none-some (time, value) h)
  comes-first (By at task (Leave name values)) time value h = absurd (none-some (time, value) h)
  comes-first (By at task (Request target v)) time value h = absurd (none-some (time, value) h)
  comes-first (By at task (Print v)) time value h = absurd (none-some (time, value) h)
  comes-first (By at task (End used)) time value h = absurd (none-some (time, value) h)
  comes-first (By at task (Stop object priority ceiling)) time value h = absurd (none-some (time, value) h)

  pub stays-astray : (e : Event) → laws.Astray ≡ step_by p depth t good charge e laws.Astray
  stays-astray (By time task deed) = refl
  stays-astray (Horizon time) = refl

pub ruleset going_steps = (goes-astray, comes-first, stays-astray, goes-on, goes-inside)
