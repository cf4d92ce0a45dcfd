-- What an activation leaves, by what the walk of its block answers.
use Rattle.std.proofs.Common.{◌≡◌, ◌+◌, ◌-◌, suc, ℕ, Bool, true, false, ◌&&◌, List, Option, Some, None, refl, sym, ap, ◌∙◌, append-nil}
use Rattle.std.proofs.Common.{arith, subst, ◌++◌}
use Rattle.std.specs.Prelude.{◌==◌, is_some, option_map, option_to_list, if◌then◌else◌}
use Rattle.std.proofs.Math.Bool.{and-true, and-false}
use Rattle.seq_tree.specs.Runs.{Path}
use Rattle.seq_tree.specs.Variables.{Variables, entered, kept}
use Rattle.guarantee.specs.Software.{Software, Task}
use Rattle.law_traces.specs.Progress as laws
use Rattle.law_traces.specs.Progress.{ends_by, left_by, left_by_course}
use Rattle.law_traces.specs.Checks.{run_along}
use Rattle.guarantee.specs.Scripts.{released_vars}
use Rattle.seq_tree.specs.Statements.{Statements}
use Rattle.seq_tree.specs.Trees.{block_of}
use Rattle.seq_eval.specs.declared.env.Env.{Env}
use Rattle.trace_scripts.specs.declared.progress.Thread.{Thread}
use Rattle.trace_scripts.specs.Scenes.{IsWalk}
use Rattle.trace_scripts.specs.Threads.{IsOf, after_event, charged_by, entered_if, finished_if, left_if, seen_if}
use Rattle.trace_tree.specs.declared.event.Event as machine
use Rattle.trace_scripts.specs.Scripts.{IsAt, action_at, action_by}
use Rattle.trace_scripts.proofs.Holding.{at-index}
use Rattle.law_traces.specs.Entries.{Shown}
use Rattle.law_traces.specs.Progress.{after_deed}
use Rattle.seq_tree.specs.Names.{Name}
use Rattle.seq_tree.specs.Runs as runs
use Rattle.seq_tree.specs.declared.tree.OpName.{OpName}
use Rattle.ada_tree.specs.Programs.{Program}
use Rattle.guarantee.specs.Software.{program_software}
use Rattle.guarantee.specs.Events.{Deed, Release, Arrive, Enter, Leave, Request, Print, End, Stop, Event, By, named_event}
use Rattle.law_traces.specs.Checks.{action_of}
use Rattle.trace_scripts.specs.declared.walks.Walked.{Walked}
use Rattle.trace_scripts.specs.declared.walks.Walked.TheVariants.{Ran, Begun, Astray}

pub ruleset show_steps = (append-nil)

module _ (w : Software) (t : Task) (c : laws.Course) (at used : ℕ) (o : Option Path) (begins : Bool) (after : Variables) where
  abbrev end : Option (ℕ × ℕ)
  end = Some (at, used)

  pub ran-left : (low high : ℕ) (data' : Variables) → IsWalk o begins (Ran low high) after → charged_by w.costs.finish c low high at used ≡ true
      → data' ≡ kept t.vars after → (let r : Option Variables = Some data' in r) ≡ left_by w t c o end
  ran-left low high data' h e k = by o h
    where
      by : (o : Option Path) → IsWalk o begins (Ran low high) after → (let r : Option Variables = Some data' in r) ≡ left_by w t c o end
      by None h = absurd h
      by (Some p) h =
          let F : Bool → Option Variables = λ b. if b then Some (kept t.vars p.vars) else None in
          ap (λ z. Some z) (k ∙ ap (kept t.vars) h.1) ∙ ap F (sym e) ∙ ap (λ z. F (charged_by w.costs.finish c z high at used)) h.2
          ∙ ap (λ z. F (charged_by w.costs.finish c p.low z at used)) h.3

  pub ran-none : (low high : ℕ) → IsWalk o begins (Ran low high) after → charged_by w.costs.finish c low high at used ≡ false
      → (let r : Option Variables = None in r) ≡ left_by w t c o end
  ran-none low high h e = by o h
    where
      by : (o : Option Path) → IsWalk o begins (Ran low high) after → (let r : Option Variables = None in r) ≡ left_by w t c o end
      by None h = absurd h
      by (Some p) h =
          let F : Bool → Option Variables = λ b. if b then Some (kept t.vars p.vars) else None in
          ap F (sym e) ∙ ap (λ z. F (charged_by w.costs.finish c z high at used)) h.2
          ∙ ap (λ z. F (charged_by w.costs.finish c p.low z at used)) h.3

  pub begun-none : IsWalk o begins Begun after → (let r : Option Variables = None in r) ≡ left_by w t c o end
  begun-none h = by o h
    where
      by : (o : Option Path) → IsWalk o begins Begun after → (let r : Option Variables = None in r) ≡ left_by w t c o end
      by None h = refl
      by (Some p) h = absurd h

  pub astray-none : IsWalk o begins Astray after → (let r : Option Variables = None in r) ≡ left_by w t c o end
  astray-none h = by o h
    where
      by : (o : Option Path) → IsWalk o begins Astray after → (let r : Option Variables = None in r) ≡ left_by w t c o end
      by None h = refl
      by (Some p) h = absurd h

pub plus-none : (n : ℕ) → n + 0 ≡ n
plus-none n = omega arith

pub ruleset deed_steps = (plus-none, and-true, and-false)

-- AN ACTIVATION of a thread
pub answered-so : (o : Option Path) (begins : Bool) (answer target : Walked) (after : Variables) → IsWalk o begins answer after → answer ≡ target
    → IsWalk o begins target after
answered-so o begins answer target after h e = subst (λ z. IsWalk o begins z after) e h

pub closing : (w : Software) (depth : ℕ) (t : Task) (thread : Thread) → IsOf t thread → (c : laws.Course) (data' env : Variables) (at used : ℕ)
    → env ≡ entered thread.params.now (option_to_list c.value) ++ data' → c.end ≡ Some (at, used) → (r : Option Variables)
    → r ≡ left_by w t c (run_along w depth (block_of thread.block.now) env c.shown) (Some (at, used)) → r ≡ left_by_course w depth t data' c
closing w depth t thread is c data' env at used opened ends r h =
    let F : Statements → Variables → Option (ℕ × ℕ) → Option Variables = λ b vs e. left_by w t c (run_along w depth b vs c.shown) e in
    h ∙ ap (λ b. F b env (Some (at, used))) (sym is.block) ∙ ap (λ vs. F t.block vs (Some (at, used))) opened
    ∙ ap (λ ps. F t.block (entered ps (option_to_list c.value) ++ data') (Some (at, used))) (sym is.params)
    ∙ ap (F t.block (released_vars t c.value data')) (sym ends)

pub ends-some : (w : Software) (depth : ℕ) (t : Task) (c : laws.Course) (data' : Variables) (left : Option Env)
    → option_map (λ (e : Env). e.slots.items) left ≡ left_by_course w depth t data' c → is_some c.end ≡ true
    → is_some left ≡ ends_by w depth t data' c c.end
ends-some w depth t c data' left h some =
    is-mapped left ∙ ap is_some h ∙ by c.end some
  where
    is-mapped : (o : Option Env) → is_some o ≡ is_some (option_map (λ (e : Env). e.slots.items) o)
    is-mapped None = refl
    is-mapped (Some x) = refl

    by : (e : Option (ℕ × ℕ)) → is_some e ≡ true → is_some (left_by_course w depth t data' c) ≡ ends_by w depth t data' c e
    by None k = absurd (cc)
    by (Some f) k = refl

-- ONE DEED
same-course : (c : laws.Course) (shown : Shown) (end' : Option (ℕ × ℕ)) (depth depth' : ℕ) (among among' : Bool) (low low' high high' : ℕ)
    → depth ≡ depth' → among ≡ among' → low ≡ low' → high ≡ high'
    → (let k : laws.Course = record c { shown = shown; end = end'; depth = depth; among = among; low = low; high = high } in k)
    ≡ record c { shown = shown; end = end'; depth = depth'; among = among'; low = low'; high = high' }
same-course c shown end' depth depth' among among' low low' high high' e f g h =
    let F : ℕ → Bool → ℕ → ℕ → laws.Course = λ d a l m. record c { shown = shown; end = end'; depth = d; among = a; low = l; high = m } in
    ap (λ d. F d among low high) e ∙ ap (λ a. F depth' a low high) f ∙ ap (λ l. F depth' among' l high) g ∙ ap (F depth' among' low') h

pub plain-course : (c : laws.Course) (shown : Shown) (end' : Option (ℕ × ℕ)) (depth : ℕ)
    → (let k : laws.Course = record c { shown = shown; end = end'; depth = depth } in k)
    ≡ record c { shown = shown; end = end'; depth = depth; among = c.among && true; low = c.low + 0; high = c.high + 0 }
plain-course c shown end' depth =
    same-course c shown end' depth depth c.among (c.among && true) c.low (c.low + 0) c.high (c.high + 0) refl (sym (and-true c.among))
    (sym (plus-none c.low)) (sym (plus-none c.high))

pub enter-deed : (p : Program) (time : ℕ) (task : Name) (name : OpName) (values : List ℕ) (a : Option runs.Action) (good : Bool) (charge : ℕ × ℕ)
    (c : laws.Course) → a ≡ action_by p (By time task (Enter name values))
    → entered_if a good charge c ≡ after_event p good charge (By time task (Enter name values)) c
enter-deed p time task name values a good charge c e =
    ap (λ z. entered_if z good charge c) e ∙ by good
  where
    w : Software
    w = program_software p

    one : (n : ℕ) → n + 1 ≡ suc n
    one n = omega arith

    by : (b : Bool) → entered_if (action_of w (Enter name values)) b charge c ≡ after_deed w b charge time (Enter name values) c
    by true = same-course c _ _ (c.depth + 1) (suc c.depth) (c.among && true) (c.among && true) (c.low + charge.0) (c.low + charge.0)
        (c.high + charge.1) (c.high + charge.1) (one c.depth) refl refl refl
    by false = same-course c _ _ (c.depth + 1) (suc c.depth) (c.among && false) (c.among && false) (c.low + 0) (c.low + 0) (c.high + 0) (c.high + 0)
        (one c.depth) refl refl refl

pub leave-deed : (p : Program) (time : ℕ) (task : Name) (name : OpName) (values : List ℕ) (a : Option runs.Action) (good : Bool) (charge : ℕ × ℕ)
    (c : laws.Course) → a ≡ action_by p (By time task (Leave name values))
    → left_if a c ≡ after_event p good charge (By time task (Leave name values)) c
leave-deed p time task name values a good charge c e =
    ap (λ z. left_if z c) e ∙ plain-course c _ _ (c.depth - 1)

pub end-deed : (p : Program) (time : ℕ) (task : Name) (used : ℕ) (good : Bool) (charge : ℕ × ℕ) (c : laws.Course)
    → finished_if (c.depth == 0) time used c ≡ after_event p good charge (By time task (End used)) c
end-deed p time task used good charge c = plain-course c _ _ c.depth

abbrev pub is_plain_deed : Deed → Bool
is_plain_deed (Enter name values) = false
is_plain_deed (Leave name values) = false
is_plain_deed (End used) = false
is_plain_deed _ = true

pub plain-deed : (p : Program) (time : ℕ) (task : Name) (deed : Deed) (a : Option runs.Action) (good : Bool) (charge : ℕ × ℕ) (c : laws.Course)
    → is_plain_deed deed ≡ true → a ≡ action_by p (By time task deed)
    → seen_if (c.depth == 0) a c ≡ after_event p good charge (By time task deed) c
plain-deed p time task (Release v) a good charge c k e = ap (λ z. seen_if (c.depth == 0) z c) e ∙ plain-course c _ _ c.depth
plain-deed p time task (Arrive v) a good charge c k e = ap (λ z. seen_if (c.depth == 0) z c) e ∙ plain-course c _ _ c.depth
plain-deed p time task (Enter name values) a good charge c k e = absurd (cc)
plain-deed p time task (Leave name values) a good charge c k e = absurd (cc)
plain-deed p time task (Request target v) a good charge c k e = ap (λ z. seen_if (c.depth == 0) z c) e ∙ plain-course c _ _ c.depth
plain-deed p time task (Print v) a good charge c k e = ap (λ z. seen_if (c.depth == 0) z c) e ∙ plain-course c _ _ c.depth
plain-deed p time task (End used) a good charge c k e = absurd (cc)
plain-deed p time task (Stop object priority ceiling) a good charge c k e = ap (λ z. seen_if (c.depth == 0) z c) e ∙ plain-course c _ _ c.depth

-- THE EVENT at an index
module _ (p : Program) (es : List machine.Event) (here : ℕ) (e : machine.Event) (at : IsAt es here e) (good : Bool) (charge : ℕ × ℕ)
    (c c' : laws.Course)
  where
    shown-as : (x : Event) → named_event p e ≡ x → action_at p es here ≡ action_by p x
    shown-as x is = at-index p es here e at ∙ ap (action_by p) is

    pub enter-step : (time : ℕ) (task : Name) (name : OpName) (values : List ℕ) → named_event p e ≡ By time task (Enter name values)
        → (is_some (action_at p es here) ≡ true → c' ≡ entered_if (action_at p es here) good charge c)
        → c' ≡ after_event p good charge (named_event p e) c
    enter-step time task name values is does =
        let same : action_at p es here ≡ action_by p (By time task (Enter name values)) = shown-as (By time task (Enter name values)) is in
        does (ap is_some same) ∙ enter-deed p time task name values (action_at p es here) good charge c same
        ∙ ap (λ z. after_event p good charge z c) (sym is)

    pub leave-step : (time : ℕ) (task : Name) (name : OpName) (values : List ℕ) → named_event p e ≡ By time task (Leave name values)
        → (is_some (action_at p es here) ≡ true → c' ≡ left_if (action_at p es here) c)
        → c' ≡ after_event p good charge (named_event p e) c
    leave-step time task name values is does =
        let same : action_at p es here ≡ action_by p (By time task (Leave name values)) = shown-as (By time task (Leave name values)) is in
        does (ap is_some same) ∙ leave-deed p time task name values (action_at p es here) good charge c same
        ∙ ap (λ z. after_event p good charge z c) (sym is)

    pub plain-step : (time : ℕ) (task : Name) (deed : Deed) → named_event p e ≡ By time task deed → is_plain_deed deed ≡ true → (b : Bool)
        → is_some (action_by p (By time task deed)) ≡ b
        → (is_some (action_at p es here) ≡ b → c' ≡ seen_if (c.depth == 0) (action_at p es here) c)
        → c' ≡ after_event p good charge (named_event p e) c
    plain-step time task deed is plain b shown does =
        let same : action_at p es here ≡ action_by p (By time task deed) = shown-as (By time task deed) is in
        does (ap is_some same ∙ shown) ∙ plain-deed p time task deed (action_at p es here) good charge c plain same
        ∙ ap (λ z. after_event p good charge z c) (sym is)

pub ruleset step_steps = (enter-deed, leave-deed, end-deed, plain-deed)
