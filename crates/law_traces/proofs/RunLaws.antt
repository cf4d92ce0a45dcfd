-- The run that deeds show: it is found exactly where there is one, and is then the only one; and so for the beginning of a run.
-- A request in a trace names its task alone; its operation is the one by which that task is requested.
use Rattle.std.proofs.Common.{◌≡◌, ℕ, zero, suc, Bool, true, false, List, [], ◌∷◌, ◌++◌, map, length, Option, Some, None, Ok, Err, refl, sym, ap}
use Rattle.std.proofs.Common.{subst, ◌∙◌, append_assoc, append-nil}
use Rattle.std.specs.Prelude.{◌==◌, Result, ⊤}
use Rattle.std.proofs.lemmas.Option.{same_Some, none-some}
use Rattle.std.proofs.lemmas.Bool.{eqb-true, eq-eqb}
use Rattle.grammar.specs.Reading.{Halt, left_of, IsFirstFault}
use Rattle.seq_tree.specs.Lists.{Each}
use Rattle.seq_tree.specs.Names.{Name}
use Rattle.seq_tree.specs.Expressions.{Expression}
use Rattle.seq_tree.specs.Statements.{Statement, Statements, Branches, Null, Assign, If, For, ExitWhen, Call, Work, Put, End, Then, Nothing}
use Rattle.seq_tree.specs.Statements.{Else, When}
use Rattle.seq_tree.specs.Operations.{Operation}
use Rattle.seq_tree.specs.Variables.{Variables}
use Rattle.seq_tree.specs.Values.{holds}
use Rattle.seq_tree.specs.Dearest.{turn_count}
use Rattle.seq_tree.specs.Runs.{Action, Path, Setting, Callee, Plain, Protected, Asked, Unknown, silent, joined, turned, Followed, Turns, Called}
use Rattle.seq_tree.specs.Runs.{Chosen, RunStatement, RunBlock, RunBranch, RunBody, Run, BeginsScript}
use Rattle.seq_tree.specs.Runs as runs
use Rattle.seq_tree.specs.declared.tree.Costs.{Costs}
use Rattle.seq_tree.specs.declared.tree.OpName.{OpName}
use Rattle.guarantee.specs.Software.{Software, leads_to}
use Rattle.guarantee.specs.Events.{Deed, Release, Arrive, Enter, Leave, Request, Print, End as Ended, Stop}
use Rattle.guarantee.specs.Steps.{shown}
use Rattle.law_walks.specs.Fit.{MayRun}
use Rattle.law_walks.specs.Laws.{RunOf, Tells}
use Rattle.law_walks.proofs.Shared.Exact.{tells}
use Rattle.law_traces.specs.Clear.{asked_op, IsClear}
use Rattle.law_traces.specs.Checks.{action_of, both, scripted, walked, run_by, begins_by, run_along, begins_along, run_of, begins}

-- an action whose request is of the operation by which its task is requested
abbrev IsOwn : (Name → Name) → Action → Type 0
IsOwn own (runs.Request name v) = own name.object ≡ name.op
IsOwn own _ = ⊤

each-append : {A : Type 0} (P : A → Type 0) (xs ys : List A) → Each P xs → Each P ys → Each P (xs ++ ys)
each-append P [] ys h i = i
each-append P (x ∷ xs) ys h i = (h.0, each-append P xs ys h.1 i)

each-front : {A : Type 0} (P : A → Type 0) (xs ys : List A) → Each P (xs ++ ys) → Each P xs
each-front P [] ys h = tt
each-front P (x ∷ xs) ys h = (h.0, each-front P xs ys h.1)

module _ (costs : Costs) (calls : Name → Name → Callee) (own : Name → Name) (asked : (object op : Name) → calls object op ≡ Asked → own object ≡ op)
  where
    abbrev AreOwn : Path → Type 0
    AreOwn p = Each (IsOwn own) p.script

    own-same : (p q : Path) → p ≡ q → AreOwn q → AreOwn p
    own-same p q e h = subst AreOwn (sym e) h

    own-followed : (b : Bool) (first : Path) (Next : Path → Type 0) (p : Path) → AreOwn first → ((q : Path) → Next q → AreOwn q)
        → Followed b first Next p → AreOwn p
    own-followed true first Next p one two h = own-same p first h one
    own-followed false first Next p one two h =
        own-same p (joined first h.0) h.2 (each-append (IsOwn own) first.script h.0.script one (two h.0 h.1))

    own-turns : (n at turn : ℕ) (name : Name) (Body : Variables → Path → Type 0) → ((vars : Variables) (q : Path) → Body vars q → AreOwn q)
        → (vars : Variables) (p : Path) → Turns n at turn name Body vars p → AreOwn p
    own-turns zero at turn name Body one vars p h = own-same p (silent 0 vars) h tt
    own-turns (suc n) at turn name Body one vars p h =
        own-followed h.0.left (turned turn h.0) _ p (one _ h.0 h.1) (λ q i. own-turns n (suc at) turn name Body one _ q i) h.2

    own-chosen : (b : Bool) (First Second : Path → Type 0) (p : Path) → ((q : Path) → First q → AreOwn q) → ((q : Path) → Second q → AreOwn q)
        → Chosen b First Second p → AreOwn p
    own-chosen true First Second p one two h = one p h
    own-chosen false First Second p one two h = two p h

    module _ (Body : Operation → Variables → Path → Type 0) (bodies : (o : Operation) (vars : Variables) (p : Path) → Body o vars p → AreOwn p) where
      abbrev here : Setting
      here = record { costs = costs; callee = calls; Body = Body }

      own-called : (object op : Name) (c : Callee) → calls object op ≡ c → (actuals : List Expression) (vars : Variables) (p : Path)
          → Called here (record { object = object; op = op }) c actuals vars p → AreOwn p
      own-called object op (Plain o) e actuals vars p h = own-same p _ h.2 (bodies o _ h.0 h.1)
      own-called object op (Protected params) e actuals vars p h = own-same p _ h.2 (tt, (tt, tt))
      own-called object op Asked e actuals vars p h = own-same p _ h (asked object op e, tt)
      own-called object op Unknown e actuals vars p h = absurd h

      mutual
        own-statement : (s : Statement) (vars : Variables) (p : Path) → RunStatement here s vars p → AreOwn p
        own-statement Null vars p h = own-same p _ h tt
        own-statement (Assign target e) vars p h = own-same p _ h tt
        own-statement (If branches) vars p h = own-branches branches vars p h
        own-statement (For name low high b) vars p h =
            own-turns (turn_count low high) low costs.turn name (RunBlock here b) (λ w q i. own-block b w q i) vars p h
        own-statement (ExitWhen condition) vars p h = own-same p _ h tt
        own-statement (Call object op actuals) vars p h = own-called object op (calls object op) refl actuals vars p h
        own-statement (Work ticks) vars p h = own-same p _ h tt
        own-statement (Put e) vars p h = own-same p _ h (tt, tt)

        own-block : (b : Statements) (vars : Variables) (p : Path) → RunBlock here b vars p → AreOwn p
        own-block End vars p h = own-same p _ h tt
        own-block (Then first rest) vars p h =
            own-followed h.0.left h.0 _ p (own-statement first vars h.0 h.1) (λ q i. own-block rest h.0.vars q i) h.2

        own-branches : (b : Branches) (vars : Variables) (p : Path) → RunBranch here b vars p → AreOwn p
        own-branches Nothing vars p h = own-same p _ h tt
        own-branches (Else block) vars p h = own-block block vars p h
        own-branches (When condition block others) vars p h =
            own-same p _ h.2 (own-chosen (holds condition vars) _ _ h.0 (λ q i. own-block block vars q i) (λ q i. own-branches others vars q i) h.1)

    own-body : (depth : ℕ) (o : Operation) (vars : Variables) (p : Path) → RunBody costs calls depth o vars p → AreOwn p
    own-body zero o vars p h = absurd h
    own-body (suc depth) o vars p h = own-block (RunBody costs calls depth) (own-body depth) o.block vars p h

    own-run : (b : Statements) (vars : Variables) (p : Path) → Run costs calls b vars p → AreOwn p
    own-run b vars p h = own-block (RunBody costs calls h.0) (own-body h.0) b vars p h.1

-- one more
both-some : {A : Type 0} (x : Option A) (xs : Option (List A)) (ys : List A) → both x xs ≡ Some ys
    → (y : A) × (more : List A) × (x ≡ Some y) × (xs ≡ Some more) × (y ∷ more ≡ ys)
both-some None xs ys e = absurd (none-some ys e)
both-some (Some x) None ys e = absurd (none-some ys e)
both-some (Some x) (Some xs) ys e = (x, xs, refl, refl, same_Some (x ∷ xs) ys e)

-- deeds and the actions that they show
shown-action : (w : Software) (d : Deed) (a : Action) → action_of w d ≡ Some a → shown a ≡ d
shown-action w (Enter name values) a e = ap shown (sym (same_Some _ a e))
shown-action w (Leave name values) a e = ap shown (sym (same_Some _ a e))
shown-action w (Request target v) a e = ap shown (sym (same_Some _ a e))
shown-action w (Print v) a e = ap shown (sym (same_Some _ a e))
shown-action w (Release v) a e = absurd (none-some a e)
shown-action w (Arrive v) a e = absurd (none-some a e)
shown-action w (Ended used) a e = absurd (none-some a e)
shown-action w (Stop object priority ceiling) a e = absurd (none-some a e)

shown-script : (w : Software) (ds : List Deed) (script : List Action) → scripted w ds ≡ Some script → map shown script ≡ ds
shown-script w [] script e = ap (map shown) (sym (same_Some [] script e))
shown-script w (d ∷ ds) script e =
    let p = both-some (action_of w d) (scripted w ds) script e in
    ap (map shown) (sym p.4) ∙ ap (λ x. x ∷ map shown p.1) (shown-action w d p.0 p.2) ∙ ap (λ xs. d ∷ xs) (shown-script w ds p.1 p.3)

action-shown : (w : Software) (a : Action) → IsOwn (asked_op w) a → action_of w (shown a) ≡ Some a
action-shown w (runs.Enter name values) h = refl
action-shown w (runs.Leave name values) h = refl
action-shown w (runs.Request name v) h =
    let one : OpName → Option Action = λ n. Some (runs.Request n v) in ap one (op_by name.object (asked_op w name.object) name.op h)
  where
    op_by : (object a b : Name) → a ≡ b → (let n : OpName = record { object = object; op = a } in n) ≡ record { object = object; op = b }
    op_by object a b e = cc
action-shown w (runs.Print v) h = refl

script-shown : (w : Software) (script : List Action) → Each (IsOwn (asked_op w)) script → scripted w (map shown script) ≡ Some script
script-shown w [] h = refl
script-shown w (a ∷ script) h =
    ap (λ x. both x (scripted w (map shown script))) (action-shown w a h.0) ∙ ap (both (Some a)) (script-shown w script h.1)

-- RUNS
run-by : (r : Result Path Halt) (p : Path) → run_by r ≡ Some p → r ≡ Ok p
run-by (Ok q) p e = ap Ok (same_Some q p e)
run-by (Err halt) p e = absurd (none-some p e)

-- a run that shows these deeds
abbrev pub ShowsRun : Software → Statements → Variables → List Deed → Path → Type 0
ShowsRun w b vars ds p = Run w.costs (leads_to w) b vars p × (map shown p.script ≡ ds)

-- the beginning of one
abbrev pub ShowsBegin : Software → Statements → Variables → List Deed → Type 0
ShowsBegin w b vars ds = (script : List Action) × BeginsScript w.costs (leads_to w) b vars script × (map shown script ≡ ds)

module _ (w : Software) (clear : IsClear w) (b : Statements) (may : MayRun (leads_to w) clear.depth b) (vars : Variables) where
  say : (script : List Action) → Tells w.costs (leads_to w) clear.depth b vars script
  say script = tells w.costs (leads_to w) clear.depth b vars script may

  owned : (p : Path) → Run w.costs (leads_to w) b vars p → Each (IsOwn (asked_op w)) p.script
  owned p h = own-run w.costs (leads_to w) (asked_op w) clear.asked b vars p h

  run-along : (ds : List Deed) (s : Option (List Action)) → scripted w ds ≡ s → (p : Path) → run_along w clear.depth b vars s ≡ Some p
      → ShowsRun w b vars ds p
  run-along ds None e p h = absurd (none-some p h)
  run-along ds (Some script) e p h =
      let f = (say script).found p (run-by (walked w clear.depth b vars script) p h) in
      (f.0, ap (map shown) (sym f.1) ∙ shown-script w ds script e)

  pub run-found : (ds : List Deed) (p : Path) → run_of w clear.depth b vars ds ≡ Some p → ShowsRun w b vars ds p
  unfolding run_of
  run-found ds p e = run-along ds (scripted w ds) refl p e

  pub run-only : (ds : List Deed) (p : Path) → ShowsRun w b vars ds p → run_of w clear.depth b vars ds ≡ Some p
  unfolding run_of
  run-only ds p h =
      let s : scripted w ds ≡ Some p.script = ap (scripted w) (sym h.1) ∙ script-shown w p.script (owned p h.0) in
      ap (run_along w clear.depth b vars) s ∙ ap run_by ((say p.script).only p (h.0, refl))

  begins-walk : (script : List Action) (r : Result Path Halt) → walked w clear.depth b vars script ≡ r → begins_by r ≡ true
      → BeginsScript w.costs (leads_to w) b vars script
  begins-walk script (Ok p) e h =
      let f = (say script).found p e in ([], (p, f.0, sym f.1 ∙ sym (append-nil script)))
  begins-walk script (Err halt) e h =
      let f = (say script).fault halt e in
      let ends : f.back ≡ [] = nothing f.back (f.place ∙ eqb-true (left_of halt) 0 h) in
      let front : script ≡ f.front = f.split ∙ ap (λ t. f.front ++ t) ends ∙ append-nil f.front in
      (f.tail, (f.last, f.begins.0, sym f.begins.1 ∙ ap (λ t. t ++ f.tail) (sym front)))
    where
      nothing : (xs : List Action) → length xs ≡ 0 → xs ≡ []
      nothing [] e = refl
      nothing (x ∷ xs) e = cc

  begins-along : (ds : List Deed) (s : Option (List Action)) → scripted w ds ≡ s → begins_along w clear.depth b vars s ≡ true
      → ShowsBegin w b vars ds
  begins-along ds None e h = cc
  begins-along ds (Some script) e h =
      (script, begins-walk script (walked w clear.depth b vars script) refl h, shown-script w ds script e)

  pub begins-found : (ds : List Deed) → begins w clear.depth b vars ds ≡ true → ShowsBegin w b vars ds
  unfolding begins
  begins-found ds e = begins-along ds (scripted w ds) refl e

  walk-begins : (script : List Action) → BeginsScript w.costs (leads_to w) b vars script → (r : Result Path Halt)
      → walked w clear.depth b vars script ≡ r → begins_by r ≡ true
  walk-begins script h (Ok p) e = refl
  walk-begins script h (Err halt) e = at-end ((say script).fault halt e)
    where
      at-end : IsFirstFault (RunOf w.costs (leads_to w) b vars) script (left_of halt) → (left_of halt == 0) ≡ true
      at-end f = by f.back refl
        where
          by : (xs : List Action) → f.back ≡ xs → (left_of halt == 0) ≡ true
          by [] e = eq-eqb (left_of halt) 0 (sym f.place ∙ ap length e)
          by (t ∷ rest) e =
              let goes : f.front ++ t ∷ (rest ++ h.0) ≡ h.1.0.script =
              sym (append_assoc f.front (t ∷ rest) h.0) ∙ ap (λ xs. xs ++ h.0) (sym (f.split ∙ ap (λ xs. f.front ++ xs) e)) ∙ sym h.1.2 in
              absurd (f.ends t rest (rest ++ h.0) h.1.0 e (h.1.1, goes))

  pub begins-only : (ds : List Deed) → ShowsBegin w b vars ds → begins w clear.depth b vars ds ≡ true
  unfolding begins
  begins-only ds h =
      let script : List Action = h.0 in
      let all = owned h.1.1.0 h.1.1.1 in
      let own : Each (IsOwn (asked_op w)) script =
      each-front (IsOwn (asked_op w)) script h.1.0 (subst (Each (IsOwn (asked_op w))) h.1.1.2 all) in
      let s : scripted w ds ≡ Some script = ap (scripted w) (sym h.2) ∙ script-shown w script own in
      ap (begins_along w clear.depth b vars) s ∙ walk-begins script h.1 (walked w clear.depth b vars script) refl
