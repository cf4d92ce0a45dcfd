-- What is claimed of a cyclic task and carried back holds of each run without a stop, from its opening on.
use Rattle.std.specs.Prelude.{◌≡◌, ℕ, zero, suc, Bool, true, false, List, ◌∷◌, drop, Option, Some, slice_get, option_map, refl, if◌then◌else◌}
use Rattle.std.specs.List.{list_any}
use Rattle.std.proofs.Common.{sym, ◌∙◌, ap, subst, arith}
use Rattle.std.proofs.lemmas.Option.{slice_get-map, same_Some}
use Rattle.seq_tree.specs.Lists.{Each}
use Rattle.seq_tree.specs.Values.{holds}
use Rattle.seq_tree.specs.Variables.{Variables}
use Rattle.ada_tree.specs.Programs.{Program}
use Rattle.ada_tree.specs.Rules.{MeetsRules}
use Rattle.arrivals_tree.specs.declared.arrivals.Arrival.{Arrival}
use Rattle.arrivals_tree.specs.Arriving.{Arrivals}
use Rattle.arrivals_tree.specs.Acceptance.{IsAccepted}
use Rattle.trace_tree.specs.declared.event.Event as machine
use Rattle.machine.specs.Systems.{System, TaskUnit, ReleasePattern, Periodic, CallTarget, Plain, Protected, Request, Unknown, callee}
use Rattle.machine.specs.Systems.{system}
use Rattle.machine.specs.Pieces.{Piece, Idle, Store, Leaving, Calling, Working, Printing, Testing, Turning, Turned, Returning, Closing, Keeping}
use Rattle.machine.specs.Pieces.{Opening, Requested as RequestEnd, Finishing, after_loop}
use Rattle.machine.specs.Deeds.{Silent, Keep, deed, done, called}
use Rattle.machine.specs.States.{State, Task, Phase, Effects, Resource, Control, first_task, opening}
use Rattle.machine.specs.Steps.{step}
use Rattle.machine.specs.Meanings.{run, Meaning, start}
use Rattle.guarantee.specs.Software.{program_software}
use Rattle.guarantee.specs.Software as software
use Rattle.guarantee.specs.Events.{Event, named}
use Rattle.guarantee.specs.MachineLaw.{NeverStops}
use Rattle.law_ceilings.proofs.Shared.Pieces.{Permission, AreFit, AreOpening, closers}
use Rattle.law_ceilings.specs.Sections.{sections}
use Rattle.law_ceilings.proofs.Shared.Kept.{IsRequested}
use Rattle.law_ceilings.specs.Premises.{Ranking, MayExclude}
use Rattle.law_ceilings.proofs.Shared.Permissions.{AllFall}
use Rattle.law_ceilings.proofs.Shared.Excludes.{AreHeld, IsThere, Excludes}
use Rattle.law_ceilings.proofs.Shared.Excluding.{opening-excludes, run-excludes}
use Rattle.law_ceilings.proofs.Shared.Arrivals.{step-arrivals}
use Rattle.law_written.proofs.Shared.Moves.{is_stopping}
use Rattle.law_written.proofs.Shared.InOrder.{quiet_names, first_threads}
use Rattle.law_written.proofs.Shared.Claims as claims
use Rattle.law_written.proofs.Shared.Namings.{naming}
use Rattle.law_written.proofs.Shared.Excluded.{run_kept}
use Rattle.law_ceilings.proofs.Shared.Programs.{may-exclude}
use Rattle.law_releases.proofs.Shared.Carrying.{IsCarried}
use Rattle.law_releases.proofs.CarriedSteps.{KeepsAway, claimed_from}
use Rattle.law_lists.proofs.Shared.Lists.{each-drop}
use Rattle.law_calls.proofs.Shared.Accepted.{elsewhere, IsInside}

-- the barrier of a request, and its end
opening_closers : (j : ℕ) (rest : List Piece) → AreOpening j rest → (cs : List Resource) × (closers rest ≡ Control j ∷ cs)
opening_closers j (Opening other ∷ RequestEnd same value ∷ ps) h = (closers ps, ap (λ n. Control n ∷ closers ps) h.1)
opening_closers j _ h = absurd h

silent_keep : (j : ℕ) (v : Option ℕ) → Silent ≡ Keep j v → ⊥
silent_keep j v e = cc

-- a value is kept inside the control structure for which it is
keep_parts : (y : System) (May : Permission) (x : Piece) (vars : Variables) (rest : List Piece) (j : ℕ) (v : Option ℕ)
    → (done y x vars rest).act ≡ Keep j v → AreFit May (x ∷ rest)
    → (cs : List Resource) × (closers (x ∷ rest) ≡ Control j ∷ cs)
keep_parts y May (Keeping task value) vars rest j v e fit =
    let same : task ≡ j = keep_same task j value v e in
    let o : (cs : List Resource) × (closers rest ≡ Control task ∷ cs) = opening_closers task rest fit.0 in
    (o.0, o.1 ∙ ap (λ n. Control n ∷ o.0) same)
  where
    keep_same : (m n : ℕ) (a b : Option ℕ) → Keep m a ≡ Keep n b → m ≡ n
    keep_same m n a b q = cc
keep_parts y May (Leaving condition) vars rest j v e fit = by (holds condition vars) e
  where
    by : (b : Bool) → (if b then deed Silent (drop 1 vars) (after_loop rest) else deed Silent vars rest).act ≡ Keep j v
        → (cs : List Resource) × (closers (Leaving condition ∷ rest) ≡ Control j ∷ cs)
    by true q = absurd (silent_keep j v q)
    by false q = absurd (silent_keep j v q)
keep_parts y May (Calling unit op actuals) vars rest j v e fit = by (callee y unit op) e
  where
    by : (c : CallTarget) → (called c actuals vars rest).act ≡ Keep j v → (cs : List Resource)
        × (closers (Calling unit op actuals ∷ rest) ≡ Control j ∷ cs)
    by (Plain o) q = absurd cc
    by (Protected object at g o) q = absurd cc
    by (Request task) q = absurd cc
    by Unknown q = absurd cc
keep_parts y May Idle vars rest j v e fit = absurd cc
keep_parts y May (Store target value) vars rest j v e fit = absurd cc
keep_parts y May (Working n) vars rest j v e fit = absurd cc
keep_parts y May (Printing value) vars rest j v e fit = absurd cc
keep_parts y May (Testing condition block others) vars rest j v e fit = absurd cc
keep_parts y May (Turning name at last body) vars rest j v e fit = absurd cc
keep_parts y May (Turned name at last body) vars rest j v e fit = absurd cc
keep_parts y May (Returning outs stores caller) vars rest j v e fit = absurd cc
keep_parts y May (Closing object op ds outs stores caller) vars rest j v e fit = absurd cc
keep_parts y May (Opening task) vars rest j v e fit = absurd cc
keep_parts y May (RequestEnd task value) vars rest j v e fit = absurd cc
keep_parts y May Finishing vars rest j v e fit = absurd cc

-- nobody keeps a value in the control structure of a cyclic task
keeps_away : (p : Program) (y : System) (w : software.Software) (names' : claims.Naming p y w) (k : ℕ) (th : TaskUnit) (stands : slice_get y.threads k
    ≡ Some th) (offset period : ℕ) → th.timing ≡ Periodic offset period
    → (Holds : Phase → ℕ → Task → List Event → Type 0) (may : IsCarried y th Holds)
    (as' : List Arrival) (r : Ranking) (s : State) → Excludes y as' r s
    → KeepsAway p y w names' k th stands Holds may s.tasks
keeps_away p y w names' k th stands offset period timing Holds may as' r s x i t piece rest j v at has act same =
    let F : List Piece → Type 0 = λ ps. AreFit (AllFall r i) ps in
    let fit : AreFit (AllFall r i) (piece ∷ rest) = subst F has (x.keeps.sound i t at).fits in
    let inside : (cs : List Resource) × (closers (piece ∷ rest) ≡ Control j ∷ cs) = keep_parts y (AllFall r i) piece t.vars rest j v act fit in
    let ss : sections t ≡ Control j ∷ inside.0 = sym (x.keeps.sound i t at).closes ∙ ap closers has ∙ inside.1 in
    let H : List Resource → Type 0 = λ cs. AreHeld y as' cs in
    let there : IsThere y as' (Control j) = (subst H ss (x.held i t at)).1 in
    let is : there.0 ≡ th = same_Some there.0 th (sym there.1 ∙ ap (slice_get y.threads) (sym same) ∙ stands) in
    let R : ReleasePattern → Type 0 = λ z. IsRequested z in
    subst R (ap (λ z. z.timing) is ∙ timing) there.2

run_elsewhere : (y : System) (P : Arrival → Type 0) (m : ℕ) (s : State) → Each P s.arrivals → Each P (run y m s).0.arrivals
run_elsewhere y P zero s all = all
run_elsewhere y P (suc m) s all =
    let d : (n : ℕ) × ((step y s).0.arrivals ≡ drop n s.arrivals) = step-arrivals y s in
    let E : List Arrival → Type 0 = λ as'. Each P as' in
    run_elsewhere y P m (step y s).0 (subst E (sym d.1) (each-drop P d.0 s.arrivals all))

-- what is claimed of a cyclic task
pub carried : (limit : ℕ) (p : Program) (r : Arrivals) (trace : List machine.Event) (k : ℕ) (th : TaskUnit) (offset period : ℕ)
    (Holds : Phase → ℕ → Task → List Event → Type 0) → IsCarried (system p r) th Holds → MeetsRules p
    → IsAccepted limit p r → Meaning p r trace → NeverStops (named p trace)
    → slice_get (system p r).threads k ≡ Some th → th.timing ≡ Periodic offset period → Holds Effects 0 (first_task th) (named p trace)
carried limit p r trace k th offset period Holds may meets accepted m quiet at timing =
    let y : System = system p r in
    let ex : MayExclude y r.items = may-exclude p meets limit r accepted in
    let silent : list_any is_stopping (run y m.steps (start p r)).1 ≡ false = ap (list_any is_stopping) m.tells ∙ sym (quiet_names p trace) ∙ quiet in
    let there : slice_get (opening y r.items).tasks k ≡ Some (first_task th) = slice_get-map first_task y.threads k ∙ ap (option_map first_task) at in
    let F : List machine.Event → Type 0 = λ es. Holds Effects 0 (first_task th) (named p es) in
    subst F m.tells
    (claimed_from p y (program_software p) (naming p r meets) k th at Holds may m.steps (start p r) (first_threads y.threads)
    (omega arith) refl
    (λ n. run_kept y r.items ex n)
    (λ n. keeps_away p y (program_software p) (naming p r meets) k th at offset period timing Holds may r.items ex.ranking (run y n (start p r)).0
    (run-excludes y r.items ex n (opening y r.items) (opening-excludes y r.items ex)))
    (λ n. run_elsewhere y (λ a. th.unit ≡ a.task → ⊥) n (start p r) (elsewhere limit p r accepted k th at (subst IsInside (sym timing) tt)))
    m.stops silent (first_task th) there)
