-- Laws of runs: steps add up, a run that has stopped stays as it is, and what is told from a state on is one list.
use Rattle.std.specs.Prelude.{◌≡◌, ◌⊎◌, ℕ, zero, suc, ◌+◌, ◌-◌, ◌<◌, ◌≤◌, true, List, [], ◌++◌, refl, if◌then◌else◌}
use Rattle.std.proofs.Common.{sym, ◌∙◌, ap, arith, zero-add, append_assoc, append-nil, inl, inr}
use Rattle.std.proofs.lemmas.Bool.{cases_lt}
use Rattle.machine.specs.Systems.{System}
use Rattle.machine.specs.States.{State}
use Rattle.trace_tree.specs.declared.event.Event.{Event}
use Rattle.machine.specs.Releases.{Next, after}
use Rattle.machine.specs.Steps.{step, step_in}
use Rattle.machine.specs.Meanings.{run, and_then, Rest}

-- a run that has stopped tells nothing and stays
pub stopped_stays : (y : System) (n : ℕ) (s : State) → s.stopped ≡ true → run y n s ≡ (s, [])
stopped_stays y zero s e = refl
stopped_stays y (suc n) s e =
    let stays : step y s ≡ (s, []) = ap (λ b. if b then (s, []) else step_in s.phase y s) e in
    let more : and_then (run y n) (step y s) ≡ and_then (run y n) (s, []) = ap (and_then (run y n)) stays in
    more ∙ ap (after []) (stopped_stays y n s e)

-- steps add up
pub run_add : (y : System) (n m : ℕ) (s : State) → run y (n + m) s ≡ and_then (run y m) (run y n s)
run_add y zero m s = ap (λ k. run y k s) (zero-add m)
run_add y (suc n) m s =
    let count : suc n + m ≡ suc (n + m) = omega arith in
    let s' : State = (step y s).0 in
    let told : List Event = (step y s).1 in
    let middle : Next = run y n s' in
    let last : Next = run y m middle.0 in
    let joined : told ++ (middle.1 ++ last.1) ≡ told ++ middle.1 ++ last.1 = sym (append_assoc told middle.1 last.1) in
    ap (λ k. run y k s) count ∙ ap (after told) (run_add y n m s') ∙ ap (λ es. let next : Next = (last.0, es) in next) joined

-- what is told from a state on is one list
tells_from : (y : System) (n k : ℕ) (s : State) → (run y n s).0.stopped ≡ true → (run y (n + k) s).1 ≡ (run y n s).1
tells_from y n k s e =
    ap (λ next. next.1) (run_add y n k s)
    ∙ ap (λ next. (run y n s).1 ++ next.1) (stopped_stays y k (run y n s).0 e) ∙ append-nil (run y n s).1

pub Rest-unique : (y : System) (s : State) (told other : List Event) → Rest y s told → Rest y s other → told ≡ other
Rest-unique y s told other a b = by (cases_lt a.steps b.steps)
  where
    by : (a.steps < b.steps) ⊎ (b.steps ≤ a.steps) → told ≡ other
    by (inl h) =
        let n : a.steps + (b.steps - a.steps) ≡ b.steps = omega arith in
        sym a.tells ∙ sym (tells_from y a.steps (b.steps - a.steps) s a.stops) ∙ ap (λ k. (run y k s).1) n ∙ b.tells
    by (inr h) =
        let n : b.steps + (a.steps - b.steps) ≡ a.steps = omega arith in
        sym a.tells ∙ sym (ap (λ k. (run y k s).1) n) ∙ tells_from y b.steps (a.steps - b.steps) s b.stops ∙ b.tells

-- what is told from a state on is what some steps tell, and then what is told from the state after them
pub Rest-after : (y : System) (n : ℕ) (s : State) (told : List Event) → Rest y (run y n s).0 told → Rest y s ((run y n s).1 ++ told)
Rest-after y n s told r = record {
  steps = n + r.steps;
  stops = ap (λ next. next.0.stopped) (run_add y n r.steps s) ∙ r.stops;
  tells = ap (λ next. next.1) (run_add y n r.steps s) ∙ ap (λ es. (run y n s).1 ++ es) r.tells;
}
