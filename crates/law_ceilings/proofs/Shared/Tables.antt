-- A table's laws on the processor, from its ceilings and its blocking.
use Rattle.std.specs.Prelude.{◌≡◌, ◌≤◌, ℕ, zero, suc, List, [], ◌∷◌, Some, slice_get, refl}
use Rattle.std.specs.List.{AllZip}
use Rattle.std.proofs.Common.{subst₂}
use Rattle.std.proofs.lemmas.Option.{none-some, same_Some}
use Rattle.seq_tree.specs.Lists.{Each}
use Rattle.ada_tree.specs.Programs.{Program}
use Rattle.ada_tree.specs.Rules.{MeetsRules}
use Rattle.arrivals_tree.specs.Arriving.{Arrivals}
use Rattle.rt_response.specs.declared.rows.ThreadRow.{ThreadRow}
use Rattle.trace_tree.specs.declared.event.Event.{Event}
use Rattle.trace_tree.specs.declared.event.Event.TheVariants as event
use Rattle.machine.specs.Systems.{system}
use Rattle.machine.specs.States.{Use}
use Rattle.machine.specs.Meanings.{Meaning, run, start}
use Rattle.guarantee.specs.Events.{named}
use Rattle.guarantee.specs.MachineLaw.{NeverStops}
use Rattle.guarantee.specs.ResponseLaw.{Ranked, AreTabled}
use Rattle.law_ceilings.specs.Ceilings.{GoesOn}
use Rattle.law_ceilings.specs.Limits.{IsPendingThrough, others}
use Rattle.law_ceilings.proofs.Shared.Stopping.{rest-goes-on}
use Rattle.law_ceilings.proofs.Shared.Blocked.{run-blocked}
use Rattle.law_ceilings.proofs.Shared.Limited.{AreBounded, is-limited}
use Rattle.law_ceilings.proofs.Shared.Ceiled.{is-ceiled}

-- items of two lists at one place
pub zipped-at : {A B : Type 0} (R : A → B → Type 0) (xs : List A) (ys : List B) (i : ℕ) (x : A) (y : B) → AllZip R xs ys → slice_get xs i ≡ Some x
    → slice_get ys i ≡ Some y → R x y
zipped-at R [] ys i x y h e f = absurd (none-some x e)
zipped-at R (z ∷ xs) [] i x y h e f = absurd (none-some y f)
zipped-at R (z ∷ xs) (w ∷ ys) zero x y h e f = subst₂ R (same_Some z x e) (same_Some w y f) h.0
zipped-at R (z ∷ xs) (w ∷ ys) (suc i) x y h e f = zipped-at R xs ys i x y h.1 e f

-- what is told without a stop
never-stops : (p : Program) (trace : List Event) → Each GoesOn trace → NeverStops (named p trace)
never-stops p [] h = refl
never-stops p (event.Release time task value ∷ trace) h = never-stops p trace h.1
never-stops p (event.Arrive time task value ∷ trace) h = never-stops p trace h.1
never-stops p (event.Enter time task unit op values ∷ trace) h = never-stops p trace h.1
never-stops p (event.Leave time task unit op values ∷ trace) h = never-stops p trace h.1
never-stops p (event.Request time task target value ∷ trace) h = never-stops p trace h.1
never-stops p (event.Print time task value ∷ trace) h = never-stops p trace h.1
never-stops p (event.End time task used ∷ trace) h = never-stops p trace h.1
never-stops p (event.Stop time task unit priority ceiling ∷ trace) h = absurd h.0
never-stops p (event.Horizon time ∷ trace) h = never-stops p trace h.1

-- no run of a program with a table has a stop
pub tabled-goes-on : (p : Program) (ts : List Ranked) (rows : List ThreadRow) (a : Arrivals) (trace : List Event)
    → MeetsRules p → AreTabled p ts rows → Meaning p a trace → NeverStops (named p trace)
tabled-goes-on p ts rows a trace rules tabled meaning
    = never-stops p trace (rest-goes-on (system p a) (is-ceiled p a rules tabled.ceilings tabled.inner_ceilings) a.items trace meaning)

-- the blocking of a row bounds the sections of lower tasks
pub row-bounds : (p : Program) (ts : List Ranked) (rows : List ThreadRow) (i : ℕ) (t : Ranked) (row : ThreadRow)
    → AreTabled p ts rows → slice_get ts i ≡ Some t → slice_get rows i ≡ Some row → AreBounded p t.priority row.block
row-bounds p ts rows i t row tabled at at' = zipped-at (λ x y. AreBounded p x.priority y.block) ts rows i t row tabled.blocks at at'

-- while a tabled task's level is pending, lower tasks use at most its row's blocking
pub tabled-blocks : (p : Program) (ts : List Ranked) (rows : List ThreadRow) (a : Arrivals) (i : ℕ) (t : Ranked) (row : ThreadRow) (m n : ℕ)
    → MeetsRules p → AreTabled p ts rows → slice_get ts i ≡ Some t → slice_get rows i ≡ Some row
    → (run (system p a) m (start p a)).0.phase ≡ Use → IsPendingThrough (system p a) t.priority n (run (system p a) m (start p a)).0
    → others (system p a) t.priority n (run (system p a) m (start p a)).0 ≤ row.block
tabled-blocks p ts rows a i t row m n rules tabled at at' phase pending =
    run-blocked (system p a) t.priority row.block (is-limited p a rules t.priority row.block (row-bounds p ts rows i t row tabled at at')) a.items m n
    phase pending
