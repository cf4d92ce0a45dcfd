-- The pass over the objects, one event at a time.
use Rattle.std.proofs.Common.{◌≡◌, ℕ, suc, List, [], ◌∷◌, Some, drop, sym, ap, subst, ◌∙◌}
use Rattle.seq_tree.specs.Lists.{Each}
use Rattle.ada_tree.specs.Programs.{Program}
use Rattle.trace_tree.specs.declared.event.Event as machine
use Rattle.law_traces.specs.Services as services
use Rattle.trace_read.specs.Deeds.{Reads, first_task, task_of}
use Rattle.trace_scripts.specs.Insides.{entries_from, entry_from}
use Rattle.trace_scripts.specs.Scripts.{IsAt}
use Rattle.trace_scripts.specs.Serving.{objects_with, objects_from}
use Rattle.law_lists.proofs.Shared.Lists.{each-drop}

-- AN EVENT at an index
pub placed-at : (P : machine.Event → Type 0) (es : List machine.Event) (here : ℕ) (e : machine.Event) → IsAt es here e → Each P es → P e
placed-at P es here e at h = (subst (Each P) at (each-drop P here es h)).0

pub stands-at : (es : List machine.Event) (at behind here : ℕ) (e : machine.Event) → Reads es at behind (Some e) → here ≡ at → IsAt es here e
stands-at es at behind here e r is =
    ap (λ k. drop k es) is ∙ r.0 ∙ ap (λ k. e ∷ drop k es) (r.1 ∙ ap suc (sym is))

pub behind-is : (es : List machine.Event) (at behind here : ℕ) (e : machine.Event) → Reads es at behind (Some e) → here ≡ at
    → drop (suc here) es ≡ drop behind es
behind-is es at behind here e r is = ap (λ k. drop k es) (ap suc is ∙ sym r.1)

pub task-here : (es : List machine.Event) (here task : ℕ) (e : machine.Event) → IsAt es here e → task_of e ≡ Some task → first_task (drop here es) ≡ Some task
task-here es here task e at is = ap first_task at ∙ is

-- THE OBJECTS
pub step-states : (p : Program) (depth : ℕ) (es : List machine.Event) (at behind here : ℕ) (e : machine.Event) → Reads es at behind (Some e) → here ≡ at
    → (ss ss' target : List services.Service) → ss' ≡ objects_with p depth e (entry_from p e (drop (suc here) es)) ss
    → objects_from p depth (drop at es) (entries_from p (drop at es)) ss ≡ target
    → objects_from p depth (drop behind es) (entries_from p (drop behind es)) ss' ≡ target
unfolding objects_from entries_from
step-states p depth es at behind here e r is ss ss' target does h =
    ap (objects_from p depth (drop behind es) (entries_from p (drop behind es)))
    (does ∙ ap (λ z. objects_with p depth e (entry_from p e z) ss) (behind-is es at behind here e r is))
    ∙ ap (λ z. objects_from p depth z (entries_from p z) ss) (sym r.0) ∙ h

pub done-states : (p : Program) (depth : ℕ) (left : List machine.Event) (ss target : List services.Service) → left ≡ []
    → objects_from p depth left (entries_from p left) ss ≡ target → ss ≡ target
unfolding objects_from
done-states p depth left ss target l h = sym (ap (λ z. objects_from p depth z (entries_from p z) ss) l) ∙ h
