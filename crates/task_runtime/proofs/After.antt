-- A task after a deed: what it goes on with.
use Rattle.std.proofs.Common.{◌≡◌, ℕ, ◌+◌, Bool, true, false, ◌||◌, List, [], ◌∷◌, Option, Some, None, refl, ap, sym, subst, ◌∙◌, add-zero}
use Rattle.std.specs.Prelude.{IsSome, slice_get}
use Rattle.seq_tree.specs.Variables.{Variables}
use Rattle.seq_tree.specs.declared.tree.Costs.{Costs}
use Rattle.machine.specs.Pieces.{Piece}
use Rattle.machine.specs.Releases.{going}
use Rattle.machine.specs.States as states
use Rattle.task_runtime.specs.Doing.{given}
use Rattle.task_runtime.specs.Effort.{first_ticks, first_works}
use Rattle.task_runtime.specs.Progressed.{is_idle}
use Rattle.task_runtime.specs.Works.{done_by}
use Rattle.task_runtime.specs.Written.{durations_of, thread_of}
use Rattle.task_runtime.specs.declared.effects.Act.{Act}
use Rattle.task_runtime.specs.declared.effects.Act.TheVariants.{Silent, Print, Ask, Keep, Open, Ended, Finish}
use Rattle.task_runtime.specs.declared.thread.Thread.{Thread}
use Rattle.linker.specs.declared.program.LinkedUnits.{LinkedUnits}
use Rattle.task_runtime.specs.Lefts.{pieces_left, vars_left}
use Rattle.task_runtime.specs.Sounds.{IsAtWork}
use Rattle.task_runtime.specs.Tasks.{task_of}
use Rattle.task_runtime.specs.declared.piece.Piece as piece
use Rattle.task_runtime.specs.declared.progress.Progress.{Progress}
use Rattle.task_runtime.specs.declared.task.Task.{Task}
use Rattle.task_runtime.proofs.Firsts.{StandsFor, first_at}

going_starts : (costs : Costs) (vars : Variables) (ps : List Piece) (t : states.Task)
    → going costs vars ps t ≡ record t {
      vars = vars;
      pieces = ps;
      left = first_ticks costs (slice_get t.thread.durations t.works) ps;
      works = t.works + first_works ps;
    }
going_starts costs vars [] t = ap (λ w. record t { vars = vars; pieces = []; left = 0; works = w }) (sym (add-zero t.works))
going_starts costs vars (p ∷ ps) t = refl

-- what a deed that doesn't end the activation gives
pub goes_given : (act : Act) (vs now : Variables) → (act ≡ Finish → ⊥) → given act vs now ≡ now
goes_given Silent vs now other = refl
goes_given (Print v) vs now other = refl
goes_given (Ask task) vs now other = refl
goes_given (Keep task v) vs now other = refl
goes_given (Open task) vs now other = refl
goes_given (Ended task v) vs now other = refl
goes_given Finish vs now other = absurd (other refl)

pub goes_done : (act : Act) (costs : Costs) (vs : Variables) (ps : List Piece) (t : states.Task) → (act ≡ Finish → ⊥)
    → done_by act costs vs ps t ≡ going costs vs ps t
goes_done Silent costs vs ps t other = refl
goes_done (Print v) costs vs ps t other = refl
goes_done (Ask task) costs vs ps t other = refl
goes_done (Keep task v) costs vs ps t other = refl
goes_done (Open task) costs vs ps t other = refl
goes_done (Ended task v) costs vs ps t other = refl
goes_done Finish costs vs ps t other = absurd (other refl)

-- a task whose progress and counts have changed
abbrev pub acted : Task → Progress → Thread → ℕ → ℕ → states.Task
acted m q th ticks works = record (task_of m) { thread = thread_of th; vars = vars_left q; pieces = pieces_left q; left = ticks; works = works }

-- it goes on with the next piece
pub goes_on : (m : Task) (q : Progress) (costs : Costs) (duration : Option ℕ) (vars : Variables) (ticks more : ℕ)
    → q.stack.thread ≡ m.progress.stack.thread
    → duration ≡ slice_get (durations_of m.progress.stack.thread) m.works → vars_left q ≡ vars
    → ticks ≡ first_ticks costs duration (pieces_left q) → more ≡ first_works (pieces_left q)
    → acted m q q.stack.thread ticks (m.works + more) ≡ going costs vars (pieces_left q) (task_of m)
goes_on m q costs duration vars ticks more thread handed same starts works =
    ap (λ th. acted m q th ticks (m.works + more)) thread
    ∙ ap (λ l. acted m q m.progress.stack.thread l (m.works + more)) (starts ∙ ap (λ d. first_ticks costs d (pieces_left q)) handed)
    ∙ ap (λ w. acted m q m.progress.stack.thread (first_ticks costs (slice_get (durations_of m.progress.stack.thread) m.works) (pieces_left q))
    (m.works + w)) works
    ∙ sym (going_starts costs (vars_left q) (pieces_left q) (task_of m))
    ∙ ap (λ vs. going costs vs (pieces_left q) (task_of m)) same

-- a task that isn't ready has nothing left
pub nothing_left : (b : Bool) (ps : List Piece) → (b || is_idle ps) ≡ true → b ≡ false → ps ≡ []
nothing_left b [] h none = refl
nothing_left true (p ∷ ps) h none = absurd (no none)
  where
    no : true ≡ false → ⊥
    no e = cc
nothing_left false (p ∷ ps) h none = absurd (no h)
  where
    no : false ≡ true → ⊥
    no e = cc

cons_parts : (m k : Piece) (ms ks : List Piece) → m ∷ ms ≡ k ∷ ks → (m ≡ k) × (ms ≡ ks)
cons_parts m k ms ks h = (cc, cc)

-- what is first of a task's pieces is what its piece in code stands for
pub stands_as : (c : LinkedUnits) (p : Progress) → IsAtWork c p → (q : piece.Piece) → p.piece ≡ Some q → (m : Piece) (rest : List Piece)
    → pieces_left p ≡ m ∷ rest → StandsFor c p.stack q m rest
stands_as c p h q e m rest is =
    let f = first_at c p h q e in
    let same = cons_parts f.piece m f.rest rest (sym f.first ∙ is) in
    subst (λ k. StandsFor c p.stack q k rest) same.0 (subst (StandsFor c p.stack q f.piece) same.1 f.stands)

pub some_piece : (o : Option piece.Piece) → IsSome o → (q : piece.Piece) × (o ≡ Some q)
some_piece (Some q) h = (q, refl)
some_piece None h = absurd (no h)
  where
    no : false ≡ true → ⊥
    no e = cc
