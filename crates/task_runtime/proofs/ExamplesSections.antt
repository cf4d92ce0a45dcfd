-- Examples of sections and of what is known of a task that enters one: for each definition one case that holds, and one that breaks it.
use Rattle.std.specs.Prelude.{◌≡◌, ℕ, ◌<◌, ◌≤◌, List, [], ◌∷◌, None, refl}
use Rattle.std.proofs.Common.{ap, ◌∙◌, arith}
use Rattle.seq_tree.specs.Variables.{Variables}
use Rattle.machine.specs.Pieces as pieces
use Rattle.machine.specs.Deeds as deeds
use Rattle.machine.specs.Deeds.{called, done}
use Rattle.machine.specs.Releases.{going}
use Rattle.machine.specs.States as states
use Rattle.machine.specs.States.{shut}
use Rattle.task_runtime.specs.Doing.{IsAmong}
use Rattle.task_runtime.specs.Libraries.{no_costs}
use Rattle.task_runtime.specs.Works.{Enters, IsNested, Leaves}
use Rattle.task_runtime.proofs.Shared.ExampleSystem.{task, three}

-- a task that a piece concerns is one of the tasks
among : IsAmong three (deeds.Ask 0)
among = omega arith

among-not : IsAmong three (deeds.Keep 1 None) → ⊥
among-not h = let one : 1 < 1 = h in omega (arith, one)

-- a task that is about to call the operation of the object, and one that is about to leave it
abbrev at : List pieces.Piece → List states.Held → states.Task
at ps inside = record {
  thread = task;
  readiness = states.Ready;
  active = 4;
  next = 0;
  vars = [];
  pieces = ps;
  left = 0;
  used = 0;
  works = 0;
  inside = inside;
  gate = shut;
}

abbrev caller : states.Task
caller = at (pieces.Calling (2 ∷ []) (21 ∷ []) [] ∷ []) []

abbrev leaver : states.Task
leaver = at (pieces.Closing 0 0 [] [] [] [] ∷ []) (record { section = states.Object 0; before = 4 } ∷ [])

abbrev outcome : deeds.PieceOutcome
outcome = done three (pieces.Calling (2 ∷ []) (21 ∷ []) []) [] []

enters : Enters three no_costs 0 0 [] [] caller (going no_costs outcome.vars outcome.pieces caller)
enters = record {
  piece = pieces.Calling (2 ∷ []) (21 ∷ []) [];
  rest = [];
  vars = outcome.vars;
  pieces = outcome.pieces;
  first = refl;
  does = λ y alike. ap (λ k. called k [] [] []) (alike (2 ∷ []) (21 ∷ []));
  after = refl;
}

first_is : {p q : pieces.Piece} {ps qs : List pieces.Piece} → p ∷ ps ≡ q ∷ qs → p ≡ q
first_is e = cc

enters-not : (values : List ℕ) (lent : Variables) (t : states.Task) → Enters three no_costs 1 0 values lent caller t → ⊥
enters-not values lent t h =
    wrong (ap (λ p. (done three p [] h.rest).act) (first_is h.first) ∙ ap (λ d. d.act) (h.does three (λ unit op. refl)))
  where
    wrong : deeds.Enter 0 0 [] ≡ deeds.Enter 1 0 values → ⊥
    wrong k = cc

leaves : Leaves three no_costs 0 0 [] [] leaver (going no_costs [] [] leaver)
leaves = record { piece = pieces.Closing 0 0 [] [] [] []; rest = []; vars = []; pieces = []; first = refl; does = λ y alike. refl; after = refl }

leaves-not : (values : List ℕ) (data' : Variables) (t : states.Task) → Leaves three no_costs 0 0 values data' caller t → ⊥
leaves-not values data' t h =
    wrong (ap (λ p. (done three p [] h.rest).act) (first_is h.first) ∙ ap (λ d. d.act) (h.does three (λ unit op. refl)))
  where
    wrong : deeds.Enter 0 0 [] ≡ deeds.Leave 0 0 values data' → ⊥
    wrong k = cc

-- a task is inside as many sections at most as it is still to leave
nested : IsNested leaver
nested = omega arith

nested-not : IsNested (at [] leaver.inside) → ⊥
nested-not h = let one : 1 ≤ 0 = h in omega (arith, one)
