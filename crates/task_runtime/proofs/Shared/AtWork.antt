-- A task that goes on, and enters a section or leaves one: in either order it comes to the same. And the act of a request's beginning.
use Rattle.std.specs.Prelude.{◌≡◌, ℕ, List, [], ◌∷◌, refl}
use Rattle.seq_tree.specs.Variables.{Variables}
use Rattle.seq_tree.specs.declared.tree.Costs.{Costs}
use Rattle.machine.specs.Deeds as deeds
use Rattle.machine.specs.Pieces as pieces
use Rattle.machine.specs.Releases.{going}
use Rattle.machine.specs.Effects.{inside_now, outside_by, outside_now}
use Rattle.machine.specs.States as states
use Rattle.machine.specs.States.{Resource}
use Rattle.task_runtime.specs.Doing.{act_of}
use Rattle.task_runtime.specs.declared.effects.Act.{Act}
use Rattle.task_runtime.specs.declared.effects.Act.TheVariants as acts

-- a task that goes on, and then enters a section or leaves one
pub inside-going : (section : Resource) (ceiling : ℕ) (costs : Costs) (vars : Variables) (ps : List pieces.Piece) (t : states.Task)
    → inside_now section ceiling (going costs vars ps t) ≡ going costs vars ps (inside_now section ceiling t)
inside-going section ceiling costs vars [] t = refl
inside-going section ceiling costs vars (p ∷ ps) t = refl

pub outside-going : (costs : Costs) (vars : Variables) (ps : List pieces.Piece) (t : states.Task)
    → outside_now (going costs vars ps t) ≡ going costs vars ps (outside_now t)
outside-going costs vars ps t = by_pieces ps
  where
    by_inside : (hs : List states.Held) (qs : List pieces.Piece) → outside_by hs (going costs vars qs t) ≡ going costs vars qs (outside_by hs t)
    by_inside [] qs = refl
    by_inside (h ∷ hs) [] = refl
    by_inside (h ∷ hs) (q ∷ qs) = refl

    by_pieces : (qs : List pieces.Piece) → outside_now (going costs vars qs t) ≡ going costs vars qs (outside_now t)
    by_pieces [] = by_inside t.inside []
    by_pieces (q ∷ qs) = by_inside t.inside (q ∷ qs)

-- a task that goes on is inside the same sections
pub going-inside : (costs : Costs) (vars : Variables) (ps : List pieces.Piece) (t : states.Task) → (going costs vars ps t).inside ≡ t.inside
going-inside costs vars [] t = refl
going-inside costs vars (p ∷ ps) t = refl

-- the act of a request's beginning
pub ask-is : (a : Act) (k : ℕ) → act_of a ≡ deeds.Ask k → a ≡ acts.Ask k
ask-is acts.Silent k e = cc
ask-is (acts.Print value) k e = cc
ask-is (acts.Ask task) k e = cc
ask-is (acts.Keep task value) k e = cc
ask-is (acts.Open task) k e = cc
ask-is (acts.Ended task value) k e = cc
ask-is acts.Finish k e = cc
