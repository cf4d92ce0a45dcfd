-- What a claim about a task must allow, so that it is carried from the stop of a run back to its opening: a claim speaks of a part of an instant, of
-- the task's state and of all that is told from there on.
use Rattle.std.specs.Prelude.{◌≡◌, ℕ, ◌+◌, ◌≤◌, false, List, [], ◌∷◌, None, ⊤, refl}
use Rattle.seq_tree.specs.Names.{Name, same_name}
use Rattle.seq_tree.specs.Variables.{Variables}
use Rattle.machine.specs.Systems.{System, TaskUnit}
use Rattle.machine.specs.Pieces.{Piece}
use Rattle.machine.specs.States.{Task, Phase, Effects, Delays, Arriving, Use, Asleep, Waiting, Ready}
use Rattle.machine.specs.Releases.{going, released, next_time}
use Rattle.machine.specs.Effects.{ended}
use Rattle.machine.specs.Steps.{is_due}
use Rattle.guarantee.specs.Events.{Release, End, Event, By, Horizon}

-- what a change of a task leaves as it was
pub record SameFace (t t' : Task) : Type 0 where
  pub readiness : t'.readiness ≡ t.readiness
  pub next : t'.next ≡ t.next
  pub value : t'.gate.value ≡ t.gate.value

pub going-face : (y : System) (vars : Variables) (ps : List Piece) (t : Task) → SameFace t (going y.costs vars ps t)
going-face y vars [] t = record { readiness = refl; next = refl; value = refl }
going-face y vars (x ∷ rest) t = record { readiness = refl; next = refl; value = refl }

-- an event that is neither a release nor an end of a task of this name
abbrev pub IsElse : Name → Event → Type 0
IsElse name (By time task (Release value)) = same_name task name ≡ false
IsElse name (By time task (End used)) = same_name task name ≡ false
IsElse name _ = ⊤

-- what is claimed of the task of a thread may be carried back: over events that are neither its releases nor its ends, over changes that keep its
-- face, over its own ends and releases, and from each part of an instant to the one before it; it holds at the horizon, and of a task that waits
pub record IsCarried (y : System) (th : TaskUnit) (Holds : Phase → ℕ → Task → List Event → Type 0) : Type 0 where
  pub unheard : (phase : Phase) (now : ℕ) (t : Task) (e : Event) (told : List Event) → IsElse th.name e → Holds phase now t told
      → Holds phase now t (e ∷ told)
  pub same_face : (phase : Phase) (now : ℕ) (t u : Task) (told : List Event) → SameFace t u → Holds phase now u told → Holds phase now t told
  pub waits : (phase : Phase) (now : ℕ) (t : Task) (told : List Event) → t.readiness ≡ Waiting → Holds phase now t told
  pub ends : (vars : Variables) (now : ℕ) (t : Task) (told : List Event) → t.thread ≡ th → t.readiness ≡ Ready → now ≤ y.until
      → Holds Effects now (ended vars t) told → Holds Effects now t (By now th.name (End t.used) ∷ told)
  pub releases : (now m : ℕ) (t : Task) (told : List Event) → now ≤ y.until → t.readiness ≡ Asleep m → m ≤ now
      → (released y.costs t).readiness ≡ Ready → (released y.costs t).next ≡ next_time th.timing t.next → (released y.costs t).gate.value ≡ None
      → Holds Delays now (released y.costs t) told → Holds Delays now t (By now th.name (Release t.gate.value) ∷ told)
  pub to_delays : (now : ℕ) (t : Task) (told : List Event) → Holds Delays now t told → Holds Effects now t told
  pub to_arriving : (now : ℕ) (t : Task) (told : List Event) → is_due now t.readiness ≡ false → Holds Arriving now t told → Holds Delays now t told
  pub to_use : (now : ℕ) (t : Task) (told : List Event) → Holds Use now t told → Holds Arriving now t told
  pub to_next : (now : ℕ) (t : Task) (told : List Event) → Holds Effects (now + 1) t told → Holds Use now t told
  pub at_last : (t : Task) → Holds Arriving y.until t (Horizon y.until ∷ [])
