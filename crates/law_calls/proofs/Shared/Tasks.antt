-- What a task keeps as it goes on, as it is released, and as it leaves a section.
use Rattle.std.specs.Prelude.{◌≡◌, ℕ, List, [], ◌∷◌, ◌++◌, refl}
use Rattle.seq_tree.specs.Variables.{Variables}
use Rattle.seq_tree.specs.declared.tree.Costs.{Costs}
use Rattle.machine.specs.Pieces.{Piece, Finishing, pieces}
use Rattle.machine.specs.States.{Task, Held, Ready, shut}
use Rattle.machine.specs.Releases.{going, released, parameter, next_time}
use Rattle.machine.specs.Effects.{outside_by}

-- what does not depend on variables, pieces, ticks left and works started stays as the task goes on
pub going-keeps : {A : Type 0} (F : Task → A)
    → ((vars : Variables) (ps : List Piece) (left works : ℕ) (t : Task) → F (record t { vars = vars; pieces = ps; left = left; works = works }) ≡ F t)
    → (costs : Costs) (vars : Variables) (ps : List Piece) (t : Task) → F (going costs vars ps t) ≡ F t
going-keeps F keeps costs vars [] t = keeps vars [] 0 t.works t
going-keeps F keeps costs vars (x ∷ ps) t = keeps vars (x ∷ ps) (going costs vars (x ∷ ps) t).left (going costs vars (x ∷ ps) t).works t

pub going-thread : (costs : Costs) (vars : Variables) (ps : List Piece) (t : Task) → (going costs vars ps t).thread ≡ t.thread
going-thread = going-keeps (λ t. t.thread) (λ vars ps left works t. refl)

pub going-gate : (costs : Costs) (vars : Variables) (ps : List Piece) (t : Task) → (going costs vars ps t).gate ≡ t.gate
going-gate = going-keeps (λ t. t.gate) (λ vars ps left works t. refl)

pub going-readiness : (costs : Costs) (vars : Variables) (ps : List Piece) (t : Task) → (going costs vars ps t).readiness ≡ t.readiness
going-readiness = going-keeps (λ t. t.readiness) (λ vars ps left works t. refl)

pub going-inside : (costs : Costs) (vars : Variables) (ps : List Piece) (t : Task) → (going costs vars ps t).inside ≡ t.inside
going-inside = going-keeps (λ t. t.inside) (λ vars ps left works t. refl)

pub going-pieces : (costs : Costs) (vars : Variables) (ps : List Piece) (t : Task) → (going costs vars ps t).pieces ≡ ps
going-pieces costs vars [] t = refl
going-pieces costs vars (x ∷ ps) t = refl

-- a task that is released, before its first piece starts
abbrev begun : Task → Task
begun t = record t { readiness = Ready; next = next_time t.thread.timing t.next; used = 0; gate = shut }

abbrev first_vars : Task → Variables
first_vars t = parameter t.thread.timing t.gate.value ++ t.vars

abbrev first_pieces : Task → List Piece
first_pieces t = pieces t.thread.block (Finishing ∷ [])

pub released-thread : (costs : Costs) (t : Task) → (released costs t).thread ≡ t.thread
released-thread costs t = going-thread costs (first_vars t) (first_pieces t) (begun t)

pub released-gate : (costs : Costs) (t : Task) → (released costs t).gate ≡ shut
released-gate costs t = going-gate costs (first_vars t) (first_pieces t) (begun t)

pub released-readiness : (costs : Costs) (t : Task) → (released costs t).readiness ≡ Ready
released-readiness costs t = going-readiness costs (first_vars t) (first_pieces t) (begun t)

pub released-pieces : (costs : Costs) (t : Task) → (released costs t).pieces ≡ pieces t.thread.block (Finishing ∷ [])
released-pieces costs t = going-pieces costs (first_vars t) (first_pieces t) (begun t)

-- what does not depend on the active priority and the sections stays as the task leaves one
pub outside-keeps : {A : Type 0} (F : Task → A) → ((active : ℕ) (hs : List Held) (t : Task) → F (record t { active = active; inside = hs }) ≡ F t)
    → (hs : List Held) (t : Task) → F (outside_by hs t) ≡ F t
outside-keeps F keeps [] t = refl
outside-keeps F keeps (h ∷ hs) t = keeps h.before hs t

pub outside-thread : (hs : List Held) (t : Task) → (outside_by hs t).thread ≡ t.thread
outside-thread = outside-keeps (λ t. t.thread) (λ active hs t. refl)

pub outside-gate : (hs : List Held) (t : Task) → (outside_by hs t).gate ≡ t.gate
outside-gate = outside-keeps (λ t. t.gate) (λ active hs t. refl)

pub outside-readiness : (hs : List Held) (t : Task) → (outside_by hs t).readiness ≡ t.readiness
outside-readiness = outside-keeps (λ t. t.readiness) (λ active hs t. refl)

pub outside-used : (hs : List Held) (t : Task) → (outside_by hs t).used ≡ t.used
outside-used = outside-keeps (λ t. t.used) (λ active hs t. refl)
