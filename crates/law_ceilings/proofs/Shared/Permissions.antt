-- Which calls the laws allow inside which sections: of ranks that fall, to ceilings that rise, of tasks below a level, and all.
use Rattle.std.specs.Prelude.{◌≡◌, ℕ, true, List, [], ◌∷◌, ⊤, ◌<◌}
use Rattle.machine.specs.Systems.{System}
use Rattle.machine.specs.States.{Resource, Object, Control}
use Rattle.machine.specs.Effects.{ceiling_of}
use Rattle.law_ceilings.specs.Ceilings.{Reach, IsMadeFrom, priority_at}
use Rattle.law_ceilings.specs.Premises.{Ranking}
use Rattle.law_ceilings.specs.Limits.{Costing, IsMade}
use Rattle.law_ceilings.proofs.Shared.Pieces.{Permission}

-- every call
abbrev pub Anything : Permission
Anything unit op ss = ⊤

-- a rank below that of each object among these sections, none of which is a control structure
abbrev pub IsBelow : (ℕ → ℕ) → ℕ → List Resource → Type 0
IsBelow object_rank n [] = ⊤
IsBelow object_rank n (Object object ∷ ss) = (n < object_rank object) × IsBelow object_rank n ss
IsBelow object_rank n (Control task ∷ ss) = ⊥

-- a call that is made, of a rank below that of each object among these sections
abbrev pub Falls : Ranking → Permission
Falls r unit op ss = (r.made unit op ≡ true) × IsBelow r.object_rank (r.rank unit op) ss

-- the same for each task
abbrev pub AllFall : Ranking → ℕ → Permission
AllFall r i = Falls r

-- the active priority of a task of this base priority inside these sections
abbrev pub level : System → ℕ → List Resource → ℕ
level y base [] = base
level y base (s ∷ ss) = ceiling_of y s

-- a call that leads to no ceiling below the active priority inside these sections
abbrev pub Rises : System → Reach → ℕ → Permission
Rises y r base unit op ss = IsMadeFrom r (level y base ss) unit op

-- the same for each task
abbrev pub AllRise : System → Reach → ℕ → Permission
AllRise y r i = Rises y r (priority_at y i)

-- calls of tasks below the level are made
abbrev pub AllLimited : System → ℕ → Costing → ℕ → Permission
AllLimited y level c i unit op ss = priority_at y i < level → IsMade c unit op
