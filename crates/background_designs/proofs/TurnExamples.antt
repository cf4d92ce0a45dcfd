-- The turns of a client: those that hold, and those that break one condition alone.
use Rattle.std.specs.Prelude.{◌≡◌, [], ◌∷◌, Some, None, codes, refl}
use Rattle.seq_tree.specs.Names.{Name}
use Rattle.guarantee.specs.Events.{Release, End, Arrive, By, Horizon}
use Rattle.background_designs.specs.Turns.{Begun, Ended, turns, AreAtOnce, IsRestless}

abbrev c : Name
c = codes "c"

-- the events of the client alone, and only its releases and ends
own_turns : turns c (By 0 c (Release None) ∷ By 0 (codes "d") (Release None) ∷ By 1 c (Arrive None) ∷ By 2 (codes "d") (End 2)
    ∷ By 3 c (End 1) ∷ Horizon 3 ∷ []) ≡ Begun 0 None ∷ Ended 3 ∷ []
own_turns = refl

-- released at 0, and where it ends; the last activation needs no end
at_once : AreAtOnce (Some 0) (Begun 0 None ∷ Ended 3 ∷ Begun 3 None ∷ [])
at_once = (refl, refl, (refl, refl, tt))

-- never released
never : AreAtOnce (Some 0) [] → ⊥
never h = h

-- first released later than at 0
late : AreAtOnce (Some 0) (Begun 1 None ∷ []) → ⊥
late h = (let e = h.0 in cc)

-- not released again where it ended
left_idle : AreAtOnce (Some 0) (Begun 0 None ∷ Ended 3 ∷ []) → ⊥
left_idle h = h.2

-- released again later than it ended
late_again : AreAtOnce (Some 0) (Begun 0 None ∷ Ended 3 ∷ Begun 4 None ∷ []) → ⊥
late_again h = (let e = h.2.0 in cc)

-- released with a value
with_value : AreAtOnce (Some 0) (Begun 0 (Some 1) ∷ []) → ⊥
with_value h = (let e = h.1 in cc)

-- released before it ended
twice : AreAtOnce (Some 0) (Begun 0 None ∷ Begun 0 None ∷ []) → ⊥
twice h = h.2

-- ended without a release
unreleased : AreAtOnce (Some 0) (Ended 0 ∷ []) → ⊥
unreleased h = h

-- by the events of a trace
restless : IsRestless (By 0 c (Release None) ∷ By 2 c (End 2) ∷ By 2 c (Release None) ∷ Horizon 2 ∷ []) c
restless = (refl, refl, (refl, refl, tt))
