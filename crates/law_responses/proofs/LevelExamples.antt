-- Examples of what a trace tells of a level that rests, and of ticks used.
use Rattle.std.specs.Prelude.{◌≤◌, List, [], ◌∷◌, None, codes}
use Rattle.std.proofs.Common.{arith}
use Rattle.seq_tree.specs.Names.{Name}
use Rattle.guarantee.specs.Events.{Release, End, Event, By, Horizon}
use Rattle.law_responses.specs.Resting.{RestsBy}
use Rattle.law_responses.specs.Using.{UsesAtMost}

abbrev pump : Name
pump = codes "pump"

abbrev alarm : Name
alarm = codes "alarm"

-- an activation from 1 to 4, which used 2 ticks
abbrev told : List Event
told = By 1 pump (Release None) ∷ By 4 pump (End 2) ∷ Horizon 9 ∷ []

-- it has ended by 4, and by each later time
rested : RestsBy 4 told pump
rested = (λ less. let most : 4 ≤ 4 = omega arith in most, tt)

-- not by 3
not_yet : RestsBy 3 told pump → ⊥
not_yet h = let soon : 4 ≤ 3 = h.0 (omega arith) in omega (arith, soon)

-- a time by which it wasn't released asks nothing of it
before_release : RestsBy 1 told pump
before_release = (λ less. absurd (omega (arith, less)), tt)

-- an activation that has no end does not rest
no_end : RestsBy 4 (By 1 pump (Release None) ∷ Horizon 9 ∷ []) pump → ⊥
no_end h = h.0 (omega arith)

-- the end of another thread is none of it
other_end : RestsBy 4 (By 1 pump (Release None) ∷ By 4 alarm (End 2) ∷ Horizon 9 ∷ []) pump → ⊥
other_end h = h.0 (omega arith)

-- it used 2 ticks, not 1 at most; of another thread nothing is told
two_ticks : UsesAtMost 2 pump told
two_ticks = (let most : 2 ≤ 2 = omega arith in most, tt)

one_tick : UsesAtMost 1 pump told → ⊥
one_tick h = let few : 2 ≤ 1 = h.0 in omega (arith, few)

another : UsesAtMost 1 alarm told
another = (tt, tt)
