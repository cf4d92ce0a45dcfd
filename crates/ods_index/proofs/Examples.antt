-- What the definitions hold of, and what breaks each alone.
use Rattle.std.proofs.Common.{◌≡◌, true, false, [], ◌∷◌, Some, None, Ok, Err, refl, arith, ℕ, zero, suc}
use Rattle.design_rules.specs.Broken.{V17Tick, V17Priorities, V15Threads}
use Rattle.design_rules.specs.Rules.{IsListed}
use Rattle.ods_index.specs.Judging.{Tells, Judges, IsFirstOffender, IsTold, IsToldFirst, head_of}
use Rattle.std.specs.Prelude.{codes}
use Rattle.ods_tree.specs.Walk.{own_of}
use Rattle.ods_tree.proofs.Shared.Short.{group}
use Rattle.ods_index.specs.Told.{is_memory, told_of}
use Rattle.ods_index.specs.Walking.{inside}
use Rattle.ods_index.specs.OwnOps.{own_ops}
use Rattle.ods_index.specs.declared.broken.Broken.TheVariants as code
use Rattle.ods_index.proofs.Shared.SmallDesign.{f, passive}

-- an answer tells what is to be told, no other, and no silence is one; want of memory says nothing
told_right : Tells (Err code.V17Tick) (Some V17Tick)
told_right = refl

told_other : Tells (Err code.V17Tick) (Some V17Priorities) → ⊥
told_other h = absurd (cc)

told_silence : Tells (Ok tt) (Some V17Tick) → ⊥
told_silence h = absurd (cc)

told_memory : Tells (Err code.NoMemory) (Some V17Tick)
told_memory = tt

-- the first of two offenders is judged, and not the second
first_judged : Judges (IsListed (V17Tick ∷ V17Priorities ∷ [])) (Err code.V17Tick)
first_judged = record { place = 0; offends = refl; none_earlier = λ earlier other low h. absurd (omega (arith, low)) }

-- the first of a list
head_some : head_of (V17Tick ∷ V17Priorities ∷ []) ≡ Some V17Tick
head_some = refl

-- what is told is what is wanted; want of memory is anything, and silence nothing
told_same : IsTold false (Some V17Tick) (Some V17Tick)
told_same = refl

told_not : IsTold false (Some V17Tick) None → ⊥
told_not h = absurd (cc)

told_nothing : IsTold false None (Some V17Tick) → ⊥
told_nothing h = h

-- the second of two is not the first offender
first_of : IsFirstOffender (IsListed (V17Tick ∷ V17Priorities ∷ [])) V17Tick
first_of = record { place = 0; offends = refl; none_earlier = λ earlier other low h. absurd (omega (arith, low)) }

second_not : IsFirstOffender (IsListed (V17Tick ∷ [])) V17Priorities → ⊥
second_not h = by h.place h.offends
  where
    by : (place : ℕ) → IsListed (V17Tick ∷ []) place V17Priorities → ⊥
    by zero e = absurd (cc)
    by (suc n) e = absurd (cc)

nothing_first : IsToldFirst false None (IsListed (V17Tick ∷ [])) → ⊥
nothing_first h = h

-- want of memory tells nothing, another answer its own
told_count : told_of (code.V15Threads 31) ≡ Some (V15Threads 31)
told_count = refl

told_no_memory : told_of code.NoMemory ≡ None
told_no_memory = refl

memory_is : is_memory code.NoMemory ≡ true
memory_is = refl

memory_not : is_memory code.V17Tick ≡ false
memory_not = refl

-- those inside an object, and no others
inside_group : inside (group (codes "r") (passive ∷ [])) ≡ own_of passive ∷ []
inside_group = refl

inside_none : inside passive ≡ []
inside_none = refl

-- the operations of an object by their names
provided_ops : own_ops (record { own = own_of passive; parent = None; siblings = own_of passive ∷ []; children = [] }) ≡ f ∷ []
provided_ops = refl
