-- Examples of calls: for each definition one case that holds, and one that breaks it alone.
use Rattle.std.specs.Prelude.{◌≡◌, suc, ◌+◌, true, false, [], ◌∷◌, Some, None, refl}
use Rattle.seq_tree.specs.Statements.{Call, End, Then}
use Rattle.seq_tree.specs.declared.tree.OpName.{OpName}
use Rattle.machine.specs.Systems.{Protected, Request, Requested, Unknown}
use Rattle.machine.specs.Pieces.{Closing, Finishing, Idle, Keeping, Opening}
use Rattle.machine.specs.Pieces as pieces
use Rattle.machine.specs.Deeds as deeds
use Rattle.task_runtime.specs.Callable.{CallsAlike, Leads, calls_room, data_by, is_known, op_in, op_name, target_in}
use Rattle.task_runtime.specs.Effort.{effort, ends_among, sections_among}
use Rattle.task_runtime.specs.Works.{StaysInside}
use Rattle.task_runtime.proofs.Shared.ExampleSystem.{body, object, three}

abbrev passive : OpName
passive = op_name (1 ∷ []) (11 ∷ [])

abbrev shared : OpName
shared = op_name (2 ∷ []) (21 ∷ [])

-- what calls lead to
leads-to-object : target_in three shared ≡ Protected 0 0 object (body (21 ∷ []) (Then (Call (1 ∷ []) (11 ∷ []) []) End))
leads-to-object = refl

leads-to-task : target_in three (op_name (3 ∷ []) (31 ∷ [])) ≡ Request 0
leads-to-task = refl

leads-nowhere : is_known (target_in three (op_name (2 ∷ []) (11 ∷ []))) ≡ false
leads-nowhere = refl

-- a body is begun by the call of an operation, and not by a request
has-body : op_in three passive ≡ Some (body (11 ∷ []) End)
has-body = refl

has-none : op_in three (op_name (3 ∷ []) (31 ∷ [])) ≡ None
has-none = refl

-- an object lends its data, a passive unit none
lends : data_by (target_in three shared) ≡ record { name = 9 ∷ []; value = 0 } ∷ []
lends = refl

lends-nothing : data_by (target_in three passive) ≡ []
lends-nothing = refl

-- the protected operation leads to the passive one, and not back
leads : Leads three shared [] passive
leads = refl

wrong : false ≡ true → ⊥
wrong h = cc

leads-not : Leads three passive [] shared → ⊥
leads-not h = wrong h

-- each call has room while it is not under way, and data have room besides
room : calls_room [] three ≡ 194 + 195
room = refl

room-under-way : calls_room (shared ∷ []) three ≡ 194
room-under-way = refl

-- systems in which the horizon alone differs have calls alike; without its object a system does not
alike : CallsAlike (record three { until = 7 }) three
alike unit op = refl

not-alike : CallsAlike (record three { objects = [] }) three → ⊥
not-alike h = wrong (known (h (2 ∷ []) (21 ∷ [])))
  where
    known : Unknown ≡ Protected 0 0 object (body (21 ∷ []) (Then (Call (1 ∷ []) (11 ∷ []) []) End)) → false ≡ true
    known e = cc

-- the ends of a protected body and of a request take no tick, and are counted
ends : ends_among (Closing 0 0 [] [] [] [] ∷ pieces.Requested 0 None ∷ Finishing ∷ []) ≡ 2
ends = refl

ends-not : ends_among (Keeping 0 None ∷ Opening 0 ∷ Finishing ∷ []) ≡ 0
ends-not = refl

end-effort : effort 9 (Closing 0 0 [] [] [] [] ∷ pieces.Requested 0 None ∷ []) ≡ 2
end-effort = refl

part-effort : effort 9 (Opening 0 ∷ pieces.Requested 0 None ∷ []) ≡ 9
part-effort = refl

-- a task is inside as many sections as have their end among its pieces
inside-two : sections_among (Closing 0 0 [] [] [] [] ∷ Opening 0 ∷ pieces.Requested 0 None ∷ []) ≡ 2
inside-two = refl

inside-none : sections_among (pieces.Returning [] [] [] ∷ Idle ∷ []) ≡ 0
inside-none = refl

goes-inside : StaysInside (deeds.Ask 0) 1 2
goes-inside = refl

two_one : suc 1 ≡ 1 → ⊥
two_one h = cc

stays-outside : StaysInside (deeds.Ask 0) 1 1 → ⊥
stays-outside h = two_one (one h)
  where
    one : 1 ≡ suc 1 → suc 1 ≡ 1
    one e = cc
