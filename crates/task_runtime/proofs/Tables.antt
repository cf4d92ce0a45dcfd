-- The room of a body, by that of the operations that it calls.
use Rattle.std.proofs.Common.{◌≡◌, ◌⊎◌, inl, inr, Bool, false, ◌<◌, ◌≤◌, ℕ, ◌+◌, ◌-◌, true, List, [], Option, Some, None, get_or, set, length, refl, ap, sym, subst, ◌∙◌, arith}
use Rattle.std.specs.Prelude.{IfSome, replicate, slice_get}
use Rattle.std.proofs.lemmas.List.{get_or-replicate, get_or-set_other, get_or-set_same, length-replicate, length-set}
use Rattle.std.proofs.lemmas.Option.{get_or_from_slice_get, same_Some, slice_get-get_or, slice_get_within}
use Rattle.seq_tree.specs.Names.{Name}
use Rattle.seq_tree.specs.Statements.{Statements}
use Rattle.law_flat_code.specs.Codes.{BlockStands, block_size}
use Rattle.law_flat_code.specs.Following.{block_view}
use Rattle.law_flat_code.proofs.Shared.Follows.{levels_block}
use Rattle.linker.specs.Leads.{Leads}
use Rattle.linker.specs.Scopes.{slots_of}
use Rattle.linker.specs.Standing.{Has, Lists}
use Rattle.linker.specs.declared.code.Ins.{Ins}
use Rattle.linker.specs.declared.code.Ins.TheVariants as ins
use Rattle.linker.specs.declared.program.LinkedUnits.{LinkedUnits}
use Rattle.task_runtime.specs.Reserving.{AreKnown, CalleeFits, CallsFit, Extent, HasRoom, InnersFit, IsInner, IsRoomed, IsWithin, OpFits, TellsEnd, extent_of}
use Rattle.task_runtime.specs.declared.reserve.Room.{Room}
use Rattle.task_runtime.proofs.Instructions.{FollowsAs, follows_as, is_ins}
use Rattle.task_runtime.proofs.Orders.{order}
use Rattle.task_runtime.proofs.Reserves.{more_room}

-- an instruction that is neither of the last ones
inner_by : (x : Ins) → (x ≡ ins.Return → ⊥) → (x ≡ ins.Finish → ⊥) → IsInner x
inner_by ins.Null r f = tt
inner_by (ins.Work ticks) r f = tt
inner_by (ins.Assign slot o) r f = tt
inner_by (ins.Put o) r f = tt
inner_by (ins.Test o other) r f = tt
inner_by (ins.Exit o to) r f = tt
inner_by (ins.Jump to) r f = tt
inner_by (ins.Begin counter low) r f = tt
inner_by (ins.Next counter last start) r f = tt
inner_by (ins.Call place first outs) r f = tt
inner_by (ins.Request task value) r f = tt
inner_by ins.Nowhere r f = tt
inner_by ins.Return r f = absurd (r refl)
inner_by ins.Finish r f = absurd (f refl)

-- each instruction of a block is one
pub inner_there : (leads : Name → Name → Leads) (t : Lists) (names : List Name) (b : Statements) (start : ℕ)
    → BlockStands (Has leads t) (slots_of names) 0 start b → (at : ℕ) (x : Ins) → start ≤ at → at < start + block_size b
    → slice_get t.ins at ≡ Some x → IsInner x
inner_there leads t names b start stands at x from to is =
    let n = at - start in
    let turn : ℕ → ℕ = λ k. 0 in
    let lt : n < block_size b = omega (arith, from, to) in
    let place : at ≡ start + n = omega (arith, from) in
    let view = block_view b 0 (λ z. []) (slots_of names) in
    let l = levels_block b (Has leads t) (slots_of names) 0 start n true 0 turn (λ z. []) (λ u v agree. refl) stands lt in
    let follows = follows_as leads t view (block_size b) start n 0 true turn [] (slots_of names) l.level (view.left true turn n) l.ins x
    (is_ins leads t (view.scope false n) l.ins (start + n) x (subst (λ k. slice_get t.ins k ≡ Some x) place is) l.is) l.follows l.follows_at in
    let As : Ins → Type 0 = FollowsAs leads t view (block_size b) start n 0 true turn [] (slots_of names) l.level (view.left true turn n) in
    inner_by x (λ e. subst As e follows) (λ e. subst As e follows)

-- what holds of a value that may be there
pub if_some : {A : Type 0} (P Q : A → Type 0) (o : Option A) → IfSome o P → ((a : A) → P a → Q a) → IfSome o Q
if_some P Q None h f = tt
if_some P Q (Some a) h f = f a h

-- a table in which nothing is known, and one in which the room of an operation is put
none_there : (n k : ℕ) (r : Room) (o : Option Room) → o ≡ None → slice_get (replicate n o) k ≡ Some (Some r) → ⊥
none_there n k r o none e =
    let many = length-replicate n o in
    let lt = slice_get_within (replicate n o) k (Some r) e in
    let here : Some r ≡ None = sym (get_or_from_slice_get (replicate n o) k (Some r) o e)
    ∙ get_or-replicate n k o o (omega (arith, lt, many)) ∙ none in
    cc

module _ (c : LinkedUnits) where
  pub none_known : (count : ℕ) → AreKnown c (replicate count None)
  none_known count place room is = absurd (none_there count place room None refl is)

  pub one_known : (rooms : List (Option Room)) (place : ℕ) (room : Option Room) → AreKnown c rooms → IfSome room (λ r. OpFits c r place)
      → AreKnown c (set rooms place room)
  one_known rooms place room known fits k r is = by (order k place) (order place k)
    where
      now : List (Option Room)
      now = set rooms place room

      lt : k < length rooms
      lt = let e = length-set rooms place room in let h = slice_get_within now k (Some r) is in omega (arith, e, h)

      read : get_or now k (Some r) ≡ Some r
      read = get_or_from_slice_get now k (Some r) (Some r) is

      other : (k ≡ place → ⊥) → OpFits c r k
      other apart =
          known k r (slice_get-get_or rooms k (Some r) lt
          ∙ ap (λ (o : Option Room). Some o) (sym (get_or-set_other rooms place k room (Some r) apart) ∙ read))

      here : k ≡ place → OpFits c r k
      here same =
          let it : room ≡ Some r =
          sym (get_or-set_same rooms place room (Some r) (omega (arith, lt, same))) ∙ ap (λ n. get_or now n (Some r)) (sym same) ∙ read in
          subst (OpFits c r) (sym same) (subst (λ (o : Option Room). IfSome o (λ q. OpFits c q place)) it fits)

      by : (k < place) ⊎ (place ≤ k) → (place < k) ⊎ (k ≤ place) → OpFits c r k
      by (inl less) h = other (λ e. absurd (omega (arith, less, e)))
      by (inr ge) (inl less) = other (λ e. absurd (omega (arith, less, e)))
      by (inr ge) (inr le) = here (omega (arith, ge, le))

  -- more is enough, too
  pub op_within : (small great : Room) (place : ℕ) → IsWithin small great → OpFits c small place → OpFits c great place
  op_within small great place within h b start there starts =
      more_room c small.bodies great.bodies small.slots great.slots (extent_of b start) (h b start there starts) within.bodies within.slots

  -- calls up to a place, and up to the next one
  pub calls_none : (room : Room) (start : ℕ) → CallsFit c room start start
  calls_none room start = λ at place first outs from to is. absurd (omega (arith, from, to))

  pub calls_more : (small great : Room) (from at : ℕ) (x : Ins) → CallsFit c small from at → IsWithin small great
      → slice_get c.code.ins.items at ≡ Some x → CalleeFits c great x → CallsFit c great from (at + 1)
  calls_more small great from at x fits within there callee = λ k place first outs lo hi is. by k place first outs lo hi is (order k at)
    where
      by : (k place first outs : ℕ) → from ≤ k → k < at + 1 → slice_get c.code.ins.items k ≡ Some (ins.Call place first outs)
          → (k < at) ⊎ (at ≤ k) → OpFits c great place
      by k place first outs lo hi is (inl lt) = op_within small great place within (fits k place first outs lo lt is)
      by k place first outs lo hi is (inr ge) =
          let same : k ≡ at = omega (arith, hi, ge) in
          subst (CalleeFits c great)
          (same_Some x (ins.Call place first outs) (sym there ∙ ap (slice_get c.code.ins.items) (sym same) ∙ is)) callee

  -- up to the end of a body
  pub calls_end : (room : Room) (from at : ℕ) (b : Bool) (x : Ins) → CallsFit c room from at → from ≤ at
      → slice_get c.code.ins.items at ≡ Some x → TellsEnd b x → b ≡ true → InnersFit c room from
  calls_end room from at b x fits le there ends told = λ to inner k place first outs lo hi is. by to inner k place first outs lo hi is (order k at)
    where
      last : IsInner x → ⊥
      last = subst (λ z. TellsEnd z x) told ends

      by : (to : ℕ) → ((j : ℕ) (z : Ins) → from ≤ j → j < to → slice_get c.code.ins.items j ≡ Some z → IsInner z) → (k place first outs : ℕ)
          → from ≤ k → k < to → slice_get c.code.ins.items k ≡ Some (ins.Call place first outs) → (k < at) ⊎ (at ≤ k) → OpFits c room place
      by to inner k place first outs lo hi is (inl lt) = fits k place first outs lo lt is
      by to inner k place first outs lo hi is (inr ge) = absurd (last (inner at x le (omega (arith, hi, ge)) there))

  -- a body does with one more than its calls, and with its own slots
  pub body_room : (calls room : Room) (e : Extent) → CallsFit c calls e.start (e.start + e.len) → IsRoomed calls e.slots room
      → HasRoom c room.bodies room.slots e
  body_room calls room e fits is =
      let le : e.slots ≤ room.slots = (let s = is.1 in omega (arith, s)) in
      let left : calls.slots ≡ room.slots - e.slots = (let s = is.1 in omega (arith, s)) in
      subst (λ n. HasRoom c n room.slots e) (sym is.0) (
        le,
        λ at place first outs b start from to there' there starts.
            subst (λ n. HasRoom c calls.bodies n (extent_of b start)) left (fits at place first outs from to there' b start there starts),
      )
