-- At each place of a body stands an instruction.
use Rattle.std.proofs.Common.{◌≡◌, ◌⊎◌, inl, inr, ◌<◌, ◌≤◌, ℕ, ◌+◌, ◌-◌, true, [], List, ◌∷◌, Option, Some, None, length, refl, ap, sym, ◌∙◌, arith}
use Rattle.std.specs.Prelude.{cond, nat_le, slice_get}
use Rattle.seq_tree.specs.Names.{Name}
use Rattle.seq_tree.specs.Expressions.{Expression}
use Rattle.seq_tree.specs.Variables.{Variables, targets}
use Rattle.law_flat_code.specs.Codes as flat
use Rattle.law_flat_code.specs.Codes.{block_size, next_slot}
use Rattle.law_flat_code.proofs.Shared.Follows.{levels_block}
use Rattle.linker.specs.Leads.{Leads, Body, Request, Nowhere}
use Rattle.linker.specs.Standing.{CallStands, Has, Lists, target_slot}
use Rattle.linker.specs.declared.code.Ins.{Ins}
use Rattle.linker.specs.declared.code.Ins.TheVariants as ins
use Rattle.task_runtime.specs.Settling.{IsSomewhere, Still, Stood}
use Rattle.task_runtime.proofs.Orders.{order}

-- what stands at a place
abbrev pub IsThere : Option Ins → Type 0
IsThere o = (x : Ins) × (o ≡ Some x)

call_there : (t : Lists) (scope : Variables) (l : Leads) (actuals : List Expression) (o : Option Ins) → CallStands t scope l actuals o → IsThere o
call_there t scope (Body place params) actuals o h = (ins.Call place h.0 (length (targets params actuals)), h.1)
call_there t scope (Request task) [] o h = (ins.Request task None, h)
call_there t scope (Request task) (e ∷ es) o h = (ins.Request task (Some h.0), h.1)
call_there t scope Nowhere actuals o h = (ins.Nowhere, h)

ins_there : (leads : Name → Name → Leads) (t : Lists) (scope : Variables) (pc : ℕ) (i : flat.Ins) → Has leads t scope pc i
    → IsThere (slice_get t.ins pc)
ins_there leads t scope pc flat.Idle h = (ins.Null, h)
ins_there leads t scope pc (flat.Store target e) h = (ins.Assign (target_slot target scope) h.0, h.1)
ins_there leads t scope pc (flat.Working ticks) h = (ins.Work ticks, h)
ins_there leads t scope pc (flat.Printing e) h = (ins.Put h.0, h.1)
ins_there leads t scope pc (flat.Calling unit op actuals) h = call_there t scope (leads unit op) actuals (slice_get t.ins pc) h
ins_there leads t scope pc (flat.Test c other) h = (ins.Test h.0 other, h.1)
ins_there leads t scope pc (flat.Exit c to) h = (ins.Exit h.0 to, h.1)
ins_there leads t scope pc (flat.Jump to) h = (ins.Jump to, h)
ins_there leads t scope pc (flat.Begin name low high behind) h =
    (cond (nat_le low high) (ins.Begin (next_slot scope) low) (ins.Jump behind), h)
ins_there leads t scope pc (flat.Next name last start) h = (ins.Next (next_slot scope) last start, h)
ins_there leads t scope pc flat.Return h = (ins.Return, h)
ins_there leads t scope pc flat.Finish h = (ins.Finish, h)

pub still_there : (o : Option Ins) → Still o → IsThere o
still_there None h = absurd h
still_there (Some x) h = (x, refl)

pub ins_at : (t : Lists) (at : ℕ) → IsSomewhere t at → IsThere (slice_get t.ins at)
ins_at t at h = by (order (at - h.0.start) (block_size h.0.block))
  where
    s : Stood t
    s = h.0

    from : s.start ≤ at
    from = h.1.from

    to : at ≤ s.start + block_size s.block
    to = h.1.to

    by : (at - s.start < block_size s.block) ⊎ (block_size s.block ≤ at - s.start) → IsThere (slice_get t.ins at)
    by (inl lt) =
        let l = levels_block s.block (Has s.leads t) s.scope 0 s.start (at - s.start) true 0 (λ k. 0) (λ z. []) (λ a b agree. refl) s.stands lt in
        let here : s.start + (at - s.start) ≡ at = omega (arith, from) in
        let x = ins_there s.leads t _ (s.start + (at - s.start)) l.ins l.is in
        (x.0, ap (slice_get t.ins) (sym here) ∙ x.1)
    by (inr ge) =
        let end : s.start + block_size s.block ≡ at = omega (arith, ge, from, to) in
        let x = still_there (slice_get t.ins (s.start + block_size s.block)) s.ends in
        (x.0, ap (slice_get t.ins) (sym end) ∙ x.1)
