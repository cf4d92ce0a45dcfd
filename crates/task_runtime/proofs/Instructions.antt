-- What an instruction of linked code is among those of flat code, and what is left after it.
use Rattle.std.proofs.Common.{◌≡◌, ◌<◌, ℕ, ◌+◌, Bool, true, false, List, [], ◌∷◌, Option, Some, None, length, refl, ap, sym, subst, ◌∙◌}
use Rattle.std.specs.Prelude.{cond, if◌then◌else◌, nat_le, slice_get, ⊤}
use Rattle.std.proofs.lemmas.Option.{same_Some}
use Rattle.seq_tree.specs.Names.{Name}
use Rattle.seq_tree.specs.Expressions.{Expression}
use Rattle.seq_tree.specs.Variables.{Variables, targets}
use Rattle.machine.specs.Pieces.{Piece}
use Rattle.machine.specs.Pieces as piece
use Rattle.law_flat_code.specs.Codes as flat
use Rattle.law_flat_code.specs.Codes.{next_slot}
use Rattle.law_flat_code.specs.Following.{Follows, Goes, LeftAt, View}
use Rattle.law_flat_code.specs.Levels.{BeginsAt, EndsAt, FollowsAt, Shows}
use Rattle.linker.specs.declared.nodes.Operand.{Operand}
use Rattle.linker.specs.Leads.{Leads, Body, Request, Nowhere}
use Rattle.linker.specs.Standing.{CallStands, Has, Lists, Reads, target_slot}
use Rattle.linker.specs.declared.code.Ins.{Ins}
use Rattle.linker.specs.declared.code.Ins.TheVariants as ins

module _ (leads : Name → Name → Leads) (t : Lists) where
  -- an instruction of linked code is one of flat code
  abbrev pub IsIns : Variables → flat.Ins → Ins → Type 0
  IsIns scope flat.Idle x = x ≡ ins.Null
  IsIns scope (flat.Store target e) x = (o : Operand) × (x ≡ ins.Assign (target_slot target scope) o) × Reads t scope o e
  IsIns scope (flat.Working ticks) x = x ≡ ins.Work ticks
  IsIns scope (flat.Printing e) x = (o : Operand) × (x ≡ ins.Put o) × Reads t scope o e
  IsIns scope (flat.Calling unit op actuals) x = CallStands t scope (leads unit op) actuals (Some x)
  IsIns scope (flat.Test c other) x = (o : Operand) × (x ≡ ins.Test o other) × Reads t scope o c
  IsIns scope (flat.Exit c to) x = (o : Operand) × (x ≡ ins.Exit o to) × Reads t scope o c
  IsIns scope (flat.Jump to) x = x ≡ ins.Jump to
  IsIns scope (flat.Begin name low high behind) x = x ≡ cond (nat_le low high) (ins.Begin (next_slot scope) low) (ins.Jump behind)
  IsIns scope (flat.Next name last start) x = x ≡ ins.Next (next_slot scope) last start
  IsIns scope flat.Return x = x ≡ ins.Return
  IsIns scope flat.Finish x = x ≡ ins.Finish

  there : (x z : Ins) (o : Option Ins) → o ≡ Some x → o ≡ Some z → x ≡ z
  there x z o e h = same_Some x z (sym e ∙ h)

  pub is_ins : (scope : Variables) (i : flat.Ins) (pc : ℕ) (x : Ins) → slice_get t.ins pc ≡ Some x → Has leads t scope pc i → IsIns scope i x
  is_ins scope flat.Idle pc x e h = there x ins.Null (slice_get t.ins pc) e h
  is_ins scope (flat.Store target v) pc x e h = (h.0, there x _ (slice_get t.ins pc) e h.1, h.2)
  is_ins scope (flat.Working ticks) pc x e h = there x (ins.Work ticks) (slice_get t.ins pc) e h
  is_ins scope (flat.Printing v) pc x e h = (h.0, there x _ (slice_get t.ins pc) e h.1, h.2)
  is_ins scope (flat.Calling unit op actuals) pc x e h = subst (CallStands t scope (leads unit op) actuals) e h
  is_ins scope (flat.Test c other) pc x e h = (h.0, there x _ (slice_get t.ins pc) e h.1, h.2)
  is_ins scope (flat.Exit c to) pc x e h = (h.0, there x _ (slice_get t.ins pc) e h.1, h.2)
  is_ins scope (flat.Jump to) pc x e h = there x (ins.Jump to) (slice_get t.ins pc) e h
  is_ins scope (flat.Begin name low high behind) pc x e h = there x _ (slice_get t.ins pc) e h
  is_ins scope (flat.Next name last start) pc x e h = there x _ (slice_get t.ins pc) e h
  is_ins scope flat.Return pc x e h = there x ins.Return (slice_get t.ins pc) e h
  is_ins scope flat.Finish pc x e h = there x ins.Finish (slice_get t.ins pc) e h

  module _ (v : View) (most pc n out : ℕ) (open' : Bool) (turn : ℕ → ℕ) (rest : List Piece) (around : Variables) (level : ℕ) where
    -- a call, whatever it leads to
    abbrev pub CallsAs : List Piece → Ins → Type 0
    CallsAs ps x = (unit : Name) × (op : Name) × (actuals : List Expression) × Goes v n turn ps (piece.Calling unit op actuals)
        × CallStands t (v.scope false n) (leads unit op) actuals (Some x)

    -- what an instruction of linked code is to the pieces, and what is left after it
    abbrev pub FollowsAs : List Piece → Ins → Type 0
    FollowsAs ps ins.Null = Goes v n turn ps piece.Idle
    FollowsAs ps (ins.Work ticks) = Goes v n turn ps (piece.Working ticks)
    FollowsAs ps (ins.Assign slot o) = (target : Name) × (e : Expression) × Goes v n turn ps (piece.Store target e)
        × (slot ≡ target_slot target (v.scope false n)) × Reads t (v.scope false n) o e
    FollowsAs ps (ins.Put o) = (e : Expression) × Goes v n turn ps (piece.Printing e) × Reads t (v.scope false n) o e
    FollowsAs ps (ins.Test o other) = (c : Expression) × Follows v most pc n out open' 0 turn rest around ps (flat.Test c other)
        × Reads t (v.scope false n) o c
    FollowsAs ps (ins.Exit o to) = (c : Expression) × Follows v most pc n out open' 0 turn rest around ps (flat.Exit c to)
        × Reads t (v.scope false n) o c
    FollowsAs ps (ins.Jump to) = LeftAt v most pc to turn ps (v.scope false n) × (pc + n < to)
    FollowsAs ps (ins.Begin counter low) = (name : Name) × (high : ℕ) × (behind : ℕ) × (counter ≡ next_slot (v.scope false n))
        × (nat_le low high ≡ true) × BeginsAt v most pc n level turn ps name low high behind
    FollowsAs ps (ins.Next counter last start) = (name : Name) × (counter ≡ next_slot (v.scope false n))
        × EndsAt v most pc n open' level turn ps name last start
    FollowsAs ps (ins.Call place first outs) = CallsAs ps (ins.Call place first outs)
    FollowsAs ps (ins.Request task value) = CallsAs ps (ins.Request task value)
    FollowsAs ps ins.Nowhere = CallsAs ps ins.Nowhere
    FollowsAs ps ins.Return = ⊥
    FollowsAs ps ins.Finish = ⊥

    -- a call is an instruction of its own, whatever it leads to
    call_as : (ps : List Piece) (unit op : Name) (actuals : List Expression) (l : Leads) (x : Ins) → leads unit op ≡ l
        → Goes v n turn ps (piece.Calling unit op actuals) → CallStands t (v.scope false n) l actuals (Some x) → FollowsAs ps x
    call_as ps unit op actuals (Body place params) x e g h =
        let is : x ≡ ins.Call place h.0 (length (targets params actuals)) = same_Some x _ h.1 in
        subst (FollowsAs ps) (sym is) (
          unit,
          op,
          actuals,
          g,
          subst (λ w. CallStands t (v.scope false n) w actuals (Some (ins.Call place h.0 (length (targets params actuals)))))
              (sym e)
              (subst (λ z. CallStands t (v.scope false n) (Body place params) actuals (Some z)) is h),
        )
    call_as ps unit op [] (Request task) x e g h =
        let is : x ≡ ins.Request task None = same_Some x _ h in
        subst (FollowsAs ps) (sym is) (
          unit,
          op,
          [],
          g,
          subst (λ w. CallStands t (v.scope false n) w [] (Some (ins.Request task None)))
              (sym e) refl,
        )
    call_as ps unit op (a ∷ as') (Request task) x e g h =
        let is : x ≡ ins.Request task (Some h.0) = same_Some x _ h.1 in
        subst (FollowsAs ps) (sym is) (
          unit,
          op,
          a ∷ as',
          g,
          subst (λ w. CallStands t (v.scope false n) w (a ∷ as') (Some (ins.Request task (Some h.0)))) (sym e) (h.0, refl, h.2),
        )
    call_as ps unit op actuals Nowhere x e g h =
        let is : x ≡ ins.Nowhere = same_Some x _ h in
        subst (FollowsAs ps) (sym is) (unit, op, actuals, g, subst (λ w. CallStands t (v.scope false n) w actuals (Some ins.Nowhere)) (sym e) refl)

    -- the beginning of a loop is a jump where the loop has no turn
    begin_as : (b : Bool) (ps : List Piece) (name : Name) (low high behind : ℕ) (x : Ins) → nat_le low high ≡ b
        → x ≡ cond b (ins.Begin (next_slot (v.scope false n)) low) (ins.Jump behind)
        → BeginsAt v most pc n level turn ps name low high behind → FollowsAs ps x
    begin_as true ps name low high behind x e is h = subst (FollowsAs ps) (sym is) (name, high, behind, refl, e, h)
    begin_as false ps name low high behind x e is h =
        let m = h.around in
        subst (FollowsAs ps) (sym is) (
          record {
            at = m.at;
            place = m.place;
            inside = m.inside;
            pieces' = h.pieces' ∙ ap (λ z. if z then piece.Turning name low high h.body ∷ h.rest else h.rest) e ∙ m.pieces';
            scope' = m.scope';
          },
          h.forward,
        )

    pub follows_as : (ps : List Piece) (i : flat.Ins) (x : Ins) → IsIns (v.scope false n) i x
        → Follows v most pc n out open' 0 turn rest around ps i → FollowsAt v most pc n open' level turn ps i → FollowsAs ps x
    follows_as ps flat.Idle x is h a = subst (FollowsAs ps) (sym is) h
    follows_as ps (flat.Store target e) x is h a = subst (FollowsAs ps) (sym is.1) (target, e, h, refl, is.2)
    follows_as ps (flat.Working ticks) x is h a = subst (FollowsAs ps) (sym is) h
    follows_as ps (flat.Printing e) x is h a = subst (FollowsAs ps) (sym is.1) (e, h, is.2)
    follows_as ps (flat.Calling unit op actuals) x is h a = call_as ps unit op actuals (leads unit op) x refl h is
    follows_as ps (flat.Test c other) x is h a = subst (FollowsAs ps) (sym is.1) (c, h, is.2)
    follows_as ps (flat.Exit c to) x is h a = subst (FollowsAs ps) (sym is.1) (c, h, is.2)
    follows_as ps (flat.Jump to) x is h a = subst (FollowsAs ps) (sym is) (h, a)
    follows_as ps (flat.Begin name low high behind) x is h a = begin_as (nat_le low high) ps name low high behind x refl is a
    follows_as ps (flat.Next name last start) x is h a = subst (FollowsAs ps) (sym is) (name, refl, a)
    follows_as ps flat.Return x is h a = absurd h
    follows_as ps flat.Finish x is h a = absurd h

  -- only at the end of a turn the scope differs once that end has been passed
  abbrev pub ShowsAs : View → ℕ → Ins → Type 0
  ShowsAs v n (ins.Next counter last start) = ⊤
  ShowsAs v n _ = v.scope true n ≡ v.scope false n

  same_scope : (v : View) (n : ℕ) (x : Ins) → v.scope true n ≡ v.scope false n → ShowsAs v n x
  same_scope v n ins.Null e = e
  same_scope v n (ins.Work ticks) e = e
  same_scope v n (ins.Assign slot o) e = e
  same_scope v n (ins.Put o) e = e
  same_scope v n (ins.Test o other) e = e
  same_scope v n (ins.Exit o to) e = e
  same_scope v n (ins.Jump to) e = e
  same_scope v n (ins.Begin counter low) e = e
  same_scope v n (ins.Next counter last start) e = tt
  same_scope v n (ins.Call place first outs) e = e
  same_scope v n (ins.Request task value) e = e
  same_scope v n ins.Nowhere e = e
  same_scope v n ins.Return e = e
  same_scope v n ins.Finish e = e

  pub shows_as : (v : View) (n : ℕ) (scope : Variables) (i : flat.Ins) (x : Ins) → IsIns scope i x → Shows v n i → ShowsAs v n x
  shows_as v n scope flat.Idle x is h = same_scope v n x h
  shows_as v n scope (flat.Store target e) x is h = same_scope v n x h
  shows_as v n scope (flat.Working ticks) x is h = same_scope v n x h
  shows_as v n scope (flat.Printing e) x is h = same_scope v n x h
  shows_as v n scope (flat.Calling unit op actuals) x is h = same_scope v n x h
  shows_as v n scope (flat.Test c other) x is h = same_scope v n x h
  shows_as v n scope (flat.Exit c to) x is h = same_scope v n x h
  shows_as v n scope (flat.Jump to) x is h = same_scope v n x h
  shows_as v n scope (flat.Begin name low high behind) x is h = same_scope v n x h
  shows_as v n scope (flat.Next name last start) x is h = subst (ShowsAs v n) (sym is) tt
  shows_as v n scope flat.Return x is h = same_scope v n x h
  shows_as v n scope flat.Finish x is h = same_scope v n x h
