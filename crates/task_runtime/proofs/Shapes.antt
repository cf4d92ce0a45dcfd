-- Which slots names have at each place of a body: those that it knows as it begins have the lowest ones, and each loop takes two, its variable the
-- upper one. So no name has a slot in which turns are counted.
use Rattle.std.proofs.Common.{◌≡◌, ◌⊎◌, inl, inr, ◌<◌, ◌≤◌, ℕ, suc, ◌+◌, ◌*◌, Bool, true, false, List, [], ◌∷◌, Option, Some, None, length, set}
use Rattle.std.proofs.Common.{refl, sym, subst, ◌∙◌, arith}
use Rattle.std.specs.Prelude.{unwrap_or}
use Rattle.std.proofs.lemmas.List.{get_or-set_other}
use Rattle.std.proofs.lemmas.Option.{same_Some, unwrap_or-slice_get}
use Rattle.seq_tree.specs.Names.{Name, same_name}
use Rattle.seq_tree.specs.Statements.{Statements}
use Rattle.seq_tree.specs.Variables.{Variables}
use Rattle.seq_eval.specs.Lookups.{found}
use Rattle.law_flat_code.specs.Codes.{in_turn, next_slot}
use Rattle.law_flat_code.specs.Following.{AgreeBelow}
use Rattle.law_flat_code.specs.Withins.{scope_within}
use Rattle.law_flat_code.proofs.Shared.Scoping.{holds_within}
use Rattle.linker.specs.Slots.{AreSlots, slot_at}
use Rattle.linker.proofs.Shared.Writing.{lower}
use Rattle.linker.specs.Scopes.{slots_of}
use Rattle.linker.specs.Standing.{target_slot}
use Rattle.linker.proofs.Shared.BodySlots.{body_slots}
use Rattle.task_runtime.specs.Bodies.{counter_of, turn_at}

pub next_names : (ns : List Name) → next_slot (slots_of ns) ≡ length ns
next_names [] = refl
next_names (n ∷ ns) = refl

-- the scope at a place inside so many loops
pub record Shape (ns : List Name) (scope : Variables) : Type 0 where
  pub level : ℕ
  pub next : next_slot scope ≡ length ns + 2 * level
  pub slots : AreSlots (next_slot scope) scope
  pub named : (name : Name) (slot : ℕ) → found name scope ≡ Some slot
      → (slot < length ns) ⊎ ((j : ℕ) × (slot ≡ suc (length ns + 2 * j)))

no_name : (slot : ℕ) → None ≡ Some slot → ⊥
no_name slot h = cc

found_first : (name : Name) (v : Name × ℕ) (vs : Variables) → same_name name v.0 ≡ true → found name (v ∷ vs) ≡ Some v.1
found_first name v vs e = simp e refl

found_later : (name : Name) (v : Name × ℕ) (vs : Variables) → same_name name v.0 ≡ false → found name (v ∷ vs) ≡ found name vs
found_later name v vs e = simp e refl

below_names : (name : Name) (ns : List Name) (slot : ℕ) → found name (slots_of ns) ≡ Some slot → slot < length ns
below_names name [] slot h = absurd (no_name slot h)
below_names name (n ∷ ns) slot h = by (below_names name ns slot) (same_name name n) refl
  where
    by : (found name (slots_of ns) ≡ Some slot → slot < length ns) → (b : Bool) → same_name name n ≡ b → slot < length (n ∷ ns)
    by rest true e =
        let is = same_Some (length ns) slot (sym (found_first name (n, length ns) (slots_of ns) e) ∙ h) in
        omega (arith, is)
    by rest false e =
        let lt = rest (sym (found_later name (n, length ns) (slots_of ns) e) ∙ h) in
        omega (arith, lt)

first_shape : (ns : List Name) → Shape ns (slots_of ns)
first_shape ns = record {
  level = 0;
  next = next_names ns ∙ omega arith;
  slots = subst (λ z. AreSlots z (slots_of ns)) (sym (next_names ns)) (body_slots ns);
  named = λ name slot h. inl (below_names name ns slot h);
}

turn_shape : (ns : List Name) (name : Name) (scope : Variables) → Shape ns scope → Shape ns (in_turn name scope)
turn_shape ns name scope h = record {
  level = suc h.level;
  next = let e = h.next in omega (arith, e);
  slots = (omega arith, lower (suc (next_slot scope)) (next_slot scope) scope (omega arith) h.slots);
  named = λ other slot k. by (same_name other name) other slot refl k;
}
  where
    by : (b : Bool) (other : Name) (slot : ℕ) → same_name other name ≡ b → found other (in_turn name scope) ≡ Some slot
        → (slot < length ns) ⊎ ((j : ℕ) × (slot ≡ suc (length ns + 2 * j)))
    by true other slot e k =
        let is = same_Some (suc (next_slot scope)) slot (sym (found_first other (name, suc (next_slot scope)) scope e) ∙ k) in
        let next = h.next in
        inr (h.level, omega (arith, is, next))
    by false other slot e k = h.named other slot (sym (found_later other (name, suc (next_slot scope)) scope e) ∙ k)

pub shape_at : (ns : List Name) (b : Statements) (n : ℕ) (open' : Bool) → Shape ns (scope_within b n open' (slots_of ns))
shape_at ns b n open' = holds_within (Shape ns) (turn_shape ns) b n open' (slots_of ns) (first_shape ns)

-- the slot that a value goes to is none in which turns are counted
odd : (k j i : ℕ) → k ≡ suc (i + 2 * j) → (l : ℕ) → k ≡ i + 2 * l → ⊥
odd k j i e l f = omega (arith, e, f)

pub target_apart : (ns : List Name) (scope : Variables) (h : Shape ns scope) (name : Name) (j : ℕ) → j < h.level
    → target_slot name scope ≡ counter_of ns j → ⊥
target_apart ns scope h name j lt = by (found name scope) refl
  where
    some : (slot : ℕ) → (slot < length ns) ⊎ ((i : ℕ) × (slot ≡ suc (length ns + 2 * i))) → slot ≡ counter_of ns j → ⊥
    some slot (inl k) e = omega (arith, k, e)
    some slot (inr k) e = odd slot k.0 (length ns) k.1 j e

    by : (o : Option ℕ) → found name scope ≡ o → unwrap_or o (next_slot scope) ≡ counter_of ns j → ⊥
    by (Some slot) f e = some slot (h.named name slot f) e
    by None f e = let next = h.next in omega (arith, next, e, lt)

found_under : (name : Name) (next : ℕ) (scope : Variables) (slot : ℕ) → AreSlots next scope → found name scope ≡ Some slot → slot < next
found_under name next [] slot are h = absurd (no_name slot h)
found_under name next (v ∷ vs) slot are h = by (found_under name v.1 vs slot are.1) (same_name name v.0) refl
  where
    by : (found name vs ≡ Some slot → slot < v.1) → (b : Bool) → same_name name v.0 ≡ b → slot < next
    by more true e =
        let is = same_Some v.1 slot (sym (found_first name v vs e) ∙ h) in
        let lt = are.0 in
        omega (arith, is, lt)
    by more false e =
        let rest = more (sym (found_later name v vs e) ∙ h) in
        let lt = are.0 in
        omega (arith, rest, lt)

pub target_under : (name : Name) (scope : Variables) → AreSlots (next_slot scope) scope → target_slot name scope ≤ next_slot scope
target_under name scope are = by (found name scope) refl
  where
    by : (o : Option ℕ) → found name scope ≡ o → unwrap_or o (next_slot scope) ≤ next_slot scope
    by (Some slot) f = let lt = found_under name (next_slot scope) scope slot are f in omega (arith, lt)
    by None f = omega arith

-- a slot that got a value, and another one
pub set_apart : (slots : List ℕ) (slot other value : ℕ) → (other ≡ slot → ⊥) → slot_at (set slots slot value) other ≡ slot_at slots other
set_apart slots slot other value not =
    unwrap_or-slice_get (set slots slot value) other 0 ∙ get_or-set_other slots slot other value 0 not ∙ sym (unwrap_or-slice_get slots other 0)

-- counts of turns below a level stay where another slot gets a value
pub turns_stay : (ns : List Name) (level : ℕ) (slots : List ℕ) (slot value : ℕ) → ((j : ℕ) → j < level → slot ≡ counter_of ns j → ⊥)
    → AgreeBelow level (turn_at ns slots) (turn_at ns (set slots slot value))
turns_stay ns level slots slot value apart k lt = set_apart slots slot (counter_of ns k) value (λ e. apart k lt (sym e))
