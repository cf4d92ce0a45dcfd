-- Slots above those of a scope: one that gets a value changes no variable, and with a name it is one variable more. A value that goes to the slot
-- of a name, or to one above all where no variable has the name, is written; so are values that are stored one after another.
use Rattle.std.proofs.Common.{◌≡◌, ◌<◌, ◌≤◌, ℕ, List, [], ◌∷◌, Option, Some, None, length, set, refl, ap, sym, ◌∙◌, arith, subst}
use Rattle.std.specs.Prelude.{map, unwrap_or}
use Rattle.std.proofs.lemmas.List.{length-set}
use Rattle.seq_tree.specs.Names.{Name}
use Rattle.seq_tree.specs.Variables.{Variables, stored, write}
use Rattle.seq_eval.specs.Lookups.{found}
use Rattle.linker.specs.Slots.{AreSlots, set_all, slot_of, stored_at, vars_at}
use Rattle.linker.proofs.Shared.Writing.{below, set_here, stores_write}

-- a slot that no variable of a scope has gets a value, and a name
pub named : (name : Name) (value slot : ℕ) (scope : Variables) (slots : List ℕ) → AreSlots slot scope → slot < length slots
    → vars_at ((name, slot) ∷ scope) (set slots slot value) ≡ (name, value) ∷ vars_at scope slots
named name value slot scope slots are lt =
    ap (λ z. (name, z) ∷ vars_at scope (set slots slot value)) (set_here slots slot value lt)
    ∙ ap (λ z. (name, value) ∷ z) (below slot scope slots slot value are (omega arith))

by_found : (o : Option ℕ) (name : Name) (value next : ℕ) (scope : Variables) (slots : List ℕ) → found name scope ≡ o → AreSlots next scope
    → next < length slots → vars_at scope (set slots (unwrap_or o next) value) ≡ write name value (vars_at scope slots)
by_found (Some slot) name value next scope slots e are lt =
    ap (λ f. vars_at scope (stored_at slots f value)) (sym e) ∙ stores_write name value next scope slots are lt
by_found None name value next scope slots e are lt =
    below next scope slots next value are (omega arith) ∙ ap (λ f. vars_at scope (stored_at slots f value)) (sym e)
    ∙ stores_write name value next scope slots are lt

pub writes : (name : Name) (value next : ℕ) (scope : Variables) (slots : List ℕ) → AreSlots next scope → next < length slots
    → vars_at scope (set slots (slot_of scope next name) value) ≡ write name value (vars_at scope slots)
writes name value next scope slots are lt = by_found (found name scope) name value next scope slots refl are lt

pub stores : (names : List Name) (values : List ℕ) (next : ℕ) (scope : Variables) (slots : List ℕ) → AreSlots next scope → next < length slots
    → vars_at scope (set_all (map (slot_of scope next) names) values slots) ≡ stored names values (vars_at scope slots)
stores [] values next scope slots are lt = refl
stores (n ∷ ns) [] next scope slots are lt = refl
stores (n ∷ ns) (value ∷ values) next scope slots are lt =
    stores ns values next scope (set slots (slot_of scope next n) value) are
    (subst (λ z. next < z) (sym (length-set slots (slot_of scope next n) value)) lt)
    ∙ ap (stored ns values) (writes n value next scope slots are lt)
