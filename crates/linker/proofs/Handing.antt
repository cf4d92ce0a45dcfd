-- The actuals of calls, added one after another.
use Rattle.std.proofs.Common.{◌≡◌, ℕ, suc, ◌+◌, List, [], ◌∷◌, ◌++◌, Option, Some, length, refl, ap, sym, subst, ◌∙◌, arith, length-append}
use Rattle.std.specs.Prelude.{slice_get}
use Rattle.seq_tree.specs.Names.{Name}
use Rattle.seq_tree.specs.Expressions.{Expression, Number, Variable, Paren, Not, Binary}
use Rattle.seq_tree.specs.Variables.{Variables, target_by}
use Rattle.seq_tree.specs.declared.tree.Mode.{Mode}
use Rattle.seq_tree.specs.declared.tree.Mode.TheVariants.{In, Out}
use Rattle.linker.specs.Nodes.{Grows}
use Rattle.linker.specs.declared.nodes.Operand.{Operand}
use Rattle.linker.specs.declared.nodes.Operand.TheVariants as operand
use Rattle.linker.proofs.Shared.Growths.{grows_none, grows_twice}
use Rattle.linker.specs.Leads.{Leads, Body, Request, Nowhere}
use Rattle.linker.specs.Linking.{Added, Longer}
use Rattle.linker.specs.Standing.{AddsTarget, AddsValue, CallStands, Lists, Reads, TargetsStand, ValuesStand, in_by, target_slot}
use Rattle.linker.specs.declared.code.Ins.{Ins}
use Rattle.linker.proofs.Keeping.{added_none, added_twice, get_last, longer_get, longer_none, longer_twice, reads_grown}

pub values_grown : (c d : Lists) (scope : Variables) (at : ℕ) (es : List Expression) → Grows c.nodes d.nodes → Longer c.actuals d.actuals
    → ValuesStand c scope at es → ValuesStand d scope at es
values_grown c d scope at [] g l h = tt
values_grown c d scope at (e ∷ es) g l h =
    (h.0, longer_get c.actuals d.actuals at h.0 l h.1, reads_grown c d scope h.0 e g h.2, values_grown c d scope (suc at) es g l h.3)

pub targets_grown : (c d : Lists) (scope : Variables) (at : ℕ) (ns : List Name) → Longer c.actuals d.actuals → TargetsStand c scope at ns
    → TargetsStand d scope at ns
targets_grown c d scope at [] l h = tt
targets_grown c d scope at (n ∷ ns) l h =
    (longer_get c.actuals d.actuals at (operand.Slot (target_slot n scope)) l h.0, targets_grown c d scope (suc at) ns l h.1)

-- a call stands where its instruction does
pub calls_grown : (c d : Lists) (scope : Variables) (w : Leads) (es : List Expression) (i j : Option Ins) → Grows c.nodes d.nodes
    → Longer c.actuals d.actuals → j ≡ i → CallStands c scope w es i → CallStands d scope w es j
calls_grown c d scope (Body place params) es i j g l e h =
    (h.0, e ∙ h.1, values_grown c d scope h.0 _ g l h.2, targets_grown c d scope _ _ l h.3)
calls_grown c d scope (Request task) [] i j g l e h = e ∙ h
calls_grown c d scope (Request task) (x ∷ xs) i j g l e h = (h.0, e ∙ h.1, reads_grown c d scope h.0 x g h.2)
calls_grown c d scope Nowhere es i j g l e h = e ∙ h

one_longer : (xs ys : List Operand) (o : Operand) → ys ≡ xs ++ o ∷ [] → suc (length xs) ≡ length ys
one_longer xs ys o e =
    let long : length ys ≡ length (xs ++ o ∷ []) = ap length e in
    omega (arith, long, length-append xs (o ∷ []))

-- the operand that was added last, wherever others are added
placed : (xs ys zs : List Operand) (o : Operand) → ys ≡ xs ++ o ∷ [] → Longer ys zs → slice_get zs (length xs) ≡ Some o
placed xs ys zs o e l = longer_get ys zs (length xs) o l (subst (λ z. slice_get z (length xs) ≡ Some o) (sym e) (get_last xs o))

-- an operand more among the actuals
pub added_push : (c d e : Lists) (o : Operand) → Added c d → e.ins ≡ d.ins → e.nodes ≡ d.nodes → e.actuals ≡ d.actuals ++ o ∷ [] → Added c e
added_push c d e o a is nodes actuals = record {
  same = is ∙ a.same;
  nodes = grows_twice c.nodes d.nodes e.nodes a.nodes (grows_none d.nodes e.nodes nodes);
  actuals = longer_twice c.actuals d.actuals e.actuals a.actuals (record { more = o ∷ []; is = actuals });
}

pub adds_in : (scope : Variables) (x : Expression) (c d e : Lists) (o : Operand) → d.actuals ≡ c.actuals → e.nodes ≡ d.nodes
    → e.actuals ≡ d.actuals ++ o ∷ [] → Reads d scope o x → AddsValue scope In x c e
adds_in scope x c d e o same nodes actuals h =
    (o, actuals ∙ ap (λ z. z ++ o ∷ []) same, reads_grown d e scope o x (grows_none d.nodes e.nodes nodes) h)

-- these values are still to be added
pub record Handing (scope : Variables) (first : ℕ) (whole : List Expression) (c d : Lists) (rest : List Expression) : Type 0 where
  pub added : Added c d
  pub long : length d.actuals + length rest ≡ first + length whole
  pub stands : (later : Lists) → Grows d.nodes later.nodes → Longer d.actuals later.actuals → ValuesStand later scope (length d.actuals) rest
      → ValuesStand later scope first whole

pub handing_all : (scope : Variables) (first : ℕ) (whole : List Expression) (c : Lists) → first ≡ length c.actuals
    → Handing scope first whole c c whole
handing_all scope first whole c e = record {
  added = added_none c;
  long = omega (arith, e);
  stands = λ later g l h. subst (λ z. ValuesStand later scope z whole) (sym e) h;
}

pub handing_on : (scope : Variables) (first : ℕ) (whole rest : List Expression) (mode : Mode) (e : Expression) (c d f : Lists)
    → Handing scope first whole c d (in_by mode e rest) → Added d f → AddsValue scope mode e d f → Handing scope first whole c f rest
handing_on scope first whole rest In e c d f h a v = record {
  added = added_twice c d f h.added a;
  long = omega (arith, one_longer d.actuals f.actuals v.0 v.1, h.long);
  stands = λ later g l s. h.stands later (grows_twice d.nodes f.nodes later.nodes a.nodes g)
      (longer_twice d.actuals f.actuals later.actuals a.actuals l) (
        v.0,
        placed d.actuals f.actuals later.actuals v.0 v.1 l,
        reads_grown f later scope v.0 e g v.2,
        subst (λ z. ValuesStand later scope z rest) (sym (one_longer d.actuals f.actuals v.0 v.1)) s,
      );
}
handing_on scope first whole rest Out e c d f h a v = record {
  added = added_twice c d f h.added a;
  long = ap (λ z. length z + length rest) v ∙ h.long;
  stands = λ later g l s. h.stands later (grows_twice d.nodes f.nodes later.nodes a.nodes g)
      (longer_twice d.actuals f.actuals later.actuals a.actuals l)
      (subst (λ z. ValuesStand later scope (length z) rest) v s);
}

pub handed_all : (scope : Variables) (first : ℕ) (whole rest : List Expression) (c d : Lists) → Handing scope first whole c d rest → rest ≡ []
    → ValuesStand d scope first whole
handed_all scope first whole rest c d h e =
    h.stands d (grows_none d.nodes d.nodes refl) (longer_none d.actuals d.actuals refl)
    (subst (ValuesStand d scope (length d.actuals)) (sym e) tt)

pub handed_long : (scope : Variables) (first : ℕ) (whole rest : List Expression) (c d : Lists) → Handing scope first whole c d rest → rest ≡ []
    → first + length whole ≡ length d.actuals
handed_long scope first whole rest c d h e =
    let none : length rest ≡ 0 = ap length e in omega (arith, h.long, none)

-- these targets are still to be added
pub record Targeting (scope : Variables) (first : ℕ) (whole : List Name) (c d : Lists) (rest : List Name) : Type 0 where
  pub added : Added c d
  pub long : length d.actuals + length rest ≡ first + length whole
  pub stands : (later : Lists) → Longer d.actuals later.actuals → TargetsStand later scope (length d.actuals) rest
      → TargetsStand later scope first whole

pub targeting_all : (scope : Variables) (whole : List Name) (c : Lists) → Targeting scope (length c.actuals) whole c c whole
targeting_all scope whole c = record { added = added_none c; long = refl; stands = λ later l h. h }

targeting_none : (scope : Variables) (first : ℕ) (whole rest : List Name) (c d f : Lists)
    → Targeting scope first whole c d rest → Added d f → f.actuals ≡ d.actuals → Targeting scope first whole c f rest
targeting_none scope first whole rest c d f h a v = record {
  added = added_twice c d f h.added a;
  long = ap (λ z. length z + length rest) v ∙ h.long;
  stands = λ later l s. h.stands later (longer_twice d.actuals f.actuals later.actuals a.actuals l)
      (subst (λ z. TargetsStand later scope (length z) rest) v s);
}

targeting_one : (scope : Variables) (first : ℕ) (whole rest : List Name) (n : Name) (c d f : Lists)
    → Targeting scope first whole c d (n ∷ rest) → Added d f → f.actuals ≡ d.actuals ++ operand.Slot (target_slot n scope) ∷ []
    → Targeting scope first whole c f rest
targeting_one scope first whole rest n c d f h a v =
    let o = operand.Slot (target_slot n scope) in record {
      added = added_twice c d f h.added a;
      long = omega (arith, one_longer d.actuals f.actuals o v, h.long);
      stands = λ later l s. h.stands later (longer_twice d.actuals f.actuals later.actuals a.actuals l) (
        placed d.actuals f.actuals later.actuals o v l,
        subst (λ z. TargetsStand later scope z rest) (sym (one_longer d.actuals f.actuals o v)) s,
      );
    }

pub targeting_on : (scope : Variables) (first : ℕ) (whole rest : List Name) (mode : Mode) (e : Expression) (c d f : Lists)
    → Targeting scope first whole c d (target_by mode e rest) → Added d f → AddsTarget scope (target_by mode e []) d f
    → Targeting scope first whole c f rest
targeting_on scope first whole rest In e c d f h a v = targeting_none scope first whole rest c d f h a v
targeting_on scope first whole rest Out (Number n) c d f h a v = targeting_none scope first whole rest c d f h a v
targeting_on scope first whole rest Out (Variable n) c d f h a v = targeting_one scope first whole rest n c d f h a v
targeting_on scope first whole rest Out (Paren e) c d f h a v = targeting_none scope first whole rest c d f h a v
targeting_on scope first whole rest Out (Not e) c d f h a v = targeting_none scope first whole rest c d f h a v
targeting_on scope first whole rest Out (Binary op l r) c d f h a v = targeting_none scope first whole rest c d f h a v

pub targeted_all : (scope : Variables) (first : ℕ) (whole rest : List Name) (c d : Lists) → Targeting scope first whole c d rest → rest ≡ []
    → TargetsStand d scope first whole
targeted_all scope first whole rest c d h e =
    h.stands d (longer_none d.actuals d.actuals refl) (subst (TargetsStand d scope (length d.actuals)) (sym e) tt)

pub targeted_long : (scope : Variables) (first : ℕ) (whole rest : List Name) (c d : Lists) → Targeting scope first whole c d rest → rest ≡ []
    → first + length whole ≡ length d.actuals
targeted_long scope first whole rest c d h e =
    let none : length rest ≡ 0 = ap length e in omega (arith, h.long, none)
