-- Values that are handed in and out one by one.
use Rattle.std.proofs.Common.{◌≡◌, ◌<◌, ◌≤◌, ℕ, suc, ◌+◌, ◌-◌, List, [], ◌∷◌, ◌++◌, Some, length, set, get_or, refl, ap, sym, subst, ◌∙◌, arith}
use Rattle.std.proofs.Common.{append_assoc}
use Rattle.std.specs.Prelude.{drop, slice_get}
use Rattle.std.proofs.lemmas.List.{length-drop, length-map}
use Rattle.std.proofs.lemmas.Option.{same_Some, slice_get_within}
use Rattle.std.proofs.Math.Seq.{drop-cons}
use Rattle.seq_tree.specs.Names.{Name}
use Rattle.seq_tree.specs.Expressions.{Expression}
use Rattle.seq_tree.specs.Values.{value}
use Rattle.seq_tree.specs.Variables.{Variables}
use Rattle.seq_tree.specs.declared.tree.Datum.{Datum}
use Rattle.seq_tree.specs.declared.tree.Mode.{Mode}
use Rattle.seq_tree.specs.declared.tree.Mode.TheVariants.{In, Out}
use Rattle.seq_tree.specs.declared.tree.Param.{Param}
use Rattle.linker.specs.Nodes.{Links}
use Rattle.linker.specs.Slots.{set_all, slot_at, vars_at}
use Rattle.linker.specs.declared.nodes.Operand.{Operand}
use Rattle.linker.specs.declared.nodes.Operand.TheVariants as operand
use Rattle.linker.specs.Programs.{datum_names}
use Rattle.linker.specs.Scopes.{slots_of}
use Rattle.linker.specs.Standing.{Lists, TargetsStand, ValuesStand, first_or_0, in_by, target_slot, values_in}
use Rattle.task_runtime.specs.Stacked.{vars_of, with_var}
use Rattle.task_runtime.specs.declared.values.Var.{Var}
use Rattle.std.proofs.lemmas.List.Sums.{fold-append}
use Rattle.task_runtime.specs.Handing.{TargetsAt, ValuesAt, target_slots, values_of}
use Rattle.task_runtime.proofs.Shapes.{target_under}

-- the values of a parameter that is handed in, and of the others
module _ (t : Lists) (first : ℕ) (params : List Param) (p : Param) (ps : List Param) (is : params ≡ p ∷ ps) (mode : p.mode ≡ In) where
  pub in_stand : (scope : Variables) (es : List Expression) → ValuesStand t scope first (values_in params es)
      → ValuesStand t scope first (first_or_0 es ∷ values_in ps (drop 1 es))
  in_stand scope es st =
      subst (λ m. ValuesStand t scope first (in_by m (first_or_0 es) (values_in ps (drop 1 es)))) mode
      (subst (λ qs. ValuesStand t scope first (values_in qs es)) is st)

  one_on : first + 1 ≡ suc first
  one_on = omega arith

  pub values_next : ValuesAt t first params → ValuesAt t (first + 1) ps
  values_next h =
      let st = in_stand h.scope h.actuals h.stand in record {
        scope = h.scope;
        actuals = drop 1 h.actuals;
        stand = subst (λ k. ValuesStand t h.scope k (values_in ps (drop 1 h.actuals))) (sym one_on) st.3;
      }

  pub values_here : ValuesAt t first params → first < length t.actuals
  values_here h = let st = in_stand h.scope h.actuals h.stand in slice_get_within t.actuals first st.0 st.1

  pub hand_step : (slots old mid new : List ℕ) (v : ℕ) (o : Operand) → slice_get t.actuals first ≡ Some o → mid ≡ old ++ v ∷ []
      → ((e : Expression) (scope : Variables) → Links t.nodes scope o e → v ≡ value e (vars_at scope slots))
      → ((scope : Variables) (es : List Expression) → ValuesStand t scope (first + 1) (values_in ps es)
      → new ≡ mid ++ values_of (values_in ps es) (vars_at scope slots))
      → (scope : Variables) (es : List Expression) → ValuesStand t scope first (values_in params es)
      → new ≡ old ++ values_of (values_in params es) (vars_at scope slots)
  hand_step slots old mid new v o there pushed known rest scope es st =
      let s = in_stand scope es st in
      let same : s.0 ≡ o = same_Some s.0 o (sym s.1 ∙ there) in
      let one : v ≡ value (first_or_0 es) (vars_at scope slots) =
      known (first_or_0 es) scope (subst (λ z. Links t.nodes scope z (first_or_0 es)) same s.2.links) in
      let others = values_of (values_in ps (drop 1 es)) (vars_at scope slots) in
      let all : values_of (values_in params es) (vars_at scope slots) ≡ value (first_or_0 es) (vars_at scope slots) ∷ others =
      ap (λ qs. values_of (values_in qs es) (vars_at scope slots)) is
      ∙ ap (λ m. values_of (in_by m (first_or_0 es) (values_in ps (drop 1 es))) (vars_at scope slots)) mode in
      rest scope (drop 1 es) (subst (λ k. ValuesStand t scope k (values_in ps (drop 1 es))) (sym one_on) s.3)
      ∙ ap (λ z. z ++ others) pushed ∙ append_assoc old (v ∷ []) others ∙ ap (λ w. old ++ w ∷ others) one ∙ ap (λ z. old ++ z) (sym all)

-- no more values are handed in than there are parameters
in_few : (m : Mode) (e : Expression) (es : List Expression) → length (in_by m e es) ≤ suc (length es)
in_few In e es = omega arith
in_few Out e es = omega arith

pub values_few : (ps : List Param) (es : List Expression) → length (values_in ps es) ≤ length ps
values_few [] es = omega arith
values_few (p ∷ ps) es =
    let one = in_few p.mode (first_or_0 es) (values_in ps (drop 1 es)) in
    let more = values_few ps (drop 1 es) in
    omega (arith, one, more)

-- the first of some targets
pub record FirstTarget (t : Lists) (scope : Variables) (first count : ℕ) (ns : List Name) : Type 0 where
  pub name : Name
  pub rest : List Name
  pub is : ns ≡ name ∷ rest
  pub there : slice_get t.actuals first ≡ Some (operand.Slot (target_slot name scope))
  pub stand : TargetsStand t scope (first + 1) rest
  pub many : length rest ≡ count - 1

pub first_target : (t : Lists) (scope : Variables) (first count : ℕ) (ns : List Name) → TargetsStand t scope first ns → length ns ≡ count
    → 0 < count → FirstTarget t scope first count ns
first_target t scope first count [] st long some = absurd (omega (arith, long, some))
first_target t scope first count (n ∷ ns) st long some = record {
  name = n;
  rest = ns;
  is = refl;
  there = st.0;
  stand = subst (λ k. TargetsStand t scope k ns) (omega arith) st.1;
  many = omega (arith, long);
}

slot_parts : (a b : ℕ) → operand.Slot a ≡ operand.Slot b → a ≡ b
slot_parts a b h = cc

module _ (t : Lists) (first count room : ℕ) (h : TargetsAt t first count room) (some : 0 < count) where
  f : FirstTarget t h.scope first count h.names
  f = first_target t h.scope first count h.names h.stand h.many some

  pub target_there : first < length t.actuals
  target_there = slice_get_within t.actuals first (operand.Slot (target_slot f.name h.scope)) f.there

  pub target_fits : (slot : ℕ) → slice_get t.actuals first ≡ Some (operand.Slot slot) → slot < room
  target_fits slot there =
      let e = slot_parts (target_slot f.name h.scope) slot (same_Some _ _ (sym f.there ∙ there)) in
      let le = target_under f.name h.scope h.slots in
      let lt = h.room' in
      omega (arith, e, le, lt)

  pub targets_next : (room' : ℕ) → room' ≡ room → TargetsAt t (first + 1) (count - 1) room'
  targets_next room' same = record {
    scope = h.scope;
    names = f.rest;
    stand = f.stand;
    many = f.many;
    slots = h.slots;
    room' = (let lt = h.room' in omega (arith, lt, same));
  }

  pub is_target : (o : Operand) → slice_get t.actuals first ≡ Some o → (slot : ℕ) × (o ≡ operand.Slot slot)
  is_target o there = (target_slot f.name h.scope, same_Some _ _ (sym there ∙ f.there))

pub store_step : (t : Lists) (scope : Variables) (first count : ℕ) (ns : List Name) → TargetsStand t scope first ns → length ns ≡ count → 0 < count
    → (slot v : ℕ) (values vs old mid new : List ℕ) → slice_get t.actuals first ≡ Some (operand.Slot slot) → values ≡ v ∷ vs → mid ≡ set old slot v
    → ((scope : Variables) (ns : List Name) → TargetsStand t scope (first + 1) ns → length ns ≡ count - 1
    → new ≡ set_all (target_slots scope ns) vs mid)
    → new ≡ set_all (target_slots scope ns) values old
store_step t scope first count ns st long some slot v values vs old mid new there is put rest =
    let g = first_target t scope first count ns st long some in
    let e = slot_parts slot (target_slot g.name scope) (same_Some _ _ (sym there ∙ g.there)) in
    rest scope g.rest g.stand g.many ∙ ap (set_all (target_slots scope g.rest) vs) put
    ∙ ap (λ k. set_all (target_slots scope g.rest) vs (set old k v)) e
    ∙ ap (λ ws. set_all (target_slots scope (g.name ∷ g.rest)) ws old) (sym is) ∙ ap (λ ms. set_all (target_slots scope ms) values old) (sym g.is)

pub none_stored : (ks : List ℕ) (values slots : List ℕ) → length values ≡ 0 → slots ≡ set_all ks values slots
none_stored [] values slots none = refl
none_stored (k ∷ ks) [] slots none = refl
none_stored (k ∷ ks) (v ∷ values) slots none = absurd (omega (arith, none))

-- one datum more that is kept
pub kept_step : (ds : List Datum) (at : ℕ) (v : Var) (d : Datum) (slots : List ℕ) (into into' : List Var) → 0 < at → at ≤ length ds
    → d ≡ get_or ds (at - 1) d → v.name.now ≡ d.name → v.value ≡ slot_at slots (length ds - 1 - (at - 1)) → into' ≡ into ++ v ∷ []
    → vars_of into ≡ vars_at (slots_of (datum_names (drop at ds))) slots
    → vars_of into' ≡ vars_at (slots_of (datum_names (drop (at - 1) ds))) slots
kept_step ds at v d slots into into' some within is name' value' pushed so_far =
    let k = at - 1 in
    let next : suc k ≡ at = omega (arith, some) in
    let e : drop k ds ≡ d ∷ drop at ds = drop-cons ds k d (omega (arith, some, within)) ∙ ap (λ x. x ∷ drop (suc k) ds) (sym is)
    ∙ ap (λ j. d ∷ drop j ds) next in
    let slot : length ds - 1 - k ≡ length (datum_names (drop at ds)) =
    (let m = length-map (drop at ds) (λ (x : Datum). x.name) in let l = length-drop at ds in omega (arith, m, l, some, within)) in
    ap vars_of pushed ∙ fold-append with_var [] into (v ∷ []) ∙ ap (λ ws. (v.name.now, v.value) ∷ ws) so_far
    ∙ ap (λ n. (n, v.value) ∷ vars_at (slots_of (datum_names (drop at ds))) slots) name'
    ∙ ap (λ w. (d.name, w) ∷ vars_at (slots_of (datum_names (drop at ds))) slots) (value' ∙ ap (slot_at slots) slot)
    ∙ ap (λ xs. vars_at (slots_of (datum_names xs)) slots) (sym e)
