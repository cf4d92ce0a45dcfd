-- Parameters that are handed out have no operand among the values that a call hands in.
use Rattle.std.proofs.Common.{◌≡◌, ◌+◌, ℕ, List, [], ◌∷◌, ◌++◌, Some, length, refl, ap, sym, subst, ◌∙◌, arith}
use Rattle.std.specs.Prelude.{drop, slice_get}
use Rattle.std.proofs.lemmas.List.{append-nil}
use Rattle.std.proofs.lemmas.Option.{same_Some}
use Rattle.seq_tree.specs.Names.{Name}
use Rattle.seq_tree.specs.Expressions.{Expression}
use Rattle.seq_tree.specs.Variables.{Variables}
use Rattle.seq_tree.specs.declared.tree.Mode.TheVariants.{In, Out}
use Rattle.seq_tree.specs.declared.tree.Param.{Param}
use Rattle.linker.specs.Nodes.{IsBelow}
use Rattle.linker.specs.Slots.{set_all, vars_at}
use Rattle.linker.specs.declared.nodes.Operand.{Operand}
use Rattle.linker.specs.Standing.{Lists, ValuesStand, first_or_0, in_by, values_in}
use Rattle.task_runtime.specs.Handing.{ValuesAt, target_slots, values_of}
use Rattle.task_runtime.proofs.Passing.{in_stand}

no_params : (ps : List Param) → length ps ≡ 0 → ps ≡ []
no_params [] e = refl
no_params (p ∷ ps) e = absurd (omega (arith, e))

-- no parameters are left
pub values_none : (params : List Param) → length params ≡ 0 → (es : List Expression) → values_in params es ≡ []
values_none params none es = ap (λ qs. values_in qs es) (no_params params none)

pub hand_none : (params : List Param) → length params ≡ 0 → (old : List ℕ) (vars : Variables) (es : List Expression)
    → old ≡ old ++ values_of (values_in params es) vars
hand_none params none old vars es = sym (ap (λ xs. old ++ values_of xs vars) (values_none params none es) ∙ append-nil old)

-- the operand of a parameter that is handed in
pub value_below : (t : Lists) (first : ℕ) (params : List Param) (p : Param) (ps : List Param) → params ≡ p ∷ ps → p.mode ≡ In
    → ValuesAt t first params → (o : Operand) → slice_get t.actuals first ≡ Some o → IsBelow (length t.nodes) o
value_below t first params p ps is mode h o there =
    let st = in_stand t first params p ps is mode h.scope h.actuals h.stand in
    subst (IsBelow (length t.nodes)) (same_Some st.0 o (sym st.1 ∙ there)) st.2.below

pub count_in : (params : List Param) (p : Param) (ps : List Param) → params ≡ p ∷ ps → p.mode ≡ In → (es : List Expression)
    → length (values_in params es) ≡ length (values_in ps (drop 1 es)) + 1
count_in params p ps is mode es =
    let e = ap (λ qs. length (values_in qs es)) is ∙ ap (λ m. length (in_by m (first_or_0 es) (values_in ps (drop 1 es)))) mode in
    omega (arith, e)

-- a parameter that is handed out
module _ (t : Lists) (first : ℕ) (params : List Param) (p : Param) (ps : List Param) (is : params ≡ p ∷ ps) (mode : p.mode ≡ Out) where
  pub values_same : (es : List Expression) → values_in params es ≡ values_in ps (drop 1 es)
  values_same es = ap (λ qs. values_in qs es) is ∙ ap (λ m. in_by m (first_or_0 es) (values_in ps (drop 1 es))) mode

  past : (scope : Variables) (es : List Expression) → ValuesStand t scope first (values_in params es)
      → ValuesStand t scope first (values_in ps (drop 1 es))
  past scope es st = subst (ValuesStand t scope first) (values_same es) st

  pub values_past : ValuesAt t first params → ValuesAt t first ps
  values_past h = record { scope = h.scope; actuals = drop 1 h.actuals; stand = past h.scope h.actuals h.stand }

  pub past_step : (slots old new : List ℕ)
      → ((scope : Variables) (es : List Expression) → ValuesStand t scope first (values_in ps es)
      → new ≡ old ++ values_of (values_in ps es) (vars_at scope slots))
      → (scope : Variables) (es : List Expression) → ValuesStand t scope first (values_in params es)
      → new ≡ old ++ values_of (values_in params es) (vars_at scope slots)
  past_step slots old new rest scope es st =
      rest scope (drop 1 es) (past scope es st) ∙ ap (λ xs. old ++ values_of xs (vars_at scope slots)) (sym (values_same es))

-- no targets are left
pub none_targeted : (scope : Variables) (ns : List Name) (values slots : List ℕ) → length ns ≡ 0
    → slots ≡ set_all (target_slots scope ns) values slots
none_targeted scope [] values slots e = refl
none_targeted scope (n ∷ ns) values slots e = absurd (omega (arith, e))
