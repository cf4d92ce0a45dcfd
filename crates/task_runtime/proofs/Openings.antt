-- Names that get their slots one above the other, each with a value: parameters and data as a body begins.
use Rattle.std.proofs.Common.{◌≡◌, ◌<◌, ◌≤◌, ℕ, suc, ◌+◌, ◌-◌, List, [], ◌∷◌, ◌++◌, length, drop, get_or, set, refl, ap, sym, subst, ◌∙◌, arith}
use Rattle.std.proofs.lemmas.List.{length-append, length-drop, length-map}
use Rattle.std.proofs.Math.Seq.{drop-length}
use Rattle.seq_tree.specs.Names.{Name}
use Rattle.seq_tree.specs.Variables.{Variables, entered, entered_by, written}
use Rattle.seq_tree.specs.declared.tree.Datum.{Datum}
use Rattle.seq_tree.specs.declared.tree.Mode.TheVariants.{In, Out}
use Rattle.seq_tree.specs.declared.tree.Param.{Param}
use Rattle.seq_tree.proofs.Shared.LoopSteps.{drop_step}
use Rattle.linker.specs.Slots.{vars_at}
use Rattle.linker.proofs.Shared.Placing.{named}
use Rattle.linker.specs.Programs.{datum_names, param_names}
use Rattle.linker.specs.Scopes.{slots_of}
use Rattle.linker.proofs.Shared.BodySlots.{body_slots}

-- one name more, above these
pub one_above : (n : Name) (ns : List Name) (k value : ℕ) (here : List ℕ) (vars : Variables) → k ≡ length ns → k < length here
    → vars_at (slots_of ns) here ≡ vars → vars_at (slots_of (n ∷ ns)) (set here k value) ≡ (n, value) ∷ vars
one_above n ns k value here vars e lt rest =
    ap (λ j. vars_at (slots_of (n ∷ ns)) (set here j value)) e
    ∙ named n value (length ns) (slots_of ns) here (body_slots ns) (subst (λ j. j < length here) e lt)
    ∙ ap (λ vs. (n, value) ∷ vs) rest

-- a list of no length
pub empty_of : (xs : List ℕ) → length xs ≡ 0 → xs ≡ []
empty_of [] e = refl
empty_of (x ∷ xs) e = absurd (omega (arith, e))

-- parameters at entry, by the first of them
pub entered_in : (p : Param) (ps : List Param) (v : ℕ) (vs : List ℕ) → p.mode ≡ In → entered (p ∷ ps) (v ∷ vs) ≡ (p.name, v) ∷ entered ps vs
entered_in p ps v vs e = ap (λ m. entered_by m p.name (v ∷ vs) (entered ps)) e

pub entered_lacking : (p : Param) (ps : List Param) → p.mode ≡ In → entered (p ∷ ps) [] ≡ (p.name, 0) ∷ entered ps []
entered_lacking p ps e = ap (λ m. entered_by m p.name [] (entered ps)) e

pub entered_out : (p : Param) (ps : List Param) (vs : List ℕ) → p.mode ≡ Out → entered (p ∷ ps) vs ≡ (p.name, 0) ∷ entered ps vs
entered_out p ps vs e = ap (λ m. entered_by m p.name vs (entered ps)) e

-- a parameter more, in the uppermost slot
module _ (qs : List Param) (p : Param) (ps : List Param) (here : qs ≡ p ∷ ps) (top value : ℕ) (new mid values others : List ℕ) (vars : Variables)
    (ns : List Name) (are : length ns + length qs ≡ top) (room : top ≤ length mid) (put : new ≡ set mid (top - 1) value)
    (enters : entered qs values ≡ (p.name, value) ∷ entered ps others)
    (rest : length ns + length ps ≡ top - 1 → vars_at (slots_of (param_names ps ++ ns)) mid ≡ entered ps others ++ vars) where
  ps_count : length ns + suc (length ps) ≡ top
  ps_count = ap (λ xs. length ns + length xs) (sym here) ∙ are

  ps_names : top - 1 ≡ length (param_names ps ++ ns)
  ps_names =
      let a = length-append (param_names ps) ns in
      let b = length-map ps (λ q. q.name) in
      let e = ps_count in
      omega (arith, a, b, e)

  pub param_opened : vars_at (slots_of (param_names qs ++ ns)) new ≡ entered qs values ++ vars
  param_opened =
      let e = ps_count in
      ap (λ xs. vars_at (slots_of (param_names xs ++ ns)) new) here
      ∙ ap (vars_at (slots_of (p.name ∷ (param_names ps ++ ns)))) put
      ∙ one_above p.name (param_names ps ++ ns) (top - 1) value mid (entered ps others ++ vars) ps_names (omega (arith, e, room))
      (rest (omega (arith, e)))
      ∙ ap (λ vs. vs ++ vars) (sym enters)

-- data from the last to the first: none
pub data_closed : (ds : List Datum) (ns : List Name) (here : List ℕ)
    → vars_at (slots_of (datum_names (drop (length ds) ds) ++ ns)) here ≡ written (drop (length ds) ds) ++ vars_at (slots_of ns) here
data_closed ds ns here =
    ap (λ xs. vars_at (slots_of (datum_names xs ++ ns)) here) (drop-length ds)
    ∙ ap (λ xs. written xs ++ vars_at (slots_of ns) here) (sym (drop-length ds))

-- a datum more
module _ (ds : List Datum) (at top : ℕ) (d : Datum) (new here : List ℕ) (vars : Variables) (some : 0 < at) (within : at ≤ length ds)
    (is : d ≡ get_or ds (at - 1) d) (room : top ≤ length here) (put : new ≡ set here (top - 1 - (at - 1)) d.value) (ns : List Name)
    (are : length ns + length ds ≡ top) (rest : vars_at (slots_of (datum_names (drop at ds) ++ ns)) here ≡ written (drop at ds) ++ vars) where
  before : at - 1 + 1 ≡ at
  before = omega (arith, some)

  step : drop (at - 1) ds ≡ d ∷ drop at ds
  step = drop_step ds (at - 1) d (omega (arith, some, within)) is ∙ ap (λ k. d ∷ drop k ds) before

  ds_names : top - 1 - (at - 1) ≡ length (datum_names (drop at ds) ++ ns)
  ds_names =
      let a = length-append (datum_names (drop at ds)) ns in
      let b = length-map (drop at ds) (λ q. q.name) in
      let l = length-drop at ds in
      omega (arith, a, b, l, are, some, within)

  pub datum_opened : vars_at (slots_of (datum_names (drop (at - 1) ds) ++ ns)) new ≡ written (drop (at - 1) ds) ++ vars
  datum_opened =
      ap (λ xs. vars_at (slots_of (datum_names xs ++ ns)) new) step
      ∙ ap (vars_at (slots_of (d.name ∷ (datum_names (drop at ds) ++ ns)))) put
      ∙ one_above d.name (datum_names (drop at ds) ++ ns) (top - 1 - (at - 1)) d.value here (written (drop at ds) ++ vars) ds_names
      (omega (arith, some, within, are, room)) rest
      ∙ ap (λ xs. written xs ++ vars) (sym step)

-- all data
pub data_opened : (ds : List Datum) (at : ℕ) (new : List ℕ) (vars : Variables) (ns : List Name) → at ≡ 0
    → vars_at (slots_of (datum_names (drop at ds) ++ ns)) new ≡ written (drop at ds) ++ vars
    → vars_at (slots_of (datum_names ds ++ ns)) new ≡ written ds ++ vars
data_opened ds at new vars ns none h =
    ap (λ k. vars_at (slots_of (datum_names (drop k ds) ++ ns)) new) (sym none) ∙ h ∙ ap (λ k. written (drop k ds) ++ vars) none
