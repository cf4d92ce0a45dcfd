-- The slots of a body that begins, and the variables that the machine gives it.
use Rattle.std.proofs.Common.{◌≡◌, ℕ, List, [], ◌∷◌, ◌++◌, Option, Some, map, length, refl, ap, sym, subst, ◌∙◌, arith}
use Rattle.std.proofs.Common.{append_assoc}
use Rattle.std.specs.Prelude.{reverse, slice_get, unwrap_or, option_to_list}
use Rattle.std.proofs.lemmas.List.{length-map, length-reverse, map-append, reverse-append}
use Rattle.seq_tree.specs.Names.{Name}
use Rattle.seq_tree.specs.Variables.{Variables, entered, entered_by, kept, opened, written}
use Rattle.seq_tree.specs.declared.tree.Datum.{Datum}
use Rattle.seq_tree.specs.declared.tree.Mode.{Mode}
use Rattle.seq_tree.specs.declared.tree.Mode.TheVariants.{In, Out}
use Rattle.seq_tree.specs.declared.tree.Param.{Param}
use Rattle.machine.specs.Releases.{parameter}
use Rattle.machine.specs.Systems.{ReleasePattern, Periodic, Requested, request_params}
use Rattle.linker.specs.Slots.{AreSlots, slot_at, vars_at}
use Rattle.linker.specs.Callees.{OpBody}
use Rattle.linker.specs.Programs.{datum_names, op_part, param_names}
use Rattle.linker.specs.Scopes.{slots_of}
use Rattle.linker.proofs.Keeping.{get_last, get_more}

-- the names of variables
abbrev pub names_of : Variables → List Name
names_of vs = map (λ v. v.0) vs

entered_one : (m : Mode) (name : Name) (values : List ℕ) (others : List ℕ → Variables) (ns : List Name)
    → ((vs : List ℕ) → names_of (others vs) ≡ ns) → names_of (entered_by m name values others) ≡ name ∷ ns
entered_one In name [] others ns h = ap (λ z. name ∷ z) (h [])
entered_one In name (v ∷ vs) others ns h = ap (λ z. name ∷ z) (h vs)
entered_one Out name values others ns h = ap (λ z. name ∷ z) (h values)

-- parameters at entry have the names of the parameters
pub entered_names : (ps : List Param) (values : List ℕ) → names_of (entered ps values) ≡ param_names ps
entered_names [] values = refl
entered_names (p ∷ ps) values = entered_one p.mode p.name values (entered ps) (param_names ps) (entered_names ps)

-- data as they are written, and as they are kept, have their names
pub written_names : (ds : List Datum) → names_of (written ds) ≡ datum_names ds
written_names [] = refl
written_names (d ∷ ds) = ap (λ z. d.name ∷ z) (written_names ds)

pub kept_names : (ds : List Datum) (vs : Variables) → names_of (kept ds vs) ≡ datum_names ds
kept_names [] vs = refl
kept_names (d ∷ ds) vs = ap (λ z. d.name ∷ z) (kept_names ds vs)

-- the variables of a body as it begins, with the data of its object, have the names of its part
pub body_names : (b : OpBody) (values : List ℕ) (data' : Variables) → names_of data' ≡ datum_names b.vars
    → names_of (opened b.op values ++ data') ≡ (op_part b).names
body_names b values data' h =
    let params = entered b.op.sig.params values in
    let locals = written b.op.locals in
    ap names_of (append_assoc params locals data') ∙ map-append (λ (v : Name × ℕ). v.0) params (locals ++ data')
    ∙ ap (λ z. names_of params ++ z) (map-append (λ (v : Name × ℕ). v.0) locals data')
    ∙ ap (λ z. z ++ (names_of locals ++ names_of data')) (entered_names b.op.sig.params values)
    ∙ ap (λ z. param_names b.op.sig.params ++ (z ++ names_of data')) (written_names b.op.locals)
    ∙ ap (λ z. param_names b.op.sig.params ++ (datum_names b.op.locals ++ z)) h

parameter_names : (r : ReleasePattern) (value : Option ℕ) → names_of (parameter r value) ≡ param_names (request_params r)
parameter_names (Periodic offset period) value = refl
parameter_names (Requested op ceiling separation jitter external) value = entered_names op.params (option_to_list value)

-- the variables of a task that is released have the names of its part
pub task_names : (r : ReleasePattern) (value : Option ℕ) (ds : List Datum) (data' : Variables) → names_of data' ≡ datum_names ds
    → names_of (parameter r value ++ data') ≡ param_names (request_params r) ++ datum_names ds
task_names r value ds data' h =
    map-append (λ (v : Name × ℕ). v.0) (parameter r value) data' ∙ ap (λ z. z ++ names_of data') (parameter_names r value)
    ∙ ap (λ z. param_names (request_params r) ++ z) h

-- the slots of a body lie one above the other
pub body_slots : (ns : List Name) → AreSlots (length ns) (slots_of ns)
body_slots [] = tt
body_slots (n ∷ ns) = (omega arith, body_slots ns)

-- values that were pushed from the last to the first are those of the variables
pub slots_hold : (vs : Variables) (more : List ℕ) → vars_at (slots_of (names_of vs)) (reverse (map (λ v. v.1) vs) ++ more) ≡ vs
slots_hold [] more = refl
slots_hold (v ∷ vs) more =
    let values = reverse (map (λ (w : Name × ℕ). w.1) vs) in
    let moved : reverse (v.1 ∷ map (λ (w : Name × ℕ). w.1) vs) ++ more ≡ values ++ v.1 ∷ more =
    ap (λ z. z ++ more) (reverse-append (v.1 ∷ []) (map (λ (w : Name × ℕ). w.1) vs)) ∙ append_assoc values (v.1 ∷ []) more in
    let long : length (names_of vs) ≡ length values =
    length-map vs (λ (w : Name × ℕ). w.0) ∙ sym (length-reverse (map (λ (w : Name × ℕ). w.1) vs) ∙ length-map vs (λ (w : Name × ℕ). w.1)) in
    let here : slice_get (values ++ v.1 ∷ more) (length values) ≡ Some v.1 =
    subst (λ z. slice_get z (length values) ≡ Some v.1) (append_assoc values (v.1 ∷ []) more)
    (get_more (values ++ v.1 ∷ []) more (length values) v.1 (get_last values v.1)) in
    ap (vars_at (slots_of (v.0 ∷ names_of vs))) moved
    ∙ ap (λ k. (v.0, slot_at (values ++ v.1 ∷ more) k) ∷ vars_at (slots_of (names_of vs)) (values ++ v.1 ∷ more)) long
    ∙ ap (λ o. (v.0, unwrap_or o 0) ∷ vars_at (slots_of (names_of vs)) (values ++ v.1 ∷ more)) here
    ∙ ap (λ z. (v.0, v.1) ∷ z) (slots_hold vs (v.1 ∷ more))
