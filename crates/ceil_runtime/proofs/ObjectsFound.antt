-- The protected objects that are found among units, one unit after another.
use Rattle.std.specs.Prelude.{◌≡◌, ℕ, ◌+◌, ◌<◌, ◌≤◌, ◌++◌, List, [], ◌∷◌, drop, length, map, take, Some, None, option_map, option_to_list, get_or}
use Rattle.std.specs.Prelude.{refl}
use Rattle.std.proofs.Common.{sym, ◌∙◌, ap, arith, append_assoc, append-nil}
use Rattle.std.proofs.lemmas.List.{length_push, map-append}
use Rattle.std.proofs.Math.ListN.{drop_of_length-le}
use Rattle.seq_tree.specs.Variables.{written}
use Rattle.seq_tree.specs.declared.tree.Datum.{Datum}
use Rattle.ada_tree.specs.Programs.{Form, Unit, Passive, Shared, Cyclic, Sporadic}
use Rattle.ada_tree.specs.Trees.{form_of, unit_of}
use Rattle.ada_tree.specs.declared.program.Form as forms
use Rattle.ada_tree.specs.declared.program.Unit as units
use Rattle.machine.specs.Systems.{ProtectedUnit, object_by, objects_from}
use Rattle.task_runtime.specs.Fitting.{names_of}
use Rattle.ceil_runtime.specs.Objects.{AddsObject, ObjectShown, first_object, shown, store_of}
use Rattle.ceil_runtime.specs.declared.object.Object.{Object}
use Rattle.task_runtime.proofs.Shared.UnitsAt.{units-at}

-- the names of data, as variables and as they are written
pub data-names : (ws : List Datum) → names_of (written ws ++ []) ≡ take (length ws) (map (λ d. d.name) ws)
data-names [] = refl
data-names (w ∷ ws) = ap (λ ns. w.name ∷ ns) (data-names ws)

-- what a unit of this form adds
pub adds-object : (place : ℕ) (u : units.Unit) (f : forms.Form) (os os' : List Object) (o : Object) → u.form ≡ f
    → Some (shown o) ≡ option_map first_object (object_by place u.name (form_of f)) → os' ≡ os ++ o ∷ [] → AddsObject place u os os'
adds-object place u f os os' o is adds pushed = record {
  shows = ap (map shown) pushed ∙ map-append shown os (o ∷ []) ∙ ap (λ x. map shown os
      ++ option_to_list x) (adds ∙ ap (λ g. option_map first_object (object_by place u.name (form_of g))) (sym is));
  few = let longer = ap length pushed ∙ length_push os o in omega (arith, longer);
}

pub adds-nothing : (place : ℕ) (u : units.Unit) (f : forms.Form) (os : List Object) → u.form ≡ f → object_by place u.name (form_of f) ≡ None
    → AddsObject place u os os
adds-nothing place u f os is none = record {
  shows = sym (append-nil (map shown os)) ∙ ap (λ x. map shown os ++ option_to_list (option_map first_object x)) (sym none ∙ ap
      (λ g. object_by place u.name (form_of g)) (sym is));
  few = omega arith;
}

objects-cons : (n : ℕ) (u : Unit) (us : List Unit) → map first_object (objects_from n (u ∷ us))
    ≡ option_to_list (option_map first_object (object_by n u.name u.form)) ++ map first_object (objects_from (n + 1) us)
objects-cons n u us = by_form u.form
  where
    by_form : (f : Form) → map first_object (objects_from n (record { name = u.name; form = f } ∷ us))
        ≡ option_to_list (option_map first_object (object_by n u.name f)) ++ map first_object (objects_from (n + 1) us)
    by_form (Passive ops) = refl
    by_form (Shared ceiling vars ops) = refl
    by_form (Cyclic priority offset period vars block) = refl
    by_form (Sporadic priority ceiling op separation jitter external vars block) = refl

-- the objects so far, with those of the units that are left
abbrev pub AreFound : List units.Unit → ℕ → List Object → Type 0
AreFound us n os = map shown os ++ map first_object (objects_from n (map unit_of (drop n us))) ≡ map first_object (objects_from 0 (map unit_of us))

pub found-more : (us : List units.Unit) (n : ℕ) (u : units.Unit) → n < length us → u ≡ get_or us n u → (os os' : List Object) → AddsObject n u os os'
    → AreFound us n os → AreFound us (n + 1) os'
found-more us n u h is os os' a so_far =
    let rest : List ObjectShown = map first_object (objects_from (n + 1) (map unit_of (drop (n + 1) us))) in
    let here : map unit_of (drop n us) ≡ unit_of u ∷ map unit_of (drop (n + 1) us)
    = units-at us n u h ∙ ap (λ v. unit_of v ∷ map unit_of (drop (n + 1) us)) (sym is) in
    ap (λ xs. xs ++ rest) a.shows ∙ append_assoc (map shown os)
    (option_to_list (option_map first_object (object_by n (unit_of u).name (unit_of u).form))) rest
    ∙ ap (λ xs. map shown os ++ xs) (sym (objects-cons n (unit_of u) (map unit_of (drop (n + 1) us))) ∙ ap
    (λ xs. map first_object (objects_from n xs)) (sym here)) ∙ so_far

pub found-all : (us : List units.Unit) (n : ℕ) (os : List Object) → length us ≤ n → AreFound us n os
    → map shown os ≡ map first_object (objects_from 0 (map unit_of us))
found-all us n os past so_far =
    sym (append-nil (map shown os)) ∙ ap (λ xs. map shown os ++ map first_object (objects_from n (map unit_of xs)))
    (sym (drop_of_length-le us past)) ∙ so_far

-- the data of objects that are found are those that are written
pub found-stores : (os : List Object) (gs : List ProtectedUnit) → map shown os ≡ map first_object gs → map store_of os ≡ map (λ g. written g.vars) gs
found-stores os gs h = sym (of_shown os) ∙ ap (map (λ x. x.store)) h ∙ of_first gs
  where
    of_shown : (xs : List Object) → map (λ x. x.store) (map shown xs) ≡ map store_of xs
    of_shown [] = refl
    of_shown (x ∷ xs) = ap (λ ys. store_of x ∷ ys) (of_shown xs)

    of_first : (hs : List ProtectedUnit) → map (λ x. x.store) (map first_object hs) ≡ map (λ g. written g.vars) hs
    of_first [] = refl
    of_first (g ∷ hs) = ap (λ ys. written g.vars ∷ ys) (of_first hs)
