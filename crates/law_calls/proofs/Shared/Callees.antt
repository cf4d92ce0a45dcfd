-- What a call of a program leads to, on the processor and by the texts: the same, where the units have names of their own.
use Rattle.std.specs.Prelude.{◌≡◌, ◌⊎◌, ℕ, suc, Bool, true, false, ◌&&◌, cond, List, [], ◌∷◌, ◌++◌, map, find, flat_map, filter_map, option_map}
use Rattle.std.specs.Prelude.{Option, Some, None, if◌then◌else◌, refl}
use Rattle.std.specs.List.{cons_option}
use Rattle.std.proofs.Common.{◌∙◌, ap, subst, inl, inr}
use Rattle.seq_tree.specs.Lists.{first_from}
use Rattle.seq_tree.specs.Names.{Name, same_name}
use Rattle.seq_tree.specs.Operations.{Operation}
use Rattle.ada_tree.specs.Programs.{Form, Unit, Program, Passive, Shared, Cyclic, Sporadic}
use Rattle.ods_tree.specs.Services.{Service, Sort, is_service, plain_services, protected_services, request_service}
use Rattle.ods_tree.specs.Services.{requested, request_of, service_named}
use Rattle.ods_tree.specs.Services as services
use Rattle.guarantee.specs.Software.{program_software, all_services, task_by, guarded_by}
use Rattle.guarantee.specs.Software as software
use Rattle.law_calls.proofs.Shared.UnitNames.{AreOthers, IsUnit, find_others, find_unit}
use Rattle.law_lists.proofs.Shared.Lists.{IsIn, in-some, in-parts}

-- the operation of a name
abbrev pub is_op : Name → Operation → Bool
is_op op o = same_name o.sig.name op

-- a unit's part of the services
abbrev pub plain_of : Name → Form → List Service
plain_of name (Passive ops) = map (λ o. record { object = name; sort = services.Plain; op = o }) ops
plain_of name _ = []

abbrev pub protected_of : Name → Form → List Service
protected_of name (Shared ceiling vars ops) = map (λ o. record { object = name; sort = services.Protected; op = o }) ops
protected_of name _ = []

abbrev pub requests_of : Name → Form → List Service
requests_of name (Sporadic priority ceiling op separation jitter external vars block) = request_service name op ∷ []
requests_of name _ = []

plain_parts : (us : List Unit) → flat_map plain_services (filter_map (λ u. software.library_by u.name u.form) us)
    ≡ flat_map (λ u. plain_of u.name u.form) us
plain_parts [] = refl
plain_parts (u ∷ us) = by u.form (plain_parts us)
  where
    rest : List Service
    rest = flat_map (λ u. plain_of u.name u.form) us

    by : (f : Form) → flat_map plain_services (filter_map (λ u. software.library_by u.name u.form) us) ≡ rest
        → flat_map plain_services (cons_option (software.library_by u.name f) (filter_map (λ u. software.library_by u.name u.form) us))
        ≡ plain_of u.name f ++ rest
    by (Passive ops) e = ap (λ xs. map (λ o. record { object = u.name; sort = services.Plain; op = o }) ops ++ xs) e
    by (Shared ceiling vars ops) e = e
    by (Cyclic priority offset period vars block) e = e
    by (Sporadic priority ceiling op separation jitter external vars block) e = e

protected_parts : (us : List Unit) → flat_map protected_services (filter_map (λ u. guarded_by u.name u.form) us)
    ≡ flat_map (λ u. protected_of u.name u.form) us
protected_parts [] = refl
protected_parts (u ∷ us) = by u.form (protected_parts us)
  where
    rest : List Service
    rest = flat_map (λ u. protected_of u.name u.form) us

    by : (f : Form) → flat_map protected_services (filter_map (λ u. guarded_by u.name u.form) us) ≡ rest
        → flat_map protected_services (cons_option (guarded_by u.name f) (filter_map (λ u. guarded_by u.name u.form) us))
        ≡ protected_of u.name f ++ rest
    by (Passive ops) e = e
    by (Shared ceiling vars ops) e = ap (λ xs. map (λ o. record { object = u.name; sort = services.Protected; op = o }) ops ++ xs) e
    by (Cyclic priority offset period vars block) e = e
    by (Sporadic priority ceiling op separation jitter external vars block) e = e

request_parts : (us : List Unit) → filter_map (λ t. requested t.name (request_of t.timing)) (filter_map (λ u. task_by u.name u.form) us)
    ≡ flat_map (λ u. requests_of u.name u.form) us
request_parts [] = refl
request_parts (u ∷ us) = by u.form (request_parts us)
  where
    rest : List Service
    rest = flat_map (λ u. requests_of u.name u.form) us

    by : (f : Form) → filter_map (λ t. requested t.name (request_of t.timing)) (filter_map (λ u. task_by u.name u.form) us) ≡ rest
        → filter_map (λ t. requested t.name (request_of t.timing)) (cons_option (task_by u.name f) (filter_map (λ u. task_by u.name u.form) us))
        ≡ requests_of u.name f ++ rest
    by (Passive ops) e = e
    by (Shared ceiling vars ops) e = e
    by (Cyclic priority offset period vars block) e = e
    by (Sporadic priority ceiling op separation jitter external vars block) e = ap (λ xs. request_service u.name op ∷ xs) e

-- the services of a program, unit by unit
parts_of : List Unit → List Service
parts_of us = flat_map (λ u. plain_of u.name u.form) us ++ (flat_map (λ u. protected_of u.name u.form) us
    ++ flat_map (λ u. requests_of u.name u.form) us)

services_are : (p : Program) → all_services (program_software p) ≡ parts_of p.units
unfolding parts_of
services_are p =
    ap (λ xs. xs ++ (flat_map protected_services (program_software p).shared ++ filter_map (λ t. requested t.name (request_of t.timing))
    (program_software p).tasks)) (plain_parts p.units)
    ∙ ap (λ xs. flat_map (λ u. plain_of u.name u.form) p.units
    ++ (xs ++ filter_map (λ t. requested t.name (request_of t.timing)) (program_software p).tasks)) (protected_parts p.units)
    ∙ ap (λ xs. flat_map (λ u. plain_of u.name u.form) p.units ++ (flat_map (λ u. protected_of u.name u.form) p.units ++ xs)) (request_parts p.units)

-- an operation of a program is one of a unit
pub in-services : (p : Program) (s : Service) → IsIn s (all_services (program_software p))
    → (u : Unit) × IsIn u p.units × (IsIn s (plain_of u.name u.form) ⊎ (IsIn s (protected_of u.name u.form) ⊎ IsIn s (requests_of u.name u.form)))
unfolding parts_of
in-services p s h = by (in-parts s (flat_map (λ (u : Unit). plain_of u.name u.form) p.units) _ (subst (IsIn s) (services_are p) h))
  where
    shared : IsIn s (flat_map (λ (u : Unit). protected_of u.name u.form) p.units)
        ⊎ IsIn s (flat_map (λ (u : Unit). requests_of u.name u.form) p.units)
        → (u : Unit) × IsIn u p.units × (IsIn s (plain_of u.name u.form) ⊎ (IsIn s (protected_of u.name u.form) ⊎ IsIn s (requests_of u.name u.form)))
    shared (inl k) = let found = in-some (λ (u : Unit). protected_of u.name u.form) p.units s k in (found.0, found.1, inr (inl found.2))
    shared (inr k) = let found = in-some (λ (u : Unit). requests_of u.name u.form) p.units s k in (found.0, found.1, inr (inr found.2))

    by : IsIn s (flat_map (λ (u : Unit). plain_of u.name u.form) p.units)
        ⊎ IsIn s (flat_map (λ (u : Unit). protected_of u.name u.form) p.units ++ flat_map (λ (u : Unit). requests_of u.name u.form) p.units)
        → (u : Unit) × IsIn u p.units × (IsIn s (plain_of u.name u.form) ⊎ (IsIn s (protected_of u.name u.form) ⊎ IsIn s (requests_of u.name u.form)))
    by (inl k) = let found = in-some (λ (u : Unit). plain_of u.name u.form) p.units s k in (found.0, found.1, inl found.2)
    by (inr k) = shared (in-parts s (flat_map (λ (u : Unit). protected_of u.name u.form) p.units) _ k)

-- the first of two
abbrev pub or_find : Option Service → Option Service → Option Service
or_find (Some s) others = Some s
or_find None others = others

find_parts : (test : Service → Bool) (xs ys : List Service) → find test (xs ++ ys) ≡ or_find (find test xs) (find test ys)
find_parts test [] ys = refl
find_parts test (x ∷ xs) ys = by (test x) (find_parts test xs ys)
  where
    by : (b : Bool) → find test (xs ++ ys) ≡ or_find (find test xs) (find test ys)
        → cond b (Some x) (find test (xs ++ ys)) ≡ or_find (cond b (Some x) (find test xs)) (find test ys)
    by true e = refl
    by false e = e

-- operations under a name
abbrev pub under : Name → Sort → Operation → Service
under name sort o = record { object = name; sort = sort; op = o }

other_ops : (unit op name : Name) (sort : Sort) (ops : List Operation) → same_name name unit ≡ false
    → find (is_service unit op) (map (under name sort) ops) ≡ None
other_ops unit op name sort [] e = refl
other_ops unit op name sort (o ∷ ops) e =
    ap (λ b. cond (b && same_name o.sig.name op) (Some (under name sort o)) (find (is_service unit op) (map (under name sort) ops))) e ∙ other_ops
    unit op name sort ops e

pub own_ops : (unit op name : Name) (sort : Sort) (k : ℕ) (ops : List Operation) → same_name name unit ≡ true
    → find (is_service unit op) (map (under name sort) ops) ≡ option_map (λ x. under name sort x.1) (first_from k (is_op op) ops)
own_ops unit op name sort k [] e = refl
own_ops unit op name sort k (o ∷ ops) e =
    ap (λ b. cond (b && same_name o.sig.name op) (Some (under name sort o)) (find (is_service unit op) (map (under name sort) ops))) e
    ∙ by (same_name o.sig.name op) (own_ops unit op name sort (suc k) ops e)
  where
    by : (b : Bool) → find (is_service unit op) (map (under name sort) ops)
        ≡ option_map (λ x. under name sort x.1) (first_from (suc k) (is_op op) ops)
        → cond b (Some (under name sort o)) (find (is_service unit op) (map (under name sort) ops))
        ≡ option_map (λ x. under name sort x.1) (if b then Some (k, o) else first_from (suc k) (is_op op) ops)
    by true h = refl
    by false h = h

plain_others : (unit op : Name) (u : Unit) → same_name u.name unit ≡ false → find (is_service unit op) (plain_of u.name u.form) ≡ None
plain_others unit op u e = by u.form
  where
    by : (f : Form) → find (is_service unit op) (plain_of u.name f) ≡ None
    by (Passive ops) = other_ops unit op u.name services.Plain ops e
    by (Shared ceiling vars ops) = refl
    by (Cyclic priority offset period vars block) = refl
    by (Sporadic priority ceiling op' separation jitter external vars block) = refl

protected_others : (unit op : Name) (u : Unit) → same_name u.name unit ≡ false → find (is_service unit op) (protected_of u.name u.form) ≡ None
protected_others unit op u e = by u.form
  where
    by : (f : Form) → find (is_service unit op) (protected_of u.name f) ≡ None
    by (Passive ops) = refl
    by (Shared ceiling vars ops) = other_ops unit op u.name services.Protected ops e
    by (Cyclic priority offset period vars block) = refl
    by (Sporadic priority ceiling op' separation jitter external vars block) = refl

request_others : (unit op : Name) (u : Unit) → same_name u.name unit ≡ false → find (is_service unit op) (requests_of u.name u.form) ≡ None
request_others unit op u e = by u.form
  where
    by : (f : Form) → find (is_service unit op) (requests_of u.name f) ≡ None
    by (Passive ops) = refl
    by (Shared ceiling vars ops) = refl
    by (Cyclic priority offset period vars block) = refl
    by (Sporadic priority ceiling sig separation jitter external vars block)
        = ap (λ b. cond (b && same_name sig.name op) (Some (request_service u.name sig)) None) e

-- the service of a name, where no unit has it, and by the unit that has it
pub service_others : (p : Program) (unit op : Name) → AreOthers unit p.units → service_named (all_services (program_software p)) unit op ≡ None
unfolding parts_of
service_others p unit op others =
    let test : Service → Bool = is_service unit op in
    ap (find test) (services_are p)
    ∙ find_parts test (flat_map (λ u. plain_of u.name u.form) p.units) _
    ∙ ap (λ o. or_find o (find test (flat_map (λ u. protected_of u.name u.form) p.units ++ flat_map (λ u. requests_of u.name u.form) p.units)))
    (find_others (λ u. plain_of u.name u.form) test unit (plain_others unit op) p.units others)
    ∙ find_parts test (flat_map (λ u. protected_of u.name u.form) p.units) _
    ∙ ap (λ o. or_find o (find test (flat_map (λ u. requests_of u.name u.form) p.units)))
    (find_others (λ u. protected_of u.name u.form) test unit (protected_others unit op) p.units others)
    ∙ find_others (λ u. requests_of u.name u.form) test unit (request_others unit op) p.units others

pub service_unit : (p : Program) (unit op : Name) (h : IsUnit p.units unit) → service_named (all_services (program_software p)) unit op
    ≡ or_find (find (is_service unit op) (plain_of h.unit.name h.unit.form))
    (or_find (find (is_service unit op) (protected_of h.unit.name h.unit.form)) (find (is_service unit op) (requests_of h.unit.name h.unit.form)))
unfolding parts_of
service_unit p unit op h =
    let test : Service → Bool = is_service unit op in
    let us : List Unit = h.front ++ h.unit ∷ h.back in
    ap (find test) (services_are p ∙ ap parts_of h.parts)
    ∙ find_parts test (flat_map (λ u. plain_of u.name u.form) us) _
    ∙ ap (or_find (find test (flat_map (λ u. plain_of u.name u.form) us))) (find_parts test (flat_map (λ u. protected_of u.name u.form) us) _)
    ∙ ap (λ o. or_find o (or_find (find test (flat_map (λ u. protected_of u.name u.form) us))
    (find test (flat_map (λ u. requests_of u.name u.form) us))))
    (find_unit (λ u. plain_of u.name u.form) test unit (plain_others unit op) h.front h.unit h.back h.before h.behind)
    ∙ ap (λ o. or_find (find test (plain_of h.unit.name h.unit.form)) (or_find o (find test (flat_map (λ u. requests_of u.name u.form) us))))
    (find_unit (λ u. protected_of u.name u.form) test unit (protected_others unit op) h.front h.unit h.back h.before h.behind)
    ∙ ap (λ o. or_find (find test (plain_of h.unit.name h.unit.form)) (or_find (find test (protected_of h.unit.name h.unit.form)) o))
    (find_unit (λ u. requests_of u.name u.form) test unit (request_others unit op) h.front h.unit h.back h.before h.behind)
