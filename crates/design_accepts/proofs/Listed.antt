-- What calls of a program lead to by the lists of its operations is what they lead to.
use Rattle.std.proofs.Common.{◌≡◌, Bool, true, false, List, [], ◌∷◌, ◌++◌, map, flat_map, Option, Some, None, refl, ap, ◌∙◌}
use Rattle.std.proofs.Math.Path.{fun_ext}
use Rattle.std.specs.Prelude.{find, zip, filter_map, option_map, cond}
use Rattle.std.specs.List.{cons_option}
use Rattle.std.specs.Option.{option_or}
use Rattle.std.proofs.lemmas.List.Folds.{find-append}
use Rattle.seq_tree.specs.Names.{Name}
use Rattle.seq_tree.specs.Operations.{Signature, Operation, Offer}
use Rattle.seq_tree.specs.Runs.{Callee}
use Rattle.seq_tree.specs.Runs as runs
use Rattle.seq_eval.specs.Following.{is_plain, is_offered, callees}
use Rattle.seq_eval.specs.Following as following
use Rattle.ods_tree.specs.Flats.{Library, Guarded}
use Rattle.ods_tree.specs.Services.{Service, Plain, Protected, Request, services, plain_services, protected_services}
use Rattle.ods_tree.specs.Services.{requested, request_of, is_service}
use Rattle.ods_tree.specs.Services.{callee_of, request_service}
use Rattle.ods_tree.specs.Services as sort
use Rattle.ada_tree.specs.Programs.{Program, Form, Unit, Passive, Shared, Cyclic, Sporadic}
use Rattle.guarantee.specs.Software.{Task, program_software, library_by, guarded_by, task_by, leads_to}
use Rattle.design_accepts.specs.Calling.{plain_in, shared_in, requests_in, offered_by, plain_of, owners_of, shared_of, requests_of}

-- what a service leads to, where there is one
abbrev led : Option Service → Option Callee
led s = option_map (λ x. sort.callee_by x.sort x.op) s

-- the first of two
or-led : (a b : Option Service) → led (option_or a b) ≡ option_or (led a) (led b)
or-led None b = refl
or-led (Some x) b = refl

module _ (object op : Name) where
  abbrev test : Service → Bool
  test s = is_service object op s

  abbrev plain_led : Option (Name × Operation) → Option Callee
  plain_led o = option_map (λ x. runs.Plain x.1) o

  abbrev shared_led : Option Offer → Option Callee
  shared_led o = option_map (λ x. runs.Protected x.sig.params) o

  abbrev asked_led : Option Offer → Option Callee
  asked_led o = option_map (λ x. runs.Asked) o

  -- passive operations
  plain-ops : (name : Name) (os : List Operation) (more : List Service) (ns : List Name) (ps : List Operation)
      → led (find test more) ≡ plain_led (find (is_plain object op) (zip ns ps))
      → led (find test (map (λ o. record { object = name; sort = Plain; op = o }) os ++ more))
      ≡ plain_led (find (is_plain object op) (zip (map (λ o. name) os ++ ns) (os ++ ps)))
  plain-ops name [] more ns ps h = h
  plain-ops name (o ∷ os) more ns ps h = by (is_plain object op (name, o)) (plain-ops name os more ns ps h)
    where
      by : (b : Bool)
          → led (find test (map (λ x. record { object = name; sort = Plain; op = x }) os ++ more))
          ≡ plain_led (find (is_plain object op) (zip (map (λ x. name) os ++ ns) (os ++ ps)))
          → led (cond b (Some (record { object = name; sort = Plain; op = o }))
          (find test (map (λ x. record { object = name; sort = Plain; op = x }) os ++ more)))
          ≡ plain_led (cond b (Some (name, o)) (find (is_plain object op) (zip (map (λ x. name) os ++ ns) (os ++ ps))))
      by true k = refl
      by false k = k

  -- protected operations
  shared-ops : (name : Name) (os : List Operation) (more : List Service) (fs : List Offer)
      → led (find test more) ≡ shared_led (find (is_offered object op) fs)
      → led (find test (map (λ o. record { object = name; sort = Protected; op = o }) os ++ more))
      ≡ shared_led (find (is_offered object op) (map (offered_by name) os ++ fs))
  shared-ops name [] more fs h = h
  shared-ops name (o ∷ os) more fs h = by (is_plain object op (name, o)) (shared-ops name os more fs h)
    where
      by : (b : Bool)
          → led (find test (map (λ x. record { object = name; sort = Protected; op = x }) os ++ more))
          ≡ shared_led (find (is_offered object op) (map (offered_by name) os ++ fs))
          → led (cond b (Some (record { object = name; sort = Protected; op = o }))
          (find test (map (λ x. record { object = name; sort = Protected; op = x }) os ++ more)))
          ≡ shared_led (cond b (Some (offered_by name o)) (find (is_offered object op) (map (offered_by name) os ++ fs)))
      by true k = refl
      by false k = k

  abbrev lib : Unit → Option Library
  lib u = library_by u.name u.form

  abbrev gua : Unit → Option Guarded
  gua u = guarded_by u.name u.form

  abbrev tas : Unit → Option Task
  tas u = task_by u.name u.form

  abbrev plain_found : List Unit → Option Callee
  plain_found us = plain_led (find (is_plain object op) (zip (owners_of us) (plain_of us)))

  abbrev shared_found : List Unit → Option Callee
  shared_found us = shared_led (find (is_offered object op) (shared_of us))

  abbrev asked_found : List Unit → Option Callee
  asked_found us = asked_led (find (is_offered object op) (requests_of us))

  plain-led : (us : List Unit) → led (find test (flat_map plain_services (filter_map lib us))) ≡ plain_found us
  plain-led [] = refl
  plain-led (u ∷ us) = by u.form (plain-led us)
    where
      by : (f : Form) → led (find test (flat_map plain_services (filter_map lib us))) ≡ plain_found us
          → led (find test (flat_map plain_services (cons_option (library_by u.name f) (filter_map lib us))))
          ≡ plain_led (find (is_plain object op) (zip (map (λ o. u.name) (plain_in f) ++ owners_of us) (plain_in f ++ plain_of us)))
      by (Passive os) more = plain-ops u.name os (flat_map plain_services (filter_map lib us)) (owners_of us) (plain_of us) more
      by (Shared ceiling vars os) more = more
      by (Cyclic priority offset period vars block) more = more
      by (Sporadic priority ceiling o separation jitter external vars block) more = more

  shared-led : (us : List Unit) → led (find test (flat_map protected_services (filter_map gua us))) ≡ shared_found us
  shared-led [] = refl
  shared-led (u ∷ us) = by u.form (shared-led us)
    where
      by : (f : Form) → led (find test (flat_map protected_services (filter_map gua us))) ≡ shared_found us
          → led (find test (flat_map protected_services (cons_option (guarded_by u.name f) (filter_map gua us))))
          ≡ shared_led (find (is_offered object op) (shared_in u.name f ++ shared_of us))
      by (Passive os) more = more
      by (Shared ceiling vars os) more = shared-ops u.name os (flat_map protected_services (filter_map gua us)) (shared_of us) more
      by (Cyclic priority offset period vars block) more = more
      by (Sporadic priority ceiling o separation jitter external vars block) more = more

  abbrev asks : Task → Option Service
  asks t = requested t.name (request_of t.timing)

  asked-led : (us : List Unit) → led (find test (filter_map asks (filter_map tas us))) ≡ asked_found us
  asked-led [] = refl
  asked-led (u ∷ us) = by u.form (asked-led us)
    where
      one : (sig : Signature) (b : Bool) → led (find test (filter_map asks (filter_map tas us))) ≡ asked_found us
          → led (cond b (Some (request_service u.name sig)) (find test (filter_map asks (filter_map tas us))))
          ≡ asked_led (cond b (Some (record { object = u.name; sig = sig })) (find (is_offered object op) (requests_of us)))
      one sig true more = refl
      one sig false more = more

      by : (f : Form) → led (find test (filter_map asks (filter_map tas us))) ≡ asked_found us
          → led (find test (filter_map asks (cons_option (task_by u.name f) (filter_map tas us))))
          ≡ asked_led (find (is_offered object op) (requests_in u.name f ++ requests_of us))
      by (Passive os) more = more
      by (Shared ceiling vars os) more = more
      by (Cyclic priority offset period vars block) more = more
      by (Sporadic priority ceiling o separation jitter external vars block) more =
          one o (is_offered object op (record { object = u.name; sig = o })) more

  -- what is first found
  first-led : (a : Option (Name × Operation)) (b c : Option Offer) (s : Option Service)
      → led s ≡ option_or (plain_led a) (option_or (shared_led b) (asked_led c)) → following.callee_by a b c ≡ callee_of s
  first-led (Some o) b c (Some s) e = by e
    where
      by : Some (sort.callee_by s.sort s.op) ≡ Some (runs.Plain o.1) → runs.Plain o.1 ≡ sort.callee_by s.sort s.op
      by k = cc
  first-led (Some o) b c None e = absurd (cc)
  first-led None (Some o) c (Some s) e = by e
    where
      by : Some (sort.callee_by s.sort s.op) ≡ Some (runs.Protected o.sig.params) → runs.Protected o.sig.params ≡ sort.callee_by s.sort s.op
      by k = cc
  first-led None (Some o) c None e = absurd (cc)
  first-led None None (Some o) (Some s) e = by e
    where
      by : Some (sort.callee_by s.sort s.op) ≡ Some runs.Asked → runs.Asked ≡ sort.callee_by s.sort s.op
      by k = cc
  first-led None None (Some o) None e = absurd (cc)
  first-led None None None (Some s) e = absurd (cc)
  first-led None None None None e = refl

  one-led : (p : Program)
      → callees (owners_of p.units) (plain_of p.units) (shared_of p.units) (requests_of p.units) object op ≡ leads_to (program_software p) object op
  one-led p =
      let us : List Unit = p.units in
      let plain : List Service = flat_map plain_services (filter_map lib us) in
      let shared : List Service = flat_map protected_services (filter_map gua us) in
      let asked : List Service = filter_map asks (filter_map tas us) in
      first-led (find (is_plain object op) (zip (owners_of us) (plain_of us))) (find (is_offered object op) (shared_of us))
      (find (is_offered object op) (requests_of us)) (find test (plain ++ (shared ++ asked)))
      (
      ap led (find-append test plain (shared ++ asked)) ∙ or-led (find test plain) (find test (shared ++ asked))
      ∙ ap (option_or (led (find test plain))) (ap led (find-append test shared asked) ∙ or-led (find test shared) (find test asked))
      ∙ ap (λ z. option_or z (option_or (led (find test shared)) (led (find test asked)))) (plain-led us)
      ∙ ap (λ z. option_or (plain_found us) (option_or z (led (find test asked)))) (shared-led us)
      ∙ ap (λ z. option_or (plain_found us) (option_or (shared_found us) z)) (asked-led us)
      )

-- for all names
pub all-led : (p : Program)
    → callees (owners_of p.units) (plain_of p.units) (shared_of p.units) (requests_of p.units) ≡ leads_to (program_software p)
all-led p = fun_ext (λ object. fun_ext (λ op. one-led object op p))
