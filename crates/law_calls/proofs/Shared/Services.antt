-- The operations of a program by its units: each is one of a passive unit, one of a protected unit, or the request of a task.
use Rattle.std.specs.Prelude.{◌≡◌, ◌⊎◌, true, false, List, [], ◌∷◌, map, Some, refl}
use Rattle.std.proofs.Common.{sym, ◌∙◌, ap, subst, inl, inr}
use Rattle.std.proofs.lemmas.Bool.{and_parts}
use Rattle.seq_tree.specs.Names.{same_name}
use Rattle.seq_tree.specs.Calls.{block_calls}
use Rattle.seq_tree.specs.Operations.{Operation}
use Rattle.seq_tree.specs.declared.tree.OpName.{OpName}
use Rattle.ada_tree.specs.Programs.{Form, Unit, Program, Passive, Shared, Cyclic, Sporadic, is_task}
use Rattle.ada_tree.specs.Bodies.{op_body, bodies}
use Rattle.ada_tree.specs.Uses.{passive_ops, shared_ops, is_confined}
use Rattle.ods_tree.specs.Services.{Service, Sort, is_service, service_named}
use Rattle.ods_tree.specs.Services as sort
use Rattle.analysis.specs.Sound.{name_of}
use Rattle.guarantee.specs.ResponseLaw.{program_services}
use Rattle.law_lists.proofs.Shared.Facts.{same-is}
use Rattle.law_lists.proofs.Shared.Lists.{IsIn, in-map, found-in}
use Rattle.law_calls.proofs.Shared.Callees.{plain_of, protected_of, requests_of, in-services}

-- the operation of a name has that name
pub named-is : (ss : List Service) (c : OpName) (s : Service) → service_named ss c.object c.op ≡ Some s → IsIn s ss × (name_of s ≡ c)
named-is ss c s e =
    let found = found-in (is_service c.object c.op) ss s e in
    let both = and_parts (same_name s.object c.object) (same_name s.op.sig.name c.op) found.1 in (
      found.0,
      ap (λ n. let x : OpName = record { object = n; op = s.op.sig.name } in x) (same-is s.object c.object both.0)
          ∙ ap (λ n. let x : OpName = record { object = c.object; op = n } in x) (same-is s.op.sig.name c.op both.1),
    )

-- what an operation of this sort is in a unit
abbrev pub IsOf : Sort → Form → Operation → Type 0
IsOf sort.Plain form o = IsIn o (passive_ops form)
IsOf sort.Protected form o = IsIn o (shared_ops form)
IsOf sort.Request form o = (is_task form ≡ true) × (block_calls o.block ≡ [])

pub record IsOffered (p : Program) (s : Service) : Type 0 where
  pub unit : Unit
  pub among : IsIn unit p.units
  pub named : unit.name ≡ s.object
  pub does : IsOf s.sort unit.form s.op

-- the operations of objects, each under its sort
op-in : (u : Unit) (ops : List Operation) (x : Sort) (s : Service)
    → IsIn s (map (λ o. let z : Service = record { object = u.name; sort = x; op = o } in z) ops)
    → (o : Operation) × IsIn o ops × (s ≡ (let z : Service = record { object = u.name; sort = x; op = o } in z))
op-in u [] x s h = absurd h
op-in u (o ∷ ops) x s (inl e) = (o, inl refl, sym e)
op-in u (o ∷ ops) x s (inr h) = let found = op-in u ops x s h in (found.0, inr found.1, found.2)

pub service-of : (p : Program) (s : Service) → IsIn s (program_services p) → IsOffered p s
service-of p s h = let found = in-services p s h in by found.0 found.1 found.0.form refl found.2
  where
    offer : (u : Unit) → IsIn u p.units → (x : Sort) (ops : List Operation) → ((o : Operation) → IsIn o ops → IsOf x u.form o)
        → IsIn s (map (λ o. let z : Service = record { object = u.name; sort = x; op = o } in z) ops) → IsOffered p s
    offer u among x ops does k =
        let o = op-in u ops x s k in subst (IsOffered p) (sym o.2) (record { unit = u; among = among; named = refl; does = does o.0 o.1 })

    by : (u : Unit) → IsIn u p.units → (f : Form) → u.form ≡ f → IsIn s (plain_of u.name f)
        ⊎ (IsIn s (protected_of u.name f) ⊎ IsIn s (requests_of u.name f)) → IsOffered p s
    by u among (Passive ops) is (inl k) = offer u among sort.Plain ops (λ o h. subst (λ z. IsIn o (passive_ops z)) (sym is) h) k
    by u among (Shared ceiling vars ops) is (inr (inl k)) = offer u among sort.Protected ops (λ o h. subst (λ z. IsIn o (shared_ops z)) (sym is) h) k
    by u among (Sporadic priority ceiling op separation jitter external vars block) is (inr (inr (inl same))) =
        subst (IsOffered p) same (record { unit = u; among = among; named = refl; does = (ap is_task is, refl) })
    by u among (Passive ops) is (inr (inl k)) = absurd k
    by u among (Passive ops) is (inr (inr k)) = absurd k
    by u among (Shared ceiling vars ops) is (inl k) = absurd k
    by u among (Shared ceiling vars ops) is (inr (inr k)) = absurd k
    by u among (Cyclic priority offset period vars block) is (inl k) = absurd k
    by u among (Cyclic priority offset period vars block) is (inr (inl k)) = absurd k
    by u among (Cyclic priority offset period vars block) is (inr (inr k)) = absurd k
    by u among (Sporadic priority ceiling op separation jitter external vars block) is (inl k) = absurd k
    by u among (Sporadic priority ceiling op separation jitter external vars block) is (inr (inl k)) = absurd k
    by u among (Sporadic priority ceiling op separation jitter external vars block) is (inr (inr (inr k))) = absurd k

-- the body of a passive operation and of a protected one
pub passive-body : (f : Form) (o : Operation) → IsIn o (passive_ops f) → IsIn (op_body o) (bodies f) × (is_confined f ≡ true)
passive-body (Passive ops) o h = (in-map op_body o ops h, refl)
passive-body (Shared ceiling vars ops) o h = absurd h
passive-body (Cyclic priority offset period vars block) o h = absurd h
passive-body (Sporadic priority ceiling op separation jitter external vars block) o h = absurd h

-- a confined unit is passive
pub confined-plain : (f : Form) (x : Sort) (o : Operation) → is_confined f ≡ true → IsOf x f o → x ≡ sort.Plain
confined-plain f sort.Plain o e h = refl
confined-plain (Passive ops) sort.Protected o e h = absurd h
confined-plain (Passive ops) sort.Request o e h = absurd (let z : false ≡ true = h.0 in cc)
confined-plain (Shared ceiling vars ops) sort.Protected o e h = cc
confined-plain (Shared ceiling vars ops) sort.Request o e h = cc
confined-plain (Cyclic priority offset period vars block) sort.Protected o e h = cc
confined-plain (Cyclic priority offset period vars block) sort.Request o e h = cc
confined-plain (Sporadic priority ceiling op separation jitter external vars block) sort.Protected o e h = cc
confined-plain (Sporadic priority ceiling op separation jitter external vars block) sort.Request o e h = cc
