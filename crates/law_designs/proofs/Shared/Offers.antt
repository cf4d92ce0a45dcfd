-- What a program of a flat design offers is what the flat design has, so a body without a fault in the design has none in the program.
use Rattle.std.proofs.Common.{◌≡◌, ℕ, Bool, true, false, ◌&&◌, List, [], ◌∷◌, ◌++◌, map, flat_map, zip, find, length, Some, None, option_map}
use Rattle.std.proofs.Common.{refl, sym, ap, ◌∙◌, arith, if◌then◌else◌}
use Rattle.std.proofs.lemmas.Grind.{flat_map-append}
use Rattle.std.proofs.lemmas.List.{map-append}
use Rattle.std.specs.List.{cons_option}
use Rattle.seq_tree.specs.Names.{Name, same_name}
use Rattle.seq_tree.specs.Operations.{Signature, Operation, Offer}
use Rattle.seq_tree.specs.Faults.{block_fault}
use Rattle.seq_tree.specs.declared.tree.OpName.{OpName}
use Rattle.ods_tree.specs.Designs.{Provided, Object, Design}
use Rattle.ods_tree.specs.Walk.{Standing, terminals}
use Rattle.ods_tree.specs.Links.{resolve}
use Rattle.ods_tree.specs.Flats.{Library, Guarded, Timing, Thread, Flat}
use Rattle.ods_tree.specs.Flats as timing
use Rattle.ods_tree.specs.Flattening.{operations, request_op, flat}
use Rattle.ods_tree.specs.Services.{Sort, Plain, Protected, Service, plain_services, protected_services, request_of, requested, requests}
use Rattle.ods_tree.specs.Services.{flat_services, service_named}
use Rattle.ada_tree.specs.Programs.{Unit}
use Rattle.ada_tree.specs.Bodies.{heads}
use Rattle.ada_tree.specs.Bodies as ada
use Rattle.analysis.specs.Ceilings.{Ranks}
use Rattle.guarantee.specs.Programs.{passive_unit, shared_unit, thread_unit, thread_form, program_for}
use Rattle.design_rules.specs.Lookups.{provided_named}
use Rattle.design_rules.specs.Bodies.{offers, scope, params_by, request_params}
use Rattle.design_rules.specs.Fittings.{same_params}
use Rattle.design_rules.specs.Rules.{AreMet}
use Rattle.law_designs.proofs.Shared.Lists.{found-only, key-eq}
use Rattle.law_designs.proofs.Renaming.{offers_it, Leads, with_calls, block_fault-renamed}
use Rattle.law_designs.proofs.Shared.Flattened.{operation-from, ThreadFrom, terminal-object}
use Rattle.law_designs.proofs.Shared.ObjectRules.{no-clash, body-right, thread-right}
use Rattle.law_designs.proofs.Shared.ObjectNames.{op-names}
use Rattle.law_designs.proofs.Shared.Served.{Meant, meant}
use Rattle.law_designs.proofs.Shared.Blocks.{NeededOffer, needed-offer, kept}
use Rattle.law_lists.proofs.Shared.Facts.{same-is, is-same}
use Rattle.law_lists.proofs.Shared.Lists.{IsIn, found-in}

-- a service as it is offered
abbrev pub offer_by : Service → Offer
offer_by v = record { object = v.object; sig = v.op.sig }

abbrev pub unit_offers : Unit → List Offer
unit_offers u = map (λ h. record { object = u.name; sig = h }) (heads u.form)

ops-offered : (name : Name) (sort : Sort) (ops : List Operation)
    → map (λ (h : Signature). record { object = name; sig = h }) (map (λ (o : Operation). o.sig) ops)
    ≡ map offer_by (map (λ (o : Operation). record { object = name; sort = sort; op = o }) ops)
ops-offered name sort [] = refl
ops-offered name sort (o ∷ ops) = ap (λ z. record { object = name; sig = o.sig } ∷ z) (ops-offered name sort ops)

passive-offers : (ls : List Library) → flat_map unit_offers (map passive_unit ls) ≡ map offer_by (flat_map plain_services ls)
passive-offers [] = refl
passive-offers (l ∷ ls) =
    ap (λ z. z ++ flat_map unit_offers (map passive_unit ls)) (ops-offered l.name Plain l.ops) ∙ ap (λ z. map offer_by (plain_services l) ++ z)
    (passive-offers ls)
    ∙ sym (map-append offer_by (plain_services l) (flat_map plain_services ls))

shared-offers : (gs : List Guarded) (cs : List ℕ) → length cs ≡ length gs → flat_map unit_offers (map shared_unit (zip gs cs))
    ≡ map offer_by (flat_map protected_services gs)
shared-offers [] cs h = refl
shared-offers (g ∷ gs) [] h = absurd (omega (arith, h))
shared-offers (g ∷ gs) (c ∷ cs) h =
    let rest : length cs ≡ length gs = omega (arith, h) in
    ap (λ z. z ++ flat_map unit_offers (map shared_unit (zip gs cs))) (ops-offered g.name Protected g.ops) ∙ ap
    (λ z. map offer_by (protected_services g) ++ z) (shared-offers gs cs rest)
    ∙ sym (map-append offer_by (protected_services g) (flat_map protected_services gs))

thread-offers : (ts : List Thread) (ps cs : List ℕ) → length ps ≡ length ts → length cs ≡ length ts
    → flat_map unit_offers (map thread_unit (zip ts (zip ps cs))) ≡ map offer_by (requests ts)
thread-offers [] ps cs h k = refl
thread-offers (t ∷ ts) [] cs h k = absurd (omega (arith, h))
thread-offers (t ∷ ts) (p ∷ ps) [] h k = absurd (omega (arith, k))
thread-offers (t ∷ ts) (p ∷ ps) (c ∷ cs) h k =
    let h' : length ps ≡ length ts = omega (arith, h) in
    let k' : length cs ≡ length ts = omega (arith, k) in
    by (thread-offers ts ps cs h' k') t.timing
  where
    by : flat_map unit_offers (map thread_unit (zip ts (zip ps cs))) ≡ map offer_by (requests ts) → (u : Timing)
        → map (λ (h : Signature). record { object = t.name; sig = h }) (heads (thread_form p c u t))
        ++ flat_map unit_offers (map thread_unit (zip ts (zip ps cs)))
        ≡ map offer_by (cons_option (requested t.name (request_of u)) (requests ts))
    by rest (timing.Cyclic period offset) = rest
    by rest (timing.Sporadic op separation jitter) = ap (λ z. record { object = t.name; sig = op } ∷ z) rest

-- ranks with a number for each entry
pub record Fitting (f : Flat) (r : Ranks) : Type 0 where
  pub shared : length r.shared ≡ length f.shared
  pub threads : length r.threads ≡ length f.threads
  pub obcs : length r.obcs ≡ length f.threads

pub offers-are : (f : Flat) (r : Ranks) → Fitting f r → ada.offers (program_for f r) ≡ map offer_by (flat_services f)
offers-are f r fit =
    let us : List Unit = map passive_unit f.passive in
    let vs : List Unit = map shared_unit (zip f.shared r.shared) in
    let ws : List Unit = map thread_unit (zip f.threads (zip r.threads r.obcs)) in
    flat_map-append unit_offers us (vs ++ ws)
    ∙ ap (λ z. z ++ flat_map unit_offers (vs ++ ws)) (passive-offers f.passive)
    ∙ ap (λ z. map offer_by (flat_map plain_services f.passive) ++ z)
    (flat_map-append unit_offers vs ws ∙ ap (λ z. z ++ flat_map unit_offers ws) (shared-offers f.shared r.shared fit.shared)
    ∙ ap (λ z. map offer_by (flat_map protected_services f.shared) ++ z) (thread-offers f.threads r.threads r.obcs fit.threads fit.obcs)
    ∙ sym (map-append offer_by (flat_map protected_services f.shared) (requests f.threads)))
    ∙ sym (map-append offer_by (flat_map plain_services f.passive) (flat_map protected_services f.shared ++ requests f.threads))

-- an offer is found where the service is
pub offer-found : (ss : List Service) (name : OpName) → find (offers_it name) (map offer_by ss)
    ≡ option_map offer_by (service_named ss name.object name.op)
offer-found [] name = refl
offer-found (v ∷ ss) name = by (offer-found ss name) (same_name v.object name.object && same_name v.op.sig.name name.op)
  where
    by : find (offers_it name) (map offer_by ss) ≡ option_map offer_by (service_named ss name.object name.op) → (t : Bool)
        → (if t then Some (offer_by v) else find (offers_it name) (map offer_by ss))
        ≡ option_map offer_by (if t then Some v else service_named ss name.object name.op)
    by rest true = refl
    by rest false = rest

module _ (written x : Design) (met : AreMet written x) (r : Ranks) (fit : Fitting (flat x) r) where
  -- what an object requires leads to what the program offers
  pub leads : (o : Object) → Leads (resolve x) (offers x o) (ada.offers (program_for (flat x) r))
  leads o name off e =
      let n : NeededOffer x o name off = needed-offer x o name off e in
      let m : Meant x name n.needed.provided = meant x (kept written x met) name n.needed.provided n.needed.there in (
        offer_by m.service,
        ap (find (offers_it (resolve x name))) (offers-are (flat x) r fit) ∙ offer-found (flat_services
            (flat x)) (resolve x name) ∙ ap (option_map offer_by) m.found,
        ap (λ (g : Signature). same_params g.params m.service.op.sig.params) n.sig ∙ m.params,
      )

  -- a body without a fault in its object has none in its unit
  pub body-faultless : (s : Standing) (e : Operation) → IsIn s (terminals x) → IsIn e (operations x s.own)
      → block_fault (with_calls (ada.offers (program_for (flat x) r)) (scope x s.own e.sig.params e.locals)) e.block ≡ None
  body-faultless s e h j =
      let f = operation-from x s.own e j in
      let at = found-in (λ b. same_name b.name f.provided.sig.name) s.own.bodies f.body f.named in
      let o = (terminal-object x s h).0 in
      let name : f.body.name ≡ f.provided.sig.name = same-is f.body.name f.provided.sig.name at.1 in
      let found : provided_named f.body.name s.own.provides ≡ Some f.provided =
      found-only (λ p. same_name p.sig.name f.body.name) s.own.provides f.provided f.provides (is-same f.provided.sig.name f.body.name (sym name))
      (λ q i t. key-eq (λ (p : Provided). p.sig.name) s.own.provides (op-names x s (no-clash written x met) o) q f.provided i f.provides
      (same-is q.sig.name f.body.name t ∙ name)) in
      let right : block_fault (scope x s.own f.provided.sig.params f.body.locals) f.body.block ≡ None =
      ap (λ p. block_fault (scope x s.own (params_by p) f.body.locals) f.body.block) (sym found) ∙ body-right written x met s f.body o at.0 in
      ap (λ (g : Operation). block_fault (with_calls (ada.offers (program_for (flat x) r)) (scope x s.own g.sig.params g.locals)) g.block) f.made
      ∙ block_fault-renamed (resolve x) (offers x s.own) (ada.offers (program_for (flat x) r)) (leads s.own)
      (scope x s.own f.provided.sig.params f.body.locals) refl f.body.block right

  pub thread-faultless : (t : Thread) (f : ThreadFrom x t)
      → block_fault (with_calls (ada.offers (program_for (flat x) r))
      (scope x f.standing.own (request_params f.standing.own.kind (request_op f.standing.own.provides)) [])) t.block ≡ None
  thread-faultless t f =
      ap (λ (u : Thread). block_fault (with_calls (ada.offers (program_for (flat x) r))
      (scope x f.standing.own (request_params f.standing.own.kind (request_op f.standing.own.provides)) [])) u.block) f.made
      ∙ block_fault-renamed (resolve x) (offers x f.standing.own) (ada.offers (program_for (flat x) r)) (leads f.standing.own)
      (scope x f.standing.own (request_params f.standing.own.kind (request_op f.standing.own.provides)) []) refl f.block
      (thread-right written x met f.standing f.block (terminal-object x f.standing f.stands).0 f.runs)
