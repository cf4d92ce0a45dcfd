-- The operations of a design whose `work` is changed, and what calls of them cost.
use Rattle.std.proofs.Common.{◌≡◌, ◌≤◌, ℕ, ◌*◌, zero, suc, Bool, true, false, List, [], ◌∷◌, ◌++◌, map, refl, ap, arith, ◌∙◌, sym, le_refl, Option}
use Rattle.std.proofs.Common.{Some, None, length, flat_map}
use Rattle.std.specs.Prelude.{if◌then◌else◌, find, option_map}
use Rattle.std.specs.List.{cons_option}
use Rattle.std.proofs.lemmas.List.{length-map, map-append}
use Rattle.seq_tree.specs.Names.{Name}
use Rattle.seq_tree.specs.Statements.{Statements}
use Rattle.seq_tree.specs.Operations.{Signature, Operation}
use Rattle.seq_tree.specs.Dearest.{cost}
use Rattle.seq_tree.specs.declared.tree.Costs.{Costs}
use Rattle.ods_tree.specs.Flats.{Library, Guarded, Thread, Flat}
use Rattle.ods_tree.specs.Services.{Sort, Plain, Protected, Request, Service, plain_services, protected_services, request_service, requested}
use Rattle.ods_tree.specs.Services.{request_of, requests}
use Rattle.ods_tree.specs.Services.{flat_services, is_service, service_named}
use Rattle.analysis.specs.Execution.{body_cost_by, service_cost, cost_within, called_cost, block_cost}
use Rattle.analysis.specs.Tables.{activation_cost}
use Rattle.law_scaling.specs.Working.{reworked_block, reworked_op, reworked_library, reworked_guarded, reworked_thread, reworked}
use Rattle.law_scaling.proofs.Shared.Blocks.{block-weighs, block-grows}

-- an operation of an object
abbrev pub reworked_service : (Name → ℕ → ℕ) → Service → Service
reworked_service w s = record { object = s.object; sort = s.sort; op = reworked_op (w s.object) s.op }

pub find-map : {A : Type 0} (p q : A → Bool) (g : A → A) (xs : List A) → ((x : A) → p (g x) ≡ q x) → find p (map g xs) ≡ option_map g (find q xs)
find-map p q g [] same = refl
find-map {A} p q g (x ∷ xs) same = by (q x) refl (find-map p q g xs same)
  where
    by : (b : Bool) → q x ≡ b → find p (map g xs) ≡ option_map g (find q xs)
        → (if p (g x) then Some (g x) else find p (map g xs)) ≡ option_map g (if q x then Some x else find q xs)
    by true e rest = rw (same x, e) refl
    by false e rest = rw (same x, e) rest

module _ (w : Name → ℕ → ℕ) where
  plain-same : (name : Name) (os : List Operation) → map (λ o. let s : Service = record { object = name; sort = Plain; op = o } in s)
      (map (reworked_op (w name)) os)
      ≡ map (reworked_service w) (map (λ o. record { object = name; sort = Plain; op = o }) os)
  plain-same name [] = refl
  plain-same name (o ∷ os) = ap (λ z. record { object = name; sort = Plain; op = reworked_op (w name) o } ∷ z) (plain-same name os)

  protected-same : (name : Name) (os : List Operation) → map (λ o. let s : Service = record { object = name; sort = Protected; op = o } in s)
      (map (reworked_op (w name)) os)
      ≡ map (reworked_service w) (map (λ o. record { object = name; sort = Protected; op = o }) os)
  protected-same name [] = refl
  protected-same name (o ∷ os) = ap (λ z. record { object = name; sort = Protected; op = reworked_op (w name) o } ∷ z) (protected-same name os)

  libraries-same : (ls : List Library) → flat_map plain_services (map (reworked_library w) ls) ≡ map (reworked_service w) (flat_map plain_services ls)
  libraries-same [] = refl
  libraries-same (l ∷ ls) =
      ap (λ z. z ++ flat_map plain_services (map (reworked_library w) ls)) (plain-same l.name l.ops)
      ∙ ap (λ z. map (reworked_service w) (plain_services l) ++ z) (libraries-same ls)
      ∙ sym (map-append (reworked_service w) (plain_services l) (flat_map plain_services ls))

  guarded-same : (gs : List Guarded) → flat_map protected_services (map (reworked_guarded w) gs)
      ≡ map (reworked_service w) (flat_map protected_services gs)
  guarded-same [] = refl
  guarded-same (g ∷ gs) =
      ap (λ z. z ++ flat_map protected_services (map (reworked_guarded w) gs)) (protected-same g.name g.ops)
      ∙ ap (λ z. map (reworked_service w) (protected_services g) ++ z) (guarded-same gs)
      ∙ sym (map-append (reworked_service w) (protected_services g) (flat_map protected_services gs))

  requests-same : (ts : List Thread) → requests (map (reworked_thread w) ts) ≡ map (reworked_service w) (requests ts)
  requests-same [] = refl
  requests-same (t ∷ ts) = by (request_of t.timing) (requests-same ts)
    where
      by : (o : Option Signature) → requests (map (reworked_thread w) ts) ≡ map (reworked_service w) (requests ts)
          → cons_option (requested t.name o) (requests (map (reworked_thread w) ts))
          ≡ map (reworked_service w) (cons_option (requested t.name o) (requests ts))
      by None rest = rest
      by (Some sig) rest = ap (λ z. request_service t.name sig ∷ z) rest

  -- the operations of the changed design
  pub services-same : (f : Flat) → flat_services (reworked w f) ≡ map (reworked_service w) (flat_services f)
  services-same f =
      ap (λ z. z ++ (flat_map protected_services (map (reworked_guarded w) f.shared) ++ requests (map (reworked_thread w) f.threads)))
      (libraries-same f.passive)
      ∙ ap (λ z. map (reworked_service w) (flat_map plain_services f.passive) ++ (z ++ requests (map (reworked_thread w) f.threads)))
      (guarded-same f.shared)
      ∙ ap
      (λ z. map (reworked_service w) (flat_map plain_services f.passive) ++ (map (reworked_service w) (flat_map protected_services f.shared) ++ z))
      (requests-same f.threads)
      ∙ ap (λ z. map (reworked_service w) (flat_map plain_services f.passive) ++ z)
      (sym (map-append (reworked_service w) (flat_map protected_services f.shared) (requests f.threads)))
      ∙ sym (map-append (reworked_service w) (flat_map plain_services f.passive) (flat_map protected_services f.shared ++ requests f.threads))

  -- and the one of a name
  pub named-same : (ss : List Service) (object op : Name) → service_named (map (reworked_service w) ss) object op
      ≡ option_map (reworked_service w) (service_named ss object op)
  named-same ss object op = find-map (is_service object op) (is_service object op) (reworked_service w) ss (λ s. refl)

-- costs where `work` is changed by one function and by another that is nowhere below it
module _ (v w : Name → ℕ → ℕ) (less : (object : Name) (n : ℕ) → v object n ≤ w object n) (costs : Costs) where
  -- a block of an object
  pub block-more : (object : Name) (f g : Name → Name → ℕ) → ((o p : Name) → f o p ≤ g o p) → (b : Statements)
      → cost costs f (reworked_block (v object) b) ≤ cost costs g (reworked_block (w object) b)
  block-more object f g calls b =
      let low = block-weighs (v object) costs (λ n. n) f b in
      let high = block-weighs (w object) costs (λ n. n) g b in
      let more = block-grows costs (v object) (w object) f g (less object) calls b in
      omega (arith, low, high, more)

  module _ (ss : List Service) where
    abbrev low : List Service
    low = map (reworked_service v) ss

    abbrev high : List Service
    high = map (reworked_service w) ss

    -- what a call costs, followed so deep
    pub within-more : (d : ℕ) (object op : Name) → cost_within d costs low object op ≤ cost_within d costs high object op
    within-more zero object op = le_refl 0
    within-more (suc d) object op =
        rw (named-same v ss object op, named-same w ss object op) (by (within-more d) (service_named ss object op))
      where
        Less : Type 0
        Less = (o p : Name) → cost_within d costs low o p ≤ cost_within d costs high o p

        sorted : Less → (x : Sort) (object : Name) (o : Operation)
            → body_cost_by costs (cost_within d costs low) x (reworked_op (v object) o)
            ≤ body_cost_by costs (cost_within d costs high) x (reworked_op (w object) o)
        sorted h Plain object o = block-more object (cost_within d costs low) (cost_within d costs high) h o.block
        sorted h Protected object o = block-more object (cost_within d costs low) (cost_within d costs high) h o.block
        sorted h Request object o = le_refl (2 * costs.assign)

        by : Less → (o : Option Service) → service_cost costs (cost_within d costs low) (option_map (reworked_service v) o)
            ≤ service_cost costs (cost_within d costs high) (option_map (reworked_service w) o)
        by h None = le_refl 0
        by h (Some s) = sorted h s.sort s.object s.op

    pub called-more : (object op : Name) → called_cost costs low object op ≤ called_cost costs high object op
    called-more object op = rw (length-map ss (reworked_service v), length-map ss (reworked_service w)) (within-more (length ss) object op)

    -- what a block of an object costs
    pub block_cost-more : (object : Name) (b : Statements) → block_cost costs low (reworked_block (v object) b)
        ≤ block_cost costs high (reworked_block (w object) b)
    block_cost-more object b = block-more object (called_cost costs low) (called_cost costs high) called-more b

module _ (f : Flat) (v w : Name → ℕ → ℕ) (less : (object : Name) (n : ℕ) → v object n ≤ w object n) where
  -- in a design
  pub body-more : (object : Name) (b : Statements) → block_cost f.costs (flat_services (reworked v f)) (reworked_block (v object) b)
      ≤ block_cost f.costs (flat_services (reworked w f)) (reworked_block (w object) b)
  body-more object b = rw (services-same v f, services-same w f) (block_cost-more v w less f.costs (flat_services f) object b)

  pub activation-more : (t : Thread) → activation_cost (reworked v f) (reworked_thread v t) ≤ activation_cost (reworked w f) (reworked_thread w t)
  activation-more t = let body = body-more t.name t.block in omega (arith, body)
