-- The operations that the graph of calls has are those of the flat design, each name meaning the same, where the lower rules are silent.
use Rattle.std.proofs.Common.{◌≡◌, ◌+◌, Bool, true, false, ◌&&◌, List, [], ◌∷◌, ◌++◌, map, filter, filter_map, flat_map, length, Option, Some}
use Rattle.std.proofs.Common.{None}
use Rattle.std.proofs.Common.{append_assoc, option_map, refl, ap, sym, subst, ◌∙◌, inl, inr, ◌⊎◌, if◌then◌else◌}
use Rattle.std.specs.List.{cons_option}
use Rattle.std.specs.Option.{option_or}
use Rattle.std.proofs.lemmas.List.{length-append, length-map}
use Rattle.std.proofs.lemmas.List.Elements.{filter_map-append}
use Rattle.std.proofs.lemmas.List.Folds.{find-append}
use Rattle.seq_tree.proofs.Shared.SameNames.{same-is}
use Rattle.seq_tree.specs.Calls.{same_op}
use Rattle.seq_tree.specs.Names.{Name, same_name}
use Rattle.seq_tree.specs.Operations.{Operation, Signature}
use Rattle.seq_tree.specs.Statements.{Statements}
use Rattle.seq_tree.specs.declared.tree.OpName.{OpName}
use Rattle.ods_tree.specs.Designs.{Body, Object, Provided, Design}
use Rattle.ods_tree.specs.Flats.{Thread}
use Rattle.ods_tree.specs.Flattening.{body_named, flat, guarded, is_passive, is_protected, libraries, operation_by, operations, request_op, thread_by}
use Rattle.ods_tree.specs.Links.{resolved}
use Rattle.ods_tree.specs.Services.{Sort, Plain, Protected, Service, flat_services, is_service, plain_services, protected_services, request_service}
use Rattle.ods_tree.specs.Services.{requests, service_named}
use Rattle.ods_tree.specs.Walk.{Standing, is_terminal, objects, terminals}
use Rattle.ods_tree.specs.declared.design.Kind.{Kind}
use Rattle.ods_tree.specs.declared.design.Kind.TheVariants as kind
use Rattle.design_rules.specs.Fittings.{is_provided}
use Rattle.design_rules.specs.Lookups.{is_sporadic, provided_named}
use Rattle.design_rules.specs.Rules.{Clash, Fitting}
use Rattle.call_graph.proofs.Shared.PlaceLaws.{entry_named}
use Rattle.call_graph.specs.Entries.{Entry, entry_by, entry_of}
use Rattle.call_graph.specs.Entries as works
use Rattle.ods_index.specs.Calling.{Calls, body_calls, design_calls, object_calls}
use Rattle.ods_index.specs.Judging.{Passes}
use Rattle.ods_calls.specs.Costed.{body_entry, body_work, meant_work, request_in, request_served, services_in}
use Rattle.ods_calls.proofs.Items.{In}
use Rattle.ods_calls.proofs.ObjectFits.{HasBodies, all-given, as-many, find-in, has-bodies}

-- the operations of a design, added one part after another
pub all-served : (x : Design) (none one two all : List Entry) (first second : List Calls) (ss : List Standing)
    → none ≡ [] → one ≡ none ++ filter_map (body_entry kind.Passive) first → two ≡ one ++ filter_map (body_entry kind.Protected) second
    → all ≡ two ++ flat_map request_served ss → first ≡ design_calls x → second ≡ design_calls x → ss ≡ objects x → all ≡ services_in x
all-served x none one two all first second ss none-is one-is two-is all-is bodies others walked =
    rw (all-is, two-is, one-is, none-is, bodies, others, walked) (append_assoc (filter_map (body_entry kind.Passive) (design_calls x))
    (filter_map (body_entry kind.Protected) (design_calls x)) (flat_map request_served (objects x)))

-- operations by which each name means the same as by those of a flat design, and as many
pub record AreAlike (x : Design) (es : List Entry) (ss : List Service) : Type 0 where
  pub found : (n : OpName) → option_map (λ e. meant_work x e.work) (entry_named es n)
      ≡ option_map (λ s. (entry_of s).work) (service_named ss n.object n.op)
  pub long : length es ≡ length ss

or-map : {A B : Type 0} (f : A → B) (a b : Option A) → option_map f (option_or a b) ≡ option_or (option_map f a) (option_map f b)
or-map f None b = refl
or-map f (Some a) b = refl

module _ (x : Design) where
  abbrev meant : Entry → works.Work
  meant e = meant_work x e.work

  abbrev runs : Service → works.Work
  runs s = (entry_of s).work

  alike-none : AreAlike x [] []
  alike-none = record { found = λ n. refl; long = refl }

  alike-both : (es fs : List Entry) (ss ts : List Service) → AreAlike x es ss → AreAlike x fs ts → AreAlike x (es ++ fs) (ss ++ ts)
  alike-both es fs ss ts h k = record {
    found = λ n.
        ap (option_map meant) (find-append (λ e. same_op e.name n) es fs) ∙ or-map meant (entry_named es n) (entry_named fs n)
        ∙ ap (λ o. option_or o (option_map meant (entry_named fs n))) (h.found n)
        ∙ ap (option_or (option_map runs (service_named ss n.object n.op))) (k.found n)
        ∙ sym (or-map runs (service_named ss n.object n.op) (service_named ts n.object n.op))
        ∙ ap (option_map runs) (sym (find-append (is_service n.object n.op) ss ts));
    long = length-append es fs ∙ ap (λ n. n + length fs) h.long ∙ ap (λ n. length ss + n) k.long ∙ sym (length-append ss ts);
  }

  -- the operations of one object, by its bodies and by what it provides
  module _ (o : Object) (sort : Sort) (work : Statements → works.Work) (sorted : (p : Operation) → (entry_by o.name sort p).work ≡ work p.block)
      (means : (b : Statements) → meant_work x (work b) ≡ work (resolved x b)) where
    abbrev entry : Body → Entry
    entry b = record { name = record { object = o.name; op = b.name }; work = work b.block }

    abbrev service : Operation → Service
    service p = record { object = o.name; sort = sort; op = p }

    abbrev given : List Provided → List Operation
    given ps = filter_map (λ p. option_map (operation_by x p.sig) (body_named p.sig.name o.bodies)) ps

    abbrev body-work : Body → works.Work
    body-work b = work (resolved x b.block)

    entries-none : (n : OpName) (bs : List Body) → same_name o.name n.object ≡ false → entry_named (map entry bs) n ≡ None
    entries-none n [] h = refl
    entries-none n (b ∷ bs) h = rw h (entries-none n bs h)

    services-none : (n : OpName) (ps : List Operation) → same_name o.name n.object ≡ false → service_named (map service ps) n.object n.op ≡ None
    services-none n [] h = refl
    services-none n (p ∷ ps) h = rw h (services-none n ps h)

    entries-there : (n : OpName) (bs : List Body) → same_name o.name n.object ≡ true
        → option_map meant (entry_named (map entry bs) n) ≡ option_map body-work (body_named n.op bs)
    entries-there n [] h = refl
    entries-there n (b ∷ bs) h = rw h (by (same_name b.name n.op) (entries-there n bs h))
      where
        by : (t : Bool) → option_map meant (entry_named (map entry bs) n) ≡ option_map body-work (body_named n.op bs)
            → option_map meant (if t then Some (entry b) else entry_named (map entry bs) n)
            ≡ option_map body-work (if t then Some b else body_named n.op bs)
        by true k = ap Some (means b.block)
        by false k = k

    services-there : (n : OpName) (ps : List Provided) → same_name o.name n.object ≡ true
        → ((b : Body) → body_named n.op o.bodies ≡ Some b → is_provided (provided_named n.op ps) ≡ true)
        → option_map runs (service_named (map service (given ps)) n.object n.op) ≡ option_map body-work (body_named n.op o.bodies)
    services-there n [] h all = by (body_named n.op o.bodies) refl
      where
        by : (b : Option Body) → body_named n.op o.bodies ≡ b → None ≡ option_map body-work b
        by None e = refl
        by (Some b) e = (let z : false ≡ true = all b e in cc)
    services-there n (p ∷ ps) h all = by (services-there n ps h) (body_named p.sig.name o.bodies) refl (same_name p.sig.name n.op) refl
      where
        rest : (((b : Body) → body_named n.op o.bodies ≡ Some b → is_provided (provided_named n.op ps) ≡ true)
            → option_map runs (service_named (map service (given ps)) n.object n.op) ≡ option_map body-work (body_named n.op o.bodies))
            → (same_name p.sig.name n.op ≡ false) ⊎ (body_named n.op o.bodies ≡ None)
            → option_map runs (service_named (map service (given ps)) n.object n.op) ≡ option_map body-work (body_named n.op o.bodies)
        rest later (inl e) = later (λ b k.
            let P : Bool → Type 0 = λ t. is_provided (if t then Some p else provided_named n.op ps) ≡ true in subst P e (all b k))
        rest later (inr e) = later (λ b k. let z : None ≡ Some b = sym e ∙ k in cc)

        named : same_name p.sig.name n.op ≡ true → body_named n.op o.bodies ≡ body_named p.sig.name o.bodies
        named e = ap (λ m. body_named m o.bodies) (sym (same-is p.sig.name n.op e))

        by : (((b : Body) → body_named n.op o.bodies ≡ Some b → is_provided (provided_named n.op ps) ≡ true)
            → option_map runs (service_named (map service (given ps)) n.object n.op) ≡ option_map body-work (body_named n.op o.bodies))
            → (b : Option Body) → body_named p.sig.name o.bodies ≡ b → (t : Bool) → same_name p.sig.name n.op ≡ t
            → option_map runs (service_named (map service (cons_option (option_map (operation_by x p.sig) b) (given ps))) n.object n.op)
            ≡ option_map body-work (body_named n.op o.bodies)
        by later None e true t = rest later (inr (named t ∙ e))
        by later None e false t = rest later (inl t)
        by later (Some b) e true t = rw (h, t) (ap Some (sorted (operation_by x p.sig b)) ∙ sym (ap (option_map body-work) (named t ∙ e)))
        by later (Some b) e false t = rw (h, t) (rest later (inl t))

    own-alike : HasBodies o → AreAlike x (map entry o.bodies) (map service (operations x o))
    own-alike fits = record {
      found = λ n. by n (same_name o.name n.object) refl;
      long =
          length-map o.bodies entry ∙ as-many o.provides o.bodies fits.apart fits.once fits.provided
          ∙ sym (length-map (operations x o) service ∙ all-given (λ p. operation_by x p.sig) o.bodies o.provides fits.once);
    }
      where
        by : (n : OpName) (t : Bool) → same_name o.name n.object ≡ t → option_map meant (entry_named (map entry o.bodies) n)
            ≡ option_map runs (service_named (map service (operations x o)) n.object n.op)
        by n true h =
            entries-there n o.bodies h ∙ sym (services-there n o.provides h (λ b e.
            let f = find-in (λ c. same_name c.name n.op) o.bodies b e in
            ap (λ m. is_provided (provided_named m o.provides)) (sym (same-is b.name n.op f.1)) ∙ fits.provided b f.0))
        by n false h =
            ap (option_map meant) (entries-none n o.bodies h) ∙ sym (ap (option_map runs) (services-none n (operations x o) h))

  -- those of the objects of a kind
  module _ {A : Type 0} (own : Kind) (is_own : Kind → Bool) (sort : Sort) (work : Statements → works.Work) (part : Object → A)
      (serves : A → List Service)
      (sorted : (name : Name) (p : Operation) → (entry_by name sort p).work ≡ work p.block)
      (means : (b : Statements) → meant_work x (work b) ≡ work (resolved x b))
      (made : (o : Object) → serves (part o) ≡ map (service o sort work (sorted o.name) means) (operations x o))
      (picks : (k : Kind) → ((is_own k ≡ true) × (is_sporadic k ≡ false) × ((b : Statements) → body_work own k b ≡ Some (work b)))
      ⊎ ((is_own k ≡ false) × ((b : Statements) → body_work own k b ≡ None))) where
    abbrev parts : List Standing → List A
    parts ss = filter_map (λ s. if is_own s.own.kind then Some (part s.own) else None) ss

    abbrev bodies : List Standing → List Calls
    bodies ss = flat_map (λ s. object_calls x s.own) ss

    own-entries : (o : Object) (bs : List Body) → ((b : Statements) → body_work own o.kind b ≡ Some (work b))
        → filter_map (body_entry own) (map (body_calls x o.kind o.name o.needs) bs) ≡ map (entry o sort work (sorted o.name) means) bs
    own-entries o [] h = refl
    own-entries o (b ∷ bs) h = rw (h b.block, own-entries o bs h) refl

    no-entries : (o : Object) (bs : List Body) → ((b : Statements) → body_work own o.kind b ≡ None)
        → filter_map (body_entry own) (map (body_calls x o.kind o.name o.needs) bs) ≡ []
    no-entries o [] h = refl
    no-entries o (b ∷ bs) h = rw (h b.block, no-entries o bs h) refl

    bodies-alike : (ss : List Standing) → ((s : Standing) → In s ss → is_sporadic s.own.kind ≡ false → HasBodies s.own)
        → AreAlike x (filter_map (body_entry own) (bodies ss)) (flat_map serves (parts ss))
    bodies-alike [] fit = alike-none
    bodies-alike (s ∷ ss) fit = by (picks s.own.kind) (bodies-alike ss (λ t h. fit t (inr h)))
      where
        split : filter_map (body_entry own) (bodies (s ∷ ss))
            ≡ filter_map (body_entry own) (object_calls x s.own) ++ filter_map (body_entry own) (bodies ss)
        split = filter_map-append (body_entry own) (object_calls x s.own) (bodies ss)

        by : ((is_own s.own.kind ≡ true) × (is_sporadic s.own.kind ≡ false) × ((b : Statements) → body_work own s.own.kind b ≡ Some (work b)))
            ⊎ ((is_own s.own.kind ≡ false) × ((b : Statements) → body_work own s.own.kind b ≡ None))
            → AreAlike x (filter_map (body_entry own) (bodies ss)) (flat_map serves (parts ss))
            → AreAlike x (filter_map (body_entry own) (bodies (s ∷ ss))) (flat_map serves (parts (s ∷ ss)))
        by (inl (is, idle, h)) rest =
            let first = own-alike s.own sort work (sorted s.own.name) means (fit s (inl refl) idle) in
            let es = map (entry s.own sort work (sorted s.own.name) means) s.own.bodies in
            let os = map (service s.own sort work (sorted s.own.name) means) (operations x s.own) in
            let P : List Entry → Type 0 = λ l. AreAlike x l (flat_map serves (parts (s ∷ ss))) in
            let Q : List Service → Type 0 = λ l. AreAlike x (es ++ filter_map (body_entry own) (bodies ss)) l in
            subst P (sym (split ∙ ap (λ l. l ++ filter_map (body_entry own) (bodies ss)) (own-entries s.own s.own.bodies h)))
            (subst Q (sym (ap (λ b. flat_map serves (cons_option (if b then Some (part s.own) else None) (parts ss))) is
            ∙ ap (λ l. l ++ flat_map serves (parts ss)) (made s.own)))
            (alike-both es (filter_map (body_entry own) (bodies ss)) os (flat_map serves (parts ss)) first rest))
        by (inr (not_own, h)) rest =
            let P : List Entry → Type 0 = λ l. AreAlike x l (flat_map serves (parts (s ∷ ss))) in
            let Q : Bool → Type 0 = λ b. AreAlike x (filter_map (body_entry own) (bodies ss))
            (flat_map serves (cons_option (if b then Some (part s.own) else None) (parts ss))) in
            subst P (sym (split ∙ ap (λ l. l ++ filter_map (body_entry own) (bodies ss)) (no-entries s.own s.own.bodies h)))
            (subst Q (sym not_own) rest)

  -- a request
  asked-alike : (name : Name) (sig : Signature) → AreAlike x (record { name = record { object = name; op = sig.name }; work = works.Asked } ∷ [])
      (request_service name sig ∷ [])
  asked-alike name sig = record { found = λ n. by (same_name name n.object && same_name sig.name n.op); long = refl }
    where
      by : (t : Bool) → option_map meant (if t then Some (record { name = record { object = name; op = sig.name }; work = works.Asked }) else None)
          ≡ option_map runs (if t then Some (request_service name sig) else None)
      by true = refl
      by false = refl

  request-alike : (o : Object) (k : Kind) (r : Option Signature) (b : Option Statements) (es : List Entry) (ts : List Thread)
      → AreAlike x es (requests ts) → o.kind ≡ k → request_op o.provides ≡ r → o.thread ≡ b
      → AreAlike x ((if is_sporadic o.kind then request_in o else []) ++ es) (requests (cons_option (thread_by x o) ts))
  request-alike o kind.Sporadic (Some sig) (Some b) es ts h k r e =
      rw (k, r, e) (alike-both (record { name = record { object = o.name; op = sig.name }; work = works.Asked } ∷ []) es
      (request_service o.name sig ∷ []) (requests ts) (asked-alike o.name sig) h)
  request-alike o kind.Sporadic (Some sig) None es ts h k r e = rw (k, r, e) h
  request-alike o kind.Sporadic None b es ts h k r e = rw (k, r) h
  request-alike o kind.Cyclic r None es ts h k s e = rw (k, e) h
  request-alike o kind.Cyclic r (Some b) es ts h k s e = rw (k, e) h
  request-alike o kind.Passive r b es ts h k s e = rw k h
  request-alike o kind.Active r b es ts h k s e = rw k h
  request-alike o kind.Protected r b es ts h k s e = rw k h

  requests-alike : (ss : List Standing) → AreAlike x (flat_map request_served ss) (requests (filter_map (λ s. thread_by x s.own) (filter is_terminal ss)))
  requests-alike [] = alike-none
  requests-alike (s ∷ ss) = by (is_terminal s) refl (requests-alike ss)
    where
      by : (t : Bool) → is_terminal s ≡ t
          → AreAlike x (flat_map request_served ss) (requests (filter_map (λ s. thread_by x s.own) (filter is_terminal ss)))
          → AreAlike x (flat_map request_served (s ∷ ss)) (requests (filter_map (λ s. thread_by x s.own) (filter is_terminal (s ∷ ss))))
      by false t h = rw t h
      by true t h =
          rw t (request-alike s.own s.own.kind (request_op s.own.provides) s.own.thread (flat_map request_served ss)
          (filter_map (λ s. thread_by x s.own) (filter is_terminal ss)) h refl refl refl)

  passive-picks : (k : Kind) → ((is_passive k ≡ true) × (is_sporadic k ≡ false) × ((b : Statements) → body_work kind.Passive k b ≡ Some (works.Plain b)))
      ⊎ ((is_passive k ≡ false) × ((b : Statements) → body_work kind.Passive k b ≡ None))
  passive-picks kind.Passive = inl (refl, refl, λ b. refl)
  passive-picks kind.Active = inr (refl, λ b. refl)
  passive-picks kind.Protected = inr (refl, λ b. refl)
  passive-picks kind.Cyclic = inr (refl, λ b. refl)
  passive-picks kind.Sporadic = inr (refl, λ b. refl)

  protected-picks : (k : Kind)
      → ((is_protected k ≡ true) × (is_sporadic k ≡ false) × ((b : Statements) → body_work kind.Protected k b ≡ Some (works.Protected b)))
      ⊎ ((is_protected k ≡ false) × ((b : Statements) → body_work kind.Protected k b ≡ None))
  protected-picks kind.Passive = inr (refl, λ b. refl)
  protected-picks kind.Active = inr (refl, λ b. refl)
  protected-picks kind.Protected = inl (refl, refl, λ b. refl)
  protected-picks kind.Cyclic = inr (refl, λ b. refl)
  protected-picks kind.Sporadic = inr (refl, λ b. refl)

  -- all of them, where names don't clash and parts fit
  pub all-alike : Passes x Clash → Passes x Fitting → AreAlike x (services_in x) (flat_services (flat x))
  all-alike clash fitting =
      let fit : (s : Standing) → In s (terminals x) → is_sporadic s.own.kind ≡ false → HasBodies s.own = has-bodies x clash fitting in
      alike-both (filter_map (body_entry kind.Passive) (design_calls x)) _ (flat_map plain_services (libraries x)) _
      (bodies-alike kind.Passive is_passive Plain works.Plain (λ o. record { name = o.name; ops = operations x o }) plain_services (λ name p. refl)
      (λ b. refl) (λ o. refl) passive-picks (terminals x) fit)
      (alike-both (filter_map (body_entry kind.Protected) (design_calls x)) _ (flat_map protected_services (guarded x)) _
      (bodies-alike kind.Protected is_protected Protected works.Protected (λ o. record { name = o.name; vars = o.vars; ops = operations x o })
      protected_services (λ name p. refl) (λ b. refl) (λ o. refl) protected-picks (terminals x) fit)
      (requests-alike (objects x)))
