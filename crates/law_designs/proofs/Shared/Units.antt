-- The units of the program of a flat design, and that no body of one has a fault.
use Rattle.std.proofs.Common.{◌≡◌, ℕ, Bool, true, false, not, ◌&&◌, List, [], ◌∷◌, ◌++◌, map, zip, None, refl, sym, ap, subst, ◌∙◌, inl, inr, ◌⊎◌}
use Rattle.std.proofs.lemmas.List.{length-map}
use Rattle.seq_tree.specs.Operations.{Operation, out_names}
use Rattle.seq_tree.specs.Faults.{Scope, block_fault}
use Rattle.seq_tree.specs.declared.tree.Param.{Param}
use Rattle.seq_tree.specs.declared.tree.Datum.{Datum}
use Rattle.ods_tree.specs.Designs.{Design}
use Rattle.ods_tree.specs.Walk.{Standing, terminals, is_empty}
use Rattle.ods_tree.specs.Flats.{Library, Guarded, Thread, Flat}
use Rattle.ods_tree.specs.Flattening.{request_op, is_passive, libraries, guarded, threads, flat, is_protected}
use Rattle.ods_tree.specs.declared.design.Kind.TheVariants as kind
use Rattle.ada_tree.specs.Programs.{Form, Unit, Program, Passive, Shared}
use Rattle.ada_tree.specs.Bodies.{Body, op_body, scope, bodies_fault, unit_fault, offers}
use Rattle.analysis.specs.Priorities.{priorities_of}
use Rattle.analysis.specs.Ceilings.{Ranks, ranks_for}
use Rattle.guarantee.specs.Programs.{passive_unit, shared_unit, thread_unit, thread_form, program_for, stated_ranks}
use Rattle.design_rules.specs.Bodies.{request_params}
use Rattle.design_rules.specs.Bodies as ods
use Rattle.design_rules.specs.Rules.{AreMet}
use Rattle.law_designs.specs.Rankings.{IsRanking, stated_by}
use Rattle.law_designs.proofs.Shared.Lists.{in-cases, from-map}
use Rattle.law_designs.proofs.Shared.PriorityPlaces.{deadline-ranking}
use Rattle.law_designs.proofs.Renaming.{or_else-from, with_calls}
use Rattle.law_designs.proofs.Shared.Flattened.{library_by, guarded_by, library-from, guarded-from, ThreadFrom, thread-from, TimingOf, OfCyclic}
use Rattle.law_designs.proofs.Shared.Flattened.{OfSporadic, timing-of}
use Rattle.law_designs.proofs.Shared.Served.{fitted}
use Rattle.law_designs.proofs.Shared.Blocks.{kept}
use Rattle.law_designs.proofs.Shared.Offers.{Fitting, body-faultless, thread-faultless}
use Rattle.law_lists.proofs.Shared.Lists.{IsIn}

-- the ranks of a design by a ranking have a number for each entry
pub ranked-fit : (x : Design) (ps : List ℕ) → IsRanking (flat x) ps → Fitting (flat x) (stated_by x ps)
ranked-fit x ps ranking =
    let r : Ranks = ranks_for (flat x) ps in
    record {
      shared = length-map r.shared _ ∙ length-map (flat x).shared _;
      threads = length-map ps _ ∙ ranking.count;
      obcs = length-map r.obcs _ ∙ length-map (flat x).threads _;
    }

-- and so have those of deadline-monotonic priorities
pub ranks-fit : (x : Design) → Fitting (flat x) (stated_ranks x)
ranks-fit x = ranked-fit x (priorities_of (flat x)) (deadline-ranking (flat x))

-- what stands in a list of pairs stands in both
pub from-zip : {A B : Type 0} (xs : List A) (ys : List B) (p : A × B) → IsIn p (zip xs ys) → IsIn p.0 xs × IsIn p.1 ys
from-zip [] ys p h = absurd h
from-zip (x ∷ xs) [] p h = absurd h
from-zip (x ∷ xs) (y ∷ ys) p (inl e) = (inl (ap (λ q. q.0) e), inl (ap (λ q. q.1) e))
from-zip (x ∷ xs) (y ∷ ys) p (inr h) = (let r = from-zip xs ys p h in (inr r.0, inr r.1))

-- a unit by its entry
pub data UnitFrom (f : Flat) (r : Ranks) (u : Unit) : Type 0 where
  OfLibrary : (l : Library) → IsIn l f.passive → u ≡ passive_unit l → UnitFrom f r u
  OfGuarded : (g : Guarded) (ceiling : ℕ) → IsIn (g, ceiling) (zip f.shared r.shared) → u ≡ shared_unit (g, ceiling) → UnitFrom f r u
  OfThread : (t : Thread) (n : ℕ × ℕ) → IsIn (t, n) (zip f.threads (zip r.threads r.obcs)) → u ≡ thread_unit (t, n) → UnitFrom f r u

pub unit-from : (f : Flat) (r : Ranks) (u : Unit) → IsIn u (program_for f r).units → UnitFrom f r u
unit-from f r u h = by (in-cases (map passive_unit f.passive) (map shared_unit (zip f.shared r.shared)
    ++ map thread_unit (zip f.threads (zip r.threads r.obcs))) u h)
  where
    later : IsIn u (map shared_unit (zip f.shared r.shared)) ⊎ IsIn u (map thread_unit (zip f.threads (zip r.threads r.obcs))) → UnitFrom f r u
    later (inl k) = let q = from-map shared_unit (zip f.shared r.shared) u k in OfGuarded q.0.0 q.0.1 q.1 q.2
    later (inr k) = let q = from-map thread_unit (zip f.threads (zip r.threads r.obcs)) u k in OfThread q.0.0 q.0.1 q.1 q.2

    by : IsIn u (map passive_unit f.passive)
        ⊎ IsIn u (map shared_unit (zip f.shared r.shared) ++ map thread_unit (zip f.threads (zip r.threads r.obcs))) → UnitFrom f r u
    by (inl k) = let q = from-map passive_unit f.passive u k in OfLibrary q.0 q.1 q.2
    by (inr k) = later (in-cases (map shared_unit (zip f.shared r.shared)) (map thread_unit (zip f.threads (zip r.threads r.obcs))) u k)

-- bodies without a fault
no-faults : (p : Program) (form : Form) (bs : List Body) → ((b : Body) → IsIn b bs → block_fault (scope p form b) b.block ≡ None)
    → bodies_fault p form bs ≡ None
no-faults p form [] h = refl
no-faults p form (b ∷ bs) h = or_else-from _ _ (h b (inl refl)) (no-faults p form bs (λ c k. h c (inr k)))

empty-is : {A : Type 0} (b : Bool) (xs : List A) → b ≡ true → (b && not (is_empty xs)) ≡ false → xs ≡ []
empty-is b [] e h = refl
empty-is b (x ∷ xs) e h = (let z : true ≡ false = sym (ap (λ c. c && true) e) ∙ h in cc)

module _ (written x : Design) (met : AreMet written x) (r : Ranks) (fit : Fitting (flat x) r) where
  abbrev p : Program
  p = program_for (flat x) r

  -- what is known in a body of an object and in its unit
  abbrev scope-with : List Datum → Operation → Scope
  scope-with vars e = record {
    reads = map (λ d. d.name) vars ++ (map (λ q. q.name) e.sig.params ++ map (λ d. d.name) e.locals);
    writes = map (λ d. d.name) vars ++ (out_names e.sig.params ++ map (λ d. d.name) e.locals);
    calls = offers p;
    in_loop = false;
  }

  no-vars : (s : Standing) → IsIn s (terminals x) → is_passive s.own.kind ≡ true → s.own.vars ≡ []
  no-vars s h e = empty-is (is_passive s.own.kind) s.own.vars e (fitted x s (kept written x met).fit h).no-data

  pub library-faultless : (l : Library) → IsIn l (libraries x) → unit_fault p (passive_unit l) ≡ None
  library-faultless l h = no-faults p (Passive l.ops) (map op_body l.ops) (λ b j. at b (library-from x l h) (from-map op_body l.ops b j))
    where
      at : (b : Body) → (s : Standing) × IsIn s (terminals x) × (is_passive s.own.kind ≡ true) × (l ≡ library_by x s.own)
          → (e : Operation) × IsIn e l.ops × (b ≡ op_body e)
          → block_fault (scope p (Passive l.ops) b) b.block ≡ None
      at b (s, t, sort, made) (e, j, same) =
          let P : List Operation → Type 0 = λ z. IsIn e z in
          let right = body-faultless written x met r fit s e t (subst P (ap (λ (k : Library). k.ops) made) j) in
          ap (λ (c : Body). block_fault (scope p (Passive l.ops) c) c.block) same
          ∙ ap (λ z. block_fault (scope-with z e) e.block) (sym (no-vars s t sort)) ∙ right

  pub guarded-faultless : (g : Guarded) (ceiling : ℕ) → IsIn g (guarded x) → unit_fault p (shared_unit (g, ceiling)) ≡ None
  guarded-faultless g ceiling h = no-faults p (Shared ceiling g.vars g.ops) (map op_body g.ops)
      (λ b j. at b (guarded-from x g h) (from-map op_body g.ops b j))
    where
      at : (b : Body) → (s : Standing) × IsIn s (terminals x) × (is_protected s.own.kind ≡ true) × (g ≡ guarded_by x s.own)
          → (e : Operation) × IsIn e g.ops × (b ≡ op_body e)
          → block_fault (scope p (Shared ceiling g.vars g.ops) b) b.block ≡ None
      at b (s, t, sort, made) (e, j, same) =
          let P : List Operation → Type 0 = λ z. IsIn e z in
          let right = body-faultless written x met r fit s e t (subst P (ap (λ (k : Guarded). k.ops) made) j) in
          ap (λ (c : Body). block_fault (scope p (Shared ceiling g.vars g.ops) c) c.block) same
          ∙ ap (λ (k : Guarded). block_fault (scope-with k.vars e) e.block) made ∙ right

  abbrev thread-scope : List Datum → List Param → Scope
  thread-scope vars params = record {
    reads = map (λ d. d.name) vars ++ (map (λ q. q.name) params ++ []);
    writes = map (λ d. d.name) vars ++ (out_names params ++ []);
    calls = offers p;
    in_loop = false;
  }

  pub thread-unit-faultless : (t : Thread) (n : ℕ × ℕ) → IsIn t (threads x) → unit_fault p (thread_unit (t, n)) ≡ None
  thread-unit-faultless t n h = by (thread-from x t h) (thread-faultless written x met r fit t (thread-from x t h))
    where
      by : (f : ThreadFrom x t)
          → block_fault (with_calls (offers p) (ods.scope x f.standing.own (request_params f.standing.own.kind (request_op f.standing.own.provides))
          [])) t.block ≡ None → unit_fault p (thread_unit (t, n)) ≡ None
      by f right = kinds (timing-of f.standing.own f.timing f.timed)
        where
          right-of : (params : List Param) → request_params f.standing.own.kind (request_op f.standing.own.provides) ≡ params
              → block_fault (thread-scope t.vars params) t.block ≡ None
          right-of params e =
              ap (λ (u : Thread). block_fault (thread-scope u.vars params) t.block) f.made
              ∙ ap (λ z. block_fault (thread-scope f.standing.own.vars z) t.block) (sym e) ∙ right

          kinds : TimingOf f.standing.own f.timing → unit_fault p (thread_unit (t, n)) ≡ None
          kinds (OfCyclic e s) =
              ap (λ u. unit_fault p (record { name = t.name; form = thread_form n.0 n.1 u t })) (ap (λ (v : Thread). v.timing) f.made ∙ s)
              ∙ or_else-from _ _ (right-of [] (ap (λ z. request_params z (request_op f.standing.own.provides)) e)) refl
          kinds (OfSporadic sig e g s) =
              ap (λ u. unit_fault p (record { name = t.name; form = thread_form n.0 n.1 u t })) (ap (λ (v : Thread). v.timing) f.made ∙ s)
              ∙ or_else-from _ _ (right-of sig.params (ap (λ z. request_params z (request_op f.standing.own.provides)) e ∙ ap
              (request_params kind.Sporadic) g)) refl

  -- no body of a unit has a fault
  pub bodies-right : (u : Unit) → IsIn u p.units → unit_fault p u ≡ None
  bodies-right u h = by (unit-from (flat x) r u h)
    where
      by : UnitFrom (flat x) r u → unit_fault p u ≡ None
      by (OfLibrary l j e) = ap (unit_fault p) e ∙ library-faultless l j
      by (OfGuarded g ceiling j e) = ap (unit_fault p) e ∙ guarded-faultless g ceiling (from-zip (guarded x) r.shared (g, ceiling) j).0
      by (OfThread t n j e) = ap (unit_fault p) e ∙ thread-unit-faultless t n (from-zip (threads x) (zip r.threads r.obcs) (t, n) j).0
