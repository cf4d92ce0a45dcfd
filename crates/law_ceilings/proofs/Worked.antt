-- A worked program: two protected objects, one inside the other, and a task that waits for a lower one inside both. It meets the premises
-- of each law of
-- this room, and the lower task uses four ticks of the five that its outer section costs.
use Rattle.std.specs.Prelude.{◌≡◌, ◌≤◌, ◌&&◌, ◌||◌, ℕ, zero, suc, Bool, true, false, nat_le, List, [], ◌∷◌, filter, flat_map, slice_get, Some}
use Rattle.std.specs.Prelude.{None, codes, refl}
use Rattle.std.specs.List.{list_any}
use Rattle.std.proofs.Common.{sym, ◌∙◌, subst, arith, inl, inr}
use Rattle.std.proofs.lemmas.Bool.{false≢true, true≢false, and_parts}
use Rattle.std.proofs.lemmas.Option.{none-some, same_Some}
use Rattle.seq_tree.specs.Names.{Name, same_name}
use Rattle.seq_tree.specs.Calls.{block_calls}
use Rattle.seq_tree.specs.Rings.{LeadsTo, IsOnRing}
use Rattle.seq_tree.specs.Statements.{Statement, Statements, Null, Call, End, Then}
use Rattle.seq_tree.specs.Operations.{Operation}
use Rattle.seq_tree.specs.declared.tree.Costs.{Costs}
use Rattle.seq_tree.specs.declared.tree.OpName.{OpName}
use Rattle.ada_tree.specs.Programs.{Unit, Program, Shared, Cyclic}
use Rattle.ada_tree.specs.Bodies.{unit_fault}
use Rattle.ada_tree.specs.Naming.{breaks_naming}
use Rattle.ada_tree.specs.Ranges.{breaks_ranges}
use Rattle.ada_tree.specs.Uses.{passive_ops, passive_named, breaks_uses, breaks_external, Calls, CallsUnit}
use Rattle.ada_tree.specs.Rules.{Naming, Uses, Rings, Bodies, Ranges, Externals, Whole, At, MeetsRules}
use Rattle.arrivals_tree.specs.Arriving.{Arrivals}
use Rattle.arrivals_tree.specs.Acceptance.{IsAccepted}
use Rattle.ods_tree.specs.Flats as flats
use Rattle.rt_response.specs.declared.rows.ThreadRow.{ThreadRow}
use Rattle.machine.specs.Systems.{system}
use Rattle.machine.specs.States.{State, Task, Phase, Effects, Delays, Arriving, Use, Readiness, Ready, Waiting, Asleep}
use Rattle.machine.specs.Meanings.{Meaning, run, start}
use Rattle.machine.specs.Steps.{step}
use Rattle.guarantee.specs.ResponseLaw.{Ranked, AreTabled}
use Rattle.law_lists.proofs.Shared.Facts.{same-is}
use Rattle.law_lists.proofs.Shared.Lists.{IsIn, any-at, in-some, in-filter, place-of}
use Rattle.law_lists.proofs.Shared.Reaching.{among-is}
use Rattle.law_ceilings.specs.Premises.{MayExclude}
use Rattle.law_ceilings.specs.Ceilings.{IsCeiled}
use Rattle.law_ceilings.specs.Limits.{IsLimited, IsPendingIn, IsPendingThrough, others}
use Rattle.law_ceilings.proofs.Shared.Programs.{may-exclude}
use Rattle.law_ceilings.proofs.Shared.Limited.{is-limited}
use Rattle.law_ceilings.proofs.Shared.Tables.{row-bounds}
use Rattle.law_ceilings.proofs.Shared.Ceiled.{is-ceiled}

abbrev one : Costs
one = record { assign = 1; test = 1; turn = 1; call = 1; nothing = 1; put = 1; finish = 1 }

abbrev block : List Statement → Statements
block [] = End
block (x ∷ xs) = Then x (block xs)

abbrev outer : Name
outer = codes "outer"

abbrev inner : Name
inner = codes "inner"

abbrev «do» : Name
«do» = codes "run"

abbrev operation : List Statement → Operation
operation b = record { sig = record { name = «do»; params = [] }; locals = []; block = block b }

-- the body of the outer object enters the inner one
abbrev outer_unit : Unit
outer_unit = record { name = outer; form = Shared 2 [] (operation (Call inner «do» [] ∷ Null ∷ []) ∷ []) }

abbrev inner_unit : Unit
inner_unit = record { name = inner; form = Shared 3 [] (operation (Null ∷ Null ∷ Null ∷ []) ∷ []) }

-- a task below, and one above that is released while the former is inside both
abbrev low_unit : Unit
low_unit = record { name = codes "low"; form = Cyclic 1 0 100 [] (block (Call outer «do» [] ∷ [])) }

abbrev high_unit : Unit
high_unit = record { name = codes "high"; form = Cyclic 2 2 100 [] (block (Null ∷ [])) }

abbrev p : Program
p = record { name = codes "worked"; costs = one; units = outer_unit ∷ inner_unit ∷ low_unit ∷ high_unit ∷ [] }

-- the rules, one by one
at-each : (P : ℕ → Unit → Type 0) → P 0 outer_unit → P 1 inner_unit → P 2 low_unit → P 3 high_unit → (k : ℕ) (u : Unit)
    → slice_get p.units k ≡ Some u → P k u
at-each P a b c d zero u e = subst (P 0) (same_Some outer_unit u e) a
at-each P a b c d (suc zero) u e = subst (P 1) (same_Some inner_unit u e) b
at-each P a b c d (suc (suc zero)) u e = subst (P 2) (same_Some low_unit u e) c
at-each P a b c d (suc (suc (suc zero))) u e = subst (P 3) (same_Some high_unit u e) d
at-each P a b c d (suc (suc (suc (suc k)))) u e = absurd (none-some u e)

-- the only object that an object calls is the inner one, which calls none
inner-ends : (path : List Name) (to : Name) → LeadsTo (CallsUnit p) inner path to → ⊥
inner-ends [] to e = false≢true e
inner-ends (via ∷ path) to way = false≢true way.0

outer-ends : (path : List Name) → LeadsTo (CallsUnit p) outer path outer → ⊥
outer-ends [] e = false≢true e
outer-ends (via ∷ path) way = by (same_name via inner) refl way.0
  where
    by : (b : Bool) → same_name via inner ≡ b → (b || false) ≡ true → ⊥
    by true is e = inner-ends path outer (subst (λ n. LeadsTo (CallsUnit p) n path outer) (same-is via inner is) way.1)
    by false is e = false≢true e

task-ends : (name : Name) → ((to : Name) → CallsUnit p name to → ⊥) → IsOnRing (CallsUnit p) name → ⊥
task-ends name none ring = by ring.0 ring.1
  where
    by : (path : List Name) → LeadsTo (CallsUnit p) name path name → ⊥
    by [] e = none name e
    by (via ∷ path) way = none via way.0

-- there is no passive operation
plain-calls : (c to : OpName) → Calls p c to → ⊥
plain-calls c to e =
    let op = in-some (λ (o : Operation). block_calls o.block) (passive_named p c) to
    (among-is (flat_map (λ (o : Operation). block_calls o.block) (passive_named p c)) to e) in
    let found = in-filter (λ (o : Operation). same_name o.sig.name c.op) op.0
    (flat_map (λ (u : Unit). passive_ops u.form) (filter (λ (u : Unit). same_name u.name c.object) p.units)) op.1 in
    let unit = in-some (λ (u : Unit). passive_ops u.form) (filter (λ (u : Unit). same_name u.name c.object) p.units) op.0 found.0 in
    let at = place-of unit.0 p.units (in-filter (λ (u : Unit). same_name u.name c.object) unit.0 p.units unit.1).0 in
    subst (IsIn op.0) (at-each (λ k u. passive_ops u.form ≡ []) refl refl refl refl at.0 unit.0 at.1) unit.2

plain-ends : (c : OpName) → IsOnRing (Calls p) c → ⊥
plain-ends c ring = by ring.0 ring.1
  where
    by : (path : List OpName) → LeadsTo (Calls p) c path c → ⊥
    by [] e = plain-calls c c e
    by (via ∷ path) way = plain-calls c via way.0

units-end : (k : ℕ) (u : Unit) → slice_get p.units k ≡ Some u → IsOnRing (CallsUnit p) u.name → ⊥
units-end =
    at-each (λ k u. IsOnRing (CallsUnit p) u.name → ⊥) (λ ring. outer-ends ring.0 ring.1) (λ ring. inner-ends ring.0 inner ring.1)
    (task-ends (codes "low") (λ to e. false≢true e)) (task-ends (codes "high") (λ to e. false≢true e))

meets : MeetsRules p
meets Naming Whole b = b
meets Naming (At k) (u, at, e) = false≢true (sym (at-each (λ k' v. breaks_naming p k' v ≡ false) refl refl refl refl k u at) ∙ e)
meets Uses Whole b = b
meets Uses (At k) (u, at, e) = false≢true (sym (at-each (λ k' v. breaks_uses p v ≡ false) refl refl refl refl k u at) ∙ e)
meets Rings Whole b = b
meets Rings (At k) (u, at, inl (op, ring)) = plain-ends (record { object = u.name; op = op }) ring
meets Rings (At k) (u, at, inr ring) = units-end k u at ring
meets Bodies Whole b = b
meets Bodies (At k) (u, at, (fault, e)) = none-some fault (sym (at-each (λ k' v. unit_fault p v ≡ None) refl refl refl refl k u at) ∙ e)
meets Ranges Whole b = false≢true b
meets Ranges (At k) (u, at, e) = false≢true (sym (at-each (λ k' v. breaks_ranges v ≡ false) refl refl refl refl k u at) ∙ e)
meets Externals Whole b = b
meets Externals (At k) (u, at, e) = false≢true (sym (at-each (λ k' v. breaks_external p v.name v.form ≡ false) refl refl refl refl k u at) ∙ e)

-- no arrivals, up to a horizon of twenty ticks
abbrev a : Arrivals
a = record { until = 20; work = []; items = [] }

accepted : IsAccepted 20 p a
accepted = refl

-- its table: the task above may wait for the outer section of the one below
abbrev rows : List ThreadRow
rows =
    record { period = 100; deadline = 100; jitter = 0; cost = 2; block = 5; starter = None }
    ∷ record { period = 100; deadline = 100; jitter = 0; cost = 7; block = 0; starter = None } ∷ []

abbrev high : Ranked
high = record { task = record { name = codes "high"; timing = flats.Cyclic 100 2; vars = []; block = block (Null ∷ []) }; priority = 2 }

abbrev low : Ranked
low = record { task = record { name = codes "low"; timing = flats.Cyclic 100 0; vars = []; block = block (Call outer «do» [] ∷ []) }; priority = 1 }

abbrev ts : List Ranked
ts = high ∷ low ∷ []

tabled : AreTabled p ts rows
tabled = record {
  table = record {
    count = omega arith;
    each = (
      record {
        asks = omega arith;
        before_next = omega arith;
        period = omega arith;
        works = omega arith;
        cost = omega arith;
        block = omega arith;
        jitter = omega arith;
        starter = tt;
      },
      (
        record {
          asks = omega arith;
          before_next = omega arith;
          period = omega arith;
          works = omega arith;
          cost = omega arith;
          block = omega arith;
          jitter = omega arith;
          starter = tt;
        },
        tt,
      ),
    );
  };
  tasks = ((1, refl), ((0, refl), tt));
  falls = ((omega arith, tt), (tt, tt));
  outside = (λ e. absurd (true≢false e), (λ e. absurd (true≢false e), tt));
  numbers = ((refl, omega arith), ((refl, omega arith), tt));
  ceilings = ((omega arith, tt), (tt, tt));
  inner_ceilings = (((omega arith, tt), tt), ((tt, tt), tt));
  blocks = (
    (λ less. (λ up. omega arith, (λ up. omega arith, tt)), (λ less. tt, tt)),
    ((λ less. (λ up. omega (arith, less), (λ up. omega (arith, less), tt)), (λ less. tt, tt)), tt),
  );
  started = (tt, (tt, tt));
}

-- so it meets the premises of exclusion, of runs without a stop, and of blocking
excludes : MayExclude (system p a) []
excludes = may-exclude p meets 20 a accepted

ceiled : IsCeiled (system p a)
ceiled = is-ceiled p a meets tabled.ceilings tabled.inner_ceilings

limited : IsLimited (system p a) 2 5
limited = is-limited p a meets 2 5 (row-bounds p ts rows 0 high _ tabled refl refl)

-- its run ends at the horizon
means : Meaning p a (run (system p a) 120 (start p a)).1
means = record { steps = 120; stops = refl; tells = refl }

-- from the release of the task above on, the one below uses four ticks, of the five that its outer section costs
abbrev begins : State
begins = (run (system p a) 15 (start p a)).0

at_two : begins.time ≡ 2
at_two = refl

in_use : begins.phase ≡ Use
in_use = refl

four : others (system p a) 2 18 begins ≡ 4
four = refl

-- its level is pending all this while
abbrev is_ready : Readiness → Bool
is_ready Ready = true
is_ready _ = false

abbrev is_pending : Phase → List Task → Bool
is_pending Use ts' = list_any (λ t. is_ready t.readiness && nat_le 2 t.thread.priority) ts'
is_pending _ ts' = true

abbrev is_pending_through : ℕ → State → Bool
is_pending_through zero s = true
is_pending_through (suc n) s = is_pending s.phase s.tasks && is_pending_through n (step (system p a) s).0

ready-is : (r : Readiness) → is_ready r ≡ true → r ≡ Ready
ready-is Ready e = refl
ready-is Waiting e = absurd (false≢true e)
ready-is (Asleep until) e = absurd (false≢true e)

pending-in : (phase : Phase) (s : State) → is_pending phase s.tasks ≡ true → IsPendingIn (system p a) 2 phase s
pending-in Effects s e = tt
pending-in Delays s e = tt
pending-in Arriving s e = tt
pending-in Use s e =
    let found = any-at (λ (t : Task). is_ready t.readiness && nat_le 2 t.thread.priority) s.tasks e in
    let parts = and_parts (is_ready found.1.readiness) (nat_le 2 found.1.thread.priority) found.3 in
    (found.0, found.1, found.2, ready-is found.1.readiness parts.0, (let above : 2 ≤ found.1.thread.priority = grind (arith, parts.1) in above))

pending-through : (n : ℕ) (s : State) → is_pending_through n s ≡ true → IsPendingThrough (system p a) 2 n s
pending-through zero s e = tt
pending-through (suc n) s e =
    let parts = and_parts (is_pending s.phase s.tasks) (is_pending_through n (step (system p a) s).0) e in
    (λ going. pending-in s.phase s parts.0, pending-through n (step (system p a) s).0 parts.1)

pending : IsPendingThrough (system p a) 2 18 begins
pending = pending-through 18 begins refl
