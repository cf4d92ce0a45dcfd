-- A design meets the rules where the lists of what is told are empty, and no way of calls or starts is longer than some number of steps.
-- So the rules of a given design are shown by computing, rings included: who stands on a ring has ways of every length.
use Rattle.std.specs.Prelude.{◌≡◌, ℕ, zero, suc, ◌≤◌, Bool, true, false, not, ◌&&◌, ◌||◌, List, [], ◌∷◌, ◌++◌, Some, slice_get, refl}
use Rattle.std.specs.List.{list_all, list_any}
use Rattle.std.proofs.Common.{sym, subst, arith}
use Rattle.std.proofs.lemmas.Option.{same_Some}
use Rattle.std.proofs.lemmas.Slice.Eq.{bytes_eq-Decides}
use Rattle.seq_tree.specs.Names.{Name, same_name}
use Rattle.seq_tree.specs.Lists.{Each}
use Rattle.seq_tree.specs.Rings.{LeadsTo, IsOnRing}
use Rattle.seq_tree.specs.Calls.{same_op}
use Rattle.seq_tree.specs.declared.tree.OpName.{OpName}
use Rattle.seq_tree.proofs.Shared.Walks.{same_op-eq}
use Rattle.ods_tree.specs.Designs.{Object, Design}
use Rattle.ods_tree.specs.Ticks.{in_ticks}
use Rattle.design_rules.specs.Broken.{Broken}
use Rattle.design_rules.specs.Versions.{version_faults}
use Rattle.design_rules.specs.Clashes.{clashes}
use Rattle.design_rules.specs.Words.{kept_names}
use Rattle.design_rules.specs.Includes.{bad_includes}
use Rattle.design_rules.specs.Operations.{bad_operations}
use Rattle.design_rules.specs.Fittings.{bad_fittings}
use Rattle.design_rules.specs.Uses.{strangers, absent, forbidden}
use Rattle.design_rules.specs.Rings.{terminal_ops, calls_from, CallsOp, protected_objects, calls_object, CallsObject, thread_objects, can_start}
use Rattle.design_rules.specs.Rings.{StartsThread}
use Rattle.design_rules.specs.Sources.{bad_sources}
use Rattle.design_rules.specs.Numbers.{bad_numbers}
use Rattle.design_rules.specs.Bodies.{idle_actives, bad_bodies}
use Rattle.design_rules.specs.Budgets.{bad_budgets, bad_sizes}
use Rattle.design_rules.specs.Separations.{bad_separations}
use Rattle.design_rules.specs.Rules.{Version, Clash, KeptName, Include, Operation, Fitting, Stranger, Absence, Use, CallRing, ObjectRing}
use Rattle.design_rules.specs.Rules.{StartRing, Source, Number, IdleActive, BodyFault, Budget, Size, Spacing, IsListed, AreMet, MeetsRules}
use Rattle.design_rules.proofs.Shared.Rows.{before_rings, after_rings}

-- an item that passes both of two tests, where all pass one and some the other
pub record Meeting {A : Type 0} (p q : A → Bool) : Type 0 where
  pub item : A
  pub one : p item ≡ true
  pub other : q item ≡ true

pub meeting : {A : Type 0} (p q : A → Bool) (xs : List A) → list_all p xs ≡ true → list_any q xs ≡ true → Meeting p q
meeting p q [] all some = cc
meeting p q (x ∷ xs) all some = by (p x) (q x) refl refl all some (meeting p q xs)
  where
    by : (a b : Bool) → p x ≡ a → q x ≡ b → (a && list_all p xs) ≡ true → (b || list_any q xs) ≡ true
        → (list_all p xs ≡ true → list_any q xs ≡ true → Meeting p q) → Meeting p q
    by true true e f all some rest = record { item = x; one = e; other = f }
    by true false e f all some rest = rest all some
    by false b e f all some rest = cc

-- the item at a place passes a test that all pass
placed : {A : Type 0} (p : A → Bool) (xs : List A) (place : ℕ) (a : A) → list_all p xs ≡ true → slice_get xs place ≡ Some a → p a ≡ true
placed p [] place a all e = cc
placed {A = A} p (x ∷ xs) place a all e = by (p x) refl all place e (placed p xs)
  where
    by : (b : Bool) → p x ≡ b → (b && list_all p xs) ≡ true → (place : ℕ) → slice_get (x ∷ xs) place ≡ Some a
        → ((place : ℕ) (a : A) → list_all p xs ≡ true → slice_get xs place ≡ Some a → p a ≡ true) → p a ≡ true
    by true h all zero e rest = subst (λ y. p y ≡ true) (same_Some x a e) h
    by true h all (suc place) e rest = rest place a all e
    by false h all place e rest = cc

-- where every way has fewer steps than some number, nothing stands on a ring: what a way comes to has ways of fewer steps still
module _ {A : Type 0} (Step : A → A → Type 0) (ends : ℕ → A → Bool) (some_step : (a : A) → ends 0 a ≡ true → ⊥) (further : (n : ℕ) (a b : A)
    → ends (suc n) a ≡ true → Step a b → ends n b ≡ true) where
  later : (n : ℕ) (a : A) (path : List A) (b : A) → ends (suc n) a ≡ true → LeadsTo Step a path b → (m : ℕ) × (m ≤ n) × (ends m b ≡ true)
  later n a [] b h leads = (n, omega arith, further n a b h leads)
  later zero a (via ∷ path) b h leads = absurd (some_step via (further zero a via h leads.0))
  later (suc n) a (via ∷ path) b h leads = by (later n via path b (further (suc n) a via h leads.0) leads.1)
    where
      by : (m : ℕ) × (m ≤ n) × (ends m b ≡ true) → (m : ℕ) × (m ≤ suc n) × (ends m b ≡ true)
      by (m, less, e) = (m, omega (arith, less), e)

  no-ring-up-to : (k n : ℕ) (a : A) → n ≤ k → ends n a ≡ true → IsOnRing Step a → ⊥
  no-ring-up-to k zero a within h ring = some_step a h
  no-ring-up-to zero (suc n) a within h ring = omega (arith, within)
  no-ring-up-to (suc k) (suc n) a within h ring =
      let shorter = later n a ring.0 a h ring.1 in
      let less = shorter.1 in
      no-ring-up-to k shorter.0 a (omega (arith, within, less)) shorter.2 ring

  pub no-ring : (n : ℕ) (a : A) → ends n a ≡ true → IsOnRing Step a → ⊥
  no-ring n a h ring = no-ring-up-to n n a (omega arith) h ring

-- whether every way of calls from an operation has fewer steps than this
abbrev pub calls_end : Design → ℕ → OpName → Bool
calls_end x zero a = false
calls_end x (suc n) a = list_all (calls_end x n) (calls_from x a)

no_call : (x : Design) (a : OpName) → calls_end x 0 a ≡ true → ⊥
no_call x a h = cc

call_further : (x : Design) (n : ℕ) (a b : OpName) → calls_end x (suc n) a ≡ true → CallsOp x a b → calls_end x n b ≡ true
call_further x n a b h step =
    let m : Meeting (calls_end x n) (same_op b) = meeting (calls_end x n) (same_op b) (calls_from x a) h step in
    subst (λ c. calls_end x n c ≡ true) (sym (same_op-eq b m.item m.other)) m.one

-- whether every way from an object, by name, has fewer steps than this, where some of these objects lead to others
abbrev pub objects_end : (Object → Object → Bool) → List Object → ℕ → Name → Bool
objects_end leads objects zero name = false
objects_end leads objects (suc n) name =
    list_all (λ f. not (same_name f.name name) || list_all (λ t. not (leads f t) || objects_end leads objects n t.name) objects) objects

no_object : (leads : Object → Object → Bool) (objects : List Object) (name : Name) → objects_end leads objects 0 name ≡ true → ⊥
no_object leads objects name h = cc

implied : (a b c : Bool) → (not a || b) ≡ true → (a && c) ≡ true → (b ≡ true) × (c ≡ true)
implied true true c h k = (refl, k)
implied true false c h k = cc
implied false b c h k = cc

named_implied : (a b c : Bool) → (not a || b) ≡ true → (c && a) ≡ true → (b ≡ true) × (c ≡ true)
named_implied true true true h k = (refl, refl)
named_implied true true false h k = cc
named_implied true false true h k = cc
named_implied true false false h k = cc
named_implied false b true h k = cc
named_implied false b false h k = cc

object_further : (leads : Object → Object → Bool) (objects : List Object) (n : ℕ) (from to : Name) → objects_end leads objects (suc n) from ≡ true
    → list_any (λ f. same_name f.name from && list_any (λ t. same_name t.name to && leads f t) objects) objects ≡ true
    → objects_end leads objects n to ≡ true
object_further leads objects n from to h step = outer (meeting _ _ objects h step)
  where
    inner : (f : Object) → Meeting (λ t. not (leads f t) || objects_end leads objects n t.name) (λ t. same_name t.name to && leads f t)
        → objects_end leads objects n to ≡ true
    inner f m =
        let parts = named_implied (leads f m.item) (objects_end leads objects n m.item.name) (same_name m.item.name to) m.one m.other in
        subst (λ name. objects_end leads objects n name ≡ true) ((bytes_eq-Decides m.item.name to).0 parts.1) parts.0

    outer : Meeting (λ f. not (same_name f.name from) || list_all (λ t. not (leads f t) || objects_end leads objects n t.name) objects)
        (λ f. same_name f.name from && list_any (λ t. same_name t.name to && leads f t) objects)
        → objects_end leads objects n to ≡ true
    outer m =
        let parts = implied (same_name m.item.name from) _ _ m.one m.other in
        inner m.item (meeting _ _ objects parts.0 parts.1)

-- nothing is told of a design: its lists are empty, and its ways of calls and starts have fewer steps than some number
pub record TellsNothing (written x : Design) : Type 0 where
  pub version : version_faults written ≡ []
  pub before : before_rings x ≡ []
  pub after : after_rings x ≡ []
  pub steps : ℕ
  pub calls : list_all (calls_end x steps) (terminal_ops x) ≡ true
  pub objects : list_all (λ o. objects_end (calls_object x) (protected_objects x) steps o.name) (protected_objects x) ≡ true
  pub starts : list_all (λ o. objects_end (can_start x) (thread_objects x) steps o.name) (thread_objects x) ≡ true

none-listed : (all : List Broken) (place : ℕ) (told : Broken) → all ≡ [] → IsListed all place told → ⊥
none-listed [] place told h e = cc
none-listed (b ∷ all) place told h e = cc

-- lists one behind the other
abbrev joined : List (List Broken) → List Broken
joined [] = []
joined (xs ∷ []) = xs
joined (xs ∷ ys ∷ more) = xs ++ joined (ys ∷ more)

none-joined : (lists : List (List Broken)) → joined lists ≡ [] → Each (λ xs. xs ≡ []) lists
none-joined [] h = tt
none-joined (xs ∷ []) h = (h, tt)
none-joined ([] ∷ ys ∷ more) h = (refl, none-joined (ys ∷ more) h)
none-joined ((b ∷ xs) ∷ ys ∷ more) h = cc

-- what is told by the rules before rings, and by those after them
abbrev lists_before : Design → List (List Broken)
lists_before x = clashes x ∷ kept_names x ∷ bad_includes x ∷ bad_operations x ∷ bad_fittings x ∷ strangers x ∷ absent x ∷ forbidden x ∷ []

abbrev lists_after : Design → List (List Broken)
lists_after x = bad_sources x ∷ bad_numbers x ∷ idle_actives x ∷ bad_bodies x ∷ bad_budgets x ∷ bad_sizes x ∷ bad_separations x ∷ []

-- where nothing is told, no rule has an offender
are-met : (written x : Design) → TellsNothing written x → AreMet written x
are-met written x h Version place told listed = none-listed (version_faults written) place told h.version listed
are-met written x h Clash place told listed = none-listed (clashes x) place told (none-joined (lists_before x) h.before).0 listed
are-met written x h KeptName place told listed = none-listed (kept_names x) place told (none-joined (lists_before x) h.before).1.0 listed
are-met written x h Include place told listed = none-listed (bad_includes x) place told (none-joined (lists_before x) h.before).1.1.0 listed
are-met written x h Operation place told listed = none-listed (bad_operations x) place told (none-joined (lists_before x) h.before).1.1.1.0 listed
are-met written x h Fitting place told listed = none-listed (bad_fittings x) place told (none-joined (lists_before x) h.before).1.1.1.1.0 listed
are-met written x h Stranger place told listed = none-listed (strangers x) place told (none-joined (lists_before x) h.before).1.1.1.1.1.0 listed
are-met written x h Absence place told listed = none-listed (absent x) place told (none-joined (lists_before x) h.before).1.1.1.1.1.1.0 listed
are-met written x h Use place told listed = none-listed (forbidden x) place told (none-joined (lists_before x) h.before).1.1.1.1.1.1.1.0 listed
are-met written x h CallRing place told r =
    no-ring (CallsOp x) (calls_end x) (no_call x) (call_further x) h.steps r.op (placed _ (terminal_ops x) place r.op h.calls r.stands) r.ring
are-met written x h ObjectRing place told r =
    no-ring (CallsObject x) (objects_end (calls_object x) (protected_objects x)) (no_object (calls_object x) (protected_objects x))
    (object_further (calls_object x) (protected_objects x)) h.steps r.object.name
    (placed _ (protected_objects x) place r.object h.objects r.stands) r.ring
are-met written x h StartRing place told r =
    no-ring (StartsThread x) (objects_end (can_start x) (thread_objects x)) (no_object (can_start x) (thread_objects x))
    (object_further (can_start x) (thread_objects x)) h.steps r.thread.name
    (placed _ (thread_objects x) place r.thread h.starts r.stands) r.ring
are-met written x h Source place told listed = none-listed (bad_sources x) place told (none-joined (lists_after x) h.after).0 listed
are-met written x h Number place told listed = none-listed (bad_numbers x) place told (none-joined (lists_after x) h.after).1.0 listed
are-met written x h IdleActive place told listed = none-listed (idle_actives x) place told (none-joined (lists_after x) h.after).1.1.0 listed
are-met written x h BodyFault place told listed = none-listed (bad_bodies x) place told (none-joined (lists_after x) h.after).1.1.1.0 listed
are-met written x h Budget place told listed = none-listed (bad_budgets x) place told (none-joined (lists_after x) h.after).1.1.1.1.0 listed
are-met written x h Size place told listed = none-listed (bad_sizes x) place told (none-joined (lists_after x) h.after).1.1.1.1.1.0 listed
are-met written x h Spacing place told listed = none-listed (bad_separations x) place told (none-joined (lists_after x) h.after).1.1.1.1.1.1.0 listed

-- a design of which nothing is told meets the rules
pub meets-where-nothing-told : (x : Design) → TellsNothing x (in_ticks x) → MeetsRules x
meets-where-nothing-told x h = are-met x (in_ticks x) h
