-- Examples for the law: a task that enters an object of one datum, and states of which the law doesn't hold.
use Rattle.std.specs.Prelude.{◌≡◌, ◌&&◌, ℕ, zero, suc, true, false, [], ◌∷◌, codes, Some, slice_get, refl}
use Rattle.std.specs.List.{list_any}
use Rattle.std.proofs.Common.{sym, ◌∙◌, ap, subst, arith}
use Rattle.std.proofs.lemmas.Bool.{and_parts, false≢true}
use Rattle.std.proofs.lemmas.Option.{none-some, same_Some}
use Rattle.seq_tree.specs.Names.{same_name}
use Rattle.seq_tree.specs.Expressions.{Number}
use Rattle.seq_tree.specs.Operations.{Operation}
use Rattle.seq_tree.specs.Statements.{Assign, Call, End, Then}
use Rattle.seq_tree.specs.Variables.{Variables}
use Rattle.seq_tree.specs.declared.tree.Costs.{Costs}
use Rattle.machine.specs.Systems.{System, TaskUnit, ProtectedUnit, Periodic, callee}
use Rattle.machine.specs.Pieces.{Calling, Finishing}
use Rattle.machine.specs.States.{State, Task, Object, opening}
use Rattle.machine.specs.Meanings.{run}
use Rattle.law_ceilings.specs.Premises.{Ranking, FallsTo, IsCovered, MayExclude}
use Rattle.law_ceilings.specs.Bodies.{BlockFits}
use Rattle.law_ceilings.specs.Sections.{Holds, IsFree}
use Rattle.law_lists.proofs.Shared.Facts.{same-is}
use Rattle.law_ceilings.specs.Homes.{AreAsWritten, AreHome, EntersHome, IsHome, IsOpenTo}
use Rattle.law_ceilings.proofs.Shared.Entering.{run-home}

abbrev one : Costs
one = record { assign = 1; test = 1; turn = 1; call = 1; nothing = 1; put = 1; finish = 1 }

-- an object of one datum, with an operation that writes it, and a task that calls the operation
abbrev put : Operation
put = record { sig = record { name = codes "put"; params = [] }; locals = []; block = Then (Assign (codes "count") (Number 1)) End }

abbrev cell : ProtectedUnit
cell = record { unit = 0; name = codes "cell"; ceiling = 3; vars = record { name = codes "count"; value = 7 } ∷ []; ops = put ∷ [] }

abbrev caller : TaskUnit
caller = record {
  unit = 1;
  name = codes "caller";
  priority = 2;
  timing = Periodic 0 50;
  vars = [];
  block = Then (Call (codes "cell") (codes "put") []) End;
  durations = [];
}

abbrev runs : System
runs = record { until = 9; costs = one; libraries = []; objects = cell ∷ []; threads = caller ∷ [] }

-- it has what exclusion needs
abbrev ranks : Ranking
ranks = record { made = λ unit op. same_name unit (codes "cell") && same_name op (codes "put"); rank = λ unit op. 0; object_rank = λ object. 0 }

only : {A P : Type 0} (x y : A) (i : ℕ) → slice_get (x ∷ []) i ≡ Some y → (i ≡ 0 → x ≡ y → P) → P
only x y zero e f = f refl (same_Some x y e)
only x y (suc i) e f = absurd (none-some y e)

abbrev IsCalling : TaskUnit → Type 0
IsCalling t = BlockFits (λ unit op. ranks.made unit op ≡ true) false t.block

abbrev IsTimed : TaskUnit → Type 0
IsTimed t = IsCovered t.priority t.timing

excludes : MayExclude runs []
excludes = record {
  ranking = ranks;
  tasks = λ i t at. only caller t i at (λ is same. subst (λ u. IsCalling u) same (refl, tt));
  calls = λ unit op made.
      let names = and_parts (same_name unit (codes "cell")) (same_name op (codes "put")) made in
      let unit-is : unit ≡ codes "cell" = same-is unit (codes "cell") names.0 in
      let op-is : op ≡ codes "put" = same-is op (codes "put") names.1 in
      subst (λ n. FallsTo runs [] ranks 0 (callee runs n op)) (sym unit-is)
      (subst (λ n. FallsTo runs [] ranks 0 (callee runs (codes "cell") n)) (sym op-is) (omega arith, (tt, tt)));
  covered = λ i t at. only caller t i at (λ is same. subst (λ u. IsTimed u) same tt);
  objects = λ i j g h at at' e. only cell g i at (λ is same. only cell h j at' (λ is' same'. is ∙ sym is'));
  units = λ i j t u at at' e. only caller t i at (λ is same. only caller u j at' (λ is' same'. is ∙ sym is'));
}

-- before the step at which the task enters, the datum is at home with its written value
abbrev before : State
before = (run runs 5 (opening runs [])).0

opens : IsOpenTo runs before 0
opens = (run-home runs [] excludes 5).1 0 0 0 [] _ (Calling (codes "cell") (codes "put") []) (Finishing ∷ []) refl refl refl refl refl (omega arith)

stored : before.stores ≡ ((codes "count", 7) ∷ []) ∷ []
stored = refl

-- after it the task has the datum, and the object has none
abbrev after : State
after = (run runs 6 (opening runs [])).0

taken : after.stores ≡ [] ∷ []
taken = refl

away : IsHome after.stores 0 cell → ⊥
away (vars, at, names) = none vars (same_Some [] vars at) names
  where
    none : (vars' : Variables) → [] ≡ vars' → AreAsWritten cell.vars vars' → ⊥
    none [] e h = cc
    none (v ∷ vs) e h = cc

-- no run reaches the same with the task outside
abbrev lost : State
lost = record after { tasks = before.tasks }

nobody : IsFree lost.tasks (Object 0)
nobody (zero, t, at, holds) = (let P : Task → Type 0 = λ u. Holds u (Object 0) in subst P (sym (same_Some _ t at)) holds)
nobody (suc i, t, at, holds) = none-some t at

not-home : AreHome runs lost → ⊥
not-home h = away (h 0 cell refl nobody)

-- nor a task at the entry of an object whose datum is away, or has another name
abbrev without : State
without = record before { stores = [] ∷ [] }

enters-nothing : EntersHome runs without → ⊥
enters-nothing h =
    let open' = h 0 0 0 [] _ (Calling (codes "cell") (codes "put") []) (Finishing ∷ []) refl refl refl refl refl (omega arith) in
    away (subst (λ g. IsHome after.stores 0 g) (sym (same_Some cell open'.1 open'.2)) open'.3)

other-name : AreAsWritten cell.vars ((codes "total", 7) ∷ []) → ⊥
other-name e = false≢true (sym (ap (λ names. list_any (λ n. same_name n (codes "total")) names) e))
