-- A block without a fault calls what is offered, with as many actuals as there are parameters.
use Rattle.std.proofs.Common.{◌≡◌, Bool, true, false, not, ◌||◌, ◌==◌, List, ◌++◌, map, find, length, Option, Some, None, refl, sym, ap, subst}
use Rattle.std.proofs.Common.{◌∙◌, inl, inr, ◌⊎◌}
use Rattle.std.proofs.lemmas.List.{map-append}
use Rattle.std.specs.List.{list_any}
use Rattle.seq_tree.specs.Names.{Name}
use Rattle.seq_tree.specs.Expressions.{Expression}
use Rattle.seq_tree.specs.Statements.{Statement, Statements, Branches, Null, Assign, If, For, ExitWhen, Call, Work, Put, End, Then, Nothing}
use Rattle.seq_tree.specs.Statements.{Else, When}
use Rattle.seq_tree.specs.Operations.{Offer}
use Rattle.seq_tree.specs.Calls.{statement_calls, block_calls, branch_calls}
use Rattle.seq_tree.specs.Faults.{Scope, BodyFault, words, conditions, within_loop, or_else, fault_if, expressions_fault, out_actuals}
use Rattle.seq_tree.specs.Faults.{actuals_fault, is_fixed_actual, call_fault, statement_fault, block_fault, branches_fault}
use Rattle.seq_tree.specs.Faults as fault
use Rattle.seq_tree.specs.declared.tree.OpName.{OpName}
use Rattle.ods_tree.specs.Links.{renamed_statement, renamed, renamed_branches}
use Rattle.ods_tree.specs.Sound.{Counted, counted_statement, counted_calls, counted_branches}
use Rattle.law_designs.proofs.Shared.Lists.{in-cases}
use Rattle.law_designs.proofs.Renaming.{offers_it}
use Rattle.std.proofs.lemmas.Bool.{eqb-true}
use Rattle.law_lists.proofs.Shared.Facts.{or_else-none}
use Rattle.law_lists.proofs.Shared.Lists.{IsIn}

-- the name of a counted call
abbrev pub counted_name : Counted → OpName
counted_name k = record { object = k.object; op = k.op }

two-parts : {A B : Type 0} (f : A → B) (xs ys : List A) (us vs : List B) → us ≡ map f xs → vs ≡ map f ys → us ++ vs ≡ map f (xs ++ ys)
two-parts f xs ys us vs e k = ap (λ z. z ++ vs) e ∙ ap (λ z. map f xs ++ z) k ∙ sym (map-append f xs ys)

-- calls are counted calls
mutual
  statement-counted : (s : Statement) → statement_calls s ≡ map counted_name (counted_statement s)
  statement-counted Null = refl
  statement-counted (Assign target value) = refl
  statement-counted (If branches) = branches-counted branches
  statement-counted (For name low high body) = calls-counted body
  statement-counted (ExitWhen e) = refl
  statement-counted (Call object op actuals) = refl
  statement-counted (Work n) = refl
  statement-counted (Put e) = refl

  pub calls-counted : (b : Statements) → block_calls b ≡ map counted_name (counted_calls b)
  calls-counted End = refl
  calls-counted (Then first rest) = two-parts counted_name (counted_statement first) (counted_calls rest) _ _ (statement-counted first)
      (calls-counted rest)

  branches-counted : (bs : Branches) → branch_calls bs ≡ map counted_name (counted_branches bs)
  branches-counted Nothing = refl
  branches-counted (Else b) = calls-counted b
  branches-counted (When e b others) = two-parts counted_name (counted_calls b) (counted_branches others) _ _ (calls-counted b)
      (branches-counted others)

module _ (means : OpName → OpName) where
  -- a counted call by what it means
  abbrev pub counted_as : Counted → Counted
  counted_as k = record { object = (means (counted_name k)).object; op = (means (counted_name k)).op; count = k.count }

  mutual
    statement-renamed : (s : Statement) → counted_statement (renamed_statement means s) ≡ map counted_as (counted_statement s)
    statement-renamed Null = refl
    statement-renamed (Assign target value) = refl
    statement-renamed (If branches) = branches-renamed branches
    statement-renamed (For name low high body) = counted-renamed body
    statement-renamed (ExitWhen e) = refl
    statement-renamed (Call object op actuals) = refl
    statement-renamed (Work n) = refl
    statement-renamed (Put e) = refl

    pub counted-renamed : (b : Statements) → counted_calls (renamed means b) ≡ map counted_as (counted_calls b)
    counted-renamed End = refl
    counted-renamed (Then first rest) = two-parts counted_as (counted_statement first) (counted_calls rest) _ _ (statement-renamed first)
        (counted-renamed rest)

    branches-renamed : (bs : Branches) → counted_branches (renamed_branches means bs) ≡ map counted_as (counted_branches bs)
    branches-renamed Nothing = refl
    branches-renamed (Else b) = counted-renamed b
    branches-renamed (When e b others) = two-parts counted_as (counted_calls b) (counted_branches others) _ _ (counted-renamed b)
        (branches-renamed others)

-- a call that is offered, with its number of actuals
pub record Right (calls : List Offer) (k : Counted) : Type 0 where
  pub offer : Offer
  pub found : find (offers_it (counted_name k)) calls ≡ Some offer
  pub count : length offer.sig.params ≡ k.count

if-none : (b : Bool) (f : BodyFault) → fault_if (not b) f ≡ None → b ≡ true
if-none true f e = refl
if-none false f e = (let z : Some f ≡ None = e in cc)

call-right : (c : Scope) (object op : Name) (actuals : List Expression) (o : Option Offer)
    → find (offers_it (record { object = object; op = op })) c.calls ≡ o → call_fault c o actuals ≡ None
    → Right c.calls (record { object = object; op = op; count = length actuals })
call-right c object op actuals None e h = (let z : Some fault.Unknown ≡ None = h in cc)
call-right c object op actuals (Some o) e h =
    let outs : List Expression = out_actuals o.sig.params actuals in
    let a = (or_else-none (expressions_fault c (words actuals)) (actuals_fault c outs o.sig.params actuals) h).1 in
    let b = (or_else-none (fault_if (list_any (is_fixed_actual c) outs) fault.Assigned)
    (or_else (fault_if (list_any fault.is_no_variable outs || fault.repeats outs) fault.Actual)
    (fault_if (not (length o.sig.params == length actuals)) fault.Count)) a).1 in
    let d = (or_else-none (fault_if (list_any fault.is_no_variable outs || fault.repeats outs) fault.Actual)
    (fault_if (not (length o.sig.params == length actuals)) fault.Count) b).1 in
    record { offer = o; found = e; count = eqb-true _ _ (if-none _ fault.Count d) }

mutual
  statement-right : (c : Scope) (s : Statement) → statement_fault c s ≡ None → (k : Counted) → IsIn k (counted_statement s) → Right c.calls k
  statement-right c Null h k j = absurd j
  statement-right c (Assign target value) h k j = absurd j
  statement-right c (If branches) h k j
      = branches-right c branches (or_else-none (expressions_fault c (conditions branches)) (branches_fault c branches) h).1 k j
  statement-right c (For name low high body) h k j = calls-right (within_loop c name) body h k j
  statement-right c (ExitWhen e) h k j = absurd j
  statement-right c (Call object op actuals) h k (inl e) =
      let P : Counted → Type 0 = λ z. Right c.calls z in
      subst P e (call-right c object op actuals (find (offers_it (record { object = object; op = op })) c.calls) refl h)
  statement-right c (Call object op actuals) h k (inr j) = absurd j
  statement-right c (Work n) h k j = absurd j
  statement-right c (Put e) h k j = absurd j

  pub calls-right : (c : Scope) (b : Statements) → block_fault c b ≡ None → (k : Counted) → IsIn k (counted_calls b) → Right c.calls k
  calls-right c End h k j = absurd j
  calls-right c (Then first rest) h k j =
      let parts = or_else-none (statement_fault c first) (block_fault c rest) h in
      by (statement-right c first parts.0 k) (calls-right c rest parts.1 k) (in-cases (counted_statement first) (counted_calls rest) k j)
    where
      by : (IsIn k (counted_statement first) → Right c.calls k) → (IsIn k (counted_calls rest) → Right c.calls k)
          → IsIn k (counted_statement first) ⊎ IsIn k (counted_calls rest) → Right c.calls k
      by f g (inl i) = f i
      by f g (inr i) = g i

  branches-right : (c : Scope) (bs : Branches) → branches_fault c bs ≡ None → (k : Counted) → IsIn k (counted_branches bs) → Right c.calls k
  branches-right c Nothing h k j = absurd j
  branches-right c (Else b) h k j = calls-right c b h k j
  branches-right c (When e b others) h k j =
      let parts = or_else-none (block_fault c b) (branches_fault c others) h in
      by (calls-right c b parts.0 k) (branches-right c others parts.1 k) (in-cases (counted_calls b) (counted_branches others) k j)
    where
      by : (IsIn k (counted_calls b) → Right c.calls k) → (IsIn k (counted_branches others) → Right c.calls k)
          → IsIn k (counted_calls b) ⊎ IsIn k (counted_branches others) → Right c.calls k
      by f g (inl i) = f i
      by f g (inr i) = g i
