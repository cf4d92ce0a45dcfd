-- A block with its calls read by what they mean: it calls just these, and its loops, its ticks and its shape are as they were.
-- Without a fault it has none where what is called stands there with parameters that agree.
use Rattle.std.proofs.Common.{◌≡◌, ℕ, suc, Bool, true, false, not, ◌&&◌, ◌||◌, ◌==◌, List, [], ◌∷◌, ◌++◌, map, find, length, Option, Some, None}
use Rattle.std.proofs.Common.{refl, sym, ap, ◌∙◌, if◌then◌else◌}
use Rattle.std.proofs.lemmas.List.{map-append}
use Rattle.std.specs.List.{list_any}
use Rattle.std.proofs.lemmas.Bool.{and_parts}
use Rattle.seq_tree.specs.Names.{Name, same_name, is_named}
use Rattle.seq_tree.specs.Expressions.{Expression, Number, Variable, Paren, Not, Binary}
use Rattle.seq_tree.specs.Statements.{Statement, Statements, Branches, Null, Assign, If, For, ExitWhen, Call, Work, Put, End, Then, Nothing}
use Rattle.seq_tree.specs.Statements.{Else, When}
use Rattle.seq_tree.specs.Operations.{Offer, is_out}
use Rattle.seq_tree.specs.Calls.{statement_calls, block_calls, branch_calls, statement_works, block_works, branch_works}
use Rattle.seq_tree.specs.Faults.{Scope, BodyFault, Expected, word, condition, words, conditions, within_loop, or_else, fault_if, has_unknown}
use Rattle.seq_tree.specs.Faults.{expressions_fault, out_actuals, actuals_fault, is_fixed_actual, call_fault, statement_fault}
use Rattle.seq_tree.specs.Faults.{block_fault, branches_fault}
use Rattle.seq_tree.specs.Faults as fault
use Rattle.seq_tree.specs.Sorts.{has_sort}
use Rattle.seq_tree.specs.declared.tree.Param.{Param}
use Rattle.seq_tree.specs.declared.tree.OpName.{OpName}
use Rattle.ods_tree.specs.Links.{renamed_statement, renamed, renamed_branches}
use Rattle.design_rules.specs.Fittings.{same_mode, same_params}
use Rattle.ada_tree.specs.Naming.{statement_loops, block_loops, branch_loops, statement_clashes, block_clashes, branch_clashes}
use Rattle.law_lists.proofs.Shared.Facts.{or_else-none}

module _ (means : OpName → OpName) where
  -- what is called
  mutual
    pub statement_calls-renamed : (s : Statement) → statement_calls (renamed_statement means s) ≡ map means (statement_calls s)
    statement_calls-renamed Null = refl
    statement_calls-renamed (Assign target value) = refl
    statement_calls-renamed (If branches) = branch_calls-renamed branches
    statement_calls-renamed (For name low high body) = block_calls-renamed body
    statement_calls-renamed (ExitWhen e) = refl
    statement_calls-renamed (Call object op actuals) = refl
    statement_calls-renamed (Work n) = refl
    statement_calls-renamed (Put e) = refl

    pub block_calls-renamed : (b : Statements) → block_calls (renamed means b) ≡ map means (block_calls b)
    block_calls-renamed End = refl
    block_calls-renamed (Then first rest) =
        ap (λ z. z ++ block_calls (renamed means rest)) (statement_calls-renamed first) ∙ ap (λ z. map means (statement_calls first) ++ z)
        (block_calls-renamed rest)
        ∙ sym (map-append means (statement_calls first) (block_calls rest))

    pub branch_calls-renamed : (bs : Branches) → branch_calls (renamed_branches means bs) ≡ map means (branch_calls bs)
    branch_calls-renamed Nothing = refl
    branch_calls-renamed (Else b) = block_calls-renamed b
    branch_calls-renamed (When e b others) =
        ap (λ z. z ++ branch_calls (renamed_branches means others)) (block_calls-renamed b) ∙ ap (λ z. map means (block_calls b) ++ z)
        (branch_calls-renamed others)
        ∙ sym (map-append means (block_calls b) (branch_calls others))

  -- ticks
  mutual
    pub statement_works-renamed : (s : Statement) → statement_works (renamed_statement means s) ≡ statement_works s
    statement_works-renamed Null = refl
    statement_works-renamed (Assign target value) = refl
    statement_works-renamed (If branches) = branch_works-renamed branches
    statement_works-renamed (For name low high body) = block_works-renamed body
    statement_works-renamed (ExitWhen e) = refl
    statement_works-renamed (Call object op actuals) = refl
    statement_works-renamed (Work n) = refl
    statement_works-renamed (Put e) = refl

    pub block_works-renamed : (b : Statements) → block_works (renamed means b) ≡ block_works b
    block_works-renamed End = refl
    block_works-renamed (Then first rest) =
        ap (λ z. z ++ block_works (renamed means rest)) (statement_works-renamed first) ∙ ap (λ z. statement_works first ++ z)
        (block_works-renamed rest)

    pub branch_works-renamed : (bs : Branches) → branch_works (renamed_branches means bs) ≡ branch_works bs
    branch_works-renamed Nothing = refl
    branch_works-renamed (Else b) = block_works-renamed b
    branch_works-renamed (When e b others) =
        ap (λ z. z ++ branch_works (renamed_branches means others)) (block_works-renamed b) ∙ ap (λ z. block_works b ++ z)
        (branch_works-renamed others)

  -- loops
  mutual
    pub statement_loops-renamed : (s : Statement) → statement_loops (renamed_statement means s) ≡ statement_loops s
    statement_loops-renamed Null = refl
    statement_loops-renamed (Assign target value) = refl
    statement_loops-renamed (If branches) = branch_loops-renamed branches
    statement_loops-renamed (For name low high body) = ap (λ z. name ∷ z) (block_loops-renamed body)
    statement_loops-renamed (ExitWhen e) = refl
    statement_loops-renamed (Call object op actuals) = refl
    statement_loops-renamed (Work n) = refl
    statement_loops-renamed (Put e) = refl

    pub block_loops-renamed : (b : Statements) → block_loops (renamed means b) ≡ block_loops b
    block_loops-renamed End = refl
    block_loops-renamed (Then first rest) =
        ap (λ z. z ++ block_loops (renamed means rest)) (statement_loops-renamed first) ∙ ap (λ z. statement_loops first ++ z)
        (block_loops-renamed rest)

    pub branch_loops-renamed : (bs : Branches) → branch_loops (renamed_branches means bs) ≡ branch_loops bs
    branch_loops-renamed Nothing = refl
    branch_loops-renamed (Else b) = block_loops-renamed b
    branch_loops-renamed (When e b others) =
        ap (λ z. z ++ branch_loops (renamed_branches means others)) (block_loops-renamed b) ∙ ap (λ z. block_loops b ++ z)
        (branch_loops-renamed others)

  -- clashes of loops
  mutual
    pub statement_clashes-renamed : (taken : List Name) (s : Statement) → statement_clashes taken (renamed_statement means s)
        ≡ statement_clashes taken s
    statement_clashes-renamed taken Null = refl
    statement_clashes-renamed taken (Assign target value) = refl
    statement_clashes-renamed taken (If branches) = branch_clashes-renamed taken branches
    statement_clashes-renamed taken (For name low high body) = ap (λ z. is_named taken name || z) (block_clashes-renamed (name ∷ taken) body)
    statement_clashes-renamed taken (ExitWhen e) = refl
    statement_clashes-renamed taken (Call object op actuals) = refl
    statement_clashes-renamed taken (Work n) = refl
    statement_clashes-renamed taken (Put e) = refl

    pub block_clashes-renamed : (taken : List Name) (b : Statements) → block_clashes taken (renamed means b) ≡ block_clashes taken b
    block_clashes-renamed taken End = refl
    block_clashes-renamed taken (Then first rest) =
        ap (λ z. z || block_clashes taken (renamed means rest)) (statement_clashes-renamed taken first) ∙ ap (λ z. statement_clashes taken first || z)
        (block_clashes-renamed taken rest)

    pub branch_clashes-renamed : (taken : List Name) (bs : Branches) → branch_clashes taken (renamed_branches means bs) ≡ branch_clashes taken bs
    branch_clashes-renamed taken Nothing = refl
    branch_clashes-renamed taken (Else b) = block_clashes-renamed taken b
    branch_clashes-renamed taken (When e b others) =
        ap (λ z. z || branch_clashes taken (renamed_branches means others)) (block_clashes-renamed taken b) ∙ ap (λ z. block_clashes taken b || z)
        (branch_clashes-renamed taken others)

pub or_else-from : {A : Type 0} (a b : Option A) → a ≡ None → b ≡ None → or_else a b ≡ None
or_else-from a b e k = ap (λ z. or_else z b) e ∙ k

-- a scope with other operations
abbrev pub with_calls : List Offer → Scope → Scope
with_calls others c = record c { calls = others }

-- what is known of names doesn't depend on what can be called
unknown-same : (others : List Offer) (c : Scope) (e : Expression) → has_unknown (with_calls others c) e ≡ has_unknown c e
unknown-same others c (Number n) = refl
unknown-same others c (Variable name) = refl
unknown-same others c (Paren e) = unknown-same others c e
unknown-same others c (Not e) = unknown-same others c e
unknown-same others c (Binary op left right) =
    ap (λ z. z || has_unknown (with_calls others c) right) (unknown-same others c left) ∙ ap (λ z. has_unknown c left || z)
    (unknown-same others c right)

unknowns-same : (others : List Offer) (c : Scope) (es : List Expected) → list_any (λ x. has_unknown (with_calls others c) x.expression) es
    ≡ list_any (λ x. has_unknown c x.expression) es
unknowns-same others c [] = refl
unknowns-same others c (x ∷ es) =
    ap (λ z. z || list_any (λ y. has_unknown (with_calls others c) y.expression) es) (unknown-same others c x.expression)
    ∙ ap (λ z. has_unknown c x.expression || z) (unknowns-same others c es)

pub expressions-same : (others : List Offer) (c : Scope) (es : List Expected) → expressions_fault (with_calls others c) es ≡ expressions_fault c es
expressions-same others c es =
    ap (λ z. or_else (fault_if z fault.Unknown) (or_else (fault_if (list_any (λ x. not (has_sort x.sort x.expression)) es) fault.Missorted)
    (fault_if (list_any (λ x. fault.has_bad_divisor x.expression) es) fault.Divisor))) (unknowns-same others c es)

fixed-same : (others : List Offer) (c : Scope) (es : List Expression) → list_any (is_fixed_actual (with_calls others c)) es
    ≡ list_any (is_fixed_actual c) es
fixed-same others c [] = refl
fixed-same others c (e ∷ es) = ap (λ z. z || list_any (is_fixed_actual (with_calls others c)) es) (one e) ∙ ap (λ z. is_fixed_actual c e || z)
    (fixed-same others c es)
  where
    one : (f : Expression) → is_fixed_actual (with_calls others c) f ≡ is_fixed_actual c f
    one (Variable name) = refl
    one (Number n) = refl
    one (Paren f) = refl
    one (Not f) = refl
    one (Binary op left right) = refl

-- parameters that agree
same_mode-eq : (a b : Bool) → same_mode a b ≡ true → a ≡ b
same_mode-eq true b h = sym h
same_mode-eq false true h = cc
same_mode-eq false false h = refl

pub three : (a b c : Bool) → (a && b && c) ≡ true → (a ≡ true) × (b ≡ true) × (c ≡ true)
three a b c h = let p = and_parts (a && b) c h in let q = and_parts a b p.0 in (q.0, q.1, p.1)

pub same_params-length : (ps qs : List Param) → same_params ps qs ≡ true → length ps ≡ length qs
same_params-length [] [] h = refl
same_params-length [] (q ∷ qs) h = cc
same_params-length (p ∷ ps) [] h = cc
same_params-length (p ∷ ps) (q ∷ qs) h =
    ap suc (same_params-length ps qs (three (same_name p.name q.name) (same_mode (is_out p.mode) (is_out q.mode)) (same_params ps qs) h).2)

pub same_params-out : (ps qs : List Param) (as' : List Expression) → same_params ps qs ≡ true → out_actuals ps as' ≡ out_actuals qs as'
same_params-out [] [] as' h = refl
same_params-out [] (q ∷ qs) as' h = cc
same_params-out (p ∷ ps) [] as' h = cc
same_params-out (p ∷ ps) (q ∷ qs) [] h = refl
same_params-out (p ∷ ps) (q ∷ qs) (a ∷ as') h =
    let t = three (same_name p.name q.name) (same_mode (is_out p.mode) (is_out q.mode)) (same_params ps qs) h in
    ap (λ z. if z then a ∷ out_actuals ps as' else out_actuals ps as') (same_mode-eq _ _ t.1)
    ∙ ap (λ z. if is_out q.mode then a ∷ z else z) (same_params-out ps qs as' t.2)

-- whether an offer is that of an operation
abbrev pub offers_it : OpName → Offer → Bool
offers_it name o = same_name o.object name.object && same_name o.sig.name name.op

-- what a call named stands there by what it means, with parameters that agree
abbrev pub Leads : (OpName → OpName) → List Offer → List Offer → Type 0
Leads means calls others =
    (name : OpName) (o : Offer) → find (offers_it name) calls ≡ Some o → (p : Offer) × (find (offers_it (means name)) others ≡ Some p)
    × (same_params o.sig.params p.sig.params ≡ true)

module _ (means : OpName → OpName) (calls others : List Offer) (leads : Leads means calls others) where
  none-some : {A : Type 0} (a : A) → Some a ≡ None → ⊥
  none-some a e = cc

  call-same : (c : Scope) (o p : Offer) (actuals : List Expression) → same_params o.sig.params p.sig.params ≡ true
      → call_fault c (Some o) actuals ≡ None → call_fault (with_calls others c) (Some p) actuals ≡ None
  call-same c o p actuals agree h =
      let parts = or_else-none (expressions_fault c (words actuals)) (actuals_fault c (out_actuals o.sig.params actuals) o.sig.params actuals) h in
      let outs : out_actuals o.sig.params actuals ≡ out_actuals p.sig.params actuals = same_params-out o.sig.params p.sig.params actuals agree in
      let long : length o.sig.params ≡ length p.sig.params = same_params-length o.sig.params p.sig.params agree in
      let tail : BodyFault → List Expression → ℕ → Option BodyFault
      = λ f es n. or_else (fault_if (list_any fault.is_no_variable es || fault.repeats es) f) (fault_if (not (n == length actuals)) fault.Count) in
      let moved : actuals_fault (with_calls others c) (out_actuals p.sig.params actuals) p.sig.params actuals
      ≡ actuals_fault c (out_actuals o.sig.params actuals) o.sig.params actuals =
      ap (λ z. or_else (fault_if z fault.Assigned) (tail fault.Actual (out_actuals p.sig.params actuals) (length p.sig.params)))
      (fixed-same others c (out_actuals p.sig.params actuals))
      ∙ ap (λ z. or_else (fault_if (list_any (is_fixed_actual c) z) fault.Assigned) (tail fault.Actual z (length p.sig.params))) (sym outs)
      ∙ ap (λ z. or_else (fault_if (list_any (is_fixed_actual c) (out_actuals o.sig.params actuals)) fault.Assigned)
      (tail fault.Actual (out_actuals o.sig.params actuals) z)) (sym long) in
      or_else-from _ _ (expressions-same others c (words actuals) ∙ parts.0) (moved ∙ parts.1)

  called : (c : Scope) (name : OpName) (actuals : List Expression) → c.calls ≡ calls → (o : Option Offer) → find (offers_it name) calls ≡ o
      → call_fault c o actuals ≡ None
      → call_fault (with_calls others c) (find (offers_it (means name)) others) actuals ≡ None
  called c name actuals e None k h = absurd (none-some _ h)
  called c name actuals e (Some o) k h =
      let r = leads name o k in
      ap (λ z. call_fault (with_calls others c) z actuals) r.1 ∙ call-same c o r.0 actuals r.2 h

  conditions-renamed : (bs : Branches) → conditions (renamed_branches means bs) ≡ conditions bs
  conditions-renamed Nothing = refl
  conditions-renamed (Else b) = refl
  conditions-renamed (When e b others') = ap (λ z. condition e ∷ z) (conditions-renamed others')

  mutual
    pub statement_fault-renamed : (c : Scope) → c.calls ≡ calls → (s : Statement) → statement_fault c s ≡ None
        → statement_fault (with_calls others c) (renamed_statement means s) ≡ None
    statement_fault-renamed c e Null h = refl
    statement_fault-renamed c e (Assign target value) h =
        ap (λ z. or_else (fault_if (not (is_named c.reads target)) fault.Unknown) (or_else z (fault_if (fault.is_fixed c target) fault.Assigned)))
        (expressions-same others c (word value ∷ [])) ∙ h
    statement_fault-renamed c e (If branches) h =
        let parts = or_else-none (expressions_fault c (conditions branches)) (branches_fault c branches) h in
        or_else-from _ _ (ap (expressions_fault (with_calls others c)) (conditions-renamed branches) ∙ expressions-same others c
        (conditions branches) ∙ parts.0)
        (branches_fault-renamed c e branches parts.1)
    statement_fault-renamed c e (For name low high body) h = block_fault-renamed (within_loop c name) e body h
    statement_fault-renamed c e (ExitWhen x) h = ap (λ z. or_else z (fault_if (not c.in_loop) fault.Exit))
        (expressions-same others c (condition x ∷ [])) ∙ h
    statement_fault-renamed c e (Call object op actuals) h =
        let name : OpName = record { object = object; op = op } in
        let k : call_fault c (find (offers_it name) calls) actuals ≡ None = ap (λ z. call_fault c (find (offers_it name) z) actuals) (sym e) ∙ h in
        called c name actuals e (find (offers_it name) calls) refl k
    statement_fault-renamed c e (Work n) h = refl
    statement_fault-renamed c e (Put x) h = expressions-same others c (word x ∷ []) ∙ h

    pub block_fault-renamed : (c : Scope) → c.calls ≡ calls → (b : Statements) → block_fault c b ≡ None
        → block_fault (with_calls others c) (renamed means b) ≡ None
    block_fault-renamed c e End h = refl
    block_fault-renamed c e (Then first rest) h =
        let parts = or_else-none (statement_fault c first) (block_fault c rest) h in
        or_else-from _ _ (statement_fault-renamed c e first parts.0) (block_fault-renamed c e rest parts.1)

    pub branches_fault-renamed : (c : Scope) → c.calls ≡ calls → (bs : Branches) → branches_fault c bs ≡ None
        → branches_fault (with_calls others c) (renamed_branches means bs) ≡ None
    branches_fault-renamed c e Nothing h = refl
    branches_fault-renamed c e (Else b) h = block_fault-renamed c e b h
    branches_fault-renamed c e (When x b more) h =
        let parts = or_else-none (block_fault c b) (branches_fault c more) h in
        or_else-from _ _ (block_fault-renamed c e b parts.0) (branches_fault-renamed c e more parts.1)
