-- The bodies of a program that meets the rules are fit: their calls lead somewhere, their exits stand in loops, and each `work` takes a
-- tick at least.
use Rattle.std.specs.Prelude.{◌≡◌, ℕ, zero, suc, ◌≤◌, false, not, ◌&&◌, List, [], ◌∷◌, ◌++◌, find, flat_map, slice_get, nat_lt, Option, Some}
use Rattle.std.specs.Prelude.{None, refl}
use Rattle.std.specs.List.{list_any}
use Rattle.std.proofs.Common.{sym, ◌∙◌, subst, arith}
use Rattle.std.proofs.lemmas.List.Folds.{list_any-append}
use Rattle.seq_tree.specs.Limits.{tick_limit}
use Rattle.seq_tree.specs.Names.{Name, same_name}
use Rattle.seq_tree.specs.Expressions.{Expression}
use Rattle.seq_tree.specs.Statements.{Statement, Statements, Branches, Null, Assign, If, For, ExitWhen, Call, Work, Put, End, Then, Nothing}
use Rattle.seq_tree.specs.Statements.{Else, When}
use Rattle.seq_tree.specs.Operations.{Offer}
use Rattle.seq_tree.specs.Calls.{statement_works, block_works, branch_works}
use Rattle.seq_tree.specs.Faults.{Scope, BodyFault, Exit, within_loop, offer_of, call_fault, statement_fault, block_fault, branches_fault}
use Rattle.ada_tree.specs.Programs.{Form, Unit, Program}
use Rattle.ada_tree.specs.Bodies.{Body, bodies, bodies_fault, unit_fault, scope, offers}
use Rattle.ada_tree.specs.Ranges.{is_outside, breaks_ranges}
use Rattle.ada_tree.specs.Rules.{Bodies, Ranges, At, MeetsRules}
use Rattle.law_tasks.proofs.Shared.Courses.{FitStatement, FitBlock, FitBranches}
use Rattle.std.proofs.lemmas.Option.{none-some}
use Rattle.std.proofs.lemmas.Bool.{false_from_ne_true, or_parts, not-false}
use Rattle.law_lists.proofs.Shared.Facts.{or_else-none, no-fault}

-- numbers of `work`
abbrev AreWithin : List ℕ → Type 0
AreWithin ns = list_any (is_outside 1 tick_limit) ns ≡ false

within_parts : (ns ms : List ℕ) → AreWithin (ns ++ ms) → AreWithin ns × AreWithin ms
within_parts ns ms e = or_parts (list_any (is_outside 1 tick_limit) ns) _ (sym (list_any-append (is_outside 1 tick_limit) ns ms) ∙ e)

some_work : (n : ℕ) → AreWithin (n ∷ []) → 1 ≤ n
some_work n e = let h : nat_lt n 1 ≡ false = (or_parts _ _ (or_parts (is_outside 1 tick_limit n) _ e).0).0 in grind arith

-- a call that is offered
abbrev IsOffered : (Name → Name → Type 0) → Scope → Type 0
IsOffered Good c = (unit op : Name) (o : Offer) → offer_of c unit op ≡ Some o → Good unit op

offered_call : (Good : Name → Name → Type 0) (c : Scope) → IsOffered Good c → (unit op : Name) (actuals : List Expression) (o : Option Offer)
    → offer_of c unit op ≡ o
    → call_fault c o actuals ≡ None → Good unit op
offered_call Good c known unit op actuals None e f = absurd (none-some _ (sym f))
offered_call Good c known unit op actuals (Some o) e f = known unit op o e

mutual
  fit_statement : (Good : Name → Name → Type 0) (c : Scope) → IsOffered Good c → (s : Statement) → statement_fault c s ≡ None
      → AreWithin (statement_works s) → FitStatement Good c.in_loop s
  fit_statement Good c known Null e w = tt
  fit_statement Good c known (Assign target v) e w = tt
  fit_statement Good c known (If branches) e w = fit_branches Good c known branches (or_else-none _ _ e).1 w
  fit_statement Good c known (For name low high body) e w = fit_block Good (within_loop c name) known body e w
  fit_statement Good c known (ExitWhen condition) e w = not-false c.in_loop (no-fault (not c.in_loop) Exit (or_else-none _ _ e).1)
  fit_statement Good c known (Call unit op actuals) e w = offered_call Good c known unit op actuals (offer_of c unit op) refl e
  fit_statement Good c known (Work n) e w = some_work n w
  fit_statement Good c known (Put v) e w = tt

  pub fit_block : (Good : Name → Name → Type 0) (c : Scope) → IsOffered Good c → (b : Statements) → block_fault c b ≡ None → AreWithin (block_works b)
      → FitBlock Good c.in_loop b
  fit_block Good c known End e w = tt
  fit_block Good c known (Then first rest) e w =
      let es = or_else-none (statement_fault c first) (block_fault c rest) e in
      let ws = within_parts (statement_works first) (block_works rest) w in
      (fit_statement Good c known first es.0 ws.0, fit_block Good c known rest es.1 ws.1)

  fit_branches : (Good : Name → Name → Type 0) (c : Scope) → IsOffered Good c → (b : Branches) → branches_fault c b ≡ None
      → AreWithin (branch_works b) → FitBranches Good c.in_loop b
  fit_branches Good c known Nothing e w = tt
  fit_branches Good c known (Else block) e w = fit_block Good c known block e w
  fit_branches Good c known (When condition block others) e w =
      let es = or_else-none (block_fault c block) (branches_fault c others) e in
      let ws = within_parts (block_works block) (branch_works others) w in
      (fit_block Good c known block es.0 ws.0, fit_branches Good c known others es.1 ws.1)

-- one of the bodies of a unit
no_body_fault : (p : Program) (f : Form) (bs : List Body) (j : ℕ) (b : Body) → bodies_fault p f bs ≡ None → slice_get bs j ≡ Some b
    → block_fault (scope p f b) b.block ≡ None
no_body_fault p f [] j b e at = absurd (none-some b at)
no_body_fault p f (z ∷ bs) zero b e at =
    let same : z ≡ b = cc in
    subst (λ x. block_fault (scope p f x) x.block ≡ None) same (or_else-none _ _ e).0
no_body_fault p f (z ∷ bs) (suc j) b e at = no_body_fault p f bs j b (or_else-none (block_fault (scope p f z) z.block) _ e).1 at

body_works : (bs : List Body) (j : ℕ) (b : Body) → AreWithin (flat_map (λ b. block_works b.block) bs) → slice_get bs j ≡ Some b
    → AreWithin (block_works b.block)
body_works [] j b e at = absurd (none-some b at)
body_works (z ∷ bs) zero b e at =
    let same : z ≡ b = cc in
    subst (λ x. AreWithin (block_works x.block)) same (within_parts (block_works z.block) _ e).0
body_works (z ∷ bs) (suc j) b e at = body_works bs j b (within_parts (block_works z.block) _ e).1 at

module _ (p : Program) (meets : MeetsRules p) where
  no_unit_fault : (i : ℕ) (u : Unit) → slice_get p.units i ≡ Some u → unit_fault p u ≡ None
  no_unit_fault i u at = by (unit_fault p u) refl
    where
      by : (o : Option BodyFault) → unit_fault p u ≡ o → unit_fault p u ≡ None
      by None e = e
      by (Some fault) e = absurd (meets Bodies (At i) (u, at, (fault, e)))

  unit_works : (i : ℕ) (u : Unit) → slice_get p.units i ≡ Some u → AreWithin (flat_map (λ b. block_works b.block) (bodies u.form))
  unit_works i u at = (or_parts _ _ (false_from_ne_true (breaks_ranges u) (λ breaks. meets Ranges (At i) (u, at, breaks)))).1

  -- the bodies of units
  pub body_fits : (Good : Name → Name → Type 0)
      → ((unit op : Name) (o : Offer) → find (λ o. same_name o.object unit && same_name o.sig.name op) (offers p) ≡ Some o → Good unit op)
      → (i : ℕ) (u : Unit) (j : ℕ) (b : Body) → slice_get p.units i ≡ Some u → slice_get (bodies u.form) j ≡ Some b → FitBlock Good false b.block
  body_fits Good known i u j b at at_body =
      fit_block Good (scope p u.form b) known b.block (no_body_fault p u.form (bodies u.form) j b (no_unit_fault i u at) at_body)
      (body_works (bodies u.form) j b (unit_works i u at) at_body)
