-- Each call of a unit names an operation that is offered: its bodies have no fault.
use Rattle.std.proofs.Common.{◌≡◌, true, false, not, List, [], ◌∷◌, None, ap, subst, ◌∙◌, inl, inr, sym}
use Rattle.std.specs.List.{list_any}
use Rattle.seq_tree.specs.Calls.{block_calls}
use Rattle.seq_tree.specs.Faults.{block_fault}
use Rattle.seq_tree.specs.declared.tree.OpName.{OpName}
use Rattle.ods_tree.specs.Sound.{counted_calls}
use Rattle.ods_tree.specs.Designs.{Design}
use Rattle.ods_tree.specs.Flattening.{flat}
use Rattle.ada_tree.specs.Programs.{Form, Unit, Program}
use Rattle.ada_tree.specs.Bodies.{Body, bodies, scope, bodies_fault, unit_fault, offers}
use Rattle.ada_tree.specs.Naming.{is_there, calls_of}
use Rattle.analysis.specs.Ceilings.{Ranks}
use Rattle.guarantee.specs.Programs.{program_for}
use Rattle.design_rules.specs.Rules.{AreMet}
use Rattle.law_designs.proofs.Shared.Lists.{from-map, none-from}
use Rattle.law_designs.proofs.Renaming.{offers_it}
use Rattle.law_designs.proofs.Shapes.{counted_name, Right, calls-counted, calls-right}
use Rattle.law_designs.proofs.Shared.Offers.{Fitting}
use Rattle.law_designs.proofs.Shared.Units.{bodies-right}
use Rattle.law_lists.proofs.Shared.Facts.{or_else-none}
use Rattle.law_lists.proofs.Shared.Lists.{any-in, IsIn, in-some, found-in}

-- each body of those without a fault has none
each-faultless : (p : Program) (form : Form) (bs : List Body) → bodies_fault p form bs ≡ None → (b : Body) → IsIn b bs
    → block_fault (scope p form b) b.block ≡ None
each-faultless p form [] h b k = absurd k
each-faultless p form (c ∷ bs) h b (inl e) =
    ap (λ (z : Body). block_fault (scope p form z) z.block) (sym e) ∙
    (or_else-none (block_fault (scope p form c) c.block) (bodies_fault p form bs) h).0
each-faultless p form (c ∷ bs) h b (inr k)
    = each-faultless p form bs (or_else-none (block_fault (scope p form c) c.block) (bodies_fault p form bs) h).1 b k

pub calls-there : (p : Program) (u : Unit) → unit_fault p u ≡ None → list_any (λ c. not (is_there (offers p) c)) (calls_of u.form) ≡ false
calls-there p u h = none-from (λ c. not (is_there (offers p) c)) (calls_of u.form)
    (λ c k. at c (in-some (λ (b : Body). block_calls b.block) (bodies u.form) c k))
  where
    at : (c : OpName) → (b : Body) × IsIn b (bodies u.form) × IsIn c (block_calls b.block) → not (is_there (offers p) c) ≡ false
    at c (b, j, k) =
        let P : List OpName → Type 0 = λ z. IsIn c z in
        let q = from-map counted_name (counted_calls b.block) c (subst P (calls-counted b.block) k) in
        let right : Right (offers p) q.0 = calls-right (scope p u.form b) b.block (each-faultless p u.form (bodies u.form) h b j) q.0 q.1 in
        let at = found-in (offers_it (counted_name q.0)) (offers p) right.offer right.found in
        let there : is_there (offers p) (counted_name q.0) ≡ true = any-in (offers_it (counted_name q.0)) right.offer (offers p) at.0 at.1 in
        ap not (ap (is_there (offers p)) q.2 ∙ there)

pub program-calls-there : (written x : Design) → AreMet written x → (r : Ranks) → Fitting (flat x) r → (u : Unit)
    → IsIn u (program_for (flat x) r).units
    → list_any (λ c. not (is_there (offers (program_for (flat x) r)) c)) (calls_of u.form) ≡ false
program-calls-there written x met r fit u h = calls-there (program_for (flat x) r) u (bodies-right written x met r fit u h)
