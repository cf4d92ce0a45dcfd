-- Lists of statements and arms from a place on, and answers that stand for others.
use Rattle.std.proofs.Common.{◌≡◌, ◌<◌, ◌≤◌, ◌+◌, ◌-◌, ℕ, List, [], ◌∷◌, Result, Ok, Err, IfOk, OnOk, length, map, drop, get_or, refl, ap, ◌∙◌, arith}
use Rattle.std.proofs.lemmas.List.{drop_all}
use Rattle.std.proofs.Math.Seq.{drop-length}
use Rattle.seq_tree.specs.Statements.{Branches, End, Then, When}
use Rattle.seq_tree.specs.Trees.{arm_of, block_of, branches_of, expression_of, statement_of, statements_of}
use Rattle.seq_tree.specs.declared.tree.Arm.{Arm}
use Rattle.seq_tree.specs.declared.tree.Stmt.{Stmt}
use Rattle.seq_tree.proofs.Shared.LoopSteps.{drop_step}
use Rattle.seq_tree.proofs.Shared.TreeForms.{arm-tree}

pub if_ok : {A E : Type 0} (r : Result A E) (P Q : A → Type 0) → ((x : A) → P x → Q x) → IfOk r P → IfOk r Q
if_ok (Ok x) P Q f h = f x h
if_ok (Err e) P Q f h = h

pub on_ok_given : {A E P : Type 0} (r : Result A E) → P → OnOk r P
on_ok_given (Ok x) p = p
on_ok_given (Err e) p = tt

-- a list of no item
pub empty_of : {A : Type 0} (xs : List A) → length xs ≡ 0 → xs ≡ []
empty_of [] e = refl
empty_of (x ∷ xs) e = absurd (omega (arith, e))

pub one_on : (at : ℕ) → 0 < at → (at - 1) + 1 ≡ at
one_on at some = omega (arith, some)

pub arms_step : (xs : List Arm) (at : ℕ) (x : Arm) (bs : Branches) → 0 < at → at ≤ length xs → x ≡ get_or xs (at - 1) x
    → branches_of (map arm_of (drop (at - 1) xs)) bs ≡ When (expression_of x.cond) (block_of x.block) (branches_of (map arm_of (drop at xs)) bs)
arms_step xs at x bs some within is =
    ap (λ z. branches_of (map arm_of z) bs) (drop_step xs (at - 1) x (omega (arith, some, within)) is)
    ∙ ap (λ a. When a.0 a.1 (branches_of (map arm_of (drop ((at - 1) + 1) xs)) bs)) (arm-tree x)
    ∙ ap (λ k. When (expression_of x.cond) (block_of x.block) (branches_of (map arm_of (drop k xs)) bs)) (one_on at some)

pub stmts_step : (xs : List Stmt) (at : ℕ) (x : Stmt) → 0 < at → at ≤ length xs → x ≡ get_or xs (at - 1) x
    → statements_of (map statement_of (drop (at - 1) xs)) ≡ Then (statement_of x) (statements_of (map statement_of (drop at xs)))
stmts_step xs at x some within is =
    ap (λ z. statements_of (map statement_of z)) (drop_step xs (at - 1) x (omega (arith, some, within)) is)
    ∙ ap (λ k. Then (statement_of x) (statements_of (map statement_of (drop k xs)))) (one_on at some)

pub arms_none : (xs : List Arm) (bs : Branches) → branches_of (map arm_of (drop (length xs) xs)) bs ≡ bs
arms_none xs bs = ap (λ z. branches_of (map arm_of z) bs) (drop-length xs)

pub stmts_none : (xs : List Stmt) (n : ℕ) → length xs ≤ n → statements_of (map statement_of (drop n xs)) ≡ End
stmts_none xs n most = ap (λ z. statements_of (map statement_of z)) (drop_all n xs most)
