-- Calls that are listed one after another: the item at an index with those behind it.
-- They are joined from the left, as they are added.
use Rattle.std.proofs.Common.{◌≡◌, ℕ, ◌+◌, ◌<◌, Bool, true, false, ◌||◌, List, [], ◌∷◌, ◌++◌, append-nil, length, drop, map, get_or, refl, ap, sym, ◌∙◌}
use Rattle.std.specs.List.{list_any}
use Rattle.std.proofs.lemmas.List.Folds.{list_any-append}
use Rattle.seq_tree.specs.Calls.{same_op}
use Rattle.seq_tree.specs.Expressions.{Expression}
use Rattle.seq_tree.specs.Statements.{Statements, Branches, Nothing}
use Rattle.seq_tree.specs.Trees.{arm_of, branches_of, statement_of, statements_of}
use Rattle.seq_tree.specs.declared.tree.Arm.{Arm}
use Rattle.seq_tree.specs.declared.tree.OpName.{OpName}
use Rattle.seq_tree.specs.declared.tree.Stmt.{Stmt}
use Rattle.seq_tree.proofs.Shared.LoopSteps.{drop_step}
use Rattle.seq_cost.specs.Different.{call_of}
use Rattle.seq_cost.specs.declared.written.Call.{Call}
use Rattle.call_graph.specs.Listed.{block_listed, branch_listed, listed_all, listed_more, statement_listed}

pub joined : {A : Type 0} (xs ys zs : List A) → xs ++ (ys ++ zs) ≡ (xs ++ ys) ++ zs
joined [] ys zs = refl
joined (x ∷ xs) ys zs = ap (λ l. x ∷ l) (joined xs ys zs)

-- the calls of an `else` come behind those of the arms
pub branch-append : (twice : Bool) (all : List OpName) (arms : List (Expression × Statements)) (others : Branches)
    → branch_listed twice all (branches_of arms others) ≡ branch_listed twice (branch_listed twice all (branches_of arms Nothing)) others
branch-append twice all [] others = refl
branch-append twice all (arm ∷ arms) others = branch-append twice (listed_all (λ n. false) all (block_listed twice arm.1)) arms others

-- calls that were pushed, once and twice
pub pushed : (found : List Call) (c : Call) → map call_of (found ++ c ∷ []) ≡ map call_of found ++ call_of c ∷ []
pushed [] c = refl
pushed (d ∷ found) c = ap (λ l. call_of d ∷ l) (pushed found c)

pub pushed-twice : (found : List Call) (c : Call) → map call_of ((found ++ c ∷ []) ++ c ∷ []) ≡ map call_of found ++ call_of c ∷ call_of c ∷ []
pushed-twice [] c = refl
pushed-twice (d ∷ found) c = ap (λ l. call_of d ∷ l) (pushed-twice found c)

-- the calls of the statement at an index come before those of the later ones
pub statement_step : (twice : Bool) (ss : List Stmt) (i : ℕ) (s : Stmt) → i < length ss → s ≡ get_or ss i s →
    block_listed twice (statements_of (map statement_of (drop i ss))) ≡ statement_listed twice (statement_of s)
    ++ block_listed twice (statements_of (map statement_of (drop (i + 1) ss)))
statement_step twice ss i s inside at = ap (λ xs. block_listed twice (statements_of (map statement_of xs))) (drop_step ss i s inside at)

-- those of the arm at an index are behind those of the earlier ones, and before those of the later ones
pub arm_step : (twice : Bool) (all : List OpName) (arms : List Arm) (i : ℕ) (arm : Arm) → i < length arms → arm ≡ get_or arms i arm →
    branch_listed twice all (branches_of (map arm_of (drop i arms)) Nothing)
    ≡ branch_listed twice (listed_all (λ n. false) all (block_listed twice (arm_of arm).1)) (branches_of (map arm_of (drop (i + 1) arms)) Nothing)
arm_step twice all arms i arm inside at = ap (λ xs. branch_listed twice all (branches_of (map arm_of xs) Nothing)) (drop_step arms i arm inside at)

-- functions with the same values are one
by_values : {A B : Type 0} {f g : A → B} → ((a : A) → f a ≡ g a) → f ≡ g
by_values same = λ i a. same a i

-- a call more of a branch, which was not seen by then and now is
pub call_step : (old new : OpName → Bool) (all more : List OpName) (c : OpName) (cs : List OpName) (whole : List OpName)
    → ((n : OpName) → new n ≡ (same_op c n || old n)) → more ≡ listed_more old all c → listed_all old all (c ∷ cs) ≡ whole
    → listed_all new more cs ≡ whole
call_step old new all more c cs whole is added was =
    ap (λ (f : OpName → Bool). listed_all f more cs) (by_values is) ∙ ap (λ (l : List OpName). listed_all (λ n. same_op c n || old n) l cs) added ∙ was

-- nothing was seen at first
pub none_seen : (old : OpName → Bool) (all cs : List OpName) → ((n : OpName) → old n ≡ false)
    → listed_all old all cs ≡ listed_all (λ n. false) all cs
none_seen old all cs is = ap (λ (f : OpName → Bool). listed_all f all cs) (by_values is)

-- the set of what is listed, with a call more
or-turned : (a b : Bool) → (a || b) ≡ (b || (a || false))
or-turned true true = refl
or-turned true false = refl
or-turned false true = refl
or-turned false false = refl

pub names_step : (op n : OpName) (all : List OpName) (after before : Bool) → after ≡ (same_op op n || before)
    → before ≡ list_any (λ d. same_op d n) all → after ≡ list_any (λ d. same_op d n) (all ++ op ∷ [])
names_step op n all after before put was =
    put ∙ ap (λ b. same_op op n || b) was ∙ or-turned (same_op op n) (list_any (λ d. same_op d n) all)
    ∙ sym (list_any-append (λ d. same_op d n) all (op ∷ []))

pub ruleset listed_steps = (append-nil, pushed, pushed-twice)
