-- Calls that are added one after another, those that are written among them, and that what is found at the end are the different calls.
use Rattle.std.proofs.Common.{◌≡◌, Bool, true, false, not, ◌&&◌, ◌||◌, List, [], ◌∷◌, ◌++◌, cond, refl, ap, sym, ◌∙◌, append-nil}
use Rattle.std.specs.Prelude.{filter, map, if◌then◌else◌}
use Rattle.std.specs.List.{list_any}
use Rattle.std.proofs.lemmas.List.Folds.{list_any-append}
use Rattle.std.proofs.lemmas.Slice.Eq.{bytes_eq-Decides}
use Rattle.std.proofs.lemmas.Bool.{and_parts}
use Rattle.seq_tree.specs.Names.{same_name}
use Rattle.seq_tree.specs.Expressions.{Expression}
use Rattle.seq_tree.specs.Statements.{Statement, Statements, Branches, Null, Assign, If, For, ExitWhen, Call, Work, Put, End, Then}
use Rattle.seq_tree.specs.Statements.{Nothing, Else, When}
use Rattle.seq_tree.specs.Calls.{block_calls, branch_calls, same_op, statement_calls}
use Rattle.seq_tree.specs.Trees.{branches_of}
use Rattle.seq_tree.specs.declared.tree.OpName.{OpName}
use Rattle.seq_cost.specs.Different.{call_of, different}
use Rattle.seq_cost.specs.Gathered.{block_gathered, branch_gathered, statement_gathered}
use Rattle.seq_cost.specs.declared.written.Call as code
use Rattle.seq_cost.specs.declared.written.Gathered.{Gathered}
use Rattle.seq_cost.specs.declared.written.Gathered.TheVariants.{Written}

-- what was found, with this call where it isn't among it
abbrev pub with_call : List OpName → OpName → List OpName
with_call found call = if list_any (λ f. same_op f call) found then found else found ++ call ∷ []

-- what was found, with these calls
abbrev pub with_calls : List OpName → List OpName → List OpName
with_calls found [] = found
with_calls found (c ∷ cs) = with_calls (with_call found c) cs

pub joined : {A : Type 0} (xs ys zs : List A) → xs ++ (ys ++ zs) ≡ (xs ++ ys) ++ zs
joined [] ys zs = refl
joined (x ∷ xs) ys zs = ap (λ l. x ∷ l) (joined xs ys zs)

-- the calls of an `else` come after those of the arms
pub branch-append : (how : Gathered) (arms : List (Expression × Statements)) (others : Branches)
    → branch_gathered how (branches_of arms others) ≡ branch_gathered how (branches_of arms Nothing) ++ branch_gathered how others
branch-append how [] others = refl
branch-append how (arm ∷ arms) others = ap (λ l. block_gathered how arm.1 ++ l) (branch-append how arms others)
    ∙ joined (block_gathered how arm.1) (branch_gathered how (branches_of arms Nothing)) (branch_gathered how others)

-- those that are gathered as they are written
mutual
  written-statement : (s : Statement) → statement_gathered Written s ≡ statement_calls s
  written-statement Null = refl
  written-statement (Assign target e) = refl
  written-statement (If branches) = written-branches branches
  written-statement (For name low high body) = written-block body
  written-statement (ExitWhen condition) = refl
  written-statement (Call object op actuals) = refl
  written-statement (Work ticks) = refl
  written-statement (Put e) = refl

  pub written-block : (b : Statements) → block_gathered Written b ≡ block_calls b
  written-block End = refl
  written-block (Then first rest) = rw (written-statement first, written-block rest) refl

  written-branches : (b : Branches) → branch_gathered Written b ≡ branch_calls b
  written-branches Nothing = refl
  written-branches (Else block) = written-block block
  written-branches (When condition block others) = rw (written-block block, written-branches others) refl

-- whether a call is not among those that were found
abbrev is_new : List OpName → OpName → Bool
is_new found call = not (list_any (λ f. same_op f call) found)

kept_both : {A : Type 0} (a b : Bool) (x : A) (p : A → Bool) (rest both : List A) → p x ≡ b → filter p rest ≡ both
    → filter p (cond a (x ∷ rest) rest) ≡ cond (a && b) (x ∷ both) both
kept_both true true x p rest both e h = rw (e, h) refl
kept_both true false x p rest both e h = rw (e, h) refl
kept_both false b x p rest both e h = h

filter-both : {A : Type 0} (p q : A → Bool) (xs : List A) → filter p (filter q xs) ≡ filter (λ x. q x && p x) xs
filter-both p q [] = refl
filter-both p q (x ∷ xs) = kept_both (q x) (p x) x p (filter q xs) (filter (λ y. q y && p y) xs) refl (filter-both p q xs)

filter-same : {A : Type 0} (p q : A → Bool) (xs : List A) → ((x : A) → p x ≡ q x) → filter p xs ≡ filter q xs
filter-same p q [] same = refl
filter-same p q (x ∷ xs) same = rw (same x, filter-same p q xs same) refl

-- what is among the calls found, the same call is too
any-same : (found : List OpName) (c d : OpName) → same_op c d ≡ true → list_any (λ f. same_op f d) found ≡ list_any (λ f. same_op f c) found
any-same found c d e =
    let parts = and_parts (same_name c.object d.object) (same_name c.op d.op) e in
    ap (λ o. list_any (λ f. same_name f.object o && same_name f.op d.op) found) (sym ((bytes_eq-Decides c.object d.object).0 parts.0))
    ∙ ap (λ o. list_any (λ f. same_name f.object c.object && same_name f.op o) found) (sym ((bytes_eq-Decides c.op d.op).0 parts.1))

old_step : (same among : Bool) → (same ≡ true → among ≡ true) → (not same && not among) ≡ not among
old_step true among h = rw (h refl) refl
old_step false among h = refl

new_step : (among same : Bool) → not (among || (same || false)) ≡ (not same && not among)
new_step true true = refl
new_step true false = refl
new_step false true = refl
new_step false false = refl

-- what is found at the end: what was found, and of the different calls those that are not among it
abbrev GathersAll : List OpName → Type 0
GathersAll cs = (found : List OpName) → with_calls found cs ≡ found ++ filter (is_new found) (different cs)

with-more : (found : List OpName) (c : OpName) (cs : List OpName) (among : Bool) → list_any (λ f. same_op f c) found ≡ among → GathersAll cs
    → with_calls found (c ∷ cs) ≡ found ++ filter (is_new found) (different (c ∷ cs))
with-more found c cs true e gathers =
    let same : filter (is_new found) (filter (λ other. not (same_op c other)) (different cs)) ≡ filter (is_new found) (different cs) =
    filter-both (is_new found) (λ other. not (same_op c other)) (different cs)
    ∙ filter-same (λ x. not (same_op c x) && is_new found x) (is_new found) (different cs)
    (λ x. old_step (same_op c x) (list_any (λ f. same_op f x) found) (λ h. any-same found c x h ∙ e)) in
    rw (e, same) (gathers found)
with-more found c cs false e gathers =
    let fewer : filter (is_new (found ++ c ∷ [])) (different cs) ≡ filter (is_new found) (filter (λ other. not (same_op c other)) (different cs)) =
    filter-same (is_new (found ++ c ∷ [])) (λ x. not (same_op c x) && is_new found x) (different cs)
    (λ x. ap not (list_any-append (λ f. same_op f x) found (c ∷ [])) ∙ new_step (list_any (λ f. same_op f x) found) (same_op c x))
    ∙ sym (filter-both (is_new found) (λ other. not (same_op c other)) (different cs)) in
    rw e (gathers (found ++ c ∷ []) ∙ ap (λ l. (found ++ c ∷ []) ++ l) fewer ∙ sym
    (joined found (c ∷ []) (filter (is_new found) (filter (λ other. not (same_op c other)) (different cs)))))

with-different : (cs : List OpName) → GathersAll cs
with-different [] = λ found. sym (append-nil found)
with-different (c ∷ cs) = λ found. with-more found c cs (list_any (λ f. same_op f c) found) refl (with-different cs)

all-new : (cs : List OpName) → filter (λ c. true) cs ≡ cs
all-new [] = refl
all-new (c ∷ cs) = ap (λ l. c ∷ l) (all-new cs)

-- where nothing was found before, the different calls
pub all-different : (cs : List OpName) → with_calls [] cs ≡ different cs
all-different cs = with-different cs [] ∙ all-new (different cs)

-- a call that was pushed
pub pushed : (found : List code.Call) (c : code.Call) → map call_of (found ++ c ∷ []) ≡ map call_of found ++ call_of c ∷ []
pushed [] c = refl
pushed (d ∷ found) c = ap (λ l. call_of d ∷ l) (pushed found c)

pub ruleset gathering_laws = (append-nil, pushed)
