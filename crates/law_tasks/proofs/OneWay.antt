-- A script with the results in it has one way: two runs from the same variables with the same script are one run.
-- It is shown of scripts with anything behind them, so that a script's front tells the way through the first statements.
use Rattle.std.specs.Prelude.{◌≡◌, ℕ, zero, suc, ◌+◌, Bool, true, false, List, [], ◌∷◌, ◌++◌, drop, refl}
use Rattle.std.proofs.Common.{sym, ◌∙◌, ap, subst, append_assoc, append-nil}
use Rattle.seq_tree.specs.Names.{Name}
use Rattle.seq_tree.specs.Expressions.{Expression}
use Rattle.seq_tree.specs.Statements.{Statement, Statements, Branches, Null, Assign, If, For, ExitWhen, Call, Work, Put, End, Then, Nothing}
use Rattle.seq_tree.specs.Statements.{Else, When}
use Rattle.seq_tree.specs.Operations.{Operation, out_names}
use Rattle.seq_tree.specs.Variables.{Variables, reads, stored, targets}
use Rattle.seq_tree.specs.Values.{holds, handed}
use Rattle.seq_tree.specs.Dearest.{turn_count}
use Rattle.seq_tree.specs.Runs.{Action, Path, Callee, Plain, Protected, Asked, Unknown, silent, joined, turned, Followed, Turns, Called, Chosen}
use Rattle.seq_tree.specs.Runs.{RunStatement, RunBlock, RunBranch, RunBody, Run}
use Rattle.seq_tree.specs.Runs as runs
use Rattle.seq_tree.specs.declared.tree.Costs.{Costs}
use Rattle.seq_tree.specs.declared.tree.OpName.{OpName}
use Rattle.law_walks.proofs.Shared.Bodies.{Bodies, with_bodies}
use Rattle.std.proofs.lemmas.List.{append_cancel_left}

-- ways that are one where their scripts are fronts of one list
abbrev pub Agree : Path → Path → Type 0
Agree p q = (more others : List Action) → p.script ++ more ≡ q.script ++ others → p ≡ q

-- two that are given
given : (p q s : Path) → p ≡ s → q ≡ s → Agree p q
given p q s e f more others h = e ∙ sym f

-- a way begins with the first of two
begins_with : (l : Bool) (first : Path) (Next : Path → Type 0) (p : Path) → Followed l first Next p
    → (es : List Action) × (p.script ≡ first.script ++ es)
begins_with true first Next p h = ([], ap (λ q. q.script) h ∙ sym (append-nil first.script))
begins_with false first Next p h = (h.0.script, ap (λ q. q.script) h.2)

-- what follows one way
agree_next : (l : Bool) (first : Path) (Next Next' : Path → Type 0) (p q : Path) → ((r s : Path) → Next r → Next' s → Agree r s)
    → Followed l first Next p → Followed l first Next' q → Agree p q
agree_next true first Next Next' p q next h k more others e = h ∙ sym k
agree_next false first Next Next' p q next h k more others e =
    let left : p.script ++ more ≡ first.script ++ (h.0.script ++ more) = ap (λ r. r.script ++ more) h.2 ∙ append_assoc first.script h.0.script more in
    let right : q.script ++ others ≡ first.script ++ (k.0.script ++ others)
    = ap (λ r. r.script ++ others) k.2 ∙ append_assoc first.script k.0.script others in
    let rest : h.0.script ++ more ≡ k.0.script ++ others = append_cancel_left first.script _ _ (sym left ∙ e ∙ right) in
    h.2 ∙ ap (joined first) (next h.0 k.0 h.1 k.1 more others rest) ∙ sym k.2

-- one way and what follows it; the way may be changed in all but its script
agree_followed : (shape : Path → Path) (same : (x : Path) → (shape x).script ≡ x.script) (vars_of : Path → Variables) (Next Next' : Variables → Path
    → Type 0) (x x' p q : Path)
    → Agree x x' → ((w : Variables) (r s : Path) → Next w r → Next' w s → Agree r s)
    → Followed x.left (shape x) (Next (vars_of x)) p → Followed x'.left (shape x') (Next' (vars_of x')) q → Agree p q
agree_followed shape same vars_of Next Next' x x' p q one next h k more others e =
    let first = begins_with x.left (shape x) (Next (vars_of x)) p h in
    let second = begins_with x'.left (shape x') (Next' (vars_of x')) q k in
    let left : p.script ++ more ≡ x.script ++ (first.0 ++ more)
    = ap (λ es. es ++ more) (first.1 ∙ ap (λ es. es ++ first.0) (same x)) ∙ append_assoc x.script first.0 more in
    let right : q.script ++ others ≡ x'.script ++ (second.0 ++ others)
    = ap (λ es. es ++ others) (second.1 ∙ ap (λ es. es ++ second.0) (same x')) ∙ append_assoc x'.script second.0 others in
    let equal : x ≡ x' = one (first.0 ++ more) (second.0 ++ others) (sym left ∙ e ∙ right) in
    let k' : Followed x.left (shape x) (Next' (vars_of x)) q = subst (λ z. Followed z.left (shape z) (Next' (vars_of z)) q) (sym equal) k in
    agree_next x.left (shape x) (Next (vars_of x)) (Next' (vars_of x)) p q (next (vars_of x)) h k' more others e

agree_turns : (n at turn : ℕ) (name : Name) (Body Body' : Variables → Path → Type 0)
    → ((w : Variables) (r s : Path) → Body w r → Body' w s → Agree r s)
    → (vars : Variables) (p q : Path) → Turns n at turn name Body vars p → Turns n at turn name Body' vars q → Agree p q
agree_turns zero at turn name Body Body' one vars p q h k = given p q (silent 0 vars) h k
agree_turns (suc n) at turn name Body Body' one vars p q h k =
    agree_followed (turned turn) (λ x. refl) (λ x. drop 1 x.vars) (Turns n (suc at) turn name Body) (Turns n (suc at) turn name Body') h.0 k.0 p q
    (one ((name, at) ∷ vars) h.0 k.0 h.1 k.1) (λ w r s i j. agree_turns n (suc at) turn name Body Body' one w r s i j) h.2 k.2

agree_chosen : (b : Bool) (First First' Second Second' : Path → Type 0) (p q : Path) → ((r s : Path) → First r → First' s → Agree r s)
    → ((r s : Path) → Second r → Second' s → Agree r s)
    → Chosen b First Second p → Chosen b First' Second' q → Agree p q
agree_chosen true First First' Second Second' p q first second h k = first p q h k
agree_chosen false First First' Second Second' p q first second h k = second p q h k

-- the values of a leave behind an entry
abbrev left_values : Action → List ℕ
left_values (runs.Leave name values) = values
left_values _ = []

abbrev second_values : List Action → List ℕ
second_values [] = []
second_values (e ∷ []) = []
second_values (e ∷ f ∷ es) = left_values f

values_same : (name : OpName) (rs ss : List ℕ) (first : Action) (more others : List Action)
    → first ∷ runs.Leave name rs ∷ more ≡ first ∷ runs.Leave name ss ∷ others → rs ≡ ss
values_same name rs ss first more others e = ap second_values e

module _ (costs : Costs) (calls : Name → Name → Callee) (Body Body' : Bodies) (one : (o : Operation) (vars : Variables) (p q : Path) → Body o vars p
    → Body' o vars q → Agree p q) where
  agree_call : (name : OpName) (c : Callee) (actuals : List Expression) (vars : Variables) (p q : Path)
      → Called (with_bodies costs calls Body) name c actuals vars p → Called (with_bodies costs calls Body') name c actuals vars q → Agree p q
  agree_call name (Plain o) actuals vars p q h k more others e =
      let whole : Path → Path = λ b. record {
        script = b.script;
        left = false;
        vars = stored (targets o.sig.params actuals) (reads (out_names o.sig.params) b.vars) vars;
        low = costs.call + b.low;
        high = costs.call + b.high;
      } in
      let same : h.0 ≡ k.0 = one o _ h.0 k.0 h.1 k.1 more others (sym (ap (λ r. r.script ++ more) h.2) ∙ e ∙ ap (λ r. r.script ++ others) k.2) in
      h.2 ∙ ap whole same ∙ sym k.2
  agree_call name (Protected params) actuals vars p q h k more others e =
      let whole : List ℕ → Path = λ results. record {
        script = runs.Enter name (handed params actuals vars) ∷ runs.Leave name results ∷ [];
        left = false;
        vars = stored (targets params actuals) results vars;
        low = costs.call;
        high = costs.call;
      } in
      let scripts : (whole h.0).script ++ more ≡ (whole k.0).script ++ others
      = sym (ap (λ r. r.script ++ more) h.2) ∙ e ∙ ap (λ r. r.script ++ others) k.2 in
      let same : h.0 ≡ k.0 = values_same name h.0 k.0 (runs.Enter name (handed params actuals vars)) more others scripts in
      h.2 ∙ ap whole same ∙ sym k.2
  agree_call name Asked actuals vars p q h k more others e = given p q _ h k more others e
  agree_call name Unknown actuals vars p q h k more others e = absurd h

  mutual
    agree_statement : (s : Statement) (vars : Variables) (p q : Path) → RunStatement (with_bodies costs calls Body) s vars p
        → RunStatement (with_bodies costs calls Body') s vars q → Agree p q
    agree_statement Null vars p q h k = given p q _ h k
    agree_statement (Assign target v) vars p q h k = given p q _ h k
    agree_statement (If branches) vars p q h k = agree_branches branches vars p q h k
    agree_statement (For name low high body) vars p q h k =
        agree_turns (turn_count low high) low costs.turn name _ _ (λ w r s i j. agree_block body w r s i j) vars p q h k
    agree_statement (ExitWhen condition) vars p q h k = given p q _ h k
    agree_statement (Call unit op actuals) vars p q h k = agree_call (record { object = unit; op = op }) (calls unit op) actuals vars p q h k
    agree_statement (Work ticks) vars p q h k = given p q _ h k
    agree_statement (Put v) vars p q h k = given p q _ h k

    pub agree_block : (b : Statements) (vars : Variables) (p q : Path) → RunBlock (with_bodies costs calls Body) b vars p
        → RunBlock (with_bodies costs calls Body') b vars q → Agree p q
    agree_block End vars p q h k = given p q _ h k
    agree_block (Then first rest) vars p q h k =
        agree_followed (λ x. x) (λ x. refl) (λ x. x.vars) (RunBlock (with_bodies costs calls Body) rest)
        (RunBlock (with_bodies costs calls Body') rest) h.0 k.0 p q
        (agree_statement first vars h.0 k.0 h.1 k.1) (λ w r s i j. agree_block rest w r s i j) h.2 k.2

    agree_branches : (b : Branches) (vars : Variables) (p q : Path) → RunBranch (with_bodies costs calls Body) b vars p
        → RunBranch (with_bodies costs calls Body') b vars q → Agree p q
    agree_branches Nothing vars p q h k = given p q _ h k
    agree_branches (Else block) vars p q h k = agree_block block vars p q h k
    agree_branches (When condition block others) vars p q h k =
        agree_next false (silent costs.test vars) _ _ p q
        (λ r s i j. agree_chosen (holds condition vars) _ _ _ _ r s (λ r s i j. agree_block block vars r s i j)
        (λ r s i j. agree_branches others vars r s i j) i j) h k

agree_body : (costs : Costs) (calls : Name → Name → Callee) (n m : ℕ) (o : Operation) (vars : Variables) (p q : Path) → RunBody costs calls n o vars p
    → RunBody costs calls m o vars q → Agree p q
agree_body costs calls zero m o vars p q h k = absurd h
agree_body costs calls (suc n) zero o vars p q h k = absurd k
agree_body costs calls (suc n) (suc m) o vars p q h k =
    agree_block costs calls (RunBody costs calls n) (RunBody costs calls m) (agree_body costs calls n m) o.block vars p q h k

-- two runs whose scripts are fronts of one list are one
pub one_run_front : (costs : Costs) (calls : Name → Name → Callee) (b : Statements) (vars : Variables) (p q : Path) → Run costs calls b vars p
    → Run costs calls b vars q → Agree p q
one_run_front costs calls b vars p q h k = agree_block costs calls (RunBody costs calls h.0) (RunBody costs calls k.0)
    (agree_body costs calls h.0 k.0) b vars p q h.1 k.1

-- two runs with one script are one: their variables and their ticks too
pub one_run : (costs : Costs) (calls : Name → Name → Callee) (b : Statements) (vars : Variables) (p q : Path) → Run costs calls b vars p
    → Run costs calls b vars q → p.script ≡ q.script → p ≡ q
one_run costs calls b vars p q h k e = one_run_front costs calls b vars p q h k [] [] (ap (λ es. es ++ []) e)
