-- The names of the variables at the bottom of the stack: no step changes them.
use Rattle.std.proofs.Common.{◌≡◌, ℕ, suc, ◌+◌, ◌*◌, ◌≤◌, arith, Bool, true, false, List, [], ◌∷◌, length, drop, Option, Some, None, Ok, Err}
use Rattle.std.proofs.Common.{refl, ap, ◌∙◌, cond}
use Rattle.std.specs.Prelude.{is_some, nat_le, nat_lt}
use Rattle.seq_tree.specs.Names.{Name, same_name}
use Rattle.seq_tree.specs.Expressions.{Expression}
use Rattle.seq_tree.specs.Statements.{Statement, Statements, Branches, Null, Assign, If, For, ExitWhen, Call, Work, Put, End, Then, Nothing}
use Rattle.seq_tree.specs.Statements.{Else, When}
use Rattle.seq_tree.specs.Operations.{out_names}
use Rattle.seq_tree.specs.Values.{value, holds, handed}
use Rattle.seq_tree.specs.Variables.{Variables, write, reads, stored, targets}
use Rattle.seq_tree.specs.Runs.{Action, Callee, Plain, Protected, Asked, Unknown, request_value}
use Rattle.seq_tree.specs.declared.tree.Costs.{Costs}
use Rattle.seq_tree.specs.declared.tree.OpName.{OpName}
use Rattle.law_walks.specs.Walks.{sees_entry, sees_leave, sees_print, sees_request}
use Rattle.seq_eval.specs.Ends.{names_of}
use Rattle.seq_eval.specs.Stepping.{Doing, Rest, Arms, Turned, Returned, State, Step, spent, to_do, turning, turned_over, told_by}
use Rattle.seq_eval.specs.Stepping.{left_by, stored_by, called, begun, branched, done, passed_over, step_by, step}

names-write : (name : Name) (v : ℕ) (vars : Variables) → names_of (write name v vars) ≡ names_of vars
names-write name v [] = refl
names-write name v (x ∷ xs) = by (same_name name x.0) (names-write name v xs)
  where
    by : (b : Bool) → names_of (write name v xs) ≡ names_of xs → names_of (cond b ((x.0, v) ∷ xs) (x ∷ write name v xs)) ≡ names_of (x ∷ xs)
    by true others = refl
    by false others = ap (λ ns. x.0 ∷ ns) others

names-stored : (names : List Name) (values : List ℕ) (vars : Variables) → names_of (stored names values vars) ≡ names_of vars
names-stored [] values vars = refl
names-stored (n ∷ ns) [] vars = refl
names-stored (n ∷ ns) (v ∷ vs) vars = names-stored ns vs (write n v vars) ∙ names-write n v vars

-- the names at the bottom, where the body that runs has these
abbrev pub bottom : List Doing → List Name → List Name
bottom [] names = names
bottom (Rest block ∷ ds) names = bottom ds names
bottom (Arms branches ∷ ds) names = bottom ds names
bottom (Turned name at last body ∷ ds) names = bottom ds (drop 1 names)
bottom (Returned o actuals vars ∷ ds) names = bottom ds (names_of vars)

abbrev pub names_under : State → List Name
names_under s = bottom s.doings (names_of s.vars)

-- a step with these names below
abbrev pub NamesStay : List Name → Step → Type 0
NamesStay names (Ok t) = names_under t ≡ names
NamesStay names (Err left) = Unit {0}

names-drop : (vars : Variables) → names_of (drop 1 vars) ≡ drop 1 (names_of vars)
names-drop [] = refl
names-drop (x ∷ xs) = refl

told-names : (names : List Name) (sees : Action → Bool) (script : List Action) (s : State) (next : State → Step)
    → ((us : List Action) → NamesStay names (next (record s { script = us }))) → NamesStay names (told_by sees script s next)
told-names names sees [] s next h = tt
told-names names sees (a ∷ us) s next h = by (sees a)
  where
    by : (b : Bool) → NamesStay names (cond b (next (record s { script = us })) (Err (suc (length us))))
    by true = h us
    by false = tt

left-names : (costs : Costs) (name : OpName) (count : ℕ) (stores : List Name) (us : List Action) (s : State)
    → NamesStay (names_under s) (left_by costs name count stores us s)
left-names costs name count stores [] s = tt
left-names costs name count stores (a ∷ us) s = by (sees_leave name count a)
  where
    by : (o : Option (List ℕ)) → NamesStay (names_under s) (stored_by costs stores o us s)
    by None = tt
    by (Some results) = ap (bottom s.doings) (names-stored stores results s.vars)

called-names : (costs : Costs) (name : OpName) (c : Callee) (actuals : List Expression) (s : State)
    → NamesStay (names_under s) (called costs name c actuals s)
called-names costs name (Plain o) actuals s = refl
called-names costs name (Protected params) actuals s =
    told-names (names_under s) (λ a. is_some (sees_entry name (handed params actuals s.vars) a)) s.script s
    (λ t. left_by costs name (length (out_names params)) (targets params actuals) t.script t)
    (λ us. left-names costs name (length (out_names params)) (targets params actuals) us (record s { script = us }))
called-names costs name Asked actuals s =
    told-names (names_under s) (λ a. is_some (sees_request name (request_value actuals s.vars) a)) s.script s
    (λ t. Ok (spent (costs.call + 2 * costs.assign) (costs.call + 2 * costs.assign) t)) (λ us. refl)
called-names costs name Unknown actuals s = tt

turning-names : (b : Bool) (name : Name) (at last : ℕ) (body : Statements) (s : State)
    → names_under (cond b (turning name at last body s) s) ≡ names_under s
turning-names true name at last body s = refl
turning-names false name at last body s = refl

begun-names : (costs : Costs) (calls : Name → Name → Callee) (st : Statement) (s : State) → NamesStay (names_under s) (begun costs calls st s)
begun-names costs calls Null s = refl
begun-names costs calls (Assign target e) s = ap (bottom s.doings) (names-write target (value e s.vars) s.vars)
begun-names costs calls (If branches) s = refl
begun-names costs calls (For name at last body) s = turning-names (nat_le at last) name at last body s
begun-names costs calls (ExitWhen condition) s = refl
begun-names costs calls (Call object op actuals) s = called-names costs (record { object = object; op = op }) (calls object op) actuals s
begun-names costs calls (Work ticks) s = refl
begun-names costs calls (Put e) s =
    told-names (names_under s) (λ a. is_some (sees_print (value e s.vars) a)) s.script s (λ t. Ok (spent costs.put costs.put t)) (λ us. refl)

chosen-names : (b : Bool) (block : Statements) (others : Branches) (ds : List Doing) (names : List Name)
    → bottom (cond b (Rest block) (Arms others) ∷ ds) names ≡ bottom ds names
chosen-names true block others ds names = refl
chosen-names false block others ds names = refl

branched-names : (costs : Costs) (branches : Branches) (s : State) → names_under (branched costs branches s) ≡ names_under s
branched-names costs Nothing s = refl
branched-names costs (Else block) s = refl
branched-names costs (When condition block others) s = chosen-names (holds condition s.vars) block others s.doings (names_of s.vars)

turned-names : (costs : Costs) (s : State) → names_under (turned_over costs s) ≡ bottom s.doings (drop 1 (names_of s.vars))
turned-names costs s = ap (bottom s.doings) (names-drop s.vars)

done-names : (costs : Costs) (calls : Name → Name → Callee) (d : Doing) (s : State)
    → NamesStay (bottom (d ∷ s.doings) (names_of s.vars)) (done costs calls d s)
done-names costs calls (Rest End) s = refl
done-names costs calls (Rest (Then first more)) s = begun-names costs calls first (to_do (Rest more) s)
done-names costs calls (Arms branches) s = branched-names costs branches s
done-names costs calls (Turned name at last body) s =
    turning-names (nat_lt at last) name (at + 1) last body (turned_over costs s) ∙ turned-names costs s
done-names costs calls (Returned o actuals vars) s =
    ap (bottom s.doings) (names-stored (targets o.sig.params actuals) (reads (out_names o.sig.params) s.vars) vars)

over-names : (costs : Costs) (d : Doing) (s : State) → names_under (passed_over costs d s) ≡ bottom (d ∷ s.doings) (names_of s.vars)
over-names costs (Rest block) s = refl
over-names costs (Arms branches) s = refl
over-names costs (Turned name at last body) s = turned-names costs s
over-names costs (Returned o actuals vars) s =
    ap (bottom s.doings) (names-stored (targets o.sig.params actuals) (reads (out_names o.sig.params) s.vars) vars)

by-names : (leaving : Bool) (costs : Costs) (calls : Name → Name → Callee) (d : Doing) (s : State)
    → NamesStay (bottom (d ∷ s.doings) (names_of s.vars)) (step_by leaving costs calls d s)
by-names true costs calls d s = over-names costs d s
by-names false costs calls d s = done-names costs calls d s

-- a step keeps the names at the bottom
pub step-names : (costs : Costs) (calls : Name → Name → Callee) (d : Doing) (s : State)
    → NamesStay (bottom (d ∷ s.doings) (names_of s.vars)) (step costs calls d s)
step-names costs calls d s = by-names s.leaving costs calls d s

-- a step leaves no more actions than there were
abbrev pub Leaves : ℕ → Step → Type 0
Leaves n (Ok t) = length t.script ≤ n
Leaves n (Err left) = left ≤ n

same-many : (xs : List Action) → length xs ≤ length xs
same-many xs = omega arith

told-leaves : (sees : Action → Bool) (script : List Action) (s : State) (next : State → Step)
    → ((us : List Action) → length us ≤ length script → Leaves (length script) (next (record s { script = us })))
    → Leaves (length script) (told_by sees script s next)
told-leaves sees [] s next h = omega arith
told-leaves sees (a ∷ us) s next h = by (sees a)
  where
    by : (b : Bool) → Leaves (length (a ∷ us)) (cond b (next (record s { script = us })) (Err (suc (length us))))
    by true = h us (omega arith)
    by false = omega arith

left-leaves : (costs : Costs) (name : OpName) (count : ℕ) (stores : List Name) (us : List Action) (s : State) (n : ℕ) → length us ≤ n
    → Leaves n (left_by costs name count stores us s)
left-leaves costs name count stores [] s n le = omega arith
left-leaves costs name count stores (a ∷ us) s n le = by (sees_leave name count a)
  where
    by : (o : Option (List ℕ)) → Leaves n (stored_by costs stores o us s)
    by None = omega (arith, le)
    by (Some results) = omega (arith, le)

called-leaves : (costs : Costs) (name : OpName) (c : Callee) (actuals : List Expression) (s : State)
    → Leaves (length s.script) (called costs name c actuals s)
called-leaves costs name (Plain o) actuals s = same-many s.script
called-leaves costs name (Protected params) actuals s =
    told-leaves (λ a. is_some (sees_entry name (handed params actuals s.vars) a)) s.script s
    (λ t. left_by costs name (length (out_names params)) (targets params actuals) t.script t)
    (λ us le. left-leaves costs name (length (out_names params)) (targets params actuals) us (record s { script = us }) (length s.script) le)
called-leaves costs name Asked actuals s =
    told-leaves (λ a. is_some (sees_request name (request_value actuals s.vars) a)) s.script s
    (λ t. Ok (spent (costs.call + 2 * costs.assign) (costs.call + 2 * costs.assign) t)) (λ us le. le)
called-leaves costs name Unknown actuals s = same-many s.script

turning-leaves : (b : Bool) (name : Name) (at last : ℕ) (body : Statements) (s : State)
    → length (cond b (turning name at last body s) s).script ≤ length s.script
turning-leaves true name at last body s = same-many s.script
turning-leaves false name at last body s = same-many s.script

begun-leaves : (costs : Costs) (calls : Name → Name → Callee) (st : Statement) (s : State) → Leaves (length s.script) (begun costs calls st s)
begun-leaves costs calls Null s = same-many s.script
begun-leaves costs calls (Assign target e) s = same-many s.script
begun-leaves costs calls (If branches) s = same-many s.script
begun-leaves costs calls (For name at last body) s = turning-leaves (nat_le at last) name at last body s
begun-leaves costs calls (ExitWhen condition) s = same-many s.script
begun-leaves costs calls (Call object op actuals) s = called-leaves costs (record { object = object; op = op }) (calls object op) actuals s
begun-leaves costs calls (Work ticks) s = same-many s.script
begun-leaves costs calls (Put e) s =
    told-leaves (λ a. is_some (sees_print (value e s.vars) a)) s.script s (λ t. Ok (spent costs.put costs.put t)) (λ us le. le)

branched-leaves : (costs : Costs) (branches : Branches) (s : State) → length (branched costs branches s).script ≤ length s.script
branched-leaves costs Nothing s = same-many s.script
branched-leaves costs (Else block) s = same-many s.script
branched-leaves costs (When condition block others) s = same-many s.script

by-leaves : (leaving : Bool) (costs : Costs) (calls : Name → Name → Callee) (d : Doing) (s : State)
    → Leaves (length s.script) (step_by leaving costs calls d s)
by-leaves true costs calls (Rest block) s = same-many s.script
by-leaves true costs calls (Arms branches) s = same-many s.script
by-leaves true costs calls (Turned name at last body) s = same-many s.script
by-leaves true costs calls (Returned o actuals vars) s = same-many s.script
by-leaves false costs calls (Rest End) s = same-many s.script
by-leaves false costs calls (Rest (Then first more)) s = begun-leaves costs calls first (to_do (Rest more) s)
by-leaves false costs calls (Arms branches) s = branched-leaves costs branches s
by-leaves false costs calls (Turned name at last body) s = turning-leaves (nat_lt at last) name (at + 1) last body (turned_over costs s)
by-leaves false costs calls (Returned o actuals vars) s = same-many s.script

pub step-leaves : (costs : Costs) (calls : Name → Name → Callee) (d : Doing) (s : State) → Leaves (length s.script) (step costs calls d s)
step-leaves costs calls d s = by-leaves s.leaving costs calls d s
