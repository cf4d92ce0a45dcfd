-- What a task does from its pieces on, found from what it does after the effect of the first of them: one law for each act.
use Rattle.std.specs.Prelude.{◌≡◌, ℕ, suc, ◌+◌, ◌≤◌, Bool, true, false, List, [], ◌∷◌, ◌++◌, map, drop, nat_le, Option, if◌then◌else◌, refl}
use Rattle.std.proofs.Common.{sym, ◌∙◌, ap, subst, arith, append_assoc, inl, inr}
use Rattle.std.proofs.lemmas.List.{map-append}
use Rattle.seq_tree.specs.Names.{Name}
use Rattle.seq_tree.specs.Expressions.{Expression}
use Rattle.seq_tree.specs.Statements.{Statements}
use Rattle.seq_tree.specs.Variables.{Variables, write, reads, stored}
use Rattle.seq_tree.specs.Values.{value, holds}
use Rattle.seq_tree.specs.Runs.{Path, silent, joined}
use Rattle.seq_tree.specs.Runs as runs
use Rattle.seq_tree.specs.declared.tree.Datum.{Datum}
use Rattle.machine.specs.Systems.{CallTarget, Plain, Protected, Request, Unknown, callee}
use Rattle.machine.specs.Pieces.{Piece, Idle, Store, Leaving, Calling, Working, Printing, Testing, Turning, Turned, Returning, Closing, Keeping}
use Rattle.machine.specs.Pieces.{Opening, Requested, Finishing, pieces, branch_pieces, after_loop}
use Rattle.machine.specs.Deeds.{Act, Silent, Ask, Keep, Open, done, called, deed}
use Rattle.guarantee.specs.Events.{Deed, Leave, Request, Print}
use Rattle.guarantee.specs.Steps.{shown}
use Rattle.guarantee.specs.Steps as steps
use Rattle.law_tasks.proofs.Shared.Courses.{Course, IsApt, IsTicks, IsFitCallee, FitPieces}
use Rattle.law_tasks.proofs.Shared.Ways.{Within, outer, least, most, Claim, Either, Beneath, Ahead}
use Rattle.law_tasks.proofs.Shared.Depths.{within-append, outer-append, least-append, most-append}
use Rattle.law_tasks.proofs.Totals.{some_ways}
use Rattle.law_tasks.proofs.Moves.{Extends, left_way, move_leaving, move_staying, move_testing, move_turning, move_turned, move_plain, move_asking}
use Rattle.law_calls.proofs.Shared.Pieces.{Step, kind, in_loop, past_block, past_branches, past_loop}

-- what is under the pieces of a body doesn't depend on these
past_under : (c : Course) (Over : Claim) (x : Piece) (xs : List Piece) → kind x ≡ Step → Beneath c Over (x ∷ xs) ≡ Beneath c Over xs
past_under c Over (Closing object op data' outs stores caller) xs e = absurd (grind (arith, e))
past_under c Over Finishing xs e = absurd (grind (arith, e))
past_under c Over _ xs e = refl

pub under_block : (c : Course) (Over : Claim) (b : Statements) (rest : List Piece) → Beneath c Over (pieces b rest) ≡ Beneath c Over rest
under_block c Over = past_block (Beneath c Over) (past_under c Over)

under_loop : (c : Course) (Over : Claim) (rest : List Piece) → in_loop rest ≡ true → Beneath c Over (after_loop rest) ≡ Beneath c Over rest
under_loop c Over = past_loop (Beneath c Over) (past_under c Over) (λ name at last body xs. refl)

-- a way with its steps and ticks before what a task does
pub expand : (c : Course) (Under Under' : Claim) (vars vars' : Variables) (ps ps' : List Piece) (q : Path) (front ss : List steps.Step) (n ticks : ℕ)
    → Extends c q vars ps vars' ps' → Within 0 0 front → outer 0 front ≡ map shown q.script → q.low + least front ≤ n → n ≤ q.high + most front
    → Under' ≡ Under → Either c Under' vars' ps' ss ticks → Either c Under vars ps (front ++ ss) (n + ticks)
expand c Under Under' vars vars' ps ps' q front ss n ticks goes inside' shows low high same (inl h) = inl (record {
  way = joined q h.way;
  goes = goes h.way h.goes;
  inner = front ++ h.inner;
  later = h.later;
  parts = ap (λ xs. front ++ xs) h.parts ∙ sym (append_assoc front h.inner h.later);
  within = within-append 0 0 0 front h.inner inside' h.within;
  shows = outer-append 0 0 front h.inner inside' ∙ ap (λ ds. ds ++ outer 0 h.inner) shows ∙ ap (λ ds. map shown q.script ++ ds) h.shows
      ∙ sym (map-append shown q.script h.way.script);
  rest = h.rest;
  at_least = let e : least (front ++ h.inner) ≡ least front + least h.inner = least-append front h.inner in omega (arith, e, low, h.at_least);
  at_most = let e : most (front ++ h.inner) ≡ most front + most h.inner = most-append front h.inner in omega (arith, e, high, h.at_most);
  under = subst (λ P. P h.way.vars h.later h.rest) same h.under;
})
expand c Under Under' vars vars' ps ps' q front ss n ticks goes inside' shows low high same (inr h) = inr (record {
  may = h.may;
  way = joined q h.way;
  goes = goes h.way h.goes;
  script = q.script ++ h.script;
  more = h.more;
  begins = ap (λ es. q.script ++ es) h.begins ∙ sym (append_assoc q.script h.script h.more);
  depth = h.depth;
  within = within-append 0 0 h.depth front ss inside' h.within;
  shows = outer-append 0 0 front ss inside' ∙ ap (λ ds. ds ++ outer 0 ss) shows ∙ ap (λ ds. map shown q.script ++ ds) h.shows
      ∙ sym (map-append shown q.script h.script);
})

-- the end of the trace
pub ahead_cut : (c : Course) → IsApt c → c.MayCut → (Over : Claim) (vars : Variables) (ps : List Piece) (ticks : ℕ) → FitPieces c.Good ps
    → Ahead c Over vars ps [] ticks
ahead_cut c apt may Over vars ps ticks f =
    let found = some_ways c apt false ps f (λ e. absurd (grind (arith, e))) vars in
    inr (record {
      may = may;
      way = found.0;
      goes = found.1;
      script = [];
      more = found.0.script;
      begins = refl;
      depth = 0;
      within = refl;
      shows = refl;
    })

-- a piece that others don't see
quietly : (c : Course) (Over : Claim) (x : Piece) (rest : List Piece) (vars vars' : Variables) (ps : List Piece) (q : Path) (ss : List steps.Step)
    (n ticks : ℕ)
    → Extends c q vars (x ∷ rest) vars' ps → q.script ≡ [] → q.low ≤ n → n ≤ q.high → Beneath c Over ps ≡ Beneath c Over (x ∷ rest)
    → Ahead c Over vars' ps ss ticks → Ahead c Over vars (x ∷ rest) ss (n + ticks)
quietly c Over x rest vars vars' ps q ss n ticks goes e low high same h =
    expand c (Beneath c Over (x ∷ rest)) (Beneath c Over ps) vars vars' (x ∷ rest) ps q [] ss n ticks goes refl (ap (map shown) (sym e))
    (omega (arith, low)) (omega (arith, high)) same h

-- whether an act is one that others don't see
abbrev pub is_quiet : Act → Bool
is_quiet Silent = true
is_quiet (Ask task) = true
is_quiet (Keep task v) = true
is_quiet (Open task) = true
is_quiet _ = false

quiet_call : (c : Course) → IsApt c
    → (Over : Claim) (unit op : Name) (actuals : List Expression) (rest : List Piece) (vars : Variables) (ss : List steps.Step) (n ticks : ℕ)
    (k : CallTarget)
    → callee c.system unit op ≡ k → c.Good unit op → n ≡ c.system.costs.call → is_quiet ((called k actuals vars rest).act) ≡ true
    → Ahead c Over ((called k actuals vars rest).vars) ((called k actuals vars rest).pieces) ss ticks
    → Ahead c Over vars (Calling unit op actuals ∷ rest) ss (n + ticks)
quiet_call c apt Over unit op actuals rest vars ss n ticks (Plain o) leads good e quiet h =
    quietly c Over _ rest vars _ _ (silent c.system.costs.call vars) ss n ticks (move_plain c apt unit op actuals rest vars o leads) refl
    (omega (arith, e)) (omega (arith, e))
    (under_block c Over o.block _) h
quiet_call c apt Over unit op actuals rest vars ss n ticks (Protected object k g o) leads good e quiet h = absurd (grind (arith, quiet))
quiet_call c apt Over unit op actuals rest vars ss n ticks (Request task) leads good e quiet h =
    quietly c Over _ rest vars _ _ (silent c.system.costs.call vars) ss n ticks (move_asking c apt unit op actuals rest vars task leads) refl
    (omega (arith, e)) (omega (arith, e)) refl h
quiet_call c apt Over unit op actuals rest vars ss n ticks Unknown leads good e quiet h =
    absurd (subst (IsFitCallee c.Good) leads (apt.closed unit op good))

pub ahead_quiet : (c : Course) → IsApt c → (Over : Claim) (x : Piece) (rest : List Piece) (vars : Variables) (ss : List steps.Step) (n ticks : ℕ)
    → FitPieces c.Good (x ∷ rest) → IsTicks c.system.costs x n → is_quiet ((done c.system x vars rest).act) ≡ true
    → Ahead c Over ((done c.system x vars rest).vars) ((done c.system x vars rest).pieces) ss ticks → Ahead c Over vars (x ∷ rest) ss (n + ticks)
ahead_quiet c apt Over Idle rest vars ss n ticks f e quiet h =
    quietly c Over Idle rest vars vars rest (silent c.system.costs.nothing vars) ss n ticks (λ w i. (_, refl, w, i, refl)) refl (omega (arith, e))
    (omega (arith, e)) refl h
ahead_quiet c apt Over (Store target v) rest vars ss n ticks f e quiet h =
    quietly c Over _ rest vars _ rest (silent c.system.costs.assign (write target (value v vars) vars)) ss n ticks (λ w i. (_, refl, w, i, refl)) refl
    (omega (arith, e)) (omega (arith, e)) refl h
ahead_quiet c apt Over (Leaving condition) rest vars ss n ticks f e quiet h = by (holds condition vars) refl h
  where
    by : (b : Bool) → holds condition vars ≡ b
        → Ahead c Over ((if b then deed Silent (drop 1 vars) (after_loop rest) else deed Silent vars rest).vars)
        ((if b then deed Silent (drop 1 vars) (after_loop rest) else deed Silent vars rest).pieces) ss ticks
        → Ahead c Over vars (Leaving condition ∷ rest) ss (n + ticks)
    by true g i = quietly c Over _ rest vars _ _ (left_way c vars) ss n ticks (move_leaving c condition rest vars f.0 g) refl (omega (arith, e))
        (omega (arith, e)) (under_loop c Over rest f.0) i
    by false g i = quietly c Over _ rest vars _ _ (silent c.system.costs.test vars) ss n ticks (move_staying c condition rest vars g) refl
        (omega (arith, e)) (omega (arith, e)) refl i
ahead_quiet c apt Over (Calling unit op actuals) rest vars ss n ticks f e quiet h =
    quiet_call c apt Over unit op actuals rest vars ss n ticks (callee c.system unit op) refl f.0 e quiet h
ahead_quiet c apt Over (Working k) rest vars ss n ticks f e quiet h =
    quietly c Over _ rest vars vars rest (record (silent 1 vars) { high = k }) ss n ticks (λ w i. (_, refl, w, i, refl)) refl (omega (arith, e.0))
    (omega (arith, e.1)) refl h
ahead_quiet c apt Over (Printing v) rest vars ss n ticks f e quiet h = absurd (grind (arith, quiet))
ahead_quiet c apt Over (Testing condition block others) rest vars ss n ticks f e quiet h =
    quietly c Over _ rest vars vars _ (silent c.system.costs.test vars) ss n ticks (move_testing c condition block others rest vars) refl
    (omega (arith, e)) (omega (arith, e))
    (by (holds condition vars)) h
  where
    by : (b : Bool) → Beneath c Over (if b then pieces block rest else branch_pieces others rest) ≡ Beneath c Over rest
    by true = under_block c Over block rest
    by false = past_branches (Beneath c Over) (past_under c Over) others rest
ahead_quiet c apt Over (Turning name at last body) rest vars ss n ticks f e quiet h =
    quietly c Over _ rest vars _ _ (silent c.system.costs.turn vars) ss n ticks (move_turning c name at last body rest vars) refl (omega (arith, e))
    (omega (arith, e))
    (under_block c Over body (Turned name at last body ∷ rest)) h
ahead_quiet c apt Over (Turned name at last body) rest vars ss n ticks f e quiet h =
    quietly c Over _ rest vars _ _ (silent 0 vars) ss n ticks (move_turned c name at last body rest vars) refl (omega (arith, e)) (omega (arith, e))
    (by (nat_le (suc at) last)) h
  where
    by : (b : Bool) → Beneath c Over (if b then Turning name (suc at) last body ∷ rest else rest) ≡ Beneath c Over rest
    by true = refl
    by false = refl
ahead_quiet c apt Over (Returning outs stores caller) rest vars ss n ticks f e quiet h =
    quietly c Over _ rest vars _ rest (silent 0 (stored stores (reads outs vars) caller)) ss n ticks (λ w i. (_, refl, w, i, refl)) refl
    (omega (arith, e)) (omega (arith, e)) refl h
ahead_quiet c apt Over (Closing object op data' outs stores caller) rest vars ss n ticks f e quiet h = absurd (grind (arith, quiet))
ahead_quiet c apt Over (Keeping task v) rest vars ss n ticks f e quiet h =
    quietly c Over _ rest vars vars rest (silent c.system.costs.assign vars) ss n ticks (λ w i. (_, refl, w, i, refl)) refl (omega (arith, e))
    (omega (arith, e)) refl h
ahead_quiet c apt Over (Opening task) rest vars ss n ticks f e quiet h =
    quietly c Over _ rest vars vars rest (silent c.system.costs.assign vars) ss n ticks (λ w i. (_, refl, w, i, refl)) refl (omega (arith, e))
    (omega (arith, e)) refl h
ahead_quiet c apt Over (Requested task v) rest vars ss n ticks f e quiet h = absurd (grind (arith, quiet))
ahead_quiet c apt Over Finishing rest vars ss n ticks f e quiet h = absurd (grind (arith, quiet))

-- a value that is put
pub ahead_print : (c : Course) (Over : Claim) (v : Expression) (rest : List Piece) (vars : Variables) (s : steps.Step) (ss : List steps.Step)
    (n ticks : ℕ)
    → n ≡ c.system.costs.put → s.deed ≡ Print (value v vars) → Ahead c Over vars rest ss ticks
    → Ahead c Over vars (Printing v ∷ rest) (s ∷ ss) (n + ticks)
ahead_print c Over v rest vars s ss n ticks e told h =
    let one : Path = record (silent c.system.costs.put vars) { script = runs.Print (value v vars) ∷ [] } in
    let front : List steps.Step = record { time = s.time; deed = Print (value v vars); body = s.body } ∷ [] in
    let all : Ahead c Over vars (Printing v ∷ rest) (front ++ ss) (n + ticks) =
    expand c (Beneath c Over rest) (Beneath c Over rest) vars vars (Printing v ∷ rest) rest one front ss n ticks (λ w i. (_, refl, w, i, refl))
    (refl, refl) refl (omega (arith, e)) (omega (arith, e)) refl h in
    let P : Deed → Type 0 = λ d. let t : steps.Step = record { time = s.time; deed = d; body = s.body }
    in Ahead c Over vars (Printing v ∷ rest) (t ∷ ss) (n + ticks) in
    subst P (sym told) all

-- a request that has been made
pub ahead_ended : (c : Course) (Over : Claim) (task : ℕ) (v : Option ℕ) (rest : List Piece) (vars : Variables) (s : steps.Step) (ss : List steps.Step)
    (n ticks : ℕ)
    → n ≡ 0 → s.deed ≡ Request ((c.request_name task).object) v → Ahead c Over vars rest ss ticks
    → Ahead c Over vars (Requested task v ∷ rest) (s ∷ ss) (n + ticks)
ahead_ended c Over task v rest vars s ss n ticks e told h =
    let one : Path = record (silent 0 vars) { script = runs.Request (c.request_name task) v ∷ [] } in
    let front : List steps.Step = record { time = s.time; deed = Request ((c.request_name task).object) v; body = s.body } ∷ [] in
    let all : Ahead c Over vars (Requested task v ∷ rest) (front ++ ss) (n + ticks) =
    expand c (Beneath c Over rest) (Beneath c Over rest) vars vars (Requested task v ∷ rest) rest one front ss n ticks (λ w i. (_, refl, w, i, refl))
    (refl, refl) refl (omega (arith, e)) (omega (arith, e)) refl h in
    let P : Deed → Type 0 = λ d. let t : steps.Step = record { time = s.time; deed = d; body = s.body }
    in Ahead c Over vars (Requested task v ∷ rest) (t ∷ ss) (n + ticks) in
    subst P (sym told) all

-- the end of an activation
pub ahead_finish : (c : Course) (Over : Claim) (rest : List Piece) (vars : Variables) (ss : List steps.Step) (ticks : ℕ) → Over vars ss ticks
    → Ahead c Over vars (Finishing ∷ rest) ss ticks
ahead_finish c Over rest vars ss ticks h = inl (record {
  way = silent 0 vars;
  goes = refl;
  inner = [];
  later = ss;
  parts = refl;
  within = refl;
  shows = refl;
  rest = ticks;
  at_least = omega arith;
  at_most = omega arith;
  under = h;
})

-- a protected operation that is left
pub ahead_leave : (c : Course) (Over : Claim) (object op : ℕ) (data' : List Datum) (outs stores : List Name) (caller : Variables) (rest : List Piece)
    (vars : Variables) (s : steps.Step) (ss : List steps.Step) (n ticks : ℕ)
    → n ≡ 0 → s.deed ≡ Leave (c.op_name object op) (reads outs vars) → s.body.vars ≡ vars
    → Ahead c Over (stored stores (reads outs vars) caller) rest ss ticks
    → Ahead c Over vars (Closing object op data' outs stores caller ∷ rest) (s ∷ ss) (n + ticks)
ahead_leave c Over object op data' outs stores caller rest vars s ss n ticks e told kept' h = inl (record {
  way = silent 0 vars;
  goes = refl;
  inner = [];
  later = s ∷ ss;
  parts = refl;
  within = refl;
  shows = refl;
  rest = ticks;
  at_least = omega (arith, e);
  at_most = omega (arith, e);
  under = (s, ss, refl, told, kept', h);
})
