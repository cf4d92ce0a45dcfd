-- A piece's effect and a way through the pieces after it give a way through the pieces before it, with the piece's ticks and actions.
use Rattle.std.specs.Prelude.{◌≡◌, ℕ, suc, ◌+◌, ◌*◌, Bool, true, false, List, [], ◌∷◌, drop, nat_le, Option, if◌then◌else◌, refl}
use Rattle.std.proofs.Common.{sym, ◌∙◌, ap, subst, arith}
use Rattle.seq_tree.specs.Names.{Name}
use Rattle.seq_tree.specs.Expressions.{Expression}
use Rattle.seq_tree.specs.Statements.{Statements, Branches}
use Rattle.seq_tree.specs.Operations.{Operation, out_names}
use Rattle.seq_tree.specs.Variables.{Variables, reads, stored, opened, targets}
use Rattle.seq_tree.specs.Values.{holds, handed}
use Rattle.seq_tree.specs.Dearest.{turn_count}
use Rattle.seq_tree.specs.Runs.{Path, silent, joined, turned, Followed, Turns, Called, Chosen, RunBlock, RunBranch, request_value}
use Rattle.seq_tree.specs.Runs as runs
use Rattle.seq_tree.specs.declared.tree.OpName.{OpName}
use Rattle.machine.specs.Systems.{Plain, Request, callee}
use Rattle.machine.specs.Pieces.{Piece, Idle, Store, Leaving, Calling, Working, Printing, Testing, Turning, Turned, Returning, Closing, Keeping}
use Rattle.machine.specs.Pieces.{Opening, Requested, Finishing, turns, pieces, branch_pieces, after_loop}
use Rattle.law_tasks.proofs.Shared.Courses.{Course, IsApt, seen, setting}
use Rattle.law_tasks.proofs.Shared.Ways.{WayPiece, Ways, Onwards}
use Rattle.law_tasks.proofs.Joins.{same_way, joined-silent, joined-assoc, joined-turned, no_turns, some_turns}
use Rattle.law_tasks.proofs.Splits.{Split, split_block, split_branches}
use Rattle.law_walks.proofs.Shared.Bodies.{body_of}
use Rattle.law_calls.proofs.Shared.Pieces.{in_loop}

-- what goes on as another way does
abbrev pub Extends : Course → Path → Variables → List Piece → Variables → List Piece → Type 0
Extends c q vars ps vars' ps' = (w : Path) → Ways c false ps' vars' w → Ways c false ps vars (joined q w)

-- a way behind a loop is one that leaves it
pub leave_loop : (c : Course) (rest : List Piece) (vars : Variables) (w : Path) → in_loop rest ≡ true → Ways c false (after_loop rest) (drop 1 vars) w
    → Ways c true rest vars w
leave_loop c [] vars w e h = absurd (grind (arith, e))
leave_loop c (Turned name at last body ∷ rest) vars w e h = h
leave_loop c (Returning outs stores caller ∷ rest) vars w e h = absurd (grind (arith, e))
leave_loop c (Closing object op data' outs stores caller ∷ rest) vars w e h = absurd (grind (arith, e))
leave_loop c (Finishing ∷ rest) vars w e h = absurd (grind (arith, e))
leave_loop c (Idle ∷ rest) vars w e h = leave_loop c rest vars w e h
leave_loop c (Store target v ∷ rest) vars w e h = leave_loop c rest vars w e h
leave_loop c (Leaving condition ∷ rest) vars w e h = leave_loop c rest vars w e h
leave_loop c (Calling unit op actuals ∷ rest) vars w e h = leave_loop c rest vars w e h
leave_loop c (Working ticks ∷ rest) vars w e h = leave_loop c rest vars w e h
leave_loop c (Printing v ∷ rest) vars w e h = leave_loop c rest vars w e h
leave_loop c (Testing condition block others ∷ rest) vars w e h = leave_loop c rest vars w e h
leave_loop c (Turning name at last body ∷ rest) vars w e h = leave_loop c rest vars w e h
leave_loop c (Keeping task v ∷ rest) vars w e h = leave_loop c rest vars w e h
leave_loop c (Opening task ∷ rest) vars w e h = leave_loop c rest vars w e h
leave_loop c (Requested task v ∷ rest) vars w e h = absurd (grind (arith, e))

-- an exit
abbrev pub left_way : Course → Variables → Path
left_way c vars = record (silent c.system.costs.test vars) { left = true }

pub move_leaving : (c : Course) (condition : Expression) (rest : List Piece) (vars : Variables) → in_loop rest ≡ true → holds condition vars ≡ true
    → Extends c (left_way c vars) vars (Leaving condition ∷ rest) (drop 1 vars) (after_loop rest)
move_leaving c condition rest vars inside e w h =
    (left_way c vars, ap (λ b. record (silent c.system.costs.test vars) { left = b }) (sym e), w, leave_loop c rest vars w inside h, refl)

pub move_staying : (c : Course) (condition : Expression) (rest : List Piece) (vars : Variables) → holds condition vars ≡ false
    → Extends c (silent c.system.costs.test vars) vars (Leaving condition ∷ rest) vars rest
move_staying c condition rest vars e w h =
    (silent c.system.costs.test vars, ap (λ b. record (silent c.system.costs.test vars) { left = b }) (sym e), w, h, refl)

-- a condition of an `if`
pub move_testing : (c : Course) (condition : Expression) (block : Statements) (others : Branches) (rest : List Piece) (vars : Variables)
    → Extends c (silent c.system.costs.test vars) vars (Testing condition block others ∷ rest) vars
    (if holds condition vars then pieces block rest else branch_pieces others rest)
move_testing c condition block others rest vars w h = found (by (holds condition vars) h)
  where
    by : (b : Bool) → Ways c false (if b then pieces block rest else branch_pieces others rest) vars w
        → Split c (Chosen b (RunBlock (setting c) block vars) (RunBranch (setting c) others vars)) rest w
    by true i = split_block c block rest vars w i
    by false i = split_branches c others rest vars w i

    found : Split c (Chosen (holds condition vars) (RunBlock (setting c) block vars) (RunBranch (setting c) others vars)) rest w
        → Ways c false (Testing condition block others ∷ rest) vars (joined (silent c.system.costs.test vars) w)
    found s =
        let test : Path = silent c.system.costs.test vars in
        (joined test s.0, (s.0, s.1, refl), s.2, s.3, ap (joined test) s.4 ∙ joined-assoc test s.0 s.2)

-- a turn of a loop
pub move_turning : (c : Course) (name : Name) (at last : ℕ) (body : Statements) (rest : List Piece) (vars : Variables)
    → Extends c (silent c.system.costs.turn vars) vars (Turning name at last body ∷ rest) ((name, at) ∷ vars)
    (pieces body (Turned name at last body ∷ rest))
move_turning c name at last body rest vars w h = found (split_block c body (Turned name at last body ∷ rest) ((name, at) ∷ vars) w h)
  where
    turn : ℕ
    turn = c.system.costs.turn

    Body : Variables → Path → Type 0
    Body = RunBlock (setting c) body

    Later : Path → Path → Type 0
    Later b p = Turns (turn_count (suc at) last) (suc at) turn name Body (drop 1 b.vars) p

    by_left : (b r : Path) (l : Bool) → b.left ≡ l → Body ((name, at) ∷ vars) b → Ways c l (Turned name at last body ∷ rest) b.vars r
        → w ≡ joined b r → Ways c false (Turning name at last body ∷ rest) vars (joined (silent turn vars) w)
    by_left b r true e goes more whole = (
      turned turn b,
      (b, goes, subst (λ l. Followed l (turned turn b) (Later b) (turned turn b)) (sym e) refl),
      r,
      more,
      ap (joined (silent turn vars)) whole ∙ sym (joined-turned turn vars b r),
    )
    by_left b r false e goes more whole =
        let p : Path = joined (turned turn b) more.0 in (
          p,
          (b, goes, subst (λ l. Followed l (turned turn b) (Later b) p) (sym e) (more.0, more.1, refl)),
          more.2,
          more.3,
          ap (joined (silent turn vars)) (whole ∙ ap (joined b) more.4) ∙ sym (joined-turned turn vars b
              (joined more.0 more.2)) ∙ joined-assoc (turned turn b) more.0 more.2,
        )

    found : Split c (Body ((name, at) ∷ vars)) (Turned name at last body ∷ rest) w
        → Ways c false (Turning name at last body ∷ rest) vars (joined (silent turn vars) w)
    found s = by_left s.0 s.2 s.0.left refl s.1 s.3 s.4

-- the end of a turn
pub move_turned : (c : Course) (name : Name) (at last : ℕ) (body : Statements) (rest : List Piece) (vars : Variables)
    → Extends c (silent 0 vars) vars (Turned name at last body ∷ rest) (drop 1 vars) (turns name (suc at) last body rest)
move_turned c name at last body rest vars w h = subst (Ways c false (Turned name at last body ∷ rest) vars) (joined-silent vars w)
    (by (nat_le (suc at) last) refl h)
  where
    Goes : ℕ → Path → Type 0
    Goes n q = Turns n (suc at) c.system.costs.turn name (RunBlock (setting c) body) (drop 1 vars) q

    by : (b : Bool) → nat_le (suc at) last ≡ b → Ways c false (if b then Turning name (suc at) last body ∷ rest else rest) (drop 1 vars) w
        → Ways c false (Turned name at last body ∷ rest) vars w
    by true e i = (i.0, subst (λ n. Goes n i.0) (sym (some_turns (suc at) last e)) i.1, i.2, i.3, i.4)
    by false e i = (
      silent 0 (drop 1 vars),
      subst (λ n. Goes n (silent 0 (drop 1 vars))) (sym
          (no_turns (suc at) last e)) refl,
      w,
      i,
      joined-silent (drop 1 vars) w,
    )

-- a call of a passive operation
pub move_plain : (c : Course) → IsApt c → (unit op : Name) (actuals : List Expression) (rest : List Piece) (vars : Variables) (o : Operation)
    → callee c.system unit op ≡ Plain o
    → Extends c (silent c.system.costs.call vars) vars (Calling unit op actuals ∷ rest) (opened o (handed o.sig.params actuals vars))
    (pieces o.block (Returning (out_names o.sig.params) (targets o.sig.params actuals) vars ∷ rest))
move_plain c apt unit op actuals rest vars o leads w h = found (split_block c o.block (back ∷ rest) start w h)
  where
    start : Variables
    start = opened o (handed o.sig.params actuals vars)

    back : Piece
    back = Returning (out_names o.sig.params) (targets o.sig.params actuals) vars

    call : Path
    call = silent c.system.costs.call vars

    whole_call : Path → Path
    whole_call b = record {
      script = b.script;
      left = false;
      vars = stored (targets o.sig.params actuals) (reads (out_names o.sig.params) b.vars) vars;
      low = c.system.costs.call + b.low;
      high = c.system.costs.call + b.high;
    }

    goes : (b : Path) → RunBlock (setting c) o.block start b
        → Called (setting c) (record { object = unit; op = op }) (c.calls unit op) actuals vars (whole_call b)
    goes b i =
        let Goes : runs.Callee → Type 0 = λ k. Called (setting c) (record { object = unit; op = op }) k actuals vars (whole_call b) in
        subst Goes (sym (apt.leads unit op ∙ ap seen leads)) (b, body_of c.system.costs c.calls o start b i, refl)

    same : (b r : Path) → joined (whole_call b) r ≡ joined call (joined b (joined (silent 0 (whole_call b).vars) r))
    same b r = same_way _ _ _ _ _ _ _ _ _ _ refl refl refl (omega arith) (omega arith)

    by_left : (b r : Path) (l : Bool) → b.left ≡ l → RunBlock (setting c) o.block start b → Ways c l (back ∷ rest) b.vars r
        → w ≡ joined b r → Ways c false (Calling unit op actuals ∷ rest) vars (joined call w)
    by_left b r true e i more whole = absurd more
    by_left b r false e i more whole =
        let P : Path → Type 0 = λ q. Ways c q.left rest q.vars more.2 in (
          whole_call b,
          goes b i,
          more.2,
          subst P more.1 more.3,
          ap (joined call) (whole ∙ ap (joined b) (more.4 ∙ ap (λ q. joined q more.2) more.1)) ∙ sym (same b more.2),
        )

    found : Split c (RunBlock (setting c) o.block start) (back ∷ rest) w → Ways c false (Calling unit op actuals ∷ rest) vars (joined call w)
    found s = by_left s.0 s.2 s.0.left refl s.1 s.3 s.4

-- a piece that has one way
pub peel : (c : Course) (x : Piece) (xs : List Piece) (vars : Variables) (w s : Path) → ((q : Path) → WayPiece c x vars q → q ≡ s)
    → Onwards c x (λ b v. Ways c b xs v) vars w → (r : Path) × Ways c s.left xs s.vars r × (w ≡ joined s r)
peel c x xs vars w s only h =
    let e : h.0 ≡ s = only h.0 h.1 in
    (h.2, subst (λ q. Ways c q.left xs q.vars h.2) e h.3, h.4 ∙ ap (λ q. joined q h.2) e)

-- a request
pub move_asking : (c : Course) → IsApt c → (unit op : Name) (actuals : List Expression) (rest : List Piece) (vars : Variables) (task : ℕ)
    → callee c.system unit op ≡ Request task
    → Extends c (silent c.system.costs.call vars) vars (Calling unit op actuals ∷ rest) vars
    (Keeping task (request_value actuals vars) ∷ Opening task ∷ Requested task (request_value actuals vars) ∷ rest)
move_asking c apt unit op actuals rest vars task leads w h =
    let v : Option ℕ = request_value actuals vars in
    let assign : Path = silent c.system.costs.assign vars in
    let told : Path = record (silent 0 vars) { script = runs.Request (c.request_name task) v ∷ [] } in
    let kept = peel c (Keeping task v) (Opening task ∷ Requested task v ∷ rest) vars w assign (λ q e. e) h in
    let open' = peel c (Opening task) (Requested task v ∷ rest) vars kept.0 assign (λ q e. e) kept.1 in
    let last = peel c (Requested task v) rest vars open'.0 told (λ q e. e) open'.1 in
    let name : OpName = record { object = unit; op = op } in
    let whole : Path = record {
      script = runs.Request name v ∷ [];
      left = false;
      vars = vars;
      low = c.system.costs.call + 2 * c.system.costs.assign;
      high = c.system.costs.call + 2 * c.system.costs.assign;
    } in
    let Goes : runs.Callee → Type 0 = λ k. Called (setting c) name k actuals vars whole in
    let goes : Called (setting c) name (c.calls unit op) actuals vars whole = subst Goes (sym (apt.leads unit op ∙ ap seen leads)) refl in
    let named : runs.Request (c.request_name task) v ∷ last.0.script ≡ runs.Request name v ∷ last.0.script =
    ap (λ n. runs.Request n v ∷ last.0.script) (apt.requests unit op task leads) in
    let same : joined (silent c.system.costs.call vars) w ≡ joined whole last.0 =
    ap (joined (silent c.system.costs.call vars)) (kept.2 ∙ ap (joined assign) (open'.2 ∙ ap (joined assign) last.2))
    ∙ same_way _ _ _ _ _ _ _ _ _ _ named refl refl (omega arith) (omega arith) in
    (whole, goes, last.0, last.1, same)
