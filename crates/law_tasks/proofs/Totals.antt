-- From any variables there is a way through what is fit: no call is unknown, and passive operations call each other in no ring.
use Rattle.std.specs.Prelude.{◌≡◌, ℕ, zero, suc, ◌+◌, ◌*◌, Bool, true, false, List, [], ◌∷◌, drop, Some, None, ⊤, refl}
use Rattle.std.proofs.Common.{sym, subst, arith}
use Rattle.std.proofs.lemmas.List.{length-map}
use Rattle.std.proofs.lemmas.Option.{none-some}
use Rattle.seq_tree.specs.Lists.{Each}
use Rattle.seq_tree.specs.Names.{Name}
use Rattle.seq_tree.specs.Expressions.{Expression}
use Rattle.seq_tree.specs.Statements.{Statement, Statements, Branches, Null, Assign, If, For, ExitWhen, Call, Work, Put, End, Then, Nothing}
use Rattle.seq_tree.specs.Statements.{Else, When}
use Rattle.seq_tree.specs.Operations.{Operation, out_names}
use Rattle.seq_tree.specs.Variables.{Variables, read, write, reads, stored, opened, targets}
use Rattle.seq_tree.specs.Values.{value, holds, handed}
use Rattle.seq_tree.specs.Calls.{block_calls}
use Rattle.seq_tree.specs.Dearest.{turn_count}
use Rattle.seq_tree.specs.Runs.{Path, silent, joined, turned, Followed, Turns, Called, Chosen, RunStatement, RunBlock, RunBranch, request_value}
use Rattle.seq_tree.specs.Runs as runs
use Rattle.seq_tree.specs.declared.tree.OpName.{OpName}
use Rattle.machine.specs.Systems.{CallTarget, Plain, Protected, Request, Unknown, callee}
use Rattle.machine.specs.Pieces.{Piece, Idle, Store, Leaving, Calling, Working, Printing, Testing, Turning, Turned, Returning, Closing, Keeping}
use Rattle.machine.specs.Pieces.{Opening, Requested, Finishing}
use Rattle.law_tasks.proofs.Shared.Courses.{Course, IsApt, IsFitCallee, seen, setting, FitStatement, FitBlock, FitBranches, FitPiece, FitPieces}
use Rattle.law_lists.proofs.Shared.Depths.{IsDeep}
use Rattle.law_calls.proofs.Shared.Passives.{passive_by, passive_calls}
use Rattle.law_tasks.proofs.Shared.Ways.{WayPiece, Ways, Onwards, Passing, is_last}
use Rattle.law_walks.proofs.Shared.Bodies.{body_of}
use Rattle.law_tasks.proofs.Shared.Fits.{both_block}
use Rattle.law_calls.proofs.Shared.Pieces.{Kind, Step, TurnEnd, BodyEnd, kind, in_loop, in_loop_by}

-- a call that has a way
abbrev HasWay : Course → Name → Name → Type 0
HasWay c unit op = (actuals : List Expression) (vars : Variables) → (p : Path)
    × Called (setting c) (record { object = unit; op = op }) (c.calls unit op) actuals vars p × (p.left ≡ false)

-- a way that leaves a loop only where there is one
abbrev pub SomeWay : Bool → (Path → Type 0) → Type 0
SomeWay within Goes = (p : Path) × Goes p × (p.left ≡ true → within ≡ true)

never : (b : Bool) (P : Type 0) → b ≡ false → b ≡ true → P
never b P e f = absurd (grind (arith, e, f))

-- turns
some_loop : (n at turn : ℕ) (name : Name) (Body : Variables → Path → Type 0) (vars : Variables) → ((w : Variables) → SomeWay true (Body w))
    → (p : Path) × Turns n at turn name Body vars p × (p.left ≡ false)
some_loop zero at turn name Body vars some = (silent 0 vars, refl, refl)
some_loop (suc n) at turn name Body vars some = by (some ((name, at) ∷ vars)) (λ w. some_loop n (suc at) turn name Body w some)
  where
    by_left : (body : Path) (b : Bool) → body.left ≡ b → Body ((name, at) ∷ vars) body
        → ((w : Variables) → (p : Path) × Turns n (suc at) turn name Body w p × (p.left ≡ false))
        → (p : Path) × Turns (suc n) at turn name Body vars p × (p.left ≡ false)
    by_left body true e goes more = (
      turned turn body,
      (
        body,
        goes,
        subst (λ b. Followed b (turned turn body) (Turns n (suc at) turn name Body (drop 1 body.vars))
            (turned turn body)) (sym e) refl,
      ),
      refl,
    )
    by_left body false e goes more =
        let later = more (drop 1 body.vars) in
        let p : Path = joined (turned turn body) later.0 in (
          p,
          (
            body,
            goes,
            subst (λ b. Followed b (turned turn body) (Turns n (suc at) turn name Body (drop 1 body.vars)) p) (sym
                e) (later.0, later.1, refl),
          ),
          later.2,
        )

    by : SomeWay true (Body ((name, at) ∷ vars)) → ((w : Variables) → (p : Path) × Turns n (suc at) turn name Body w p × (p.left ≡ false))
        → (p : Path) × Turns (suc n) at turn name Body vars p × (p.left ≡ false)
    by body more = by_left body.0 body.0.left refl body.1 more

-- one way and then another
then_way : (within : Bool) (Next : Variables → Path → Type 0) (First : Path → Type 0)
    → SomeWay within First → ((w : Variables) → SomeWay within (Next w))
    → SomeWay within (λ p. (q : Path) × First q × Followed q.left q (Next q.vars) p)
then_way within Next First first more = by first.0.left refl
  where
    by : (b : Bool) → first.0.left ≡ b → SomeWay within (λ p. (q : Path) × First q × Followed q.left q (Next q.vars) p)
    by true e = (first.0, (first.0, first.1, subst (λ b. Followed b first.0 (Next first.0.vars) first.0) (sym e) refl), first.2)
    by false e =
        let later = more first.0.vars in
        let p : Path = joined first.0 later.0 in
        (p, (first.0, first.1, subst (λ b. Followed b first.0 (Next first.0.vars) p) (sym e) (later.0, later.1, refl)), later.2)

chosen_way : (within b : Bool) (First Second : Path → Type 0) → (⊤ → SomeWay within First) → (⊤ → SomeWay within Second)
    → SomeWay within (Chosen b First Second)
chosen_way within true First Second f g = f tt
chosen_way within false First Second f g = g tt

mutual
  way_statement : (c : Course) (within : Bool) (s : Statement) → FitStatement (HasWay c) within s → (vars : Variables)
      → SomeWay within (RunStatement (setting c) s vars)
  way_statement c within Null f vars = (silent c.system.costs.nothing vars, refl, never _ _ refl)
  way_statement c within (Assign target e) f vars = (silent c.system.costs.assign (write target (value e vars) vars), refl, never _ _ refl)
  way_statement c within (If branches) f vars = way_branches c within branches f vars
  way_statement c within (For name low high body) f vars =
      let found = some_loop (turn_count low high) low c.system.costs.turn name (RunBlock (setting c) body) vars (λ w. way_block c true body f w) in
      (found.0, found.1, never _ _ found.2)
  way_statement c within (ExitWhen condition) f vars = (record (silent c.system.costs.test vars) { left = holds condition vars }, refl, λ e. f)
  way_statement c within (Call unit op actuals) f vars = let found = f actuals vars in (found.0, found.1, never _ _ found.2)
  way_statement c within (Work ticks) f vars = (record (silent 1 vars) { high = ticks }, refl, never _ _ refl)
  way_statement c within (Put e) f vars = (record (silent c.system.costs.put vars) { script = runs.Print (value e vars) ∷ [] }, refl, never _ _ refl)

  way_block : (c : Course) (within : Bool) (b : Statements) → FitBlock (HasWay c) within b → (vars : Variables)
      → SomeWay within (RunBlock (setting c) b vars)
  way_block c within End f vars = (silent 0 vars, refl, never _ _ refl)
  way_block c within (Then first rest) f vars =
      then_way within (λ w. RunBlock (setting c) rest w) (RunStatement (setting c) first vars) (way_statement c within first f.0 vars)
      (λ w. way_block c within rest f.1 w)

  way_branches : (c : Course) (within : Bool) (b : Branches) → FitBranches (HasWay c) within b → (vars : Variables)
      → SomeWay within (RunBranch (setting c) b vars)
  way_branches c within Nothing f vars = (silent 0 vars, refl, never _ _ refl)
  way_branches c within (Else block) f vars = way_block c within block f vars
  way_branches c within (When condition block others) f vars =
      let found = chosen_way within (holds condition vars) _ _ (λ t. way_block c within block f.0 vars)
      (λ t. way_branches c within others f.1 vars) in
      (joined (silent c.system.costs.test vars) found.0, (found.0, found.1, refl), found.2)

-- what is fit for good calls is fit for calls with a weaker fact
mutual
  map_statement : (Good Weak : Name → Name → Type 0) → ((unit op : Name) → Good unit op → Weak unit op) → (within : Bool) (s : Statement)
      → FitStatement Good within s → FitStatement Weak within s
  map_statement Good Weak to within Null f = tt
  map_statement Good Weak to within (Assign target e) f = tt
  map_statement Good Weak to within (If branches) f = map_branches Good Weak to within branches f
  map_statement Good Weak to within (For name low high body) f = map_block Good Weak to true body f
  map_statement Good Weak to within (ExitWhen condition) f = f
  map_statement Good Weak to within (Call unit op actuals) f = to unit op f
  map_statement Good Weak to within (Work ticks) f = f
  map_statement Good Weak to within (Put e) f = tt

  pub map_block : (Good Weak : Name → Name → Type 0) → ((unit op : Name) → Good unit op → Weak unit op) → (within : Bool) (b : Statements)
      → FitBlock Good within b → FitBlock Weak within b
  map_block Good Weak to within End f = tt
  map_block Good Weak to within (Then first rest) f = (map_statement Good Weak to within first f.0, map_block Good Weak to within rest f.1)

  pub map_branches : (Good Weak : Name → Name → Type 0) → ((unit op : Name) → Good unit op → Weak unit op) → (within : Bool) (b : Branches)
      → FitBranches Good within b → FitBranches Weak within b
  map_branches Good Weak to within Nothing f = tt
  map_branches Good Weak to within (Else block) f = map_block Good Weak to within block f
  map_branches Good Weak to within (When condition block others) f
      = (map_block Good Weak to within block f.0, map_branches Good Weak to within others f.1)

-- a fact of the passive operation that a call leads to
abbrev OfPlain : (Operation → Type 0) → CallTarget → Type 0
OfPlain Fact (Plain o) = Fact o
OfPlain Fact _ = ⊤

-- a call whose body has ways has one
way_callee : (c : Course) (name : OpName) (k : CallTarget) → IsFitCallee c.Good k
    → OfPlain (λ o. (vars : Variables) → SomeWay false (RunBlock (setting c) o.block vars)) k
    → (actuals : List Expression) (vars : Variables) → (p : Path) × Called (setting c) name (seen k) actuals vars p × (p.left ≡ false)
way_callee c name (Plain o) f bodies actuals vars =
    let body = bodies (opened o (handed o.sig.params actuals vars)) in
    let p : Path = record {
      script = body.0.script;
      left = false;
      vars = stored (targets o.sig.params actuals) (reads (out_names o.sig.params) body.0.vars) vars;
      low = c.system.costs.call + body.0.low;
      high = c.system.costs.call + body.0.high;
    } in
    (p, (body.0, body_of c.system.costs c.calls o (opened o (handed o.sig.params actuals vars)) body.0 body.1, refl), refl)
way_callee c name (Protected object op g o) f bodies actuals vars =
    let results : List ℕ = reads (out_names o.sig.params) [] in
    let p : Path = record {
      script = runs.Enter name (handed o.sig.params actuals vars) ∷ runs.Leave name results ∷ [];
      left = false;
      vars = stored (targets o.sig.params actuals) results vars;
      low = c.system.costs.call;
      high = c.system.costs.call;
    } in
    (p, (results, length-map (out_names o.sig.params) (λ n. read n []), refl), refl)
way_callee c name (Request task) f bodies actuals vars =
    let p : Path = record {
      script = runs.Request name (request_value actuals vars) ∷ [];
      left = false;
      vars = vars;
      low = c.system.costs.call + 2 * c.system.costs.assign;
      high = c.system.costs.call + 2 * c.system.costs.assign;
    } in
    (p, refl, refl)
way_callee c name Unknown f bodies actuals vars = absurd f

-- the body of a passive operation
no_body : (Fact : Operation → Type 0) (k : CallTarget) → passive_by k ≡ None → OfPlain Fact k
no_body Fact (Plain o) none = absurd (none-some (block_calls o.block) (sym none))
no_body Fact (Protected object op g o) none = tt
no_body Fact (Request task) none = tt
no_body Fact Unknown none = tt

-- calls under which passive operations call each other at most so deep
abbrev IsShallow : Course → ℕ → Name → Name → Type 0
IsShallow c n unit op = IsDeep (passive_calls c.system) n (record { object = unit; op = op })

some_body : (c : Course) (n : ℕ) → ((unit op : Name) → c.Good unit op → IsShallow c n unit op → HasWay c unit op)
    → (k : CallTarget) → IsFitCallee c.Good k → ((cs : List OpName) → passive_by k ≡ Some cs → Each (IsDeep (passive_calls c.system) n) cs)
    → OfPlain (λ o. (vars : Variables) → SomeWay false (RunBlock (setting c) o.block vars)) k
some_body c n ways (Plain o) f all =
    let both : FitBlock (λ unit op. c.Good unit op × IsShallow c n unit op) false o.block =
    both_block c.Good (IsShallow c n) false o.block f (all (block_calls o.block) refl) in
    way_block c false o.block (map_block _ (HasWay c) (λ unit op h. ways unit op h.0 h.1) false o.block both)
some_body c n ways (Protected object op g o) f all = tt
some_body c n ways (Request task) f all = tt
some_body c n ways Unknown f all = tt

shallow_way : (c : Course) → IsApt c → (n : ℕ) (unit op : Name) → c.Good unit op → IsShallow c n unit op → HasWay c unit op
shallow_way c apt zero unit op good shallow actuals vars =
    let k : CallTarget = callee c.system unit op in
    let Goes : runs.Callee → Type 0 = λ k. (p : Path) × Called (setting c) (record { object = unit; op = op }) k actuals vars p × (p.left ≡ false) in
    subst Goes (sym (apt.leads unit op)) (way_callee c (record { object = unit; op = op }) k (apt.closed unit op good)
    (no_body _ k shallow) actuals vars)
shallow_way c apt (suc n) unit op good shallow actuals vars =
    let k : CallTarget = callee c.system unit op in
    let Goes : runs.Callee → Type 0 = λ k. (p : Path) × Called (setting c) (record { object = unit; op = op }) k actuals vars p × (p.left ≡ false) in
    subst Goes (sym (apt.leads unit op)) (way_callee c (record { object = unit; op = op }) k (apt.closed unit op good)
    (some_body c n (shallow_way c apt n) k (apt.closed unit op good) shallow) actuals vars)

pub good_way : (c : Course) → IsApt c → (unit op : Name) → c.Good unit op → HasWay c unit op
good_way c apt unit op good = let d = apt.depth unit op good in shallow_way c apt d.0 unit op good d.1

-- from any variables there is a way through a fit block
pub some_way : (c : Course) → IsApt c → (within : Bool) (b : Statements) → FitBlock c.Good within b → (vars : Variables)
    → SomeWay within (RunBlock (setting c) b vars)
some_way c apt within b f = way_block c within b (map_block c.Good (HasWay c) (good_way c apt) within b f)

-- a piece
way_piece : (c : Course) → IsApt c → (within : Bool) (x : Piece) → FitPiece c.Good within x → is_last x ≡ false → (vars : Variables)
    → SomeWay within (WayPiece c x vars)
way_piece c apt within Idle f e vars = way_statement c within Null tt vars
way_piece c apt within (Store target v) f e vars = way_statement c within (Assign target v) tt vars
way_piece c apt within (Leaving condition) f e vars = way_statement c within (ExitWhen condition) f vars
way_piece c apt within (Calling unit op actuals) f e vars = way_statement c within (Call unit op actuals) (good_way c apt unit op f) vars
way_piece c apt within (Working ticks) f e vars = way_statement c within (Work ticks) f vars
way_piece c apt within (Printing v) f e vars = way_statement c within (Put v) tt vars
way_piece c apt within (Testing condition block others) f e vars =
    way_branches c within (When condition block others) (map_branches c.Good (HasWay c) (good_way c apt) within (When condition block others) f) vars
way_piece c apt within (Turning name at last body) f e vars =
    let found = some_loop (suc (turn_count (suc at) last)) at c.system.costs.turn name (RunBlock (setting c) body) vars
    (some_way c apt true body f) in
    (found.0, found.1, never _ _ found.2)
way_piece c apt within (Turned name at last body) f e vars =
    let found = some_loop (turn_count (suc at) last) (suc at) c.system.costs.turn name (RunBlock (setting c) body) (drop 1 vars)
    (some_way c apt true body f) in
    (found.0, found.1, never _ _ found.2)
way_piece c apt within (Returning outs stores caller) f e vars = (silent 0 (stored stores (reads outs vars) caller), refl, never _ _ refl)
way_piece c apt within (Keeping task v) f e vars = (silent c.system.costs.assign vars, refl, never _ _ refl)
way_piece c apt within (Opening task) f e vars = (silent c.system.costs.assign vars, refl, never _ _ refl)
way_piece c apt within (Requested task v) f e vars
    = (record (silent 0 vars) { script = runs.Request (c.request_name task) v ∷ [] }, refl, never _ _ refl)
way_piece c apt within (Closing object op data' outs stores caller) f e vars = absurd (grind (arith, e))
way_piece c apt within Finishing f e vars = absurd (grind (arith, e))

-- a loop that is left, where there is one
passing_way : (k : Kind) (b : Bool) (On Over : Variables → Path → Type 0) (vars : Variables) → in_loop_by k b ≡ true
    → ((w : Variables) → (p : Path) × On w p) → (b ≡ true → (p : Path) × Over vars p) → (p : Path) × Passing k On Over vars p
passing_way Step b On Over vars e on over = over e
passing_way TurnEnd b On Over vars e on over = on (drop 1 vars)
passing_way BodyEnd b On Over vars e on over = absurd (grind (arith, e))

-- pieces
pub some_ways : (c : Course) → IsApt c → (leaves : Bool) (ps : List Piece) → FitPieces c.Good ps → (leaves ≡ true → in_loop ps ≡ true)
    → (vars : Variables) → (p : Path) × Ways c leaves ps vars p
some_ways c apt false [] f e vars = (silent 0 vars, refl)
some_ways c apt true [] f e vars = absurd (grind (arith, e refl))
some_ways c apt true (x ∷ xs) f e vars =
    passing_way (kind x) (in_loop xs) (Ways c false xs) (Ways c true xs) vars (e refl)
    (λ w. some_ways c apt false xs f.1 (λ h. absurd (grind (arith, h))) w) (λ h. some_ways c apt true xs f.1 (λ i. h) vars)
some_ways c apt false (x ∷ xs) f e vars = by (is_last x) refl (λ b w h. some_ways c apt b xs f.1 h w)
  where
    by : (b : Bool) → is_last x ≡ b → ((b : Bool) (w : Variables) → (b ≡ true → in_loop xs ≡ true) → (p : Path) × Ways c b xs w p)
        → (p : Path) × Chosen b (λ r. r ≡ silent 0 vars) (λ r. Onwards c x (λ b w. Ways c b xs w) vars r) p
    by true g more = (silent 0 vars, refl)
    by false g more =
        let first = way_piece c apt (in_loop xs) x f.0 g vars in
        let later = more first.0.left first.0.vars first.2 in
        (joined first.0 later.0, (first.0, first.1, later.0, later.1, refl))
