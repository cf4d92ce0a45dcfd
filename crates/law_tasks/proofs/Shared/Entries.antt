-- Entry into a protected operation: what the task does inside it is a run of its body, and its caller goes on with what the body hands out.
use Rattle.std.specs.Prelude.{◌≡◌, ◌⊎◌, ℕ, suc, ◌+◌, ◌-◌, ◌≤◌, Bool, true, false, List, [], ◌∷◌, ◌++◌, map, length, refl}
use Rattle.std.proofs.Common.{sym, ◌∙◌, ap, subst, arith, append_assoc, inl, inr}
use Rattle.std.proofs.lemmas.List.{length-map}
use Rattle.seq_tree.specs.Names.{Name}
use Rattle.seq_tree.specs.Expressions.{Expression}
use Rattle.seq_tree.specs.Statements.{Statements}
use Rattle.seq_tree.specs.Operations.{Operation, out_names}
use Rattle.seq_tree.specs.Variables.{Variables, read, reads, stored, opened, targets}
use Rattle.seq_tree.specs.Values.{handed}
use Rattle.seq_tree.specs.Runs.{Action, Path, silent, joined, Called, Chosen, RunBlock, Run, BeginsScript}
use Rattle.seq_tree.specs.Runs as runs
use Rattle.seq_tree.specs.declared.tree.OpName.{OpName}
use Rattle.machine.specs.Systems.{ProtectedUnit, Protected, callee}
use Rattle.machine.specs.Pieces.{Piece, Calling, Closing, Finishing, pieces}
use Rattle.guarantee.specs.Events.{Deed, Enter, Leave}
use Rattle.guarantee.specs.Steps.{Step, closes, depth_after, shown, before_leave}
use Rattle.law_tasks.proofs.Shared.Courses.{Course, IsApt, FitPieces, seen, setting}
use Rattle.guarantee.specs.Scripts.{least_by, most_by}
use Rattle.law_tasks.proofs.Shared.Ways.{Ways, Passing, Onwards, is_last, Within, outer, least, most, Claim, Closes, Cut, Either, Beneath, Ahead}
use Rattle.law_tasks.proofs.Shared.Ways.{Passed, Entered, Passes}
use Rattle.law_tasks.proofs.Joins.{joined-end}
use Rattle.law_tasks.proofs.Splits.{Split, split_block}
use Rattle.law_tasks.proofs.Shared.Depths.{within-append, outer-append, within-raise, outer-raise, before-open, before-closed, least-append}
use Rattle.law_tasks.proofs.Shared.Depths.{most-append}
use Rattle.law_walks.proofs.Shared.Bodies.{run_of}
use Rattle.law_tasks.proofs.Totals.{some_ways}
use Rattle.law_tasks.proofs.Shared.Aheads.{expand, under_block}
use Rattle.law_calls.proofs.Shared.Pieces.{BodyEnd, kind}

-- a way through the pieces of a whole body is one through its block
pub whole_body : (c : Course) (b : Statements) (x : Piece) (rest : List Piece) (vars : Variables) (w : Path) → is_last x ≡ true → kind x ≡ BodyEnd
    → Ways c false (pieces b (x ∷ rest)) vars w → RunBlock (setting c) b vars w × (w.left ≡ false)
whole_body c b x rest vars w last end' h = found (split_block c b (x ∷ rest) vars w h)
  where
    by_left : (q r : Path) (l : Bool) → q.left ≡ l → RunBlock (setting c) b vars q → Ways c l (x ∷ rest) q.vars r → w ≡ joined q r
        → RunBlock (setting c) b vars w × (w.left ≡ false)
    by_left q r true e goes more whole = absurd (subst (λ k. Passing k (Ways c false rest) (Ways c true rest) q.vars r) end' more)
    by_left q r false e goes more whole =
        let ends : r ≡ silent 0 q.vars = subst (λ b. Chosen b (λ r. r ≡ silent 0 q.vars) (λ r. Onwards c x (λ b w. Ways c b rest w) q.vars r) r)
        last more in
        let same : w ≡ q = whole ∙ ap (joined q) ends ∙ joined-end q e in
        (subst (RunBlock (setting c) b vars) (sym same) goes, ap (λ p. p.left) same ∙ e)

    found : Split c (RunBlock (setting c) b vars) (x ∷ rest) w → RunBlock (setting c) b vars w × (w.left ≡ false)
    found s = by_left s.0 s.2 s.0.left refl s.1 s.3 s.4

-- the deeds of a whole operation, seen from outside
outer-leave : (s : Step) (name : OpName) (results : List ℕ) → s.deed ≡ Leave name results → outer 1 (s ∷ []) ≡ Leave name results ∷ []
outer-leave s name results e =
    let P : Deed → Type 0 = λ d. let t : Step = record { time = s.time; deed = d; body = s.body } in outer 1 (t ∷ []) ≡ Leave name results ∷ [] in
    subst P (sym e) refl

within-leave : (s : Step) (name : OpName) (results : List ℕ) → s.deed ≡ Leave name results → Within 1 0 (s ∷ [])
within-leave s name results e = (refl, ap (depth_after 1) e)

closes-leave : (s : Step) (name : OpName) (results : List ℕ) → s.deed ≡ Leave name results → closes 0 s.deed ≡ true
closes-leave s name results e = ap (closes 0) e

-- the call, as its caller sees it
abbrev call_way : Course → OpName → Operation → List Expression → Variables → List ℕ → Path
call_way c name o actuals vars results = record {
  script = runs.Enter name (handed o.sig.params actuals vars) ∷ runs.Leave name results ∷ [];
  left = false;
  vars = stored (targets o.sig.params actuals) results vars;
  low = c.system.costs.call;
  high = c.system.costs.call;
}

-- the step into an operation, with the way through its body
abbrev pub enters : ℕ → OpName → List ℕ → Path → Step
enters time name values body = record { time = time; deed = Enter name values; body = body }

module _ (c : Course) (apt : IsApt c) (Over : Claim) (unit op : Name) (actuals : List Expression) (rest : List Piece) (vars : Variables)
    (object k : ℕ) (g : ProtectedUnit) (o : Operation)
    (leads : callee c.system unit op ≡ Protected object k g o) (data' : Variables) where
  abbrev name : OpName
  name = c.op_name object k

  abbrev values : List ℕ
  values = handed o.sig.params actuals vars

  abbrev closing : Piece
  closing = Closing object k g.vars (out_names o.sig.params) (targets o.sig.params actuals) vars

  abbrev start : Variables
  start = opened o values ++ data'

  -- what the caller goes on with
  calls_on : (results : List ℕ) → length results ≡ length (out_names o.sig.params) → (w : Path)
      → Ways c false rest (stored (targets o.sig.params actuals) results vars) w
      → Ways c false (Calling unit op actuals ∷ rest) vars (joined (call_way c name o actuals vars results) w)
  calls_on results many w h =
      let Goes : runs.Callee → Type 0 = λ t. Called (setting c) (record { object = unit; op = op }) t actuals vars
      (call_way c name o actuals vars results) in
      let same : call_way c (record { object = unit; op = op }) o actuals vars results ≡ call_way c name o actuals vars results =
      ap (λ n. call_way c n o actuals vars results) (sym (apt.entries unit op object k g o leads)) in
      (call_way c name o actuals vars results, subst Goes (sym (apt.leads unit op ∙ ap seen leads)) (results, many, sym same), w, h, refl)

  count : (w : Variables) → length (reads (out_names o.sig.params) w) ≡ length (out_names o.sig.params)
  count w = length-map (out_names o.sig.params) (λ n. read n w)

  -- an operation that is left
  entry_closed : (time ticks : ℕ) (ss : List Step)
      → (h : Closes c (Beneath c Over (pieces o.block (closing ∷ rest))) start (pieces o.block (closing ∷ rest)) ss ticks)
      → Beneath c Over (closing ∷ rest) h.way.vars h.later h.rest
      → RunBlock (setting c) o.block start h.way × (h.way.left ≡ false)
      → ((n : ℕ) → n ≡ c.system.costs.call → Ahead c Over vars (Calling unit op actuals ∷ rest) (enters time name values h.way ∷ ss) (n + ticks))
      × Passed c o data' values name ss h.way
  entry_closed time ticks ss h (s, later, parts, told, kept', more) body =
      let results : List ℕ = reads (out_names o.sig.params) h.way.vars in
      let call : Path = call_way c name o actuals vars results in
      let enter : Step = enters time name values h.way in
      let front : List Step = enter ∷ (h.inner ++ s ∷ []) in
      let whole : ss ≡ h.inner ++ s ∷ later = h.parts ∙ ap (λ xs. h.inner ++ xs) parts in
      let low_in : least (h.inner ++ s ∷ []) ≡ least h.inner + least (s ∷ []) = least-append h.inner (s ∷ []) in
      let high_in : most (h.inner ++ s ∷ []) ≡ most h.inner + most (s ∷ []) = most-append h.inner (s ∷ []) in
      let none : least (s ∷ []) ≡ 0 = ap (λ d. least_by d s.body + 0) told in
      let none' : most (s ∷ []) ≡ 0 = ap (λ d. most_by d s.body + 0) told in
      let inner_in : Within 0 0 front
      = (refl, within-append 1 1 0 h.inner (s ∷ []) (within-raise 0 0 h.inner h.within) (within-leave s name results told)) in
      let shows : outer 0 front ≡ map shown call.script =
      ap (λ ds. Enter name values ∷ ds) (outer-append 1 1 h.inner (s ∷ []) (within-raise 0 0 h.inner h.within)
      ∙ ap (λ ds. ds ++ outer 1 (s ∷ [])) (outer-raise 0 0 h.inner h.within) ∙ outer-leave s name results told) in
      let t : ℕ = ticks - h.rest in
      let on : (n : ℕ) → n ≡ c.system.costs.call
      → Either c (Beneath c Over rest) vars (Calling unit op actuals ∷ rest) (front ++ later) (n + t + h.rest) = λ n e.
      expand c (Beneath c Over rest) (Beneath c Over rest) vars call.vars (Calling unit op actuals ∷ rest) rest call front later (n + t) h.rest
      (calls_on results (count h.way.vars)) inner_in shows
      (omega (arith, e, low_in, none, h.at_least)) (omega (arith, e, high_in, none', h.at_most, h.at_least)) refl more in
      let steps_are : front ++ later ≡ enter ∷ ss = ap (λ xs. enter ∷ xs) (append_assoc h.inner (s ∷ []) later ∙ sym whole) in
      let ticks_are : (n : ℕ) → n + t + h.rest ≡ n + ticks = λ n. omega (arith, h.at_least) in
      let on' : (n : ℕ) → n ≡ c.system.costs.call → Ahead c Over vars (Calling unit op actuals ∷ rest) (enter ∷ ss) (n + t + h.rest) = λ n e.
      subst (λ xs. Ahead c Over vars (Calling unit op actuals ∷ rest) xs (n + t + h.rest)) steps_are (on n e) in (
        λ n e. subst (Ahead c Over vars (Calling unit op actuals ∷ rest) (enter ∷ ss)) (ticks_are n) (on' n e),
        record {
          run = run_of c.system.costs c.calls o.block start h.way body.0 body.1;
          shows = sym h.shows ∙ sym (ap (outer 0) (ap (before_leave 0) whole ∙ before-closed 0 h.inner s later h.within
              (closes-leave s name results told)));
          inner = h.inner;
          leave = s;
          later = later;
          parts = whole;
          within = h.within;
          deed = told;
          leaves = kept';
        },
      )

  -- an operation that is cut off
  entry_cut : (time ticks : ℕ) (ss : List Step) → FitPieces c.Good rest → (h : Cut c start (pieces o.block (closing ∷ rest)) ss)
      → RunBlock (setting c) o.block start h.way × (h.way.left ≡ false)
      → ((n : ℕ) → Ahead c Over vars (Calling unit op actuals ∷ rest) (enters time name values h.way ∷ ss) (n + ticks)) × Entered c o data' values ss
  entry_cut time ticks ss f h body =
      let results : List ℕ = reads (out_names o.sig.params) h.way.vars in
      let call : Path = call_way c name o actuals vars results in
      let later = some_ways c apt false rest f (λ i. absurd (grind (arith, i))) call.vars in (
        λ n. inr (record {
          may = h.may;
          way = joined call later.0;
          goes = calls_on results (count h.way.vars) later.0 later.1;
          script = runs.Enter name values ∷ [];
          more = runs.Leave name results ∷ later.0.script;
          begins = refl;
          depth = suc h.depth;
          within = (refl, within-raise 0 h.depth ss h.within);
          shows = ap (λ ds. Enter name values ∷ ds) (outer-raise 0 h.depth ss h.within);
        }),
        record {
          may = h.may;
          script = h.script;
          begins = (h.more, (h.way, run_of c.system.costs c.calls o.block start h.way body.0 body.1, h.begins));
          shows = sym h.shows ∙ sym (ap (outer 0) (before-open 0 h.depth ss h.within));
          depth = h.depth;
          within = h.within;
        },
      )

  pub ahead_enter : (time ticks : ℕ) (ss : List Step) → FitPieces c.Good (Calling unit op actuals ∷ rest)
      → Ahead c Over start (pieces o.block (closing ∷ rest)) ss ticks
      → (body : Path) × ((n : ℕ) → n ≡ c.system.costs.call
      → Ahead c Over vars (Calling unit op actuals ∷ rest) (enters time name values body ∷ ss) (n + ticks))
      × Passes c o data' values name ss body
  ahead_enter time ticks ss f (inl h) =
      let found = entry_closed time ticks ss h (subst (λ P. P h.way.vars h.later h.rest) (under_block c Over o.block (closing ∷ rest)) h.under)
      (whole_body c o.block closing rest start h.way refl refl h.goes) in
      (h.way, found.0, inl found.1)
  ahead_enter time ticks ss f (inr h) =
      let found = entry_cut time ticks ss f.1 h (whole_body c o.block closing rest start h.way refl refl h.goes) in
      (h.way, λ n e. found.0 n, inr found.1)

-- a whole activation, or one that is cut off
pub record Whole (c : Course) (Over : Claim) (block : Statements) (vars : Variables) (ss : List Step) (ticks : ℕ) (p : Path) : Type 0 where
  pub run : Run c.system.costs c.calls block vars p
  pub inner : List Step
  pub later : List Step
  pub parts : ss ≡ inner ++ later
  pub within : Within 0 0 inner
  pub shows : outer 0 inner ≡ map shown p.script
  pub rest : ℕ
  pub at_least : p.low + least inner + rest ≤ ticks
  pub at_most : ticks ≤ p.high + most inner + rest
  pub over : Over p.vars later rest

pub record Begun (c : Course) (block : Statements) (vars : Variables) (ss : List Step) : Type 0 where
  pub may : c.MayCut
  pub script : List Action
  pub begins : BeginsScript c.system.costs c.calls block vars script
  pub depth : ℕ
  pub within : Within 0 depth ss
  pub shows : outer 0 ss ≡ map shown script

pub activation : (c : Course) (Over : Claim) (block : Statements) (vars : Variables) (ss : List Step) (ticks : ℕ)
    → Ahead c Over vars (pieces block (Finishing ∷ [])) ss ticks
    → ((p : Path) × Whole c Over block vars ss ticks p) ⊎ Begun c block vars ss
activation c Over block vars ss ticks (inl h) =
    let body : RunBlock (setting c) block vars h.way × (h.way.left ≡ false) = whole_body c block Finishing [] vars h.way refl refl h.goes in
    inl (
      h.way,
      record {
        run = run_of c.system.costs c.calls block vars h.way body.0 body.1;
        inner = h.inner;
        later = h.later;
        parts = h.parts;
        within = h.within;
        shows = h.shows;
        rest = h.rest;
        at_least = h.at_least;
        at_most = h.at_most;
        over = subst (λ P. P h.way.vars h.later h.rest) (under_block c Over block (Finishing ∷ [])) h.under;
      },
    )
activation c Over block vars ss ticks (inr h) =
    let body : RunBlock (setting c) block vars h.way × (h.way.left ≡ false) = whole_body c block Finishing [] vars h.way refl refl h.goes in
    inr (record {
      may = h.may;
      script = h.script;
      begins = (h.more, (h.way, run_of c.system.costs c.calls block vars h.way body.0 body.1, h.begins));
      depth = h.depth;
      within = h.within;
      shows = h.shows;
    })
