-- Every activation begins with a piece that takes a tick at least, since all costs, works and durations do.
use Rattle.std.specs.Prelude.{◌≡◌, ◌⊎◌, ℕ, ◌+◌, ◌≤◌, ◌==◌, ◌||◌, nat_lt, nat_le, Bool, true, false, not, List, [], ◌∷◌, ◌++◌, filter, flat_map}
use Rattle.std.specs.Prelude.{length, slice_get, Option, Some, None, if◌then◌else◌, refl}
use Rattle.std.specs.List.{list_any}
use Rattle.std.proofs.Common.{sym, ◌∙◌, subst, arith, inl, inr}
use Rattle.std.proofs.lemmas.Option.{none-some}
use Rattle.seq_tree.specs.Limits.{tick_limit}
use Rattle.seq_tree.specs.Names.{Name}
use Rattle.seq_tree.specs.Statements.{Statement, Statements, Branches, Null, Assign, If, For, ExitWhen, Call, Work, Put, End, Then, Nothing}
use Rattle.seq_tree.specs.Statements.{Else, When}
use Rattle.seq_tree.specs.Calls.{statement_works, block_works, branch_works}
use Rattle.seq_tree.specs.Faults.{or_else, fault_if}
use Rattle.seq_tree.specs.declared.tree.Costs.{Costs}
use Rattle.ada_tree.specs.Programs.{Form, Unit, Program, Passive, Shared, Cyclic, Sporadic, is_task}
use Rattle.ada_tree.specs.Bodies.{bodies, heads}
use Rattle.ada_tree.specs.Ranges.{is_outside, numbers_break, costs_break, whole_breaks}
use Rattle.ada_tree.specs.Rules.{MeetsRules, Ranges, Whole}
use Rattle.arrivals_tree.specs.Arriving.{Arrivals, Durations, durations}
use Rattle.arrivals_tree.specs.Acceptance.{Unknown, Unfit, Far, has_nothing, durations_fault, works_fault, requests_fault, IsAccepted}
use Rattle.machine.specs.Systems.{TaskUnit, thread_by, system}
use Rattle.machine.specs.Pieces.{Piece, Finishing, Turning, turns, pieces_of, pieces, branch_pieces, work_ticks}
use Rattle.law_lists.proofs.Shared.Lists.{IsIn, in-left, in-right, in-flat, at-in, none-in, made-at}
use Rattle.law_responses.proofs.Frames.{StartsSome}
use Rattle.law_lists.proofs.Shared.Facts.{or_else-none}
use Rattle.std.proofs.lemmas.Bool.{or_parts}
use Rattle.law_calls.proofs.Shared.UnitRules.{ranges-kept, task-body}

-- costs of a tick at least
pub record ArePositive (c : Costs) : Type 0 where
  pub assign : 1 ≤ c.assign
  pub test : 1 ≤ c.test
  pub turn : 1 ≤ c.turn
  pub call : 1 ≤ c.call
  pub nothing : 1 ≤ c.nothing
  pub put : 1 ≤ c.put
  pub finish : 1 ≤ c.finish

at-least : (high n : ℕ) → is_outside 1 high n ≡ false → 1 ≤ n
at-least high n e = let low : nat_lt n 1 ≡ false = (or_parts (nat_lt n 1) (nat_lt high n) e).0 in grind arith

pub positive-costs : (p : Program) → MeetsRules p → ArePositive p.costs
positive-costs p rules = go p.costs (or_parts (costs_break p.costs) (nat_lt 30 (length (filter (λ u. is_task u.form) p.units)))
    (or_parts (costs_break p.costs || nat_lt 30 (length (filter (λ u. is_task u.form) p.units))) (nat_lt 500 (length p.units)) kept).0).0
  where
    kept : whole_breaks p ≡ false
    kept = by (whole_breaks p) refl
      where
        by : (b : Bool) → whole_breaks p ≡ b → whole_breaks p ≡ false
        by false e = e
        by true e = absurd (rules Ranges Whole e)

    go : (c : Costs) → costs_break c ≡ false → ArePositive c
    go c e =
        let a = or_parts (is_outside 1 1000 c.assign) _ e in
        let b = or_parts (is_outside 1 1000 c.test) _ a.1 in
        let d = or_parts (is_outside 1 1000 c.turn) _ b.1 in
        let f = or_parts (is_outside 1 1000 c.call) _ d.1 in
        let g = or_parts (is_outside 1 1000 c.nothing) _ f.1 in
        let h = or_parts (is_outside 1 1000 c.put) _ g.1 in
        let i = or_parts (is_outside 1 1000 c.finish) _ h.1 in
        record {
          assign = at-least 1000 c.assign a.0;
          test = at-least 1000 c.test b.0;
          turn = at-least 1000 c.turn d.0;
          call = at-least 1000 c.call f.0;
          nothing = at-least 1000 c.nothing g.0;
          put = at-least 1000 c.put h.0;
          finish = at-least 1000 c.finish i.0;
        }

-- works of a tick at least
abbrev pub AreWorks : List ℕ → Type 0
AreWorks ns = (n : ℕ) → IsIn n ns → 1 ≤ n

work-some : (ds : List ℕ) → AreWorks ds → (n w : ℕ) → 1 ≤ n → 1 ≤ work_ticks n (slice_get ds w)
work-some ds all n w some = by (slice_get ds w) refl
  where
    by : (o : Option ℕ) → slice_get ds w ≡ o → 1 ≤ work_ticks n o
    by None e = some
    by (Some d) e = let least : 1 ≤ d = all d (at-in ds w d e) in omega (arith, some, least)

-- the pieces of a block begin with such a piece where those behind them do
module _ (c : Costs) (positive : ArePositive c) (ds : List ℕ) (all : AreWorks ds) where
  turns-start : (name : Name) (at last : ℕ) (body : Statements) (ps : List Piece) → StartsSome c ds ps → StartsSome c ds (turns name at last body ps)
  turns-start name at last body ps h = by (nat_le at last)
    where
      by : (b : Bool) → StartsSome c ds (if b then Turning name at last body ∷ ps else ps)
      by true = λ w. positive.turn
      by false = h

  mutual
    statement-start : (s : Statement) (ps : List Piece) → AreWorks (statement_works s) → StartsSome c ds ps → StartsSome c ds (pieces_of s ps)
    statement-start Null ps works h = λ w. positive.nothing
    statement-start (Assign target value) ps works h = λ w. positive.assign
    statement-start (If branches) ps works h = branches-start branches ps works h
    statement-start (For name low high body) ps works h = turns-start name low high body ps h
    statement-start (ExitWhen condition) ps works h = λ w. positive.test
    statement-start (Call unit op actuals) ps works h = λ w. positive.call
    statement-start (Work ticks) ps works h = λ w. work-some ds all ticks w (works ticks (inl refl))
    statement-start (Put value) ps works h = λ w. positive.put

    pub block-start : (b : Statements) (ps : List Piece) → AreWorks (block_works b) → StartsSome c ds ps → StartsSome c ds (pieces b ps)
    block-start End ps works h = h
    block-start (Then first rest) ps works h =
        statement-start first (pieces rest ps) (λ n i. works n (in-left n (statement_works first) (block_works rest) i))
        (block-start rest ps (λ n i. works n (in-right n (statement_works first) (block_works rest) i)) h)

    branches-start : (b : Branches) (ps : List Piece) → AreWorks (branch_works b) → StartsSome c ds ps → StartsSome c ds (branch_pieces b ps)
    branches-start Nothing ps works h = h
    branches-start (Else block) ps works h = block-start block ps works h
    branches-start (When condition block others) ps works h = λ w. positive.test

-- durations of a tick at least
has-some : (ns : List ℕ) → has_nothing ns ≡ false → AreWorks ns
has-some ns e n i = let not : (n == 0) ≡ false = none-in (λ m. m == 0) n ns e i in grind arith

durations-fit : (p : Program) (ws : List Durations) → works_fault p ws ≡ None → (w : Durations) → IsIn w ws → AreWorks w.ticks
durations-fit p [] e w i = absurd i
durations-fit p (x ∷ ws) e w (inl is)
    = subst (λ z. AreWorks z.ticks) is
    (fit (slice_get p.units x.task) (or_else-none (durations_fault (slice_get p.units x.task) x.ticks) (works_fault p ws) e).0)
  where
    fit : (o : Option Unit) → durations_fault o x.ticks ≡ None → AreWorks x.ticks
    fit None h = absurd (none-some Unknown (sym h))
    fit (Some u) h = by (has_nothing x.ticks) refl (or_else-none (fault_if (not (is_task u.form)) Unknown) (fault_if (has_nothing x.ticks) Unfit) h).1
      where
        by : (b : Bool) → has_nothing x.ticks ≡ b → fault_if b Unfit ≡ None → AreWorks x.ticks
        by false g k = has-some x.ticks g
        by true g k = absurd (none-some Unfit (sym k))
durations-fit p (x ∷ ws) e w (inr i)
    = durations-fit p ws (or_else-none (durations_fault (slice_get p.units x.task) x.ticks) (works_fault p ws) e).1 w i

flat-in : (ws : List Durations) (task n : ℕ) → IsIn n (flat_map (λ w. w.ticks) (filter (λ w. w.task == task) ws))
    → (w : Durations) × IsIn w ws × IsIn n w.ticks
flat-in [] task n i = absurd i
flat-in (x ∷ ws) task n i = by (x.task == task) i (λ j. flat-in ws task n j)
  where
    split : (xs ys : List ℕ) → IsIn n (xs ++ ys) → IsIn n xs ⊎ IsIn n ys
    split [] ys j = inr j
    split (z ∷ xs) ys (inl e) = inl (inl e)
    split (z ∷ xs) ys (inr j) = elim (split xs ys j) [ inl k ↦ inl (inr k) | inr k ↦ inr k ]

    Rest : Type 0
    Rest = IsIn n (flat_map (λ w. w.ticks) (filter (λ w. w.task == task) ws))

    by : (b : Bool) → IsIn n (flat_map (λ w. w.ticks) (if b then x ∷ filter (λ w. w.task == task) ws else filter (λ w. w.task == task) ws))
        → (IsIn n (flat_map (λ w. w.ticks) (filter (λ w. w.task == task) ws)) → (w : Durations) × IsIn w ws × IsIn n w.ticks)
        → (w : Durations) × IsIn w (x ∷ ws) × IsIn n w.ticks
    by true j later = elim (split x.ticks (flat_map (λ w. w.ticks) (filter (λ w. w.task == task) ws)) j)
        [ inl here ↦ (x, inl refl, here) | inr far ↦ (let found = later far in (found.0, inr found.1, found.2)) ]
    by false j later = let found = later j in (found.0, inr found.1, found.2)

thread-durations : (p : Program) (a : Arrivals) (i : ℕ) (t : TaskUnit) → slice_get (system p a).threads i ≡ Some t
    → (k : ℕ) × (t.durations ≡ durations a k)
thread-durations p a i t e =
    let found = made-at (λ (u : ℕ × Unit). thread_by (durations a u.0) u.0 u.1.name u.1.form) 0 p.units i t e in
    by (durations a (0 + found.0)) (0 + found.0) found.1.form found.1.name found.3 refl
  where
    by : (ds : List ℕ) (k : ℕ) (form : Form) (name : Name) → thread_by ds k name form ≡ Some t → ds ≡ durations a k
        → (j : ℕ) × (t.durations ≡ durations a j)
    by ds k (Passive ops) name h same = absurd (none-some t h)
    by ds k (Shared ceiling vars ops) name h same = absurd (none-some t h)
    by ds k (Cyclic priority offset period vars block) name h same = (k, sym (durations_is h) ∙ same)
      where
        durations_is : thread_by ds k name (Cyclic priority offset period vars block) ≡ Some t → ds ≡ t.durations
        durations_is g = cc
    by ds k (Sporadic priority ceiling op separation jitter external vars block) name h same = (k, sym (durations_is h) ∙ same)
      where
        durations_is : thread_by ds k name (Sporadic priority ceiling op separation jitter external vars block) ≡ Some t → ds ≡ t.durations
        durations_is g = cc

pub starts-some : (p : Program) (a : Arrivals) (limit : ℕ) → MeetsRules p → IsAccepted limit p a → (i : ℕ) (t : TaskUnit)
    → slice_get (system p a).threads i ≡ Some t
    → StartsSome p.costs t.durations (pieces t.block (Finishing ∷ []))
starts-some p a limit rules accepted i t at = block-start p.costs positive t.durations all t.block (Finishing ∷ []) works (λ w. positive.finish)
  where
    positive : ArePositive p.costs
    positive = positive-costs p rules

    all : AreWorks t.durations
    all n e =
        let from = thread-durations p a i t at in
        let found = flat-in a.work from.0 n (subst (IsIn n) from.1 e) in
        let faults = or_else-none (fault_if (nat_lt limit a.until) Far) (or_else (works_fault p a.work) (requests_fault p [] a.items)) accepted in
        durations-fit p a.work (or_else-none (works_fault p a.work) (requests_fault p [] a.items) faults.1).0 found.0 found.1 n found.2

    works : AreWorks (block_works t.block)
    works n e =
        let body = task-body p a i t at in
        let outside = none-in (is_outside 1 tick_limit) n (flat_map (λ b. block_works b.block) (bodies body.1.form))
        (or_parts (numbers_break body.1.form || list_any (λ h. nat_lt 8 (length h.params)) (heads body.1.form))
        (list_any (is_outside 1 tick_limit) (flat_map (λ b. block_works b.block) (bodies body.1.form))) (ranges-kept p rules body.0 body.1 body.3)).1
        (in-flat (λ b. block_works b.block) body.2 n (bodies body.1.form) body.4 (subst (λ b. IsIn n (block_works b)) (sym body.5) e)) in
        at-least tick_limit n outside
