-- No section of a thread is longer than an activation of it: a block costs at least each call that it makes at all, and a call at least
-- each call of its body.
use Rattle.std.specs.Prelude.{◌≡◌, ◌⊎◌, ℕ, zero, suc, ◌+◌, ◌*◌, ◌≤◌, ◌==◌, Bool, true, false, List, [], length, Option, Some, None}
use Rattle.std.specs.Prelude.{if◌then◌else◌, refl}
use Rattle.std.proofs.Common.{◌∙◌, ap, arith, inl, inr, le_trans}
use Rattle.seq_tree.specs.Names.{Name}
use Rattle.seq_tree.specs.Statements.{Statement, Statements, Branches, Null, Assign, If, For, ExitWhen, Call, Work, Put, End, Then, Nothing}
use Rattle.seq_tree.specs.Statements.{Else, When}
use Rattle.seq_tree.specs.Dearest.{Weights, turn_count, dearest_statement, dearest, dearest_branch}
use Rattle.seq_tree.specs.declared.tree.Costs.{Costs}
use Rattle.seq_tree.specs.declared.tree.OpName.{OpName}
use Rattle.ods_tree.specs.Flats.{Thread, Flat}
use Rattle.ods_tree.specs.Services.{Service, Sort, service_named, flat_services}
use Rattle.ods_tree.specs.Services as sort
use Rattle.analysis.specs.Execution.{body_cost_by, service_cost, called_cost}
use Rattle.analysis.specs.Sections.{Section, live_statement, live_calls, live_branches, section, sections_by, service_sections, sections_within}
use Rattle.analysis.specs.Sections.{sections}
use Rattle.analysis.specs.Sound.{IsSound}
use Rattle.analysis.specs.Tables.{activation_cost}
use Rattle.law_calls.specs.CallLaws.{HaveNoRing}
use Rattle.law_lists.proofs.Shared.Lists.{IsIn, in-parts, in-some}
use Rattle.law_calls.proofs.Shared.Bodies.{costs-cover}

-- a block costs at least each call that it makes at all
module _ (c : Costs) (called : Name → Name → ℕ) where
  abbrev w : Weights
  w = record { costs = c; work = λ ticks. ticks; called = called }

  some-turn : (n body m : ℕ) → (n == 0) ≡ false → m ≤ body → m ≤ n * (c.turn + body)
  some-turn zero body m e h = cc
  some-turn (suc n) body m e h = omega (arith, h)

  mutual
    statement-covers : (s : Statement) (x : OpName) → IsIn x (live_statement s) → called x.object x.op ≤ dearest_statement w s
    statement-covers Null x h = absurd h
    statement-covers (Assign target v) x h = absurd h
    statement-covers (If branches) x h = branches-cover branches x h
    statement-covers (For name low high body) x h = by (turn_count low high == 0) refl h (λ k. block-covers body x k)
      where
        by : (b : Bool) → (turn_count low high == 0) ≡ b → IsIn x (if b then [] else live_calls body)
            → (IsIn x (live_calls body) → called x.object x.op ≤ dearest w body) → called x.object x.op ≤ turn_count low high * (c.turn + dearest w body)
        by true e k more = absurd k
        by false e k more = some-turn (turn_count low high) (dearest w body) (called x.object x.op) e (more k)
    statement-covers (ExitWhen v) x h = absurd h
    statement-covers (Call object op actuals) x (inl e) =
        let same : called object op ≡ called x.object x.op = ap (λ (z : OpName). called z.object z.op) e in omega (arith, same)
    statement-covers (Call object op actuals) x (inr h) = absurd h
    statement-covers (Work ticks) x h = absurd h
    statement-covers (Put v) x h = absurd h

    pub block-covers : (b : Statements) (x : OpName) → IsIn x (live_calls b) → called x.object x.op ≤ dearest w b
    block-covers End x h = absurd h
    block-covers (Then first rest) x h = by (λ k. statement-covers first x k) (λ k. block-covers rest x k) (in-parts x (live_statement first) (live_calls rest) h)
      where
        by : (IsIn x (live_statement first) → called x.object x.op ≤ dearest_statement w first) → (IsIn x (live_calls rest) → called x.object x.op ≤ dearest w rest)
            → IsIn x (live_statement first) ⊎ IsIn x (live_calls rest) → called x.object x.op ≤ dearest_statement w first + dearest w rest
        by f g (inl k) = let r = f k in omega (arith, r)
        by f g (inr k) = let r = g k in omega (arith, r)

    branches-cover : (b : Branches) (x : OpName) → IsIn x (live_branches b) → called x.object x.op ≤ dearest_branch w b
    branches-cover Nothing x h = absurd h
    branches-cover (Else block) x h = block-covers block x h
    branches-cover (When v block others) x h = by (λ k. block-covers block x k) (λ k. branches-cover others x k) (in-parts x (live_calls block) (live_branches others) h)
      where
        by : (IsIn x (live_calls block) → called x.object x.op ≤ dearest w block) → (IsIn x (live_branches others) → called x.object x.op ≤ dearest_branch w others)
            → IsIn x (live_calls block) ⊎ IsIn x (live_branches others) → called x.object x.op ≤ dearest_branch w (When v block others)
        by f g (inl k) = let r = f k in omega (arith, r)
        by f g (inr k) = let r = g k in omega (arith, r)

module _ (costs : Costs) (ss : List Service) (no_ring : HaveNoRing ss) where
  -- a call costs at least each call of its protected body
  body-covers : (x : OpName) (s : Service) → service_named ss x.object x.op ≡ Some s → s.sort ≡ sort.Protected → (d : OpName)
      → IsIn d (live_calls s.op.block) → called_cost costs ss d.object d.op ≤ called_cost costs ss x.object x.op
  body-covers x s named protected d h =
      let is : called_cost costs ss x.object x.op ≡ dearest (record { costs = costs; work = λ ticks. ticks; called = called_cost costs ss }) s.op.block =
      costs-cover ss no_ring costs x.object x.op ∙ ap (service_cost costs (called_cost costs ss)) named
      ∙ ap (λ z. body_cost_by costs (called_cost costs ss) z s.op) protected in
      let r = block-covers costs (called_cost costs ss) s.op.block d h in
      omega (arith, is, r)

  -- a section is no longer than the call that leads to it
  call-covers : (depth : ℕ) (x : OpName) (z : Section) → IsIn z (sections_within depth costs ss x) → z.cost ≤ called_cost costs ss x.object x.op
  call-covers zero x z h = absurd h
  call-covers (suc depth) x z h = by (λ d. call-covers depth d z) (service_named ss x.object x.op) refl h
    where
      Inner : Type 0
      Inner = (d : OpName) → IsIn z (sections_within depth costs ss d) → z.cost ≤ called_cost costs ss d.object d.op

      own : section costs ss x ≡ z → z.cost ≤ called_cost costs ss x.object x.op
      own e = let same : called_cost costs ss x.object x.op ≡ z.cost = ap (λ (q : Section). q.cost) e in omega (arith, same)

      sorted : Inner → (s : Service) → service_named ss x.object x.op ≡ Some s → (k : Sort) → s.sort ≡ k
          → IsIn z (sections_by (section costs ss x) (sections_within depth costs ss) k s.op) → z.cost ≤ called_cost costs ss x.object x.op
      sorted inner s named sort.Plain is k = absurd k
      sorted inner s named sort.Protected is (inl e) = own e
      sorted inner s named sort.Protected is (inr k) =
          let found = in-some (sections_within depth costs ss) (live_calls s.op.block) z k in
          le_trans (inner found.0 found.2) (body-covers x s named is found.0 found.1)
      sorted inner s named sort.Request is (inl e) = own e
      sorted inner s named sort.Request is (inr k) = absurd k

      by : Inner → (o : Option Service) → service_named ss x.object x.op ≡ o
          → IsIn z (service_sections (section costs ss x) (sections_within depth costs ss) o) → z.cost ≤ called_cost costs ss x.object x.op
      by inner None named k = absurd k
      by inner (Some s) named k = sorted inner s named s.sort refl k

-- a section of a thread is no longer than its activation
pub section-cost : (f : Flat) → IsSound f → (t : Thread) (z : Section) → IsIn z (sections f.costs (flat_services f) t.block) → z.cost ≤ activation_cost f t
section-cost f sound t z h =
    let found = in-some (sections_within (length (flat_services f)) f.costs (flat_services f)) (live_calls t.block) z h in
    let a = call-covers f.costs (flat_services f) sound.no_ring (length (flat_services f)) found.0 z found.2 in
    let b = block-covers f.costs (called_cost f.costs (flat_services f)) t.block found.0 found.1 in
    omega (arith, a, b)
