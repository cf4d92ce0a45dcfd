-- The numbers of the program are in their ranges where its priorities and ceilings are.
use Rattle.std.proofs.Common.{◌≡◌, ℕ, Bool, true, false, ◌&&◌, ◌||◌, List, [], ◌∷◌, map, flat_map, zip, length, nat_lt, nat_le, is_some}
use Rattle.std.proofs.Common.{unwrap_or, Option, Some, None, option_to_list, refl, sym, ap, subst, ◌∙◌, arith, append-nil, inl}
use Rattle.seq_tree.specs.Limits.{tick_limit, is_within}
use Rattle.seq_tree.specs.Names.{same_name}
use Rattle.std.specs.List.{list_any, list_all}
use Rattle.std.proofs.lemmas.Bool.{or_from, and_parts}
use Rattle.seq_tree.specs.Statements.{Statements}
use Rattle.seq_tree.specs.Operations.{Signature, Operation}
use Rattle.seq_tree.specs.Calls.{block_works}
use Rattle.ods_tree.specs.Designs.{Provided, Body, Design}
use Rattle.ods_tree.specs.Walk.{Standing, objects, terminals}
use Rattle.ods_tree.specs.Links.{resolve, resolved}
use Rattle.ods_tree.specs.Flats.{Library, Guarded, Timing, Thread, Flat}
use Rattle.ods_tree.specs.Flats as timing
use Rattle.ods_tree.specs.Flattening.{operations, guarded, threads, flat, request_op}
use Rattle.ods_tree.specs.Sound.{is_below, is_in_range, costs_of, is_timed}
use Rattle.ada_tree.specs.Programs.{Unit}
use Rattle.ada_tree.specs.Bodies.{op_body, bodies}
use Rattle.ada_tree.specs.Bodies as ada
use Rattle.ada_tree.specs.Ranges.{is_outside, jitter_breaks, breaks_ranges, costs_break}
use Rattle.analysis.specs.Ceilings.{Ranks}
use Rattle.guarantee.specs.Programs.{thread_form, program_for}
use Rattle.design_rules.specs.Numbers.{works}
use Rattle.design_rules.specs.Rules.{AreMet}
use Rattle.law_designs.proofs.Shared.Lists.{from-map, none-from, all-in}
use Rattle.law_designs.proofs.Renaming.{block_works-renamed}
use Rattle.law_designs.proofs.Shared.Flattened.{library-from, guarded-from, operation-from, ThreadFrom, thread-from, terminal-object}
use Rattle.law_designs.proofs.Shared.ObjectRules.{costs-right}
use Rattle.law_designs.proofs.Numbers.{works-right, params-few, thread-range}
use Rattle.law_designs.proofs.Shared.Units.{UnitFrom, OfLibrary, OfGuarded, OfThread, unit-from, from-zip}
use Rattle.law_designs.proofs.Shared.Offers.{Fitting}
use Rattle.law_designs.proofs.Externals.{asked-of}
use Rattle.law_designs.proofs.Shared.Started.{Asked}
use Rattle.law_lists.proofs.Shared.Lists.{in-left, in-right, in-flat, none-in, IsIn, in-some, found-in}

inside : (low high n : ℕ) → is_within low high n ≡ true → is_outside low high n ≡ false
inside low high n h = grind arith

all-inside : (low high : ℕ) (ns : List ℕ) → list_all (is_within low high) ns ≡ true → list_any (is_outside low high) ns ≡ false
all-inside low high ns h = none-from (is_outside low high) ns (λ n k. inside low high n (all-in (is_within low high) ns n h k))

-- priorities and ceilings in their ranges, and no sporadic thread above its control structure
pub record AreRanked (f : Flat) (r : Ranks) : Type 0 where
  pub shared : (g : Guarded) (c : ℕ) → IsIn (g, c) (zip f.shared r.shared) → is_outside 1 60 c ≡ false
  pub threads : (t : Thread) (n : ℕ × ℕ) → IsIn (t, n) (zip f.threads (zip r.threads r.obcs)) → is_outside 1 60 n.0 ≡ false
  pub obcs : (t : Thread) (n : ℕ × ℕ) (op : Signature) (separation : ℕ) (jitter : Option ℕ) → IsIn (t, n) (zip f.threads (zip r.threads r.obcs))
      → t.timing ≡ timing.Sporadic op separation jitter
      → (is_outside 1 60 n.1 ≡ false) × (nat_lt n.1 n.0 ≡ false)

above : (a b : ℕ) → nat_lt a b ≡ true → nat_le b a ≡ false
above a b h = grind arith

above-zero : (b : ℕ) → nat_le 1 b ≡ true → nat_le b 0 ≡ false
above-zero b h = grind arith

not-above : (a b : ℕ) → nat_le b a ≡ true → nat_lt a b ≡ false
not-above a b h = grind arith

three : (a b c : Bool) → a ≡ false → b ≡ false → c ≡ false → (a || b || c) ≡ false
three a b c e f g = or_from (a || b) c (or_from a b e f) g

module _ (written x : Design) (met : AreMet written x) (r : Ranks) (fit : Fitting (flat x) r) (ranked : AreRanked (flat x) r) where
  -- ticks of the blocks of an object
  body-works : (s : Standing) (b : Body) → IsIn s (objects x) → IsIn b s.own.bodies
      → list_any (is_outside 1 tick_limit) (block_works (resolved x b.block)) ≡ false
  body-works s b h j =
      ap (list_any (is_outside 1 tick_limit)) (block_works-renamed (resolve x) b.block)
      ∙ none-from (is_outside 1 tick_limit) (block_works b.block)
      (λ n k. inside 1 tick_limit n (all-in (is_within 1 tick_limit) (works s.own) n (works-right written x met s h)
      (in-left n (flat_map (λ (c : Body). block_works c.block) s.own.bodies) (flat_map block_works (option_to_list s.own.thread))
      (in-flat (λ (c : Body). block_works c.block) b n s.own.bodies j k))))

  thread-works : (s : Standing) (b : Statements) → IsIn s (objects x) → s.own.thread ≡ Some b
      → list_any (is_outside 1 tick_limit) (block_works (resolved x b)) ≡ false
  thread-works s b h e =
      ap (list_any (is_outside 1 tick_limit)) (block_works-renamed (resolve x) b)
      ∙ none-from (is_outside 1 tick_limit) (block_works b)
      (λ n k. inside 1 tick_limit n (all-in (is_within 1 tick_limit) (works s.own) n (works-right written x met s h)
      (in-right n (flat_map (λ (c : Body). block_works c.block) s.own.bodies) (flat_map block_works (option_to_list s.own.thread))
      (let P : Option Statements → Type 0 = λ t. IsIn n (flat_map block_works (option_to_list t)) in
      let Q : List ℕ → Type 0 = λ z. IsIn n z in subst P (sym e) (subst Q (sym (append-nil (block_works b))) k)))))

  ops-works : (s : Standing) (ops : List Operation) → IsIn s (terminals x) → ops ≡ operations x s.own
      → list_any (is_outside 1 tick_limit) (flat_map (λ (b : ada.Body). block_works b.block) (map op_body ops)) ≡ false
  ops-works s ops h e = none-from (is_outside 1 tick_limit) _ (λ n k. at n (in-some (λ (b : ada.Body). block_works b.block) (map op_body ops) n k))
    where
      at : (n : ℕ) → (b : ada.Body) × IsIn b (map op_body ops) × IsIn n (block_works b.block) → is_outside 1 tick_limit n ≡ false
      at n (b, j, k) =
          let o = from-map op_body ops b j in
          let P : List Operation → Type 0 = λ z. IsIn o.0 z in
          let f = operation-from x s.own o.0 (subst P e o.1) in
          let Q : ada.Body → Type 0 = λ z. IsIn n (block_works z.block) in
          let R : Operation → Type 0 = λ z. IsIn n (block_works z.block) in
          none-in (is_outside 1 tick_limit) n (block_works (resolved x f.body.block))
          (body-works s f.body (terminal-object x s h).0 (found-in (λ z. same_name z.name f.provided.sig.name) s.own.bodies f.body f.named).0)
          (subst R f.made (subst Q o.2 k))

  ops-params : (s : Standing) (ops : List Operation) → IsIn s (terminals x) → ops ≡ operations x s.own
      → list_any (λ (h : Signature). nat_lt 8 (length h.params)) (map (λ (o : Operation). o.sig) ops) ≡ false
  ops-params s ops h e = none-from (λ (g : Signature). nat_lt 8 (length g.params)) (map (λ (o : Operation). o.sig) ops)
      (λ g k. at g (from-map (λ (o : Operation). o.sig) ops g k))
    where
      at : (g : Signature) → (o : Operation) × IsIn o ops × (g ≡ o.sig) → nat_lt 8 (length g.params) ≡ false
      at g (o, j, q) =
          let P : List Operation → Type 0 = λ z. IsIn o z in
          let f = operation-from x s.own o (subst P e j) in
          ap (λ (z : Signature). nat_lt 8 (length z.params)) (q ∙ ap (λ (z : Operation). z.sig) f.made)
          ∙ none-in (λ (p : Provided). nat_lt 8 (length p.sig.params)) f.provided s.own.provides
          (params-few written x met s (terminal-object x s h).0) f.provides

  thread-ranges : (t : Thread) (n : ℕ × ℕ) (f : ThreadFrom x t) (u : Timing) → IsIn (t, n) (zip (threads x) (zip r.threads r.obcs)) → t.timing ≡ u
      → is_in_range t ≡ true
      → list_any (is_outside 1 tick_limit) (block_works t.block) ≡ false
      → breaks_ranges (record { name = t.name; form = thread_form n.0 n.1 u t }) ≡ false
  thread-ranges t n f (timing.Cyclic period offset) j e h w =
      let a = (and_parts _ _ (ap (λ v. is_timed v && is_within 1 (timing.period_of v) t.deadline) (sym e) ∙ h)).0 in
      let b = and_parts (is_within 1 tick_limit period) (nat_le offset tick_limit) a in
      three _ false _ (three _ _ _ (ranked.threads t n j) (inside 1 tick_limit period b.0) (not-above tick_limit offset b.1)) refl
      (ap (list_any (is_outside 1 tick_limit)) (append-nil (block_works t.block)) ∙ w)
  thread-ranges t n f (timing.Sporadic op separation jitter) j e h w =
      let a = (and_parts _ _ (ap (λ v. is_timed v && is_within 1 (timing.period_of v) t.deadline) (sym e) ∙ h)).0 in
      let b = and_parts (is_within 1 tick_limit separation) (is_below jitter separation) a in
      let c = ranked.obcs t n op separation jitter j e in
      let k : Asked x f.standing.own op = asked-of written x met r fit t f op separation jitter e in
      three _ _ _
      (or_from _ _ (or_from _ _ (three _ _ _ (ranked.threads t n j) c.0 (inside 1 tick_limit separation b.0))
      (jittered jitter b.1 (and_parts _ _ b.0).0)) c.1)
      (or_from _ _ (few-params k) refl)
      (ap (list_any (is_outside 1 tick_limit)) (append-nil (block_works t.block)) ∙ w)
    where
      jittered : (i : Option ℕ) → is_below i separation ≡ true → nat_le 1 separation ≡ true
          → jitter_breaks (is_some i) separation (unwrap_or i 0) ≡ false
      jittered None q g = or_from _ _ (above-zero separation g) refl
      jittered (Some m) q g = above m separation q

      few-params : Asked x f.standing.own op → nat_lt 8 (length op.params) ≡ false
      few-params k = first f.standing.own.provides refl k.asks
        where
          first : (ps : List Provided) → f.standing.own.provides ≡ ps → request_op ps ≡ Some op → nat_lt 8 (length op.params) ≡ false
          first [] g q = let z : None ≡ Some op = q in cc
          first (p ∷ ps) g q =
              let z : Some p.sig ≡ Some op = q in
              let same : p.sig ≡ op = cc in
              let P : List Provided → Type 0 = λ y. IsIn p y in
              ap (λ (y : Signature). nat_lt 8 (length y.params)) (sym same)
              ∙ none-in (λ (y : Provided). nat_lt 8 (length y.sig.params)) p f.standing.own.provides
              (params-few written x met f.standing (terminal-object x f.standing f.stands).0) (subst P (sym g) (inl refl))

  -- the numbers of each unit
  pub ranges-right : (u : Unit) → IsIn u (program_for (flat x) r).units → breaks_ranges u ≡ false
  ranges-right u h = by (unit-from (flat x) r u h)
    where
      by : UnitFrom (flat x) r u → breaks_ranges u ≡ false
      by (OfLibrary l j e) =
          let s = library-from x l j in
          ap breaks_ranges e ∙ three false _ _ refl (ops-params s.0 l.ops s.1 (ap (λ (k : Library). k.ops) s.3))
          (ops-works s.0 l.ops s.1 (ap (λ (k : Library). k.ops) s.3))
      by (OfGuarded g c j e) =
          let s = guarded-from x g (from-zip (guarded x) r.shared (g, c) j).0 in
          ap breaks_ranges e ∙ three _ _ _ (ranked.shared g c j) (ops-params s.0 g.ops s.1 (ap (λ (k : Guarded). k.ops) s.3))
          (ops-works s.0 g.ops s.1 (ap (λ (k : Guarded). k.ops) s.3))
      by (OfThread t n j e) =
          let i = (from-zip (threads x) (zip r.threads r.obcs) (t, n) j).0 in
          let f = thread-from x t i in
          ap breaks_ranges e ∙ thread-ranges t n f t.timing j refl (thread-range written x met t i)
          (ap (λ (v : Thread). list_any (is_outside 1 tick_limit) (block_works v.block)) f.made ∙ thread-works f.standing f.block
          (terminal-object x f.standing f.stands).0 f.runs)

  pub costs-fit : costs_break x.costs ≡ false
  costs-fit = all-inside 1 1000 (costs_of x.costs) (costs-right written x met)
