-- A sporadic thread that has a way, where ways fit all callers of a design, is requested once at most on a path, and reached by one thread
-- at most. Level by level: what requests or reaches it leads on to it, and counts once.
use Rattle.std.proofs.Common.{◌≡◌, ◌⊎◌, inl, inr, ◌≤◌, ◌<◌, ◌+◌, ℕ, zero, suc, Bool, true, false, cond, List, [], ◌∷◌, ◌++◌, Option, Some, None}
use Rattle.std.proofs.Common.{is_some, map, filter, flat_map, fold, arith, refl, ap, sym, subst, ◌∙◌}
use Rattle.std.specs.Prelude.{length, max, option_to_list, if◌then◌else◌}
use Rattle.std.specs.List.{list_any}
use Rattle.std.proofs.lemmas.List.{append-nil, map-append}
use Rattle.std.proofs.lemmas.List.Folds.{list_any-append}
use Rattle.std.proofs.lemmas.Slice.Eq.{bytes_eq-Decides}
use Rattle.std.proofs.lemmas.Bool.{and_parts, or_cases, or_parts}
use Rattle.seq_tree.specs.Calls.{same_op}
use Rattle.seq_tree.specs.Names.{Name, same_name}
use Rattle.seq_tree.specs.Statements.{Statements}
use Rattle.seq_tree.specs.declared.tree.OpName.{OpName}
use Rattle.seq_tree.proofs.Shared.Walks.{same_op-eq}
use Rattle.name_sets.specs.Places.{place_in}
use Rattle.name_sets.specs.declared.places.Places.{Places}
use Rattle.call_graph.specs.Listed.{block_listed}
use Rattle.call_graph.specs.Once.{depth_at, from_at, misfits, misfits_at, sum_of}
use Rattle.call_graph.specs.declared.ways.Ways.{Ways}
use Rattle.call_graph.proofs.Shared.ListedLaws.{counted-listed, sum-both}
use Rattle.call_graph.proofs.Shared.OnceLaws.{Led, caller-led, led-first, sum-once}
use Rattle.ods_tree.specs.Designs.{Design, Object}
use Rattle.ods_tree.specs.Links.{resolve}
use Rattle.design_rules.specs.Rings.{calls_within, inner_calls, meant_calls, terminal_ops}
use Rattle.design_rules.specs.Sources.{requests_by, starts_within}
use Rattle.ods_index.specs.Calling.{Calls}
use Rattle.ods_calls.specs.Held.{held_bodies}
use Rattle.ods_calls.specs.Requested.{block_count, call_weight, greatest_count, held_count, held_named}
use Rattle.ods_calls.specs.Keys.{held_caller, key, keys_in, target_key, thread_keys}
use Rattle.ods_calls.specs.Singles.{has_way, is_once, threads_caller}
use Rattle.ods_calls.specs.Spreading.{reaches}
use Rattle.ods_calls.specs.declared.once.Once.{Once}
use Rattle.ods_calls.proofs.Items.{In, from-flat, in-flat, in-map, some-in}
use Rattle.ods_calls.proofs.CalledLaws.{held-meant, inner-body, meant-listed, none-in}
use Rattle.ods_calls.proofs.RequestLaws.{deeper-count, fold-cons}
use Rattle.ods_calls.proofs.SourceLaws.{any-flat}

any-parts : {A : Type 0} (p : A → Bool) (xs ys : List A) → list_any p (xs ++ ys) ≡ false → (list_any p xs ≡ false) × (list_any p ys ≡ false)
any-parts p xs ys h = or_parts (list_any p xs) (list_any p ys) (sym (list_any-append p xs ys) ∙ h)

map-twice : (f g : OpName → OpName) (xs : List OpName) → map (λ c. f (g c)) xs ≡ map f (map g xs)
map-twice f g [] = refl
map-twice f g (c ∷ xs) = ap (λ l. f (g c) ∷ l) (map-twice f g xs)

-- the greater of two
abbrev Once2 : ℕ → Type 0 → Type 0
Once2 n P = (n ≤ 1) × (0 < n → P)

once-max : (a b : ℕ) (P : Type 0) → Once2 a P → Once2 b P → Once2 (max a b) P
once-max a b P h k = (grind (arith, h.0, k.0), λ more. by a refl more)
  where
    by : (n : ℕ) → a ≡ n → 0 < max a b → P
    by (suc n) e more = h.1 (omega (arith, e))
    by zero e more = k.1 (grind (arith, e, more))

one-most : (a n : ℕ) → n ≡ max a 0 → a ≤ 1 → n ≤ 1
one-most a n e h = grind (arith, e, h)

two-most : (a b n : ℕ) → n ≡ max a b → a ≤ 1 → b ≤ 1 → n ≤ 1
two-most a b n e h k = grind (arith, e, h, k)

none-more : (a b : ℕ) → a ≡ b → 0 + a ≡ b
none-more a b e = omega (arith, e)

sum-few : (a b : ℕ) → a ≡ b → b ≤ 1 → a ≤ 1
sum-few a b e h = omega (arith, e, h)

less-few : (a b : ℕ) → a ≤ b → b ≤ 1 → a ≤ 1
less-few a b e h = omega (arith, e, h)

part-left : (a b n : ℕ) → n ≡ a + b → n ≤ 1 → a ≤ 1
part-left a b n e h = omega (arith, e, h)

part-right : (a b n : ℕ) → n ≡ a + b → n ≤ 1 → b ≤ 1
part-right a b n e h = omega (arith, e, h)

some-more : (a b c : ℕ) → a ≤ b → b ≡ c → 0 < a → 0 < c
some-more a b c h e k = omega (arith, h, e, k)

module _ (x : Design) (t : Places) (depth : OpName → Option ℕ) (from : OpName → Option OpName) (target : Name) (deepest : ℕ)
    (there : is_some (place_in t target) ≡ true) (deep : depth (target_key target) ≡ Some deepest) where
  abbrev Leads : OpName → Type 0
  Leads k = Led depth from (target_key target) deepest k

  -- what an operation counts where it is called
  abbrev weigh : (OpName → ℕ) → OpName → ℕ
  weigh inner m = if same_name m.object target then 1 else inner m

  hit : (m : OpName) → same_name m.object target ≡ true → Leads (key t m)
  hit m h =
      let same : m.object ≡ target = (bytes_eq-Decides m.object target).0 h in
      let is : key t m ≡ target_key target = ap (λ (n : Name). if is_some (place_in t n) then target_key n else m) same
      ∙ ap (λ b. if b then target_key target else m) there in
      subst (λ (k : OpName). Leads k) (sym is) (led-first depth from (target_key target) deepest deep)

  weighed : (inner : OpName → ℕ) (m : OpName) → Once2 (inner m) (Leads (key t m)) → Once2 (weigh inner m) (Leads (key t m))
  weighed inner m h = by (same_name m.object target) refl
    where
      by : (b : Bool) → same_name m.object target ≡ b → Once2 (if b then 1 else inner m) (Leads (key t m))
      by true e = (omega arith, λ more. hit m e)
      by false e = h

  -- what calls count, as they are required
  sum-meant : (inner : OpName → ℕ) (needs cs : List OpName)
      → sum_of (λ c. call_weight x target inner needs c) cs
      ≡ sum_of (weigh inner) (map (resolve x) (filter (λ c. list_any (same_op c) needs) cs))
  sum-meant inner needs [] = refl
  sum-meant inner needs (c ∷ cs) = by (list_any (same_op c) needs) (sum-meant inner needs cs)
    where
      meant : List OpName
      meant = filter (λ d. list_any (same_op d) needs) cs

      by : (b : Bool) → sum_of (λ d. call_weight x target inner needs d) cs ≡ sum_of (weigh inner) (map (resolve x) meant)
          → (if b then weigh inner (resolve x c) else 0) + sum_of (λ d. call_weight x target inner needs d) cs
          ≡ sum_of (weigh inner) (map (resolve x) (cond b (c ∷ meant) meant))
      by true h = ap (λ n. weigh inner (resolve x c) + n) h
      by false h = none-more _ _ h

  abbrev meant_in : List OpName → Statements → List OpName
  meant_in needs b = map (resolve x) (filter (λ c. list_any (same_op c) needs) (block_listed false b))

  keys-meant : (needs : List OpName) (b : Statements) → keys_in t x needs b ≡ map (key t) (meant_in needs b)
  keys-meant needs b = map-twice (key t) (resolve x) (filter (λ c. list_any (same_op c) needs) (block_listed false b))

  fitting : (who : Option OpName) (needs : List OpName) (b : Statements)
      → misfits_at depth from (record { from = who; calls = keys_in t x needs b }) ≡ false
      → misfits_at depth from (record { from = who; calls = map (key t) (meant_in needs b) }) ≡ false
  fitting who needs b h = subst (λ (ks : List OpName). misfits_at depth from (record { from = who; calls = ks }) ≡ false) (keys-meant needs b) h

  module _ (inner : OpName → ℕ) (known : (m : OpName) → Once2 (inner m) (Leads (key t m))) where
    few : (m : OpName) → weigh inner m ≤ 1
    few m = (weighed inner m (known m)).0

    led : (m : OpName) → 0 < weigh inner m → Leads (key t m)
    led m = (weighed inner m (known m)).1

    -- a block counts once at most
    listed : (who : Option OpName) (needs : List OpName) (b : Statements)
        → misfits_at depth from (record { from = who; calls = keys_in t x needs b }) ≡ false
        → sum_of (λ c. call_weight x target inner needs c) (block_listed false b) ≤ 1
    listed who needs b h =
        sum-few _ (sum_of (weigh inner) (meant_in needs b)) (sum-meant inner needs (block_listed false b))
        (sum-once depth from (target_key target) deepest who (key t) (weigh inner) few led (meant_in needs b) (fitting who needs b h))

    block-less : (who : Option OpName) (needs : List OpName) (b : Statements)
        → misfits_at depth from (record { from = who; calls = keys_in t x needs b }) ≡ false
        → block_count x target inner needs b ≤ sum_of (λ c. call_weight x target inner needs c) (block_listed false b)
    block-less who needs b h = counted-listed (λ c. call_weight x target inner needs c) b (listed who needs b h)

    block-once : (who : Option OpName) (needs : List OpName) (b : Statements)
        → misfits_at depth from (record { from = who; calls = keys_in t x needs b }) ≡ false → block_count x target inner needs b ≤ 1
    block-once who needs b h = less-few _ _ (block-less who needs b h) (listed who needs b h)

    -- and its caller leads on where it counts
    block-led : (n : OpName) (needs : List OpName) (b : Statements)
        → misfits_at depth from (record { from = Some n; calls = keys_in t x needs b }) ≡ false → 0 < block_count x target inner needs b → Leads n
    block-led n needs b h more =
        caller-led depth from (target_key target) deepest n (key t) (weigh inner) led (meant_in needs b) (fitting (Some n) needs b h)
        (some-more _ _ _ (block-less (Some n) needs b h) (sum-meant inner needs (block_listed false b)) more)

    named-once : (m : OpName) (hs : List Calls) → list_any (misfits_at depth from) (map (held_caller t x) hs) ≡ false
        → Once2 (greatest_count x target inner (flat_map (held_named m) hs)) (Leads (key t m))
    named-once m [] h = (omega arith, λ more. absurd (omega (arith, more)))
    named-once m (b ∷ hs) h = by (same_op b.name m) refl (named-once m hs parts.1)
      where
        parts : (misfits_at depth from (held_caller t x b) ≡ false) × (list_any (misfits_at depth from) (map (held_caller t x) hs) ≡ false)
        parts = or_parts (misfits_at depth from (held_caller t x b)) (list_any (misfits_at depth from) (map (held_caller t x) hs)) h

        rest : List Calls
        rest = flat_map (held_named m) hs

        by : (s : Bool) → same_op b.name m ≡ s → Once2 (greatest_count x target inner rest) (Leads (key t m))
            → Once2 (greatest_count x target inner ((if s then b ∷ [] else []) ++ rest)) (Leads (key t m))
        by true e k =
            let lead : 0 < held_count x target inner b → Leads (key t m)
            = λ more. subst (λ (n : OpName). Leads (key t n)) (same_op-eq b.name m e) (block-led (key t b.name) b.needs b.block parts.0 more) in
            subst (λ (n : ℕ). Once2 n (Leads (key t m))) (sym (fold-cons (held_count x target inner b) (map (held_count x target inner) rest)))
            (once-max (held_count x target inner b) (greatest_count x target inner rest) (Leads (key t m))
            (block-once (Some (key t b.name)) b.needs b.block parts.0, lead) k)
        by false e k = k

  -- level by level
  within-once : list_any (misfits_at depth from) (map (held_caller t x) (held_bodies x)) ≡ false → (level : ℕ) (m : OpName)
      → Once2 (starts_within level x target m) (Leads (key t m))
  within-once all zero m = (omega arith, λ more. absurd (omega (arith, more)))
  within-once all (suc level) m =
      subst (λ (n : ℕ). Once2 n (Leads (key t m))) (sym (deeper-count x target level m))
      (named-once (starts_within level x target) (within-once all level) m (held_bodies x) all)

  -- what threads list
  abbrev thread_meant : Object → List OpName
  thread_meant o = flat_map (meant_in o.needs) (option_to_list o.thread)

  abbrev all_meant : List Object → List OpName
  all_meant os = flat_map thread_meant os

  keys-of : (o : Object) → thread_keys t x o ≡ map (key t) (thread_meant o)
  keys-of o = by o.thread
    where
      by : (b : Option Statements) → flat_map (keys_in t x o.needs) (option_to_list b) ≡ map (key t) (flat_map (meant_in o.needs) (option_to_list b))
      by None = refl
      by (Some b) = ap (λ l. l ++ []) (keys-meant o.needs b) ∙ sym (map-append (key t) (meant_in o.needs b) [])

  keys-all : (os : List Object) → flat_map (thread_keys t x) os ≡ map (key t) (all_meant os)
  keys-all [] = refl
  keys-all (o ∷ os) =
      ap (λ l. l ++ flat_map (thread_keys t x) os) (keys-of o) ∙ ap (λ l. map (key t) (thread_meant o) ++ l) (keys-all os)
      ∙ sym (map-append (key t) (thread_meant o) (all_meant os))

  module _ (os : List Object) (bodies : list_any (misfits_at depth from) (map (held_caller t x) (held_bodies x)) ≡ false)
      (threads : misfits_at depth from (threads_caller t x os) ≡ false) where
    -- all that threads list counts once at most
    all-once : (v : OpName → ℕ) → ((m : OpName) → Once2 (v m) (Leads (key t m))) → sum_of v (all_meant os) ≤ 1
    all-once v known =
        sum-once depth from (target_key target) deepest None (key t) v (λ m. (known m).0) (λ m. (known m).1) (all_meant os)
        (subst (λ (ks : List OpName). misfits_at depth from (record { from = None; calls = ks }) ≡ false) (keys-all os) threads)

    abbrev inner : OpName → ℕ
    inner = starts_within (length (terminal_ops x)) x target

    -- and so the requests of each thread
    thread-once : (o : Object) → sum_of (weigh inner) (thread_meant o) ≤ 1 → requests_by x target o ≤ 1
    thread-once o h = by o.thread h
      where
        by : (b : Option Statements) → sum_of (weigh inner) (flat_map (meant_in o.needs) (option_to_list b)) ≤ 1
            → fold max 0 (map (block_count x target inner o.needs) (option_to_list b)) ≤ 1
        by None k = omega arith
        by (Some b) k =
            let own : sum_of (weigh inner) (meant_in o.needs b) ≤ 1 =
            subst (λ (l : List OpName). sum_of (weigh inner) l ≤ 1) (append-nil (meant_in o.needs b)) k in
            let same = sum-meant inner o.needs (block_listed false b) in
            let few : sum_of (λ c. call_weight x target inner o.needs c) (block_listed false b) ≤ 1 = sum-few _ _ same own in
            one-most (block_count x target inner o.needs b) _ (fold-cons (block_count x target inner o.needs b) [])
            (less-few _ _ (counted-listed (λ c. call_weight x target inner o.needs c) b few) few)

    each-once : (fs : List Object) → sum_of (weigh inner) (all_meant fs) ≤ 1 → fold max 0 (map (requests_by x target) fs) ≤ 1
    each-once [] h = omega arith
    each-once (o ∷ fs) h =
        let parts = sum-both (weigh inner) (thread_meant o) (all_meant fs) in
        let one = thread-once o (part-left _ _ _ parts h) in
        let more = each-once fs (part-right _ _ _ parts h) in
        two-most (requests_by x target o) (fold max 0 (map (requests_by x target) fs)) _
        (fold-cons (requests_by x target o) (map (requests_by x target) fs)) one more

    pub threads-once : fold max 0 (map (requests_by x target) os) ≤ 1
    threads-once = each-once os (all-once (weigh inner) (weighed-all (length (terminal_ops x))))
      where
        weighed-all : (level : ℕ) (m : OpName) → Once2 (weigh (starts_within level x target) m) (Leads (key t m))
        weighed-all level m = weighed (starts_within level x target) m (within-once bodies level m)

    -- what reaches the target leads on to it
    abbrev reaching : ℕ → OpName → Bool
    reaching level m = list_any (λ c. same_name c.object target) (calls_within level x m)

    abbrev reach : ℕ → OpName → ℕ
    reach level m = if reaching level m then 1 else 0

    some-reach : (level : ℕ) (ms : List OpName) (k : OpName) → In k ms → reaching level k ≡ true → 0 < sum_of (reach level) ms
    some-reach level [] k at e = absurd at
    some-reach level (m ∷ ms) k (inl s) e =
        let one : reach level m ≡ 1 = ap (λ (z : OpName). if reaching level z then 1 else 0) s ∙ ap (λ b. if b then 1 else 0) e in
        omega (arith, one)
    some-reach level (m ∷ ms) k (inr at) e = (let h = some-reach level ms k at e in omega (arith, h))

    one-reach : (level : ℕ) (m : OpName) → (reaching level m ≡ true → Leads (key t m)) → Once2 (reach level m) (Leads (key t m))
    one-reach level m led = by (reaching level m) led
      where
        by : (b : Bool) → (b ≡ true → Leads (key t m)) → Once2 (if b then 1 else 0) (Leads (key t m))
        by true f = (omega arith, λ more. f refl)
        by false f = (omega arith, λ more. absurd (omega (arith, more)))

    reach-led : (level : ℕ) (m : OpName) → reaching level m ≡ true → Leads (key t m)
    reach-led zero m h = by (or_cases (same_name m.object target) false h)
      where
        by : (same_name m.object target ≡ true) ⊎ (false ≡ true) → Leads (key t m)
        by (inl e) = hit m e
        by (inr e) = absurd (cc)
    reach-led (suc level) m h =
        by (reach-led level)
        (or_cases (same_name m.object target) (list_any (λ c. same_name c.object target) (flat_map (calls_within level x) (inner_calls x m))) h)
      where
        caller : ((k : OpName) → reaching level k ≡ true → Leads (key t k)) → (k : OpName) → In k (inner_calls x m) → reaching level k ≡ true
            → Leads (key t m)
        caller led k at e =
            let r = inner-body x m k at in
            let P : List OpName → Type 0 = λ l. In k l in
            let fit = none-in (misfits_at depth from) (map (held_caller t x) (held_bodies x)) bodies (held_caller t x r.0)
            (in-map (held_caller t x) r.0 (held_bodies x) r.1) in
            subst (λ (z : OpName). Leads (key t z)) r.2
            (caller-led depth from (target_key target) deepest (key t r.0.name) (key t) (reach level)
            (λ n more. (one-reach level n (led n)).1 more) (meant_in r.0.needs r.0.block) (fitting (Some (key t r.0.name)) r.0.needs r.0.block fit)
            (some-reach level (meant_in r.0.needs r.0.block) k (meant-listed x r.0.needs r.0.block k (subst P (held-meant x r.0 r.1) r.3)) e))

        by : ((k : OpName) → reaching level k ≡ true → Leads (key t k)) → (same_name m.object target ≡ true)
            ⊎ (list_any (λ c. same_name c.object target) (flat_map (calls_within level x) (inner_calls x m)) ≡ true) → Leads (key t m)
        by led (inl e) = hit m e
        by led (inr e) =
            let r = some-in (λ k. reaching level k) (inner_calls x m)
            (sym (any-flat (λ c. same_name c.object target) (calls_within level x) (inner_calls x m)) ∙ e) in
            caller led r.0 r.1 r.2

    -- a thread that reaches it lists what does
    thread-reach : (level : ℕ) (o : Object) → list_any (reaching level) (flat_map (meant_calls x o) (option_to_list o.thread)) ≡ true
        → 0 < sum_of (reach level) (thread_meant o)
    thread-reach level o h =
        let r = some-in (reaching level) (flat_map (meant_calls x o) (option_to_list o.thread)) h in
        let b = from-flat (meant_calls x o) r.0 (option_to_list o.thread) r.1 in
        some-reach level (thread_meant o) r.0
        (in-flat (meant_in o.needs) b.0 r.0 (option_to_list o.thread) b.1 (meant-listed x o.needs b.0 r.0 b.2)) r.2

    count-reach : (fs : List Object) → length (filter (λ o. reaches x o target) fs) ≤ sum_of (reach (length (terminal_ops x))) (all_meant fs)
    count-reach [] = omega arith
    count-reach (o ∷ fs) =
        by (reaches x o target) refl (sum-both (reach (length (terminal_ops x))) (thread_meant o) (all_meant fs)) (count-reach fs)
      where
        rest : List Object
        rest = filter (λ f. reaches x f target) fs

        whole : ℕ
        whole = sum_of (reach (length (terminal_ops x))) (thread_meant o ++ all_meant fs)

        by : (b : Bool) → reaches x o target ≡ b
            → whole ≡ sum_of (reach (length (terminal_ops x))) (thread_meant o) + sum_of (reach (length (terminal_ops x))) (all_meant fs)
            → length rest ≤ sum_of (reach (length (terminal_ops x))) (all_meant fs) → length (cond b (o ∷ rest) rest) ≤ whole
        by true e and_parts h =
            let one = thread-reach (length (terminal_ops x)) o
            (sym (any-flat (λ c. same_name c.object target) (calls_within (length (terminal_ops x)) x)
            (flat_map (meant_calls x o) (option_to_list o.thread))) ∙ e) in
            omega (arith, and_parts, h, one)
        by false e and_parts h = omega (arith, and_parts, h)

    -- so one thread alone does
    pub sources-once : length (filter (λ o. reaches x o target) os) ≤ 1
    sources-once =
        less-few _ _ (count-reach os)
        (all-once (reach (length (terminal_ops x))) (λ m. one-reach (length (terminal_ops x)) m (reach-led (length (terminal_ops x)) m)))

-- what a table of ways that fit all callers tells
abbrev pub IsAlone : Design → List Object → Name → Type 0
IsAlone x os n = (fold max 0 (map (requests_by x n) os) ≤ 1) × (length (filter (λ o. reaches x o n) os) ≤ 1)

pub once-alone : (x : Design) (t : Once) (w : Option Ways) (os : List Object) → t.ways ≡ w
    → ((v : Ways) → w ≡ Some v → list_any (misfits v) (map (held_caller t.targets x) (held_bodies x) ++ threads_caller t.targets x os ∷ []) ≡ false)
    → (n : Name) → is_once t n ≡ true → IsAlone x os n
once-alone x t None os is fit n h =
    let parts = and_parts (is_some (place_in t.targets n)) (has_way t.ways n) h in
    let z : false ≡ true = ap (λ (v : Option Ways). has_way v n) (sym is) ∙ parts.1 in
    absurd (cc)
once-alone x t (Some v) os is fit n h =
    let parts = and_parts (is_some (place_in t.targets n)) (has_way t.ways n) h in
    let has : is_some (depth_at v (target_key n)) ≡ true = ap (λ (u : Option Ways). has_way u n) (sym is) ∙ parts.1 in
    by parts.0 (depth_at v (target_key n)) refl has
  where
    callers : (list_any (misfits v) (map (held_caller t.targets x) (held_bodies x)) ≡ false)
        × (list_any (misfits v) (threads_caller t.targets x os ∷ []) ≡ false)
    callers = any-parts (misfits v) (map (held_caller t.targets x) (held_bodies x)) (threads_caller t.targets x os ∷ []) (fit v refl)

    by : is_some (place_in t.targets n) ≡ true → (d : Option ℕ) → depth_at v (target_key n) ≡ d → is_some d ≡ true → IsAlone x os n
    by there None e k = absurd (cc)
    by there (Some r) e k =
        let threads = (or_parts (misfits v (threads_caller t.targets x os)) false callers.1).0 in (
          threads-once x t.targets (depth_at v) (from_at v) n r there e os callers.0 threads,
          sources-once x t.targets (depth_at v) (from_at v) n r there e os callers.0 threads,
        )
