-- What the lower rules say of the operations of an object without children: their names differ, and bodies fit them.
use Rattle.std.proofs.Common.{◌≡◌, ℕ, suc, ◌+◌, Bool, true, false, not, ◌&&◌, ◌==◌, List, [], ◌∷◌, ◌++◌, filter, flat_map, filter_map, length}
use Rattle.std.proofs.Common.{find, Some, option_map, refl, sym, ap, subst, ◌∙◌, arith, inl, inr, ◌⊎◌, if◌then◌else◌}
use Rattle.std.specs.Prelude.{⊤}
use Rattle.std.specs.List.{cons_option, enumerate_from}
use Rattle.std.proofs.lemmas.Bool.{and_from, eqb-true, or_left, false_from_ne_true, not-true, not-false}
use Rattle.std.proofs.lemmas.List.Filters.{length-filter_both}
use Rattle.seq_tree.proofs.Shared.SameNames.{is-same, same-is}
use Rattle.seq_tree.specs.Names.{Name, same_name}
use Rattle.ods_tree.specs.Designs.{Body, Object, Provided, Design}
use Rattle.ods_tree.specs.Flattening.{body_named}
use Rattle.ods_tree.specs.Walk.{Standing, objects, terminals, is_terminal, only_if}
use Rattle.design_rules.specs.Broken.{V01, V05}
use Rattle.design_rules.specs.Clashes.{Member, Mention, excludes, mention, clashes, clashes_after, is_taken, mentions, object_mentions}
use Rattle.design_rules.specs.Clashes.{operation_mentions}
use Rattle.design_rules.specs.Fittings.{bad_fittings, body_count, is_provided, misfits, misfits_terminal, wanted_bodies}
use Rattle.design_rules.specs.Lookups.{provided_named, is_sporadic}
use Rattle.design_rules.specs.Rules.{Clash, Fitting}
use Rattle.ods_index.specs.Judging.{Passes}
use Rattle.ods_calls.proofs.CallRings.{bodies-fit, in-place}
use Rattle.ods_calls.proofs.Items.{In, any-in, from-filter, in-flat, in-left, in-right, in-taken}

-- one item of a list before another
abbrev Before : {A : Type 0} → A → A → List A → Type 0
Before a b [] = ⊥
Before a b (c ∷ cs) = ((c ≡ a) × In b cs) ⊎ Before a b cs

before-left : {A : Type 0} (a b : A) (xs ys : List A) → Before a b xs → Before a b (xs ++ ys)
before-left a b [] ys h = absurd h
before-left a b (x ∷ xs) ys (inl (e, h)) = inl (e, in-left b xs ys h)
before-left a b (x ∷ xs) ys (inr h) = inr (before-left a b xs ys h)

before-right : {A : Type 0} (a b : A) (xs ys : List A) → Before a b ys → Before a b (xs ++ ys)
before-right a b [] ys h = h
before-right a b (x ∷ xs) ys h = inr (before-right a b xs ys h)

before-flat : {A B : Type 0} (f : A → List B) (x : A) (a b : B) (xs : List A) → In x xs → Before a b (f x) → Before a b (flat_map f xs)
before-flat f x a b [] h k = absurd h
before-flat {A} f x a b (y ∷ xs) (inl e) k =
    let P : A → Type 0 = λ z. Before a b (f z) in before-left a b (f y) (flat_map f xs) (subst P (sym e) k)
before-flat f x a b (y ∷ xs) (inr h) k = before-right a b (f y) (flat_map f xs) (before-flat f x a b xs h k)

-- what is told behind a name is told
told-behind : (earlier : List Mention) (m : Mention) (ms : List Mention) (b : Mention) → In (V01 b.name) (clashes_after (m ∷ earlier) ms)
    → In (V01 b.name) (clashes_after earlier (m ∷ ms))
told-behind earlier m ms b = by (is_taken earlier m)
  where
    by : (t : Bool) → In (V01 b.name) (clashes_after (m ∷ earlier) ms)
        → In (V01 b.name) (cons_option (only_if t (V01 m.name)) (clashes_after (m ∷ earlier) ms))
    by true j = inr j
    by false j = j

-- a name that an earlier one has and excludes is told
later-told : (earlier ms : List Mention) (a b : Mention) → In a earlier → In b ms → (same_name a.name b.name && excludes a.role b.role) ≡ true
    → In (V01 b.name) (clashes_after earlier ms)
later-told earlier [] a b h k e = absurd k
later-told earlier (m ∷ ms) a b h (inl s) e =
    let P : Mention → Type 0 = λ z. (same_name a.name z.name && excludes a.role z.role) ≡ true in
    let taken : is_taken earlier m ≡ true =
    or_left _ _ (any-in (λ z. same_name z.name m.name && excludes z.role m.role) a earlier h (subst P (sym s) e)) in
    let Q : Bool → Type 0 = λ t. In (V01 b.name) (cons_option (only_if t (V01 m.name)) (clashes_after (m ∷ earlier) ms)) in
    subst Q (sym taken) (inl (ap (λ (z : Mention). V01 z.name) s))
later-told earlier (m ∷ ms) a b h (inr k) e = told-behind earlier m ms b (later-told (m ∷ earlier) ms a b (inr h) k e)

before-told : (earlier ms : List Mention) (a b : Mention) → Before a b ms → (same_name a.name b.name && excludes a.role b.role) ≡ true
    → In (V01 b.name) (clashes_after earlier ms)
before-told earlier [] a b h e = absurd h
before-told earlier (m ∷ ms) a b (inl (s, k)) e = told-behind earlier m ms b (later-told (m ∷ earlier) ms a b (inl s) k e)
before-told earlier (m ∷ ms) a b (inr k) e = told-behind earlier m ms b (before-told (m ∷ earlier) ms a b k e)

-- operations of which no two have one name
abbrev pub AreApart : List Provided → Type 0
AreApart [] = ⊤
AreApart (p ∷ ps) = ((q : Provided) → In q ps → same_name p.sig.name q.sig.name ≡ false) × AreApart ps

apart-from : (ps : List Provided) → ((p q : Provided) → Before p q ps → same_name p.sig.name q.sig.name ≡ false) → AreApart ps
apart-from [] all = tt
apart-from (p ∷ ps) all = (λ q h. all p q (inl (refl, h)), apart-from ps (λ a b h. all a b (inr h)))

placed-in : {A : Type 0} (n : ℕ) (xs : List A) (x : A) → In x xs → (k : ℕ) × In (k, x) (enumerate_from n xs)
placed-in n [] x h = absurd h
placed-in {A} n (y ∷ xs) x (inl e) = (n, inl (ap (λ (z : A). (n, z)) e))
placed-in n (y ∷ xs) x (inr h) = let r = placed-in (n + 1) xs x h in (r.0, inr r.1)

heads-before : (k : ℕ) (o : Object) (p q : Provided) (ps : List Provided) → Before p q ps
    → Before (mention (Member k) p.sig.name) (mention (Member k) q.sig.name) (flat_map (operation_mentions k o) ps)
heads-before k o p q [] h = absurd h
heads-before k o p q (r ∷ ps) (inl (e, h)) =
    inl (
      ap (λ (z : Provided). mention (Member k) z.sig.name) e,
      in-right _ _ (flat_map (operation_mentions k o) ps) (in-flat (operation_mentions k o) q (mention (Member k) q.sig.name) ps h (inl refl)),
    )
heads-before k o p q (r ∷ ps) (inr h) =
    before-right _ _ (operation_mentions k o r) (flat_map (operation_mentions k o) ps) (heads-before k o p q ps h)

-- where names don't clash, those of the operations of an object differ
ops-apart : (x : Design) → Passes x Clash → (s : Standing) → In s (objects x) → AreApart s.own.provides
ops-apart x passes s h = apart-from s.own.provides (λ p q k. false_from_ne_true (same_name p.sig.name q.sig.name) (λ e.
    let at = placed-in 0 (objects x) s h in
    let a : Mention = mention (Member at.0) p.sig.name in
    let b : Mention = mention (Member at.0) q.sig.name in
    let inside : Before a b (object_mentions (at.0, s)) = inr (before-left a b (flat_map (operation_mentions at.0 s.own) s.own.provides) _
    (heads-before at.0 s.own p q s.own.provides k)) in
    let whole : Before a b (mentions x) = inr (before-flat object_mentions (at.0, s) a b (enumerate_from 0 (objects x)) at.1 inside) in
    let same : (at.0 == at.0) ≡ true = grind arith in
    let told = in-place (V01 b.name) (clashes x) (before-told [] (mentions x) a b whole (and_from _ _ e same)) in
    passes told.0 (V01 b.name) told.1))

-- where the parts of objects fit, an operation that is no request has one body
one-body : (x : Design) → Passes x Fitting → (s : Standing) → In s (terminals x) → (p : Provided) → In p s.own.provides
    → is_sporadic s.own.kind ≡ false → body_count s.own p.sig.name ≡ 1
one-body x passes s h p k idle =
    let f = from-filter is_terminal s (objects x) h in
    let wanted : wanted_bodies s.own p ≡ 1 = rw idle refl in
    let fits : not (body_count s.own p.sig.name == wanted_bodies s.own p) ≡ false =
    false_from_ne_true (not (body_count s.own p.sig.name == wanted_bodies s.own p)) (λ e.
    let any = any-in (λ q. not (body_count s.own q.sig.name == wanted_bodies s.own q)) p s.own.provides k e in
    let mis : misfits_terminal s.own ≡ true = or_left _ _ (or_left _ _ (or_left _ _ (or_left _ _ (or_left _ _ any)))) in
    let test : misfits (is_terminal s) s ≡ true = ap (λ t. misfits t s) f.1 ∙ mis in
    let at = in-place (V05 s.own.name) (bad_fittings x) (in-taken (λ t. only_if (misfits (is_terminal t) t) (V05 t.own.name)) s (V05 s.own.name)
    (objects x) f.0 (ap (λ t. only_if t (V05 s.own.name)) test)) in
    passes at.0 (V05 s.own.name) at.1) in
    eqb-true (body_count s.own p.sig.name) (wanted_bodies s.own p) (not-false _ fits) ∙ wanted

-- an object with one body for each of its operations, and no other
pub record HasBodies (o : Object) : Type 0 where
  pub apart : AreApart o.provides
  pub once : (p : Provided) → In p o.provides → body_count o p.sig.name ≡ 1
  pub provided : (b : Body) → In b o.bodies → is_provided (provided_named b.name o.provides) ≡ true

pub has-bodies : (x : Design) → Passes x Clash → Passes x Fitting → (s : Standing) → In s (terminals x) → is_sporadic s.own.kind ≡ false
    → HasBodies s.own
has-bodies x clash fit s h idle = record {
  apart = ops-apart x clash s (from-filter is_terminal s (objects x) h).0;
  once = λ p k. one-body x fit s h p k idle;
  provided = bodies-fit x fit s h;
}

-- what is found is in the list and passes the test
pub find-in : {A : Type 0} (test : A → Bool) (xs : List A) (a : A) → find test xs ≡ Some a → In a xs × (test a ≡ true)
find-in test [] a e = cc
find-in {A} test (x ∷ xs) a e = by (find-in test xs a) (test x) refl e
  where
    by : (find test xs ≡ Some a → In a xs × (test a ≡ true)) → (t : Bool) → test x ≡ t → (if t then Some x else find test xs) ≡ Some a
        → In a (x ∷ xs) × (test a ≡ true)
    by rest true s k = let z : x ≡ a = cc in (inl z, ap test (sym z) ∙ s)
    by rest false s k = let r = rest k in (inr r.0, r.1)

-- of one that is there the first is found
one-found : {A : Type 0} (test : A → Bool) (xs : List A) → length (filter test xs) ≡ 1 → (a : A) × (find test xs ≡ Some a)
one-found test [] e = absurd (omega (arith, e))
one-found {A} test (x ∷ xs) e = by (one-found test xs) (test x) e
  where
    by : (length (filter test xs) ≡ 1 → (a : A) × (find test xs ≡ Some a)) → (t : Bool)
        → length (if t then x ∷ filter test xs else filter test xs) ≡ 1 → (a : A) × ((if t then Some x else find test xs) ≡ Some a)
    by rest true k = (x, refl)
    by rest false k = rest k

-- what has a body, each operation by that
pub all-given : {A : Type 0} (f : Provided → Body → A) (bs : List Body) (ps : List Provided)
    → ((p : Provided) → In p ps → length (filter (λ b. same_name b.name p.sig.name) bs) ≡ 1)
    → length (filter_map (λ p. option_map (f p) (body_named p.sig.name bs)) ps) ≡ length ps
all-given f bs [] once = refl
all-given f bs (p ∷ ps) once =
    let b = one-found (λ c. same_name c.name p.sig.name) bs (once p (inl refl)) in
    ap (λ o. length (cons_option (option_map (f p) o) (filter_map (λ q. option_map (f q) (body_named q.sig.name bs)) ps))) b.1
    ∙ ap suc (all-given f bs ps (λ q h. once q (inr h)))

-- a test passes on what another doesn't leave out
kept-filter : {A : Type 0} (test keep : A → Bool) (xs : List A) → ((a : A) → test a ≡ true → keep a ≡ true)
    → filter test (filter keep xs) ≡ filter test xs
kept-filter test keep [] all = refl
kept-filter {A} test keep (x ∷ xs) all = by (keep x) refl (test x) refl (kept-filter test keep xs all)
  where
    by : (k : Bool) → keep x ≡ k → (t : Bool) → test x ≡ t → filter test (filter keep xs) ≡ filter test xs
        → filter test (if k then x ∷ filter keep xs else filter keep xs) ≡ (if t then x ∷ filter test xs else filter test xs)
    by true k true t h = rw t (ap (λ l. x ∷ l) h)
    by true k false t h = rw t h
    by false k true t h = (let z : false ≡ true = sym k ∙ all x t in cc)
    by false k false t h = h

-- there are as many bodies as operations
pub as-many : (ps : List Provided) (bs : List Body) → AreApart ps
    → ((p : Provided) → In p ps → length (filter (λ b. same_name b.name p.sig.name) bs) ≡ 1)
    → ((b : Body) → In b bs → is_provided (provided_named b.name ps) ≡ true) → length bs ≡ length ps
as-many [] [] apart once all = refl
as-many [] (b ∷ bs) apart once all = (let z : false ≡ true = all b (inl refl) in cc)
as-many (p ∷ ps) bs apart once all =
    let own : Body → Bool = λ b. same_name b.name p.sig.name in
    let other : Body → Bool = λ b. not (same_name b.name p.sig.name) in
    let left : List Body = filter other bs in
    let split : length (filter own bs) + length left ≡ length bs = length-filter_both own other (λ b. refl) bs in
    let one : length (filter own bs) ≡ 1 = once p (inl refl) in
    let rest : length left ≡ length ps = as-many ps left apart.1 once-left all-left in
    omega (arith, split, one, rest)
  where
    once-left : (q : Provided) → In q ps → length (filter (λ b. same_name b.name q.sig.name) (filter (λ b. not (same_name b.name p.sig.name)) bs)) ≡ 1
    once-left q h =
        ap length (kept-filter (λ (b : Body). same_name b.name q.sig.name) (λ (b : Body). not (same_name b.name p.sig.name)) bs
        (λ b e. ap not (ap (λ n. same_name n p.sig.name) (same-is b.name q.sig.name e) ∙ swap q.sig.name p.sig.name (apart.0 q h))))
        ∙ once q (inr h)
      where
        swap : (m n : Name) → same_name n m ≡ false → same_name m n ≡ false
        swap m n e = false_from_ne_true (same_name m n) (λ k. let z : true ≡ false = sym (is-same n m (sym (same-is m n k))) ∙ e in cc)

    all-left : (b : Body) → In b (filter (λ b. not (same_name b.name p.sig.name)) bs) → is_provided (provided_named b.name ps) ≡ true
    all-left b h =
        let f = from-filter (λ (c : Body). not (same_name c.name p.sig.name)) b bs h in
        by (same_name p.sig.name b.name) refl (not-true _ f.1) (all b f.0)
      where
        by : (t : Bool) → same_name p.sig.name b.name ≡ t → same_name b.name p.sig.name ≡ false
            → is_provided (if t then Some p else provided_named b.name ps) ≡ true → is_provided (provided_named b.name ps) ≡ true
        by true e k g = (let z : true ≡ false = sym (is-same b.name p.sig.name (sym (same-is p.sig.name b.name e))) ∙ k in cc)
        by false e k g = g
