-- Names of a design without clashes: objects, their operations and their data differ, and so do the entries of the flat design.
use Rattle.std.proofs.Common.{◌≡◌, ℕ, Bool, true, false, not, ◌&&◌, ◌==◌, List, [], ◌∷◌, ◌++◌, ◌+◌, map, filter, flat_map, Option, Some, None}
use Rattle.std.proofs.Common.{option_map, option_and_then, refl, sym, ap, subst, ◌∙◌, arith, append-nil, inl, inr, ◌⊎◌, if◌then◌else◌}
use Rattle.std.proofs.lemmas.List.{append_assoc}
use Rattle.std.specs.List.{cons_option, enumerate_from}
use Rattle.std.proofs.lemmas.Bool.{or_parts, and_parts, not-true}
use Rattle.seq_tree.specs.Names.{Name, same_name, is_named, are_distinct}
use Rattle.seq_tree.specs.Statements.{Statements}
use Rattle.ods_tree.specs.Designs.{Design}
use Rattle.ods_tree.specs.Walk.{Standing, objects, is_terminal, terminals, only_if}
use Rattle.ods_tree.specs.Flats.{Library, Guarded, Timing, Thread}
use Rattle.ods_tree.specs.Flattening.{is_passive, is_protected, timing_by, thread_by, libraries, guarded, threads, flat, thread_at}
use Rattle.ods_tree.specs.Sound.{entry_names}
use Rattle.ods_tree.specs.declared.design.Kind.{Kind}
use Rattle.ods_tree.specs.declared.design.Kind.TheVariants as kind
use Rattle.design_rules.specs.Broken.{Broken, V01}
use Rattle.design_rules.specs.Clashes.{Role, Whole, Single, Member, Parameter, Mention, excludes, mention, operation_mentions, body_mentions}
use Rattle.design_rules.specs.Clashes.{thread_mentions, object_mentions, is_bodied, is_taken, clashes_after, clashes}
use Rattle.law_designs.proofs.Shared.Lists.{in-cases, from-map, unnamed-from, differ-if, placed, distinct-append, distinct-taken, key-eq, unnamed-at}
use Rattle.law_designs.proofs.Shared.Flattened.{library_by, guarded_by, library-from, guarded-from, thread-from, timed-kind}
use Rattle.law_lists.proofs.Shared.Facts.{is-same}
use Rattle.law_lists.proofs.Shared.Lists.{in-left, in-map, in-flat, in-filter, none-in, IsIn}

pub free-head : (b : Bool) (a : Broken) (rest : List Broken) → cons_option (only_if b a) rest ≡ [] → (b ≡ false) × (rest ≡ [])
free-head true a rest e = absurd (let z : a ∷ rest ≡ [] = e in cc)
free-head false a rest e = (refl, e)

-- what comes later has no name of what comes earlier and excludes it
pub later-free : (earlier ms : List Mention) (a b : Mention) → clashes_after earlier ms ≡ [] → IsIn a earlier → IsIn b ms
    → excludes a.role b.role ≡ true → a.name ≡ b.name → ⊥
later-free earlier [] a b e h k x same = k
later-free earlier (m ∷ ms) a b e h (inl s) x same =
    let taken = (or_parts _ _ (free-head (is_taken earlier m) (V01 m.name) _ e).0).0 in
    let none = none-in (λ z. same_name z.name m.name && excludes z.role m.role) a earlier taken h in
    let P : Mention → Type 0 = λ z. (same_name a.name z.name && excludes a.role z.role) ≡ false in
    let both : (same_name a.name b.name && excludes a.role b.role) ≡ false = subst P s none in
    let z : true ≡ false = sym (ap (λ t. t && excludes a.role b.role) (is-same a.name b.name same) ∙ x) ∙ both in cc
later-free earlier (m ∷ ms) a b e h (inr k) x same
    = later-free (m ∷ earlier) ms a b (free-head (is_taken earlier m) (V01 m.name) _ e).1 (inr h) k x same

-- a later part of a list without clashes
pub rest-free : (xs ys earlier : List Mention) → clashes_after earlier (xs ++ ys) ≡ [] → (before : List Mention) × (clashes_after before ys ≡ [])
    × ((a : Mention) → IsIn a xs ⊎ IsIn a earlier → IsIn a before)
rest-free [] ys earlier e = (earlier, e, keep)
  where
    keep : (a : Mention) → IsIn a [] ⊎ IsIn a earlier → IsIn a earlier
    keep a (inl h) = absurd h
    keep a (inr h) = h
rest-free (x ∷ xs) ys earlier e = by (rest-free xs ys (x ∷ earlier) (free-head (is_taken earlier x) (V01 x.name) _ e).1)
  where
    by : ((before : List Mention) × (clashes_after before ys ≡ []) × ((a : Mention) → IsIn a xs ⊎ IsIn a (x ∷ earlier) → IsIn a before))
        → (before : List Mention) × (clashes_after before ys ≡ []) × ((a : Mention) → IsIn a (x ∷ xs) ⊎ IsIn a earlier → IsIn a before)
    by (before, k, all) = (before, k, λ a h. all a (move a h))
      where
        move : (a : Mention) → IsIn a (x ∷ xs) ⊎ IsIn a earlier → IsIn a xs ⊎ IsIn a (x ∷ earlier)
        move a (inl (inl s)) = inr (inl s)
        move a (inl (inr s)) = inl s
        move a (inr s) = inr (inr s)

-- and an earlier one
pub first-free : (xs ys earlier : List Mention) → clashes_after earlier (xs ++ ys) ≡ [] → clashes_after earlier xs ≡ []
first-free [] ys earlier e = refl
first-free (x ∷ xs) ys earlier e =
    let p = free-head (is_taken earlier x) (V01 x.name) (clashes_after (x ∷ earlier) (xs ++ ys)) e in
    ap (λ b. cons_option (only_if b (V01 x.name)) (clashes_after (x ∷ earlier) xs)) p.0 ∙ first-free xs ys (x ∷ earlier) p.1

-- what stands in two parts, one after another, and excludes each other has two names
pub cross-free : (earlier xs ys : List Mention) (a b : Mention) → clashes_after earlier (xs ++ ys) ≡ [] → IsIn a xs → IsIn b ys
    → excludes a.role b.role ≡ true → a.name ≡ b.name → ⊥
cross-free earlier xs ys a b e h k x same =
    let r = rest-free xs ys earlier e in later-free r.0 ys a b r.1 (r.2 a (inl h)) k x same

-- two that exclude each other and aren't one have two names
pub pair-free : (earlier ms : List Mention) (a b : Mention) → clashes_after earlier ms ≡ [] → IsIn a ms → IsIn b ms → excludes a.role b.role ≡ true
    → excludes b.role a.role ≡ true → (a ≡ b → ⊥)
    → a.name ≡ b.name → ⊥
pair-free earlier [] a b e h k x y apart same = h
pair-free earlier (m ∷ ms) a b e (inl s) (inl t) x y apart same = apart (sym s ∙ t)
pair-free earlier (m ∷ ms) a b e (inl s) (inr t) x y apart same
    = later-free (m ∷ earlier) ms a b (free-head (is_taken earlier m) (V01 m.name) _ e).1 (inl s) t x same
pair-free earlier (m ∷ ms) a b e (inr s) (inl t) x y apart same
    = later-free (m ∷ earlier) ms b a (free-head (is_taken earlier m) (V01 m.name) _ e).1 (inl t) s y (sym same)
pair-free earlier (m ∷ ms) a b e (inr s) (inr t) x y apart same
    = pair-free (m ∷ earlier) ms a b (free-head (is_taken earlier m) (V01 m.name) _ e).1 s t x y apart same

-- things that each begin with a name of one role that excludes itself have names that differ
pub heads-distinct : {A : Type 0} (r : Role) (key : A → Name) (inner : A → List Mention) (xs : List A) (tail earlier : List Mention)
    → excludes r r ≡ true
    → clashes_after earlier (flat_map (λ a. mention r (key a) ∷ inner a) xs ++ tail) ≡ [] → are_distinct (map key xs) ≡ true
heads-distinct r key inner [] tail earlier x e = refl
heads-distinct {A} r key inner (a ∷ as') tail earlier x e =
    let parts : clashes_after earlier ((mention r (key a) ∷ inner a) ++ (flat_map (λ b. mention r (key b) ∷ inner b) as' ++ tail)) ≡ [] =
    ap (clashes_after earlier) (sym (append_assoc (mention r (key a) ∷ inner a) (flat_map (λ b. mention r (key b) ∷ inner b) as') tail)) ∙ e in
    let rest = rest-free (mention r (key a) ∷ inner a) (flat_map (λ b. mention r (key b) ∷ inner b) as' ++ tail) earlier parts in
    ap (λ b. not b && are_distinct (map key as')) (unnamed-from (map key as') (key a) (λ h. fresh parts (from-map key as' (key a) h)))
    ∙ heads-distinct r key inner as' tail rest.0 x rest.1
  where
    fresh : clashes_after earlier ((mention r (key a) ∷ inner a) ++ (flat_map (λ b. mention r (key b) ∷ inner b) as' ++ tail)) ≡ []
        → (b : A) × IsIn b as' × (key a ≡ key b) → ⊥
    fresh parts (b, h, same) =
        cross-free earlier (mention r (key a) ∷ inner a) (flat_map (λ c. mention r (key c) ∷ inner c) as' ++ tail) (mention r (key a))
        (mention r (key b)) parts (inl refl)
        (in-left (mention r (key b)) (flat_map (λ c. mention r (key c) ∷ inner c) as') tail
        (in-flat (λ c. mention r (key c) ∷ inner c) b (mention r (key b)) as' h (inl refl))) x same

-- the objects of a list by their places
enumerated : {A B : Type 0} (f : A → B) (n : ℕ) (xs : List A) → map (λ p. f p.1) (enumerate_from n xs) ≡ map f xs
enumerated f n [] = refl
enumerated f n (x ∷ xs) = ap (λ t. f x ∷ t) (enumerated f (n + 1) xs)

-- the names of an object behind its own
abbrev pub inner_mentions : ℕ × Standing → List Mention
inner_mentions s =
    flat_map (operation_mentions s.0 s.1.own) s.1.own.provides
    ++ (map (λ d. mention (Member s.0) d.name) s.1.own.vars
    ++ (flat_map (body_mentions s.0) (enumerate_from 0 s.1.own.bodies) ++ thread_mentions s.0 s.1.own s.1.own.thread))

pub object-names : (x : Design) → clashes x ≡ [] → are_distinct (map (λ s. s.own.name) (objects x)) ≡ true
object-names x e =
    let rest : clashes_after (mention Whole x.name ∷ []) (flat_map object_mentions (enumerate_from 0 (objects x)) ++ []) ≡ [] =
    ap (clashes_after (mention Whole x.name ∷ [])) (append-nil (flat_map object_mentions (enumerate_from 0 (objects x)))) ∙
    (free-head (is_taken [] (mention Whole x.name)) (V01 x.name) _ e).1 in
    ap are_distinct (sym (enumerated (λ s. s.own.name) 0 (objects x)))
    ∙ heads-distinct Single (λ p. p.1.own.name) inner_mentions (enumerate_from 0 (objects x)) [] (mention Whole x.name ∷ []) refl rest

-- the design has no object's name
pub design-name : (x : Design) (s : Standing) → clashes x ≡ [] → IsIn s (objects x) → same_name x.name s.own.name ≡ false
design-name x s e h = by (placed 0 (objects x) s h)
  where
    by : (k : ℕ) × IsIn (k, s) (enumerate_from 0 (objects x)) → same_name x.name s.own.name ≡ false
    by (k, j) = differ-if x.name s.own.name (
        later-free (mention Whole x.name ∷ []) (flat_map object_mentions (enumerate_from 0 (objects x))) (mention Whole x.name)
        (mention Single s.own.name)
        (free-head (is_taken [] (mention Whole x.name)) (V01 x.name) _ e).1 (inl refl)
        (in-flat object_mentions (k, s) (mention Single s.own.name) (enumerate_from 0 (objects x)) j (inl refl)) refl)

-- the names of one object have no clash, behind those before them
pub record FreeInside (x : Design) (s : Standing) : Type 0 where
  pub place : ℕ
  pub stands : IsIn (place, s) (enumerate_from 0 (objects x))
  pub before : List Mention
  pub free : clashes_after before (inner_mentions (place, s)) ≡ []

pub inside-free : (x : Design) (s : Standing) → clashes x ≡ [] → IsIn s (objects x) → FreeInside x s
inside-free x s e h =
    let r = at 0 (objects x) (mention Whole x.name ∷ []) h (free-head (is_taken [] (mention Whole x.name)) (V01 x.name) _ e).1 in
    record { place = r.0; stands = r.1; before = r.2; free = r.3 }
  where
    at : (n : ℕ) (ss : List Standing) (earlier : List Mention) → IsIn s ss
        → clashes_after earlier (flat_map object_mentions (enumerate_from n ss)) ≡ []
        → (place : ℕ) × IsIn (place, s) (enumerate_from n ss) × (before : List Mention) × (clashes_after before (inner_mentions (place, s)) ≡ [])
    at n [] earlier j k = absurd j
    at n (t ∷ ss) earlier (inl g) k =
        let first = first-free (object_mentions (n, t)) (flat_map object_mentions (enumerate_from (n + 1) ss)) earlier k in
        let P : Standing → Type 0 = λ z. clashes_after (mention Single t.own.name ∷ earlier) (inner_mentions (n, z)) ≡ [] in (
          n,
          inl (ap (λ z. (n, z)) g),
          mention Single t.own.name ∷ earlier,
          subst P g (free-head (is_taken earlier (mention Single t.own.name))
              (V01 t.own.name) _ first).1,
        )
    at n (t ∷ ss) earlier (inr j) k =
        let r = rest-free (object_mentions (n, t)) (flat_map object_mentions (enumerate_from (n + 1) ss)) earlier k in
        let q = at (n + 1) ss r.0 j r.1 in (q.0, inr q.1, q.2, q.3)

pub same-place : (n : ℕ) → (n == n) ≡ true
same-place n = grind arith

pub op-names : (x : Design) (s : Standing) → clashes x ≡ [] → IsIn s (objects x) → are_distinct (map (λ p. p.sig.name) s.own.provides) ≡ true
op-names x s e h =
    let r = inside-free x s e h in
    heads-distinct (Member r.place) (λ p. p.sig.name) (λ p. map (λ q. mention (Parameter r.place p.sig.name (is_bodied s.own p)) q.name) p.sig.params)
    s.own.provides _ r.before (same-place r.place) r.free

-- the entries of the flat design
pub distinct-filter : {A : Type 0} (key : A → Name) (p : A → Bool) (xs : List A) → are_distinct (map key xs) ≡ true
    → are_distinct (map key (filter p xs)) ≡ true
distinct-filter key p [] h = refl
distinct-filter {A} key p (x ∷ xs) h = by (distinct-filter key p xs (and_parts (not (is_named (map key xs) (key x))) _ h).1) (p x)
  where
    fresh : is_named (map key (filter p xs)) (key x) ≡ false
    fresh = unnamed-from (map key (filter p xs)) (key x) (λ h'.
        let r = from-map key (filter p xs) (key x) h' in
        let P : Name → Type 0 = λ n. IsIn n (map key xs) in
        unnamed-at (map key xs) (key x) (not-true _ (and_parts (not (is_named (map key xs) (key x))) _ h).0)
        (subst P (sym r.2) (in-map key r.0 xs (in-filter p r.0 xs r.1).0)))

    by : are_distinct (map key (filter p xs)) ≡ true → (b : Bool) → are_distinct (map key (if b then x ∷ filter p xs else filter p xs)) ≡ true
    by rest true = ap (λ t. not t && are_distinct (map key (filter p xs))) fresh ∙ rest
    by rest false = rest

pub terminal-names : (x : Design) → clashes x ≡ [] → are_distinct (map (λ s. s.own.name) (terminals x)) ≡ true
terminal-names x e = distinct-filter (λ s. s.own.name) is_terminal (objects x) (object-names x e)

-- a kind is one only
passive-not-protected : (k : Kind) → is_passive k ≡ true → is_protected k ≡ true → ⊥
passive-not-protected kind.Passive e h = cc
passive-not-protected kind.Active e h = cc
passive-not-protected kind.Protected e h = cc
passive-not-protected kind.Cyclic e h = cc
passive-not-protected kind.Sporadic e h = cc

-- what an option gives has the name of what gives it
if-name : {A : Type 0} (other : A → Name) (b : Bool) (a c : A) (n : Name) → other a ≡ n → (if b then Some a else None) ≡ Some c → other c ≡ n
if-name other true a c n e h = (let z : Some a ≡ Some c = h in let k : a ≡ c = cc in ap other (sym k) ∙ e)
if-name other false a c n e h = (let z : None ≡ Some c = h in cc)

thread-name : (x : Design) (s : Standing) (t : Thread) → thread_by x s.own ≡ Some t → t.name ≡ s.own.name
thread-name x s t = by (timing_by s.own.kind s.own) s.own.thread
  where
    by : (u : Option Timing) (b : Option Statements) → option_and_then (λ v. option_map (thread_at x s.own v) b) u ≡ Some t → t.name ≡ s.own.name
    by None b e = (let z : None ≡ Some t = e in cc)
    by (Some v) None e = (let z : None ≡ Some t = e in cc)
    by (Some v) (Some b) e = (let z : Some (thread_at x s.own v b) ≡ Some t = e in let k : thread_at x s.own v b ≡ t = cc
        in sym (ap (λ (w : Thread). w.name) k))

pub flat-names : (x : Design) → clashes x ≡ [] → are_distinct (entry_names (flat x)) ≡ true
flat-names x e =
    distinct-append (map (λ (l : Library). l.name) (libraries x)) (map (λ (g : Guarded). g.name) (guarded x)
    ++ map (λ (t : Thread). t.name) (threads x))
    (distinct-taken (λ s. s.own.name) (λ (l : Library). l.name) (λ s. if is_passive s.own.kind then Some (library_by x s.own) else None) (terminals x)
    (λ s l h. if-name (λ (l : Library). l.name) (is_passive s.own.kind) (library_by x s.own) l s.own.name refl h) names)
    (distinct-append (map (λ (g : Guarded). g.name) (guarded x)) (map (λ (t : Thread). t.name) (threads x))
    (distinct-taken (λ s. s.own.name) (λ (g : Guarded). g.name) (λ s. if is_protected s.own.kind then Some (guarded_by x s.own) else None)
    (terminals x)
    (λ s g h. if-name (λ (g : Guarded). g.name) (is_protected s.own.kind) (guarded_by x s.own) g s.own.name refl h) names)
    (distinct-taken (λ s. s.own.name) (λ (t : Thread). t.name) (λ s. thread_by x s.own) (terminals x) (λ s t h. thread-name x s t h) names)
    guarded-threads)
    libraries-others
  where
    names : are_distinct (map (λ s. s.own.name) (terminals x)) ≡ true
    names = terminal-names x e

    one : (s t : Standing) → IsIn s (terminals x) → IsIn t (terminals x) → s.own.name ≡ t.own.name → s ≡ t
    one = key-eq (λ s. s.own.name) (terminals x) names

    guarded-threads : (n : Name) → IsIn n (map (λ (g : Guarded). g.name) (guarded x)) → IsIn n (map (λ (t : Thread). t.name) (threads x)) → ⊥
    guarded-threads n h k =
        let a = from-map (λ (g : Guarded). g.name) (guarded x) n h in
        let b = from-map (λ (t : Thread). t.name) (threads x) n k in
        let s = guarded-from x a.0 a.1 in
        let t = thread-from x b.0 b.1 in
        let same : s.0 ≡ t.standing = one s.0 t.standing s.1 t.stands
        (sym (ap (λ (g : Guarded). g.name) s.3) ∙ sym a.2 ∙ b.2 ∙ ap (λ (u : Thread). u.name) t.made) in
        let z : true ≡ false = sym s.2 ∙ ap (λ z. is_protected z.own.kind) same ∙ timed-kind is_protected false t.standing.own t.timing refl refl
        t.timed in cc

    libraries-others : (n : Name) → IsIn n (map (λ (l : Library). l.name) (libraries x))
        → IsIn n (map (λ (g : Guarded). g.name) (guarded x) ++ map (λ (t : Thread). t.name) (threads x)) → ⊥
    libraries-others n h k = by (from-map (λ (l : Library). l.name) (libraries x) n h)
        (in-cases (map (λ (g : Guarded). g.name) (guarded x)) (map (λ (t : Thread). t.name) (threads x)) n k)
      where
        by : (l : Library) × IsIn l (libraries x) × (n ≡ l.name) → IsIn n (map (λ (g : Guarded). g.name) (guarded x))
            ⊎ IsIn n (map (λ (t : Thread). t.name) (threads x)) → ⊥
        by (l, j, d) (inl m) =
            let b = from-map (λ (g : Guarded). g.name) (guarded x) n m in
            let s = library-from x l j in
            let t = guarded-from x b.0 b.1 in
            let same : s.0 ≡ t.0 = one s.0 t.0 s.1 t.1 (sym (ap (λ (l : Library). l.name) s.3) ∙ sym d ∙ b.2 ∙ ap (λ (g : Guarded). g.name) t.3) in
            passive-not-protected t.0.own.kind (sym (ap (λ z. is_passive z.own.kind) same) ∙ s.2) t.2
        by (l, j, d) (inr m) =
            let b = from-map (λ (t : Thread). t.name) (threads x) n m in
            let s = library-from x l j in
            let t = thread-from x b.0 b.1 in
            let same : s.0 ≡ t.standing = one s.0 t.standing s.1 t.stands
            (sym (ap (λ (l : Library). l.name) s.3) ∙ sym d ∙ b.2 ∙ ap (λ (u : Thread). u.name) t.made) in
            let z : true ≡ false = sym s.2 ∙ ap (λ z. is_passive z.own.kind) same ∙ timed-kind is_passive false t.standing.own t.timing refl refl
            t.timed in cc
