-- Threads counted object by object, and what is too dear of a design object by object.
use Rattle.std.proofs.Common.{◌≡◌, ℕ, suc, Bool, true, false, ◌&&◌, List, [], ◌∷◌, ◌++◌, Option, Some, None, filter, flat_map, length}
use Rattle.std.proofs.Common.{Result, refl, ap, sym, subst, ◌∙◌}
use Rattle.std.specs.Prelude.{filter_map, option_to_list, option_and_then}
use Rattle.ods_tree.specs.Designs.{Design}
use Rattle.ods_tree.specs.Ticks.{stated_priorities}
use Rattle.ods_tree.specs.Walk.{Standing, is_terminal, objects}
use Rattle.design_rules.specs.Broken.{Broken, V15Objects, V15Threads}
use Rattle.design_rules.specs.Budgets.{bad_sizes, dear_body, dear_thread, over_limit, thread_limit}
use Rattle.design_rules.specs.Lookups.{has_thread}
use Rattle.ods_calls.specs.Costed.{dear_parts, threads_among}
use Rattle.ods_index.specs.Judging.{Tells, head_of}
use Rattle.ods_index.specs.declared.broken.Broken as code
use Rattle.ods_index.proofs.Shared.TellSteps.{head_later}

-- one object more, that runs by a thread
pub thread-more : (s : Standing) (ss : List Standing) → (is_terminal s && has_thread s.own.kind) ≡ true → length (threads_among (s ∷ ss))
    ≡ suc (length (threads_among ss))
thread-more s ss e = by (is_terminal s) (has_thread s.own.kind) refl refl e
  where
    by : (t h : Bool) → is_terminal s ≡ t → has_thread s.own.kind ≡ h → (t && h) ≡ true → length (threads_among (s ∷ ss))
        ≡ suc (length (threads_among ss))
    by false h t e k = absurd (cc)
    by true false t e k = absurd (cc)
    by true true t e k = rw (t, e) refl

-- and one that doesn't
pub thread-none : (s : Standing) (ss : List Standing) → (is_terminal s && has_thread s.own.kind) ≡ false → length (threads_among (s ∷ ss))
    ≡ length (threads_among ss)
thread-none s ss e = by (is_terminal s) (has_thread s.own.kind) refl refl e
  where
    by : (t h : Bool) → is_terminal s ≡ t → has_thread s.own.kind ≡ h → (t && h) ≡ false → length (threads_among (s ∷ ss)) ≡ length (threads_among ss)
    by false h t e k = rw t refl
    by true false t e k = rw (t, e) refl
    by true true t e k = absurd (cc)

bodies-split : {A B : Type 0} (f : A → Option B) (xs : List A) → filter_map f xs ≡ flat_map (λ a. option_to_list (f a)) xs
bodies-split f [] = refl
bodies-split {A = A} {B = B} f (a ∷ xs) = by (f a) refl (bodies-split f xs)
  where
    by : (o : Option B) → f a ≡ o → filter_map f xs ≡ flat_map (λ c. option_to_list (f c)) xs → filter_map f (a ∷ xs)
        ≡ flat_map (λ c. option_to_list (f c)) (a ∷ xs)
    by None e h = rw e h
    by (Some b) e h = rw e (ap (λ l. b ∷ l) h)

thread-split : {A B : Type 0} (f : A → Option B) (o : Option A) → filter_map f (option_to_list o) ≡ option_to_list (option_and_then f o)
thread-split f None = refl
thread-split {A = A} {B = B} f (Some a) = by (f a) refl
  where
    by : (o : Option B) → f a ≡ o → filter_map f (a ∷ []) ≡ option_to_list (f a)
    by None e = rw e refl
    by (Some b) e = rw e refl

-- what is too dear goes object by object
pub dear-split : (x : Design) (ss : List Standing)
    → flat_map (λ s. filter_map (dear_body x s.own) s.own.bodies ++ filter_map (dear_thread x s.own) (option_to_list s.own.thread))
    (filter is_terminal ss) ≡ flat_map (dear_parts x) ss
dear-split x [] = refl
dear-split x (s ∷ ss) = by (is_terminal s) refl (dear-split x ss)
  where
    by : (t : Bool) → is_terminal s ≡ t
        → flat_map (λ s. filter_map (dear_body x s.own) s.own.bodies ++ filter_map (dear_thread x s.own) (option_to_list s.own.thread))
        (filter is_terminal ss) ≡ flat_map (dear_parts x) ss
        → flat_map (λ s. filter_map (dear_body x s.own) s.own.bodies ++ filter_map (dear_thread x s.own) (option_to_list s.own.thread))
        (filter is_terminal (s ∷ ss)) ≡ flat_map (dear_parts x) (s ∷ ss)
    by false t h = rw t h
    by true t h = rw (t, bodies-split (dear_body x s.own) s.own.bodies, thread-split (dear_thread x s.own) s.own.thread, h) refl

-- what is told of the costs of parts is told of the whole, where threads and objects are not too many
pub sizes-told : (x y : Design) (ss : List Standing) (count : ℕ) (answer : Result (Unit {0}) code.Broken) → y ≡ x → ss ≡ objects x → count ≡ length ss
    → head_of (over_limit (thread_limit (stated_priorities x)) (length (threads_among ss)) (V15Threads (length (threads_among ss)))) ≡ None
    → head_of (over_limit 500 count (V15Objects count)) ≡ None
    → Tells answer (head_of (flat_map (dear_parts y) ss)) → Tells answer (head_of (bad_sizes x))
sizes-told x y ss count answer same all counted threads many h =
    let costs : Design → List Standing → List Broken = λ z vs. flat_map (dear_parts z) vs in
    let dear : List Broken = flat_map
    (λ s. filter_map (dear_body x s.own) s.own.bodies ++ filter_map (dear_thread x s.own) (option_to_list s.own.thread))
    (filter is_terminal (objects x)) in
    let first : List Standing
    → List Broken = λ vs. over_limit (thread_limit (stated_priorities x)) (length (threads_among vs)) (V15Threads (length (threads_among vs))) in
    let second : ℕ → List Broken = λ n. over_limit 500 n (V15Objects n) in
    let no-threads : head_of (first (objects x)) ≡ None = ap (λ vs. head_of (first vs)) (sym all) ∙ threads in
    let not-many : head_of (second (length (objects x)))
    ≡ None = ap (λ n. head_of (second n)) (sym (counted ∙ ap (λ (vs : List Standing). length vs) all)) ∙ many in
    let path : head_of (costs y ss) ≡ head_of (bad_sizes x) =
    ap (λ z. head_of (costs z ss)) same ∙ ap (λ vs. head_of (costs x vs)) all ∙ ap head_of (sym (dear-split x (objects x)))
    ∙ sym (head_later (second (length (objects x))) dear not-many)
    ∙ sym (head_later (first (objects x)) (second (length (objects x)) ++ dear) no-threads) in
    subst (λ w. Tells answer w) path h

pub ruleset thread_steps = (thread-more, thread-none)
