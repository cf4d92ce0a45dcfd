-- No thread of a sample starts another, and each sporadic one is requested from outside alone.
use Rattle.std.proofs.Common.{◌≡◌, ℕ, zero, suc, ◌+◌, Bool, true, false, not, ◌&&◌, ◌||◌, List, [], ◌∷◌, ◌++◌, map, filter, flat_map, length}
use Rattle.std.proofs.Common.{min, max, refl, sym, ap, ◌∙◌, subst}
use Rattle.std.specs.Prelude.{Option, None, filter_map, fold, option_to_list, codes, if◌then◌else◌}
use Rattle.std.specs.List.{list_all, list_any}
use Rattle.std.proofs.lemmas.Bool.{and_left, and_right, and_from, or_right}
use Rattle.seq_tree.specs.Lists.{Each}
use Rattle.seq_tree.specs.Names.{Name, same_name}
use Rattle.seq_tree.specs.declared.tree.OpName.{OpName}
use Rattle.ods_tree.specs.Attributes.{attribute}
use Rattle.ods_tree.specs.Designs.{Object, Design}
use Rattle.ods_tree.specs.Flattening.{is_protected}
use Rattle.ods_tree.specs.Walk.{own_of, only_if, terminals}
use Rattle.ods_tree.specs.declared.design.AttrKey.TheVariants.{ArrivalJitter}
use Rattle.ods_tree.specs.declared.design.Kind.TheVariants.{Cyclic, Sporadic}
use Rattle.design_rules.specs.Lookups as lookups
use Rattle.design_rules.specs.Lookups.{has_thread}
use Rattle.design_rules.specs.Broken.{V10}
use Rattle.design_rules.specs.Rings.{terminal_ops, operation_calls, inner_calls, calls_within, protected_objects, thread_objects, thread_calls}
use Rattle.design_rules.specs.Rings.{can_start}
use Rattle.design_rules.specs.Separations.{bad_separations}
use Rattle.design_rules.specs.Sources.{bad_sources, body_starts, breaks_sources, requests_by, source_count, start_count, starts_within}
use Rattle.design_rules.proofs.Shared.WorkedRules.{objects_end}
use Rattle.sample_design.specs.Samples.{board, op_name, is_sporadic, thread_kind, thread_name, thread_object, groups, sample_design}
use Rattle.law_samples.proofs.Standing.{each-terminal, each-thread, terminals-stand, thread_standings}

abbrev next : OpName
next = op_name (codes "step") (codes "next")

abbrev note : OpName
note = op_name (codes "board") (codes "note")

-- LISTS
none-mapped : {A B : Type 0} (g : A → Option B) (xs : List A) → Each (λ a. g a ≡ None) xs → filter_map g xs ≡ []
none-mapped g [] h = refl
none-mapped g (x ∷ xs) h = rw (h.0, none-mapped g xs h.1) refl

none-joined : {A B : Type 0} (g : A → List B) (xs : List A) → Each (λ a. g a ≡ []) xs → flat_map g xs ≡ []
none-joined g [] h = refl
none-joined g (x ∷ xs) h = rw (h.0, none-joined g xs h.1) refl

none-filtered : {A : Type 0} (p : A → Bool) (xs : List A) → Each (λ a. p a ≡ false) xs → filter p xs ≡ []
none-filtered p [] h = refl
none-filtered p (x ∷ xs) h = rw (h.0, none-filtered p xs h.1) refl

all-pass : {A : Type 0} (p : A → Bool) (xs : List A) → Each (λ a. p a ≡ true) xs → list_all p xs ≡ true
all-pass p [] h = refl
all-pass p (x ∷ xs) h = and_from (p x) (list_all p xs) h.0 (all-pass p xs h.1)

each-filtered : {A B : Type 0} (P : B → Type 0) (f : A → B) (p : A → Bool) (xs : List A) → Each (λ a. p a ≡ true → P (f a)) xs
    → Each P (map f (filter p xs))
each-filtered {A = A} P f p [] h = tt
each-filtered {A = A} P f p (x ∷ xs) h = by (p x) h.0 (each-filtered P f p xs h.1)
  where
    by : (b : Bool) → (b ≡ true → P (f x)) → Each P (map f (filter p xs)) → Each P (map f (if b then x ∷ filter p xs else filter p xs))
    by true own rest = (own refl, rest)
    by false own rest = rest

each-still : {A : Type 0} (P Q : A → Type 0) (xs : List A) → ((a : A) → P a → Q a) → Each P xs → Each Q xs
each-still P Q [] f h = tt
each-still P Q (x ∷ xs) f h = (f x h.0, each-still P Q xs f h.1)

zeros-fold : {A : Type 0} (g : A → ℕ) (xs : List A) → Each (λ a. g a ≡ 0) xs → fold max 0 (map g xs) ≡ 0
zeros-fold g [] h = refl
zeros-fold g (x ∷ xs) h = rw h.0 (zeros-fold g xs h.1)

-- OBJECTS
-- the objects with a thread are threads
IsThread : ℕ → Object → Type 0
IsThread n o = (k : ℕ) × (o ≡ thread_object n k)

threads-each : (n : ℕ) → Each (IsThread n) (thread_objects (sample_design n))
unfolding IsThread
threads-each n =
    each-filtered (IsThread n) (λ s. s.own) (λ s. has_thread s.own.kind) (terminals (sample_design n))
    (each-terminal (λ s. has_thread s.own.kind ≡ true → IsThread n s.own) n (λ e. cc, (λ e. cc, tt)) (λ g k e. (k, refl)))

-- a thread is not protected
unprotected : (k : ℕ) → is_protected (thread_kind k) ≡ false
unprotected k = by (is_sporadic k)
  where
    by : (b : Bool) → is_protected (if b then Sporadic else Cyclic) ≡ false
    by true = refl
    by false = refl

-- the board alone is
protected-one : (n : ℕ) → protected_objects (sample_design n) ≡ own_of board ∷ []
protected-one n =
    ap (λ ss. map (λ s. s.own) (filter (λ s. is_protected s.own.kind) ss)) (terminals-stand n)
    ∙ ap (λ ss. own_of board ∷ map (λ s. s.own) ss)
    (none-filtered (λ s. is_protected s.own.kind) (flat_map (thread_standings n) (groups n))
    (each-thread (λ s. is_protected s.own.kind ≡ false) n (λ g k. unprotected k)))

-- CALLS
-- the two calls of a thread mean what they say, and lead to no further calls
no_inner-next : (n : ℕ) → inner_calls (sample_design n) next ≡ []
no_inner-next n =
    ap (λ os. flat_map (λ o. operation_calls (sample_design n) o next.op) (filter (λ o. same_name o.name next.object) os)) (protected-one n)

no_inner-note : (n : ℕ) → inner_calls (sample_design n) note ≡ []
no_inner-note n =
    ap (λ os. flat_map (λ o. operation_calls (sample_design n) o note.op) (filter (λ o. same_name o.name note.object) os)) (protected-one n)

alone : (depth : ℕ) (x : Design) (c : OpName) → inner_calls x c ≡ [] → calls_within depth x c ≡ c ∷ []
alone zero x c none = refl
alone (suc depth) x c none = ap (λ cs. c ∷ flat_map (calls_within depth x) cs) none

thread_calls-are : (n k : ℕ) → thread_calls (sample_design n) (thread_object n k) ≡ next ∷ note ∷ []
thread_calls-are n k =
    let depth = length (terminal_ops (sample_design n)) in
    ap (λ cs. cs ++ (calls_within depth (sample_design n) note ++ [])) (alone depth (sample_design n) next (no_inner-next n))
    ∙ ap (λ cs. next ∷ (cs ++ [])) (alone depth (sample_design n) note (no_inner-note n))

-- so no thread can start another
starts-none : (n j k : ℕ) → can_start (sample_design n) (thread_object n j) (thread_object n k) ≡ false
starts-none n j k =
    ap (λ cs. lookups.is_sporadic (thread_kind k) && list_any (λ c. same_name c.object (thread_name k)) cs) (thread_calls-are n j) ∙ and_right
    (lookups.is_sporadic (thread_kind k)) false refl

starts-no_thread : (n : ℕ) (from to : Object) → IsThread n from → IsThread n to → can_start (sample_design n) from to ≡ false
unfolding IsThread
starts-no_thread n from to f t =
    subst (λ o. can_start (sample_design n) o to ≡ false) (sym f.1) (subst (λ o. can_start (sample_design n) (thread_object n f.0) o
    ≡ false) (sym t.1) (starts-none n f.0 t.0))

-- THE RULES
-- every way of starts ends at once
pub starts-end : (n : ℕ) → list_all (λ o. objects_end (can_start (sample_design n)) (thread_objects (sample_design n)) 1 o.name)
    (thread_objects (sample_design n)) ≡ true
starts-end n = all-pass _ threads (each-still (IsThread n) _ threads (λ o h. ends o.name) (threads-each n))
  where
    threads : List Object
    threads = thread_objects (sample_design n)

    ends : (name : Name) → objects_end (can_start (sample_design n)) threads 1 name ≡ true
    ends name =
        all-pass (λ f. not (same_name f.name name) || list_all (λ t. not (can_start (sample_design n) f t)
        || objects_end (can_start (sample_design n)) threads 0 t.name) threads) threads
        (each-still (IsThread n) _ threads (λ f h. or_right (not (same_name f.name name)) _
        (all-pass _ threads (each-still (IsThread n) _ threads (λ t k. rw (starts-no_thread n f t h k) refl) (threads-each n)))) (threads-each n))

-- so no thread starts another too often
pub separations-none : (n : ℕ) → bad_separations (sample_design n) ≡ []
separations-none n =
    none-joined _ (thread_objects (sample_design n)) (each-still (IsThread n) _ (thread_objects (sample_design n)) (λ f h.
    none-mapped _ (thread_objects (sample_design n)) (each-still (IsThread n) _ (thread_objects (sample_design n)) (λ t k.
    rw (starts-no_thread n f t h k) refl) (threads-each n))) (threads-each n))

-- no call of a protected operation requests a thread
starts_within-next : (depth n : ℕ) (target : Name) → starts_within depth (sample_design n) target next ≡ 0
starts_within-next zero n target = refl
starts_within-next (suc depth) n target =
    ap (λ os. fold max 0 (map (body_starts (sample_design n) target (starts_within depth (sample_design n) target) next.op)
    (filter (λ o. same_name o.name next.object) os))) (protected-one n)

starts_within-note : (depth n : ℕ) (target : Name) → starts_within depth (sample_design n) target note ≡ 0
starts_within-note zero n target = refl
starts_within-note (suc depth) n target =
    ap (λ os. fold max 0 (map (body_starts (sample_design n) target (starts_within depth (sample_design n) target) note.op)
    (filter (λ o. same_name o.name note.object) os))) (protected-one n)

requests-none : (n j k : ℕ) → requests_by (sample_design n) (thread_name k) (thread_object n j) ≡ 0
requests-none n j k =
    let depth = length (terminal_ops (sample_design n)) in
    rw (starts_within-next depth n (thread_name k), starts_within-note depth n (thread_name k)) refl

counts-none : (n k : ℕ) → start_count (sample_design n) (thread_object n k) ≡ 0
unfolding IsThread
counts-none n k =
    ap (min 2) (zeros-fold (requests_by (sample_design n) (thread_name k)) (thread_objects (sample_design n))
    (each-still (IsThread n) _ (thread_objects (sample_design n)) (λ o h. subst (λ p. requests_by (sample_design n) (thread_name k) p
    ≡ 0) (sym h.1) (requests-none n h.0 k)) (threads-each n)))

-- a sporadic thread has its jitter as its one source
own-source : (n k : ℕ) → is_sporadic k ≡ true → length (option_to_list (attribute ArrivalJitter (thread_object n k))) ≡ 1
own-source n k sporadic = rw sporadic refl

sources-one : (n k : ℕ) → is_sporadic k ≡ true → source_count (sample_design n) (thread_object n k) ≡ 1
unfolding IsThread
sources-one n k sporadic =
    let none : filter (λ f. can_start (sample_design n) f (thread_object n k)) (thread_objects (sample_design n)) ≡ [] =
    none-filtered _ (thread_objects (sample_design n)) (each-still (IsThread n) _ (thread_objects (sample_design n))
    (λ f h. starts-no_thread n f (thread_object n k) h (k, refl)) (threads-each n)) in
    ap (λ os. length os + length (option_to_list (attribute ArrivalJitter (thread_object n k)))) none ∙ ap (λ m. 0 + m) (own-source n k sporadic)

source-right : (n k : ℕ) → (lookups.is_sporadic (thread_kind k) && breaks_sources (sample_design n) (thread_object n k)) ≡ false
source-right n k = by (is_sporadic k) refl
  where
    by : (b : Bool) → is_sporadic k ≡ b → (lookups.is_sporadic (thread_kind k) && breaks_sources (sample_design n) (thread_object n k)) ≡ false
    by true sporadic = rw (sources-one n k sporadic, counts-none n k) (and_right (lookups.is_sporadic (thread_kind k)) false refl)
    by false cyclic = and_left (lookups.is_sporadic (thread_kind k)) _ (rw cyclic refl)

pub sources-none : (n : ℕ) → bad_sources (sample_design n) ≡ []
unfolding IsThread
sources-none n =
    none-mapped _ (thread_objects (sample_design n)) (each-still (IsThread n) _ (thread_objects (sample_design n)) (λ o h.
    subst (λ p. only_if (lookups.is_sporadic p.kind && breaks_sources (sample_design n) p)
    (V10 p.name (source_count (sample_design n) p) (start_count (sample_design n) p)) ≡ None) (sym h.1)
    (ap (λ b. only_if b (V10 (thread_name h.0) (source_count (sample_design n) (thread_object n h.0))
    (start_count (sample_design n) (thread_object n h.0)))) (source-right n h.0))) (threads-each n))
