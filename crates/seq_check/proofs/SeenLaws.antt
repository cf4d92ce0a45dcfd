-- Whether a variable stands twice among actuals, by a set of those before.
use Rattle.std.proofs.Common.{◌≡◌, Bool, true, false, not, ◌&&◌, ◌||◌, List, [], ◌∷◌, refl, sym, ap, ◌∙◌}
use Rattle.std.specs.Prelude.{if◌then◌else◌}
use Rattle.std.specs.List.{list_any}
use Rattle.seq_tree.specs.Names.{Name, same_name}
use Rattle.seq_tree.specs.Expressions.{Expression, Number, Variable, Paren, Not, Binary}
use Rattle.seq_tree.specs.Faults.{out_actuals, repeats, stands_again}
use Rattle.seq_tree.specs.Operations.{is_out}
use Rattle.seq_tree.specs.declared.tree.Param.{Param}
use Rattle.seq_check.specs.Seen.{is_same, is_seen}

any_same : {A : Type 0} (p q : A → Bool) → ((x : A) → p x ≡ q x) → (xs : List A) → list_any p xs ≡ list_any q xs
any_same p q h [] = refl
any_same p q h (x ∷ xs) = ap (λ b. b || list_any p xs) (h x) ∙ ap (λ b. q x || b) (any_same p q h xs)

any_never : {A : Type 0} (p : A → Bool) → ((x : A) → p x ≡ false) → (xs : List A) → list_any p xs ≡ false
any_never p h [] = refl
any_never p h (x ∷ xs) = ap (λ b. b || list_any p xs) (h x) ∙ any_never p h xs

turn : (a b c d : Bool) → ((a || b) || (c || d)) ≡ ((a || c) || (b || d))
turn true b c d = refl
turn false true true d = refl
turn false true false d = refl
turn false false c d = refl

any_or : {A : Type 0} (p q : A → Bool) (xs : List A) → list_any (λ x. p x || q x) xs ≡ (list_any p xs || list_any q xs)
any_or p q [] = refl
any_or p q (x ∷ xs) = ap (λ b. (p x || q x) || b) (any_or p q xs) ∙ turn (p x) (q x) (list_any p xs) (list_any q xs)

again_any : (e : Expression) (xs : List Expression) → stands_again e xs ≡ list_any (is_same e) xs
again_any (Variable name) xs = any_same _ (is_same (Variable name)) (λ x. refl) xs
again_any (Number n) xs = sym (any_never (is_same (Number n)) (λ x. refl) xs)
again_any (Paren e) xs = sym (any_never (is_same (Paren e)) (λ x. refl) xs)
again_any (Not e) xs = sym (any_never (is_same (Not e)) (λ x. refl) xs)
again_any (Binary op left right) xs = sym (any_never (is_same (Binary op left right)) (λ x. refl) xs)

mix : (seen again rest : Bool) → (seen || (again || rest)) ≡ ((again || seen) || rest)
mix true true rest = refl
mix true false rest = refl
mix false true rest = refl
mix false false rest = refl

not_not : (b : Bool) → not (not b) ≡ b
not_not true = refl
not_not false = refl

-- a variable that is added to a set was in it where it is not new
pub was_there : (new there : Bool) → new ≡ not there → not new ≡ there
was_there new there h = ap not h ∙ not_not there

-- what is seen with one variable more
pub seen_more : (before after : Name → Bool) (name : Name) → ((n : Name) → after n ≡ (same_name name n || before n)) → (x : Expression) →
    is_seen after x ≡ (is_same (Variable name) x || is_seen before x)
seen_more before after name h (Variable n) = h n
seen_more before after name h (Number n) = refl
seen_more before after name h (Paren e) = refl
seen_more before after name h (Not e) = refl
seen_more before after name h (Binary op left right) = refl

-- an actual that is not seen yet is handed out, or none is
pub outs_step : (before after : Name → Bool) (p : Param) (e : Expression) (ps : List Param) (es : List Expression) →
    ((x : Expression) → is_seen after x ≡ ((is_out p.mode && is_same e x) || is_seen before x)) → (is_out p.mode && is_seen before e) ≡ false →
    (list_any (is_seen before) (out_actuals (p ∷ ps) (e ∷ es)) || repeats (out_actuals (p ∷ ps) (e ∷ es)))
    ≡ (list_any (is_seen after) (out_actuals ps es) || repeats (out_actuals ps es))
outs_step before after p e ps es added fresh = by (is_out p.mode) added fresh
  where
    by : (out : Bool) → ((x : Expression) → is_seen after x ≡ ((out && is_same e x) || is_seen before x)) → (out && is_seen before e) ≡ false →
        (list_any (is_seen before) (if out then e ∷ out_actuals ps es else out_actuals ps es)
        || repeats (if out then e ∷ out_actuals ps es else out_actuals ps es))
        ≡ (list_any (is_seen after) (out_actuals ps es) || repeats (out_actuals ps es))
    by false more none = ap (λ b. b || repeats (out_actuals ps es))
        (any_same (is_seen before) (is_seen after) (λ x. sym (more x)) (out_actuals ps es))
    by true more none =
        let outs = out_actuals ps es in
        ap (λ b. (b || list_any (is_seen before) outs) || (stands_again e outs || repeats outs)) none
        ∙ ap (λ b. list_any (is_seen before) outs || (b || repeats outs)) (again_any e outs)
        ∙ mix (list_any (is_seen before) outs) (list_any (is_same e) outs) (repeats outs)
        ∙ ap (λ b. b || repeats outs) (sym (any_or (is_same e) (is_seen before) outs) ∙ any_same (λ x. is_same e x || is_seen before x)
        (is_seen after) (λ x. sym (more x)) outs)

-- one that is seen is handed out twice
pub outs_twice : (before : Name → Bool) (p : Param) (e : Expression) (ps : List Param) (es : List Expression)
    → (is_out p.mode && is_seen before e) ≡ true →
    (list_any (is_seen before) (out_actuals (p ∷ ps) (e ∷ es)) || repeats (out_actuals (p ∷ ps) (e ∷ es))) ≡ true
outs_twice before p e ps es = by (is_out p.mode)
  where
    by : (out : Bool) → (out && is_seen before e) ≡ true →
        (list_any (is_seen before) (if out then e ∷ out_actuals ps es else out_actuals ps es)
        || repeats (if out then e ∷ out_actuals ps es else out_actuals ps es)) ≡ true
    by false there = absurd (cc)
    by true there = ap (λ b. (b || list_any (is_seen before) (out_actuals ps es))
        || (stands_again e (out_actuals ps es) || repeats (out_actuals ps es))) there

-- nothing is seen yet
pub none_seen : (before : Name → Bool) → ((n : Name) → before n ≡ false) → (xs : List Expression)
    → (list_any (is_seen before) xs || repeats xs) ≡ repeats xs
none_seen before h xs = ap (λ b. b || repeats xs) (any_never (is_seen before) none xs)
  where
    none : (x : Expression) → is_seen before x ≡ false
    none (Variable n) = h n
    none (Number n) = refl
    none (Paren e) = refl
    none (Not e) = refl
    none (Binary op left right) = refl
