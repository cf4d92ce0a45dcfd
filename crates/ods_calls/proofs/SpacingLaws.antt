-- Threads that start others too often, by what they are said to reach.
use Rattle.std.proofs.Common.{◌≡◌, ◌<◌, ◌≤◌, ◌+◌, ◌++◌, ℕ, Bool, true, false, List, [], ◌∷◌, None, get_or, arith, refl, ap, sym, ◌∙◌, ◌&&◌}
use Rattle.std.proofs.Common.{drop, flat_map, inl, inr, length, map}
use Rattle.std.proofs.lemmas.Bool.{or_parts}
use Rattle.std.specs.Prelude.{filter_map, max, nat_lt, if◌then◌else◌}
use Rattle.std.specs.List.{cons_option, list_any}
use Rattle.seq_tree.proofs.Shared.LoopSteps.{drop_step}
use Rattle.seq_tree.specs.Names.{Name}
use Rattle.ods_tree.specs.Attributes.{attribute_or}
use Rattle.ods_tree.specs.Designs.{Design, Object}
use Rattle.ods_tree.specs.Walk.{only_if}
use Rattle.ods_tree.specs.declared.design.AttrKey.TheVariants.{Separation}
use Rattle.design_rules.specs.Broken.{V16}
use Rattle.design_rules.specs.Lookups.{is_sporadic}
use Rattle.design_rules.specs.Separations.{spacing}
use Rattle.ods_calls.specs.Spacings.{greatest_separation, separation_in, spaced}
use Rattle.ods_calls.specs.Spreading.{reaches}
use Rattle.ods_calls.proofs.Items.{In}

-- the same names of these make the same be told
pub spaced-same : (f g : Name → Bool) (from : Object) (ts : List Object) → ((t : Object) → In t ts → f t.name ≡ g t.name)
    → filter_map (spaced f from) ts ≡ filter_map (spaced g from) ts
spaced-same f g from [] same = refl
spaced-same f g from (t ∷ ts) same =
    ap (λ b. cons_option (only_if ((is_sporadic t.kind && b) && nat_lt (spacing from) (attribute_or 0 Separation t))
    (V16 from.name (spacing from) t.name (attribute_or 0 Separation t))) (filter_map (spaced f from) ts)) (same t (inl refl))
    ∙ ap (λ l. cons_option (spaced g from t) l) (spaced-same f g from ts (λ k h. same k (inr h)))

max-regroup : (g s r : ℕ) → max (max g s) r ≡ max g (max s r)
max-regroup g s r = grind arith

-- one thread more of which the separation is known
pub greatest_step : {A : Type 0} (g : A → Object) (xs : List A) (i : ℕ) (x : A) (now s next all : ℕ) → i < length xs → x ≡ get_or xs i x
    → s ≡ separation_in (g x) → next ≡ max now s
    → max now (greatest_separation (map g (drop i xs))) ≡ all → max next (greatest_separation (map g (drop (i + 1) xs))) ≡ all
greatest_step g xs i x now s next all inside at own is was =
    let rest = greatest_separation (map g (drop (i + 1) xs)) in
    ap (λ n. max n rest) (is ∙ ap (max now) own) ∙ max-regroup now (separation_in (g x)) rest
    ∙ ap (λ ys. max now (greatest_separation (map g ys))) (sym (drop_step xs i x inside at)) ∙ was

both-below : (a b c : ℕ) → max a b ≤ c → (a ≤ c) × (b ≤ c)
both-below a b c h = (grind (arith, h), grind (arith, h))

not-lower : (a b : ℕ) → b ≤ a → nat_lt a b ≡ false
not-lower a b h = grind (arith, h)

lower-not : (a b : ℕ) → nat_lt a b ≡ false → b ≤ a
lower-not a b h = grind (arith, h)

-- nothing is told of a thread and another whose separation is not greater, whatever it reaches
never-spaced : (reach : Name → Bool) (from to : Object) → separation_in to ≤ spacing from → spaced reach from to ≡ None
never-spaced reach from to h = by (is_sporadic to.kind) (reach to.name) h
  where
    by : (s r : Bool) → (if s then attribute_or 0 Separation to else 0) ≤ spacing from
        → only_if ((s && r) && nat_lt (spacing from) (attribute_or 0 Separation to))
        (V16 from.name (spacing from) to.name (attribute_or 0 Separation to))
        ≡ None
    by false r k = refl
    by true false k = refl
    by true true k =
        ap (λ b. only_if b (V16 from.name (spacing from) to.name (attribute_or 0 Separation to)))
        (not-lower (spacing from) (attribute_or 0 Separation to) k)

-- nor of it and any others whose greatest separation is not greater
pub none-spaced : (reach : Name → Bool) (from : Object) (ts : List Object) → greatest_separation ts ≤ spacing from
    → filter_map (spaced reach from) ts ≡ []
none-spaced reach from [] h = refl
none-spaced reach from (t ∷ ts) h =
    let parts = both-below (separation_in t) (greatest_separation ts) (spacing from) h in
    ap (λ o. cons_option o (filter_map (spaced reach from) ts)) (never-spaced reach from t parts.0) ∙ none-spaced reach from ts parts.1

-- nothing is told where no thread comes more often than the greatest separation
pub none-closer : (x : Design) (fs ts : List Object) → list_any (λ f. nat_lt (spacing f) (greatest_separation ts)) fs ≡ false
    → flat_map (λ f. filter_map (spaced (reaches x f) f) ts) fs ≡ []
none-closer x [] ts h = refl
none-closer x (f ∷ fs) ts h =
    let parts = or_parts (nat_lt (spacing f) (greatest_separation ts)) (list_any (λ k. nat_lt (spacing k) (greatest_separation ts)) fs) h in
    ap (λ l. l ++ flat_map (λ k. filter_map (spaced (reaches x k) k) ts) fs)
    (none-spaced (reaches x f) f ts (lower-not (spacing f) (greatest_separation ts) parts.0)) ∙ none-closer x fs ts parts.1
