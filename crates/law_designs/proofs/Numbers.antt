-- The numbers of threads are in their ranges, and there are no more threads and entries than the rules allow.
use Rattle.std.proofs.Common.{◌≡◌, ℕ, suc, ◌-◌, ◌≤◌, Bool, true, false, not, ◌&&◌, ◌||◌, ◌==◌, List, [], ◌∷◌, filter, filter_map, find, length}
use Rattle.std.proofs.Common.{nat_lt, nat_le, Option, Some, None, option_map, unwrap_or, refl, sym, ap, subst, ◌∙◌, arith, if◌then◌else◌}
use Rattle.std.specs.List.{list_any, list_all, cons_option}
use Rattle.std.proofs.lemmas.Bool.{or_parts, and_parts, and_from, not-false}
use Rattle.seq_tree.specs.Limits.{tick_limit, is_within}
use Rattle.ods_tree.specs.Designs.{Object, Design}
use Rattle.ods_tree.specs.Walk.{Standing, objects, is_terminal, terminals}
use Rattle.ods_tree.specs.Attributes.{attribute, attribute_or, attribute_count, has_key}
use Rattle.ods_tree.specs.Flats.{Timing, Thread, period_of}
use Rattle.ods_tree.specs.Flattening.{timing_by, threads}
use Rattle.ods_tree.specs.Sound.{is_below, is_timed, is_in_range}
use Rattle.ods_tree.specs.declared.design.Attr.{Attr}
use Rattle.ods_tree.specs.declared.design.AttrKey.{AttrKey}
use Rattle.ods_tree.specs.declared.design.AttrKey.TheVariants.{Period, Offset, Separation, Deadline, ArrivalJitter}
use Rattle.ods_tree.specs.declared.design.Kind.TheVariants as kind
use Rattle.design_rules.specs.Numbers.{is_required, is_optional, is_foreign, are_common_right, are_attributes_right, are_right, works}
use Rattle.design_rules.specs.Rules.{AreMet}
use Rattle.law_designs.proofs.Shared.Flattened.{thread-from, TimingOf, OfCyclic, OfSporadic, timing-of, terminal-object}
use Rattle.law_designs.proofs.Shared.ObjectRules.{numbers-right}
use Rattle.law_lists.proofs.Shared.Lists.{IsIn}

-- an attribute that isn't there, and one that is
find-none : (test : Attr → Bool) (attrs : List Attr) → length (filter test attrs) ≡ 0 → find test attrs ≡ None
find-none test [] e = refl
find-none test (a ∷ attrs) e = by (test a) e (find-none test attrs)
  where
    by : (b : Bool) → length (if b then a ∷ filter test attrs else filter test attrs) ≡ 0 → (length (filter test attrs) ≡ 0 → find test attrs ≡ None)
        → (if b then Some a else find test attrs) ≡ None
    by true f later = absurd (omega (arith, f))
    by false f later = later f

or_either : (a b c : Bool) → (a ≡ true → c ≡ true) → (b ≡ true → c ≡ true) → (a || b) ≡ true → c ≡ true
or_either true b c f g e = f refl
or_either false b c f g e = g e

optional_below : (high : ℕ) (key : AttrKey) (o : Object) → is_optional 0 high key o ≡ true → nat_le (attribute_or 0 key o) high ≡ true
optional_below high key o h = or_either (attribute_count key o == 0) (is_required 0 high key o) _
    (λ e. let none : attribute_count key o ≡ 0 = grind arith in
    let least : nat_le 0 high ≡ true = grind arith in
    ap (λ a. nat_le (unwrap_or (option_map (λ b. b.value) a) 0) high) (find-none (has_key key) o.attrs none) ∙ least)
    (λ e. (and_parts _ _ (and_parts _ _ e).1).1) h

-- the tests of the attributes that matter here
tests_of : (a b c d e : Bool) → (a && b && c && d && e) ≡ true → (a ≡ true) × (b ≡ true) × (e ≡ true)
tests_of a b c d e h =
    let last = and_parts (a && b && c && d) e h in
    let first = and_parts a b (and_parts (a && b) c (and_parts (a && b && c) d last.0).0).0 in
    (first.0, first.1, last.1)

jitter-below : (o : Object) (j : Option ℕ) → attribute ArrivalJitter o ≡ j → nat_le (attribute_or 0 ArrivalJitter o) (attribute_or 0 Separation o - 1)
    ≡ true → nat_le 1 (attribute_or 0 Separation o) ≡ true
    → is_below j (attribute_or 0 Separation o) ≡ true
jitter-below o None e h k = refl
jitter-below o (Some j) e h k =
    let same : attribute_or 0 ArrivalJitter o ≡ j = ap (λ z. unwrap_or z 0) e in
    let P : ℕ → Type 0 = λ z. nat_le z (attribute_or 0 Separation o - 1) ≡ true in
    below j (attribute_or 0 Separation o) (subst P same h) k
  where
    below : (a s : ℕ) → nat_le a (s - 1) ≡ true → nat_le 1 s ≡ true → nat_lt a s ≡ true
    below a s h k = grind arith

pub attributes-timed : (o : Object) (t : Timing) → are_attributes_right o.kind o ≡ true → timing_by o.kind o ≡ Some t
    → (is_timed t && is_within 1 (period_of t) (attribute_or 0 Deadline o)) ≡ true
attributes-timed o t h e = by (timing-of o t e)
  where
    P : Timing → Type 0
    P u = (is_timed u && is_within 1 (period_of u) (attribute_or 0 Deadline o)) ≡ true

    by : TimingOf o t → P t
    by (OfCyclic g s) =
        let right : are_attributes_right kind.Cyclic o ≡ true = ap (λ k. are_attributes_right k o) (sym g) ∙ h in
        let a = tests_of (is_required 1 tick_limit Period o) (is_optional 0 tick_limit Offset o) (is_foreign Separation o)
        (is_foreign ArrivalJitter o) (are_common_right (attribute_or 0 Period o) o) right in
        let deadline : is_within 1 (attribute_or 0 Period o) (attribute_or 0 Deadline o) ≡ true = (and_parts _ _ (and_parts _ _ a.2).0).1 in
        subst P (sym s) (and_from _ _ (and_from _ _ (and_parts _ _ a.0).1 (optional_below tick_limit Offset o a.1)) deadline)
    by (OfSporadic sig g q s) =
        let right : are_attributes_right kind.Sporadic o ≡ true = ap (λ k. are_attributes_right k o) (sym g) ∙ h in
        let a = tests_of (is_required 1 tick_limit Separation o) (is_optional 0 (attribute_or 0 Separation o - 1) ArrivalJitter o)
        (is_foreign Period o) (is_foreign Offset o) (are_common_right (attribute_or 0 Separation o) o) right in
        let deadline : is_within 1 (attribute_or 0 Separation o) (attribute_or 0 Deadline o) ≡ true = (and_parts _ _ (and_parts _ _ a.2).0).1 in
        let separation : is_within 1 tick_limit (attribute_or 0 Separation o) ≡ true = (and_parts _ _ a.0).1 in
        subst P (sym s) (and_from _ _ (and_from _ _ separation (jitter-below o (attribute ArrivalJitter o) refl
        (optional_below (attribute_or 0 Separation o - 1) ArrivalJitter o a.1) (and_parts _ _ separation).0)) deadline)

-- how many things are taken of a list
pub at-most-filter : {A B : Type 0} (f : A → Option B) (p : A → Bool) (xs : List A) → ((a : A) (b : B) → f a ≡ Some b → p a ≡ true)
    → length (filter_map f xs) ≤ length (filter p xs)
at-most-filter f p [] h = omega arith
at-most-filter {A} {B} f p (x ∷ xs) h = by (at-most-filter f p xs h) (f x) refl (p x) refl
  where
    by : length (filter_map f xs) ≤ length (filter p xs) → (o : Option B) → f x ≡ o → (b : Bool) → p x ≡ b
        → length (cons_option o (filter_map f xs)) ≤ length (if b then x ∷ filter p xs else filter p xs)
    by rest None e true k = omega (arith, rest)
    by rest None e false k = rest
    by rest (Some c) e true k = omega (arith, rest)
    by rest (Some c) e false k = (let z : true ≡ false = sym (h x c e) ∙ k in cc)

pub filter-at-most : {A : Type 0} (p : A → Bool) (xs : List A) → length (filter p xs) ≤ length xs
filter-at-most p [] = omega arith
filter-at-most p (x ∷ xs) = by (filter-at-most p xs) (p x)
  where
    by : length (filter p xs) ≤ length xs → (b : Bool) → length (if b then x ∷ filter p xs else filter p xs) ≤ suc (length xs)
    by rest true = omega (arith, rest)
    by rest false = omega (arith, rest)

pub terminals-at-most : (x : Design) → length (terminals x) ≤ length (objects x)
terminals-at-most x = filter-at-most is_terminal (objects x)

-- the works of an object and its threads are in range
module _ (written x : Design) (met : AreMet written x) where
  numbers : (s : Standing) → IsIn s (objects x) → (are_right (is_terminal s) s.own ≡ true) × (list_all (is_within 1 tick_limit) (works s.own) ≡ true)
      × (list_any (λ p. nat_lt 8 (length p.sig.params)) s.own.provides ≡ false)
  numbers s h =
      let a = or_parts (not (are_right (is_terminal s) s.own) || not (list_all (is_within 1 tick_limit) (works s.own)))
      (list_any (λ p. nat_lt 8 (length p.sig.params)) s.own.provides) (numbers-right written x met s h) in
      let b = or_parts (not (are_right (is_terminal s) s.own)) (not (list_all (is_within 1 tick_limit) (works s.own))) a.0 in
      (not-false _ b.0, not-false _ b.1, a.1)

  pub works-right : (s : Standing) → IsIn s (objects x) → list_all (is_within 1 tick_limit) (works s.own) ≡ true
  works-right s h = (numbers s h).1

  pub params-few : (s : Standing) → IsIn s (objects x) → list_any (λ p. nat_lt 8 (length p.sig.params)) s.own.provides ≡ false
  params-few s h = (numbers s h).2

  pub attributes-right : (s : Standing) → IsIn s (terminals x) → are_attributes_right s.own.kind s.own ≡ true
  attributes-right s h =
      let t = terminal-object x s h in
      let P : Bool → Type 0 = λ b. are_right b s.own ≡ true in subst P t.1 (numbers s t.0).0

  pub thread-range : (t : Thread) → IsIn t (threads x) → is_in_range t ≡ true
  thread-range t h =
      let r = thread-from x t h in
      let P : Thread → Type 0 = λ u. is_in_range u ≡ true in
      subst P (sym r.made) (attributes-timed r.standing.own r.timing (attributes-right r.standing r.stands) r.timed)
