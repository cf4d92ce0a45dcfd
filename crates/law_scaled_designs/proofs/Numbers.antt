-- Numbers and budgets of a design whose `work` is changed within its range: they stay within their ranges, and no budget is exceeded.
use Rattle.std.proofs.Common.{◌≡◌, ℕ, zero, suc, ◌==◌, ◌-◌, Bool, true, false, not, ◌&&◌, ◌||◌, List, [], ◌∷◌, ◌++◌, map, filter, flat_map, filter_map}
use Rattle.std.proofs.Common.{length, nat_lt, nat_le, refl, ap, ap₂, ◌∙◌, sym, subst, arith, Option, Some, None, option_map, option_to_list, inl, inr}
use Rattle.std.specs.Prelude.{find, unwrap_or, cond, if◌then◌else◌}
use Rattle.std.specs.List.{list_any, list_all}
use Rattle.std.proofs.lemmas.Bool.{and_parts, and_from, or_parts, not-false}
use Rattle.std.proofs.lemmas.List.{length-map, map-append}
use Rattle.seq_tree.specs.Limits.{tick_limit, is_within}
use Rattle.seq_tree.specs.Names.{Name}
use Rattle.seq_tree.specs.Statements.{Statements}
use Rattle.seq_tree.specs.Calls.{block_works}
use Rattle.ods_tree.specs.Designs.{Body, Object, Design}
use Rattle.ods_tree.specs.Attributes.{has_key, attribute, attribute_or, attribute_count}
use Rattle.ods_tree.specs.Walk.{Standing, objects, is_terminal, is_empty, terminals, only_if}
use Rattle.ods_tree.specs.declared.design.Attr.{Attr}
use Rattle.ods_tree.specs.declared.design.AttrKey.{AttrKey}
use Rattle.ods_tree.specs.declared.design.AttrKey.TheVariants.{Period, Offset, Separation, Deadline, ThreadBudget, ArrivalJitter}
use Rattle.ods_tree.specs.declared.design.Kind.{Kind}
use Rattle.ods_tree.specs.declared.design.Kind.TheVariants as kind
use Rattle.ods_tree.specs.Attributes.{key_place}
use Rattle.design_rules.specs.Numbers.{is_required, is_optional, is_foreign, are_common_right, are_attributes_right, are_right, works, breaks_numbers}
use Rattle.law_scaling.specs.Working.{reworked_block}
use Rattle.law_scaling.specs.Designs.{freed, reworked_body, reworked_object}
use Rattle.law_scaling.proofs.Shared.Designs.{key-same, attribute-same, standing, empty-same}
use Rattle.law_scaled_designs.proofs.Lists.{count-moved, flat_map-moved}
use Rattle.law_scaled_designs.proofs.Texts.{join, block-works}

-- a list with one thing that passes a test has one that is found
one-some : (n : ℕ) → (n == 1) ≡ true → (n == 0) ≡ false
one-some n e = grind (arith, e)

-- a budget is the greatest number, where there is one
freed-found : (attrs : List Attr) → (length (filter (has_key ThreadBudget) attrs) == 0) ≡ false
    → option_map (λ a. a.value) (find (has_key ThreadBudget) (map freed attrs)) ≡ Some tick_limit
freed-found [] h = cc
freed-found (a ∷ attrs) h = rw (key-same ThreadBudget a) (by (has_key ThreadBudget a) refl h (freed-found attrs))
  where
    rest : List Attr
    rest = filter (has_key ThreadBudget) attrs

    later : Option Attr
    later = find (has_key ThreadBudget) (map freed attrs)

    by : (b : Bool) → has_key ThreadBudget a ≡ b → (length (cond b (a ∷ rest) rest) == 0) ≡ false
        → ((length rest == 0) ≡ false → option_map (λ a. a.value) later ≡ Some tick_limit)
        → option_map (λ a. a.value) (cond b (Some (freed a)) later) ≡ Some tick_limit
    by true e k more = ap (λ b. Some (if b then (let g : Attr = record { key = a.key; value = tick_limit; unit = None } in g) else a).value) e
    by false e k more = more k

attrs-empty : (attrs : List Attr) → is_empty (map freed attrs) ≡ is_empty attrs
attrs-empty [] = refl
attrs-empty (a ∷ attrs) = refl

module _ (w : Name → ℕ → ℕ) (o : Object) where
  counts-same : (key : AttrKey) → attribute_count key (reworked_object w o) ≡ attribute_count key o
  counts-same key = count-moved (has_key key) (has_key key) freed o.attrs (key-same key)

  required-same : (low high : ℕ) (key : AttrKey) → (key_place key == 4) ≡ false
      → is_required low high key (reworked_object w o) ≡ is_required low high key o
  required-same low high key other =
      ap₂ (λ n a. n == 1 && is_within low high (unwrap_or a 0)) (counts-same key) (attribute-same key other w o)

  optional-same : (low high : ℕ) (key : AttrKey) → (key_place key == 4) ≡ false
      → is_optional low high key (reworked_object w o) ≡ is_optional low high key o
  optional-same low high key other =
      ap₂ (λ n r. n == 0 || r) (counts-same key) (required-same low high key other)

  foreign-same : (key : AttrKey) → is_foreign key (reworked_object w o) ≡ is_foreign key o
  foreign-same key = ap (λ n. n == 0) (counts-same key)

  value-same : (key : AttrKey) → (key_place key == 4) ≡ false → attribute_or 0 key (reworked_object w o) ≡ attribute_or 0 key o
  value-same key other = ap (λ a. unwrap_or a 0) (attribute-same key other w o)

  -- the budget of an object that has one in its range
  pub budget-is : is_required 1 tick_limit ThreadBudget o ≡ true → attribute_or 0 ThreadBudget (reworked_object w o) ≡ tick_limit
  budget-is h =
      let there = one-some (attribute_count ThreadBudget o) (and_parts (attribute_count ThreadBudget o == 1) _ h).0 in
      ap (λ a. unwrap_or a 0) (freed-found o.attrs there)

  budget-right : is_required 1 tick_limit ThreadBudget o ≡ true → is_required 1 tick_limit ThreadBudget (reworked_object w o) ≡ true
  budget-right h =
      let there = (and_parts (attribute_count ThreadBudget o == 1) _ h).0 in
      and_from (attribute_count ThreadBudget (reworked_object w o) == 1) (is_within 1 tick_limit (attribute_or 0 ThreadBudget (reworked_object w o)))
      (ap (λ n. n == 1) (counts-same ThreadBudget) ∙ there) (ap (is_within 1 tick_limit) (budget-is h))

  common-right : (period : ℕ) → are_common_right period o ≡ true → are_common_right period (reworked_object w o) ≡ true
  common-right period h =
      let parts = and_parts (is_required 1 period Deadline o) (is_required 1 tick_limit ThreadBudget o) h in
      and_from (is_required 1 period Deadline (reworked_object w o)) (is_required 1 tick_limit ThreadBudget (reworked_object w o))
      (required-same 1 period Deadline refl ∙ parts.0) (budget-right parts.1)

  attributes-right : (k : Kind) → are_attributes_right k o ≡ true → are_attributes_right k (reworked_object w o) ≡ true
  attributes-right kind.Cyclic h =
      let made : Bool → Bool → Bool → Bool → Bool = λ a b c d. a && b && c && d in
      let parts = and_parts (made (is_required 1 tick_limit Period o) (is_optional 0 tick_limit Offset o) (is_foreign Separation o)
      (is_foreign ArrivalJitter o)) (are_common_right (attribute_or 0 Period o) o) h in
      let P : ℕ → Type 0 = λ n. are_common_right n (reworked_object w o) ≡ true in
      and_from
      (made (is_required 1 tick_limit Period (reworked_object w o)) (is_optional 0 tick_limit Offset (reworked_object w o))
      (is_foreign Separation (reworked_object w o)) (is_foreign ArrivalJitter (reworked_object w o)))
      (are_common_right (attribute_or 0 Period (reworked_object w o)) (reworked_object w o))
      (ap₂ (λ a b. made a b (is_foreign Separation (reworked_object w o)) (is_foreign ArrivalJitter (reworked_object w o)))
      (required-same 1 tick_limit Period refl) (optional-same 0 tick_limit Offset refl)
      ∙ ap₂ (made (is_required 1 tick_limit Period o) (is_optional 0 tick_limit Offset o)) (foreign-same Separation) (foreign-same ArrivalJitter)
      ∙ parts.0)
      (subst P (sym (value-same Period refl)) (common-right (attribute_or 0 Period o) parts.1))
  attributes-right kind.Sporadic h =
      let made : Bool → Bool → Bool → Bool → Bool = λ a b c d. a && b && c && d in
      let low : ℕ = attribute_or 0 Separation o in
      let parts = and_parts (made (is_required 1 tick_limit Separation o) (is_optional 0 (low - 1) ArrivalJitter o) (is_foreign Period o)
      (is_foreign Offset o)) (are_common_right low o) h in
      let P : ℕ → Type 0 = λ n. are_common_right n (reworked_object w o) ≡ true in
      and_from
      (made (is_required 1 tick_limit Separation (reworked_object w o))
      (is_optional 0 (attribute_or 0 Separation (reworked_object w o) - 1) ArrivalJitter (reworked_object w o))
      (is_foreign Period (reworked_object w o)) (is_foreign Offset (reworked_object w o)))
      (are_common_right (attribute_or 0 Separation (reworked_object w o)) (reworked_object w o))
      (ap₂ (λ a n. made a (is_optional 0 (n - 1) ArrivalJitter (reworked_object w o)) (is_foreign Period (reworked_object w o))
      (is_foreign Offset (reworked_object w o))) (required-same 1 tick_limit Separation refl) (value-same Separation refl)
      ∙ ap (λ b. made (is_required 1 tick_limit Separation o) b (is_foreign Period (reworked_object w o)) (is_foreign Offset (reworked_object w o)))
      (optional-same 0 (low - 1) ArrivalJitter refl)
      ∙ ap₂ (made (is_required 1 tick_limit Separation o) (is_optional 0 (low - 1) ArrivalJitter o)) (foreign-same Period) (foreign-same Offset)
      ∙ parts.0)
      (subst P (sym (value-same Separation refl)) (common-right low parts.1))
  attributes-right kind.Passive h = attrs-empty o.attrs ∙ h
  attributes-right kind.Active h = attrs-empty o.attrs ∙ h
  attributes-right kind.Protected h = attrs-empty o.attrs ∙ h

  right-still : (b : Bool) → are_right b o ≡ true → are_right b (reworked_object w o) ≡ true
  right-still true h = attributes-right o.kind h
  right-still false h = attrs-empty o.attrs ∙ h

  -- its `work`
  works-same : works (reworked_object w o) ≡ map (w o.name) (works o)
  works-same =
      ap₂ join (bodies o.bodies) (thread o.thread)
      ∙ sym (map-append (w o.name) (flat_map (λ b. block_works b.block) o.bodies) (flat_map block_works (option_to_list o.thread)))
    where
      bodies : (bs : List Body) → flat_map (λ b. block_works b.block) (map (reworked_body (w o.name)) bs)
          ≡ map (w o.name) (flat_map (λ b. block_works b.block) bs)
      bodies [] = refl
      bodies (b ∷ bs) =
          ap₂ join (block-works (w o.name) b.block) (bodies bs)
          ∙ sym (map-append (w o.name) (block_works b.block) (flat_map (λ b. block_works b.block) bs))

      thread : (t : Option Statements) → flat_map block_works (option_to_list (option_map (reworked_block (w o.name)) t))
          ≡ map (w o.name) (flat_map block_works (option_to_list t))
      thread None = refl
      thread (Some b) =
          ap (λ ns. ns ++ []) (block-works (w o.name) b) ∙ sym (map-append (w o.name) (block_works b) [])

-- a change within the range of ticks
abbrev pub IsRanged : (Name → ℕ → ℕ) → Type 0
IsRanged w = (object : Name) (n : ℕ) → is_within 1 tick_limit n ≡ true → is_within 1 tick_limit (w object n) ≡ true

all-ranged : (c : ℕ → ℕ) (ns : List ℕ) → ((n : ℕ) → is_within 1 tick_limit n ≡ true → is_within 1 tick_limit (c n) ≡ true)
    → list_all (is_within 1 tick_limit) ns ≡ true → list_all (is_within 1 tick_limit) (map c ns) ≡ true
all-ranged c [] ranged h = refl
all-ranged c (n ∷ ns) ranged h =
    let parts = and_parts (is_within 1 tick_limit n) (list_all (is_within 1 tick_limit) ns) h in
    and_from (is_within 1 tick_limit (c n)) (list_all (is_within 1 tick_limit) (map c ns)) (ranged n parts.0) (all-ranged c ns ranged parts.1)

either-false : (a b c : Bool) → a ≡ true → b ≡ true → c ≡ false → (not a || not b || c) ≡ false
either-false true true c p q r = r
either-false true false c p q r = cc
either-false false b c p q r = cc

-- an object whose numbers are right
pub numbers-still : (w : Name → ℕ → ℕ) → IsRanged w → (s : Standing) → breaks_numbers s ≡ false → breaks_numbers (standing w s) ≡ false
numbers-still w ranged s h =
    let a = or_parts (not (are_right (is_terminal s) s.own) || not (list_all (is_within 1 tick_limit) (works s.own)))
    (list_any (λ p. nat_lt 8 (length p.sig.params)) s.own.provides) h in
    let b = or_parts (not (are_right (is_terminal s) s.own)) (not (list_all (is_within 1 tick_limit) (works s.own))) a.0 in
    let R : Bool → Type 0 = λ t. are_right t (reworked_object w s.own) ≡ true in
    either-false (are_right (is_terminal (standing w s)) (reworked_object w s.own))
    (list_all (is_within 1 tick_limit) (works (reworked_object w s.own))) (list_any (λ p. nat_lt 8 (length p.sig.params)) s.own.provides)
    (subst R (sym (empty-same w s.children)) (right-still w s.own (is_terminal s) (not-false _ b.0)))
    (ap (list_all (is_within 1 tick_limit)) (works-same w s.own)
    ∙ all-ranged (w s.own.name) (works s.own) (ranged s.own.name) (not-false _ b.1)) a.1
