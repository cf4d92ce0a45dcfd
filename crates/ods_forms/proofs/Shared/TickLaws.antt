-- Designs in ticks: nothing is wrong with their version, and their ticks are their own.
use Rattle.std.proofs.Common.{◌≡◌, ℕ, ◌*◌, ◌/◌, ◌%◌, ◌==◌, ◌<◌, Bool, true, false, not, ◌&&◌, ◌||◌, cond, List, [], ◌∷◌, ◌++◌, map, filter_map}
use Rattle.std.proofs.Common.{nat_le, nat_lt, Option, Some, None, option_to_list, refl, sym, ap, subst, ◌∙◌, arith}
use Rattle.std.specs.List.{list_any, cons_option}
use Rattle.std.proofs.lemmas.List.Elements.{filter_map-append}
use Rattle.seq_tree.specs.Limits.{tick_limit, is_within}
use Rattle.ods_tree.specs.Designs.{Object, Tree, Trees, Node, Empty, With, Design}
use Rattle.ods_tree.specs.Ticks.{microseconds, tick_time, count_in_ticks, attribute_in_ticks, object_in_ticks, tree_in_ticks, trees_in_ticks}
use Rattle.ods_tree.specs.Ticks.{ticked, in_ticks}
use Rattle.ods_tree.specs.Walk.{Standing, objects, standings, inner_standings, own_of, roots, only_if}
use Rattle.ods_tree.specs.declared.design.Attr.{Attr}
use Rattle.ods_tree.specs.declared.design.TickUnit.{TickUnit}
use Rattle.ods_tree.specs.declared.design.VersionTwo.{VersionTwo}
use Rattle.design_rules.specs.Broken.{Broken, V17, V17Tick}
use Rattle.design_rules.specs.Versions.{bad_tick, bad_priorities, bad_version, breaks_ticks, misses_ticks, version_faults}
use Rattle.ods_index.specs.Judging.{head_of}
use Rattle.ods_forms.specs.Whole.{is_whole, are_whole, count_set, attribute_set, tree_set, trees_set}

-- what is told of an object whose times are no whole numbers of ticks
abbrev told_ticks : ℕ → Standing → Option Broken
told_ticks tick s = only_if (breaks_ticks tick s.own) (V17 s.own.name)

-- attributes in ticks are whole numbers of them
whole_attrs : (tick : ℕ) (as' : List Attr) → list_any (λ a. misses_ticks tick a.value a.unit) (map (attribute_in_ticks tick) as') ≡ false
whole_attrs tick [] = refl
whole_attrs tick (a ∷ as') = whole_attrs tick as'

both_empty : {A : Type 0} (xs ys : List A) → xs ≡ [] → ys ≡ [] → xs ++ ys ≡ []
both_empty xs ys e f = ap (λ zs. zs ++ ys) e ∙ f

mutual
  whole_tree : (tick : ℕ) (p : Option Object) (s : List Object) (t : Tree) → filter_map (told_ticks tick) (standings p s (tree_in_ticks tick t)) ≡ []
  whole_tree tick p s (Node own children) =
      ap (λ b. cons_option (only_if b (V17 own.name))
      (filter_map (told_ticks tick) (inner_standings (Some (object_in_ticks tick own)) (roots (trees_in_ticks tick children))
      (trees_in_ticks tick children))))
      (whole_attrs tick own.attrs) ∙ whole_trees tick (Some (object_in_ticks tick own)) (roots (trees_in_ticks tick children)) children

  whole_trees : (tick : ℕ) (p : Option Object) (s : List Object) (ts : Trees)
      → filter_map (told_ticks tick) (inner_standings p s (trees_in_ticks tick ts)) ≡ []
  whole_trees tick p s Empty = refl
  whole_trees tick p s (With first rest) =
      filter_map-append (told_ticks tick) (standings p s (tree_in_ticks tick first)) (inner_standings p s (trees_in_ticks tick rest))
      ∙ both_empty (filter_map (told_ticks tick) (standings p s (tree_in_ticks tick first)))
      (filter_map (told_ticks tick) (inner_standings p s (trees_in_ticks tick rest)))
      (whole_tree tick p s first) (whole_trees tick p s rest)

-- where the first of a whole is none, the first of a front is none
front_none : {A : Type 0} (xs ys : List A) → head_of (xs ++ ys) ≡ None → xs ≡ []
front_none [] ys e = refl
front_none (x ∷ xs) ys e = absurd (cc)

back_none : {A : Type 0} (xs ys : List A) → head_of (xs ++ ys) ≡ None → head_of ys ≡ None
back_none [] ys e = e
back_none (x ∷ xs) ys e = absurd (cc)

none_at_all : {A : Type 0} (xs : List A) → head_of xs ≡ None → xs ≡ []
none_at_all [] e = refl
none_at_all (x ∷ xs) e = absurd (cc)

still_by : (v : Option VersionTwo) (x : Design) → head_of (bad_version v x) ≡ None → head_of (bad_version v (ticked v x)) ≡ None
still_by None x e = e
still_by (Some v) x e =
    let tick = bad_tick v in let range = bad_priorities v.priorities in
    let old = filter_map (told_ticks (tick_time v)) (objects x) in
    let later : head_of (range ++ old) ≡ None = back_none tick (range ++ old) e in
    ap head_of (both_empty tick _ (front_none tick (range ++ old) e) (both_empty range _ (front_none range old later)
    (whole_tree (tick_time v) None (own_of (tree_in_ticks (tick_time v) x.root) ∷ []) x.root)))

kept_version : (v : Option VersionTwo) (x : Design) → (ticked v x).version ≡ x.version
kept_version None x = refl
kept_version (Some v) x = refl

-- a design in ticks has no fault of its version where it has none as it is written
pub still_fine : (x : Design) → head_of (version_faults x) ≡ None → head_of (version_faults (in_ticks x)) ≡ None
still_fine x e = ap (λ v. head_of (bad_version v (in_ticks x))) (kept_version x.version x) ∙ still_by x.version x e

-- attributes in ticks stay as they are
attrs_again : (tick : ℕ) (as' : List Attr) → map (attribute_in_ticks tick) (map (attribute_in_ticks tick) as') ≡ map (attribute_in_ticks tick) as'
attrs_again tick [] = refl
attrs_again tick (a ∷ as') = ap (λ bs. attribute_in_ticks tick a ∷ bs) (attrs_again tick as')

mutual
  tree_again : (tick : ℕ) (t : Tree) → tree_in_ticks tick (tree_in_ticks tick t) ≡ tree_in_ticks tick t
  tree_again tick (Node own children) =
      ap (λ as'. Node (record own { attrs = as' }) (trees_in_ticks tick (trees_in_ticks tick children))) (attrs_again tick own.attrs)
      ∙ ap (λ ts. Node (object_in_ticks tick own) ts) (trees_again tick children)

  trees_again : (tick : ℕ) (ts : Trees) → trees_in_ticks tick (trees_in_ticks tick ts) ≡ trees_in_ticks tick ts
  trees_again tick Empty = refl
  trees_again tick (With first rest) =
      ap (λ t. With t (trees_in_ticks tick (trees_in_ticks tick rest))) (tree_again tick first) ∙ ap (λ ts. With (tree_in_ticks tick first) ts)
      (trees_again tick rest)

again_by : (v : Option VersionTwo) (x : Design) → ticked v (ticked v x) ≡ ticked v x
again_by None x = refl
again_by (Some v) x = ap (λ t. record x { root = t }) (tree_again (tick_time v) x.root)

-- a design in ticks stays as it is
pub ticks_again : (x : Design) → in_ticks (in_ticks x) ≡ in_ticks x
ticks_again x = ap (λ v. ticked v (in_ticks x)) (kept_version x.version x) ∙ again_by x.version x

-- a tree whose times are whole numbers of ticks is set to those
both_true : (a b : Bool) → (a && b) ≡ true → (a ≡ true) × (b ≡ true)
both_true true b e = (refl, e)
both_true false b e = absurd (cc)

not_true : (b : Bool) → not b ≡ true → b ≡ false
not_true true e = absurd (cc)
not_true false e = refl

neither : (a b : Bool) → (a || b) ≡ false → (a ≡ false) × (b ≡ false)
neither true b e = absurd (cc)
neither false b e = (refl, e)

few_by : (b : Bool) (n : ℕ) → nat_le n 4294967295 ≡ b → nat_lt 4294967295 n ≡ false → cond b n 4294967295 ≡ n
few_by true n e low = refl
few_by false n e low = grind (arith, e, low)

set_count : (tick n : ℕ) (unit : Option TickUnit) → misses_ticks tick n unit ≡ false → count_set tick n unit ≡ count_in_ticks tick n unit
set_count tick n None e = refl
set_count tick n (Some unit) e =
    let count = (n * microseconds unit) / tick
    in few_by (nat_le count 4294967295) count refl (neither (not ((n * microseconds unit) % tick == 0)) (nat_lt 4294967295 count) e).1

set_attrs_whole : (tick : ℕ) (as' : List Attr) → list_any (λ a. misses_ticks tick a.value a.unit) as' ≡ false
    → map (attribute_set tick) as' ≡ map (attribute_in_ticks tick) as'
set_attrs_whole tick [] e = refl
set_attrs_whole tick (a ∷ as') e =
    let parts = neither (misses_ticks tick a.value a.unit) (list_any (λ b. misses_ticks tick b.value b.unit) as') e in
    ap (λ v. record { key = a.key; value = v; unit = None } ∷ map (attribute_set tick) as') (set_count tick a.value a.unit parts.0)
    ∙ ap (λ bs. attribute_in_ticks tick a ∷ bs) (set_attrs_whole tick as' parts.1)

mutual
  set_whole : (tick : ℕ) (t : Tree) → is_whole tick t ≡ true → tree_set tick t ≡ tree_in_ticks tick t
  set_whole tick (Node own children) e =
      let parts = both_true (not (breaks_ticks tick own)) (are_whole tick children) e in
      ap (λ as'. Node (record own { attrs = as' }) (trees_set tick children))
      (set_attrs_whole tick own.attrs (not_true (breaks_ticks tick own) parts.0))
      ∙ ap (λ ts. Node (object_in_ticks tick own) ts) (set_all_whole tick children parts.1)

  set_all_whole : (tick : ℕ) (ts : Trees) → are_whole tick ts ≡ true → trees_set tick ts ≡ trees_in_ticks tick ts
  set_all_whole tick Empty e = refl
  set_all_whole tick (With first rest) e =
      let parts = both_true (is_whole tick first) (are_whole tick rest) e in
      ap (λ t. With t (trees_set tick rest)) (set_whole tick first parts.0) ∙ ap (λ ts. With (tree_in_ticks tick first) ts)
      (set_all_whole tick rest parts.1)

-- a tree is whole where nothing is told of its objects
none_told : (b : Bool) (told : Broken) (rest : List Broken) → cons_option (only_if b told) rest ≡ [] → (not b ≡ true) × (rest ≡ [])
none_told true told rest e = absurd (cc)
none_told false told rest e = (refl, e)

joined_true : (a b : Bool) → a ≡ true → b ≡ true → (a && b) ≡ true
joined_true a b e f = ap (λ c. c && b) e ∙ f

fronts_empty : {A : Type 0} (xs ys : List A) → xs ++ ys ≡ [] → (xs ≡ []) × (ys ≡ [])
fronts_empty [] ys e = (refl, e)
fronts_empty (x ∷ xs) ys e = absurd (cc)

mutual
  told_none : (tick : ℕ) (p : Option Object) (s : List Object) (t : Tree) → filter_map (told_ticks tick) (standings p s t) ≡ []
      → is_whole tick t ≡ true
  told_none tick p s (Node own children) e =
      let parts = none_told (breaks_ticks tick own) (V17 own.name)
      (filter_map (told_ticks tick) (inner_standings (Some own) (roots children) children)) e in
      joined_true (not (breaks_ticks tick own)) (are_whole tick children) parts.0 (all_told_none tick (Some own) (roots children) children parts.1)

  all_told_none : (tick : ℕ) (p : Option Object) (s : List Object) (ts : Trees) → filter_map (told_ticks tick) (inner_standings p s ts) ≡ []
      → are_whole tick ts ≡ true
  all_told_none tick p s Empty e = refl
  all_told_none tick p s (With first rest) e =
      let parts = fronts_empty (filter_map (told_ticks tick) (standings p s first)) (filter_map (told_ticks tick) (inner_standings p s rest))
      (sym (filter_map-append (told_ticks tick) (standings p s first) (inner_standings p s rest)) ∙ e) in
      joined_true (is_whole tick first) (are_whole tick rest) (told_none tick p s first parts.0) (all_told_none tick p s rest parts.1)

-- without a fault of its version the root of a design is whole, in ticks that are some time
whole_root : (v : VersionTwo) (x : Design) → head_of (bad_version (Some v) x) ≡ None → is_whole (tick_time v) x.root ≡ true
whole_root v x e =
    let old = filter_map (told_ticks (tick_time v)) (objects x) in
    told_none (tick_time v) None (own_of x.root ∷ []) x.root
    (none_at_all old (back_none (bad_priorities v.priorities) old (back_none (bad_tick v) (bad_priorities v.priorities ++ old) e)))

some_by : (b : Bool) (n : ℕ) → is_within 1 tick_limit n ≡ b → option_to_list (only_if (not b) V17Tick) ≡ [] → 0 < n
some_by true n e none = grind (arith, e)
some_by false n e none = absurd (cc)

-- the tick of a version is some time, where nothing is wrong with it
pub tick_by : (v : VersionTwo) (tick : ℕ) → tick ≡ tick_time v → head_of (bad_tick v) ≡ None → 0 < tick
tick_by v tick is e = rw is (some_by (is_within 1 tick_limit (tick_time v)) (tick_time v) refl (none_at_all (bad_tick v) e))

pub tick_some : (x : Design) (v : VersionTwo) → x.version ≡ Some v → head_of (version_faults x) ≡ None → 0 < tick_time v
tick_some x v same e =
    some_by (is_within 1 tick_limit (tick_time v)) (tick_time v) refl
    (front_none (bad_tick v) _ (subst (λ w. head_of (bad_version w x) ≡ None) same e))

-- a design whose root is set is that in ticks
pub set_root : (x : Design) (v : VersionTwo) (t : Tree) → x.version ≡ Some v → head_of (version_faults x) ≡ None → t ≡ tree_set (tick_time v) x.root
    → record x { root = t } ≡ in_ticks x
set_root x v t same e h =
    ap (λ u. record x { root = u }) (h ∙ set_whole (tick_time v) x.root (whole_root v x (subst (λ w. head_of (bad_version w x) ≡ None) same e)))
    ∙ sym (ap (λ w. ticked w x) same)

pub no_ticks : (x : Design) → x.version ≡ None → x ≡ in_ticks x
no_ticks x same = sym (ap (λ w. ticked w x) same)

pub ruleset tick_laws = (tick_some, set_root, no_ticks)
