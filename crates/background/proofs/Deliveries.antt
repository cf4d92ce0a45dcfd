-- What is made of a design as it is written, from what is made of the flat design of its hard part; and the refusals of the steps before.
use Rattle.std.specs.Prelude.{◌≡◌, ℕ, suc, ◌+◌, ◌≤◌, ◌<◌, Bool, true, false, List, [], ◌∷◌, ◌++◌, length, slice_get, filter_map, Option, Some, None}
use Rattle.std.specs.Prelude.{Result, Ok, Err}
use Rattle.std.specs.Prelude.{refl}
use Rattle.std.specs.List.{list_any, cons_option}
use Rattle.std.proofs.Common.{sym, ap, subst, ◌∙◌, arith, map}
use Rattle.std.proofs.lemmas.List.Elements.{filter_map-append}
use Rattle.seq_tree.specs.Limits.{ada_limit}
use Rattle.seq_tree.specs.Proper.{within_limits}
use Rattle.ods_tree.specs.Designs.{Object, Tree, Trees, Node, Empty, With, Design}
use Rattle.ods_tree.specs.Flattening.{flat}
use Rattle.ods_tree.specs.Proper.{IsProperDesign}
use Rattle.ods_tree.specs.Ticks.{in_ticks, first_priority, ticked, tick_time, attribute_in_ticks, object_in_ticks, tree_in_ticks, trees_in_ticks}
use Rattle.ods_tree.specs.Walk.{Standing, objects, standings, inner_standings, own_of, roots, only_if}
use Rattle.ods_tree.specs.Words.{is_design_name}
use Rattle.ods_tree.specs.declared.design.Attr.{Attr}
use Rattle.ods_tree.specs.declared.design.VersionTwo.{VersionTwo}
use Rattle.design_rules.specs.Broken.{Broken, V17}
use Rattle.design_rules.specs.Versions.{bad_tick, bad_priorities, bad_version, breaks_ticks, misses_ticks, version_faults}
use Rattle.design_rules.specs.Rules.{Rule, Version, Clash, KeptName, Include, Operation, Fitting, Stranger, Absence, Use, CallRing, ObjectRing}
use Rattle.design_rules.specs.Rules.{StartRing, Source, Number, IdleActive, BodyFault, Budget, Size, Spacing, Offends, AreMet, IsFirst, MeetsRules}
use Rattle.ods_index.specs.Judging as judging
use Rattle.ods_index.specs.Judging.{head_of}
use Rattle.ods_index.specs.Told.{told_of, is_memory}
use Rattle.ods_index.specs.declared.broken.Broken as codes
use Rattle.ods_rules.specs.Checks.{IsFirstTold}
use Rattle.ods_rules.proofs.Shared.VerdictLaws.{met_as_written}
use Rattle.rt_response.specs.Response.{IsLeastVector, Fits}
use Rattle.rt_response.specs.Tables.{IsTable}
use Rattle.rt_response.specs.declared.rows.Bound.{Bound}
use Rattle.rt_response.specs.declared.rows.ThreadRow.{ThreadRow}
use Rattle.analysis.specs.Sound.{IsSound}
use Rattle.arrivals_tree.specs.Arrived.{horizon_limit}
use Rattle.law_designs.proofs.Shared.SoundDesigns.{flat-sound}
use Rattle.std.proofs.lemmas.List.{length-append}
use Rattle.ods_rules.proofs.Shared.CountLaws.{few_in_ticks}
use Rattle.background_designs.specs.HardParts.{soft_object, hard_tree, hard_trees, hard_part}
use Rattle.background_designs.specs.Misfits.{Misfit, misfits, misfit_actives, foreign_waits, foreign_servers, background_requests, slow_threads}
use Rattle.background_designs.specs.Misfits.{requesting_clients}
use Rattle.background_designs.specs.Programs.{background_text, hard_rows}
use Rattle.background_designs.specs.Refusals as refusals
use Rattle.background_designs.specs.Refusals.{Fault, Breaks, Misfits, Step, Passes, Tells, IsBackgroundDesign, IsFirstFault, number_of}
use Rattle.background_designs.specs.Runs.{IsGuaranteedInBackground}
use Rattle.law_backgrounds.proofs.Shared.BackgroundRuns.{right-run, hard-table}
use Rattle.law_backgrounds.proofs.Shared.HardTicks.{ticks-hard}
use Rattle.ods_tree.proofs.Shared.TickLaws.{ticks-version}
use Rattle.ods_print.specs.Writable.{is_writable}
use Rattle.rt_response.specs.Rounds.{IsMiss}
use Rattle.law_backgrounds.proofs.Shared.BackgroundTexts.{text-guaranteed}
use Rattle.background.specs.Delivers.{DeliversBackground, IsRefusedInBackground, IsBackgroundOf, IsToldFirst}
use Rattle.background.specs.Fronts.{front_rows, slow_requests}
use Rattle.background.specs.Makes.{Makes, IsMade}
use Rattle.background.specs.Told as told
use Rattle.background.specs.Told.{misfit_of, refusal_by}
use Rattle.background.specs.declared.delivery.Background.{Background}
use Rattle.background.specs.declared.delivery.BackgroundRefusal.{BackgroundRefusal}
use Rattle.background.specs.declared.delivery.BackgroundRefusal.TheVariants as refusal
use Rattle.background.proofs.FrontLaws.{same-requests, same-rows, same-names, same-ranks, same-text, same-bounds}

-- the first of a list, in other words
head-first : {A : Type 0} (xs : List A) (a : A) → head_of xs ≡ Some a → slice_get xs 0 ≡ Some a
head-first [] a e = absurd (cc)
head-first (x ∷ xs) a e = e

none-at-all : {A : Type 0} (xs : List A) → head_of xs ≡ None → xs ≡ []
none-at-all [] e = refl
none-at-all (x ∷ xs) e = absurd (cc)

none-listed : (all : List Broken) → all ≡ [] → (place : ℕ) (told : Broken) → slice_get all place ≡ Some told → ⊥
none-listed [] e place told h = absurd (cc)
none-listed (b ∷ bs) e place told h = absurd (cc)

parts-empty : {A : Type 0} (xs ys : List A) → xs ++ ys ≡ [] → (xs ≡ []) × (ys ≡ [])
parts-empty [] ys e = (refl, e)
parts-empty (x ∷ xs) ys e = absurd (cc)

both-empty : {A : Type 0} (xs ys : List A) → xs ≡ [] → ys ≡ [] → xs ++ ys ≡ []
both-empty xs ys e h = ap (λ zs. zs ++ ys) e ∙ h

-- times in ticks are whole numbers of ticks
abbrev told_ticks : ℕ → Standing → Option Broken
told_ticks tick s = only_if (breaks_ticks tick s.own) (V17 s.own.name)

whole-attrs : (tick : ℕ) (as' : List Attr) → list_any (λ a. misses_ticks tick a.value a.unit) (map (attribute_in_ticks tick) as') ≡ false
whole-attrs tick [] = refl
whole-attrs tick (a ∷ as') = whole-attrs tick as'

mutual
  whole-tree : (tick : ℕ) (p : Option Object) (s : List Object) (t : Tree) → filter_map (told_ticks tick) (standings p s (tree_in_ticks tick t)) ≡ []
  whole-tree tick p s (Node own children) =
      ap (λ b. cons_option (only_if b (V17 own.name))
      (filter_map (told_ticks tick) (inner_standings (Some (object_in_ticks tick own)) (roots (trees_in_ticks tick children))
      (trees_in_ticks tick children))))
      (whole-attrs tick own.attrs) ∙ whole-trees tick (Some (object_in_ticks tick own)) (roots (trees_in_ticks tick children)) children

  whole-trees : (tick : ℕ) (p : Option Object) (s : List Object) (ts : Trees)
      → filter_map (told_ticks tick) (inner_standings p s (trees_in_ticks tick ts)) ≡ []
  whole-trees tick p s Empty = refl
  whole-trees tick p s (With first rest) =
      filter_map-append (told_ticks tick) (standings p s (tree_in_ticks tick first)) (inner_standings p s (trees_in_ticks tick rest))
      ∙ both-empty _ _ (whole-tree tick p s first) (whole-trees tick p s rest)

-- so a design in ticks has no fault of a version that has none in another design
clean : (v : Option VersionTwo) (w y : Design) → ticked v y ≡ y → bad_version v w ≡ [] → bad_version v y ≡ []
clean None w y e h = refl
clean (Some v) w y e h =
    let a = parts-empty (bad_tick v) _ h in
    let b = parts-empty (bad_priorities v.priorities) _ a.1 in
    let R : Tree → Type 0 = λ t. filter_map (told_ticks (tick_time v)) (standings None (own_of t ∷ []) t) ≡ [] in
    let whole : filter_map (told_ticks (tick_time v)) (objects y) ≡ [] =
    subst R (ap (λ z. z.root) e) (whole-tree (tick_time v) None (own_of (tree_in_ticks (tick_time v) y.root) ∷ []) y.root) in
    both-empty (bad_tick v) _ a.0 (both-empty (bad_priorities v.priorities) _ b.0 whole)

-- what offends against a rule that isn't on the version offends whatever the design is as it is written
as-other : (v w x : Design) → ((place : ℕ) (told : Broken) → Offends v x Version place told → ⊥) → (r : Rule) (place : ℕ) (told : Broken)
    → Offends v x r place told → Offends w x r place told
as-other v w x fine Version place told h = absurd (fine place told h)
as-other v w x fine Clash place told h = h
as-other v w x fine KeptName place told h = h
as-other v w x fine Include place told h = h
as-other v w x fine Operation place told h = h
as-other v w x fine Fitting place told h = h
as-other v w x fine Stranger place told h = h
as-other v w x fine Absence place told h = h
as-other v w x fine Use place told h = h
as-other v w x fine CallRing place told h = h
as-other v w x fine ObjectRing place told h = h
as-other v w x fine StartRing place told h = h
as-other v w x fine Source place told h = h
as-other v w x fine Number place told h = h
as-other v w x fine IdleActive place told h = h
as-other v w x fine BodyFault place told h = h
as-other v w x fine Budget place told h = h
as-other v w x fine Size place told h = h
as-other v w x fine Spacing place told h = h

first-other : (v w x : Design) (told : Broken) → version_faults v ≡ [] → version_faults w ≡ [] → IsFirst v x told → IsFirst w x told
first-other v w x told clear fine f = record {
  rule = f.rule;
  place = f.place;
  offends = as-other v w x (none-listed (version_faults v) clear) f.rule f.place told f.offends;
  none_lower = λ lower other others low h. f.none_lower lower other others low (as-other w v x (none-listed
      (version_faults w) fine) lower other others h);
  none_earlier = λ earlier others low h. f.none_earlier earlier others low (as-other w v x (none-listed
      (version_faults w) fine) f.rule earlier others h);
}

module _ (w : Design) where
  abbrev x : Design
  x = in_ticks w

  abbrev y : Design
  y = hard_part x

  -- a fault of the version comes first
  pub version-told : (e : codes.Broken) → judging.Tells (Err e) (head_of (version_faults w)) → IsRefusedInBackground w (refusal_by (is_memory e) e)
  version-told e h = by (is_memory e) (told_of e) refl h
    where
      by : (m : Bool) (t : Option Broken) → told_of e ≡ t → judging.IsTold m t (head_of (version_faults w)) → IsRefusedInBackground w (refusal_by m e)
      by true t q k = tt
      by false None q k = absurd k
      by false (Some b) q k =
          let first : IsFirstFault w (Breaks b) = record {
            step = refusals.Version;
            tells = head-first (version_faults w) b k;
            before = λ s low. absurd (omega (arith, low));
          } in
          let T : Option Broken → Type 0 = IsToldFirst w in subst T (sym q) first

  module _ (fine : head_of (version_faults w) ≡ None) where
    before-one : (s : Step) → number_of s < 1 → Passes w x s
    before-one refusals.Version low = none-at-all (version_faults w) fine
    before-one refusals.Background low = absurd (omega (arith, low))
    before-one refusals.Hard low = absurd (omega (arith, low))
    before-one refusals.Requests low = absurd (omega (arith, low))

    -- then a misfit
    misfit-first : (m : Misfit) → head_of (misfits x) ≡ Some m → IsFirstFault w (Misfits m)
    misfit-first m h = record { step = refusals.Background; tells = head-first (misfits x) m h; before = before-one }

    pub misfit-told : (e : BackgroundRefusal) → told.IsTold e (head_of (misfits x)) → IsRefusedInBackground w e
    misfit-told (refusal.Rule rule) h = misfit-first (misfit_of rule) h
    misfit-told (refusal.Broken broken) h = absurd h
    misfit-told (refusal.Miss thread miss) h = absurd h
    misfit-told refusal.Long h = absurd h
    misfit-told refusal.NoMemory h = tt

    module _ (fits : head_of (misfits x) ≡ None) where
      before-two : (s : Step) → number_of s < 2 → Passes w x s
      before-two refusals.Version low = none-at-all (version_faults w) fine
      before-two refusals.Background low = none-at-all (misfits x) fits
      before-two refusals.Hard low = absurd (omega (arith, low))
      before-two refusals.Requests low = absurd (omega (arith, low))

      clean-hard : version_faults y ≡ []
      clean-hard =
          let same : y.version ≡ w.version = ticks-version w in
          ap (λ v. bad_version v y) same
          ∙ clean w.version w y (ap (λ v. ticked v y) (sym same) ∙ ticks-hard w) (none-at-all (version_faults w) fine)

      -- then a rule that the hard part breaks
      hard-first : (b : Broken) → IsFirst y (in_ticks y) b → IsFirstFault w (Breaks b)
      hard-first b h =
          let F : Design → Type 0 = λ z. IsFirst y z b in record {
            step = refusals.Hard;
            tells = first-other y w y b clean-hard (none-at-all (version_faults w) fine) (subst F (ticks-hard w) h);
            before = before-two;
          }

      pub hard-told : (z : Design) → z ≡ y → (e : codes.Broken) → IsFirstTold (is_memory e) (told_of e) z
          → IsRefusedInBackground w (refusal_by (is_memory e) e)
      hard-told z same e h = by (is_memory e) (told_of e) refl (let F : Design → Type 0 = IsFirstTold (is_memory e) (told_of e) in subst F same h)
        where
          by : (m : Bool) (t : Option Broken) → told_of e ≡ t → IsFirstTold m t y → IsRefusedInBackground w (refusal_by m e)
          by true t q k = tt
          by false None q k = absurd k
          by false (Some b) q k = (let T : Option Broken → Type 0 = IsToldFirst w in subst T (sym q) (hard-first b k))

      module _ (met : MeetsRules y) where
        met-hard : AreMet w y
        met-hard = (let M : Design → Type 0 = AreMet y in met_as_written w y fine (subst M (ticks-hard w) met))

        before-three : (s : Step) → number_of s < 3 → Passes w x s
        before-three refusals.Version low = none-at-all (version_faults w) fine
        before-three refusals.Background low = none-at-all (misfits x) fits
        before-three refusals.Hard low = met-hard
        before-three refusals.Requests low = absurd (omega (arith, low))

        sound : IsSound (flat y)
        sound = flat-sound w y met-hard

        quick : slow_threads x ≡ []
        quick =
            let none = none-at-all (misfits x) fits in
            let a = parts-empty (misfit_actives x) (foreign_waits x ++ (foreign_servers x ++ (background_requests x ++ slow_threads x))) none in
            let b = parts-empty (foreign_waits x) (foreign_servers x ++ (background_requests x ++ slow_threads x)) a.1 in
            let c = parts-empty (foreign_servers x) (background_requests x ++ slow_threads x) b.1 in
            (parts-empty (background_requests x) (slow_threads x) c.1).1

        all-passed : slow_requests (flat y) ≡ [] → IsBackgroundDesign w
        all-passed calm = λ s. by s
          where
            by : (s : Step) → Passes w x s
            by refusals.Version = none-at-all (version_faults w) fine
            by refusals.Background = none-at-all (misfits x) fits
            by refusals.Hard = met-hard
            by refusals.Requests = sym (same-requests x quick sound) ∙ calm

        -- then a request by a client
        request-first : (m : Misfit) → head_of (slow_requests (flat y)) ≡ Some m → IsFirstFault w (Misfits m)
        request-first m h = record {
          step = refusals.Requests;
          tells = head-first (requesting_clients x) m (ap head_of (sym (same-requests x quick sound)) ∙ h);
          before = before-three;
        }

        module _ (proper : IsProperDesign (within_limits is_design_name) w) where
          pub front-table : slow_requests (flat y) ≡ [] → IsTable (front_rows (flat y))
          front-table calm =
              let T : List ThreadRow → Type 0 = IsTable in
              subst T (sym (same-rows x quick sound)) (hard-table w proper (all-passed calm))

          module _ (calm : slow_requests (flat y) ≡ []) (d : Background) (m : IsMade (first_priority y) (flat y) d) where
            abbrev v : List Bound
            v = m.bounds

            text-made : d.text.items ≡ background_text x v
            text-made = m.made ∙ same-text x quick sound v

            least : IsLeastVector (hard_rows x) v
            least = (let L : List ThreadRow → Type 0 = λ rows. IsLeastVector rows v in subst L (same-rows x quick sound) m.least)

            right-text : is_writable w ≡ true → IsGuaranteedInBackground horizon_limit x d.text.items v
            right-text writable =
                let G : List ℕ → Type 0 = λ t. IsGuaranteedInBackground horizon_limit x t v in
                let S : List ℕ → Type 0 = λ t. length t ≤ ada_limit in
                subst G (sym text-made) (text-guaranteed w proper writable (all-passed calm) v least.fits horizon_limit (subst S text-made m.short))

            made : IsBackgroundOf w d
            made = record {
              passes = all-passed calm;
              bounds = v;
              least = least;
              made = text-made;
              short = m.short;
              named = m.named ∙ same-bounds x quick sound v;
              ceilings = m.ceilings ∙ ap (λ r. r.shared) (same-ranks x quick sound);
              runs = right-run horizon_limit w proper (all-passed calm) v least.fits;
              guaranteed = right-text;
            }

          -- what is made of the flat design of the hard part is made of the design
          pub delivered : (r : Result Background BackgroundRefusal) → Makes (first_priority y) (flat y) r → DeliversBackground w r
          unfolding made
          delivered (Ok d) h = made h.0 d h.1
          delivered (Err (refusal.Rule rule)) h = request-first (misfit_of rule) h
          delivered (Err (refusal.Broken broken)) h = absurd h
          delivered (Err (refusal.Miss thread miss)) h =
              let M : List ThreadRow → Type 0 = λ rows. IsMiss rows miss in
              let N : List ThreadRow → Type 0 = λ rows. (v : List Bound) → Fits rows v → ⊥ in
              record {
                passes = all-passed h.0;
                first = subst M (same-rows x quick sound) h.1.missed.first;
                called = sym (same-names x quick sound miss.index) ∙ h.1.called;
                none = subst N (same-rows x quick sound) h.1.missed.none;
              }
          delivered (Err refusal.Long) h =
              let L : List ThreadRow → Type 0 = λ rows. IsLeastVector rows h.1.bounds in
              let G : List ℕ → Type 0 = λ t. ada_limit < length t in
              record {
                passes = all-passed h.0;
                bounds = h.1.bounds;
                least = subst L (same-rows x quick sound) h.1.least;
                long = subst G (same-text x quick sound h.1.bounds) h.1.long;
              }
          delivered (Err refusal.NoMemory) h = tt

-- the hard part has as many objects as the design
mutual
  tree-count : (p q : Option Object) (s r : List Object) (t : Tree) → length (standings p s (hard_tree t)) ≡ length (standings q r t)
  tree-count p q s r (Node own Empty) = refl
  tree-count p q s r (Node own (With first rest)) =
      ap suc (trees-count (Some (soft_object own)) (Some own) (roots (With (hard_tree first) (hard_trees rest))) (roots (With first rest))
      (With first rest))

  trees-count : (p q : Option Object) (s r : List Object) (ts : Trees)
      → length (inner_standings p s (hard_trees ts)) ≡ length (inner_standings q r ts)
  trees-count p q s r Empty = refl
  trees-count p q s r (With first rest) =
      length-append (standings p s (hard_tree first)) (inner_standings p s (hard_trees rest))
      ∙ ap (λ n. n + length (inner_standings p s (hard_trees rest))) (tree-count p q s r first)
      ∙ ap (λ n. length (standings q r first) + n) (trees-count p q s r rest)
      ∙ sym (length-append (standings q r first) (inner_standings q r rest))

-- the same of the designs that the code has: in ticks, hard, and checked
module _ (w x : Design) (tick : x ≡ in_ticks w) (fine : head_of (version_faults w) ≡ None) where
  pub misfit-at : (e : BackgroundRefusal) → told.IsTold e (head_of (misfits x)) → IsRefusedInBackground w e
  misfit-at e h = (let T : Design → Type 0 = λ z. told.IsTold e (head_of (misfits z)) in misfit-told w fine e (subst T tick h))

  module _ (fits : head_of (misfits x) ≡ None) (z : Design) (hard : z ≡ hard_part x) where
    fitting : head_of (misfits (in_ticks w)) ≡ None
    fitting = ap (λ d. head_of (misfits d)) (sym tick) ∙ fits

    is : z ≡ hard_part (in_ticks w)
    is = hard ∙ ap hard_part tick

    pub few-at : length (objects w) < 4294967296 → length (objects z) < 4294967296
    few-at few =
        let count : length (objects z) ≡ length (objects (in_ticks w)) =
        ap (λ d. length (objects d)) is
        ∙ tree-count None None (own_of (hard_tree (in_ticks w).root) ∷ []) (own_of (in_ticks w).root ∷ []) (in_ticks w).root in
        let low = few_in_ticks w few in omega (arith, count, low)

    pub hard-at : (e : codes.Broken) → IsFirstTold (is_memory e) (told_of e) z → IsRefusedInBackground w (refusal_by (is_memory e) e)
    hard-at e h = hard-told w fine fitting z is e h

    module _ (k : Design) (checked : k ≡ in_ticks z) (met : MeetsRules z) (proper : IsProperDesign (within_limits is_design_name) w) where
      kept : k ≡ hard_part (in_ticks w)
      kept = checked ∙ ap in_ticks is ∙ ticks-hard w

      met-at : MeetsRules (hard_part (in_ticks w))
      met-at = subst MeetsRules is met

      pub front-at : slow_requests (flat k) ≡ [] → IsTable (front_rows (flat k))
      front-at = (let T : Design → Type 0 = λ d. slow_requests (flat d) ≡ [] → IsTable (front_rows (flat d)) in
          subst T (sym kept) (front-table w fine fitting met-at proper))

      pub delivered-at : (r : Result Background BackgroundRefusal) → Makes (first_priority k) (flat k) r → DeliversBackground w r
      delivered-at r h = (let M : Design → Type 0 = λ d. Makes (first_priority d) (flat d) r in
          delivered w fine fitting met-at proper r (subst M kept h))
