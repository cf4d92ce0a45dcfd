-- Priorities and ceilings don't change with `work`: they are read off deadlines and calls.
use Rattle.std.proofs.Common.{◌≡◌, ℕ, zero, suc, Bool, true, false, ◌||◌, List, [], ◌∷◌, length, map, filter, refl, ap, ◌∙◌}
use Rattle.std.specs.Prelude.{zip, fold, max, cond}
use Rattle.std.specs.List.{list_any}
use Rattle.std.proofs.lemmas.List.{length-map}
use Rattle.seq_tree.specs.Names.{Name, same_name}
use Rattle.seq_tree.specs.Statements.{Statements}
use Rattle.ods_tree.specs.Flats.{Guarded, Timing, Cyclic, Sporadic, Thread, Flat}
use Rattle.analysis.specs.Starts.{calls_object}
use Rattle.analysis.specs.Priorities.{priorities, priorities_of}
use Rattle.analysis.specs.Ceilings.{uses_object, greatest_user, calls_from_inside, ceiling_within, ceiling, control_ceiling, Ranks, ranks_for, ranks}
use Rattle.law_scaling.specs.Working.{reworked_block, reworked_op, reworked_guarded, reworked_thread, reworked}
use Rattle.law_scaling.proofs.Shared.Blocks.{block-calls}

pub map-map : {A B C : Type 0} (g : B → C) (h : A → B) (t : A → C) (xs : List A) → ((x : A) → g (h x) ≡ t x) → map g (map h xs) ≡ map t xs
map-map g h t [] same = refl
map-map g h t (x ∷ xs) same = ap (λ y. y ∷ map g (map h xs)) (same x) ∙ ap (λ z. t x ∷ z) (map-map g h t xs same)

pub any-map : {A : Type 0} (p q : A → Bool) (g : A → A) (xs : List A) → ((x : A) → p (g x) ≡ q x) → list_any p (map g xs) ≡ list_any q xs
any-map p q g [] same = refl
any-map p q g (x ∷ xs) same = ap (λ b. b || list_any p (map g xs)) (same x) ∙ ap (λ b. q x || b) (any-map p q g xs same)

module _ (w : Name → ℕ → ℕ) where
  pub object-called : (c : ℕ → ℕ) (name : Name) (b : Statements) → calls_object name (reworked_block c b) ≡ calls_object name b
  object-called c name b = ap (list_any (λ x. same_name x.object name)) (block-calls c b)

  user-same : (name : Name) (t : Thread) → uses_object name (reworked_thread w t) ≡ uses_object name t
  user-same name t = ap (λ b. same_name t.name name || b) (object-called (w t.name) name t.block)

  users-same : (name : Name) (ts : List Thread) (ps : List ℕ) → map (λ u. u.1) (filter (λ u. uses_object name u.0) (zip (map (reworked_thread w) ts) ps))
      ≡ map (λ u. u.1) (filter (λ u. uses_object name u.0) (zip ts ps))
  users-same name [] ps = refl
  users-same name (t ∷ ts) [] = refl
  users-same name (t ∷ ts) (p ∷ ps) = rw (user-same name t) (by (uses_object name t) (users-same name ts ps))
    where
      Rest : List Thread → List (Thread × ℕ)
      Rest us = filter (λ u. uses_object name u.0) (zip us ps)

      by : (b : Bool) → map (λ u. u.1) (Rest (map (reworked_thread w) ts)) ≡ map (λ u. u.1) (Rest ts)
          → map (λ u. u.1) (cond b ((reworked_thread w t, p) ∷ Rest (map (reworked_thread w) ts)) (Rest (map (reworked_thread w) ts)))
          ≡ map (λ u. u.1) (cond b ((t, p) ∷ Rest ts) (Rest ts))
      by true rest = ap (λ z. p ∷ z) rest
      by false rest = rest

  pub greatest-same : (name : Name) (ts : List Thread) (ps : List ℕ) → greatest_user (map (reworked_thread w) ts) ps name ≡ greatest_user ts ps name
  greatest-same name ts ps = ap (fold max 1) (users-same name ts ps)

  inside-same : (name : Name) (g : Guarded) → calls_from_inside name (reworked_guarded w g) ≡ calls_from_inside name g
  inside-same name g =
      any-map (λ o. calls_object name o.block) (λ o. calls_object name o.block) (reworked_op (w g.name)) g.ops
      (λ o. object-called (w g.name) name o.block)

  callers-same : (X Y : Name → ℕ) (name : Name) (gs : List Guarded) → ((n : Name) → X n ≡ Y n)
      → map (λ g. X g.name) (filter (calls_from_inside name) (map (reworked_guarded w) gs))
      ≡ map (λ g. Y g.name) (filter (calls_from_inside name) gs)
  callers-same X Y name [] same = refl
  callers-same X Y name (g ∷ gs) same = rw (inside-same name g) (by (calls_from_inside name g) (callers-same X Y name gs same))
    where
      Rest : List Guarded → List Guarded
      Rest us = filter (calls_from_inside name) us

      by : (b : Bool) → map (λ u. X u.name) (Rest (map (reworked_guarded w) gs)) ≡ map (λ u. Y u.name) (Rest gs)
          → map (λ u. X u.name) (cond b (reworked_guarded w g ∷ Rest (map (reworked_guarded w) gs)) (Rest (map (reworked_guarded w) gs)))
          ≡ map (λ u. Y u.name) (cond b (g ∷ Rest gs) (Rest gs))
      by true rest = ap (λ z. X g.name ∷ z) rest ∙ ap (λ n. n ∷ map (λ u. Y u.name) (Rest gs)) (same g.name)
      by false rest = rest

  module _ (f : Flat) (ps : List ℕ) where
    within-same : (d : ℕ) (name : Name) → ceiling_within d (reworked w f) ps name ≡ ceiling_within d f ps name
    within-same zero name = greatest-same name f.threads ps
    within-same (suc d) name =
        ap (λ n. fold max n (map (λ g. ceiling_within d (reworked w f) ps g.name) (filter (calls_from_inside name) (map (reworked_guarded w) f.shared))))
        (greatest-same name f.threads ps)
        ∙ ap (fold max (greatest_user f.threads ps name))
        (callers-same (ceiling_within d (reworked w f) ps) (ceiling_within d f ps) name f.shared (within-same d))

    -- a ceiling
    pub ceiling-same : (name : Name) → ceiling (reworked w f) ps name ≡ ceiling f ps name
    ceiling-same name = ap (λ d. ceiling_within d (reworked w f) ps name) (length-map f.shared (reworked_guarded w)) ∙ within-same (length f.shared) name

    control-same : (name : Name) (timing : Timing) → control_ceiling (reworked w f) ps name timing ≡ control_ceiling f ps name timing
    control-same name (Cyclic period offset) = refl
    control-same name (Sporadic op separation jitter) = ceiling-same name

    -- all ceilings, for given priorities
    pub ranks_for-same : ranks_for (reworked w f) ps ≡ ranks_for f ps
    ranks_for-same =
        ap (λ (xs : List ℕ). let r : Ranks = record {
          threads = ps;
          shared = xs;
          obcs = map (λ t. control_ceiling (reworked w f) ps t.name t.timing) (map (reworked_thread w) f.threads);
        } in r) (map-map (λ g. ceiling (reworked w f) ps g.name) (reworked_guarded w) (λ g. ceiling f ps g.name) f.shared (λ g. ceiling-same g.name))
        ∙ ap (λ (xs : List ℕ). let r : Ranks = record { threads = ps; shared = map (λ g. ceiling f ps g.name) f.shared; obcs = xs } in r)
        (map-map (λ t. control_ceiling (reworked w f) ps t.name t.timing) (reworked_thread w) (λ t. control_ceiling f ps t.name t.timing) f.threads
        (λ t. control-same t.name t.timing))

  -- deadline-monotonic priorities
  pub priorities-same : (f : Flat) → priorities_of (reworked w f) ≡ priorities_of f
  priorities-same f = ap priorities (map-map (λ t. t.deadline) (reworked_thread w) (λ t. t.deadline) f.threads (λ t. refl))

  -- and their ceilings
  pub ranks-same : (f : Flat) → ranks (reworked w f) ≡ ranks f
  ranks-same f = ap (ranks_for (reworked w f)) (priorities-same f) ∙ ranks_for-same f (priorities_of f)
