-- The rows of a table ask no less where `work` grows, and stand for the same threads.
use Rattle.std.proofs.Common.{◌≡◌, ◌≤◌, ℕ, ◌-◌, ◌+◌, zero, suc, Bool, List, [], ◌∷◌, ◌++◌, map, flat_map, length, refl, ap, ◌∙◌, sym}
use Rattle.std.proofs.Common.{Option, Some, None, slice_get, subst}
use Rattle.std.specs.Prelude.{filter_map, position, option_map, option_and_then, cond, not, nat_lt}
use Rattle.std.specs.List.{cons_option, list_any, prefix_len}
use Rattle.std.proofs.lemmas.List.{length-map}
use Rattle.std.proofs.lemmas.Option.{slice_get-map}
use Rattle.seq_tree.specs.Names.{Name, same_name}
use Rattle.seq_tree.specs.Statements.{Statements}
use Rattle.seq_tree.specs.Operations.{Operation}
use Rattle.seq_tree.specs.Calls.{block_calls}
use Rattle.seq_tree.specs.declared.tree.OpName.{OpName}
use Rattle.ods_tree.specs.Flats.{Timing, Cyclic, Sporadic, Thread, Flat}
use Rattle.ods_tree.specs.Services.{Sort, Plain, Protected, Request, Service, service_named, flat_services}
use Rattle.rt_response.specs.declared.rows.ThreadRow.{ThreadRow}
use Rattle.analysis.specs.Starts.{calls_by, service_calls, calls_within, all_calls, can_request}
use Rattle.analysis.specs.Tables.{places_by_priority, starter_row, starter_of, unless_external, row_of, row_at, table_for, table}
use Rattle.analysis.specs.Priorities.{priorities_of}
use Rattle.law_scaling.specs.Working.{reworked_block, reworked_op, reworked_thread, reworked}
use Rattle.law_scaling.specs.Rows.{AsksNoMore, AskNoMore}
use Rattle.law_scaling.proofs.Shared.Blocks.{block-calls}
use Rattle.law_scaling.proofs.Services.{reworked_service, services-same, named-same, activation-more}
use Rattle.law_scaling.proofs.Shared.Ranks.{priorities-same}
use Rattle.law_scaling.proofs.Sections.{blocking-more}

pub flat_map-same : {A B : Type 0} (g h : A → List B) (xs : List A) → ((x : A) → g x ≡ h x) → flat_map g xs ≡ flat_map h xs
flat_map-same g h [] same = refl
flat_map-same g h (x ∷ xs) same = ap (λ z. z ++ flat_map g xs) (same x) ∙ ap (λ z. h x ++ z) (flat_map-same g h xs same)

front-map : {A : Type 0} (p q : A → Bool) (g : A → A) (xs : List A) → ((x : A) → p (g x) ≡ q x) → prefix_len p (map g xs) ≡ prefix_len q xs
front-map p q g [] same = refl
front-map p q g (x ∷ xs) same = ap (λ b. cond b (1 + prefix_len p (map g xs)) 0) (same x) ∙ ap (λ n. cond (q x) (1 + n) 0) (front-map p q g xs same)

-- the first that passes a test stands at the same place
pub position-map : {A : Type 0} (p q : A → Bool) (g : A → A) (xs : List A) → ((x : A) → p (g x) ≡ q x) → position p (map g xs) ≡ position q xs
position-map p q g xs same =
    ap (λ n. cond (nat_lt n (length (map g xs))) (Some n) None)
    (front-map (λ x. not (p x)) (λ x. not (q x)) g xs (λ x. ap not (same x)))
    ∙ ap (λ n. cond (nat_lt (prefix_len (λ x. not (q x)) xs) n) (Some (prefix_len (λ x. not (q x)) xs)) None) (length-map xs g)

module _ (w : Name → ℕ → ℕ) where
  module _ (ss : List Service) where
    -- what a call leads to
    within-calls : (d : ℕ) (c : OpName) → calls_within d (map (reworked_service w) ss) c ≡ calls_within d ss c
    within-calls zero c = refl
    within-calls (suc d) c =
        ap (λ z. c ∷ z) (ap (service_calls (calls_within d (map (reworked_service w) ss))) (named-same w ss c.object c.op)
        ∙ by (within-calls d) (service_named ss c.object c.op))
      where
        Same : Type 0
        Same = (x : OpName) → calls_within d (map (reworked_service w) ss) x ≡ calls_within d ss x

        sorted : Same → (x : Sort) (object : Name) (o : Operation) → calls_by (calls_within d (map (reworked_service w) ss)) x (reworked_op (w object) o)
            ≡ calls_by (calls_within d ss) x o
        sorted h Plain object o = refl
        sorted h Protected object o =
            ap (flat_map (calls_within d (map (reworked_service w) ss))) (block-calls (w object) o.block)
            ∙ flat_map-same (calls_within d (map (reworked_service w) ss)) (calls_within d ss) (block_calls o.block) h
        sorted h Request object o = refl

        by : Same → (o : Option Service) → service_calls (calls_within d (map (reworked_service w) ss)) (option_map (reworked_service w) o)
            ≡ service_calls (calls_within d ss) o
        by h None = refl
        by h (Some s) = sorted h s.sort s.object s.op

    -- what a block calls
    calls-same : (c : ℕ → ℕ) (b : Statements) → all_calls (map (reworked_service w) ss) (reworked_block c b) ≡ all_calls ss b
    calls-same c b =
        ap (flat_map (calls_within (length (map (reworked_service w) ss)) (map (reworked_service w) ss))) (block-calls c b)
        ∙ ap (λ n. flat_map (calls_within n (map (reworked_service w) ss)) (block_calls b)) (length-map ss (reworked_service w))
        ∙ flat_map-same (calls_within (length ss) (map (reworked_service w) ss)) (calls_within (length ss) ss) (block_calls b) (within-calls (length ss))

  -- which threads a block can request
  pub request-same : (f : Flat) (name : Name) (c : ℕ → ℕ) (b : Statements) → can_request (flat_services (reworked w f)) name (reworked_block c b)
      ≡ can_request (flat_services f) name b
  request-same f name c b =
      ap (λ ss. can_request ss name (reworked_block c b)) (services-same w f)
      ∙ ap (list_any (λ x. same_name x.object name)) (calls-same (flat_services f) c b)

  module _ (f : Flat) (ps : List ℕ) where
    starter-same : (name : Name) → starter_row (reworked w f) ps name ≡ starter_row f ps name
    starter-same name =
        ap (option_and_then (λ at. option_map (λ p. length ps - p) (slice_get ps at)))
        (position-map (λ t. can_request (flat_services (reworked w f)) name t.block) (λ t. can_request (flat_services f) name t.block)
        (reworked_thread w) f.threads (λ t. request-same f name (w t.name) t.block))

    pub starter_of-same : (name : Name) (timing : Timing) → starter_of (reworked w f) ps name timing ≡ starter_of f ps name timing
    starter_of-same name (Cyclic period offset) = refl
    starter_of-same name (Sporadic op separation jitter) = ap (unless_external jitter) (starter-same name)

module _ (f : Flat) (v w : Name → ℕ → ℕ) (less : (object : Name) (n : ℕ) → v object n ≤ w object n) where
  module _ (ps : List ℕ) where
    row-more : (t : Thread) (priority : ℕ) → AsksNoMore (row_of (reworked v f) ps (reworked_thread v t) priority)
        (row_of (reworked w f) ps (reworked_thread w t) priority)
    row-more t priority = record {
      period = refl;
      deadline = refl;
      jitter = refl;
      starter = starter_of-same v f ps t.name t.timing ∙ sym (starter_of-same w f ps t.name t.timing);
      cost = activation-more f v w less t;
      block = blocking-more f v w less ps priority;
    }

    abbrev found : (Name → ℕ → ℕ) → Option Thread → Option ℕ → Option ThreadRow
    found c o p = option_and_then (λ t. option_map (row_of (reworked c f) ps t) p) (option_map (reworked_thread c) o)

    at-found : (c : Name → ℕ → ℕ) (at : ℕ) → row_at (reworked c f) ps at ≡ found c (slice_get f.threads at) (slice_get ps at)
    at-found c at = ap (option_and_then (λ t. option_map (row_of (reworked c f) ps t) (slice_get ps at))) (slice_get-map (reworked_thread c) f.threads at)

    rows-more : (places : List ℕ) → AskNoMore (filter_map (row_at (reworked v f) ps) places) (filter_map (row_at (reworked w f) ps) places)
    rows-more [] = tt
    rows-more (at ∷ places) = rw (at-found v at, at-found w at) (by (slice_get f.threads at) (slice_get ps at) (rows-more places))
      where
        by : (o : Option Thread) (p : Option ℕ)
            → AskNoMore (filter_map (row_at (reworked v f) ps) places) (filter_map (row_at (reworked w f) ps) places)
            → AskNoMore (cons_option (found v o p) (filter_map (row_at (reworked v f) ps) places))
            (cons_option (found w o p) (filter_map (row_at (reworked w f) ps) places))
        by None p rest = rest
        by (Some t) None rest = rest
        by (Some t) (Some p) rest = (row-more t p, rest)

    -- the rows for these priorities
    pub table_for-more : AskNoMore (table_for (reworked v f) ps).rows (table_for (reworked w f) ps).rows
    table_for-more = rows-more (places_by_priority ps)

  -- the rows for deadline-monotonic ones
  pub table-more : AskNoMore (table (reworked v f)).rows (table (reworked w f)).rows
  table-more =
      let Less : List ℕ → List ℕ → Type 0 = λ ps qs. AskNoMore (table_for (reworked v f) ps).rows (table_for (reworked w f) qs).rows in
      subst (λ qs. Less (priorities_of (reworked v f)) qs) (sym (priorities-same w f))
      (subst (λ ps. Less ps (priorities_of f)) (sym (priorities-same v f)) (table_for-more (priorities_of f)))

-- the places of the rows
pub places-same : (w : Name → ℕ → ℕ) (f : Flat) → (table (reworked w f)).places ≡ (table f).places
places-same w f = ap places_by_priority (priorities-same w f)
