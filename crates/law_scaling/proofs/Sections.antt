-- Sections and blocking do not fall where `work` grows.
use Rattle.std.proofs.Common.{◌≡◌, ◌≤◌, ℕ, zero, suc, Bool, true, false, List, [], ◌∷◌, ◌++◌, map, flat_map, filter, length, refl, ap, ◌∙◌, arith}
use Rattle.std.proofs.Common.{le_refl}
use Rattle.std.proofs.Common.{Option, Some, None}
use Rattle.std.specs.Prelude.{zip, fold, max, nat_lt, nat_le, cond, option_map, if◌then◌else◌}
use Rattle.std.specs.List.{AllZip}
use Rattle.std.proofs.lemmas.List.{length-map}
use Rattle.seq_tree.specs.Names.{Name}
use Rattle.seq_tree.specs.Statements.{Statements}
use Rattle.seq_tree.specs.Operations.{Operation}
use Rattle.seq_tree.specs.declared.tree.Costs.{Costs}
use Rattle.seq_tree.specs.declared.tree.OpName.{OpName}
use Rattle.ods_tree.specs.Flats.{Thread, Flat}
use Rattle.ods_tree.specs.Services.{Sort, Plain, Protected, Request, Service, service_named, flat_services}
use Rattle.analysis.specs.Sections.{Section, section, sections_by, service_sections, sections_within, sections, live_calls}
use Rattle.analysis.specs.Ceilings.{ceiling}
use Rattle.analysis.specs.Blocking.{lower_sections, blocking}
use Rattle.law_scaling.specs.Working.{reworked_block, reworked_op, reworked_thread, reworked}
use Rattle.law_scaling.proofs.Shared.Blocks.{block-live}
use Rattle.law_scaling.proofs.Services.{reworked_service, services-same, named-same, called-more}
use Rattle.law_scaling.proofs.Shared.Ranks.{ceiling-same}

pub zip-append : {A B : Type 0} (R : A → B → Type 0) (xs us : List A) (ys vs : List B) → AllZip R xs ys → AllZip R us vs → AllZip R (xs ++ us) (ys ++ vs)
zip-append R [] us [] vs h k = k
zip-append R [] us (y ∷ ys) vs h k = absurd h
zip-append R (x ∷ xs) us [] vs h k = absurd h
zip-append R (x ∷ xs) us (y ∷ ys) vs h k = (h.0, zip-append R xs us ys vs h.1 k)

pub zip-flat_map : {A B C : Type 0} (R : B → C → Type 0) (g : A → List B) (h : A → List C) (xs : List A) → ((x : A) → AllZip R (g x) (h x))
    → AllZip R (flat_map g xs) (flat_map h xs)
zip-flat_map R g h [] each = tt
zip-flat_map R g h (x ∷ xs) each = zip-append R (g x) (flat_map g xs) (h x) (flat_map h xs) (each x) (zip-flat_map R g h xs each)

-- a section of the same object that is no longer
abbrev pub IsNoLonger : Section → Section → Type 0
IsNoLonger a b = (a.object ≡ b.object) × (a.cost ≤ b.cost)

abbrev pub AreNoLonger : List Section → List Section → Type 0
AreNoLonger xs ys = AllZip IsNoLonger xs ys

-- the greatest that reaches a level is no less
greatest-more : (p : Name → Bool) (a b : ℕ) (xs ys : List Section) → a ≤ b → AreNoLonger xs ys
    → fold max a (map (λ s. s.cost) (filter (λ s. p s.object) xs)) ≤ fold max b (map (λ s. s.cost) (filter (λ s. p s.object) ys))
greatest-more p a b [] [] h k = h
greatest-more p a b [] (y ∷ ys) h k = absurd k
greatest-more p a b (x ∷ xs) [] h k = absurd k
greatest-more p a b (x ∷ xs) (y ∷ ys) h k =
    rw (ap p k.0.0) (by (p y.object) (λ c d less. greatest-more p c d xs ys less k.1))
  where
    Rest : List Section → List Section
    Rest zs = filter (λ s. p s.object) zs

    by : (t : Bool) → ((c d : ℕ) → c ≤ d → fold max c (map (λ s. s.cost) (Rest xs)) ≤ fold max d (map (λ s. s.cost) (Rest ys)))
        → fold max a (map (λ s. s.cost) (cond t (x ∷ Rest xs) (Rest xs))) ≤ fold max b (map (λ s. s.cost) (cond t (y ∷ Rest ys) (Rest ys)))
    by true rest = rest (max a x.cost) (max b y.cost) (let c : x.cost ≤ y.cost = k.0.1 in omega (arith, h, c))
    by false rest = rest a b h

module _ (v w : Name → ℕ → ℕ) (less : (object : Name) (n : ℕ) → v object n ≤ w object n) (costs : Costs) (ss : List Service) where
  abbrev low : List Service
  low = map (reworked_service v) ss

  abbrev high : List Service
  high = map (reworked_service w) ss

  within-longer : (d : ℕ) (c : OpName) → AreNoLonger (sections_within d costs low c) (sections_within d costs high c)
  within-longer zero c = tt
  within-longer (suc d) c =
      rw (named-same v ss c.object c.op, named-same w ss c.object c.op) (by (within-longer d) (service_named ss c.object c.op))
    where
      Less : Type 0
      Less = (x : OpName) → AreNoLonger (sections_within d costs low x) (sections_within d costs high x)

      own : IsNoLonger (section costs low c) (section costs high c)
      own = (refl, called-more v w less costs ss c.object c.op)

      sorted : Less → (x : Sort) (object : Name) (o : Operation)
          → AreNoLonger (sections_by (section costs low c) (sections_within d costs low) x (reworked_op (v object) o))
          (sections_by (section costs high c) (sections_within d costs high) x (reworked_op (w object) o))
      sorted h Plain object o = tt
      sorted h Protected object o = (
        own,
        rw (block-live (v object) o.block, block-live (w object) o.block)
            (zip-flat_map IsNoLonger (sections_within d costs low) (sections_within d costs high) (live_calls o.block) h),
      )
      sorted h Request object o = (own, tt)

      by : Less → (o : Option Service)
          → AreNoLonger (service_sections (section costs low c) (sections_within d costs low) (option_map (reworked_service v) o))
          (service_sections (section costs high c) (sections_within d costs high) (option_map (reworked_service w) o))
      by h None = tt
      by h (Some s) = sorted h s.sort s.object s.op

  -- the sections of a block of an object
  pub sections-longer : (object : Name) (b : Statements) → AreNoLonger (sections costs low (reworked_block (v object) b))
      (sections costs high (reworked_block (w object) b))
  sections-longer object b =
      rw (block-live (v object) b, block-live (w object) b, length-map ss (reworked_service v), length-map ss (reworked_service w))
      (zip-flat_map IsNoLonger (sections_within (length ss) costs low) (sections_within (length ss) costs high) (live_calls b)
      (within-longer (length ss)))

module _ (f : Flat) (v w : Name → ℕ → ℕ) (less : (object : Name) (n : ℕ) → v object n ≤ w object n) where
  pub design-longer : (object : Name) (b : Statements) → AreNoLonger (sections f.costs (flat_services (reworked v f)) (reworked_block (v object) b))
      (sections f.costs (flat_services (reworked w f)) (reworked_block (w object) b))
  design-longer object b = rw (services-same v f, services-same w f) (sections-longer v w less f.costs (flat_services f) object b)

  lower-longer : (level : ℕ) (ts : List Thread) (ps : List ℕ)
      → AreNoLonger
      (flat_map (λ u. if nat_lt u.1 level then sections f.costs (flat_services (reworked v f)) u.0.block else []) (zip (map (reworked_thread v) ts) ps))
      (flat_map (λ u. if nat_lt u.1 level then sections f.costs (flat_services (reworked w f)) u.0.block else []) (zip (map (reworked_thread w) ts) ps))
  lower-longer level [] ps = tt
  lower-longer level (t ∷ ts) [] = tt
  lower-longer level (t ∷ ts) (p ∷ ps) =
      zip-append IsNoLonger (mine v) _ (mine w) _ (by (nat_lt p level) (design-longer t.name t.block)) (lower-longer level ts ps)
    where
      mine : (Name → ℕ → ℕ) → List Section
      mine c = if nat_lt p level then sections f.costs (flat_services (reworked c f)) (reworked_block (c t.name) t.block) else []

      by : (b : Bool) → AreNoLonger (sections f.costs (flat_services (reworked v f)) (reworked_block (v t.name) t.block))
          (sections f.costs (flat_services (reworked w f)) (reworked_block (w t.name) t.block))
          → AreNoLonger (if b then sections f.costs (flat_services (reworked v f)) (reworked_block (v t.name) t.block) else [])
          (if b then sections f.costs (flat_services (reworked w f)) (reworked_block (w t.name) t.block) else [])
      by true h = h
      by false h = tt

  reaches-same : (c : Name → ℕ → ℕ) (ps : List ℕ) (level : ℕ) (xs : List Section) → filter (λ s. nat_le level (ceiling (reworked c f) ps s.object)) xs
      ≡ filter (λ s. nat_le level (ceiling f ps s.object)) xs
  reaches-same c ps level [] = refl
  reaches-same c ps level (x ∷ xs) =
      ap (λ n. cond (nat_le level n) (x ∷ filter (λ s. nat_le level (ceiling (reworked c f) ps s.object)) xs)
      (filter (λ s. nat_le level (ceiling (reworked c f) ps s.object)) xs)) (ceiling-same c f ps x.object)
      ∙ ap (λ z. cond (nat_le level (ceiling f ps x.object)) (x ∷ z) z) (reaches-same c ps level xs)

  -- the blocking of a level
  pub blocking-more : (ps : List ℕ) (level : ℕ) → blocking (reworked v f) ps level ≤ blocking (reworked w f) ps level
  blocking-more ps level =
      let more = greatest-more (λ object. nat_le level (ceiling f ps object)) 0 0 (lower_sections (reworked v f) ps level)
      (lower_sections (reworked w f) ps level) (le_refl 0) (lower-longer level f.threads ps) in
      let low = ap (λ xs. fold max 0 (map (λ s. s.cost) xs)) (reaches-same v ps level (lower_sections (reworked v f) ps level)) in
      let high = ap (λ xs. fold max 0 (map (λ s. s.cost) xs)) (reaches-same w ps level (lower_sections (reworked w f) ps level)) in
      omega (arith, low, high, more)
