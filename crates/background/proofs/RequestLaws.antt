-- The first requests of slow threads, read off the table of a sound flat design.
use Rattle.std.specs.Prelude.{◌≡◌, ℕ, suc, ◌-◌, ◌≤◌, ◌==◌, ◌&&◌, Bool, true, false, List, [], ◌∷◌, map, filter, filter_map, find, length}
use Rattle.std.specs.Prelude.{slice_get, Option, Some, None, option_map, option_and_then, if◌then◌else◌, refl}
use Rattle.std.proofs.Common.{sym, ◌∙◌, ap, arith}
use Rattle.std.proofs.lemmas.Bool.{true≢false}
use Rattle.std.proofs.lemmas.Option.{same_Some}
use Rattle.ods_tree.specs.Flats.{Thread, Flat}
use Rattle.ods_tree.specs.Services.{flat_services}
use Rattle.rt_response.specs.declared.rows.ThreadRow.{ThreadRow}
use Rattle.analysis.specs.Priorities.{priorities_of}
use Rattle.analysis.specs.Sound.{IsSound}
use Rattle.analysis.specs.Starts.{can_request}
use Rattle.analysis.specs.Tables.{downwards, row_of, starter_of, table}
use Rattle.law_designs.proofs.Shared.PriorityLists.{Entry, entry_by, entries, row_entry, rows-are, position-is}
use Rattle.law_designs.proofs.Shared.PriorityPlaces.{entry-at}
use Rattle.law_designs.proofs.Shared.TabledPrograms.{in-range, alone, all-entries}
use Rattle.law_lists.proofs.Shared.Places.{map-at}
use Rattle.ods_index.specs.Judging.{head_of}
use Rattle.ods_names.proofs.Shared.NeedSteps.{head_filter}
use Rattle.background_designs.specs.Misfits.{A6, is_sporadic}
use Rattle.law_backgrounds.proofs.Shared.StarterRows.{requests-by-rows}
use Rattle.background.specs.Fronts.{is_slow, is_row, first_requested, first_started, request_fault, slow_requests}
use Rattle.background.proofs.MisfitLists.{first-passed}

module _ (f : Flat) where
  abbrev ps : List ℕ
  ps = priorities_of f

  -- the row of a thread counts down to its priority
  pub row-stands : (at q : ℕ) (t : Thread) → slice_get f.threads at ≡ Some t → slice_get ps at ≡ Some q
      → slice_get (table f).rows (length ps - q) ≡ Some (row_of f ps t q)
  row-stands at q t stands ranked =
      let range = in-range f 1 at q ranked in
      let entry : entry_by f ps q ≡ Some (t, q) =
      ap (option_and_then (λ x. option_map (λ u. let z : Entry = (u, q) in z) (slice_get f.threads x))) (position-is ps q at (alone f 1) ranked)
      ∙ ap (option_map (λ u. let z : Entry = (u, q) in z)) stands in
      ap (λ rs. slice_get rs (length ps - q)) (rows-are f ps)
      ∙ map-at (row_entry f ps) (entries f ps (downwards (length ps))) (length ps - q) (t, q)
      (entry-at f ps (length ps) (all-entries f 1) q (t, q) range.0 range.1 entry)

  -- there is a row
  pub row-inside : (at q : ℕ) → slice_get ps at ≡ Some q → (q ≤ length ps) × (1 ≤ q)
  row-inside at q ranked = let range = in-range f 1 at q ranked in (range.1, range.0)

  module _ (sound : IsSound f) (at q : ℕ) (c : Thread) (stands : slice_get f.threads at ≡ Some c) (ranked : slice_get ps at ≡ Some q) where
    abbrev pub row : ℕ
    row = length ps - q

    same-row : (n : ℕ) → (n == n) ≡ true
    same-row n = grind arith

    is : (n m : ℕ) → (n == m) ≡ true → n ≡ m
    is n m e = grind arith

    -- a sporadic thread is requested exactly where its starter is this row
    requested : (k : ℕ) (s : Thread) → slice_get f.threads k ≡ Some s → is_sporadic s.timing ≡ true
        → can_request (flat_services f) s.name c.block ≡ is_row row (starter_of f ps s.name s.timing)
    requested k s there sporadic = by (can_request (flat_services f) s.name c.block) (starter_of f ps s.name s.timing) refl refl
      where
        by : (b : Bool) (o : Option ℕ) → can_request (flat_services f) s.name c.block ≡ b → starter_of f ps s.name s.timing ≡ o → b ≡ is_row row o
        by true o e h =
            let told = (requests-by-rows f sound at q k c s stands ranked there sporadic).0 e in
            sym (ap (is_row row) (sym h ∙ told) ∙ same-row row)
        by false None e h = refl
        by false (Some z) e h = other (z == row) refl
          where
            other : (d : Bool) → (z == row) ≡ d → false ≡ d
            other false g = refl
            other true g = absurd (true≢false (sym ((requests-by-rows f sound at q k c s stands ranked there sporadic).1
                (h ∙ ap Some (is z row g))) ∙ e))

    both-same : (b : Bool) (x y : Bool) → (b ≡ true → x ≡ y) → (b && x) ≡ (b && y)
    both-same true x y h = h refl
    both-same false x y h = refl

    -- so the first that is requested is the first that is started
    pub requested-started : first_requested f c ≡ first_started f row
    requested-started =
        find-same (λ t. is_sporadic t.timing && can_request (flat_services f) t.name c.block)
        (λ t. is_sporadic t.timing && is_row row (starter_of f ps t.name t.timing)) f.threads
        (λ k s there. both-same (is_sporadic s.timing) (can_request (flat_services f) s.name c.block) (is_row row (starter_of f ps s.name s.timing))
        (λ sporadic. requested k s there sporadic))
      where
        find-same : (test other : Thread → Bool) (xs : List Thread) → ((k : ℕ) (x : Thread) → slice_get xs k ≡ Some x → test x ≡ other x)
            → find test xs ≡ find other xs
        find-same test other [] h = refl
        find-same test other (x ∷ xs) h =
            let rest : find test xs ≡ find other xs = find-same test other xs (λ k y e. h (suc k) y e) in
            ap (λ b. if b then Some x else find test xs) (h 0 x refl) ∙ ap (λ o. if other x then Some x else o) rest

    -- what is told of a slow thread, by its row
    pub told-by-row : is_slow c ≡ true → (o : Option Thread) → o ≡ first_started f row
        → request_fault f c ≡ option_map (λ t. A6 c.name t.name) o
    told-by-row slow o e =
        ap (λ b. if b then option_map (λ t. A6 c.name t.name) (first_requested f c) else None) slow
        ∙ ap (option_map (λ t. A6 c.name t.name)) (requested-started ∙ sym e)

-- the first of all requests is that of the first thread of which something is told
pub requests-first : (f : Flat) → head_of (filter_map (request_fault f) f.threads) ≡ head_of (slow_requests f)
requests-first f =
    sym (first-passed is_slow (λ c. map (λ t. A6 c.name t.name) (filter (λ t. is_sporadic t.timing && can_request
    (flat_services f) t.name c.block) f.threads))
    (λ c. option_map (λ t. A6 c.name t.name) (first_requested f c)) f.threads
    (λ c. head_filter (λ t. A6 c.name t.name) (λ t. is_sporadic t.timing && can_request (flat_services f) t.name c.block) f.threads))

-- a row that is counted down from the priority at a place
pub row-counted : (f : Flat) (ns : List ℕ) (place len q : ℕ) → ns ≡ priorities_of f → len ≡ length ns → slice_get ns place ≡ Some q
    → (q ≤ len) × (Some (len - q) ≡ option_map (λ p. length (priorities_of f) - p) (slice_get (priorities_of f) place))
row-counted f ns place len q same long' there =
    let ranked : slice_get (priorities_of f) place ≡ Some q = ap (λ zs. slice_get zs place) (sym same) ∙ there in
    let inside = row-inside f place q ranked in
    let whole : len ≡ length (priorities_of f) = long' ∙ ap length same in
    let low = inside.0 in
    (omega (arith, low, whole), ap (λ n. Some (n - q)) whole ∙ sym (ap (option_map (λ p. length (priorities_of f) - p)) ranked))

-- the priority from which a row is counted down
counted-from : (ns : List ℕ) (o : Option ℕ) (row n : ℕ) → Some row ≡ option_map (λ p. n - p) o → (q : ℕ) × (o ≡ Some q) × (row ≡ n - q)
counted-from ns None row n e = absurd (cc)
counted-from ns (Some q) row n e = (q, refl, same_Some row (n - q) e)

module _ (f : Flat) (place row : ℕ) (t : Thread) (stands : slice_get f.threads place ≡ Some t)
    (counted : Some row ≡ option_map (λ p. length (priorities_of f) - p) (slice_get (priorities_of f) place)) where
  from : (q : ℕ) × (slice_get (priorities_of f) place ≡ Some q) × (row ≡ length (priorities_of f) - q)
  from = counted-from (priorities_of f) (slice_get (priorities_of f) place) row (length (priorities_of f)) counted

  -- the row that stands there has the starter of the thread
  pub row-starter : (r : ThreadRow) × (slice_get (table f).rows row ≡ Some r) × (r.starter ≡ starter_of f (priorities_of f) t.name t.timing)
  row-starter = (
    row_of f (priorities_of f) t from.0,
    ap (slice_get (table f).rows) from.2 ∙ row-stands f place from.0 t stands from.1,
    refl,
  )

  -- what is told of a slow thread whose row this is
  pub told-row : IsSound f → is_slow t ≡ true → (o : Option Thread) → o ≡ first_started f row
      → request_fault f t ≡ option_map (λ s. A6 t.name s.name) o
  told-row sound slow o e = told-by-row f sound place from.0 t stands from.1 slow o (e ∙ ap (first_started f) from.2)
