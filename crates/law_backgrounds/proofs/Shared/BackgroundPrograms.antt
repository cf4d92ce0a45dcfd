-- The program of a design with background objects is that of its hard part with raised numbers, it can be read, and its hard threads stand in
-- the first rows of the table.
use Rattle.std.specs.Prelude.{◌≡◌, ℕ, zero, suc, ◌+◌, ◌-◌, ◌≤◌, ◌<◌, Bool, true, false, List, [], ◌∷◌, ◌++◌, map, zip, take, max, length, filter_map}
use Rattle.std.specs.Prelude.{Option, Some, None, slice_get, option_map, option_and_then, position, get_or, refl, if◌then◌else◌, is_some, unwrap_or}
use Rattle.std.proofs.Common.{sym, ◌∙◌, ap, ap₂, subst, inl, inr, arith}
use Rattle.std.proofs.lemmas.Option.{none-some, same_Some, slice_get_within, slice_get-get_or}
use Rattle.std.proofs.lemmas.List.{length-map}
use Rattle.std.proofs.lemmas.List.Quantifiers.{position-Some}
use Rattle.seq_tree.specs.Limits.{tick_limit}
use Rattle.seq_tree.specs.Names.{Name}
use Rattle.seq_tree.specs.Lists.{Each}
use Rattle.seq_tree.specs.Operations.{Signature}
use Rattle.ods_tree.specs.Designs.{Design}
use Rattle.ods_tree.specs.Ticks.{first_priority}
use Rattle.ods_tree.specs.Flats.{Library, Guarded, Timing, Thread, Flat}
use Rattle.ods_tree.specs.Flats as timing
use Rattle.ods_tree.specs.Flattening.{flat}
use Rattle.ods_tree.specs.Services.{flat_services}
use Rattle.ada_tree.specs.Programs.{Unit, Program, Cyclic, Sporadic}
use Rattle.rt_response.specs.declared.rows.ThreadRow.{ThreadRow}
use Rattle.rt_response.specs.declared.rows.Bound.{Bound}
use Rattle.rt_response.specs.Tables.{IsTable, IsRow}
use Rattle.rt_response.specs.Tables as tables
use Rattle.analysis.specs.Sound.{IsSound}
use Rattle.analysis.specs.Starts.{can_request}
use Rattle.analysis.specs.Ceilings.{ranks, numbered, written_ranks}
use Rattle.analysis.specs.Priorities.{priorities_of}
use Rattle.analysis.specs.Tables.{table, starter_of, downwards}
use Rattle.design_rules.specs.Rules.{AreMet}
use Rattle.guarantee.specs.Bounded.{Response}
use Rattle.guarantee.specs.Programs.{passive_unit, shared_unit, thread_unit, thread_form, program, stated_ranks}
use Rattle.guarantee.specs.MachineLaw.{IsReadable}
use Rattle.guarantee.specs.ResponseLaw.{Ranked, ranked, program_services, AreTabled, times_of}
use Rattle.law_designs.proofs.Shared.PriorityLists.{Entry, ranked_entry, row_entry, in_order, entries, Stands, rows-are, entries-stand}
use Rattle.law_designs.proofs.Shared.TabledPrograms.{flat-tabled, task-stands, responses-are, long, in-range, twice-threads}
use Rattle.law_designs.proofs.Shared.ProgramTasks.{ranked-listing, zipped-at, services-same}
use Rattle.law_designs.proofs.Shared.TableRanges.{sound-table}
use Rattle.law_designs.proofs.Shared.SoundDesigns.{flat-sound, flat-spaced}
use Rattle.law_designs.proofs.Shared.ReadablePrograms.{rules-met}
use Rattle.law_designs.proofs.Shared.ProperProgram.{AreProper, program-proper}
use Rattle.law_designs.proofs.Shared.Units.{ranks-fit}
use Rattle.law_designs.proofs.Shared.RankRanges.{stated-ranked, room}
use Rattle.law_lists.proofs.Shared.Lists.{IsIn, at-in, each-by, each-map, zip-first}
use Rattle.law_lists.proofs.Shared.Places.{mapped-at, all-at}
use Rattle.background_designs.specs.Clients.{is_client_name}
use Rattle.background_designs.specs.HardParts.{hard_part}
use Rattle.background_designs.specs.Misfits.{is_sporadic, slow_threads, requesting_clients}
use Rattle.background_designs.specs.Programs.{client_count, at_least, restless, background_program, hard_count}
use Rattle.background_designs.specs.Programs.{hard_rows, hard_responses}
use Rattle.law_backgrounds.proofs.Shared.Lifts.{lift_form, lift_unit, lifted}
use Rattle.law_backgrounds.proofs.LiftedRules.{lifted-readable}
use Rattle.law_backgrounds.proofs.LiftedTables.{take-at, at-take, front-tabled}
use Rattle.law_backgrounds.proofs.Shared.HardRanks.{entry-place, client-timing, client-low, hard-high, client-calm, clients-few}
use Rattle.law_backgrounds.proofs.LeastNumbers.{priorities-some, ceilings-some}

-- numbers as they are written
raised-number : (m c k : ℕ) → max m c + k ≡ max (m + k) (c + k)
raised-number m c k = omega arith

-- the units of the hard part, raised
passive-raised : (M : ℕ) (e : Name → Bool) (ls : List Library) → map passive_unit ls ≡ map (lift_unit M e) (map passive_unit ls)
passive-raised M e [] = refl
passive-raised M e (l ∷ ls) = ap (λ us. passive_unit l ∷ us) (passive-raised M e ls)

shared-raised : (m first : ℕ) (e : Name → Bool) (gs : List Guarded) (cs : List ℕ)
    → map shared_unit (zip gs (numbered first (at_least m cs))) ≡ map (lift_unit (m + (first - 1)) e) (map shared_unit (zip gs (numbered first cs)))
shared-raised m first e [] cs = refl
shared-raised m first e (g ∷ gs) [] = refl
shared-raised m first e (g ∷ gs) (c ∷ cs) =
    ap₂ (λ n us. shared_unit (g, n) ∷ us) (raised-number m c (first - 1)) (shared-raised m first e gs cs)

module _ (m first : ℕ) where
  form-raised : (t : Thread) (p c : ℕ) (z : Timing) → thread_form (max m p + (first - 1)) (max m c + (first - 1)) z t
      ≡ lift_form (m + (first - 1)) false (thread_form (p + (first - 1)) (c + (first - 1)) z t)
  form-raised t p c (timing.Cyclic period offset) = ap (λ n. Cyclic n offset period t.vars t.block) (raised-number m p (first - 1))
  form-raised t p c (timing.Sporadic op separation jitter) =
      ap₂ (λ n d. Sporadic n d op separation (unwrap_or jitter 0) (is_some jitter) t.vars t.block) (raised-number m p (first - 1))
      (raised-number m c (first - 1))

  unit-raised : (b : Bool) (t : Thread) (p c : ℕ) → (b ≡ true → t.timing ≡ timing.Cyclic tick_limit 0)
      → thread_unit ((if b then record t { timing = timing.Cyclic 1 0 } else t), (max m p + (first - 1), max m c + (first - 1)))
      ≡ record { name = t.name; form = lift_form (m + (first - 1)) b (thread_form (p + (first - 1)) (c + (first - 1)) t.timing t) }
  unit-raised false t p c h = ap (λ g. let u : Unit = record { name = t.name; form = g } in u) (form-raised t p c t.timing)
  unit-raised true t p c h =
      ap (λ n. let u : Unit = record { name = t.name; form = Cyclic n 0 1 t.vars t.block } in u) (raised-number m p (first - 1))
      ∙ ap (λ z. let u : Unit = record {
        name = t.name;
        form = lift_form (m + (first - 1)) true
            (thread_form (p + (first - 1)) (c + (first - 1)) z t);
      } in u)
      (sym (h refl))

  threads-raised : (x : Design) (ts : List Thread) (qs cs : List ℕ)
      → ((t : Thread) → IsIn t ts → is_client_name x t.name ≡ true → t.timing ≡ timing.Cyclic tick_limit 0)
      → map thread_unit (zip (map (restless x) ts) (zip (numbered first (at_least m qs)) (numbered first (at_least m cs))))
      ≡ map (lift_unit (m + (first - 1)) (is_client_name x)) (map thread_unit (zip ts (zip (numbered first qs) (numbered first cs))))
  threads-raised x [] qs cs h = refl
  threads-raised x (t ∷ ts) [] cs h = refl
  threads-raised x (t ∷ ts) (q ∷ qs) [] h = refl
  threads-raised x (t ∷ ts) (q ∷ qs) (c ∷ cs) h =
      ap₂ (λ u us. u ∷ us) (unit-raised (is_client_name x t.name) t q c (h t (inl refl))) (threads-raised x ts qs cs (λ s k. h s (inr k)))

map-append : {A B : Type 0} (f : A → B) (xs ys : List A) → map f (xs ++ ys) ≡ map f xs ++ map f ys
map-append f [] ys = refl
map-append f (x ∷ xs) ys = ap (λ zs. f x ∷ zs) (map-append f xs ys)

zip-front : {A : Type 0} (k : ℕ) (xs : List A) (v : List Bound) → length v ≤ k → zip (take k xs) v ≡ zip xs v
zip-front zero [] v h = refl
zip-front zero (x ∷ xs) [] h = refl
zip-front zero (x ∷ xs) (b ∷ v) h = absurd (omega (arith, h))
zip-front (suc k) [] v h = refl
zip-front (suc k) (x ∷ xs) [] h = refl
zip-front (suc k) (x ∷ xs) (b ∷ v) h = ap (λ zs. (x, b) ∷ zs) (zip-front k xs v (omega (arith, h)))

pub take-few : {A : Type 0} (k : ℕ) (xs : List A) → length (take k xs) ≤ k
take-few zero [] = omega arith
take-few zero (x ∷ xs) = omega arith
take-few (suc k) [] = omega arith
take-few (suc k) (x ∷ xs) = let r = take-few k xs in omega (arith, r)

rows-each : {A : Type 0} (P : A → Type 0) (xs : List A) → ((i : ℕ) (a : A) → slice_get xs i ≡ Some a → P a) → tables.Each P xs
rows-each P [] h = tt
rows-each P (a ∷ xs) h = (h 0 a refl, rows-each P xs (λ i b e. h (suc i) b e))

rows-at : {A : Type 0} (P : A → Type 0) (xs : List A) (i : ℕ) (x : A) → tables.Each P xs → slice_get xs i ≡ Some x → P x
rows-at P [] i x all e = absurd (none-some x e)
rows-at P (a ∷ xs) zero x all e = subst P (same_Some a x e) all.0
rows-at P (a ∷ xs) (suc i) x all e = rows-at P xs i x all.1 e

length-take : {A : Type 0} (k : ℕ) (xs : List A) → k ≤ length xs → length (take k xs) ≡ k
length-take zero [] h = refl
length-take zero (x ∷ xs) h = refl
length-take (suc k) [] h = absurd (omega (arith, h))
length-take (suc k) (x ∷ xs) h = ap suc (length-take k xs (omega (arith, h)))

module _ (written x : Design) (met : AreMet written (hard_part x)) (version : written.version ≡ (hard_part x).version)
    (proper : AreProper (hard_part x)) (quick : slow_threads x ≡ []) (calm : requesting_clients x ≡ []) where
  abbrev y : Design
  y = hard_part x

  abbrev f : Flat
  f = flat y

  abbrev ps : List ℕ
  ps = priorities_of f

  abbrev first : ℕ
  first = first_priority y

  abbrev k : ℕ
  k = hard_count x

  abbrev least : ℕ
  least = client_count x + (first - 1)

  abbrev p : Program
  p = program y

  abbrev L : Unit → Unit
  L = lift_unit least (is_client_name x)

  pub sound : IsSound f
  sound = flat-sound written y met

  pub program-raised : background_program x ≡ lifted least (is_client_name x) p
  program-raised =
      let us : List Unit = map passive_unit f.passive in
      let vs : List Unit = map shared_unit (zip f.shared (numbered first (ranks f).shared)) in
      let ws : List Unit = map thread_unit (zip f.threads (zip (numbered first (ranks f).threads) (numbered first (ranks f).obcs))) in
      let split : map L (us ++ (vs ++ ws)) ≡ map L us ++ (map L vs ++ map L ws)
      = map-append L us (vs ++ ws) ∙ ap (λ zs. map L us ++ zs) (map-append L vs ws) in
      ap (λ zs. let q : Program = record { name = f.name; costs = f.costs; units = zs } in q)
      (ap₂ (λ a b. a ++ b) (passive-raised least (is_client_name x) f.passive)
      (ap₂ (λ a b. a ++ b) (shared-raised (client_count x) first (is_client_name x) f.shared (ranks f).shared)
      (threads-raised (client_count x) first x f.threads (ranks f).threads (ranks f).obcs
      (λ t h e. (client-timing x quick calm sound t h e).0)))
      ∙ sym split)

  readable-hard : IsReadable p
  readable-hard = (
    program-proper written y met proper (stated_ranks y),
    rules-met written y met (stated_ranks y) (ranks-fit y) (stated-ranked written y met version),
  )

  pub readable : IsReadable (background_program x)
  readable =
      let a = room written y met version in
      let b = clients-few x quick calm sound in
      let low : least ≤ 60 = omega (arith, a, b) in
      subst IsReadable (sym program-raised) (lifted-readable least (is_client_name x) p low readable-hard)

  -- the tasks of the hard part in order
  abbrev pub ts : List Ranked
  ts = in_order first f ps

  tabled : AreTabled p ts (table f).rows
  tabled = flat-tabled f first sound.started (flat-spaced written y met) sound.formed.names (sound-table f sound)

  listing : ranked p ≡ map (ranked_entry first) (zip f.threads ps)
  listing = ranked-listing first f (ranks f) (twice-threads f first)

  all-listed : Each (λ u. (i : ℕ) × (slice_get ts i ≡ Some u)) (ranked p)
  all-listed =
      subst (Each (λ u. (i : ℕ) × (slice_get ts i ≡ Some u))) (sym listing)
      (each-map (ranked_entry first) (λ u. (i : ℕ) × (slice_get ts i ≡ Some u)) (zip f.threads ps)
      (each-by (λ e. (i : ℕ) × (slice_get ts i ≡ Some (ranked_entry first e))) (zip f.threads ps) (λ j e h.
      let parts = zipped-at f.threads ps j e h in
      (length ps - e.1, task-stands f first j e.1 e.0 parts.0 parts.1))))

  -- a place before the clients' is one of a priority above theirs
  high : (i : ℕ) (u : Ranked) → slice_get ts i ≡ Some u → i < k → least < u.priority
  high i u h less =
      let e = entry-place f first i u h in
      let q : u.priority ≡ e.0.1 + (first - 1) = ap (λ (z : Ranked). z.priority) (sym e.1) in
      let n = e.2 in let c = clients-few x quick calm sound in omega (arith, q, n, less, c)

  low : (i : ℕ) (u : Ranked) → slice_get ts i ≡ Some u → k ≤ i → u.priority ≤ least
  low i u h more =
      let e = entry-place f first i u h in
      let q : u.priority ≡ e.0.1 + (first - 1) = ap (λ (z : Ranked). z.priority) (sym e.1) in
      let n = e.2 in let c = clients-few x quick calm sound in omega (arith, q, n, more, c)

  no-client : (i : ℕ) (u : Ranked) → slice_get ts i ≡ Some u → i < k → is_client_name x u.task.name ≡ false
  no-client i u h less = by (is_client_name x u.task.name) refl
    where
      e : (e : Entry) × (ranked_entry first e ≡ u) × (e.1 + i ≡ length f.threads) × (1 ≤ e.1) × Stands f ps e
      e = entry-place f first i u h

      by : (b : Bool) → is_client_name x u.task.name ≡ b → b ≡ false
      by false g = refl
      by true g =
          let l = client-low x quick calm sound e.4.0 e.0.1 e.0.0 e.4.1 e.4.2 (ap (λ (z : Ranked). is_client_name x z.task.name) e.1 ∙ g) in
          let n = e.2 in let c = clients-few x quick calm sound in absurd (omega (arith, l, n, less, c))

  -- a thread that is no client stands before the clients' places
  early : (at q : ℕ) (t : Thread) → slice_get f.threads at ≡ Some t → slice_get ps at ≡ Some q → is_client_name x t.name ≡ false → length ps - q < k
  early at q t h g hard =
      let a = hard-high x quick calm sound at q t h g hard in
      let r = in-range f first at q g in
      let l = long f first in
      omega (arith, a, r.1, l)

  services : program_services p ≡ flat_services f
  services =
      services-same f (written_ranks first (ranks f)) (length-map (ranks f).shared (λ n. n + (first - 1)) ∙ length-map f.shared _)
      (length-map ps (λ n. n + (first - 1)) ∙ long f first) (twice-threads f first)

  sporadic-if : (z : Timing) (op : Signature) (separation : ℕ) (jitter : Option ℕ) → z ≡ timing.Sporadic op separation jitter → is_sporadic z ≡ true
  sporadic-if z op separation jitter e = ap is_sporadic e

  -- only hard threads request others
  starts : (i j : ℕ) (u t : Ranked) (op : Signature) (separation : ℕ) → slice_get ts i ≡ Some u → slice_get ts j ≡ Some t
      → t.task.timing ≡ timing.Sporadic op separation None → can_request (program_services p) t.task.name u.task.block ≡ true → i < k
  starts i j u t op separation h g is can =
      let e = entry-place f first i u h in
      let d = entry-place f first j t g in
      let named : d.0.0.name ≡ t.task.name = ap (λ (z : Ranked). z.task.name) d.1 in
      let block : can_request (program_services p) t.task.name e.0.0.block ≡ true
      = ap (λ (z : Ranked). can_request (program_services p) t.task.name z.task.block) e.1 ∙ can in
      let flatly : can_request (flat_services f) d.0.0.name e.0.0.block ≡ true =
      ap (λ ss. can_request ss d.0.0.name e.0.0.block) (sym services) ∙ ap (λ n. can_request (program_services p) n e.0.0.block) named ∙ block in
      let hard = client-calm x quick calm sound e.0.0 d.0.0 (at-in f.threads e.4.0 e.0.0 e.4.1) (at-in f.threads d.4.0 d.0.0 d.4.1)
      (sporadic-if d.0.0.timing op separation None (ap (λ (z : Ranked). z.task.timing) d.1 ∙ is)) flatly in
      let l = early e.4.0 e.0.1 e.0.0 e.4.1 e.4.2 hard in
      let n = e.2 in
      let m = long f first in
      omega (arith, l, n, m)

  abbrev rows : List ThreadRow
  rows = (table f).rows

  -- a starter's row is one of the first
  starter-early : (at q : ℕ) (t : Thread) → slice_get f.threads at ≡ Some t → slice_get ps at ≡ Some q → is_client_name x t.name ≡ false
      → length ps - q < length (take k rows)
  starter-early at q t h g hard =
      let s = task-stands f first at q t h g in
      let z = zip-first _ ts rows (length ps - q) (ranked_entry first (t, q)) tabled.numbers s in
      slice_get_within (take k rows) (length ps - q) z.0 (at-take k rows (length ps - q) z.0 (early at q t h g hard) z.1)

  inherited : (e : Entry) → Stands f ps e → (z : Timing) → e.0.timing ≡ z → tables.IsStarter (length (take k rows)) (starter_of f ps e.0.name z)
  inherited e s (timing.Cyclic period offset) is = tt
  inherited e s (timing.Sporadic op separation (Some jitter)) is = tt
  inherited e s (timing.Sporadic op separation None) is = place (position (λ t. can_request (flat_services f) e.0.name t.block) f.threads) refl
    where
      place : (o : Option ℕ) → position (λ t. can_request (flat_services f) e.0.name t.block) f.threads ≡ o
          → tables.IsStarter (length (take k rows)) (option_and_then (λ at. option_map (λ q. length ps - q) (slice_get ps at)) o)
      place None g = tt
      place (Some at) g = priority (slice_get ps at) refl
        where
          priority : (o : Option ℕ) → slice_get ps at ≡ o → tables.IsStarter (length (take k rows)) (option_map (λ q. length ps - q) o)
          priority None w = tt
          priority (Some q) w =
              let found = position-Some (λ (t : Thread). can_request (flat_services f) e.0.name t.block) f.threads at e.0 g in
              let t : Thread = get_or f.threads at e.0 in
              let stands : slice_get f.threads at ≡ Some t = slice_get-get_or f.threads at e.0 found.0 in
              starter-early at q t stands w
              (client-calm x quick calm sound t e.0 (at-in f.threads at t stands) (at-in f.threads s.0 e.0 s.1)
              (sporadic-if e.0.timing op separation None is) found.1)

  take-less : {A : Type 0} (n : ℕ) (xs : List A) → length (take n xs) ≤ length xs
  take-less zero [] = omega arith
  take-less zero (z ∷ zs) = omega arith
  take-less (suc n) [] = omega arith
  take-less (suc n) (z ∷ zs) = let r = take-less n zs in omega (arith, r)

  front-table : IsTable (take k rows)
  front-table =
      let whole : IsTable rows = sound-table f sound in
      let few = take-less k rows in
      let count : length rows ≤ 30 = whole.count in
      record {
        count = omega (arith, few, count);
        each = rows-each (IsRow (length (take k rows))) (take k rows) (λ i a h.
            let t = take-at k rows i a h in
            let r : IsRow (length rows) a = rows-at (IsRow (length rows)) rows i a whole.each t.1 in
            let m = mapped-at (row_entry f ps) (entries f ps (downwards (length ps))) i a (ap (λ rs. slice_get rs i) (sym (rows-are f ps)) ∙ t.1) in
            let s = all-at (Stands f ps) (entries f ps (downwards (length ps))) i m.0 (entries-stand f ps (downwards (length ps))) m.1 in
            record {
              asks = r.asks;
              before_next = r.before_next;
              period = r.period;
              works = r.works;
              cost = r.cost;
              block = r.block;
              jitter = r.jitter;
              starter = subst (λ (z : ThreadRow). tables.IsStarter (length (take k rows)) z.starter) m.2 (inherited m.0 s m.0.0.timing refl);
            });
      }

  -- the hard threads stand in their rows
  pub hard-tabled : AreTabled (background_program x) (take k ts) (hard_rows x)
  hard-tabled = subst (λ q. AreTabled q (take k ts) (hard_rows x)) (sym program-raised)
      (front-tabled least (is_client_name x) p ts rows k tabled all-listed (priorities-some p readable-hard.1) (ceilings-some p readable-hard.1)
      high low no-client starts front-table)

  -- their response times are those of the design
  pub hard-times : (v : List Bound) → length v ≤ k → times_of (take k ts) v ≡ hard_responses x v
  hard-times v h =
      ap (λ zs. map (λ c. let r : Response = record { thread = c.0.task.name; ticks = c.1.response } in r) zs) (zip-front k ts v h)
      ∙ sym (responses-are f first v)
      ∙ ap (λ zs. filter_map (λ c. option_map (λ t. let r : Response = record { thread = t.name; ticks = c.1.response } in r)
      (slice_get f.threads c.0)) zs) (sym (zip-front k (table f).places v h))

  -- where the task of a hard thread stands
  pub hard-stands : (at q : ℕ) (t : Thread) → slice_get f.threads at ≡ Some t → slice_get ps at ≡ Some q → is_client_name x t.name ≡ false
      → slice_get (take k ts) (length ps - q) ≡ Some (ranked_entry first (t, q))
  hard-stands at q t h g hard = at-take k ts (length ps - q) (ranked_entry first (t, q)) (early at q t h g hard) (task-stands f first at q t h g)
