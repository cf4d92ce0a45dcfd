-- An order passes exactly where each thread can be last of those that aren't below it.
use Rattle.std.specs.Prelude.{◌≡◌, ℕ, zero, suc, ◌+◌, ◌*◌, ◌≤◌, ◌<◌, false, List, [], ◌∷◌, length, take, zip, sum_by, slice_get, get_or}
use Rattle.std.specs.Prelude.{Some, None, refl}
use Rattle.std.specs.Int.{div_ceil}
use Rattle.std.specs.List.{AllZip}
use Rattle.std.proofs.Common.{sym, ◌∙◌, ap, subst, arith, mul-le-mul_right}
use Rattle.std.proofs.lemmas.Option.{none-some, same_Some, slice_get_within, get_or_from_slice_get}
use Rattle.ods_tree.specs.Flats.{Timing, Thread, Flat, period_of}
use Rattle.ods_tree.specs.Flats as timing
use Rattle.seq_tree.specs.Names.{Name}
use Rattle.rt_response.specs.declared.rows.ThreadRow.{ThreadRow}
use Rattle.rt_response.specs.declared.rows.Bound.{Bound}
use Rattle.rt_response.specs.Response.{interference, jitter_by, response_after, right_sides, IsAtMost, Meets, IsWithinLimits, Fits}
use Rattle.rt_response.proofs.Shared.Least.{div_ceil-mono}
use Rattle.rt_response.proofs.Shared.Places.{right_sides-at, right_sides-long}
use Rattle.law_schedules.proofs.Shared.Equations.{all_zip-at, meets-response, fits-limits}
use Rattle.analysis.specs.Sound.{IsSound}
use Rattle.analysis.specs.Tables.{activation_cost, jitter_of, starter_of, row_of}
use Rattle.law_lists.proofs.Shared.Lists.{none-in, at-in}
use Rattle.law_designs.proofs.Shared.Lists.{has-at}
use Rattle.law_orders.specs.Orders.{is_internal, AllExternal, IsOrder, Passes, priority_in, priorities_by, rows_by, share, EndsLast, CanBeLast}
use Rattle.law_orders.specs.Laws.{OrdersPassByLasts, PassingOrdersHaveLasts}
use Rattle.law_orders.proofs.Shared.Shares.{share_at, share_of}
use Rattle.law_orders.proofs.Shared.OrderPlaces.{order-within}
use Rattle.law_orders.proofs.Shared.OrderRows.{rows-at, rows-long, thread-of, long}
use Rattle.law_orders.proofs.Shared.OrderBlocking.{blocking-down, blocking-up}
use Rattle.law_orders.proofs.Shared.OrderSums.{others-taken, sum-rows-most, sum-rows-least}

-- a thread that is requested from outside, or at its own times, has no starter
no-starter : (f : Flat) (ps : List ℕ) (name : Name) (k : Timing) → is_internal k ≡ false → starter_of f ps name k ≡ None
no-starter f ps name (timing.Cyclic period offset) e = refl
no-starter f ps name (timing.Sporadic op separation None) e = cc
no-starter f ps name (timing.Sporadic op separation (Some jitter)) e = refl

pub starts-none : (f : Flat) (ps : List ℕ) → AllExternal f → (k : ℕ) (t : Thread) → slice_get f.threads k ≡ Some t → starter_of f ps t.name t.timing ≡ None
starts-none f ps external k t at = no-starter f ps t.name t.timing (none-in (λ (t : Thread). is_internal t.timing) t f.threads external (at-in f.threads k t at))

-- a row's jitter in a vector that meets the equations
meets-jitter : (rows : List ThreadRow) (v : List Bound) (i : ℕ) (row : ThreadRow) (b : Bound) → Meets rows v → slice_get rows i ≡ Some row
    → slice_get v i ≡ Some b → jitter_by v row row.starter ≤ b.jitter
meets-jitter rows v i row b meets asks gets =
    let inside : i < length rows = slice_get_within rows i row asks in
    let side = right_sides-at rows v i row b inside meets.0 in
    let same_row : get_or rows i row ≡ row = get_or_from_slice_get rows i row row asks in
    let same_bound : get_or v i b ≡ b = get_or_from_slice_get v i b b gets in
    let at = rw (same_row, same_bound) at side in
    (all_zip-at (λ a c. (a.jitter ≤ c.jitter) × (a.response ≤ c.response)) (right_sides rows v) v i
    (record { jitter = jitter_by v row row.starter; response = response_after (zip (take i rows) (take i v)) (row, b) }) b meets.1 at gets).0

-- lists of one length, item by item
all-zip-from : {A B : Type 0} (R : A → B → Type 0) (xs : List A) (ys : List B) → length xs ≡ length ys
    → ((i : ℕ) (x : A) (y : B) → slice_get xs i ≡ Some x → slice_get ys i ≡ Some y → R x y) → AllZip R xs ys
all-zip-from R [] [] h each = tt
all-zip-from R [] (y ∷ ys) h each = absurd (omega (arith, h))
all-zip-from R (x ∷ xs) [] h each = absurd (omega (arith, h))
all-zip-from R (x ∷ xs) (y ∷ ys) h each = (each 0 x y refl refl, all-zip-from R xs ys (omega (arith, h)) (λ i a b e g. each (suc i) a b e g))

module _ (f : Flat) (sound : IsSound f) (external : AllExternal f) (o : List ℕ) (order : IsOrder f o) where
  abbrev ps : List ℕ
  ps = priorities_by f o

  abbrev rows : List ThreadRow
  rows = rows_by f o

  -- a thread takes at most what its row takes with a jitter that isn't less
  share-row : (w k : ℕ) (t : Thread) (b : Bound) (p : ℕ) → slice_get f.threads k ≡ Some t → jitter_of t.timing ≤ b.jitter
      → share_at f w k ≤ interference w (row_of f ps t p, b)
  share-row w k t b p at h =
      let more : div_ceil (w + jitter_of t.timing) (period_of t.timing) * activation_cost f t ≤ div_ceil (w + b.jitter) (period_of t.timing) * activation_cost f t =
      mul-le-mul_right (activation_cost f t) (div_ceil-mono (w + jitter_of t.timing) (w + b.jitter) (period_of t.timing) (omega (arith, h))) in
      let same : share_at f w k ≡ share f w t = ap (share_of f w) at in
      omega (arith, more, same)

  row-share : (w k : ℕ) (t : Thread) (b : Bound) (p : ℕ) → slice_get f.threads k ≡ Some t → b.jitter ≡ jitter_of t.timing
      → interference w (row_of f ps t p, b) ≤ share_at f w k
  row-share w k t b p at h =
      let more : div_ceil (w + b.jitter) (period_of t.timing) * activation_cost f t ≤ div_ceil (w + jitter_of t.timing) (period_of t.timing) * activation_cost f t =
      mul-le-mul_right (activation_cost f t) (div_ceil-mono (w + b.jitter) (w + jitter_of t.timing) (period_of t.timing) (omega (arith, h))) in
      let same : share_at f w k ≡ share f w t = ap (share_of f w) at in
      omega (arith, more, same)

  -- the jitter of a row in a vector that meets the equations
  jitter-kept : (v : List Bound) → Meets rows v → (i k : ℕ) (t : Thread) (b : Bound) → slice_get o i ≡ Some k → slice_get f.threads k ≡ Some t
      → slice_get v i ≡ Some b → jitter_of t.timing ≤ b.jitter
  jitter-kept v meets i k t b e at gets =
      let kept = meets-jitter rows v i (row_of f ps t (priority_in o k)) b meets (rows-at f o order i k t e at) gets in
      let none : jitter_by v (row_of f ps t (priority_in o k)) (starter_of f ps t.name t.timing) ≡ jitter_of t.timing =
      ap (jitter_by v (row_of f ps t (priority_in o k))) (starts-none f ps external k t at) in
      omega (arith, kept, none)

  pub passes-ends : (v : List Bound) → Fits rows v → (i own : ℕ) (t : Thread) (b : Bound) → slice_get o i ≡ Some own → slice_get f.threads own ≡ Some t
      → slice_get v i ≡ Some b → EndsLast f (take (suc i) o) own t b.response
  passes-ends v fits i own t b e at gets =
      let row = row_of f ps t (priority_in o own) in
      let asks : slice_get rows i ≡ Some row = rows-at f o order i own t e at in
      let meets = meets-response rows v i row b fits.0 asks gets in
      let limits = fits-limits rows v i row b fits asks gets in
      let down = blocking-down f o order i own e in
      let inside : i < length rows = slice_get_within rows i row asks in
      let also : i < length v = slice_get_within v i b gets in
      let taken = others-taken f o order i own b.response e in
      let below : sum_by (share_at f b.response) (take i o) ≤ sum_by (interference b.response) (zip (take i rows) (take i v)) =
      sum-rows-most (share_at f b.response) b.response i o rows v (omega (arith, inside)) (omega (arith, also)) each in
      let jitter = jitter-kept v fits.0 i own t b e at gets in
      record {
        meets = omega (arith, meets, down, taken, below);
        deadline = limits.0;
        period = (let z = limits.1 in omega (arith, z, jitter));
      }
    where
      each : (j k : ℕ) (r : ThreadRow) (c : Bound) → slice_get o j ≡ Some k → slice_get rows j ≡ Some r → slice_get v j ≡ Some c → j < i
          → share_at f b.response k ≤ interference b.response (r, c)
      each j k r c here asks got less =
          let u = has-at f.threads k (order-within (length f.threads) o order j k here) in
          let is : row_of f ps u.0 (priority_in o k) ≡ r = same_Some (row_of f ps u.0 (priority_in o k)) r (sym (rows-at f o order j k u.0 here u.1) ∙ asks) in
          let more = share-row b.response k u.0 c (priority_in o k) u.1 (jitter-kept v fits.0 j k u.0 c here u.1 got) in
          subst (λ z. share_at f b.response k ≤ interference b.response (z, c)) is more

  -- what a vector gives the threads from a place of the order on, where each can be last
  record GivesEach (m : ℕ) (xs : List ℕ) (v : List Bound) : Type 0 where
    count : length v ≡ length xs
    gives : (j k : ℕ) (b : Bound) → slice_get xs j ≡ Some k → slice_get v j ≡ Some b
        → (t : Thread) × (slice_get f.threads k ≡ Some t) × (b.jitter ≡ jitter_of t.timing) × EndsLast f (take (suc (m + j)) o) k t b.response

  given : (m : ℕ) (xs : List ℕ) → ((j k : ℕ) → slice_get xs j ≡ Some k → CanBeLast f (take (suc (m + j)) o) k) → (v : List Bound) × GivesEach m xs v
  given m [] each = ([], record { count = refl; gives = λ j k b e g. absurd (none-some k e) })
  given m (x ∷ xs) each = by (each 0 x refl) (given (suc m) xs (λ j k e.
      let z : m + suc j ≡ suc m + j = omega arith in subst (λ q. CanBeLast f (take (suc q) o) k) z (each (suc j) k e)))
    where
      by : CanBeLast f (take (suc (m + 0)) o) x → ((v : List Bound) × GivesEach (suc m) xs v) → (v : List Bound) × GivesEach m (x ∷ xs) v
      by own rest = (record { jitter = jitter_of own.0.timing; response = own.1 } ∷ rest.0, record { count = ap suc rest.1.count; gives = gives })
        where
          first : Bound
          first = record { jitter = jitter_of own.0.timing; response = own.1 }

          gives : (j k : ℕ) (b : Bound) → slice_get (x ∷ xs) j ≡ Some k → slice_get (record { jitter = jitter_of own.0.timing; response = own.1 } ∷ rest.0) j ≡ Some b
              → (t : Thread) × (slice_get f.threads k ≡ Some t) × (b.jitter ≡ jitter_of t.timing) × EndsLast f (take (suc (m + j)) o) k t b.response
          gives zero k b e g =
              let same : x ≡ k = same_Some x k e in
              let is : record { jitter = jitter_of own.0.timing; response = own.1 } ≡ b = same_Some (record { jitter = jitter_of own.0.timing; response = own.1 }) b g in (
                own.0,
                ap (slice_get f.threads) (sym same) ∙ own.2,
                sym (ap (λ (z : Bound). z.jitter) is),
                subst (λ q. EndsLast f (take (suc (m + 0)) o) q own.0 b.response) same
                    (subst (λ (q : ℕ). EndsLast f (take (suc (m + 0)) o) x own.0 q) (ap (λ (z : Bound). z.response) is) own.3),
              )
          gives (suc j) k b e g =
              let r = rest.1.gives j k b e g in
              let z : suc m + j ≡ m + suc j = omega arith in
              (r.0, r.1, r.2, subst (λ q. EndsLast f (take (suc q) o) k r.0 b.response) z r.3)

  module _ (v : List Bound) (all : GivesEach 0 o v) where
    same-long : length v ≡ length rows
    same-long = (let a = all.count in let b = long f o order in let c = rows-long f o order in omega (arith, a, b, c))

    -- what an item of the vector is of
    record IsOf (i : ℕ) (row : ThreadRow) (b : Bound) : Type 0 where
      place : ℕ
      thread : Thread
      stands : slice_get o i ≡ Some place
      there : slice_get f.threads place ≡ Some thread
      is : row_of f ps thread (priority_in o place) ≡ row
      jitter : b.jitter ≡ jitter_of thread.timing
      ends : EndsLast f (take (suc i) o) place thread b.response

    is-of : (i : ℕ) (row : ThreadRow) (b : Bound) → slice_get rows i ≡ Some row → slice_get v i ≡ Some b → IsOf i row b
    is-of i row b asks gets =
        let inside : i < length rows = slice_get_within rows i row asks in
        let at = thread-of f o order i (let q = rows-long f o order in omega (arith, inside, q)) in
        let given_to = all.gives i at.0 b at.2 gets in
        let same : given_to.0 ≡ at.1 = same_Some given_to.0 at.1 (sym given_to.1 ∙ at.3) in
        let z : suc (0 + i) ≡ suc i = omega arith in
        record {
          place = at.0;
          thread = at.1;
          stands = at.2;
          there = at.3;
          is = same_Some (row_of f ps at.1 (priority_in o at.0)) row (sym (rows-at f o order i at.0 at.1 at.2 at.3) ∙ asks);
          jitter = given_to.2 ∙ ap (λ (t : Thread). jitter_of t.timing) same;
          ends = subst (λ t. EndsLast f (take (suc i) o) at.0 t b.response) same
              (subst (λ q. EndsLast f (take q o) at.0 given_to.0 b.response) z given_to.3);
        }

    side-most : (i : ℕ) (row : ThreadRow) (b : Bound) → slice_get rows i ≡ Some row → slice_get v i ≡ Some b
        → (jitter_by v row row.starter ≤ b.jitter) × (response_after (zip (take i rows) (take i v)) (row, b) ≤ b.response)
    side-most i row b asks gets =
        let u = is-of i row b asks gets in
        let P : ThreadRow → Type 0 = λ r. (jitter_by v r r.starter ≤ b.jitter) × (response_after (zip (take i rows) (take i v)) (r, b) ≤ b.response) in
        subst P u.is (jitters u, responses u)
      where
        jitters : (u : IsOf i row b) → jitter_by v (row_of f ps u.thread (priority_in o u.place)) (starter_of f ps u.thread.name u.thread.timing) ≤ b.jitter
        jitters u =
            let none : jitter_by v (row_of f ps u.thread (priority_in o u.place)) (starter_of f ps u.thread.name u.thread.timing) ≡ jitter_of u.thread.timing =
            ap (jitter_by v (row_of f ps u.thread (priority_in o u.place))) (starts-none f ps external u.place u.thread u.there) in
            let same = u.jitter in
            omega (arith, none, same)

        responses : (u : IsOf i row b) → response_after (zip (take i rows) (take i v)) (row_of f ps u.thread (priority_in o u.place), b) ≤ b.response
        responses u =
            let meets = u.ends.meets in
            let up = blocking-up f o order i u.place u.stands in
            let taken = others-taken f o order i u.place b.response u.stands in
            let inside : i < length o = slice_get_within o i u.place u.stands in
            let above : sum_by (interference b.response) (zip (take i rows) (take i v)) ≤ sum_by (share_at f b.response) (take i o) =
            sum-rows-least (share_at f b.response) b.response i o rows v (omega (arith, inside)) each in
            omega (arith, meets, up, taken, above)
          where
            each : (j k : ℕ) (r : ThreadRow) (c : Bound) → slice_get o j ≡ Some k → slice_get rows j ≡ Some r → slice_get v j ≡ Some c → j < i
                → interference b.response (r, c) ≤ share_at f b.response k
            each j k r c here asks' got less =
                let w = is-of j r c asks' got in
                let same : w.place ≡ k = same_Some w.place k (sym w.stands ∙ here) in
                let more = row-share b.response w.place w.thread c (priority_in o w.place) w.there w.jitter in
                subst (λ q. interference b.response (r, c) ≤ share_at f b.response q) same
                (subst (λ z. interference b.response (z, c) ≤ share_at f b.response w.place) w.is more)

    gives-meets : IsAtMost (right_sides rows v) v
    gives-meets = all-zip-from (λ a c. (a.jitter ≤ c.jitter) × (a.response ≤ c.response)) (right_sides rows v) v (right_sides-long rows v same-long ∙ sym same-long) each
      where
        each : (i : ℕ) (x b : Bound) → slice_get (right_sides rows v) i ≡ Some x → slice_get v i ≡ Some b → (x.jitter ≤ b.jitter) × (x.response ≤ b.response)
        each i x b e gets =
            let also : i < length v = slice_get_within v i b gets in
            let inside : i < length rows = (let q = same-long in omega (arith, also, q)) in
            let row = has-at rows i inside in
            let side = right_sides-at rows v i row.0 b inside same-long in
            let same_row : get_or rows i row.0 ≡ row.0 = get_or_from_slice_get rows i row.0 row.0 row.1 in
            let same_bound : get_or v i b ≡ b = get_or_from_slice_get v i b b gets in
            let at = rw (same_row, same_bound) at side in
            let is : record { jitter = jitter_by v row.0 row.0.starter; response = response_after (zip (take i rows) (take i v)) (row.0, b) } ≡ x =
            same_Some (record { jitter = jitter_by v row.0 row.0.starter; response = response_after (zip (take i rows) (take i v)) (row.0, b) }) x (sym at ∙ e) in
            subst (λ (z : Bound). (z.jitter ≤ b.jitter) × (z.response ≤ b.response)) is (side-most i row.0 b row.1 gets)

    gives-limits : IsWithinLimits rows v
    gives-limits = all-zip-from (λ r b. (b.response ≤ r.deadline) × (b.jitter + b.response ≤ r.period)) rows v (sym same-long) (λ i row b asks gets.
        let u = is-of i row b asks gets in
        let period = u.ends.period in
        let jitter = u.jitter in
        subst (λ (r : ThreadRow). (b.response ≤ r.deadline) × (b.jitter + b.response ≤ r.period)) u.is (u.ends.deadline, omega (arith, period, jitter)))

    gives-fits : Fits rows v
    gives-fits = ((same-long, gives-meets), gives-limits)

  pub lasts-pass : ((i own : ℕ) → slice_get o i ≡ Some own → CanBeLast f (take (suc i) o) own) → Passes f o
  lasts-pass each =
      let all = given 0 o (λ j k e. let z : j ≡ 0 + j = omega arith in subst (λ q. CanBeLast f (take (suc q) o) k) z (each j k e)) in
      (all.0, gives-fits all.0 all.1)

  pub pass-lasts : Passes f o → (i own : ℕ) → slice_get o i ≡ Some own → CanBeLast f (take (suc i) o) own
  pass-lasts passes i own e =
      let t = has-at f.threads own (order-within (length f.threads) o order i own e) in
      let inside : i < length o = slice_get_within o i own e in
      let b = has-at passes.0 i (let a = passes.1.0.0 in let c = rows-long f o order in let d = long f o order in omega (arith, inside, a, c, d)) in
      (t.0, b.0.response, t.1, passes-ends passes.0 passes.1 i own t.0 b.0 e t.1 b.1)

-- an order passes exactly where each thread can be last of those that aren't below it
pub pass-by-lasts : OrdersPassByLasts
pass-by-lasts f o sound external order each = lasts-pass f sound external o order each

pub passing-lasts : PassingOrdersHaveLasts
passing-lasts f o i own sound external order passes e = pass-lasts f sound external o order passes i own e
