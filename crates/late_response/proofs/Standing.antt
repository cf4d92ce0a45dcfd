-- The rounds that the code holds: what stands in a round stands when rows are marked, and in the next round.
use Rattle.std.specs.Prelude.{◌≡◌, ℕ, zero, suc, ◌+◌, ◌*◌, ◌≤◌, ◌<◌, List, [], ◌∷◌, length, zip, take, fold, slice_get, Option, Some, None, refl}
use Rattle.std.specs.Prelude.{nat_lt, Bool, true, false, if◌then◌else◌, option_map, get_or}
use Rattle.std.proofs.Common.{sym, ◌∙◌, ap, ap₂, subst, arith, le_refl, ◌⊎◌, inl, inr}
use Rattle.std.proofs.lemmas.Option.{slice_get_within, slice_get-map, slice_get-get_or}
use borrow.Author.Count.{below_more}
use Rattle.rt_response.specs.declared.rows.ThreadRow.{ThreadRow}
use Rattle.rt_response.specs.declared.rows.Bound.{Bound}
use Rattle.rt_response.specs.Tables.{IsTable}
use Rattle.rt_response.specs.Response.{interference, inherited, jitter_by, response_after}
use Rattle.rt_response.specs.Rounds.{first_jitter, round}
use Rattle.late_response.specs.declared.reach.Reach.{Reach}
use Rattle.late_response.specs.declared.reach.Reach.TheVariants.{Solved, Beyond, Behind}
use Rattle.late_response.specs.declared.progress.Known.{Known}
use Rattle.late_response.specs.Late.{IsNear, IsFar, Needs, DependsOn, itself, through, IsOver, IsFollowed}
use Rattle.late_response.specs.Progress.{IsLive, reach_of, first_of, first_in, sum_or, next_jitter, taken}
use Rattle.late_response.specs.Progress.{next_response, next_reach, next_of, next_at}
use Rattle.late_response.specs.Progress.{behind_of, marked_at, IsLost, IsLiveRow, IsKnown, HasJitterIn, StartsAt}
use Rattle.late_response.specs.Progress.{IsLiveIn, IsFed, Stands, IsClosed}
use Rattle.late_response.proofs.Shared.Places.{some-same, some-none, round-long, round-suc, round-has, starts-within}
use Rattle.late_response.proofs.Shared.Places.{needs-starts, starts-needs, of-both}
use Rattle.late_response.proofs.Progressing.{next-parts, next-is, marked-parts}

abbrev bound : ℕ → ℕ → Bound
bound jitter response = record { jitter = jitter; response = response }

-- the values of a live row
pub record LiveAt (xs : List Known) (i : ℕ) : Type 0 where
  pub held : ℕ
  pub jitter : ℕ
  pub response : ℕ
  pub is : slice_get xs i ≡ Some (record { jitter = held; reach = Solved jitter response })

pub live-at : (xs : List Known) (i : ℕ) → IsLiveIn (slice_get xs i) → LiveAt xs i
live-at xs i h = by (slice_get xs i) refl h
  where
    reach : (n : ℕ) (r : Reach) → slice_get xs i ≡ Some (record { jitter = n; reach = r }) → IsLive r → LiveAt xs i
    reach n (Solved j r) e h = record { held = n; jitter = j; response = r; is = e }
    reach n (Beyond a j r) e h = absurd h
    reach n (Behind s) e h = absurd h

    by : (o : Option Known) → slice_get xs i ≡ o → IsLiveIn o → LiveAt xs i
    by None e h = absurd h
    by (Some x) e h = reach x.jitter x.reach e h

pub live-is : (xs : List Known) (i : ℕ) (x : Known) → slice_get xs i ≡ Some x → IsLive x.reach → IsLiveIn (slice_get xs i)
live-is xs i x e h = subst (λ o. IsLiveIn o) (sym e) h

live-row : (rows : List ThreadRow) (k : ℕ) (xs : List Known) (i : ℕ) → Stands rows k xs → (l : LiveAt xs i)
    → (l.held ≡ l.jitter) × IsLiveRow rows k i l.jitter l.response
live-row rows k xs i stands l = stands.each i (record { jitter = l.held; reach = Solved l.jitter l.response }) l.is

-- all that a live row depends on is live
pub closed-live : (rows : List ThreadRow) (xs : List Known) (i j : ℕ) → IsClosed rows xs → IsLiveIn (slice_get xs i) → DependsOn rows i j
    → IsLiveIn (slice_get xs j)
closed-live rows xs i j closed live itself = live
closed-live rows xs i j closed live (through {starter = s} needs more) = closed-live rows xs s j closed (closed i s live needs) more

-- so all that is within ten times its limits
pub closed-followed : (rows : List ThreadRow) (k : ℕ) (xs : List Known) (i : ℕ) → Stands rows k xs → IsClosed rows xs
    → IsLiveIn (slice_get xs i) → IsFollowed rows k i
closed-followed rows k xs i stands closed live j dep =
    (live-row rows k xs j stands (live-at xs j (closed-live rows xs i j closed live dep))).1.within

-- what the values of a round say of a row
pub judged : (rows : List ThreadRow) (k i j r : ℕ) (row : ThreadRow) → slice_get rows i ≡ Some row
    → slice_get (round rows k) i ≡ Some (bound j r) → ((m : ℕ) → m < k → IsFollowed rows m i) → IsKnown rows k i j (reach_of row k j r)
judged rows k i j r row is told before = go (nat_lt (10 * row.deadline) r) (nat_lt (10 * row.period) (j + r)) refl refl
  where
    go : (p q : Bool) → nat_lt (10 * row.deadline) r ≡ p → nat_lt (10 * row.period) (j + r) ≡ q
        → IsKnown rows k i j (if p then Beyond k j r else if q then Beyond k j r else Solved j r)
    go true q hp hq =
        let far : 10 * row.deadline < r = grind arith in
        record { told = told; over = of-both IsFar _ _ row (bound j r) is told (inl far); followed = before }
    go false true hp hq =
        let far : 10 * row.period < j + r = grind arith in
        record { told = told; over = of-both IsFar _ _ row (bound j r) is told (inr far); followed = before }
    go false false hp hq =
        let response : r ≤ 10 * row.deadline = grind arith in
        let both : j + r ≤ 10 * row.period = grind arith in
        (refl, record { told = told; within = of-both IsNear _ _ row (bound j r) is told (response, both); followed = before })

-- it is live, or over ten times its limits in that round
pub judged-lost : (rows : List ThreadRow) (k i j r : ℕ) (row : ThreadRow) → slice_get rows i ≡ Some row
    → slice_get (round rows k) i ≡ Some (bound j r) → IsLive (reach_of row k j r) ⊎ IsOver rows k i
judged-lost rows k i j r row is told = go (nat_lt (10 * row.deadline) r) (nat_lt (10 * row.period) (j + r)) refl refl
  where
    go : (p q : Bool) → nat_lt (10 * row.deadline) r ≡ p → nat_lt (10 * row.period) (j + r) ≡ q
        → IsLive (if p then Beyond k j r else if q then Beyond k j r else Solved j r) ⊎ IsOver rows k i
    go true q hp hq = let far : 10 * row.deadline < r = grind arith in inr (of-both IsFar _ _ row (bound j r) is told (inl far))
    go false true hp hq = let far : 10 * row.period < j + r = grind arith in inr (of-both IsFar _ _ row (bound j r) is told (inr far))
    go false false hp hq = inl tt

-- ROUND 0
first-parts : (rows : List ThreadRow) (i : ℕ) (y : Known) → first_in (slice_get rows i) ≡ Some y
    → (row : ThreadRow) × (slice_get rows i ≡ Some row) × (first_of row ≡ y)
first-parts rows i y h = by (slice_get rows i) refl h
  where
    by : (o : Option ThreadRow) → slice_get rows i ≡ o → first_in o ≡ Some y
        → (row : ThreadRow) × (slice_get rows i ≡ Some row) × (first_of row ≡ y)
    by None e h = absurd (some-none (sym h))
    by (Some row) e h = (row, e, some-same h)

first-told : (rows : List ThreadRow) (i : ℕ) (row : ThreadRow) → slice_get rows i ≡ Some row
    → slice_get (round rows 0) i ≡ Some (bound (first_jitter row.jitter row.starter) (row.block + row.cost))
first-told rows i row is =
    slice_get-map (λ r. bound (first_jitter r.jitter r.starter) (r.block + r.cost)) rows i
    ∙ ap (λ o. option_map (λ r. bound (first_jitter r.jitter r.starter) (r.block + r.cost)) o) is

pub firsts-stand : (rows : List ThreadRow) (xs : List Known) → IsTable rows → length xs ≡ length rows
    → ((i : ℕ) → slice_get xs i ≡ first_in (slice_get rows i)) → Stands rows 0 xs
firsts-stand rows xs table long first = record { long = long; each = each; jitters = jitters; lost = lost }
  where
    each : (i : ℕ) (x : Known) → slice_get xs i ≡ Some x → IsKnown rows 0 i x.jitter x.reach
    each i x at =
        let parts = first-parts rows i x (sym (first i) ∙ at) in
        let row = parts.0 in
        let known : IsKnown rows 0 i (first_of row).jitter (first_of row).reach
        = judged rows 0 i (first_jitter row.jitter row.starter) (row.block + row.cost) row parts.1 (first-told rows i row parts.1)
        (λ m less. absurd (omega (arith, less))) in
        subst (λ z. IsKnown rows 0 i z.jitter z.reach) parts.2 known

    jitters : (place : ℕ) (x : Known) → slice_get xs place ≡ Some x → IsFed rows xs place → HasJitterIn rows 0 place x.jitter
    jitters place x at fed b told =
        let parts = first-parts rows place x (sym (first place) ∙ at) in
        ap (λ z. z.jitter) (some-same (sym told ∙ first-told rows place parts.0 parts.1)) ∙ ap (λ z. z.jitter) parts.2

    lost : (i s : ℕ) → IsLiveIn (slice_get xs i) → Needs rows i s → IsLiveIn (slice_get xs s) ⊎ IsLost rows 0 s
    lost i s live needs =
        let inside = starts-within rows needs.place s table (needs-starts rows i s needs) in
        let here = slice_get-get_or rows s needs.row inside in
        let row = get_or rows s needs.row in
        let at : slice_get xs s ≡ Some (first_of row) = first s ∙ ap first_in here in
        by row at (judged-lost rows 0 s (first_jitter row.jitter row.starter) (row.block + row.cost) row here (first-told rows s row here))
      where
        by : (row : ThreadRow) → slice_get xs s ≡ Some (first_of row)
            → IsLive (reach_of row 0 (first_jitter row.jitter row.starter) (row.block + row.cost)) ⊎ IsOver rows 0 s
            → IsLiveIn (slice_get xs s) ⊎ IsLost rows 0 s
        by row at (inl live) = inl (live-is xs s _ at live)
        by row at (inr over) = inr (s, itself, over)

-- ROWS THAT FALL BEHIND
behind-live : (starter : ℕ) (x : Known) → IsLive (behind_of starter x).reach → ⊥
behind-live starter x h = by x.reach h
  where
    by : (r : Reach) → IsLive (behind_of starter (record { jitter = 0; reach = r })).reach → ⊥
    by (Solved j r) h = h
    by (Beyond a j r) h = h
    by (Behind s) h = h

-- a row that is live when rows are marked stands before those that are
pub marked-live : (first starter i : ℕ) (xs ys : List Known) → ((i : ℕ) → slice_get ys i ≡ marked_at first starter xs i)
    → IsLiveIn (slice_get ys i) → (i < first) × (slice_get xs i ≡ slice_get ys i)
marked-live first starter i xs ys marked live =
    let l = live-at ys i live in
    by (record { jitter = l.held; reach = Solved l.jitter l.response }) l.is tt
    (marked-parts first starter i xs (record { jitter = l.held; reach = Solved l.jitter l.response }) (sym (marked i) ∙ l.is))
  where
    by : (y : Known) → slice_get ys i ≡ Some y → IsLive y.reach
        → ((i < first) × (slice_get xs i ≡ Some y)) ⊎ ((first ≤ i) × ((x : Known) × (slice_get xs i ≡ Some x) × (behind_of starter x ≡ y)))
        → (i < first) × (slice_get xs i ≡ slice_get ys i)
    by y at h (inl part) = (part.0, part.1 ∙ sym at)
    by y at h (inr part) = absurd (behind-live starter part.1.0 (subst (λ z. IsLive z.reach) (sym part.1.2) h))

-- and one before them is as it was
pub marked-before : (first starter i : ℕ) (xs : List Known) → i < first → marked_at first starter xs i ≡ slice_get xs i
marked-before first starter i xs h = let test : nat_lt i first ≡ true = grind arith in rw test refl

-- no row before a place needs what is not live or stands from there on
abbrev pub IsFrontFed : List ThreadRow → List Known → ℕ → Type 0
IsFrontFed rows xs first = (i s : ℕ) → i < first → StartsAt rows i s → IsLiveIn (slice_get xs s) × (s < first)

-- then all that a live row before it depends on is live
front-live : (rows : List ThreadRow) (xs : List Known) (first i j : ℕ) → IsFrontFed rows xs first → i < first → IsLiveIn (slice_get xs i)
    → DependsOn rows i j → IsLiveIn (slice_get xs j)
front-live rows xs first i j front less live itself = live
front-live rows xs first i j front less live (through {starter = s} needs more) =
    let up : needs.place ≤ i = needs.up in
    let there = front needs.place s (omega (arith, up, less)) (needs-starts rows i s needs) in
    front-live rows xs first s j front there.1 there.0 more

-- in the round that stands a live row from a place on needs this starter of the row there, which is lost
abbrev pub IsLostFrom : List ThreadRow → List Known → ℕ → ℕ → ℕ → Type 0
IsLostFrom rows xs k first starter = (i : ℕ) → first ≤ i → IsLiveIn (slice_get xs i) → StartsAt rows first starter × IsLost rows k starter

-- the place moves up to a row whose starter is not live, or stands from the place on
pub lost-up : (rows : List ThreadRow) (k first starter up lost : ℕ) (xs : List Known) → Stands rows k xs → IsLostFrom rows xs k first starter
    → StartsAt rows up lost → (IsLiveIn (slice_get xs lost) → first ≤ lost) → IsLostFrom rows xs k up lost
lost-up rows k first starter up lost xs stands before starts out i above live =
    (starts, by (stands.lost i lost live (starts-needs rows i up lost above starts)))
  where
    by : IsLiveIn (slice_get xs lost) ⊎ IsLost rows k lost → IsLost rows k lost
    by (inl there) =
        let behind = before lost (out there) there in
        (behind.1.0, through (starts-needs rows lost first starter (out there) behind.0) behind.1.1, behind.1.2)
    by (inr gone) = gone

pub marked-stand : (rows : List ThreadRow) (k first starter : ℕ) (xs ys : List Known) → IsFrontFed rows xs first → IsLostFrom rows xs k first starter
    → length ys ≡ length xs → ((i : ℕ) → slice_get ys i ≡ marked_at first starter xs i) → Stands rows k xs → Stands rows k ys
marked-stand rows k first starter xs ys front behind long marked stands = record {
  long = long ∙ stands.long;
  each = each;
  jitters = jitters;
  lost = lost;
}
  where
    -- what the rows before need is followed
    before : (i s : ℕ) → i < first → Needs rows i s → IsFollowed rows k s
    before i s less needs j dep =
        let up : needs.place ≤ i = needs.up in
        let there = front needs.place s (omega (arith, up, less)) (needs-starts rows i s needs) in
        (live-row rows k xs j stands (live-at xs j (front-live rows xs first s j front there.1 there.0 dep))).1.within

    fallen : (i n : ℕ) (r : Reach) → first ≤ i → slice_get xs i ≡ Some (record { jitter = n; reach = r }) → IsKnown rows k i n r
        → IsKnown rows k i n (behind_of starter (record { jitter = n; reach = r })).reach
    fallen i n (Solved j r) up at known = let gone = behind i up (live-is xs i _ at tt) in record {
      round = k;
      needs = starts-needs rows i first starter up gone.0;
      lost = gone.1;
      first = before;
      within = known.1.within;
      followed = known.1.followed;
    }
    fallen i n (Beyond a j r) up at known = known
    fallen i n (Behind s) up at known = known

    each : (i : ℕ) (y : Known) → slice_get ys i ≡ Some y → IsKnown rows k i y.jitter y.reach
    each i y at = by (marked-parts first starter i xs y (sym (marked i) ∙ at))
      where
        by : ((i < first) × (slice_get xs i ≡ Some y)) ⊎ ((first ≤ i) × ((x : Known) × (slice_get xs i ≡ Some x) × (behind_of starter x ≡ y)))
            → IsKnown rows k i y.jitter y.reach
        by (inl part) = stands.each i y part.1
        by (inr part) =
            let x = part.1.0 in
            let known : IsKnown rows k i (behind_of starter x).jitter (behind_of starter x).reach
            = fallen i x.jitter x.reach part.0 part.1.1 (stands.each i x part.1.1) in
            subst (λ z. IsKnown rows k i z.jitter z.reach) part.1.2 known

    jitters : (place : ℕ) (y : Known) → slice_get ys place ≡ Some y → IsFed rows ys place → HasJitterIn rows k place y.jitter
    jitters place y at fed = by (marked-parts first starter place xs y (sym (marked place) ∙ at))
      where
        before : IsFed rows xs place
        before s started =
            let live = marked-live first starter s xs ys marked (fed s started) in
            subst (λ o. IsLiveIn o) (sym live.1) (fed s started)

        by : ((place < first) × (slice_get xs place ≡ Some y))
            ⊎ ((first ≤ place) × ((x : Known) × (slice_get xs place ≡ Some x) × (behind_of starter x ≡ y)))
            → HasJitterIn rows k place y.jitter
        by (inl part) = stands.jitters place y part.1 before
        by (inr part) = subst (λ z. HasJitterIn rows k place z.jitter) part.1.2 (stands.jitters place part.1.0 part.1.1 before)

    lost : (i s : ℕ) → IsLiveIn (slice_get ys i) → Needs rows i s → IsLiveIn (slice_get ys s) ⊎ IsLost rows k s
    lost i s live needs =
        let was = marked-live first starter i xs ys marked live in
        by (stands.lost i s (subst (λ o. IsLiveIn o) (sym was.1) live) needs)
      where
        go : (p : Bool) → nat_lt s first ≡ p → IsLiveIn (slice_get xs s) → IsLiveIn (slice_get ys s) ⊎ IsLost rows k s
        go true e h =
            let less : s < first = grind arith in
            inl (subst (λ o. IsLiveIn o) (sym (marked s ∙ marked-before first starter s xs less)) h)
        go false e h =
            let up : first ≤ s = grind arith in
            let gone = behind s up h in
            inr (gone.1.0, through (starts-needs rows s first starter up gone.0) gone.1.1, gone.1.2)

        by : IsLiveIn (slice_get xs s) ⊎ IsLost rows k s → IsLiveIn (slice_get ys s) ⊎ IsLost rows k s
        by (inl h) = go (nat_lt s first) refl h
        by (inr h) = inr h

-- where no row has a starter that is not live but behind all live ones, all that a live row needs is live
pub closed-at : (rows : List ThreadRow) (xs : List Known) (count : ℕ) → ((i : ℕ) → count ≤ i → IsLiveIn (slice_get xs i) → ⊥)
    → ((i s : ℕ) → i < count → StartsAt rows i s → IsLiveIn (slice_get xs s)) → IsClosed rows xs
closed-at rows xs count past none i s live needs = go (nat_lt i count) refl
  where
    go : (p : Bool) → nat_lt i count ≡ p → IsLiveIn (slice_get xs s)
    go true e =
        let less : i < count = grind arith in
        let up : needs.place ≤ i = needs.up in
        none needs.place s (omega arith) (needs-starts rows i s needs)
    go false e = absurd (past i (grind arith) live)

-- THE NEXT ROUND
-- the jitter of a row whose starter is live
pub fed-jitter : (rows : List ThreadRow) (k : ℕ) (xs : List Known) (place old : ℕ) (row : ThreadRow) → Stands rows k xs
    → slice_get rows place ≡ Some row → IsFed rows xs place → next_jitter xs row old row.starter ≡ jitter_by (round rows k) row row.starter
fed-jitter rows k xs place old row stands is fed = by row.starter refl
  where
    by : (s : Option ℕ) → row.starter ≡ s → next_jitter xs row old s ≡ jitter_by (round rows k) row s
    by None e = refl
    by (Some s) e =
        let l = live-at xs s (fed s (record { row = row; is = is; started = e })) in
        let told = (live-row rows k xs s stands l).1.told in
        ap (sum_or old) l.is ∙ sym (ap inherited told)

-- what the rows above take, which rests on their jitters alone
same-taken : (w a c i : ℕ) (rows : List ThreadRow) (xs : List Known) (v : List Bound) → a ≡ c → length xs ≡ length rows
    → length v ≡ length rows
    → ((p : ℕ) (x : Known) (b : Bound) → p < i → slice_get xs p ≡ Some x → slice_get v p ≡ Some b → b.jitter ≡ x.jitter)
    → fold (λ n e. n + taken w e) a (zip (take i rows) (take i xs)) ≡ fold (λ n e. n + interference w e) c (zip (take i rows) (take i v))
same-taken w a c zero rows xs v h long many same = h
same-taken w a c (suc i) [] xs v h long many same = h
same-taken w a c (suc i) (row ∷ rows) [] v h long many same = absurd (omega arith)
same-taken w a c (suc i) (row ∷ rows) (x ∷ xs) [] h long many same = absurd (omega arith)
same-taken w a c (suc i) (row ∷ rows) (x ∷ xs) (b ∷ v) h long many same =
    let term : a + taken w (row, x) ≡ c + interference w (row, b)
    = ap₂ (λ n j. n + interference w (row, record { jitter = j; response = 0 })) h (sym (same 0 x b (omega arith) refl refl)) in
    same-taken w (a + taken w (row, x)) (c + interference w (row, b)) i rows xs v term (omega arith) (omega arith)
    (λ p y d less e f. same (suc p) y d (omega (arith, less)) e f)

-- the values of a live row in the next round
pub next-told : (rows : List ThreadRow) (k : ℕ) (xs : List Known) (i old n j r : ℕ) (row : ThreadRow) → Stands rows k xs → IsClosed rows xs
    → slice_get rows i ≡ Some row → slice_get xs i ≡ Some (record { jitter = n; reach = Solved j r })
    → slice_get (round rows (suc k)) i ≡ Some (bound (next_jitter xs row old row.starter) (next_response rows xs i row r))
next-told rows k xs i old n j r row stands closed is at =
    let live : IsLiveIn (slice_get xs i) = live-is xs i _ at tt in
    let told = (stands.each i _ at).1.told in
    let fed : (p : ℕ) → p ≤ i → IsFed rows xs p = λ p up s started. closed i s live (starts-needs rows i p s up started) in
    let jitter = fed-jitter rows k xs i old row stands is (fed i (le_refl i)) in
    let sums = same-taken r 0 0 i rows xs (round rows k) refl stands.long (round-long rows k)
    (λ p x b less e f. stands.jitters p x e (fed p (omega (arith, less))) b f) in
    let response : next_response rows xs i row r ≡ response_after (zip (take i rows) (take i (round rows k))) (row, bound j r)
    = ap (λ z. row.block + row.cost + z) sums in
    round-suc rows k i row (bound j r) is told ∙ ap₂ (λ a b. Some (bound a b)) (sym jitter) (sym response)

-- a live row was live
live-back : (rows : List ThreadRow) (k i : ℕ) (xs ys : List Known) → ((i : ℕ) → slice_get ys i ≡ next_at rows xs (suc k) i)
    → IsLiveIn (slice_get ys i) → IsLiveIn (slice_get xs i)
live-back rows k i xs ys next live =
    let l = live-at ys i live in
    let parts = next-parts rows xs (suc k) i _ (sym (next i) ∙ l.is) in
    live-is xs i parts.old parts.at (by parts.row parts.old.jitter parts.old.reach (subst (λ z. IsLive z.reach) (sym parts.same) tt))
  where
    by : (row : ThreadRow) (n : ℕ) (r : Reach) → IsLive (next_reach rows xs (suc k) i row (next_jitter xs row n row.starter) r) → IsLive r
    by row n (Solved j r) h = tt
    by row n (Beyond a j r) h = h
    by row n (Behind s) h = h

-- what is known of a row in the next round
next-known : (rows : List ThreadRow) (k : ℕ) (xs : List Known) (i n : ℕ) (row : ThreadRow) (reach : Reach) → Stands rows k xs
    → IsClosed rows xs → slice_get rows i ≡ Some row → slice_get xs i ≡ Some (record { jitter = n; reach = reach })
    → IsKnown rows (suc k) i (next_jitter xs row n row.starter) (next_reach rows xs (suc k) i row (next_jitter xs row n row.starter) reach)
next-known rows k xs i n row (Solved j r) stands closed is at =
    let live : IsLiveIn (slice_get xs i) = live-is xs i _ at tt in
    let before = (stands.each i _ at).1.followed in
    let followed : (m : ℕ) → m < suc k → IsFollowed rows m i
    = λ m less. below_more (λ m. IsFollowed rows m i) k before (closed-followed rows k xs i stands closed live) m (omega (arith, less)) in
    judged rows (suc k) i (next_jitter xs row n row.starter) (next_response rows xs i row r) row is
    (next-told rows k xs i n n j r row stands closed is at) followed
next-known rows k xs i n row (Beyond a j r) stands closed is at = stands.each i _ at
next-known rows k xs i n row (Behind s) stands closed is at = stands.each i _ at

pub next-stand : (rows : List ThreadRow) (k : ℕ) (xs ys : List Known) → IsTable rows → Stands rows k xs → IsClosed rows xs
    → length ys ≡ length rows → ((i : ℕ) → slice_get ys i ≡ next_at rows xs (suc k) i) → Stands rows (suc k) ys
next-stand rows k xs ys table stands closed long next = record { long = long; each = each; jitters = jitters; lost = lost }
  where
    each : (i : ℕ) (y : Known) → slice_get ys i ≡ Some y → IsKnown rows (suc k) i y.jitter y.reach
    each i y at =
        let parts = next-parts rows xs (suc k) i y (sym (next i) ∙ at) in
        let known : IsKnown rows (suc k) i (next_of rows xs (suc k) i parts.row parts.old).jitter
        (next_of rows xs (suc k) i parts.row parts.old).reach
        = next-known rows k xs i parts.old.jitter parts.row parts.old.reach stands closed parts.is parts.at in
        subst (λ z. IsKnown rows (suc k) i z.jitter z.reach) parts.same known

    jitters : (place : ℕ) (y : Known) → slice_get ys place ≡ Some y → IsFed rows ys place → HasJitterIn rows (suc k) place y.jitter
    jitters place y at fed b told =
        let parts = next-parts rows xs (suc k) place y (sym (next place) ∙ at) in
        let before : IsFed rows xs place = λ s started. live-back rows k s xs ys next (fed s started) in
        let has = round-has rows k place (slice_get_within rows place parts.row parts.is) in
        let side = round-suc rows k place parts.row has.0 parts.is has.1 in
        ap (λ z. z.jitter) (some-same (sym told ∙ side))
        ∙ sym (fed-jitter rows k xs place parts.old.jitter parts.row stands parts.is before)
        ∙ ap (λ z. z.jitter) parts.same

    lost : (i s : ℕ) → IsLiveIn (slice_get ys i) → Needs rows i s → IsLiveIn (slice_get ys s) ⊎ IsLost rows (suc k) s
    lost i s live needs =
        let l = live-at xs s (closed i s (live-back rows k i xs ys next live) needs) in
        let inside = starts-within rows needs.place s table (needs-starts rows i s needs) in
        let here = slice_get-get_or rows s needs.row inside in
        let row = get_or rows s needs.row in
        let old : Known = record { jitter = l.held; reach = Solved l.jitter l.response } in
        let at : slice_get ys s ≡ Some (next_of rows xs (suc k) s row old) = next s ∙ next-is rows xs (suc k) s row old here l.is in
        by row l.held l.jitter l.response at (judged-lost rows (suc k) s (next_jitter xs row l.held row.starter)
        (next_response rows xs s row l.response) row
        here (next-told rows k xs s l.held l.held l.jitter l.response row stands closed here l.is))
      where
        by : (row : ThreadRow) (n j r : ℕ) → slice_get ys s ≡ Some (next_of rows xs (suc k) s row (record { jitter = n; reach = Solved j r }))
            → IsLive (reach_of row (suc k) (next_jitter xs row n row.starter) (next_response rows xs s row r)) ⊎ IsOver rows (suc k) s
            → IsLiveIn (slice_get ys s) ⊎ IsLost rows (suc k) s
        by row n j r at (inl live) = inl (live-is ys s _ at live)
        by row n j r at (inr over) = inr (s, itself, over)
