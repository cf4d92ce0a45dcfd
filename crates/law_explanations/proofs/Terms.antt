-- That the terms of a thread whose bound is known add up to it.
use Rattle.std.proofs.Common.{◌≡◌, ℕ, zero, suc, ◌+◌, ◌<◌, ◌≤◌, List, [], ◌∷◌, length, map, take, fold, Option, Some, None}
use Rattle.std.proofs.Common.{refl, sym, ap, subst, ◌∙◌, arith}
use Rattle.std.proofs.Common.{inl, inr, le_refl}
use Rattle.std.specs.Prelude.{slice_get, sum_by}
use Rattle.std.specs.List.{AllZip}
use Rattle.std.proofs.lemmas.List.{length-map}
use Rattle.std.proofs.lemmas.Option.{none-some, same_Some}
use Rattle.ods_tree.specs.Flats.{Flat}
use Rattle.rt_response.specs.declared.rows.ThreadRow.{ThreadRow}
use Rattle.rt_response.specs.declared.rows.Bound.{Bound}
use Rattle.rt_response.specs.Response.{interference}
use Rattle.rt_response.specs.Rounds.{round}
use Rattle.rt_response.specs.Tables.{IsRow, IsStarter, IsTable}
use Rattle.rt_response.specs.Tables as tables
use Rattle.analysis.specs.Tables.{table}
use Rattle.law_designs.proofs.Shared.TableRanges.{sound-table}
use Rattle.law_designs.proofs.Shared.Lists.{has-at}
use Rattle.law_lists.proofs.Shared.Places.{map-at, mapped-at}
use Rattle.late_response.specs.declared.reach.Reach.{Reach}
use Rattle.late_response.specs.declared.reach.Reach.TheVariants.{Solved, Beyond, Behind}
use Rattle.late_response.specs.Late.{AreTold, DependsOn, IsFar, IsNear, IsOver, IsSolved, IsTold, IsWithin, Needs, OfBoth, itself, through}
use Rattle.late_response.specs.Laws.{AreAbove, AreSolved, HasJitter, LeastIsSolved, SolvedMeetsItsEquation}
use Rattle.explanation.specs.declared.reasons.Late.{Late}
use Rattle.explanation.specs.declared.reasons.Reasons.{Reasons}
use Rattle.explanation.specs.declared.values.Value.{Value}
use Rattle.explanation.specs.Delays.{delay_by, entry_of}
use Rattle.explanation.specs.Findings.{IsFound, solved_of}
use Rattle.explanation.specs.Threads.{reasons_of}
use Rattle.explanation.specs.Values.{known_jitter, value_in, value_of}
use Rattle.law_explanations.specs.Laws.{TermsAddUp}
use Rattle.law_explanations.proofs.Placed.{told-reaches, told-rows}

-- a row is not within and over in one round
near-far : (row : ThreadRow) (b : Bound) → IsNear row b → IsFar row b → ⊥
near-far row b h (inl far) = omega (arith, h.0, far)
near-far row b h (inr far) = omega (arith, h.1, far)

apart : (o : Option ThreadRow) (u : Option Bound) → OfBoth IsNear o u → OfBoth IsFar o u → ⊥
apart None u h k = h
apart (Some row) None h k = h
apart (Some row) (Some b) h k = near-far row b h k

within-over : (rows : List ThreadRow) (k i : ℕ) → IsWithin rows k i → IsOver rows k i → ⊥
within-over rows k i h over = apart (slice_get rows i) (slice_get (round rows k) i) h over

module _ (rows : List ThreadRow) where
  -- what a row depends on that a row depends on
  depends-on : (i j k : ℕ) → DependsOn rows i j → DependsOn rows j k → DependsOn rows i k
  depends-on i _ k itself more = more
  depends-on i j k (through needs rest) more = through needs (depends-on _ j k rest more)

  -- what a solved row depends on is solved
  solved-below : (i s : ℕ) (b : Bound) (r : Reach) → IsSolved rows i b → DependsOn rows i s → IsTold rows s r
      → (j : ℕ) × (q : ℕ) × (r ≡ Solved j q) × IsSolved rows s (record { jitter = j; response = q })
  solved-below i s b (Solved j q) solved depends told = (j, q, refl, told)
  solved-below i s b (Beyond k j q) solved depends told = absurd (within-over rows k s (solved.followed k s depends) told.over)
  solved-below i s b (Behind starter) solved depends told =
      absurd (within-over rows told.round told.lost.0
      (solved.followed told.round told.lost.0 (depends-on i s told.lost.0 depends (through told.needs told.lost.1))) told.lost.2)

-- a row has one bound
solved-one : (rows : List ThreadRow) (i : ℕ) (b c : Bound) → IsSolved rows i b → IsSolved rows i c → b ≡ c
solved-one rows i b c h k =
    same_Some b c (sym (h.rests (h.from + k.from) (omega arith)) ∙ k.rests (h.from + k.from) (omega arith))

-- rows of least bounds are told as solved
all-solved : (rows : List ThreadRow) (v : List Bound) → AreSolved rows v → AreTold rows (map solved_of v)
all-solved rows v h = record {
  long = length-map v solved_of ∙ h.long;
  each = λ i r at. (let here = mapped-at solved_of v i r at in subst (IsTold rows i) here.2 (h.each i here.0 here.1));
}

pub found-told : (f : Flat) (found : List Reach) (late : Option Late) → LeastIsSolved → IsTable (table f).rows → IsFound f found late
    → AreTold (table f).rows found
found-told f found None law t h = subst (AreTold (table f).rows) (sym h.2) (all-solved (table f).rows h.0 (law (table f).rows h.0 t h.1))
found-told f found (Some late) law t h = h.1

starter-within : (n : ℕ) (rows : List ThreadRow) (j s : ℕ) (row : ThreadRow) → tables.Each (IsRow n) rows → slice_get rows j ≡ Some row
    → row.starter ≡ Some s → s < n
starter-within n [] j s row h at is = absurd (none-some row at)
starter-within n (x ∷ rows) zero s row h at is =
    let same : x.starter ≡ Some s = ap (λ z. z.starter) (same_Some x row at) ∙ is in subst (IsStarter n) same h.0.starter
starter-within n (x ∷ rows) (suc j) s row h at is = starter-within n rows j s row h.1 at is

module _ (rows : List ThreadRow) (found : List Reach) (ts : List Reasons) (t : IsTable rows) (told : AreTold rows found)
    (as_rows : map (λ x. x.row) ts ≡ rows) (as_reaches : map (λ x. x.reach) ts ≡ found) (i : ℕ) (b : Bound) (solved : IsSolved rows i b) where
  -- the jitter that is told of a row that the row depends on
  has-jitter : (j : ℕ) (row : ThreadRow) (o : Option ℕ) → j ≤ i → slice_get rows j ≡ Some row → row.starter ≡ o → HasJitter rows row o (known_jitter ts row o)
  has-jitter j row None up at is = refl
  has-jitter j row (Some s) up at is =
      let needs : Needs rows i s = record { place = j; row = row; up = up; is = at; started = is } in
      let inside = starter-within (length rows) rows j s row t.each at is in
      let r = has-at found s (omega (arith, inside, told.long)) in
      let below = solved-below rows i s b r.0 solved (through needs itself) (told.each s r.0 r.1) in
      let there = mapped-at (λ (x : Reasons). x.reach) ts s r.0 (ap (λ l. slice_get l s) as_reaches ∙ r.1) in
      let value : value_in (slice_get ts s) ≡ Some (record { jitter = below.0; response = below.1 })
      = ap value_in there.1 ∙ ap value_of (there.2 ∙ below.2) in
      (record { jitter = below.0; response = below.1 }, below.3, rw value refl)

  -- the rows above it with their jitters
  above-from : (n k : ℕ) (before : List ThreadRow) → k + n ≤ i → ((m : ℕ) (row : ThreadRow) → slice_get before m ≡ Some row → slice_get rows (k + m) ≡ Some row)
      → AllZip (λ row e. (e.0 ≡ row) × HasJitter rows row row.starter e.1.jitter) (take n before) (map (entry_of ts) (take n before))
  above-from zero k before less at = tt
  above-from (suc n) k [] less at = tt
  above-from (suc n) k (row ∷ before) less at =
      let here : slice_get rows k ≡ Some row = (let z : k + 0 ≡ k = omega arith in ap (slice_get rows) (sym z) ∙ at 0 row refl) in (
        (refl, has-jitter k row row.starter (omega (arith, less)) here refl),
        above-from n (suc k) before (omega (arith, less))
            (λ m x e. (let z : suc k + m ≡ k + suc m = omega arith in ap (slice_get rows) z ∙ at (suc m) x e)),
      )

  are-above : AreAbove rows i (map (entry_of ts) (take i rows))
  are-above = above-from i 0 rows (omega arith) (λ m row e. (let z : 0 + m ≡ m = omega arith in ap (slice_get rows) z ∙ e))

  -- and its own
  jitter-told : (row : ThreadRow) (o : Option ℕ) → slice_get rows i ≡ Some row → row.starter ≡ o → (n : ℕ) → HasJitter rows row o n
      → n ≡ known_jitter ts row o
  jitter-told row None at is n h = h
  jitter-told row (Some s) at is n h =
      let k = has-jitter i row (Some s) (le_refl i) at is in
      h.2 ∙ ap (λ (z : Bound). z.jitter + z.response) (solved-one rows s h.0 k.0 h.1 k.1) ∙ sym k.2

sum-ticks : (ts above : List Reasons) (w a : ℕ)
    → fold (λ n e. n + interference w e) a (map (entry_of ts) (map (λ (o : Reasons). o.row) above))
    ≡ fold (λ n (o : Reasons). n + (delay_by ts w o.row).ticks) a above
sum-ticks ts [] w a = refl
sum-ticks ts (o ∷ above) w a = sum-ticks ts above w (a + interference w (entry_of ts o.row))

take-map : {A B : Type 0} (g : A → B) (n : ℕ) (xs : List A) → map g (take n xs) ≡ take n (map g xs)
take-map g zero xs = refl
take-map g (suc n) [] = refl
take-map g (suc n) (x ∷ xs) = ap (λ l. g x ∷ l) (take-map g n xs)

value-is : (r : Reach) (v : Value) → value_of r ≡ Some v → r ≡ Solved v.jitter v.response
value-is (Solved j q) v e =
    let same : (record { jitter = j; response = q }) ≡ v = same_Some _ v e in
    ap (λ (z : Value). Solved z.jitter z.response) same
value-is (Beyond k j q) v e = absurd (none-some v e)
value-is (Behind s) v e = absurd (none-some v e)

pub terms-add-up : SolvedMeetsItsEquation → LeastIsSolved → TermsAddUp
terms-add-up meets least first f found late i t v sound is_found at valued =
    let rows = (table f).rows in
    let ts = reasons_of first f found in
    let tab = sound-table f sound in
    let told = found-told f found late least tab is_found in
    let as_rows = told-rows first f found told.long in
    let as_reaches = told-reaches first f found told.long in
    let row_at : slice_get rows i ≡ Some t.row = ap (λ l. slice_get l i) (sym as_rows) ∙ map-at (λ (x : Reasons). x.row) ts i t at in
    let reach_at : slice_get found i ≡ Some t.reach = ap (λ l. slice_get l i) (sym as_reaches) ∙ map-at (λ (x : Reasons). x.reach) ts i t at in
    let b : Bound = record { jitter = v.jitter; response = v.response } in
    let solved : IsSolved rows i b = subst (IsTold rows i) (value-is t.reach v valued) (told.each i t.reach reach_at) in
    let es = map (entry_of ts) (take i rows) in
    let both = meets rows i t.row b es tab solved row_at (are-above rows found ts tab told as_rows as_reaches i b solved) in
    let sums : fold (λ n e. n + interference v.response e) 0 es ≡ sum_by (λ o. (delay_by ts v.response o.row).ticks) (take i ts) =
    ap (λ l. fold (λ n e. n + interference v.response e) 0 (map (entry_of ts) l)) (ap (take i) (sym as_rows) ∙ sym (take-map (λ (x : Reasons). x.row) i ts))
    ∙ sum-ticks ts (take i ts) v.response 0 in
    record {
      jitter = jitter-told rows found ts tab told as_rows as_reaches i b solved t.row t.row.starter row_at refl v.jitter both.0;
      response = both.1 ∙ ap (λ n. t.row.block + t.row.cost + n) sums;
    }
