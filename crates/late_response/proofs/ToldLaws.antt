-- The laws of all that is told together: solved rows by the jitters that are told, and no late row exactly where there are bounds.
use Rattle.std.specs.Prelude.{◌≡◌, ℕ, zero, suc, ◌+◌, ◌≤◌, ◌<◌, List, [], ◌∷◌, length, map, take, slice_get, Option, Some, None, option_map, refl, get_or}
use Rattle.std.specs.List.{AllZip}
use Rattle.std.proofs.Common.{sym, ◌∙◌, ap, subst, arith, le_refl}
use Rattle.std.proofs.lemmas.List.{length-map}
use Rattle.std.proofs.lemmas.Option.{slice_get_within, slice_get-get_or, slice_get-map}
use Rattle.rt_response.specs.declared.rows.ThreadRow.{ThreadRow}
use Rattle.rt_response.specs.declared.rows.Bound.{Bound}
use Rattle.rt_response.specs.Tables.{IsTable}
use Rattle.rt_response.specs.Response.{IsWithinLimits, IsLeastVector}
use Rattle.late_response.specs.declared.reach.Reach.{Reach}
use Rattle.late_response.specs.declared.reach.Reach.TheVariants.{Solved, Beyond, Behind}
use Rattle.late_response.specs.Late.{Needs, itself, through, IsSolved, IsTold, AreTold}
use Rattle.late_response.specs.Laws.{HasJitter, AreSolved, told_sum, told_jitter, told_entry, ToldMeetsItsEquation, IsInTime, solved_with, NoneIsLate}
use Rattle.late_response.specs.Laws.{LeastIsTold}
use Rattle.late_response.proofs.Shared.Places.{starts-within, needs-starts}
use Rattle.late_response.proofs.Shared.LateLaws.{solved-equation, solved-in-time, least-solved, told-once, over-or-within, rests-once, same-places}

-- what a solved row needs is told to be solved
needed-solved : (rows : List ThreadRow) (i s : ℕ) (b : Bound) (r : Reach) → IsSolved rows i b → Needs rows i s → IsTold rows s r
    → (c : Bound) × IsSolved rows s c × (r ≡ solved_with c)
needed-solved rows i s b (Solved j q) solved needs told = (record { jitter = j; response = q }, told, refl)
needed-solved rows i s b (Beyond k j q) solved needs told =
    absurd (over-or-within rows k s (solved.followed k s (through needs itself)) told.over)
needed-solved rows i s b (Behind t) solved needs told =
    absurd (over-or-within rows told.round told.lost.0 (solved.followed told.round told.lost.0 (through needs (through told.needs told.lost.1)))
    told.lost.2)

-- so the jitters that are told of the rows above are theirs
told-jitter-has : (rows : List ThreadRow) (found : List Reach) (i p : ℕ) (b : Bound) (row : ThreadRow) → IsTable rows → AreTold rows found
    → IsSolved rows i b → p ≤ i → slice_get rows p ≡ Some row → HasJitter rows row row.starter (told_jitter found row row.starter)
told-jitter-has rows found i p b row table told solved up is = by row.starter refl
  where
    by : (o : Option ℕ) → row.starter ≡ o → HasJitter rows row o (told_jitter found row o)
    by None e = refl
    by (Some s) e =
        let needs : Needs rows i s = record { place = p; row = row; up = up; is = is; started = e } in
        let inside = starts-within rows p s table (needs-starts rows i s needs) in
        let here : s < length found = omega (arith, inside, told.long) in
        let at = slice_get-get_or found s (Behind 0) here in
        let one = needed-solved rows i s b (get_or found s (Behind 0)) solved needs (told.each s _ at) in
        (one.0, one.1, ap told_sum at ∙ ap (λ z. told_sum (Some z)) one.2)

all-above : (all : List ThreadRow) (found : List Reach) (i : ℕ) (rows : List ThreadRow)
    → ((p : ℕ) (row : ThreadRow) → p < i → slice_get rows p ≡ Some row → HasJitter all row row.starter (told_jitter found row row.starter))
    → AllZip (λ row e. (e.0 ≡ row) × HasJitter all row row.starter e.1.jitter) (take i rows) (map (told_entry found) (take i rows))
all-above all found zero rows h = tt
all-above all found (suc i) [] h = tt
all-above all found (suc i) (row ∷ rows) h =
    ((refl, h 0 row (omega arith) refl), all-above all found i rows (λ p r less e. h (suc p) r (omega (arith, less)) e))

has-once : (rows : List ThreadRow) (row : ThreadRow) (o : Option ℕ) (n m : ℕ) → HasJitter rows row o n → HasJitter rows row o m → n ≡ m
has-once rows row None n m h k = h ∙ sym k
has-once rows row (Some s) n m h k = h.2 ∙ ap (λ b. b.jitter + b.response) (rests-once rows s h.0 k.0 h.1 k.1) ∙ sym k.2

pub told-equation : ToldMeetsItsEquation
told-equation rows found i j r row table told is at =
    let b : Bound = record { jitter = j; response = r } in
    let solved : IsSolved rows i b = told.each i (Solved j r) at in
    let above = all-above rows found i rows (λ p row less e. told-jitter-has rows found i p b row table told solved (omega (arith, less)) e) in
    let both = solved-equation rows i row b (map (told_entry found) (take i rows)) table solved is above in
    (has-once rows row row.starter j _ both.0 (told-jitter-has rows found i i b row table told solved (le_refl i) is), both.1)

-- the bound of a row that is in time
abbrev bound_in : Reach → Bound
bound_in (Solved j r) = record { jitter = j; response = r }
bound_in (Beyond k j r) = record { jitter = 0; response = 0 }
bound_in (Behind s) = record { jitter = 0; response = 0 }

in-time-solved : (rows : List ThreadRow) (found : List Reach) → AllZip IsInTime rows found → found ≡ map solved_with (map bound_in found)
in-time-solved [] [] h = refl
in-time-solved [] (r ∷ found) h = absurd h
in-time-solved (row ∷ rows) [] h = absurd h
in-time-solved (row ∷ rows) (Solved j r ∷ found) h = ap (λ l. Solved j r ∷ l) (in-time-solved rows found h.1)
in-time-solved (row ∷ rows) (Beyond k j r ∷ found) h = absurd h.0
in-time-solved (row ∷ rows) (Behind s ∷ found) h = absurd h.0

in-time-within : (rows : List ThreadRow) (found : List Reach) → AllZip IsInTime rows found → IsWithinLimits rows (map bound_in found)
in-time-within [] [] h = tt
in-time-within [] (r ∷ found) h = absurd h
in-time-within (row ∷ rows) [] h = absurd h
in-time-within (row ∷ rows) (Solved j r ∷ found) h = (h.0, in-time-within rows found h.1)
in-time-within (row ∷ rows) (Beyond k j r ∷ found) h = absurd h.0
in-time-within (row ∷ rows) (Behind s ∷ found) h = absurd h.0

within-in-time : (rows : List ThreadRow) (v : List Bound) → IsWithinLimits rows v → AllZip IsInTime rows (map solved_with v)
within-in-time [] [] h = tt
within-in-time [] (b ∷ v) h = absurd h
within-in-time (row ∷ rows) [] h = absurd h
within-in-time (row ∷ rows) (b ∷ v) h = (h.0, within-in-time rows v h.1)

pub none-late : NoneIsLate
none-late rows found table told = (to, from)
  where
    to : AllZip IsInTime rows found → (v : List Bound) × IsLeastVector rows v × (found ≡ map solved_with v)
    to times =
        let v = map bound_in found in
        let same = in-time-solved rows found times in
        let solved : AreSolved rows v = record {
          long = length-map found bound_in ∙ told.long;
          each = λ i b at. told.each i (solved_with b) (ap (λ l. slice_get l i) same ∙ slice_get-map solved_with v i ∙ ap (λ o. option_map solved_with o) at);
        } in
        (v, solved-in-time rows v solved (in-time-within rows found times), same)

    from : ((v : List Bound) × IsLeastVector rows v × (found ≡ map solved_with v)) → AllZip IsInTime rows found
    from h = subst (λ l. AllZip IsInTime rows l) (sym h.2) (within-in-time rows h.0 h.1.fits.1)

pub least-told : LeastIsTold
least-told rows found v table told least =
    same-places found (map solved_with v) (told.long ∙ sym (length-map v solved_with ∙ least.fits.0.0)) each
  where
    each : (i : ℕ) (r : Reach) → slice_get found i ≡ Some r → slice_get (map solved_with v) i ≡ Some r
    each i r at =
        let inside : i < length v = omega (arith, slice_get_within found i r at, told.long, least.fits.0.0) in
        let here = slice_get-get_or v i (record { jitter = 0; response = 0 }) inside in
        let b = get_or v i (record { jitter = 0; response = 0 }) in
        let solved = (least-solved rows v table least).each i b here in
        let same : r ≡ solved_with b = told-once rows i r (solved_with b) (told.each i r at) solved in
        slice_get-map solved_with v i ∙ ap (λ o. option_map solved_with o) here ∙ ap (λ z. Some z) (sym same)
