-- A log stays well as an activation starts or ends, and with a tick more.
use Rattle.std.specs.Prelude.{◌≡◌, ◌≢◌, ◌⊎◌, ℕ, suc, ◌-◌, ◌≤◌, ◌<◌, Bool, true, false, List, [], ◌∷◌, ◌++◌, length, slice_get, Option, Some}
use Rattle.std.specs.Prelude.{None, refl}
use Rattle.std.proofs.Common.{sym, ◌∙◌, ap, subst, arith, inl, inr, zero-le}
use Rattle.std.proofs.lemmas.Option.{slice_get_within}
use Rattle.rt_response.specs.declared.rows.ThreadRow.{ThreadRow}
use Rattle.rt_response.specs.Tables.{Each}
use Rattle.law_schedules.specs.Schedules.{ticks_of, is_by}
use Rattle.law_responses.proofs.Marks.{marks-other, marks-own, by-own, by-other}
use Rattle.law_responses.proofs.Logs.{Made, Log, started, over_at, finished, ticked, EndsAfter, IsWell, IsLogged}
use Rattle.law_lists.proofs.Shared.Places.{length-change, get-last, get-grown, get-changed, length-grown, same-item}
use Rattle.law_lists.proofs.Shared.Lists.{each-append}

well-new : (rows : List ThreadRow) (ticks : List (Option ℕ)) (k : ℕ) (m : Made) (row : ThreadRow) → ticks_of k ticks ≡ [] → m.over ≡ None
    → m.release ≡ length ticks
    → slice_get rows m.row ≡ Some row → IsWell rows ticks k m
well-new rows ticks k m row none live now asks = record {
  row = row;
  asks = asks;
  released = omega (arith, now);
  after = subst (Each (λ t. m.release ≤ t)) (sym none) tt;
  cost = subst (λ xs. length xs ≤ row.cost) (sym none) zero-le;
  ends = subst (EndsAfter (ticks_of k ticks)) (sym live) tt;
}

-- an activation that starts now
pub started-logged : (rows : List ThreadRow) (l : Log) (m : Made) (row : ThreadRow) → IsLogged rows l → m.over ≡ None → m.release ≡ length l.ticks
    → slice_get rows m.row ≡ Some row → IsLogged rows (started m l)
started-logged rows l m row logged live now asks = record {
  each = λ k n e. go k n (get-grown l.acts m k n e);
  fresh = λ k far. logged.fresh k (omega (arith, far, length-grown l.acts m));
}
  where
    go : (k : ℕ) (n : Made) → (slice_get l.acts k ≡ Some n) ⊎ ((k ≡ length l.acts) × (m ≡ n)) → IsWell rows l.ticks k n
    go k n (inl before) = logged.each k n before
    go k n (inr new) =
        subst (IsWell rows l.ticks k) new.1 (well-new rows l.ticks k m row (logged.fresh k (omega (arith, new.0))) live now asks)

-- an activation that ends now, after the last tick that it used
pub finished-logged : (rows : List ThreadRow) (l : Log) (k : ℕ) → IsLogged rows l → EndsAfter (ticks_of k l.ticks) (Some (length l.ticks))
    → IsLogged rows (finished k l)
finished-logged rows l k logged ends = record {
  each = λ j n e. go j n (get-changed k (over_at (length l.ticks)) l.acts j n e);
  fresh = λ j far. logged.fresh j (omega (arith, far, length-change k (over_at (length l.ticks)) l.acts));
}
  where
    go : (j : ℕ) (n : Made) → ((j ≢ k) × (slice_get l.acts j ≡ Some n))
        ⊎ ((j ≡ k) × (m : Made) × (slice_get l.acts j ≡ Some m) × (over_at (length l.ticks) m ≡ n)) → IsWell rows l.ticks j n
    go j n (inl other) = logged.each j n other.1
    go j n (inr here) =
        let well = logged.each j here.1 here.2 in
        let now : IsWell rows l.ticks j (over_at (length l.ticks) here.1) = record {
          row = well.row;
          asks = well.asks;
          released = well.released;
          after = well.after;
          cost = well.cost;
          ends = subst (λ i. EndsAfter (ticks_of i l.ticks) (Some (length l.ticks))) (sym here.0) ends;
        } in
        subst (IsWell rows l.ticks j) here.3 now

well-other : (rows : List ThreadRow) (ticks : List (Option ℕ)) (o : Option ℕ) (k : ℕ) (m : Made) → is_by k o ≡ false → IsWell rows ticks k m
    → IsWell rows (ticks ++ o ∷ []) k m
well-other rows ticks o k m e well =
    let same = marks-other k o ticks e in
    let row : ThreadRow = well.row in
    let earlier : m.release ≤ length ticks = well.released in
    record {
      row = well.row;
      asks = well.asks;
      released = omega (arith, earlier, length-grown ticks o);
      after = subst (Each (λ t. m.release ≤ t)) (sym same) well.after;
      cost = subst (λ xs. length xs ≤ row.cost) (sym same) well.cost;
      ends = subst (λ xs. EndsAfter xs m.over) (sym same) well.ends;
    }

well-own : (rows : List ThreadRow) (ticks : List (Option ℕ)) (k : ℕ) (m : Made) → m.over ≡ None
    → ((row : ThreadRow) → slice_get rows m.row ≡ Some row → length (ticks_of k ticks) < row.cost) → IsWell rows ticks k m
    → IsWell rows (ticks ++ Some k ∷ []) k m
well-own rows ticks k m live less well =
    let same = marks-own k (Some k) ticks (by-own k) in
    let row : ThreadRow = well.row in
    let earlier : m.release ≤ length ticks = well.released in
    let below : length (ticks_of k ticks) < row.cost = less row well.asks in
    let more : length (ticks_of k ticks ++ length ticks ∷ []) ≤ row.cost = omega (arith, below, length-grown (ticks_of k ticks) (length ticks)) in
    record {
      row = well.row;
      asks = well.asks;
      released = omega (arith, earlier, length-grown ticks (Some k));
      after = subst (Each (λ t. m.release ≤ t)) (sym same) (each-append (λ t. m.release ≤ t) (ticks_of k ticks) (length ticks ∷ []) well.after
          (earlier, tt));
      cost = subst (λ xs. length xs ≤ row.cost) (sym same) more;
      ends = subst (EndsAfter (ticks_of k (ticks ++ Some k ∷ []))) (sym live) tt;
    }

-- a tick that no activation uses
pub idle-logged : (rows : List ThreadRow) (l : Log) → IsLogged rows l → IsLogged rows (ticked None l)
idle-logged rows l logged = record {
  each = λ k m e. well-other rows l.ticks None k m refl (logged.each k m e);
  fresh = λ k far. marks-other k None l.ticks refl ∙ logged.fresh k far;
}

-- a tick that an activation uses which isn't over and has used less than its row's cost
pub ticked-logged : (rows : List ThreadRow) (l : Log) (k : ℕ) (m : Made) → IsLogged rows l → slice_get l.acts k ≡ Some m → m.over ≡ None
    → ((row : ThreadRow) → slice_get rows m.row ≡ Some row → length (ticks_of k l.ticks) < row.cost) → IsLogged rows (ticked (Some k) l)
ticked-logged rows l k m logged stands live less = record {
  each = λ j n e. go j n e (is_by j (Some k)) refl;
  fresh = λ j far. marks-other j (Some k) l.ticks (by-other j k (apart j far)) ∙ logged.fresh j far;
}
  where
    apart : (j : ℕ) → length l.acts ≤ j → j ≢ k
    apart j far same = omega (arith, far, same, slice_get_within l.acts k m stands)

    go : (j : ℕ) (n : Made) → slice_get l.acts j ≡ Some n → (b : Bool) → is_by j (Some k) ≡ b → IsWell rows (l.ticks ++ Some k ∷ []) j n
    go j n e false by = well-other rows l.ticks (Some k) j n by (logged.each j n e)
    go j n e true by =
        let same : k ≡ j = grind arith in
        let is : m ≡ n = same-item (slice_get l.acts k) m n stands (subst (λ i. slice_get l.acts i ≡ Some n) (sym same) e) in
        let here : IsWell rows l.ticks k m = logged.each k m stands in
        let own : IsWell rows (l.ticks ++ Some k ∷ []) k m = well-own rows l.ticks k m live less here in
        subst (λ i. IsWell rows (l.ticks ++ Some k ∷ []) i n) same (subst (IsWell rows (l.ticks ++ Some k ∷ []) k) is own)

-- after a tick that it used an activation may end
pub ends-after : (k : ℕ) (ticks : List (Option ℕ)) (time : ℕ) → time ≡ suc (length ticks) → EndsAfter (ticks_of k (ticks ++ Some k ∷ [])) (Some time)
ends-after k ticks time is =
    let same = marks-own k (Some k) ticks (by-own k) in
    let xs : List ℕ = ticks_of k ticks in
    let count : length (xs ++ length ticks ∷ []) - 1 ≡ length xs = omega (arith, length-grown xs (length ticks)) in
    subst (λ ys. EndsAfter ys (Some time)) (sym same)
    (length ticks, ap (slice_get (xs ++ length ticks ∷ [])) count ∙ get-last xs (length ticks), is)
