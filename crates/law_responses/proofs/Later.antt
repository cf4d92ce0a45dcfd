-- What a log says of activations is still known as it grows, and as an activation ends.
use Rattle.std.specs.Prelude.{◌≡◌, ◌≢◌, ◌⊎◌, ℕ, ◌+◌, ◌≤◌, ◌<◌, List, [], ◌∷◌, ◌++◌, length, slice_get, Some, None, refl}
use Rattle.std.proofs.Common.{sym, ◌∙◌, ap, subst, arith, inl, inr, le_refl}
use Rattle.std.proofs.lemmas.Bool.{cases_eq}
use Rattle.std.proofs.lemmas.Option.{none-some, slice_get_within}
use Rattle.seq_tree.specs.Lists.{change}
use Rattle.rt_response.specs.declared.rows.ThreadRow.{ThreadRow}
use Rattle.law_responses.proofs.Logs.{Made, Log, IsOpenAt, Follows, Cause, IsTimely, IsTimed, started, over_at, finished}
use Rattle.law_lists.proofs.Shared.Places.{change-at, get-front, get-grown, get-other, same-item, each-changed-one, each-grown}

-- activations that differ at most in whether they are over
pub record AreAlike (x m : Made) : Type 0 where
  pub task : x.task ≡ m.task
  pub row : x.row ≡ m.row
  pub nominal : x.nominal ≡ m.nominal
  pub asked : x.asked ≡ m.asked
  pub release : x.release ≡ m.release

alike-self : (m : Made) → AreAlike m m
alike-self m = record { task = refl; row = refl; nominal = refl; asked = refl; release = refl }

alike-over : (now : ℕ) (m : Made) → AreAlike m (over_at now m)
alike-over now m = record { task = refl; row = refl; nominal = refl; asked = refl; release = refl }

-- an activation of a later log that was there before, over as it is now or not over
pub record WasThere (acts : List Made) (k : ℕ) (m : Made) : Type 0 where
  pub made : Made
  pub stands : slice_get acts k ≡ Some made
  pub alike : AreAlike made m
  pub over : (made.over ≡ None) ⊎ (made.over ≡ m.over)

-- an activation of an earlier log that is there still, over as it was or not over before now
pub record IsStill (acts : List Made) (now k : ℕ) (m : Made) : Type 0 where
  pub made : Made
  pub stands : slice_get acts k ≡ Some made
  pub alike : AreAlike m made
  pub during : (time : ℕ) → time ≤ now → IsOpenAt time m.over → IsOpenAt time made.over
  pub over : (time : ℕ) → m.over ≡ Some time → made.over ≡ Some time

pub was-self : (acts : List Made) (k : ℕ) (m : Made) → slice_get acts k ≡ Some m → WasThere acts k m
was-self acts k m e = record { made = m; stands = e; alike = alike-self m; over = inr refl }

pub still-grown : (acts : List Made) (x : Made) (now k : ℕ) (m : Made) → slice_get acts k ≡ Some m → IsStill (acts ++ x ∷ []) now k m
still-grown acts x now k m e = record {
  made = m;
  stands = get-front acts (x ∷ []) k m e;
  alike = alike-self m;
  during = λ time near h. h;
  over = λ time h. h;
}

-- where an activation that was not over ends
pub was-ended : (acts : List Made) (place now : ℕ) (made : Made) → slice_get acts place ≡ Some made → made.over ≡ None
    → (k : ℕ) (m : Made) → slice_get (change place (over_at now) acts) k ≡ Some m → WasThere acts k m
was-ended acts place now made stands unended =
    each-changed-one (WasThere acts) place (over_at now) acts made stands (λ k m other e. was-self acts k m e)
    (record { made = made; stands = stands; alike = alike-over now made; over = inl unended })

pub still-ended : (acts : List Made) (place now : ℕ) (made : Made) → slice_get acts place ≡ Some made → made.over ≡ None
    → (k : ℕ) (m : Made) → slice_get acts k ≡ Some m → IsStill (change place (over_at now) acts) now k m
still-ended acts place now made stands unended k m e = by (cases_eq k place)
  where
    by : (k ≡ place) ⊎ (k ≢ place) → IsStill (change place (over_at now) acts) now k m
    by (inr differ) = record {
      made = m;
      stands = get-other place k (over_at now) acts m differ e;
      alike = alike-self m;
      during = λ time near h. h;
      over = λ time h. h;
    }
    by (inl same) =
        let here : slice_get acts place ≡ Some m = subst (λ j. slice_get acts j ≡ Some m) same e in
        let is : made ≡ m = same-item (slice_get acts place) made m stands here in
        record {
          made = over_at now m;
          stands = subst (λ j. slice_get (change place (over_at now) acts) j
              ≡ Some (over_at now m)) (sym same) (change-at place (over_at now) acts m here);
          alike = alike-over now m;
          during = λ time near h. near;
          over = λ time h. absurd (none-some time (sym unended ∙ ap (λ x. x.over) is ∙ h));
        }

-- activations stay timely
pub timely-later : (rows : List ThreadRow) (shift : ℕ) (acts acts' : List Made) (now k : ℕ) (x m : Made)
    → ((j : ℕ) (y : Made) → slice_get acts j ≡ Some y → IsStill acts' now j y)
    → AreAlike x m → x.release ≤ now → IsTimely rows shift acts k x → IsTimely rows shift acts' k m
timely-later rows shift acts acts' now k x m still alike near h =
    let first : x.nominal ≤ shift + x.asked = h.asked in
    let waited : x.asked ≤ x.release = h.waited in
    record {
      asked = omega (arith, first, alike.nominal, alike.asked);
      waited = omega (arith, waited, alike.asked, alike.release);
      late = late h.late;
      cause = λ line at. cause waited line (h.cause line (ap (slice_get rows) alike.row ∙ at));
    }
  where
    late : (x.release ≡ x.asked) ⊎ Follows acts k x → (m.release ≡ m.asked) ⊎ Follows acts' k m
    late (inl same) = inl (sym alike.release ∙ same ∙ alike.asked)
    late (inr follows) =
        let now = still follows.place follows.made follows.stands in
        inr (record {
          place = follows.place;
          made = now.made;
          earlier = follows.earlier;
          stands = now.stands;
          same = sym now.alike.row ∙ follows.same ∙ alike.row;
          ended = now.over x.release follows.ended ∙ ap Some alike.release;
        })

    cause : x.asked ≤ x.release → (line : ThreadRow) → Cause shift acts line k x → Cause shift acts' line k m
    cause waited line (inl own) = inl (omega (arith, own, alike.asked, alike.nominal))
    cause waited line (inr (inl outer)) =
        let bound : shift + x.asked ≤ x.nominal + line.jitter = outer.1 in
        inr (inl (outer.0, omega (arith, bound, alike.asked, alike.nominal)))
    cause waited line (inr (inr inner)) =
        let now = still inner.place inner.made inner.stands in
        let after : inner.made.release ≤ x.asked = inner.after in
        inr (inr (record {
          place = inner.place;
          made = now.made;
          earlier = inner.earlier;
          stands = now.stands;
          starter = inner.starter ∙ ap Some now.alike.row;
          nominal = sym now.alike.nominal ∙ inner.nominal ∙ alike.nominal;
          after = omega (arith, after, now.alike.release, alike.asked);
          during = subst (λ t. IsOpenAt t now.made.over) alike.asked (now.during x.asked (omega (arith, waited, near)) inner.during);
        }))

-- a log with one activation more
pub timed-started : (rows : List ThreadRow) (shift : ℕ) (l : Log) (m : Made) (row : ThreadRow) → IsTimed rows shift l
    → slice_get rows m.row ≡ Some row
    → IsTimely rows shift l.acts (length l.acts) m → ((k : ℕ) (n : Made) → slice_get l.acts k ≡ Some n → n.row ≡ m.row
    → n.nominal + row.period ≤ m.nominal) → IsTimed rows shift (started m l)
timed-started rows shift l m row timed asks timely apart = record {
  each = each-grown (IsTimely rows shift (l.acts ++ m ∷ [])) l.acts m (λ k n e. stays k n (timed.each k n e)) (stays (length l.acts) m timely);
  apart = λ j k x y line less e g same asks'. both j k x y line less same asks' (get-grown l.acts m j x e) (get-grown l.acts m k y g);
}
  where
    stays : (k : ℕ) (n : Made) → IsTimely rows shift l.acts k n → IsTimely rows shift (l.acts ++ m ∷ []) k n
    stays k n = timely-later rows shift l.acts (l.acts ++ m ∷ []) n.release k n n (still-grown l.acts m n.release) (alike-self n) (le_refl n.release)

    both : (j k : ℕ) (x y : Made) (line : ThreadRow) → j < k → x.row ≡ y.row → slice_get rows y.row ≡ Some line
        → (slice_get l.acts j ≡ Some x) ⊎ ((j ≡ length l.acts) × (m ≡ x)) → (slice_get l.acts k ≡ Some y) ⊎ ((k ≡ length l.acts) × (m ≡ y))
        → x.nominal + line.period ≤ y.nominal
    both j k x y line less same asks' (inl e) (inl g) = timed.apart j k x y line less e g same asks'
    both j k x y line less same asks' (inl e) (inr new) =
        let is : row ≡ line = same-item (slice_get rows m.row) row line asks (subst (λ z. slice_get rows z.row ≡ Some line) (sym new.1) asks') in
        let first : x.nominal + row.period ≤ m.nominal = apart j x e (same ∙ ap (λ z. z.row) (sym new.1)) in
        subst (λ z. x.nominal + line.period ≤ z.nominal) new.1 (subst (λ z. x.nominal + z.period ≤ m.nominal) is first)
    both j k x y line less same asks' (inr new) (inl g) = absurd (omega (arith, less, new.0, slice_get_within l.acts k y g))
    both j k x y line less same asks' (inr new) (inr also) = absurd (omega (arith, less, new.0, also.0))

-- a log in which an activation has ended
pub timed-finished : (rows : List ThreadRow) (shift : ℕ) (l : Log) (place : ℕ) (made : Made) → slice_get l.acts place ≡ Some made → made.over ≡ None
    → ((k : ℕ) (m : Made) → slice_get l.acts k ≡ Some m → m.release ≤ length l.ticks) → IsTimed rows shift l → IsTimed rows shift (finished place l)
timed-finished rows shift l place made stands unended released timed = record {
  each = λ k m e.
      let w = was k m e in
      timely-later rows shift l.acts (change place (over_at (length l.ticks)) l.acts) (length l.ticks) k w.made m
      (still-ended l.acts place (length l.ticks) made stands unended) w.alike
      (released k w.made w.stands) (timed.each k w.made w.stands);
  apart = λ j k x y line less e g same asks.
      let a = was j x e in
      let b = was k y g in
      let before : a.made.nominal + line.period ≤ b.made.nominal =
      timed.apart j k a.made b.made line less a.stands b.stands (a.alike.row ∙ same ∙ sym b.alike.row) (ap (slice_get rows) b.alike.row ∙ asks) in
      omega (arith, before, a.alike.nominal, b.alike.nominal);
}
  where
    was : (k : ℕ) (m : Made) → slice_get (change place (over_at (length l.ticks)) l.acts) k ≡ Some m → WasThere l.acts k m
    was = was-ended l.acts place (length l.ticks) made stands unended
