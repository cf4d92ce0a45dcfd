-- A thread that one other requests, at most once in each of its activations, has requests that keep the separation of that starter's
-- releases, with the
-- starter's jitter and response time together as their jitter.
use Rattle.std.specs.Prelude.{◌≡◌, ℕ, ◌+◌, ◌≤◌, ◌<◌, Bool, true, false, List, [], ◌∷◌, nat_le, max, ⊤, refl}
use Rattle.std.specs.List.{cons_option}
use Rattle.std.proofs.Common.{subst, arith, sym}
use Rattle.seq_tree.specs.Names.{Name, same_name}
use Rattle.ods_tree.specs.Walk.{only_if}
use Rattle.guarantee.specs.Software.{Task}
use Rattle.guarantee.specs.Events.{Release, Arrive, Enter, Leave, Request, Print, End, Stop, Event, By, Horizon}
use Rattle.guarantee.specs.Arrivals.{KeepTime}
use Rattle.guarantee.specs.Order.{IsInOrder}
use Rattle.guarantee.specs.Requests.{Asked, Taken, Done, notices}
use Rattle.guarantee.specs.Bounded.{Response, Either, EndsBy, Responds}
use Rattle.law_releases.proofs.Shared.Overruns.{order_until, ends_late}
use Rattle.std.proofs.lemmas.Bool.{false≢true}
use Rattle.law_releases.specs.Serving.{asked, taken}
use Rattle.law_releases.specs.Starting.{AsksOnce}

module _ (ts : List Task) (until : ℕ) (starter name : Name) (period jitter ticks separation : ℕ) (apart : separation ≤ period) where
  abbrev r : Response
  r = record { thread = starter; ticks = ticks }

  -- where the starter stands: it may ask in an activation that began by the time now and ends by its response time after that, or it asks
  -- after its next release; nominal times count with the jitter added
  abbrev Stands : Bool → ℕ → ℕ → ℕ → List Event → Type 0
  Stands true now next least told =
      (began : ℕ) × (base : ℕ) × (began ≤ now) × (began + ticks ≤ until → EndsBy starter (began + ticks) told) × (base + period ≡ next)
      × (began ≤ base) × (base ≤ began + jitter) × (least ≤ base + ticks)
  Stands false now next least told = least ≤ next + ticks

  abbrev Keeps : ℕ → ℕ → ℕ → Bool → List Event → Type 0
  Keeps now next least may told =
      Responds until told r → KeepTime period jitter next (taken (notices starter told)) → AsksOnce starter name may told
      → Stands may now next least told
      → KeepTime separation (jitter + ticks) least (asked (notices name told))

  stands_later : (may : Bool) (now time next least : ℕ) (e : Event) (told : List Event) → now ≤ time
      → ((latest : ℕ) → EndsBy starter latest (e ∷ told) → EndsBy starter latest told) → Stands may now next least (e ∷ told)
      → Stands may time next least told
  stands_later true now time next least e told h f s = (s.0, s.1, omega (arith, s.2, h), (λ early. f (s.0 + ticks) (s.3 early)), s.4, s.5, s.6, s.7)
  stands_later false now time next least e told h f s = s

  -- a request
  by_asked : (may : Bool) (now time next least : ℕ) (told : List Event) (e : Event) → now ≤ time → IsInOrder ts until time told
      → ((latest : ℕ) → EndsBy starter latest (e ∷ told) → EndsBy starter latest told)
      → Responds until told r → KeepTime period jitter next (taken (notices starter told)) → (may ≡ true) × AsksOnce starter name false told
      → Stands may now next least (e ∷ told)
      → ((next' least' : ℕ) (may' : Bool) → Keeps time next' least' may' told)
      → KeepTime separation (jitter + ticks) least (time ∷ asked (notices name told))
  by_asked false now time next least told e h order f responds on asks s later = absurd (false≢true asks.0)
  by_asked true now time next least told e h order f responds on asks s later = (
    omega (arith, s.2, s.6, s.7, h),
    later next (max time least + separation) false responds on asks.1 (omega (arith, within, s.4, s.5, s.7, apart)),
  )
    where
      within : time ≤ s.0 + ticks
      within = by (nat_le (s.0 + ticks) until) refl
        where
          by : (b : Bool) → nat_le (s.0 + ticks) until ≡ b → time ≤ s.0 + ticks
          by true e = ends_late ts until time starter (s.0 + ticks) told order (f (s.0 + ticks) (s.3 (grind arith)))
          by false e = let late : until < s.0 + ticks = grind arith in omega (arith, late, order_until ts until time told order)

  -- a release of the starter
  by_release : (may : Bool) (now time next least : ℕ) (told : List Event) → now ≤ time → (time + ticks ≤ until → EndsBy starter (time + ticks) told)
      → Responds until told r
      → KeepTime period jitter next (time ∷ taken (notices starter told)) → AsksOnce starter name true told → (e : Event)
      → Stands may now next least (e ∷ told)
      → ((next' least' : ℕ) (may' : Bool) → Keeps time next' least' may' told)
      → KeepTime separation (jitter + ticks) least (asked (notices name told))
  by_release may now time next least told h ends responds on asks e s later =
      later (max time next + period) least true responds on.1 asks
      (time, max time next, omega arith, ends, refl, omega arith, omega (arith, on.0), low may s)
    where
      low : (b : Bool) → Stands b now next least (e ∷ told) → least ≤ max time next + ticks
      low true z = omega (arith, z.4, z.7)
      low false z = omega (arith, z)

  -- an end of the starter
  by_end : (may : Bool) (now next least : ℕ) (e : Event) (told : List Event) → Stands may now next least (e ∷ told) → Stands false now next least told
  by_end true now next least e told s = omega (arith, s.4, s.7)
  by_end false now next least e told s = s

  keeps : (told : List Event) (now next least : ℕ) (may : Bool) → IsInOrder ts until now told → Keeps now next least may told
  keeps [] now next least may o responds on asks s = absurd o
  keeps (Horizon time ∷ told) now next least may o responds on asks s
      = subst (λ more. KeepTime separation (jitter + ticks) least (asked (notices name more))) (sym o.2) tt
  keeps (By time task (Print value) ∷ told) now next least may o responds on asks s =
      keeps told time next least may o.3 responds on asks (stands_later may now time next least (By time task (Print value)) told o.0
      (λ latest h. h) s)
  keeps (By time task (Enter op values) ∷ told) now next least may o responds on asks s =
      keeps told time next least may o.3 responds on asks (stands_later may now time next least (By time task (Enter op values)) told o.0
      (λ latest h. h) s)
  keeps (By time task (Leave op values) ∷ told) now next least may o responds on asks s =
      keeps told time next least may o.3 responds on asks (stands_later may now time next least (By time task (Leave op values)) told o.0
      (λ latest h. h) s)
  keeps (By time task (Stop object priority ceiling) ∷ told) now next least may o responds on asks s =
      keeps told time next least may o.3 responds on asks (stands_later may now time next least (By time task (Stop object priority ceiling)) told o.0
      (λ latest h. h) s)
  keeps (By time task (Arrive value) ∷ told) now next least may o responds on asks s
      = by (same_name task name) asks (λ next' least' may'. keeps told time next' least' may' o.3)
    where
      onward : (b : Bool) → KeepTime period jitter next (taken (cons_option (only_if b (Asked time value)) (notices starter told)))
          → KeepTime period jitter next (taken (notices starter told))
      onward true k = k
      onward false k = k

      by : (b : Bool) → Either b ⊥ (AsksOnce starter name may told) → ((next' least' : ℕ) (may' : Bool) → Keeps time next' least' may' told)
          → KeepTime separation (jitter + ticks) least (asked (cons_option (only_if b (Asked time value)) (notices name told)))
      by true a later = absurd a
      by false a later = later next least may responds (onward (same_name task starter) on) a
          (stands_later may now time next least (By time task (Arrive value)) told o.0 (λ latest h. h) s)
  keeps (By time task (Request target value) ∷ told) now next least may o responds on asks s
      = by (same_name target name) asks (λ next' least' may'. keeps told time next' least' may' o.3)
    where
      onward : (b : Bool) → KeepTime period jitter next (taken (cons_option (only_if b (Asked time value)) (notices starter told)))
          → KeepTime period jitter next (taken (notices starter told))
      onward true k = k
      onward false k = k

      by : (b : Bool) → Either b ((may ≡ true) × AsksOnce starter name false told) (AsksOnce starter name may told)
          → ((next' least' : ℕ) (may' : Bool) → Keeps time next' least' may' told)
          → KeepTime separation (jitter + ticks) least (asked (cons_option (only_if b (Asked time value)) (notices name told)))
      by true a later = by_asked may now time next least told (By time task (Request target value)) o.0 o.3 (λ latest h. h) responds
          (onward (same_name target starter) on) a s later
      by false a later = later next least may responds (onward (same_name target starter) on) a
          (stands_later may now time next least (By time task (Request target value)) told o.0 (λ latest h. h) s)
  keeps (By time task (Release value) ∷ told) now next least may o responds on asks s =
      skip (same_name task name) (by (same_name task starter) responds.0 on asks (λ next' least' may'. keeps told time next' least' may' o.3))
    where
      skip : (b : Bool) → KeepTime separation (jitter + ticks) least (asked (notices name told))
          → KeepTime separation (jitter + ticks) least (asked (cons_option (only_if b (Taken time value)) (notices name told)))
      skip true k = k
      skip false k = k

      by : (b : Bool) → Either b (time + ticks ≤ until → EndsBy starter (time + ticks) told) ⊤
          → KeepTime period jitter next (taken (cons_option (only_if b (Taken time value)) (notices starter told)))
          → Either b (AsksOnce starter name true told) (AsksOnce starter name may told)
          → ((next' least' : ℕ) (may' : Bool) → Keeps time next' least' may' told)
          → KeepTime separation (jitter + ticks) least (asked (notices name told))
      by true e t a later = by_release may now time next least told o.0 e responds.1 t a (By time task (Release value)) s later
      by false e t a later = later next least may responds.1 t a (stands_later may now time next least (By time task (Release value)) told o.0
          (λ latest h. h) s)
  keeps (By time task (End used) ∷ told) now next least may o responds on asks s =
      skip (same_name task name) (by (same_name task starter) refl on asks (λ next' least' may'. keeps told time next' least' may' o.3))
    where
      skip : (b : Bool) → KeepTime separation (jitter + ticks) least (asked (notices name told))
          → KeepTime separation (jitter + ticks) least (asked (cons_option (only_if b (Done time)) (notices name told)))
      skip true k = k
      skip false k = k

      by : (b : Bool) → same_name task starter ≡ b → KeepTime period jitter next (taken (cons_option (only_if b (Done time)) (notices starter told)))
          → Either b (AsksOnce starter name false told) (AsksOnce starter name may told)
          → ((next' least' : ℕ) (may' : Bool) → Keeps time next' least' may' told)
          → KeepTime separation (jitter + ticks) least (asked (notices name told))
      by true is t a later = later next least false responds t a (by_end may now next least (By time task (End used)) told s)
      by false is t a later =
          later next least may responds t a
          (stands_later may now time next least (By time task (End used)) told o.0 (λ latest h. let E : Bool
          → Type 0 = λ b. Either b (time ≤ latest) (EndsBy starter latest told) in subst E is h) s)

  -- from the opening
  pub keeps_time : (told : List Event) → IsInOrder ts until 0 told → Responds until told r → KeepTime period jitter 0 (taken (notices starter told))
      → AsksOnce starter name false told
      → KeepTime separation (jitter + ticks) 0 (asked (notices name told))
  keeps_time told o responds on asks = keeps told 0 0 0 false o responds on asks (omega arith)
