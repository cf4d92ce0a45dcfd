-- The greatest number of ticks, and the first object that is broken.
use Rattle.std.proofs.Common.{◌≡◌, ℕ, ◌+◌, ◌<◌, ◌≤◌, Bool, true, false, not, List, map, drop, length, Option, Some, None, refl, sym, ap, ◌∙◌, arith}
use Rattle.std.proofs.Common.{max, get_or, subst}
use Rattle.std.specs.Prelude.{find, filter_map, slice_get, option_map, is_some}
use Rattle.std.proofs.lemmas.Option.{same_Some, slice_get-map, slice_get_read}
use Rattle.std.proofs.lemmas.List.{length-map}
use Rattle.ada_tree.specs.Trees.{program_of, unit_of}
use Rattle.ada_tree.specs.declared.program.AdaProgram.{AdaProgram}
use Rattle.ods_tree.specs.Flats.{Guarded}
use Rattle.ada_tree.specs.Programs.{Program}
use Rattle.trace_tree.specs.Lines.{unit_name}
use Rattle.trace_tree.specs.Placed.{IsUnit}
use Rattle.law_trace_places.specs.Places.{guarded_at, guarded_in}
use Rattle.law_trace_places.proofs.Shared.Units.{object-name}
use Rattle.law_traces.specs.Services as services
use Rattle.trace_scripts.proofs.Finding.{found-here, found-past, passes}
use Rattle.trace_scripts.specs.Objects.{AreServing, broken_by, service_of}
use Rattle.trace_scripts.specs.declared.services.Service.{Service}

-- THE GREATEST
pub max-more : (m u r s : ℕ) → max m (max u r) ≡ s → m < u → max u r ≡ s
max-more m u r s h g = omega (arith, h, g)

pub max-less : (m u r s : ℕ) → max m (max u r) ≡ s → u ≤ m → max m r ≡ s
max-less m u r s h g = omega (arith, h, g)

-- ONE UNIT
pub in-units : (p : AdaProgram) (at : ℕ) → at < length p.units.items → IsUnit (program_of p) at
in-units p at h = subst (λ n. at < n) (sym (length-map p.units.items unit_of)) h

pub on-units : (p : AdaProgram) (at : ℕ) → at < length p.units.items → at + 1 ≤ length (program_of p).units
on-units p at h = let k : at < length (program_of p).units = in-units p at h in omega (arith, k)

pub past-units : (p : AdaProgram) (at : ℕ) → length p.units.items ≤ at → length (program_of p).units ≤ at
past-units p at h = subst (λ n. n ≤ at) (sym (length-map p.units.items unit_of)) h

pub in-states : (p : AdaProgram) (at n : ℕ) → n ≡ length (program_of p).units → IsUnit (program_of p) at → at < n
in-states p at n e h = subst (λ k. at < k) (sym e) h

pub none-broken : (o : Option Guarded) → is_some o ≡ false → (serving : Guarded → Bool) → false ≡ broken_by serving o
none-broken None e serving = refl
none-broken (Some g) e serving = absurd (cc)

pub some-broken : (p : Program) (ss : List Service) (serving : Guarded → Bool) → AreServing p (map service_of ss) serving → (u : ℕ) → IsUnit p u
    → u < length ss → (s : Service) → s ≡ get_or ss u s → (b : Bool) → b ≡ services.is_sound (service_of s) → is_some (guarded_at p u) ≡ true
    → not b ≡ broken_by serving (guarded_at p u)
some-broken p ss serving h u in' k s at b e there = by (guarded_at p u) refl there
  where
    by : (o : Option Guarded) → guarded_at p u ≡ o → is_some o ≡ true → not b ≡ broken_by serving o
    by None i t = absurd (cc)
    by (Some g) i t =
        let read : slice_get (map service_of ss) u ≡ Some (service_of s) =
        slice_get-map service_of ss u ∙ ap (option_map service_of) (slice_get_read ss (length ss) u s refl k at) in
        let same : services.is_sound (service_of s) ≡ serving g =
        same_Some _ _ (sym (ap (option_map services.is_sound) read) ∙ h u g in' i) in
        ap not (e ∙ same)

-- THE FIRST
not-broken : (serving : Guarded → Bool) (o : Option Guarded) → not (broken_by serving o) ≡ passes serving o
not-broken serving None = refl
not-broken serving (Some g) = by (serving g)
  where
    by : (b : Bool) → not (not b) ≡ b
    by true = refl
    by false = refl

module _ (p : Program) (at : ℕ) (in' : IsUnit p at) (serving : Guarded → Bool) (target : Option Guarded)
    (all : find (λ g. not (serving g)) (filter_map guarded_in (drop at p.units)) ≡ target) (b : Bool) (is : b ≡ broken_by serving (guarded_at p at)) where
  passing : not b ≡ passes serving (guarded_at p at)
  passing = ap not is ∙ not-broken serving (guarded_at p at)

  pub broken-past : b ≡ false → find (λ g. not (serving g)) (filter_map guarded_in (drop (at + 1) p.units)) ≡ target
  broken-past e = found-past guarded_in (λ g. g.name) object-name p at in' serving target all (not b) passing (ap not e)

  pub broken-here : b ≡ true → Some (unit_name p at) ≡ option_map (λ (g : Guarded). g.name) target
  broken-here e = found-here guarded_in (λ g. g.name) object-name p at in' serving target all (not b) passing (ap not e)
