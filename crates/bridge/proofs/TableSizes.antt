-- Rankings and tables of a flat design have an entry for each of its threads and objects, and the places of a table are those of threads.
use Rattle.std.proofs.Common.{◌≡◌, ℕ, zero, suc, ◌<◌, List, [], ◌∷◌, length, sym, ap, subst, ◌∙◌, arith}
use Rattle.std.specs.Prelude.{slice_index, EachIndex}
use Rattle.std.proofs.lemmas.List.{length-map}
use Rattle.seq_tree.specs.Lists.{Each}
use Rattle.ods_tree.specs.Flats.{Guarded, Thread, Flat}
use Rattle.rt_response.specs.declared.rows.Bound.{Bound}
use Rattle.rt_response.specs.Response.{Fits}
use Rattle.analysis.specs.Ceilings.{Ranks, ceiling, control_ceiling, ranks}
use Rattle.analysis.specs.Priorities.{priorities_of}
use Rattle.analysis.specs.Tables.{ThreadTable, table}
use Rattle.design_bounds.proofs.Shared.TablePlaces.{places-stand, rows-long}

-- what holds of each item holds at each place
each-index : (P : ℕ → Type 0) (xs : List ℕ) → Each P xs → EachIndex xs (λ k. P (slice_index xs k))
each-index P [] h k inside = absurd (omega (arith, inside))
each-index P (x ∷ xs) h zero inside = h.0
each-index P (x ∷ xs) h (suc k) inside = each-index P xs h.1 k (omega (arith, inside))

pub index-of : (P : ℕ → Type 0) (xs ys : List ℕ) → ys ≡ xs → Each P xs → EachIndex ys (λ k. P (slice_index ys k))
index-of P xs ys e h = each-index P ys (let Q : List ℕ → Type 0 = λ zs. Each P zs in subst Q (sym e) h)

module _ (f : Flat) where
  pub shared-long : (r : Ranks) → r ≡ ranks f → length r.shared ≡ length f.shared
  shared-long r e = ap (λ (q : Ranks). length q.shared) e ∙ length-map f.shared (λ (g : Guarded). ceiling f (priorities_of f) g.name)

  pub obcs-long : (r : Ranks) → r ≡ ranks f → length r.obcs ≡ length f.threads
  obcs-long r e = ap (λ (q : Ranks). length q.obcs) e ∙ length-map f.threads (λ (t : Thread). control_ceiling f (priorities_of f) t.name t.timing)

  pub places-of : (t : ThreadTable) (n : ℕ) → t ≡ table f → length f.threads ≡ n → EachIndex t.places (λ k. slice_index t.places k < n)
  places-of t n e same =
      index-of (λ at. at < n) (table f).places t.places (ap (λ (s : ThreadTable). s.places) e)
      (let P : ℕ → Type 0 = λ m. Each (λ at. at < m) (table f).places in subst P same (places-stand f))

  -- a vector that fits has a bound for each place
  pub bounds-long : (t : ThreadTable) (v : List Bound) → t ≡ table f → Fits (table f).rows v → length v ≡ length t.places
  bounds-long t v e fits = fits.0.0 ∙ rows-long f ∙ ap (λ (s : ThreadTable). length s.places) (sym e)
