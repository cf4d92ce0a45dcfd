-- What fails at so many per mille does not hold there, so that the ends of the halving are the margin.
use Rattle.std.proofs.Common.{◌≡◌, ◌≤◌, ◌+◌, ℕ, suc, ap, ◌∙◌, sym, subst, arith, Option, Some, None}
use Rattle.ods_tree.specs.Flats.{Flat}
use Rattle.analysis.specs.Ceilings.{Ranks, ranks, ranks_for}
use Rattle.analysis.specs.Sound.{IsSound}
use Rattle.law_scaling.specs.Scaling.{scaled_in, work_of, most_per_mille}
use Rattle.law_scaling.specs.Parts.{first_dear}
use Rattle.law_scaling.specs.Holding.{HoldsIn}
use Rattle.law_scaling.proofs.Shared.Holding.{holds-less, least-cheap}
use Rattle.law_scaling.proofs.Shared.Ranks.{ranks-same}
use Rattle.law_scaling.proofs.Shared.Sound.{sound-still}
use Rattle.seq_tree.specs.Names.{Name}
use Rattle.scaling.specs.Failures.{IsDear, IsHolding, FailsIn, IsFailureIn}
use Rattle.scaling.specs.Margins.{IsNext, IsMarginIn}
use Rattle.scaling.specs.Halving.{Stops, IsHalving}
use Rattle.scaling.specs.declared.halving.Halving.{Halving}
use Rattle.scaling.specs.declared.margin.Next.{Next}
use Rattle.scaling.specs.declared.margin.Next.TheVariants.{Limit, Cost, Miss}

-- priorities by deadlines and their ceilings are those for these priorities
pub own-ranks : (f : Flat) (r : Ranks) → r ≡ ranks f → r ≡ ranks_for f r.threads
own-ranks f r e = e ∙ ap (λ (q : Ranks). ranks_for f q.threads) (sym e)

module _ (only : Option Name) where
  -- of a copy that is scaled
  pub copy-sound : (f g : Flat) (k : ℕ) → IsSound f → g ≡ scaled_in only k f → first_dear g ≡ None → IsSound g
  copy-sound f g k sound e cheap = subst IsSound (sym e) (sound-still (work_of only k) f sound (ap first_dear (sym e) ∙ cheap))

  pub copy-ranks : (f g : Flat) (k : ℕ) (r : Ranks) → r ≡ ranks f → g ≡ scaled_in only k f → r ≡ ranks g
  copy-ranks f g k r h e = h ∙ sym (ranks-same (work_of only k) f) ∙ ap ranks (sym e)

  pub copy-fails : (f g : Flat) (k : ℕ) (o : Option Next) → g ≡ scaled_in only k f → IsHolding g o → IsFailureIn only f k o
  copy-fails f g k o e h = by o (subst (λ x. IsHolding x o) e h)
    where
      by : (o : Option Next) → IsHolding (scaled_in only k f) o → IsFailureIn only f k o
      by None h = record { cheap = h.0; bounds = h.1.0; fits = h.1.1 }
      by (Some next) h = h

  -- a design does not hold where a body or a thread is too dear
  dear-refuted : (f : Flat) (k : ℕ) (name : Name) (part : Option Name) → IsDear (scaled_in only k f) name part
      → first_dear (scaled_in only k f) ≡ None → ⊥
  dear-refuted f k name part h cheap = (let both = sym h.1 ∙ cheap in cc)

  -- nor where anything fails
  pub refuted : (f : Flat) (k : ℕ) (next : Next) → FailsIn only f k next → HoldsIn only f k → ⊥
  refuted f k Limit h holds = h
  refuted f k (Cost name part) h holds = dear-refuted f k name part h holds.cheap
  refuted f k (Miss thread miss) h holds = h.1.none holds.bounds holds.fits

  stops-refuted : (f : Flat) (k : ℕ) (next : Next) → Stops only f k next → k ≤ most_per_mille → HoldsIn only f k → ⊥
  stops-refuted f k Limit h most holds = omega (arith, h, most)
  stops-refuted f k (Cost name part) h most holds = refuted f k (Cost name part) h.1 holds
  stops-refuted f k (Miss thread miss) h most holds = refuted f k (Miss thread miss) h.1 holds

  -- what fails in the middle stops there
  pub fails-stops : (f : Flat) (k : ℕ) (next : Next) → k ≤ most_per_mille → FailsIn only f k next → Stops only f k next
  fails-stops f k Limit most h = absurd h
  fails-stops f k (Cost name part) most h = (most, h)
  fails-stops f k (Miss thread miss) most h = (most, h)

  stops-next : (f : Flat) (k : ℕ) (next : Next) → Stops only f (suc k) next → IsNext only f k next
  stops-next f k Limit h = omega (arith, h)
  stops-next f k (Cost name part) h = (let most : suc k ≤ most_per_mille = h.0 in omega (arith, most), h.1)
  stops-next f k (Miss thread miss) h = (let most : suc k ≤ most_per_mille = h.0 in omega (arith, most), h.1)

  -- where nothing lies between the two, the lower one is the margin
  pub margin-is : (f : Flat) (h : Halving) → IsHalving only f h → h.high ≤ h.low + 1
      → IsMarginIn only f (record { per_mille = h.low; next = h.next })
  margin-is f h is near =
      let high : h.high ≡ suc h.low = omega (arith, is.apart, near) in
      record {
        greatest = record {
          within = (is.some, omega (arith, is.apart, is.most));
          holds = is.holds;
          above = λ n less most holds. stops-refuted f h.high h.next is.stops (omega (arith, high, less, most)) (holds-less only f h.high n
              (omega (arith, high, less)) holds);
        };
        next = stops-next f h.low h.next (subst (λ k. Stops only f k h.next) high is.stops);
      }

  -- at one per mille no body or thread is too dear
  pub least-refuted : (f : Flat) (name : Name) (part : Option Name) → IsSound f → FailsIn only f 1 (Cost name part) → ⊥
  least-refuted f name part sound h = dear-refuted f 1 name part h (least-cheap only f sound)
