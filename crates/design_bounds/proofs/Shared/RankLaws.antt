-- Where priorities are small, ceilings are; and the priorities of a sound flat design by deadlines are.
use Rattle.std.proofs.Common.{◌≡◌, ℕ, zero, suc, ◌≤◌, List, [], ◌∷◌, map, filter, zip, length, ap, subst, sym, arith}
use Rattle.seq_tree.specs.Lists.{Each}
use Rattle.ods_tree.specs.Flats.{Guarded, Thread, Timing, Cyclic, Sporadic, Flat}
use Rattle.analysis.specs.Ceilings.{Ranks, ceiling, ceiling_within, calls_from_inside, control_ceiling, greatest_user, uses_object, ranks, ranks_for}
use Rattle.analysis.specs.Priorities.{priorities_of}
use Rattle.analysis.specs.Sound.{IsSound}
use Rattle.law_lists.proofs.Shared.Greatest.{fold-most}
use Rattle.law_designs.proofs.Shared.Lists.{from-map}
use Rattle.law_designs.proofs.Shared.RankRanges.{priority-range}
use Rattle.law_designs.proofs.Shared.Units.{from-zip}
use Rattle.law_lists.proofs.Shared.Lists.{each-in, each-is, in-filter}

-- what each item gives
pub each-made : {A B : Type 0} (P : B → Type 0) (k : A → B) (xs : List A) → ((a : A) → P (k a)) → Each P (map k xs)
each-made P k [] h = tt
each-made P k (x ∷ xs) h = (h x, each-made P k xs h)

-- priorities by deadlines
pub small-threads : (f : Flat) → IsSound f → Each (λ n. n ≤ 31) (ranks f).threads
small-threads f sound =
    each-in (λ n. n ≤ 31) (priorities_of f) (λ n h.
    let range = priority-range f n h in
    let few = sound.formed.thread_count in omega (arith, range.1, few))

pub small-ranked : (f : Flat) (r : Ranks) → IsSound f → r ≡ ranks f → Each (λ n. n ≤ 31) r.threads
small-ranked f r sound e = subst (λ (q : Ranks). Each (λ n. n ≤ 31) q.threads) (sym e) (small-threads f sound)

module _ (f : Flat) (ps : List ℕ) (small : Each (λ n. n ≤ 31) ps) where
  small-user : (name : List ℕ) → greatest_user f.threads ps name ≤ 31
  small-user name =
      fold-most 1 31 (map (λ (u : Thread × ℕ). u.1) (filter (λ (u : Thread × ℕ). uses_object name u.0) (zip f.threads ps))) (omega arith) (λ n h.
      let r = from-map (λ (u : Thread × ℕ). u.1) (filter (λ (u : Thread × ℕ). uses_object name u.0) (zip f.threads ps)) n h in
      let i = in-filter (λ (u : Thread × ℕ). uses_object name u.0) r.0 (zip f.threads ps) r.1 in
      let q = each-is (λ n. n ≤ 31) ps r.0.1 small (from-zip f.threads ps r.0 i.0).1 in
      let e = r.2 in
      omega (arith, q, e))

  small-within : (depth : ℕ) (name : List ℕ) → ceiling_within depth f ps name ≤ 31
  small-within zero name = small-user name
  small-within (suc depth) name =
      fold-most (greatest_user f.threads ps name) 31 (map (λ g. ceiling_within depth f ps g.name) (filter (calls_from_inside name) f.shared))
      (small-user name) (λ n h.
      let r = from-map (λ (g : Guarded). ceiling_within depth f ps g.name) (filter (calls_from_inside name) f.shared) n h in
      let q = small-within depth r.0.name in
      let e = r.2 in
      omega (arith, q, e))

  small-ceiling : (name : List ℕ) → ceiling f ps name ≤ 31
  small-ceiling name = small-within (length f.shared) name

  pub small-shared : Each (λ n. n ≤ 31) (ranks_for f ps).shared
  small-shared = each-made (λ n. n ≤ 31) (λ g. ceiling f ps g.name) f.shared (λ g. small-ceiling g.name)

  small-control : (name : List ℕ) (timing : Timing) → control_ceiling f ps name timing ≤ 31
  small-control name (Cyclic period offset) = omega arith
  small-control name (Sporadic op separation jitter) = small-ceiling name

  pub small-obcs : Each (λ n. n ≤ 31) (ranks_for f ps).obcs
  small-obcs = each-made (λ n. n ≤ 31) (λ (t : Thread). control_ceiling f ps t.name t.timing) f.threads (λ t. small-control t.name t.timing)
