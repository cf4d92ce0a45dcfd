-- That what is reported to block a thread is the longest section that keeps it waiting.
use Rattle.std.proofs.Common.{◌≡◌, ℕ, zero, suc, ◌-◌, ◌≤◌, ◌<◌, Bool, true, List, [], ◌∷◌, length, map, zip, Option, Some, None}
use Rattle.std.proofs.Common.{refl, sym, ap, subst, ◌∙◌, arith}
use Rattle.std.specs.Prelude.{filter, nat_le, nat_lt, option_and_then, option_map, slice_get, if◌then◌else◌}
use Rattle.std.proofs.lemmas.Option.{none-some, same_Some}
use Rattle.seq_tree.specs.Calls.{same_op}
use Rattle.seq_tree.specs.declared.tree.OpName.{OpName}
use Rattle.seq_tree.proofs.Shared.Walks.{same_op-eq}
use Rattle.ods_tree.specs.Flats.{Flat, Thread}
use Rattle.ods_tree.specs.Services.{flat_services}
use Rattle.analysis.specs.Blocking.{blocking, lower_sections}
use Rattle.analysis.specs.Ceilings.{ceiling}
use Rattle.analysis.specs.Priorities.{priorities_of}
use Rattle.analysis.specs.Sections.{Section, section, sections}
use Rattle.block_causes.specs.Causes.{Cause, cause}
use Rattle.block_causes.specs.Entered.{entered}
use Rattle.block_causes.specs.Laws.{BlockingIsCaused, CausesBlock, SectionsAreOfOperations}
use Rattle.law_lists.proofs.Shared.Lists.{IsIn, any-at, at-in, filter-in, in-flat, in-map}
use Rattle.law_lists.proofs.Shared.Places.{zip-at}
use Rattle.law_lists.proofs.Shared.Greatest.{at-most}
use Rattle.law_designs.proofs.Shared.TableRanges.{sound-table}
use Rattle.late_response.specs.Laws.{LeastIsSolved}
use Rattle.explanation.specs.declared.reasons.Blocker.{Blocker}
use Rattle.explanation.specs.Threads.{blocker_of}
use Rattle.law_explanations.specs.Blockers.{BlockersAreLongest, IsBlocked, KeepsWaiting, section_ticks}
use Rattle.law_explanations.proofs.Reasoned.{reason-is}
use Rattle.law_explanations.proofs.Terms.{found-told}

-- an item of two lists is one of each
both-at : {A B : Type 0} (xs : List A) (ys : List B) (k : ℕ) (x : A) (y : B) → slice_get (zip xs ys) k ≡ Some (x, y)
    → (slice_get xs k ≡ Some x) × (slice_get ys k ≡ Some y)
both-at {A} {B} [] ys k x y e = (let q : A × B = (x, y) in absurd (none-some q e))
both-at {A} {B} (z ∷ xs) [] k x y e = (let q : A × B = (x, y) in absurd (none-some q e))
both-at {A} {B} (z ∷ xs) (w ∷ ys) zero x y e =
    let p : A × B = (z, w) in
    let q : A × B = (x, y) in
    let same : p ≡ q = same_Some p q e in
    (ap (λ (v : A × B). Some v.0) same, ap (λ (v : A × B). Some v.1) same)
both-at (z ∷ xs) (w ∷ ys) (suc k) x y e = both-at xs ys k x y e

le-test : (a b : ℕ) → a ≤ b → nat_le a b ≡ true
le-test a b h = grind (arith, h)

lt-test : (a b : ℕ) → a < b → nat_lt a b ≡ true
lt-test a b h = grind (arith, h)

module _ (f : Flat) (level : ℕ) where
  abbrev ps : List ℕ
  ps = priorities_of f

  abbrev reaching : Section → Bool
  reaching s = nat_le level (ceiling f ps s.object)

  abbrev lower : Thread × ℕ → List Section
  lower u = if nat_lt u.1 level then sections f.costs (flat_services f) u.0.block else []

  -- no section that keeps threads of this priority waiting is longer than the blocking
  pub none-longer : SectionsAreOfOperations → (u : Thread) (c : OpName) → KeepsWaiting f level u c → section_ticks f c ≤ blocking f ps level
  none-longer law u c h =
      let s : Section = section f.costs (flat_services f) c in
      let x = any-at (same_op c) (entered (flat_services f) u.block) h.enters in
      let same : c ≡ x.1 = same_op-eq c x.1 x.3 in
      let called : IsIn c (entered (flat_services f) u.block)
      = subst (λ z. IsIn z (entered (flat_services f) u.block)) (sym same) (at-in (entered (flat_services f) u.block) x.0 x.1 x.2) in
      let made : IsIn s (sections f.costs (flat_services f) u.block)
      = subst (λ l. IsIn s l) (sym (law f.costs (flat_services f) u.block))
      (in-map (section f.costs (flat_services f)) c (entered (flat_services f) u.block) called) in
      let there : IsIn (u, h.priority) (zip f.threads ps)
      = at-in (zip f.threads ps) h.place (u, h.priority) (zip-at f.threads ps h.place u h.priority h.stands h.has) in
      let own : IsIn s (lower (u, h.priority))
      = subst (λ b. IsIn s (if b then sections f.costs (flat_services f) u.block else [])) (sym (lt-test h.priority level h.lower)) made in
      let among : IsIn s (lower_sections f ps level) = in-flat lower (u, h.priority) s (zip f.threads ps) there own in
      let kept : IsIn s (filter reaching (lower_sections f ps level))
      = filter-in reaching s (lower_sections f ps level) among (le-test level (ceiling f ps c.object) h.reaches) in
      at-most 0 (map (λ (z : Section). z.cost) (filter reaching (lower_sections f ps level))) s.cost
      (in-map (λ (z : Section). z.cost) s (filter reaching (lower_sections f ps level)) kept)

  -- a cause by its names
  caused-by : CausesBlock → (x : Cause) → cause f ps level ≡ Some x → IsBlocked f level (blocking f ps level) (blocker_of f x)
  caused-by law x e =
      let is = law f ps level x e in
      let both = both-at f.threads ps x.thread is.thread is.priority is.stands in
      let keeps : KeepsWaiting f level is.thread x.op = record {
        place = x.thread;
        priority = is.priority;
        stands = both.0;
        has = both.1;
        lower = is.lower;
        enters = is.enters;
        reaches = is.reaches;
      } in
      subst (λ o. IsBlocked f level (blocking f ps level) (option_map (λ t. let b : Blocker = record { thread = t.name; object = x.op.object; op = x.op.op } in b) o))
      (sym both.0) (is.thread, refl, keeps, is.ticks)

  pub blocked-by : CausesBlock → BlockingIsCaused
      → IsBlocked f level (blocking f ps level) (option_and_then (blocker_of f) (cause f ps level))
  blocked-by law each = by (cause f ps level) refl
    where
      by : (o : Option Cause) → cause f ps level ≡ o → IsBlocked f level (blocking f ps level) (option_and_then (blocker_of f) o)
      by (Some x) e = caused-by law x e
      by None e = none (blocking f ps level) refl
        where
          none : (n : ℕ) → blocking f ps level ≡ n → blocking f ps level ≡ 0
          none zero h = h
          none (suc n) h = (let some = each f ps level (omega (arith, h)) in absurd (none-some some.0 (sym e ∙ some.1)))

pub blockers-are-longest : LeastIsSolved → SectionsAreOfOperations → CausesBlock → BlockingIsCaused → BlockersAreLongest
blockers-are-longest least made law each first f found late i t sound is_found at =
    let told = found-told f found late least (sound-table f sound) is_found in
    let r = reason-is first f found told.long i t at in
    let level : ℕ = length f.threads - i in
    let ticks : t.row.block ≡ blocking f (priorities_of f) level = ap (λ z. z.block) r.row in
    record {
      thread = r.thread;
      place = r.place;
      level = level;
      stands = r.stands;
      has = r.has;
      named = r.name;
      written = r.priority;
      blocked = subst (IsBlocked f level t.row.block) (sym r.blocker)
          (subst (λ n. IsBlocked f level n (option_and_then (blocker_of f) (cause f (priorities_of f) level))) (sym ticks) (blocked-by f level law each));
      longest = λ u c h. (let low = none-longer f level made u c h in omega (arith, low, ticks));
    }
