-- That the verb `search` refuses a design for one reason, and none that passes under some order.
use Rattle.std.proofs.Common.{◌≡◌, ℕ, ◌+◌, List, [], ◌∷◌, Bool, true, false, ◌||◌, cond, Some, refl, sym, ap, subst, ◌∙◌}
use Rattle.std.specs.List.{list_any, position_from}
use Rattle.seq_tree.specs.Names.{Name}
use Rattle.ods_tree.specs.Flats.{Flat}
use Rattle.ods_tree.specs.Flattening.{flat}
use Rattle.analysis.specs.Sound.{IsSound}
use Rattle.law_orders.specs.Orders.{is_internal, AllExternal}
use Rattle.priority_search.proofs.Shared.OneAnswer.{one-refuted, one-filled}
use Rattle.rt_response.specs.declared.rows.Bound.{Bound}
use Rattle.rt_response.specs.Response.{IsLeastVector}
use Rattle.law_orders.specs.Orders.{rows_by}
use Rattle.hrthood_top.specs.declared.search.SearchRefusal.{SearchRefusal}
use Rattle.hrthood_top.specs.declared.search.SearchRefusal.TheVariants as refusal
use Rattle.hrthood_top.specs.Searches.{name_at, names_at, IsInternal, HasNoOrder, IsOrdered, IsSearched, RefusesSearch, CanSearch, of_search}
use Rattle.hrthood_top.specs.Searches.{report_by}
use Rattle.ods_tree.specs.Designs as designs
use Rattle.ods_tree.specs.Ticks.{first_priority}
use Rattle.hrthood_top.proofs.GenerateLaws.{one_least}
use Rattle.law_backgrounds.proofs.Shared.FirstFaults.{one-at}
use Rattle.hrthood_top.proofs.OneDesign.{one-untaken}
use Rattle.hrthood_top.proofs.Taken.{along, taken-not, taken-sound}
use Rattle.hrthood_top.proofs.VerbLaws.{IsExactOf}

-- where no item passes a test, none is the first that does
found-none : {A : Type 0} (test : A → Bool) (n k : ℕ) (xs : List A) → list_any test xs ≡ false → position_from test n xs ≡ Some k → ⊥
found-none test n k [] h e = absurd (cc e)
found-none {A} test n k (x ∷ xs) h e = by (test x) refl h e (found-none test (n + 1) k xs)
  where
    by : (b : Bool) → test x ≡ b → (b || list_any test xs) ≡ false → cond b (Some n) (position_from test (n + 1) xs) ≡ Some k
        → (list_any test xs ≡ false → position_from test (n + 1) xs ≡ Some k → ⊥) → ⊥
    by true g h e more = absurd (cc h)
    by false g h e more = more h e

not_internal : (f : Flat) (thread : Name) → AllExternal f → IsInternal f thread → ⊥
not_internal f thread external h = found-none (λ t. is_internal t.timing) 0 h.place f.threads external h.first

one_internal : (f : Flat) (t u : Name) → IsInternal f t → IsInternal f u → t ≡ u
one_internal f t u h k =
    let place : h.place ≡ k.place = one-at _ h.place k.place h.first k.first in
    one-at (name_at f k.place) t u (ap (name_at f) (sym place) ∙ h.called) k.called

one_unordered : (f : Flat) (ts us : List Name) → IsSound f → HasNoOrder f ts → HasNoOrder f us → ts ≡ us
one_unordered f ts us sound h k = h.called ∙ ap (names_at f) (one-refuted f h.places k.places sound h.refuted k.refuted) ∙ sym k.called

-- a design that passes under an order is refused for no reason
pub not_refused : (bytes : List ℕ) → CanSearch bytes → (r : SearchRefusal) → RefusesSearch bytes r → ⊥
not_refused bytes w (refusal.Untaken r) h = taken-not bytes w.design w.taken r h
not_refused bytes w (refusal.Started thread) h =
    not_internal (flat w.design) thread w.external (along (λ x. IsInternal (flat x) thread) bytes h.0 w.design h.1 w.taken h.2)
not_refused bytes w (refusal.None threads) h =
    let k = along (λ x. HasNoOrder (flat x) threads) bytes h.0 w.design h.1 w.taken h.2 in k.refuted.none w.order w.is_order w.passes

pub one_refusal : (bytes : List ℕ) (r q : SearchRefusal) → RefusesSearch bytes r → RefusesSearch bytes q → r ≡ q
one_refusal bytes (refusal.Untaken r) (refusal.Untaken q) h k = ap refusal.Untaken (one-untaken bytes r q h k)
one_refusal bytes (refusal.Untaken r) (refusal.Started t) h k = absurd (taken-not bytes k.0 k.1 r h)
one_refusal bytes (refusal.Untaken r) (refusal.None ts) h k = absurd (taken-not bytes k.0 k.1 r h)
one_refusal bytes (refusal.Started t) (refusal.Untaken q) h k = absurd (taken-not bytes h.0 h.1 q k)
one_refusal bytes (refusal.Started t) (refusal.Started u) h k =
    ap refusal.Started (one_internal (flat k.0) t u (along (λ x. IsInternal (flat x) t) bytes h.0 k.0 h.1 k.1 h.2) k.2)
one_refusal bytes (refusal.Started t) (refusal.None us) h k =
    absurd (not_internal (flat k.0) t k.2.refuted.external (along (λ x. IsInternal (flat x) t) bytes h.0 k.0 h.1 k.1 h.2))
one_refusal bytes (refusal.None ts) (refusal.Untaken q) h k = absurd (taken-not bytes h.0 h.1 q k)
one_refusal bytes (refusal.None ts) (refusal.Started u) h k =
    absurd (not_internal (flat h.0) u h.2.refuted.external (along (λ x. IsInternal (flat x) u) bytes k.0 h.0 k.1 h.1 k.2))
one_refusal bytes (refusal.None ts) (refusal.None us) h k =
    ap refusal.None (one_unordered (flat k.0) ts us (taken-sound bytes k.0 k.1) (along (λ x. HasNoOrder (flat x) ts) bytes h.0 k.0 h.1 k.1 h.2) k.2)

can_make : (bytes made : List ℕ) → IsSearched bytes made → CanSearch bytes
can_make bytes made w = record {
  design = w.0;
  taken = w.1;
  external = w.2.external;
  order = w.2.order;
  is_order = w.2.is_order;
  passes = (w.2.bounds, w.2.least.fits);
}

-- there is one order to find, with one least vector
one_ordered : (first : ℕ) (f : Flat) (x y : List ℕ) → IsSound f → IsOrdered first f x → IsOrdered first f y → x ≡ y
one_ordered first f x y sound h k =
    let order : h.order ≡ k.order = one-filled f h.order k.order sound h.is_order k.is_order h.filled k.filled in
    let P : List ℕ → Type 0 = λ o. IsLeastVector (rows_by f o) h.bounds in
    let bounds : h.bounds ≡ k.bounds = one_least (rows_by f k.order) h.bounds k.bounds (subst P order h.least) k.least in
    h.told ∙ ap (λ o. report_by first f o h.bounds) order ∙ ap (report_by first f k.order) bounds ∙ sym k.told

one_found : (bytes x y : List ℕ) → IsSearched bytes x → IsSearched bytes y → x ≡ y
one_found bytes x y h k =
    let O : designs.Design → Type 0 = λ z. IsOrdered (first_priority z) (flat z) x in
    one_ordered (first_priority k.0) (flat k.0) x y (taken-sound bytes k.0 k.1) (along O bytes h.0 k.0 h.1 k.1 h.2) k.2

pub searches-exact : IsExactOf of_search
searches-exact = record {
  able = not_refused;
  one = one_refusal;
  made = can_make;
  text = one_found;
}
