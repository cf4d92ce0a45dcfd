-- Tables of deeds that are made from the last event to the first: one event more in front.
use Rattle.std.proofs.Common.{◌≡◌, ℕ, zero, suc, ◌<◌, ◌≤◌, List, [], ◌∷◌, length, drop, get_or, Option, Some, None, refl, sym, ap, subst, ◌∙◌, arith}
use Rattle.std.specs.Prelude.{◌+◌, ◌-◌, ◌==◌, ◌||◌, Bool, true, false, set, replicate, nat_lt, max}
use Rattle.std.proofs.lemmas.Bool.{eqb-true, eqb-false, eq-eqb, ne_eqb, ltb-true, ltb-false, lt-ltb, le-ltb}
use Rattle.std.proofs.lemmas.List.{length-drop, length-set, length-replicate, get_or-replicate, get_or-set_same, get_or-set_other, get_or_default}
use Rattle.std.proofs.lemmas.List.{get_or_past, drop_all}
use Rattle.std.proofs.lemmas.Option.{none-some, same_Some}
use Rattle.trace_tree.specs.declared.event.Event.{Event}
use Rattle.trace_tree.specs.declared.event.Event.TheVariants as event
use Rattle.trace_read.specs.declared.chains.Chain.{Chain}
use Rattle.trace_read.specs.declared.deeds.Part.{Part}
use Rattle.trace_read.specs.declared.deeds.Part.TheVariants.{Other, Plain, Opens, Closes}
use Rattle.trace_read.specs.Deeds.{part_of, task_of, first_task, from_own, own_by, from_exit, exit_by, passes, passed_in}
use Rattle.trace_read.specs.Chains.{AreLasts, Behind, Heads, IsChain, IsLast, Leads, Stands, from_out, object_of, out_by}
use Rattle.trace_read.proofs.Shared.Deeds.{drop-next, drop-some, own-part, other-part, no-part, exit-fewer}
use Rattle.trace_read.proofs.Shared.Deeds.{exit-first, exit-outer, out_of}

-- THE TABLES behind the last event
none-there : (es : List Event) (k : ℕ) → length es ≤ k → first_task (drop k es) ≡ None
none-there es k past = ap first_task (drop_all k es past)

pub chain-none : (found : Behind) (es : List Event) (lines units : ℕ) (c : Chain) → length es ≡ lines → ((task : ℕ) → found task [] ≡ [])
    → c.next.items ≡ replicate lines 0 → c.head.items ≡ replicate units lines → IsChain found es lines c
chain-none found es lines units c long nothing next head =
    let size : length c.next.items ≡ lines = ap length next ∙ length-replicate lines 0 in
    record {
      long = size ∙ sym long;
      leads = λ k task at own. absurd (none-some task (sym (none-there es k (omega (arith, long, at))) ∙ own));
      heads = λ task less.
          let wide : length c.head.items ≡ units = ap length head ∙ length-replicate units lines in
          let is : get_or c.head.items task 0 ≡ lines =
          ap (λ xs. get_or xs task 0) head ∙ get_or-replicate units task lines 0 (omega (arith, wide, less)) in
          let end : drop lines es ≡ [] = drop_all lines es (omega (arith, long)) in
          let stands : Stands es lines (found task (drop lines es)) =
          (omega (arith, long), end ∙ sym (ap (found task) end ∙ nothing task)) in
          subst (λ i. Stands es i (found task (drop lines es))) (sym is) stands;
    }

-- ONE EVENT MORE
module _ (found : Behind) (es : List Event) (at : ℕ) where
  -- it is no deed
  leads-other : (table : List ℕ) → first_task (drop at es) ≡ None → Leads found es (suc at) table → Leads found es at table
  leads-other table none leads k task from own = by (k == at) refl
    where
      by : (b : Bool) → (k == at) ≡ b → Stands es (get_or table k 0) (found task (drop (suc k) es))
      by true e =
          let same : k ≡ at = eqb-true k at e in
          absurd (none-some task (sym none ∙ ap (λ z. first_task (drop z es)) (sym same) ∙ own))
      by false e = let other = eqb-false k at e in leads k task (omega (arith, from, other)) own

  -- it is one of this task, and what is found behind it stands at this index
  leads-deed : (table : List ℕ) (index own : ℕ) → first_task (drop at es) ≡ Some own → at < length table
      → Stands es index (found own (drop (suc at) es)) → Leads found es (suc at) table → Leads found es at (set table at index)
  leads-deed table index own is less stands leads k task from own' = by (k == at) refl
    where
      by : (b : Bool) → (k == at) ≡ b → Stands es (get_or (set table at index) k 0) (found task (drop (suc k) es))
      by true e =
          let same : at ≡ k = sym (eqb-true k at e) in
          let task-is : own ≡ task = same_Some own task (sym is ∙ ap (λ z. first_task (drop z es)) same ∙ own') in
          let index-is : index ≡ get_or (set table at index) k 0 =
          sym (ap (λ z. get_or (set table at index) z 0) (sym same) ∙ get_or-set_same table at index 0 less) in
          subst (λ i. Stands es i (found task (drop (suc k) es))) index-is (
          subst (λ z. Stands es index (found task (drop (suc z) es))) same (
          subst (λ t. Stands es index (found t (drop (suc at) es))) task-is stands))
      by false e =
          let other : k ≡ at → ⊥ = eqb-false k at e in
          subst (λ i. Stands es i (found task (drop (suc k) es))) (sym (get_or-set_other table at k index 0 other))
          (leads k task (omega (arith, from, other)) own')

  heads-other : (heads : List ℕ) → ((task : ℕ) → found task (drop at es) ≡ found task (drop (suc at) es)) → Heads found es (suc at) heads
      → Heads found es at heads
  heads-other heads same stands task less = subst (Stands es (get_or heads task 0)) (sym (same task)) (stands task less)

  heads-deed : (heads : List ℕ) (head own : ℕ) → own < length heads → Stands es head (found own (drop at es))
      → ((task : ℕ) → (own ≡ task → ⊥) → found task (drop at es) ≡ found task (drop (suc at) es)) → Heads found es (suc at) heads
      → Heads found es at (set heads own head)
  heads-deed heads head own fits stands same before task less = by (task == own) refl
    where
      by : (b : Bool) → (task == own) ≡ b → Stands es (get_or (set heads own head) task 0) (found task (drop at es))
      by true e =
          let is : own ≡ task = sym (eqb-true task own e) in
          subst (λ t. Stands es (get_or (set heads own head) t 0) (found t (drop at es))) is
          (subst (λ i. Stands es i (found own (drop at es))) (sym (get_or-set_same heads own head 0 fits)) stands)
      by false e =
          let other : task ≡ own → ⊥ = eqb-false task own e in
          let fewer : task < length heads = (let long = length-set heads own head in omega (arith, long, less)) in
          subst (λ i. Stands es i (found task (drop at es))) (sym (get_or-set_other heads own task head 0 other))
          (subst (Stands es (get_or heads task 0)) (sym (same task (λ z. other (sym z)))) (before task fewer))

-- both tables, with an event in front of those behind it
module _ (found : Behind) (es : List Event) (at : ℕ) (e : Event) (here : drop at es ≡ e ∷ drop (suc at) es)
    (passed : (task : ℕ) (xs : List Event) → part_of task e ≡ Other → found task (e ∷ xs) ≡ found task xs) where
  pub chain-other : (c : Chain) → task_of e ≡ None → IsChain found es (suc at) c → IsChain found es at c
  chain-other c none chain = record {
    long = chain.long;
    leads = leads-other found es at c.next.items (ap first_task here ∙ none) chain.leads;
    heads = heads-other found es at c.head.items (λ task. ap (found task) here ∙ passed task (drop (suc at) es) (no-part task e none)) chain.heads;
  }

  pub chain-deed : (c d : Chain) (own head : ℕ) → task_of e ≡ Some own → own < length c.head.items
      → d.next.items ≡ set c.next.items at (get_or c.head.items own 0) → d.head.items ≡ set c.head.items own head
      → Stands es head (found own (e ∷ drop (suc at) es)) → IsChain found es (suc at) c → IsChain found es at d
  chain-deed c d own head is fits next heads stands chain =
      let some : at < length es = drop-some es at e (drop (suc at) es) here in
      let long = chain.long in
      let less : at < length c.next.items = omega (arith, some, long) in
      record {
        long = ap length next ∙ length-set c.next.items at (get_or c.head.items own 0) ∙ chain.long;
        leads = subst (Leads found es at) (sym next)
            (leads-deed found es at c.next.items (get_or c.head.items own 0) own (ap first_task here ∙ is) less (chain.heads own fits) chain.leads);
        heads = subst (Heads found es at) (sym heads)
            (heads-deed found es at c.head.items head own fits (subst (λ xs. Stands es head (found own xs)) (sym here) stands)
            (λ task other. ap (found task) here ∙ passed task (drop (suc at) es) (other-part task own e is other)) chain.heads);
      }

-- NEXT DEEDS
pub own-passed : (e : Event) (task : ℕ) (xs : List Event) → part_of task e ≡ Other → from_own task (e ∷ xs) ≡ from_own task xs
unfolding from_own
own-passed e task xs other = ap (λ part. own_by part (e ∷ xs) (from_own task xs)) other

own-here : (e : Event) (task : ℕ) (xs : List Event) → task_of e ≡ Some task → from_own task (e ∷ xs) ≡ e ∷ xs
unfolding from_own
own-here e task xs own = by (part_of task e) refl
  where
    by : (part : Part) → part_of task e ≡ part → own_by part (e ∷ xs) (from_own task xs) ≡ e ∷ xs
    by Other is = absurd (own-part task e own is)
    by Plain is = refl
    by Opens is = refl
    by Closes is = refl

pub own-stands : (es : List Event) (at task : ℕ) (e : Event) → drop at es ≡ e ∷ drop (suc at) es → task_of e ≡ Some task
    → Stands es at (from_own task (e ∷ drop (suc at) es))
own-stands es at task e here own =
    let some = drop-some es at e (drop (suc at) es) here in
    (omega (arith, some), here ∙ sym (own-here e task (drop (suc at) es) own))

-- EXITS
pub out-passed : (e : Event) (task : ℕ) (xs : List Event) → part_of task e ≡ Other → from_out task (e ∷ xs) ≡ from_out task xs
unfolding from_exit
out-passed e task xs other = ap (λ part. exit_by part 0 (e ∷ xs) (from_exit task xs)) other

-- what is found from an entry on, by the table behind it
outer-stands : (es : List Event) (at task : ℕ) (table : List ℕ) (outer : ℕ) → length table ≡ length es → at < length es
    → Leads from_out es (suc at) table → Stands es outer (from_out task (drop (suc at) es))
    → Stands es (get_or table outer outer) (from_exit task (drop (suc at) es) 1)
outer-stands es at task table outer long some leads stands = by (drop outer es) refl
  where
    inner : from_exit task (drop (suc at) es) 1 ≡ out_of task (drop outer es)
    inner = exit-outer task (drop (suc at) es) 0 ∙ ap (out_of task) (sym stands.1)

    by : (xs : List Event) → drop outer es ≡ xs → Stands es (get_or table outer outer) (from_exit task (drop (suc at) es) 1)
    by [] is =
        let end : length es - outer ≡ 0 = sym (length-drop outer es) ∙ ap length is in
        let within = stands.0 in
        let past : length table ≤ outer = omega (arith, end, within, long) in
        subst (λ i. Stands es i (from_exit task (drop (suc at) es) 1)) (sym (get_or_past table outer outer past))
        (within, is ∙ sym (inner ∙ ap (out_of task) is))
    by (y ∷ ys) is =
        let less : outer < length es = drop-some es outer y ys is in
        let fewer : length (drop outer es) ≤ length (drop (suc at) es) =
        subst (λ xs. length xs ≤ length (drop (suc at) es)) (sym stands.1) (exit-fewer task (drop (suc at) es) 0) in
        let here : length (drop outer es) ≡ length es - outer = length-drop outer es in
        let there : length (drop (suc at) es) ≡ length es - suc at = length-drop (suc at) es in
        let later : suc at ≤ outer = omega (arith, fewer, here, there, less, some) in
        let own : first_task (drop outer es) ≡ Some task =
        ap first_task is ∙ exit-first task (drop (suc at) es) 0 y ys (sym stands.1 ∙ is) in
        let found : Stands es (get_or table outer 0) (from_out task (drop (suc outer) es)) = leads outer task later own in
        let rest : from_out task (drop (suc outer) es) ≡ from_exit task (drop (suc at) es) 1 =
        ap (from_out task) (sym (drop-next es outer y ys is)) ∙ sym (inner ∙ ap (out_of task) is) in
        subst (Stands es (get_or table outer outer)) rest
        (subst (λ i. Stands es i (from_out task (drop (suc outer) es))) (get_or_default table outer 0 outer (omega (arith, less, long))) found)

pub out-stands : (es : List Event) (at task : ℕ) (e : Event) (table : List ℕ) (outer : ℕ) → drop at es ≡ e ∷ drop (suc at) es
    → length table ≡ length es → Leads from_out es (suc at) table → Stands es outer (from_out task (drop (suc at) es))
    → Stands es (out_by (part_of task e) table outer at) (from_out task (e ∷ drop (suc at) es))
unfolding from_exit
out-stands es at task e table outer here long leads stands = by (part_of task e)
  where
    some : at < length es
    some = drop-some es at e (drop (suc at) es) here

    by : (part : Part) → Stands es (out_by part table outer at) (exit_by part 0 (e ∷ drop (suc at) es) (from_exit task (drop (suc at) es)))
    by Other = stands
    by Plain = stands
    by Opens = outer-stands es at task table outer long some leads stands
    by Closes = (let h = some in omega (arith, h), here)

-- LAST PASSAGES
abbrev by_object : ℕ → Option ℕ → Bool
by_object unit None = false
by_object unit (Some own) = own == unit

passes-is : (unit : ℕ) (e : Event) → passes unit e ≡ by_object unit (object_of e)
passes-is unit (event.Release time task value) = refl
passes-is unit (event.Arrive time task value) = refl
passes-is unit (event.Enter time task own op values) = refl
passes-is unit (event.Leave time task own op values) = refl
passes-is unit (event.Request time task target value) = refl
passes-is unit (event.Print time task value) = refl
passes-is unit (event.End time task used) = refl
passes-is unit (event.Stop time task own priority ceiling) = refl
passes-is unit (event.Horizon time) = refl

passed-cons : (unit : ℕ) (e : Event) (es : List Event) → passed_in unit (e ∷ es) ≡ passes unit e || passed_in unit es
unfolding passed_in
passed-cons unit e es = refl

passed-none : (unit : ℕ) → passed_in unit [] ≡ false
unfolding passed_in
passed-none unit = refl

zeros : (n i : ℕ) → ◌≡◌ {A = ℕ} (get_or (replicate n 0) i 0) 0
zeros zero i = refl
zeros (suc n) zero = refl
zeros (suc n) (suc i) = zeros n i

pub lasts-none : (es : List Event) (units : ℕ) (lasts : List ℕ) → lasts ≡ replicate units 0 → AreLasts es (length es) lasts
lasts-none es units lasts is unit =
    let zero-there : get_or lasts unit 0 ≡ 0 = ap (λ xs. get_or xs unit 0) is ∙ zeros units unit in
    record {
      passed = λ k past.
          let zero-last : nat_lt k 0 ≡ false = le-ltb k 0 (omega arith) in
          ap (passed_in unit) (drop_all k es past) ∙ passed-none unit ∙ sym (ap (nat_lt k) zero-there ∙ zero-last);
      none = λ less. zero-there;
    }

module _ (es : List Event) (at : ℕ) (e : Event) (here : drop at es ≡ e ∷ drop (suc at) es) where
  -- a unit that it doesn't pass, and one that it does
  last-other : (unit last : ℕ) → passes unit e ≡ false → IsLast unit es (suc at) last → IsLast unit es at last
  last-other unit last other is = record {
    passed = λ k from. by k from (k == at) refl;
    none = λ less. is.none (omega (arith, less));
  }
    where
      next : nat_lt (suc at) last ≡ nat_lt at last
      next = by-last (nat_lt (suc at) last) refl
        where
          by-last : (b : Bool) → nat_lt (suc at) last ≡ b → nat_lt (suc at) last ≡ nat_lt at last
          by-last true h = h ∙ sym (lt-ltb at last (let l = ltb-true (suc at) last h in omega (arith, l)))
          by-last false h =
              let zero-last : last ≡ 0 = is.none (let l = ltb-false (suc at) last h in omega (arith, l)) in
              h ∙ sym (ap (nat_lt at) zero-last ∙ le-ltb at 0 (omega arith))

      by : (k : ℕ) → at ≤ k → (b : Bool) → (k == at) ≡ b → passed_in unit (drop k es) ≡ nat_lt k last
      by k from true same =
          let at-k : at ≡ k = sym (eqb-true k at same) in
          subst (λ z. passed_in unit (drop z es) ≡ nat_lt z last) at-k (
          ap (passed_in unit) here ∙ passed-cons unit e (drop (suc at) es) ∙ ap (λ b. b || passed_in unit (drop (suc at) es)) other
          ∙ is.passed (suc at) (omega arith) ∙ next)
      by k from false differ = let other-k = eqb-false k at differ in is.passed k (omega (arith, from, other-k))

  last-here : (unit last : ℕ) → passes unit e ≡ true → IsLast unit es (suc at) last → IsLast unit es at (max last (at + 1))
  last-here unit last own is = record {
    passed = λ k from. by k from (k == at) refl;
    none = λ less. absurd (omega (arith, less));
  }
    where
      by : (k : ℕ) → at ≤ k → (b : Bool) → (k == at) ≡ b → passed_in unit (drop k es) ≡ nat_lt k (max last (at + 1))
      by k from true same =
          let at-k : at ≡ k = sym (eqb-true k at same) in
          subst (λ z. passed_in unit (drop z es) ≡ nat_lt z (max last (at + 1))) at-k (
          ap (passed_in unit) here ∙ passed-cons unit e (drop (suc at) es) ∙ ap (λ b. b || passed_in unit (drop (suc at) es)) own
          ∙ sym (lt-ltb at (max last (at + 1)) (omega arith)))
      by k from false differ =
          let other-k = eqb-false k at differ in
          is.passed k (omega (arith, from, other-k)) ∙ rest (nat_lt k last) refl
        where
          rest : (b : Bool) → nat_lt k last ≡ b → nat_lt k last ≡ nat_lt k (max last (at + 1))
          rest true h = h ∙ sym (lt-ltb k (max last (at + 1)) (let l = ltb-true k last h in omega (arith, l)))
          rest false h =
              let other-k = eqb-false k at differ in
              h ∙ sym (le-ltb k (max last (at + 1)) (let l = ltb-false k last h in omega (arith, l, from, other-k)))

  pub lasts-other : (lasts : List ℕ) → object_of e ≡ None → AreLasts es (suc at) lasts → AreLasts es at lasts
  lasts-other lasts none are unit = last-other unit (get_or lasts unit 0) (passes-is unit e ∙ ap (by_object unit) none) (are unit)

  pub lasts-deed : (lasts later : List ℕ) (own : ℕ) → object_of e ≡ Some own → own < length lasts
      → later ≡ set lasts own (max (get_or lasts own 0) (at + 1)) → AreLasts es (suc at) lasts → AreLasts es at later
  lasts-deed lasts later own is fits set-is are unit = by (unit == own) refl
    where
      passed : passes unit e ≡ (own == unit)
      passed = passes-is unit e ∙ ap (by_object unit) is

      by : (b : Bool) → (unit == own) ≡ b → IsLast unit es at (get_or later unit 0)
      by true same =
          let own-unit : own ≡ unit = sym (eqb-true unit own same) in
          let value : max (get_or lasts unit 0) (at + 1) ≡ get_or later unit 0 =
          sym (ap (λ xs. get_or xs unit 0) set-is
          ∙ subst (λ z. get_or (set lasts own (max (get_or lasts own 0) (at + 1))) z 0 ≡ max (get_or lasts z 0) (at + 1)) own-unit
          (get_or-set_same lasts own (max (get_or lasts own 0) (at + 1)) 0 fits)) in
          subst (IsLast unit es at) value (last-here unit (get_or lasts unit 0) (passed ∙ eq-eqb own unit own-unit) (are unit))
      by false differ =
          let other : unit ≡ own → ⊥ = eqb-false unit own differ in
          let value : get_or lasts unit 0 ≡ get_or later unit 0 =
          sym (ap (λ xs. get_or xs unit 0) set-is ∙ get_or-set_other lasts own unit (max (get_or lasts own 0) (at + 1)) 0 other) in
          subst (IsLast unit es at) value
          (last-other unit (get_or lasts unit 0) (passed ∙ ne_eqb own unit (λ z. other (sym z))) (are unit))
