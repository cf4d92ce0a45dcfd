-- The cause of a blocking, by the numbers of operations: the greatest number that a thread's calls lead to is that of the first operation
-- that causes it.
use Rattle.std.proofs.Common.{◌≡◌, ℕ, zero, suc, ◌+◌, ◌-◌, ◌≤◌, ◌<◌, max, min, Bool, true, false, cond, List, [], ◌∷◌, ◌++◌, length, map, zip, Option, Some}
use Rattle.std.proofs.Common.{None, refl, sym, ap, ◌∙◌, subst, arith, inl, inr, append_assoc}
use Rattle.std.specs.Prelude.{◌&&◌, ◌==◌, fold, flat_map, find, nat_le, nat_lt, slice_get, option_map, if◌then◌else◌}
use Rattle.std.specs.List.{list_any}
use Rattle.std.proofs.lemmas.List.{map-append, length-map, length-append}
use Rattle.std.proofs.lemmas.Bool.{and_parts, false≢true}
use Rattle.std.proofs.lemmas.Option.{none-some, same_Some}
use Rattle.seq_tree.specs.Calls.{same_op}
use Rattle.seq_tree.specs.Limits.{tick_limit}
use Rattle.seq_tree.specs.Names.{Name}
use Rattle.seq_tree.specs.Operations.{Operation}
use Rattle.seq_tree.specs.Statements.{Statements}
use Rattle.seq_tree.specs.declared.tree.OpName.{OpName}
use Rattle.seq_tree.proofs.Shared.Walks.{same_op-eq, same_op-refl}
use Rattle.ods_tree.specs.Flats.{Thread, Flat}
use Rattle.ods_tree.specs.Services.{Sort, Service, flat_services, service_named}
use Rattle.ods_tree.specs.Services as sort
use Rattle.analysis.specs.Ceilings.{ceiling}
use Rattle.analysis.specs.Execution.{called_cost, cost_within}
use Rattle.analysis.specs.Sections.{live_calls}
use Rattle.analysis.specs.Sound.{name_of}
use Rattle.analysis.specs.Tables.{downwards}
use Rattle.law_lists.proofs.Shared.Lists.{IsIn, any-at, any-in, at-in, in-map, in-some}
use Rattle.call_graph.specs.Numbers.{greatest_of}
use Rattle.call_graph.specs.Entries.{Entry, entries, entry_at, entry_by, entry_of}
use Rattle.call_graph.specs.declared.services.Served.{Served}
use Rattle.call_graph.specs.Places.{value_at}
use Rattle.call_graph.specs.Prices.{cap, prices}
use Rattle.call_graph.proofs.Shared.PlaceLaws.{along, placed, entry_named, entry-name, named, or_none, none-made, made}
use Rattle.call_graph.proofs.Shared.PriceLaws.{as-deep, priced, prices-made}
use Rattle.name_sets.specs.FirstPlaces.{op_place_from}
use Rattle.block_causes.specs.Entered.{entered_by, service_entered, entered_within, entered}
use Rattle.block_causes.specs.Causes.{Cause, keeps_waiting, op_cause, thread_cause, cause_or, cause_from, cause_by}
use Rattle.rt_block.specs.Called.{called_places, inner_places}
use Rattle.rt_block.specs.Causes.{waits, numbers, cause_numbers, number_or, first_number, op_of, AreNamed}
use Rattle.rt_block.specs.Known.{IsServed}
use Rattle.rt_block.specs.declared.operations.Operations.{Operations}
use Rattle.rt_block.specs.Ceilings.{entry_ceiling, entry_ceilings}
use Rattle.rt_block.specs.Longest.{section_price, section_prices}
use Rattle.rt_block.specs.Spreads.{spread}
use Rattle.rt_block.specs.declared.calls.Scope.TheVariants.{Live}
use Rattle.rt_block.proofs.NumberLaws.{max-from, max-append, greatest-same, zip-left, zip-made}
use Rattle.rt_block.proofs.SectionLaws.{by-places}
use Rattle.rt_block.proofs.SpreadLaws.{found-object}

-- one operation more is looked at
pub numbers-step : (level ticks c s n : ℕ) (cs ss : List ℕ) → length ss ≡ length cs
    → n ≡ (if nat_le level c && s == ticks then suc (length cs) else 0)
    → n ∷ cause_numbers level ticks cs ss ≡ cause_numbers level ticks (c ∷ cs) (s ∷ ss)
numbers-step level ticks c s n cs ss long is =
    ap (λ k. k ∷ cause_numbers level ticks cs ss) (is ∙ ap (λ k. if nat_le level c && s == ticks then suc k else 0) (sym (count cs ss long)))
  where
    count : (xs ys : List ℕ) → length ys ≡ length xs → length (map (waits level ticks) (zip xs ys)) ≡ length xs
    count [] ys h = refl
    count (x ∷ xs) [] h = absurd (omega (arith, h))
    count (x ∷ xs) (y ∷ ys) h = ap suc (count xs ys (omega (arith, h)))

-- the numbers so far, and those that are left
pub numbers-next : (level ticks c s n : ℕ) (done cs ss cs' ss' total : List ℕ) → cs' ≡ c ∷ cs → ss' ≡ s ∷ ss → length ss' ≡ length cs'
    → n ≡ (if nat_le level c && s == ticks then length cs' else 0) → done ++ cause_numbers level ticks cs' ss' ≡ total
    → (done ++ n ∷ []) ++ cause_numbers level ticks cs ss ≡ total
numbers-next level ticks c s n done cs ss cs' ss' total at_c at_s long is before =
    let left : length cs' ≡ suc (length cs) = ap length at_c in
    let right : length ss' ≡ suc (length ss) = ap length at_s in
    append_assoc done (n ∷ []) (cause_numbers level ticks cs ss)
    ∙ ap (λ l. done ++ l) (numbers-step level ticks c s n cs ss (omega (arith, left, right, long))
    (is ∙ ap (λ k. if nat_le level c && s == ticks then k else 0) left))
    ∙ ap (λ l. done ++ cause_numbers level ticks l (s ∷ ss)) (sym at_c) ∙ ap (λ l. done ++ cause_numbers level ticks cs' l) (sym at_s) ∙ before

pub many-next : (n c total : ℕ) (new done cs cs' : List ℕ) → new ≡ done ++ n ∷ [] → cs' ≡ c ∷ cs → length done + length cs' ≡ total
    → length new + length cs ≡ total
many-next n c total new done cs cs' is at before =
    let left : length new ≡ length (done ++ n ∷ []) = ap length is in
    let more : length (done ++ n ∷ []) ≡ length done + 1 = length-append done (n ∷ []) in
    let right : length cs' ≡ suc (length cs) = ap length at in
    omega (arith, left, more, right, before)

-- the names of what is kept of the operations
pub named-served : (k : Operations) → IsServed k → AreNamed k
named-served k served = names k.services.items ∙ ap (map (λ e. e.name)) served
  where
    names : (xs : List Served) → map op_of xs ≡ map (λ e. e.name) (map entry_at xs)
    names [] = refl
    names (x ∷ xs) = ap (λ l. op_of x ∷ l) (names xs)

-- one level more is looked at
pub level-next : {A B : Type 0} (f : A → B) (g : ℕ → B) (before after : List A) (x : A) (total : List B) (n : ℕ) → 0 < n → after ≡ before ++ x ∷ []
    → f x ≡ g n → map f before ++ map g (downwards n) ≡ total
    → map f after ++ map g (downwards (n - 1)) ≡ total
level-next f g before after x total zero some grown is all = absurd (omega (arith, some))
level-next f g before after x total (suc n) some grown is all =
    let less : suc n - 1 ≡ n = omega arith in
    ap (λ k. map f after ++ map g (downwards k)) less ∙ ap (λ l. map f l ++ map g (downwards n)) grown
    ∙ ap (λ l. l ++ map g (downwards n)) (map-append f before (x ∷ [])) ∙ append_assoc (map f before) (f x ∷ []) (map g (downwards n))
    ∙ ap (λ y. map f before ++ y ∷ map g (downwards n)) is ∙ all

-- a thread without a number
pub first-next : (known : List ℕ) (level at n : ℕ) (x : List ℕ × ℕ) (us us' : List (List ℕ × ℕ)) (total : Option (ℕ × ℕ)) → us' ≡ x ∷ us
    → n ≡ (if nat_lt x.1 level then greatest_of known 0 x.0 else 0) → n ≡ 0 → first_number known level at us' ≡ total
    → first_number known level (at + 1) us ≡ total
first-next known level at n x us us' total is number none before =
    let next : at + 1 ≡ suc at = omega arith in
    ap (λ k. first_number known level k us) next
    ∙ ap (λ k. number_or at k (first_number known level (suc at) us)) (sym none ∙ number) ∙ ap (first_number known level at) (sym is) ∙ before

-- a thread with one
pub first-here : (known : List ℕ) (level at n : ℕ) (x : List ℕ × ℕ) (us us' : List (List ℕ × ℕ)) (total : Option (ℕ × ℕ)) → us' ≡ x ∷ us
    → n ≡ (if nat_lt x.1 level then greatest_of known 0 x.0 else 0) → 1 ≤ n → first_number known level at us' ≡ total
    → Some (at, n) ≡ total
first-here known level at n x us us' total is number some before =
    by n some ∙ ap (λ k. number_or at k (first_number known level (suc at) us)) number ∙ ap (first_number known level at) (sym is) ∙ before
  where
    by : (k : ℕ) → 1 ≤ k → Some (at, k) ≡ number_or at k (first_number known level (suc at) us)
    by zero h = absurd (omega (arith, h))
    by (suc k) h = refl

-- none is left
pub first-none : (known : List ℕ) (level at : ℕ) (us : List (List ℕ × ℕ)) (total : Option (ℕ × ℕ)) → us ≡ [] → first_number known level at us ≡ total
    → None ≡ total
first-none known level at us total is before = ap (first_number known level at) (sym is) ∙ before

pub numbers-long : (bs : List Bool) → length (numbers bs) ≡ length bs
numbers-long [] = refl
numbers-long (b ∷ bs) = ap suc (numbers-long bs)

-- weights of lists in lists
weigh-flat : (w : OpName → ℕ) (g : OpName → List OpName) (cs : List OpName) (a : ℕ)
    → fold max a (map w (flat_map g cs)) ≡ fold max a (map (λ c. fold max 0 (map w (g c))) cs)
weigh-flat w g [] a = refl
weigh-flat w g (c ∷ cs) a =
    ap (λ l. fold max a l) (map-append w (g c) (flat_map g cs)) ∙ max-append a (map w (g c)) (map w (flat_map g cs))
    ∙ weigh-flat w g cs (fold max a (map w (g c)))
    ∙ ap (λ n. fold max n (map (λ d. fold max 0 (map w (g d))) cs)) (max-from a (map w (g c)))

-- numbers that are made of the operations and of other numbers, along the list
along-zip : (i : Entry → List ℕ) (h : List ℕ × ℕ → ℕ) (es : List Entry) (vs : List ℕ) (n : OpName) → length vs ≡ length es
    → along es (map h (zip (map i es) vs)) n ≡ or_none (λ e. h (i e, along es vs n)) (entry_named es n)
along-zip i h [] vs n long = refl
along-zip i h (e ∷ es) [] n long = absurd (omega (arith, long))
along-zip i h (e ∷ es) (v ∷ vs) n long = by (same_op e.name n) (along-zip i h es vs n (omega (arith, long)))
  where
    by : (b : Bool) → along es (map h (zip (map i es) vs)) n ≡ or_none (λ x. h (i x, along es vs n)) (entry_named es n)
        → (if b then h (i e, v) else along es (map h (zip (map i es) vs)) n)
        ≡ or_none (λ x. h (i x, if b then v else along es vs n)) (cond b (Some e) (entry_named es n))
    by true k = refl
    by false k = k

-- the number of an operation whose flag is not set
along-unset : (flag : Entry → Bool) (es : List Entry) (n : OpName) (e : Entry) → entry_named es n ≡ Some e → flag e ≡ false
    → along es (numbers (map flag es)) n ≡ 0
along-unset flag [] n e is unset = absurd (none-some e is)
along-unset flag (x ∷ es) n e is unset = by (same_op x.name n) is (along-unset flag es n e)
  where
    by : (b : Bool) → cond b (Some x) (entry_named es n) ≡ Some e
        → (entry_named es n ≡ Some e → flag e ≡ false → along es (numbers (map flag es)) n ≡ 0)
        → (if b then (if flag x then suc (length (map flag es)) else 0) else along es (numbers (map flag es)) n) ≡ 0
    by true k rest =
        let same : x ≡ e = same_Some x e k in
        ap (λ c. if c then suc (length (map flag es)) else 0) (ap flag same ∙ unset)
    by false k rest = rest k unset

along-some : (flag : Entry → Bool) (es : List Entry) (n : OpName) → along es (numbers (map flag es)) n ≤ length es
along-some flag [] n = omega arith
along-some flag (x ∷ es) n = by (same_op x.name n) (flag x) (along-some flag es n)
  where
    by : (b c : Bool) → along es (numbers (map flag es)) n ≤ length es
        → (if b then (if c then suc (length (map flag es)) else 0) else along es (numbers (map flag es)) n) ≤ suc (length es)
    by true true h = omega (arith, length-map es flag)
    by true false h = omega arith
    by false c h = omega (arith, h)

-- the greatest of numbers none of which is above one of them
max-least : (a m : ℕ) (xs : List ℕ) → a ≤ m → ((x : ℕ) → IsIn x xs → x ≤ m) → fold max a xs ≤ m
max-least a m [] h all = h
max-least a m (x ∷ xs) h all = max-least (max a x) m xs (omega (arith, h, all x (inl refl))) (λ y i. all y (inr i))

max-over : (a x : ℕ) (xs : List ℕ) → IsIn x xs → x ≤ fold max a xs
max-over a x [] h = absurd h
max-over a x (y ∷ xs) (inl same) = omega (arith, same, max-from (max a y) xs)
max-over a x (y ∷ xs) (inr h) = max-over (max a y) x xs h

-- numbers that are the same of all items
same-in : (p q : OpName → ℕ) (cs : List OpName) (a : ℕ) → ((c : OpName) → IsIn c cs → p c ≡ q c) → fold max a (map p cs) ≡ fold max a (map q cs)
same-in p q [] a h = refl
same-in p q (c ∷ cs) a h =
    ap (λ n. fold max (max a n) (map p cs)) (h c (inl refl)) ∙ same-in p q cs (max a (q c)) (λ d i. h d (inr i))

-- the operation of a number
abbrev pub picked : List OpName → ℕ → Option OpName
picked names zero = None
picked names (suc g) = slice_get names (length names - suc g)

module _ (cs : List OpName) (keeps : OpName → Bool) (flag : Entry → Bool) where
  -- the number of an operation, where it counts
  abbrev weight : List Entry → OpName → ℕ
  weight es c = if keeps c then along es (numbers (map flag es)) c else 0

  abbrev test : OpName → Bool
  test c = list_any (same_op c) cs && keeps c

  abbrev names : List Entry → List OpName
  names es = map (λ e. e.name) es

  -- what counts is flagged
  abbrev Flagged : List Entry → Type 0
  Flagged es = (c : OpName) (e : Entry) → IsIn c cs → keeps c ≡ true → entry_named es c ≡ Some e → flag e ≡ true

  weight-some : (es : List Entry) (c : OpName) → weight es c ≤ length es
  weight-some es c = by (keeps c)
    where
      by : (b : Bool) → (if b then along es (numbers (map flag es)) c else 0) ≤ length es
      by true = along-some flag es c
      by false = omega arith

  all-some : (es : List Entry) → fold max 0 (map (weight es) cs) ≤ length es
  all-some es = max-least 0 (length es) (map (weight es) cs) (omega arith) (λ x i. each cs x i)
    where
      each : (ds : List OpName) (x : ℕ) → IsIn x (map (weight es) ds) → x ≤ length es
      each [] x i = absurd i
      each (d ∷ ds) x (inl same) = omega (arith, same, weight-some es d)
      each (d ∷ ds) x (inr i) = each ds x i

  picked-more : (x : OpName) (ns : List OpName) (g : ℕ) → g ≤ length ns → picked (x ∷ ns) g ≡ picked ns g
  picked-more x ns zero h = refl
  picked-more x ns (suc g) h =
      let at : length (x ∷ ns) - suc g ≡ suc (length ns - suc g) = omega (arith, h) in ap (λ k. slice_get (x ∷ ns) k) at

  pub first-picked : (es : List Entry) → Flagged es → find test (names es) ≡ picked (names es) (fold max 0 (map (weight es) cs))
  first-picked [] flagged = ap (picked []) (sym zero-all)
    where
      none : (c : OpName) → weight [] c ≡ 0
      none c = by (keeps c)
        where
          by : (b : Bool) → ◌≡◌ {A = ℕ} (if b then 0 else 0) 0
          by true = refl
          by false = refl

      zero-all : fold max 0 (map (weight []) cs) ≡ 0
      zero-all = let most = all-some [] in omega (arith, most)
  first-picked (x ∷ es) flagged = by (test x.name) refl (first-picked es)
    where
      -- where the first one does not count, the numbers are those of the others
      other : test x.name ≡ false → (c : OpName) → IsIn c cs → keeps c ≡ true → same_op x.name c ≡ false
      other out c i k = which (same_op x.name c) refl
        where
          which : (b : Bool) → same_op x.name c ≡ b → b ≡ false
          which false e = refl
          which true e =
              let same : x.name ≡ c = same_op-eq x.name c e in
              let there : list_any (same_op x.name) cs ≡ true = any-in (same_op x.name) c cs i e in
              let keep : keeps x.name ≡ true = ap keeps same ∙ k in
              let holds : test x.name ≡ true = rw there keep in
              absurd (false≢true (sym out ∙ holds))

      same : test x.name ≡ false → (c : OpName) → IsIn c cs → weight (x ∷ es) c ≡ weight es c
      same out c i = kept (keeps c) refl
        where
          kept : (b : Bool) → keeps c ≡ b → (if b then along (x ∷ es) (numbers (map flag (x ∷ es))) c else 0)
              ≡ (if b then along es (numbers (map flag es)) c else 0)
          kept false e = refl
          kept true e =
              ap (λ b. if b then (if flag x then suc (length (map flag es)) else 0) else along es (numbers (map flag es)) c) (other out c i e)

      by : (b : Bool) → test x.name ≡ b → (Flagged es → find test (names es) ≡ picked (names es) (fold max 0 (map (weight es) cs)))
          → cond b (Some x.name) (find test (names es)) ≡ picked (names (x ∷ es)) (fold max 0 (map (weight (x ∷ es)) cs))
      by false out rest =
          let less : fold max 0 (map (weight es) cs) ≤ length (names es) = omega (arith, all-some es, length-map es (λ e. e.name)) in
          rest (λ c e i k is. flagged c e i k (ap (λ b. cond b (Some x) (entry_named es c)) (other out c i k) ∙ is))
          ∙ sym (picked-more x.name (names es) (fold max 0 (map (weight es) cs)) less)
          ∙ ap (picked (names (x ∷ es))) (sym (same-in (weight (x ∷ es)) (weight es) cs 0 (same out)))
      by true here rest =
          let both = and_parts (list_any (same_op x.name) cs) (keeps x.name) here in
          let found = any-at (same_op x.name) cs both.0 in
          let is : x.name ≡ found.1 = same_op-eq x.name found.1 found.3 in
          let there : IsIn x.name cs = subst (λ n. IsIn n cs) (sym is) (at-in cs found.0 found.1 found.2) in
          let set : flag x ≡ true
          = flagged x.name x there both.1 (ap (λ b. cond b (Some x) (entry_named es x.name)) (same_op-refl x.name)) in
          let own : weight (x ∷ es) x.name ≡ suc (length es) =
          ap (λ b. if b then along (x ∷ es) (numbers (map flag (x ∷ es))) x.name else 0) both.1
          ∙ ap (λ b. if b then (if flag x then suc (length (map flag es)) else 0) else along es (numbers (map flag es)) x.name)
          (same_op-refl x.name)
          ∙ ap (λ b. if b then suc (length (map flag es)) else 0) set ∙ ap suc (length-map es flag) in
          let over : weight (x ∷ es) x.name ≤ fold max 0 (map (weight (x ∷ es)) cs)
          = max-over 0 (weight (x ∷ es) x.name) (map (weight (x ∷ es)) cs) (in-map (weight (x ∷ es)) x.name cs there) in
          let most : fold max 0 (map (weight (x ∷ es)) cs) ≡ suc (length es) = omega (arith, over, own, all-some (x ∷ es)) in
          let at : length (names (x ∷ es)) - suc (length es) ≡ 0 = omega (arith, length-map es (λ e. e.name)) in
          ap (λ k. slice_get (names (x ∷ es)) k) (sym at) ∙ ap (picked (names (x ∷ es))) (sym most)

module _ (f : Flat) (ps : List ℕ) (place : OpName → Option ℕ)
    (places : (n : OpName) → place n ≡ op_place_from 0 (map (λ e. e.name) (entries f)) n) where
  abbrev ss : List Service
  ss = flat_services f

  abbrev es : List Entry
  es = entries f

  by-name : (vs : List ℕ) (n : OpName) → value_at vs (place n) ≡ along es vs n
  by-name vs n = ap (value_at vs) (places n) ∙ placed 0 es vs vs n refl

  -- the greatest number that a call leads to, one call deeper
  spread-by : (d : ℕ) (i : Entry → List ℕ) (vs : List ℕ) (n : OpName) → length vs ≡ length es
      → value_at (spread (suc d) (map i es) vs) (place n)
      ≡ or_none (λ e. greatest_of (spread d (map i es) vs) (along es vs n) (i e)) (option_map entry_of (service_named ss n.object n.op))
  spread-by d i vs n long =
      by-name (spread (suc d) (map i es) vs) n ∙ along-zip i (λ x. greatest_of (spread d (map i es) vs) x.1 x.0) es vs n long
      ∙ ap (or_none (λ e. greatest_of (spread d (map i es) vs) (along es vs n) (i e))) (named ss n)

  -- plain procedures have no number
  abbrev PlainHaveNone : List ℕ → Type 0
  PlainHaveNone vs = (n : OpName) (s : Service) → service_named ss n.object n.op ≡ Some s → s.sort ≡ sort.Plain → along es vs n ≡ 0

  -- what a call leads to
  entered-spread : (vs : List ℕ) → length vs ≡ length es → PlainHaveNone vs → (d : ℕ) (n : OpName)
      → value_at (spread d (map (λ e. inner_places place Live e.work) es) vs) (place n) ≡ fold max 0 (map (along es vs) (entered_within d ss n))
  entered-spread vs long plain zero n = none-made f place places n
  entered-spread vs long plain (suc d) n =
      spread-by d (λ e. inner_places place Live e.work) vs n long
      ∙ by (entered-spread vs long plain d) (service_named ss n.object n.op) refl
    where
      V : List ℕ
      V = spread d (map (λ e. inner_places place Live e.work) es) vs

      sorted : ((m : OpName) → value_at V (place m) ≡ fold max 0 (map (along es vs) (entered_within d ss m))) → (object : Name) (x : Sort)
          (op : Operation) → (x ≡ sort.Plain → along es vs n ≡ 0)
          → greatest_of V (along es vs n) (inner_places place Live (entry_by object x op).work)
          ≡ fold max 0 (map (along es vs) (entered_by n (entered_within d ss) x op))
      sorted same object sort.Plain op none = none refl
      sorted same object sort.Protected op none =
          let own : along es vs n ≡ max 0 (along es vs n) = omega arith in
          by-places place V (live_calls op.block) (along es vs n)
          ∙ greatest-same (λ m. value_at V (place m)) (λ m. fold max 0 (map (along es vs) (entered_within d ss m))) (live_calls op.block)
          (along es vs n) same
          ∙ ap (λ a. fold max a (map (λ m. fold max 0 (map (along es vs) (entered_within d ss m))) (live_calls op.block))) own
          ∙ sym (weigh-flat (along es vs) (entered_within d ss) (live_calls op.block) (max 0 (along es vs n)))
      sorted same object sort.Request op none = omega arith

      by : ((m : OpName) → value_at V (place m) ≡ fold max 0 (map (along es vs) (entered_within d ss m))) → (x : Option Service)
          → service_named ss n.object n.op ≡ x
          → or_none (λ e. greatest_of V (along es vs n) (inner_places place Live e.work)) (option_map entry_of x)
          ≡ fold max 0 (map (along es vs) (service_entered n (entered_within d ss) x))
      by same None e = refl
      by same (Some s) e = sorted same s.object s.sort s.op (plain n s e)

  -- what a block leads to
  block-spread : (vs : List ℕ) → length vs ≡ length es → PlainHaveNone vs → (b : Statements)
      → greatest_of (spread (length es) (map (λ e. inner_places place Live e.work) es) vs) 0 (called_places place Live b)
      ≡ fold max 0 (map (along es vs) (entered ss b))
  block-spread vs long plain b =
      by-places place V (live_calls b) 0
      ∙ greatest-same (λ m. value_at V (place m)) (λ m. fold max 0 (map (along es vs) (entered_within (length es) ss m))) (live_calls b) 0
      (entered-spread vs long plain (length es))
      ∙ sym (weigh-flat (along es vs) (entered_within (length es) ss) (live_calls b) 0)
      ∙ ap (λ d. fold max 0 (map (along es vs) (flat_map (entered_within d ss) (live_calls b)))) (as-deep f place places)
    where
      V : List ℕ
      V = spread (length es) (map (λ e. inner_places place Live e.work) es) vs

  -- what is entered is an operation that is there, and none of a passive object
  record IsEntered (c : OpName) : Type 0 where
    pub service : Service
    pub there : service_named ss c.object c.op ≡ Some service
    pub not_plain : service.sort ≡ sort.Plain → ⊥

  within-there : (d : ℕ) (n c : OpName) → IsIn c (entered_within d ss n) → IsEntered c
  within-there zero n c h = absurd h
  within-there (suc d) n c h = by (within-there d) (service_named ss n.object n.op) refl h
    where
      own : (s : Service) → service_named ss n.object n.op ≡ Some s → (s.sort ≡ sort.Plain → ⊥) → n ≡ c → IsEntered c
      own s e apart same = subst IsEntered same (record { service = s; there = e; not_plain = apart })

      protected-apart : sort.Protected ≡ sort.Plain → ⊥
      protected-apart e = cc

      request-apart : sort.Request ≡ sort.Plain → ⊥
      request-apart e = cc

      sorted : ((m x : OpName) → IsIn x (entered_within d ss m) → IsEntered x) → (s : Service) → service_named ss n.object n.op ≡ Some s
          → (x : Sort) → s.sort ≡ x → IsIn c (entered_by n (entered_within d ss) x s.op) → IsEntered c
      sorted deeper s e sort.Plain is k = absurd k
      sorted deeper s e sort.Protected is (inl same) = own s e (λ p. protected-apart (sym is ∙ p)) same
      sorted deeper s e sort.Protected is (inr k) =
          let inner = in-some (entered_within d ss) (live_calls s.op.block) c k in deeper inner.0 c inner.2
      sorted deeper s e sort.Request is (inl same) = own s e (λ p. request-apart (sym is ∙ p)) same
      sorted deeper s e sort.Request is (inr k) = absurd k

      by : ((m x : OpName) → IsIn x (entered_within d ss m) → IsEntered x) → (x : Option Service) → service_named ss n.object n.op ≡ x
          → IsIn c (service_entered n (entered_within d ss) x) → IsEntered c
      by deeper None e k = absurd k
      by deeper (Some s) e k = sorted deeper s e s.sort refl k

  entered-there : (b : Statements) (c : OpName) → IsIn c (entered ss b) → IsEntered c
  entered-there b c h =
      let inner = in-some (entered_within (length ss) ss) (live_calls b) c h in within-there (length ss) inner.0 c inner.2

  module _ (level ticks : ℕ) (some : 1 ≤ ticks) (cheap : ticks ≤ tick_limit) where
    abbrev keeps : OpName → Bool
    keeps c = keeps_waiting f ps level ticks c

    -- the prices of operations one by one
    abbrev Priced : (Entry → ℕ) → Type 0
    Priced g = prices (length es) f.costs place es ≡ map g es

    abbrev flag : (Entry → ℕ) → Entry → Bool
    flag g e = waits level ticks (entry_ceiling f ps e, section_price e.work (g e))

    sections-by : (g : Entry → ℕ) (xs : List Entry) → section_prices xs (map g xs) ≡ map (λ e. section_price e.work (g e)) xs
    sections-by g [] = refl
    sections-by g (e ∷ xs) = ap (λ l. section_price e.work (g e) ∷ l) (sections-by g xs)

    -- the numbers that the code has
    numbers-by : (g : Entry → ℕ) → Priced g → (ceilings sections : List ℕ) → ceilings ≡ entry_ceilings f ps
        → sections ≡ section_prices es (prices (length es) f.costs place es)
        → cause_numbers level ticks ceilings sections ≡ numbers (map (flag g) es)
    numbers-by g h ceilings sections r k =
        ap (λ l. cause_numbers level ticks l sections) r ∙ ap (cause_numbers level ticks (entry_ceilings f ps)) (k ∙ ap (section_prices es) h ∙ sections-by g es)
        ∙ ap numbers (zip-made (entry_ceiling f ps) (λ e. section_price e.work (g e)) (waits level ticks) es)

    numbers-count : (g : Entry → ℕ) → length (numbers (map (flag g) es)) ≡ length es
    numbers-count g = numbers-long (map (flag g) es) ∙ length-map es (flag g)

    -- the first operation of a name
    first-named : (n : OpName) (s : Service) → service_named ss n.object n.op ≡ Some s → entry_named es n ≡ Some (entry_of s)
    first-named n s e = named ss n ∙ ap (option_map entry_of) e

    plain-none : (g : Entry → ℕ) → PlainHaveNone (numbers (map (flag g) es))
    plain-none g n s e is =
        along-unset (flag g) es n (entry_of s) (first-named n s e) (made_by s.sort is)
      where
        unset : nat_le level 0 && 0 == ticks ≡ false
        unset = by (nat_le level 0)
          where
            apart : (0 == ticks) ≡ false
            apart = grind (arith, some)

            by : (b : Bool) → (b && 0 == ticks) ≡ false
            by true = apart
            by false = refl

        made_by : (x : Sort) → x ≡ sort.Plain → waits level ticks (entry_ceiling f ps (entry_by s.object x s.op), section_price (entry_by s.object x s.op).work (g (entry_of s))) ≡ false
        made_by x h = let P : Sort → Type 0 = λ y. waits level ticks (
          entry_ceiling f ps (entry_by s.object y s.op),
          section_price (entry_by s.object y s.op).work (g (entry_of s)),
        ) ≡ false in subst P (sym h) unset

    -- the flag of an operation that is entered
    flag-is : (g : Entry → ℕ) → Priced g → (c : OpName) (h : IsEntered c) → flag g (entry_of h.service) ≡ keeps c
    flag-is g priced-so c h = sorted h.service.sort refl
      where
        s : Service
        s = h.service

        price : g (entry_of h.service) ≡ min cap (called_cost f.costs ss c.object c.op)
        price =
            ap (λ o. or_none g (option_map entry_of o)) (sym h.there) ∙ sym (made f place places g c) ∙ ap (λ vs. value_at vs (place c)) (sym priced-so)
            ∙ priced f place places (length es) c ∙ ap (λ d. min cap (cost_within d f.costs ss c.object c.op)) (as-deep f place places)

        cut : (a : ℕ) → (min cap a == ticks) ≡ (a == ticks)
        cut a = which (nat_le a cap) refl
          where
            which : (b : Bool) → nat_le a cap ≡ b → (min cap a == ticks) ≡ (a == ticks)
            which true e = let less : a ≤ cap = grind arith in let same : min cap a ≡ a = omega (arith, less) in ap (λ z. z == ticks) same
            which false e =
                let more : cap < a = grind arith in
                let same : min cap a ≡ cap = omega (arith, more) in
                let left : (cap == ticks) ≡ false = grind (arith, cheap) in
                let right : (a == ticks) ≡ false = grind (arith, cheap, more) in
                ap (λ z. z == ticks) same ∙ left ∙ sym right

        object : h.service.object ≡ c.object
        object = found-object ss c.object c.op h.service h.there

        reach : (nat_le level (ceiling f ps h.service.object) && g (entry_of h.service) == ticks) ≡ keeps c
        reach =
            ap (λ o. nat_le level (ceiling f ps o) && g (entry_of h.service) == ticks) object
            ∙ ap (λ z. nat_le level (ceiling f ps c.object) && z == ticks) price
            ∙ ap (λ b. nat_le level (ceiling f ps c.object) && b) (cut (called_cost f.costs ss c.object c.op))

        made_by : Sort → Bool
        made_by x = waits level ticks (
          entry_ceiling f ps (entry_by h.service.object x h.service.op),
          section_price (entry_by h.service.object x h.service.op).work (g (entry_of h.service)),
        )

        sorted : (x : Sort) → h.service.sort ≡ x → made_by h.service.sort ≡ keeps c
        sorted sort.Plain e = absurd (h.not_plain e)
        sorted sort.Protected e = ap made_by e ∙ reach
        sorted sort.Request e = ap made_by e ∙ reach

    -- the names of operations
    abbrev named_ops : List OpName
    named_ops = map (λ e. e.name) es

    names-same : (xs : List Service) → map name_of xs ≡ map (λ e. e.name) (map entry_of xs)
    names-same [] = refl
    names-same (s ∷ xs) =
        ap (λ n. n ∷ map name_of xs) (sym (entry-name s.object s.sort s.op)) ∙ ap (λ l. (entry_of s).name ∷ l) (names-same xs)

    -- what an operation counts is its number
    weighed : (g : Entry → ℕ) → Priced g → (b : Statements) (c : OpName) → IsIn c (entered ss b)
        → weight (entered ss b) keeps (flag g) es c ≡ along es (numbers (map (flag g) es)) c
    weighed g h b c i = by (keeps c) refl
      where
        there : IsEntered c
        there = entered-there b c i

        by : (k : Bool) → keeps c ≡ k → (if k then along es (numbers (map (flag g) es)) c else 0) ≡ along es (numbers (map (flag g) es)) c
        by true e = refl
        by false e =
            sym (along-unset (flag g) es c (entry_of there.service) (first-named c there.service there.there) (flag-is g h c there ∙ e))

    -- the first operation of a block that causes the blocking
    op-picked : (g : Entry → ℕ) → Priced g → (b : Statements)
        → op_cause f ps level ticks b ≡ picked named_ops (fold max 0 (map (along es (numbers (map (flag g) es))) (entered ss b)))
    op-picked g h b =
        ap (find (test (entered ss b) keeps (flag g))) (names-same ss) ∙ first-picked (entered ss b) keeps (flag g) es flagged
        ∙ ap (picked named_ops) (same-in (weight (entered ss b) keeps (flag g) es) (along es (numbers (map (flag g) es))) (entered ss b) 0
        (weighed g h b))
      where
        flagged : (c : OpName) (e : Entry) → IsIn c (entered ss b) → keeps c ≡ true → entry_named es c ≡ Some e → flag g e ≡ true
        flagged c e i k is =
            let there : IsEntered c = entered-there b c i in
            let same : entry_of there.service ≡ e = same_Some (entry_of there.service) e (sym (first-named c there.service there.there) ∙ is) in
            ap (flag g) (sym same) ∙ flag-is g h c there ∙ k

    -- what is found by numbers is the cause
    abbrev pub Matches : Option (ℕ × ℕ) → Option Cause → Type 0
    Matches None o = o ≡ None
    Matches (Some x) o = (c : OpName) × (slice_get named_ops (length named_ops - x.1) ≡ Some c) × (o ≡ Some (record { thread = x.0; op = c }))

    picked-there : (n : ℕ) → suc n ≤ length named_ops → (c : OpName) × (slice_get named_ops (length named_ops - suc n) ≡ Some c)
    picked-there n h = there named_ops (length named_ops - suc n) (omega (arith, h))
      where
        there : (ns : List OpName) (k : ℕ) → k < length ns → (c : OpName) × (slice_get ns k ≡ Some c)
        there [] k less = absurd (omega (arith, less))
        there (m ∷ ns) zero less = (m, refl)
        there (m ∷ ns) (suc k) less = there ns k (omega (arith, less))

    module _ (g : Entry → ℕ) (h : Priced g) where
      abbrev vs : List ℕ
      vs = numbers (map (flag g) es)

      abbrev V : List ℕ
      V = spread (length es) (map (λ e. inner_places place Live e.work) es) vs

      abbrev number : Thread × ℕ → ℕ
      number u = if nat_lt u.1 level then greatest_of V 0 (called_places place Live u.0.block) else 0

      number-picked : (u : Thread × ℕ) → thread_cause f ps level ticks u ≡ picked named_ops (number u)
      number-picked u = by (nat_lt u.1 level)
        where
          by : (b : Bool) → (if b then op_cause f ps level ticks u.0.block else None)
              ≡ picked named_ops (if b then greatest_of V 0 (called_places place Live u.0.block) else 0)
          by true =
              op-picked g h u.0.block ∙ ap (picked named_ops) (sym (block-spread vs (numbers-count g) (plain-none g) u.0.block))
          by false = refl

      number-some : (u : Thread × ℕ) → number u ≤ length named_ops
      number-some u = by (nat_lt u.1 level)
        where
          most : (cs : List OpName) (a : ℕ) → a ≤ length es → fold max a (map (along es vs) cs) ≤ length es
          most [] a k = k
          most (c ∷ cs) a k = most cs (max a (along es vs c)) (omega (arith, k, along-some (flag g) es c))

          by : (b : Bool) → (if b then greatest_of V 0 (called_places place Live u.0.block) else 0) ≤ length named_ops
          by true = omega (
            arith,
            block-spread vs (numbers-count g) (plain-none g) u.0.block,
            most (entered ss u.0.block) 0 (omega arith),
            length-map es (λ e. e.name),
          )
          by false = omega arith

      found-from : (us : List (Thread × ℕ)) (at : ℕ)
          → Matches (first_number V level at (map (λ u. (called_places place Live u.0.block, u.1)) us)) (cause_from f ps level ticks at us)
      found-from [] at = refl
      found-from (u ∷ us) at = by (number u) (thread_cause f ps level ticks u) (number-picked u) (number-some u) (found-from us (suc at))
        where
          rest : Option (ℕ × ℕ)
          rest = first_number V level (suc at) (map (λ w. (called_places place Live w.0.block, w.1)) us)

          others : Option Cause
          others = cause_from f ps level ticks (suc at) us

          by : (n : ℕ) (o : Option OpName) → o ≡ picked named_ops n → n ≤ length named_ops → Matches rest others
              → Matches (number_or at n rest) (cause_or at o others)
          by zero o is less more = subst (λ z. Matches rest (cause_or at z others)) (sym is) more
          by (suc n) o is less more =
              let c = picked-there n less in
              (c.0, c.1, ap (λ z. cause_or at z others) (is ∙ c.1))

    pub cause-is : (own ceilings : List ℕ) (live : List (List ℕ)) → ceilings ≡ entry_ceilings f ps
        → own ≡ cause_numbers level ticks ceilings (section_prices es (prices (length es) f.costs place es))
        → live ≡ map (λ t. called_places place Live t.block) f.threads
        → Matches (first_number (spread (length es) (map (λ e. inner_places place Live e.work) es) own) level 0 (zip live ps))
        (cause_by f ps level ticks)
    cause-is own ceilings live r k l =
        let m = prices-made f place places (length es) refl in
        let same : own ≡ numbers (map (flag m.0) es)
        = k ∙ numbers-by m.0 m.1 ceilings (section_prices es (prices (length es) f.costs place es)) r refl in
        let sides : zip live ps ≡ map (λ u. (called_places place Live u.0.block, u.1)) (zip f.threads ps) = ap (λ xs. zip xs ps) l
        ∙ zip-left (λ t. called_places place Live t.block) f.threads ps in
        let first : first_number (spread (length es) (map (λ e. inner_places place Live e.work) es) own) level 0 (zip live ps)
        ≡ first_number (spread (length es) (map (λ e. inner_places place Live e.work) es) (numbers (map (flag m.0) es))) level 0
        (map (λ u. (called_places place Live u.0.block, u.1)) (zip f.threads ps)) =
        ap (λ z. first_number (spread (length es) (map (λ e. inner_places place Live e.work) es) z) level 0 (zip live ps)) same
        ∙ ap (first_number (spread (length es) (map (λ e. inner_places place Live e.work) es) (numbers (map (flag m.0) es))) level 0) sides in
        let apart : (ticks == 0) ≡ false = grind (arith, some) in
        let from : cause_from f ps level ticks 0 (zip f.threads ps) ≡ cause_by f ps level ticks
        = sym (ap (λ b. if b then None else cause_from f ps level ticks 0 (zip f.threads ps)) apart) in
        let P : Option (ℕ × ℕ) → Type 0 = λ z. Matches z (cause_from f ps level ticks 0 (zip f.threads ps)) in
        let Q : Option Cause → Type 0
        = λ z. Matches (first_number (spread (length es) (map (λ e. inner_places place Live e.work) es) own) level 0 (zip live ps)) z in
        subst Q from (subst P (sym first) (found-from m.0 m.1 (zip f.threads ps) 0))

    -- where the code finds no thread, nothing is the cause
    pub none-matches : (x : Option (ℕ × ℕ)) (o : Option Cause) → x ≡ None → Matches x o → None ≡ o
    none-matches x o is m = sym (subst (λ z. Matches z o) is m)

    -- where it finds one, the operation is there
    pub some-matches : (x : Option (ℕ × ℕ)) (o : Option Cause) (at n : ℕ) (names : List OpName) (count : ℕ) → x ≡ Some (at, n) → names ≡ named_ops
        → count ≡ length names → Matches x o
        → option_map (λ c. let y : Cause = record { thread = at; op = c } in y) (slice_get names (count - n)) ≡ o
    some-matches x o at n names count is same long m =
        let found : Matches (Some (at, n)) o = subst (λ z. Matches z o) is m in
        let place : count - n ≡ length named_ops - n = ap (λ k. k - n) (long ∙ ap length same) in
        ap (λ z. option_map (λ c. let y : Cause = record { thread = at; op = c } in y) z)
        (ap (slice_get names) place ∙ ap (λ ns. slice_get ns (length named_ops - n)) same ∙ found.1) ∙ sym found.2
