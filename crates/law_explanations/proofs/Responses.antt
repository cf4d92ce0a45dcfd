-- That each chain that is reported of a design takes at most the response time that is printed of it.
use Rattle.std.proofs.Common.{◌≡◌, ℕ, zero, suc, ◌+◌, List, [], ◌∷◌, ◌++◌, length, map, zip, fold, Option, Some, None}
use Rattle.std.proofs.Common.{refl, sym, ap, subst, ◌∙◌, arith}
use Rattle.std.specs.Prelude.{filter_map, max, option_and_then, option_map, reverse, slice_get}
use Rattle.std.specs.List.{cons_option, enumerate_from}
use Rattle.std.proofs.lemmas.List.{length-map, map-append, reverse-append}
use Rattle.std.proofs.lemmas.Option.{none-some, same_Some}
use Rattle.seq_tree.specs.Names.{Name}
use Rattle.ods_tree.specs.Flats.{Flat, Thread}
use Rattle.ods_tree.specs.Flattening.{flat}
use Rattle.ods_tree.specs.Ticks.{in_ticks}
use Rattle.rt_response.specs.declared.rows.ThreadRow.{ThreadRow}
use Rattle.rt_response.specs.declared.rows.Bound.{Bound}
use Rattle.response_terms.specs.Paths.{chain_up}
use Rattle.response_terms.specs.Paths as paths
use Rattle.analysis.specs.Ceilings.{numbered}
use Rattle.analysis.specs.Tables.{downwards, table}
use Rattle.guarantee.specs.Bounded.{Response}
use Rattle.guarantee.specs.Events.{named}
use Rattle.guarantee.specs.Programs.{program, responses}
use Rattle.law_lists.proofs.Shared.Places.{mapped-at}
use Rattle.law_chains.specs.Chains.{ChainResponds}
use Rattle.law_chain_bounds.specs.Printed.{OfChain, PrintedChainsKeepToLevels, chain_of, lowest_response, lowest_row}
use Rattle.design_bounds.proofs.Shared.TablePlaces.{rows-long}
use Rattle.late_response.specs.declared.reach.Reach.{Reach}
use Rattle.late_response.specs.declared.reach.Reach.TheVariants.{Solved}
use Rattle.explanation.specs.declared.reasons.Reasons.{Reasons}
use Rattle.explanation.specs.Chains.{chain_response, lowest_place, response_in}
use Rattle.explanation.specs.Findings.{solved_of}
use Rattle.explanation.specs.Threads.{blocker_of, causes, reasons_of}
use Rattle.explanation.specs.Values.{value_at}
use Rattle.law_explanations.specs.Responding.{ExplainedChainsRespond, OfNames, names_along}
use Rattle.law_explanations.proofs.Placed.{found-long, told-reaches, zip-long}

-- the lowest place is that of the lowest row
lowest-from : (a : ℕ) (chain : List ℕ) → fold (λ lowest place. max lowest place) a chain ≡ max a (lowest_row chain)
lowest-from a [] = omega arith
lowest-from a (place ∷ more) =
    let rest = lowest-from (max a place) more in
    let apart : max (max a place) (lowest_row more) ≡ max a (max place (lowest_row more)) = omega arith in
    rest ∙ apart

lowest-same : (chain : List ℕ) → lowest_place chain ≡ lowest_row chain
lowest-same chain = let z : max 0 (lowest_row chain) ≡ lowest_row chain = omega arith in lowest-from 0 chain ∙ z

-- what is reported of a place is its bound
response-same : (ts : List Reasons) (v : List Bound) (place : ℕ) → map (λ t. t.reach) ts ≡ map solved_of v
    → response_in (value_at ts place) ≡ paths.response_in (slice_get v place)
response-same [] [] place h = refl
response-same [] (b ∷ v) place h = cc
response-same (t ∷ ts) [] place h = cc
response-same (t ∷ ts) (b ∷ v) zero h = let e : t.reach ≡ Solved b.jitter b.response = cc in rw e refl
response-same (t ∷ ts) (b ∷ v) (suc place) h = response-same ts v place cc

map-reverse : {A B : Type 0} (g : A → B) (xs : List A) → map g (reverse xs) ≡ reverse (map g xs)
map-reverse g [] = refl
map-reverse g (x ∷ xs) =
    ap (map g) (reverse-append (x ∷ []) xs) ∙ map-append g (reverse xs) (x ∷ []) ∙ ap (λ l. l ++ g x ∷ []) (map-reverse g xs)
    ∙ sym (reverse-append (g x ∷ []) (map g xs))

-- what is made of items that are there
get-map : {A B : Type 0} (g : A → B) (xs : List A) (k : ℕ) → slice_get (map g xs) k ≡ option_map g (slice_get xs k)
get-map g [] k = refl
get-map g (x ∷ xs) zero = refl
get-map g (x ∷ xs) (suc k) = get-map g xs k

map-found : {A B C : Type 0} (g : B → C) (h : A → Option B) (k : A → Option C) → ((a : A) → option_map g (h a) ≡ k a) → (xs : List A)
    → map g (filter_map h xs) ≡ filter_map k xs
map-found g h k same [] = refl
map-found {A} {B} {C} g h k same (x ∷ xs) = by (h x) (map-found g h k same xs) ∙ ap (λ o. cons_option o (filter_map k xs)) (same x)
  where
    by : (o : Option B) → map g (filter_map h xs) ≡ filter_map k xs
        → map g (cons_option o (filter_map h xs)) ≡ cons_option (option_map g o) (filter_map k xs)
    by None rest = rest
    by (Some b) rest = ap (λ l. g b ∷ l) rest

-- the names of threads by their places
module _ (f : Flat) where
  abbrev name_there : ℕ → Option Name
  name_there place = option_map (λ (t : Thread). t.name) (slice_get f.threads place)

  named-in : {Y R : Type 0} (make : ℕ × Y → Thread → R) (name : R → Name) → ((k : ℕ × Y) (t : Thread) → name (make k t) ≡ t.name) → (ks : List (ℕ × Y))
      → map name (filter_map (λ k. option_map (make k) (slice_get f.threads k.0)) ks) ≡ filter_map name_there (map (λ (k : ℕ × Y). k.0) ks)
  named-in make name same [] = refl
  named-in {Y} {R} make name same (k ∷ ks) = by (slice_get f.threads k.0) (named-in make name same ks)
    where
      by : (o : Option Thread)
          → map name (filter_map (λ k. option_map (make k) (slice_get f.threads k.0)) ks) ≡ filter_map name_there (map (λ (k : ℕ × Y). k.0) ks)
          → map name (cons_option (option_map (make k) o) (filter_map (λ k. option_map (make k) (slice_get f.threads k.0)) ks))
          ≡ cons_option (option_map (λ (t : Thread). t.name) o) (filter_map name_there (map (λ (k : ℕ × Y). k.0) ks))
      by None rest = rest
      by (Some t) rest =
          ap (λ n. n ∷ map name (filter_map (λ k. option_map (make k) (slice_get f.threads k.0)) ks)) (same k t) ∙ ap (λ l. t.name ∷ l) rest

zip-firsts : {A B : Type 0} (xs : List A) (ys : List B) → length ys ≡ length xs → map (λ (z : A × B). z.0) (zip xs ys) ≡ xs
zip-firsts [] ys h = refl
zip-firsts (x ∷ xs) [] h = absurd (omega (arith, h))
zip-firsts (x ∷ xs) (y ∷ ys) h = ap (λ l. x ∷ l) (zip-firsts xs ys (omega (arith, h)))

module _ (first : ℕ) (f : Flat) (found : List Reach) (v : List Bound) (long : length v ≡ length (table f).rows) (is : found ≡ map solved_of v) where
  abbrev ts : List Reasons
  ts = reasons_of first f found

  as-long : length found ≡ length (table f).rows
  as-long = ap length is ∙ length-map v solved_of ∙ long

  told-names : map (λ (t : Reasons). t.name) ts ≡ filter_map (name_there f) (table f).places
  told-names =
      let rest = zip (table f).rows (zip found (zip (causes f) (numbered first (downwards (length f.threads))))) in
      let rest_long = zip-long (table f).rows (zip found (zip (causes f) (numbered first (downwards (length f.threads)))))
      (sym (found-long first f found as-long)) in
      named-in f (λ k u. let t : Reasons = record {
        name = u.name;
        priority = k.1.1.1.1;
        row = k.1.0;
        reach = k.1.1.0;
        blocker = option_and_then (blocker_of f) k.1.1.1.0;
      } in t) (λ t. t.name) (λ k u. refl) (zip (table f).places rest)
      ∙ ap (filter_map (name_there f)) (zip-firsts (table f).places rest (rest_long ∙ rows-long f))

  response-names : map (λ (q : Response). q.thread) (responses f v) ≡ filter_map (name_there f) (table f).places
  response-names =
      named-in f (λ (c : ℕ × Bound) (u : Thread). let q : Response = record { thread = u.name; ticks = c.1.response } in q) (λ q. q.thread) (λ c u. refl)
      (zip (table f).places v)
      ∙ ap (filter_map (name_there f)) (zip-firsts (table f).places v (long ∙ rows-long f))

  -- the names of a chain
  along-same : (chain : List ℕ) → map (λ (q : Response). q.thread) (chain_of (responses f v) chain) ≡ names_along ts chain
  along-same chain =
      map-reverse (λ (q : Response). q.thread) (filter_map (λ at. slice_get (responses f v) at) chain)
      ∙ ap reverse (map-found (λ (q : Response). q.thread) (λ at. slice_get (responses f v) at)
      (λ at. option_map (λ (t : Reasons). t.name) (slice_get ts at)) (λ at. sym (get-map (λ (q : Response). q.thread) (responses f v) at)
      ∙ ap (λ l. slice_get l at) (response-names ∙ sym told-names) ∙ get-map (λ (t : Reasons). t.name) ts at) chain)

  ticks-same : (chain : List ℕ) → lowest_response v chain ≡ chain_response ts chain
  ticks-same chain =
      ap (λ p. paths.response_in (slice_get v p)) (sym (lowest-same chain))
      ∙ sym (response-same ts v (lowest_place chain) (told-reaches first f found as-long ∙ is))

of-names : (P : Name → List Name → Type 0) (qs : List Response) → OfChain P qs → OfNames P (map (λ (q : Response). q.thread) qs)
of-names P [] h = h
of-names P (q ∷ qs) h = h

-- an item that is counted has its place as its number
counted-at : {A : Type 0} (n : ℕ) (xs : List A) (k : ℕ) (z : ℕ × A) → slice_get (enumerate_from n xs) k ≡ Some z → (z.0 ≡ n + k) × (slice_get xs k ≡ Some z.1)
counted-at {A} n [] k z e = absurd (none-some z e)
counted-at {A} n (x ∷ xs) zero z e =
    let p : ℕ × A = (n, x) in
    let same : p ≡ z = same_Some p z e in
    let here : n ≡ n + 0 = omega arith in
    (ap (λ (w : ℕ × A). w.0) (sym same) ∙ here, ap (λ (w : ℕ × A). Some w.1) same)
counted-at n (x ∷ xs) (suc k) z e =
    let rest = counted-at (n + 1) xs k z e in
    let there : n + 1 + k ≡ n + suc k = omega arith in
    (rest.0 ∙ there, rest.1)

pub explained-chains-respond : (limit : ℕ) → PrintedChainsKeepToLevels limit → ExplainedChainsRespond limit
explained-chains-respond limit law first x found r told at chain proper meets is_found accepted means stands =
    let f = flat (in_ticks x) in
    let v = is_found.0 in
    let long = is_found.1.fits.0.0 in
    let ts = reasons_of first f found in
    let one = mapped-at (λ (z : ℕ × ThreadRow). chain_up (table f).rows z.0) (enumerate_from 0 (table f).rows) at chain stands in
    let here = counted-at 0 (table f).rows at one.0 one.1 in
    let up : chain_up (table f).rows at ≡ chain = (let z : one.0.0 ≡ at = omega (arith, here.0) in ap (chain_up (table f).rows) (sym z) ∙ one.2) in
    let printed = law x v r told at one.0.1 proper meets is_found.1.fits accepted means here.1 in
    let Responds : ℕ → Name → List Name → Type 0 = ChainResponds r.until (named (program (in_ticks x)) told) in
    let by_chain : OfChain (Responds (lowest_response v chain)) (chain_of (responses f v) chain)
    = subst (λ c. OfChain (Responds (lowest_response v c)) (chain_of (responses f v) c)) up printed in
    subst (λ ns. OfNames (Responds (chain_response ts chain)) ns) (along-same first f found v long is_found.2 chain)
    (of-names (Responds (chain_response ts chain)) (chain_of (responses f v) chain)
    (subst (λ n. OfChain (Responds n) (chain_of (responses f v) chain)) (ticks-same first f found v long is_found.2 chain) by_chain))
