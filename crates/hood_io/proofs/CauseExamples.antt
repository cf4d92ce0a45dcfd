-- Examples: when a count of faults has risen, and what a shelf, a sink and a whole write may answer. Each that is none breaks one condition
-- alone.
use Rattle.std.specs.Prelude.{◌≡◌, ℕ, zero, suc, ◌≤◌, ◌<◌, List, [], ◌∷◌, length, take, true, false, Option, Some, None, IfSome, Ok, Err, codes, refl}
use Rattle.std.proofs.Common.{lit≤, lit<, arith, ap}
use Rattle.hood_io.specs.Causes.{HasCause, Rose}
use Rattle.hood_io.specs.Shelves.{Told, after_fetch, counted, opened, untold, IsFront, Says}
use Rattle.hood_io.specs.Sinks.{Appends, Takes, Puts, taken_of}
use Rattle.hood_io.specs.declared.shelf.Fetched.TheVariants.{Done, TooLong, Failed, NoMemory}

risen : Rose 3 4
risen = lit≤ tt

risen_by_more : Rose 3 7
risen_by_more = lit≤ tt

not_risen : Rose 3 3 → ⊥
not_risen h = (let e : 4 ≤ 3 = h in omega (arith, e))

at_the_greatest : Rose 18446744073709551615 18446744073709551615
at_the_greatest = lit≤ tt

-- a failure at which no count rose, and a count that fell
failed_without_cause : {T E : Type 0} (e : E) → HasCause {T = T} 3 3 (Err e) → ⊥
failed_without_cause e h = not_risen h.failed

fallen : {T E : Type 0} (t : T) → HasCause {E = E} 3 2 (Ok t) → ⊥
fallen t h = (let e : 3 ≤ 2 = h.later in omega (arith, e))

-- a shelf on which each file has two bytes
abbrev shelf : Option Told
shelf = Some (record { files = λ name. Some (codes "ab"); log = [] })

read : Says Done shelf (codes "f") 2 (codes "ab") 0 0
read = (lit≤ tt, refl)

-- the file isn't what was read, and the file is over the limit
read_in_part : Says Done shelf (codes "f") 2 (codes "a") 0 0 → ⊥
read_in_part h = (let e : ◌≡◌ {A = Option (List ℕ)} (Some (codes "ab")) (Some (codes "a")) = h.1 in cc)

read_over_the_limit : Says Done shelf (codes "f") 1 (codes "ab") 0 0 → ⊥
read_over_the_limit h = (let e : 2 ≤ 1 = h.0 in omega (arith, e))

too_long : Says TooLong shelf (codes "f") 1 (codes "ab") 0 0
too_long = (lit< tt, (codes "ab", refl, lit< tt))

-- the file is over the limit by nothing, and no more was read than the limit
not_too_long : Says TooLong shelf (codes "f") 2 (codes "abc") 0 0 → ⊥
not_too_long (more, (file, same, long)) = by file same long
  where
    by : (file : List ℕ) → ◌≡◌ {A = Option (List ℕ)} (Some (codes "ab")) (Some file) → 2 < length file → ⊥
    by file same long = (let e : codes "ab" ≡ file = cc in omega (arith, long, ap length e))

too_long_unread : Says TooLong shelf (codes "f") 1 (codes "a") 0 0 → ⊥
too_long_unread h = (let e : 1 < 1 = h.0 in omega (arith, e))

without_cause : Says Failed shelf (codes "f") 2 [] 3 3 → ⊥
without_cause = not_risen

-- each fetch but one that wanted memory is logged, and a failed one as failed
done_logged : after_fetch shelf Done (codes "f")
    ≡ Some (record { files = λ name. Some (codes "ab"); log = record { name = codes "f"; failed = false } ∷ [] })
done_logged = refl

too_long_logged : after_fetch shelf TooLong (codes "f") ≡ after_fetch shelf Done (codes "f")
too_long_logged = refl

failed_logged : after_fetch shelf Failed (codes "f")
    ≡ Some (record { files = λ name. Some (codes "ab"); log = record { name = codes "f"; failed = true } ∷ [] })
failed_logged = refl

no_memory_not_logged : after_fetch shelf NoMemory (codes "f") ≡ shelf
no_memory_not_logged = refl

untold_stays : after_fetch untold Done (codes "f") ≡ untold
untold_stays = refl

-- only a failure raises the count
counts : ((counted Done 3 ≡ 3) × (counted TooLong 3 ≡ 3)) × ((counted Failed 3 ≡ 4) × (counted NoMemory 3 ≡ 3))
counts = ((refl, refl), (refl, refl))

-- fronts of a file, and bytes that are none, also where there is no file
front : IsFront (codes "a") (Some (codes "ab"))
front = refl

no_front : IsFront (1 ∷ []) (Some (0 ∷ 1 ∷ [])) → ⊥
no_front h = (let e : ◌≡◌ {A = List ℕ} (1 ∷ []) (0 ∷ []) = h in cc)

front_of_nothing : IsFront (codes "a") None → ⊥
front_of_nothing h = cc

-- a file that was opened is there by each name, one that was not by none, and one that doesn't tell its bytes leaves nothing told
opened_file : opened {E = Unit {0}} Some (Ok (codes "ab")) ≡ shelf
opened_file = refl

not_opened : IfSome (opened {E = Unit {0}} Some (Err tt)) (λ t. t.files (codes "f") ≡ Some []) → ⊥
not_opened h = (let e : ◌≡◌ {A = Option (List ℕ)} None (Some []) = h in cc)

opened_untold : opened {S = Unit {0}} {E = Unit {0}} (λ file. None) (Ok tt) ≡ untold
opened_untold = refl

-- bytes go to the end, and where nothing is told nothing is afterwards
appended : Appends (Some (codes "a")) (Some (codes "ab")) (codes "b")
appended = refl

put_in_front : Appends (Some (0 ∷ [])) (Some (1 ∷ 0 ∷ [])) (1 ∷ []) → ⊥
put_in_front h = (let e : ◌≡◌ {A = Option (List ℕ)} (Some (1 ∷ 0 ∷ [])) (Some (0 ∷ 1 ∷ [])) = h in cc)

told_at_last : Appends None (Some []) [] → ⊥
told_at_last h = cc

-- a write takes the front of a piece, and a failed one nothing
taken : {E : Type 0} (e : E) → (taken_of {E = E} (codes "ab") (Ok 1) ≡ codes "a") × (taken_of (codes "ab") (Err e) ≡ [])
taken e = (refl, refl)

-- a write that takes nothing of a piece, one that takes more than there is, and one that fails of nothing
takes_nothing : (E : Type 0) → Takes {E = E} (codes "ab") (Ok 0) → ⊥
takes_nothing E h = (let e : 0 < 0 = h.1 (lit< tt) in omega (arith, e))

takes_more : (E : Type 0) → Takes {E = E} (codes "ab") (Ok 3) → ⊥
takes_more E h = (let e : 3 ≤ 2 = h.0 in omega (arith, e))

fails_of_nothing : {E : Type 0} (e : E) → Takes [] (Err e) → ⊥
fails_of_nothing e h = omega (arith, h)

-- all was written, and yet it failed
all_and_failed : {E : Type 0} (e : E) → Puts (Some []) (Some (codes "ab")) (codes "ab") (Err e) → ⊥
all_and_failed e (n, less, same) = none n less same
  where
    none : (n : ℕ) → n < 2 → Appends (Some []) (Some (codes "ab")) (take n (codes "ab")) → ⊥
    none zero less same = cc
    none (suc zero) less same = cc
    none (suc (suc n)) less same = omega (arith, less)

-- a part was written, and yet it didn't fail
part_and_done : (E : Type 0) → Puts {E = E} (Some []) (Some (codes "a")) (codes "ab") (Ok tt) → ⊥
part_and_done E h = (let e : ◌≡◌ {A = Option (List ℕ)} (Some (codes "a")) (Some (codes "ab")) = h in cc)
