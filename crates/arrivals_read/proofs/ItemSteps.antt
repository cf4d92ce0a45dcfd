-- Checking items, one at a time.
use Rattle.std.proofs.Common.{◌≡◌, ℕ, suc, ◌+◌, ◌*◌, ◌<◌, List, [], ◌∷◌, ◌++◌, length, map, drop, get_or, Some, None, refl, sym, ap, ◌∙◌, arith}
use Rattle.std.proofs.Common.{length-append}
use Rattle.std.proofs.Math.Seq.{drop-cons}
use Rattle.seq_tree.specs.declared.token.Token.TheVariants.{Sign}
use Rattle.seq_tree.specs.declared.token.Mark.TheVariants.{Semicolon}
use Rattle.ada_tree.specs.Programs.{Program}
use Rattle.arrivals_tree.specs.declared.arrivals.Arrival.{Arrival}
use Rattle.arrivals_tree.specs.Acceptance.{ArrivalFault, item_fault}
use Rattle.arrivals_tree.specs.ArrivalTexts.{WorkText, AtText, other_tokens, work_tokens, request_tokens, work_of, request_of}
use Rattle.arrivals_tree.specs.FirstWrong.{work_fault, wrong_work, wrong_request}

other_length : (ns : List ℕ) → length (other_tokens ns) ≡ 2 * length ns
other_length [] = refl
other_length (n ∷ ns) = omega (arith, other_length ns)

pub work-length : (w : WorkText) → length (work_tokens w) ≡ 4 + 2 * length w.others
work-length w = omega (arith, length-append (other_tokens w.others) (Sign Semicolon ∷ []), other_length w.others)

-- what is left of a list, by its next item
pub item-next : {X B : Type 0} (view : X → B) (xs : List X) (i : ℕ) (x : X) → i < length xs → x ≡ get_or xs i x
    → map view (drop i xs) ≡ view x ∷ map view (drop (i + 1) xs)
item-next view xs i x h e =
    let one_on : suc i ≡ i + 1 = omega arith in
    ap (map view) (drop-cons xs i x h ∙ ap (λ y. y ∷ drop (suc i) xs) (sym e)) ∙ ap (λ k. view x ∷ map view (drop k xs)) one_on

-- DURATIONS
pub work-wrong : (p : Program) (w : WorkText) (ws : List WorkText) (before : ℕ) (fault : ArrivalFault) → work_fault p (work_of p w) ≡ Some fault →
    wrong_work p before (w ∷ ws) ≡ Some (record { fault = fault; name = w.name; before = before })
work-wrong p w ws before fault e = rw e refl

pub work-right : (p : Program) (w : WorkText) (ws : List WorkText) (before : ℕ) → work_fault p (work_of p w) ≡ None →
    wrong_work p before (w ∷ ws) ≡ wrong_work p (before + length (work_tokens w)) ws
work-right p w ws before e = rw e refl

-- REQUESTS
pub request-wrong : (p : Program) (earlier : List Arrival) (r : AtText) (rs : List AtText) (before : ℕ) (fault : ArrivalFault)
    → item_fault p earlier (request_of p r) ≡ Some fault →
    wrong_request p earlier before (r ∷ rs) ≡ Some (record { fault = fault; name = r.name; before = before })
request-wrong p earlier r rs before fault e = rw e refl

pub request-right : (p : Program) (earlier : List Arrival) (r : AtText) (rs : List AtText) (before : ℕ)
    → item_fault p earlier (request_of p r) ≡ None →
    wrong_request p earlier before (r ∷ rs) ≡ wrong_request p (earlier ++ request_of p r ∷ []) (before + length (request_tokens r)) rs
request-right p earlier r rs before e = rw e refl
