-- Reading lists, one item at a time.
use Rattle.std.proofs.Common.{◌≡◌, ℕ, ◌<◌, true, false, List, [], ◌∷◌, ◌++◌, length, Ok, Err, codes, refl, arith}
use Rattle.grammar.specs.Reading.{Halt, Syntax, first}
use Rattle.seq_read.proofs.Shared.Takes.{Takes, takes-read}
use Rattle.seq_read.proofs.Shared.Turns.{with_front, front-none, front-turn, front-fails, front-ends, turn-shorter}
use Rattle.seq_tree.specs.declared.token.Token.{Token}
use Rattle.seq_tree.specs.declared.token.Token.TheVariants.{Word, Sign}
use Rattle.seq_tree.specs.declared.token.Mark.TheVariants.{Comma}
use Rattle.token_read.specs.Readers.{next_is}
use Rattle.arrivals_tree.specs.ArrivalTexts.{WorkText, AtText}
use Rattle.arrivals_read.specs.Readers.{other_at, others_at, work_at, works_at, request_at, requests_at, end_at}
use Rattle.arrivals_read.proofs.ReaderLaws.{reads-other, reads-work, reads-request}

-- FURTHER DURATIONS
takes-other : Takes 1 other_at
takes-other = takes-read reads-other (λ n text g. rw g (omega arith))

pub other-shorter : (ts : List Token) (n : ℕ) (rest : List Token) → other_at ts ≡ Ok (n, rest) → length rest < length ts
other-shorter ts n rest e = turn-shorter other_at ts rest n takes-other e

pub other-turn : (front : List ℕ) (ts : List Token) (n : ℕ) (rest : List Token) → next_is (Sign Comma) (first ts) ≡ true → other_at ts ≡ Ok (n, rest)
    → with_front (front ++ n ∷ []) (others_at rest) ≡ with_front front (others_at ts)
unfolding others_at
other-turn = front-turn (next_is (Sign Comma)) other_at takes-other

pub other-fails : (front : List ℕ) (ts : List Token) (halt : Halt) → next_is (Sign Comma) (first ts) ≡ true → other_at ts ≡ Err halt
    → with_front front (others_at ts) ≡ Err halt
unfolding others_at
other-fails = front-fails (next_is (Sign Comma)) other_at

pub other-ends : (front : List ℕ) (ts : List Token) → next_is (Sign Comma) (first ts) ≡ false → with_front front (others_at ts) ≡ Ok (front, ts)
unfolding others_at
other-ends = front-ends (next_is (Sign Comma)) other_at

-- DURATIONS
takes-work : Takes 1 work_at
takes-work = takes-read reads-work (λ w text g. rw g (omega arith))

pub work-shorter : (ts : List Token) (w : WorkText) (rest : List Token) → work_at ts ≡ Ok (w, rest) → length rest < length ts
work-shorter ts w rest e = turn-shorter work_at ts rest w takes-work e

pub work-turn : (front : List WorkText) (ts : List Token) (w : WorkText) (rest : List Token) → next_is (Word (codes "work")) (first ts) ≡ true
    → work_at ts ≡ Ok (w, rest)
    → with_front (front ++ w ∷ []) (works_at rest) ≡ with_front front (works_at ts)
unfolding works_at
work-turn = front-turn (next_is (Word (codes "work"))) work_at takes-work

pub work-fails : (front : List WorkText) (ts : List Token) (halt : Halt) → next_is (Word (codes "work")) (first ts) ≡ true → work_at ts ≡ Err halt
    → with_front front (works_at ts) ≡ Err halt
unfolding works_at
work-fails = front-fails (next_is (Word (codes "work"))) work_at

pub work-ends : (front : List WorkText) (ts : List Token) → next_is (Word (codes "work")) (first ts) ≡ false
    → with_front front (works_at ts) ≡ Ok (front, ts)
unfolding works_at
work-ends = front-ends (next_is (Word (codes "work"))) work_at

-- REQUESTS
takes-request : Takes 1 request_at
takes-request = takes-read reads-request (λ r text g. rw g (omega arith))

pub request-shorter : (ts : List Token) (r : AtText) (rest : List Token) → request_at ts ≡ Ok (r, rest) → length rest < length ts
request-shorter ts r rest e = turn-shorter request_at ts rest r takes-request e

pub request-turn : (front : List AtText) (ts : List Token) (r : AtText) (rest : List Token) → next_is (Word (codes "at")) (first ts) ≡ true
    → request_at ts ≡ Ok (r, rest)
    → with_front (front ++ r ∷ []) (requests_at rest) ≡ with_front front (requests_at ts)
unfolding requests_at
request-turn = front-turn (next_is (Word (codes "at"))) request_at takes-request

pub request-fails : (front : List AtText) (ts : List Token) (halt : Halt) → next_is (Word (codes "at")) (first ts) ≡ true → request_at ts ≡ Err halt
    → with_front front (requests_at ts) ≡ Err halt
unfolding requests_at
request-fails = front-fails (next_is (Word (codes "at"))) request_at

pub request-ends : (front : List AtText) (ts : List Token) → next_is (Word (codes "at")) (first ts) ≡ false
    → with_front front (requests_at ts) ≡ Ok (front, ts)
unfolding requests_at
request-ends = front-ends (next_is (Word (codes "at"))) request_at

-- THE END OF THE TEXT
pub end-empty : (ts : List Token) → length ts ≡ 0 → end_at ts ≡ Ok (tt, [])
unfolding end_at
end-empty [] h = refl
end-empty (t ∷ ts) h = absurd (omega arith)

pub end-more : (ts : List Token) → 0 < length ts → end_at ts ≡ Err (Syntax (length ts))
unfolding end_at
end-more [] h = absurd (omega arith)
end-more (t ∷ ts) h = refl

pub ruleset other_steps = (front-none, other-shorter, other-turn, other-fails, other-ends)

pub ruleset work_steps = (front-none, work-shorter, work-turn, work-fails, work-ends)

pub ruleset request_steps = (front-none, request-shorter, request-turn, request-fails, request-ends)

pub ruleset end_steps = (end-empty, end-more)
