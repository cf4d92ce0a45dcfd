-- Examples: what each reader of arrivals takes, where it stops, and what is told of a text.
use Rattle.std.specs.Prelude.{◌≡◌, ℕ, true, List, [], ◌∷◌, map, Some, None, Ok, Err, codes}
use Rattle.std.proofs.Common.{refl, arith}
use Prim.Native.String.{String}
use Rattle.grammar.specs.Reading.{Syntax, whole_at}
use Rattle.seq_tree.specs.Statements.{End}
use Rattle.seq_tree.specs.declared.token.Token.{Token}
use Rattle.seq_tree.specs.declared.token.Token.TheVariants.{Word, Number, Sign}
use Rattle.seq_tree.specs.declared.token.Mark.TheVariants.{Comma, Semicolon}
use Rattle.seq_tree.specs.declared.token.Spanned.{Spanned}
use Rattle.seq_tree.specs.declared.tree.Mode.TheVariants.{In}
use Rattle.seq_tree.specs.Lexis.{tokens, tokens_after, front_by, start_of, longest, name_front, number_front}
use Rattle.seq_tree.specs.Marks.{mark_of}
use Rattle.token_read.specs.Readers.{fixed_at, number_at, word_at}
use Rattle.ada_tree.specs.Programs.{Program, Sporadic}
use Rattle.arrivals_tree.specs.Acceptance.{Early}
use Rattle.arrivals_tree.specs.Arrived.{Arrives, horizon_limit}
use Rattle.arrivals_tree.specs.ArrivalTexts.{ArrivalText, arrival_tokens}
use Rattle.arrivals_read.specs.Readers.{other_at, others_at, work_at, works_at, some_at, none_at, value_at, request_at, requests_at, until_at}
use Rattle.arrivals_read.specs.Readers.{end_at, arrivals_at}
use Rattle.arrivals_read.specs.Answers.{AnyArrivals, IsText, IsWrong}
use Rattle.std.specs.Prelude.{Option, false}
use Rattle.seq_tree.specs.Operations.{Signature}
use Rattle.seq_tree.specs.declared.text_fault.TextFault.TheVariants as fault
use Rattle.ada_tree.specs.Programs.{Passive, Cyclic}
use Rattle.arrivals_tree.specs.declared.arrivals.Arrival.{Arrival}
use Rattle.arrivals_tree.specs.Acceptance.{Unknown, Unfit, Far, first_fault}
use Rattle.arrivals_tree.specs.ArrivalTexts.{said}
use Rattle.arrivals_read.specs.declared.checks.Cause.TheVariants as cause
use Rattle.arrivals_read.specs.declared.fault.ArrivalFault.TheVariants as told
use Rattle.arrivals_read.specs.Answers.{Faults, IsFar, Refuses}
use Rattle.arrivals_read.specs.Checked.{moved, moved_by}
use Rattle.arrivals_read.specs.Found.{Tells}
use Rattle.arrivals_read.specs.Tables.{first_place}
use Rattle.arrivals_read.proofs.Reaching.{arrivals-faulty}
use Rattle.arrivals_read.proofs.Shared.Refusals.{one-refusal, refused-nothing}

abbrev w : String → Token
w s = Word (codes s)

abbrev n : ℕ → Token
n k = Number k

abbrev comma : Token
comma = Sign Comma

abbrev semicolon : Token
semicolon = Sign Semicolon

-- READERS: what each takes, and where it stops
other_taken : other_at (comma ∷ n 2 ∷ semicolon ∷ []) ≡ Ok (2, semicolon ∷ [])
unfolding other_at fixed_at number_at
other_taken = refl

other_stuck : other_at (comma ∷ semicolon ∷ []) ≡ Err (Syntax 1)
unfolding other_at fixed_at number_at
other_stuck = refl

work_taken : work_at (w "work" ∷ w "at" ∷ n 1 ∷ comma ∷ n 2 ∷ semicolon ∷ []) ≡ Ok (record { name = codes "at"; first = 1; others = 2 ∷ [] }, [])
unfolding work_at others_at other_at fixed_at number_at word_at
work_taken = refl

work_stuck : work_at (w "work" ∷ w "a" ∷ semicolon ∷ []) ≡ Err (Syntax 1)
unfolding work_at others_at other_at fixed_at number_at word_at
work_stuck = refl

works_taken : works_at (w "work" ∷ w "a" ∷ n 1 ∷ semicolon ∷ w "at" ∷ []) ≡ Ok (record { name = codes "a"; first = 1; others = [] } ∷ [], w "at" ∷ [])
unfolding works_at work_at others_at other_at fixed_at number_at word_at
works_taken = refl

value_taken : value_at (n 7 ∷ semicolon ∷ []) ≡ Ok (Some 7, [])
unfolding value_at some_at none_at fixed_at number_at
value_taken = refl

value_none : value_at (semicolon ∷ []) ≡ Ok (None, [])
unfolding value_at some_at none_at fixed_at number_at
value_none = refl

value_stuck : value_at (n 7 ∷ n 7 ∷ []) ≡ Err (Syntax 1)
unfolding value_at some_at none_at fixed_at number_at
value_stuck = refl

request_taken : request_at (w "at" ∷ n 5 ∷ w "at" ∷ n 7 ∷ semicolon ∷ []) ≡ Ok (record { time = 5; name = codes "at"; value = Some 7 }, [])
unfolding request_at value_at some_at none_at fixed_at number_at word_at
request_taken = refl

request_stuck : request_at (w "at" ∷ w "s" ∷ n 5 ∷ semicolon ∷ []) ≡ Err (Syntax 3)
unfolding request_at value_at some_at none_at fixed_at number_at word_at
request_stuck = refl

until_taken : until_at (w "until" ∷ n 9 ∷ semicolon ∷ []) ≡ Ok (9, [])
unfolding until_at fixed_at number_at
until_taken = refl

end_taken : end_at [] ≡ Ok (tt, [])
unfolding end_at
end_taken = refl

end_stuck : end_at (semicolon ∷ []) ≡ Err (Syntax 1)
unfolding end_at
end_stuck = refl

abbrev small : ArrivalText
small = record {
  until = 9;
  works = record { name = codes "a"; first = 1; others = [] } ∷ [];
  requests = record { time = 5; name = codes "s"; value = None } ∷ [];
}

whole_taken : whole_at arrivals_at (arrival_tokens small) ≡ Ok small
unfolding arrivals_at until_at works_at work_at others_at other_at requests_at request_at value_at some_at none_at end_at fixed_at number_at word_at
whole_taken = refl

-- durations behind a request
whole_stuck : whole_at arrivals_at (w "until" ∷ n 9 ∷ semicolon ∷ w "at" ∷ n 5 ∷ w "s" ∷ semicolon ∷ w "work" ∷ w "a" ∷ n 1 ∷ semicolon ∷ [])
    ≡ Err (Syntax 4)
unfolding arrivals_at until_at works_at work_at others_at other_at requests_at request_at value_at some_at none_at end_at fixed_at number_at word_at
whole_stuck = refl

-- no text at all stops at its end
nothing_stuck : whole_at arrivals_at [] ≡ Err (Syntax 0)
unfolding arrivals_at until_at fixed_at
nothing_stuck = refl

any : AnyArrivals (arrival_tokens small)
any = (small, refl)

none : AnyArrivals [] → ⊥
none x = let h = x.1 in cc

-- WHAT IS TOLD
-- a thread that is requested from outside
abbrev program : ℕ → Program
program jitter = record {
  name = codes "d";
  costs = record { assign = 1; test = 1; turn = 1; call = 2; nothing = 1; put = 1; finish = 1 };
  units = record {
    name = codes "s";
    form = Sporadic 1 1 (record { name = codes "start"; params = record { name = codes "v"; mode = In } ∷ [] }) 500 jitter true [] End;
  } ∷ [];
}

abbrev requests : List ℕ → ArrivalText
requests times = record { until = 600; works = []; requests = map (λ time. record { time = time; name = codes "s"; value = Some 1 }) times }

-- each item in a line of its own
abbrev early_bytes : List ℕ
early_bytes = codes "UNTIL 600;\nAT 0 s 1;\nAT 499 s 1;"

abbrev place : Token → ℕ → ℕ → Spanned
place token line column = record { token = token; place = record { line = line; column = column } }

abbrev early_found : List Spanned
early_found =
    place (w "until") 1 1 ∷ place (n 600) 1 7 ∷ place semicolon 1 10
    ∷ place (w "at") 2 1 ∷ place (n 0) 2 4 ∷ place (w "s") 2 6 ∷ place (n 1) 2 8 ∷ place semicolon 2 9
    ∷ place (w "at") 3 1 ∷ place (n 499) 3 4 ∷ place (w "s") 3 8 ∷ place (n 1) 3 10 ∷ place semicolon 3 11 ∷ []

early_tokens : tokens early_bytes ≡ Ok early_found
unfolding tokens tokens_after front_by start_of longest name_front number_front mark_of
early_tokens = refl

early_text : IsText early_bytes early_found (requests (0 ∷ 499 ∷ []))
early_text = record { within = omega arith; read = early_tokens; spelled = refl }

-- the second request breaks the separation, in the third line
early_told : IsWrong early_bytes (program 0) Early 3 (codes "s")
early_told = record {
  found = early_found;
  tree = requests (0 ∷ 499 ∷ []);
  text = early_text;
  near = omega arith;
  before = 8;
  wrong = refl;
  token = place (w "at") 3 1;
  begins = refl;
  here = refl;
}

-- with a jitter it doesn't
jitter_arrives : Arrives horizon_limit early_bytes (program 5) (record {
  until = 600;
  work = [];
  items = record { time = 0; task = 0; value = Some 1 } ∷ record { time = 499; task = 0; value = Some 1 } ∷ [];
})
jitter_arrives = record { within = omega arith; tree = requests (0 ∷ 499 ∷ []); spelled = rw early_tokens refl; says = refl; accepted = refl }

-- neither another line is told, nor anything for the program with a jitter
other_line : IsWrong early_bytes (program 0) Early 2 (codes "s") → ⊥
other_line h = let same = one-refusal early_bytes (program 0) (told.Q3 2 (codes "s")) (told.Q3 3 (codes "s")) h early_told in cc

none_with_jitter : (line : ℕ) → Refuses early_bytes (program 5) (told.Q3 line (codes "s")) → ⊥
none_with_jitter line h = refused-nothing early_bytes (program 5) (told.Q3 line (codes "s")) h _ jitter_arrives

-- a horizon at the limit, and over it
far_bytes : List ℕ
far_bytes = codes "UNTIL 1000000001;"

far_found : List Spanned
far_found = place (w "until") 1 1 ∷ place (n 1000000001) 1 7 ∷ place semicolon 1 17 ∷ []

far_tokens : tokens far_bytes ≡ Ok far_found
unfolding far_bytes far_found tokens tokens_after front_by start_of longest name_front number_front mark_of
far_tokens = refl

abbrev alone : ℕ → ArrivalText
alone until = record { until = until; works = []; requests = [] }

far_told : IsFar far_bytes 1000000001
unfolding far_bytes far_found
far_told = record {
  found = far_found;
  tree = alone 1000000001;
  text = record { within = omega arith; read = far_tokens; spelled = refl };
  until = refl;
  far = omega arith;
}

at_limit : first_fault horizon_limit (program 0) (said (program 0) (alone horizon_limit)) ≡ None
at_limit = refl

over_limit : first_fault horizon_limit (program 0) (said (program 0) (alone 1000000001)) ≡ Some Far
over_limit = refl

-- a text that ends too early is told at its end
short_bytes : List ℕ
short_bytes = codes "UNTIL 9"

short_found : List Spanned
short_found = place (w "until") 1 1 ∷ place (n 9) 1 7 ∷ []

short_tokens : tokens short_bytes ≡ Ok short_found
unfolding short_bytes short_found tokens tokens_after front_by start_of longest name_front number_front mark_of
short_tokens = refl

short_told : Faults short_bytes (fault.Syntax (record { line = 1; column = 8 }))
unfolding short_bytes short_found arrivals_at until_at fixed_at number_at
short_told = arrivals-faulty short_bytes short_found 0 (record { line = 1; column = 8 }) (omega arith) short_tokens refl refl

-- WHAT IS FOUND OF AN ITEM
abbrev request : ℕ → Option ℕ → Arrival
request time value = record { time = time; task = 0; value = value }

abbrev start : Signature
start = record { name = codes "start"; params = record { name = codes "v"; mode = In } ∷ [] }

-- in the order of what is told: who isn't requested from outside, a value, a separation
moved_by_tests : moved false start 500 5 (Some 0) (request 494 None) ∷ moved true start 500 5 (Some 0) (request 494 None)
    ∷ moved true start 500 5 (Some 0) (request 494 (Some 1))
    ∷ moved true start 500 5 (Some 0) (request 495 (Some 1)) ∷ moved true start 500 5 (Some 0) (request 700 (Some 1))
    ∷ moved true start 500 5 None (request 494 (Some 1)) ∷ [] ≡
    Err Unknown ∷ Err Unfit ∷ Err Early ∷ Ok 500 ∷ Ok 700 ∷ Ok 494 ∷ []
moved_by_tests = refl

cyclic_not_moved : moved_by (Cyclic 1 0 10 [] End) None (request 5 None) ≡ Err Unknown
cyclic_not_moved = refl

place_of_first : map (λ name. first_place 3 name ((record { name = codes "s"; form = Passive [] }) ∷ (record { name = codes "s"; form = Passive [] })
    ∷ [])) (codes "s" ∷ codes "x" ∷ []) ≡ Some 3 ∷ None ∷ []
place_of_first = refl

early_is_told : Tells cause.Early 3 (codes "s") (told.Q3 3 (codes "s"))
early_is_told = (refl, refl, refl)

early_is_no_falling : Tells cause.Early 3 (codes "s") (told.Q1 3) → ⊥
early_is_no_falling h = let e = h.0 in cc
