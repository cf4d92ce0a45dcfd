-- Examples: at which times a sample's threads are requested, with which value, in which order and up to which time, and how it is written.
use Rattle.std.specs.Prelude.{◌≡◌, true, false, [], ◌∷◌, map, length, take, codes, refl}
use Rattle.std.specs.Fmt.{digits}
use Rattle.sample_design.specs.Requests.{is_due, request_at, request_line, requests, requests_among, requests_at, sample_arrivals}
use Rattle.sample_design.specs.Samples.{from_to}

-- of two threads the second is sporadic, with a separation of 60: it is due at the multiples of that, from 0 on
due : map (λ time. is_due 2 time 2) (0 ∷ 60 ∷ 120 ∷ []) ≡ true ∷ true ∷ true ∷ []
due = refl

not_due : map (λ time. is_due 2 time 2) (1 ∷ 59 ∷ 61 ∷ []) ≡ false ∷ false ∷ false ∷ []
not_due = refl

-- a cyclic thread is never due, though 50 is a multiple of its period
cyclic : is_due 2 50 1 ≡ false
cyclic = refl

-- the value counts the requests of the thread
counted : map (λ time. request_at 2 time 2) (0 ∷ 60 ∷ 120 ∷ []) ≡ record { time = 0; thread = 2; value = 0 }
    ∷ record { time = 60; thread = 2; value = 1 } ∷ record { time = 120; thread = 2; value = 2 } ∷ []
counted = refl

-- of these threads, by their order
among : requests_among 4 600 (4 ∷ 3 ∷ 2 ∷ []) ≡ record { time = 600; thread = 4; value = 5 } ∷ record { time = 600; thread = 2; value = 6 } ∷ []
among = refl

-- of all threads, the last one too
at_600 : requests_at 4 600 ≡ record { time = 600; thread = 2; value = 6 } ∷ record { time = 600; thread = 4; value = 5 } ∷ []
unfolding from_to
at_600 = refl

at_601 : requests_at 4 601 ≡ []
unfolding from_to
at_601 = refl

-- a request as it is written
written : request_line (record { time = 120; thread = 12; value = 3 }) ≡ codes "AT 120 t12 3;\n"
unfolding digits
written = refl

-- one thread is cyclic, so that nothing is requested, and of two the second is requested 167 times up to 10,000
none : requests 1 ≡ []
unfolding from_to
none = refl

how_many : length (requests 2) ≡ 167
unfolding from_to
how_many = refl

no_requests : sample_arrivals 1 ≡ codes "UNTIL 10000;\n"
unfolding from_to
no_requests = refl

-- the horizon first, then the requests
begins : take 35 (sample_arrivals 2) ≡ codes "UNTIL 10000;\nAT 0 t2 0;\nAT 60 t2 1;"
unfolding digits from_to
begins = refl
