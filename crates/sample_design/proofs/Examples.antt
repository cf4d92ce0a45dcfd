-- Examples: names and groups, the whole text of the samples of one thread and of two, the objects of that of six, and requests as written.
use Rattle.std.specs.Prelude.{◌≡◌, ℕ, ◌+◌, ◌-◌, ◌/◌, ◌==◌, List, [], ◌∷◌, map, filter, flat_map, length, codes, decimal, refl}
use Rattle.std.specs.Fmt.{digits}
use Rattle.std.specs.Int.{div_ceil}
use Rattle.ods_tree.specs.Layout.{design_text}
use Rattle.ods_tree.specs.Walk.{objects}
use Rattle.sample_design.specs.Requests.{request_lines, requests_at}
use Rattle.sample_design.specs.Samples.{from_on, from_to, groups, members, sample_design, thread_time, two_digits}

-- two digits are the decimal ones
in_decimal : map two_digits (from_on 0 100) ≡ map decimal (from_on 0 100)
unfolding digits
in_decimal = refl

-- there are as many groups as a fifth of the threads, rounded up, and each thread stands in the group of its number
counted : map (λ n. length (groups n)) (from_on 1 30) ≡ map (λ n. div_ceil n 5) (from_on 1 30)
unfolding from_to
counted = refl

abbrev standing_in : ℕ → ℕ → List ℕ
standing_in n g = filter (λ k. (k - 1) / 5 + 1 == g) (from_on 1 n)

grouped : map (λ n. map (members n) (groups n)) (from_on 1 30) ≡ map (λ n. map (standing_in n) (groups n)) (from_on 1 30)
unfolding from_to
grouped = refl

-- the text of one thread, and of two
one_thread : design_text (sample_design 1)
    ≡ codes "DESIGN sample IS\n   COSTS\n      ASSIGN = 1;\n      TEST = 1;\n      TURN = 1;\n      CALL = 2;\n      NULL = 1;\n      PUT = 1;\n      FINISH = 1;\n   END COSTS;\n   OBJECT plant IS ACTIVE\n      OBJECTS\n         OBJECT board IS PROTECTED\n            PROVIDES\n               note (v : in word) PAER;\n            DATA\n               total : word := 0;\n            OPERATION note IS\n            BEGIN\n               total := total + v;\n            END note;\n         END board;\n         OBJECT step IS PASSIVE\n            PROVIDES\n               next (a : in word; r : out word);\n            OPERATION next IS\n            BEGIN\n               r := a * 3 + 1;\n            END next;\n         END step;\n         OBJECT g1 IS ACTIVE\n            REQUIRES\n               step.next;\n               board.note;\n            OBJECTS\n               OBJECT t1 IS CYCLIC\n                  ATTRIBUTES\n                     PERIOD = 30;\n                     DEADLINE = 30;\n                     THREAD_BUDGET = 12;\n                  REQUIRES\n                     step.next;\n                     board.note;\n                  DATA\n                     x : word := 1;\n                  THREAD\n                     work (5);\n                     step.next (x, x);\n                     board.note (x);\n                  END THREAD;\n               END t1;\n         END g1;\n   END plant;\nEND sample;\n"
unfolding digits from_to
one_thread = refl

two_threads : design_text (sample_design 2)
    ≡ codes "DESIGN sample IS\n   COSTS\n      ASSIGN = 1;\n      TEST = 1;\n      TURN = 1;\n      CALL = 2;\n      NULL = 1;\n      PUT = 1;\n      FINISH = 1;\n   END COSTS;\n   OBJECT plant IS ACTIVE\n      OBJECTS\n         OBJECT board IS PROTECTED\n            PROVIDES\n               note (v : in word) PAER;\n            DATA\n               total : word := 0;\n            OPERATION note IS\n            BEGIN\n               total := total + v;\n            END note;\n         END board;\n         OBJECT step IS PASSIVE\n            PROVIDES\n               next (a : in word; r : out word);\n            OPERATION next IS\n            BEGIN\n               r := a * 3 + 1;\n            END next;\n         END step;\n         OBJECT g1 IS ACTIVE\n            REQUIRES\n               step.next;\n               board.note;\n            OBJECTS\n               OBJECT t1 IS CYCLIC\n                  ATTRIBUTES\n                     PERIOD = 50;\n                     DEADLINE = 50;\n                     THREAD_BUDGET = 12;\n                  REQUIRES\n                     step.next;\n                     board.note;\n                  DATA\n                     x : word := 1;\n                  THREAD\n                     work (5);\n                     step.next (x, x);\n                     board.note (x);\n                  END THREAD;\n               END t1;\n               OBJECT t2 IS SPORADIC\n                  ATTRIBUTES\n                     SEPARATION = 60;\n                     DEADLINE = 60;\n                     THREAD_BUDGET = 12;\n                     ARRIVAL_JITTER = 2;\n                  PROVIDES\n                     go (v : in word) ASER;\n                  REQUIRES\n                     step.next;\n                     board.note;\n                  DATA\n                     x : word := 2;\n                  THREAD\n                     work (5);\n                     step.next (x, x);\n                     board.note (x);\n                  END THREAD;\n               END t2;\n         END g1;\n   END plant;\nEND sample;\n"
unfolding digits from_to
two_threads = refl

-- the objects of six threads in flattened order, and the times of the threads of thirty
six_threads : map (λ s. s.own.name) (objects (sample_design 6))
    ≡ codes "plant" ∷ codes "board" ∷ codes "step" ∷ codes "g1" ∷ codes "t1" ∷ codes "t2" ∷ codes "t3" ∷ codes "t4" ∷ codes "t5" ∷ codes "g2"
    ∷ codes "t6" ∷ []
unfolding from_to
six_threads = refl

times_of_thirty : map (thread_time 30) (from_on 1 30) ≡ 610 ∷ 620 ∷ 630 ∷ 640 ∷ 650 ∷ 660 ∷ 670 ∷ 680 ∷ 690 ∷ 700 ∷ 710 ∷ 720 ∷ 730 ∷ 740 ∷ 750 ∷ 760
    ∷ 770 ∷ 780 ∷ 790 ∷ 800 ∷ 810 ∷ 820 ∷ 830 ∷ 840 ∷ 850 ∷ 860 ∷ 870 ∷ 880 ∷ 890 ∷ 900 ∷ []
times_of_thirty = refl

-- one cyclic thread is never requested; the one sporadic thread of two is at each multiple of 60
none_requested : flat_map (requests_at 1) (from_on 0 301) ≡ []
unfolding from_to
none_requested = refl

first_requests : request_lines (flat_map (requests_at 2) (from_on 0 121)) ≡ codes "AT 0 t2 0;\nAT 60 t2 1;\nAT 120 t2 2;\n"
unfolding digits from_to
first_requests = refl

last_requests : request_lines (flat_map (requests_at 2) (from_on 9901 100)) ≡ codes "AT 9960 t2 166;\n"
unfolding digits from_to
last_requests = refl

-- at one time the threads go by their numbers
by_number : request_lines (flat_map (requests_at 6) (from_on 0 181))
    ≡ codes "AT 0 t2 0;\nAT 0 t4 0;\nAT 0 t6 0;\nAT 140 t2 1;\nAT 160 t4 1;\nAT 180 t6 1;\n"
unfolding digits from_to
by_number = refl
