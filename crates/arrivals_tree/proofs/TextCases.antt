-- The text of arrivals, what it says of a program, and the first of its items in which something is wrong.
use Rattle.std.specs.Prelude.{◌≡◌, ℕ, true, List, [], ◌∷◌, map, Option, Some, None, codes}
use Rattle.std.proofs.Common.{refl}
use Prim.Native.String.{String}
use Rattle.seq_tree.specs.Statements.{End}
use Rattle.seq_tree.specs.declared.token.Token.TheVariants.{Word, Number, Sign}
use Rattle.seq_tree.specs.declared.token.Mark.TheVariants.{Comma, Semicolon}
use Rattle.seq_tree.specs.declared.tree.Mode.TheVariants.{In}
use Rattle.ada_tree.specs.Programs.{Program, Shared, Cyclic, Sporadic}
use Rattle.arrivals_tree.specs.Acceptance.{ArrivalFault, Falling, Unknown, Unfit, Early, first_fault}
use Rattle.arrivals_tree.specs.Arrived.{horizon_limit}
use Rattle.arrivals_tree.specs.ArrivalTexts.{ArrivalText, WorkText, AtText, arrival_tokens, unit_place, work_of, request_of, said}
use Rattle.arrivals_tree.specs.FirstWrong.{Wrong, wrong_at, wrong_work, wrong_request, first_wrong}

-- a thread that is requested from outside with this jitter, a cyclic thread and a protected object
abbrev program : ℕ → Program
program jitter = record {
  name = codes "d";
  costs = record { assign = 1; test = 1; turn = 1; call = 2; nothing = 1; put = 1; finish = 1 };
  units =
      record {
        name = codes "s";
        form = Sporadic 1 1 (record {
          name = codes "start";
          params = record { name = codes "v"; mode = In } ∷ [];
        }) 500 jitter true [] End;
      }
      ∷ record { name = codes "c"; form = Cyclic 1 0 10 [] End } ∷ record { name = codes "q"; form = Shared 1 [] [] } ∷ [];
}

abbrev work : String → ℕ → List ℕ → WorkText
work name first others = record { name = codes name; first = first; others = others }

abbrev at : ℕ → String → Option ℕ → AtText
at time name value = record { time = time; name = codes name; value = value }

abbrev text : List WorkText → List AtText → ArrivalText
text works requests = record { until = 600; works = works; requests = requests }

abbrev wrong : ArrivalFault → String → ℕ → Option Wrong
wrong fault name before = Some (record { fault = fault; name = codes name; before = before })

-- TOKENS: a word of the grammar is a name like any other
tokens_of_all : arrival_tokens (text (work "at" 1 (2 ∷ []) ∷ []) (at 5 "work" None ∷ at 6 "s" (Some 7) ∷ [])) ≡
    Word (codes "until") ∷ Number 600 ∷ Sign Semicolon
    ∷ Word (codes "work") ∷ Word (codes "at") ∷ Number 1 ∷ Sign Comma ∷ Number 2 ∷ Sign Semicolon
    ∷ Word (codes "at") ∷ Number 5 ∷ Word (codes "work") ∷ Sign Semicolon
    ∷ Word (codes "at") ∷ Number 6 ∷ Word (codes "s") ∷ Number 7 ∷ Sign Semicolon ∷ []
tokens_of_all = refl

-- WHAT IS SAID
places : map (λ name. unit_place (program 0) name) (codes "s" ∷ codes "q" ∷ codes "x" ∷ []) ≡ 0 ∷ 2 ∷ 3 ∷ []
places = refl

work_said : work_of (program 0) (work "c" 1 (2 ∷ [])) ≡ record { task = 1; ticks = 1 ∷ 2 ∷ [] }
work_said = refl

request_said : request_of (program 0) (at 5 "s" (Some 7)) ≡ record { time = 5; task = 0; value = Some 7 }
request_said = refl

-- THE FIRST ITEM IN WHICH SOMETHING IS WRONG
told_of_fault : wrong_at (codes "s") 3 (Some Early) ≡ wrong Early "s" 3
told_of_fault = refl

told_of_none : wrong_at (codes "s") 3 None ≡ None
told_of_none = refl

work_fine : wrong_work (program 0) 3 (work "s" 1 [] ∷ work "c" 2 (3 ∷ []) ∷ []) ≡ None
work_fine = refl

-- behind one of four tokens
work_of_nothing : wrong_work (program 0) 3 (work "s" 1 [] ∷ work "c" 2 (0 ∷ []) ∷ []) ≡ wrong Unfit "c" 7
work_of_nothing = refl

-- of two faults of an item the unknown name is told
work_of_object : map (λ name. wrong_work (program 0) 3 (work name 0 [] ∷ [])) ("q" ∷ "x" ∷ "s" ∷ [])
    ≡ wrong Unknown "q" 3 ∷ wrong Unknown "x" 3 ∷ wrong Unfit "s" 3 ∷ []
work_of_object = refl

request_fine : wrong_request (program 0) [] 3 (at 0 "s" (Some 1) ∷ at 500 "s" (Some 1) ∷ []) ≡ None
request_fine = refl

request_early : wrong_request (program 0) [] 3 (at 0 "s" (Some 1) ∷ at 499 "s" (Some 1) ∷ []) ≡ wrong Early "s" 8
request_early = refl

-- within an item: a falling time, then the name, then the value, then the separation
order_within : map (λ r. wrong_request (program 0) [] 3 (at 5 "s" (Some 1) ∷ r ∷ []))
    (at 4 "x" None ∷ at 5 "x" None ∷ at 5 "s" None ∷ at 5 "s" (Some 1) ∷ []) ≡
    wrong Falling "x" 8 ∷ wrong Unknown "x" 8 ∷ wrong Unfit "s" 8 ∷ wrong Early "s" 8 ∷ []
order_within = refl

-- durations stand before requests
work_first : first_wrong (program 0) (text (work "q" 1 [] ∷ []) (at 5 "x" None ∷ [])) ≡ wrong Unknown "q" 3
work_first = refl

request_behind : first_wrong (program 0) (text (work "c" 1 (2 ∷ []) ∷ []) (at 5 "c" None ∷ [])) ≡ wrong Unknown "c" 9
request_behind = refl

-- requests behind the horizon are checked
behind_horizon : first_wrong (program 0) (text [] (at 700 "s" (Some 1) ∷ at 701 "s" (Some 1) ∷ [])) ≡ wrong Early "s" 8
behind_horizon = refl

-- a separation without jitter, and with one: the first of these moves no nominal time, so that the third is early
without_jitter : first_wrong (program 0) (text [] (at 0 "s" (Some 1) ∷ at 499 "s" (Some 1) ∷ [])) ≡ wrong Early "s" 8
without_jitter = refl

with_jitter : first_wrong (program 5) (text [] (at 0 "s" (Some 1) ∷ at 495 "s" (Some 1) ∷ [])) ≡ None
with_jitter = refl

third_with_jitter : first_wrong (program 5) (text [] (at 0 "s" (Some 1) ∷ at 495 "s" (Some 1) ∷ at 990 "s" (Some 1) ∷ [])) ≡ wrong Early "s" 13
third_with_jitter = refl

third_in_time : first_wrong (program 5) (text [] (at 0 "s" (Some 1) ∷ at 495 "s" (Some 1) ∷ at 995 "s" (Some 1) ∷ [])) ≡ None
third_in_time = refl

-- what is told is the first fault of what is said
same_fault : first_fault horizon_limit (program 5) (said (program 5) (text [] (at 0 "s" (Some 1) ∷ at 495 "s" (Some 1) ∷ at 990 "s" (Some 1) ∷ [])))
    ≡ Some Early
same_fault = refl

fine_as_said : first_fault horizon_limit (program 5) (said (program 5) (text (work "c" 3 [] ∷ []) (at 0 "s" (Some 1) ∷ []))) ≡ None
fine_as_said = refl
