-- Examples: what is told of threads, the lines of `explain` in each case, and what the verb makes of a design. Each definition holds of a case,
-- and not without one of its parts.
use Rattle.std.specs.Prelude.{◌≡◌, ℕ, List, [], ◌∷◌, ◌++◌, map, Option, Some, None, codes, decimal, refl}
use Rattle.std.proofs.Common.{arith, lit≤}
use Rattle.seq_tree.specs.Statements.{Work}
use Rattle.ods_tree.specs.Designs.{Design}
use Rattle.ods_tree.specs.Flats.{Flat}
use Rattle.ods_tree.specs.Flattening.{flat}
use Rattle.ods_tree.specs.Ticks.{first_priority}
use Rattle.ods_tree.proofs.Shared.Short.{cyc, design}
use Rattle.rt_response.specs.Response.{IsLeastVector}
use Rattle.rt_response.specs.declared.rows.Bound.{Bound}
use Rattle.rt_response.specs.declared.rows.Limit.TheVariants.{Separation}
use Rattle.rt_response.specs.declared.rows.ThreadRow.{ThreadRow}
use Rattle.analysis.specs.Tables.{table}
use Rattle.design_bounds.specs.Analyses.{IsMissed}
use Rattle.design_bounds.specs.Rows.{ceiling_rows}
use Rattle.design_bounds.specs.declared.rows.CeilingRow.{CeilingRow}
use Rattle.late_response.specs.declared.reach.Reach.{Reach}
use Rattle.late_response.specs.declared.reach.Reach.TheVariants.{Solved, Beyond, Behind}
use Rattle.late_response.specs.Late.{AreTold}
use Rattle.late_response.specs.Utilisation.{IsPerMille, utilisation}
use Rattle.explanation.specs.declared.reasons.Blocker.{Blocker}
use Rattle.explanation.specs.declared.reasons.Explanation.{Explanation}
use Rattle.explanation.specs.declared.reasons.Late.{Late}
use Rattle.explanation.specs.declared.reasons.Reasons.{Reasons}
use Rattle.explanation.specs.Chains.{chain_jitter, chain_response, lowest_place}
use Rattle.explanation.specs.Delays.{delay_by}
use Rattle.explanation.specs.Explanations.{IsExplanation}
use Rattle.explanation.specs.Findings.{IsFound, solved_of}
use Rattle.explanation.specs.Threads.{HasPeriod, blocker_of, chains, reasons_of}
use Rattle.explanation.specs.Values.{known_jitter}
use Rattle.bridge.specs.Taking.{IsTakenAs, RefusesTaking}
use Rattle.bridge.specs.declared.taking.Untaken.{Untaken}
use Rattle.hrthood_top.specs.declared.file_kind.FileKind.TheVariants as kind
use Rattle.hrthood_top.specs.Analyses.{labelled}
use Rattle.hrthood_top.specs.Checks.{CanCheck, check_line}
use Rattle.hrthood_top.specs.Explanations.{IsToldOf, explained, explains, reach_lines, chain_line, late_line, name_at, utilisation_line}
use Rattle.hrthood_top.specs.Explanations.{with_utilisation}
use Rattle.hrthood_top.specs.Files.{Texts}

-- WHAT IS TOLD OF A THREAD

abbrev row : ℕ → ℕ → ℕ → ℕ → Option ℕ → ThreadRow
row period deadline cost block starter
    = record { period = period; deadline = deadline; jitter = 7; cost = cost; block = block; starter = starter }

abbrev thread : List ℕ → ℕ → ThreadRow → Reach → Option Blocker → Reasons
thread name priority row reach blocker = record { name = name; priority = priority; row = row; reach = reach; blocker = blocker }

-- a thread that is late by its jitter, the one that starts it, and two without a bound
abbrev s : Reasons
s = thread (codes "s") 4 (row 20 10 6 2 (Some 1)) (Solved 27 8) (Some (record { thread = codes "p"; object = codes "s"; op = codes "go" }))

abbrev p : Reasons
p = thread (codes "p") 3 (row 20 20 9 0 None) (Solved 0 27) None

abbrev b : Reasons
b = thread (codes "b") 2 (row 10 10 12 0 None) (Beyond 4 0 123) None

abbrev c : Reasons
c = thread (codes "c") 1 (row 10 10 2 0 (Some 2)) (Behind 2) None

abbrev ts : List Reasons
ts = s ∷ p ∷ b ∷ c ∷ []

-- the jitter of a thread that none starts is its own, and that of another comes of its starter, where that has a bound
own_jitter : known_jitter ts p.row None ≡ 7
own_jitter = refl

inherited_jitter : known_jitter ts s.row (Some 1) ≡ 27
inherited_jitter = refl

unknown_jitter : known_jitter ts c.row (Some 2) ≡ 0
unknown_jitter = refl

no_starter : known_jitter ts c.row (Some 9) ≡ 0
no_starter = refl

-- (27 + 27) / 20, rounded up, is 3
delay : delay_by ts 27 s.row ≡ record { activations = 3; ticks = 18 }
delay = refl

-- at 33 the window and the jitter are three periods, and at 34 a fourth activation falls into it
delay_full : delay_by ts 33 s.row ≡ record { activations = 3; ticks = 18 }
delay_full = refl

delay_next : delay_by ts 34 s.row ≡ record { activations = 4; ticks = 24 }
delay_next = refl

no_name : name_at ts 4 ≡ []
no_name = refl

a_period : HasPeriod s
a_period = omega arith

no_period : HasPeriod (thread (codes "a") 1 (row 0 0 1 0 None) (Solved 0 1) None) → ⊥
no_period h = omega (arith, h)

-- THE LINES
abbrev limits : List ℕ → ℕ → ℕ → ℕ → List ℕ
limits head priority period deadline =
    head ++ (labelled (codes " priority ") priority ++ (labelled (codes " period ") period ++ labelled (codes " deadline ") deadline))

abbrev costs : ℕ → ℕ → List ℕ
costs cost blocking = labelled (codes " cost ") cost ++ labelled (codes " blocking ") blocking

abbrev bounded : List ℕ → ℕ → ℕ → List ℕ → List ℕ
bounded head jitter response between =
    head ++ (labelled (codes " jitter ") jitter ++ (between ++ (labelled (codes " response ") response ++ codes "\n")))

abbrev distant : List ℕ → ℕ → ℕ → List ℕ
distant head deadline separation =
    head ++ ((labelled (codes " deadline ") deadline ++ labelled (codes " separation ") separation) ++ codes "\n")

late_thread : reach_lines ts [] s s.reach
    ≡ bounded (limits (codes "thread s") 4 20 10) 27 8 (costs 6 2)
    ++ (codes "started s by p" ++ ((labelled (codes " jitter ") 0 ++ labelled (codes " response ") 27) ++ codes "\n")
    ++ ((codes "blocked s by p in s.go" ++ (labelled (codes " ticks ") 2 ++ codes "\n")) ++ distant (codes "late s") 0 15))
late_thread = refl

delayed_thread : reach_lines ts (s ∷ []) p p.reach
    ≡ bounded (limits (codes "thread p") 3 20 20) 0 27 (costs 9 0)
    ++ (((codes "delayed p by s"
    ++ ((labelled (codes " window ") 27 ++ (labelled (codes " activations ") 3 ++ labelled (codes " ticks ") 18)) ++ codes "\n")) ++ [])
    ++ distant (codes "late p") 7 7)
delayed_thread = refl

-- at its limits a thread has no slack, and a tick beyond one of them it is late
abbrev alone_at : ℕ → ℕ → List ℕ
alone_at jitter response =
    reach_lines [] [] (thread (codes "a") 1 (row 10 8 6 0 None) (Solved jitter response) None) (Solved jitter response)

at_limits : alone_at 2 8 ≡ bounded (limits (codes "thread a") 1 10 8) 2 8 (costs 6 0) ++ distant (codes "slack a") 0 0
at_limits = refl

within_limits : alone_at 1 6 ≡ bounded (limits (codes "thread a") 1 10 8) 1 6 (costs 6 0) ++ distant (codes "slack a") 2 3
within_limits = refl

over_deadline : alone_at 1 9 ≡ bounded (limits (codes "thread a") 1 10 8) 1 9 (costs 6 0) ++ distant (codes "late a") 1 0
over_deadline = refl

over_separation : alone_at 3 8 ≡ bounded (limits (codes "thread a") 1 10 8) 3 8 (costs 6 0) ++ distant (codes "late a") 0 1
over_separation = refl

-- over ten times a limit; at ten times its deadline it may be over ten times its period
abbrev b_told : List ℕ
b_told = limits (codes "beyond b") 2 10 10 ++ (costs 12 0
    ++ ((labelled (codes " value ") 123 ++ labelled (codes " limit ") 10) ++ (labelled (codes " round ") 4 ++ codes "\n")))

beyond_deadline : reach_lines ts (s ∷ p ∷ []) b b.reach ≡ b_told ++ []
beyond_deadline = refl

beyond_separation : reach_lines [] [] (thread (codes "a") 1 (row 10 8 6 0 None) (Beyond 5 21 80) None) (Beyond 5 21 80)
    ≡ (limits (codes "beyond a") 1 10 8 ++ (costs 6 0
    ++ ((labelled (codes " value ") 101 ++ labelled (codes " limit ") 10) ++ (labelled (codes " round ") 5 ++ codes "\n")))) ++ []
beyond_separation = refl

behind : reach_lines ts (s ∷ p ∷ b ∷ []) c c.reach ≡ (limits (codes "behind c") 1 10 10 ++ (costs 2 0 ++ codes " by b\n")) ++ []
behind = refl

-- a chain of two takes what its thread of lowest priority does: 27, and not the 8 of the other, nor 8 + 27; its jitter is that of its first thread
chain : chain_line ts (0 ∷ 1 ∷ []) ≡ codes "chain s" ++ (labelled (codes " jitter ") 0 ++ (labelled (codes " response ") 27 ++ codes " by p\n"))
chain = refl

chain_up : chain_line ts (1 ∷ 0 ∷ []) ≡ codes "chain p" ++ (labelled (codes " jitter ") 27 ++ (labelled (codes " response ") 27 ++ codes " by s\n"))
chain_up = refl

-- the lowest of three may stand between the others
lowest_between : lowest_place (0 ∷ 2 ∷ 1 ∷ []) ≡ 2
lowest_between = refl

-- a thread without a bound gives none
no_response : (chain_response ts (0 ∷ 2 ∷ []) ≡ 0) × (chain_jitter ts (0 ∷ 2 ∷ []) ≡ 0)
no_response = (refl, refl)

-- a thread alone, none, and a chain with a thread without a bound have no line

alone : chain_line ts (1 ∷ []) ≡ []
alone = refl

nothing : chain_line ts [] ≡ []
nothing = refl

unknown : chain_line ts (3 ∷ 2 ∷ []) ≡ []
unknown = refl

abbrev late : Late
late = record { thread = codes "s"; miss = record { index = 0; which = Separation; value = 23; limit = 20; round = 2 } }

abbrev late_told : List ℕ
late_told = codes "miss U2 s value " ++ (decimal 23 ++ (codes " limit " ++ (decimal 20 ++ (codes " round " ++ (decimal 2 ++ codes "\n")))))

miss : late_line (Some late) ≡ late_told
miss = refl

no_miss : late_line None ≡ []
no_miss = refl

abbrev ceilings : List CeilingRow
ceilings = record { name = codes "s"; ceiling = 4 } ∷ []

-- the utilisation in front of other lines from 1001 on, and after them up to 1000
utilised : utilisation_line 763 ≡ codes "utilisation " ++ (decimal 763 ++ codes "\n")
utilised = refl

full : with_utilisation 1000 (codes "x\n") ≡ codes "x\n" ++ utilisation_line 1000
full = refl

overloaded : with_utilisation 1001 (codes "x\n") ≡ utilisation_line 1001 ++ codes "x\n"
overloaded = refl

-- of the mine pump: 21/80 + 6/80 + 14/100 + 10/100 + 11/6000 + 15/1000 is 594 and a third per mille
abbrev mine_rows : List ThreadRow
mine_rows =
    row 80 30 21 2 None ∷ row 80 50 6 2 (Some 0) ∷ row 100 60 14 4 None ∷ row 100 100 10 4 None ∷ row 6000 200 11 4 None ∷ row 1000 900 15 0 None ∷ []

mine_utilisation : IsPerMille (utilisation mine_rows) 594
mine_utilisation = (lit≤ tt, lit≤ tt)

mine_not_593 : IsPerMille (utilisation mine_rows) 593 → ⊥
mine_not_593 h = omega (arith, h.1)

mine_not_595 : IsPerMille (utilisation mine_rows) 595 → ⊥
mine_not_595 h = omega (arith, h.0)

-- and its chain: the alarm responds within 29, below the sensor, whose 23 ticks are among them
abbrev mine_ts : List Reasons
mine_ts = thread (codes "ch4_sensor") 6 (row 80 30 21 2 None) (Solved 0 23) None ∷ thread (codes "alarm_console") 5 (row 80 50 6 2 (Some 0)) (Solved 23 29) None ∷ []

mine_chain : chain_line mine_ts (1 ∷ 0 ∷ [])
    ≡ codes "chain alarm_console" ++ (labelled (codes " jitter ") 0 ++ (labelled (codes " response ") 29 ++ codes " by ch4_sensor\n"))
mine_chain = refl

-- all of them, in their order
whole : explained (Some late) (b ∷ []) ([] ∷ []) ceilings
    ≡ late_told ++ (((b_told ++ []) ++ []) ++ ((codes "ceiling s" ++ (labelled (codes " ") 4 ++ codes "\n")) ++ []))
whole = refl

-- A FLAT DESIGN
abbrev one : Flat
one = flat (design (cyc (codes "a") 10 10 (Work 3 ∷ [])))

told : reasons_of 31 one (Solved 0 4 ∷ [])
    ≡ record {
      name = codes "a";
      priority = 31;
      row = record { period = 10; deadline = 10; jitter = 0; cost = 4; block = 0; starter = None };
      reach = Solved 0 4;
      blocker = None;
    } ∷ []
told = refl

its_chain : chains (table one).rows ≡ (0 ∷ []) ∷ []
its_chain = refl

its_blocker : blocker_of one (record { thread = 0; op = record { object = codes "q"; op = codes "set" } })
    ≡ Some (record { thread = codes "a"; object = codes "q"; op = codes "set" })
its_blocker = refl

no_blocker : blocker_of one (record { thread = 1; op = record { object = codes "q"; op = codes "set" } }) ≡ None
no_blocker = refl

-- what is found of its rows: the least bounds, or what is told of each where a value is over its limit
module _ (f : Flat) (found : List Reach) where
  bounds : (v : List Bound) → IsLeastVector (table f).rows v → found ≡ map solved_of v → IsFound f found None
  bounds v least e = (v, least, e)

  not_least : ((v : List Bound) → IsLeastVector (table f).rows v → ⊥) → IsFound f found None → ⊥
  not_least never h = never h.0 h.1

  other_bounds : ((v : List Bound) → IsLeastVector (table f).rows v → found ≡ map solved_of v → ⊥) → IsFound f found None → ⊥
  other_bounds never h = never h.0 h.1 h.2

  over : (l : Late) → IsMissed f l.thread l.miss → AreTold (table f).rows found → IsFound f found (Some l)
  over l missed each = (missed, each)

  not_missed : (l : Late) → ¬ IsMissed f l.thread l.miss → IsFound f found (Some l) → ⊥
  not_missed l never h = never h.0

  not_told : (l : Late) → ¬ AreTold (table f).rows found → IsFound f found (Some l) → ⊥
  not_told l never h = never h.1

-- an explanation of it
module _ (first : ℕ) (f : Flat) (e : Explanation) where
  explanation : (found : List Reach) → IsFound f found e.late → e.threads.items ≡ reasons_of first f found
      → map (λ c. c.items) e.chains.items ≡ chains (table f).rows → e.ceilings.items ≡ ceiling_rows first f
      → IsPerMille (utilisation (table f).rows) e.utilisation → IsExplanation first f e
  explanation found h t c l u = record { found = found; is_found = h; threads = t; chains = c; ceilings = l; per_mille = u }

  not_found : ((found : List Reach) → IsFound f found e.late → ⊥) → IsExplanation first f e → ⊥
  not_found never h = never h.found h.is_found

  other_threads : ((found : List Reach) → IsFound f found e.late → e.threads.items ≡ reasons_of first f found → ⊥) → IsExplanation first f e
      → ⊥
  other_threads never h = never h.found h.is_found h.threads

  other_chains : ¬ (map (λ c. c.items) e.chains.items ≡ chains (table f).rows) → IsExplanation first f e → ⊥
  other_chains never h = never h.chains

  other_ceilings : ¬ (e.ceilings.items ≡ ceiling_rows first f) → IsExplanation first f e → ⊥
  other_ceilings never h = never h.ceilings

  other_per_mille : ¬ IsPerMille (utilisation (table f).rows) e.utilisation → IsExplanation first f e → ⊥
  other_per_mille never h = never h.per_mille

-- its lines
module _ (first : ℕ) (f : Flat) (lines : List ℕ) where
  lines_of : (l : Option Late) (found : List Reach) (n : ℕ) → IsFound f found l → IsPerMille (utilisation (table f).rows) n
      → lines ≡ with_utilisation n (explained l (reasons_of first f found) (chains (table f).rows) (ceiling_rows first f)) → IsToldOf first f lines
  lines_of l found n h u e = record { late = l; found = found; per_mille = n; is_found = h; is_per_mille = u; told = e }

  lines_of_nothing : ((l : Option Late) (found : List Reach) → IsFound f found l → ⊥) → IsToldOf first f lines → ⊥
  lines_of_nothing never h = never h.late h.found h.is_found

  lines_of_no_number : ((n : ℕ) → IsPerMille (utilisation (table f).rows) n → ⊥) → IsToldOf first f lines → ⊥
  lines_of_no_number never h = never h.per_mille h.is_per_mille

  other_lines : ((l : Option Late) (found : List Reach) (n : ℕ) → IsFound f found l → IsPerMille (utilisation (table f).rows) n
      → lines ≡ with_utilisation n (explained l (reasons_of first f found) (chains (table f).rows) (ceiling_rows first f)) → ⊥)
      → IsToldOf first f lines → ⊥
  other_lines never h = never h.late h.found h.per_mille h.is_found h.is_per_mille h.told

-- THE VERB
module _ (texts : Texts) where
  explain_files : (explains (codes "d")).files ≡ record { kind = kind.Design; name = codes "d" } ∷ []
  explain_files = refl

  explain_makes : (x : Design) (lines : List ℕ) → IsTakenAs (texts kind.Design) x → IsToldOf (first_priority x) (flat x) lines
      → (explains (codes "d")).Makes texts lines
  explain_makes x lines taken told = (x, taken, told)

  untaken : (lines : List ℕ) → ((x : Design) → IsTakenAs (texts kind.Design) x → ⊥) → (explains (codes "d")).Makes texts lines → ⊥
  untaken lines never h = never h.0 h.1

  untold : (lines : List ℕ) → ((x : Design) → IsTakenAs (texts kind.Design) x → IsToldOf (first_priority x) (flat x) lines → ⊥)
      → (explains (codes "d")).Makes texts lines → ⊥
  untold lines never h = never h.0 h.1 h.2

  -- it is refused, and can be done, as `check`
  explain_refuses : (r : Untaken) → (explains (codes "d")).Refuses texts r ≡ RefusesTaking (texts kind.Design) r
  explain_refuses r = refl

  explain_line : (r : Untaken) → (explains (codes "d")).line r ≡ check_line r
  explain_line r = refl

  explain_can : (explains (codes "d")).CanDo texts ≡ CanCheck (texts kind.Design)
  explain_can = refl

  explain_stop : (stop : (explains (codes "d")).Stop) → ⊥
  explain_stop stop = stop
