-- Examples that pin the definitions of a summary, each with one beside it that breaks it alone.
use Rattle.std.specs.Prelude.{◌≡◌, ℕ, [], ◌∷◌, ◌++◌, None, codes, decimal, refl}
use Rattle.seq_tree.specs.Names.{Name}
use Rattle.seq_tree.specs.Statements.{Statements}
use Rattle.seq_tree.specs.declared.tree.Costs.{Costs}
use Rattle.ada_tree.specs.Programs.{Passive, Cyclic}
use Rattle.trace_tree.specs.declared.event.Event.TheVariants.{Release, Arrive, End, Horizon}
use Rattle.trace_text.specs.declared.bound.NamedBound.{NamedBound}
use Rattle.trace_text.specs.Summaries.{bound_of, kept_count, responses, summary}
use Rattle.trace_text.specs.Tallies.{open_times}

-- from a release to the next end; a release without an end has no response
one-response : responses 0 (Release 3 0 None ∷ End 7 0 4 ∷ Release 10 0 None ∷ []) ≡ 4 ∷ []
one-response = refl

-- two releases before one end both reach it
two-before-an-end : responses 0 (Release 2 0 None ∷ Release 5 0 None ∷ End 9 0 4 ∷ End 20 0 4 ∷ []) ≡ 7 ∷ 4 ∷ []
two-before-an-end = refl

-- the end of another task is none, and so is an arrival
other-tasks : responses 0 (Release 0 0 None ∷ End 3 1 1 ∷ Arrive 4 0 None ∷ End 5 0 2 ∷ []) ≡ 5 ∷ []
other-tasks = refl

-- a time that falls counts as 0
falling : responses 0 (Release 9 0 None ∷ End 4 0 1 ∷ []) ≡ 0 ∷ []
falling = refl

-- the last release of all is open
still-open : open_times 0 (Release 3 0 None ∷ End 7 0 4 ∷ Release 10 0 None ∷ []) ≡ 10 ∷ []
still-open = refl

-- a count stops at its end, and not before
full : kept_count 18446744073709551616 ≡ 18446744073709551615
full = refl

not-full : kept_count 18446744073709551614 ≡ 18446744073709551614
not-full = refl

bound : Name → ℕ → NamedBound
bound name response = record { name = name; priority = 1; period = 10; deadline = 10; jitter = 0; cost = 4; block = 0; response = response }

-- the bound is that of the name
bound-by-name : bound_of (codes "b") (bound (codes "a") 12 ∷ bound (codes "b") 13 ∷ []) ≡ 13
unfolding bound
bound-by-name = refl

-- no bound
bound-of-none : bound_of (codes "c") (bound (codes "a") 12 ∷ bound (codes "b") 13 ∷ []) ≡ 0
unfolding bound
bound-of-none = refl

-- a whole summary: the task of the second unit was released twice and ended once; the passive unit has no line
whole : (name : Name) (costs : Costs) (block : Statements)
    → summary (record {
      name = name;
      costs = costs;
      units = record { name = codes "p"; form = Passive [] }
          ∷ record { name = codes "a"; form = Cyclic 1 0 10 [] block } ∷ [];
    })
    (bound (codes "a") 12 ∷ []) (Release 0 1 None ∷ End 4 1 4 ∷ Release 10 1 None ∷ Horizon 12 ∷ [])
    ≡ (codes "thread a" ++ (((codes " releases " ++ decimal 2) ++ ((codes " ends " ++ decimal 1) ++ (codes " greatest " ++ decimal 4)))
    ++ ((codes " bound " ++ decimal 12) ++ codes "\n")) ++ [])
    ++ ((codes "lines " ++ decimal 4) ++ codes "\n")
unfolding bound
whole name costs block = refl
