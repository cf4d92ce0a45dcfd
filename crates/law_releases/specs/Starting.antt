-- Requests of a sporadic thread by one other thread, its starter: at most one in each activation of the starter.
-- A thread that others start stands behind them in a precedence of activations (Tindell and Clark 1994).
use Rattle.std.specs.Prelude.{◌≡◌, Bool, true, false, List, [], ◌∷◌, ⊤}
use Rattle.seq_tree.specs.Names.{Name, same_name}
use Rattle.guarantee.specs.Events.{Release, Arrive, Enter, Leave, Request, Print, End, Stop, Event, By, Horizon}
use Rattle.guarantee.specs.Bounded.{Either}

-- requests of a thread by a starter alone, at most one from each of its releases to the end of the activation; whether one may come now
abbrev pub AsksOnce : Name → Name → Bool → List Event → Type 0
AsksOnce starter name may [] = ⊤
AsksOnce starter name may (By time task (Release value) ∷ told) =
    Either (same_name task starter) (AsksOnce starter name true told) (AsksOnce starter name may told)
AsksOnce starter name may (By time task (End used) ∷ told) =
    Either (same_name task starter) (AsksOnce starter name false told) (AsksOnce starter name may told)
AsksOnce starter name may (By time task (Request target value) ∷ told) =
    Either (same_name target name) ((may ≡ true) × AsksOnce starter name false told) (AsksOnce starter name may told)
AsksOnce starter name may (By time task (Arrive value) ∷ told) = Either (same_name task name) ⊥ (AsksOnce starter name may told)
AsksOnce starter name may (By time task (Enter op values) ∷ told) = AsksOnce starter name may told
AsksOnce starter name may (By time task (Leave op values) ∷ told) = AsksOnce starter name may told
AsksOnce starter name may (By time task (Print value) ∷ told) = AsksOnce starter name may told
AsksOnce starter name may (By time task (Stop object priority ceiling) ∷ told) = AsksOnce starter name may told
AsksOnce starter name may (Horizon time ∷ told) = AsksOnce starter name may told
