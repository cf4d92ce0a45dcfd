-- The scripts of a thread's levels, one event at a time from the end of a trace; the first of them is what is inside an operation.
use Rattle.std.proofs.Common.{◌≡◌, ℕ, zero, suc, Bool, true, false, ◌&&◌, List, [], ◌∷◌, map, drop, Some, None, refl, ap, ◌∙◌}
use Rattle.std.specs.Prelude.{if◌then◌else◌}
use Rattle.std.specs.List.{cons_option}
use Rattle.seq_tree.specs.Names.{Name, same_name}
use Rattle.guarantee.specs.Software.{Software}
use Rattle.guarantee.specs.Events.{Deed, Release, Arrive, Enter, Leave, Request, Print, End, Stop, Event, By}
use Rattle.guarantee.specs.Steps.{Step, moments, first_way, steps_of, is_own}
use Rattle.law_traces.specs.Levels.{level, with_deed, levels}
use Rattle.law_traces.specs.Checks.{action_of, both, scripted, does_in}
use Rattle.law_traces.proofs.Shared.Leveling.{tells-insides}
use Rattle.law_traces.specs.Entries.{shown_at, with_action, stack_of}

-- scripts of levels
shown-level : (w : Software) (k : ℕ) (ls : List (List Deed)) → scripted w (level k ls) ≡ shown_at k (map (scripted w) ls)
shown-level w k [] = refl
shown-level w zero (l ∷ ls) = refl
shown-level w (suc k) (l ∷ ls) = shown-level w k ls

map-drop : (w : Software) (n : ℕ) (ls : List (List Deed)) → map (scripted w) (drop n ls) ≡ drop n (map (scripted w) ls)
map-drop w zero ls = refl
map-drop w (suc n) [] = refl
map-drop w (suc n) (l ∷ ls) = map-drop w n ls

plain : (w : Software) (d : Deed) (ls : List (List Deed))
    → map (scripted w) ((d ∷ level 0 ls) ∷ drop 1 ls) ≡ both (action_of w d) (shown_at 0 (map (scripted w) ls)) ∷ drop 1 (map (scripted w) ls)
plain w d ls =
    ap (λ z. both (action_of w d) z ∷ map (scripted w) (drop 1 ls)) (shown-level w 0 ls)
    ∙ ap (λ z. both (action_of w d) (shown_at 0 (map (scripted w) ls)) ∷ z) (map-drop w 1 ls)

-- one deed in front
shown-deed : (w : Software) (d : Deed) (ls : List (List Deed))
    → map (scripted w) (with_deed d ls) ≡ with_action d (action_of w d) (map (scripted w) ls)
shown-deed w (Enter name values) ls =
    ap (λ z. both (action_of w (Enter name values)) z ∷ map (scripted w) (drop 2 ls)) (shown-level w 1 ls)
    ∙ ap (λ z. both (action_of w (Enter name values)) (shown_at 1 (map (scripted w) ls)) ∷ z) (map-drop w 2 ls)
shown-deed w (Leave name values) ls = ap (λ z. Some [] ∷ z) (plain w (Leave name values) ls)
shown-deed w (Release v) ls = plain w (Release v) ls
shown-deed w (Arrive v) ls = plain w (Arrive v) ls
shown-deed w (Request target v) ls = plain w (Request target v) ls
shown-deed w (Print v) ls = plain w (Print v) ls
shown-deed w (End used) ls = plain w (End used) ls
shown-deed w (Stop object priority ceiling) ls = plain w (Stop object priority ceiling) ls

-- one event in front
pub stack-by : (w : Software) (thread : Name) (time : ℕ) (task : Name) (deed : Deed) (later : List Event)
    → stack_of w thread (By time task deed ∷ later)
    ≡ (if same_name task thread && is_own deed then with_action deed (action_of w deed) (stack_of w thread later) else stack_of w thread later)
stack-by w thread time task deed later = by (same_name task thread && is_own deed)
  where
    s : Step
    s = record { time = time; deed = deed; body = first_way [] }

    by : (b : Bool)
        → map (scripted w) (levels (map (λ x. x.deed) (cons_option (if b then Some s else None) (steps_of thread (moments later [])))))
        ≡ (if b then with_action deed (action_of w deed) (stack_of w thread later) else stack_of w thread later)
    by true = shown-deed w deed (levels (map (λ x. x.deed) (steps_of thread (moments later []))))
    by false = refl

-- what a thread does inside an operation
pub inside-shown : (w : Software) (task : Name) (later : List Event) → scripted w (does_in task later) ≡ shown_at 0 (stack_of w task later)
inside-shown w task later =
    ap (scripted w) (tells-insides (steps_of task (moments later [])))
    ∙ shown-level w 0 (levels (map (λ x. x.deed) (steps_of task (moments later []))))
