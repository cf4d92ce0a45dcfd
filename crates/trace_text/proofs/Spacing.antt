-- Words with one space between them, as the code adds them: the first, and then each with the space before it.
use Rattle.std.proofs.Common.{◌≡◌, ℕ, List, [], ◌∷◌, ◌++◌, refl, sym, ap, append_assoc, ◌∙◌}
use Rattle.std.proofs.lemmas.List.{append-nil}
use Rattle.std.specs.List.{join_with_byte}
use Rattle.std.specs.Prelude.{codes, decimal}
use Rattle.ada_tree.specs.Programs.{Program}
use Rattle.trace_tree.specs.Lines.{op_name, option_words, unit_name, value_words, words}
use Rattle.trace_tree.specs.declared.event.Event.{Event}
use Rattle.trace_tree.specs.declared.event.Event.TheVariants.{Release, Arrive, Enter, Leave, Request, Print, End, Stop, Horizon}
use Rattle.trace_text.specs.Spaced.{first_words, other_words, spaced}

-- what is behind the first word
pub joined : (w : List ℕ) (ws : List (List ℕ)) → join_with_byte 32 (w ∷ ws) ≡ w ++ spaced ws
joined w [] = sym (append-nil w)
joined w (v ∷ ws) = ap (λ t. w ++ (32 ∷ t)) (joined v ws)

-- words behind words
pub spaced-append : (xs ys : List (List ℕ)) → spaced (xs ++ ys) ≡ spaced xs ++ spaced ys
spaced-append [] ys = refl
spaced-append (x ∷ xs) ys = ap (λ t. 32 ∷ (x ++ t)) (spaced-append xs ys) ∙ ap (λ t. 32 ∷ t) (sym (append_assoc x (spaced xs) (spaced ys)))

-- words behind those that a line begins with
joined-append : (w : List ℕ) (ws vs : List (List ℕ)) → join_with_byte 32 (w ∷ (ws ++ vs)) ≡ join_with_byte 32 (w ∷ ws) ++ spaced vs
joined-append w ws vs =
    joined w (ws ++ vs)
    ∙ ap (λ t. w ++ t) (spaced-append ws vs)
    ∙ sym (append_assoc w (spaced ws) (spaced vs))
    ∙ ap (λ t. t ++ spaced vs) (sym (joined w ws))

-- the words of an event's line are the first and the others
pub words-parts : (p : Program) (e : Event) → join_with_byte 32 (words p e) ≡ join_with_byte 32 (first_words p e) ++ spaced (other_words p e)
unfolding words
words-parts p (Release time task value) = joined-append (decimal time) (codes "release" ∷ unit_name p task ∷ []) (option_words value)
words-parts p (Arrive time task value) = joined-append (decimal time) (codes "arrive" ∷ unit_name p task ∷ []) (option_words value)
words-parts p (Enter time task unit op values) =
    joined-append (decimal time) (codes "enter" ∷ unit_name p task ∷ []) (op_name p unit op ∷ value_words values)
words-parts p (Leave time task unit op values) =
    joined-append (decimal time) (codes "leave" ∷ unit_name p task ∷ []) (op_name p unit op ∷ value_words values)
words-parts p (Request time task target value) =
    joined-append (decimal time) (codes "request" ∷ unit_name p task ∷ []) (unit_name p target ∷ option_words value)
words-parts p (Print time task value) = joined-append (decimal time) (codes "put" ∷ unit_name p task ∷ []) (decimal value ∷ [])
words-parts p (End time task used) = joined-append (decimal time) (codes "end" ∷ unit_name p task ∷ []) (codes "used" ∷ decimal used ∷ [])
words-parts p (Stop time task unit priority ceiling) =
    joined-append (decimal time) (codes "stop" ∷ unit_name p task ∷ [])
    (unit_name p unit ∷ codes "priority" ∷ decimal priority ∷ codes "ceiling" ∷ decimal ceiling ∷ [])
words-parts p (Horizon time) = joined-append (decimal time) (codes "horizon" ∷ []) []

pub ruleset spaced_steps = (spaced-append, append_assoc)

pub ruleset joined_steps = (joined, append_assoc)

pub ruleset line_steps = (words-parts)

pub ruleset append_steps = (append_assoc)
