-- The words of an event are read back as the event, where names of units and of their operations differ.
use Rattle.std.proofs.Common.{◌≡◌, ℕ, List, [], ◌∷◌, Option, Some, refl, ap, ◌∙◌}
use Rattle.std.specs.Prelude.{codes, decimal, option_map, option_and_then}
use Rattle.ada_tree.specs.Programs.{Program}
use Rattle.ada_tree.specs.Rules.{MeetsRules}
use Rattle.trace_tree.specs.Lines.{unit_name, op_name, value_words, option_words, words}
use Rattle.trace_tree.specs.Placed.{IsUnit, IsOp}
use Rattle.trace_tree.specs.declared.event.Event.{Event}
use Rattle.trace_tree.specs.declared.event.Event.TheVariants as event
use Rattle.law_traces.specs.Told.{HasPlainNames, IsTicks, IsWord, AreWords, IsEvent}
use Rattle.law_traces.specs.Cuts.{cut}
use Rattle.law_traces.proofs.Shared.Words.{cut-front, cut-last}
use Rattle.law_traces.proofs.Shared.Events.{unit-plain, op-plain}
use Rattle.trace_read.specs.declared.kind.Kind.{Kind}
use Rattle.trace_read.specs.declared.kind.Kind.TheVariants.{Release, Arrive, Enter, Leave, Request, Print, End, Stop, Horizon}
use Rattle.trace_read.specs.Names.{unit_of_name, op_of_name}
use Rattle.trace_read.specs.Reading.{Bytes, with_word, maybe_value, values_of, kind_of, op_of, passage_of, request_of, used_of, level_of, stop_of}
use Rattle.trace_read.specs.Reading.{deed_of, happens, event_of}
use Rattle.trace_read.proofs.Numerals.{number-back, value-back, maybe-back, values-back}
use Rattle.trace_read.proofs.Placing.{unit-back, op-name, op-back}

module _ (p : Program) (meets : MeetsRules p) (plain : HasPlainNames p) where
  begun : (time : ℕ) → IsTicks time → (k : Kind) (w : Bytes) (others : List Bytes) → kind_of w ≡ Some k
      → event_of p (decimal time ∷ w ∷ others) ≡ happens p time k others
  unfolding event_of
  begun time h k w others e =
      ap (λ o. option_and_then (λ t. option_and_then (λ z. happens p t z others) (kind_of w)) o) (number-back time h)
      ∙ ap (λ o. option_and_then (λ z. happens p time z others) o) e

  done : (time task : ℕ) → IsUnit p task → (k : Kind) (ws : List Bytes)
      → option_and_then (λ t. deed_of p time t k ws) (unit_of_name p (unit_name p task)) ≡ deed_of p time task k ws
  done time task h k ws = ap (λ o. option_and_then (λ t. deed_of p time t k ws) o) (unit-back p meets task h)

  named-op : (unit op : ℕ) → IsUnit p unit → IsOp p unit op → op_of p (op_name p unit op) ≡ Some (unit, op)
  unfolding op_of op_name
  named-op unit op h i =
      let pieces : cut 46 (op_name p unit op) ≡ unit_name p unit ∷ op-name p unit op ∷ [] =
      cut-front 46 (unit_name p unit) (op-name p unit op) (unit-plain p plain unit).2
      ∙ ap (λ ws. unit_name p unit ∷ ws) (cut-last 46 (op-name p unit op) (op-plain p plain unit op).2) in
      ap (λ ws. with_word ws (λ object more. option_and_then (λ u. with_word more (λ o _. option_map (λ z. (u, z)) (op_of_name p u o)))
      (unit_of_name p object))) pieces
      ∙ ap (λ z. option_and_then (λ u. option_map (λ x. (u, x)) (op_of_name p u (op-name p unit op))) z) (unit-back p meets unit h)
      ∙ ap (λ z. option_map (λ x. (unit, x)) z) (op-back p meets unit op h i)

  passed : (unit op : ℕ) (values : List ℕ) → IsUnit p unit → IsOp p unit op → AreWords values
      → passage_of p (op_name p unit op ∷ value_words values) ≡ Some ((unit, op), values)
  unfolding passage_of
  passed unit op values h i k =
      ap (λ o. option_and_then (λ z. option_map (λ v. (z, v)) (values_of (value_words values))) o) (named-op unit op h i)
      ∙ ap (λ o. option_map (λ v. ((unit, op), v)) o) (values-back values k)

  abbrev Back : Event → Type 0
  Back e = event_of p (words p e) ≡ Some e

  pub event-back : (e : Event) → IsEvent p e → event_of p (words p e) ≡ Some e
  unfolding words kind_of happens deed_of request_of used_of level_of stop_of
  event-back (event.Release time task v) h =
      begun time h.1.0 Release (codes "release") (unit_name p task ∷ option_words v) refl
      ∙ done time task h.0 Release (option_words v)
      ∙ ap (λ o. option_map (λ x. event.Release time task x) o) (maybe-back v h.1.1)
  event-back (event.Arrive time task v) h =
      begun time h.1.0 Arrive (codes "arrive") (unit_name p task ∷ option_words v) refl
      ∙ done time task h.0 Arrive (option_words v)
      ∙ ap (λ o. option_map (λ x. event.Arrive time task x) o) (maybe-back v h.1.1)
  event-back (event.Enter time task unit op values) h =
      begun time h.1.0 Enter (codes "enter") (unit_name p task ∷ op_name p unit op ∷ value_words values) refl
      ∙ done time task h.0.0 Enter (op_name p unit op ∷ value_words values)
      ∙ ap (λ o. option_map (λ x. event.Enter time task x.0.0 x.0.1 x.1) o) (passed unit op values h.0.1 h.0.2 h.1.1)
  event-back (event.Leave time task unit op values) h =
      begun time h.1.0 Leave (codes "leave") (unit_name p task ∷ op_name p unit op ∷ value_words values) refl
      ∙ done time task h.0.0 Leave (op_name p unit op ∷ value_words values)
      ∙ ap (λ o. option_map (λ x. event.Leave time task x.0.0 x.0.1 x.1) o) (passed unit op values h.0.1 h.0.2 h.1.1)
  event-back (event.Request time task target v) h =
      begun time h.1.0 Request (codes "request") (unit_name p task ∷ unit_name p target ∷ option_words v) refl
      ∙ done time task h.0.0 Request (unit_name p target ∷ option_words v)
      ∙ ap (λ o. option_map (λ (x : ℕ × Option ℕ). event.Request time task x.0 x.1) (option_and_then (λ u. option_map (λ z. (u, z)) (maybe_value (option_words v))) o))
      (unit-back p meets target h.0.1)
      ∙ ap (λ o. option_map (λ (x : ℕ × Option ℕ). event.Request time task x.0 x.1) (option_map (λ z. (target, z)) o)) (maybe-back v h.1.1)
  event-back (event.Print time task v) h =
      begun time h.1.0 Print (codes "put") (unit_name p task ∷ decimal v ∷ []) refl
      ∙ done time task h.0 Print (decimal v ∷ [])
      ∙ ap (λ o. option_map (λ x. event.Print time task x) o) (value-back v h.1.1)
  event-back (event.End time task used) h =
      begun time h.1.0 End (codes "end") (unit_name p task ∷ codes "used" ∷ decimal used ∷ []) refl
      ∙ done time task h.0 End (codes "used" ∷ decimal used ∷ [])
      ∙ ap (λ o. option_map (λ x. event.End time task x) o) (number-back used h.1.1)
  event-back (event.Stop time task unit priority ceiling) h =
      let tail : List Bytes = codes "ceiling" ∷ decimal ceiling ∷ [] in
      begun time h.1.0 Stop (codes "stop") (unit_name p task ∷ unit_name p unit ∷ codes "priority" ∷ decimal priority ∷ tail) refl
      ∙ done time task h.0.0 Stop (unit_name p unit ∷ codes "priority" ∷ decimal priority ∷ tail)
      ∙ ap (λ o. option_map (λ (s : ℕ × ℕ × ℕ). event.Stop time task s.0 s.1 s.2) o) (stopped tail unit priority ceiling h.0.1 h.1.1 h.1.2 (level ceiling h.1.2 (codes "ceiling") []))
    where
      level : (n : ℕ) → IsWord n → (w : Bytes) (more : List Bytes) → level_of (w ∷ decimal n ∷ more) ≡ Some (n, more)
      level n i w more = ap (λ o. option_map (λ x. (x, more)) o) (value-back n i)

      stopped : (tail : List Bytes) (unit priority ceiling : ℕ) → IsUnit p unit → IsWord priority → IsWord ceiling
          → level_of tail ≡ Some (ceiling, [])
          → stop_of p (unit_name p unit ∷ codes "priority" ∷ decimal priority ∷ tail) ≡ Some (unit, priority, ceiling)
      stopped tail unit priority ceiling u i j e =
          ap (λ o. option_and_then (λ z. option_and_then (λ first. option_map (λ second. (z, first.0, second.0)) (level_of first.1))
          (level_of (codes "priority" ∷ decimal priority ∷ tail))) o) (unit-back p meets unit u)
          ∙ ap (λ o. option_and_then (λ first. option_map (λ second. (unit, first.0, second.0)) (level_of first.1)) o) (level priority i (codes "priority") tail)
          ∙ ap (λ o. option_map (λ second. (unit, priority, second.0)) o) e
  event-back (event.Horizon time) h = begun time h.1 Horizon (codes "horizon") [] refl
