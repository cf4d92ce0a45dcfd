-- The end of an activation: nothing is left to do, and of the variables the data of the task are kept.
use Rattle.std.proofs.Common.{◌≡◌, ◌⊎◌, inl, inr, ◌<◌, ◌≤◌, ℕ, ◌+◌, ◌-◌, true, List, [], ◌∷◌, Some, None, refl, ap, sym, ◌∙◌, arith}
use Rattle.std.specs.Prelude.{slice_get}
use Rattle.std.proofs.lemmas.Option.{same_Some}
use Rattle.seq_tree.specs.Variables.{kept}
use Rattle.machine.specs.Deeds as deeds
use Rattle.machine.specs.Pieces as pieces
use Rattle.law_flat_code.specs.Codes.{block_size}
use Rattle.law_flat_code.specs.Withins.{scope_within, within}
use Rattle.law_flat_code.proofs.Shared.Ends.{block_ends, scope_ends}
use Rattle.linker.specs.Slots.{vars_at}
use Rattle.linker.specs.Programs.{param_names}
use Rattle.linker.specs.Scopes.{slots_of}
use Rattle.linker.specs.Standing.{lists_of}
use Rattle.linker.specs.declared.code.Ins.TheVariants as ins
use Rattle.linker.specs.declared.program.LinkedUnits.{LinkedUnits}
use Rattle.task_runtime.specs.Written.{reserve, system_of, timing_of}
use Rattle.task_runtime.specs.Bodies.{Body, first_body, running, turn_at}
use Rattle.task_runtime.specs.Doings.{DoesFirst}
use Rattle.task_runtime.specs.Lefts.{pieces_left, running_of, vars_left}
use Rattle.task_runtime.specs.Sounds.{IsAtWork}
use Rattle.task_runtime.specs.declared.piece.Frame.{Frame}
use Rattle.task_runtime.specs.declared.piece.Piece.TheVariants as is
use Rattle.task_runtime.specs.declared.progress.Progress.{Progress}
use Rattle.task_runtime.specs.declared.stack.Stack.{Stack}
use Rattle.task_runtime.proofs.Arrivals.{sound_running}
use Rattle.task_runtime.proofs.Begun.{here_vars, ins_there, left_here}
use Rattle.task_runtime.proofs.Calls.{long_here}
use Rattle.task_runtime.proofs.Distinct.{kept_slots}
use Rattle.task_runtime.proofs.Orders.{order}
use Rattle.task_runtime.proofs.Stacks.{last_by, room_by}
use Rattle.task_runtime.proofs.Steps.{as_there}
use Rattle.machine.specs.Systems.{request_params}

returns_last : (fs : List Frame) → last_by ins.Return fs ≡ ins.Return
returns_last [] = refl
returns_last (f ∷ fs) = returns_last fs

finish_last : (fs : List Frame) → last_by ins.Finish fs ≡ ins.Finish → fs ≡ []
finish_last [] e = refl
finish_last (f ∷ fs) e = absurd (no (sym (returns_last fs) ∙ e))
  where
    no : ins.Return ≡ ins.Finish → ⊥
    no k = cc

module _ (c : LinkedUnits) (p : Progress) (h : IsAtWork c p) (e : p.piece ≡ Some (is.Here ins.Finish)) where
  abbrev s : Stack
  s = p.stack

  abbrev r : Body
  r = running_of s

  abbrev here : List ℕ
  here = s.slots.here

  there : slice_get (lists_of c.code).ins p.at ≡ Some ins.Finish
  there = ins_there c p h ins.Finish e

  at_end : p.at - r.start ≡ block_size r.block
  at_end = by (order (p.at - r.start) (block_size r.block))
    where
      by : (p.at - r.start < block_size r.block) ⊎ (block_size r.block ≤ p.at - r.start) → p.at - r.start ≡ block_size r.block
      by (inl lt) = absurd (as_there (system_of s.thread) h.stacked.linked.leads (lists_of c.code) (last_by ins.Finish s.frames.items)
          (room_by (reserve s.thread) s.frames.items) r (sound_running c s h.stacked) here (long_here c s h.stacked) p.at h.amid.from true lt
          ins.Finish there)
      by (inr ge) = let le = h.amid.to in omega (arith, ge, le)

  no_frames : s.frames.items ≡ []
  no_frames =
      let from = h.amid.from in
      let k = at_end in
      let end : r.start + block_size r.block ≡ p.at = omega (arith, from, k) in
      finish_last s.frames.items (same_Some (last_by ins.Finish s.frames.items) ins.Finish
      (sym (sound_running c s h.stacked).ends ∙ ap (slice_get (lists_of c.code).ins) end ∙ there))

  bare : r ≡ first_body s.thread s.start
  bare = ap (λ fs. running (first_body s.thread s.start) fs s.slots.away) no_frames

  abbrev pub rested : Progress
  rested = record p { piece = None }

  pub finish_at_work : IsAtWork c rested
  finish_at_work = record { stacked = h.stacked; amid = h.amid; piece = no_frames }

  finish_left : pieces_left p ≡ pieces.Finishing ∷ []
  finish_left =
      left_here p ins.Finish e ∙ ap (λ k. within r.block k true 0 (turn_at r.names here) r.behind) at_end
      ∙ block_ends r.block true 0 (turn_at r.names here) r.behind ∙ ap (λ (b : Body). b.behind) bare

  pub finish_does : DoesFirst (system_of s.thread) (pieces_left p) (vars_left p) deeds.Finish (vars_left p) []
  finish_does = record { piece = pieces.Finishing; rest = []; first = finish_left; does = λ y alike. refl }

  pub finish_keeps : vars_left rested ≡ kept s.thread.«data».now (vars_left p)
  finish_keeps =
      let ns = param_names (request_params (timing_of s.thread.timing)) in
      sym (kept_slots ns s.thread.«data».now here h.stacked.works.distinct)
      ∙ ap (λ vs. kept s.thread.«data».now vs)
      (sym (here_vars p ins.Finish e ∙ ap (λ k. vars_at (scope_within r.block k true (slots_of r.names)) here) at_end
      ∙ ap (λ k. vars_at k here) (scope_ends r.block true (slots_of r.names)) ∙ ap (λ (b : Body). vars_at (slots_of b.names) here) bare))
