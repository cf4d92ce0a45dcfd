-- A jump inside a body leads forwards, to a place from which the same pieces are left, in the same scope.
use Rattle.std.proofs.Common.{◌≡◌, ◌⊎◌, inl, inr, ◌<◌, ◌≤◌, ℕ, ◌+◌, ◌-◌, true, false, List, [], Some, refl, ap, sym, subst, ◌∙◌, arith}
use Rattle.std.specs.Prelude.{slice_get}
use Rattle.machine.specs.Pieces.{Piece}
use Rattle.law_flat_code.specs.Codes.{block_size}
use Rattle.law_flat_code.specs.Following.{View, block_view}
use Rattle.law_flat_code.specs.Levels.{Levelled}
use Rattle.law_flat_code.specs.Withins.{scope_within, within}
use Rattle.law_flat_code.proofs.Shared.Follows.{levels_block}
use Rattle.linker.specs.Standing.{Has, Lists}
use Rattle.linker.specs.declared.code.Ins.TheVariants as ins
use Rattle.task_runtime.specs.Settling.{IsAmid, IsSomewhere, Settles, Still, Stood}
use Rattle.task_runtime.proofs.Instructions.{FollowsAs, follows_as, is_ins, shows_as}
use Rattle.task_runtime.proofs.Orders.{order}

module _ (t : Lists) (s : Stood t) (at to : ℕ) (amid : IsAmid s.start s.block at) (is : slice_get t.ins at ≡ Some (ins.Jump to)) where
  abbrev n : ℕ
  n = at - s.start

  before_end : n < block_size s.block
  before_end = by (order n (block_size s.block))
    where
      by : (n < block_size s.block) ⊎ (block_size s.block ≤ n) → n < block_size s.block
      by (inl lt) = lt
      by (inr ge) =
          let le = amid.to in
          let from = amid.from in
          let end : s.start + block_size s.block ≡ at = omega (arith, ge, le, from) in
          absurd (subst Still (ap (slice_get t.ins) end ∙ is) s.ends)

  module _ (turn : ℕ → ℕ) (rest : List Piece) where
    abbrev view : View
    view = block_view s.block 0 (λ z. rest) s.scope

    there : Levelled (Has s.leads t) view (block_size s.block) s.start n 0 true 0 turn rest s.scope
    there = levels_block s.block (Has s.leads t) s.scope 0 s.start n true 0 turn (λ z. rest) (λ a b agree. refl) s.stands before_end

    same_place : at ≡ s.start + n
    same_place = let from = amid.from in omega (arith, from)

    jump_as : FollowsAs s.leads t view (block_size s.block) s.start n 0 true turn rest s.scope there.level
        (within s.block n true 0 turn rest) (ins.Jump to)
    jump_as =
        follows_as s.leads t view (block_size s.block) s.start n 0 true turn rest s.scope there.level (within s.block n true 0 turn rest) there.ins
        (ins.Jump to)
        (is_ins s.leads t (view.scope false n) there.ins (s.start + n) (ins.Jump to) (subst (λ k. slice_get t.ins k
        ≡ Some (ins.Jump to)) same_place is)
        there.is) there.follows there.follows_at

    shown : view.scope true n ≡ view.scope false n
    shown = shows_as s.leads t view n (view.scope false n) there.ins (ins.Jump to)
        (is_ins s.leads t (view.scope false n) there.ins (s.start + n) (ins.Jump to) (subst (λ k. slice_get t.ins k
        ≡ Some (ins.Jump to)) same_place is)
        there.is) there.shows

    index : to - s.start ≡ jump_as.0.at
    index = let e = jump_as.0.place in omega (arith, e)

    same_pieces : within s.block n true 0 turn rest ≡ within s.block (to - s.start) true 0 turn rest
    same_pieces = jump_as.0.pieces' ∙ ap (λ k. within s.block k true 0 turn rest) (sym index)

    same_scopes : scope_within s.block n true s.scope ≡ scope_within s.block (to - s.start) true s.scope
    same_scopes = shown ∙ jump_as.0.scope' ∙ ap (λ k. scope_within s.block k true s.scope) (sym index)

    forward : at < to
    forward = let lt = jump_as.1 in let e = same_place in omega (arith, lt, e)

    amid_there : IsAmid s.start s.block to
    amid_there =
        let e = jump_as.0.place in
        let le = jump_as.0.inside in
        record { from = omega (arith, e); to = omega (arith, e, le) }

-- a place without a jump
pub settles_here : (t : Lists) (at : ℕ) → Settles t at at
settles_here t at s amid = record { amid = amid; pieces = λ turn rest. refl; scope = refl }

-- a place with one
pub settles_on : (t : Lists) (at to end : ℕ) → slice_get t.ins at ≡ Some (ins.Jump to) → Settles t to end → Settles t at end
settles_on t at to end is more s amid =
    let there' = amid_there t s at to amid is (λ k. 0) [] in
    let l = more s there' in
    record {
      amid = l.amid;
      pieces = λ turn rest. same_pieces t s at to amid is turn rest ∙ l.pieces turn rest;
      scope = same_scopes t s at to amid is (λ k. 0) [] ∙ l.scope;
    }

pub somewhere_on : (t : Lists) (at to : ℕ) → slice_get t.ins at ≡ Some (ins.Jump to) → IsSomewhere t at → IsSomewhere t to
somewhere_on t at to is h = (h.0, amid_there t h.0 at to h.1 is (λ k. 0) [])

pub jump_forward : (t : Lists) (at to : ℕ) → slice_get t.ins at ≡ Some (ins.Jump to) → IsSomewhere t at → at < to
jump_forward t at to is h = forward t h.0 at to h.1 is (λ k. 0) []
