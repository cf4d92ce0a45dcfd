-- What each instruction of a body that concerns its task alone does to the pieces and to the variables, as the definitions have it.
use Rattle.std.proofs.Common.{◌≡◌, ◌⊎◌, inl, inr, ◌<◌, ◌≤◌, ℕ, suc, ◌+◌, ◌-◌, ◌*◌, Bool, true, false, List, [], ◌∷◌, Some, length, set, refl, ap}
use Rattle.std.proofs.Common.{sym, subst, ◌∙◌, arith}
use Rattle.std.specs.Prelude.{drop, if◌then◌else◌, nat_le, slice_get}
use Rattle.std.proofs.lemmas.Bool.{le-leb, lt-leb}
use Rattle.std.proofs.lemmas.List.{length-set}
use Rattle.seq_tree.specs.Names.{Name}
use Rattle.seq_tree.specs.Expressions.{Expression}
use Rattle.seq_tree.specs.Values.{holds, value as value_by}
use Rattle.seq_tree.specs.Variables.{Variables, write}
use Rattle.machine.specs.Systems.{System}
use Rattle.machine.specs.Pieces.{Piece, after_loop, branch_pieces, pieces, turns}
use Rattle.machine.specs.Pieces as piece
use Rattle.machine.specs.Deeds as deeds
use Rattle.machine.specs.Deeds.{deed, done}
use Rattle.law_flat_code.specs.Codes.{block_size, in_turn, next_slot}
use Rattle.law_flat_code.specs.Following.{AgreeBelow, Goes, LeftAt, View, block_view}
use Rattle.law_flat_code.specs.Levels.{Levelled}
use Rattle.law_flat_code.specs.Withins.{scope_within, within}
use Rattle.law_flat_code.proofs.Shared.Ends.{block_ends}
use Rattle.law_flat_code.proofs.Shared.Follows.{levels_block}
use Rattle.linker.specs.Slots.{slot_at, vars_at}
use Rattle.linker.specs.declared.nodes.Operand.{Operand}
use Rattle.linker.proofs.Shared.Placing.{named, writes}
use Rattle.linker.proofs.Shared.Writing.{below, lower, set_here}
use Rattle.linker.specs.Leads.{Leads}
use Rattle.linker.specs.Scopes.{slots_of}
use Rattle.linker.specs.Standing.{Has, Lists, Reads}
use Rattle.linker.specs.declared.code.Ins.{Ins}
use Rattle.linker.specs.declared.code.Ins.TheVariants as ins
use Rattle.task_runtime.specs.Fitting.{spot_of}
use Rattle.task_runtime.specs.Bodies.{Body, counter_of, left_at, scope_at, size_of, turn_at, vars_here}
use Rattle.task_runtime.specs.Settling.{IsAmid}
use Rattle.task_runtime.specs.Sounds.{IsSound}
use Rattle.task_runtime.proofs.Heads.{Head, few_within, head_at, slots_long}
use Rattle.task_runtime.proofs.Orders.{order}
use Rattle.task_runtime.proofs.Instructions.{FollowsAs, ShowsAs, follows_as, is_ins, shows_as}
use Rattle.task_runtime.proofs.Shapes.{Shape, next_names, set_apart, shape_at, target_apart, target_under, turns_stay}

-- what the first piece at a place of a body does, whatever calls lead to: it goes on at another place, with these slots
pub record Steps (r : Body) (open' : Bool) (at : ℕ) (slots : List ℕ) (act : deeds.Act) (next' : Bool) (at' : ℕ) (slots' : List ℕ) : Type 0 where
  pub amid : IsAmid r.start r.block at'
  pub piece : Piece
  pub rest : List Piece
  pub first : left_at r open' at slots ≡ piece ∷ rest
  pub does : (z : System) → done z piece (vars_here r open' at slots) rest ≡ deed act (vars_here r next' at' slots') (left_at r next' at' slots')

module _ (y : System) (leads : Name → Name → Leads) (t : Lists) (last : Ins) (room : ℕ) (r : Body) (s : IsSound y leads t last room r)
    (slots : List ℕ) (long : size_of r ≤ length slots) (at : ℕ) (from : r.start ≤ at) where
  abbrev pub view : View
  view = block_view r.block 0 (λ turn. r.behind) (slots_of r.names)

  abbrev pub n : ℕ
  n = at - r.start

  abbrev pub turn : ℕ → ℕ
  turn = turn_at r.names slots

  -- the instruction there
  pub level_there : (open' : Bool) → n < block_size r.block
      → Levelled (Has leads t) view (block_size r.block) r.start n 0 open' 0 turn r.behind (slots_of r.names)
  level_there open' lt =
      levels_block r.block (Has leads t) (slots_of r.names) 0 r.start n open' 0 turn (λ z. r.behind) (λ a b agree. refl) s.stands lt

  place : r.start + n ≡ at
  place = omega (arith, from)

  abbrev pub As : (open' : Bool) (lt : n < block_size r.block) → Ins → Type 0
  As open' lt x = FollowsAs leads t view (block_size r.block) r.start n 0 open' turn r.behind (slots_of r.names) ((level_there open' lt).level)
      (left_at r open' at slots) x

  pub as_there : (open' : Bool) (lt : n < block_size r.block) (x : Ins) → slice_get t.ins at ≡ Some x → As open' lt x
  as_there open' lt x e =
      let l = level_there open' lt in
      follows_as leads t view (block_size r.block) r.start n 0 open' turn r.behind (slots_of r.names) l.level (left_at r open' at slots) l.ins x
      (is_ins leads t (view.scope false n) l.ins (r.start + n) x (subst (λ k. slice_get t.ins k ≡ Some x) (sym place) e) l.is) l.follows l.follows_at

  pub shows_there : (lt : n < block_size r.block) (x : Ins) → slice_get t.ins at ≡ Some x → ShowsAs leads t view n x
  shows_there lt x e =
      let l = level_there true lt in
      shows_as leads t view n (view.scope false n) l.ins x
      (is_ins leads t (view.scope false n) l.ins (r.start + n) x (subst (λ k. slice_get t.ins k ≡ Some x) (sym place) e) l.is) l.shows

  -- the scope there has few slots
  shape : (open' : Bool) (k : ℕ) → Shape r.names (scope_within r.block k open' (slots_of r.names))
  shape open' k = shape_at r.names r.block k open'

  pub few : (open' : Bool) (k : ℕ) → next_slot (scope_within r.block k open' (slots_of r.names)) ≤ length r.names + 192
  few open' k =
      let h = few_within (spot_of y r.chain) r.block k open' (slots_of r.names) s.fits in
      let e = next_names r.names in
      omega (arith, h, e)

  -- behind the instruction
  one_on : n < block_size r.block → suc n ≡ at + 1 - r.start
  one_on lt = omega (arith, from)

  pub next_left : n < block_size r.block → view.left true turn (suc n) ≡ left_at r true (at + 1) slots
  next_left lt = ap (λ k. within r.block k true 0 turn r.behind) (one_on lt)

  pub next_scope : n < block_size r.block → view.scope true (suc n) ≡ scope_at r true (at + 1)
  next_scope lt = ap (λ k. scope_within r.block k true (slots_of r.names)) (one_on lt)

  pub next_amid : n < block_size r.block → IsAmid r.start r.block (at + 1)
  next_amid lt = record { from = omega (arith, from); to = omega (arith, from, lt) }

  -- a piece that changes nothing
  goes_on : (lt : n < block_size r.block) (p : Piece) (act : deeds.Act) → Goes view n turn (left_at r true at slots) p
      → view.scope true n ≡ view.scope false n → ((z : System) (vs : Variables) (rest : List Piece) → done z p vs rest ≡ deed act vs rest)
      → Steps r true at slots act true (at + 1) slots
  goes_on lt p act g shown is = record {
    amid = next_amid lt;
    piece = p;
    rest = left_at r true (at + 1) slots;
    first = g.0 ∙ ap (λ ps. p ∷ ps) (next_left lt);
    does = λ z. is z (vars_here r true at slots) (left_at r true (at + 1) slots)
        ∙ ap (λ c. deed act (vars_at c slots) (left_at r true (at + 1) slots)) (shown ∙ sym g.1 ∙ next_scope lt);
  }

  pub null_steps : n < block_size r.block → slice_get t.ins at ≡ Some ins.Null → Steps r true at slots deeds.Silent true (at + 1) slots
  null_steps lt e = goes_on lt piece.Idle deeds.Silent (as_there true lt ins.Null e) (shows_there lt ins.Null e) (λ z vs rest. refl)

  pub work_steps : (ticks : ℕ) → n < block_size r.block → slice_get t.ins at ≡ Some (ins.Work ticks)
      → Steps r true at slots deeds.Silent true (at + 1) slots
  work_steps ticks lt e =
      goes_on lt (piece.Working ticks) deeds.Silent (as_there true lt (ins.Work ticks) e) (shows_there lt (ins.Work ticks) e) (λ z vs rest. refl)

  -- an operand stands for an expression there
  abbrev pub ReadsThere : Operand → Expression → Type 0
  ReadsThere o e = Reads t (scope_at r false at) o e

  pub put_reads : (o : Operand) → n < block_size r.block → slice_get t.ins at ≡ Some (ins.Put o) → (e : Expression) × ReadsThere o e
  put_reads o lt e = let h = as_there true lt (ins.Put o) e in (h.0, h.2)

  pub put_steps : (o : Operand) (v : ℕ) → (lt : n < block_size r.block) (is : slice_get t.ins at ≡ Some (ins.Put o))
      → ((e : Expression) → ReadsThere o e → v ≡ value_by e (vars_here r false at slots))
      → Steps r true at slots (deeds.Print v) true (at + 1) slots
  put_steps o v lt is known =
      let h = as_there true lt (ins.Put o) is in
      let shown = shows_there lt (ins.Put o) is in record {
        amid = next_amid lt;
        piece = piece.Printing h.0;
        rest = left_at r true (at + 1) slots;
        first = h.1.0 ∙ ap (λ ps. piece.Printing h.0 ∷ ps) (next_left lt);
        does = λ z. ap (λ c. deed (deeds.Print (value_by h.0 (vars_at c slots))) (vars_at c slots) (left_at r true (at + 1) slots)) shown
            ∙ ap (λ w. deed (deeds.Print w) (vars_here r false at slots) (left_at r true (at + 1) slots)) (sym (known h.0 h.2))
            ∙ ap (λ c. deed (deeds.Print v) (vars_at c slots) (left_at r true (at + 1) slots)) (sym h.1.1 ∙ next_scope lt);
      }

  -- what is left at a place of the body depends on the counts of the loops whose variables are there
  pub left_stays : (to : ℕ) (slots' : List ℕ) (level : ℕ) → IsAmid r.start r.block to → next_slot (scope_at r true to) ≡ length r.names + 2 * level
      → AgreeBelow level turn (turn_at r.names slots') → left_at r true to slots' ≡ left_at r true to slots
  left_stays to slots' level amid e agree = by (order (to - r.start) (block_size r.block))
    where
      k : ℕ
      k = to - r.start

      by : (k < block_size r.block) ⊎ (block_size r.block ≤ k) → left_at r true to slots' ≡ left_at r true to slots
      by (inl lt) =
          let l = levels_block r.block (Has leads t) (slots_of r.names) 0 r.start k true 0 turn (λ z. r.behind) (λ a b same. refl) s.stands lt in
          let first = next_names r.names in
          let shown = l.is_shown in
          l.depends (turn_at r.names slots') (λ j less. agree j (omega (arith, less, e, first, shown)))
      by (inr ge) =
          let le = amid.to in
          let end : k ≡ block_size r.block = omega (arith, ge, le) in
          ap (λ j. within r.block j true 0 (turn_at r.names slots') r.behind) end ∙ block_ends r.block true 0 (turn_at r.names slots') r.behind
          ∙ sym (ap (λ j. within r.block j true 0 turn r.behind) end ∙ block_ends r.block true 0 turn r.behind)

  abbrev scope_there : Variables
  scope_there = scope_at r false at

  abbrev shape_there : Shape r.names scope_there
  shape_there = shape false n

  spare : next_slot scope_there < length slots
  spare = let h = few false n in omega (arith, h, long)

  pub target_fits : (slot : ℕ) (o : Operand) → n < block_size r.block → slice_get t.ins at ≡ Some (ins.Assign slot o) → slot < length slots
  target_fits slot o lt is =
      let h = as_there true lt (ins.Assign slot o) is in
      let under = target_under h.0 scope_there shape_there.slots in
      let e = h.3 in
      omega (arith, e, under, spare)

  pub assign_reads : (slot : ℕ) (o : Operand) → n < block_size r.block → slice_get t.ins at ≡ Some (ins.Assign slot o)
      → (e : Expression) × ReadsThere o e
  assign_reads slot o lt is = let h = as_there true lt (ins.Assign slot o) is in (h.1, h.4)

  pub assign_steps : (slot : ℕ) (o : Operand) (v : ℕ) → n < block_size r.block → slice_get t.ins at ≡ Some (ins.Assign slot o)
      → ((e : Expression) → ReadsThere o e → v ≡ value_by e (vars_here r false at slots))
      → Steps r true at slots deeds.Silent true (at + 1) (set slots slot v)
  assign_steps slot o v lt is known =
      let h = as_there true lt (ins.Assign slot o) is in
      let shown = shows_there lt (ins.Assign slot o) is in
      let behind : scope_at r true (at + 1) ≡ scope_there = sym (next_scope lt) ∙ h.2.1 in
      let left = left_stays (at + 1) (set slots slot v) shape_there.level (next_amid lt) (ap next_slot behind ∙ shape_there.next)
      (turns_stay r.names shape_there.level slots slot v (λ j less e. target_apart r.names scope_there shape_there h.0 j less (sym h.3 ∙ e))) in
      let vars : vars_here r true (at + 1) (set slots slot v) ≡ write h.0 v (vars_at scope_there slots) =
      ap (λ c. vars_at c (set slots slot v)) behind ∙ ap (λ k. vars_at scope_there (set slots k v)) h.3
      ∙ writes h.0 v (next_slot scope_there) scope_there slots shape_there.slots spare in
      let rest = left_at r true (at + 1) (set slots slot v) in record {
        amid = next_amid lt;
        piece = piece.Store h.0 h.1;
        rest = rest;
        first = h.2.0 ∙ ap (λ ps. piece.Store h.0 h.1 ∷ ps) (next_left lt ∙ sym left);
        does = λ z. ap (λ c. deed deeds.Silent (write h.0 (value_by h.1 (vars_at c slots)) (vars_at c slots)) rest) shown
            ∙ ap (λ w. deed deeds.Silent (write h.0 w (vars_at scope_there slots)) rest) (sym (known h.1 h.4))
            ∙ ap (λ vs. deed deeds.Silent vs rest) (sym vars);
      }

  -- where a place of the body is led to
  module _ (to : ℕ) (turn' : ℕ → ℕ) (ps : List Piece) (c : Variables) (h : LeftAt view (block_size r.block) r.start to turn' ps c) where
    there : to - r.start ≡ h.at
    there = let e = h.place in omega (arith, e)

    land_amid : IsAmid r.start r.block to
    land_amid = record { from = (let e = h.place in omega (arith, e)); to = (let e = h.place in let le = h.inside in omega (arith, e, le)) }

    land_left : within r.block (to - r.start) true 0 turn' r.behind ≡ ps
    land_left = ap (λ k. within r.block k true 0 turn' r.behind) there ∙ sym h.pieces'

    land_scope : scope_at r true to ≡ c
    land_scope = ap (λ k. scope_within r.block k true (slots_of r.names)) there ∙ sym h.scope'

  pub test_reads : (o : Operand) (other : ℕ) → n < block_size r.block → slice_get t.ins at ≡ Some (ins.Test o other)
      → (e : Expression) × ReadsThere o e
  test_reads o other lt is = let h = as_there true lt (ins.Test o other) is in (h.0, h.2)

  pub test_holds : (o : Operand) (other : ℕ) → n < block_size r.block → slice_get t.ins at ≡ Some (ins.Test o other)
      → ((e : Expression) → ReadsThere o e → holds e (vars_here r false at slots) ≡ true) → Steps r true at slots deeds.Silent true (at + 1) slots
  test_holds o other lt is known =
      let h = as_there true lt (ins.Test o other) is in
      let f = h.1 in
      let shown = shows_there lt (ins.Test o other) is in
      let rest = left_at r true (at + 1) slots in record {
        amid = next_amid lt;
        piece = piece.Testing h.0 f.0 f.1;
        rest = f.2;
        first = f.3;
        does = λ z. ap (λ c. deed deeds.Silent (vars_at c slots) (if holds h.0
            (vars_at c slots) then pieces f.0 f.2 else branch_pieces f.1 f.2)) shown
            ∙ ap (λ b. deed deeds.Silent (vars_at scope_there slots) (if b then pieces f.0 f.2 else branch_pieces f.1 f.2)) (known h.0 h.2)
            ∙ ap (λ ps. deed deeds.Silent (vars_at scope_there slots) ps) (f.4 ∙ next_left lt)
            ∙ ap (λ c. deed deeds.Silent (vars_at c slots) rest) (sym f.5 ∙ next_scope lt);
      }

  pub test_fails : (o : Operand) (other : ℕ) → n < block_size r.block → slice_get t.ins at ≡ Some (ins.Test o other)
      → ((e : Expression) → ReadsThere o e → holds e (vars_here r false at slots) ≡ false) → Steps r true at slots deeds.Silent true other slots
  test_fails o other lt is known =
      let h = as_there true lt (ins.Test o other) is in
      let f = h.1 in
      let shown = shows_there lt (ins.Test o other) is in
      let rest = left_at r true other slots in record {
        amid = land_amid other turn (branch_pieces f.1 f.2) scope_there f.6;
        piece = piece.Testing h.0 f.0 f.1;
        rest = f.2;
        first = f.3;
        does = λ z. ap (λ c. deed deeds.Silent (vars_at c slots) (if holds h.0
            (vars_at c slots) then pieces f.0 f.2 else branch_pieces f.1 f.2)) shown
            ∙ ap (λ b. deed deeds.Silent (vars_at scope_there slots) (if b then pieces f.0 f.2 else branch_pieces f.1 f.2)) (known h.0 h.2)
            ∙ ap (λ ps. deed deeds.Silent (vars_at scope_there slots) ps) (sym (land_left other turn (branch_pieces f.1 f.2) scope_there f.6))
            ∙ ap (λ c. deed deeds.Silent (vars_at c slots) rest) (sym (land_scope other turn (branch_pieces f.1 f.2) scope_there f.6));
      }

  pub exit_reads : (o : Operand) (to : ℕ) → n < block_size r.block → slice_get t.ins at ≡ Some (ins.Exit o to)
      → (e : Expression) × ReadsThere o e
  exit_reads o to lt is = let h = as_there true lt (ins.Exit o to) is in (h.0, h.2)

  pub exit_fails : (o : Operand) (to : ℕ) → n < block_size r.block → slice_get t.ins at ≡ Some (ins.Exit o to)
      → ((e : Expression) → ReadsThere o e → holds e (vars_here r false at slots) ≡ false) → Steps r true at slots deeds.Silent true (at + 1) slots
  exit_fails o to lt is known =
      let h = as_there true lt (ins.Exit o to) is in
      let g = h.1.0 in
      let shown = shows_there lt (ins.Exit o to) is in
      let rest = left_at r true (at + 1) slots in record {
        amid = next_amid lt;
        piece = piece.Leaving h.0;
        rest = rest;
        first = g.0 ∙ ap (λ ps. piece.Leaving h.0 ∷ ps) (next_left lt);
        does = λ z. ap (λ c. if holds h.0 (vars_at c slots) then deed deeds.Silent (drop 1 (vars_at c slots)) (after_loop rest)
            else deed deeds.Silent (vars_at c slots) rest) shown
            ∙ ap (λ b. if b then deed deeds.Silent (drop 1 (vars_at scope_there slots)) (after_loop rest)
            else deed deeds.Silent (vars_at scope_there slots) rest) (known h.0 h.2)
            ∙ ap (λ c. deed deeds.Silent (vars_at c slots) rest) (sym g.1 ∙ next_scope lt);
      }

  less_one : (c : Variables) → vars_at (drop 1 c) slots ≡ drop 1 (vars_at c slots)
  less_one [] = refl
  less_one (v ∷ c) = refl

  pub exit_holds : (o : Operand) (to : ℕ) → n < block_size r.block → slice_get t.ins at ≡ Some (ins.Exit o to)
      → ((e : Expression) → ReadsThere o e → holds e (vars_here r false at slots) ≡ true) → Steps r true at slots deeds.Silent true to slots
  exit_holds o to lt is known = by h.1.1
    where
      h : As true lt (ins.Exit o to)
      h = as_there true lt (ins.Exit o to) is

      shown : view.scope true n ≡ view.scope false n
      shown = shows_there lt (ins.Exit o to) is

      inside_loop : length r.names < length (scope_at r true at)
      inside_loop = subst (Head y r.chain (length r.names) (scope_at r true at)) h.1.0.0 (head_at y leads t last room r s true at slots)

      by : LeftAt view (block_size r.block) r.start to turn (after_loop (view.left true turn (suc n))) (drop 1 (view.scope false n))
          ⊎ ((to ≡ 0) × (after_loop (view.left true turn (suc n)) ≡ after_loop r.behind) × (view.scope false n ≡ slots_of r.names))
          → Steps r true at slots deeds.Silent true to slots
      by (inl l) =
          let rest = view.left true turn (suc n) in record {
            amid = land_amid to turn (after_loop rest) (drop 1 scope_there) l;
            piece = piece.Leaving h.0;
            rest = rest;
            first = h.1.0.0;
            does = λ z. ap (λ c. if holds h.0 (vars_at c slots) then deed deeds.Silent (drop 1 (vars_at c slots)) (after_loop rest)
                else deed deeds.Silent (vars_at c slots) rest) shown
                ∙ ap (λ b. if b then deed deeds.Silent (drop 1 (vars_at scope_there slots)) (after_loop rest)
                else deed deeds.Silent (vars_at scope_there slots) rest) (known h.0 h.2)
                ∙ ap (λ ps. deed deeds.Silent (drop 1 (vars_at scope_there slots)) ps) (sym (land_left to turn (after_loop rest)
                (drop 1 scope_there) l))
                ∙ ap (λ vs. deed deeds.Silent vs (left_at r true to slots)) (sym (less_one scope_there))
                ∙ ap (λ c. deed deeds.Silent (vars_at c slots) (left_at r true to slots))
                (sym (land_scope to turn (after_loop rest) (drop 1 scope_there) l));
          }
      by (inr k) =
          let e = ap length (shown ∙ k.2) in
          let f = slots_long r.names in
          let lt' = inside_loop in
          absurd (omega (arith, e, f, lt'))

  -- the slot in which the turns of a loop there are counted
  module _ (open' : Bool) (lt : n < block_size r.block) where
    abbrev level : ℕ
    level = (level_there open' lt).level

    counter_is : next_slot scope_there ≡ counter_of r.names level
    counter_is =
        let e = (level_there open' lt).is_level in
        let f = next_names r.names in
        omega (arith, e, f)

    -- the two slots of such a loop get values
    module _ (counter value : ℕ) (is : counter ≡ next_slot scope_there) where
      abbrev turned : List ℕ
      turned = set slots (counter + 1) value

      turned_agrees : AgreeBelow level turn (turn_at r.names turned)
      turned_agrees = turns_stay r.names level slots (counter + 1) value (λ j less e. let c = counter_is in omega (arith, e, is, c, less))

      turned_count : turn_at r.names turned level ≡ turn level
      turned_count = set_apart slots (counter + 1) (counter_of r.names level) value (λ e. let c = counter_is in omega (arith, e, is, c))

      counted : List ℕ
      counted = set slots counter value

      counted_agrees : AgreeBelow level turn (turn_at r.names (set slots counter value))
      counted_agrees = turns_stay r.names level slots counter value (λ j less e. let c = counter_is in omega (arith, e, is, c, less))

      room_there : counter + 1 < length slots
      room_there = let h = few false n in omega (arith, h, long, is)

      counted_is : turn_at r.names (set slots counter value) level ≡ value
      counted_is =
          ap (λ k. slot_at (set slots counter value) k) (sym (is ∙ counter_is)) ∙ set_here slots counter value (omega (arith, room_there))

      -- the variable of a turn that begins
      turned_vars : (name : Name) → vars_at (in_turn name scope_there) turned ≡ (name, value) ∷ vars_at scope_there slots
      turned_vars name =
          let up : counter + 1 ≡ suc (next_slot scope_there) = omega (arith, is) in
          ap (λ k. vars_at (in_turn name scope_there) (set slots k value)) up
          ∙ named name value (suc (next_slot scope_there)) scope_there slots
          (lower (suc (next_slot scope_there)) (next_slot scope_there) scope_there (omega arith) shape_there.slots)
          (omega (arith, up, room_there))

      counted_vars : vars_at scope_there (set slots counter value) ≡ vars_at scope_there slots
      counted_vars = below (next_slot scope_there) scope_there slots counter value shape_there.slots (omega (arith, is))

  pub begin_fits : (counter low : ℕ) → n < block_size r.block → slice_get t.ins at ≡ Some (ins.Begin counter low) → counter + 1 < length slots
  begin_fits counter low lt is = let h = as_there true lt (ins.Begin counter low) is in room_there true lt counter low h.3

  pub next_fits : (open' : Bool) (counter last' start : ℕ) → n < block_size r.block → slice_get t.ins at ≡ Some (ins.Next counter last' start)
      → counter + 1 < length slots
  next_fits open' counter last' start lt is = let h = as_there open' lt (ins.Next counter last' start) is in room_there open' lt counter 0 h.1

  -- the next turn of a loop begins
  pub turn_steps : (counter last' start : ℕ) → n < block_size r.block → slice_get t.ins at ≡ Some (ins.Next counter last' start)
      → Steps r false at slots deeds.Silent true start (set slots (counter + 1) (slot_at slots counter))
  turn_steps counter last' start lt is =
      let h = as_there false lt (ins.Next counter last' start) is in
      let e = h.2 in
      let lev = level false lt in
      let value = slot_at slots counter in
      let slots' = set slots (counter + 1) value in
      let count : value ≡ turn lev = ap (slot_at slots) (h.1 ∙ counter_is false lt) in
      let agree = turned_agrees false lt counter value h.1 in
      let ps = pieces e.body (piece.Turned h.0 (turn_at r.names slots' lev) last' e.body ∷ e.rest) in
      let l = e.turned (turn_at r.names slots') agree in
      let same : ps ≡ pieces e.body (piece.Turned h.0 (turn lev) last' e.body ∷ e.rest) =
      ap (λ v. pieces e.body (piece.Turned h.0 v last' e.body ∷ e.rest)) (turned_count false lt counter value h.1) in
      let c = in_turn h.0 scope_there in record {
        amid = land_amid start (turn_at r.names slots') ps c l;
        piece = piece.Turning h.0 (turn lev) last' e.body;
        rest = e.rest;
        first = e.pieces';
        does = λ z. ap (λ v. deed deeds.Silent ((h.0, v) ∷ vars_at scope_there slots) (pieces e.body (piece.Turned h.0 (turn lev) last' e.body
            ∷ e.rest))) (sym count)
            ∙ ap (λ vs. deed deeds.Silent vs (pieces e.body (piece.Turned h.0 (turn lev) last' e.body ∷ e.rest)))
            (sym (ap (λ k. vars_at k slots') (land_scope start (turn_at r.names slots') ps c l) ∙ turned_vars false lt counter value h.1 h.0))
            ∙ ap (λ qs. deed deeds.Silent (vars_here r true start slots') qs) (sym (land_left start (turn_at r.names slots') ps c l ∙ same));
      }

  -- a turn ends, and the next one is counted
  pub turn_counts : (counter last' start : ℕ) → n < block_size r.block → slice_get t.ins at ≡ Some (ins.Next counter last' start)
      → slot_at slots counter < last' → Steps r true at slots deeds.Silent false at (set slots counter (slot_at slots counter + 1))
  turn_counts counter last' start lt is more =
      let h = as_there true lt (ins.Next counter last' start) is in
      let e = h.2 in
      let lev = level true lt in
      let value = slot_at slots counter in
      let slots' = set slots counter (value + 1) in
      let count : value ≡ turn lev = ap (slot_at slots) (h.1 ∙ counter_is true lt) in
      let up : value + 1 ≡ suc (turn lev) = omega (arith, count) in
      let agree = counted_agrees true lt counter (value + 1) h.1 in
      let goes : nat_le (suc (turn lev)) last' ≡ true = le-leb (suc (turn lev)) last' (omega (arith, more, count)) in
      let next' : piece.Turning h.0 (suc (turn lev)) last' e.body ∷ e.rest ≡ left_at r false at slots' =
      ap (λ v. piece.Turning h.0 v last' e.body ∷ e.rest) (sym (counted_is true lt counter (value + 1) h.1 ∙ up))
      ∙ e.again (turn_at r.names slots') agree in record {
        amid = record { from = from; to = omega (arith, from, lt) };
        piece = piece.Turned h.0 (turn lev) last' e.body;
        rest = e.rest;
        first = e.pieces';
        does = λ z. ap (λ c. deed deeds.Silent (drop 1 (vars_at c slots)) (turns h.0 (suc (turn lev)) last' e.body e.rest)) e.inner
            ∙ ap (λ b. deed deeds.Silent (vars_at scope_there slots) (if b then piece.Turning h.0 (suc
            (turn lev)) last' e.body ∷ e.rest else e.rest)) goes
            ∙ ap (λ qs. deed deeds.Silent (vars_at scope_there slots) qs) next'
            ∙ ap (λ vs. deed deeds.Silent vs (left_at r false at slots')) (sym (counted_vars true lt counter (value + 1) h.1));
      }

  -- the last turn ends
  pub turn_leaves : (counter last' start : ℕ) → n < block_size r.block → slice_get t.ins at ≡ Some (ins.Next counter last' start)
      → last' ≤ slot_at slots counter → Steps r true at slots deeds.Silent true (at + 1) slots
  turn_leaves counter last' start lt is none =
      let h = as_there true lt (ins.Next counter last' start) is in
      let e = h.2 in
      let lev = level true lt in
      let count : slot_at slots counter ≡ turn lev = ap (slot_at slots) (h.1 ∙ counter_is true lt) in
      let stops : nat_le (suc (turn lev)) last' ≡ false = lt-leb (suc (turn lev)) last' (omega (arith, none, count)) in record {
        amid = next_amid lt;
        piece = piece.Turned h.0 (turn lev) last' e.body;
        rest = e.rest;
        first = e.pieces';
        does = λ z. ap (λ c. deed deeds.Silent (drop 1 (vars_at c slots)) (turns h.0 (suc (turn lev)) last' e.body e.rest)) e.inner
            ∙ ap (λ b. deed deeds.Silent (vars_at scope_there slots) (if b then piece.Turning h.0 (suc (turn lev)) last' e.body ∷ e.rest else e.rest))
            stops
            ∙ ap (λ qs. deed deeds.Silent (vars_at scope_there slots) qs) (e.behind ∙ next_left lt)
            ∙ ap (λ c. deed deeds.Silent (vars_at c slots) (left_at r true (at + 1) slots)) (sym e.scope' ∙ next_scope lt);
      }

  -- the first turn of a loop begins
  pub begin_steps : (counter low : ℕ) → n < block_size r.block → slice_get t.ins at ≡ Some (ins.Begin counter low)
      → Steps r true at slots deeds.Silent true (at + 1) (set (set slots counter low) (counter + 1) low)
  begin_steps counter low lt is =
      let h = as_there true lt (ins.Begin counter low) is in
      let b = h.5 in
      let lev = level true lt in
      let c = counter_is true lt in
      let first' = set slots counter low in
      let slots' = set first' (counter + 1) low in
      let odd' : counter + 1 ≡ suc (counter_of r.names lev) = (let e = h.3 in omega (arith, e, c)) in
      let agree : AgreeBelow lev turn (turn_at r.names slots') =
      (λ k less. turns_stay r.names lev first' (counter + 1) low (λ j few' e. omega (arith, e, odd', few')) k less
      ∙ counted_agrees true lt counter low h.3 k less) in
      let begins : turn_at r.names slots' lev ≡ low =
      set_apart first' (counter + 1) (counter_of r.names lev) low (λ e. omega (arith, e, odd')) ∙ counted_is true lt counter low h.3 in
      let left : pieces b.body (piece.Turned h.0 low h.1 b.body ∷ b.rest) ≡ left_at r true (at + 1) slots' =
      b.turned (turn_at r.names slots') agree begins
      ∙ ap (λ k. within r.block k true 0 (turn_at r.names slots') r.behind) (one_on lt) in
      let up : counter + 1 ≡ suc (next_slot scope_there) = (let e = h.3 in omega (arith, e)) in
      let fits : suc (next_slot scope_there) < length first' =
      (let e = length-set slots counter low in let f = room_there true lt counter low h.3 in omega (arith, e, f, up)) in
      let vars : vars_here r true (at + 1) slots' ≡ (h.0, low) ∷ vars_at scope_there slots =
      ap (λ k. vars_at k slots') (sym (next_scope lt) ∙ b.scope')
      ∙ ap (λ k. vars_at (in_turn h.0 scope_there) (set first' k low)) up
      ∙ named h.0 low (suc (next_slot scope_there)) scope_there first'
      (lower (suc (next_slot scope_there)) (next_slot scope_there) scope_there (omega arith) shape_there.slots) fits
      ∙ ap (λ vs. (h.0, low) ∷ vs) (counted_vars true lt counter low h.3) in
      let shown = shows_there lt (ins.Begin counter low) is in record {
        amid = next_amid lt;
        piece = piece.Turning h.0 low h.1 b.body;
        rest = b.rest;
        first = b.pieces' ∙ ap (λ d. if d then piece.Turning h.0 low h.1 b.body ∷ b.rest else b.rest) h.4;
        does = λ z. ap (λ k. deed deeds.Silent ((h.0, low) ∷ vars_at k slots) (pieces b.body (piece.Turned h.0 low h.1 b.body ∷ b.rest))) shown
            ∙ ap (λ vs. deed deeds.Silent vs (pieces b.body (piece.Turned h.0 low h.1 b.body ∷ b.rest))) (sym vars)
            ∙ ap (λ qs. deed deeds.Silent (vars_here r true (at + 1) slots') qs) left;
      }
