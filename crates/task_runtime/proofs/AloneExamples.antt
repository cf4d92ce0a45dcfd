-- Examples: which instructions and pieces are nothing to others, when a task can go on alone, and when its ticks are spent.
use Rattle.std.proofs.Common.{◌≡◌, ℕ, inl, inr, true, false, Some, None, refl, arith}
use Rattle.linker.specs.Callees.{OpBody}
use Rattle.linker.specs.declared.code.Ins.TheVariants as ins
use Rattle.linker.specs.declared.program.LinkedUnits.{LinkedUnits}
use Rattle.task_runtime.specs.Alongs.{IsSpent, can_go, goes_alone, has_no_owner, is_alone}
use Rattle.task_runtime.specs.declared.piece.Piece.TheVariants as is
use Rattle.task_runtime.specs.declared.task.Task.{Task}

-- an operation that no protected object has, one that an object has, and a place with none
plain_operation : (b : OpBody) → has_no_owner (Some (record b { owner = None })) ≡ true
plain_operation b = refl

protected_operation : (b : OpBody) (k : ℕ × ℕ) → has_no_owner (Some (record b { owner = Some k })) ≡ false
protected_operation b k = refl

no_operation : has_no_owner None ≡ true
no_operation = refl

-- instructions
null_alone : (c : LinkedUnits) → is_alone c ins.Null ≡ true
null_alone c = refl

request_not : (c : LinkedUnits) (task : ℕ) → is_alone c (ins.Request task None) ≡ false
request_not c task = refl

finish_not : (c : LinkedUnits) → is_alone c ins.Finish ≡ false
finish_not c = refl

-- pieces
turn_alone : (c : LinkedUnits) (counter start : ℕ) → goes_alone c (Some (is.Turn counter start)) ≡ true
turn_alone c counter start = refl

close_not : (c : LinkedUnits) → goes_alone c (Some is.Close) ≡ false
close_not c = refl

none_not : (c : LinkedUnits) → goes_alone c None ≡ false
none_not c = refl

finish_piece_not : (c : LinkedUnits) → goes_alone c (Some (is.Here ins.Finish)) ≡ false
finish_piece_not c = refl

-- a task
goes : (c : LinkedUnits) (t : Task) → t.left ≡ 0 → t.progress.piece ≡ Some (is.Here ins.Null) → can_go c t ≡ true
goes c t left piece = rw left (rw piece refl)

waits : (c : LinkedUnits) (t : Task) → t.left ≡ 1 → can_go c t ≡ false
waits c t left = rw left refl

stands : (c : LinkedUnits) (t : Task) → t.left ≡ 0 → t.progress.piece ≡ Some is.Close → can_go c t ≡ false
stands c t left piece = rw left (rw piece refl)

-- ticks
all_used : (t : Task) → t.left ≡ 0 → IsSpent 5 3 t
all_used t left = inl left

too_long : (t : Task) → t.left ≡ 3 → IsSpent 5 3 t
too_long t left = inr (omega (arith, left))

fits : (t : Task) → t.left ≡ 2 → IsSpent 5 3 t → ⊥
fits t left (inl none) = absurd (omega (arith, left, none))
fits t left (inr more) = absurd (omega (arith, left, more))
