-- What is found of the items of a text: what they say of a program, or the first of them in which something is wrong.
-- Durations stand before requests.
use Rattle.std.specs.Prelude.{◌≡◌, ℕ, Option, Some, None, Result, Ok, Err, ⊤}
use Rattle.seq_tree.specs.Names.{Name}
use Rattle.token_read.specs.Lexemes.{word_bytes}
use Rattle.arrivals_tree.specs.Acceptance.{Falling, Unknown, Unfit, Early}
use Rattle.arrivals_tree.specs.Arriving.{Durations}
use Rattle.arrivals_tree.specs.FirstWrong.{Wrong}
use Rattle.arrivals_tree.specs.declared.arrivals.WorkList.{WorkList}
use Rattle.arrivals_read.specs.declared.items.Refusal.{Refusal}
use Rattle.arrivals_read.specs.declared.items.Refusal.TheVariants as refusal
use Rattle.arrivals_read.specs.declared.checks.Cause.{Cause}
use Rattle.arrivals_read.specs.declared.fault.ArrivalFault.{ArrivalFault}
use Rattle.arrivals_read.specs.declared.fault.ArrivalFault.TheVariants as told
use Rattle.arrivals_read.specs.Checked.{fault_named}

-- durations for a task
abbrev pub durations_of : WorkList → Durations
durations_of w = record { task = w.task; ticks = w.ticks.items }

-- what was found: the value, by a view, where nothing is wrong, or else what is
abbrev pub Finds : {X V : Type 0} → (X → V) → Result X Refusal → Option Wrong → V → Type 0
Finds view (Ok x) wrong value = (wrong ≡ None) × (view x ≡ value)
Finds view (Err (refusal.Wrong cause name before)) wrong value
    = wrong ≡ Some (record { fault = fault_named cause; name = word_bytes name; before = before })
Finds view (Err refusal.NoMemory) wrong value = ⊤

-- what is told of an item of this name in this line; want of memory tells nothing
abbrev pub Tells : Cause → ℕ → Name → ArrivalFault → Type 0
Tells cause line name (told.Text fault) = ⊥
Tells cause line name (told.Q1 at) = (fault_named cause ≡ Falling) × (at ≡ line)
Tells cause line name (told.Q2 at of) = (fault_named cause ≡ Unknown) × (at ≡ line) × (of ≡ name)
Tells cause line name (told.Q3 at of) = (fault_named cause ≡ Early) × (at ≡ line) × (of ≡ name)
Tells cause line name (told.Q4 value limit) = ⊥
Tells cause line name (told.Q5 at) = (fault_named cause ≡ Unfit) × (at ≡ line)
Tells cause line name told.NoMemory = ⊤
