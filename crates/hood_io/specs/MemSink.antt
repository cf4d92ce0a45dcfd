-- What a sink in memory was given, the room that is left in it, and what one write takes at most.
-- A write takes as much as there is room for, up to that, and fails only where there is no room.
use Rattle.std.specs.Prelude.{◌≡◌, ℕ, ◌<◌, ◌-◌, min, List, length, Result, Ok, Err}
use Rattle.hood_io.specs.declared.mem_sink.MemSink.{MemSink}
use Rattle.hood_io.specs.Causes.{raised}

abbrev pub bytes_of : MemSink → List ℕ
bytes_of s = s.bytes.items

-- how many bytes it takes in all
abbrev pub room_of : MemSink → ℕ
room_of s = s.room

-- how many bytes one write takes at most
abbrev pub most_of : MemSink → ℕ
most_of s = s.most

abbrev pub faults_of : MemSink → ℕ
faults_of s = s.faults

abbrev pub room_left : MemSink → ℕ
room_left s = room_of s - length (bytes_of s)

-- as much of the piece as can be taken, and a failure exactly where nothing of it can
abbrev pub TakesAll : {E : Type 0} → List ℕ → ℕ → Result ℕ E → Type 0
TakesAll piece left (Ok n) = n ≡ min (length piece) left
TakesAll piece left (Err e) = (left ≡ 0) × (0 < length piece)

-- the count of faults after a write: only a failure raises it, by one
abbrev pub counted : {E : Type 0} → Result ℕ E → ℕ → ℕ
counted (Ok n) count = count
counted (Err e) count = raised count
