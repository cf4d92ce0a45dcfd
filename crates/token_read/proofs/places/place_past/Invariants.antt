use Rattle.std.proofs.Common.{◌≡◌, ◌+◌, ◌≤◌, drop}
use Rattle.seq_tree.specs.Lexis.{place_past}
use Rattle.token_read.proofs.places.place_past.Given as goal

-- the place so far, moved past the bytes left
abbrev pub invariant-bytes : goal.invariant-bytes
invariant-bytes l = record {
  past : place_past l.past (drop l.byte-index l.bytes) ≡ place_past l.fn.place l.bytes;
  line : l.past.line ≤ l.fn.place.line + l.byte-index;
  column : l.past.column ≤ l.fn.place.column + l.byte-index;
}
