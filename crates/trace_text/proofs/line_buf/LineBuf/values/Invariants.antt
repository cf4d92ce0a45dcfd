use Rattle.std.proofs.Common.{◌≡◌, ◌+◌, ◌*◌, ◌≤◌, ◌++◌, length, take}
use Rattle.trace_tree.specs.Lines.{value_words}
use Rattle.trace_text.specs.Spaced.{spaced}
use Rattle.trace_text.proofs.line_buf.LineBuf.values.Given as goal

abbrev pub invariant-values : goal.invariant-values
invariant-values l =
    (l.self ≡ l.initial.self ++ spaced (value_words (take l.n-index l.n-items))) × (length l.self ≤ length l.initial.self + 21 * l.n-index)
