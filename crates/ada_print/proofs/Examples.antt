-- Examples: the texts of heads and of the parts of a sporadic unit, and what can be read back.
use Rattle.std.proofs.Common.{◌≡◌, true, false, [], ◌∷◌, ap, codes, drop, refl}
use Rattle.std.specs.Fmt.{digits}
use Rattle.seq_tree.specs.Layout.{layout, line_text}
use Rattle.seq_tree.specs.declared.tree.Mode.TheVariants.{In}
use Rattle.seq_tree.specs.declared.tree.Param.{Param}
use Rattle.ada_print.specs.Parts.{head_text}
use Rattle.ada_print.specs.Requests.{external_line, waiting_lines}
use Rattle.ada_print.specs.Writable.{is_number, is_word}

-- a parameter that hands a value in
abbrev v : Param
v = record { name = codes "v"; mode = In }

-- heads: without parameters there are no parentheses
alone : head_text (record { name = codes "start"; params = [] }) ≡ codes "procedure start"
alone = refl

empty : head_text (record { name = codes "start"; params = [] }) ≡ codes "procedure start ()" → ⊥
empty e = cc

with_one : head_text (record { name = codes "start"; params = v ∷ [] }) ≡ codes "procedure start (v : in word)"
with_one = refl

-- whether requests come from outside
outside : line_text (external_line true) ≡ codes "      hrt_external : constant boolean := true;\n"
outside = refl

other_end : codes "false;\n" ≡ codes "true;\n" → ⊥
other_end e = cc

turned : line_text (external_line false) ≡ codes "      hrt_external : constant boolean := true;\n" → ⊥
turned e = other_end (ap (drop 41) e)

-- how a task waits
waits : layout (waiting_lines (v ∷ []))
    ≡ codes "      task body hrt_thread is\n         v : word := 0;\n      begin\n         loop\n            hrt_obcs.hrt_wait (v);\n"
unfolding digits
waits = refl

waits_alone : layout (waiting_lines [])
    ≡ codes "      task body hrt_thread is\n         hrt_request : word := 0;\n      begin\n         loop\n            hrt_obcs.hrt_wait (hrt_request);\n"
unfolding digits
waits_alone = refl

-- a word and a number that can be read, and some that can't
word : is_word (codes "hrt_thread") ≡ true
word = refl

capital : is_word (codes "Thread") ≡ true → ⊥
capital e = cc

greatest : is_number 4294967295 ≡ true
greatest = refl

greater : is_number 4294967296 ≡ true → ⊥
greater e = cc
