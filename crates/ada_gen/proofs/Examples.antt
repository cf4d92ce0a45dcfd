-- The text of one cyclic thread, byte for byte.
use Rattle.std.proofs.Common.{◌≡◌, [], ◌∷◌, ◌++◌, codes, flat_map, refl}
use Rattle.std.specs.Fmt.{digits}
use Rattle.seq_tree.specs.Layout.{layout}
use Rattle.seq_tree.specs.Statements.{Work, End, Then}
use Rattle.ods_tree.specs.Flats.{Flat, Cyclic}
use Rattle.analysis.specs.Ceilings.{Ranks}
use Rattle.ada_tree.specs.Spelling.{program_lines}
use Rattle.ada_tree.proofs.Shared.OneCyclic.{one_cyclic_lines}
use Rattle.guarantee.specs.Programs.{head, program_for}

abbrev one_cyclic : Flat
one_cyclic = record {
  name = codes "d";
  costs = record { assign = 1; test = 1; turn = 1; call = 2; nothing = 1; put = 1; finish = 1 };
  passive = [];
  shared = [];
  threads = record { name = codes "a"; timing = Cyclic 10 0; deadline = 10; vars = []; block = Then (Work 3) End } ∷ [];
}

abbrev first : Ranks
first = record { threads = 1 ∷ []; shared = []; obcs = 0 ∷ [] }

one_cyclic_text : head one_cyclic first (0 ∷ []) (record { jitter = 0; response = 4 } ∷ []) ++ layout (program_lines (program_for one_cyclic first))
    ≡ flat_map (λ l. l ++ codes "\n") one_cyclic_lines
unfolding digits
one_cyclic_text = refl
