use Rattle.std.proofs.Common.{◌≤◌, map}
use Rattle.hrthood_top.specs.Fetches.{file_tree, texts_of}
use Rattle.hrthood_top.proofs.Fetching.{AreSoFar}
use Rattle.hrthood_top.proofs.fetch.fetch_files.Given as goal

-- the files so far are there
abbrev pub invariant-files : goal.invariant-files
invariant-files g l = record {
  later : g.F.Shelf.faults l.fn.shelf ≤ g.F.Shelf.faults l.shelf;
  so_far : AreSoFar (map file_tree l.files) l.file-index (texts_of l.texts) (g.F.Shelf.told l.fn.shelf) (g.F.Shelf.told l.shelf);
}
