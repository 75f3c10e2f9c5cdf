-- What a content ends as, once a reference into it has ended.
use Rattle.std.specs.Prelude.{Option}
use Rattle.std.specs.Borrow.{Fml, RattleType, MutBor, LendsIf}
use Rattle.std.specs.declared.alloc.Allocator.{Ghosts}
use Rattle.pl_nodes.specs.declared.content.PipeNode.{PipeNode}
use Rattle.pl_nodes.specs.declared.content.FileNode.{FileNode}
use Rattle.pl_nodes.specs.declared.content.Content.{Content}
use Rattle.pl_nodes.specs.declared.content.Content.TheVariants.{Pipe, File}
use Rattle.pl_nodes.specs.contracts.content.PipeNode.{the_row as pipe_row}
use Rattle.pl_nodes.specs.contracts.content.FileNode.{the_row as file_row}
use Rattle.pl_nodes.specs.contracts.content.Content.{the_row}

module _ (A : RattleType) (alloc : Ghosts A.Denot) (c : MutBor (Content A.Denot)) where
  -- a pipe, with the last value written through r
  abbrev pub lends_pipe : Option (MutBor (PipeNode A.Denot)) → Fml
  lends_pipe r = LendsIf (the_row A alloc) (pipe_row A alloc) c r Pipe c.now

  -- a file, likewise
  abbrev pub lends_file : Option (MutBor (FileNode A.Denot)) → Fml
  lends_file r = LendsIf (the_row A alloc) (file_row A alloc) c r File c.now
