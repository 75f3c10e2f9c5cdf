-- What stands under a key.
use Rattle.std.specs.Prelude.{Bool, Option, None, Some}
use Rattle.pl_nodes.specs.declared.content.PipeNode.{PipeNode}
use Rattle.pl_nodes.specs.declared.content.FileNode.{FileNode}
use Rattle.pl_nodes.specs.declared.content.Content.{Content}
use Rattle.pl_nodes.specs.declared.content.Content.TheVariants.{Pipe, File}

module _ {A : Type 0} where
  -- the pipe, if it is one
  abbrev pub as_pipe : Content A → Option (PipeNode A)
  as_pipe (Pipe p) = Some p
  as_pipe (File f) = None

  -- the file, if it is one
  abbrev pub as_file : Content A → Option (FileNode A)
  as_file (Pipe p) = None
  as_file (File f) = Some f

  -- the same, and whether a name stands for it
  abbrev pub with_named : Bool → Content A → Content A
  with_named named (Pipe p) = Pipe (record p { named = named })
  with_named named (File f) = File (record f { named = named })
