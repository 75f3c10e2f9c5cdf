-- The bytes that go through a pipe in a step.
use Rattle.std.specs.Prelude.{ℕ, List, [], take, Option, if◌then◌else◌}
use Rattle.std.specs.declared.option.Option.TheVariants.{None, Some}
use Rattle.pl_model.specs.Keys.{Keys, PipeNode}
use Rattle.pl_model.specs.State.{Core}
use Rattle.pl_model.specs.Trial.{pipe_at}
use Rattle.pl_model.specs.Live.{is_open}

module _ (K : Keys) where
  -- what goes into the pipe p
  abbrev pub into_pipe : Option (K.Pipe × List ℕ) → K.Pipe → List ℕ
  into_pipe None p = []
  into_pipe (Some i) p = if K.same_pipe i.0 p then i.1 else []

  -- what comes out of the pipe p, which held these bytes
  abbrev pub out_of_pipe : List ℕ → Option (K.Pipe × ℕ) → K.Pipe → List ℕ
  out_of_pipe held None p = []
  out_of_pipe held (Some o) p = if K.same_pipe o.0 p then take o.1 held else []

module _ {A : Type 0} {K : Keys} where
  -- what the pipe holds; nothing, where there is no such pipe
  abbrev pub held : Core A K → K.Pipe → List ℕ
  held s p = (pipe_at s p).bytes

  -- what a pipe without ends forgets as it settles
  abbrev pub forgotten : Core A K → K.Pipe → List ℕ
  forgotten s p = if is_open s (PipeNode p) then [] else held s p
