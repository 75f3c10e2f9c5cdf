-- What a kernel was opened with.
use Rattle.std.specs.Prelude.{◌≡◌}
use Rattle.bindingclay.specs.declared.layer.Layer.{Layer}

-- its limits and its memory stay, and a record can be begun if it could be
abbrev pub StaysAsOpened : Layer → Layer → Type 0
StaysAsOpened old new = (new.limits ≡ old.limits) × (new.heap ≡ old.heap) × (new.is_fresh ≡ old.is_fresh)
