use Rattle.std.proofs.Common.{◌++◌, drop}
use Rattle.std.specs.Prelude.{codes, string_bytes}
use Rattle.std.specs.List.{flat_map}
use Rattle.pl_model.specs.Shown.{mask_text}
use Rattle.pl_lines.proofs.Pushing.{IsSoFar}
use Rattle.pl_lines.proofs.text.push_each_mask.Given as goal

abbrev pub invariant-loop-mask : goal.invariant-loop-mask
invariant-loop-mask g l =
    let text = flat_map (λ mask. codes " " ++ mask_text mask) in
    IsSoFar (text l.masks) (string_bytes l.initial.text) (string_bytes l.text) (text (drop l.mask-index l.masks))
