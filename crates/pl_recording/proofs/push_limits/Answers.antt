use Rattle.std.proofs.Common.{◌≡◌, ℕ, List, ◌++◌, append_assoc, refl, ap}
use Rattle.std.specs.Prelude.{codes}
use Rattle.std.specs.Fmt.{decimal}
use Rattle.pl_lines.proofs.Pushing.{behind}
use Rattle.pl_recording.specs.Record.{unusual_text}
use Rattle.pl_recording.proofs.push_limits.Goals as goal

parts : (a file b names c waiting d capacity e descriptors f unusual : List ℕ)
    → (((((a ++ (file ++ b)) ++ (names ++ c)) ++ (waiting ++ d)) ++ (capacity ++ e)) ++ (descriptors ++ f)) ++ unusual
    ≡ a ++ (file ++ (b ++ (names ++ (c ++ (waiting ++ (d ++ (capacity ++ (e ++ (descriptors ++ (f ++ unusual))))))))))
parts a file b names c waiting d capacity e descriptors f unusual = simp append_assoc

pub returns : goal.returns
returns g c =
    let limits = c.args.limits in
    let two = behind _ _ c.in_ok-push_number.was c.push_number.ensures c.push_number-2.ensures refl in
    let three = behind _ _ c.in_ok-push_number-2.was two c.push_number-3.ensures refl in
    let four = behind _ _ c.in_ok-push_number-3.was three c.push_number-4.ensures refl in
    let five = behind _ _ c.in_ok-push_number-4.was four c.push_number-5.ensures refl in
    let six = behind _ _ c.in_ok-push_number-5.was five c.push_number-6.ensures refl in
    behind _ _ c.in_ok-push_number-6.was six c.push_unusual.ensures
    (ap (λ t. codes "# piperun --first-call " ++ t)
    (parts (decimal limits.first_call) (codes " --file-max ") (decimal limits.file_max) (codes " --names-max ") (decimal limits.names_max) (codes " --waiting-max ") (decimal limits.waiting_max) (codes " --capacity-max ") (decimal limits.capacity_max)
    (codes " --descriptors-max ") (decimal limits.descriptors_max) (unusual_text limits)))
