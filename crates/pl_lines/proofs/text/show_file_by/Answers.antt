use Rattle.std.proofs.Common.{◌≡◌, [], rules}
use Rattle.std.specs.Prelude.{string_bytes}
use Rattle.pl_lines.proofs.Pushing.{alone}
use Rattle.pl_lines.proofs.text.show_file_by.Goals as goal

pub returns : goal.returns
returns g c =
    let empty : string_bytes c.new-text.result ≡ [] = search rules in
    alone _ c.in_ok-push_file.was empty c.push_file.ensures
