use Rattle.std.proofs.Common.{◌≡◌, ◌^◌, ◌<◌, true, take}
use Rattle.std.specs.List.{list_all}
use Rattle.std.specs.Str.Parse.{digits_value}
use Rattle.pl_model.specs.Words.{is_digit}
use Rattle.pl_words.proofs.numbers.value.Given as goal

abbrev pub invariant-loop-c : goal.invariant-loop-c
invariant-loop-c l =
    record { value : l.value ≡ digits_value 10 (take l.c-index l.word); digits : list_all is_digit (take l.c-index l.word) ≡ true; fits : l.value < 10 ^ l.c-index }
