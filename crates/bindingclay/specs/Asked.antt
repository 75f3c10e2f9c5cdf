-- The words of `bindingclay_limits`, and what they ask for. The first one tells how many there are; later ones may be left out.
use Rattle.std.specs.Prelude.{◌≡◌, ◌<◌, ◌⊎◌, ◌/◌, ◌%◌, ◌*◌, ◌+◌, ◌^◌, ℕ, List, length, nat_eq, get_or, if◌then◌else◌}
use Rattle.pl_model.specs.Numbers.{most_capacity, most_file_bytes, no_limit, open_max, most_descriptors, usual_descriptions, most_descriptions, usual_processes, most_processes, usual_spare}
use Rattle.bindingclay.specs.declared.limits.Asked.{Asked}

-- the sixth word: its lower half is the greatest capacity of a pipe, and its upper half the most bytes of a file
abbrev pub sizes : List ℕ → ℕ
sizes words = get_or words 5 (most_file_bytes * 2 ^ 32 + most_capacity)

-- the seventh word: the most descriptors of a process
abbrev pub descriptors : List ℕ → ℕ
descriptors words = get_or words 6 open_max

-- the ninth word: the most descriptions
abbrev pub descriptions : List ℕ → ℕ
descriptions words = get_or words 8 usual_descriptions

-- the tenth word: the most processes
abbrev pub processes : List ℕ → ℕ
processes words = get_or words 9 usual_processes

-- the third word: the most bytes that the kernel may hold
abbrev pub memory : List ℕ → ℕ
memory words = get_or words 2 no_limit

-- the most bytes of memory that are kept for further bytes, by the eighth word
abbrev pub spare_of : (memory word : ℕ) → ℕ
spare_of memory word = if nat_eq word no_limit then usual_spare memory else word

abbrev pub spare : List ℕ → ℕ
spare words = spare_of (memory words) (get_or words 7 no_limit)

abbrev pub asked_by : List ℕ → Asked
asked_by words = record {
  limits = record {
    first_call = get_or words 1 1;
    file_max = sizes words / 2 ^ 32;
    names_max = get_or words 3 no_limit;
    waiting_max = get_or words 4 no_limit;
    waiting_of_each = get_or words 10 no_limit;
    capacity_max = sizes words % 2 ^ 32;
    descriptors_max = descriptors words;
    descriptions_max = descriptions words;
    processes_max = processes words;
    spare_max = spare words;
  };
  memory = memory words;
}

-- there are none of them, or more than are known
abbrev pub AreMiscounted : List ℕ → Type 0
AreMiscounted words = (length words ≡ 0) ⊎ (11 < length words)

-- a pipe or a file might have more bytes than any may
abbrev pub AskForTooManyBytes : List ℕ → Type 0
AskForTooManyBytes words = (most_capacity < sizes words % 2 ^ 32) ⊎ (most_file_bytes < sizes words / 2 ^ 32)

-- there might be more descriptors in a process, more descriptions or more processes than there may be in any kernel
abbrev pub AskForTooMany : List ℕ → Type 0
AskForTooMany words = (most_descriptors < descriptors words) ⊎ (most_descriptions < descriptions words) ⊎ (most_processes < processes words)

-- they ask for nothing that can be had
abbrev pub AreNone : List ℕ → Type 0
AreNone words = AreMiscounted words ⊎ AskForTooManyBytes words ⊎ AskForTooMany words
