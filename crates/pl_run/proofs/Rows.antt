-- What clap answers for the program's command, in the words of the specification.
use Rattle.std.proofs.Common.{◌≡◌, ◌⊎◌, inl, inr, ℕ, List, [], Option, String, Some, None, Result, Ok, Err, codes, Bool, true, false, cond, refl, ap, subst, sym, ◌∙◌}
use Rattle.std.specs.Prelude.{option_map, string_bytes}
use Rattle.std.specs.Global.{Global}
use Rattle.clap.specs.Words.{App, Text, Kinds, HasMatchesOf, IsAmong, fault_of, first_of, first_value, found_of, is_simple, is_simple_and_free, matches_of, one_of, one_text, rows_of}
use Rattle.clap.specs.declared.error.kind.ErrorKind.{ErrorKind}
use Rattle.clap.specs.declared.error.kind.ErrorKind.TheVariants.{OutOfMemory}
use Rattle.clap.specs.declared.parser.matches.ArgMatches.{ArgMatches}
use Rattle.clap.proofs.OnLiterals.{clap_on_literals}
use Rattle.clap.proofs.WalkLemmas.{first_value-rows, one_text-rows}
use Rattle.pl_model.specs.declared.calls.Limits.{Limits}
use Rattle.pl_run.specs.declared.choice.Choice.{Choice}
use Rattle.pl_run.specs.declared.choice.Choice.TheVariants.{Run, Check, Live, Help, Version}
use Rattle.pl_run.specs.declared.choice.LiveChoice.{LiveChoice}
use Rattle.pl_run.specs.declared.fault.Fault.{Fault}
use Rattle.pl_run.specs.declared.fault.Fault.TheVariants.{CannotRead, CannotWrite, CommandLine, BadLine, BadLines, TooLong, Endless, NoMemory, NothingExpected, Differs}
use Rattle.pl_run.specs.Words.{piperun, rows, faults, Told, told_of, told_by, IsLimit, IsNoLimit, AreLimits, AreNoLimits, IsMemory, IsNoNumber, IsGiven, IsSet, AreAtOdds, are_at_odds, AreGiven, GiveValues, HoldsMatches, Refuses, Chooses, AskOfInput, AskForInput, AskForCheck, AskForLive}

has_plain_rules : is_simple_and_free piperun ≡ true
unfolding clap_on_literals
has_plain_rules = refl

is_plain : is_simple piperun ≡ true
unfolding clap_on_literals
is_plain = refl

same_rows : (a : App) (words : List Text) (m : ArgMatches) → a ≡ piperun → HasMatchesOf a words m → rows_of (found_of m) ≡ rows words
unfolding rows
same_rows a words m same has = (has (ap is_simple same ∙ is_plain)).0 ∙ ap (λ b. matches_of b words) same

-- the values that are read of the matches are those of the rows
pub one_text-rows_of : (a : App) (words : List Text) (m : ArgMatches) (id : Text) → a ≡ piperun → HasMatchesOf a words m
    → one_text (found_of m) id ≡ one_of id (rows words)
one_text-rows_of a words m id same has = one_text-rows (found_of m) id ∙ ap (one_of id) (same_rows a words m same has)

pub first_value-rows_of : (a : App) (words : List Text) (m : ArgMatches) (id : Text) → a ≡ piperun → HasMatchesOf a words m
    → first_value (found_of m) id ≡ first_of id (rows words)
first_value-rows_of a words m id same has = first_value-rows (found_of m) id ∙ ap (first_of id) (same_rows a words m same has)

-- what clap says of its faults it says of those of the words
pub of_faults : (P : Kinds → Type 0) (a : App) (words : List Text) → a ≡ piperun
    → (is_simple_and_free a ≡ true → P (fault_of a words)) → P (faults words)
unfolding faults
of_faults P a words same says = subst (λ b. P (fault_of b words)) same (says (ap is_simple_and_free same ∙ has_plain_rules))

-- the words that the command takes
pub taken : (words : List Text) (told : Told) (r : Result Choice Fault) → told ≡ told_by words → faults words ≡ [] → HoldsMatches told r → Chooses words r
taken words told (Ok (Run explain limits bytes file)) same none holds = (none, subst (λ other. HoldsMatches other (Ok (Run explain limits bytes file))) same holds)
taken words told (Ok (Check every explain limits bytes file)) same none holds = (none, subst (λ other. HoldsMatches other (Ok (Check every explain limits bytes file))) same holds)
taken words told (Ok (Live asked)) same none holds = (none, subst (λ other. HoldsMatches other (Ok (Live asked))) same holds)
taken words told (Ok Help) same none holds = absurd holds
taken words told (Ok Version) same none holds = absurd holds
taken words told (Err CommandLine) same none holds = inr (none, subst (λ other. HoldsMatches other (Err CommandLine)) same holds)
taken words told (Err NoMemory) same none holds = tt
taken words told (Err CannotRead) same none holds = absurd holds
taken words told (Err CannotWrite) same none holds = absurd holds
taken words told (Err (BadLine m why)) same none holds = absurd holds
taken words told (Err (BadLines m)) same none holds = absurd holds
taken words told (Err TooLong) same none holds = absurd holds
taken words told (Err Endless) same none holds = absurd holds
taken words told (Err NothingExpected) same none holds = absurd holds
taken words told (Err (Differs m k)) same none holds = absurd holds

-- what words tell of the options and of FILE is one, where it is one of each
pub told_alike : (value one first other : Text → Option Text) → ((name : Text) → value name ≡ one name) → ((name : Text) → first name ≡ other name) → told_of value first ≡ told_of one other
told_alike value one first other same alike =
    rw (
      same (codes "check"),
      same (codes "all"),
      same (codes "live"),
      same (codes "strict"),
      same (codes "explain"),
      same (codes "first-call"),
      same (codes "file-max"),
      same (codes "names-max"),
      same (codes "waiting-max"),
      same (codes "waiting-of-each"),
      same (codes "capacity-max"),
      same (codes "descriptors-max"),
      same (codes "descriptions-max"),
      same (codes "processes-max"),
      same (codes "spare-max"),
      same (codes "memory"),
      alike (codes "file"),
    ) refl

-- options that aren't at odds are those of a check, of a live run or of a run
odds_of : (told : Told) (check all live strict : Bool) → are_at_odds check all live strict ≡ true → AreGiven told check all live strict → AreAtOdds told
odds_of told false true live strict e given = inl (given.0, given.1)
odds_of told false false false true e given = inr (inl (given.2, given.3))
odds_of told true all true strict e given = inr (inr (given.0, given.2))
odds_of told true true false true e given = inr (inl (given.2, given.3))
odds_of told true false false true e given = inr (inl (given.2, given.3))
odds_of told true true false false e given = absurd (cc e)
odds_of told true false false false e given = absurd (cc e)
odds_of told false false true true e given = absurd (cc e)
odds_of told false false true false e given = absurd (cc e)
odds_of told false false false false e given = absurd (cc e)

-- what the options and FILE come to is what their values hold
pub chosen_holds : (told : Told) (check all live strict explain : Bool) (limits : Limits) (bytes : Option ℕ) (file : Option (String Global)) (r : Result Choice Fault)
    → r ≡ cond (are_at_odds check all live strict) (Err CommandLine) (cond check (Ok (Check all explain limits bytes file))
    (cond live (Ok (Live (record { strict = strict; explain = explain; limits = limits; memory = bytes; file = file }))) (Ok (Run explain limits bytes file))))
    → AreGiven told check all live strict → GiveValues told limits bytes (option_map string_bytes file) → IsGiven told.explain explain → HoldsMatches told r
chosen_holds told true true true true explain limits bytes file r e given values shown = rw e (inl (odds_of told true true true true refl given))
chosen_holds told true true true false explain limits bytes file r e given values shown = rw e (inl (odds_of told true true true false refl given))
chosen_holds told true true false true explain limits bytes file r e given values shown = rw e (inl (odds_of told true true false true refl given))
chosen_holds told true true false false explain limits bytes file r e given values shown = rw e (given, values, shown)
chosen_holds told true false true true explain limits bytes file r e given values shown = rw e (inl (odds_of told true false true true refl given))
chosen_holds told true false true false explain limits bytes file r e given values shown = rw e (inl (odds_of told true false true false refl given))
chosen_holds told true false false true explain limits bytes file r e given values shown = rw e (inl (odds_of told true false false true refl given))
chosen_holds told true false false false explain limits bytes file r e given values shown = rw e (given, values, shown)
chosen_holds told false true true true explain limits bytes file r e given values shown = rw e (inl (odds_of told false true true true refl given))
chosen_holds told false true true false explain limits bytes file r e given values shown = rw e (inl (odds_of told false true true false refl given))
chosen_holds told false true false true explain limits bytes file r e given values shown = rw e (inl (odds_of told false true false true refl given))
chosen_holds told false true false false explain limits bytes file r e given values shown = rw e (inl (odds_of told false true false false refl given))
chosen_holds told false false true true explain limits bytes file r e given values shown = rw e (given, values, shown)
chosen_holds told false false true false explain limits bytes file r e given values shown = rw e (given, values, shown)
chosen_holds told false false false true explain limits bytes file r e given values shown = rw e (inl (odds_of told false false false true refl given))
chosen_holds told false false false false explain limits bytes file r e given values shown = rw e (given, values, shown)

-- the words that it doesn't take
pub refused : (words : List Text) (kind : ErrorKind) (r : Result Choice Fault) → (kind ≡ OutOfMemory) ⊎ IsAmong kind (faults words)
    → Refuses kind r → Chooses words r
refused words kind (Ok (Run explain limits bytes file)) among made = absurd made
refused words kind (Ok (Check every explain limits bytes file)) among made = absurd made
refused words kind (Ok (Live asked)) among made = absurd made
refused words kind (Ok Help) (inl memory) made = absurd (cc (memory, made))
refused words kind (Ok Help) (inr among) made = subst (λ k. IsAmong k (faults words)) made among
refused words kind (Ok Version) (inl memory) made = absurd (cc (memory, made))
refused words kind (Ok Version) (inr among) made = subst (λ k. IsAmong k (faults words)) made among
refused words kind (Err CommandLine) (inl memory) made = absurd (made.2 memory)
refused words kind (Err CommandLine) (inr among) made = inl (kind, among, made.0, made.1)
refused words kind (Err NoMemory) among made = tt
refused words kind (Err CannotRead) among made = absurd made
refused words kind (Err CannotWrite) among made = absurd made
refused words kind (Err (BadLine m why)) among made = absurd made
refused words kind (Err (BadLines m)) among made = absurd made
refused words kind (Err TooLong) among made = absurd made
refused words kind (Err Endless) among made = absurd made
refused words kind (Err NothingExpected) among made = absurd made
refused words kind (Err (Differs m k)) among made = absurd made

no_limit_given : (most none : ℕ) (value : Option Text) (n : ℕ) → IsNoLimit most value → IsLimit most none value n → ⊥
no_limit_given most none None n bad limit = bad
no_limit_given most none (Some text) n bad limit = bad (limit.0, limit.1)

no_limits_given : (told : Told) (limits : Limits) → AreNoLimits told → AreLimits told limits → ⊥
no_limits_given told limits (inl bad) are = no_limit_given _ _ told.first_call limits.first_call bad are.0
no_limits_given told limits (inr (inl bad)) are = no_limit_given _ _ told.file_max limits.file_max bad are.1
no_limits_given told limits (inr (inr (inl bad))) are = no_limit_given _ _ told.names_max limits.names_max bad are.2
no_limits_given told limits (inr (inr (inr (inl bad)))) are = no_limit_given _ _ told.waiting_max limits.waiting_max bad are.3
no_limits_given told limits (inr (inr (inr (inr (inl bad))))) are = no_limit_given _ _ told.waiting_of_each limits.waiting_of_each bad are.4
no_limits_given told limits (inr (inr (inr (inr (inr (inl bad)))))) are = no_limit_given _ _ told.capacity_max limits.capacity_max bad are.5
no_limits_given told limits (inr (inr (inr (inr (inr (inr (inl (inl bad)))))))) are = no_limit_given _ _ told.descriptors_max limits.descriptors_max bad are.6.0
no_limits_given told limits (inr (inr (inr (inr (inr (inr (inl (inr (inl bad))))))))) are = no_limit_given _ _ told.descriptions_max limits.descriptions_max bad are.6.1
no_limits_given told limits (inr (inr (inr (inr (inr (inr (inl (inr (inr bad))))))))) are = no_limit_given _ _ told.processes_max limits.processes_max bad are.6.2
no_limits_given told limits (inr (inr (inr (inr (inr (inr (inr bad))))))) are = no_limit_given _ _ told.spare_max limits.spare_max bad are.7

no_memory_given : (value : Option Text) (bytes : Option ℕ) → IsNoNumber value → IsMemory value bytes → ⊥
no_memory_given None bytes bad most = bad
no_memory_given (Some text) bytes bad most = bad most.0

-- an option is found to be given if the words tell so
set_so : (told : Option Text) (set given : Bool) → IsSet told set → IsGiven told given → given ≡ set
set_so told true given e found = found.1 e
set_so told false given (inl e) found = found.0 e
set_so told false given (inr e) found = found.2 e

-- words that ask for a run, a check or a live run are refused for want of memory alone
refused_for_memory : (words : List Text) (limits : Limits) (bytes : Option ℕ) (fault : Fault) → AskOfInput words limits bytes → (AreAtOdds (told_by words) → ⊥) → Chooses words (Err fault) → fault ≡ NoMemory
refused_for_memory words limits bytes CommandLine asked some (inl bad) =
    let among = rw asked.0 at bad.1 in
    absurd among
refused_for_memory words limits bytes CommandLine asked some (inr (none, inl odd)) = absurd (some odd)
refused_for_memory words limits bytes CommandLine asked some (inr (none, inr (inl bad))) = absurd (no_limits_given (told_by words) limits bad asked.1.0)
refused_for_memory words limits bytes CommandLine asked some (inr (none, inr (inr bad))) = absurd (no_memory_given (told_by words).memory bytes bad asked.1.1)
refused_for_memory words limits bytes NoMemory asked some chosen = refl
refused_for_memory words limits bytes CannotRead asked some chosen = absurd chosen
refused_for_memory words limits bytes CannotWrite asked some chosen = absurd chosen
refused_for_memory words limits bytes (BadLine m why) asked some chosen = absurd chosen
refused_for_memory words limits bytes (BadLines m) asked some chosen = absurd chosen
refused_for_memory words limits bytes TooLong asked some chosen = absurd chosen
refused_for_memory words limits bytes Endless asked some chosen = absurd chosen
refused_for_memory words limits bytes NothingExpected asked some chosen = absurd chosen
refused_for_memory words limits bytes (Differs m k) asked some chosen = absurd chosen

pub run_refused : (words : List Text) (explain : Bool) (limits : Limits) (bytes : Option ℕ) (fault : Fault) → AskForInput words explain limits bytes → Chooses words (Err fault) → fault ≡ NoMemory
run_refused words explain limits bytes fault asked chosen = refused_for_memory words limits bytes fault asked.0 even chosen
  where
    even : AreAtOdds (told_by words) → ⊥
    even (inl odd) = absurd (cc (set_so _ false true asked.1.1 odd.1))
    even (inr (inl odd)) = absurd (cc (set_so _ false true asked.1.3 odd.1))
    even (inr (inr odd)) = absurd (cc (set_so _ false true asked.1.0 odd.0))

pub check_refused : (words : List Text) (every explain : Bool) (limits : Limits) (bytes : Option ℕ) (fault : Fault) → AskForCheck words every explain limits bytes → Chooses words (Err fault) → fault ≡ NoMemory
check_refused words every explain limits bytes fault asked chosen = refused_for_memory words limits bytes fault asked.0 even chosen
  where
    even : AreAtOdds (told_by words) → ⊥
    even (inl odd) = absurd (cc (set_so _ true false asked.1.0 odd.0))
    even (inr (inl odd)) = absurd (cc (set_so _ false true asked.1.3 odd.1))
    even (inr (inr odd)) = absurd (cc (set_so _ false true asked.1.2 odd.1))

pub live_refused : (words : List Text) (strict explain : Bool) (limits : Limits) (bytes : Option ℕ) (fault : Fault) → AskForLive words strict explain limits bytes → Chooses words (Err fault) → fault ≡ NoMemory
live_refused words strict explain limits bytes fault asked chosen = refused_for_memory words limits bytes fault asked.0 even chosen
  where
    even : AreAtOdds (told_by words) → ⊥
    even (inl odd) = absurd (cc (set_so _ false true asked.1.1 odd.1))
    even (inr (inl odd)) = absurd (cc (set_so _ true false asked.1.2 odd.0))
    even (inr (inr odd)) = absurd (cc (set_so _ false true asked.1.0 odd.0))

-- ---- what words that ask for a run, a check or a live run come to

same_limit : (most none : ℕ) (told : Option Text) (n m : ℕ) → IsLimit most none told n → IsLimit most none told m → n ≡ m
same_limit most none None n m a b = a ∙ sym b
same_limit most none (Some text) n m a b = a.2 ∙ sym b.2

same_fields : (a b : Limits) → a.first_call ≡ b.first_call → a.file_max ≡ b.file_max → a.names_max ≡ b.names_max → a.waiting_max ≡ b.waiting_max → a.waiting_of_each ≡ b.waiting_of_each
    → a.capacity_max ≡ b.capacity_max → a.descriptors_max ≡ b.descriptors_max → a.descriptions_max ≡ b.descriptions_max → a.processes_max ≡ b.processes_max → a.spare_max ≡ b.spare_max → a ≡ b
same_fields a b first files names waiting each capacity descriptors descriptions processes spare =
    ap (λ x. record a { first_call = x }) first
    ∙ ap (λ x. record a { first_call = b.first_call; file_max = x }) files
    ∙ ap (λ x. record a { first_call = b.first_call; file_max = b.file_max; names_max = x }) names
    ∙ ap (λ x. record a { first_call = b.first_call; file_max = b.file_max; names_max = b.names_max; waiting_max = x }) waiting
    ∙ ap (λ x. record a { first_call = b.first_call; file_max = b.file_max; names_max = b.names_max; waiting_max = b.waiting_max; waiting_of_each = x }) each
    ∙ ap (λ x. record b { capacity_max = x; descriptors_max = a.descriptors_max; descriptions_max = a.descriptions_max; processes_max = a.processes_max; spare_max = a.spare_max }) capacity
    ∙ ap (λ x. record b { descriptors_max = x; descriptions_max = a.descriptions_max; processes_max = a.processes_max; spare_max = a.spare_max }) descriptors
    ∙ ap (λ x. record b { descriptions_max = x; processes_max = a.processes_max; spare_max = a.spare_max }) descriptions
    ∙ ap (λ x. record b { processes_max = x; spare_max = a.spare_max }) processes
    ∙ ap (λ x. record b { spare_max = x }) spare

same_limits : (told : Told) (a b : Limits) → AreLimits told a → AreLimits told b → a ≡ b
same_limits told a b are be =
    same_fields a b (same_limit _ _ told.first_call _ _ are.0 be.0) (same_limit _ _ told.file_max _ _ are.1 be.1) (same_limit _ _ told.names_max _ _ are.2 be.2)
    (same_limit _ _ told.waiting_max _ _ are.3 be.3) (same_limit _ _ told.waiting_of_each _ _ are.4 be.4) (same_limit _ _ told.capacity_max _ _ are.5 be.5)
    (same_limit _ _ told.descriptors_max _ _ are.6.0 be.6.0) (same_limit _ _ told.descriptions_max _ _ are.6.1 be.6.1) (same_limit _ _ told.processes_max _ _ are.6.2 be.6.2)
    (same_limit _ _ told.spare_max _ _ are.7 be.7)

pub run_asked : (words : List Text) (explain shown : Bool) (limits given : Limits) (bytes most : Option ℕ) (file : Option (String Global)) → AskForInput words explain limits bytes
    → Chooses words (Ok (Run shown given most file)) → (shown ≡ explain) × (given ≡ limits) × (option_map string_bytes file ≡ None)
run_asked words explain shown limits given bytes most file asked chosen =
    (set_so _ explain shown asked.2 chosen.1.2, same_limits (told_by words) given limits chosen.1.1.0 asked.0.1.0, chosen.1.1.2 ∙ sym asked.0.1.2)

pub check_asked : (words : List Text) (every all explain shown : Bool) (limits given : Limits) (bytes most : Option ℕ) (file : Option (String Global)) → AskForCheck words every explain limits bytes
    → Chooses words (Ok (Check all shown given most file)) → (all ≡ every) × (shown ≡ explain) × (given ≡ limits) × (option_map string_bytes file ≡ None)
check_asked words every all explain shown limits given bytes most file asked chosen = (
  set_so _ every all asked.1.1 chosen.1.0.1,
  set_so _ explain shown asked.2 chosen.1.2,
  same_limits (told_by words) given limits chosen.1.1.0 asked.0.1.0,
  chosen.1.1.2 ∙ sym asked.0.1.2,
)

same_memory : (told : Option Text) (n m : Option ℕ) → IsMemory told n → IsMemory told m → n ≡ m
same_memory None n m a b = a ∙ sym b
same_memory (Some text) n m a b = a.1 ∙ sym b.1

pub live_asked : (words : List Text) (strict explain : Bool) (limits : Limits) (bytes : Option ℕ) (left : LiveChoice) → AskForLive words strict explain limits bytes → Chooses words (Ok (Live left))
    → (left.strict ≡ strict) × (left.explain ≡ explain) × (left.limits ≡ limits) × (left.memory ≡ bytes) × (option_map string_bytes left.file ≡ None)
live_asked words strict explain limits bytes left asked chosen = (
  set_so _ strict left.strict asked.1.3 chosen.1.0.3,
  set_so _ explain left.explain asked.2 chosen.1.2,
  same_limits (told_by words) left.limits limits chosen.1.1.0 asked.0.1.0,
  same_memory _ left.memory bytes chosen.1.1.1 asked.0.1.1,
  chosen.1.1.2 ∙ sym asked.0.1.2,
)
