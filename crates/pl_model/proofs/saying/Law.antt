-- The law: the line of a step reads back as that step.
use Rattle.std.proofs.Common.{◌≡◌, ℕ, ◌^◌, ◌<◌, Bool, true, false, List, [], ◌∷◌, refl, ap, subst, ◌∙◌, arith}
use Rattle.std.specs.Prelude.{Some, None, codes, ◌==◌}
use Rattle.std.specs.List.{All}
use Rattle.std.specs.Str.{bytes_eq}
use Rattle.std.specs.Fmt.{decimal}
use Rattle.std.proofs.lemmas.Bool.{eqb-true}
use Rattle.pl_model.specs.declared.calls.Call.{Call}
use Rattle.pl_model.specs.declared.calls.Step.{Step}
use Rattle.pl_model.specs.declared.calls.Step.TheVariants.{Start, Begin, Resume, Interrupt}
use Rattle.pl_model.specs.declared.script.Line.{Line}
use Rattle.pl_model.specs.declared.script.Line.TheVariants.{Do, File}
use Rattle.pl_model.specs.declared.script.Version.{Version}
use Rattle.pl_model.specs.declared.script.Version.TheVariants.{Two}
use Rattle.pl_model.specs.Words.{number}
use Rattle.pl_model.specs.Lines.{is_comment, start_of, resume_of, interrupt_of, file_of, begin_of, words_line, line_of_words, line}
use Rattle.pl_model.specs.Said.{IsByte, spaced, said_name, call_words, step_words, said_step, said_file, is_sayable, StepFits}
use Rattle.pl_model.specs.SaidLaw.{StepsReadBack, FilesReadBack, StepsAreLines, FilesAreLines}
use Rattle.pl_model.proofs.saying.Joined.{AreWords, words_of_line, one_line}
use Rattle.pl_model.proofs.saying.Numerals.{number_of_decimal, decimal_word}
use Rattle.pl_model.proofs.saying.Seams.{not_this, word_by}
use Rattle.pl_model.proofs.saying.Names.{name_back, name_word}
use Rattle.pl_model.proofs.saying.Calls.{Says, call_back, call_are_words}

-- ---- a line that begins with a number begins a call

no_start : number (2 ^ 32) (codes "start") ≡ None
unfolding number
no_start = refl

no_resume : number (2 ^ 32) (codes "resume") ≡ None
unfolding number
no_resume = refl

no_interrupt : number (2 ^ 32) (codes "interrupt") ≡ None
unfolding number
no_interrupt = refl

no_file : number (2 ^ 32) (codes "file") ≡ None
unfolding number
no_file = refl

no_hash : (cs : List ℕ) → number (2 ^ 32) (35 ∷ cs) ≡ None
unfolding number
no_hash cs = refl

module _ (p : ℕ) where
  first_hash : (c : ℕ) (cs : List ℕ) (b : Bool) → (c == 35) ≡ b → number (2 ^ 32) (c ∷ cs) ≡ Some p → b ≡ false
  first_hash c cs true e says =
      let SaysIt : ℕ → Type 0 = λ d. number (2 ^ 32) (d ∷ cs) ≡ Some p in
      let here : number (2 ^ 32) (35 ∷ cs) ≡ Some p = subst SaysIt (eqb-true c 35 e) says in
      let none : number (2 ^ 32) (35 ∷ cs) ≡ None = no_hash cs in
      absurd (cc)
  first_hash c cs false e says = refl

  no_comment : (word : List ℕ) → number (2 ^ 32) word ≡ Some p → is_comment word ≡ false
  no_comment [] says = refl
  no_comment (c ∷ cs) says = first_hash c cs (c == 35) refl says

  no_word : (pid word : List ℕ) → number (2 ^ 32) pid ≡ Some p → number (2 ^ 32) word ≡ None → bytes_eq pid word ≡ false
  no_word pid word says none = not_this (number (2 ^ 32)) pid word p says none

  begins : {A : Type 0} (version : Version) (pid : List ℕ) (rest : List (List ℕ)) → number (2 ^ 32) pid ≡ Some p → words_line {A = A} version pid rest ≡ begin_of version pid rest
  unfolding words_line
  begins version pid rest says =
      rw (no_word pid (codes "start") says no_start, no_word pid (codes "resume") says no_resume, no_word pid (codes "interrupt") says no_interrupt, no_word pid (codes "file") says no_file) refl

  begin_says : {A : Type 0} (pid : List ℕ) (ws : List (List ℕ)) (call : Call A) → number (2 ^ 32) pid ≡ Some p → Says ws call → line_of_words Two (pid ∷ ws) ≡ Some (Some (Do (Begin p call)))
  unfolding line_of_words begin_of
  begin_says pid [] call is says = absurd says
  begin_says pid (name ∷ rest) call is says = rw (no_comment pid is, begins Two pid (name ∷ rest) is, is, says) refl

-- ---- each step

module _ {A : Type 0} where
  line_back : (ws : List (List ℕ)) (asked : Line A) → AreWords ws → line_of_words Two ws ≡ Some (Some asked) → line Two (spaced ws) ≡ Some (Some asked)
  unfolding line
  line_back ws asked are says = ap (line_of_words Two) (words_of_line ws are) ∙ says

  resume_says : (n : ℕ) → n < 2 ^ 64 → line_of_words {A = A} Two (codes "resume" ∷ decimal n ∷ []) ≡ Some (Some (Do (Resume n)))
  unfolding line_of_words words_line resume_of
  resume_says n lt = rw (number_of_decimal (2 ^ 64) n lt lt) refl

  interrupt_says : (n : ℕ) → n < 2 ^ 64 → line_of_words {A = A} Two (codes "interrupt" ∷ decimal n ∷ []) ≡ Some (Some (Do (Interrupt n)))
  unfolding line_of_words words_line interrupt_of
  interrupt_says n lt = rw (number_of_decimal (2 ^ 64) n lt lt) refl

  file_says : (name : List ℕ) → All IsByte name → line_of_words {A = A} Two (codes "file" ∷ said_name name ∷ []) ≡ Some (Some (File name))
  unfolding line_of_words words_line file_of
  file_says name fits = rw (name_back name fits) refl

  step_says : (x : Step A) → is_sayable x ≡ true → StepFits x → line_of_words Two (step_words x) ≡ Some (Some (Do x))
  unfolding step_words is_sayable StepFits line_of_words words_line start_of
  step_says Start named fits = refl
  step_says (Begin pid call) named fits = begin_says pid (decimal pid) (call_words call) call (number_of_decimal (2 ^ 32) pid fits.0 (omega (arith, fits.0))) (call_back A call named fits.1)
  step_says (Resume n) named fits = resume_says n fits
  step_says (Interrupt n) named fits = interrupt_says n fits

  step_are_words : (x : Step A) → is_sayable x ≡ true → StepFits x → AreWords (step_words x)
  unfolding step_words is_sayable StepFits
  step_are_words Start named fits = (word_by (codes "start") refl, tt)
  step_are_words (Begin pid call) named fits = (decimal_word pid (omega (arith, fits.0)), call_are_words A call named fits.1)
  step_are_words (Resume n) named fits = (word_by (codes "resume") refl, (decimal_word n fits, tt))
  step_are_words (Interrupt n) named fits = (word_by (codes "interrupt") refl, (decimal_word n fits, tt))

file_are_words : (name : List ℕ) → All IsByte name → AreWords (codes "file" ∷ said_name name ∷ [])
file_are_words name fits = (word_by (codes "file") refl, (name_word name fits, tt))

pub steps_read_back : (A : Type 0) → StepsReadBack A
unfolding said_step
steps_read_back A x named fits = line_back (step_words x) (Do x) (step_are_words x named fits) (step_says x named fits)

pub files_read_back : (A : Type 0) → FilesReadBack A
unfolding said_file
files_read_back A name fits = line_back (codes "file" ∷ said_name name ∷ []) (File name) (file_are_words name fits) (file_says name fits)

pub steps_are_lines : (A : Type 0) → StepsAreLines A
unfolding said_step
steps_are_lines A x named fits = one_line (step_words x) (step_are_words x named fits)

pub files_are_lines : FilesAreLines
unfolding said_file
files_are_lines name fits = one_line (codes "file" ∷ said_name name ∷ []) (file_are_words name fits)
