-- A line that writes one byte many times, by its words.
use Rattle.std.proofs.Common.{◌≡◌, ℕ, ◌^◌, Bool, true, false, List, [], ◌∷◌, Option, Some, None, refl, ap, subst}
use Rattle.std.specs.Prelude.{ℤ, codes, length, ◌==◌}
use Rattle.std.specs.Option.{option_map}
use Rattle.std.specs.Str.{bytes_eq}
use Rattle.std.proofs.lemmas.Bool.{eqb-true}
use Rattle.std.proofs.lemmas.Slice.Eq.{bytes_eq-Decides}
use Rattle.pl_model.specs.declared.calls.Call.{Call}
use Rattle.pl_model.specs.declared.calls.Call.TheVariants.{Write}
use Rattle.pl_model.specs.declared.calls.Step.TheVariants.{Begin}
use Rattle.pl_model.specs.declared.script.Line.TheVariants.{Do}
use Rattle.pl_model.specs.Words.{◌>>=◌, words, without_return, number, signed, bytes_of}
use Rattle.pl_model.specs.declared.script.Version.{Version}
use Rattle.pl_model.specs.Lines.{write_of, call_of, begin_of, words_line, is_comment, line_of_words, line}
use Rattle.pl_words.specs.Parsed.{fd_and_word}
use Rattle.pl_lines.specs.Parsed.{WritesSoMany}

-- ---- a line that begins with a number begins a call

no_start : number (2 ^ 32) (codes "start") ≡ None
unfolding number
no_start = refl

no_resume : number (2 ^ 32) (codes "resume") ≡ None
unfolding number
no_resume = refl

no_interrupt : number (2 ^ 32) (codes "interrupt") ≡ None
unfolding number
no_interrupt = refl

no_file : number (2 ^ 32) (codes "file") ≡ None
unfolding number
no_file = refl

no_hash : (cs : List ℕ) → number (2 ^ 32) (35 ∷ cs) ≡ None
unfolding number
no_hash cs = refl

module _ (pid : List ℕ) (p : ℕ) (says : number (2 ^ 32) pid ≡ Some p) where
  no_word : (word : List ℕ) → number (2 ^ 32) word ≡ None → bytes_eq pid word ≡ false
  no_word word none = by (bytes_eq pid word) refl
    where
      by : (b : Bool) → bytes_eq pid word ≡ b → bytes_eq pid word ≡ false
      by true e = let same : number (2 ^ 32) pid ≡ number (2 ^ 32) word = ap (number (2 ^ 32)) ((bytes_eq-Decides pid word).0 e) in absurd (cc)
      by false e = e

  no_comment : is_comment pid ≡ false
  no_comment = by pid says
    where
      first : (c : ℕ) (cs : List ℕ) (b : Bool) → (c == 35) ≡ b → number (2 ^ 32) (c ∷ cs) ≡ Some p → b ≡ false
      first c cs true e said =
          let Says : ℕ → Type 0 = λ d. number (2 ^ 32) (d ∷ cs) ≡ Some p in
          let here : number (2 ^ 32) (35 ∷ cs) ≡ Some p = subst Says (eqb-true c 35 e) said in
          let none : number (2 ^ 32) (35 ∷ cs) ≡ None = no_hash cs in
          absurd (cc)
      first c cs false e said = refl

      by : (word : List ℕ) → number (2 ^ 32) word ≡ Some p → is_comment word ≡ false
      by [] said = refl
      by (c ∷ cs) said = first c cs (c == 35) refl said

  begins : {A : Type 0} (version : Version) (rest : List (List ℕ)) → words_line {A = A} version pid rest ≡ begin_of version pid rest
  unfolding words_line
  begins version rest = rw (no_word (codes "start") no_start, no_word (codes "resume") no_resume, no_word (codes "interrupt") no_interrupt, no_word (codes "file") no_file) refl

-- ---- the words of a write

abbrev before : List ℕ → ℤ → Option (ℤ × List ℕ)
before word fd = Some (fd, word)

both_are : (f fd : ℤ) (b word : List ℕ) → before b f ≡ before word fd → (f ≡ fd) × (b ≡ word)
both_are f fd b word e = let pair : ◌≡◌ {A = ℤ × List ℕ} (f, b) (fd, word) = cc in (ap (λ x. x.0) pair, ap (λ x. x.1) pair)

module _ {A : Type 0} (version : Version) where
  abbrev writing : ℤ → List ℕ → Option (Call A)
  writing fd bytes = Some (Write fd bytes)

  write_says : (rest : List (List ℕ)) (fd : ℤ) (word written : List ℕ) → fd_and_word rest ≡ Some (fd, word) → bytes_of version word ≡ Some written → write_of {A = A} version rest ≡ Some (Write fd written)
  unfolding write_of
  write_says [] fd word written h says = absurd cc
  write_says (a ∷ []) fd word written h says = absurd cc
  write_says (a ∷ b ∷ []) fd word written h says = by (signed a) h
    where
      by : (o : Option ℤ) → (o >>= before b) ≡ before word fd → (o >>= λ f. bytes_of version b >>= writing f) ≡ writing fd written
      by None h = absurd cc
      by (Some f) h =
          let are = both_are f fd b word h in
          rw (are.1, says, are.0) refl
  write_says (a ∷ b ∷ d ∷ rest) fd word written h says = absurd cc

  calls : (name : List ℕ) (rest : List (List ℕ)) → bytes_eq name (codes "write") ≡ true → call_of {A = A} version name rest ≡ write_of version rest
  unfolding call_of
  calls name rest e = rw ((bytes_eq-Decides name (codes "write")).0 e) refl

  line_says : (bytes pid name : List ℕ) (rest : List (List ℕ)) (p : ℕ) (fd : ℤ) (word written : List ℕ) → words (without_return bytes) ≡ pid ∷ (name ∷ rest) → number (2 ^ 32) pid ≡ Some p
      → bytes_eq name (codes "write") ≡ true → fd_and_word rest ≡ Some (fd, word) → bytes_of version word ≡ Some written → line {A = A} version bytes ≡ Some (Some (Do (Begin p (Write fd written))))
  unfolding line line_of_words begin_of
  line_says bytes pid name rest p fd word written words-are says is pair said =
      rw (words-are, no_comment pid p says, begins pid p says version (name ∷ rest), says, calls name rest is, write_says rest fd word written pair said) refl

-- a line of these words writes so many bytes
pub writes_so_many : (A : Type 0) (version : Version) (bytes pid name : List ℕ) (rest : List (List ℕ)) (p : ℕ) (fd : ℤ) (word : List ℕ) (n : ℕ) → words (without_return bytes) ≡ pid ∷ (name ∷ rest) → number (2 ^ 32) pid ≡ Some p
    → bytes_eq name (codes "write") ≡ true → fd_and_word rest ≡ Some (fd, word) → Some n ≡ option_map length (bytes_of version word) → WritesSoMany A version bytes p fd n
writes_so_many A version bytes pid name rest p fd word n words-are says is pair count = by (bytes_of version word) refl count
  where
    by : (said : Option (List ℕ)) → bytes_of version word ≡ said → Some n ≡ option_map length said → WritesSoMany A version bytes p fd n
    by None e count = absurd cc
    by (Some written) e count = (written, line_says version bytes pid name rest p fd word written words-are says is pair e, cc)
