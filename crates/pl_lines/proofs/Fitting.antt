-- Whether words are of the kinds that are expected, and that this is what a fault tells.
use Rattle.std.proofs.Common.{◌≡◌, ℕ, ◌+◌, Bool, true, false, ◌&&◌, cond, List, [], ◌∷◌, Option, Some, None, refl, ap, ◌∙◌}
use Rattle.std.specs.Prelude.{is_some}
use Rattle.std.specs.Option.{is_none, option_or}
use Rattle.pl_model.specs.declared.script.Version.{Version}
use Rattle.pl_model.specs.Words.{◌>>=◌}
use Rattle.pl_lines.specs.declared.kinds.Expected.{Expected}
use Rattle.pl_lines.specs.declared.kinds.Expected.TheVariants.{Needed, Optional, Repeated}
use Rattle.pl_lines.specs.declared.explain.Explanation.{Explanation}
use Rattle.pl_lines.specs.Explained.{says, next_expected, end_fault, first_fault, why, named_fault}

-- whether the line may end here
abbrev pub may_end : List Expected → Bool
may_end (Needed kind ∷ others) = false
may_end _ = true

-- whether the words are of these kinds
abbrev pub fits : Version → List Expected → List (List ℕ) → Bool
fits version expected [] = may_end expected
fits version expected (word ∷ words) =
    elim (next_expected expected) [
      | None ↦ false
      | Some next ↦ says version next.0 word && fits version next.1 words
    ]

ends : (number : ℕ) (expected : List Expected) → is_none (end_fault number expected) ≡ may_end expected
ends number [] = refl
ends number (Needed kind ∷ others) = refl
ends number (Optional kind ∷ others) = refl
ends number (Repeated kind ∷ others) = refl

-- a word that is of its kind leaves the rest to tell
pub or_rest : (b : Bool) (fault : Explanation) (rest : Option Explanation) → is_none (option_or (cond b None (Some fault)) rest) ≡ (b && is_none rest)
or_rest true fault rest = refl
or_rest false fault rest = refl

-- there is no fault exactly where the words fit
pub faultless : (version : Version) (words : List (List ℕ)) (number : ℕ) (expected : List Expected) → is_none (first_fault version number expected words) ≡ fits version expected words
unfolding first_fault
faultless version [] number expected = ends number expected
faultless version (word ∷ words) number [] = refl
faultless version (word ∷ words) number (Needed kind ∷ others) =
    or_rest (says version kind word) (record { word = number; reason = why version kind word }) (first_fault version (number + 1) others words)
    ∙ ap (λ b. says version kind word && b) (faultless version words (number + 1) others)
faultless version (word ∷ words) number (Optional kind ∷ others) =
    or_rest (says version kind word) (record { word = number; reason = why version kind word }) (first_fault version (number + 1) others words)
    ∙ ap (λ b. says version kind word && b) (faultless version words (number + 1) others)
faultless version (word ∷ words) number (Repeated kind ∷ others) =
    or_rest (says version kind word) (record { word = number; reason = why version kind word }) (first_fault version (number + 1) (Repeated kind ∷ others) words)
    ∙ ap (λ b. says version kind word && b) (faultless version words (number + 1) (Repeated kind ∷ others))

-- ---- a word too many or too few

pub no1 : (a : Bool) → false ≡ (a && false)
no1 true = refl
no1 false = refl

pub no2 : (a b : Bool) → false ≡ (a && (b && false))
no2 true b = no1 b
no2 false b = refl

pub no3 : (a b c : Bool) → false ≡ (a && (b && (c && false)))
no3 true b c = no2 b c
no3 false b c = refl

pub and_true : (b : Bool) → (b && true) ≡ b
and_true true = refl
and_true false = refl

-- ---- what words say together

pub one : {X Z : Type 0} (x : Option X) (make : X → Z) → is_some (x >>= λ a. Some (make a)) ≡ (is_some x && true)
one None make = refl
one (Some a) make = refl

pub two : {X Y Z : Type 0} (x : Option X) (y : Option Y) (make : X → Y → Z) → is_some (x >>= λ a. y >>= λ b. Some (make a b)) ≡ (is_some x && (is_some y && true))
two None y make = refl
two (Some a) None make = refl
two (Some a) (Some b) make = refl

pub three : {X Y Z W : Type 0} (x : Option X) (y : Option Y) (z : Option Z) (make : X → Y → Z → W) → is_some (x >>= λ a. y >>= λ b. z >>= λ c. Some (make a b c)) ≡ (is_some x && (is_some y && (is_some z && true)))
three None y z make = refl
three (Some a) y z make = two y z (make a)

pub flag : {Z : Type 0} (b : Bool) (z : Z) → is_some (cond b (Some z) None) ≡ (b && true)
flag true z = refl
flag false z = refl

-- ---- one of several

-- what says something exactly where the words fit the kinds that were found
abbrev pub fitting : Version → Option (List Expected) → List (List ℕ) → Bool
fitting version None words = false
fitting version (Some expected) words = fits version expected words

pub named_faultless : (version : Version) (kinds : Option (List Expected)) (words : List (List ℕ)) → is_none (named_fault version kinds words) ≡ fitting version kinds words
named_faultless version None words = refl
named_faultless version (Some expected) words = faultless version words 3 expected

pub record Judges {X : Type 0} (version : Version) (words : List (List ℕ)) (said : Option X) (kinds : Option (List Expected)) : Type 0 where
  pub same : is_some said ≡ fitting version kinds words

pub judged : {X : Type 0} (version : Version) (words : List (List ℕ)) (said : Option X) (expected : List Expected) → is_some said ≡ fits version expected words → Judges version words said (Some expected)
judged version words said expected same = record { same = same }

pub choose : {X : Type 0} {version : Version} {words : List (List ℕ)} {x y : Option X} {kinds others : Option (List Expected)} (b : Bool) → Judges version words x kinds → Judges version words y others → Judges version words (cond b x y) (cond b kinds others)
choose true here later = here
choose false here later = later

-- a fault is told exactly where nothing is said
pub record Alike {X : Type 0} (fault : Option Explanation) (said : Option X) : Type 0 where
  pub same : is_none fault ≡ is_some said

pub alike : {X : Type 0} {f g : Option Explanation} {x y : Option X} (b : Bool) → Alike f x → Alike g y → Alike (cond b f g) (cond b x y)
alike true here later = here
alike false here later = later
