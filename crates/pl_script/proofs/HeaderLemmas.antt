-- The options of a header, one at a time.
use Rattle.std.proofs.Common.{◌≡◌, ℕ, List, [], ◌∷◌, Option, Some, None, Err, refl}
use Rattle.std.specs.Prelude.{◌^◌}
use Rattle.pl_model.specs.declared.calls.Limits.{Limits}
use Rattle.pl_model.specs.Words.{number}
use Rattle.pl_words.specs.Parsed.{Gives}
use Rattle.pl_words.specs.declared.fault.LineFault.{LineFault}
use Rattle.pl_words.specs.declared.fault.LineFault.TheVariants.{Bad, NoMemory}
use Rattle.pl_script.specs.Header.{with_limit, with_limits}

-- a word that a parser refuses says nothing
pub says_nothing : {X : Type 0} (fault : LineFault) (said : Option X) → Gives (Err fault) said → said ≡ None
says_nothing Bad said h = h
says_nothing NoMemory said h = absurd h

pub no_options : (limits : Limits) (ws : List (List ℕ)) → ws ≡ [] → with_limits limits ws ≡ Some limits
unfolding with_limits
no_options limits ws e = rw e refl

module _ (limits : Limits) (ws behind : List (List ℕ)) (option : List ℕ) (first : ws ≡ option ∷ behind) where
  -- an option without a number
  pub lone_option : behind ≡ [] → with_limits limits ws ≡ None
  unfolding with_limits
  lone_option e = rw (first, e) refl

  module _ (rest : List (List ℕ)) (word : List ℕ) (second : behind ≡ word ∷ rest) where
    -- a word that is no number
    pub no_number : number (2 ^ 64) word ≡ None → with_limits limits ws ≡ None
    unfolding with_limits
    no_number e = rw (first, second, e) refl

    -- an option that is none, or a number that is out of its range
    pub no_option : (n : ℕ) → number (2 ^ 64) word ≡ Some n → with_limit limits option n ≡ None → with_limits limits ws ≡ None
    unfolding with_limits
    no_option n e f = rw (first, second, e, f) refl

    pub next_option : (n : ℕ) (set : Limits) → number (2 ^ 64) word ≡ Some n → with_limit limits option n ≡ Some set → with_limits limits ws ≡ with_limits set rest
    unfolding with_limits
    next_option n set e f = rw (first, second, e, f) refl
