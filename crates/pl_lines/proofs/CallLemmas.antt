-- What the words of a call say, one after another.
use Rattle.std.proofs.Common.{◌≡◌, ℕ, List, [], ◌∷◌, Option, Some, refl, ap}
use Rattle.std.specs.Prelude.{Err}
use Rattle.pl_model.specs.declared.calls.Call.TheVariants.{Lseek}
use Rattle.pl_model.specs.Words.{◌>>=◌, signed, signed_long, whence_of}
use Rattle.pl_model.specs.Lines.{lseek_of}
use Rattle.pl_words.specs.declared.fault.LineFault.{LineFault}
use Rattle.pl_words.specs.declared.fault.LineFault.TheVariants.{Bad, NoMemory}
use Rattle.pl_words.specs.Parsed.{Gives, only}

only_is : (ws : List (List ℕ)) (w : List ℕ) → only ws ≡ Some w → ws ≡ w ∷ []
only_is [] w e = absurd cc
only_is (v ∷ []) w e = let same : v ≡ w = cc in ap (λ v. v ∷ []) same
only_is (v ∷ u ∷ vs) w e = absurd cc

-- a part that says nothing leaves nothing to say
pub part_fails : {X Y : Type 0} (part : Option X) (next : X → Option Y) (e : LineFault) → Gives (Err e) part → Gives (Err e) (part >>= next)
part_fails part next Bad none = ap (λ o. o >>= next) none
part_fails part next NoMemory none = absurd none

-- the three words of a line `lseek`
module _ {A : Type 0} (ws second third : List (List ℕ)) (fd offset whence : List ℕ) (first-is : ws ≡ fd ∷ second) (second-is : second ≡ offset ∷ third) (third-is : only third ≡ Some whence) where
  pub lseek_says : lseek_of {A = A} ws ≡ (signed fd >>= λ f. signed_long offset >>= λ o. whence_of whence >>= λ w. Some (Lseek f o w))
  unfolding lseek_of
  lseek_says = rw (first-is, second-is, only_is third whence third-is) refl
