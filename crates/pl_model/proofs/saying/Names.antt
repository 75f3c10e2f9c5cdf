-- Names of files, read again.
use Rattle.std.proofs.Common.{◌≡◌, ℕ, ◌/◌, ◌%◌, ◌<◌, ◌≤◌, Bool, true, false, cond, not, List, [], ◌∷◌, ◌++◌, length, refl, sym, ap, ◌∙◌, arith}
use Rattle.std.specs.Prelude.{Option, Some, nat_le, ◌==◌, ◌&&◌, codes}
use Rattle.std.specs.List.{All, flat_map}
use Rattle.std.specs.Str.{bytes_eq}
use Rattle.std.proofs.lemmas.Bool.{leb-true}
use Rattle.std.proofs.lemmas.Slice.Eq.{bytes_eq-Decides}
use Rattle.std.proofs.lemmas.List.Elements.{All-nil, All-cons, All-head, All-tail, All-append, All-weaker}
use Rattle.pl_model.specs.Words.{◌>>=◌, hex_byte, is_plain, plain_then, name_bytes, name_of}
use Rattle.pl_model.specs.Shown.{hex_text}
use Rattle.pl_model.specs.Said.{IsByte, said_byte, said_name}
use Rattle.pl_model.proofs.saying.Joined.{IsWord}
use Rattle.pl_model.proofs.saying.Below.{both}
use Rattle.pl_model.proofs.saying.Seams.{word_by}
use Rattle.pl_model.proofs.saying.Hexes.{glyph, IsGlyph, byte_back, next_byte, hex_glyphs}

-- ---- one byte

plain_says : (c : ℕ) (rest : Option (List ℕ)) (bytes : List ℕ) → is_plain c ≡ true → rest ≡ Some bytes → plain_then c rest ≡ Some (c ∷ bytes)
plain_says c rest bytes plain says = rw (plain, says) refl

not_first : (b : Bool) (first second : Option (List ℕ)) (bytes : List ℕ) → b ≡ false → second ≡ Some bytes → cond b first second ≡ Some bytes
not_first b first second bytes e says = rw e says

plain_more : (c : ℕ) (rest bytes : List ℕ) → is_plain c ≡ true → (c == 37) ≡ false → name_bytes rest ≡ Some bytes → name_bytes (c ∷ rest) ≡ Some (c ∷ bytes)
unfolding name_bytes
plain_more c [] bytes plain isnt says = plain_says c (name_bytes []) bytes plain says
plain_more c (d ∷ []) bytes plain isnt says = plain_says c (name_bytes (d ∷ [])) bytes plain says
plain_more c (high ∷ low ∷ rest) bytes plain isnt says =
    not_first (c == 37) (hex_byte high low >>= λ b. name_bytes rest >>= λ bs. Some (b ∷ bs)) (plain_then c (name_bytes (high ∷ low ∷ rest))) (c ∷ bytes) isnt
    (plain_says c (name_bytes (high ∷ low ∷ rest)) bytes plain says)

escaped_more : (b : ℕ) (rest bytes : List ℕ) → IsByte b → name_bytes rest ≡ Some bytes → name_bytes (37 ∷ (hex_text (b ∷ []) ++ rest)) ≡ Some (b ∷ bytes)
unfolding name_bytes hex_text
escaped_more b rest bytes byte says = next_byte (hex_byte (glyph (b / 16)) (glyph (b % 16))) (name_bytes rest) b bytes (byte_back b byte) says

not_true : (b : Bool) → not b ≡ true → b ≡ false
not_true true h = absurd (cc)
not_true false h = refl

no_percent : (c : ℕ) → is_plain c ≡ true → (c == 37) ≡ false
no_percent c plain =
    let outer = both (nat_le 33 c) (nat_le c 126 && not (c == 37)) plain in
    let inner = both (nat_le c 126) (not (c == 37)) outer.1 in
    not_true (c == 37) inner.1

byte_more_by : (c : ℕ) (rest bytes : List ℕ) (b : Bool) → is_plain c ≡ b → IsByte c → name_bytes rest ≡ Some bytes → name_bytes (cond b (c ∷ []) (37 ∷ hex_text (c ∷ [])) ++ rest) ≡ Some (c ∷ bytes)
byte_more_by c rest bytes true plain byte says = plain_more c rest bytes plain (no_percent c plain) says
byte_more_by c rest bytes false plain byte says = escaped_more c rest bytes byte says

byte_more : (c : ℕ) (rest bytes : List ℕ) → IsByte c → name_bytes rest ≡ Some bytes → name_bytes (said_byte c ++ rest) ≡ Some (c ∷ bytes)
byte_more c rest bytes byte says = byte_more_by c rest bytes (is_plain c) refl byte says

-- ---- all of them

abbrev escaped : List ℕ → List ℕ
escaped bytes = flat_map said_byte bytes

escaped_back : (bytes : List ℕ) → All IsByte bytes → name_bytes (escaped bytes) ≡ Some bytes
unfolding name_bytes
escaped_back [] all = refl
escaped_back (c ∷ cs) all = byte_more c (escaped cs) cs (All-head IsByte c cs all) (escaped_back cs (All-tail IsByte c cs all))

dash_is_itself : name_bytes (codes "-") ≡ Some (codes "-")
unfolding name_bytes
dash_is_itself = refl

-- the bytes of another name are no `-`
not_dash_by : (text bytes : List ℕ) (b : Bool) → name_bytes text ≡ Some bytes → bytes_eq bytes (codes "-") ≡ false → bytes_eq text (codes "-") ≡ b → b ≡ false
not_dash_by text bytes true says other e =
    let is : text ≡ codes "-" = (bytes_eq-Decides text (codes "-")).0 e in
    let both_say : name_bytes text ≡ name_bytes (codes "-") = ap name_bytes is in
    let dash : name_bytes (codes "-") ≡ Some (codes "-") = dash_is_itself in
    let same : bytes ≡ codes "-" = cc in
    let equal : bytes_eq bytes (codes "-") ≡ true = (bytes_eq-Decides bytes (codes "-")).1 same in
    absurd (cc)
not_dash_by text bytes false says other e = refl

name_says : (word bytes : List ℕ) → bytes_eq word (codes "-") ≡ false → name_bytes word ≡ Some bytes → name_of word ≡ Some bytes
unfolding name_of
name_says word bytes isnt says = rw isnt says

escaped_dash : name_of (codes "%2d") ≡ Some (codes "-")
unfolding name_of name_bytes
escaped_dash = refl

name_back_by : (name : List ℕ) (b : Bool) → All IsByte name → bytes_eq name (codes "-") ≡ b → name_of (cond b (codes "%2d") (escaped name)) ≡ Some name
name_back_by name true all e = escaped_dash ∙ ap (λ x. Some x) (sym ((bytes_eq-Decides name (codes "-")).0 e))
name_back_by name false all e =
    let says : name_bytes (escaped name) ≡ Some name = escaped_back name all in
    name_says (escaped name) name (not_dash_by (escaped name) name (bytes_eq (escaped name) (codes "-")) says e refl) says

pub name_back : (name : List ℕ) → All IsByte name → name_of (said_name name) ≡ Some name
unfolding name_of said_name
name_back [] all = refl
name_back (c ∷ cs) all = name_back_by (c ∷ cs) (bytes_eq (c ∷ cs) (codes "-")) all refl

-- ---- its word

byte_black_by : (c : ℕ) (b : Bool) → is_plain c ≡ b → IsByte c → All (λ c. 32 < c) (cond b (c ∷ []) (37 ∷ hex_text (c ∷ [])))
byte_black_by c true plain byte =
    let outer = both (nat_le 33 c) (nat_le c 126 && not (c == 37)) plain in
    let low : 33 ≤ c = leb-true 33 c outer.0 in
    All-cons (λ c. 32 < c) c [] (omega arith) (All-nil (λ c. 32 < c))
byte_black_by c false plain byte =
    All-cons (λ c. 32 < c) 37 (hex_text (c ∷ [])) (omega arith)
    (All-weaker IsGlyph (λ c. 32 < c) (λ c range. omega arith) (hex_text (c ∷ [])) (hex_glyphs (c ∷ []) (All-cons IsByte c [] byte (All-nil IsByte))))

escaped_black : (bytes : List ℕ) → All IsByte bytes → All (λ c. 32 < c) (escaped bytes)
escaped_black [] all = All-nil (λ c. 32 < c)
escaped_black (c ∷ cs) all =
    All-append (λ c. 32 < c) (said_byte c) (escaped cs) (byte_black_by c (is_plain c) refl (All-head IsByte c cs all)) (escaped_black cs (All-tail IsByte c cs all))

says_some : (text : List ℕ) (c : ℕ) (cs : List ℕ) → name_bytes text ≡ Some (c ∷ cs) → 0 < length text
unfolding name_bytes
says_some [] c cs says = absurd (cc)
says_some (x ∷ xs) c cs says = omega arith

name_word_by : (c : ℕ) (cs : List ℕ) (b : Bool) → All IsByte (c ∷ cs) → IsWord (cond b (codes "%2d") (escaped (c ∷ cs)))
name_word_by c cs true all = word_by (codes "%2d") refl
name_word_by c cs false all = record { some = says_some (escaped (c ∷ cs)) c cs (escaped_back (c ∷ cs) all); black = escaped_black (c ∷ cs) all }

pub name_word : (name : List ℕ) → All IsByte name → IsWord (said_name name)
unfolding said_name
name_word [] all = word_by (codes "-") refl
name_word (c ∷ cs) all = name_word_by c cs (bytes_eq (c ∷ cs) (codes "-")) all
