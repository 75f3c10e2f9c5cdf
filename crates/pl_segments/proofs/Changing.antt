-- A store before and after a change of one segment.
use Rattle.std.proofs.Common.{◌≡◌, ◌≢◌, ℕ, ◌+◌, ◌-◌, ◌<◌, ◌≤◌, List, [], ◌∷◌, ◌++◌, Option, Some, None, Result, Ok, Err, refl, sym, ◌∙◌, ap, subst, inl, inr, length, take, drop, arith}
use Rattle.std.specs.Prelude.{if◌then◌else◌, nat_le, nat_lt}
use Rattle.std.proofs.lemmas.Bool.{eq-eqb, ne_eqb, le-leb, lt-leb, lt-ltb, le-ltb}
use Rattle.std.proofs.lemmas.Bool.Decides.{eqb_tells}
use Rattle.std.proofs.lemmas.List.{append-nil, length-drop, length-append, length-take-le, take-append-le, drop-append-le, take_all}
use Rattle.pl_segments.specs.declared.slice.Slice.{Slice}
use Rattle.pl_segments.specs.declared.fault.AppendFault.{AppendFault}
use Rattle.pl_segments.specs.declared.fault.AppendFault.TheVariants.{NotAtEnd, NoRoom}
use Rattle.pl_segments.specs.Segments.{segment_size, Segment, Map, set_at, bytes_in, holders_in, filled, holders, more_held, less_held, longer}
use Rattle.pl_segments.specs.Slices.{Lies, reads, AllLie, one_if, naming, longer_by, appended, room_after, is_part}
use Rattle.pl_segments.specs.Turns.{Begins, Turns}

-- what a changed map has at the key, and elsewhere
module _ (m n : Map) (key : ℕ) (v : Option Segment) (is : n ≡ set_at m key v) where
  pub set-here : n key ≡ v
  set-here = ap (λ (f : Map). f key) is ∙ ap (λ b. if b then v else m key) (eq-eqb key key refl)

  pub set-there : (q : ℕ) → q ≢ key → n q ≡ m q
  set-there q differs = ap (λ (f : Map). f q) is ∙ ap (λ b. if b then v else m q) (ne_eqb key q (λ h. differs (sym h)))

-- a segment that gains or loses a holder, or gains bytes
pub more-holders : (o : Option Segment) → 1 ≤ holders_in o → holders_in (more_held o) ≡ holders_in o + 1
more-holders None l = absurd (omega arith)
more-holders (Some s) l = refl

pub more-bytes : (o : Option Segment) → bytes_in (more_held o) ≡ bytes_in o
more-bytes None = refl
more-bytes (Some s) = refl

pub less-last : (s : Segment) → s.holders ≡ 1 → less_held (Some s) ≡ None
less-last s e = ap (λ b. if b then None else Some (record s { holders = s.holders - 1 })) (eq-eqb s.holders 1 e)

pub less-still : (s : Segment) → s.holders ≢ 1 → less_held (Some s) ≡ Some (record s { holders = s.holders - 1 })
less-still s n = ap (λ b. if b then None else Some (record s { holders = s.holders - 1 })) (ne_eqb s.holders 1 n)

pub less-holders : (o : Option Segment) → 1 ≤ holders_in o → holders_in (less_held o) + 1 ≡ holders_in o
less-holders None l = absurd (omega arith)
less-holders (Some s) l = elim (eqb_tells s.holders 1) as (λ _. holders_in (less_held (Some s)) + 1 ≡ s.holders) [
  | inl e ↦ let a : holders_in (less_held (Some s)) ≡ 0 = ap holders_in (less-last s e.1) in omega (arith, a, e.1)
  | inr e ↦ let a : holders_in (less_held (Some s)) ≡ s.holders - 1 = ap holders_in (less-still s e.1) in omega (arith, a, l)
]

pub less-bytes : (o : Option Segment) → 1 < holders_in o → bytes_in (less_held o) ≡ bytes_in o
less-bytes None l = absurd (omega arith)
less-bytes (Some s) l = ap bytes_in (less-still s (λ e. absurd (omega (arith, e, l))))

pub longer-holders : (more : List ℕ) (o : Option Segment) → holders_in (longer more o) ≡ holders_in o
longer-holders more None = refl
longer-holders more (Some s) = refl

pub longer-bytes : (more : List ℕ) (o : Option Segment) → 1 ≤ holders_in o → bytes_in (longer more o) ≡ bytes_in o ++ more
longer-bytes more None l = absurd (omega arith)
longer-bytes more (Some s) l = refl

-- a list begins with itself
pub begins-same : (old new : List ℕ) → new ≡ old → Begins old new
begins-same old new e = record { more = []; is = e ∙ sym (append-nil old) }

-- how often one slice names a key
pub naming-one : (x : Slice) → naming (x ∷ []) x.segment ≡ 1
naming-one x = ap (λ b. one_if b + 0) (eq-eqb x.segment x.segment refl)

pub naming-other : (x : Slice) (q : ℕ) → q ≢ x.segment → naming (x ∷ []) q ≡ 0
naming-other x q n = ap (λ b. one_if b + 0) (ne_eqb x.segment q (λ h. n (sym h)))

-- a change of one segment, and of the slices that name it
pub turns-at : (m n : Map) (xs ys : List Slice) (key : ℕ) → ((q : ℕ) → q ≢ key → n q ≡ m q) → ((q : ℕ) → q ≢ key → naming xs q ≡ naming ys q)
    → holders n key + naming xs key ≡ holders m key + naming ys key
    → (naming xs key < holders m key → Begins (filled m key) (filled n key))
    → AllLie n ys → Turns m xs n ys
turns-at m n xs ys key others off here begins lie = record {
  counted = λ q. elim (eqb_tells q key) as (λ _. holders n q + naming xs q ≡ holders m q + naming ys q) [
    | inl e ↦ subst (λ k. holders n k + naming xs k ≡ holders m k + naming ys k) (sym e.1) here
    | inr e ↦ (λ i. holders_in (others q e.1 i) + off q e.1 i)
  ];
  kept = λ q. elim (eqb_tells q key) as (λ _. naming xs q < holders m q → Begins (filled m q) (filled n q)) [
    | inl e ↦ subst (λ k. naming xs k < holders m k → Begins (filled m k) (filled n k)) (sym e.1) begins
    | inr e ↦ λ l. begins-same (filled m q) (filled n q) (ap bytes_in (others q e.1))
  ];
  lie = lie;
}

-- a slice of what begins as it was
pub reads-begun : (m n : Map) (x : Slice) → Begins (filled m x.segment) (filled n x.segment) → x.from + x.len ≤ length (filled m x.segment) → reads n x ≡ reads m x
unfolding reads
reads-begun m n x b l =
    ap (λ f. take x.len (drop x.from f)) b.is
    ∙ ap (take x.len) (drop-append-le x.from (filled m x.segment) b.more (omega arith))
    ∙ take-append-le x.len (drop x.from (filled m x.segment)) b.more (omega (arith, length-drop x.from (filled m x.segment)))

pub lies-begun : (m n : Map) (x : Slice) → Begins (filled m x.segment) (filled n x.segment) → 1 ≤ holders n x.segment → x.from + x.len ≤ length (filled m x.segment) → Lies n x
lies-begun m n x b h l = record { here = h; within = omega (arith, l, ap length b.is, length-append (filled m x.segment) b.more) }

-- a slice is held once more
module _ (m n : Map) (x : Slice) (lies : Lies m x) (is : n ≡ set_at m x.segment (more_held (m x.segment))) where
  held : holders n x.segment ≡ holders m x.segment + 1
  held = ap holders_in (set-here m n x.segment _ is) ∙ more-holders (m x.segment) lies.here

  begun : Begins (filled m x.segment) (filled n x.segment)
  begun = begins-same _ _ (ap bytes_in (set-here m n x.segment _ is) ∙ more-bytes (m x.segment))

  pub turns-held : Turns m [] n (x ∷ [])
  turns-held = turns-at m n [] (x ∷ []) x.segment (set-there m n x.segment _ is) (λ q d. sym (naming-other x q d))
      (omega (arith, held, naming-one x)) (λ _. begun)
      (lies-begun m n x begun (omega (arith, held)) lies.within, tt)

  pub reads-held : reads n x ≡ reads m x
  reads-held = reads-begun m n x begun lies.within

-- a hold goes
module _ (m n : Map) (x : Slice) (lies : Lies m x) (is : n ≡ set_at m x.segment (less_held (m x.segment))) where
  pub turns-released : Turns m (x ∷ []) n []
  turns-released =
      let h : holders n x.segment + 1 ≡ holders m x.segment = ap (λ k. k + 1) (ap holders_in (set-here m n x.segment _ is)) ∙ less-holders (m x.segment) lies.here in
      turns-at m n (x ∷ []) [] x.segment (set-there m n x.segment _ is) (naming-other x)
      (omega (arith, h, naming-one x))
      (λ l. begins-same _ _ (ap bytes_in (set-here m n x.segment _ is) ∙ less-bytes (m x.segment) (omega (arith, l, naming-one x))))
      tt

-- a segment is made
module _ (m n : Map) (x : Slice) (bytes : List ℕ) (vacant : m x.segment ≡ None) (is : n ≡ set_at m x.segment (Some (record { filled = bytes; holders = 1 })))
    (first : x.from ≡ 0) (len : x.len ≡ length bytes) where
  here : n x.segment ≡ Some (record { filled = bytes; holders = 1 })
  here = set-here m n x.segment _ is

  pub turns-made : Turns m [] n (x ∷ [])
  turns-made =
      let h : holders n x.segment ≡ 1 = ap holders_in here in
      let z : holders m x.segment ≡ 0 = ap holders_in vacant in
      let f : filled n x.segment ≡ bytes = ap bytes_in here in
      turns-at m n [] (x ∷ []) x.segment (set-there m n x.segment _ is) (λ q d. sym (naming-other x q d))
      (omega (arith, h, z, naming-one x))
      (λ l. absurd (omega (arith, l, z)))
      (record { here = omega (arith, h); within = omega (arith, first, len, ap length f) }, tt)

  pub reads-made : reads n x ≡ bytes
  unfolding reads
  reads-made = (λ i. take (len i) (drop (first i) (bytes_in (here i)))) ∙ take_all (length bytes) bytes (omega arith)

-- bytes are added where a slice ends
module _ (m n : Map) (x : Slice) (more : List ℕ) (lies : Lies m x) (end : x.from + x.len ≡ length (filled m x.segment)) (is : n ≡ set_at m x.segment (longer more (m x.segment))) where
  abbrev y : Slice
  y = longer_by (length more) x

  bytes_there : filled n x.segment ≡ filled m x.segment ++ more
  bytes_there = ap bytes_in (set-here m n x.segment _ is) ∙ longer-bytes more (m x.segment) lies.here

  holders_there : holders n x.segment ≡ holders m x.segment
  holders_there = ap holders_in (set-here m n x.segment _ is) ∙ longer-holders more (m x.segment)

  pub turns-longer : Turns m (x ∷ []) n (y ∷ [])
  turns-longer =
      turns-at m n (x ∷ []) (y ∷ []) x.segment (set-there m n x.segment _ is) (λ q d. refl)
      (omega (arith, holders_there))
      (λ l. record { more = more; is = bytes_there })
      (record { here = omega (arith, holders_there, lies.here); within = omega (arith, end, ap length bytes_there, length-append (filled m x.segment) more) }, tt)

  pub reads-longer : reads n y ≡ reads m x ++ more
  unfolding reads
  reads-longer =
      let rest : length (drop x.from (filled m x.segment)) ≡ x.len = omega (arith, length-drop x.from (filled m x.segment), end) in
      ap (λ f. take (x.len + length more) (drop x.from f)) bytes_there
      ∙ ap (take (x.len + length more)) (drop-append-le x.from (filled m x.segment) more (omega (arith, end)))
      ∙ take_all (x.len + length more) (drop x.from (filled m x.segment) ++ more) (omega (arith, rest, length-append (drop x.from (filled m x.segment)) more))
      ∙ ap (λ f. f ++ more) (sym (take_all x.len (drop x.from (filled m x.segment)) (omega (arith, rest))))

-- how many bytes a slice reads
pub length-reads : (m : Map) (x : Slice) → Lies m x → length (reads m x) ≡ x.len
unfolding reads
length-reads m x lies =
    let l = lies.within in
    length-take-le x.len (drop x.from (filled m x.segment)) (omega (arith, l, length-drop x.from (filled m x.segment)))

-- the room behind a slice
pub room-end : (m : Map) (x : Slice) → x.from + x.len ≡ length (filled m x.segment) → room_after m x ≡ segment_size - (x.from + x.len)
room-end m x e = ap (λ b. if b then segment_size - (x.from + x.len) else 0) (eq-eqb (x.from + x.len) (length (filled m x.segment)) e)

pub room-none : (m : Map) (x : Slice) → x.from + x.len ≢ length (filled m x.segment) → room_after m x ≡ 0
room-none m x n = ap (λ b. if b then segment_size - (x.from + x.len) else 0) (ne_eqb (x.from + x.len) (length (filled m x.segment)) n)

-- bytes that fit behind a slice: it ends where its segment is filled to
pub room-fits : (m : Map) (x : Slice) (n : ℕ) → 1 ≤ n → n ≤ room_after m x → (x.from + x.len ≡ length (filled m x.segment)) × (x.from + x.len + n ≤ segment_size)
room-fits m x n some fits = elim (eqb_tells (x.from + x.len) (length (filled m x.segment))) as (λ _. (x.from + x.len ≡ length (filled m x.segment)) × (x.from + x.len + n ≤ segment_size)) [
  | inl e ↦ let r = room-end m x e.1 in (e.1, omega (arith, r, some, fits))
  | inr e ↦ let r = room-none m x e.1 in absurd (omega (arith, r, some, fits))
]

abbrev ok_of : Slice → Result Slice AppendFault
ok_of x = Ok x

-- what an append comes to, by what is tested
pub appended-not_end : (m : Map) (x : Slice) (n : ℕ) → x.from + x.len ≢ length (filled m x.segment) → appended m x n ≡ Err NotAtEnd
appended-not_end m x n differs =
    ap (λ b. if b then (if nat_le (x.from + x.len + n) segment_size then ok_of (longer_by n x) else Err NoRoom) else Err NotAtEnd) (ne_eqb (x.from + x.len) (length (filled m x.segment)) differs)

pub appended-no_room : (m : Map) (x : Slice) (n : ℕ) → x.from + x.len ≡ length (filled m x.segment) → segment_size < x.from + x.len + n → appended m x n ≡ Err NoRoom
appended-no_room m x n end long =
    ap (λ b. if b then (if nat_le (x.from + x.len + n) segment_size then ok_of (longer_by n x) else Err NoRoom) else Err NotAtEnd) (eq-eqb (x.from + x.len) (length (filled m x.segment)) end)
    ∙ ap (λ b. if b then ok_of (longer_by n x) else Err NoRoom) (lt-leb (x.from + x.len + n) segment_size long)

pub appended-at_end : (m : Map) (x : Slice) (n : ℕ) → x.from + x.len ≡ length (filled m x.segment) → x.from + x.len + n ≤ segment_size → appended m x n ≡ Ok (longer_by n x)
appended-at_end m x n end fits =
    ap (λ b. if b then (if nat_le (x.from + x.len + n) segment_size then ok_of (longer_by n x) else Err NoRoom) else Err NotAtEnd) (eq-eqb (x.from + x.len) (length (filled m x.segment)) end)
    ∙ ap (λ b. if b then ok_of (longer_by n x) else Err NoRoom) (le-leb (x.from + x.len + n) segment_size fits)

-- so it is with bytes for which there is room
pub appended-fits : (m : Map) (x : Slice) (n : ℕ) → 1 ≤ n → n ≤ room_after m x → appended m x n ≡ Ok (longer_by n x)
appended-fits m x n some fits = let f = room-fits m x n some fits in appended-at_end m x n f.0 f.1

-- a segment that something else holds has its bytes still once a hold goes
pub released-filled : (m n : Map) (x : Slice) → n ≡ set_at m x.segment (less_held (m x.segment)) → (key : ℕ) → naming (x ∷ []) key < holders m key → filled n key ≡ filled m key
released-filled m n x is key more = elim (eqb_tells key x.segment) as (λ _. filled n key ≡ filled m key) [
  | inl e ↦
      let here : naming (x ∷ []) x.segment < holders m x.segment = subst (λ k. naming (x ∷ []) k < holders m k) e.1 more in
      let one = naming-one x in
      subst (λ k. filled n k ≡ filled m k) (sym e.1) (ap bytes_in (set-here m n x.segment _ is) ∙ less-bytes (m x.segment) (omega (arith, here, one)))
  | inr e ↦ ap bytes_in (set-there m n x.segment _ is key e.1)
]

-- the room behind a slice to which bytes were added
pub room-longer : (m n : Map) (x : Slice) (k : ℕ) → 1 ≤ k → k ≤ room_after m x → length (filled n x.segment) ≡ length (filled m x.segment) + k → room_after n (longer_by k x) + k ≡ room_after m x
room-longer m n x k some fits long =
    let f = room-fits m x k some fits in
    let end = f.0 in
    let most = f.1 in
    let r = room-end m x end in
    let s = room-end n (longer_by k x) (omega (arith, end, long)) in
    omega (arith, r, s, most)

-- whether a slice is a part of its segment, or all of it
pub part-longer : (m n : Map) (x : Slice) (k : ℕ) → room_after n (longer_by k x) + k ≡ room_after m x → is_part n (longer_by k x) ≡ is_part m x
part-longer m n x k after = ap (λ s. one_if (nat_lt s segment_size)) (let e : room_after n (longer_by k x) + (x.len + k) ≡ room_after m x + x.len = omega (arith, after) in e)

pub part-whole : (m : Map) (x : Slice) → x.from ≡ 0 → length (filled m x.segment) ≡ x.len → x.len ≤ segment_size → is_part m x ≡ 0
part-whole m x first whole most =
    let r = room-end m x (omega (arith, first, whole)) in
    ap one_if (le-ltb (room_after m x + x.len) segment_size (omega (arith, r, first, most)))

pub part-short : (m : Map) (x : Slice) (k : ℕ) → room_after m x < k → x.len + k ≤ segment_size → is_part m x ≡ 1
part-short m x k short most = ap one_if (lt-ltb (room_after m x + x.len) segment_size (omega (arith, short, most)))
