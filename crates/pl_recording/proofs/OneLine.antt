-- Texts of one line: numbers, bytes, names of flags, and each reply.
use Rattle.std.proofs.Common.{◌≡◌, ℕ, zero, suc, ◌+◌, ◌/◌, ◌%◌, ◌≤◌, Bool, true, false, cond, not, List, [], ◌∷◌, ◌++◌, map, length, get_or, refl, arith, inl, inr}
use Rattle.std.specs.Prelude.{ℤ, pos, negsuc, ◌==◌, nat_lt, codes, slice_index, ⊤, filter}
use Rattle.std.specs.List.{All, list_all, flat_map}
use Rattle.std.specs.Fmt.{decimal, signed_decimal, digits, digits_onto, digit_glyph}
use Rattle.std.proofs.lemmas.Bool.{eq-eqb, cases_lt}
use Rattle.std.proofs.lemmas.List.Elements.{All-nil, All-cons, All-append, All-weaker}
use Rattle.std.proofs.lemmas.List.Sums.{AllPass-from_list_all}
use Rattle.pl_model.specs.declared.calls.Limits.{Limits}
use Rattle.pl_model.specs.declared.calls.Mode.{Mode}
use Rattle.pl_model.specs.declared.flags.PollMask.{PollMask}
use Rattle.pl_model.specs.declared.replies.Errno.{Errno}
use Rattle.pl_model.specs.declared.replies.Errno.TheVariants.{EAGAIN, EBADF, EBUSY, EEXIST, EFBIG, EINTR, EINVAL, EMFILE, ENAMETOOLONG, ENFILE, ENOENT, ENOSPC, ENXIO, EOVERFLOW, EPERM, EPIPE, ESPIPE}
use Rattle.pl_model.specs.declared.replies.Reply.{Reply}
use Rattle.pl_model.specs.declared.replies.Reply.TheVariants.{Pid, Fd, Fds, Count, Bytes, Offset, Flags, Size, Masks, Unit as Done, Fault, Parked, NoProcess, NoCall, CallsSpent}
use Rattle.pl_model.specs.declared.script.Version.TheVariants.{Two}
use Rattle.pl_model.specs.Flags.{has, status_names, mask_names}
use Rattle.pl_model.specs.Shown.{lower_digits, hex_text, Piece, Digits, Times, runs, run_pieces, piece_text, pieces_text, bytes_text, errno_text, mode_text, names_text, names_within, flags_text, mask_text, reply_text}
use Rattle.pl_model.specs.Numbers.{usual_descriptions, usual_processes, no_limit}
use Rattle.pl_recording.specs.Record.{told_unless, limits_text}

-- no line feed
abbrev pub NoFeed : ℕ → Type 0
NoFeed c = c ≡ 10 → ⊥

differ : (b : Bool) → not b ≡ true → b ≡ true → ⊥
differ true p q = absurd (cc)
differ false p q = absurd (cc)

-- a text that is written out
pub literal : (text : List ℕ) → list_all (λ c. not (c == 10)) text ≡ true → All NoFeed text
literal text passes =
    All-weaker (λ c. not (c == 10) ≡ true) NoFeed (λ c p e. differ (c == 10) p (eq-eqb c 10 e)) text (AllPass-from_list_all (λ c. not (c == 10)) text passes)

-- ---- numbers

either_byte : (b : Bool) (d : ℕ) → NoFeed (cond b (48 + d) (87 + d))
either_byte true d e = omega arith
either_byte false d e = omega arith

glyph : (d : ℕ) → NoFeed (digit_glyph false d)
glyph d = either_byte (nat_lt d 10) d

either : (b : Bool) (x y : List ℕ) → All NoFeed x → All NoFeed y → All NoFeed (cond b x y)
either true x y p q = p
either false x y p q = q

digits_line : (k base n : ℕ) (behind : List ℕ) → All NoFeed behind → All NoFeed (digits_onto k base false n behind)
digits_line zero base n behind one = one
digits_line (suc k) base n behind one =
    let more = All-cons NoFeed (digit_glyph false (n % base)) behind (glyph (n % base)) one in
    either (n / base == 0) (digit_glyph false (n % base) ∷ behind) (digits_onto k base false (n / base) (digit_glyph false (n % base) ∷ behind)) more
    (digits_line k base (n / base) (digit_glyph false (n % base) ∷ behind) more)

pub number_line : (n : ℕ) → All NoFeed (decimal n)
unfolding digits
number_line n = digits_line 64 10 n [] (All-nil NoFeed)

pub signed_line : (z : ℤ) → All NoFeed (signed_decimal z)
signed_line (pos n) = number_line n
signed_line (negsuc n) = All-cons NoFeed 45 (decimal (suc n)) (λ e. omega arith) (number_line (suc n))

-- ---- bytes

past : (xs : List ℕ) (k : ℕ) → length xs ≤ k → get_or xs k 0 ≡ 0
past [] k le = refl
past (x ∷ xs) zero le = absurd (omega arith)
past (x ∷ xs) (suc k) le = past xs k (omega arith)

digits_pass : list_all (λ c. not (c == 10)) lower_digits ≡ true
digits_pass = refl

digit_feed : (d : ℕ) → NoFeed (slice_index lower_digits d)
digit_feed d e = elim (cases_lt d 16) [
  | inl lt ↦ literal lower_digits digits_pass d 0 lt e
  | inr le ↦ let none : slice_index lower_digits d ≡ 0 = past lower_digits d le in omega arith
]

hex_line : (bytes : List ℕ) → All NoFeed (hex_text bytes)
unfolding hex_text
hex_line [] = All-nil NoFeed
hex_line (b ∷ bs) =
    All-cons NoFeed (slice_index lower_digits (b / 16)) (slice_index lower_digits (b % 16) ∷ hex_text bs) (digit_feed (b / 16))
    (All-cons NoFeed (slice_index lower_digits (b % 16)) (hex_text bs) (digit_feed (b % 16)) (hex_line bs))

piece_line : (p : Piece) → All NoFeed (piece_text p)
piece_line (Digits bytes) = hex_line bytes
piece_line (Times n b) =
    All-append NoFeed (decimal n) (42 ∷ hex_text (b ∷ [])) (number_line n) (All-cons NoFeed 42 (hex_text (b ∷ [])) (λ e. omega arith) (hex_line (b ∷ [])))

pieces_line : (ps : List Piece) → All NoFeed (pieces_text ps)
unfolding pieces_text
pieces_line [] = All-nil NoFeed
pieces_line (p ∷ []) = piece_line p
pieces_line (p ∷ q ∷ ps) =
    All-append NoFeed (piece_text p) (43 ∷ pieces_text (q ∷ ps)) (piece_line p) (All-cons NoFeed 43 (pieces_text (q ∷ ps)) (λ e. omega arith) (pieces_line (q ∷ ps)))

bytes_line : (bytes : List ℕ) → All NoFeed (bytes_text Two bytes)
unfolding bytes_text
bytes_line [] = literal (codes "-") refl
bytes_line (b ∷ bs) = pieces_line (run_pieces (runs (b ∷ bs)))

-- ---- names

abbrev AreLines : List (List ℕ) → Type 0
AreLines [] = ⊤
AreLines (name ∷ names) = All NoFeed name × AreLines names

names_line : (names : List (List ℕ)) → AreLines names → All NoFeed (names_text names)
unfolding names_text
names_line [] are = literal (codes "-") refl
names_line (name ∷ []) are = are.0
names_line (name ∷ next ∷ names) are =
    All-append NoFeed name (44 ∷ names_text (next ∷ names)) are.0 (All-cons NoFeed 44 (names_text (next ∷ names)) (λ e. omega arith) (names_line (next ∷ names) are.1))

abbrev name_of : ℕ × List ℕ → List ℕ
name_of n = n.1

kept_by : (b : Bool) (n : ℕ × List ℕ) (rest : List (ℕ × List ℕ)) → All NoFeed n.1 → AreLines (map name_of rest) → AreLines (map name_of (cond b (n ∷ rest) rest))
kept_by true n rest one are = (one, are)
kept_by false n rest one are = are

kept : (set : ℕ) (table : List (ℕ × List ℕ)) → AreLines (map name_of table) → AreLines (map name_of (filter (λ n. has set n.0) table))
kept set [] are = tt
kept set (n ∷ table) are = kept_by (has set n.0) n (filter (λ m. has set m.0) table) are.0 (kept set table are.1)

within_line : (set : ℕ) (table : List (ℕ × List ℕ)) → AreLines (map name_of table) → All NoFeed (names_within set table)
within_line set table are = names_line (map name_of (filter (λ n. has set n.0) table)) (kept set table are)

mask_line : (mask : PollMask) → All NoFeed (mask_text mask)
unfolding mask_text
mask_line mask =
    within_line mask.0 mask_names (literal (codes "in") refl, (literal (codes "out") refl, (literal (codes "err") refl, (literal (codes "hup") refl, (literal (codes "nval") refl, tt)))))

masks_line : (masks : List PollMask) → All NoFeed (flat_map (λ mask. codes " " ++ mask_text mask) masks)
masks_line [] = All-nil NoFeed
masks_line (mask ∷ masks) =
    All-append NoFeed (codes " " ++ mask_text mask) (flat_map (λ mask. codes " " ++ mask_text mask) masks)
    (All-append NoFeed (codes " ") (mask_text mask) (literal (codes " ") refl) (mask_line mask)) (masks_line masks)

mode_line : (mode : Mode) → All NoFeed (mode_text mode)
mode_line Mode.Read = literal (codes "r") refl
mode_line Mode.Write = literal (codes "w") refl
mode_line Mode.Both = literal (codes "rw") refl

errno_line : (errno : Errno) → All NoFeed (errno_text errno)
errno_line EAGAIN = literal (codes "EAGAIN") refl
errno_line EBADF = literal (codes "EBADF") refl
errno_line EBUSY = literal (codes "EBUSY") refl
errno_line EEXIST = literal (codes "EEXIST") refl
errno_line EFBIG = literal (codes "EFBIG") refl
errno_line EINTR = literal (codes "EINTR") refl
errno_line EINVAL = literal (codes "EINVAL") refl
errno_line EMFILE = literal (codes "EMFILE") refl
errno_line ENAMETOOLONG = literal (codes "ENAMETOOLONG") refl
errno_line ENFILE = literal (codes "ENFILE") refl
errno_line ENOENT = literal (codes "ENOENT") refl
errno_line ENOSPC = literal (codes "ENOSPC") refl
errno_line ENXIO = literal (codes "ENXIO") refl
errno_line EOVERFLOW = literal (codes "EOVERFLOW") refl
errno_line EPERM = literal (codes "EPERM") refl
errno_line EPIPE = literal (codes "EPIPE sigpipe") refl
errno_line ESPIPE = literal (codes "ESPIPE") refl

-- ---- replies

both : (first second : List ℕ) → All NoFeed first → All NoFeed second → All NoFeed (first ++ second)
both first second p q = All-append NoFeed first second p q

module _ {A : Type 0} where
  pub reply_line : (reply : Reply A) → All NoFeed (reply_text Two reply)
  unfolding reply_text flags_text
  reply_line (Pid n) = both (codes "pid ") (decimal n) (literal (codes "pid ") refl) (number_line n)
  reply_line (Fd a) = both (codes "fd ") (signed_decimal a) (literal (codes "fd ") refl) (signed_line a)
  reply_line (Fds a b) =
      both (codes "fds ") (signed_decimal a ++ (codes " " ++ signed_decimal b)) (literal (codes "fds ") refl)
      (both (signed_decimal a) (codes " " ++ signed_decimal b) (signed_line a) (both (codes " ") (signed_decimal b) (literal (codes " ") refl) (signed_line b)))
  reply_line (Count n false) = both (codes "count ") (decimal n) (literal (codes "count ") refl) (number_line n)
  reply_line (Count n true) =
      both (codes "count ") (decimal n ++ codes " sigpipe") (literal (codes "count ") refl) (both (decimal n) (codes " sigpipe") (number_line n) (literal (codes " sigpipe") refl))
  reply_line (Bytes bytes) = both (codes "data ") (bytes_text Two bytes) (literal (codes "data ") refl) (bytes_line bytes)
  reply_line (Offset n) = both (codes "offset ") (decimal n) (literal (codes "offset ") refl) (number_line n)
  reply_line (Flags mode flags) =
      both (codes "flags ") (mode_text mode ++ (codes " " ++ names_within flags.0 status_names)) (literal (codes "flags ") refl)
      (both (mode_text mode) (codes " " ++ names_within flags.0 status_names) (mode_line mode)
      (both (codes " ") (names_within flags.0 status_names) (literal (codes " ") refl)
      (within_line flags.0 status_names (literal (codes "append") refl, (literal (codes "nonblock") refl, (literal (codes "direct") refl, tt))))))
  reply_line (Size n) = both (codes "size ") (decimal n) (literal (codes "size ") refl) (number_line n)
  reply_line (Masks ready masks) =
      both (codes "masks ") (decimal ready ++ flat_map (λ mask. codes " " ++ mask_text mask) masks) (literal (codes "masks ") refl)
      (both (decimal ready) (flat_map (λ mask. codes " " ++ mask_text mask) masks) (number_line ready) (masks_line masks))
  reply_line Done = literal (codes "ok") refl
  reply_line (Fault errno) = errno_line errno
  reply_line (Parked c) = both (codes "parked ") (decimal c) (literal (codes "parked ") refl) (number_line c)
  reply_line NoProcess = literal (codes "no process") refl
  reply_line NoCall = literal (codes "no call") refl
  reply_line CallsSpent = literal (codes "calls spent") refl

-- ---- the limits

behind : (first : List ℕ) (n : ℕ) (rest : List ℕ) → All NoFeed first → All NoFeed rest → All NoFeed (first ++ (decimal n ++ rest))
behind first n rest p q = both first (decimal n ++ rest) p (both (decimal n) rest (number_line n) q)

unless_line : (usual n : ℕ) (name : List ℕ) → All NoFeed name → All NoFeed (told_unless usual n name)
unless_line usual n name p = either (n == usual) [] (name ++ decimal n) (All-nil NoFeed) (both name (decimal n) p (number_line n))

pub limits_line : (limits : Limits) → All NoFeed (limits_text limits)
limits_line limits =
    behind (codes "# piperun --first-call ") limits.first_call _ (literal (codes "# piperun --first-call ") refl)
    (behind (codes " --file-max ") limits.file_max _ (literal (codes " --file-max ") refl)
    (behind (codes " --names-max ") limits.names_max _ (literal (codes " --names-max ") refl)
    (behind (codes " --waiting-max ") limits.waiting_max _ (literal (codes " --waiting-max ") refl)
    (behind (codes " --capacity-max ") limits.capacity_max _ (literal (codes " --capacity-max ") refl)
    (behind (codes " --descriptors-max ") limits.descriptors_max _ (literal (codes " --descriptors-max ") refl)
    (both (told_unless usual_descriptions limits.descriptions_max (codes " --descriptions-max ")) _
    (unless_line usual_descriptions limits.descriptions_max (codes " --descriptions-max ") (literal (codes " --descriptions-max ") refl))
    (both (told_unless usual_processes limits.processes_max (codes " --processes-max ")) (told_unless no_limit limits.waiting_of_each (codes " --waiting-of-each "))
    (unless_line usual_processes limits.processes_max (codes " --processes-max ") (literal (codes " --processes-max ") refl))
    (unless_line no_limit limits.waiting_of_each (codes " --waiting-of-each ") (literal (codes " --waiting-of-each ") refl)))))))))
