-- An answer says what the kernel replied.
use Rattle.std.proofs.Common.{◌≡◌, ◌≤◌, ◌<◌, ℕ, List, ◌++◌, take, drop, length, refl, sym, ap, subst, ◌∙◌, length-take-le, length-append, length-drop, append_assoc, take-append-drop, arith}
use Rattle.std.proofs.lemmas.List.{drop-append-le}
use Rattle.bindingclay.specs.Heap.{InBudget}
use Rattle.pl_model.specs.declared.calls.Step.{Step}
use Rattle.pl_model.specs.declared.calls.Step.TheVariants.{Resume}
use Rattle.pl_model.specs.declared.replies.Reply.{Reply}
use Rattle.pl_model.specs.declared.replies.Reply.TheVariants.{Pid, Fd, Fds, Count, Bytes, Offset, Flags, Size, Masks, Unit, Fault, Parked, NoProcess, NoCall, CallsSpent}
use Rattle.pl_state.specs.Contents.{Contents}
use Rattle.pl_state.specs.Makes.{Makes as MadeByKernel}
use Rattle.pl_transfers.specs.ReadInto.{told, read_count}
use Rattle.pl_state.specs.declared.answered.Answered.{Answered}
use Rattle.pl_state.specs.declared.answered.Answered.TheVariants as Read
use Rattle.pl_numbers.specs.declared.answer.Answer.{Answer}
use Rattle.pl_numbers.specs.Answers.{said, plain, no_memory, short}
use Rattle.bindingclay.specs.Made.{Makes, Replied, Resumed, Resumes, unmoved, read_answer, bytes_after}

-- no reply has the kind of what is no reply
pub said_at_most : (r : Reply InBudget) → (said r).kind ≤ 5
said_at_most (Pid pid) = omega arith
said_at_most (Fd fd) = omega arith
said_at_most (Fds reader writer) = omega arith
said_at_most (Count n sigpipe) = omega arith
said_at_most (Bytes bytes) = omega arith
said_at_most (Offset offset) = omega arith
said_at_most (Flags mode flags) = omega arith
said_at_most (Size size) = omega arith
said_at_most (Masks ready masks) = omega arith
said_at_most Unit = omega arith
said_at_most (Fault e) = omega arith
said_at_most (Parked n) = omega arith
said_at_most NoProcess = omega arith
said_at_most NoCall = omega arith
said_at_most CallsSpent = omega arith

-- no reply tells whether bytes moved
pub still_said : (r : Reply InBudget) → unmoved (said r) ≡ said r
still_said (Pid pid) = refl
still_said (Fd fd) = refl
still_said (Fds reader writer) = refl
still_said (Count n sigpipe) = refl
still_said (Bytes bytes) = refl
still_said (Offset offset) = refl
still_said (Flags mode flags) = refl
still_said (Size size) = refl
still_said (Masks ready masks) = refl
still_said Unit = refl
still_said (Fault e) = refl
still_said (Parked n) = refl
still_said NoProcess = refl
still_said NoCall = refl
still_said CallsSpent = refl

module _ (a : Answer) (r : Reply InBudget) (says : a ≡ said r) where
  pub says_unmoved : unmoved a ≡ said r
  says_unmoved = ap unmoved says ∙ still_said r

  kind_at_most : a.kind ≤ 5
  kind_at_most = subst (λ (z : Answer). z.kind ≤ 5) (sym says) (said_at_most r)

  pub has_memory : a.kind ≡ no_memory → ⊥
  has_memory e = (let few = kind_at_most in omega arith)

  pub has_room : a.kind ≡ short → ⊥
  has_room e = (let few = kind_at_most in omega arith)

module _ (old : Contents InBudget) (x : Step InBudget) (a : Answer) where
  module _ (r : Reply InBudget) (new : Contents InBudget) (made : MadeByKernel old x r new) where
    -- what holds of the kernel's reply holds of the machine's
    pub of_reply : (P : Reply InBudget → Type 0) → P r → Replied old x a P
    of_reply P p = λ kind s stands. subst P (made s stands).0 p

    pub replied : a ≡ said r → Makes old x a new
    replied says =
        record {
          says = of_reply (λ reply. a ≡ said reply) says;
          made = λ kind s stands. (made s stands).1;
          unmade = λ e. absurd (has_memory a r says e);
        }

  -- where no memory was found, nothing is said of a reply
  pub not_replied : (P : Reply InBudget → Type 0) → a ≡ plain 0 no_memory → Replied old x a P
  not_replied P p = λ kind. absurd (kind (ap (λ (z : Answer). z.kind) p))

  pub unmade : (new : Contents InBudget) → a ≡ plain 0 no_memory → new ≡ old → Makes old x a new
  unmade new p same =
      record {
        says = not_replied (λ reply. a ≡ said reply) p;
        made = λ kind. absurd (kind (ap (λ (z : Answer). z.kind) p));
        unmade = λ e. same;
      }

-- the answer of a read says its reply
pub read_says : (r : Answered ℕ) (bytes : List ℕ) → read_count r ≤ length bytes → read_answer r ≡ said {A = InBudget} (told r bytes)
read_says (Read.Done n) bytes within = ap (λ k. plain k 0) (sym (length-take-le n bytes within))
read_says (Read.Fault e) bytes within = refl
read_says (Read.Parked n) bytes within = refl
read_says Read.NoProcess bytes within = refl
read_says Read.CallsSpent bytes within = refl

-- what a read leaves in the caller's bytes
pub read_leaves : (r : Answered ℕ) (old new : List ℕ) → read_count r ≤ length new → drop (read_count r) new ≡ drop (read_count r) old → new ≡ bytes_after old (told r new)
read_leaves (Read.Done n) old new within rest =
    sym (take-append-drop n new) ∙ ap (λ l. take n new ++ l) (rest ∙ ap (λ k. drop k old) (sym (length-take-le n new within)))
read_leaves (Read.Fault e) old new within rest = rest
read_leaves (Read.Parked n) old new within rest = rest
read_leaves Read.NoProcess old new within rest = rest
read_leaves Read.CallsSpent old new within rest = rest

-- bytes that were read into the first n of the caller's
pub cut_leaves : (reply : Reply InBudget) (old new : List ℕ) (n : ℕ) → new ≡ bytes_after (take n old) reply → length new ≡ length (take n old) → new ++ drop n old ≡ bytes_after old reply
cut_leaves reply old new n is same = by reply is
  where
    stays : new ≡ take n old → new ++ drop n old ≡ old
    stays e = ap (λ l. l ++ drop n old) e ∙ take-append-drop n old

    by : (r : Reply InBudget) → new ≡ bytes_after (take n old) r → new ++ drop n old ≡ bytes_after old r
    by (Bytes bytes) e =
        let few : length bytes ≤ length (take n old) = (let counted = sym (ap (λ l. length l) e) ∙ same in let sum = length-append bytes (drop (length bytes) (take n old)) in let rest = length-drop (length bytes) (take n old) in omega arith) in
        ap (λ l. l ++ drop n old) e
        ∙ append_assoc bytes (drop (length bytes) (take n old)) (drop n old)
        ∙ ap (λ l. bytes ++ l) (sym (drop-append-le (length bytes) (take n old) (drop n old) few) ∙ ap (λ l. drop (length bytes) l) (take-append-drop n old))
    by (Pid pid) e = stays e
    by (Fd fd) e = stays e
    by (Fds reader writer) e = stays e
    by (Count k sigpipe) e = stays e
    by (Offset offset) e = stays e
    by (Flags mode flags) e = stays e
    by (Size size) e = stays e
    by (Masks ready masks) e = stays e
    by Unit e = stays e
    by (Fault errno) e = stays e
    by (Parked k) e = stays e
    by NoProcess e = stays e
    by NoCall e = stays e
    by CallsSpent e = stays e

module _ (old new : Contents InBudget) (number room : ℕ) (a : Answer) where
  -- a parked call that was tried again, and answered so
  module _ (r : Reply InBudget) (made : MadeByKernel old (Resume number) r new) where
    pub again_of : (P : Reply InBudget → Type 0) → P r → Resumed old number a P
    again_of P p = λ some room s stands. subst P (made s stands).0 p

    pub resumed : a ≡ said r → Resumes old number room a new
    resumed says =
        record {
          says = again_of (λ reply. unmoved a ≡ said reply) (says_unmoved a r says);
          made = λ some room s stands. (made s stands).1;
          wider = λ e. absurd (has_room a r says e);
          unmade = λ e. absurd (has_memory a r says e);
        }

  -- a read that gives more bytes than there is room for
  pub too_short : (n : ℕ) → a ≡ plain n short → new ≡ old → room < n → Resumes old number room a new
  too_short n is same less =
      record {
        says = λ some room. absurd (room (ap (λ (z : Answer). z.kind) is));
        made = λ some room. absurd (room (ap (λ (z : Answer). z.kind) is));
        wider = λ e. (subst (λ k. room < k) (sym (ap (λ (z : Answer). z.value) is)) less, same);
        unmade = λ e. absurd (let same = sym (ap (λ (z : Answer). z.kind) is) ∙ e in cc);
      }

  pub found_none : a ≡ plain 0 no_memory → new ≡ old → Resumes old number room a new
  found_none is same =
      record {
        says = λ some. absurd (some (ap (λ (z : Answer). z.kind) is));
        made = λ some. absurd (some (ap (λ (z : Answer). z.kind) is));
        wider = λ e. absurd (let same = sym (ap (λ (z : Answer). z.kind) is) ∙ e in cc);
        unmade = λ e. same;
      }
