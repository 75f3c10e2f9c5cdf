-- What dup, dup2 and fcntl's F_DUPFD come to at the kernel's keys.
use Rattle.std.proofs.Common.{◌≡◌, ◌<◌, ◌≤◌, ℕ, Bool, true, false, cond, Option, Some, None, IsSome, refl, sym, ◌∙◌, ap, arith, ltb-true}
use Rattle.std.specs.Prelude.{not, ℤ, pos, negsuc, option_map, Result, Ok, Err, IfOk, OnErr}
use Rattle.std.proofs.lemmas.Bool.{le-ltb, lt-ltb, false≢true}
use Rattle.std.proofs.lemmas.Bool.Decides.{nat_tests}
use Rattle.pl_model.specs.Numbers.{most_descriptors}
use Rattle.pl_model.specs.declared.calls.Call.{Call}
use Rattle.pl_model.specs.declared.calls.Limits.{Limits}
use Rattle.pl_model.specs.declared.calls.Step.{Step}
use Rattle.pl_model.specs.declared.calls.Step.TheVariants.{Begin}
use Rattle.pl_model.specs.declared.replies.Reply.{Reply}
use Rattle.pl_model.specs.declared.replies.Reply.TheVariants.{Fault, Fd}
use Rattle.pl_model.specs.declared.replies.Errno.{Errno}
use Rattle.pl_model.specs.declared.replies.Errno.TheVariants.{EBADF, EINVAL, EMFILE}
use Rattle.pl_model.specs.State.{Core, Open}
use Rattle.pl_model.specs.Settle.{settle}
use Rattle.pl_model.specs.Trial.{Begins, found, answered, refuse_if}
use Rattle.pl_model.specs.Tables.{descriptor_limit, lowest, install}
use Rattle.pl_model.specs.Begin.{begin_dup, begin_dup2, begin_dup_fd, open_fd, is_descriptor, natural}
use Rattle.pl_model.specs.Step.{begin, ended, stepped}
use Rattle.pl_model.specs.Numbered.{numbers}
use Rattle.pl_model.proofs.settling.Changes.{install-same}
use Rattle.pl_model.proofs.settling.AtOnce.{free}
use Rattle.pl_desc.specs.Rows.{at, Tables, is_pid, row_at, row_of, lowest_of, with_row, count_at, change_count, one_more, one_less}
use Rattle.pl_desc.specs.Descs.{Opened, Descs, IsTidy}
use Rattle.pl_state.specs.Contents.{Contents, contents, description_of, core_of}
use Rattle.pl_state.specs.Sound.{IsSound, AreCounted}
use Rattle.pl_state.specs.Makes.{MakesAtKeys, MayWantAtKeys}
use Rattle.pl_descriptors.specs.Duplicates.{Duplicates}
use Rattle.pl_state.proofs.Known.{Known, Caller}
use Rattle.pl_state.proofs.holders.Holding.{one_more_less}
use Rattle.pl_state.proofs.holders.Belonging.{belong-same}
use Rattle.pl_state.proofs.holders.Staying.{stays-settled, stays-sound}
use Rattle.pl_state.proofs.by_call.Begun.{open-none, open-is, does_plain, does_same, wants_plain, step-refused, step-answered}
use Rattle.pl_state.proofs.by_call.Closing.{row_there, open_here}
use lib.Signed.{lt_z}
use lib.IntN.{nat_abs}

-- what holds of a reply, and what of an error
pub on_reply : {T E : Type 0} {P Q : T → Type 0} (r : Result T E) → ((x : T) → P x → Q x) → IfOk r P → IfOk r Q
on_reply (Ok x) f p = f x p
on_reply (Err e) f p = tt

pub on_want : {T E P Q : Type 0} (r : Result T E) → (P → Q) → OnErr r P → OnErr r Q
on_want (Ok x) f p = tt
on_want (Err e) f p = f p

-- whether a table has a place for a whole number, by the tests of the code
module _ (limits : Limits) where
  pub below_all : (z : ℤ) → lt_z z (pos 0) ≡ true → is_descriptor limits z ≡ false
  below_all (pos n) h = grind (arith, nat_tests)
  below_all (negsuc n) h = refl

  pub above_all : (z : ℤ) → lt_z z (pos 0) ≡ false → descriptor_limit limits ≤ nat_abs z → is_descriptor limits z ≡ false
  above_all (pos n) l h = le-ltb n (descriptor_limit limits) h
  above_all (negsuc n) l h = refl

  pub within_all : (z : ℤ) → lt_z z (pos 0) ≡ false → nat_abs z < descriptor_limit limits → is_descriptor limits z ≡ true
  within_all (pos n) l h = lt-ltb n (descriptor_limit limits) h
  within_all (negsuc n) l h = absurd (cc)

  pub place_is : (z : ℤ) → is_descriptor limits z ≡ true → nat_abs z ≡ natural z
  place_is (pos n) h = refl
  place_is (negsuc n) h = absurd (cc)

  -- a place of the table that names nothing
  pub unnamed : (tables : Tables) (pid : ℕ) (fd : ℤ) → is_descriptor limits fd ≡ true → row_of tables pid fd ≡ None → row_at tables pid (natural fd) ≡ None
  unnamed tables pid (pos n) h e = sym (ap (λ b. cond b (row_at tables pid n) None) (lt-ltb n most_descriptors (omega (arith, ltb-true n (descriptor_limit limits) h)))) ∙ e
  unnamed tables pid (negsuc n) h e = absurd (cc)

-- A description is held once more, and a free descriptor comes to name it by that hold.
module _ {A : Type 0} (m : Known A) (pid fd key : ℕ) (more : Descs) (more_loose : count_at more.loose ≡ change_count key one_more (count_at m.descs.loose)) (more_rest : more ≡ record m.descs { loose = more.loose; room = more.room })
    (new : Descs) (rows : row_at new.tables ≡ with_row (row_at more.tables) pid fd (Some key)) (pids : is_pid new.tables ≡ is_pid more.tables)
    (loose : count_at new.loose ≡ change_count key one_less (count_at more.loose)) (rest : new ≡ record more { tables = new.tables; loose = new.loose }) (tidy : IsTidy new) where
  open m use {descs, nodes, calls, limits, sound, are}

  abbrev before : Core A numbers
  before = core_of (contents descs nodes calls limits)

  abbrev after : Core A numbers
  after = core_of (contents new nodes calls limits)

  same : at new.opened ≡ at descs.opened
  same = ap (λ (z : Descs). at z.opened) rest ∙ ap (λ (z : Descs). at z.opened) more_rest

  pub name-held : AreCounted A limits new calls.calls
  name-held = record { tidy = tidy; bounds = ap (λ (z : Descs). z.limits) rest ∙ ap (λ (z : Descs). z.limits) more_rest ∙ are.bounds; counted = λ q. ap (λ (m : ℕ → ℕ). m q) (loose ∙ ap (change_count key one_less) more_loose ∙ one_more_less key (count_at descs.loose)) ∙ are.counted q }

  pub name-sound : IsSound A (contents new nodes calls limits)
  name-sound = stays-sound m new same name-held (belong-same calls.calls (is_pid descs.tables) (is_pid new.tables) sound.belong (pids ∙ ap (λ (z : Descs). is_pid z.tables) more_rest))

  pub name-settled : settle before after ≡ after
  name-settled = stays-settled m new same name-held

  pub name-is : after ≡ install before pid fd key
  unfolding core_of
  name-is = λ i. record before {
    processes = (pids ∙ ap (λ (z : Descs). is_pid z.tables) more_rest) i;
    rows = (rows ∙ ap (λ (z : Descs). with_row (row_at z.tables) pid fd (Some key)) more_rest) i;
    descriptions = λ d. option_map description_of (same i d);
  }

module _ {A : Type 0} (m : Caller A) (fd : ℤ) where
  open m use {kernel, descs, nodes, calls, limits, sound, are, pid, process}

  abbrev k : Contents A
  k = contents descs nodes calls limits

  abbrev c : Core A numbers
  c = core_of k

  here : (key : ℕ) → row_of descs.tables pid fd ≡ Some key → (x : Opened) × (at descs.opened key ≡ Some x)
  here key row = open_here kernel pid fd key row

  -- a call on what a descriptor names
  module _ (call : Call A) (next : Open numbers → Begins A numbers) (begins : begin c pid call ≡ found (open_fd c pid fd) EBADF next) where
    unopened : row_of descs.tables pid fd ≡ None → MakesAtKeys k (Begin pid call) (Fault EBADF) k
    unopened none = does_same k sound (Begin pid call) (stepped c (Fault EBADF)) (Fault EBADF) (step-refused k pid call process EBADF (begins ∙ ap (λ o. found o EBADF next) (open-none k pid fd none))) refl refl

    module _ (key : ℕ) (row : row_of descs.tables pid fd ≡ Some key) where
      abbrev named_by : Open numbers
      named_by = record { key = key; description = description_of (here key row).0 }

      opened : begin c pid call ≡ next named_by
      opened = begins ∙ ap (λ o. found o EBADF next) (open-is k pid fd key (here key row).0 row (here key row).1)

      refused : (errno : Errno) (checks : Begins A numbers) → next named_by ≡ refuse_if true errno checks → MakesAtKeys k (Begin pid call) (Fault errno) k
      refused errno checks e = does_same k sound (Begin pid call) (stepped c (Fault errno)) (Fault errno) (step-refused k pid call process errno (opened ∙ e)) refl refl

  -- a free descriptor, if there is one, comes to name a description
  abbrev names_free : ℕ → Option ℕ → Begins A numbers
  names_free key o = found o EMFILE (λ free. answered (install c pid free key) (Fd (pos free)))

  module _ (call : Call A) (least key : ℕ) (begins : begin c pid call ≡ names_free key (lowest c pid least)) (reply : Reply A) (new : Contents A) where
    duplicated : Duplicates k pid key (lowest_of descs.tables (descriptor_limit limits) pid least) reply new → MakesAtKeys k (Begin pid call) reply new
    unfolding lowest core_of
    duplicated d = by (lowest_of descs.tables (descriptor_limit limits) pid least) refl d
      where
        by : (o : Option ℕ) → lowest_of descs.tables (descriptor_limit limits) pid least ≡ o → Duplicates k pid key o reply new → MakesAtKeys k (Begin pid call) reply new
        by None e d = does_plain k new (Begin pid call) (ended c (stepped c (Fault EMFILE))) reply (step-refused k pid call process EMFILE (begins ∙ ap (names_free key) e)) d.0 (ap (λ z. core_of z) d.1 ∙ sym sound.settled)
        by (Some free) e d = does_plain k new (Begin pid call) (ended c (stepped (install c pid free key) (Fd (pos free)))) reply
            (step-answered k pid call process (install c pid free key) (Fd (pos free)) (begins ∙ ap (names_free key) e)) d.0 (sym d.2 ∙ ap (settle c) d.1)

  -- a row for the free descriptor may want memory
  module _ (call : Call A) (least key : ℕ) (begins : begin c pid call ≡ names_free key (lowest c pid least)) where
    may_want : IsSome (lowest_of descs.tables (descriptor_limit limits) pid least) → MayWantAtKeys k (Begin pid call)
    unfolding lowest core_of
    may_want some = by (lowest_of descs.tables (descriptor_limit limits) pid least) refl some
      where
        by : (o : Option ℕ) → lowest_of descs.tables (descriptor_limit limits) pid least ≡ o → IsSome o → MayWantAtKeys k (Begin pid call)
        by None e s = absurd (false≢true s)
        by (Some free) e s = wants_plain k k (Begin pid call) (ended c (stepped (install c pid free key) (Fd (pos free)))) (step-answered k pid call process (install c pid free key) (Fd (pos free)) (begins ∙ ap (names_free key) e)) refl

  -- dup
  abbrev dups : Open numbers → Begins A numbers
  dups o = names_free o.key (lowest c pid 0)

  dup_begins : begin c pid (Call.Dup fd) ≡ found (open_fd c pid fd) EBADF dups
  unfolding begin begin_dup
  dup_begins = refl

  pub dup-closed : row_of descs.tables pid fd ≡ None → MakesAtKeys k (Begin pid (Call.Dup fd)) (Fault EBADF) k
  dup-closed = unopened (Call.Dup fd) dups dup_begins

  pub dup-does : (key : ℕ) → row_of descs.tables pid fd ≡ Some key → (reply : Reply A) (new : Contents A) → Duplicates k pid key (lowest_of descs.tables (descriptor_limit limits) pid 0) reply new → MakesAtKeys k (Begin pid (Call.Dup fd)) reply new
  dup-does key row reply new = duplicated (Call.Dup fd) 0 key (opened (Call.Dup fd) dups dup_begins key row) reply new

  pub dup-wants : (key : ℕ) → row_of descs.tables pid fd ≡ Some key → IsSome (lowest_of descs.tables (descriptor_limit limits) pid 0) → MayWantAtKeys k (Begin pid (Call.Dup fd))
  dup-wants key row = may_want (Call.Dup fd) 0 key (opened (Call.Dup fd) dups dup_begins key row)

  -- fcntl, F_DUPFD
  module _ (least : ℤ) where
    abbrev dups_from : Open numbers → Begins A numbers
    dups_from o = refuse_if (not (is_descriptor limits least)) EINVAL (names_free o.key (lowest c pid (natural least)))

    dup_fd_begins : begin c pid (Call.DupFd fd least) ≡ found (open_fd c pid fd) EBADF dups_from
    unfolding begin begin_dup_fd core_of
    dup_fd_begins = refl

    pub dup_fd-closed : row_of descs.tables pid fd ≡ None → MakesAtKeys k (Begin pid (Call.DupFd fd least)) (Fault EBADF) k
    dup_fd-closed = unopened (Call.DupFd fd least) dups_from dup_fd_begins

    module _ (key : ℕ) (row : row_of descs.tables pid fd ≡ Some key) where
      pub dup_fd-refused : is_descriptor limits least ≡ false → MakesAtKeys k (Begin pid (Call.DupFd fd least)) (Fault EINVAL) k
      dup_fd-refused out = refused (Call.DupFd fd least) dups_from dup_fd_begins key row EINVAL (names_free key (lowest c pid (natural least))) (ap (λ b. refuse_if (not b) EINVAL (names_free key (lowest c pid (natural least)))) out)

      pub dup_fd-does : is_descriptor limits least ≡ true → (reply : Reply A) (new : Contents A) → Duplicates k pid key (lowest_of descs.tables (descriptor_limit limits) pid (natural least)) reply new → MakesAtKeys k (Begin pid (Call.DupFd fd least)) reply new
      dup_fd-does within reply new = duplicated (Call.DupFd fd least) (natural least) key
          (opened (Call.DupFd fd least) dups_from dup_fd_begins key row ∙ ap (λ b. refuse_if (not b) EINVAL (names_free key (lowest c pid (natural least)))) within) reply new

      pub dup_fd-wants : is_descriptor limits least ≡ true → IsSome (lowest_of descs.tables (descriptor_limit limits) pid (natural least)) → MayWantAtKeys k (Begin pid (Call.DupFd fd least))
      dup_fd-wants within = may_want (Call.DupFd fd least) (natural least) key
          (opened (Call.DupFd fd least) dups_from dup_fd_begins key row ∙ ap (λ b. refuse_if (not b) EINVAL (names_free key (lowest c pid (natural least)))) within)

  -- dup2
  module _ (target : ℤ) where
    abbrev x : Step A
    x = Begin pid (Call.Dup2 fd target)

    abbrev replaces : Open numbers → Begins A numbers
    replaces o = refuse_if (not (is_descriptor limits target)) EBADF (answered (install c pid (natural target) o.key) (Fd target))

    dup2_begins : begin c pid (Call.Dup2 fd target) ≡ found (open_fd c pid fd) EBADF replaces
    unfolding begin begin_dup2 core_of
    dup2_begins = refl

    pub dup2-closed : row_of descs.tables pid fd ≡ None → MakesAtKeys k x (Fault EBADF) k
    dup2-closed = unopened (Call.Dup2 fd target) replaces dup2_begins

    module _ (key : ℕ) (row : row_of descs.tables pid fd ≡ Some key) where
      abbrev checked : Bool → Begins A numbers
      checked b = refuse_if (not b) EBADF (answered (install c pid (natural target) key) (Fd target))

      pub dup2-refused : is_descriptor limits target ≡ false → MakesAtKeys k x (Fault EBADF) k
      dup2-refused out = refused (Call.Dup2 fd target) replaces dup2_begins key row EBADF (answered (install c pid (natural target) key) (Fd target)) (ap checked out)

      pub dup2-wants : is_descriptor limits target ≡ true → MayWantAtKeys k x
      dup2-wants within = wants_plain k k x (ended c (stepped (install c pid (natural target) key) (Fd target)))
          (step-answered k pid (Call.Dup2 fd target) process (install c pid (natural target) key) (Fd target) (opened (Call.Dup2 fd target) replaces dup2_begins key row ∙ ap checked within)) refl

      module _ (within : is_descriptor limits target ≡ true) (new : Contents A) where
        pub dup2-does : core_of new ≡ settle c (install c pid (natural target) key) → MakesAtKeys k x (Fd target) new
        dup2-does is = does_plain k new x (ended c (stepped (install c pid (natural target) key) (Fd target))) (Fd target)
            (step-answered k pid (Call.Dup2 fd target) process (install c pid (natural target) key) (Fd target) (opened (Call.Dup2 fd target) replaces dup2_begins key row ∙ ap checked within)) refl is

        -- it names the same one
        pub dup2-same : row_of descs.tables pid target ≡ Some key → new ≡ k → MakesAtKeys k x (Fd target) new
        unfolding core_of
        dup2-same named same = dup2-does (ap (λ z. core_of z) same ∙ sym (ap (settle c) (install-same c pid (natural target) key (row_there descs.tables pid target key named)) ∙ sound.settled))

        -- it names none
        pub dup2-free : core_of new ≡ install c pid (natural target) key → settle c (core_of new) ≡ core_of new → MakesAtKeys k x (Fd target) new
        dup2-free is settles = dup2-does (sym settles ∙ ap (settle c) is)
