-- Whether a call that waits can get on depends on the nodes that it keeps alone.
use Rattle.std.proofs.Common.{◌≡◌, ℕ, ℤ, pos, negsuc, zero, suc, Bool, true, false, cond, Option, List, [], ◌∷◌, length, refl, sym, ◌∙◌, ap, nat_eq, nat_lt}
use Rattle.std.specs.List.{list_any}
use Rattle.std.specs.Set.{is_member}
use Rattle.std.specs.Prelude.{map, option_map, option_and_then, slice_get, unwrap_or, not, ◌||◌, ◌-◌}
use Rattle.std.specs.declared.option.Option.TheVariants.{None, Some}
use Rattle.std.proofs.lemmas.Bool.{eq-eqb}
use Rattle.pl_model.specs.declared.calls.Call.{Call}
use Rattle.pl_model.specs.declared.cases.ReadCase.{ReadCase}
use Rattle.pl_model.specs.declared.cases.WriteCase.{WriteCase}
use Rattle.pl_model.specs.declared.cases.MoveCase.{MoveCase}
use Rattle.pl_model.specs.declared.cases.Polled.{Polled}
use Rattle.pl_model.specs.declared.cases.Source.{Source}
use Rattle.pl_model.specs.declared.cases.Target.{Target}
use Rattle.pl_model.specs.declared.flags.PollMask.{PollMask}
use Rattle.pl_model.specs.declared.replies.Reply.TheVariants.{Fault}
use Rattle.pl_model.specs.declared.replies.Errno.TheVariants.{EINVAL}
use Rattle.pl_model.specs.Flags.{no_mask}
use Rattle.pl_model.specs.Modes.{reads, writes}
use Rattle.pl_model.specs.Keys.{Node, PipeNode, FileNode}
use Rattle.pl_model.specs.State.{Core, Pipe, Description, Open, Waiting, described, empty_pipe}
use Rattle.pl_model.specs.Live.{readers, writers}
use Rattle.pl_model.specs.Packets.{front, is_byte_queue}
use Rattle.pl_model.specs.Trial.{Trial, Done, Wait, still, pipe_at}
use Rattle.pl_model.specs.Transfer.{room, file_at, read_row, write_row, read_case, write_case, read_pipe, write_pipe, read_file, write_file, read_node, write_node}
use Rattle.pl_model.specs.Splice.{Side, side, start, is_packet_pipe, move_case, move_row, source_of, target_of, try_move}
use Rattle.pl_model.specs.Poll.{masks, mask_at, mask_of, polled, not_open, is_ready, masks_reply, try_poll}
use Rattle.pl_model.specs.Tables.{lowest}
use Rattle.pl_model.specs.Step.{with_kept, with_both, kept_at, opened_by, try, try_open}
use Rattle.pl_model.specs.Numbered.{numbers}
use Rattle.pl_model.specs.Waking.{gets_on, progresses}
use Rattle.pl_model.proofs.settling.Members.{or_left, or_right}
use Rattle.pl_model.proofs.settling.WhoIsLive.{readers-is, writers-is, has_end-same}
use Rattle.pl_model.proofs.touching.SameAt.{SameAt}

slice_member : (ks : List ℕ) (i d : ℕ) → slice_get ks i ≡ Some d → is_member nat_eq ks d ≡ true
slice_member [] i d h = absurd (cc)
slice_member (k ∷ ks) zero d h = or_left (nat_eq d k) (is_member nat_eq ks d) (eq-eqb d k (let is : k ≡ d = cc in sym is))
slice_member (k ∷ ks) (suc i) d h = or_right (nat_eq d k) (is_member nat_eq ks d) (slice_member ks i d h)

module _ {A : Type 0} (c v : Core A numbers) where
  -- The second state has the first one's limits, and what the first has at these descriptions.
  pub record SameFor (kept : List ℕ) : Type 0 where
    pub limits : v.limits ≡ c.limits
    pub described : (d : ℕ) → is_member nat_eq kept d ≡ true → v.descriptions d ≡ c.descriptions d
    pub at : (d : ℕ) (x : Description numbers) → is_member nat_eq kept d ≡ true → c.descriptions d ≡ Some x → SameAt c v x.node

  module _ (p : ℕ) (same : SameAt c v (PipeNode p)) where
    pipe-same : pipe_at v p ≡ pipe_at c p
    pipe-same = ap (λ (z : Option Pipe × Option (List ℕ)). unwrap_or z.0 empty_pipe) same.held

    readers-same : nat_lt 0 (readers v p) ≡ nat_lt 0 (readers c p)
    readers-same = readers-is v p ∙ has_end-same c v (PipeNode p) same.ends reads ∙ sym (readers-is c p)

    writers-same : nat_lt 0 (writers v p) ≡ nat_lt 0 (writers c p)
    writers-same = writers-is v p ∙ has_end-same c v (PipeNode p) same.ends writes ∙ sym (writers-is c p)

  file-same : (f : ℕ) → SameAt c v (FileNode f) → file_at v f ≡ file_at c f
  file-same f same = ap (λ (z : Option Pipe × Option (List ℕ)). unwrap_or z.1 []) same.held

  module _ (t : ℕ) where
    -- both tries get on, or neither does
    abbrev Alike : Trial A numbers → Trial A numbers → Type 0
    Alike x y = gets_on t y ≡ gets_on t x

    cond-alike : (b : Bool) (x y x' y' : Trial A numbers) → Alike x x' → Alike y y' → Alike (cond b x y) (cond b x' y')
    cond-alike true x y x' y' f g = f
    cond-alike false x y x' y' f g = g

    kept-alike : (o o' : Option (Open numbers)) (next next' : Open numbers → Trial A numbers) → o' ≡ o → ((x : Open numbers) → o ≡ Some x → Alike (next x) (next' x)) → Alike (with_kept c o next) (with_kept v o' next')
    kept-alike o o' next next' e h = ap (λ z. gets_on t (with_kept v z next')) e ∙ at o h where
      at : (o : Option (Open numbers)) → ((x : Open numbers) → o ≡ Some x → Alike (next x) (next' x)) → Alike (with_kept c o next) (with_kept v o next')
      at None h = refl
      at (Some x) h = h x refl

    read_row-alike : (p : ℕ) (x y : Pipe) (row : ReadCase) → Alike (read_row c p x row) (read_row v p y row)
    read_row-alike p x y (ReadCase.Gives n) = refl
    read_row-alike p x y ReadCase.EndOfFile = refl
    read_row-alike p x y ReadCase.Waits = refl

    read_node-alike : (d : ℕ) (x : Description numbers) (node : Node numbers) (n : ℕ) → SameAt c v node → Alike (read_node c d x node n) (read_node v d x node n)
    unfolding read_pipe read_file
    read_node-alike d x (PipeNode p) n same =
        (λ i. gets_on t (read_row v p (pipe_at v p) (read_case n (front (pipe-same p same i)) (writers-same p same i))))
        ∙ read_row-alike p (pipe_at c p) (pipe_at v p) (read_case n (front (pipe_at c p)) (nat_lt 0 (writers c p)))
    read_node-alike d x (FileNode f) n same = refl

    write_row-alike : (p : ℕ) (bytes : List ℕ) (taken : ℕ) (row : WriteCase) → Alike (write_row c p bytes taken row) (write_row v p bytes taken row)
    write_row-alike p bytes taken WriteCase.Broken = refl
    write_row-alike p bytes taken WriteCase.CutShort = refl
    write_row-alike p bytes taken (WriteCase.Ends from to) = refl
    write_row-alike p bytes taken (WriteCase.Waits from to) = refl

    both_done : (b : Bool) (x y : Trial A numbers) → gets_on t x ≡ true → gets_on t y ≡ true → gets_on t (cond b x y) ≡ true
    both_done true x y f g = f
    both_done false x y f g = g

    write_file-done : (s : Core A numbers) (d : ℕ) (x : Description numbers) (f : ℕ) (bytes : List ℕ) → gets_on t (write_file s d x f bytes) ≡ true
    unfolding write_file
    write_file-done s d x f bytes = search both_done

    write_node-alike : (d : ℕ) (x : Description numbers) (node : Node numbers) (bytes : List ℕ) (taken : ℕ) (may_wait : Bool) → SameAt c v node →
        Alike (write_node c d x node bytes taken may_wait) (write_node v d x node bytes taken may_wait)
    unfolding write_pipe
    write_node-alike d x (PipeNode p) bytes taken may_wait same =
        (λ i. gets_on t (write_row v p bytes taken (write_case (length bytes) taken (room (pipe-same p same i)) (readers-same p same i) may_wait)))
        ∙ write_row-alike p bytes taken (write_case (length bytes) taken (room (pipe_at c p)) (nat_lt 0 (readers c p)) may_wait)
    write_node-alike d x (FileNode f) bytes taken may_wait same = write_file-done v d x f bytes ∙ sym (write_file-done c d x f bytes)

    move_row-alike : (from to : Side numbers) (is_tee : Bool) (row : MoveCase) → Alike (move_row c from to is_tee row) (move_row v from to is_tee row)
    move_row-alike from to is_tee MoveCase.Broken = refl
    move_row-alike from to is_tee MoveCase.EndOfInput = refl
    move_row-alike from to is_tee MoveCase.Waits = refl
    move_row-alike from to is_tee MoveCase.TooBig = refl
    move_row-alike from to is_tee (MoveCase.Moves k) = refl

    packet-same : (node : Node numbers) → SameAt c v node → is_packet_pipe v node ≡ is_packet_pipe c node
    packet-same (PipeNode p) same = ap (λ z. not (is_byte_queue z)) (pipe-same p same)
    packet-same (FileNode f) same = refl

    source-same : (from : Side numbers) (node : Node numbers) → SameAt c v node → source_of v from node ≡ source_of c from node
    source-same from (PipeNode p) same = λ i. Source.Pipe (length (pipe-same p same i).bytes) (writers-same p same i)
    source-same from (FileNode f) same = ap (λ z. Source.File (length z - start from)) (file-same f same)

    target-same : (limits : v.limits ≡ c.limits) (to : Side numbers) (node : Node numbers) → SameAt c v node → target_of v to node ≡ target_of c to node
    target-same limits to (PipeNode p) same = λ i. Target.Pipe (room (pipe-same p same i)) (readers-same p same i)
    target-same limits to (FileNode f) same = ap (λ z. Target.File (z.file_max - start to)) limits

    move-alike : (limits : v.limits ≡ c.limits) (from to : Side numbers) (len : ℕ) (is_tee : Bool) → SameAt c v from.description.node → SameAt c v to.description.node →
        Alike (try_move c from to len is_tee) (try_move v from to len is_tee)
    unfolding try_move
    move-alike limits from to len is_tee a b =
        let n = from.description.node in
        let m = to.description.node in
        (λ i. gets_on t (cond (packet-same n a i || packet-same m b i) (Done v still (Fault EINVAL)) (move_row v from to is_tee (move_case (source-same from n a i) (target-same limits to m b i) len))))
        ∙ cond-alike (is_packet_pipe c n || is_packet_pipe c m) (Done c still (Fault EINVAL)) _ (Done v still (Fault EINVAL)) _ refl
        (move_row-alike from to is_tee (move_case (source_of c from n) (target_of c to m) len))

    opened-gets_on : (s : Core A numbers) (pid d : ℕ) (fd : Option ℕ) → gets_on t (opened_by s pid d fd) ≡ true
    opened-gets_on s pid d None = refl
    opened-gets_on s pid d (Some fd) = refl

  mask-same : (o : Option (Open numbers)) (asked : PollMask) → ((x : Open numbers) → o ≡ Some x → SameAt c v x.description.node) → mask_at v o asked ≡ mask_at c o asked
  mask-same None asked h = refl
  mask-same (Some x) asked h = ap (λ z. mask_of z asked) (at x.description.node (h x refl)) where
    at : (node : Node numbers) → SameAt c v node → polled v x.description node ≡ polled c x.description node
    at (FileNode f) same = refl
    at (PipeNode p) same = λ i. Polled.Pipe x.description.mode (length (pipe-same p same i).bytes) (room (pipe-same p same i)) (readers-same p same i) (pipe-same p same i).hung

  -- what is found at a description is on the node that the description is on
  found-at : (d : ℕ) (o : Option (Description numbers)) (x : Open numbers) → option_map (λ y. record { key = d; description = y }) o ≡ Some x → o ≡ Some x.description
  found-at d None x h = absurd (cc)
  found-at d (Some y) x h = (let is : record { key = d; description = y } ≡ x = cc in ap (λ (z : Open numbers). Some z.description) is)

  described-same : (kept : List ℕ) → SameFor kept → (d : ℕ) → is_member nat_eq kept d ≡ true → described v d ≡ described c d
  described-same kept same d m = ap (option_map (λ x. record { key = d; description = x })) (same.described d m)

  described-at : (kept : List ℕ) → SameFor kept → (d : ℕ) → is_member nat_eq kept d ≡ true → (x : Open numbers) → described c d ≡ Some x → SameAt c v x.description.node
  described-at kept same d m x h = same.at d x.description m (found-at d (c.descriptions d) x h)

  rest_same : (k : ℕ) (kept : List ℕ) → SameFor (k ∷ kept) → SameFor kept
  rest_same k kept same = record {
    limits = same.limits;
    described = λ d m. same.described d (or_right (nat_eq d k) (is_member nat_eq kept d) m);
    at = λ d x m. same.at d x (or_right (nat_eq d k) (is_member nat_eq kept d) m);
  }

  masks-same : (entries : List (ℤ × PollMask)) (kept : List ℕ) → SameFor kept → masks v entries (map (described v) kept) ≡ masks c entries (map (described c) kept)
  masks-same [] kept same = refl
  masks-same ((negsuc n, asked) ∷ entries) kept same = ap (λ ms. no_mask ∷ ms) (masks-same entries kept same)
  masks-same ((pos n, asked) ∷ entries) [] same = ap (λ ms. not_open ∷ ms) (masks-same entries [] same)
  masks-same ((pos n, asked) ∷ entries) (k ∷ kept) same =
      let m : is_member nat_eq (k ∷ kept) k ≡ true = or_left (nat_eq k k) (is_member nat_eq kept k) (eq-eqb k k refl) in
      let first : mask_at v (described v k) asked ≡ mask_at c (described c k) asked = ap (λ o. mask_at v o asked) (described-same (k ∷ kept) same k m) ∙ mask-same (described c k) asked (described-at (k ∷ kept) same k m) in
      let rest : masks v entries (map (described v) kept) ≡ masks c entries (map (described c) kept) = masks-same entries kept (rest_same k kept same) in
      λ i. first i ∷ rest i

  module _ (kept : List ℕ) (same : SameFor kept) (place : ℕ) where
    kept_at-same : kept_at v kept place ≡ kept_at c kept place
    kept_at-same = at (slice_get kept place) refl where
      at : (o : Option ℕ) → slice_get kept place ≡ o → option_and_then (described v) o ≡ option_and_then (described c) o
      at None e = refl
      at (Some d) e = described-same kept same d (slice_member kept place d e)

    kept_at-at : (x : Open numbers) → kept_at c kept place ≡ Some x → SameAt c v x.description.node
    kept_at-at x h = at (slice_get kept place) refl h where
      at : (o : Option ℕ) → slice_get kept place ≡ o → option_and_then (described c) o ≡ Some x → SameAt c v x.description.node
      at None e h = absurd (cc)
      at (Some d) e h = described-at kept same d (slice_member kept place d e) x h

  module _ (w : Waiting A numbers) (same : SameFor w.kept) where
    one-alike : (next next' : Open numbers → Trial A numbers) → ((x : Open numbers) → SameAt c v x.description.node → Alike w.taken (next x) (next' x)) →
        Alike w.taken (with_kept c (kept_at c w.kept 0) next) (with_kept v (kept_at v w.kept 0) next')
    one-alike next next' h = kept-alike w.taken (kept_at c w.kept 0) (kept_at v w.kept 0) next next' (kept_at-same w.kept same 0) (λ x e. h x (kept_at-at w.kept same 0 x e))

    both-alike : (next next' : Open numbers → Open numbers → Trial A numbers) → ((a b : Open numbers) → SameAt c v a.description.node → SameAt c v b.description.node → Alike w.taken (next a b) (next' a b)) →
        Alike w.taken (with_both c w.kept next) (with_both v w.kept next')
    both-alike next next' h = one-alike (λ a. with_kept c (kept_at c w.kept 1) (next a)) (λ a. with_kept v (kept_at v w.kept 1) (next' a)) (λ a at_a.
        kept-alike w.taken (kept_at c w.kept 1) (kept_at v w.kept 1) (next a) (next' a) (kept_at-same w.kept same 1) (λ b e. h a b at_a (kept_at-at w.kept same 1 b e)))

    open-alike : Alike w.taken (try_open c w) (try_open v w)
    open-alike = cond-alike w.taken w.met _ (Wait c still w.taken) _ (Wait v still w.taken)
        (one-alike (λ o. opened_by c w.pid o.key (lowest c w.pid 0)) (λ o. opened_by v w.pid o.key (lowest v w.pid 0))
        (λ x a. opened-gets_on w.taken v w.pid x.key (lowest v w.pid 0) ∙ sym (opened-gets_on w.taken c w.pid x.key (lowest c w.pid 0))))
        refl

    poll-alike : (entries : List (ℤ × PollMask)) → Alike w.taken (try_poll c entries w.kept true) (try_poll v entries w.kept true)
    unfolding try_poll
    poll-alike entries =
        (λ i. gets_on w.taken (cond (list_any is_ready (masks-same entries w.kept same i) || false) (Done v still (masks_reply (masks-same entries w.kept same i))) (Wait v still 0)))
        ∙ cond-alike w.taken (list_any is_ready (masks c entries (map (described c) w.kept)) || false) (Done c still _) (Wait c still 0) (Done v still _) (Wait v still 0) refl refl

    try-alike : (call : Call A) → Alike w.taken (try c w call true) (try v w call true)
    unfolding try
    try-alike (Call.Read fd n) = one-alike _ _ (λ x a. read_node-alike w.taken x.key x.description x.description.node n a)
    try-alike (Call.Write fd bytes) = one-alike _ _ (λ x a. write_node-alike w.taken x.key x.description x.description.node bytes w.taken true a)
    try-alike (Call.OpenName name mode flags) = open-alike
    try-alike (Call.Splice from from_offset to to_offset len flags) = both-alike _ _ (λ x y a b. move-alike w.taken same.limits (side x from_offset) (side y to_offset) len false a b)
    try-alike (Call.Tee from to len flags) = both-alike _ _ (λ x y a b. move-alike w.taken same.limits (side x None) (side y None) len true a b)
    try-alike (Call.Poll entries wait) = poll-alike entries
    try-alike (Call.Pipe nonblock direct) = refl
    try-alike (Call.Mkfifo name) = refl
    try-alike (Call.Dup fd) = refl
    try-alike (Call.Dup2 fd target) = refl
    try-alike (Call.DupFd fd least) = refl
    try-alike (Call.Close fd) = refl
    try-alike (Call.Lseek fd offset whence) = refl
    try-alike (Call.GetFl fd) = refl
    try-alike (Call.SetFl fd flags) = refl
    try-alike (Call.GetPipeSz fd) = refl
    try-alike (Call.SetPipeSz fd size) = refl
    try-alike (Call.Unlink name) = refl
    try-alike Call.Fork = refl
    try-alike Call.Exit = refl

    -- So whatever else differs, the call gets on in both, or in neither.
    pub progresses-same : progresses v (Some w) ≡ progresses c (Some w)
    progresses-same = try-alike w.call
