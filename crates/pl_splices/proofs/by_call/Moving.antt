-- Bytes that went over, by what the sides are on.
use Rattle.std.proofs.Common.{◌≡◌, ◌≢◌, ◌≤◌, ℕ, ◌+◌, ◌-◌, Bool, true, false, List, [], length, take, drop, Option, Some, None, IfSome, IsSome, refl, sym, ◌∙◌, ap, subst, nat_eq, arith}
use Rattle.std.specs.Prelude.{is_some, unwrap_or, option_map, if◌then◌else◌}
use Rattle.std.proofs.lemmas.List.{length-drop, length-take-le}
use Rattle.pl_model.specs.Packets.{lose, gain}
use Rattle.pl_model.specs.declared.node.Node.{Node}
use Rattle.pl_model.specs.declared.node.Node.TheVariants as node
use Rattle.pl_model.specs.Map.{set_at, change_at}
use Rattle.pl_model.specs.Keys.{PipeNode, FileNode}
use Rattle.pl_model.specs.Keys.{Node as KeyNode}
use Rattle.pl_model.specs.State.{Core, Pipe, empty_pipe, set_pipe, set_file}
use Rattle.pl_model.specs.Live.{is_open}
use Rattle.pl_model.specs.Trial.{Trial, Flow, Done, flowed, gained, lost}
use Rattle.pl_model.specs.Transfer.{count, put_bytes, moved_to}
use Rattle.pl_model.specs.Splice.{Side as MachineSide, moved, bytes_from, leaves, enters, advanced, source_advanced, target_put}
use Rattle.pl_model.specs.Numbered.{numbers}
use Rattle.pl_model.proofs.settling.FromSettled.{at_other}
use Rattle.pl_desc.specs.Rows.{at}
use Rattle.pl_desc.specs.Descs.{Opened}
use Rattle.pl_file.specs.File.{written}
use Rattle.pl_nodes.proofs.Keyed.{change_at-is}
use Rattle.pl_state.specs.Contents.{Contents, Nodes, IsThere, with_pipes, node_of, description_of, core_of}
use Rattle.pl_state.specs.Opens.{OpenOn}
use Rattle.pl_state.specs.Sound.{IsSound}
use Rattle.pl_state.proofs.by_call.Begun.{pipe_held}
use Rattle.pl_state.proofs.by_call.Moving.{changed_is, changed_sound, flowed-in}
use Rattle.pl_state.proofs.holders.OnNodes.{Fades, fades-same}
use Rattle.pl_transfers.proofs.by_call.Redescribing.{redescribed_is, redescribed_sound}
use Rattle.pl_transfers.proofs.by_call.Filing.{written-is}
use Rattle.pl_splices.specs.declared.sides.Side.{Side}
use Rattle.pl_splices.specs.Resembling.{Resembles}
use Rattle.pl_splices.specs.Sides.{side_of}
use Rattle.pl_splices.specs.Moves.{Leaves, GoesOver}
use Rattle.pl_splices.proofs.Resembling.{resembles-refl, resembles-then, resembles-pipe, resembles-file, resembles-description, same-open}
use Rattle.pl_splices.proofs.by_call.Trying.{say_one}
use Rattle.pl_splices.proofs.by_call.Leaving.{resembling_sound, some_changed}

module _ {A : Type 0} (c : Core A numbers) (a b : MachineSide numbers) (is_tee : Bool) where
  -- these bytes go over, between sides on these nodes
  abbrev moved_on : KeyNode numbers → KeyNode numbers → List ℕ → Trial A numbers
  moved_on m n bytes =
      Done (target_put (source_advanced c a m (length bytes)) b n bytes)
      (record { out = leaves is_tee m (length bytes); into = enters n bytes })
      (count (length bytes))

-- from a pipe to another
module _ {A : Type 0} (k : Contents A) (sound : IsSound A k) (from to : Side) (p q : ℕ) (on_p : OpenOn k from.key (node.Pipe p)) (on_q : OpenOn k to.key (node.Pipe q)) (apart : p ≢ q)
    (u v : Pipe) (is_p : at k.nodes.pipes p ≡ Some u) (is_q : at k.nodes.pipes q ≡ Some v) (many : ℕ) (held : many ≤ length u.bytes) where
  abbrev c : Core A numbers
  c = core_of k

  abbrev bytes : List ℕ
  bytes = take many u.bytes

  abbrev source : MachineSide numbers
  source = side_of from on_p.opened

  abbrev target : MachineSide numbers
  target = side_of to on_q.opened

  abbrev flow_of : Bool → Flow numbers
  flow_of is_tee = record { out = leaves {K = numbers} is_tee (PipeNode p) many; into = Some (q, bytes) }

  pipes-moved : (is_tee : Bool) → moved c source target is_tee (take many (bytes_from c source source.description.node)) ≡ Done c (flow_of is_tee) (count many)
  unfolding core_of
  pipes-moved is_tee =
      (λ i. moved_on c source target is_tee (node_of (on_p.node i)) (node_of (on_q.node i)) (take many (bytes_from c source (node_of (on_p.node i)))))
      ∙ ap (λ z. moved_on c source target is_tee (PipeNode p) (PipeNode q) (take many (unwrap_or z empty_pipe).bytes)) is_p
      ∙ ap (λ n. Done c (record { out = leaves {K = numbers} is_tee (PipeNode p) n; into = Some (q, bytes) }) (count n)) (length-take-le many u.bytes held)

  said : (is_tee : Bool) (new : Contents A) → Leaves k new c (flow_of is_tee) → GoesOver k from to is_tee many new
  said is_tee new left = record {
    state = c;
    flow = flow_of is_tee;
    came = say_one (at k.opened from.key) on_p.opened (λ x. IfSome (at k.opened to.key) (λ y. moved c (side_of from x) (side_of to y) is_tee (take many (bytes_from c (side_of from x) (node_of x.node))) ≡ Done c (flow_of is_tee) (count many))) on_p.here
        (say_one (at k.opened to.key) on_q.opened (λ y. moved c source (side_of to y) is_tee (take many (bytes_from c source (node_of on_p.opened.node))) ≡ Done c (flow_of is_tee) (count many)) on_q.here (pipes-moved is_tee));
    leaves = left;
  }

  abbrev grown : Pipe
  grown = gain bytes v

  abbrev less : Pipe
  less = lose many u

  held_p : is_open c (PipeNode p) ≡ true
  held_p = pipe_held k sound.whole from.key p on_p

  held_q : is_open c (PipeNode q) ≡ true
  held_q = pipe_held k sound.whole to.key q on_q

  pipe_p : c.pipes p ≡ Some u
  unfolding core_of
  pipe_p = is_p

  pipe_q : c.pipes q ≡ Some v
  unfolding core_of
  pipe_q = is_q

  -- the bytes are copied
  module _ (pipes : Nodes) (after : at pipes.pipes ≡ change_at q (gain bytes) (at k.nodes.pipes)) where
    copied_is : core_of (with_pipes k pipes) ≡ set_pipe c q grown
    copied_is = changed_is k sound to.key q on_q v is_q pipes (gain bytes) refl after

    pub copied_sound : IsSound A (with_pipes k pipes)
    copied_sound = changed_sound k sound to.key q on_q v is_q pipes (gain bytes) refl after

    pub copied : GoesOver k from to true many (with_pipes k pipes)
    copied = said true (with_pipes k pipes) (record {
      left = copied_is ∙ sym (flowed-in k q v is_q bytes);
      like = subst (Resembles c) (sym copied_is) (resembles-pipe c q v grown pipe_q refl held_q);
      calls = refl;
    })

  -- they are moved
  module _ (pipes : Nodes) (after : at pipes.pipes ≡ change_at q (gain bytes) (change_at p (lose many) (at k.nodes.pipes))) where
    abbrev taken : ℕ → Option Pipe
    taken = set_at nat_eq (at k.nodes.pipes) p (Some less)

    taken_q : taken q ≡ Some v
    taken_q = at_other (at k.nodes.pipes) p q (Some less) apart ∙ is_q

    pipes_are : at pipes.pipes ≡ set_at nat_eq taken q (Some grown)
    pipes_are = after ∙ ap (change_at q (gain bytes)) (change_at-is p (lose many) (at k.nodes.pipes) u is_p)
        ∙ change_at-is q (gain bytes) taken v taken_q

    abbrev between : Core A numbers
    between = set_pipe c p less

    moved_is : core_of (with_pipes k pipes) ≡ set_pipe between q grown
    unfolding core_of
    moved_is = ap (λ m. record (core_of k) { pipes = m }) pipes_are

    flow_is : flowed c (flow_of false) ≡ set_pipe between q grown
    unfolding flowed core_of
    flow_is =
        ap (λ z. gained (set_pipe (core_of k) p (lose many (unwrap_or z empty_pipe))) (Some (q, bytes))) is_p
        ∙ ap (λ z. set_pipe (set_pipe (core_of k) p less) q (gain bytes (unwrap_or z empty_pipe))) taken_q

    between_q : between.pipes q ≡ Some v
    unfolding core_of
    between_q = taken_q

    moved_like : Resembles c (core_of (with_pipes k pipes))
    moved_like =
        let first = resembles-pipe c p u less pipe_p refl held_p in
        subst (Resembles c) (sym moved_is) (resembles-then c between (set_pipe between q grown) first (resembles-pipe between q v grown between_q refl (same-open c between first (PipeNode q) ∙ held_q)))

    pub moved_sound : IsSound A (with_pipes k pipes)
    moved_sound = resembling_sound k (with_pipes k pipes) sound moved_like (λ d. fades-same (at k.opened d)) still refl
      where
        still : (n : Node) → IsThere k.nodes n → IsThere (with_pipes k pipes).nodes n
        still (node.Pipe z) h = subst (λ (m : ℕ → Option Pipe). IsSome (m z)) (sym after) (some_changed (change_at p (lose many) (at k.nodes.pipes)) q z (gain bytes) (some_changed (at k.nodes.pipes) p z (lose many) h))
        still (node.File f) h = h

    pub moved_over : GoesOver k from to false many (with_pipes k pipes)
    moved_over = said false (with_pipes k pipes) (record { left = moved_is ∙ sym flow_is; like = moved_like; calls = refl })

-- A description's offset is left behind the bytes, where none was given.
module _ {A : Type 0} (k : Contents A) (sound : IsSound A k) (s : Side) (o : Opened) (here : at k.opened s.key ≡ Some o) (n : ℕ) (opened : List (Option Opened))
    (is : at opened ≡ (if is_some s.given then at k.opened else change_at s.key (λ x. record x { offset = n }) (at k.opened))) where
  abbrev pub further : Contents A
  further = record k { opened = opened }

  abbrev pub advanced_core : Core A numbers → Core A numbers
  advanced_core c = if is_some s.given then c else moved_to c s.key (description_of o) n

  pub record Advances : Type 0 where
    pub core : core_of further ≡ advanced_core (core_of k)
    pub like : Resembles (core_of k) (core_of further)
    pub still_sound : IsSound A further

  described : (core_of k).descriptions s.key ≡ Some (description_of o)
  unfolding core_of
  described = ap (option_map description_of) here

  same : at opened ≡ at k.opened → core_of further ≡ core_of k
  unfolding core_of
  same e = ap (λ (m : ℕ → Option Opened). record (core_of k) { descriptions = λ d. option_map description_of (m d) }) e

  pub advances : Advances
  advances = by (is_some s.given) refl
    where
      is_by : (b : Bool) → is_some s.given ≡ b → at opened ≡ (if b then at k.opened else change_at s.key (λ x. record x { offset = n }) (at k.opened))
      is_by b e = is ∙ ap (λ b. if b then at k.opened else change_at s.key (λ x. record x { offset = n }) (at k.opened)) e

      core_by : (b : Bool) → is_some s.given ≡ b → (if b then core_of k else moved_to (core_of k) s.key (description_of o) n) ≡ advanced_core (core_of k)
      core_by b e = ap (λ b. if b then core_of k else moved_to (core_of k) s.key (description_of o) n) (sym e)

      by : (b : Bool) → is_some s.given ≡ b → Advances
      by true e =
          let like : Resembles (core_of k) (core_of further) = subst (Resembles (core_of k)) (sym (same (is_by true e))) (resembles-refl (core_of k)) in
          record {
            core = same (is_by true e) ∙ core_by true e;
            like = like;
            still_sound = resembling_sound k further sound like (λ d. subst (λ (m : ℕ → Option Opened). Fades (at k.opened d) (m d)) (sym (is_by true e)) (fades-same (at k.opened d))) (λ m h. h) refl;
          }
      by false e =
          let core = redescribed_is k sound s.key o here (λ x. record x { offset = n }) (λ x. refl) refl further (is_by false e) refl in
          record {
            core = core ∙ core_by false e;
            like = subst (Resembles (core_of k)) (sym core) (resembles-description (core_of k) s.key (description_of o) (record (description_of o) { offset = n }) described refl refl);
            still_sound = redescribed_sound k sound s.key o here (λ x. record x { offset = n }) (λ x. refl) refl further (is_by false e) refl;
          }

-- from a file to a pipe
module _ {A : Type 0} (k : Contents A) (sound : IsSound A k) (from to : Side) (f q : ℕ) (on_f : OpenOn k from.key (node.File f)) (on_to : OpenOn k to.key (node.Pipe q))
    (file : List ℕ) (v : Pipe) (is_f : at k.nodes.files f ≡ Some file) (is_v : at k.nodes.pipes q ≡ Some v) (many : ℕ) (left : many ≤ length file - unwrap_or from.given on_f.opened.offset) where
  abbrev core : Core A numbers
  core = core_of k

  abbrev start_f : ℕ
  start_f = unwrap_or from.given on_f.opened.offset

  abbrev part : List ℕ
  part = take many (drop start_f file)

  abbrev giver : MachineSide numbers
  giver = side_of from on_f.opened

  abbrev taker : MachineSide numbers
  taker = side_of to on_to.opened

  abbrev flow_in : Flow numbers
  flow_in = record { out = None; into = Some (q, part) }

  abbrev state_f : Core A numbers
  state_f = advanced core giver many

  part_long : length part ≡ many
  part_long = length-take-le many (drop start_f file) (let l = length-drop start_f file in omega (arith, l, left))

  file-moved : moved core giver taker false (take many (bytes_from core giver giver.description.node)) ≡ Done state_f flow_in (count many)
  unfolding core_of
  file-moved =
      (λ i. moved_on core giver taker false (node_of (on_f.node i)) (node_of (on_to.node i)) (take many (bytes_from core giver (node_of (on_f.node i)))))
      ∙ ap (λ z. moved_on core giver taker false (FileNode f) (PipeNode q) (take many (drop start_f (unwrap_or z [])))) is_f
      ∙ ap (λ n. Done (advanced core giver n) flow_in (count n)) part_long

  module _ (pipes : Nodes) (after : at pipes.pipes ≡ change_at q (gain part) (at k.nodes.pipes))
      (opened : List (Option Opened)) (moves : at opened ≡ (if is_some from.given then at k.opened else change_at from.key (λ x. record x { offset = start_f + many }) (at k.opened))) where
    abbrev filled : Contents A
    filled = with_pipes k pipes

    filled_sound : IsSound A filled
    filled_sound = changed_sound k sound to.key q on_to v is_v pipes (gain part) refl after

    filled_is : core_of filled ≡ set_pipe core q (gain part v)
    filled_is = changed_is k sound to.key q on_to v is_v pipes (gain part) refl after

    pipe_v : core.pipes q ≡ Some v
    unfolding core_of
    pipe_v = is_v

    filled_like : Resembles core (core_of filled)
    filled_like = subst (Resembles core) (sym filled_is) (resembles-pipe core q v (gain part v) pipe_v refl (pipe_held k sound.whole to.key q on_to))

    abbrev new_f : Contents A
    new_f = record filled { opened = opened }

    on : Advances filled filled_sound from on_f.opened on_f.here (start_f + many) opened moves
    on = advances filled filled_sound from on_f.opened on_f.here (start_f + many) opened moves

    pub from_file_sound : IsSound A new_f
    from_file_sound = on.still_sound

    flow_f : flowed state_f flow_in ≡ (if is_some from.given then set_pipe core q (gain part v) else moved_to (set_pipe core q (gain part v)) from.key (description_of on_f.opened) (start_f + many))
    unfolding flowed core_of
    flow_f = by (is_some from.given)
      where
        by : (b : Bool) → gained (if b then core_of k else moved_to (core_of k) from.key (description_of on_f.opened) (start_f + many)) (Some (q, part))
            ≡ (if b then set_pipe (core_of k) q (gain part v) else moved_to (set_pipe (core_of k) q (gain part v)) from.key (description_of on_f.opened) (start_f + many))
        by true = ap (λ z. set_pipe (core_of k) q (gain part (unwrap_or z empty_pipe))) is_v
        by false = ap (λ z. set_pipe (moved_to (core_of k) from.key (description_of on_f.opened) (start_f + many)) q (gain part (unwrap_or z empty_pipe))) is_v

    pub from_file : GoesOver k from to false many new_f
    from_file = record {
      state = state_f;
      flow = flow_in;
      came = say_one (at k.opened from.key) on_f.opened (λ x. IfSome (at k.opened to.key) (λ y. moved core (side_of from x) (side_of to y) false (take many (bytes_from core (side_of from x) (node_of x.node))) ≡ Done state_f flow_in (count many))) on_f.here
          (say_one (at k.opened to.key) on_to.opened (λ y. moved core giver (side_of to y) false (take many (bytes_from core giver (node_of on_f.opened.node))) ≡ Done state_f flow_in (count many)) on_to.here file-moved);
      leaves = record {
        left = on.core ∙ ap (λ z. if is_some from.given then z else moved_to z from.key (description_of on_f.opened) (start_f + many)) filled_is ∙ sym flow_f;
        like = resembles-then core (core_of filled) (core_of new_f) filled_like on.like;
        calls = refl;
      };
    }

-- from a pipe to a file
module _ {A : Type 0} (k : Contents A) (sound : IsSound A k) (from to : Side) (p g : ℕ) (on_from : OpenOn k from.key (node.Pipe p)) (on_g : OpenOn k to.key (node.File g))
    (u : Pipe) (old : List ℕ) (is_u : at k.nodes.pipes p ≡ Some u) (is_g : at k.nodes.files g ≡ Some old) (many : ℕ) (some : 1 ≤ many) (held : many ≤ length u.bytes) where
  abbrev old_core : Core A numbers
  old_core = core_of k

  abbrev start_g : ℕ
  start_g = unwrap_or to.given on_g.opened.offset

  abbrev front : List ℕ
  front = take many u.bytes

  abbrev sender : MachineSide numbers
  sender = side_of from on_from.opened

  abbrev keeper : MachineSide numbers
  keeper = side_of to on_g.opened

  abbrev flow_out : Flow numbers
  flow_out = record { out = Some (p, many); into = None }

  abbrev put : List ℕ
  put = put_bytes old start_g front

  abbrev state_g : Core A numbers
  state_g = advanced (set_file old_core g put) keeper many

  front_long : length front ≡ many
  front_long = length-take-le many u.bytes held

  pipe-moved : moved old_core sender keeper false (take many (bytes_from old_core sender sender.description.node)) ≡ Done state_g flow_out (count many)
  unfolding core_of
  pipe-moved =
      (λ i. moved_on old_core sender keeper false (node_of (on_from.node i)) (node_of (on_g.node i)) (take many (bytes_from old_core sender (node_of (on_from.node i)))))
      ∙ ap (λ z. moved_on old_core sender keeper false (PipeNode p) (FileNode g) (take many (unwrap_or z empty_pipe).bytes)) is_u
      ∙ ap (λ z. Done (advanced (set_file old_core g (put_bytes (unwrap_or z []) start_g front)) keeper (length front)) (record { out = Some (p, length front); into = None }) (count (length front))) is_g
      ∙ ap (λ n. Done (advanced (set_file old_core g put) keeper n) (record { out = Some (p, n); into = None }) (count n)) front_long

  module _ (pipes : Nodes) (after : at pipes.pipes ≡ change_at p (lose many) (at k.nodes.pipes))
      (files : List (Option (List ℕ))) (wrote : at files ≡ change_at g (written start_g front) (at k.nodes.files))
      (opened : List (Option Opened)) (moves : at opened ≡ (if is_some to.given then at k.opened else change_at to.key (λ x. record x { offset = start_g + many }) (at k.opened))) where
    abbrev shorter : Pipe
    shorter = lose many u

    abbrev emptied : Contents A
    emptied = with_pipes k pipes

    abbrev wrote_k : Contents A
    wrote_k = record k { nodes = record k.nodes { pipes = pipes.pipes; files = files; memory = pipes.memory } }

    abbrev emptied_core : Core A numbers
    emptied_core = set_pipe old_core p shorter

    emptied_is : core_of emptied ≡ emptied_core
    emptied_is = changed_is k sound from.key p on_from u is_u pipes (lose many) refl after

    files_are : at files ≡ set_at nat_eq (at k.nodes.files) g (Some put)
    files_are = wrote ∙ change_at-is g (written start_g front) (at k.nodes.files) old is_g ∙ ap (λ z. set_at nat_eq (at k.nodes.files) g (Some z)) (written-is start_g front old (subst (λ n. 1 ≤ n) (sym front_long) some))

    wrote_is : core_of wrote_k ≡ set_file emptied_core g put
    unfolding core_of
    wrote_is = ap (λ m. record (core_of emptied) { files = m }) files_are ∙ ap (λ z. set_file z g put) emptied_is

    pipe_u : old_core.pipes p ≡ Some u
    unfolding core_of
    pipe_u = is_u

    file_old : emptied_core.files g ≡ Some old
    unfolding core_of
    file_old = is_g

    wrote_like : Resembles old_core (core_of wrote_k)
    wrote_like = subst (Resembles old_core) (sym wrote_is) (resembles-then old_core emptied_core (set_file emptied_core g put)
        (resembles-pipe old_core p u shorter pipe_u refl (pipe_held k sound.whole from.key p on_from))
        (resembles-file emptied_core g old put file_old))

    wrote_sound : IsSound A wrote_k
    wrote_sound = resembling_sound k wrote_k sound wrote_like (λ d. fades-same (at k.opened d)) still refl
      where
        still : (n : Node) → IsThere k.nodes n → IsThere wrote_k.nodes n
        still (node.Pipe z) h = subst (λ (m : ℕ → Option Pipe). IsSome (m z)) (sym after) (some_changed (at k.nodes.pipes) p z (lose many) h)
        still (node.File z) h = subst (λ (m : ℕ → Option (List ℕ)). IsSome (m z)) (sym wrote) (some_changed (at k.nodes.files) g z (written start_g front) h)

    abbrev new_g : Contents A
    new_g = record wrote_k { opened = opened }

    goes_on : Advances wrote_k wrote_sound to on_g.opened on_g.here (start_g + many) opened moves
    goes_on = advances wrote_k wrote_sound to on_g.opened on_g.here (start_g + many) opened moves

    pub to_file_sound : IsSound A new_g
    to_file_sound = goes_on.still_sound

    flow_g : flowed state_g flow_out ≡ (if is_some to.given then set_file emptied_core g put else moved_to (set_file emptied_core g put) to.key (description_of on_g.opened) (start_g + many))
    unfolding flowed core_of
    flow_g = by (is_some to.given)
      where
        by : (b : Bool) → lost (if b then set_file (core_of k) g put else moved_to (set_file (core_of k) g put) to.key (description_of on_g.opened) (start_g + many)) (Some (p, many))
            ≡ (if b then set_file (set_pipe (core_of k) p shorter) g put else moved_to (set_file (set_pipe (core_of k) p shorter) g put) to.key (description_of on_g.opened) (start_g + many))
        by true = ap (λ z. set_pipe (set_file (core_of k) g put) p (lose many (unwrap_or z empty_pipe))) is_u
        by false = ap (λ z. set_pipe (moved_to (set_file (core_of k) g put) to.key (description_of on_g.opened) (start_g + many)) p (lose many (unwrap_or z empty_pipe))) is_u

    pub to_file : GoesOver k from to false many new_g
    to_file = record {
      state = state_g;
      flow = flow_out;
      came = say_one (at k.opened from.key) on_from.opened (λ x. IfSome (at k.opened to.key) (λ y. moved old_core (side_of from x) (side_of to y) false (take many (bytes_from old_core (side_of from x) (node_of x.node))) ≡ Done state_g flow_out (count many))) on_from.here
          (say_one (at k.opened to.key) on_g.opened (λ y. moved old_core sender (side_of to y) false (take many (bytes_from old_core sender (node_of on_from.opened.node))) ≡ Done state_g flow_out (count many)) on_g.here pipe-moved);
      leaves = record {
        left = goes_on.core ∙ ap (λ z. if is_some to.given then z else moved_to z to.key (description_of on_g.opened) (start_g + many)) wrote_is ∙ sym flow_g;
        like = resembles-then old_core (core_of wrote_k) (core_of new_g) wrote_like goes_on.like;
        calls = refl;
      };
    }
