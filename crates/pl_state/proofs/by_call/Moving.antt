-- A pipe changes, and is hung as it was.
use Rattle.std.proofs.Common.{◌≡◌, ℕ, List, Some, refl, sym, ◌∙◌, ap, nat_eq}
use Rattle.std.specs.Prelude.{unwrap_or}
use Rattle.pl_model.specs.declared.node.Node.TheVariants as node
use Rattle.pl_model.specs.Map.{set_at, change_at}
use Rattle.pl_model.specs.State.{Pipe, empty_pipe, set_pipe}
use Rattle.pl_model.specs.Packets.{lose, gain}
use Rattle.pl_model.specs.Settle.{settle}
use Rattle.pl_model.specs.Trial.{still, loses, gains, flowed}
use Rattle.pl_model.proofs.settling.Changes.{put-settled}
use Rattle.pl_desc.specs.Rows.{at}
use Rattle.pl_state.specs.Contents.{Contents, Nodes, with_pipes, core_of}
use Rattle.pl_state.specs.Opens.{OpenOn}
use Rattle.pl_state.specs.Sound.{IsSound}
use Rattle.pl_nodes.proofs.Keyed.{change_at-is}
use Rattle.pl_state.proofs.by_call.Begun.{pipe_held}
use Rattle.pl_state.proofs.holders.There.{settled_after, there-put}

-- a pipe with an end is put in the place of what it was, and is hung as it was
module _ {A : Type 0} (k : Contents A) (sound : IsSound A k) (d p : ℕ) (on : OpenOn k d (node.Pipe p)) (x : Pipe) (is : at k.nodes.pipes p ≡ Some x) (y : Pipe) (same_hung : y.hung ≡ x.hung) (pipes : Nodes)
    (f : Pipe → Pipe) (gives : f x ≡ y) (after : at pipes.pipes ≡ change_at p f (at k.nodes.pipes)) where
  abbrev new : Contents A
  new = with_pipes k pipes

  put_pipes : at pipes.pipes ≡ set_at nat_eq (at k.nodes.pipes) p (Some y)
  put_pipes = after ∙ change_at-is p f (at k.nodes.pipes) x is ∙ ap (λ z. set_at nat_eq (at k.nodes.pipes) p (Some z)) gives

  pub put_is : core_of new ≡ set_pipe (core_of k) p y
  unfolding core_of
  put_is = ap (λ m. record (core_of k) { pipes = m }) put_pipes

  pub put_core : core_of new ≡ settle (core_of k) (set_pipe (core_of k) p y)
  unfolding core_of
  put_core = put_is ∙ sym (settles is)
    where
      settles : at k.nodes.pipes p ≡ Some x → settle (core_of k) (set_pipe (core_of k) p y) ≡ set_pipe (core_of k) p y
      settles is = put-settled (core_of k) sound.settled p x is (pipe_held k sound.whole d p on) y same_hung

  pub put_sound : IsSound A new
  put_sound = record {
    whole = record {
      rise = sound.rise;
      numbered = sound.numbered;
      there = there-put (at k.opened) k.nodes new.nodes p y put_pipes refl refl sound.there;
      limit = sound.limit;
      once = sound.once;
      settled = settled_after (core_of new) (core_of k) (set_pipe (core_of k) p y) put_core;
    };
    waiting = sound.waiting;
    belong = sound.belong;
    on_nodes = sound.on_nodes;
  }

-- it has other bytes
module _ {A : Type 0} (k : Contents A) (sound : IsSound A k) (d p : ℕ) (on : OpenOn k d (node.Pipe p)) (x : Pipe) (is : at k.nodes.pipes p ≡ Some x) (pipes : Nodes)
    (f : Pipe → Pipe) (same_hung : (f x).hung ≡ x.hung) (after : at pipes.pipes ≡ change_at p f (at k.nodes.pipes)) where
  pub changed_is : core_of (with_pipes k pipes) ≡ set_pipe (core_of k) p (f x)
  changed_is = put_is k sound d p on x is (f x) same_hung pipes f refl after

  pub changed_core : core_of (with_pipes k pipes) ≡ settle (core_of k) (set_pipe (core_of k) p (f x))
  changed_core = put_core k sound d p on x is (f x) same_hung pipes f refl after

  pub changed_sound : IsSound A (with_pipes k pipes)
  changed_sound = put_sound k sound d p on x is (f x) same_hung pipes f refl after

-- as a try moves them
module _ {A : Type 0} (k : Contents A) (p : ℕ) (x : Pipe) (is : at k.nodes.pipes p ≡ Some x) where
  pub flowed-out : (n : ℕ) → flowed (core_of k) (loses p n) ≡ set_pipe (core_of k) p (lose n x)
  unfolding flowed core_of
  flowed-out n = ap (λ z. set_pipe (core_of k) p (lose n (unwrap_or z empty_pipe))) is

  pub flowed-in : (more : List ℕ) → flowed (core_of k) (gains p more) ≡ set_pipe (core_of k) p (gain more x)
  unfolding flowed core_of
  flowed-in more = ap (λ z. set_pipe (core_of k) p (gain more (unwrap_or z empty_pipe))) is

pub flowed-still : {A : Type 0} (k : Contents A) → flowed (core_of k) still ≡ core_of k
unfolding flowed
flowed-still k = refl
