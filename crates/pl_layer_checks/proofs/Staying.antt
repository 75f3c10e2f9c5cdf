-- What is there under a key stays there, where something is made or changes.
use Rattle.std.proofs.Common.{◌≡◌, ℕ, Bool, true, false, List, Option, Some, None, sym, subst, nat_eq, refl, ap, ◌∙◌}
use Rattle.std.specs.Prelude.{IsSome, IfSome, Result, Ok, Err, IfOk, OnOk, OnErr, option_map, is_some, if◌then◌else◌}
use Rattle.std.proofs.lemmas.Bool.{eq-eqb}
use Rattle.pl_model.specs.Map.{set_at, change_at}
use Rattle.pl_model.specs.State.{Pipe, empty_packet_pipe}
use Rattle.pl_model.specs.Packets.{gain}
use Rattle.pl_segments.specs.Segments.{at}
use Rattle.pl_nodes.specs.Nodes.{Nodes}

-- a map that is the same has what it had
pub stays-same : {V : Type 0} (m n : ℕ → Option V) → n ≡ m → (q : ℕ) → IsSome (m q) → IsSome (n q)
stays-same m n is q there = subst IsSome (sym (λ i. is i q)) there

module _ {V : Type 0} (key : ℕ) (m n : ℕ → Option V) where
  pub stays-changed : (f : V → V) → n ≡ change_at key f m → (q : ℕ) → IsSome (m q) → IsSome (n q)
  stays-changed f is q there = subst IsSome (sym (λ i. is i q)) (by (nat_eq key q) (m q) there)
    where
      by : (b : Bool) (o : Option V) → IsSome o → IsSome (if b then option_map f o else o)
      by true None h = h
      by true (Some x) h = h
      by false o h = h

  module _ (x : V) (is : n ≡ set_at nat_eq m key (Some x)) where
    pub stays-set : (q : ℕ) → IsSome (m q) → IsSome (n q)
    stays-set q there = subst IsSome (sym (λ i. is i q)) (by (nat_eq key q))
      where
        by : (b : Bool) → IsSome (if b then Some x else m q)
        by true = refl
        by false = there

    pub there-set : IsSome (n key)
    there-set = subst IsSome (sym ((λ i. is i key) ∙ ap (λ b. if b then Some x else m key) (eq-eqb key key refl))) refl

-- a file that changes, or doesn't
pub stays-file : {T E : Type 0} (r : Result T E) (key : ℕ) (old new : Nodes) (f : List ℕ → List ℕ) → OnOk r (at new.files ≡ change_at key f (at old.files)) → OnErr r (new ≡ old) → (q : ℕ) → IsSome (at old.files q) → IsSome (at new.files q)
stays-file (Ok x) key old new f ok err = stays-changed key (at old.files) (at new.files) f ok
stays-file (Err e) key old new f ok err = stays-same (at old.files) (at new.files) (ap (λ (v : Nodes). at v.files) err)

-- a pipe that changes, or doesn't
pub stays-pipe : {T E : Type 0} (r : Result T E) (key : ℕ) (old new : Nodes) (f : Pipe → Pipe) → OnOk r (at new.pipes ≡ change_at key f (at old.pipes)) → OnErr r (new ≡ old) → (q : ℕ) → IsSome (at old.pipes q) → IsSome (at new.pipes q)
stays-pipe (Ok x) key old new f ok err = stays-changed key (at old.pipes) (at new.pipes) f ok
stays-pipe (Err e) key old new f ok err = stays-same (at old.pipes) (at new.pipes) (ap (λ (v : Nodes). at v.pipes) err)

-- two pipes that change, or don't
pub stays-pipes : {T E : Type 0} (r : Result T E) (key other : ℕ) (old new : Nodes) (f g : Pipe → Pipe) → OnOk r (at new.pipes ≡ change_at key f (change_at other g (at old.pipes))) → OnErr r (new ≡ old) → (q : ℕ) → IsSome (at old.pipes q) → IsSome (at new.pipes q)
stays-pipes (Ok x) key other old new f g ok err = λ q there. stays-changed key (change_at other g (at old.pipes)) (at new.pipes) f ok q (stays-changed other (at old.pipes) (change_at other g (at old.pipes)) g refl q there)
stays-pipes (Err e) key other old new f g ok err = stays-same (at old.pipes) (at new.pipes) (ap (λ (v : Nodes). at v.pipes) err)

-- a pipe that is made, or isn't
pub stays-pipe-made : {E : Type 0} (r : Result ℕ E) (old new : Nodes) (x : Pipe) → IfOk r (λ key. at new.pipes ≡ set_at nat_eq (at old.pipes) key (Some x)) → OnErr r (new ≡ old) → (q : ℕ) → IsSome (at old.pipes q) → IsSome (at new.pipes q)
stays-pipe-made (Ok key) old new x ok err = stays-set key (at old.pipes) (at new.pipes) x ok
stays-pipe-made (Err e) old new x ok err = stays-same (at old.pipes) (at new.pipes) (ap (λ (v : Nodes). at v.pipes) err)

-- a file that is made, or isn't
pub stays-file-made : {E : Type 0} (r : Result ℕ E) (old new : Nodes) (x : List ℕ) → IfOk r (λ key. at new.files ≡ set_at nat_eq (at old.files) key (Some x)) → OnErr r (new ≡ old) → (q : ℕ) → IsSome (at old.files q) → IsSome (at new.files q)
stays-file-made (Ok key) old new x ok err = stays-set key (at old.files) (at new.files) x ok
stays-file-made (Err e) old new x ok err = stays-same (at old.files) (at new.files) (ap (λ (v : Nodes). at v.files) err)

-- what is there is at another key than what isn't
none-there : {V : Type 0} (o : Option V) → o ≡ None → IsSome o → ⊥
none-there None e h = absurd (cc)
none-there (Some x) e h = absurd (cc)

pub elsewhere : {V : Type 0} (m : ℕ → Option V) (key other : ℕ) → IsSome (m key) → m other ≡ None → key ≡ other → ⊥
elsewhere m key other there none same = none-there (m other) none (subst (λ k. IsSome (m k)) same there)

-- a pipe that isn't one of packets is a byte queue
pub is-bytes : (o : Option Pipe) (b : Bool) → IfSome o (λ x. b ≡ is_some x.packets) → b ≡ false → IfSome o (λ x. x.packets ≡ None)
is-bytes None b h f = tt
is-bytes (Some x) b h f = at x.packets (sym h ∙ f)
  where
    at : (ls : Option (List ℕ)) → is_some ls ≡ false → ls ≡ None
    at None e = refl
    at (Some l) e = absurd (cc)

-- a packet pipe that was made
pub made-packets : (old new : ℕ → Option Pipe) (key : ℕ) → new ≡ set_at nat_eq old key (Some empty_packet_pipe) → new key ≡ Some empty_packet_pipe
made-packets old new key is = (λ i. is i key) ∙ ap (λ b. if b then Some empty_packet_pipe else old key) (eq-eqb key key refl)

-- and one to which bytes were written
pub wrote-packets : (old new : ℕ → Option Pipe) (key : ℕ) (bytes : List ℕ) → old key ≡ Some empty_packet_pipe → new ≡ change_at key (gain bytes) old → new key ≡ Some (gain bytes empty_packet_pipe)
wrote-packets old new key bytes made is = (λ i. is i key) ∙ ap (λ b. if b then option_map (gain bytes) (old key) else old key) (eq-eqb key key refl) ∙ ap (option_map (gain bytes)) made
