-- What a step leaves of the calls that wait, where it moves no byte and changes no end.
use Rattle.std.proofs.Common.{◌≡◌, ℕ, Bool, true, false, cond, List, [], ◌∷◌, ◌++◌, Option, Some, None, inl, inr, refl, sym, ◌∙◌, ap, subst, nat_eq, append-nil}
use Rattle.std.specs.Prelude.{IsSome, IfSome, option_map, unwrap_or}
use Rattle.std.specs.Set.{is_member}
use Rattle.std.proofs.lemmas.Bool.{eqb-true}
use Rattle.std.proofs.lemmas.Bool.Decides.{eqb_tells}
use Rattle.pl_model.specs.Map.{Map, get, put}
use Rattle.pl_model.specs.Keys.{Node, PipeNode, FileNode, same_node}
use Rattle.pl_model.specs.State.{Core, Description, Pipe, Waiting, empty_pipe}
use Rattle.pl_model.specs.Live.{in_rows, in_parked, pids, is_live}
use Rattle.pl_model.specs.Packets.{gain, piece_lengths}
use Rattle.pl_model.specs.Settle.{settle}
use Rattle.pl_model.specs.Trial.{Flow, flowed, lost, gained, pipe_at}
use Rattle.pl_model.specs.Step.{parked, parked_again}
use Rattle.pl_model.specs.Numbered.{numbers}
use Rattle.pl_model.specs.Laws.{IsSettled}
use Rattle.pl_model.proofs.settling.Members.{and_left}
use Rattle.pl_model.proofs.settling.WhoIsLive.{is_on}
use Rattle.pl_model.proofs.settling.Opening.{same_is}
use Rattle.pl_model.proofs.settling.Parking.{parked_live, again_live}
use Rattle.pl_model.proofs.streams.Maps.{append_old}
use Rattle.pl_model.proofs.touching.SameAt.{SameAt, IsFit, IsThereAt, held_at}
use Rattle.pl_model.proofs.touching.Parked.{Stays, ended-stays}

module _ {A : Type 0} (c u : Core A numbers) where
  -- The second state has what the first has, but for calls that keep no more, and pipes that weren't there.
  pub record IsLeft : Type 0 where
    pub descriptions : u.descriptions ≡ c.descriptions
    pub files : u.files ≡ c.files
    pub limits : u.limits ≡ c.limits
    pub pipes : (p : ℕ) (x : Pipe) → c.pipes p ≡ Some x → u.pipes p ≡ Some x
    pub live : (d : ℕ) → is_live u d ≡ is_live c d
    pub parked : (number : ℕ) (w : Waiting A numbers) → get nat_eq c.parked number ≡ Some w → get nat_eq u.parked number ≡ Some w

  -- It is the same at each node that is there,
  left-same : IsLeft → (node : Node numbers) → IsThereAt c node → SameAt c u node
  left-same left node there = record {
    ends = record { forth = λ d l o. (left.live d ∙ l, (λ i. left.descriptions i d)); back = λ d l o. (sym (left.live d) ∙ l, (λ i. left.descriptions i d)) };
    held = held node there;
  }
    where
      pipe : (p : ℕ) (o : Option Pipe) → c.pipes p ≡ o → IsSome o → u.pipes p ≡ o
      pipe p None e i = absurd (cc)
      pipe p (Some x) e i = left.pipes p x e

      held : (n : Node numbers) → IsThereAt c n → held_at u n ≡ held_at c n
      held (PipeNode p) i = λ j. (pipe p (c.pipes p) refl i j, None)
      held (FileNode f) i = λ j. (None, left.files j f)

  -- as the node of each description is,
  node_there : IsFit c → (node : Node numbers) (d : ℕ) → is_on node (c.descriptions d) ≡ true → IsThereAt c node
  node_there fit node d on = at (c.descriptions d) refl on
    where
      at : (o : Option (Description numbers)) → c.descriptions d ≡ o → is_on node o ≡ true → IsThereAt c node
      at None e on = absurd (cc)
      at (Some x) e on = subst (IsThereAt c) (same_is x.node node (and_left (same_node x.node node) true on)) (fit.there d x e)

  -- and so each call stays as it was.
  pub left-stays : (fit : IsFit c) → IsLeft → (number : ℕ) (w : Waiting A numbers) (here : get nat_eq c.parked number ≡ Some w) → Stays c fit number w here (settle c u)
  left-stays fit left number w here = ended-stays c fit number w here u left.limits (left.parked number w here) (λ node d live on keeps. left-same left node (node_there fit node d on))

-- a pipe that gains nothing stays as it was
gain-nothing : (x : Pipe) → gain [] x ≡ x
gain-nothing x = λ i. record x { bytes = append-nil x.bytes i; packets = at x.packets i }
  where
    at : (o : Option (List ℕ)) → option_map (λ lengths. lengths ++ piece_lengths 0) o ≡ o
    at None = refl
    at (Some lengths) = ap (λ z. Some z) (append-nil lengths)

put_here : {X : Type 0} (es : Map ℕ X) (k : ℕ) (x : X) → get nat_eq es k ≡ Some x → put nat_eq es k x ≡ es
put_here [] k x here = absurd (cc)
put_here (e ∷ es) k x here = at (nat_eq e.0 k) refl here (put_here es k x)
  where
    at : (b : Bool) → nat_eq e.0 k ≡ b → cond b (Some e.1) (get nat_eq es k) ≡ Some x → (get nat_eq es k ≡ Some x → put nat_eq es k x ≡ es) → cond b ((k, x) ∷ es) (e ∷ put nat_eq es k x) ≡ e ∷ es
    at true i h rest = (let key : e.0 ≡ k = eqb-true e.0 k i in let is : e.1 ≡ x = cc in λ j. (sym key j, sym is j) ∷ es)
    at false i h rest = ap (λ z. e ∷ z) (rest h)

module _ {A : Type 0} where
  -- A flow of no byte goes into the pipe that it names, and takes from none.
  pub flowed-is : (c u : Core A numbers) (flow : Flow numbers) → u ≡ c → flow.out ≡ None → flowed u flow ≡ gained c flow.into
  unfolding flowed
  flowed-is c u flow same none = λ i. gained (lost (same i) (none i)) flow.into

  gained-pipes : (s : Core A numbers) (into : Option (ℕ × List ℕ)) → IfSome into (λ i. i.1 ≡ []) → (q : ℕ) (x : Pipe) → s.pipes q ≡ Some x → (gained s into).pipes q ≡ Some x
  gained-pipes s None nothing q x e = e
  gained-pipes s (Some i) nothing q x e = elim (eqb_tells i.0 q) as (λ _. cond (nat_eq i.0 q) (Some (gain i.1 (pipe_at s i.0))) (s.pipes q) ≡ Some x) [
    | inl t ↦
        ap (λ b. cond b (Some (gain i.1 (pipe_at s i.0))) (s.pipes q)) t.0
        ∙ (λ j. Some (gain (nothing j) (unwrap_or ((ap s.pipes t.1 ∙ e) j) empty_pipe)))
        ∙ ap (λ z. Some z) (gain-nothing x)
    | inr t ↦ ap (λ b. cond b (Some (gain i.1 (pipe_at s i.0))) (s.pipes q)) t.0 ∙ e
  ]

  module _ (c : Core A numbers) (settled : IsSettled c) (into : Option (ℕ × List ℕ)) (nothing : IfSome into (λ i. i.1 ≡ [])) where
    -- a call is parked whose descriptions are live
    pub parked-left : (w : Waiting A numbers) → ((d : ℕ) → is_member nat_eq w.kept d ≡ true → is_live c d ≡ true) → IsLeft c (parked (gained c into) w)
    unfolding in_rows in_parked pids
    parked-left w live = at into nothing
      where
        at : (o : Option (ℕ × List ℕ)) → IfSome o (λ i. i.1 ≡ []) → IsLeft c (parked (gained c o) w)
        at None nothing = record {
          descriptions = refl;
          files = refl;
          limits = refl;
          pipes = λ p x e. e;
          live = parked_live c settled w live;
          parked = λ number v here. append_old c.parked c.next_call number w v here;
        }
        at (Some i) nothing = record {
          descriptions = refl;
          files = refl;
          limits = refl;
          pipes = gained-pipes c (Some i) nothing;
          live = parked_live c settled w live;
          parked = λ number v here. append_old c.parked c.next_call number w v here;
        }

    -- a call that waits is put again as it was
    pub again-left : (n : ℕ) (w : Waiting A numbers) → get nat_eq c.parked n ≡ Some w → IsLeft c (parked_again (gained c into) n w)
    unfolding in_rows in_parked pids
    again-left n w here = at into nothing
      where
        same : (number : ℕ) (v : Waiting A numbers) → get nat_eq c.parked number ≡ Some v → get nat_eq (put nat_eq c.parked n w) number ≡ Some v
        same number v there = ap (λ es. get nat_eq es number) (put_here c.parked n w here) ∙ there

        at : (o : Option (ℕ × List ℕ)) → IfSome o (λ i. i.1 ≡ []) → IsLeft c (parked_again (gained c o) n w)
        at None nothing = record { descriptions = refl; files = refl; limits = refl; pipes = λ p x e. e; live = again_live c settled n w w here refl; parked = same }
        at (Some i) nothing = record { descriptions = refl; files = refl; limits = refl; pipes = gained-pipes c (Some i) nothing; live = again_live c settled n w w here refl; parked = same }
