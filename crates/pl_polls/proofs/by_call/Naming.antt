-- What the entries of a poll name, at the kernel's keys.
use Rattle.std.proofs.Common.{◌≡◌, ℕ, ℤ, pos, negsuc, true, List, [], ◌∷◌, Option, Some, None, refl, sym, ◌∙◌, ap, subst, nat_eq}
use Rattle.std.specs.Prelude.{IsSome}
use Rattle.std.specs.List.{cons_option}
use Rattle.std.specs.Set.{is_member}
use Rattle.std.proofs.lemmas.Bool.{eqb-true}
use Rattle.pl_model.specs.declared.flags.PollMask.{PollMask}
use Rattle.pl_model.specs.State.{Core}
use Rattle.pl_model.specs.Begin.{open_fd, named_by, keys_of}
use Rattle.pl_model.specs.Numbered.{numbers}
use Rattle.pl_model.proofs.settling.Members.{or_elim}
use Rattle.pl_desc.specs.Rows.{at, row_of}
use Rattle.pl_state.specs.Contents.{Contents, contents, core_of}
use Rattle.pl_state.proofs.Known.{Known}
use Rattle.pl_state.proofs.by_call.Begun.{open-is, open-none}
use Rattle.pl_state.proofs.by_call.Closing.{named_there, open_here}
use Rattle.pl_polls.specs.Waiting.{keys_named}

module _ {A : Type 0} (m : Known A) (pid : ℕ) where
  abbrev k : Contents A
  k = contents m.descs m.nodes m.calls m.limits

  abbrev c : Core A numbers
  c = core_of k

  -- the keys that the kernel finds are those that the machine keeps
  pub keys-is : (entries : List (ℤ × PollMask)) → keys_of (named_by c pid entries) ≡ keys_named k.tables pid entries
  keys-is [] = refl
  keys-is ((negsuc n, asked) ∷ es) = keys-is es
  keys-is ((pos fd, asked) ∷ es) = by (row_of k.tables pid (pos fd)) refl (keys-is es)
    where
      by : (r : Option ℕ) → row_of k.tables pid (pos fd) ≡ r → keys_of (named_by c pid es) ≡ keys_named k.tables pid es
          → keys_of (open_fd c pid (pos fd) ∷ named_by c pid es) ≡ cons_option r (keys_named k.tables pid es)
      by None is rest = ap (λ o. keys_of (o ∷ named_by c pid es)) (open-none k pid (pos fd) is) ∙ rest
      by (Some d) is rest = let o = open_here m pid (pos fd) d is in ap (λ o. keys_of (o ∷ named_by c pid es)) (open-is k pid (pos fd) d o.0 is o.1) ∙ ap (λ ds. d ∷ ds) rest

  -- each is open
  pub keys-open : (entries : List (ℤ × PollMask)) (d : ℕ) → is_member nat_eq (keys_named k.tables pid entries) d ≡ true → IsSome (at k.opened d)
  keys-open [] d h = absurd (cc)
  keys-open (e ∷ es) d h = by (row_of k.tables pid e.0) refl h (keys-open es d)
    where
      by : (r : Option ℕ) → row_of k.tables pid e.0 ≡ r → is_member nat_eq (cons_option r (keys_named k.tables pid es)) d ≡ true → (is_member nat_eq (keys_named k.tables pid es) d ≡ true → IsSome (at k.opened d)) → IsSome (at k.opened d)
      by None is h rest = rest h
      by (Some q) is h rest = or_elim (nat_eq d q) (is_member nat_eq (keys_named k.tables pid es) d) (λ same. subst (λ z. IsSome (at k.opened z)) (sym (eqb-true d q same)) (named_there m pid e.0 q is)) rest h
