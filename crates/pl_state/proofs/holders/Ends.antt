-- The descriptions that are open on pipes, and the ends that the machine counts.
use Rattle.std.proofs.Common.{◌≡◌, ℕ, zero, suc, ◌+◌, ◌<◌, Bool, true, false, cond, List, [], ◌∷◌, Option, Some, None, refl, sym, ◌∙◌, ap, nat_eq, length, map, arith}
use Rattle.std.specs.Prelude.{◌&&◌, ◌||◌, nat_lt, option_map, is_some, count_by}
use Rattle.std.specs.List.{list_any, IsDistinct, AllByRecursion}
use Rattle.std.specs.Cmp.{nat_eq_equiv}
use Rattle.std.specs.Set.{is_member}
use Rattle.std.proofs.lemmas.List.Folds.{list_any_at}
use Rattle.std.proofs.lemmas.List.Sums.{sum_by-cons}
use Rattle.std.proofs.lemmas.Map.Made.{length-from_keys}
use Rattle.std.proofs.lemmas.Bool.{eq-eqb, ne_eqb}
use Rattle.slab.specs.Slab.{entries_from}
use Rattle.pl_model.specs.declared.calls.Mode.{Mode}
use Rattle.pl_model.specs.declared.calls.Mode.TheVariants as mode
use Rattle.pl_model.specs.Map.{Map}
use Rattle.pl_model.specs.Modes.{any_mode, reads, writes}
use Rattle.pl_model.specs.declared.node.Node.{Node}
use Rattle.pl_model.specs.declared.node.Node.TheVariants as node
use Rattle.pl_model.specs.Keys.{same_node as machine_same}
use Rattle.pl_model.specs.Keys.{Node as KeyNode}
use Rattle.pl_model.specs.State.{Core}
use Rattle.pl_model.specs.Live.{in_use, is_live, is_end, live_count}
use Rattle.pl_model.specs.Numbered.{numbers}
use Rattle.pl_model.specs.Nodes.{same_node}
use Rattle.pl_model.proofs.settling.Members.{both_ways, or_left}
use Rattle.pl_model.proofs.settling.WhoIsLive.{has_end, end_found, end_passes}
use Rattle.pl_model.proofs.Counting.{some_counted}
use Rattle.pl_desc.specs.Rows.{at}
use Rattle.pl_desc.specs.Descs.{Opened, is_end_on, ends_on}
use Rattle.pl_desc.specs.Descs.{live_count as opened_count}
use Rattle.pl_state.specs.Contents.{node_of, description_of}
use Rattle.pl_state.specs.LastHold.{is_open_on}
use Rattle.pl_nodes.proofs.Keyed.{within}

-- a description that passes a test, with its key
module _ (t : Option Opened → Bool) (none : t None ≡ false) where
  pub found_end : (xs : List (Option Opened)) → list_any t xs ≡ true → (d : ℕ) × (o : Opened) × (at xs d ≡ Some o) × (t (Some o) ≡ true)
  found_end [] h = absurd (cc)
  found_end (None ∷ xs) h = (let r = found_end xs (ap (λ b. b || list_any t xs) (sym none) ∙ h) in (suc r.0, r.1, r.2, r.3))
  found_end (Some o ∷ xs) h = by (found_end xs) (t (Some o)) refl h
    where
      by : (list_any t xs ≡ true → (d : ℕ) × (o : Opened) × (at xs d ≡ Some o) × (t (Some o) ≡ true)) → (b : Bool) → t (Some o) ≡ b → (b || list_any t xs) ≡ true → (d : ℕ) × (f : Opened) × (at (Some o ∷ xs) d ≡ Some f) × (t (Some f) ≡ true)
      by rest true s h = (0, o, refl, s)
      by rest false s h = (let r = rest h in (suc r.0, r.1, r.2, r.3))

same_node-is : (n m : Node) → machine_same {K = numbers} (node_of n) (node_of m) ≡ same_node n m
same_node-is (node.Pipe q) (node.Pipe p) = refl
same_node-is (node.Pipe q) (node.File g) = refl
same_node-is (node.File f) (node.Pipe p) = refl
same_node-is (node.File f) (node.File g) = refl

-- a name stands for the node in the machine, exactly where it does in the kernel
pub has_name-is : (names : Map (List ℕ) Node) (n : Node) → list_any (λ (e : List ℕ × KeyNode numbers). machine_same {K = numbers} e.1 (node_of n)) (map (λ (e : List ℕ × Node). (e.0, node_of e.1)) names) ≡ list_any (λ (e : List ℕ × Node). same_node e.1 n) names
has_name-is [] n = refl
has_name-is (e ∷ es) n = λ i. same_node-is e.1 n i || has_name-is es n i

-- A core with these descriptions, each of them live.
module _ {A : Type 0} (c : Core A numbers) (opened : List (Option Opened)) (described : c.descriptions ≡ (λ d. option_map description_of (at opened d)))
    (lives : (d : ℕ) (o : Opened) → at opened d ≡ Some o → is_live c d ≡ true) where
  seen : (test : Mode → Bool) (n : Node) (o : Option Opened) → is_end {K = numbers} test (node_of n) (option_map description_of o) ≡ is_end_on test n o
  seen test n None = refl
  seen test n (Some o) = λ i. same_node-is o.node n i && test o.mode

  seen_at : (test : Mode → Bool) (n : Node) (d : ℕ) → is_end test (node_of n) (c.descriptions d) ≡ is_end_on test n (at opened d)
  seen_at test n d = ap (λ m. is_end test (node_of n) (m d)) described ∙ seen test n (at opened d)

  at_key : (test : Mode → Bool) (n : Node) (d : ℕ) (o : Option Opened) → at opened d ≡ o → is_end_on test n o ≡ true → list_any (is_end_on test n) opened ≡ true
  at_key test n d None e h = absurd (cc)
  at_key test n d (Some y) e h = list_any_at (is_end_on test n) opened d None (within opened d y e) (ap (is_end_on test n) e ∙ h)

  -- the node has a live end that passes the test exactly where a description does
  any_end-is : (test : Mode → Bool) (n : Node) → has_end c test (node_of n) ≡ list_any (is_end_on test n) opened
  any_end-is test n = both_ways (has_end c test (node_of n)) (list_any (is_end_on test n) opened)
      (λ h. let e = end_found c test (node_of n) h in at_key test n e.0 (at opened e.0) refl (sym (seen_at test n e.0) ∙ e.2))
      (λ h. let f = found_end (is_end_on test n) refl opened h in end_passes c test (node_of n) f.0 (lives f.0 f.1 f.2) (seen_at test n f.0 ∙ ap (is_end_on test n) f.2 ∙ f.3))

  pub has_end-is : (test : Mode → Bool) (n : Node) → has_end c test (node_of n) ≡ nat_lt 0 (ends_on test opened n)
  unfolding ends_on
  has_end-is test n = any_end-is test n ∙ sym (some_counted (is_end_on test n) opened)

-- each mode reads or writes
any_is : (m : Mode) → any_mode m ≡ (reads m || writes m)
any_is mode.Read = refl
any_is mode.Write = refl
any_is mode.Both = refl

any_test : (n : Node) (xs : List (Option Opened)) → list_any (is_end_on any_mode n) xs ≡ (list_any (is_end_on reads n) xs || list_any (is_end_on writes n) xs)
any_test n [] = refl
any_test n (None ∷ xs) = any_test n xs
any_test n (Some o ∷ xs) =
    (λ i. (same_node o.node n && any_is o.mode i) || any_test n xs i)
    ∙ split (same_node o.node n) (reads o.mode) (writes o.mode) (list_any (is_end_on reads n) xs) (list_any (is_end_on writes n) xs)
  where
    split : (b r w x y : Bool) → ((b && (r || w)) || (x || y)) ≡ (((b && r) || x) || ((b && w) || y))
    split false r w x y = refl
    split true true w x y = refl
    split true false false x y = refl
    split true false true true y = refl
    split true false true false y = refl

pub any_end : (n : Node) (xs : List (Option Opened)) → is_open_on xs n ≡ (nat_lt 0 (ends_on reads xs n) || nat_lt 0 (ends_on writes xs n))
unfolding ends_on
any_end n xs = some_counted (is_end_on any_mode n) xs ∙ any_test n xs ∙ sym (λ i. some_counted (is_end_on reads n) xs i || some_counted (is_end_on writes n) xs i)

-- the keys of the descriptions
abbrev keys_from : {T : Type 0} → ℕ → List (Option T) → List ℕ
keys_from k xs = map (λ e. e.0) (entries_from k xs)

module _ {T : Type 0} where
  keys-length : (k : ℕ) (xs : List (Option T)) → length (keys_from k xs) ≡ count_by is_some xs
  keys-length k [] = refl
  keys-length k (None ∷ xs) = keys-length (k + 1) xs
  keys-length k (Some x ∷ xs) = one_more (length (keys_from (k + 1) xs)) (count_by is_some xs) (keys-length (k + 1) xs) ∙ sym (sum_by-cons (λ o. cond (is_some o) 1 0) (Some x) xs) where
    one_more : (m n : ℕ) → m ≡ n → suc m ≡ 1 + n
    one_more m n h = omega (arith, h)

  -- a key is there exactly where it has a value
  keys-low : (k d : ℕ) (xs : List (Option T)) → d < k → is_member nat_eq (keys_from k xs) d ≡ false
  keys-low k d [] l = refl
  keys-low k d (None ∷ xs) l = keys-low (k + 1) d xs (omega arith)
  keys-low k d (Some x ∷ xs) l = (λ i. ne_eqb d k (λ e. absurd (omega (arith, e))) i || keys-low (k + 1) d xs (omega arith) i)

  keys-member : (k d : ℕ) (xs : List (Option T)) → is_member nat_eq (keys_from k xs) (k + d) ≡ is_some (at xs d)
  keys-member k d [] = refl
  keys-member k zero (None ∷ xs) = keys-low (k + 1) (k + zero) xs (omega arith)
  keys-member k (suc d) (None ∷ xs) = ap (is_member nat_eq (keys_from (k + 1) xs)) (let e : k + suc d ≡ (k + 1) + d = omega arith in e) ∙ keys-member (k + 1) d xs
  keys-member k zero (Some x ∷ xs) = or_left (nat_eq (k + zero) k) _ (eq-eqb (k + zero) k (let e : k + zero ≡ k = omega arith in e))
  keys-member k (suc d) (Some x ∷ xs) =
      (λ i. ne_eqb (k + suc d) k (λ e. absurd (omega (arith, e))) i || is_member nat_eq (keys_from (k + 1) xs) (k + suc d))
      ∙ ap (is_member nat_eq (keys_from (k + 1) xs)) (let e : k + suc d ≡ (k + 1) + d = omega arith in e) ∙ keys-member (k + 1) d xs

  -- the keys are distinct
  keys-distinct : (k : ℕ) (xs : List (Option T)) → IsDistinct nat_eq (keys_from k xs)
  unfolding IsDistinct
  keys-distinct k [] = tt
  keys-distinct k (None ∷ xs) = keys-distinct (k + 1) xs
  keys-distinct k (Some x ∷ xs) = (none_equal (keys_from (k + 1) xs) (keys-low (k + 1) k xs (omega arith)), keys-distinct (k + 1) xs)
    where
      or_none : (a b : Bool) → (a || b) ≡ false → (a ≡ false) × (b ≡ false)
      or_none true b h = absurd (cc)
      or_none false b h = (refl, h)

      none_equal : (ys : List ℕ) → is_member nat_eq ys k ≡ false → AllByRecursion (λ y. nat_eq k y ≡ false) ys
      none_equal [] h = tt
      none_equal (y ∷ ys) h = (let r = or_none (nat_eq k y) (is_member nat_eq ys k) h in (r.0, none_equal ys r.1))

-- as many descriptions are live as are open, where the two are the same
pub live_count-is : {A : Type 0} (c : Core A numbers) (opened : List (Option Opened)) → ((d : ℕ) → is_live c d ≡ is_some (at opened d)) → live_count c ≡ opened_count opened
unfolding opened_count
live_count-is c opened same = sym (length-from_keys nat_eq_equiv (keys_from 0 opened) (in_use c) (keys-distinct 0 opened) (λ d. ap (is_member nat_eq (keys_from 0 opened)) (let e : d ≡ 0 + d = omega arith in e) ∙ keys-member 0 d opened ∙ sym (same d))) ∙ keys-length 0 opened
