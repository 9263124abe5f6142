-- The order by content is total: reflexive, antisymmetric up to equal content, transitive, and any two graphs compare (`at_most_refl` .. `at_most_total`). Two graphs compare Equal exactly
-- if their content is the same, whatever the links' numbering (`same_content`). The first node that differs decides (`node_decides`).
use mathlib.Core.Path.{◌≡◌, refl, sym, ap, ◌∙◌, subst}
use mathlib.Core.Logic.{◌⊎◌, inl, inr, ◌↔◌}
use mathlib.Core.Bool.{true, false, true≢false}
use mathlib.Core.List.{List, [], ◌∷◌, map}
use Prim.Native.Nat.{ℕ, zero, suc, ◌+◌, ◌<◌}
use native.Mathlib.Omega.{arith}
use Rattle.std.specs.declared.cmp.Ordering.{Ordering}
use Rattle.std.specs.declared.cmp.Ordering.TheVariants.{Less, Equal, Greater}
use Rattle.std.specs.Ordering.{is_gt, is_ne, nat_cmp, ordering_then, ordering_reverse}
use Rattle.std.specs.Cmp.{IsTotalOrder, tied_itself, upto, nat_cmp_total, on_total, then_total}
use Rattle.std.specs.Cmp.Lexicographic.{slice_cmp, lists_total, nat_list_cmp_total}
use Rattle.std.specs.List.{range_with_len}
use Rattle.theory.specs.Words.{theory_of}
use Rattle.theory.specs.Content.{SameContent}
use Rattle.theory.specs.Order.{NodeContent, ProducerContent, node_cmp, producer_cmp, node_content, producer_content, node_contents, producer_contents, counts_cmp, content_cmp, AtMost}

-- ---- a total order

node_total : IsTotalOrder node_cmp
node_total = then_total (then_total (on_total (λ (n : NodeContent). n.kind) nat_cmp_total) (on_total (λ (n : NodeContent). n.operand) nat_cmp_total)) (on_total (λ (n : NodeContent). n.leaves) nat_list_cmp_total)

producer_total : IsTotalOrder producer_cmp
producer_total = then_total (on_total (λ (p : ProducerContent). p.body) nat_cmp_total) (on_total (λ (p : ProducerContent). p.heads) nat_list_cmp_total)

counts_total : IsTotalOrder counts_cmp
unfolding counts_cmp
counts_total = then_total (then_total (on_total (λ ws. (theory_of ws).atoms) nat_cmp_total) (on_total (λ ws. (theory_of ws).nodes) nat_cmp_total)) (on_total (λ ws. (theory_of ws).producers) nat_cmp_total)

pub content_total : IsTotalOrder content_cmp
unfolding content_cmp
content_total = then_total counts_total (then_total (on_total node_contents (lists_total node_total)) (on_total producer_contents (lists_total producer_total)))

-- ---- Equal exactly if the content is the same

never_less : {X : Type 0} → Less ≡ Equal → X
never_less e = let z : ◌≡◌ {A = ℕ} 0 1 = cc in absurd (omega arith)

never_greater : {X : Type 0} → Greater ≡ Equal → X
never_greater e = let z : ◌≡◌ {A = ℕ} 0 1 = cc in absurd (omega arith)

pub then_equal : (o p : Ordering) → ordering_then o p ≡ Equal → (o ≡ Equal) × (p ≡ Equal)
then_equal Less p e = never_less e
then_equal Equal p e = (refl, e)
then_equal Greater p e = never_greater e

-- one that differs decides
pub decides : (o p : Ordering) → is_ne o ≡ true → ordering_then o p ≡ o
decides Less p e = refl
decides Equal p e = absurd (true≢false (sym e))
decides Greater p e = refl

pub both_equal : {o p : Ordering} → o ≡ Equal → p ≡ Equal → ordering_then o p ≡ Equal
both_equal e f = rw (e, f) refl

pub number_equal : (m n : ℕ) → nat_cmp m n ≡ Equal → m ≡ n
number_equal m n e = grind arith

pub number_same : {m n : ℕ} → m ≡ n → nat_cmp m n ≡ Equal
number_same {m} e = rw (← e) (tied_itself nat_cmp_total m)

pub list_equal : (l m : List ℕ) → slice_cmp nat_cmp l m ≡ Equal → l ≡ m
list_equal [] [] e = refl
list_equal [] (y ∷ m) e = never_less e
list_equal (x ∷ l) [] e = never_greater e
list_equal (x ∷ l) (y ∷ m) e = let r = then_equal (nat_cmp x y) (slice_cmp nat_cmp l m) e in rw (number_equal x y r.0, list_equal l m r.1) refl

list_same : {l m : List ℕ} → l ≡ m → slice_cmp nat_cmp l m ≡ Equal
list_same {l} e = rw (← e) (tied_itself nat_list_cmp_total l)

-- places in turn, from a on
module _ {X : Type 0} (R : X → X → Ordering) (f g : ℕ → X) where
  pub turns_equal : (a n : ℕ) → ((i : ℕ) → i < n → R (f (a + i)) (g (a + i)) ≡ Equal) → slice_cmp R (map f (range_with_len a n)) (map g (range_with_len a n)) ≡ Equal
  turns_equal a zero h = refl
  turns_equal a (suc n) h = both_equal (subst (λ (k : ℕ). R (f k) (g k) ≡ Equal) (omega arith) (h 0 (omega arith)))
      (turns_equal (a + 1) n (λ i l. subst (λ (k : ℕ). R (f k) (g k) ≡ Equal) (omega arith) (h (suc i) (omega arith))))

  pub equal_turns : (a n : ℕ) → slice_cmp R (map f (range_with_len a n)) (map g (range_with_len a n)) ≡ Equal → (i : ℕ) → i < n → R (f (a + i)) (g (a + i)) ≡ Equal
  equal_turns a zero e i l = absurd (omega arith)
  equal_turns a (suc n) e zero l = subst (λ (k : ℕ). R (f k) (g k) ≡ Equal) (omega arith) (then_equal (R (f a) (g a)) _ e).0
  equal_turns a (suc n) e (suc i) l =
      subst (λ (k : ℕ). R (f k) (g k) ≡ Equal) (omega arith) (equal_turns (a + 1) n (then_equal (R (f a) (g a)) _ e).1 i (omega arith))

  -- the first place that differs decides
  pub turns_stop : (a k n : ℕ) {r : Ordering} → k < n → ((i : ℕ) → i < k → R (f (a + i)) (g (a + i)) ≡ Equal) → R (f (a + k)) (g (a + k)) ≡ r → is_ne r ≡ true
      → slice_cmp R (map f (range_with_len a n)) (map g (range_with_len a n)) ≡ r
  turns_stop a k zero l h e d = absurd (omega arith)
  turns_stop a zero (suc n) {r} l h e d =
      let first : R (f a) (g a) ≡ r = subst (λ (j : ℕ). R (f j) (g j) ≡ r) (omega arith) e in
      decides (R (f a) (g a)) _ (ap is_ne first ∙ d) ∙ first
  turns_stop a (suc k) (suc n) {r} l h e d =
      let first : R (f a) (g a) ≡ Equal = subst (λ (j : ℕ). R (f j) (g j) ≡ Equal) (omega arith) (h 0 (omega arith)) in
      ap (λ (o : Ordering). ordering_then o (slice_cmp R (map f (range_with_len (a + 1) n)) (map g (range_with_len (a + 1) n)))) first
      ∙ turns_stop (a + 1) k n (omega arith) (λ i q. subst (λ (j : ℕ). R (f j) (g j) ≡ Equal) (omega arith) (h (suc i) (omega arith))) (subst (λ (j : ℕ). R (f j) (g j) ≡ r) (omega arith) e) d

  -- the same, from 0 on, where the second list may have been given another length
  turns_same : (n m : ℕ) → n ≡ m → ((i : ℕ) → i < n → R (f i) (g i) ≡ Equal) → slice_cmp R (map f (range_with_len 0 n)) (map g (range_with_len 0 m)) ≡ Equal
  turns_same n m q h = rw (← q) (turns_equal 0 n (λ i l. subst (λ (k : ℕ). R (f k) (g k) ≡ Equal) (omega arith) (h i l)))

  turns_of : (n m : ℕ) → n ≡ m → slice_cmp R (map f (range_with_len 0 n)) (map g (range_with_len 0 m)) ≡ Equal → (i : ℕ) → i < n → R (f i) (g i) ≡ Equal
  turns_of n m q e i l = subst (λ (k : ℕ). R (f k) (g k) ≡ Equal) (omega arith) (equal_turns 0 n (rw (← q) at e) i l)

node_equal : (c d : NodeContent) → node_cmp c d ≡ Equal → (c.kind ≡ d.kind) × (c.operand ≡ d.operand) × (c.leaves ≡ d.leaves)
node_equal c d e =
    let l = then_equal (ordering_then (nat_cmp c.kind d.kind) (nat_cmp c.operand d.operand)) (slice_cmp nat_cmp c.leaves d.leaves) e in
    let k = then_equal (nat_cmp c.kind d.kind) (nat_cmp c.operand d.operand) l.0 in
    (number_equal c.kind d.kind k.0, number_equal c.operand d.operand k.1, list_equal c.leaves d.leaves l.1)

producer_equal : (c d : ProducerContent) → producer_cmp c d ≡ Equal → (c.body ≡ d.body) × (c.heads ≡ d.heads)
producer_equal c d e = let r = then_equal (nat_cmp c.body d.body) (slice_cmp nat_cmp c.heads d.heads) e in (number_equal c.body d.body r.0, list_equal c.heads d.heads r.1)

module _ (x y : List ℕ) where
  abbrev pub Nodes : Ordering
  Nodes = slice_cmp node_cmp (node_contents x) (node_contents y)

  abbrev pub Producers : Ordering
  Producers = slice_cmp producer_cmp (producer_contents x) (producer_contents y)

  pub content_parts : content_cmp x y ≡ ordering_then (counts_cmp x y) (ordering_then Nodes Producers)
  unfolding content_cmp
  content_parts = refl

  pub counts_equal : counts_cmp x y ≡ Equal → ((theory_of x).atoms ≡ (theory_of y).atoms) × ((theory_of x).nodes ≡ (theory_of y).nodes) × ((theory_of x).producers ≡ (theory_of y).producers)
  unfolding counts_cmp
  counts_equal e =
      let p = then_equal (ordering_then (nat_cmp (theory_of x).atoms (theory_of y).atoms) (nat_cmp (theory_of x).nodes (theory_of y).nodes)) (nat_cmp (theory_of x).producers (theory_of y).producers) e in
      let a = then_equal (nat_cmp (theory_of x).atoms (theory_of y).atoms) (nat_cmp (theory_of x).nodes (theory_of y).nodes) p.0 in
      (number_equal (theory_of x).atoms (theory_of y).atoms a.0, number_equal (theory_of x).nodes (theory_of y).nodes a.1, number_equal (theory_of x).producers (theory_of y).producers p.1)

  -- of graphs with the same counts the first node that differs decides, whatever comes after it
  pub node_decides : counts_cmp x y ≡ Equal → (n : ℕ) → n < (theory_of x).nodes → ((i : ℕ) → i < n → node_cmp (node_content x i) (node_content y i) ≡ Equal)
      → {o : Ordering} → node_cmp (node_content x n) (node_content y n) ≡ o → is_ne o ≡ true → content_cmp x y ≡ o
  node_decides c n l h {o} e d =
      let nodes : Nodes ≡ o = rw (← (counts_equal c).1) (turns_stop node_cmp (node_content x) (node_content y) 0 n (theory_of x).nodes l (λ i k. subst (λ (j : ℕ). node_cmp (node_content x j) (node_content y j) ≡ Equal) (omega arith) (h i k)) (subst (λ (j : ℕ). node_cmp (node_content x j) (node_content y j) ≡ o) (omega arith) e) d) in
      content_parts ∙ rw c (decides Nodes Producers (ap is_ne nodes ∙ d) ∙ nodes)

  to_content : content_cmp x y ≡ Equal → SameContent x y
  unfolding node_content producer_content
  to_content e =
      let a = then_equal (counts_cmp x y) (ordering_then Nodes Producers) (sym content_parts ∙ e) in
      let counts = counts_equal a.0 in
      let r = then_equal Nodes Producers a.1 in
      let node = turns_of node_cmp (node_content x) (node_content y) (theory_of x).nodes (theory_of y).nodes counts.1 r.0 in
      let producer = turns_of producer_cmp (producer_content x) (producer_content y) (theory_of x).producers (theory_of y).producers counts.2 r.1 in
      record {
        atoms = counts.0;
        nodes = counts.1;
        producers = counts.2;
        kinds = λ i l. (node_equal (node_content x i) (node_content y i) (node i l)).0;
        operands = λ i l. (node_equal (node_content x i) (node_content y i) (node i l)).1;
        leaf_lists = λ i l. (node_equal (node_content x i) (node_content y i) (node i l)).2;
        bodies = λ i l. (producer_equal (producer_content x i) (producer_content y i) (producer i l)).0;
        head_lists = λ i l. (producer_equal (producer_content x i) (producer_content y i) (producer i l)).1;
      }

  from_content : SameContent x y → content_cmp x y ≡ Equal
  unfolding node_content producer_content counts_cmp
  from_content s =
      let node : (i : ℕ) → i < (theory_of x).nodes → node_cmp (node_content x i) (node_content y i) ≡ Equal = λ i l. both_equal (both_equal (number_same (s.kinds i l)) (number_same (s.operands i l))) (list_same (s.leaf_lists i l)) in
      let producer : (i : ℕ) → i < (theory_of x).producers → producer_cmp (producer_content x i) (producer_content y i) ≡ Equal = λ i l. both_equal (number_same (s.bodies i l)) (list_same (s.head_lists i l)) in
      content_parts ∙ both_equal (both_equal (both_equal (number_same s.atoms) (number_same s.nodes)) (number_same s.producers)) (both_equal
      (turns_same node_cmp (node_content x) (node_content y) (theory_of x).nodes (theory_of y).nodes s.nodes node)
      (turns_same producer_cmp (producer_content x) (producer_content y) (theory_of x).producers (theory_of y).producers s.producers producer))

  pub same_content : content_cmp x y ≡ Equal ↔ SameContent x y
  same_content = (to_content, from_content)

-- ---- the order in the request's words

turned : (o : Ordering) → (is_gt o ≡ false) ⊎ (is_gt (ordering_reverse o) ≡ false)
turned Less = inl refl
turned Equal = inl refl
turned Greater = inr refl

level : (o : Ordering) → is_gt o ≡ false → is_gt (ordering_reverse o) ≡ false → o ≡ Equal
level Less p q = absurd (let z : ◌≡◌ {A = ℕ} 0 1 = cc in omega arith)
level Equal p q = refl
level Greater p q = absurd (let z : ◌≡◌ {A = ℕ} 0 1 = cc in omega arith)

pub at_most_refl : (x : List ℕ) → AtMost x x
at_most_refl x = ap is_gt (tied_itself content_total x)

pub at_most_antisym : (x y : List ℕ) → AtMost x y → AtMost y x → SameContent x y
at_most_antisym x y p q = (same_content x y).0 (level (content_cmp x y) p (ap is_gt (sym (content_total.antisymm y x)) ∙ q))

pub at_most_trans : (x y z : List ℕ) → AtMost x y → AtMost y z → AtMost x z
at_most_trans = upto content_total

pub at_most_total : (x y : List ℕ) → AtMost x y ⊎ AtMost y x
at_most_total x y = go (turned (content_cmp x y))
  where
    go : (is_gt (content_cmp x y) ≡ false) ⊎ (is_gt (ordering_reverse (content_cmp x y)) ≡ false) → AtMost x y ⊎ AtMost y x
    go (inl e) = inl e
    go (inr e) = inr (ap is_gt (content_total.antisymm y x) ∙ e)
