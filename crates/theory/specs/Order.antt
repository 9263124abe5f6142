-- One order for graphs, by content (document 02, request 14): by A, N and P, then node by node by the kind's number, the operand and the leaf list, then producer by producer
-- by body + 1 and the head list. Kinds are compared by number, since a theory has one kind for the numbers 4, 5 and 6. The links' numbering, K and unused links play no part.
-- Of std: `nat_cmp` is the order of numbers, `slice_cmp` takes lists by first difference, a shorter beginning first, `on` compares by a part, and in `then_cmp` the first that differs decides.
use Rattle.std.specs.Prelude.{◌≡◌, false, List, ℕ, map}
use Rattle.std.specs.declared.cmp.Ordering.{Ordering}
use Rattle.std.specs.Ordering.{is_gt, nat_cmp, on, then_cmp}
use Rattle.std.specs.Cmp.Lexicographic.{slice_cmp}
use Rattle.std.specs.List.{range_with_len}
use Rattle.theory.specs.Words.{theory_of}
use Rattle.theory.specs.Content.{kind_number}

-- what is compared of a node, and of a producer
pub record NodeContent : Type 0 where
  pub kind : ℕ
  pub operand : ℕ
  pub leaves : List ℕ

pub record ProducerContent : Type 0 where
  pub body : ℕ
  pub heads : List ℕ

abbrev pub record_cmp : NodeContent → NodeContent → Ordering
record_cmp = then_cmp (on (λ n. n.kind) nat_cmp) (on (λ n. n.operand) nat_cmp)

abbrev pub node_cmp : NodeContent → NodeContent → Ordering
node_cmp = then_cmp record_cmp (on (λ n. n.leaves) (slice_cmp nat_cmp))

abbrev pub producer_cmp : ProducerContent → ProducerContent → Ordering
producer_cmp = then_cmp (on (λ p. p.body) nat_cmp) (on (λ p. p.heads) (slice_cmp nat_cmp))

module _ (ws : List ℕ) where
  unfoldable pub node_content : ℕ → NodeContent
  node_content n = record { kind = kind_number ws n; operand = (theory_of ws).operand n; leaves = (theory_of ws).leaves n }

  unfoldable pub producer_content : ℕ → ProducerContent
  producer_content p = record { body = (theory_of ws).body p; heads = (theory_of ws).heads p }

  -- all nodes in turn, and all producers
  abbrev pub node_contents : List NodeContent
  node_contents = map node_content (range_with_len 0 (theory_of ws).nodes)

  abbrev pub producer_contents : List ProducerContent
  producer_contents = map producer_content (range_with_len 0 (theory_of ws).producers)

unfoldable pub counts_cmp : (x y : List ℕ) → Ordering
counts_cmp = then_cmp (then_cmp (on (λ ws. (theory_of ws).atoms) nat_cmp) (on (λ ws. (theory_of ws).nodes) nat_cmp)) (on (λ ws. (theory_of ws).producers) nat_cmp)

unfoldable pub content_cmp : (x y : List ℕ) → Ordering
content_cmp = then_cmp counts_cmp (then_cmp (on node_contents (slice_cmp node_cmp)) (on producer_contents (slice_cmp producer_cmp)))

-- x comes before y, or has the same content
abbrev pub AtMost : (x y : List ℕ) → Type 0
AtMost x y = is_gt (content_cmp x y) ≡ false
