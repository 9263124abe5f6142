-- The header sizes the graph, and a part of the input that holds the header has the same one.
use mathlib.Core.Path.{◌≡◌, sym, ◌∙◌}
use mathlib.Core.List.{List}
use Prim.Native.Nat.{ℕ, ◌-◌, ◌*◌, ◌/◌, ◌≤◌, ◌<◌, min}
use native.Mathlib.Omega.{arith}
use native.Mathlib.Decide.{dec_le}
use lib.ListN.{length, get_or, take, drop, length-take, length-drop, drop_of_length-le}
use lib.Seq.{take_all, take-take}
use Rattle.theory.specs.Accepted.{size_of}
use Rattle.input.specs.Bytes.{word_at, words}
use Rattle.input.specs.Input.{graph_size, graph_of, masks_of}
use Rattle.input.proofs.ByteLaws.{little_take, tabulate_length, tabulate_at}

-- ---- words of a part

-- as many bytes as the header has, and the header's words
module _ (bytes : List ℕ) (n : ℕ) (long : 10 ≤ length bytes) (some : 10 ≤ n) where
  part_long : 10 ≤ length (take n bytes)
  part_long = rw length-take (omega arith)

  part_word : (i : ℕ) → i < 5 → get_or (words 2 (take n bytes)) i 0 ≡ get_or (words 2 bytes) i 0
  part_word i h =
      tabulate_at (word_at 2 (take n bytes)) (length (take n bytes) / 2) i (omega (arith, part_long))
      ∙ little_take bytes n (2 * i) 2 (omega arith)
      ∙ sym (tabulate_at (word_at 2 bytes) (length bytes / 2) i (omega arith))

words_long : (bytes : List ℕ) → 10 ≤ length bytes → 5 ≤ length (words 2 bytes)
words_long bytes h = omega (arith, tabulate_length (word_at 2 bytes) (length bytes / 2))

-- ---- the header

pub record SameHeader (g h : List ℕ) : Type 0 where
  pub left_long : 5 ≤ length g
  pub right_long : 5 ≤ length h
  pub same : (i : ℕ) → i < 5 → get_or g i 0 ≡ get_or h i 0

pub header_of : (bytes : List ℕ) (n : ℕ) → 10 ≤ length bytes → 10 ≤ n → SameHeader (words 2 (take n bytes)) (words 2 bytes)
header_of bytes n h l = record {
  left_long = words_long (take n bytes) (part_long bytes n h l);
  right_long = words_long bytes h;
  same = part_word bytes n h l;
}

header_then : {g h k : List ℕ} → SameHeader g h → SameHeader h k → SameHeader g k
header_then s t = record { left_long = s.left_long; right_long = t.right_long; same = λ i l. s.same i l ∙ t.same i l }

pub size_same : {g h : List ℕ} → SameHeader g h → size_of g ≡ size_of h
size_same s = rw (s.same 2 (omega arith), s.same 3 (omega arith), s.same 4 (omega arith))

pub header_whole : (input : List ℕ) → 10 ≤ length input → SameHeader (graph_of input) (words 2 input)
unfolding graph_of graph_size
header_whole input long = header_of input (graph_size input) long (omega arith)

-- ---- a part as long as the input allows

pub take_least : (l : List ℕ) (n : ℕ) → take (min (length l) n) l ≡ take n l
take_least l n = go (dec_le (length l) n)
  where
    go : Dec (length l ≤ n) → take (min (length l) n) l ≡ take n l
    go (yes h) = let e : min (length l) n ≡ length l = omega arith in rw e (take_all (length l) l (omega arith) ∙ sym (take_all n l h))
    go (no h) = let e : min (length l) n ≡ n = omega arith in rw e

pub drop_least : (l : List ℕ) (n : ℕ) → drop (min (length l) n) l ≡ drop n l
drop_least l n = go (dec_le (length l) n)
  where
    go : Dec (length l ≤ n) → drop (min (length l) n) l ≡ drop n l
    go (yes h) = let e : min (length l) n ≡ length l = omega arith in rw e (drop_of_length-le l {i = length l} (omega arith) ∙ sym (drop_of_length-le l h))
    go (no h) = let e : min (length l) n ≡ n = omega arith in rw e

-- ---- an input that is cut off after its header

module _ (input : List ℕ) (cap : ℕ) (long : 10 ≤ length input) (some : 10 ≤ cap) where
  pub size_cut : graph_size (take cap input) ≡ graph_size input
  unfolding graph_size
  size_cut = rw (size_same (header_of input cap long some))

  pub graph_cut : graph_size input ≤ cap → graph_of (take cap input) ≡ graph_of input
  unfolding graph_of
  graph_cut h = rw (size_cut, take-take (graph_size input) cap input h)

  pub header_cut : SameHeader (graph_of (take cap input)) (words 2 input)
  unfolding graph_of graph_size
  header_cut =
      header_then (header_of (take cap input) (graph_size (take cap input)) (part_long input cap long some) (omega arith)) (header_of input cap long some)

pub masks_length : (input : List ℕ) → length (masks_of input) ≡ length input - graph_size input
unfolding masks_of
masks_length input = length-drop (graph_size input) input
