-- A graph past the largest one is refused by its header, and what stands past the longest exact input changes nothing.
use mathlib.Core.Path.{◌≡◌, refl, ◌∙◌}
use mathlib.Core.Logic.{◌⊎◌, inl, inr}
use mathlib.Core.Bool.{Bool, true, false, ◌||◌, cond}
use mathlib.Core.List.{List}
use Prim.Native.Nat.{ℕ, ◌+◌, ◌*◌, ◌≤◌, ◌<◌, min}
use native.Mathlib.Omega.{arith}
use native.Mathlib.Decide.{dec_le, dec_lt}
use lib.Dec.{eqb, ltb}
use lib.ListN.{length, get_or, take, drop}
use lib.Seq.{take_all, length-take-le}
use borrow.Author.Tests.{lt-ltb, le-ltb, ne_eqb, eqb-true, eqb-false}
use Rattle.theory.specs.Sets.{Is}
use Rattle.theory.specs.Accepted.{edition1, size_of}
use Rattle.theory.proofs.SetLaws.{bool_cases, or_left, or_right}
use Rattle.mask.specs.Mask.{words_of}
use Rattle.refusals.specs.Answer.{Answer, accept, refuse, first_refusal}
use Rattle.refusals.specs.Refusals.{bad_edition, bad_counts, graph_rows, graph_answer}
use Rattle.input.specs.Bytes.{words}
use Rattle.input.specs.Input.{graph_size, graph_of, masks_of}
use Rattle.input.proofs.HeaderLaws.{SameHeader, header_of, header_whole, take_least, drop_least, size_cut, graph_cut, header_cut, masks_length}
use Rattle.report.specs.Report.{bad_masks, answer, text_by, report_text, ReportedOf, Reported}
use Rattle.report.proofs.CallLaws.{accepted_few, graph_accepts, answer_graph, answer_masks}

-- ---- the header alone

edition_same : {g h : List ℕ} → SameHeader g h → bad_edition edition1 g ≡ bad_edition edition1 h
unfolding bad_edition
edition_same {g} {h} s = rw (le-ltb (length g) 5 s.left_long, le-ltb (length h) 5 s.right_long, s.same 0 (omega arith))

counts_same : {g h : List ℕ} → SameHeader g h → bad_counts edition1 g ≡ bad_counts edition1 h
unfolding bad_counts
counts_same s = rw (s.same 1 (omega arith), s.same 2 (omega arith), s.same 3 (omega arith), s.same 4 (omega arith))

-- a graph past the largest one has too many of something
counts_large : (g : List ℕ) → 13317 < size_of g → bad_counts edition1 g ≡ true
unfolding bad_counts
counts_large g h = nodes (dec_lt 1024 (get_or g 2 0))
  where
    links : get_or g 2 0 ≤ 1024 → get_or g 3 0 ≤ 1024 → Is (ltb 4096 (get_or g 4 0))
    links n p = lt-ltb 4096 (get_or g 4 0) (omega arith)

    producers : get_or g 2 0 ≤ 1024 → Dec (1024 < get_or g 3 0) → Is (ltb 1024 (get_or g 3 0) || ltb 4096 (get_or g 4 0))
    producers n (yes p) = or_left _ _ (lt-ltb 1024 (get_or g 3 0) p)
    producers n (no p) = or_right (ltb 1024 (get_or g 3 0)) _ (links n (omega arith))

    nodes : Dec (1024 < get_or g 2 0) → bad_counts edition1 g ≡ true
    nodes (yes n) = or_right (ltb 1024 (get_or g 1 0)) _ (or_left _ _ (lt-ltb 1024 (get_or g 2 0) n))
    nodes (no n) = or_right (ltb 1024 (get_or g 1 0)) _ (or_right (ltb 1024 (get_or g 2 0)) _ (producers (omega arith) (dec_lt 1024 (get_or g 3 0))))

-- 1 or 2
abbrev head_refusal : List ℕ → Answer
head_refusal g = cond (bad_edition edition1 g) (refuse 1 0) (refuse 2 0)

head_answer : (g : List ℕ) → bad_counts edition1 g ≡ true → graph_answer edition1 g ≡ head_refusal g
unfolding graph_answer graph_rows first_refusal
head_answer g e = go (bool_cases (bad_edition edition1 g))
  where
    go : (bad_edition edition1 g ≡ true) ⊎ (bad_edition edition1 g ≡ false) → graph_answer edition1 g ≡ head_refusal g
    go (inl t) = rw t
    go (inr f) = rw (f, e)

head_number : (edition : Bool) → 0 < (cond edition (refuse 1 0) (refuse 2 0)).number
head_number true = omega arith
head_number false = omega arith

-- a graph whose header has too many of something is refused by the header, whatever stands after it
head_only : {g h : List ℕ} (masks : List ℕ) → SameHeader g h → bad_counts edition1 h ≡ true → answer g masks ≡ head_refusal h
head_only {g} {h} masks s e =
    let low = head_number (bad_edition edition1 h) in
    answer_graph g masks (head_refusal h) (head_answer g (counts_same s ∙ e) ∙ rw (edition_same s)) (λ z. omega (arith, low, z))

-- the two lines play no part in the text of a refusal
refused_same : (a x y : Answer) (both other : List ℕ) → x ≡ a → y ≡ a → 0 < a.number → text_by x both ≡ text_by y other
refused_same a x y both other ex ey h = rw (ex, ey, ne_eqb a.number 0 (λ z. omega (arith, h, z)))

-- ---- as many bytes as the program decodes

size_large : (input : List ℕ) → 26634 < graph_size input → bad_counts edition1 (words 2 input) ≡ true
unfolding graph_size
size_large input h = counts_large (words 2 input) (omega arith)

pub report_whole : (input old out : List ℕ) (r b : ℕ) → b ≡ min (length input) (min (graph_size input) 26634) → ReportedOf (words 2 (take b input)) (drop b input) old out r → Reported input old out r
unfolding graph_size graph_of masks_of
report_whole input old out r b e t = go (dec_le (graph_size input) 26634) (dec_le (length input) 26634)
  where
    part : b ≡ min (length input) (graph_size input) → Reported input old out r
    part l = rw (l, take_least, drop_least) at t

    go : Dec (graph_size input ≤ 26634) → Dec (length input ≤ 26634) → Reported input old out r
    go (yes s) d = part (omega arith)
    go (no s) (yes l) = part (omega arith)
    go (no s) (no l) =
        let large = size_large input (omega arith) in
        let long : 10 ≤ length input = omega arith in
        let mine = head_only (drop b input) (header_of input b long (omega arith)) large in
        let whole = head_only (masks_of input) (header_whole input long) large in
        record {
          within = t.within;
          exact = t.exact;
          text = t.text ∙ refused_same (head_refusal (words 2 input)) _ _ _ _ mine whole (head_number (bad_edition edition1 (words 2 input)));
          behind = t.behind;
        }

-- ---- input past the longest exact one

-- an accepted graph's masks have at most 256 bytes
masks_long : (g masks : List ℕ) → graph_answer edition1 g ≡ accept → 256 < length masks → bad_masks g masks ≡ true
unfolding bad_masks
masks_long g masks e h = let few = accepted_few g e in rw (ne_eqb (length masks) (8 * words_of (get_or g 1 0) + 8 * words_of (get_or g 2 0)) (λ z. omega (arith, z)))

-- the same graph with too many bytes after it
long_masks : (g m k both other : List ℕ) → 256 < length m → 256 < length k → text_by (answer g m) both ≡ text_by (answer g k) other
long_masks g m k both other hm hk = go (bool_cases (eqb (graph_answer edition1 g).number 0))
  where
    go : (eqb (graph_answer edition1 g).number 0 ≡ true) ⊎ (eqb (graph_answer edition1 g).number 0 ≡ false) → text_by (answer g m) both ≡ text_by (answer g k) other
    go (inl t) =
        let e = graph_accepts g (eqb-true _ 0 t) in
        refused_same (refuse 10 0) _ _ both other (answer_masks g m e (masks_long g m e hm)) (answer_masks g k e (masks_long g k e hk)) (omega arith)
    go (inr f) =
        let n = eqb-false (graph_answer edition1 g).number 0 f in
        refused_same (graph_answer edition1 g) _ _ both other (answer_graph g m _ refl n) (answer_graph g k _ refl n) (omega arith)

-- the longest input that is not refused for its length has 26,890 bytes
pub enough : (input : List ℕ) (cap : ℕ) → 26891 ≤ cap → report_text (take cap input) ≡ report_text input
unfolding report_text
enough input cap h = go (dec_le (length input) cap) (dec_le (graph_size input) 26634)
  where
    go : Dec (length input ≤ cap) → Dec (graph_size input ≤ 26634) → report_text (take cap input) ≡ report_text input
    go (yes l) d = rw (take_all cap input l)
    go (no l) (yes s) =
        let long : 10 ≤ length input = omega arith in
        let some : 10 ≤ cap = omega arith in
        let cut = length-take-le cap input (omega arith) in
        rw (graph_cut input cap long some (omega arith))
        (long_masks (graph_of input) (masks_of (take cap input)) (masks_of input) _ _
        (omega (arith, masks_length (take cap input), size_cut input cap long some, cut))
        (omega (arith, masks_length input)))
    go (no l) (no s) =
        let long : 10 ≤ length input = omega arith in
        let some : 10 ≤ cap = omega arith in
        let large = size_large input (omega arith) in
        refused_same (head_refusal (words 2 input)) _ _ _ _ (head_only (masks_of (take cap input)) (header_cut input cap long some) large)
        (head_only (masks_of input) (header_whole input long) large) (head_number (bad_edition edition1 (words 2 input)))

-- what `report` promises is that text
pub reported_text : (input old out : List ℕ) (r : ℕ) → Reported input old out r → take r out ≡ report_text input
unfolding report_text
reported_text input old out r t = t.text
