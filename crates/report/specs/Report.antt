-- The program's text as a definition of standard input's bytes (document 01, "The program").
use Rattle.std.specs.Prelude.{◌≡◌, Bool, not, cond, List, [], ◌∷◌, ◌++◌, ℕ, ◌+◌, ◌*◌, ◌≤◌, eqb, length, get_or, take, drop}
use Rattle.theory.specs.Sets.{members}
use Rattle.theory.specs.Words.{theory_of, bit_at}
use Rattle.theory.specs.Accepted.{edition1}
use Rattle.theory.specs.Founded.{has_cycle, missing}
use Rattle.mask.specs.Mask.{words_of}
use Rattle.refusals.specs.Answer.{Answer, refuse_if, first_refusal}
use Rattle.refusals.specs.Refusals.{graph_answer, absorbed_row}
use Rattle.input.specs.Bytes.{words}
use Rattle.input.specs.Input.{graph_of, masks_of}
use Rattle.text.specs.Text.{loops_line, missing_line, refused_line}

-- two lines: the loop test's answer and the missing list
abbrev pub lines : (graph never atom_never : List ℕ) → List ℕ
lines graph never atom_never =
    loops_line (has_cycle (theory_of graph)) ++ missing_line (members (get_or graph 1 0) (missing (theory_of graph) (bit_at never) (bit_at atom_never)))

module _ (graph masks : List ℕ) where
  -- first the atom mask, and what remains is the node mask
  abbrev pub atom_bytes : ℕ
  atom_bytes = 8 * words_of (get_or graph 1 0)

  abbrev pub node_bytes : ℕ
  node_bytes = 8 * words_of (get_or graph 2 0)

  abbrev pub atom_mask : List ℕ
  atom_mask = words 8 (take atom_bytes masks)

  abbrev pub node_mask : List ℕ
  node_mask = words 8 (drop atom_bytes masks)

  -- 10: a wrong length, in bytes
  unfoldable pub bad_masks : Bool
  bad_masks = not (eqb (length masks) (atom_bytes + node_bytes))

  -- 1 to 9, then 10, then 12. 11 does not arise: the program brings the work area.
  unfoldable pub answer : Answer
  answer = first_refusal (graph_answer edition1 graph ∷ refuse_if 10 bad_masks ∷ absorbed_row (theory_of graph) ∷ [])

-- a refusal's line alone, or both lines
abbrev pub text_by : Answer → List ℕ → List ℕ
text_by a both = cond (eqb a.number 0) both (refused_line a.number a.place)

-- the whole text
unfoldable pub report_text : List ℕ → List ℕ
report_text input =
    let graph = graph_of input in
    let masks = masks_of input in
    text_by (answer graph masks) (lines graph (node_mask graph masks) (atom_mask graph masks))

-- the first r bytes of out are the text, and behind it out is as it was (old). `exact` follows from `within`; both are stated so that a caller who
-- lends those r bytes needs no proof.
pub record Printed (a : Answer) (both old out : List ℕ) (r : ℕ) : Type 0 where
  pub within : r ≤ length out
  pub exact : r ≡ length (take r out)
  pub text : take r out ≡ text_by a both
  pub behind : drop r out ≡ drop r old

-- where the masks of an accepted graph are split: r bytes are the atom mask's, and the rest the node mask's
pub record Split (graph masks : List ℕ) (r : ℕ) : Type 0 where
  pub atoms : r ≡ atom_bytes graph masks
  pub nodes : length masks ≡ r + node_bytes graph masks
  pub atoms_few : r ≤ 128
  pub nodes_few : node_bytes graph masks ≤ 128

abbrev pub ReportedOf : (graph masks old out : List ℕ) (r : ℕ) → Type 0
ReportedOf graph masks old out r = Printed (answer graph masks) (lines graph (node_mask graph masks) (atom_mask graph masks)) old out r

-- what `report` promises: its text is `report_text input`
abbrev pub Reported : (input old out : List ℕ) (r : ℕ) → Type 0
Reported input old out r = ReportedOf (graph_of input) (masks_of input) old out r
