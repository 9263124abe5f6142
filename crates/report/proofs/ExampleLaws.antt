-- The text of document 01's example and of a few inputs at the edges, by computing it.
use mathlib.Core.Path.{◌≡◌, refl}
use mathlib.Core.List.{List, [], ◌∷◌, ◌++◌}
use Prim.Native.Nat.{ℕ, ◌/◌, ◌%◌}
use lib.ListN.{replicate}
use Rattle.theory.specs.Sets.{any, all, member, filled, any_below, members, sum_below}
use Rattle.theory.specs.Least.{has, table_from, grow, least}
use Rattle.theory.specs.Walks.{reach_step, reached}
use Rattle.theory.specs.Theory.{joins, absorbed}
use Rattle.theory.specs.Edges.{occurrences, vertices, body_entries, bodies_below, inputs, preds_by, preds, is_body, is_leaf, cone_step, cone, body_cone}
use Rattle.theory.specs.Truth.{holds, truth_in, truth, fires}
use Rattle.theory.specs.Founded.{has_cycle, cyclic, atom_truth, produced, founded_step, founded_among, missing_among, founded, missing}
use Rattle.theory.specs.Words.{kind_of, chain_in, chain, theory_of, bit_at}
use Rattle.theory.specs.Links.{after, link_after, comes_back}
use Rattle.theory.specs.Cases.{c1, c2, alone}
use Rattle.graph.specs.Kinds.{takes_operand}
use Rattle.refusals.specs.Answer.{refuse_first, first_refusal}
use Rattle.refusals.specs.Refusals.{bad_edition, bad_counts, bad_entries, bad_operand, bad_first, bad_record, bad_body, bad_next, bad_size, graph_rows, graph_answer}
use Rattle.input.specs.Bytes.{little_endian, tabulate}
use Rattle.input.specs.Input.{graph_size, graph_of, masks_of}
use Rattle.text.specs.Text.{digits_in, decimal, spaced}
use Rattle.report.specs.Report.{bad_masks, answer, report_text}

-- 16-bit words as bytes
unfoldable pub in_bytes : List ℕ → List ℕ
in_bytes [] = []
in_bytes (w ∷ l) = w % 256 ∷ w / 256 ∷ in_bytes l

-- a mask of one word, without a cut
unfoldable pub no_cuts : List ℕ
no_cuts = replicate 8 0

pub examples :
    -- C2 without cuts: loops yes, missing 2 0 1
    (report_text ((in_bytes c2 ++ no_cuts ++ no_cuts)) ≡ 108 ∷ 111 ∷ 111 ∷ 112 ∷ 115 ∷ 32 ∷ 121 ∷ 101 ∷ 115 ∷ 10 ∷ 109 ∷ 105 ∷ 115 ∷ 115 ∷ 105 ∷ 110 ∷ 103 ∷ 32 ∷ 50 ∷ 32 ∷ 48 ∷ 32 ∷ 49 ∷ 10 ∷ [])
    -- C1: loops no, missing 0
    × (report_text (in_bytes c1) ≡ 108 ∷ 111 ∷ 111 ∷ 112 ∷ 115 ∷ 32 ∷ 110 ∷ 111 ∷ 10 ∷ 109 ∷ 105 ∷ 115 ∷ 115 ∷ 105 ∷ 110 ∷ 103 ∷ 32 ∷ 48 ∷ 10 ∷ [])
    -- C1 and one more byte: refused 10 0
    × (report_text ((in_bytes c1 ++ (0 ∷ []))) ≡ 114 ∷ 101 ∷ 102 ∷ 117 ∷ 115 ∷ 101 ∷ 100 ∷ 32 ∷ 49 ∷ 48 ∷ 32 ∷ 48 ∷ 10 ∷ [])
    -- C12 without cuts: refused 12 0
    × (report_text ((in_bytes (alone 7) ++ no_cuts ++ no_cuts)) ≡ 114 ∷ 101 ∷ 102 ∷ 117 ∷ 115 ∷ 101 ∷ 100 ∷ 32 ∷ 49 ∷ 50 ∷ 32 ∷ 48 ∷ 10 ∷ [])
    -- nothing: refused 1 0
    × (report_text [] ≡ 114 ∷ 101 ∷ 102 ∷ 117 ∷ 115 ∷ 101 ∷ 100 ∷ 32 ∷ 49 ∷ 32 ∷ 48 ∷ 10 ∷ [])
    -- edition 2 and one byte too many: refused 1 0, since 1 comes before 10
    × (report_text ((in_bytes (2 ∷ 0 ∷ 0 ∷ 0 ∷ 0 ∷ []) ++ (0 ∷ []))) ≡ 114 ∷ 101 ∷ 102 ∷ 117 ∷ 115 ∷ 101 ∷ 100 ∷ 32 ∷ 49 ∷ 32 ∷ 48 ∷ 10 ∷ [])
unfolding report_text graph_size graph_of masks_of bad_masks answer in_bytes no_cuts little_endian tabulate digits_in decimal spaced
    takes_operand refuse_first first_refusal bad_edition bad_counts bad_entries bad_operand bad_first bad_record bad_body bad_next after link_after comes_back bad_size graph_rows graph_answer
    any all member filled any_below members sum_below has table_from grow least reach_step reached
    kind_of chain_in chain theory_of bit_at joins absorbed
    occurrences vertices body_entries bodies_below inputs preds_by preds is_body is_leaf cone_step cone body_cone
    holds truth_in truth fires has_cycle cyclic atom_truth produced founded_step founded_among missing_among founded missing
examples = (refl, refl, refl, refl, refl, refl)
