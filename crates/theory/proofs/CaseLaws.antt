-- The rules' answers on document 01's cases C1 to C12, by computing them.
use mathlib.Core.Path.{refl}
use Rattle.theory.specs.Sets.{any, all, member, filled, any_below, members}
use Rattle.theory.specs.Least.{has, table_from, grow, least}
use Rattle.theory.specs.Walks.{reach_step, reached}
use Rattle.theory.specs.Theory.{joins, absorbed}
use Rattle.theory.specs.Edges.{occurrences, vertices, body_entries, bodies_below, inputs, preds_by, preds, is_body, is_leaf, cone_step, cone, body_cone}
use Rattle.theory.specs.Truth.{holds, truth_in, truth, fires}
use Rattle.theory.specs.Founded.{has_cycle, cyclic, atom_truth, produced, founded_step, founded_among, missing_among, founded, missing}
use Rattle.theory.specs.Words.{kind_of, chain_in, chain, theory_of, bit_at}
use Rattle.theory.specs.Cases.{outcome, case, table, Agrees, Every}

pub cases : Every Agrees table
unfolding Every Agrees table case outcome
    any all member filled any_below members has table_from grow least reach_step reached
    kind_of chain_in chain theory_of bit_at joins absorbed
    occurrences vertices body_entries bodies_below inputs preds_by preds is_body is_leaf cone_step cone body_cone
    holds truth_in truth fires has_cycle cyclic atom_truth produced founded_step founded_among missing_among founded missing
cases =
    ((refl, refl), ((refl, refl), ((refl, refl), ((refl, refl), ((refl, refl), ((refl, refl), ((refl, refl), ((refl, refl), ((refl, refl), ((refl, refl), ((refl, refl), ((refl, refl), ((refl, refl), ((refl, refl), ((refl, refl), tt)))))))))))))))
