-- With the words behind the queue what their lists say stays.
use mathlib.Core.Path.{◌≡◌, ap, ◌∙◌}
use mathlib.Core.List.{List}
use Prim.Native.Nat.{ℕ, ◌+◌}
use native.Mathlib.Omega.{arith}
use lib.ListN.{drop}
use Rattle.theory.specs.Sets.{Set}
use Rattle.theory.specs.Prefix.{upto}
use Rattle.area.specs.declared.Bases.{Bases}
use Rattle.area.specs.Layout.{Laid}
use Rattle.area.proofs.PartLaws.{behind_more, behind_at}
use Rattle.initialization.specs.Regions.{cone_nodes, fact_rows, Flagged, Prepared}

-- ---- what the lists behind the queue say stays with them

module _ {b : Bases} (laid : Laid b) (w w' : List ℕ) (e : drop b.body_nodes w' ≡ drop b.body_nodes w) where
  pub flagged_kept : {s : Set} → Flagged b w s → Flagged b w' s
  flagged_kept f = record { low = f.low; flag = λ a l. behind_at b.body_nodes w w' e (b.cyclic_atoms + a) (omega arith) ∙ f.flag a l }

  pub cone_same : (nodes : ℕ) → cone_nodes b w' nodes ≡ cone_nodes b w nodes
  cone_same nodes = ap (upto nodes) e

  facts_same : (facts : ℕ) → fact_rows b w' facts ≡ fact_rows b w facts
  facts_same facts = ap (upto facts) (behind_more b.body_nodes w w' e b.fact_rows (omega arith))

  pub prepared_kept : {ws : List ℕ} {nodes facts : ℕ} {marked cone : Set} → Prepared ws b w nodes facts marked cone → Prepared ws b w' nodes facts marked cone
  prepared_kept {nodes = nodes} {facts = facts} p = record {
    flagged = flagged_kept p.flagged;
    nodes_few = p.nodes_few;
    listed = rw (cone_same nodes) p.listed;
    facts_few = p.facts_few;
    stated = rw (facts_same facts) p.stated;
  }
