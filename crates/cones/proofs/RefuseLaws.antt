-- Row 12 of the table from the search for its node: it refuses at the node found (`refuse_at`), and passes where none is (`refuse_none`).
use mathlib.Core.List.{List}
use Prim.Native.Nat.{ℕ, ◌<◌}
use native.Mathlib.Omega.{arith}
use Rattle.theory.specs.Theory.{Theory}
use Rattle.theory.specs.Edges.{body_cone, absorbed_node}
use Rattle.refusals.specs.Search.{First}
use Rattle.refusals.proofs.SearchLaws.{row_refuses, row_passes}
use Rattle.area.specs.declared.Bases.{Bases}
use Rattle.std.specs.Prelude.{Ok, Err}
use Rattle.cones.specs.declared.Cone.{Cone}
use Rattle.cones.specs.Cones.{headed, fact_by, Held, body_coned}

module _ (th : Theory) (b : Bases) (w : List ℕ) where
  pub refuse_at : {n : ℕ} → n < th.nodes → First (absorbed_node th) 0 th.nodes n → body_coned th b w (Err (record { node = n }))
  unfolding body_coned
  refuse_at l f = row_refuses (absorbed_node th) 12 0 th.nodes f (omega arith) l

  pub refuse_none : {c : Cone} → Held th (body_cone th) (fact_by th (headed th)) b w c → First (absorbed_node th) 0 th.nodes th.nodes → body_coned th b w (Ok c)
  unfolding body_coned
  refuse_none h none = (h, row_passes (absorbed_node th) 12 0 th.nodes none (omega arith) (omega arith))
