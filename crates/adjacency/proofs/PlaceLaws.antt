-- An item's edges as edges, and by the rows that they are in: what comes next in one way comes next in the other (`keys_follow`), and what is done
-- in one way is done in the other (`keys_driven`, `edge_driven`).
use mathlib.Core.List.{List, [], ◌∷◌, ◌++◌, append-nil}
use Prim.Native.Nat.{ℕ}
use Rattle.theory.specs.Rows.{Edge, edge, tagged}
use Rattle.theory.specs.Drive.{Follows, Drives}
use Rattle.adjacency.specs.Building.{Placing}

module _ (building : List Edge → List ℕ → ℕ → List Edge → Type 0) (item : ℕ) {q : List ℕ} where
  module _ {keys : List ℕ} where
    pub keys_follow : Follows building q 0 (tagged item keys) → Follows (Placing building item) q 0 keys
    keys_follow f = record { ctx = record { all = f.ctx; after = f.more }; more = []; held = rw append-nil f.held }

    pub keys_driven : {n t : ℕ} {q' : List ℕ} → Drives (Placing building item) n q 0 keys q' t [] → Drives building n q 0 (tagged item keys) q' 0 []
    keys_driven d = record { frame = d.frame; size = d.size; keeps = λ all after h. d.keeps (record { all = all; after = after }) [] (rw append-nil h) }

  module _ {row t : ℕ} where
    pub edge_driven : {n : ℕ} {q' : List ℕ} → Drives building n q 0 (edge row item ∷ []) q' 0 [] → Drives (Placing building item) n q t (row ∷ []) q' t []
    edge_driven d = record { frame = d.frame; size = d.size; keeps = λ c more h. d.keeps c.all (tagged item more ++ c.after) h }
