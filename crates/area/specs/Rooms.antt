-- The work area of each edition has room for every accepted graph.
use Rattle.std.specs.Prelude.{◌≡◌, List, ℕ, ◌+◌, ◌≤◌, get_or}
use Rattle.std.proofs.Common.{arith}
use Rattle.theory.specs.Words.{theory_of}
use Rattle.theory.specs.Accepted.{edition1, edition2, leaf_entries, head_entries, area_of, Accepted}
use Rattle.area.specs.Layout.{words_for, Roomy}

pub edition1_roomy : {ws : List ℕ} {words : ℕ} → Accepted edition1 ws → words ≡ area_of edition1 (theory_of ws) → Roomy ws words
edition1_roomy acc e =
    let x = acc.atoms_few in let y = acc.nodes_few in let z = acc.producers_few in let l = acc.leaf_total in let h = acc.head_total in
    record { leaves = omega arith; heads = omega arith }

wide : (a n p l h : ℕ) → (words_for a n p l l ≤ edition2.area (a + n + p) (l + h)) × (words_for a n p h h ≤ edition2.area (a + n + p) (l + h))
wide a n p l h = (omega arith, omega arith)

pub edition2_roomy : {ws : List ℕ} {words : ℕ} → Accepted edition2 ws → words ≡ area_of edition2 (theory_of ws) → Roomy ws words
unfolding theory_of
edition2_roomy {ws} acc e =
    let room = wide (get_or ws 1 0) (get_or ws 2 0) (get_or ws 3 0) (leaf_entries (theory_of ws)) (head_entries (theory_of ws)) in
    record { leaves = rw e room.0; heads = rw e room.1 }
