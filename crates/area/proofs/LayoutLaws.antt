-- Regions laid out in an area that has room hold the graph (`based`).
use mathlib.Core.Path.{◌≡◌, sym, ap, ◌∙◌}
use mathlib.Core.List.{List}
use Prim.Native.Nat.{ℕ, ◌≤◌}
use native.Mathlib.Omega.{arith}
use lib.ListN.{get_or}
use Rattle.theory.specs.Words.{theory_of}
use Rattle.theory.specs.Accepted.{leaf_entries, head_entries}
use Rattle.area.specs.declared.Bases.{Bases}
use Rattle.area.specs.Layout.{Laid, words_for, entries_in, lay_out, LaidOut, Roomy, Based}

module _ {ws : List ℕ} {words : ℕ} (r : Roomy ws words) where
  -- what each of the two tables has room for
  entries : ℕ
  entries = entries_in words (get_or ws 1 0) (get_or ws 2 0) (get_or ws 3 0)

  entries_fit : words_for (get_or ws 1 0) (get_or ws 2 0) (get_or ws 3 0) entries entries ≤ words
  unfolding entries entries_in
  entries_fit = let l = r.leaves in omega arith

  leaves_fit : leaf_entries (theory_of ws) ≤ entries
  unfolding entries entries_in
  leaves_fit = let l = r.leaves in omega arith

  heads_fit : head_entries (theory_of ws) ≤ entries
  unfolding entries entries_in
  heads_fit = let h = r.heads in omega arith

  pub based : {a n p : ℕ} {b : Bases} → a ≡ get_or ws 1 0 → n ≡ get_or ws 2 0 → p ≡ get_or ws 3 0 → LaidOut a n p (entries_in words a n p) (entries_in words a n p) b → Based ws words b
  unfolding entries
  based {a} {n} {p} {b} ea en ep l = finish (rw (ea, en, ep) at l)
    where
      finish : LaidOut (get_or ws 1 0) (get_or ws 2 0) (get_or ws 3 0) entries entries b → Based ws words b
      finish l = record {
        laid = l.laid;
        atoms = l.atoms_are;
        nodes = l.nodes_are;
        producers = l.producers_are;
        leaves = let h = leaves_fit in let e = l.leaves_are in omega arith;
        heads = let h = heads_fit in let e = l.heads_are in omega arith;
        ends = let h = entries_fit in let e = l.ends in omega arith;
        is = l.is;
      }

room_in : (b : Bases) {a n p k words : ℕ} → b.atoms ≡ a → b.nodes ≡ n → b.producers ≡ p → Laid b → b.end ≤ words → k ≤ b.leaf_entries → b.leaf_entries ≡ b.head_entries → words_for a n p k k ≤ words
room_in b ea en ep l e k same = omega arith

-- where regions are laid out there is room
pub room : {ws : List ℕ} {words : ℕ} {b : Bases} → Based ws words b → Roomy ws words
unfolding lay_out
room {ws} {words} {b} f =
    let l = f.laid in
    let same : b.leaf_entries ≡ b.head_entries = ap (λ (x : Bases). x.leaf_entries) f.is ∙ sym (ap (λ (x : Bases). x.head_entries) f.is) in
    record { leaves = room_in b f.atoms f.nodes f.producers l f.ends f.leaves same; heads = room_in b f.atoms f.nodes f.producers l f.ends (rw same f.heads) same }
